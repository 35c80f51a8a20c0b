use Rattle.std.proofs.Common.{◌≡◌, ◌++◌, suc, length, take}
use Rattle.std.specs.List.{flat_map}
use Rattle.jmodel.specs.format.ClassFile.{u2, constant}
use Rattle.class_writer.proofs.writer.put_pool.Given as goal

abbrev pub invariant-loop-entry : goal.invariant-loop-entry
invariant-loop-entry l = l.out ≡ l.fn.out ++ (u2 (suc (length l.pool)) ++ flat_map constant (take l.entry-index l.entry-items))
