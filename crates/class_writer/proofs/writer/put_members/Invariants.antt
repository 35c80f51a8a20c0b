use Rattle.std.proofs.Common.{◌≡◌, ◌++◌, length, take}
use Rattle.std.specs.List.{flat_map}
use Rattle.jmodel.specs.format.ClassFile.{u2, member}
use Rattle.class_writer.proofs.writer.put_members.Given as goal

abbrev pub invariant-loop-m : goal.invariant-loop-m
invariant-loop-m l = l.out ≡ l.fn.out ++ (u2 (length l.list) ++ flat_map member (take l.m-index l.list))
