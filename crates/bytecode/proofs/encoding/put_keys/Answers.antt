use Rattle.std.proofs.Common.{◌≡◌, subst, List, ℕ, OnOk}
use Rattle.std.specs.Int.{w32}
use Rattle.std.specs.List.{flat_map}
use Rattle.std.proofs.lemmas.Int.{to_z-of_z}
use Rattle.jmodel.specs.format.Instruction.{signed, jump, highest}
use Rattle.bytecode.proofs.Walks.{chained}
use Rattle.bytecode.proofs.encoding.put_keys.Goals as goal

pub returns : goal.returns
returns c =
    let first = c.put_s4.new.out in
    let second = rw (c.highest.ensures, to_z-of_z w32 c.args.low c.ranges.low, to_z-of_z w32 (highest c.args.low c.args.targets.now) c.requires) at c.in_ok-put_s4-2.ensures in
    let one = chained c.args.out.now (signed w32 c.args.low) (signed w32 (highest c.args.low c.args.targets.now)) (flat_map (jump w32 c.args.pc) c.args.targets.now) first c.put_s4-2.new.out (rw (to_z-of_z w32 c.args.low c.ranges.low) at c.in_ok-put_s4.ensures) second in
    subst (λ (l : List ℕ). OnOk c.put_targets.result (c.put_targets.new.out ≡ l)) one c.put_targets.ensures
