use Rattle.std.proofs.Common.{◌≡◌, ℤ, List, ℕ, ◌++◌, subst, OnOk}
use Rattle.std.specs.Int.{w32}
use Rattle.std.specs.List.{flat_map}
use Rattle.std.proofs.lemmas.Int.{to_z-of_z}
use Rattle.jmodel.specs.format.Instruction.{signed, jump, zeros, highest}
use Rattle.bytecode.proofs.Walks.{chained}
use Rattle.bytecode.proofs.encoding.put_jumps.Goals as goal

pub returns : goal.returns
returns c =
    let keys = λ (z : ℤ). signed w32 z ++ (signed w32 (highest z c.args.targets.now) ++ flat_map (jump w32 c.args.pc) c.args.targets.now) in
    let one = chained c.args.out.now (zeros c.args.pc) (jump w32 c.args.pc c.args.other) (keys c.args.low) c.put_padding.new.out c.put_far.new.out c.in_ok-put_padding.ensures c.in_ok-put_far.ensures in
    let put = subst (λ (z : ℤ). OnOk c.put_keys.result (c.put_keys.new.out ≡ c.put_far.new.out ++ keys z)) (to_z-of_z w32 c.args.low c.ranges.low) c.put_keys.ensures in
    subst (λ (l : List ℕ). OnOk c.put_keys.result (c.put_keys.new.out ≡ l)) one put
