use mir.Val.{SFits}
use Rattle.std.proofs.Common.{◌≡◌, ℤ, ℕ, List, Some, true, ap, ◌∙◌, arith, rules}
use Rattle.std.specs.Int.{w16, w32, cast_signed, cast_unsigned}
use Rattle.std.proofs.lemmas.Int.{to_z-of_z}
use Rattle.jmodel.specs.format.Instruction.{ascend}
use Rattle.objects.specs.declared.op.Op.TheVariants.{Increment}
use Rattle.objects.specs.linking.Code.{table_cases}
use Rattle.objects.specs.linking.Decoding.{number_op, wide_op}
use Rattle.linking.proofs.meaning.meaning.Goals as goal

pub returns-in-Nothing : goal.returns-in-Nothing
returns-in-Nothing c = rw c.in-Nothing.is c.simple_op.ensures

pub returns-in-Number : goal.returns-in-Number
returns-in-Number c =
    let fits : SFits w32 c.in-Number.n = search rules in
    rw c.in-Number.is (c.number_op.ensures ∙ ap (number_op c.args.symbols.now c.args.opcode) (to_z-of_z w32 c.in-Number.n fits))

pub returns-in-Local : goal.returns-in-Local
returns-in-Local c = rw c.in-Local.is c.local_op.ensures

pub returns-in-Pool : goal.returns-in-Pool
returns-in-Pool c = rw c.in-Pool.is c.pool_op.ensures

pub returns-in-Interface : goal.returns-in-Interface
returns-in-Interface c = rw c.in-Interface.is c.pool_op-in-Interface.ensures

pub returns-in-Target : goal.returns-in-Target
returns-in-Target c = rw c.in-Target.is c.jump_op.ensures

pub returns-in-Wide : goal.returns-in-Wide
returns-in-Wide c =
    let fits : SFits w16 c.in-Wide.add = search rules in
    rw c.in-Wide.is (c.wide_op.ensures ∙ ap (wide_op c.in-Wide.op c.in-Wide.local) (to_z-of_z w16 c.in-Wide.add fits))

pub returns-in-LocalAdd : goal.returns-in-LocalAdd
returns-in-LocalAdd c =
    let add = c.in-LocalAdd.add in
    let fits : SFits w16 add = search rules in
    let wide : SFits w32 add = record { sfits = omega (arith, fits.sfits) } in
    let same = ap (λ (z : ℤ). cast_signed w32 (cast_unsigned w32 z)) (to_z-of_z w16 add fits) ∙ to_z-of_z w32 add wide in
    rw c.in-LocalAdd.is (ap (λ (z : ℤ). Some (Increment c.in-LocalAdd.n z)) same)

pub switch_op-requires : goal.switch_op-requires
switch_op-requires c =
    let fits : SFits w32 c.in-Table.low = search rules in
    let cases = c.as_slice-in-Table.ensures.value ∙ c.in_ok-cases-in-Table.ensures ∙ ap (λ (l : List ℕ). table_cases (cast_signed w32 (cast_unsigned w32 c.in-Table.low)) l) c.as_slice.ensures
    ∙ ap (λ (key : ℤ). table_cases key c.in-Table.targets) (to_z-of_z w32 c.in-Table.low fits) in
    let rising : ascend (table_cases c.in-Table.low c.in-Table.targets) ≡ true = rw c.in-Table.is at c.requires in
    ap ascend cases ∙ rising

pub switch_op-requires-in-Lookup : goal.switch_op-requires-in-Lookup
switch_op-requires-in-Lookup c =
    let rising : ascend c.in-Lookup.pairs ≡ true = rw c.in-Lookup.is at c.requires in
    ap ascend c.as_slice-in-Lookup.ensures ∙ rising
