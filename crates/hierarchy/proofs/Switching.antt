-- The keys of the switches of code ascend.
use Rattle.std.proofs.Common.{◌≡◌, ℕ, ℤ, true, List, [], ◌∷◌, length, pos, ◌+ℤ◌, ◌-ℤ◌, Option, Some, None, refl, ◌∙◌, arith}
use Rattle.std.specs.Prelude.{int_lt, FitsSigned}
use Rattle.std.specs.List.{AllByRecursion}
use Rattle.std.specs.Int.{w32, int_wrapping_add}
use Rattle.std.proofs.lemmas.Int.{ints, wrapping_add_is, int_wrap_fits}
use Rattle.std.proofs.lemmas.Bool.Decides.{nat_tests}
use Rattle.jmodel.specs.declared.instruction.Form.{Form}
use Rattle.jmodel.specs.declared.instruction.Form.TheVariants as form
use Rattle.jmodel.specs.declared.instruction.Operands.{Operands}
use Rattle.jmodel.specs.declared.instruction.Operands.TheVariants.{Nothing, Number, Local, LocalAdd, Pool, Interface, Dimensions, Target, Table, Lookup, Wide}
use Rattle.jmodel.specs.declared.instruction.Instr.{Instr}
use Rattle.jmodel.specs.declared.class_file.Handler.{Handler}
use Rattle.jmodel.specs.format.ClassFile.{Pool as Entries}
use Rattle.jmodel.specs.format.Instruction.{ascend_after, ascend, form_of, IsTable, IsSized, IsSizedAs, IsInstrOver, SpellsInstrs}
use Rattle.objects.specs.linking.Code.{table_cases}
use Rattle.hierarchy.specs.Switches.{IsSwitchOf, AreSwitches}

fits_one : FitsSigned w32 (pos 1)
fits_one = search (arith, ints)

rising : (k : ℤ) (ts : List ℕ) → FitsSigned w32 k → FitsSigned w32 (k +ℤ pos (length ts)) → ascend_after (Some k) (table_cases (int_wrapping_add w32 k (pos 1)) ts) ≡ true
rising k [] f g = refl
rising k (t ∷ ts) f g =
    let one : FitsSigned w32 (k +ℤ pos 1) = grind (arith, ints) in
    let next : int_wrapping_add w32 k (pos 1) ≡ k +ℤ pos 1 = wrapping_add_is w32 k (pos 1) f fits_one ∙ int_wrap_fits w32 (k +ℤ pos 1) one in
    let less : int_lt k (k +ℤ pos 1) ≡ true = grind (arith, ints, nat_tests) in
    let last : FitsSigned w32 (k +ℤ pos 1 +ℤ pos (length ts)) = grind (arith, ints) in
    rw next (rw less (rising (k +ℤ pos 1) ts one last))

table_ascends : (other : ℕ) (low : ℤ) (targets : List ℕ) → IsTable (Table other low targets) → ascend (table_cases low targets) ≡ true
table_ascends other low [] h = refl
table_ascends other low (t ∷ ts) h = rising low ts h.1 (let last : FitsSigned w32 (low +ℤ pos (length (t ∷ ts)) -ℤ pos 1) = h.2 in grind (arith, ints))

of_table : (pc : ℕ) (f : Form) (other : ℕ) (low : ℤ) (targets : List ℕ) → IsSized pc f (Table other low targets) → IsTable (Table other low targets)
of_table pc form.Plain other low targets h = absurd h
of_table pc form.Byte other low targets h = absurd h
of_table pc form.Short other low targets h = absurd h
of_table pc form.ArrayType other low targets h = absurd h
of_table pc form.Local other low targets h = absurd h
of_table pc form.Increment other low targets h = absurd h
of_table pc (form.ShortEntry k) other low targets h = absurd h
of_table pc (form.Entry k) other low targets h = absurd h
of_table pc form.Interface other low targets h = absurd h
of_table pc form.Dimensions other low targets h = absurd h
of_table pc form.Jump other low targets h = absurd h
of_table pc form.FarJump other low targets h = absurd h
of_table pc form.Table other low targets h = h
of_table pc form.Lookup other low targets h = absurd h
of_table pc form.Wide other low targets h = absurd h

of_lookup : (pc : ℕ) (f : Form) (other : ℕ) (pairs : List (ℤ × ℕ)) → IsSized pc f (Lookup other pairs) → ascend pairs ≡ true
of_lookup pc form.Plain other pairs h = absurd h
of_lookup pc form.Byte other pairs h = absurd h
of_lookup pc form.Short other pairs h = absurd h
of_lookup pc form.ArrayType other pairs h = absurd h
of_lookup pc form.Local other pairs h = absurd h
of_lookup pc form.Increment other pairs h = absurd h
of_lookup pc (form.ShortEntry k) other pairs h = absurd h
of_lookup pc (form.Entry k) other pairs h = absurd h
of_lookup pc form.Interface other pairs h = absurd h
of_lookup pc form.Dimensions other pairs h = absurd h
of_lookup pc form.Jump other pairs h = absurd h
of_lookup pc form.FarJump other pairs h = absurd h
of_lookup pc form.Table other pairs h = absurd h
of_lookup pc form.Lookup other pairs h = h.2
of_lookup pc form.Wide other pairs h = absurd h

-- operands of a form are those of a switch whose keys ascend, or of no switch
of_form : (pc : ℕ) (f : Option Form) (o : Operands) → IsSizedAs pc f o → IsSwitchOf o
of_form pc None o h = absurd h
of_form pc (Some f) Nothing h = tt
of_form pc (Some f) (Number n) h = tt
of_form pc (Some f) (Local n) h = tt
of_form pc (Some f) (LocalAdd n add) h = tt
of_form pc (Some f) (Pool i) h = tt
of_form pc (Some f) (Interface i count) h = tt
of_form pc (Some f) (Dimensions i count) h = tt
of_form pc (Some f) (Target t) h = tt
of_form pc (Some f) (Table other low targets) h = table_ascends other low targets (of_table pc f other low targets h)
of_form pc (Some f) (Lookup other pairs) h = of_lookup pc f other pairs h
of_form pc (Some f) (Wide op n add) h = tt

all_switches : (pool : Entries) (is : List Instr) → AllByRecursion (IsInstrOver pool) is → AreSwitches is
all_switches pool [] h = tt
all_switches pool (i ∷ is) h = (of_form i.pc (form_of i.op) i.operands h.0.instr.operands, all_switches pool is h.1)

pub spelled_switches : (pool : Entries) (handlers : List Handler) (code : List ℕ) (is : List Instr) → SpellsInstrs pool handlers code is → AreSwitches is
spelled_switches pool handlers code is h = all_switches pool is h.instrs.each
