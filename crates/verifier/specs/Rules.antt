-- What instructions take from the stack and leave there, where that hangs on no local, on no object and on no array.
use Rattle.std.specs.Prelude.{ℕ, ◌+◌, List, [], ◌∷◌, ◌++◌, length, reverse, drop, Option, Some, None, Bool, true, false, ◌&&◌, slice_get, is_some, if◌then◌else◌}
use Rattle.jmodel.specs.declared.typing.VType.{VType}
use Rattle.jmodel.specs.declared.typing.VType.TheVariants.{Int, Long, Second, Null, Ref}
use Rattle.objects.specs.declared.op.Conversion.{Conversion}
use Rattle.objects.specs.declared.op.Conversion.TheVariants.{IntToLong, LongToInt}
use Rattle.objects.specs.declared.op.ContextCall.{ContextCall}
use Rattle.objects.specs.declared.op.ContextCall.TheVariants as call
use Rattle.objects.specs.declared.op.Op.{Op}
use Rattle.objects.specs.declared.op.Op.TheVariants as op
use Rattle.verifier.specs.declared.rule.Want.{Want}
use Rattle.verifier.specs.declared.rule.Want.TheVariants as want
use Rattle.objects.specs.semantics.Program.{Field, Method, Row, Program, method_at, field_at, row_at}
use Rattle.objects.specs.typing.TypeOrder.{object_class, throwable_class, string_class, context_class, name_read, stack_types, is_within}
use Rattle.objects.specs.typing.Typing.{Types, Flow, Leads, Wrong, with_stack, number_types, constant_types, stored_types, results, returns, exits}

-- the types that an instruction takes, the first topmost, those that it leaves in their place, and where it goes on
pub record Rule : Type 0 where
  pub takes : List VType
  pub leaves : List VType
  pub to : List ℕ

abbrev pub rule : List VType → List VType → List ℕ → Option Rule
rule ts ls to = Some (record { takes = ts; leaves = ls; to = to })

-- on to the next instruction
abbrev pub next : ℕ → List ℕ
next pc = (pc + 1) ∷ []

-- the topmost places have types within these
abbrev pub are_taken : Program → List VType → List VType → Bool
are_taken P [] s = true
are_taken P (t ∷ ts) [] = false
are_taken P (t ∷ ts) (u ∷ s) = is_within P u t && are_taken P ts s

abbrev pub ruled : Program → Types → Option Rule → Flow
ruled P h None = Wrong
ruled P h (Some r) = if are_taken P r.takes h.stack then Leads r.to (with_stack h (r.leaves ++ drop (length r.takes) h.stack)) else Wrong

abbrev pub only : Bool → Option Rule → Option Rule
only true r = r
only false r = None

abbrev pub convert_rule : Conversion → ℕ → Option Rule
convert_rule IntToLong pc = rule (Int ∷ []) (Second ∷ Long ∷ []) (next pc)
convert_rule LongToInt pc = rule (Second ∷ Long ∷ []) (Int ∷ []) (next pc)
convert_rule c pc = rule (Int ∷ []) (Int ∷ []) (next pc)

abbrev pub field_rule : Option Field → (Field → Option Rule) → Option Rule
field_rule None f = None
field_rule (Some d) f = f d

abbrev pub method_rule : Option Method → (Method → Option Rule) → Option Rule
method_rule None f = None
method_rule (Some c) f = f c

abbrev pub row_rule : Option Row → (Row → Option Rule) → Option Rule
row_rule None f = None
row_rule (Some r) f = f r

abbrev pub call_rule : Option Method → ℕ → Option Rule
call_rule o pc = method_rule o (λ c. rule (reverse c.parameters) (results c) (next pc))

-- The arguments of a call of the context lie in order, the last topmost.
abbrev pub context_rule : ContextCall → ℕ → Option Rule
context_rule call.Init pc = rule (Int ∷ Int ∷ Ref context_class ∷ []) [] (next pc)
context_rule call.BeforeRead pc = rule (Second ∷ Long ∷ Ref object_class ∷ Ref context_class ∷ []) [] (next pc)
context_rule (call.OnRead t) pc = rule (Second ∷ Long ∷ stored_types t ++ Ref object_class ∷ Ref context_class ∷ []) (stored_types t) (next pc)
context_rule (call.OnWrite t) pc = rule (Second ∷ Long ∷ stored_types t ++ Ref object_class ∷ Ref context_class ∷ []) [] (next pc)
context_rule call.BeforeReadElement pc = rule (Int ∷ Ref object_class ∷ Ref context_class ∷ []) [] (next pc)
context_rule (call.OnReadElement t) pc = rule (Int ∷ stored_types t ++ Ref object_class ∷ Ref context_class ∷ []) (stored_types t) (next pc)
context_rule (call.OnWriteElement t) pc = rule (Int ∷ stored_types t ++ Ref object_class ∷ Ref context_class ∷ []) [] (next pc)
context_rule call.Commit pc = rule (Ref context_class ∷ []) (Int ∷ []) (next pc)
context_rule call.Rollback pc = rule (Ref context_class ∷ []) [] (next pc)

-- that of an instruction that is none of those below
abbrev pub plain_rule : ℕ → Op → Option Rule
plain_rule pc (op.InstanceOf c) = rule (Ref object_class ∷ []) (Int ∷ []) (next pc)
plain_rule pc op.Throw = rule (Ref throwable_class ∷ []) [] []
plain_rule pc op.GetContext = rule [] (Ref context_class ∷ []) (next pc)
plain_rule pc (op.Context c) = context_rule c pc
plain_rule pc o = None

abbrev pub jump_rule : ℕ → Op → Option Rule
jump_rule pc (op.Branch t to) = rule (Int ∷ []) [] ((pc + 1) ∷ to ∷ [])
jump_rule pc (op.BranchInts t to) = rule (Int ∷ Int ∷ []) [] ((pc + 1) ∷ to ∷ [])
jump_rule pc (op.BranchNull b to) = rule (Ref object_class ∷ []) [] ((pc + 1) ∷ to ∷ [])
jump_rule pc (op.BranchReferences b to) = rule (Ref object_class ∷ Ref object_class ∷ []) [] ((pc + 1) ∷ to ∷ [])
jump_rule pc (op.Goto to) = rule [] [] (to ∷ [])
jump_rule pc (op.Switch other cases) = rule (Int ∷ []) [] (exits other cases)
jump_rule pc o = plain_rule pc o

abbrev pub number_rule : ℕ → Op → Option Rule
number_rule pc (op.Binary w b) = rule (number_types w ++ number_types w) (number_types w) (next pc)
number_rule pc (op.Divide w d) = rule (number_types w ++ number_types w) (number_types w) (next pc)
number_rule pc (op.Shift w b) = rule (Int ∷ number_types w) (number_types w) (next pc)
number_rule pc (op.Unary w u) = rule (number_types w) (number_types w) (next pc)
number_rule pc (op.Convert c) = convert_rule c pc
number_rule pc op.CompareLongs = rule (Second ∷ Long ∷ Second ∷ Long ∷ []) (Int ∷ []) (next pc)
number_rule pc o = jump_rule pc o

-- none where there is none, or where what the instruction does hangs on more than the stack's types
abbrev pub rule_of : Program → Method → ℕ → Op → Option Rule
rule_of P k pc (op.Constant v) = rule [] (constant_types v) (next pc)
rule_of P k pc (op.Text i) = only (is_some (slice_get P.texts i)) (rule [] (Ref string_class ∷ []) (next pc))
rule_of P k pc (op.GetStatic i) = field_rule (field_at P i) (λ d. only (is_some d.base) (rule [] (stack_types d.declared) (next pc)))
rule_of P k pc (op.PutStatic i) = field_rule (field_at P i) (λ d. only (is_some d.base) (rule (stack_types d.declared) [] (next pc)))
rule_of P k pc (op.GetField i c) = field_rule (field_at P i) (λ d. rule (Ref d.class ∷ []) (stack_types d.declared) (next pc))
rule_of P k pc (op.InvokeStatic m) = call_rule (method_at P m) pc
rule_of P k pc (op.InvokeVirtual m c) = call_rule (method_at P m) pc
rule_of P k pc (op.InvokeInterface m c) = call_rule (method_at P m) pc
rule_of P k pc (op.NewArray t) = row_rule (row_at P t) (λ r. rule (Int ∷ []) (Ref r.read ∷ []) (next pc))
rule_of P k pc (op.CheckCast c) = rule (Ref object_class ∷ []) (Ref (name_read P c) ∷ []) (next pc)
rule_of P k pc (op.ReturnValue t) = only (returns t k.result) (rule (results k) [] [])
rule_of P k pc o = number_rule pc o

-- the types that rules speak of
abbrev pub want_type : Want → VType
want_type want.Int = Int
want_type want.Long = Long
want_type want.Second = Second
want_type want.Null = Null
want_type want.Object = Ref object_class
want_type want.Throwable = Ref throwable_class
want_type want.Text = Ref string_class
want_type want.Context = Ref context_class
