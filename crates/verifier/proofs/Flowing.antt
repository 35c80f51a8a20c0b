-- What instructions do that go by an object's class, and those that have a rule.
use Rattle.std.proofs.Common.{◌≡◌, ℕ, Bool, true, false, refl, sym}
use Rattle.objects.specs.declared.op.Op.{Op}
use Rattle.objects.specs.declared.op.Op.TheVariants as op
use Rattle.objects.specs.semantics.Program.{Method, Program}
use Rattle.objects.specs.typing.Typing.{Types, flow}
use Rattle.verifier.specs.Flows.{object_flow}
use Rattle.verifier.proofs.Ruled.{rule_is}

-- instructions that go by locals, by the stack's shape, by an array, or return
abbrev pub is_shaped : Op → Bool
is_shaped (op.Load s i) = true
is_shaped (op.Store s i) = true
is_shaped (op.Stack r) = true
is_shaped (op.Increment i n) = true
is_shaped op.ArrayLength = true
is_shaped (op.LoadElement t) = true
is_shaped (op.StoreElement t) = true
is_shaped op.Return = true
is_shaped o = false

module _ (P : Program) (k : Method) (pc : ℕ) (h : Types) where
  -- the others do what they do by an object's class or by their rule
  pub object_is : (o : Op) → is_shaped o ≡ false → object_flow P k pc o h ≡ flow P k pc o h
  object_is (op.Load s i) e = absurd (let no : ⊥ = cc (e) in no)
  object_is (op.Store s i) e = absurd (let no : ⊥ = cc (e) in no)
  object_is (op.Stack r) e = absurd (let no : ⊥ = cc (e) in no)
  object_is (op.Increment i n) e = absurd (let no : ⊥ = cc (e) in no)
  object_is op.ArrayLength e = absurd (let no : ⊥ = cc (e) in no)
  object_is (op.LoadElement t) e = absurd (let no : ⊥ = cc (e) in no)
  object_is (op.StoreElement t) e = absurd (let no : ⊥ = cc (e) in no)
  object_is op.Return e = absurd (let no : ⊥ = cc (e) in no)
  object_is (op.GetField n c) e = refl
  object_is (op.PutField n c) e = refl
  object_is (op.InvokeSpecial m) e = refl
  object_is (op.InvokeVirtual m c) e = refl
  object_is (op.InitLibrary c n) e = refl
  object_is (op.New t) e = refl
  object_is o e = sym (rule_is P k pc h o refl)
