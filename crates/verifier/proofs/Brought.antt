-- Types that an instruction leaves are within themselves, where those before it are, and what it brings.
use Rattle.std.proofs.Common.{◌≡◌, ℕ, List, [], ◌∷◌, ◌++◌, Option, Some, None, Bool, true, false, refl, subst, arith}
use Rattle.std.proofs.lemmas.Bool.Decides.{nat_tests}
use Rattle.std.specs.Prelude.{◌&&◌, nat_le, length, slice_get, if◌then◌else◌}
use Rattle.jmodel.specs.declared.typing.VType.{VType}
use Rattle.jmodel.specs.declared.typing.VType.TheVariants.{Int, Long, Second, Null, Ref, Uninit, UninitThis, Top}
use Rattle.objects.specs.declared.op.WordType.{WordType}
use Rattle.objects.specs.declared.op.WordType.TheVariants as word
use Rattle.objects.specs.declared.op.Op.{Op}
use Rattle.objects.specs.declared.op.Op.TheVariants as op
use Rattle.objects.specs.semantics.Program.{Declared, Method, Program}
use Rattle.objects.specs.typing.TypeOrder.{object_class, string_class, context_class, element_class, name_read, stack_types, is_within, IsWithin, AreWithin}
use Rattle.objects.specs.typing.Typing.{Types, Flow, Leads, Wrong, FitsIn, flow, result_types}
use Rattle.verifier.specs.Search.{are_throwable, is_ready}
use Rattle.verifier.specs.Settled.{is_top_itself, is_itself, is_called_itself, builds_itself, IsMarked}
use Rattle.verifier.specs.Visits.{Step, step, step_of, step_in, step_at}
use Rattle.verifier.proofs.Lists.{both}
use Rattle.verifier.proofs.Closed.{IsPlain, Brings, AllOf, all_append}
use Rattle.verifier.proofs.Named.{flow_brings}

module _ (P : Program) where
  abbrev IsItself : VType → Type 0
  IsItself t = IsWithin P t t

  all_itself : (ts : List VType) → AreWithin P ts ts → AllOf IsItself ts
  all_itself [] a = tt
  all_itself (t ∷ ts) a = (a.0, all_itself ts a.1)

  each_itself : (ts : List VType) → AllOf IsItself ts → AreWithin P ts ts
  each_itself [] a = tt
  each_itself (t ∷ ts) a = (a.0, each_itself ts a.1)

  plain_itself : (t : VType) → IsPlain t → IsItself t
  plain_itself Int p = refl
  plain_itself Long p = refl
  plain_itself Second p = refl
  plain_itself Null p = refl
  plain_itself (Ref n) p = absurd p
  plain_itself (Uninit p) q = grind (arith, nat_tests)
  plain_itself UninitThis p = refl
  plain_itself Top p = refl

  -- each is within itself where they lie on top of a stack whose two topmost types are
  abbrev AreOnTop : List VType → Type 0
  AreOnTop ls = (s : List VType) → is_top_itself P (ls ++ s) ≡ true → AllOf IsItself ls

  one : (t : VType) → AreOnTop (t ∷ [])
  one t s e = ((both (is_within P t t) (is_itself P (slice_get s 0)) e).0, tt)

  two : (t u : VType) → AreOnTop (t ∷ u ∷ [])
  two t u s e = let p = both (is_within P t t) (is_within P u u) e in (p.0, (p.1, tt))

  words : (d : Declared) → AreOnTop (stack_types d)
  words d = by d.word
    where
      by : (w : WordType) → AreOnTop (stack_types (record d { word = w }))
      by word.Long = two Second Long
      by word.Reference = one (Ref d.class)
      by w = one Int

  result : (o : Option VType) → AreOnTop (result_types o)
  result None = λ s e. tt
  result (Some Long) = two Second Long
  result (Some t) = one t

  -- what is asked of what an instruction leaves
  abbrev IsLeft : Flow → Type 0
  IsLeft Wrong = Unit {0}
  IsLeft (Leads tos x) = is_top_itself P x.stack ≡ true → AllOf IsItself x.locals × AllOf IsItself x.stack

module _ (P : Program) (k : Method) (pc : ℕ) (o : Op) (at : slice_get k.ops pc ≡ Some o) (builds : builds_itself P k o ≡ true) where
  built : (p : Op) → slice_get k.ops pc ≡ Some p → builds_itself P k p ≡ true
  built p e = let s : o ≡ p = cc (at, e) in subst (λ (o : Op). builds_itself P k o ≡ true) s builds

  brings : Brings P k pc (IsItself P) (AreOnTop P)
  brings = record {
    plain = plain_itself P;
    there = λ ls a s e. a;
    element = λ n e q. one P (Ref (element_class n));
    object = one P (Ref object_class);
    string = one P (Ref string_class);
    context = one P (Ref context_class);
    fields = λ i f e. words P f.declared;
    gives = λ m c e. result P c.result;
    arrays = λ t r e. one P (Ref r.read);
    casts = λ c e. one P (Ref (name_read P c));
    called = λ m c e i.
        let b : is_called_itself P k (Some c) ≡ true = subst (λ (q : Option Method). is_called_itself P k q ≡ true) i (built (op.InvokeSpecial m) e) in
        both (is_within P (Ref k.name.class) (Ref k.name.class)) (is_within P (Ref c.name.class) (Ref c.name.class)) b;
    library = λ c n e. both (is_within P (Ref k.name.class) (Ref k.name.class)) (is_within P (Ref c) (Ref c)) (built (op.InitLibrary c n) e);
  }

  pub left_itself : (h x : Types) (tos : List ℕ) → FitsIn P h h → flow P k pc o h ≡ Leads tos x → is_top_itself P x.stack ≡ true → FitsIn P x x
  left_itself h x tos f e t =
      let a = flow_brings P k pc (IsItself P) (AreOnTop P) brings (IsLeft P) tt (λ tos l ls s b al a d e. (al, all_append (IsItself P) ls s (a s e) d))
      h (all_itself P h.locals f.locals) (all_itself P h.stack f.stack) o at in
      let r = subst (IsLeft P) e a t in
      record { locals = each_itself P x.locals r.0; stack = each_itself P x.stack r.1; built = λ b. b }

-- the marks of a step are right, where the types before it are within themselves
module _ (P : Program) (k : Method) (pc : ℕ) where
  abbrev pub AreRight : Step → Type 0
  AreRight s = IsMarked P s.before × IsMarked P s.left

  by_flow : (o : Op) → slice_get k.ops pc ≡ Some o → (h : Types) → FitsIn P h h → (f : Flow) → flow P k pc o h ≡ f → (s : Step) → step_of P k pc o h f ≡ Some s → AreRight s
  by_flow o at h i Wrong e s is = absurd (let no : ⊥ = cc (is) in no)
  by_flow o at h i (Leads tos x) e s is = go (nat_le (length x.stack) k.max_stack && are_throwable P k.catches pc) is
    where
      right : AreRight (step P k o h tos x)
      right = (λ t. i, λ t. let p = both (builds_itself P k o) (is_top_itself P x.stack) t in left_itself P k pc o at p.0 h x tos i e p.1)

      go : (b : Bool) → (if b then Some (step P k o h tos x) else None) ≡ Some s → AreRight s
      go true is = let e : step P k o h tos x ≡ s = cc (is) in subst AreRight e right
      go false is = absurd (let no : ⊥ = cc (is) in no)

  by_op : (h : Types) → FitsIn P h h → (o : Option Op) → slice_get k.ops pc ≡ o → (s : Step) → step_in P k pc h o ≡ Some s → AreRight s
  by_op h i None at s is = absurd (let no : ⊥ = cc (is) in no)
  by_op h i (Some o) at s is = by_flow o at h i (flow P k pc o h) refl s is

  pub step_right : (o : Option Types) → ((h : Types) → o ≡ Some h → FitsIn P h h) → (s : Step) → step_at P k pc o ≡ Some s → AreRight s
  step_right None i s is = absurd (let no : ⊥ = cc (is) in no)
  step_right (Some h) i s is = go (is_ready k h) is
    where
      go : (b : Bool) → (if b then step_in P k pc h (slice_get k.ops pc) else None) ≡ Some s → AreRight s
      go true is = by_op h (i h refl) (slice_get k.ops pc) refl s is
      go false is = absurd (let no : ⊥ = cc (is) in no)
