-- Stacks of frames.
use Rattle.std.proofs.Common.{◌≡◌, ◌≤◌, List, [], ◌∷◌, length, Option, Some, None, Bool, true, false, refl, arith}
use Rattle.std.proofs.lemmas.Bool.Decides.{nat_tests}
use Rattle.std.specs.Prelude.{nat_le}
use Rattle.jmodel.specs.declared.typing.VType.{VType}
use Rattle.jmodel.specs.declared.typing.VType.TheVariants.{Int, Long, Second, Null, Ref, Uninit, UninitThis, Top}
use Rattle.objects.specs.semantics.Program.{Method, Program}
use Rattle.objects.specs.typing.TypeOrder.{IsStack, IsStackUnder, IsWithin, AreWithin}
use Rattle.objects.specs.typing.Typing.{Types, FitsIn}
use Rattle.verifier.specs.Search.{some_and, next_under, is_stack_under, is_ready}
use Rattle.verifier.proofs.Lists.{both, and_true, same_length}

pub to_stack : (b : Bool) (s : List VType) → is_stack_under b s ≡ true → IsStackUnder b s
to_stack false [] e = tt
to_stack false (Int ∷ s) e = to_stack false s e
to_stack false (Null ∷ s) e = to_stack false s e
to_stack false (Ref n ∷ s) e = to_stack false s e
to_stack false (Uninit p ∷ s) e = to_stack false s e
to_stack false (UninitThis ∷ s) e = to_stack false s e
to_stack false (Second ∷ s) e = to_stack true s e
to_stack false (Long ∷ s) e = cc
to_stack false (Top ∷ s) e = cc
to_stack true (Long ∷ s) e = to_stack false s e
to_stack true s e = cc

pub of_stack : (b : Bool) (s : List VType) → IsStackUnder b s → is_stack_under b s ≡ true
of_stack false [] h = refl
of_stack false (Int ∷ s) h = of_stack false s h
of_stack false (Null ∷ s) h = of_stack false s h
of_stack false (Ref n ∷ s) h = of_stack false s h
of_stack false (Uninit p ∷ s) h = of_stack false s h
of_stack false (UninitThis ∷ s) h = of_stack false s h
of_stack false (Second ∷ s) h = of_stack true s h
of_stack false (Long ∷ s) h = absurd h
of_stack false (Top ∷ s) h = absurd h
of_stack true (Long ∷ s) h = of_stack false s h
of_stack true s h = absurd h

module _ (P : Program) where
  next_down : (b : Bool) (u t : VType) (c : Bool) → IsWithin P t u → next_under b u ≡ Some c → next_under b t ≡ Some c
  next_down false Int Int c a e = e
  next_down false Null Null c a e = e
  next_down false (Ref n) Null c a e = e
  next_down false (Ref n) (Ref m) c a e = e
  next_down false (Uninit p) (Uninit q) c a e = e
  next_down false UninitThis UninitThis c a e = e
  next_down false Second Second c a e = e
  next_down true Long Long c a e = e
  next_down false Top t c a e = cc
  next_down false Long t c a e = cc
  next_down true u t c a e = cc
  next_down b u t c a e = cc

  -- what is within a stack is one
  pub stack_down : (b : Bool) (s t : List VType) → AreWithin P s t → is_stack_under b t ≡ true → is_stack_under b s ≡ true
  stack_down b [] [] a e = e
  stack_down b [] (u ∷ r) a e = absurd a
  stack_down b (t ∷ s) [] a e = absurd a
  stack_down b (t ∷ s) (u ∷ r) a e = go (λ c. stack_down c s r a.1) (next_under b u) refl e
    where
      go : ((c : Bool) → is_stack_under c r ≡ true → is_stack_under c s ≡ true) → (o : Option Bool) → next_under b u ≡ o → some_and o (λ c. is_stack_under c r) ≡ true → is_stack_under b (t ∷ s) ≡ true
      go more None f e = cc
      go more (Some c) f e = let n = next_down b u t c a.0 f in rw n (more c e)

  pub of_ready : (k : Method) (h g : Types) → FitsIn P h g → length g.stack ≤ k.max_stack → IsStack g.stack → is_ready k h ≡ true
  of_ready k h g f r s =
      let n = same_length P h.stack g.stack f.stack in
      let r' : length h.stack ≤ k.max_stack = omega arith in
      let a : nat_le (length h.stack) k.max_stack ≡ true = grind (arith, nat_tests) in
      and_true (nat_le (length h.stack) k.max_stack) (is_stack_under false h.stack) a (stack_down false h.stack g.stack f.stack (of_stack false g.stack s))

pub to_ready : (k : Method) (h : Types) → is_ready k h ≡ true → (length h.stack ≤ k.max_stack) × IsStack h.stack
to_ready k h e =
    let p = both (nat_le (length h.stack) k.max_stack) (is_stack_under false h.stack) e in
    let a = p.0 in
    (grind (arith, nat_tests), to_stack false h.stack p.1)
