-- What the place under a list of places is.
use Rattle.std.proofs.Common.{◌≡◌, ℕ, zero, suc, ◌<◌, List, [], ◌∷◌, ◌++◌, Bool, true, false, Option, Some, None, option_and_then, replicate, refl, sym, ap, arith, ◌∙◌}
use Rattle.jmodel.specs.declared.typing.VType.{VType}
use Rattle.jmodel.specs.declared.typing.VType.TheVariants.{Int, Long, Second, Null, Ref, Uninit, UninitThis, Top}
use Rattle.std.specs.Prelude.{◌||◌}
use Rattle.std.proofs.lemmas.List.Folds.{list_any-append}
use Rattle.type_lists.specs.Named.{are_named, is_named}
use Rattle.type_lists.specs.Stacks.{is_stack_under, next_under, some_and, under_all}

then_both : (o : Option Bool) (xs ys : List VType) → ((v : Bool) → option_and_then (λ (w : Bool). under_all w ys) (under_all v xs) ≡ under_all v (xs ++ ys))
    → option_and_then (λ (w : Bool). under_all w ys) (option_and_then (λ (v : Bool). under_all v xs) o) ≡ option_and_then (λ (v : Bool). under_all v (xs ++ ys)) o
then_both None xs ys f = refl
then_both (Some v) xs ys f = f v

-- of two lists, one behind another
pub both_under : (u : Bool) (xs ys : List VType) → option_and_then (λ (v : Bool). under_all v ys) (under_all u xs) ≡ under_all u (xs ++ ys)
both_under u [] ys = refl
both_under u (x ∷ xs) ys = then_both (next_under u x) xs ys (λ v. both_under v xs ys)

-- the same of what is known of each
pub fork_under : (u : Bool) (xs ys : List VType) (o r : Option Bool) → o ≡ under_all u xs → r ≡ option_and_then (λ (v : Bool). under_all v ys) o → r ≡ under_all u (xs ++ ys)
fork_under u xs ys o r e f = f ∙ ap (option_and_then (λ (v : Bool). under_all v ys)) e ∙ both_under u xs ys

some_both : (o : Option Bool) (xs s : List VType) → ((v : Bool) → some_and (under_all v xs) (λ (w : Bool). is_stack_under w s) ≡ is_stack_under v (xs ++ s))
    → some_and (option_and_then (λ (v : Bool). under_all v xs) o) (λ (w : Bool). is_stack_under w s) ≡ some_and o (λ (v : Bool). is_stack_under v (xs ++ s))
some_both None xs s f = refl
some_both (Some v) xs s f = f v

-- of a part on top of a stack
pub stack_parts : (u : Bool) (xs s : List VType) → some_and (under_all u xs) (λ (v : Bool). is_stack_under v s) ≡ is_stack_under u (xs ++ s)
stack_parts u [] s = refl
stack_parts u (x ∷ xs) s = some_both (next_under u x) xs s (λ v. stack_parts v xs s)

-- the same of what is known of the part
pub over_under : (u : Bool) (xs s : List VType) (o : Option Bool) (r : Bool) → o ≡ under_all u xs → r ≡ some_and o (λ (v : Bool). is_stack_under v s) → r ≡ is_stack_under u (xs ++ s)
over_under u xs s o r e f = f ∙ ap (λ (o : Option Bool). some_and o (λ (v : Bool). is_stack_under v s)) e ∙ stack_parts u xs s

-- under one place
pub one_under : (n : ℕ) (u v : Bool) (t : VType) → next_under u t ≡ Some v → n ≡ 1 → under_all u (replicate n t) ≡ Some v
one_under n u v t e f = rw (f, e) refl

-- the same place under each of a run
pub same_under : (n : ℕ) (u : Bool) (t : VType) → next_under u t ≡ Some u → under_all u (replicate n t) ≡ Some u
same_under zero u t e = refl
same_under (suc n) u t e = rw e (same_under n u t e)

pub none_under : (n : ℕ) (u : Bool) (t : VType) → 0 < n → next_under u t ≡ None → under_all u (replicate n t) ≡ None
none_under zero u t h e = absurd (omega (arith, h))
none_under (suc n) u t h e = rw e refl

-- no place under two halves of longs
torn : (n : ℕ) (u v : Bool) (t : VType) → next_under u t ≡ Some v → (v ≡ u → ⊥) → under_all u (replicate (suc (suc n)) t) ≡ None
torn n false v Second e f = refl
torn n true v Long e f = refl
torn n true v Int e f = cc
torn n true v Second e f = cc
torn n true v Null e f = cc
torn n true v (Ref m) e f = cc
torn n true v (Uninit p) e f = cc
torn n true v UninitThis e f = cc
torn n true v Top e f = cc
torn n false v Long e f = cc
torn n false v Top e f = cc
torn n false v Int e f = absurd (f cc)
torn n false v Null e f = absurd (f cc)
torn n false v (Ref m) e f = absurd (f cc)
torn n false v (Uninit p) e f = absurd (f cc)
torn n false v UninitThis e f = absurd (f cc)

pub torn_under : (n : ℕ) (u v : Bool) (t : VType) → 0 < n → (n ≡ 1 → ⊥) → next_under u t ≡ Some v → (v ≡ u → ⊥) → under_all u (replicate n t) ≡ None
torn_under zero u v t h k e f = absurd (omega (arith, h))
torn_under (suc zero) u v t h k e f = absurd (k refl)
torn_under (suc (suc n)) u v t h k e f = torn n u v t e f

-- whether a part on top of a stack, or the stack, has a name
pub named_part : (xs s : List VType) (b : Bool) → b ≡ true → b ≡ are_named xs → b ≡ are_named (xs ++ s)
named_part xs s b e f = e ∙ sym (list_any-append is_named xs s ∙ ap (λ (x : Bool). x || are_named s) (sym f ∙ e))

pub named_under : (xs s : List VType) (b r : Bool) → b ≡ false → b ≡ are_named xs → r ≡ are_named s → r ≡ are_named (xs ++ s)
named_under xs s b r e f g = g ∙ sym (list_any-append is_named xs s ∙ ap (λ (x : Bool). x || are_named s) (sym f ∙ e))
