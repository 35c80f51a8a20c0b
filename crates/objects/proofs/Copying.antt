-- What the proofs of duplicates' typings use of the copies of locals.
use Rattle.std.proofs.Common.{◌≡◌, ℕ, suc, ◌+◌, ◌<◌, ◌≤◌, List, length, map, Some, Bool, true, false, refl, sym, ap, subst, ◌∙◌, arith, ⊎_elim}
use Rattle.std.specs.Prelude.{slice_get, slice_set}
use Rattle.std.proofs.lemmas.Bool.{cases_lt}
use Rattle.jmodel.specs.declared.typing.VType.{VType}
use Rattle.jmodel.specs.declared.typing.VType.TheVariants.{Long, Second, Ref, Top}
use Rattle.objects.specs.semantics.Program.{Program}
use Rattle.objects.specs.typing.TypeOrder.{IsWithin, AreWithin, IsLocals}
use Rattle.objects.specs.typing.Typing.{freed, become, is_uninit}
use Rattle.objects.specs.rewriting.Rewriting.{moved, moved_long, more_locals}
use Rattle.objects.proofs.Heap.{one_or}
use Rattle.objects.proofs.Agreeing.{IsOneKind}
use Rattle.objects.proofs.Places.{get_map}
use Rattle.objects.proofs.CopiedLocals.{context, one_plain}
use Rattle.objects.proofs.CopiedLongs.{moved_low, moved_high}
use Rattle.objects.proofs.CopiedStores.{with_copies, copies_length, copies_locals, copies_plain, copies_context, copies_long, copies_within, copies_store, stray_place, long_place}
use Rattle.objects.proofs.PartedStores.{copies_store_long}
use Rattle.objects.proofs.MovedTypes.{named, all_named, named_one, map_set, map_long, all_within, all_locals, all_freed, all_become, IsBuilt, IsUnbuilt, copies_become}

-- Copies of the types of n locals, where the context stands at p: what is known of a local, and what is left where one is written.
pub record Copying (P : Program) (at : ℕ → ℕ) (p n : ℕ) (s : Bool) (copy : List VType → List VType) : Type 0 where
  pub within : (ls ms : List VType) → AreWithin P ls ms → AreWithin P (copy ls) (copy ms)
  pub one : (ls : List VType) (i : ℕ) (t : VType) → slice_get ls i ≡ Some t → IsOneKind t → slice_get (copy ls) (moved p i) ≡ Some (named at t)
  pub long : (ls : List VType) → length ls ≡ n → (i : ℕ) → (suc i ≡ p → s ≡ true) → slice_get ls i ≡ Some Long → slice_get ls (i + 1) ≡ Some Second
      → (slice_get (copy ls) (moved_long p n i) ≡ Some Long) × (slice_get (copy ls) (moved_long p n i + 1) ≡ Some Second)
  pub context_there : (ls : List VType) → length ls ≡ n → slice_get (copy ls) p ≡ Some context
  pub size : (ls : List VType) → length ls ≡ n → length (copy ls) ≡ n + more_locals s
  pub locals : (ls : List VType) → IsLocals ls → IsLocals (copy ls)
  pub room : (i : ℕ) → i < n → moved p i < n + more_locals s
  pub long_room : (i : ℕ) → i + 1 < n → (suc i ≡ p → s ≡ true) → moved_long p n i + 1 < n + more_locals s
  pub store : (ls : List VType) → length ls ≡ n → IsLocals ls → (i : ℕ) → i < n → (t : VType) → IsOneKind t → (ms : List VType) → AreWithin P (slice_set (freed i ls) i t) ms
      → AreWithin P (slice_set (freed (moved p i) (copy ls)) (moved p i) (named at t)) (copy ms)
  pub store_long : (ls : List VType) → length ls ≡ n → IsLocals ls → (i : ℕ) → i + 1 < n → (suc i ≡ p → s ≡ true) → (ms : List VType)
      → AreWithin P (slice_set (slice_set (freed (i + 1) (freed i ls)) i Long) (i + 1) Second) ms
      → AreWithin P (slice_set (slice_set (freed (moved_long p n i + 1) (freed (moved_long p n i) (copy ls))) (moved_long p n i) Long) (moved_long p n i + 1) Second) (copy ms)
  pub built : (u v t : VType) → IsUnbuilt v → IsBuilt t → ((x : VType) → is_uninit v (named at x) ≡ is_uninit u x) → (ls ms : List VType) → AreWithin P (map (become u t) ls) ms → AreWithin P (map (become v t) (copy ls)) (copy ms)

module _ (P : Program) (con : IsWithin P context context) (at : ℕ → ℕ) (p n : ℕ) (room : p ≤ n) (s : Bool) where
  abbrev pub copies_of : List VType → List VType
  copies_of ls = with_copies s p (all_named at ls)

  many : (ls : List VType) → length ls ≡ n → length (all_named at ls) ≡ n
  many ls e = map_long (named at) ls ∙ e

  enough : (ls : List VType) → length ls ≡ n → p ≤ length (all_named at ls)
  enough ls e = let m = many ls e in omega (arith, m, room)

  one_more : (s : Bool) → 1 ≤ more_locals s
  one_more true = omega arith
  one_more false = omega arith

  place : (i : ℕ) → moved p i ≤ i + 1
  place i = ⊎_elim (λ (a : i < p). let e = moved_low p i a in omega (arith, e)) (λ (b : p ≤ i). let e = moved_high p i b in omega (arith, e)) (cases_lt i p)

  place_of_long : (i : ℕ) → i + 1 < n → (suc i ≡ p → s ≡ true) → moved_long p n i + 1 < n + more_locals s
  place_of_long i lt stray = ⊎_elim
      (λ (e : suc i ≡ p). let here = stray_place p n i e in let three : more_locals s ≡ 3 = ap more_locals (stray e) in omega (arith, here, three))
      (λ ne. let here = long_place p n i ne in let below = place i in let some = one_more s in omega (arith, here, below, some, lt))
      (one_or (suc i) p)

  fixed : (t : VType) → IsBuilt t → named at t ≡ t
  fixed Top b = refl
  fixed (Ref m) b = refl
  fixed t b = absurd b

  pub copying : Copying P at p n s copies_of
  copying = record {
    within = λ ls ms w. copies_within P con s p (all_named at ls) (all_named at ms) (all_within at P ls ms w);
    one = λ ls i t e k. copies_plain s p (all_named at ls) i (named at t) (get_map (named at) ls i t e) (one_plain (named at t) (named_one at t k));
    long = λ ls e i stray first second.
        let z : i + 1 ≡ suc i = omega arith in
        copies_long s p n (all_named at ls) (many ls e) room i stray (get_map (named at) ls i Long first) (get_map (named at) ls (suc i) Second (ap (slice_get ls) (sym z) ∙ second));
    context_there = λ ls e. copies_context s p (all_named at ls) (enough ls e);
    size = λ ls e. copies_length s p (all_named at ls) (enough ls e) ∙ ap (λ (x : ℕ). x + more_locals s) (many ls e);
    locals = λ ls h. copies_locals s p (all_named at ls) (all_locals at false ls h);
    room = λ i lt. let below = place i in let some = one_more s in omega (arith, below, some, lt);
    long_room = place_of_long;
    store = λ ls e h i lt t k ms w.
        let m = many ls e in
        let given : AreWithin P (slice_set (freed i (all_named at ls)) i (named at t)) (all_named at ms) =
        subst (λ (l : List VType). AreWithin P l (all_named at ms)) (map_set (named at) (freed i ls) i t ∙ ap (λ (l : List VType). slice_set l i (named at t)) (all_freed at i ls)) (all_within at P _ ms w) in
        copies_store P con s p (all_named at ls) (enough ls e) (all_locals at false ls h) i (omega (arith, lt, m)) (named at t) (one_plain (named at t) (named_one at t k)) (all_named at ms) given;
    store_long = λ ls e h i lt stray ms w.
        let shape : all_named at (slice_set (slice_set (freed (i + 1) (freed i ls)) i Long) (i + 1) Second) ≡ slice_set (slice_set (freed (i + 1) (freed i (all_named at ls))) i Long) (i + 1) Second =
        map_set (named at) (slice_set (freed (i + 1) (freed i ls)) i Long) (i + 1) Second
        ∙ ap (λ (l : List VType). slice_set l (i + 1) Second) (map_set (named at) (freed (i + 1) (freed i ls)) i Long)
        ∙ ap (λ (l : List VType). slice_set (slice_set l i Long) (i + 1) Second) (all_freed at (i + 1) (freed i ls))
        ∙ ap (λ (l : List VType). slice_set (slice_set (freed (i + 1) l) i Long) (i + 1) Second) (all_freed at i ls) in
        let given = subst (λ (l : List VType). AreWithin P l (all_named at ms)) shape (all_within at P _ ms w) in
        copies_store_long P con s p n (all_named at ls) (many ls e) room (all_locals at false ls h) i lt stray (all_named at ms) given;
    built = λ u v t unbuilt is tests ls ms w.
        let shape : with_copies s p (all_named at (map (become u t) ls)) ≡ map (become v t) (copies_of ls) =
        ap (with_copies s p) (sym (all_become at u v t (fixed t is) tests ls)) ∙ sym (copies_become v t unbuilt is s p (all_named at ls)) in
        subst (λ (l : List VType). AreWithin P l (copies_of ms)) shape (copies_within P con s p _ (all_named at ms) (all_within at P _ ms w));
  }
