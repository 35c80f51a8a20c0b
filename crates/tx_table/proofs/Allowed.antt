-- What each step that takes, ticks, writes or releases asks of its pass.
use Rattle.std.proofs.Common.{◌==◌, ◌≡◌, ◌≢◌, ◌⊎◌, ℕ, suc, ◌+◌, ◌-◌, ◌*◌, ◌%◌, ◌^◌, ◌<◌, ◌≤◌, Bool, true, false, cond, List, [], ◌∷◌, length, get_or, set, sym, refl, ap, ◌∙◌, subst, arith, eq-eqb, ne_eqb}
use mathlib.Core.Option.{none, some}
use mathlib.Core.Logic.{dite}
use native.Mathlib.Decide.{ℕ_discrete}
use lib.ListN.{get_elem?}
use Rattle.atomic_table.specs.Table.{State, Me, step, keeps, stepped, Allows}
use Rattle.jmodel.specs.history.History.{Entry}
use Rattle.tx_table.specs.Book.{Map, lookup, Has, In, Unticked, Ticked, Decided, Book}
use Rattle.tx_table.specs.Rule.{Story, stripe, total}
use Rattle.tx_table.specs.Steps.{IsKept, Unchanged, Moved, Foreign, Takes, Ticks, Decides, Writes_back, Releases, Gives, Finishes}
use prog.Atomic.{either}
use Rattle.std.proofs.Math.Nat.{mod-eq_of_lt}
use Rattle.tx_table.specs.Plays.{Reads, Updates, lost_at, took, tried, gave_up, ticked_up, decided_up, wrote_back, released, finished}
use Rattle.tx_table.proofs.Private.{quietly}
use Rattle.tx_table.proofs.ReadSteps.{lost_mine, unchanged, moved, foreign}
use Rattle.tx_table.proofs.Taking.{takes_kept}
use Rattle.tx_table.proofs.Giving.{gives_kept}
use Rattle.tx_table.proofs.Ticking.{ticks_kept}
use Rattle.tx_table.proofs.Deciding.{decides_kept}
use Rattle.tx_table.proofs.WritingBack.{writes_kept}
use Rattle.tx_table.proofs.Releasing.{releases_kept}
use Rattle.tx_table.proofs.Finishing.{finishes_kept}

-- the clock is far from its end
total_le : (f g : Book → ℕ) (k : ℕ) (views : List Book) → ((j : ℕ) (b : Book) → get_elem? views j ≡ some b → f b ≤ g b * k) → total f views ≤ total g views * k
total_le f g k [] h = omega arith
total_le f g k (x ∷ xs) h = let p = h 0 x refl in let q = total_le f g k xs (λ j b e. h (suc j) b e) in omega arith

module _ {S : Type 0} (key : Story) (slots id : ℕ) (me : Me S Book) where
  pub takes : (j old u a new : ℕ) → j < 4096 → old ≡ 2 * u → me.0.face.stage ≡ Unticked → stripe a ≡ j → new ≡ 2 * me.0.face.number + 1 → ((b y : ℕ) → In (b, y) me.0.reads → stripe b ≡ j → u ≤ me.0.bound) → 0 < me.0.numbers
      → Allows (IsKept key) slots id me (j + 1) (λ n. either (n == old) new n) (Takes a (step slots (j + 1) old new none) me)
  takes j old u a new low is calm same new_is fits some_parts s r _ at small = let n : ℕ = get_or s.words (j + 1) 0 in let hit : Book = took me.0 j old a in let miss : Book = lost_at me.0 a n in let back : j ≡ j + 1 - 1 = omega arith in
      let both : Bool → State S Book = λ b. stepped s (j + 1) (either b new n) id me.1 (cond b hit miss) keeps in let kept : IsKept key (both (n == old)) = dite (ℕ_discrete n old)
      (λ e. subst (λ b. IsKept key (both b)) (sym (eq-eqb n old e)) (subst (λ (k : ℕ). IsKept key record { words = set s.words (j + 1) new; homes = s.homes; views = set s.views id (took me.0 j k a) }) (sym is) (takes_kept key s r id me.0 at j u a new low (e ∙ is) calm same new_is fits some_parts)))
      (λ m. subst (λ b. IsKept key (both b)) (sym (ne_eqb n old m)) (quietly key s r (j + 1) id me.0 miss at refl refl refl refl refl (lost_mine key s r id me.0 at a n) (λ k l. let z : false ≡ true = l in cc z))) in (
        cond (n == old) hit miss,
        keeps,
        tt,
        kept,
        (ap (λ (k : ℕ). let w : Book = tried me.0 k old a n in let z : Me S Book = (w, me.1) in z) back, subst (λ (k : ℕ). Unchanged k me.0 n) back (unchanged key s r id me.0 at j low), subst (λ (k : ℕ). Moved k me.0 n) back (moved key s r id me.0 at j low), subst (λ (k : ℕ). Foreign k me.0 n) back (foreign key s r id me.0 at j low)),
      )

  -- the same, where the address is told
  pub takes_for : (old u a b new : ℕ) → b ≡ a → a % 4096 < 4096 → old ≡ 2 * u → me.0.face.stage ≡ Unticked → new ≡ 2 * me.0.face.number + 1 → ((c y : ℕ) → In (c, y) me.0.reads → stripe c ≡ stripe a → u ≤ me.0.bound) → 0 < me.0.numbers
      → Allows (IsKept key) slots id me (a % 4096 + 1) (λ n. either (n == old) new n) (Takes b (step slots (a % 4096 + 1) old new none) me)
  takes_for old u a b new told low is calm new_is fits some_parts = subst (λ (c : ℕ). Allows (IsKept key) slots id me (a % 4096 + 1) (λ n. either (n == old) new n) (Takes c (step slots (a % 4096 + 1) old new none) me)) (sym told) (takes (a % 4096) old u a new low is calm refl new_is fits some_parts)

  pub ticks : (due : Map ℕ) → me.0.face.stage ≡ Unticked → me.0.live ≡ true → me.0.ticks < 1099511627776 → 0 < me.0.numbers → ((a : ℕ) → Has due a → Has me.0.face.held (stripe a))
      → ((i y : ℕ) → lookup me.0.face.held i ≡ some y → (a : ℕ) × (stripe a ≡ i) × Has due a) → Allows (IsKept key) slots id me 0 (λ n. (n + 1) % 2 ^ 64) (Ticks due (step slots 0 1 0 none) me)
  ticks due calm live room some_parts all_held all_due s r _ at small = let n : ℕ = get_or s.words 0 0 in
      let bound = total_le (λ b. b.ticks) (λ b. b.numbers) 1099511627776 s.views r.counts.spare in
      let e : (n + 1) % 2 ^ 64 ≡ n + 1 = mod-eq_of_lt (omega (arith, bound, r.clock_is, r.counts.numbers)) in
      (ticked_up me.0 (n + 1) due, keeps, tt, subst (λ (x : ℕ). IsKept key (stepped s 0 x id me.1 (ticked_up me.0 (n + 1) due) keeps)) (sym e) (ticks_kept key s r id me.0 at (n + 1) due refl calm live room some_parts all_held all_due), (omega (arith, bound, r.clock_is, r.counts.numbers), (r.each id me.0 at).known, refl))

  pub decides : (e : Entry) (a x : ℕ) → a < length key.words → me.0.face.stage ≡ Ticked → me.0.live ≡ true → lookup me.0.face.due a ≡ some x → Updates key me.0 e
      → ((b y : ℕ) → In (b, y) me.0.reads → In (stripe b) me.0.checked ⊎ Has me.0.face.held (stripe b)) → 0 < me.0.numbers → Allows (IsKept key) slots id me (a + 4097) (λ _. x) (λ _. Decides e (step slots (a + 4097) x 0 none) me x)
  decides e a x inside ticked live due entry safe some_parts s r _ at small = let back : a ≡ a + 4097 - 4097 = omega arith in
      (decided_up me.0 e a, keeps, tt, decides_kept key s r id me.0 at e a x (omega (arith, r.wide, inside)) ticked live due entry safe some_parts, ap (λ (k : ℕ). let z : Me S Book = (decided_up me.0 e k, me.1) in z) back)

  pub writes : (a x : ℕ) → a < length key.words → lookup me.0.face.left a ≡ some x → Allows (IsKept key) slots id me (a + 4097) (λ _. x) (λ _. Writes_back (step slots (a + 4097) x 0 none) me x)
  writes a x inside due s r _ at small = let back : a ≡ a + 4097 - 4097 = omega arith in
      (wrote_back me.0 a, keeps, tt, writes_kept key s r id me.0 at a x (omega (arith, r.wide, inside)) due, ap (λ (k : ℕ). let z : Me S Book = (wrote_back me.0 k, me.1) in z) back)

  pub releases : (j x old : ℕ) → j < 4096 → me.0.face.stage ≡ Decided → ((a y : ℕ) → lookup me.0.face.left a ≡ some y → ⊥) → lookup me.0.face.held j ≡ some old → x ≡ 2 * me.0.face.tick
      → Allows (IsKept key) slots id me (j + 1) (λ _. x) (λ _. Releases (step slots (j + 1) x 0 none) me x)
  releases j x old low decided all held shows s r _ at small = let back : j ≡ j + 1 - 1 = omega arith in
      (released me.0 j, keeps, tt, releases_kept key s r id me.0 at j x old low decided all held shows, ap (λ (k : ℕ). let z : Me S Book = (released me.0 k, me.1) in z) back)

  pub gives : (j old : ℕ) (kept : Bool) → j < 4096 → me.0.face.stage ≢ Decided → lookup me.0.face.held j ≡ some old → (kept ≡ true → (me.0.live ≡ true) × (me.0.face.stage ≡ Unticked))
      → Allows (IsKept key) slots id me (j + 1) (λ _. old) (λ _. Gives kept (step slots (j + 1) old 0 none) me old)
  gives j old kept low undecided held lives s r _ at small = let back : j ≡ j + 1 - 1 = omega arith in
      (gave_up me.0 j kept, keeps, tt, gives_kept key s r id me.0 at j old kept low undecided held lives, ap (λ (k : ℕ). let z : Me S Book = (gave_up me.0 k kept, me.1) in z) back)

  pub finishes : (e : Entry) → me.0.face.stage ≡ Unticked → me.0.live ≡ true → Reads key me.0 e → 0 < me.0.numbers → Allows (IsKept key) slots id me 0 (λ n. n) (Finishes e (step slots 0 0 0 none) me)
  finishes e calm live entry some_parts s r _ at small =
      (finished me.0 e, keeps, tt, finishes_kept key s r id me.0 at e (get_or s.words 0 0) refl calm live entry some_parts, refl)
