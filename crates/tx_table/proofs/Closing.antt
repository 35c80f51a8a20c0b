-- What a pass learns that holds every number at the end.
use Rattle.std.proofs.Common.{◌++◌, ◌≡◌, ◌≢◌, ℕ, zero, suc, ◌+◌, ◌*◌, ◌≤◌, cond, List, [], ◌∷◌, get_or, sym, refl, ap, ◌∙◌, inl, inr, ⊎_elim, arith}
use mathlib.Core.Option.{Option, none, some, some-injective, some-ne-none}
use mathlib.Core.Logic.{dite}
use native.Mathlib.Decide.{ℕ_discrete}
use lib.ListN.{get_elem?}
use Rattle.atomic_table.specs.Table.{State}
use Rattle.jmodel.specs.history.History.{Entry}
use Rattle.tx_table.specs.Book.{lookup, Has, In, Region, Book}
use Rattle.tx_table.specs.Rule.{Story, used_at, start, stripe, wrote, region_after, total, weigh, face_of, faces, Ends}
use Rattle.tx_table.specs.Steps.{IsKept}
use Rattle.std.proofs.Math.Dec.{ltb}
use Rattle.std.proofs.lemmas.Bool.{ltb-true}
use Rattle.tx_table.proofs.Values.{value_same}
use Rattle.tx_table.proofs.Private.{face_at, two_le}
use Rattle.tx_table.proofs.Order.{bool_or, comes}
use Rattle.tx_table.proofs.Sorting.{insert, insert_under, insert_over, insert_nil, history, sorted_in}
use Rattle.tx_table.proofs.Histories.{oldest, in_oldest, memory_is, used_is, is_legal, regions_kept}
use Rattle.tx_table.proofs.Snapshots.{good, agree, memory_value, base_le_at}

no_total : (f : Book → ℕ) (views : List Book) → ((k : ℕ) (w : Book) → get_elem? views k ≡ some w → f w ≡ 0) → total f views ≡ 0
no_total f [] h = refl
no_total f (x ∷ xs) h = let p = h 0 x refl in let q = no_total f xs (λ k w e. h (suc k) w e) in omega arith

total_only : (f : Book → ℕ) (views : List Book) (j : ℕ) (v : Book) → get_elem? views j ≡ some v → ((k : ℕ) (w : Book) → k ≢ j → get_elem? views k ≡ some w → f w ≡ 0) → total f views ≡ f v
total_only f [] j v e h = absurd (some-ne-none v (sym e))
total_only f (x ∷ xs) zero v e h = let p = ap f (some-injective x v e) in let q = no_total f xs (λ k w g. h (suc k) w (λ m. absurd (omega arith)) g) in omega arith
total_only f (x ∷ xs) (suc j) v e h = let p = h 0 x (λ m. absurd (omega arith)) refl in let q = total_only f xs j v e (λ k w n g. h (suc k) w (λ m. n (omega arith)) g) in omega arith

weigh_insert : (h : Entry → ℕ) (e : Entry) (X : List Entry) → weigh h (insert e X) ≡ h e + weigh h X
weigh_insert h e [] = ap (weigh h) (insert_nil e)
weigh_insert h e (x ∷ xs) = let p = weigh_insert h e xs in ⊎_elim
    (λ u. let q = ap (weigh h) (insert_under e x xs u) in omega arith)
    (λ o. let q = ap (weigh h) (insert_over e x xs o) in omega arith) (bool_or (comes e x))

pub weigh_history : (h : Entry → ℕ) (b : ℕ) (H : List Entry) → ((e : Entry) → In e H → e.stamp.at ≤ b) → weigh h (history b H) ≡ weigh h H
weigh_history h b [] l = refl
weigh_history h b (e ∷ es) l = let p = weigh_history h b es (λ q i. l q (inr i)) in let q = weigh_insert h e (history b es) in ⊎_elim
    (λ t. let m = ltb-true b e.stamp.at t in let k = l e (inl refl) in absurd (omega arith))
    (λ t. let m : weigh h (history b (e ∷ es)) ≡ weigh h (insert e (history b es)) = ap (λ c. weigh h (cond c (history b es) (insert e (history b es)))) t in omega arith) (bool_or (ltb b e.stamp.at))

weigh_snoc : (h : Entry → ℕ) (X : List Entry) (e : Entry) → weigh h (X ++ e ∷ []) ≡ weigh h X + h e
weigh_snoc h [] e = omega arith
weigh_snoc h (x ∷ xs) e = let p = weigh_snoc h xs e in omega arith

pub weigh_oldest : (h : Entry → ℕ) (X : List Entry) → weigh h (oldest X) ≡ weigh h X
weigh_oldest h [] = refl
weigh_oldest h (e ∷ es) = let p = weigh_snoc h (oldest es) e in let q = weigh_oldest h es in omega arith

module _ {S : Type 0} (key : Story) (s : State S Book) (r : IsKept key s) (me : ℕ) (v : Book) (at : get_elem? s.views me ≡ some v) (all : v.numbers ≡ 1048576) (free : v.face.held ≡ []) where
  others_idle : (k : ℕ) (w : Book) → k ≢ me → get_elem? s.views k ≡ some w → (w.entries ≡ []) × (w.face.held ≡ [])
  others_idle k w n e = let p = two_le (λ b. b.numbers) s.views k me w v n e at in r.counts.idle k w e (omega (arith, p, r.counts.numbers))

  all_free : (k : ℕ) → (faces s.views k).held ≡ []
  all_free k = dite (ℕ_discrete k me) (λ h. ap (λ j. (faces s.views j).held) h ∙ (ap (λ f. f.held) (face_at s.views me v at) ∙ free)) (λ n. by_view (get_elem? s.views k) refl n)
    where
      by_view : (z : Option Book) → get_elem? s.views k ≡ z → k ≢ me → (faces s.views k).held ≡ []
      by_view none e n = ap (λ z. (face_of z).held) e
      by_view (some w) e n = ap (λ z. (face_of z).held) e ∙ (others_idle k w n e).1

  -- the words of the heap are those after the history
  pub ends : (words : List ℕ) → ((a : ℕ) → get_or words a 0 ≡ get_or s.words (a + 4097) 0) → Ends key v words
  ends words heap = let clock = get_or s.words 0 0 in let g = good key clock r.log r.chain in let X = history clock r.log in record {
    history = oldest X;
    legal = is_legal key X g.sorted (agree key (wrote r.log) X g.sorted (λ p i a x f. (r.annals.agree p (g.among p i).0 a x f).0) clock (λ p i. let q = (g.among p i).1 in let b = base_le_at key p in omega arith) (λ t a l. g.log t a l));
    runs = λ e i. (sorted_in key X e g.sorted (in_oldest X e i)).1.runs;
    heap = λ a. heap a ∙ (⊎_elim (λ e. e ∙ (sym (value_same (start key) (wrote r.log) (wrote X) clock a (λ t l. g.log t a l)) ∙ (sym (memory_value key X g.sorted clock a (λ p i. (g.among p i).1)) ∙ sym (memory_is (start key) X a))))
        (λ (h : (k : ℕ) × Has (faces s.views k).left a). let d = (r.locks.grip h.0).left a h.1.0 h.1.1 in let l = (r.locks.grip h.0).listed (stripe a) d.2 in
        absurd (some-ne-none (2 * r.ver (stripe a)) (sym l ∙ ap (λ m. lookup m (stripe a)) (all_free h.0)))) (r.locks.heap a));
    account = λ h. weigh_oldest h X ∙ (weigh_history h clock r.log r.annals.stamps ∙ (r.account h ∙ total_only (λ b. weigh h b.entries) s.views me v at (λ k w n e. ap (weigh h) (others_idle k w n e).0)));
    regions = regions_kept key X g.sorted;
    used = λ q u f.
        let k = r.each me v at in
        let m = k.regions q u f in
        let low = m.2 in
        let known = k.known in
        used_is X q (used_at key q) ∙ (ap (λ z. (region_after (used_at key q) z).used) (g.ends q (omega (arith, low, known))) ∙ ap (λ (z : Region). z.used) m.1);
  }
