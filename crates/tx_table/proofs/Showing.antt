-- What the rule says of the words.
use Rattle.std.proofs.Common.{◌≡◌, ℕ, zero, suc, ◌+◌, ◌*◌, ◌<◌, List, get_or, sym, refl, ap, ◌∙◌, ⊎_elim, arith}
use mathlib.Core.Option.{Option, none, some, some-ne-none}
use lib.ListN.{get_elem?}
use Rattle.atomic_table.specs.Table.{State}
use Rattle.jmodel.specs.history.History.{Entry}
use Rattle.tx_table.specs.Book.{lookup, Has, Book, pairs, Face}
use Rattle.tx_table.specs.Rule.{Story, start, stripe, wrote, face_of, faces, Shows, code, used_at, World}
use Rattle.tx_table.specs.Steps.{IsKept}
use Rattle.tx_table.proofs.Values.{value_same}
use Rattle.tx_table.proofs.Private.{face_at, world_of}
use Rattle.tx_table.proofs.Sorting.{history, sorted_in, wrote_some}
use Rattle.tx_table.proofs.Histories.{oldest, in_oldest, memory_is, is_legal}
use Rattle.tx_table.proofs.Snapshots.{Good, good, agree, memory_value, base_le_at}
use Rattle.tx_table.proofs.Settled.{nothing_or, unwritten}
use Rattle.tx_table.proofs.Closing.{weigh_oldest, weigh_history}

module _ {S : Type 0} (key : Story) (s : State S Book) (r : IsKept key s) where
  abbrev F : ℕ → Face
  F = faces s.views

  abbrev W : World
  W = world_of key s r

  abbrev now : ℕ
  now = get_or s.words 0 0

  abbrev X : List Entry
  X = history now r.log

  g : Good key now r.log X
  g = good key now r.log r.chain

  -- a free stripe has no holder
  free_is : (i v : ℕ) → i < 4096 → get_or s.words (i + 1) 0 ≡ 2 * v → (r.ver i ≡ v) × (r.holder i ≡ 0)
  free_is i v l e = cases (r.holder i) refl
    where
      cases : (h : ℕ) → r.holder i ≡ h → (r.ver i ≡ v) × (r.holder i ≡ 0)
      cases zero f = let p : 2 * v ≡ 2 * r.ver i = sym e ∙ (r.stripes i l ∙ ap (λ (k : ℕ). code F k (r.ver i)) f) in (omega arith, f)
      cases (suc j) f = let p : 2 * v ≡ 2 * (F j).number + 1 = sym e ∙ (r.stripes i l ∙ ap (λ (k : ℕ). code F k (r.ver i)) f) in absurd (omega arith)

  held : (i j : ℕ) (b : Book) → i < 4096 → get_elem? s.views j ≡ some b → Has b.face.held i → get_or s.words (i + 1) 0 ≡ 2 * b.face.number + 1
  held i j b l e h = let f = face_at s.views j b e in let o = (r.locks.grip j).only i h.0 (ap (λ (z : Face). lookup z.held i) f ∙ h.1) in
      r.stripes i l ∙ (ap (λ (k : ℕ). code F k (r.ver i)) o ∙ ap (λ (z : Face). 2 * z.number + 1) f)

  holder : (i n : ℕ) → i < 4096 → get_or s.words (i + 1) 0 ≡ 2 * n + 1 → (j : ℕ) × (b : Book) × (get_elem? s.views j ≡ some b) × Has b.face.held i × (b.face.number ≡ n)
  holder i n l e = cases (r.holder i) refl
    where
      cases : (h : ℕ) → r.holder i ≡ h → (j : ℕ) × (b : Book) × (get_elem? s.views j ≡ some b) × Has b.face.held i × (b.face.number ≡ n)
      cases zero f = let p : 2 * n + 1 ≡ 2 * r.ver i = sym e ∙ (r.stripes i l ∙ ap (λ (k : ℕ). code F k (r.ver i)) f) in absurd (omega arith)
      cases (suc j) f = let p : 2 * n + 1 ≡ 2 * (F j).number + 1 = sym e ∙ (r.stripes i l ∙ ap (λ (k : ℕ). code F k (r.ver i)) f) in
          by_view j (get_elem? s.views j) refl ((r.locks.grip j).listed i f) (omega arith)
        where
          by_view : (j : ℕ) (z : Option Book) → get_elem? s.views j ≡ z → lookup (F j).held i ≡ some (2 * r.ver i) → (F j).number ≡ n → (j : ℕ) × (b : Book) × (get_elem? s.views j ≡ some b) × Has b.face.held i × (b.face.number ≡ n)
          by_view j none q k m = absurd (some-ne-none (2 * r.ver i) (sym k ∙ ap (λ z. lookup (face_of z).held i) q))
          by_view j (some b) q k m = let w = face_at s.views j b q in (j, b, q, (2 * r.ver i, ap (λ (z : Face). lookup z.held i) (sym w) ∙ k), ap (λ (z : Face). z.number) (sym w) ∙ m)

  pub shows : Shows key s.words s.views
  shows = record {
    history = oldest X;
    legal = is_legal key X g.sorted (agree key (wrote r.log) X g.sorted (λ p i a x f. (r.annals.agree p (g.among p i).0 a x f).0) now (λ p i. let q = (g.among p i).1 in let b = base_le_at key p in omega arith) (λ t a l. g.log t a l));
    runs = λ e i. (sorted_in key X e g.sorted (in_oldest X e i)).1.runs;
    account = λ h. weigh_oldest h X ∙ (weigh_history h now r.log r.annals.stamps ∙ r.account h);
    held = held;
    holder = holder;
    free = λ a v l e. ⊎_elim (λ m. m ∙ (sym (value_same (start key) (wrote r.log) (wrote X) now a (λ t k. g.log t a k)) ∙ (sym (memory_value key X g.sorted now a (λ p i. (g.among p i).1)) ∙ sym (memory_is (start key) X a))))
        (λ (h : (k : ℕ) × Has (F k).left a). let d = (r.locks.grip h.0).left a h.1.0 h.1.1 in let f = free_is (stripe a) v l e in absurd (omega (arith, f.1, d.2))) (r.locks.heap a);
    newest = λ a v l e p i m. let f = free_is (stripe a) v l e in nothing_or (lookup (pairs p.writes) a)
        (λ x q. wrote_some r.log p a x (g.among p (in_oldest X p i)).0 q (unwritten (start key) (used_at key) W r.locks a p.stamp.at (λ k h. absurd (omega (arith, f.1, h))) (omega (arith, f.0, m))));
  }
