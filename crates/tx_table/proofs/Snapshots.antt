-- The history up to a stamp, and what an attempt that reads knows.
use Rattle.std.proofs.Common.{◌==◌, ◌≡◌, ◌≢◌, ◌⊎◌, ℕ, ◌-◌, ◌*◌, ◌<◌, ◌≤◌, Bool, true, false, cond, List, [], ◌∷◌, sym, refl, ap, ◌∙◌, subst, inl, inr, ⊎_elim, arith}
use mathlib.Core.Option.{Option, none, some, some-injective, some-ne-none}
use mathlib.Core.Logic.{dite}
use native.Mathlib.Decide.{ℕ_discrete}
use Rattle.atomic_table.specs.Table.{State}
use Rattle.jmodel.specs.history.History.{Entry}
use Rattle.tx_table.specs.Book.{lookup, In, pairs, Region, Book}
use Rattle.tx_table.specs.Rule.{Story, used_at, start, Writes, first_of, wrote, or_old, value, base, last_of, region_after, top_of, Succeeds, IsLater, Continues, Chain, Snapshot}
use Rattle.tx_table.specs.Steps.{IsKept}
use Rattle.std.proofs.Math.Dec.{ltb}
use Rattle.std.proofs.lemmas.Bool.{ltb-true, ltb-false}
use Rattle.tx_table.proofs.MapLaws.{eq_cond, ne_cond}
use Rattle.tx_table.proofs.Values.{value_same, value_still, value_at, wrote_else, wrote_unread}
use Rattle.tx_table.proofs.Private.{Mine}
use Rattle.tx_table.proofs.Order.{bool_or, rank, update_rank, reader_rank, comes, comes_rank, comes_less, comes_same, comes_chain}
use Rattle.tx_table.proofs.Sorting.{insert, history, Sorted, Alone, sorted_in, alone_in, continues_too, insert_sorted, insert_wrote, insert_last, insert_in}
use Rattle.tx_table.proofs.Histories.{memory, oldest, in_oldest, memory_is, used_is, Agree, is_legal}

pub option_or : {A : Type 0} (z : Option A) → (z ≡ none) ⊎ ((y : A) × (z ≡ some y))
option_or none = inl refl
option_or (some y) = inr (y, refl)

last_none : (H : List Entry) (r : ℕ) → last_of H r ≡ none → (p : Entry) → In p H → p.call.region ≢ r
last_none [] r e p i h = i
last_none (x ∷ xs) r e p i h = dite (ℕ_discrete x.call.region r)
    (λ here. some-ne-none x (sym (eq_cond x.call.region r (some x) (last_of xs r) here) ∙ e))
    (λ not. ⊎_elim (λ k. not (sym (ap (λ (q : Entry). q.call.region) k) ∙ h)) (λ k. last_none xs r (sym (ne_cond x.call.region r (some x) (last_of xs r) not) ∙ e) p k h) i)

-- along a region entries come one after another
continues_comes : (key : Story) (es : List Entry) (e q : Entry) → Continues key es e → last_of es e.call.region ≡ some q → comes q e ≡ true
continues_comes key es e q c is = let risen : Succeeds e.call (some q.call) = subst (λ z. Succeeds e.call (region_after (used_at key e.call.region) z).last) is c.call in
    ⊎_elim (λ l. comes_less q e (⊎_elim (λ u. omega (arith, l, update_rank q u, low e)) (λ u. omega (arith, l, reader_rank q u, low e)) (bool_or q.stamp.update)))
    (λ (t : (q.stamp.at ≡ e.stamp.at) × (e.stamp.update ≡ false)). ⊎_elim (λ u. comes_less q e (omega (arith, t.0, update_rank q u, reader_rank e t.1))) (λ u. comes_same q e (omega (arith, t.0, reader_rank q u, reader_rank e t.1)) risen) (bool_or q.stamp.update))
    (subst (IsLater e) is c.later)
  where
    low : (q : Entry) → 2 * q.stamp.at ≤ rank q
    low q = omega arith

module _ (key : Story) where
  chain_comes : (H : List Entry) → Chain key H → (p : Entry) → In p H → (q : Entry) → last_of H p.call.region ≡ some q → (p ≡ q) ⊎ (comes p q ≡ true)
  chain_comes [] c p i q e = absurd i
  chain_comes (x ∷ xs) c p i q e = dite (ℕ_discrete x.call.region p.call.region)
      (λ here. let is : x ≡ q = some-injective x q (sym (eq_cond x.call.region p.call.region (some x) (last_of xs p.call.region) here) ∙ e) in
      ⊎_elim (λ k. inl (k ∙ is))
      (λ k. inr (subst (λ (z : Entry). comes p z ≡ true) is (⊎_elim (λ z. absurd (last_none xs p.call.region z p k refl)) (λ (z : (y : Entry) × (last_of xs p.call.region ≡ some y)).
      let f = continues_comes key xs x z.0 c.0 (ap (last_of xs) here ∙ z.1) in ⊎_elim (λ m. subst (λ (w : Entry). comes w x ≡ true) (sym m) f) (λ m. comes_chain p z.0 x m f) (chain_comes xs c.1 p k z.0 z.1)) (option_or (last_of xs p.call.region))))) i)
      (λ not. ⊎_elim (λ k. absurd (not (sym (ap (λ (y : Entry). y.call.region) k)))) (λ k. chain_comes xs c.1 p k q (sym (ne_cond x.call.region p.call.region (some x) (last_of xs p.call.region) not) ∙ e)) i)

  later_top : (e : Entry) (z : Option Entry) → IsLater e z → top_of z ≤ e.stamp.at
  later_top e none f = omega arith
  later_top e (some p) f = ⊎_elim (λ l. omega arith) (λ t. let q = t.0 in omega arith) f

  pub record Good (b : ℕ) (H X : List Entry) : Type 0 where
    pub sorted : Sorted key X
    pub among : (p : Entry) → In p X → In p H × (p.stamp.at ≤ b)
    pub log : (s a : ℕ) → s ≤ b → wrote X s a ≡ wrote H s a
    pub ends : (r : ℕ) → top_of (last_of H r) ≤ b → last_of X r ≡ last_of H r

  good_step : (b : ℕ) (e : Entry) (es : List Entry) → Chain key (e ∷ es) → Good b es (history b es) → Good b (e ∷ es) (history b (e ∷ es))
  good_step b e es c g = ⊎_elim
      (λ late. let l = ltb-true b e.stamp.at late in subst (Good b (e ∷ es)) (ap (λ k. cond k (history b es) (insert e (history b es))) (sym late)) record {
        sorted = g.sorted;
        among = λ p i. let q = g.among p i in (inr q.0, q.1);
        log = λ s a m. g.log s a m ∙ sym (wrote_else e es s a (λ h. absurd (omega arith)));
        ends = λ r top. dite (ℕ_discrete e.call.region r)
            (λ here. absurd (let q : top_of (last_of (e ∷ es) r) ≡ e.stamp.at = ap top_of (eq_cond e.call.region r (some e) (last_of es r) here) in omega arith))
            (λ not. let q : last_of (e ∷ es) r ≡ last_of es r = ne_cond e.call.region r (some e) (last_of es r) not in g.ends r (omega (arith, top, ap top_of q)) ∙ sym q);
      })
      (λ soon. let l = ltb-false b e.stamp.at soon in let X = history b es in
      let low : (p : Entry) → In p X → p.call.region ≡ e.call.region → comes p e ≡ true = λ p i h. let q = g.among p i in
      ⊎_elim (λ z. absurd (last_none es e.call.region z p q.0 h)) (λ (z : (y : Entry) × (last_of es e.call.region ≡ some y)). let f = continues_comes key es e z.0 c.0 z.1 in
      ⊎_elim (λ m. subst (λ (w : Entry). comes w e ≡ true) (sym m) f) (λ m. comes_chain p z.0 e m f) (chain_comes es c.1 p q.0 z.0 (ap (last_of es) h ∙ z.1))) (option_or (last_of es e.call.region)) in
      let same = g.ends e.call.region (let t = later_top e (last_of es e.call.region) c.0.later in omega arith) in
      let fresh : e.stamp.update ≡ true → (a : ℕ) → wrote X e.stamp.at a ≡ none = λ u a. g.log e.stamp.at a l ∙ c.0.fresh u a in
      let alone : Alone key e X = λ p i u v. alone_in key X e p g.sorted fresh i u v in
      subst (Good b (e ∷ es)) (ap (λ k. cond k X (insert e X)) (sym soon)) record {
        sorted = insert_sorted key e X g.sorted (continues_too key e e es X same fresh c.0) low alone;
        among = λ p i. ⊎_elim (λ k. (inl k, omega (arith, l, ap (λ (q : Entry). q.stamp.at) k))) (λ k. let q = g.among p k in (inr q.0, q.1)) (insert_in key e X p i);
        log = λ s a m. insert_wrote key e X s a g.sorted alone ∙ ap (λ z. cond (e.stamp.at == s) (first_of (lookup (pairs e.writes) a) z) z) (g.log s a m);
        ends = λ r top. insert_last key e X r low ∙ dite (ℕ_discrete e.call.region r)
            (λ here. eq_cond e.call.region r (some e) (last_of X r) here ∙ sym (eq_cond e.call.region r (some e) (last_of es r) here))
            (λ not. let q : last_of (e ∷ es) r ≡ last_of es r = ne_cond e.call.region r (some e) (last_of es r) not in ne_cond e.call.region r (some e) (last_of X r) not ∙ (g.ends r (omega (arith, top, ap top_of q)) ∙ sym q));
      }) (bool_or (ltb b e.stamp.at))

  pub good : (b : ℕ) (H : List Entry) → Chain key H → Good b H (history b H)
  good b [] c = record { sorted = tt; among = λ p i. absurd i; log = λ s a l. refl; ends = λ r l. refl }
  good b (e ∷ es) c = good_step b e es c (good b es c.1)

  wrote_above : (X : List Entry) (s a : ℕ) → ((p : Entry) → In p X → p.stamp.at < s) → wrote X s a ≡ none
  wrote_above [] s a h = refl
  wrote_above (x ∷ xs) s a h = let p = h x (inl refl) in wrote_else x xs s a (λ k. absurd (omega arith)) ∙ wrote_above xs s a (λ q i. h q (inr i))

  at_le : (p e : Entry) → rank p ≤ rank e → p.stamp.at ≤ e.stamp.at
  at_le p e l = ⊎_elim
      (λ u. ⊎_elim (λ v. omega (arith, l, update_rank p u, update_rank e v)) (λ v. omega (arith, l, update_rank p u, reader_rank e v)) (bool_or e.stamp.update))
      (λ u. ⊎_elim (λ v. omega (arith, l, reader_rank p u, update_rank e v)) (λ v. omega (arith, l, reader_rank p u, reader_rank e v)) (bool_or e.stamp.update)) (bool_or p.stamp.update)

  pub memory_value : (X : List Entry) → Sorted key X → (t a : ℕ) → ((p : Entry) → In p X → p.stamp.at ≤ t) → memory (start key) X a ≡ value (start key) (wrote X) t a
  memory_value [] h t a l = sym (value_still (start key) (wrote []) 0 t a (omega arith) (λ s p q. refl))
  memory_value (e ∷ es) h t a l = let rest = memory_value es h.2 t a (λ p i. l p (inr i)) in
      let skip : lookup (pairs e.writes) a ≡ none → memory (start key) (e ∷ es) a ≡ value (start key) (wrote (e ∷ es)) t a =
      λ n. ap (λ z. or_old z (memory (start key) es a)) n ∙ (rest ∙ sym (value_same (start key) (wrote es) (wrote (e ∷ es)) t a (λ s m. wrote_unread e es s a n))) in
      ⊎_elim skip (λ (z : (x : ℕ) × (lookup (pairs e.writes) a ≡ some x)). ⊎_elim
      (λ u. ap (λ y. or_old y (memory (start key) es a)) z.1 ∙ sym (value_still (start key) (wrote (e ∷ es)) e.stamp.at t a (l e (inl refl))
      (λ s p q. wrote_above (e ∷ es) s a (λ y i. ⊎_elim (λ k. omega (arith, ap (λ (c : Entry). c.stamp.at) k, p)) (λ k. let m = at_le y e (comes_rank y e (h.1 y k)) in omega arith) i))
      ∙ value_at (start key) (wrote (e ∷ es)) e.stamp.at a z.0 (h.0.stamped u) (eq_cond e.stamp.at e.stamp.at (first_of (lookup (pairs e.writes) a) (wrote es e.stamp.at a)) (wrote es e.stamp.at a) refl ∙ ap (λ y. first_of y (wrote es e.stamp.at a)) z.1)))
      (λ u. skip (ap (λ m. lookup (pairs m) a) (h.0.reader u))) (bool_or e.stamp.update)) (option_or (lookup (pairs e.writes) a))

  base_true : (e : Entry) → e.stamp.update ≡ true → base e ≡ e.stamp.at - 1
  base_true e u = ap (λ (c : Bool). let k : ℕ = cond c (e.stamp.at - 1) e.stamp.at in k) u

  base_false : (e : Entry) → e.stamp.update ≡ false → base e ≡ e.stamp.at
  base_false e u = ap (λ (c : Bool). let k : ℕ = cond c (e.stamp.at - 1) e.stamp.at in k) u

  below : (e : Entry) (es : List Entry) (s a : ℕ) → Continues key es e → s ≤ base e → wrote (e ∷ es) s a ≡ wrote es s a
  below e es s a c l = ⊎_elim (λ u. let p = c.stamped u in wrote_else e es s a (λ k. absurd (omega (arith, k, l, base_true e u, p)))) (λ u. wrote_unread e es s a (ap (λ m. lookup (pairs m) a) (c.reader u))) (bool_or e.stamp.update)

  base_le : (p e : Entry) → rank p ≤ rank e → base p ≤ base e
  base_le p e l = ⊎_elim
      (λ u. ⊎_elim (λ v. omega (arith, l, base_true p u, base_true e v, update_rank p u, update_rank e v)) (λ v. omega (arith, l, base_true p u, base_false e v, update_rank p u, reader_rank e v)) (bool_or e.stamp.update))
      (λ u. ⊎_elim (λ v. omega (arith, l, base_false p u, base_true e v, reader_rank p u, update_rank e v)) (λ v. omega (arith, l, base_false p u, base_false e v, reader_rank p u, reader_rank e v)) (bool_or e.stamp.update)) (bool_or p.stamp.update)

  -- each entry's reads agree with the memory before it, where they are values up to its stamp
  pub agree : (L : Writes) (X : List Entry) → Sorted key X → ((p : Entry) → In p X → (a x : ℕ) → In (a, x) (pairs p.reads) → value (start key) L (base p) a ≡ x)
      → (lim : ℕ) → ((p : Entry) → In p X → base p ≤ lim) → ((s a : ℕ) → s ≤ lim → wrote X s a ≡ L s a) → Agree (start key) X
  agree L [] h agrees lim low same = tt
  agree L (e ∷ es) h agrees lim low same = let under : (s a : ℕ) → s ≤ base e → wrote es s a ≡ L s a = λ s a l. sym (below e es s a h.0 l) ∙ same s a (let p = low e (inl refl) in omega arith) in (
    (λ a x f. memory_value es h.2 e.stamp.at a (λ p i. at_le p e (comes_rank p e (h.1 p i)))
        ∙ (⊎_elim (λ u. value_still (start key) (wrote es) (e.stamp.at - 1) e.stamp.at a (omega arith) (λ s p q. let k : s ≡ e.stamp.at = omega arith in ap (λ t. wrote es t a) k ∙ h.0.fresh u a) ∙ ap (λ t. value (start key) (wrote es) t a) (sym (base_true e u)))
        (λ u. ap (λ t. value (start key) (wrote es) t a) (sym (base_false e u))) (bool_or e.stamp.update)
        ∙ (value_same (start key) L (wrote es) (base e) a (λ s l. under s a l) ∙ agrees e (inl refl) a x f))),
    agree L es h.2 (λ p i. agrees p (inr i)) (base e) (λ p i. base_le p e (comes_rank p e (h.1 p i))) under,
  )

pub base_le_at : (key : Story) (p : Entry) → base p ≤ p.stamp.at
base_le_at key p = ⊎_elim (λ u. omega (arith, base_true key p u)) (λ u. omega (arith, base_false key p u)) (bool_or p.stamp.update)

module _ {S : Type 0} (key : Story) (s : State S Book) (r : IsKept key s) (j : ℕ) (v : Book) (mine : Mine key s r j v) (live : v.live ≡ true) where
  pub snapshot : Snapshot key v
  snapshot = let g = good key v.bound r.log r.chain in let X = history v.bound r.log in record {
    history = oldest X;
    legal = is_legal key X g.sorted (agree key (wrote r.log) X g.sorted (λ p i a x f. (r.annals.agree p (g.among p i).0 a x f).0) v.bound (λ p i. let q = (g.among p i).1 in let b = base_le_at key p in omega arith) (λ t a l. g.log t a l));
    runs = λ e i. (sorted_in key X e g.sorted (in_oldest X e i)).1.runs;
    reads = λ a x f. memory_is (start key) X a ∙ (memory_value key X g.sorted v.bound a (λ p i. (g.among p i).1) ∙ (value_same (start key) (wrote r.log) (wrote X) v.bound a (λ t l. g.log t a l) ∙ (mine.reads a x live f).0));
    regions = λ q u f. let m = mine.regions q u f in used_is X q (used_at key q) ∙ (ap (λ z. (region_after (used_at key q) z).used) (g.ends q (m.3 live)) ∙ ap (λ (z : Region). z.used) m.1);
  }
