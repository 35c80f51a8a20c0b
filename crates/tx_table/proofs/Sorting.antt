-- The entries up to a stamp, in the order of history, the newest first.
use Rattle.std.proofs.Common.{◌==◌, ◌≡◌, ◌≢◌, ◌⊎◌, ℕ, Bool, true, false, cond, List, [], ◌∷◌, sym, refl, ap, ◌∙◌, subst, inl, inr, ⊎_elim, arith}
use mathlib.Core.Option.{Option, none, some, some-ne-none}
use mathlib.Core.Logic.{dite}
use native.Mathlib.Decide.{ℕ_discrete}
use Rattle.jmodel.specs.history.History.{Entry}
use Rattle.tx_table.specs.Book.{lookup, In, pairs, rises}
use Rattle.tx_table.specs.Rule.{Story, used_at, first_of, wrote, last_of, region_after, Succeeds, IsLater, Continues, IsRegionKept}
use Rattle.std.proofs.Math.Dec.{ltb}
use Rattle.jmodel.specs.declared.access.Access.{Access}
use Rattle.tx_table.proofs.MapLaws.{eq_cond, ne_cond}
use Rattle.tx_table.proofs.Values.{wrote_else, wrote_unread}
use Rattle.tx_table.proofs.Order.{bool_or, clash, update_rank, reader_rank, rises_chain, comes, comes_rank, comes_chain, comes_once, comes_either}

-- behind all that come later
pub insert : Entry → List Entry → List Entry
insert e [] = e ∷ []
insert e (x ∷ xs) = cond (comes e x) (x ∷ insert e xs) (e ∷ x ∷ xs)

pub insert_under : (e x : Entry) (xs : List Entry) → comes e x ≡ true → insert e (x ∷ xs) ≡ x ∷ insert e xs
unfolding insert
insert_under e x xs h = ap (λ b. cond b (x ∷ insert e xs) (e ∷ x ∷ xs)) h

pub insert_over : (e x : Entry) (xs : List Entry) → comes e x ≡ false → insert e (x ∷ xs) ≡ e ∷ x ∷ xs
unfolding insert
insert_over e x xs h = ap (λ b. cond b (x ∷ insert e xs) (e ∷ x ∷ xs)) h

pub insert_nil : (e : Entry) → insert e [] ≡ e ∷ []
unfolding insert
insert_nil e = refl

abbrev pub history : ℕ → List Entry → List Entry
history b [] = []
history b (e ∷ es) = cond (ltb b e.stamp.at) (history b es) (insert e (history b es))

-- a list in order
abbrev pub Sorted : Story → List Entry → Type 0
Sorted key [] = Unit {0}
Sorted key (e ∷ es) = Continues key es e × ((p : Entry) → In p es → comes p e ≡ true) × Sorted key es

pub sorted_in : (key : Story) (X : List Entry) (p : Entry) → Sorted key X → In p X → (es : List Entry) × Continues key es p
sorted_in key [] p h i = absurd i
sorted_in key (x ∷ xs) p h i = ⊎_elim (λ k. (xs, subst (Continues key xs) (sym k) h.0)) (λ k. sorted_in key xs p h.2 k) i

-- along a region calls come one after another
pub region_kept : (key : Story) (X : List Entry) (e p : Entry) (u : ℕ) → Sorted key X → Succeeds e.call (region_after u (last_of X e.call.region)).last → In p X → IsRegionKept p e
region_kept key [] e p u h last i same = absurd i
region_kept key (x ∷ xs) e p u h last i same = dite (ℕ_discrete x.call.region e.call.region)
    (λ here. let risen : rises x.call e.call ≡ true = subst (λ z. Succeeds e.call (region_after u z).last) (eq_cond x.call.region e.call.region (some x) (last_of xs e.call.region) here) last in ⊎_elim
    (λ k. subst (λ (q : Entry). rises q.call e.call ≡ true) (sym k) risen)
    (λ k. rises_chain p.call x.call e.call (region_kept key xs x p (used_at key x.call.region) h.2 h.0.call k (same ∙ sym here)) risen) i)
    (λ not. ⊎_elim (λ k. absurd (not (sym (ap (λ (q : Entry). q.call.region) k) ∙ same)))
    (λ k. region_kept key xs e p u h.2 (subst (λ z. Succeeds e.call (region_after u z).last) (ne_cond x.call.region e.call.region (some x) (last_of xs e.call.region) not) last) k same) i)

-- an update is found by its stamp
first_kept : (y z : Option ℕ) → z ≢ none → first_of y z ≢ none
first_kept none z n f = n f
first_kept (some y) z n f = some-ne-none y f

pub wrote_some : (X : List Entry) (p : Entry) (a x : ℕ) → In p X → lookup (pairs p.writes) a ≡ some x → wrote X p.stamp.at a ≢ none
wrote_some [] p a x i f = absurd i
wrote_some (q ∷ qs) p a x i f = ⊎_elim
    (λ k g. some-ne-none x (sym (ap (λ z. first_of z (wrote qs p.stamp.at a)) (ap (λ (y : Entry). lookup (pairs y.writes) a) (sym k) ∙ f)) ∙ (sym (eq_cond q.stamp.at p.stamp.at (first_of (lookup (pairs q.writes) a) (wrote qs p.stamp.at a)) (wrote qs p.stamp.at a) (ap (λ (y : Entry). y.stamp.at) (sym k))) ∙ g)))
    (λ k. dite (ℕ_discrete q.stamp.at p.stamp.at)
    (λ e g. first_kept (lookup (pairs q.writes) a) (wrote qs p.stamp.at a) (wrote_some qs p a x k f) (sym (eq_cond q.stamp.at p.stamp.at (first_of (lookup (pairs q.writes) a) (wrote qs p.stamp.at a)) (wrote qs p.stamp.at a) e) ∙ g))
    (λ n g. wrote_some qs p a x k f (sym (ne_cond q.stamp.at p.stamp.at (first_of (lookup (pairs q.writes) a) (wrote qs p.stamp.at a)) (wrote qs p.stamp.at a) n) ∙ g))) i

-- no other update has the stamp of a fresh one
pub alone_in : (key : Story) (X : List Entry) (e p : Entry) → Sorted key X → (e.stamp.update ≡ true → (a : ℕ) → wrote X e.stamp.at a ≡ none) → In p X → p.stamp.update ≡ true → e.stamp.update ≡ true → e.stamp.at ≢ p.stamp.at
alone_in key X e p h fresh i u v same = let w = (sorted_in key X p h i).1.writer u in by_writes p.writes refl w
  where
    by_writes : (l : List Access) → p.writes ≡ l → p.writes ≢ [] → ⊥
    by_writes [] f w = w f
    by_writes (y ∷ ys) f w = wrote_some X p y.address y.word i (ap (λ m. lookup (pairs m) y.address) f ∙ eq_cond y.address y.address (some y.word) (lookup (pairs ys) y.address) refl) (ap (λ t. wrote X t y.address) (sym same) ∙ fresh v y.address)

swap_wrote : (e x : Entry) (xs : List Entry) (s a : ℕ) → (e.stamp.at ≡ x.stamp.at → lookup (pairs x.writes) a ≡ none) → wrote (x ∷ e ∷ xs) s a ≡ wrote (e ∷ x ∷ xs) s a
swap_wrote e x xs s a h = dite (ℕ_discrete e.stamp.at x.stamp.at)
    (λ same. wrote_unread x (e ∷ xs) s a (h same) ∙ both same)
    (λ apart. dite (ℕ_discrete e.stamp.at s)
    (λ here. wrote_else x (e ∷ xs) s a (λ k. apart (here ∙ sym k)) ∙ (one here ∙ sym (one' here (λ k. apart (here ∙ sym k)))))
    (λ not. inner not ∙ sym (wrote_else e (x ∷ xs) s a not)))
  where
    one : e.stamp.at ≡ s → wrote (e ∷ xs) s a ≡ first_of (lookup (pairs e.writes) a) (wrote xs s a)
    one here = eq_cond e.stamp.at s (first_of (lookup (pairs e.writes) a) (wrote xs s a)) (wrote xs s a) here

    both : e.stamp.at ≡ x.stamp.at → wrote (e ∷ xs) s a ≡ wrote (e ∷ x ∷ xs) s a
    both same = dite (ℕ_discrete e.stamp.at s) (λ here. one here ∙ (ap (λ z. first_of (lookup (pairs e.writes) a) z) (sym (wrote_unread x xs s a (h same))) ∙ sym (eq_cond e.stamp.at s (first_of (lookup (pairs e.writes) a) (wrote (x ∷ xs) s a)) (wrote (x ∷ xs) s a) here)))
        (λ not. wrote_else e xs s a not ∙ (sym (wrote_unread x xs s a (h same)) ∙ sym (wrote_else e (x ∷ xs) s a not)))

    one' : e.stamp.at ≡ s → x.stamp.at ≢ s → wrote (e ∷ x ∷ xs) s a ≡ first_of (lookup (pairs e.writes) a) (wrote xs s a)
    one' here n = eq_cond e.stamp.at s (first_of (lookup (pairs e.writes) a) (wrote (x ∷ xs) s a)) (wrote (x ∷ xs) s a) here ∙ ap (first_of (lookup (pairs e.writes) a)) (wrote_else x xs s a n)

    inner : e.stamp.at ≢ s → wrote (x ∷ e ∷ xs) s a ≡ wrote (x ∷ xs) s a
    inner not = ap (λ z. cond (x.stamp.at == s) (first_of (lookup (pairs x.writes) a) z) z) (wrote_else e xs s a not)

same_head : (x : Entry) (xs ys : List Entry) (s a : ℕ) → wrote xs s a ≡ wrote ys s a → wrote (x ∷ xs) s a ≡ wrote (x ∷ ys) s a
same_head x xs ys s a h = ap (λ z. cond (x.stamp.at == s) (first_of (lookup (pairs x.writes) a) z) z) h

module _ (key : Story) (e : Entry) where
  -- of two entries with one stamp the later one reads
  ranks : (x : Entry) → (x.stamp.update ≡ true → e.stamp.update ≡ true → e.stamp.at ≢ x.stamp.at) → comes e x ≡ true → e.stamp.at ≡ x.stamp.at → x.stamp.update ≡ false
  ranks x apart l h = at e.stamp.update x.stamp.update refl refl
    where
      at : (b c : Bool) → e.stamp.update ≡ b → x.stamp.update ≡ c → x.stamp.update ≡ false
      at b false f g = g
      at true true f g = absurd (apart g f h)
      at false true f g = let p = comes_rank e x l in absurd (omega (arith, p, reader_rank e f, update_rank x g, h))

  abbrev pub Alone : List Entry → Type 0
  Alone X = (p : Entry) → In p X → p.stamp.update ≡ true → e.stamp.update ≡ true → e.stamp.at ≢ p.stamp.at

  pub insert_wrote : (X : List Entry) (s a : ℕ) → Sorted key X → Alone X → wrote (insert e X) s a ≡ wrote (e ∷ X) s a
  insert_wrote [] s a h n = ap (λ z. wrote z s a) (insert_nil e)
  insert_wrote (x ∷ xs) s a h n = ⊎_elim
      (λ under. ap (λ z. wrote z s a) (insert_under e x xs under) ∙ (same_head x (insert e xs) (e ∷ xs) s a (insert_wrote xs s a h.2 (λ p i. n p (inr i)))
      ∙ swap_wrote e x xs s a (λ same. ap (λ m. lookup (pairs m) a) (h.0.reader (ranks x (n x (inl refl)) under same)))))
      (λ over. ap (λ z. wrote z s a) (insert_over e x xs over)) (bool_or (comes e x))

  last_swap : (x : Entry) (xs ys : List Entry) (r : ℕ) → x.call.region ≢ e.call.region → last_of ys r ≡ last_of (e ∷ xs) r → last_of (x ∷ ys) r ≡ last_of (e ∷ x ∷ xs) r
  last_swap x xs ys r n h = dite (ℕ_discrete x.call.region r)
      (λ here. eq_cond x.call.region r (some x) (last_of ys r) here ∙ (sym (eq_cond x.call.region r (some x) (last_of xs r) here) ∙ sym (ne_cond e.call.region r (some e) (last_of (x ∷ xs) r) (λ k. n (here ∙ sym k)))))
      (λ not. ne_cond x.call.region r (some x) (last_of ys r) not ∙ (h ∙ ap (λ z. cond (e.call.region == r) (some e) z) (sym (ne_cond x.call.region r (some x) (last_of xs r) not))))

  abbrev pub Low : List Entry → Type 0
  Low X = (p : Entry) → In p X → p.call.region ≡ e.call.region → comes p e ≡ true

  apart_from : (x : Entry) (xs : List Entry) → Low (x ∷ xs) → comes e x ≡ true → x.call.region ≢ e.call.region
  apart_from x xs h under k = comes_once e x under (h x (inl refl) k)

  pub insert_last : (X : List Entry) (r : ℕ) → Low X → last_of (insert e X) r ≡ last_of (e ∷ X) r
  insert_last [] r h = ap (λ z. last_of z r) (insert_nil e)
  insert_last (x ∷ xs) r h = ⊎_elim
      (λ under. ap (λ z. last_of z r) (insert_under e x xs under) ∙ last_swap x xs (insert e xs) r (apart_from x xs h under) (insert_last xs r (λ p i. h p (inr i))))
      (λ over. ap (λ z. last_of z r) (insert_over e x xs over)) (bool_or (comes e x))

  pub insert_in : (X : List Entry) (p : Entry) → In p (insert e X) → (p ≡ e) ⊎ In p X
  insert_in [] p i = subst (λ z. In p z → (p ≡ e) ⊎ ⊥) (sym (insert_nil e)) (λ j. j) i
  insert_in (x ∷ xs) p i = ⊎_elim
      (λ under. ⊎_elim (λ k. inr (inl k)) (λ k. ⊎_elim (λ m. inl m) (λ m. inr (inr m)) (insert_in xs p k)) (subst (In p) (insert_under e x xs under) i))
      (λ over. subst (In p) (insert_over e x xs over) i) (bool_or (comes e x))

  -- the same entry behind another list that has the same of its region and its stamp
  pub continues_too : (x : Entry) (X Y : List Entry) → last_of Y x.call.region ≡ last_of X x.call.region → (x.stamp.update ≡ true → (a : ℕ) → wrote Y x.stamp.at a ≡ none) → Continues key X x → Continues key Y x
  continues_too x X Y same fresh c = record {
    used = ap (λ z. (region_after (used_at key x.call.region) z).used) same ∙ c.used;
    call = subst (λ z. Succeeds x.call (region_after (used_at key x.call.region) z).last) (sym same) c.call;
    later = subst (IsLater x) (sym same) c.later;
    runs = c.runs;
    lane = c.lane;
    fresh = fresh;
    reader = c.reader;
    writer = c.writer;
    stamped = c.stamped;
    stays = c.stays;
  }

  pub insert_sorted : (X : List Entry) → Sorted key X → Continues key X e → Low X → Alone X → Sorted key (insert e X)
  insert_sorted [] h c low n = subst (Sorted key) (sym (insert_nil e)) (c, (λ p i. absurd i), tt)
  insert_sorted (x ∷ xs) h c low n = ⊎_elim
      (λ under. let far = apart_from x xs low under in let less : Low xs = (λ p i. low p (inr i)) in let reads = ranks x (n x (inl refl)) under in
      subst (Sorted key) (sym (insert_under e x xs under)) (
        continues_too x xs (insert e xs) (insert_last xs x.call.region less ∙ ne_cond e.call.region x.call.region (some e) (last_of xs x.call.region) (λ k. far (sym k)))
            (λ up a. insert_wrote xs x.stamp.at a h.2 (λ p i. n p (inr i)) ∙ (wrote_else e xs x.stamp.at a (λ k. clash x.stamp.update up (reads k)) ∙ h.0.fresh up a)) h.0,
        (λ p i. ⊎_elim (λ k. subst (λ (q : Entry). comes q x ≡ true) (sym k) under) (λ k. h.1 p k) (insert_in xs p i)),
        insert_sorted xs h.2 (continues_too e (x ∷ xs) xs (sym (ne_cond x.call.region e.call.region (some x) (last_of xs e.call.region) far))
            (λ up a. dite (ℕ_discrete x.stamp.at e.stamp.at)
            (λ k. sym (wrote_unread x xs e.stamp.at a (ap (λ m. lookup (pairs m) a) (h.0.reader (reads (sym k))))) ∙ c.fresh up a)
            (λ k. sym (wrote_else x xs e.stamp.at a k) ∙ c.fresh up a)) c) less (λ p i. n p (inr i)),
      ))
      (λ over. let first : comes x e ≡ true = dite (ℕ_discrete x.call.region e.call.region) (λ k. low x (inl refl) k) (λ k. comes_either e x c.lane h.0.lane (λ m. k (sym m)) over) in
      subst (Sorted key) (sym (insert_over e x xs over)) (c, (λ p i. ⊎_elim (λ k. subst (λ (q : Entry). comes q e ≡ true) (sym k) first) (λ k. comes_chain p x e (h.1 p k) first) i), h)) (bool_or (comes e x))
