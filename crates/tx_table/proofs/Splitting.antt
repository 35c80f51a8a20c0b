-- Splits and joins keep the rule.
use Rattle.std.proofs.Common.{◌==◌, ◌++◌, ◌≡◌, ◌≢◌, ◌⊎◌, ℕ, zero, suc, ◌+◌, ◌*◌, ◌<◌, ◌≤◌, Bool, true, false, cond, List, [], ◌∷◌, length, get_or, set, sym, refl, ap, ◌∙◌, subst, inl, inr, ⊎_elim, arith, length-set}
use mathlib.Core.Option.{none, some, some-injective, some-ne-none}
use mathlib.Core.Logic.{dite}
use native.Mathlib.Decide.{ℕ_discrete}
use lib.ListN.{get_elem?}
use Rattle.atomic_table.specs.Table.{State}
use Rattle.tx_table.specs.Book.{lookup, Has, Unticked, Face, Book}
use Rattle.tx_table.specs.Rule.{Story, used_at, start, stripe, Faces, World, Knows, Grip, total, weigh, nobody, face_of, faces, code, Numbers, IsSole, world}
use Rattle.tx_table.specs.Steps.{IsKept}
use Rattle.tx_table.proofs.MapLaws.{eq_cond, ne_cond, lookup_only}
use Rattle.tx_table.proofs.Private.{each_stays, world_of, total_set, same_faces, one_le}
use Rattle.tx_table.proofs.Settled.{ticked_busy, decided_busy}
use Rattle.tx_table.proofs.Turns.{Turn, annals_turn, knows_turns, grip_turns}
use Rattle.atomic_table.proofs.Lists.{at_set, at_last}
use Rattle.tx_table.specs.Plays.{inverse, stays_here, goes_out}

total_snoc : (f : Book → ℕ) (views : List Book) (w : Book) → total f (views ++ w ∷ []) ≡ total f views + f w
total_snoc f [] w = omega arith
total_snoc f (x ∷ xs) w = let h = total_snoc f xs w in omega arith

-- a view past the end
nobody_there : (views : List Book) (n : ℕ) → n ≡ length views → get_elem? views n ≡ none
nobody_there [] n e = refl
nobody_there (x ∷ xs) zero e = absurd (omega arith)
nobody_there (x ∷ xs) (suc n) e = nobody_there xs n (omega arith)

snoc_else : (views : List Book) (w : Book) (k : ℕ) → k ≢ length views → get_elem? (views ++ w ∷ []) k ≡ get_elem? views k
snoc_else [] w zero n = absurd (n refl)
snoc_else [] w (suc k) n = refl
snoc_else (x ∷ xs) w zero n = refl
snoc_else (x ∷ xs) w (suc k) n = snoc_else xs w k (λ e. n (omega arith))

snoc_or : (views : List Book) (w b : Book) (k : ℕ) → get_elem? (views ++ w ∷ []) k ≡ some b → ((k ≢ length views) × (get_elem? views k ≡ some b)) ⊎ ((k ≡ length views) × (w ≡ b))
snoc_or views w b k e = dite (ℕ_discrete k (length views))
    (λ h. inr (h, some-injective w b (sym (at_last views w k (sym h)) ∙ e)))
    (λ n. inl (n, sym (snoc_else views w k n) ∙ e))

inverse_true : (p : ℕ → Bool) (k : ℕ) → inverse p k ≡ true → p k ≡ false
inverse_true p k e = at (p k) refl
  where
    at : (b : Bool) → p k ≡ b → p k ≡ false
    at false f = f
    at true f = let z : false ≡ true = ap (λ c. cond c false true) (sym f) ∙ e in cc z

module _ {S : Type 0} (key : Story) (s : State S Book) (r : IsKept key s) (me : ℕ) (v : Book) (at : get_elem? s.views me ≡ some v) (given : ℕ → Bool) (room : 1 < v.numbers) (small : v.ticks ≤ 1099511627776) (some_fresh : 0 < v.fresh) where
  few : v.fresh < 1048576
  few = r.distinct.stock me v at

  abbrev left : Book
  left = stays_here given v

  abbrev right : Book
  right = goes_out given v

  abbrev new : ℕ
  new = length s.views

  abbrev views' : List Book
  views' = set s.views me left ++ right ∷ []

  abbrev W : World
  W = world_of key s r

  abbrev keeper' : ℕ → ℕ
  keeper' k = cond (given k) (cond (r.keeper k == me) new (r.keeper k)) (r.keeper k)

  abbrev s' : State S Book
  s' = record { words = s.words; homes = s.homes; views = views' }

  abbrev W' : World
  W' = world s'.words s'.views r.ver r.holder r.whose keeper' r.log

  wide : length (set s.views me left) ≡ new
  wide = length-set s.views me left

  same_but : (k : ℕ) → k ≢ new → faces views' k ≡ faces s.views k
  same_but k n = ap face_of (snoc_else (set s.views me left) right k (λ e. n (e ∙ wide))) ∙ ap (λ (F : Faces). F k) (same_faces s.views me v left at refl)

  now : faces views' new ≡ right.face
  now = ap face_of (at_last (set s.views me left) right new wide)

  was : faces s.views new ≡ nobody
  was = ap face_of (nobody_there s.views new refl)

  calm_now : (faces views' new).stage ≡ Unticked
  calm_now = ap (λ (f : Face). f.stage) now

  calm_was : (faces s.views new).stage ≡ Unticked
  calm_was = ap (λ (f : Face). f.stage) was

  none_held : (i : ℕ) → r.holder i ≡ suc new → ⊥
  none_held i h = some-ne-none (2 * r.ver i) (sym ((r.locks.grip new).listed i h) ∙ ap (λ (f : Face). lookup f.held i) was)

  turn : Turn (start key) (used_at key) W W' new
  turn = record {
    later = omega arith;
    others = same_but;
    clear = λ t b l d. absurd (ticked_busy (faces views' new).stage d calm_now);
    values = λ c t b m l h. refl;
    gained = λ i k m h. (h, refl);
    kept = λ i k m h. h;
    moved = λ i. inl refl;
    busy = λ i h b. absurd (b calm_now);
    caught = λ i h d. absurd (decided_busy (faces s.views new).stage d calm_was);
    signed = λ t k m l h. (h, λ b. refl);
  }

  mine : Knows (start key) (used_at key) W me v
  mine = r.each me v at

  keeps_else : (q k : ℕ) → k ≢ me → r.keeper q ≡ k → keeper' q ≡ k
  keeps_else q k n e = by_test (given q) refl
    where
      by_test : (b : Bool) → given q ≡ b → keeper' q ≡ k
      by_test true f = ap (λ c. cond c (cond (r.keeper q == me) new (r.keeper q)) (r.keeper q)) f ∙ (ne_cond (r.keeper q) me new (r.keeper q) (λ h. n (sym e ∙ h)) ∙ e)
      by_test false f = ap (λ c. cond c (cond (r.keeper q == me) new (r.keeper q)) (r.keeper q)) f ∙ e

  keeps_here : (q : ℕ) → given q ≡ false → r.keeper q ≡ me → keeper' q ≡ me
  keeps_here q f e = ap (λ c. cond c (cond (r.keeper q == me) new (r.keeper q)) (r.keeper q)) f ∙ e

  keeps_new : (q : ℕ) → given q ≡ true → r.keeper q ≡ me → keeper' q ≡ new
  keeps_new q f e = ap (λ c. cond c (cond (r.keeper q == me) new (r.keeper q)) (r.keeper q)) f ∙ eq_cond (r.keeper q) me new (r.keeper q) e

  left_knows : Knows (start key) (used_at key) W me left
  left_knows = record {
    known = mine.known;
    bounded = mine.bounded;
    stamps = mine.stamps;
    ticked = mine.ticked;
    decided = mine.decided;
    aim = mine.aim;
    own_reads = mine.own_reads;
    reads = mine.reads;
    checked = mine.checked;
    goal = mine.goal;
    ahead = mine.ahead;
    look = mine.look;
    regions = λ q u e. mine.regions q u (lookup_only (inverse given) v.regions q u e).1;
  }

  right_knows : Knows (start key) (used_at key) W' new right
  right_knows = record {
    known = mine.known;
    bounded = omega arith;
    stamps = λ e i. absurd i;
    ticked = λ d. absurd (ticked_busy Unticked d refl);
    decided = λ d. refl;
    aim = λ i h. absurd (none_held i h);
    own_reads = λ a x l e. absurd e;
    reads = λ a x l e. absurd e;
    checked = λ a x d h e. absurd e;
    goal = λ l. let z : false ≡ true = l in cc z;
    ahead = λ l u. let z : false ≡ true = l in cc z;
    look = λ l. tt;
    regions = λ q u e. let f = lookup_only given v.regions q u e in let g = mine.regions q u f.1 in (keeps_new q f.0 g.0, g.1, g.2, λ l. let z : false ≡ true = l in cc z);
  }

  old_each : (j : ℕ) (b : Book) → get_elem? (set s.views me left) j ≡ some b → j ≢ new → Knows (start key) (used_at key) W' j b
  old_each j b e n = ⊎_elim
      (λ (t : (j ≡ me) × (left ≡ b)). subst (λ (x : ℕ × Book). Knows (start key) (used_at key) W' x.0 x.1) (λ i. (sym t.0 i, t.1 i))
      (knows_turns (start key) (used_at key) W W' new turn me left (λ h. n (t.0 ∙ h))
      (λ q u k. (keeps_here q (inverse_true given q (lookup_only (inverse given) v.regions q u.0 u.1).0) k, refl)) left_knows))
      (λ (t : (j ≢ me) × (get_elem? s.views j ≡ some b)). knows_turns (start key) (used_at key) W W' new turn j b n (λ q h k. (keeps_else q j t.0 k, refl)) (r.each j b t.1)) (at_set s.views me j left b e)

  same_code : (i : ℕ) → code (faces views') (r.holder i) (r.ver i) ≡ code (faces s.views) (r.holder i) (r.ver i)
  same_code i = by_holder (r.holder i) refl
    where
      by_holder : (h : ℕ) → r.holder i ≡ h → code (faces views') h (r.ver i) ≡ code (faces s.views) h (r.ver i)
      by_holder zero e = refl
      by_holder (suc k) e = ap (λ (f : Face). 2 * f.number + 1) (same_but k (λ h. none_held i (e ∙ ap suc h)))

  -- where a book of the split comes from: this pass, the new one, or another
  abbrev Origin : ℕ → Book → Type 0
  Origin k b = ((k ≡ me) × (b ≡ left)) ⊎ (((k ≡ new) × (b ≡ right)) ⊎ ((k ≢ me) × (k ≢ new) × (get_elem? s.views k ≡ some b)))

  origin : (k : ℕ) (b : Book) → get_elem? views' k ≡ some b → Origin k b
  origin k b e = ⊎_elim
      (λ (t : (k ≢ length (set s.views me left)) × (get_elem? (set s.views me left) k ≡ some b)). ⊎_elim (λ (u : (k ≡ me) × (left ≡ b)). inl (u.0, sym u.1)) (λ (u : (k ≢ me) × (get_elem? s.views k ≡ some b)). inr (inr (u.0, (λ h. t.0 (h ∙ sym wide)), u.1))) (at_set s.views me k left b t.1))
      (λ (t : (k ≡ length (set s.views me left)) × (right ≡ b)). inr (inl (t.0 ∙ wide, sym t.1))) (snoc_or (set s.views me left) right b k e)

  number_of : (b c : Book) → b ≡ c → (b.face.number ≡ c.face.number) × (b.numbers ≡ c.numbers) × (b.fresh ≡ c.fresh)
  number_of b c e = (ap (λ (x : Book). x.face.number) e, ap (λ (x : Book). x.numbers) e, ap (λ (x : Book). x.fresh) e)

  -- another book has no fresh number
  spare_else : (k : ℕ) (b : Book) → k ≢ me → get_elem? s.views k ≡ some b → b.fresh ≡ 0
  spare_else k b n e = ⊎_elim (λ z. z) (λ z. absurd (omega (arith, z, some_fresh))) (r.distinct.single k me b v n e at)

  distinct : Numbers views'
  distinct = record {
    stock = λ j b e. ⊎_elim (λ t. let n = number_of b left t.1 in omega (arith, few, n.2))
        (λ t. ⊎_elim (λ u. let n = number_of b right u.1 in omega (arith, n.2)) (λ u. r.distinct.stock j b u.2) t) (origin j b e);
    single = λ j k b c m e f. ⊎_elim
        (λ t. ⊎_elim (λ u. absurd (m (t.0 ∙ sym u.0))) (λ u. ⊎_elim (λ w. inr (number_of c right w.1).2) (λ w. inr (spare_else k c w.0 w.2)) u) (origin k c f))
        (λ t. ⊎_elim (λ w. inl (number_of b right w.1).2) (λ w. inl (spare_else j b w.0 w.2)) t) (origin j b e);
    given = λ j k b c e f some. ⊎_elim
        (λ t. let n = number_of b left t.1 in ⊎_elim (λ u. let q = number_of c left u.1 in ⊎_elim (λ z. inl (n.0 ∙ z)) (λ z. inr (omega (arith, z, n.0, q.2))) (r.distinct.given me me v v at at (omega (arith, room))))
        (λ u. let z : c.fresh ≡ 0 = ⊎_elim (λ w. (number_of c right w.1).2) (λ w. spare_else k c w.0 w.2) u in dite (ℕ_discrete b.face.number 0) (λ h. inl h) (λ h. inr (omega (arith, z, h)))) (origin k c f))
        (λ t. ⊎_elim (λ w. let n = number_of b right w.1 in ⊎_elim (λ u. let q = number_of c left u.1 in inr (omega (arith, n.0, q.2, some_fresh)))
        (λ u. let z : c.fresh ≡ 0 = ⊎_elim (λ y. (number_of c right y.1).2) (λ y. spare_else k c y.0 y.2) u in inr (omega (arith, n.0, z, some_fresh))) (origin k c f))
        (λ w. ⊎_elim (λ u. let q = number_of c left u.1 in ⊎_elim (λ z. inl z) (λ z. inr (omega (arith, z, q.2))) (r.distinct.given j me b v w.2 at some))
        (λ u. let z : c.fresh ≡ 0 = ⊎_elim (λ y. (number_of c right y.1).2) (λ y. spare_else k c y.0 y.2) u in dite (ℕ_discrete b.face.number 0) (λ h. inl h) (λ h. inr (omega (arith, z, h)))) (origin k c f)) t) (origin j b e);
    differ = λ j k b c m e f some more same. ⊎_elim
        (λ t. let n = number_of b left t.1 in ⊎_elim (λ u. m (t.0 ∙ sym u.0)) (λ u. ⊎_elim
        (λ w. let q = number_of c right w.1 in ⊎_elim (λ z. absurd (omega (arith, same, n.0, q.0, z, some_fresh))) (λ z. absurd (omega (arith, same, n.0, q.0, z))) (r.distinct.given me me v v at at (omega (arith, room))))
        (λ w. r.distinct.differ me k v c (λ h. w.0 (sym h)) at w.2 (omega (arith, room)) more (sym n.0 ∙ same)) u) (origin k c f))
        (λ t. ⊎_elim
        (λ w. let n = number_of b right w.1 in ⊎_elim
        (λ u. let q = number_of c left u.1 in ⊎_elim (λ z. absurd (omega (arith, same, n.0, q.0, z, some_fresh))) (λ z. absurd (omega (arith, same, n.0, q.0, z))) (r.distinct.given me me v v at at (omega (arith, room))))
        (λ u. ⊎_elim (λ y. m (w.0 ∙ sym y.0)) (λ y. ⊎_elim (λ z. absurd (omega (arith, same, n.0, z, some_fresh))) (λ z. absurd (omega (arith, same, n.0, z))) (r.distinct.given k me c v y.2 at more)) u) (origin k c f))
        (λ w. ⊎_elim (λ u. let q = number_of c left u.1 in r.distinct.differ j me b v w.0 w.2 at some (omega (arith, room)) (same ∙ q.0))
        (λ u. ⊎_elim (λ y. let q = number_of c right y.1 in ⊎_elim (λ z. absurd (omega (arith, same, q.0, z, some_fresh))) (λ z. absurd (omega (arith, same, q.0, z))) (r.distinct.given j me b v w.2 at some))
        (λ y. r.distinct.differ j k b c m w.2 y.2 some more same) u) (origin k c f)) t) (origin j b e);
  }

  pub split_kept : IsKept key s'
  split_kept = record {
    ver = r.ver;
    holder = r.holder;
    whose = r.whose;
    keeper = keeper';
    log = r.log;
    wide = r.wide;
    clock_is = (let t = total_set (λ b. b.ticks) s.views me v left at in let u = total_snoc (λ b. b.ticks) (set s.views me left) right in omega (arith, r.clock_is, t, u));
    stripes = λ i l. r.stripes i l ∙ sym (same_code i);
    locks = record {
      young = r.locks.young;
      grip = λ k. dite (ℕ_discrete k new)
          (λ e. subst (λ (j : ℕ). Grip (start key) (used_at key) W' j (faces views' j)) (sym e) (subst (Grip (start key) (used_at key) W' new) (sym now) record {
            listed = λ i h. absurd (none_held i h);
            only = λ i y h. absurd (some-ne-none y (sym h));
            over = λ i h b. absurd (none_held i h);
            owns = λ a d. absurd (ticked_busy Unticked d refl);
            left = λ a y h. absurd (some-ne-none y (sym h));
            ticks = λ b. absurd (b refl);
            apart = λ i d. absurd (ticked_busy Unticked d refl);
            unused = λ a d. absurd (ticked_busy Unticked d refl);
            placed = λ a d. absurd (decided_busy Unticked d refl);
          }))
          (λ m. grip_turns (start key) (used_at key) W W' new turn (λ b. ((r.locks.grip new).ticks b).1) k m (r.locks.grip k));
      quiet = λ t a y l e. let g = r.locks.quiet t a y l e in let n : g.0 ≢ new = λ h. none_held (stripe a) (g.1 ∙ ap suc h) in
          (g.0, g.1, ap (λ (f : Face). f.stage) (same_but g.0 n) ∙ g.2, ap (λ (f : Face). f.tick) (same_but g.0 n) ∙ g.3);
      heap = λ a. ⊎_elim (λ e. inl e) (λ (h : (k : ℕ) × Has (faces s.views k).left a). let d = (r.locks.grip h.0).left a h.1.0 h.1.1 in
          inr (h.0, (h.1.0, ap (λ (f : Face). lookup f.left a) (same_but h.0 (λ e. none_held (stripe a) (d.2 ∙ ap suc e))) ∙ h.1.1))) (r.locks.heap a);
      ended = r.locks.ended;
    };
    annals = annals_turn (start key) (used_at key) W W' new turn r.log r.annals;
    chain = r.chain;
    account = λ h. let t = total_set (λ b. weigh h b.entries) s.views me v left at in let u = total_snoc (λ b. weigh h b.entries) (set s.views me left) right in let q = r.account h in omega arith;
    each = λ j b e. ⊎_elim (λ (t : (j ≢ length (set s.views me left)) × (get_elem? (set s.views me left) j ≡ some b)). old_each j b t.1 (λ h. t.0 (h ∙ sym wide)))
        (λ (t : (j ≡ length (set s.views me left)) × (right ≡ b)). subst (λ (x : ℕ × Book). Knows (start key) (used_at key) W' x.0 x.1) (λ i. (sym (t.0 ∙ wide) i, t.1 i)) right_knows) (snoc_or (set s.views me left) right b j e);
    counts = let each : (P : Book → Type 0) → P left → P right → ((j : ℕ) (b : Book) → get_elem? s.views j ≡ some b → P b) → (j : ℕ) (b : Book) → get_elem? views' j ≡ some b → P b =
        λ P l m h j b e. ⊎_elim (λ (t : (j ≢ length (set s.views me left)) × (get_elem? (set s.views me left) j ≡ some b)). each_stays (λ k c. P c) s.views me left l (λ k c n f. h k c f) j b t.1)
        (λ (t : (j ≡ length (set s.views me left)) × (right ≡ b)). subst P t.1 m) (snoc_or (set s.views me left) right b j e) in record {
          numbers = (let t = total_set (λ b. b.numbers) s.views me v left at in let u = total_snoc (λ b. b.numbers) (set s.views me left) right in omega (arith, r.counts.numbers, t, u, room));
          spare = each (λ b. b.ticks ≤ b.numbers * 1099511627776) (omega (arith, room, small)) (omega arith) r.counts.spare;
          number = each (λ b. b.face.number < 1048576) (r.counts.number me v at) few r.counts.number;
          idle = each (λ b. b.numbers ≡ 0 → (b.entries ≡ []) × (b.face.held ≡ [])) (λ z. absurd (omega arith)) (λ z. absurd (omega arith)) r.counts.idle;
        };
    distinct = distinct;
    sole = λ j b e. ⊎_elim (λ (t : (j ≢ length (set s.views me left)) × (get_elem? (set s.views me left) j ≡ some b)).
        each_stays (λ k c. c.numbers ≡ 1048576 → c.live ≡ true → IsSole (get_or s.words 0 0) c) s.views me left (λ n l. let p = one_le (λ b. b.numbers) s.views me v at in absurd (omega (arith, n, p, room, r.counts.numbers))) (λ k c n f. r.sole k c f) j b t.1)
        (λ (t : (j ≡ length (set s.views me left)) × (right ≡ b)) n l. let z : false ≡ true = ap (λ (c : Book). c.live) t.1 ∙ l in cc z) (snoc_or (set s.views me left) right b j e);
  }
