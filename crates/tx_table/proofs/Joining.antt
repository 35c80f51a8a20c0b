-- Joins keep the rule, and the opening meets it.
use Rattle.std.proofs.Common.{◌==◌, ◌++◌, ◌≡◌, ◌≢◌, ◌⊎◌, ℕ, zero, suc, ◌+◌, ◌*◌, ◌<◌, ◌≤◌, true, false, cond, List, [], ◌∷◌, get_or, set, sym, refl, ap, ◌∙◌, subst, inl, inr, ⊎_elim, arith}
use mathlib.Core.Option.{some, some-ne-none}
use mathlib.Core.Logic.{dite}
use native.Mathlib.Decide.{ℕ_discrete}
use lib.ListN.{get_elem?}
use Rattle.atomic_table.specs.Table.{State}
use Rattle.jmodel.specs.history.History.{Entry}
use Rattle.tx_table.specs.Book.{lookup, Has, In, Unticked, Face, Book}
use Rattle.tx_table.specs.Rule.{Story, used_at, start, stripe, Faces, World, Knows, Grip, weigh, faces, code, Numbers, IsSole, world}
use Rattle.tx_table.specs.Steps.{IsKept}
use Rattle.tx_table.proofs.MapLaws.{eq_cond, ne_cond, lookup_append}
use Rattle.tx_table.proofs.Private.{faces_here, faces_else, face_at, each_stays, world_of, total_set, same_faces}
use Rattle.tx_table.proofs.Settled.{ticked_busy, decided_busy}
use Rattle.tx_table.proofs.Turns.{Turn, annals_turn, knows_turns, grip_turns}
use Rattle.atomic_table.proofs.Lists.{at_set, set_else}
use Rattle.tx_table.specs.Plays.{spent_book, joined}

in_append : (xs ys : List Entry) (e : Entry) → In e (xs ++ ys) → In e xs ⊎ In e ys
in_append [] ys e i = inr i
in_append (x ∷ xs) ys e i = ⊎_elim (λ h. inl (inl h)) (λ h. ⊎_elim (λ k. inl (inr k)) (λ k. inr k) (in_append xs ys e h)) i

weigh_append : (h : Entry → ℕ) (xs ys : List Entry) → weigh h (xs ++ ys) ≡ weigh h xs + weigh h ys
weigh_append h [] ys = omega arith
weigh_append h (x ∷ xs) ys = let p = weigh_append h xs ys in omega arith

module _ {S : Type 0} (key : Story) (s : State S Book) (r : IsKept key s) (me : ℕ) (v : Book) (at : get_elem? s.views me ≡ some v) (you : ℕ) (apart : you ≢ me) (w : Book) (there : get_elem? (set s.views me (joined v w)) you ≡ some w)
    (calm : v.face.stage ≡ Unticked) (none_mine : v.face.held ≡ []) (your_calm : w.face.stage ≡ Unticked) (none_yours : w.face.held ≡ []) (some_mine : 0 < v.numbers) where
  abbrev both : Book
  both = joined v w

  abbrev middle : List Book
  middle = set s.views me both

  abbrev views' : List Book
  views' = set middle you spent_book

  abbrev W : World
  W = world_of key s r

  abbrev keeper' : ℕ → ℕ
  keeper' k = cond (r.keeper k == you) me (r.keeper k)

  abbrev s' : State S Book
  s' = record { words = s.words; homes = s.homes; views = views' }

  abbrev W' : World
  W' = world s'.words s'.views r.ver r.holder r.whose keeper' r.log

  your_at : get_elem? s.views you ≡ some w
  your_at = sym (set_else s.views me you both apart) ∙ there

  your_face : faces s.views you ≡ w.face
  your_face = face_at s.views you w your_at

  same_but : (k : ℕ) → k ≢ you → faces views' k ≡ faces s.views k
  same_but k n = faces_else middle you k spent_book n ∙ ap (λ (F : Faces). F k) (same_faces s.views me v both at refl)

  now : faces views' you ≡ spent_book.face
  now = faces_here middle you w spent_book there

  calm_now : (faces views' you).stage ≡ Unticked
  calm_now = ap (λ (f : Face). f.stage) now

  calm_was : (faces s.views you).stage ≡ Unticked
  calm_was = ap (λ (f : Face). f.stage) your_face ∙ your_calm

  mine : Knows (start key) (used_at key) W me v
  mine = r.each me v at

  yours : Knows (start key) (used_at key) W you w
  yours = r.each you w your_at

  none_held : (i : ℕ) → r.holder i ≡ suc you → ⊥
  none_held i h = some-ne-none (2 * r.ver i) (sym ((r.locks.grip you).listed i h) ∙ ap (λ (f : Face). lookup f.held i) your_face ∙ ap (λ m. lookup m i) none_yours)

  none_here : (i : ℕ) → r.holder i ≡ suc me → ⊥
  none_here i h = some-ne-none (2 * r.ver i) (sym ((r.locks.grip me).listed i h) ∙ ap (λ (f : Face). lookup f.held i) (face_at s.views me v at) ∙ ap (λ m. lookup m i) none_mine)

  turn : Turn (start key) (used_at key) W W' you
  turn = record {
    later = omega arith;
    others = same_but;
    clear = λ t b l d. absurd (ticked_busy (faces views' you).stage d calm_now);
    values = λ c t b m l h. refl;
    gained = λ i k m h. (h, refl);
    kept = λ i k m h. h;
    moved = λ i. inl refl;
    busy = λ i h b. absurd (b calm_now);
    caught = λ i h d. absurd (decided_busy (faces s.views you).stage d calm_was);
    signed = λ t k m l h. (h, λ b. refl);
  }

  keeps_else : (q k : ℕ) → k ≢ you → r.keeper q ≡ k → keeper' q ≡ k
  keeps_else q k n e = ne_cond (r.keeper q) you me (r.keeper q) (λ h. n (sym e ∙ h)) ∙ e

  keeps_yours : (q : ℕ) → r.keeper q ≡ you → keeper' q ≡ me
  keeps_yours q e = eq_cond (r.keeper q) you me (r.keeper q) e

  dead : {A : Type 0} → false ≡ true → A
  dead l = absurd (let z : false ≡ true = l in cc z)

  both_knows : Knows (start key) (used_at key) W' me both
  both_knows = record {
    known = omega (arith, mine.known, yours.known);
    bounded = omega (arith, mine.bounded);
    stamps = λ e i. ⊎_elim (λ h. let l = mine.stamps e h in omega arith) (λ h. let l = yours.stamps e h in omega arith) (in_append v.entries w.entries e i);
    ticked = λ d. absurd (ticked_busy v.face.stage d calm);
    decided = λ d. refl;
    aim = λ i h. absurd (none_here i h);
    own_reads = λ a x l. dead l;
    reads = λ a x l. dead l;
    checked = λ a x l. dead l;
    goal = λ l. dead l;
    ahead = λ l u. dead l;
    look = λ l. tt;
    regions = λ q u e. ⊎_elim (λ f. let g = mine.regions q u f in (keeps_else q me (λ h. apart (sym h)) g.0, g.1, (let l = g.2 in omega arith), λ l. dead l)) (λ f. let g = yours.regions q u f in (keeps_yours q g.0, g.1, (let l = g.2 in omega arith), λ l. dead l)) (lookup_append v.regions w.regions q u e);
  }

  spent_knows : Knows (start key) (used_at key) W' you spent_book
  spent_knows = record {
    known = omega arith;
    bounded = omega arith;
    stamps = λ e i. absurd i;
    ticked = λ d. absurd (ticked_busy Unticked d refl);
    decided = λ d. refl;
    aim = λ i h. absurd (none_held i h);
    own_reads = λ a x l. dead l;
    reads = λ a x l. dead l;
    checked = λ a x l. dead l;
    goal = λ l. dead l;
    ahead = λ l u. dead l;
    look = λ l. tt;
    regions = λ q u e. absurd (some-ne-none u (sym e));
  }

  same_code : (i : ℕ) → code (faces views') (r.holder i) (r.ver i) ≡ code (faces s.views) (r.holder i) (r.ver i)
  same_code i = by_holder (r.holder i) refl
    where
      by_holder : (h : ℕ) → r.holder i ≡ h → code (faces views') h (r.ver i) ≡ code (faces s.views) h (r.ver i)
      by_holder zero e = refl
      by_holder (suc k) e = ap (λ (f : Face). 2 * f.number + 1) (same_but k (λ h. none_held i (e ∙ ap suc h)))

  each_of : (P : ℕ → Book → Type 0) → P me both → P you spent_book → ((j : ℕ) (b : Book) → j ≢ me → j ≢ you → get_elem? s.views j ≡ some b → P j b) → (j : ℕ) (b : Book) → get_elem? views' j ≡ some b → P j b
  each_of P l m h = each_stays P middle you spent_book m (λ j b n e. ⊎_elim (λ (t : (j ≡ me) × (both ≡ b)). subst (λ (x : ℕ × Book). P x.0 x.1) (λ i. (sym t.0 i, t.1 i)) l) (λ (t : (j ≢ me) × (get_elem? s.views j ≡ some b)). h j b t.0 n t.1) (at_set s.views me j both b e))

  -- where a book of the join comes from: both, the spent one, or another
  abbrev Origin : ℕ → Book → Type 0
  Origin k b = ((k ≡ me) × (b ≡ both)) ⊎ (((k ≡ you) × (b ≡ spent_book)) ⊎ ((k ≢ me) × (k ≢ you) × (get_elem? s.views k ≡ some b)))

  origin : (k : ℕ) (b : Book) → get_elem? views' k ≡ some b → Origin k b
  origin = each_of Origin (inl (refl, refl)) (inr (inl (refl, refl))) (λ j b n m e. inr (inr (n, m, e)))

  number_of : (b c : Book) → b ≡ c → (b.face.number ≡ c.face.number) × (b.numbers ≡ c.numbers) × (b.fresh ≡ c.fresh)
  number_of b c e = (ap (λ (x : Book). x.face.number) e, ap (λ (x : Book). x.numbers) e, ap (λ (x : Book). x.fresh) e)

  one_fresh : (v.fresh ≡ 0) ⊎ (w.fresh ≡ 0)
  one_fresh = r.distinct.single me you v w (λ h. apart (sym h)) at your_at

  under : (j : ℕ) (b : Book) → get_elem? s.views j ≡ some b → 0 < b.numbers → (b.face.number ≡ 0) ⊎ (v.fresh + w.fresh < b.face.number)
  under j b e has = let g = r.distinct.given j me b v e at has in let k = r.distinct.given j you b w e your_at has in
      ⊎_elim (λ z. ⊎_elim (λ y. inl y) (λ y. inr (omega (arith, z, y))) k) (λ z. ⊎_elim (λ y. inl y) (λ y. inr (omega (arith, z, y))) g) one_fresh

  distinct : Numbers views'
  distinct = record {
    stock = λ j b e. ⊎_elim (λ t. let n = number_of b both t.1 in let l = r.distinct.stock me v at in let m = r.distinct.stock you w your_at in ⊎_elim (λ z. omega (arith, n.2, z, m)) (λ z. omega (arith, n.2, z, l)) one_fresh)
        (λ t. ⊎_elim (λ u. let n = number_of b spent_book u.1 in omega (arith, n.2)) (λ u. r.distinct.stock j b u.2) t) (origin j b e);
    single = λ j k b c m e f. ⊎_elim
        (λ t. let n = number_of b both t.1 in ⊎_elim (λ u. absurd (m (t.0 ∙ sym u.0))) (λ u. ⊎_elim (λ y. inr (number_of c spent_book y.1).2)
        (λ y. ⊎_elim (λ z. inr z) (λ z. ⊎_elim (λ x. inr x) (λ x. inl (omega (arith, n.2, z, x))) (r.distinct.single k you c w y.1 y.2 your_at)) (r.distinct.single k me c v y.0 y.2 at)) u) (origin k c f))
        (λ t. ⊎_elim (λ y. inl (number_of b spent_book y.1).2) (λ y. ⊎_elim
        (λ u. let n = number_of c both u.1 in ⊎_elim (λ z. inl z) (λ z. ⊎_elim (λ x. inl x) (λ x. inr (omega (arith, n.2, z, x))) (r.distinct.single j you b w y.1 y.2 your_at)) (r.distinct.single j me b v y.0 y.2 at))
        (λ u. ⊎_elim (λ x. inr (number_of c spent_book x.1).2) (λ x. r.distinct.single j k b c m y.2 x.2) u) (origin k c f)) t) (origin j b e);
    given = λ j k b c e f has. let from : (i : ℕ) (d : Book) → get_elem? s.views i ≡ some d → 0 < d.numbers → (d.face.number ≡ 0) ⊎ (c.fresh < d.face.number) = λ i d g more. ⊎_elim
        (λ u. let q = number_of c both u.1 in ⊎_elim (λ z. inl z) (λ z. inr (omega (arith, z, q.2))) (under i d g more))
        (λ u. ⊎_elim (λ y. let q = number_of c spent_book y.1 in dite (ℕ_discrete d.face.number 0) (λ h. inl h) (λ h. inr (omega (arith, q.2, h)))) (λ y. r.distinct.given i k d c g y.2 more) u) (origin k c f) in ⊎_elim
        (λ t. let n = number_of b both t.1 in ⊎_elim (λ z. inl (n.0 ∙ z)) (λ z. inr (omega (arith, z, n.0))) (from me v at some_mine))
        (λ t. ⊎_elim (λ y. let n = number_of b spent_book y.1 in absurd (omega (arith, has, n.1))) (λ y. from j b y.2 has) t) (origin j b e);
    differ = λ j k b c m e f some more same. ⊎_elim
        (λ t. let n = number_of b both t.1 in ⊎_elim (λ u. m (t.0 ∙ sym u.0)) (λ u. ⊎_elim (λ y. let q = number_of c spent_book y.1 in absurd (omega (arith, more, q.1)))
        (λ y. r.distinct.differ me k v c (λ h. y.0 (sym h)) at y.2 some_mine more (sym n.0 ∙ same)) u) (origin k c f))
        (λ t. ⊎_elim (λ y. let n = number_of b spent_book y.1 in absurd (omega (arith, some, n.1))) (λ y. ⊎_elim
        (λ u. let q = number_of c both u.1 in r.distinct.differ j me b v y.0 y.2 at some some_mine (same ∙ q.0))
        (λ u. ⊎_elim (λ x. let q = number_of c spent_book x.1 in absurd (omega (arith, more, q.1))) (λ x. r.distinct.differ j k b c m y.2 x.2 some more same) u) (origin k c f)) t) (origin j b e);
  }

  pub join_kept : IsKept key s'
  join_kept = let t = total_set (λ b. b.ticks) s.views me v both at in let u = total_set (λ b. b.ticks) middle you w spent_book there in
      let p = total_set (λ b. b.numbers) s.views me v both at in let q = total_set (λ b. b.numbers) middle you w spent_book there in record {
        ver = r.ver;
        holder = r.holder;
        whose = r.whose;
        keeper = keeper';
        log = r.log;
        wide = r.wide;
        clock_is = omega (arith, r.clock_is, t, u);
        stripes = λ i l. r.stripes i l ∙ sym (same_code i);
        locks = record {
          young = r.locks.young;
          grip = λ k. dite (ℕ_discrete k you)
              (λ e. subst (λ (j : ℕ). Grip (start key) (used_at key) W' j (faces views' j)) (sym e) (subst (Grip (start key) (used_at key) W' you) (sym now) record {
                listed = λ i h. absurd (none_held i h);
                only = λ i y h. absurd (some-ne-none y (sym h));
                over = λ i h b. absurd (none_held i h);
                owns = λ a d. absurd (ticked_busy Unticked d refl);
                left = λ a y h. absurd (some-ne-none y (sym h));
                ticks = λ b. absurd (b refl);
                apart = λ i d. absurd (ticked_busy Unticked d refl);
                unused = λ a d. absurd (ticked_busy Unticked d refl);
                placed = λ a d. absurd (decided_busy Unticked d refl);
              }))
              (λ m. grip_turns (start key) (used_at key) W W' you turn (λ b. ((r.locks.grip you).ticks b).1) k m (r.locks.grip k));
          quiet = λ t a y l e. let g = r.locks.quiet t a y l e in let n : g.0 ≢ you = λ h. none_held (stripe a) (g.1 ∙ ap suc h) in
              (g.0, g.1, ap (λ (f : Face). f.stage) (same_but g.0 n) ∙ g.2, ap (λ (f : Face). f.tick) (same_but g.0 n) ∙ g.3);
          heap = λ a. ⊎_elim (λ e. inl e) (λ (h : (k : ℕ) × Has (faces s.views k).left a). let d = (r.locks.grip h.0).left a h.1.0 h.1.1 in
              inr (h.0, (h.1.0, ap (λ (f : Face). lookup f.left a) (same_but h.0 (λ e. none_held (stripe a) (d.2 ∙ ap suc e))) ∙ h.1.1))) (r.locks.heap a);
          ended = r.locks.ended;
        };
        annals = annals_turn (start key) (used_at key) W W' you turn r.log r.annals;
        chain = r.chain;
        account = λ h. let a = total_set (λ b. weigh h b.entries) s.views me v both at in let b = total_set (λ b. weigh h b.entries) middle you w spent_book there in let q = r.account h in omega (arith, weigh_append h v.entries w.entries, a, b, q);
        each = each_of (Knows (start key) (used_at key) W') both_knows spent_knows (λ j b n m e. knows_turns (start key) (used_at key) W W' you turn j b m (λ q _ k. (keeps_else q j m k, refl)) (r.each j b e));
        counts = record {
          numbers = omega (arith, r.counts.numbers, p, q);
          spare = each_of (λ j b. b.ticks ≤ b.numbers * 1099511627776) (let m = r.counts.spare me v at in let n = r.counts.spare you w your_at in omega arith) (omega arith) (λ j b n m e. r.counts.spare j b e);
          number = each_of (λ j b. b.face.number < 1048576) (r.counts.number me v at) (omega arith) (λ j b n m e. r.counts.number j b e);
          idle = each_of (λ j b. b.numbers ≡ 0 → (b.entries ≡ []) × (b.face.held ≡ [])) (λ z. let g = r.counts.idle me v at (omega arith) in let k = r.counts.idle you w your_at (omega arith) in ((λ i. g.0 i ++ k.0 i), none_mine)) (λ z. (refl, refl)) (λ j b n m e. r.counts.idle j b e);
        };
        distinct = distinct;
        sole = each_of (λ j b. b.numbers ≡ 1048576 → b.live ≡ true → IsSole (get_or s.words 0 0) b) (λ n l. dead l) (λ n l. dead l) (λ j b n m e. r.sole j b e);
      }
