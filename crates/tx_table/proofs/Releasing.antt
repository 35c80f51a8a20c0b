-- A stripe is released with the new version.
use Rattle.std.proofs.Common.{◌≡◌, ◌≢◌, ℕ, suc, ◌+◌, ◌*◌, ◌<◌, true, false, [], ◌∷◌, get_or, set, sym, refl, ap, ◌∙◌, subst, inl, inr, ⊎_elim, arith}
use mathlib.Core.Option.{some, some-ne-none}
use mathlib.Core.Logic.{dite}
use native.Mathlib.Decide.{ℕ_discrete}
use lib.ListN.{get_elem?}
use Rattle.atomic_table.specs.Table.{State}
use Rattle.tx_table.specs.Book.{Map, lookup, without, Stage, Unticked, Ticked, Decided, Face, Book}
use Rattle.tx_table.specs.Rule.{Story, used_at, start, stripe, wrote, value, World, Knows, Grip, weigh, faces}
use Rattle.tx_table.specs.Steps.{IsKept}
use Rattle.tx_table.specs.Plays.{released, stage_of}
use Rattle.tx_table.proofs.MapLaws.{lookup_kept, lookup_without}
use Rattle.tx_table.proofs.Puts.{put, put_here, put_else, put_or}
use Rattle.tx_table.proofs.Private.{face_at, world_of, same_total}
use Rattle.tx_table.proofs.Settled.{decided_busy}
use Rattle.tx_table.proofs.Turns.{Turn, annals_turn}
use Rattle.tx_table.proofs.Turned.{Next, next_world, Sound, turned, others, here, word_else, heap_kept, counts_kept, stripes_but}

module _ {S : Type 0} (key : Story) (s : State S Book) (r : IsKept key s) (me : ℕ) (v : Book) (at : get_elem? s.views me ≡ some v) (j x old : ℕ) (low : j < 4096) (decided : v.face.stage ≡ Decided) (all : (a y : ℕ) → lookup v.face.left a ≡ some y → ⊥) (held : lookup v.face.held j ≡ some old) (shows : x ≡ 2 * v.face.tick) where
  abbrev w : Book
  w = released v j

  abbrev W : World
  W = world_of key s r

  mine : Knows (start key) (used_at key) W me v
  mine = r.each me v at

  was_face : faces s.views me ≡ v.face
  was_face = face_at s.views me v at

  grip_was : Grip (start key) (used_at key) W me v.face
  grip_was = subst (Grip (start key) (used_at key) W me) was_face (r.locks.grip me)

  now_face : faces (set s.views me w) me ≡ w.face
  now_face = here key s r me v w at (j + 1) x

  was_stage : (z : Stage) → v.face.stage ≡ z → (faces s.views me).stage ≡ z
  was_stage z e = ap (λ (f : Face). f.stage) was_face ∙ e

  was_tick : (faces s.views me).tick ≡ v.face.tick
  was_tick = ap (λ (f : Face). f.tick) was_face

  abbrev n : Next key s r me v w at (j + 1) x
  n = record { ver = put r.ver j v.face.tick; holder = put r.holder j 0; whose = r.whose; keeper = r.keeper; log = r.log }

  abbrev W' : World
  W' = next_world key s r me v w at (j + 1) x n

  own : r.holder j ≡ suc me
  own = grip_was.only j old held

  was_decided : (faces s.views me).stage ≡ Decided
  was_decided = was_stage Decided decided

  busy_was : (faces s.views me).stage ≢ Unticked
  busy_was = decided_busy (faces s.views me).stage was_decided

  now_stage : (faces (set s.views me w) me).stage ≡ w.face.stage
  now_stage = ap (λ (f : Face). f.stage) now_face

  tick_same : (faces (set s.views me w) me).tick ≡ (faces s.views me).tick
  tick_same = ap (λ (f : Face). f.tick) now_face ∙ sym was_tick

  clock_same : get_or (set s.words (j + 1) x) 0 0 ≡ get_or s.words 0 0
  clock_same = word_else key s r me v w at (j + 1) x 0 (λ e. absurd (omega arith))

  low_tick : r.ver j < v.face.tick
  low_tick = grip_was.over j own (decided_busy v.face.stage decided)

  held_before : (i k : ℕ) → put r.holder j 0 i ≡ suc k → (i ≢ j) × (r.holder i ≡ suc k)
  held_before i k e = ⊎_elim (λ (t : (i ≡ j) × (0 ≡ suc k)). let p = t.1 in absurd (omega arith)) (λ (t : (i ≢ j) × (r.holder i ≡ suc k)). t) (put_or r.holder j 0 i (suc k) e)

  -- another stripe that is held keeps the attempt decided
  more : (m : Map ℕ) (i y : ℕ) → lookup m i ≡ some y → stage_of m ≡ Decided
  more [] i y e = absurd (some-ne-none y (sym e))
  more (p ∷ ps) i y e = refl

  unticked : (m : Map ℕ) → stage_of m ≢ Ticked
  unticked [] e = let z : Unticked ≡ Ticked = e in cc z
  unticked (p ∷ ps) e = let z : Decided ≡ Ticked = e in cc z

  still_decided : (i : ℕ) → i ≢ j → r.holder i ≡ suc me → w.face.stage ≡ Decided
  still_decided i m e = more (without v.face.held j) i (2 * r.ver i) (lookup_kept v.face.held j i (λ h. m (sym h)) ∙ grip_was.listed i e)

  turn : Turn (start key) (used_at key) W W' me
  turn = record {
    later = omega (arith, clock_same);
    others = others key s r me v w at (j + 1) x;
    clear = λ t b l ticked. absurd (unticked (without v.face.held j) (sym now_stage ∙ ticked));
    values = λ c t b m l h. refl;
    gained = λ i k m e. let g = held_before i k e in (g.1, put_else r.ver j v.face.tick i g.0);
    kept = λ i k m e. put_else r.holder j 0 i (λ h. let p : suc k ≡ suc me = sym e ∙ (ap r.holder h ∙ own) in m (omega arith)) ∙ e;
    moved = λ i. dite (ℕ_discrete i j)
        (λ e. inr (
          ap r.holder e ∙ own,
          busy_was,
          (let p = put_here r.ver j v.face.tick in let q : put r.ver j v.face.tick i ≡ put r.ver j v.face.tick j = ap (put r.ver j v.face.tick) e in omega (arith, p, q, was_tick)),
          (let p = put_here r.ver j v.face.tick in let q : put r.ver j v.face.tick i ≡ put r.ver j v.face.tick j = ap (put r.ver j v.face.tick) e in omega (arith, p, q, low_tick, ap r.ver e)),
        ))
        (λ m. inl (put_else r.ver j v.face.tick i m));
    busy = λ i h b. let g = held_before i me h in inr (g.1, busy_was, tick_same);
    caught = λ i h d. dite (ℕ_discrete i j)
        (λ e. inr (let p = put_here r.ver j v.face.tick in let q : put r.ver j v.face.tick i ≡ put r.ver j v.face.tick j = ap (put r.ver j v.face.tick) e in omega (arith, p, q, was_tick)))
        (λ m. inl (put_else r.holder j 0 i m ∙ h, now_stage ∙ still_decided i m h));
    signed = λ t k m l e. (e, λ b. refl);
  }

  grip : Grip (start key) (used_at key) W' me w.face
  grip = record {
    listed = λ i e. let g = held_before i me e in lookup_kept v.face.held j i (λ h. g.0 (sym h)) ∙ (grip_was.listed i g.1 ∙ ap (λ u. some (2 * u)) (sym (put_else r.ver j v.face.tick i g.0)));
    only = λ i y e. let g = lookup_without v.face.held j i y e in put_else r.holder j 0 i (λ h. g.0 (sym h)) ∙ grip_was.only i y g.1;
    over = λ i e b. let g = held_before i me e in let p = put_else r.ver j v.face.tick i g.0 in let l = grip_was.over i g.1 (decided_busy v.face.stage decided) in omega (arith, p, l);
    owns = λ b ticked. absurd (unticked (without v.face.held j) ticked);
    left = λ b y e. absurd (all b y e);
    ticks = λ b. let g = grip_was.ticks (decided_busy v.face.stage decided) in (omega (arith, g.0, clock_same), g.1);
    apart = λ i ticked. absurd (unticked (without v.face.held j) ticked);
    unused = λ b ticked. absurd (unticked (without v.face.held j) ticked);
    placed = λ b done. grip_was.placed b decided;
  }

  knows : Knows (start key) (used_at key) W' me w
  knows = record {
    known = omega (arith, clock_same, mine.known);
    bounded = mine.bounded;
    stamps = mine.stamps;
    ticked = λ e. absurd (unticked (without v.face.held j) e);
    decided = λ e. mine.decided decided;
    aim = λ i e. mine.aim i (held_before i me e).1;
    own_reads = λ b y l e h. let z : true ≡ false = sym l ∙ mine.decided decided in cc z;
    reads = λ b y l e. let z : true ≡ false = sym l ∙ mine.decided decided in cc z;
    checked = λ b y l. let z : true ≡ false = sym l ∙ mine.decided decided in cc z;
    goal = λ l. absurd (let z : true ≡ false = sym l ∙ mine.decided decided in cc z);
    ahead = λ l u. absurd (let z : true ≡ false = sym l ∙ mine.decided decided in cc z);
    look = λ l. let z : true ≡ false = sym l ∙ mine.decided decided in cc z;
    regions = mine.regions;
  }

  quiet : (t a y : ℕ) → put r.ver j v.face.tick (stripe a) < t → wrote r.log t a ≡ some y → (k : ℕ) × (put r.holder j 0 (stripe a) ≡ suc k) × ((faces (set s.views me w) k).stage ≡ Decided) × ((faces (set s.views me w) k).tick ≡ t)
  quiet t a y l e = dite (ℕ_discrete (stripe a) j)
      (λ h. let p = put_here r.ver j v.face.tick in let q : put r.ver j v.face.tick (stripe a) ≡ put r.ver j v.face.tick j = ap (put r.ver j v.face.tick) h in
      let g = r.locks.quiet t a y (omega (arith, l, p, q, low_tick, ap r.ver h)) e in
      let m : g.0 ≡ me = (let z : suc g.0 ≡ suc me = sym g.1 ∙ (ap r.holder h ∙ own) in omega arith) in let d : v.face.tick ≡ t = sym was_tick ∙ (ap (λ k. (faces s.views k).tick) (sym m) ∙ g.3) in absurd (omega (arith, l, p, q, d)))
      (λ m. let p = put_else r.ver j v.face.tick (stripe a) m in let g = r.locks.quiet t a y (omega (arith, l, p)) e in
      dite (ℕ_discrete g.0 me)
      (λ h. let mine_too : r.holder (stripe a) ≡ suc me = g.1 ∙ ap suc h in (me, put_else r.holder j 0 (stripe a) m ∙ mine_too, now_stage ∙ still_decided (stripe a) m mine_too, tick_same ∙ (ap (λ k. (faces s.views k).tick) (sym h) ∙ g.3)))
      (λ o. (g.0, put_else r.holder j 0 (stripe a) m ∙ g.1, ap (λ (f : Face). f.stage) (turn.others g.0 o) ∙ g.2, ap (λ (f : Face). f.tick) (turn.others g.0 o) ∙ g.3)))

  sound : Sound key s r me v w at (j + 1) x n
  sound = record {
    turn = turn;
    grip = grip;
    knows = knows;
    regions = λ q k m e. (e, refl);
    young = λ i. let l = r.locks.young i in dite (ℕ_discrete i j)
        (λ e. let p = put_here r.ver j v.face.tick in let q : put r.ver j v.face.tick i ≡ put r.ver j v.face.tick j = ap (put r.ver j v.face.tick) e in let g = grip_was.ticks (decided_busy v.face.stage decided) in omega (arith, p, q, g.0, clock_same))
        (λ m. let p = put_else r.ver j v.face.tick i m in omega (arith, l, p, clock_same));
    quiet = quiet;
    heap = λ b. heap_kept key s r me v w at (j + 1) x b (λ e. absurd (omega arith)) r.log (ap (λ t. value (start key) (wrote r.log) t b) clock_same)
        (λ y e. ap (λ (f : Face). lookup f.left b) (sym was_face) ∙ e);
    ended = λ t b l. r.locks.ended t b (omega (arith, l, clock_same));
    annals = annals_turn (start key) (used_at key) W W' me turn r.log r.annals;
    chain = r.chain;
    account = λ h. r.account h ∙ sym (same_total (λ b. weigh h b.entries) s.views me v w at refl);
    stripes = stripes_but key s r me v w at (j + 1) x refl was_face j refl (let p = r.wide in omega arith) 0 v.face.tick shows (put r.holder j 0) (put r.ver j v.face.tick) (put_here r.holder j 0) (put_here r.ver j v.face.tick)
        (λ i m. (put_else r.holder j 0 i m, put_else r.ver j v.face.tick i m));
    clock = clock_same ∙ (r.clock_is ∙ sym (same_total (λ b. b.ticks) s.views me v w at refl));
    counts = counts_kept key s r me v w at (j + 1) x refl refl (r.counts.spare me v at) (λ z g. (g.0, ap (λ m. without m j) g.1));
    like = (refl, refl, refl);
    sole = λ n l. let z : true ≡ false = sym l ∙ mine.decided decided in cc z;
    apart = inl clock_same;
  }

  pub releases_kept : IsKept key record { words = set s.words (j + 1) x; homes = s.homes; views = set s.views me w }
  releases_kept = turned key s r me v w at (j + 1) x n sound
