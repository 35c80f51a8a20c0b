-- A word is wrote back.
use Rattle.std.proofs.Common.{◌≡◌, ◌≢◌, ℕ, suc, ◌+◌, ◌<◌, true, false, length, get_or, set, sym, refl, ap, ◌∙◌, subst, inl, inr, arith, get_or-set_same}
use mathlib.Core.Option.{some}
use mathlib.Core.Logic.{dite}
use native.Mathlib.Decide.{ℕ_discrete}
use lib.ListN.{get_elem?}
use Rattle.atomic_table.specs.Table.{State}
use Rattle.tx_table.specs.Book.{lookup, Stage, Ticked, Decided, Face, Book}
use Rattle.tx_table.specs.Rule.{Story, used_at, start, stripe, wrote, value, World, Knows, Grip, weigh, faces}
use Rattle.tx_table.specs.Steps.{IsKept}
use Rattle.tx_table.specs.Plays.{wrote_back}
use Rattle.tx_table.proofs.MapLaws.{lookup_kept, lookup_without}
use Rattle.tx_table.proofs.Values.{value_still, value_at}
use Rattle.tx_table.proofs.Private.{face_at, world_of, same_total}
use Rattle.tx_table.proofs.Settled.{decided_busy, nothing_or}
use Rattle.tx_table.proofs.Turns.{Turn, annals_turn}
use Rattle.tx_table.proofs.Turned.{Next, next_world, Sound, turned, others, here, word_else, quiet_kept, heap_kept, counts_kept, stripes_kept}

module _ {S : Type 0} (key : Story) (s : State S Book) (r : IsKept key s) (me : ℕ) (v : Book) (at : get_elem? s.views me ≡ some v) (a x : ℕ) (inside : a + 4097 < length s.words) (due : lookup v.face.left a ≡ some x) where
  abbrev w : Book
  w = wrote_back v a

  abbrev W : World
  W = world_of key s r

  mine : Knows (start key) (used_at key) W me v
  mine = r.each me v at

  was_face : faces s.views me ≡ v.face
  was_face = face_at s.views me v at

  grip_was : Grip (start key) (used_at key) W me v.face
  grip_was = subst (Grip (start key) (used_at key) W me) was_face (r.locks.grip me)

  now_face : faces (set s.views me w) me ≡ w.face
  now_face = here key s r me v w at (a + 4097) x

  was_stage : (z : Stage) → v.face.stage ≡ z → (faces s.views me).stage ≡ z
  was_stage z e = ap (λ (f : Face). f.stage) was_face ∙ e

  was_tick : (faces s.views me).tick ≡ v.face.tick
  was_tick = ap (λ (f : Face). f.tick) was_face

  abbrev n : Next key s r me v w at (a + 4097) x
  n = record { ver = r.ver; holder = r.holder; whose = r.whose; keeper = r.keeper; log = r.log }

  abbrev W' : World
  W' = next_world key s r me v w at (a + 4097) x n

  decided : v.face.stage ≡ Decided
  decided = (grip_was.left a x due).0

  was_decided : (faces s.views me).stage ≡ Decided
  was_decided = was_stage Decided decided

  now_decided : (faces (set s.views me w) me).stage ≡ Decided
  now_decided = ap (λ (f : Face). f.stage) now_face ∙ decided

  tick_same : (faces (set s.views me w) me).tick ≡ (faces s.views me).tick
  tick_same = ap (λ (f : Face). f.tick) now_face ∙ sym was_tick

  clock_same : get_or (set s.words (a + 4097) x) 0 0 ≡ get_or s.words 0 0
  clock_same = word_else key s r me v w at (a + 4097) x 0 (λ e. absurd (omega arith))

  unticked : (z : Stage) → z ≡ Decided → z ≢ Ticked
  unticked z e h = let m : Decided ≡ Ticked = sym e ∙ h in cc m

  turn : Turn (start key) (used_at key) W W' me
  turn = record {
    later = omega (arith, clock_same);
    others = others key s r me v w at (a + 4097) x;
    clear = λ t b l ticked. absurd (unticked (faces (set s.views me w) me).stage now_decided ticked);
    values = λ c t b m l h. refl;
    gained = λ i k m e. (e, refl);
    kept = λ i k m e. e;
    moved = λ i. inl refl;
    busy = λ i h b. inr (h, decided_busy (faces s.views me).stage was_decided, tick_same);
    caught = λ i h d. inl (h, now_decided);
    signed = λ t k m l e. (e, λ b. refl);
  }

  grip : Grip (start key) (used_at key) W' me w.face
  grip = record {
    listed = grip_was.listed;
    only = grip_was.only;
    over = grip_was.over;
    owns = grip_was.owns;
    left = λ b y e. grip_was.left b y (lookup_without v.face.left a b y e).1;
    ticks = λ b. let g = grip_was.ticks b in (omega (arith, g.0, clock_same), g.1);
    apart = grip_was.apart;
    unused = grip_was.unused;
    placed = grip_was.placed;
  }

  knows : Knows (start key) (used_at key) W' me w
  knows = record {
    known = omega (arith, clock_same, mine.known);
    bounded = mine.bounded;
    stamps = mine.stamps;
    ticked = mine.ticked;
    decided = mine.decided;
    aim = mine.aim;
    own_reads = mine.own_reads;
    reads = λ b y l e. let z : true ≡ false = sym l ∙ mine.decided decided in cc z;
    checked = λ b y l. let z : true ≡ false = sym l ∙ mine.decided decided in cc z;
    goal = λ l. absurd (let z : true ≡ false = sym l ∙ mine.decided decided in cc z);
    ahead = λ l u. absurd (let z : true ≡ false = sym l ∙ mine.decided decided in cc z);
    look = λ l. let z : true ≡ false = sym l ∙ mine.decided decided in cc z;
    regions = mine.regions;
  }

  -- what is wrote back is the memory's
  value_is : value (start key) (wrote r.log) (get_or s.words 0 0) a ≡ x
  value_is = let g = grip_was.left a x due in let l = grip_was.over (stripe a) g.2 (decided_busy v.face.stage decided) in let t = grip_was.ticks (decided_busy v.face.stage decided) in
      value_still (start key) (wrote r.log) v.face.tick (get_or s.words 0 0) a t.0 (λ u p q. nothing_or (wrote r.log u a) (λ y e. let c = r.locks.quiet u a y (omega arith) e in
      let m : c.0 ≡ me = (let z : suc c.0 ≡ suc me = sym c.1 ∙ g.2 in omega arith) in let d : v.face.tick ≡ u = sym was_tick ∙ (ap (λ k. (faces s.views k).tick) (sym m) ∙ c.3) in omega arith))
      ∙ value_at (start key) (wrote r.log) v.face.tick a x (omega arith) (grip_was.placed a decided ∙ g.1)

  sound : Sound key s r me v w at (a + 4097) x n
  sound = record {
    turn = turn;
    grip = grip;
    knows = knows;
    regions = λ q k m e. (e, refl);
    young = λ i. let l = r.locks.young i in omega (arith, l, clock_same);
    quiet = quiet_kept key s r me v w at (a + 4097) x turn.others r.holder turn.kept (λ i h d. (h, decided, sym was_tick));
    heap = λ b. dite (ℕ_discrete b a)
        (λ e. inl (subst (λ (c : ℕ). get_or (set s.words (a + 4097) x) (c + 4097) 0 ≡ value (start key) (wrote r.log) (get_or (set s.words (a + 4097) x) 0 0) c) (sym e)
        (get_or-set_same s.words (a + 4097) x 0 inside ∙ (sym value_is ∙ ap (λ t. value (start key) (wrote r.log) t a) (sym clock_same)))))
        (λ m. heap_kept key s r me v w at (a + 4097) x b (λ e. m (omega arith)) r.log (ap (λ t. value (start key) (wrote r.log) t b) clock_same)
        (λ y e. lookup_kept v.face.left a b (λ h. m (sym h)) ∙ (ap (λ (f : Face). lookup f.left b) (sym was_face) ∙ e)));
    ended = λ t b l. r.locks.ended t b (omega (arith, l, clock_same));
    annals = annals_turn (start key) (used_at key) W W' me turn r.log r.annals;
    chain = r.chain;
    account = λ h. r.account h ∙ sym (same_total (λ b. weigh h b.entries) s.views me v w at refl);
    stripes = stripes_kept key s r me v w at (a + 4097) x refl was_face (λ i l e. absurd (omega arith));
    clock = clock_same ∙ (r.clock_is ∙ sym (same_total (λ b. b.ticks) s.views me v w at refl));
    counts = counts_kept key s r me v w at (a + 4097) x refl refl (r.counts.spare me v at) (λ z g. g);
    like = (refl, refl, refl);
    sole = λ n l. let z : true ≡ false = sym l ∙ mine.decided decided in cc z;
    apart = inl clock_same;
  }

  pub writes_kept : IsKept key record { words = set s.words (a + 4097) x; homes = s.homes; views = set s.views me w }
  writes_kept = turned key s r me v w at (a + 4097) x n sound
