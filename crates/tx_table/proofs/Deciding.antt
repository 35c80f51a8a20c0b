-- The decision.
use Rattle.std.proofs.Common.{◌≡◌, ◌≢◌, ◌⊎◌, ℕ, suc, ◌+◌, ◌-◌, ◌<◌, ◌≤◌, true, false, cond, ◌∷◌, length, get_or, set, sym, refl, ap, ◌∙◌, subst, inl, inr, ⊎_elim, arith, get_or-set_same}
use mathlib.Core.Option.{Option, none, some}
use mathlib.Core.Logic.{dite}
use native.Mathlib.Decide.{ℕ_discrete}
use lib.ListN.{get_elem?}
use Rattle.atomic_table.specs.Table.{State}
use Rattle.jmodel.specs.history.History.{Entry}
use Rattle.tx_table.specs.Book.{lookup, Has, In, pairs, Stage, Unticked, Ticked, Decided, Face, Book}
use Rattle.tx_table.specs.Rule.{Story, used_at, start, stripe, wrote, value, base, last_of, region_after, top_of, World, Clear, Sees, Knows, Grip, Annals, weigh, faces}
use Rattle.tx_table.specs.Steps.{IsKept}
use Rattle.tx_table.specs.Plays.{decided_up, region_of, Updates}
use Rattle.tx_table.proofs.MapLaws.{lookup_put, lookup_kept, lookup_without, eq_cond, ne_cond}
use Rattle.tx_table.proofs.Values.{value_same, value_still, value_at, wrote_else, wrote_here, wrote_unread}
use Rattle.tx_table.proofs.Private.{face_at, world_of, same_total, total_set}
use Rattle.tx_table.proofs.Settled.{ticked_busy, unwritten, still, clears}
use Rattle.tx_table.proofs.Turns.{Turn, annals_turn}
use Rattle.tx_table.proofs.Turned.{Next, next_world, Sound, turned, others, here, word_else, heap_kept, counts_kept, stripes_kept}
use Rattle.tx_table.proofs.Continuing.{later, some_writes, continues}

pub either_found : (z : Option ℕ) → (z ≡ none) ⊎ ((y : ℕ) × (z ≡ some y))
either_found none = inl refl
either_found (some y) = inr (y, refl)

module _ {S : Type 0} (key : Story) (s : State S Book) (r : IsKept key s) (me : ℕ) (v : Book) (at : get_elem? s.views me ≡ some v) (e : Entry) (a x : ℕ) (inside : a + 4097 < length s.words) (ticked : v.face.stage ≡ Ticked) (live : v.live ≡ true) (due : lookup v.face.due a ≡ some x) (entry : Updates key v e)
    (safe : (b y : ℕ) → In (b, y) v.reads → In (stripe b) v.checked ⊎ Has v.face.held (stripe b)) (some_parts : 0 < v.numbers) where
  stamp : e.stamp.at ≡ v.face.tick
  stamp = entry.stamp

  update : e.stamp.update ≡ true
  update = entry.update

  writes : pairs e.writes ≡ v.face.due
  writes = entry.writes

  reads : pairs e.reads ≡ v.reads
  reads = entry.fits.reads

  -- the region of the entry is this pass's
  own_region : r.keeper e.call.region ≡ me
  own_region = let g = entry.fits.region in ((r.each me v at).regions e.call.region g.0 g.1).0

  abbrev w : Book
  w = decided_up v e a

  abbrev W : World
  W = world_of key s r

  mine : Knows (start key) (used_at key) W me v
  mine = r.each me v at

  was_face : faces s.views me ≡ v.face
  was_face = face_at s.views me v at

  grip_was : Grip (start key) (used_at key) W me v.face
  grip_was = subst (Grip (start key) (used_at key) W me) was_face (r.locks.grip me)

  now_face : faces (set s.views me w) me ≡ w.face
  now_face = here key s r me v w at (a + 4097) x

  was_stage : (z : Stage) → v.face.stage ≡ z → (faces s.views me).stage ≡ z
  was_stage z e = ap (λ (f : Face). f.stage) was_face ∙ e

  was_tick : (faces s.views me).tick ≡ v.face.tick
  was_tick = ap (λ (f : Face). f.tick) was_face

  abbrev tick : ℕ
  tick = v.face.tick

  abbrev n : Next key s r me v w at (a + 4097) x
  n = record { ver = r.ver; holder = r.holder; whose = r.whose; keeper = r.keeper; log = e ∷ r.log }

  abbrev W' : World
  W' = next_world key s r me v w at (a + 4097) x n

  was_ticked : (faces s.views me).stage ≡ Ticked
  was_ticked = was_stage Ticked ticked

  busy_was : v.face.stage ≢ Unticked
  busy_was = ticked_busy v.face.stage ticked

  undecided : (faces s.views me).stage ≢ Decided
  undecided d = let z : Ticked ≡ Decided = sym was_ticked ∙ d in cc z

  now_decided : (faces (set s.views me w) me).stage ≡ Decided
  now_decided = ap (λ (f : Face). f.stage) now_face

  unticked : (faces (set s.views me w) me).stage ≢ Ticked
  unticked d = let z : Decided ≡ Ticked = sym now_decided ∙ d in cc z

  tick_same : (faces (set s.views me w) me).tick ≡ (faces s.views me).tick
  tick_same = ap (λ (f : Face). f.tick) now_face ∙ sym was_tick

  clock_same : get_or (set s.words (a + 4097) x) 0 0 ≡ get_or s.words 0 0
  clock_same = word_else key s r me v w at (a + 4097) x 0 (λ h. absurd (omega arith))

  low : v.bound < tick
  low = (mine.ticked ticked).0

  tick_le : tick ≤ get_or s.words 0 0
  tick_le = (grip_was.ticks busy_was).0

  fresh : (b : ℕ) → wrote r.log e.stamp.at b ≡ none
  fresh b = ap (λ t. wrote r.log t b) stamp ∙ grip_was.unused b ticked

  log_else : (t b : ℕ) → t ≢ tick → wrote (e ∷ r.log) t b ≡ wrote r.log t b
  log_else t b m = wrote_else e r.log t b (λ h. m (sym h ∙ stamp))

  log_here : (b : ℕ) → wrote (e ∷ r.log) tick b ≡ lookup v.face.due b
  log_here b = ap (λ t. wrote (e ∷ r.log) t b) (sym stamp) ∙ (wrote_here e r.log b (fresh b) ∙ ap (λ m. lookup m b) writes)

  log_other : (t b : ℕ) → lookup v.face.due b ≡ none → wrote (e ∷ r.log) t b ≡ wrote r.log t b
  log_other t b h = wrote_unread e r.log t b (ap (λ m. lookup m b) writes ∙ h)

  before : (t b : ℕ) → t < tick → value (start key) (wrote (e ∷ r.log)) t b ≡ value (start key) (wrote r.log) t b
  before t b l = value_same (start key) (wrote r.log) (wrote (e ∷ r.log)) t b (λ u m. log_else u b (λ h. absurd (omega arith)))

  apart : (t b : ℕ) → lookup v.face.due b ≡ none → value (start key) (wrote (e ∷ r.log)) t b ≡ value (start key) (wrote r.log) t b
  apart t b h = value_same (start key) (wrote r.log) (wrote (e ∷ r.log)) t b (λ u m. log_other u b h)

  turn : Turn (start key) (used_at key) W W' me
  turn = record {
    later = omega (arith, clock_same);
    others = others key s r me v w at (a + 4097) x;
    clear = λ t b l d. absurd (unticked d);
    values = λ c t b m l h. ⊎_elim (λ z. apart t b z) (λ (z : (y : ℕ) × (lookup v.face.due b ≡ some y)).
        let p = h me m was_ticked (z.0, ap (λ (f : Face). lookup f.due b) was_face ∙ z.1) in before t b (omega (arith, p, was_tick))) (either_found (lookup v.face.due b));
    gained = λ i k m h. (h, refl);
    kept = λ i k m h. h;
    moved = λ i. inl refl;
    busy = λ i h b. inr (h, ticked_busy (faces s.views me).stage was_ticked, tick_same);
    caught = λ i h d. absurd (undecided d);
    signed = λ t k m l h. (h, λ b. log_else t b (λ z. m (sym h ∙ (ap r.whose z ∙ (grip_was.ticks busy_was).1))));
  }

  grip : Grip (start key) (used_at key) W' me w.face
  grip = record {
    listed = grip_was.listed;
    only = grip_was.only;
    over = λ i h b. grip_was.over i h busy_was;
    owns = λ b d. let z : Decided ≡ Ticked = d in cc z;
    left = λ b y h. let g = lookup_without v.face.due a b y h in (refl, g.1, grip_was.owns b ticked (y, g.1));
    ticks = λ b. let g = grip_was.ticks busy_was in (omega (arith, g.0, clock_same), g.1);
    apart = λ i d. absurd (let z : Decided ≡ Ticked = d in cc z);
    unused = λ b d. let z : Decided ≡ Ticked = d in cc z;
    placed = λ b d. log_here b;
  }

  dead : {A : Type 0} → false ≡ true → A
  dead l = absurd (let z : false ≡ true = l in cc z)

  knows : Knows (start key) (used_at key) W' me w
  knows = record {
    known = omega (arith, clock_same, mine.known);
    bounded = mine.bounded;
    stamps = λ p i. ⊎_elim (λ h. let k = ap (λ (q : Entry). q.stamp.at) h in let t = (mine.ticked ticked).1 in omega (arith, k, stamp, t)) (λ h. mine.stamps p h) i;
    ticked = λ d. let z : Decided ≡ Ticked = d in cc z;
    decided = λ d. refl;
    aim = mine.aim;
    own_reads = λ b y l. dead l;
    reads = λ b y l. dead l;
    checked = λ b y l. dead l;
    goal = λ l. dead l;
    ahead = λ l u. dead l;
    look = λ l. tt;
    regions = λ q u f. ⊎_elim (λ (t : (e.call.region ≡ q) × ((region_of e).1 ≡ u)). (
      sym (ap r.keeper t.0) ∙ own_region,
      ap (region_after (used_at key q)) (eq_cond e.call.region q (some e) (last_of r.log q) t.0) ∙ t.1,
      (let l = (mine.ticked ticked).1 in let k = ap top_of (eq_cond e.call.region q (some e) (last_of r.log q) t.0) in omega (arith, k, stamp, l)),
      λ l. dead l,
    ))
        (λ (t : (e.call.region ≢ q) × (lookup v.regions q ≡ some u)). let g = mine.regions q u t.1 in let k = ne_cond e.call.region q (some e) (last_of r.log q) t.0 in (g.0, ap (region_after (used_at key q)) k ∙ g.1, omega (arith, ap top_of k, g.2), λ l. dead l)) (lookup_put v.regions e.call.region (region_of e).1 q u f);
  }

  -- the stripes that this attempt holds have no decided holder
  mine_quiet : (i : ℕ) → r.holder i ≡ suc me → (k : ℕ) → r.holder i ≡ suc k → (faces s.views k).stage ≢ Decided
  mine_quiet i h k g d = let m : k ≡ me = (let z : suc k ≡ suc me = sym g ∙ h in omega arith) in undecided (ap (λ j. (faces s.views j).stage) (sym m) ∙ d)

  value_is : value (start key) (wrote (e ∷ r.log)) (get_or s.words 0 0) a ≡ x
  value_is = let own = grip_was.owns a ticked (x, due) in let l = grip_was.over (stripe a) own busy_was in
      value_still (start key) (wrote (e ∷ r.log)) tick (get_or s.words 0 0) a tick_le (λ u p q. log_else u a (λ h. absurd (omega arith)) ∙ unwritten (start key) (used_at key) W r.locks a u (mine_quiet (stripe a) own) (omega arith))
      ∙ value_at (start key) (wrote (e ∷ r.log)) tick a x (omega (arith, low)) (log_here a ∙ due)

  -- each read holds up to the tick
  sees_tick : (b y : ℕ) → In (b, y) v.reads → Sees (start key) (used_at key) W (suc me) tick b y
  sees_tick b y f = ⊎_elim (λ c. subst (λ t. Sees (start key) (used_at key) W (suc me) t b y) (mine.ticked ticked).2 (mine.checked b y live c f))
      (λ (h : Has v.face.held (stripe b)). let own = grip_was.only (stripe b) h.0 h.1 in let p = mine.own_reads b y live f own in (
        still (start key) (used_at key) W r.locks b v.bound tick (mine_quiet (stripe b) own) p (omega (arith, low)) ∙ (mine.reads b y live f).0,
        clears (start key) (used_at key) W r.locks b (suc me) tick (λ k g c m. absurd (m (sym g ∙ own))),
      )) (safe b y f)

  base_is : base e ≡ tick - 1
  base_is = ap (λ u. cond u (e.stamp.at - 1) e.stamp.at) update ∙ ap (λ t. t - 1) stamp

  agrees : (b y : ℕ) → In (b, y) (pairs e.reads) → (value (start key) (wrote (e ∷ r.log)) (base e) b ≡ y) × Clear (faces (set s.views me w)) 0 e.stamp.at b
  agrees b y f = let g = sees_tick b y (subst (In (b, y)) reads f) in (
    ap (λ t. value (start key) (wrote (e ∷ r.log)) t b) base_is ∙ (before (tick - 1) b (omega (arith, low)) ∙ (sym (value_still (start key) (wrote r.log) (tick - 1) tick b (omega arith)
        (λ u p q. ap (λ t. wrote r.log t b) (let z : u ≡ tick = omega (arith, low) in z) ∙ grip_was.unused b ticked)) ∙ g.0)),
    λ k m. dite (ℕ_discrete k me) (λ h d. absurd (unticked (ap (λ j. (faces (set s.views me w) j).stage) (sym h) ∙ d)))
        (λ h. subst (λ (f : Face). f.stage ≡ Ticked → Has f.due b → e.stamp.at < f.tick) (sym (turn.others k h)) (λ d t. let p = g.1 k (λ z. h (omega arith)) d t in omega (arith, p, stamp))),
  )

  annals : Annals (start key) (used_at key) W' (e ∷ r.log)
  annals = let old = annals_turn (start key) (used_at key) W W' me turn r.log r.annals in record {
    agree = λ p i b y f. ⊎_elim (λ h. subst (λ (q : Entry). In (b, y) (pairs q.reads) → (value (start key) (wrote (e ∷ r.log)) (base q) b ≡ y) × Clear (faces (set s.views me w)) 0 q.stamp.at b) (sym h) (agrees b y) f) (λ h. old.agree p h b y f) i;
    stamps = λ p i. ⊎_elim (λ h. omega (arith, ap (λ (q : Entry). q.stamp.at) h, stamp, tick_le, clock_same)) (λ h. old.stamps p h) i;
  }

  quiet : (t b y : ℕ) → r.ver (stripe b) < t → wrote (e ∷ r.log) t b ≡ some y → (k : ℕ) × (r.holder (stripe b) ≡ suc k) × ((faces (set s.views me w) k).stage ≡ Decided) × ((faces (set s.views me w) k).tick ≡ t)
  quiet t b y l f = dite (ℕ_discrete t tick)
      (λ h. (me, grip_was.owns b ticked (y, sym (log_here b) ∙ (ap (λ u. wrote (e ∷ r.log) u b) (sym h) ∙ f)), now_decided, tick_same ∙ (was_tick ∙ sym h)))
      (λ m. let g = r.locks.quiet t b y l (sym (log_else t b m) ∙ f) in let o : g.0 ≢ me = λ h. undecided (ap (λ k. (faces s.views k).stage) (sym h) ∙ g.2) in
      (g.0, g.1, ap (λ (z : Face). z.stage) (turn.others g.0 o) ∙ g.2, ap (λ (z : Face). z.tick) (turn.others g.0 o) ∙ g.3))

  heap : (b : ℕ) → (get_or (set s.words (a + 4097) x) (b + 4097) 0 ≡ value (start key) (wrote (e ∷ r.log)) (get_or (set s.words (a + 4097) x) 0 0) b) ⊎ ((k : ℕ) × Has (faces (set s.views me w) k).left b)
  heap b = dite (ℕ_discrete b a)
      (λ h. inl (subst (λ (c : ℕ). get_or (set s.words (a + 4097) x) (c + 4097) 0 ≡ value (start key) (wrote (e ∷ r.log)) (get_or (set s.words (a + 4097) x) 0 0) c) (sym h)
      (get_or-set_same s.words (a + 4097) x 0 inside ∙ (sym value_is ∙ ap (λ t. value (start key) (wrote (e ∷ r.log)) t a) (sym clock_same)))))
      (λ m. ⊎_elim (λ z. heap_kept key s r me v w at (a + 4097) x b (λ h. m (omega arith)) (e ∷ r.log) (ap (λ t. value (start key) (wrote (e ∷ r.log)) t b) clock_same ∙ apart (get_or s.words 0 0) b z)
      (λ y h. let d = (grip_was.left b y (ap (λ (f : Face). lookup f.left b) (sym was_face) ∙ h)).0 in absurd (undecided (was_stage Decided d))))
      (λ (z : (y : ℕ) × (lookup v.face.due b ≡ some y)). inr (me, (z.0, ap (λ (f : Face). lookup f.left b) now_face ∙ (lookup_kept v.face.due a b (λ h. m (sym h)) ∙ z.1)))) (either_found (lookup v.face.due b)))

  sound : Sound key s r me v w at (a + 4097) x n
  sound = record {
    turn = turn;
    grip = grip;
    knows = knows;
    regions = λ q k m h. (h, ne_cond e.call.region q (some e) (last_of r.log q) (λ z. m (sym h ∙ (ap r.keeper (sym z) ∙ own_region))));
    young = λ i. let l = r.locks.young i in omega (arith, l, clock_same);
    quiet = quiet;
    heap = heap;
    ended = λ t b l. log_else t b (λ h. absurd (omega (arith, l, clock_same, tick_le, h))) ∙ r.locks.ended t b (omega (arith, l, clock_same));
    annals = annals;
    chain = (
      continues key v e entry.fits r.log (λ g h. (mine.regions e.call.region g h).1) (later e (last_of r.log e.call.region) (inl (let g = entry.fits.region in let t = (mine.regions e.call.region g.0 g.1).3 live in omega (arith, t, low, stamp))))
          (λ u b. fresh b) (λ u. let z : true ≡ false = sym update ∙ u in cc z) (λ u. some_writes e v.face.due a x writes due) (λ u. omega (arith, stamp, low)),
      r.chain,
    );
    account = λ h. let t = total_set (λ b. weigh h b.entries) s.views me v w at in let q = r.account h in omega arith;
    stripes = stripes_kept key s r me v w at (a + 4097) x refl was_face (λ i l h. absurd (omega arith));
    clock = clock_same ∙ (r.clock_is ∙ sym (same_total (λ b. b.ticks) s.views me v w at refl));
    counts = counts_kept key s r me v w at (a + 4097) x refl refl (r.counts.spare me v at) (λ z g. absurd (omega arith));
    like = (refl, refl, refl);
    sole = λ n l. dead l;
    apart = inl clock_same;
  }

  pub decides_kept : IsKept key record { words = set s.words (a + 4097) x; homes = s.homes; views = set s.views me w }
  decides_kept = turned key s r me v w at (a + 4097) x n sound
