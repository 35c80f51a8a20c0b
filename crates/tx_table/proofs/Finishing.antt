-- A reader's entry.
use Rattle.std.proofs.Common.{◌≡◌, ◌≢◌, ℕ, ◌-◌, ◌<◌, true, false, cond, [], ◌∷◌, get_or, set, sym, refl, ap, ◌∙◌, subst, inl, inr, ⊎_elim, arith, get_or-set_same}
use mathlib.Core.Option.{some}
use mathlib.Core.Logic.{dite}
use native.Mathlib.Decide.{ℕ_discrete}
use lib.ListN.{get_elem?}
use Rattle.atomic_table.specs.Table.{State}
use Rattle.jmodel.specs.history.History.{Entry}
use Rattle.tx_table.specs.Book.{lookup, Has, In, pairs, Stage, Unticked, Ticked, Face, Book}
use Rattle.tx_table.specs.Rule.{Story, used_at, start, wrote, value, base, last_of, region_after, top_of, World, Clear, Knows, Grip, Annals, weigh, faces}
use Rattle.tx_table.specs.Steps.{IsKept}
use Rattle.tx_table.specs.Plays.{finished, region_of, Reads}
use Rattle.tx_table.proofs.MapLaws.{lookup_put, eq_cond, ne_cond}
use Rattle.tx_table.proofs.Values.{value_same, wrote_unread}
use Rattle.tx_table.proofs.Private.{face_at, world_of, same_total, total_set}
use Rattle.tx_table.proofs.Settled.{ticked_busy, decided_busy}
use Rattle.tx_table.proofs.Turns.{Turn, annals_turn}
use Rattle.tx_table.proofs.Turned.{Next, next_world, Sound, turned, others, here, quiet_kept, heap_kept, counts_kept, stripes_kept}
use Rattle.tx_table.proofs.Continuing.{later, continues}

module _ {S : Type 0} (key : Story) (s : State S Book) (r : IsKept key s) (me : ℕ) (v : Book) (at : get_elem? s.views me ≡ some v) (e : Entry) (x : ℕ) (same : x ≡ get_or s.words 0 0) (calm : v.face.stage ≡ Unticked) (live : v.live ≡ true) (entry : Reads key v e) (some_parts : 0 < v.numbers) where
  stamp : e.stamp.at ≡ v.bound
  stamp = entry.stamp

  update : e.stamp.update ≡ false
  update = entry.update

  writes : e.writes ≡ []
  writes = entry.writes

  reads : pairs e.reads ≡ v.reads
  reads = entry.fits.reads

  -- the region of the entry is this pass's
  own_region : r.keeper e.call.region ≡ me
  own_region = let g = entry.fits.region in ((r.each me v at).regions e.call.region g.0 g.1).0

  abbrev w : Book
  w = finished v e

  abbrev W : World
  W = world_of key s r

  mine : Knows (start key) (used_at key) W me v
  mine = r.each me v at

  was_face : faces s.views me ≡ v.face
  was_face = face_at s.views me v at

  grip_was : Grip (start key) (used_at key) W me v.face
  grip_was = subst (Grip (start key) (used_at key) W me) was_face (r.locks.grip me)

  now_face : faces (set s.views me w) me ≡ w.face
  now_face = here key s r me v w at 0 x

  was_stage : (z : Stage) → v.face.stage ≡ z → (faces s.views me).stage ≡ z
  was_stage z e = ap (λ (f : Face). f.stage) was_face ∙ e

  was_tick : (faces s.views me).tick ≡ v.face.tick
  was_tick = ap (λ (f : Face). f.tick) was_face

  abbrev n : Next key s r me v w at 0 x
  n = record { ver = r.ver; holder = r.holder; whose = r.whose; keeper = r.keeper; log = e ∷ r.log }

  abbrev W' : World
  W' = next_world key s r me v w at 0 x n

  clock_same : get_or (set s.words 0 x) 0 0 ≡ get_or s.words 0 0
  clock_same = get_or-set_same s.words 0 x 0 (let p = r.wide in omega arith) ∙ same

  was_calm : (faces s.views me).stage ≡ Unticked
  was_calm = was_stage Unticked calm

  now_calm : (faces (set s.views me w) me).stage ≡ Unticked
  now_calm = ap (λ (f : Face). f.stage) now_face ∙ calm

  log_same : (t b : ℕ) → wrote (e ∷ r.log) t b ≡ wrote r.log t b
  log_same t b = wrote_unread e r.log t b (ap (λ m. lookup (pairs m) b) writes)

  values_same : (t b : ℕ) → value (start key) (wrote (e ∷ r.log)) t b ≡ value (start key) (wrote r.log) t b
  values_same t b = value_same (start key) (wrote r.log) (wrote (e ∷ r.log)) t b (λ u m. log_same u b)

  turn : Turn (start key) (used_at key) W W' me
  turn = record {
    later = omega (arith, clock_same);
    others = others key s r me v w at 0 x;
    clear = λ t b l d. absurd (ticked_busy (faces (set s.views me w) me).stage d now_calm);
    values = λ c t b m l h. values_same t b;
    gained = λ i k m h. (h, refl);
    kept = λ i k m h. h;
    moved = λ i. inl refl;
    busy = λ i h b. absurd (b now_calm);
    caught = λ i h d. absurd (decided_busy (faces s.views me).stage d was_calm);
    signed = λ t k m l h. (h, λ b. log_same t b);
  }

  grip : Grip (start key) (used_at key) W' me w.face
  grip = record {
    listed = grip_was.listed;
    only = grip_was.only;
    over = grip_was.over;
    owns = grip_was.owns;
    left = grip_was.left;
    ticks = λ b. absurd (b calm);
    apart = λ i d. absurd (ticked_busy v.face.stage d calm);
    unused = λ b d. absurd (ticked_busy v.face.stage d calm);
    placed = λ b d. absurd (decided_busy v.face.stage d calm);
  }

  dead : {A : Type 0} → false ≡ true → A
  dead l = absurd (let z : false ≡ true = l in cc z)

  knows : Knows (start key) (used_at key) W' me w
  knows = record {
    known = omega (arith, clock_same, mine.known);
    bounded = mine.bounded;
    stamps = λ p i. ⊎_elim (λ h. let k = ap (λ (q : Entry). q.stamp.at) h in omega (arith, k, stamp, mine.bounded)) (λ h. mine.stamps p h) i;
    ticked = λ d. absurd (ticked_busy v.face.stage d calm);
    decided = λ d. refl;
    aim = mine.aim;
    own_reads = λ b y l. dead l;
    reads = λ b y l. dead l;
    checked = λ b y l. dead l;
    goal = λ l. dead l;
    ahead = λ l u. dead l;
    look = λ l. tt;
    regions = λ q u f. ⊎_elim (λ (t : (e.call.region ≡ q) × ((region_of e).1 ≡ u)). (
      sym (ap r.keeper t.0) ∙ own_region,
      ap (region_after (used_at key q)) (eq_cond e.call.region q (some e) (last_of r.log q) t.0) ∙ t.1,
      (let k = ap top_of (eq_cond e.call.region q (some e) (last_of r.log q) t.0) in omega (arith, k, stamp, mine.bounded)),
      λ l. dead l,
    ))
        (λ (t : (e.call.region ≢ q) × (lookup v.regions q ≡ some u)). let g = mine.regions q u t.1 in let k = ne_cond e.call.region q (some e) (last_of r.log q) t.0 in (g.0, ap (region_after (used_at key q)) k ∙ g.1, omega (arith, ap top_of k, g.2), λ l. dead l)) (lookup_put v.regions e.call.region (region_of e).1 q u f);
  }

  agrees : (b y : ℕ) → In (b, y) (pairs e.reads) → (value (start key) (wrote (e ∷ r.log)) (base e) b ≡ y) × Clear (faces (set s.views me w)) 0 e.stamp.at b
  agrees b y f = let g = mine.reads b y live (subst (In (b, y)) reads f) in (
    ap (λ t. value (start key) (wrote (e ∷ r.log)) t b) (ap (λ u. cond u (e.stamp.at - 1) e.stamp.at) update ∙ stamp) ∙ (values_same v.bound b ∙ g.0),
    λ k m. dite (ℕ_discrete k me) (λ h d. absurd (ticked_busy (faces (set s.views me w) me).stage (ap (λ j. (faces (set s.views me w) j).stage) (sym h) ∙ d) now_calm))
        (λ h. subst (λ (f : Face). f.stage ≡ Ticked → Has f.due b → e.stamp.at < f.tick) (sym (turn.others k h)) (λ d t. let p = g.1 k (λ z. h (omega arith)) d t in omega (arith, p, stamp))),
  )

  annals : Annals (start key) (used_at key) W' (e ∷ r.log)
  annals = let old = annals_turn (start key) (used_at key) W W' me turn r.log r.annals in record {
    agree = λ p i b y f. ⊎_elim (λ h. subst (λ (q : Entry). In (b, y) (pairs q.reads) → (value (start key) (wrote (e ∷ r.log)) (base q) b ≡ y) × Clear (faces (set s.views me w)) 0 q.stamp.at b) (sym h) (agrees b y) f) (λ h. old.agree p h b y f) i;
    stamps = λ p i. ⊎_elim (λ h. omega (arith, ap (λ (q : Entry). q.stamp.at) h, stamp, clock_same, mine.known, mine.bounded)) (λ h. old.stamps p h) i;
  }

  sound : Sound key s r me v w at 0 x n
  sound = record {
    turn = turn;
    grip = grip;
    knows = knows;
    regions = λ q k m h. (h, ne_cond e.call.region q (some e) (last_of r.log q) (λ z. m (sym h ∙ (ap r.keeper (sym z) ∙ own_region))));
    young = λ i. let l = r.locks.young i in omega (arith, l, clock_same);
    quiet = λ t b y l f. quiet_kept key s r me v w at 0 x turn.others r.holder turn.kept (λ i h d. absurd (decided_busy (faces s.views me).stage d was_calm)) t b y l (sym (log_same t b) ∙ f);
    heap = λ b. heap_kept key s r me v w at 0 x b (λ h. absurd (omega arith)) (e ∷ r.log) (ap (λ t. value (start key) (wrote (e ∷ r.log)) t b) clock_same ∙ values_same (get_or s.words 0 0) b)
        (λ y h. ap (λ (f : Face). lookup f.left b) (sym was_face) ∙ h);
    ended = λ t b l. log_same t b ∙ r.locks.ended t b (omega (arith, l, clock_same));
    annals = annals;
    chain = (
      continues key v e entry.fits r.log (λ g h. (mine.regions e.call.region g h).1) (later e (last_of r.log e.call.region) (inr (let g = entry.fits.region in let t = (mine.regions e.call.region g.0 g.1).3 live in omega (arith, t, stamp), update)))
          (λ u. let z : false ≡ true = sym update ∙ u in cc z) (λ u. writes) (λ u. let z : false ≡ true = sym update ∙ u in cc z) (λ u. let z : false ≡ true = sym update ∙ u in cc z),
      r.chain,
    );
    account = λ h. let t = total_set (λ b. weigh h b.entries) s.views me v w at in let q = r.account h in omega arith;
    stripes = stripes_kept key s r me v w at 0 x refl was_face (λ i l h. absurd (omega arith));
    clock = clock_same ∙ (r.clock_is ∙ sym (same_total (λ b. b.ticks) s.views me v w at refl));
    counts = counts_kept key s r me v w at 0 x refl refl (r.counts.spare me v at) (λ z g. absurd (omega arith));
    like = (refl, refl, refl);
    sole = λ n l. dead l;
    apart = inl clock_same;
  }

  pub finishes_kept : IsKept key record { words = set s.words 0 x; homes = s.homes; views = set s.views me w }
  finishes_kept = turned key s r me v w at 0 x n sound
