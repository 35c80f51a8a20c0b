-- A free stripe is taken.
use Rattle.std.proofs.Common.{◌≡◌, ◌≢◌, ℕ, suc, ◌+◌, ◌*◌, ◌<◌, ◌≤◌, get_or, set, sym, refl, ap, ◌∙◌, subst, inl, inr, ⊎_elim, arith}
use mathlib.Core.Option.{some}
use lib.ListN.{get_elem?}
use Rattle.atomic_table.specs.Table.{State}
use Rattle.tx_table.specs.Book.{lookup, In, Unticked, Face, Book}
use Rattle.tx_table.specs.Rule.{Story, used_at, start, stripe, wrote, value, World, Knows, Grip, weigh, faces}
use Rattle.tx_table.specs.Steps.{IsKept}
use Rattle.tx_table.specs.Plays.{took}
use Rattle.tx_table.proofs.MapLaws.{lookup_here, lookup_else, lookup_put}
use Rattle.tx_table.proofs.Puts.{put, put_here, put_else, put_or}
use Rattle.tx_table.proofs.Private.{face_at, world_of, same_total}
use Rattle.tx_table.proofs.Settled.{ticked_busy, decided_busy}
use Rattle.tx_table.proofs.Turns.{Turn, clear_turns, annals_turn}
use Rattle.tx_table.proofs.Turned.{Next, next_world, Sound, turned, others, here, word_else, quiet_kept, heap_kept, counts_kept, stripes_but}
use Rattle.tx_table.proofs.ReadSteps.{free_is}

module _ {S : Type 0} (key : Story) (s : State S Book) (r : IsKept key s) (me : ℕ) (v : Book) (at : get_elem? s.views me ≡ some v) (j u a new : ℕ) (low : j < 4096) (was : get_or s.words (j + 1) 0 ≡ 2 * u)
    (calm : v.face.stage ≡ Unticked) (same : stripe a ≡ j) (new_is : new ≡ 2 * v.face.number + 1) (fits : (b y : ℕ) → In (b, y) v.reads → stripe b ≡ j → u ≤ v.bound) (some_parts : 0 < v.numbers) where
  abbrev w : Book
  w = took v j (2 * u) a

  abbrev W : World
  W = world_of key s r

  abbrev n : Next key s r me v w at (j + 1) new
  n = record { ver = r.ver; holder = put r.holder j (suc me); whose = r.whose; keeper = r.keeper; log = r.log }

  abbrev W' : World
  W' = next_world key s r me v w at (j + 1) new n

  free : (r.ver j ≡ u) × (r.holder j ≡ 0)
  free = free_is key s r me v at j u low was

  mine : Knows (start key) (used_at key) W me v
  mine = r.each me v at

  was_face : faces s.views me ≡ v.face
  was_face = face_at s.views me v at

  now_face : faces (set s.views me w) me ≡ w.face
  now_face = here key s r me v w at (j + 1) new

  now_calm : (faces (set s.views me w) me).stage ≡ Unticked
  now_calm = ap (λ (f : Face). f.stage) now_face ∙ calm

  was_calm : (faces s.views me).stage ≡ Unticked
  was_calm = ap (λ (f : Face). f.stage) was_face ∙ calm

  clock_same : get_or (set s.words (j + 1) new) 0 0 ≡ get_or s.words 0 0
  clock_same = word_else key s r me v w at (j + 1) new 0 (λ e. absurd (omega arith))

  turn : Turn (start key) (used_at key) W W' me
  turn = record {
    later = omega (arith, clock_same);
    others = others key s r me v w at (j + 1) new;
    clear = λ t b l ticked. absurd (ticked_busy (faces (set s.views me w) me).stage ticked now_calm);
    values = λ c t b m l h. refl;
    gained = λ i k m e. ⊎_elim (λ (t : (i ≡ j) × (suc me ≡ suc k)). let p = t.1 in absurd (m (omega arith))) (λ (t : (i ≢ j) × (r.holder i ≡ suc k)). (t.1, refl)) (put_or r.holder j (suc me) i (suc k) e);
    kept = λ i k m e. put_else r.holder j (suc me) i (λ h. let p : r.holder i ≡ 0 = ap r.holder h ∙ free.1 in absurd (omega arith)) ∙ e;
    moved = λ i. inl refl;
    busy = λ i h b. absurd (b now_calm);
    caught = λ i h d. absurd (decided_busy (faces s.views me).stage d was_calm);
    signed = λ t k m l e. (e, λ b. refl);
  }

  grip_was : Grip (start key) (used_at key) W me v.face
  grip_was = subst (Grip (start key) (used_at key) W me) was_face (r.locks.grip me)

  grip : Grip (start key) (used_at key) W' me w.face
  grip = record {
    listed = λ i e. ⊎_elim (λ (t : (i ≡ j) × (suc me ≡ suc me)). subst (λ (k : ℕ). lookup w.face.held k ≡ some (2 * r.ver k)) (sym t.0) (lookup_here v.face.held j (2 * u) ∙ ap (λ k. some (2 * k)) (sym free.0)))
        (λ (t : (i ≢ j) × (r.holder i ≡ suc me)). lookup_else v.face.held j (2 * u) i (λ h. t.0 (sym h)) ∙ grip_was.listed i t.1) (put_or r.holder j (suc me) i (suc me) e);
    only = λ i y e. ⊎_elim (λ (t : (j ≡ i) × (2 * u ≡ y)). subst (λ (k : ℕ). put r.holder j (suc me) k ≡ suc me) t.0 (put_here r.holder j (suc me)))
        (λ (t : (j ≢ i) × (lookup v.face.held i ≡ some y)). put_else r.holder j (suc me) i (λ h. t.0 (sym h)) ∙ grip_was.only i y t.1) (lookup_put v.face.held j (2 * u) i y e);
    over = λ i e b. absurd (b calm);
    owns = λ b ticked. absurd (ticked_busy v.face.stage ticked calm);
    left = λ b y e. absurd (decided_busy v.face.stage (grip_was.left b y e).0 calm);
    ticks = λ b. absurd (b calm);
    apart = λ i ticked. absurd (ticked_busy v.face.stage ticked calm);
    unused = λ b ticked. absurd (ticked_busy v.face.stage ticked calm);
    placed = λ b done. absurd (decided_busy v.face.stage done calm);
  }

  knows : Knows (start key) (used_at key) W' me w
  knows = record {
    known = omega (arith, clock_same, mine.known);
    bounded = mine.bounded;
    stamps = mine.stamps;
    ticked = λ e. absurd (ticked_busy v.face.stage e calm);
    decided = mine.decided;
    aim = λ i e. ⊎_elim (λ (t : (i ≡ j) × (suc me ≡ suc me)). (a, same ∙ sym t.0, inl refl)) (λ (t : (i ≢ j) × (r.holder i ≡ suc me)). let g = mine.aim i t.1 in (g.0, g.1, inr g.2)) (put_or r.holder j (suc me) i (suc me) e);
    own_reads = λ b y l e h. ⊎_elim (λ (t : (stripe b ≡ j) × (suc me ≡ suc me)). let p = fits b y e t.0 in omega (arith, p, free.0, ap r.ver t.0)) (λ (t : (stripe b ≢ j) × (r.holder (stripe b) ≡ suc me)). mine.own_reads b y l e t.1) (put_or r.holder j (suc me) (stripe b) (suc me) h);
    reads = λ b y l e. let g = mine.reads b y l e in (g.0, clear_turns (start key) (used_at key) W W' me turn (suc me) v.bound b (omega (arith, mine.known, mine.bounded)) g.1);
    checked = λ b y l c e. let g = mine.checked b y l c e in (g.0, clear_turns (start key) (used_at key) W W' me turn (suc me) v.goal b (mine.goal l).1 g.1);
    goal = λ l. let g = mine.goal l in (g.0, omega (arith, g.1, clock_same));
    ahead = mine.ahead;
    look = λ l. tt;
    regions = mine.regions;
  }

  sound : Sound key s r me v w at (j + 1) new n
  sound = record {
    turn = turn;
    grip = grip;
    knows = knows;
    regions = λ q k m e. (e, refl);
    young = λ i. let l = r.locks.young i in omega (arith, l, clock_same);
    quiet = quiet_kept key s r me v w at (j + 1) new turn.others (put r.holder j (suc me)) turn.kept (λ i h d. absurd (decided_busy (faces s.views me).stage d was_calm));
    heap = λ b. heap_kept key s r me v w at (j + 1) new b (λ e. absurd (omega arith)) r.log (ap (λ t. value (start key) (wrote r.log) t b) clock_same)
        (λ y e. absurd (decided_busy v.face.stage (grip_was.left b y (ap (λ (f : Face). lookup f.left b) (sym was_face) ∙ e)).0 calm));
    ended = λ t b l. r.locks.ended t b (omega (arith, l, clock_same));
    annals = annals_turn (start key) (used_at key) W W' me turn r.log r.annals;
    chain = r.chain;
    account = λ h. r.account h ∙ sym (same_total (λ b. weigh h b.entries) s.views me v w at refl);
    stripes = stripes_but key s r me v w at (j + 1) new refl was_face j refl (let p = r.wide in omega arith) (suc me) u (new_is ∙ ap (λ (f : Face). 2 * f.number + 1) (sym now_face)) (put r.holder j (suc me)) r.ver (put_here r.holder j (suc me)) free.0
        (λ i m. (put_else r.holder j (suc me) i m, refl));
    clock = clock_same ∙ (r.clock_is ∙ sym (same_total (λ b. b.ticks) s.views me v w at refl));
    counts = counts_kept key s r me v w at (j + 1) new refl refl (r.counts.spare me v at) (λ z g. absurd (omega arith));
    like = (refl, refl, refl);
    sole = λ n l. let g = r.sole me v at n l in (λ u. clock_same ∙ g.0 u, λ t. absurd (ticked_busy v.face.stage t calm));
    apart = inl clock_same;
  }

  pub takes_kept : IsKept key record { words = set s.words (j + 1) new; homes = s.homes; views = set s.views me w }
  takes_kept = turned key s r me v w at (j + 1) new n sound
