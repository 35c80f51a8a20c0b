-- A stripe is given back as it was, before the decision.
use Rattle.std.proofs.Common.{◌≡◌, ◌≢◌, ℕ, suc, ◌+◌, ◌*◌, ◌<◌, Bool, true, get_or, set, sym, refl, ap, ◌∙◌, subst, inl, ⊎_elim, arith}
use mathlib.Core.Option.{some, some-injective, some-ne-none}
use lib.ListN.{get_elem?}
use Rattle.atomic_table.specs.Table.{State}
use Rattle.tx_table.specs.Book.{lookup, without, Stage, Unticked, Decided, Face, Book}
use Rattle.tx_table.specs.Rule.{Story, used_at, start, stripe, wrote, value, World, Knows, Grip, weigh, faces}
use Rattle.tx_table.specs.Steps.{IsKept}
use Rattle.tx_table.specs.Plays.{gave_up}
use Rattle.tx_table.proofs.MapLaws.{lookup_kept, lookup_without}
use Rattle.tx_table.proofs.Puts.{put, put_here, put_else, put_or}
use Rattle.tx_table.proofs.Private.{face_at, world_of, same_total}
use Rattle.tx_table.proofs.Settled.{ticked_busy, decided_busy}
use Rattle.tx_table.proofs.Turns.{Turn, clear_turns, annals_turn}
use Rattle.tx_table.proofs.Turned.{Next, next_world, Sound, turned, others, here, word_else, quiet_kept, heap_kept, counts_kept, stripes_but}

module _ {S : Type 0} (key : Story) (s : State S Book) (r : IsKept key s) (me : ℕ) (v : Book) (at : get_elem? s.views me ≡ some v) (j old : ℕ) (live : Bool) (low : j < 4096)
    (undecided : v.face.stage ≢ Decided) (held : lookup v.face.held j ≡ some old) (lives : live ≡ true → (v.live ≡ true) × (v.face.stage ≡ Unticked)) where
  abbrev w : Book
  w = gave_up v j live

  abbrev W : World
  W = world_of key s r

  mine : Knows (start key) (used_at key) W me v
  mine = r.each me v at

  was_face : faces s.views me ≡ v.face
  was_face = face_at s.views me v at

  grip_was : Grip (start key) (used_at key) W me v.face
  grip_was = subst (Grip (start key) (used_at key) W me) was_face (r.locks.grip me)

  now_face : faces (set s.views me w) me ≡ w.face
  now_face = here key s r me v w at (j + 1) old

  was_stage : (z : Stage) → v.face.stage ≡ z → (faces s.views me).stage ≡ z
  was_stage z e = ap (λ (f : Face). f.stage) was_face ∙ e

  was_tick : (faces s.views me).tick ≡ v.face.tick
  was_tick = ap (λ (f : Face). f.tick) was_face

  abbrev n : Next key s r me v w at (j + 1) old
  n = record { ver = r.ver; holder = put r.holder j 0; whose = r.whose; keeper = r.keeper; log = r.log }

  abbrev W' : World
  W' = next_world key s r me v w at (j + 1) old n

  own : r.holder j ≡ suc me
  own = grip_was.only j old held

  clock_same : get_or (set s.words (j + 1) old) 0 0 ≡ get_or s.words 0 0
  clock_same = word_else key s r me v w at (j + 1) old 0 (λ e. absurd (omega arith))

  now_calm : (faces (set s.views me w) me).stage ≡ Unticked
  now_calm = ap (λ (f : Face). f.stage) now_face

  was_undecided : (faces s.views me).stage ≢ Decided
  was_undecided e = undecided (ap (λ (f : Face). f.stage) (sym was_face) ∙ e)

  old_is : old ≡ 2 * r.ver j
  old_is = some-injective old (2 * r.ver j) (sym held ∙ grip_was.listed j own)

  held_before : (i k : ℕ) → put r.holder j 0 i ≡ suc k → (i ≢ j) × (r.holder i ≡ suc k)
  held_before i k e = ⊎_elim (λ (t : (i ≡ j) × (0 ≡ suc k)). let p = t.1 in absurd (omega arith)) (λ (t : (i ≢ j) × (r.holder i ≡ suc k)). t) (put_or r.holder j 0 i (suc k) e)

  turn : Turn (start key) (used_at key) W W' me
  turn = record {
    later = omega (arith, clock_same);
    others = others key s r me v w at (j + 1) old;
    clear = λ t b l ticked. absurd (ticked_busy (faces (set s.views me w) me).stage ticked now_calm);
    values = λ c t b m l h. refl;
    gained = λ i k m e. ((held_before i k e).1, refl);
    kept = λ i k m e. put_else r.holder j 0 i (λ h. let p : suc k ≡ suc me = sym e ∙ (ap r.holder h ∙ own) in m (omega arith)) ∙ e;
    moved = λ i. inl refl;
    busy = λ i h b. absurd (b now_calm);
    caught = λ i h d. absurd (was_undecided d);
    signed = λ t k m l e. (e, λ b. refl);
  }

  grip : Grip (start key) (used_at key) W' me w.face
  grip = record {
    listed = λ i e. let g = held_before i me e in lookup_kept v.face.held j i (λ h. g.0 (sym h)) ∙ grip_was.listed i g.1;
    only = λ i y e. let g = lookup_without v.face.held j i y e in put_else r.holder j 0 i (λ h. g.0 (sym h)) ∙ grip_was.only i y g.1;
    over = λ i e b. absurd (b refl);
    owns = λ b ticked. absurd (ticked_busy Unticked ticked refl);
    left = λ b y e. absurd (some-ne-none y (sym e));
    ticks = λ b. absurd (b refl);
    apart = λ i ticked. absurd (ticked_busy Unticked ticked refl);
    unused = λ b ticked. absurd (ticked_busy Unticked ticked refl);
    placed = λ b done. absurd (decided_busy Unticked done refl);
  }

  knows : Knows (start key) (used_at key) W' me w
  knows = record {
    known = omega (arith, clock_same, mine.known);
    bounded = mine.bounded;
    stamps = mine.stamps;
    ticked = λ e. absurd (ticked_busy Unticked e refl);
    decided = λ e. absurd (decided_busy Unticked e refl);
    aim = λ i e. mine.aim i (held_before i me e).1;
    own_reads = λ b y l e h. mine.own_reads b y (lives l).0 e (held_before (stripe b) me h).1;
    reads = λ b y l e. let g = mine.reads b y (lives l).0 e in (g.0, clear_turns (start key) (used_at key) W W' me turn (suc me) v.bound b (omega (arith, mine.known, mine.bounded)) g.1);
    checked = λ b y l c e. let g = mine.checked b y (lives l).0 c e in (g.0, clear_turns (start key) (used_at key) W W' me turn (suc me) v.goal b (mine.goal (lives l).0).1 g.1);
    goal = λ l. let g = mine.goal (lives l).0 in (g.0, omega (arith, g.1, clock_same));
    ahead = λ l u. mine.ahead (lives l).0 (lives l).1;
    look = λ l. tt;
    regions = λ q u e. let g = mine.regions q u e in (g.0, g.1, g.2, λ l. g.3 (lives l).0);
  }

  sound : Sound key s r me v w at (j + 1) old n
  sound = record {
    turn = turn;
    grip = grip;
    knows = knows;
    regions = λ q k m e. (e, refl);
    young = λ i. let l = r.locks.young i in omega (arith, l, clock_same);
    quiet = quiet_kept key s r me v w at (j + 1) old turn.others (put r.holder j 0) turn.kept (λ i h d. absurd (was_undecided d));
    heap = λ b. heap_kept key s r me v w at (j + 1) old b (λ e. absurd (omega arith)) r.log (ap (λ t. value (start key) (wrote r.log) t b) clock_same)
        (λ y e. absurd (undecided (grip_was.left b y (ap (λ (f : Face). lookup f.left b) (sym was_face) ∙ e)).0));
    ended = λ t b l. r.locks.ended t b (omega (arith, l, clock_same));
    annals = annals_turn (start key) (used_at key) W W' me turn r.log r.annals;
    chain = r.chain;
    account = λ h. r.account h ∙ sym (same_total (λ b. weigh h b.entries) s.views me v w at refl);
    stripes = stripes_but key s r me v w at (j + 1) old refl was_face j refl (let p = r.wide in omega arith) 0 (r.ver j) old_is (put r.holder j 0) r.ver (put_here r.holder j 0) refl
        (λ i m. (put_else r.holder j 0 i m, refl));
    clock = clock_same ∙ (r.clock_is ∙ sym (same_total (λ b. b.ticks) s.views me v w at refl));
    counts = counts_kept key s r me v w at (j + 1) old refl refl (r.counts.spare me v at) (λ z g. (g.0, ap (λ m. without m j) g.1));
    like = (refl, refl, refl);
    sole = λ n l. let g = lives l in let k = r.sole me v at n g.0 in (λ u. clock_same ∙ k.0 g.1, λ t. absurd (ticked_busy Unticked t refl));
    apart = inl clock_same;
  }

  pub gives_kept : IsKept key record { words = set s.words (j + 1) old; homes = s.homes; views = set s.views me w }
  gives_kept = turned key s r me v w at (j + 1) old n sound
