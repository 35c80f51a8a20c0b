-- The clock is ticked.
use Rattle.std.proofs.Common.{◌≡◌, ℕ, suc, ◌+◌, ◌*◌, ◌<◌, ◌≤◌, true, List, [], ◌∷◌, ◌++◌, get_or, set, sym, refl, ap, ◌∙◌, subst, inl, inr, arith, get_or-set_same}
use mathlib.Core.Option.{some, some-ne-none}
use mathlib.Core.Logic.{dite}
use native.Mathlib.Decide.{ℕ_discrete}
use lib.ListN.{get_elem?}
use Rattle.atomic_table.specs.Table.{State}
use Rattle.tx_table.specs.Book.{Map, lookup, Has, In, Stage, Unticked, Ticked, Decided, Face, Book}
use Rattle.tx_table.specs.Rule.{Story, used_at, start, stripe, wrote, World, Knows, Grip, weigh, faces}
use Rattle.tx_table.specs.Steps.{IsKept}
use Rattle.tx_table.specs.Plays.{ticked_up, keys}
use Rattle.tx_table.proofs.MapLaws.{ne_cond}
use Rattle.tx_table.proofs.Puts.{put, put_here, put_else}
use Rattle.tx_table.proofs.Values.{value_still}
use Rattle.tx_table.proofs.Private.{face_at, world_of, same_total, total_set}
use Rattle.tx_table.proofs.Settled.{ticked_busy, decided_busy}
use Rattle.tx_table.proofs.Turns.{Turn, clear_turns, annals_turn}
use Rattle.tx_table.proofs.Turned.{Next, next_world, Sound, turned, others, here, quiet_kept, heap_kept, counts_kept, stripes_kept}

-- an address with a write is among the addresses of the writes
in_keys : (m : Map ℕ) (a x : ℕ) → lookup m a ≡ some x → In a (keys m)
in_keys [] a x e = absurd (some-ne-none x (sym e))
in_keys (y ∷ ys) a x e = dite (ℕ_discrete y.0 a) (λ h. inl (sym h)) (λ n. inr (in_keys ys a x (sym (ne_cond y.0 a (some y.1) (lookup ys a) n) ∙ e)))

in_front : (xs ys : List ℕ) (a : ℕ) → In a xs → In a (xs ++ ys)
in_front [] ys a i = absurd i
in_front (x ∷ xs) ys a (inl e) = inl e
in_front (x ∷ xs) ys a (inr i) = inr (in_front xs ys a i)

module _ {S : Type 0} (key : Story) (s : State S Book) (r : IsKept key s) (me : ℕ) (v : Book) (at : get_elem? s.views me ≡ some v) (x : ℕ) (due : Map ℕ) (next : x ≡ get_or s.words 0 0 + 1)
    (calm : v.face.stage ≡ Unticked) (live : v.live ≡ true) (room : v.ticks < 1099511627776) (some_parts : 0 < v.numbers)
    (all_held : (a : ℕ) → Has due a → Has v.face.held (stripe a)) (all_due : (i y : ℕ) → lookup v.face.held i ≡ some y → (a : ℕ) × (stripe a ≡ i) × Has due a) where
  abbrev w : Book
  w = ticked_up v x due

  abbrev W : World
  W = world_of key s r

  mine : Knows (start key) (used_at key) W me v
  mine = r.each me v at

  was_face : faces s.views me ≡ v.face
  was_face = face_at s.views me v at

  grip_was : Grip (start key) (used_at key) W me v.face
  grip_was = subst (Grip (start key) (used_at key) W me) was_face (r.locks.grip me)

  now_face : faces (set s.views me w) me ≡ w.face
  now_face = here key s r me v w at 0 x

  was_stage : (z : Stage) → v.face.stage ≡ z → (faces s.views me).stage ≡ z
  was_stage z e = ap (λ (f : Face). f.stage) was_face ∙ e

  was_tick : (faces s.views me).tick ≡ v.face.tick
  was_tick = ap (λ (f : Face). f.tick) was_face

  abbrev n : Next key s r me v w at 0 x
  n = record { ver = r.ver; holder = r.holder; whose = put r.whose x me; keeper = r.keeper; log = r.log }

  abbrev W' : World
  W' = next_world key s r me v w at 0 x n

  clock_is : get_or (set s.words 0 x) 0 0 ≡ get_or s.words 0 0 + 1
  clock_is = get_or-set_same s.words 0 x 0 (let p = r.wide in omega arith) ∙ next

  was_calm : (faces s.views me).stage ≡ Unticked
  was_calm = was_stage Unticked calm

  now_tick : (faces (set s.views me w) me).tick ≡ x
  now_tick = ap (λ (f : Face). f.tick) now_face

  turn : Turn (start key) (used_at key) W W' me
  turn = record {
    later = omega (arith, clock_is);
    others = others key s r me v w at 0 x;
    clear = λ t b l ticked. λ d h. omega (arith, now_tick, next, l);
    values = λ c t b m l h. refl;
    gained = λ i k m e. (e, refl);
    kept = λ i k m e. e;
    moved = λ i. inl refl;
    busy = λ i h b. inl (omega (arith, now_tick, next));
    caught = λ i h d. absurd (decided_busy (faces s.views me).stage d was_calm);
    signed = λ t k m l e. (put_else r.whose x me t (λ h. absurd (omega (arith, h, next, l))) ∙ e, λ b. refl);
  }

  grip : Grip (start key) (used_at key) W' me w.face
  grip = record {
    listed = grip_was.listed;
    only = grip_was.only;
    over = λ i e b. let l = r.locks.young i in omega (arith, l, next);
    owns = λ a ticked d. let h = all_held a d in grip_was.only (stripe a) h.0 h.1;
    left = λ b y e. absurd (decided_busy v.face.stage (grip_was.left b y e).0 calm);
    ticks = λ b. (omega (arith, clock_is, next), put_here r.whose x me);
    apart = λ i ticked e. let l = r.locks.young i in absurd (omega (arith, l, e, next));
    unused = λ b ticked. r.locks.ended x b (omega (arith, next));
    placed = λ b done. let z : Ticked ≡ Decided = done in cc z;
  }

  knows : Knows (start key) (used_at key) W' me w
  knows = let low : v.bound ≤ get_or s.words 0 0 = omega (arith, mine.known, mine.bounded) in record {
    known = omega (arith, clock_is, next);
    bounded = omega (arith, low, next);
    stamps = λ e i. let l = mine.stamps e i in omega (arith, l, mine.known, next);
    ticked = λ e. (omega (arith, low, next), omega arith, refl);
    decided = λ e. let z : Ticked ≡ Decided = e in cc z;
    aim = λ i e. let g = all_due i (2 * r.ver i) (grip_was.listed i e) in (g.0, g.1, in_front (keys due) v.wants g.0 (in_keys due g.0 g.2.0 g.2.1));
    own_reads = mine.own_reads;
    reads = λ b y l e. let g = mine.reads b y l e in (g.0, clear_turns (start key) (used_at key) W W' me turn (suc me) v.bound b low g.1);
    checked = λ b y l had. absurd had;
    goal = λ l. (omega (arith, low, next), omega (arith, clock_is, next));
    ahead = λ l u. omega arith;
    look = λ l. tt;
    regions = λ q u e. let g = mine.regions q u e in (g.0, g.1, omega (arith, g.2, mine.known, next), g.3);
  }

  sound : Sound key s r me v w at 0 x n
  sound = record {
    turn = turn;
    grip = grip;
    knows = knows;
    regions = λ q k m e. (e, refl);
    young = λ i. let l = r.locks.young i in omega (arith, l, clock_is);
    quiet = quiet_kept key s r me v w at 0 x turn.others r.holder turn.kept (λ i h d. absurd (decided_busy (faces s.views me).stage d was_calm));
    heap = λ b. heap_kept key s r me v w at 0 x b (λ e. absurd (omega arith)) r.log
        (value_still (start key) (wrote r.log) (get_or s.words 0 0) (get_or (set s.words 0 x) 0 0) b (omega (arith, clock_is)) (λ t p q. r.locks.ended t b p))
        (λ y e. absurd (decided_busy v.face.stage (grip_was.left b y (ap (λ (f : Face). lookup f.left b) (sym was_face) ∙ e)).0 calm));
    ended = λ t b l. r.locks.ended t b (omega (arith, l, clock_is));
    annals = annals_turn (start key) (used_at key) W W' me turn r.log r.annals;
    chain = r.chain;
    account = λ h. r.account h ∙ sym (same_total (λ b. weigh h b.entries) s.views me v w at refl);
    stripes = stripes_kept key s r me v w at 0 x refl was_face (λ i l e. absurd (omega arith));
    clock = let t = total_set (λ b. b.ticks) s.views me v w at in omega (arith, clock_is, r.clock_is, t);
    counts = counts_kept key s r me v w at 0 x refl refl (omega (arith, room, some_parts)) (λ z g. absurd (omega arith));
    like = (refl, refl, refl);
    sole = λ n l. let g = (r.sole me v at n live).0 calm in (λ u. absurd (ticked_busy Unticked (sym u) refl), λ t. (omega (arith, clock_is, next), omega (arith, clock_is, g)));
    apart = inr some_parts;
  }

  pub ticks_kept : IsKept key record { words = set s.words 0 x; homes = s.homes; views = set s.views me w }
  ticks_kept = turned key s r me v w at 0 x n sound
