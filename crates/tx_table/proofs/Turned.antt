-- The rule after a step, from what changed.
use Rattle.std.proofs.Common.{◌≡◌, ◌≢◌, ◌⊎◌, ℕ, zero, suc, ◌+◌, ◌*◌, ◌<◌, ◌≤◌, true, List, [], length, get_or, set, sym, refl, ap, ◌∙◌, subst, inl, inr, ⊎_elim, arith, length-set, get_or-set_other, get_or-set_same}
use mathlib.Core.Option.{none, some}
use mathlib.Core.Logic.{dite}
use native.Mathlib.Decide.{ℕ_discrete}
use lib.ListN.{get_elem?}
use Rattle.atomic_table.specs.Table.{State}
use Rattle.jmodel.specs.history.History.{Entry}
use Rattle.tx_table.specs.Book.{lookup, Has, Decided, Face, Book}
use Rattle.tx_table.specs.Rule.{Story, used_at, start, stripe, wrote, value, last_of, Chain, World, Knows, Grip, Annals, total, weigh, faces, code, Counts, IsSole, world}
use Rattle.tx_table.specs.Steps.{IsKept}
use Rattle.tx_table.proofs.Private.{Like, numbers_stay, two_le, faces_here, faces_else, each_stays, world_of, same_total}
use Rattle.tx_table.proofs.Turns.{Turn, knows_turns, grip_turns}

module _ {S : Type 0} (key : Story) (s : State S Book) (r : IsKept key s) (me : ℕ) (v w : Book) (at : get_elem? s.views me ≡ some v) (i x : ℕ) where
  abbrev pub after : State S Book
  after = record { words = set s.words i x; homes = s.homes; views = set s.views me w }

  -- what the step does beside the words and the views
  pub record Next : Type 0 where
    pub ver : ℕ → ℕ
    pub holder : ℕ → ℕ
    pub whose : ℕ → ℕ
    pub keeper : ℕ → ℕ
    pub log : List Entry

  abbrev pub next_world : Next → World
  next_world n = world after.words after.views n.ver n.holder n.whose n.keeper n.log

  pub record Sound (n : Next) : Type 0 where
    pub turn : Turn (start key) (used_at key) (world_of key s r) (next_world n) me
    pub grip : Grip (start key) (used_at key) (next_world n) me w.face
    pub knows : Knows (start key) (used_at key) (next_world n) me w
    pub regions : (q k : ℕ) → k ≢ me → r.keeper q ≡ k → (n.keeper q ≡ k) × (last_of n.log q ≡ last_of r.log q)
    pub young : (j : ℕ) → n.ver j ≤ get_or (set s.words i x) 0 0
    pub quiet : (t a y : ℕ) → n.ver (stripe a) < t → wrote n.log t a ≡ some y → (k : ℕ) × (n.holder (stripe a) ≡ suc k) × ((faces (set s.views me w) k).stage ≡ Decided) × ((faces (set s.views me w) k).tick ≡ t)
    pub heap : (a : ℕ) → (get_or (set s.words i x) (a + 4097) 0 ≡ value (start key) (wrote n.log) (get_or (set s.words i x) 0 0) a) ⊎ ((k : ℕ) × Has (faces (set s.views me w) k).left a)
    pub ended : (t a : ℕ) → get_or (set s.words i x) 0 0 < t → wrote n.log t a ≡ none
    pub annals : Annals (start key) (used_at key) (next_world n) n.log
    pub chain : Chain key n.log
    pub account : (h : Entry → ℕ) → weigh h n.log ≡ total (λ b. weigh h b.entries) (set s.views me w)
    pub stripes : (j : ℕ) → j < 4096 → get_or (set s.words i x) (j + 1) 0 ≡ code (faces (set s.views me w)) (n.holder j) (n.ver j)
    pub clock : get_or (set s.words i x) 0 0 ≡ total (λ b. b.ticks) (set s.views me w)
    pub counts : Counts (set s.views me w)
    pub like : Like w v
    pub sole : w.numbers ≡ 1048576 → w.live ≡ true → IsSole (get_or (set s.words i x) 0 0) w
    pub apart : (get_or (set s.words i x) 0 0 ≡ get_or s.words 0 0) ⊎ (0 < v.numbers)

  pub turned : (n : Next) → Sound n → IsKept key after
  turned n h = record {
    ver = n.ver;
    holder = n.holder;
    whose = n.whose;
    keeper = n.keeper;
    log = n.log;
    wide = length-set s.words i x ∙ r.wide;
    clock_is = h.clock;
    stripes = h.stripes;
    locks = record {
      young = h.young;
      grip = λ k. dite (ℕ_discrete k me)
          (λ e. subst (λ (j : ℕ). Grip (start key) (used_at key) (next_world n) j (faces (set s.views me w) j)) (sym e) (subst (Grip (start key) (used_at key) (next_world n) me) (sym (faces_here s.views me v w at)) h.grip))
          (λ m. grip_turns (start key) (used_at key) (world_of key s r) (next_world n) me h.turn (λ b. ((r.locks.grip me).ticks b).1) k m (r.locks.grip k));
      quiet = h.quiet;
      heap = h.heap;
      ended = h.ended;
    };
    annals = h.annals;
    chain = h.chain;
    account = h.account;
    each = each_stays (Knows (start key) (used_at key) (next_world n)) s.views me w h.knows (λ j b m e. knows_turns (start key) (used_at key) (world_of key s r) (next_world n) me h.turn j b m (λ q _. h.regions q j m) (r.each j b e));
    counts = h.counts;
    distinct = numbers_stay s.views me v w at h.like r.distinct;
    sole = each_stays (λ j b. b.numbers ≡ 1048576 → b.live ≡ true → IsSole (get_or (set s.words i x) 0 0) b) s.views me w h.sole
        (λ j b m e all live. ⊎_elim (λ same. let g = r.sole j b e all live in (λ u. same ∙ g.0 u, λ t. (same ∙ (g.1 t).0, same ∙ (g.1 t).1)))
        (λ some. let p = two_le (λ b. b.numbers) s.views j me b v m e at in absurd (omega (arith, p, all, some, r.counts.numbers))) h.apart);
  }

  pub others : (k : ℕ) → k ≢ me → faces (set s.views me w) k ≡ faces s.views k
  others k m = faces_else s.views me k w m

  pub here : faces (set s.views me w) me ≡ w.face
  here = faces_here s.views me v w at

  -- another word shows what it showed
  pub word_else : (j : ℕ) → j ≢ i → get_or (set s.words i x) j 0 ≡ get_or s.words j 0
  word_else j m = get_or-set_other s.words i j x 0 m

  -- codes of stripes whose holder and version stay, where numbers do
  same_number : w.face.number ≡ v.face.number → faces s.views me ≡ v.face → (k : ℕ) → (faces (set s.views me w) k).number ≡ (faces s.views k).number
  same_number e was k = dite (ℕ_discrete k me) (λ m. ap (λ j. (faces (set s.views me w) j).number) m ∙ (ap (λ (f : Face). f.number) here ∙ (e ∙ (ap (λ (f : Face). f.number) (sym was) ∙ ap (λ j. (faces s.views j).number) (sym m)))))
      (λ m. ap (λ (f : Face). f.number) (others k m))

  pub code_kept : w.face.number ≡ v.face.number → faces s.views me ≡ v.face → (h u : ℕ) → code (faces (set s.views me w)) h u ≡ code (faces s.views) h u
  code_kept e was zero u = refl
  code_kept e was (suc k) u = ap (λ n. 2 * n + 1) (same_number e was k)

  -- where neither a version nor the log changes
  pub quiet_kept : (T : (k : ℕ) → k ≢ me → faces (set s.views me w) k ≡ faces s.views k) (holder' : ℕ → ℕ) → ((j k : ℕ) → k ≢ me → r.holder j ≡ suc k → holder' j ≡ suc k)
      → ((j : ℕ) → r.holder j ≡ suc me → (faces s.views me).stage ≡ Decided → (holder' j ≡ suc me) × (w.face.stage ≡ Decided) × (w.face.tick ≡ (faces s.views me).tick))
      → (t a y : ℕ) → r.ver (stripe a) < t → wrote r.log t a ≡ some y → (k : ℕ) × (holder' (stripe a) ≡ suc k) × ((faces (set s.views me w) k).stage ≡ Decided) × ((faces (set s.views me w) k).tick ≡ t)
  quiet_kept T holder' kept mine t a y l e = let g = r.locks.quiet t a y l e in dite (ℕ_discrete g.0 me)
      (λ h. let m = mine (stripe a) (g.1 ∙ ap suc h) (ap (λ k. (faces s.views k).stage) (sym h) ∙ g.2) in
      (me, m.0, ap (λ (f : Face). f.stage) here ∙ m.1, ap (λ (f : Face). f.tick) here ∙ (m.2 ∙ (ap (λ k. (faces s.views k).tick) (sym h) ∙ g.3))))
      (λ n. (g.0, kept (stripe a) g.0 n g.1, ap (λ (f : Face). f.stage) (T g.0 n) ∙ g.2, ap (λ (f : Face). f.tick) (T g.0 n) ∙ g.3))

  -- where a heap word stays, and its value
  pub heap_kept : (a : ℕ) → a + 4097 ≢ i → (H : List Entry) → value (start key) (wrote H) (get_or (set s.words i x) 0 0) a ≡ value (start key) (wrote r.log) (get_or s.words 0 0) a
      → ((y : ℕ) → lookup (faces s.views me).left a ≡ some y → lookup w.face.left a ≡ some y)
      → (get_or (set s.words i x) (a + 4097) 0 ≡ value (start key) (wrote H) (get_or (set s.words i x) 0 0) a) ⊎ ((k : ℕ) × Has (faces (set s.views me w) k).left a)
  heap_kept a n H same mine = ⊎_elim (λ e. inl (word_else (a + 4097) n ∙ (e ∙ sym same)))
      (λ (h : (k : ℕ) × Has (faces s.views k).left a). dite (ℕ_discrete h.0 me)
      (λ e. inr (me, (h.1.0, ap (λ (f : Face). lookup f.left a) here ∙ mine h.1.0 (ap (λ k. lookup (faces s.views k).left a) (sym e) ∙ h.1.1))))
      (λ m. inr (h.0, (h.1.0, ap (λ (f : Face). lookup f.left a) (others h.0 m) ∙ h.1.1)))) (r.locks.heap a)

  pub counts_kept : w.face.number ≡ v.face.number → w.numbers ≡ v.numbers → w.ticks ≤ w.numbers * 1099511627776 → (v.numbers ≡ 0 → (v.entries ≡ []) × (v.face.held ≡ []) → (w.entries ≡ []) × (w.face.held ≡ [])) → Counts (set s.views me w)
  counts_kept number numbers spare idle = record {
    numbers = same_total (λ b. b.numbers) s.views me v w at numbers ∙ r.counts.numbers;
    spare = each_stays (λ k b. b.ticks ≤ b.numbers * 1099511627776) s.views me w spare (λ k b m e. r.counts.spare k b e);
    number = each_stays (λ k b. b.face.number < 1048576) s.views me w (let p = r.counts.number me v at in omega (arith, p, number)) (λ k b m e. r.counts.number k b e);
    idle = each_stays (λ j b. b.numbers ≡ 0 → (b.entries ≡ []) × (b.face.held ≡ [])) s.views me w (λ z. idle (sym numbers ∙ z) (r.counts.idle me v at (sym numbers ∙ z))) (λ j b n e. r.counts.idle j b e);
  }

  -- the stripes where only the word i changes, and it is no stripe's
  pub stripes_kept : w.face.number ≡ v.face.number → faces s.views me ≡ v.face → ((j : ℕ) → j < 4096 → j + 1 ≢ i) → (j : ℕ) → j < 4096 → get_or (set s.words i x) (j + 1) 0 ≡ code (faces (set s.views me w)) (r.holder j) (r.ver j)
  stripes_kept e was n j l = word_else (j + 1) (n j l) ∙ (r.stripes j l ∙ sym (code_kept e was (r.holder j) (r.ver j)))

  -- the same but for one stripe
  pub stripes_but : w.face.number ≡ v.face.number → faces s.views me ≡ v.face → (c : ℕ) → i ≡ c + 1 → i < length s.words → (h u : ℕ) → x ≡ code (faces (set s.views me w)) h u → (holder' ver' : ℕ → ℕ) → (holder' c ≡ h) → (ver' c ≡ u)
      → ((j : ℕ) → j ≢ c → (holder' j ≡ r.holder j) × (ver' j ≡ r.ver j)) → (j : ℕ) → j < 4096 → get_or (set s.words i x) (j + 1) 0 ≡ code (faces (set s.views me w)) (holder' j) (ver' j)
  stripes_but e was c is inside h u shown holder' ver' hc uc same j l = let F = faces (set s.views me w) in dite (ℕ_discrete j c)
      (λ m. ap (λ k. get_or (set s.words i x) k 0) (let p : j + 1 ≡ i = omega arith in p) ∙ (get_or-set_same s.words i x 0 inside ∙ (shown ∙ (λ k. code F (sym hc k) (sym uc k)) ∙ (λ k. code F (holder' (sym m k)) (ver' (sym m k))))))
      (λ n. word_else (j + 1) (λ q. n (omega arith)) ∙ (r.stripes j l ∙ (sym (code_kept e was (r.holder j) (r.ver j)) ∙ (λ k. code F (sym (same j n).0 k) (sym (same j n).1 k)))))
