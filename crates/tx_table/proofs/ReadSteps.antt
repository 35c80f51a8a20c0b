-- The steps of a reading attempt keep the rule.
use Rattle.std.proofs.Common.{◌==◌, ◌≡◌, ◌≢◌, ◌⊎◌, ℕ, zero, suc, ◌+◌, ◌-◌, ◌*◌, ◌/◌, ◌%◌, ◌<◌, ◌≤◌, Bool, true, false, cond, List, [], ◌∷◌, get_or, sym, refl, ap, ◌∙◌, subst, inl, inr, ⊎_elim, arith}
use mathlib.Core.Option.{Option, none, some, some-injective, some-ne-none}
use mathlib.Core.Logic.{dite}
use native.Mathlib.Decide.{ℕ_discrete}
use lib.ListN.{get_elem?}
use Rattle.atomic_table.specs.Table.{State, Me, step, keeps, Allows}
use Rattle.jmodel.specs.history.History.{Call, Entry}
use Rattle.tx_table.specs.Book.{Map, lookup, Has, In, Stage, Unticked, Ticked, Decided, Look, Away, Saw, Had, Face, Book}
use Rattle.tx_table.specs.Rule.{Story, used_at, start, stripe, last_of, top_of, Faces, World, Sees, Watch, Catch, Looks, face_of, faces, code, IsSole}
use Rattle.tx_table.specs.Steps.{IsKept, Untouched, Unchanged, IsPast, Moved, Foreign, Begins, Looks_up, Loads, Loads_own, Rechecks, Extends, Validates}
use Rattle.tx_table.specs.Plays.{begun, is_free, fits, lost_at, looked, loaded_at, logged, checked_at, extended, extending, passed, validated, Aims, IsLoaded, word_in}
use Rattle.tx_table.proofs.MapLaws.{eq_cond, ne_cond}
use Rattle.tx_table.proofs.Private.{world_of, Mine, quietly, face_at, two_le}
use Rattle.tx_table.proofs.Settled.{catches, ticked_busy, decided_busy, still, settled, clears}
use Rattle.std.proofs.lemmas.Bool.{leb-true}

-- one read is another
abbrev Same_pair : ℕ → ℕ → ℕ → ℕ → Type 0
Same_pair b y a x = ◌≡◌ {A = ℕ × ℕ} (b, y) (a, x)

pub last_in : (H : List Entry) (k : ℕ) (p : Entry) → last_of H k ≡ some p → In p H
last_in [] k p e = absurd (some-ne-none p (sym e))
last_in (x ∷ xs) k p e = dite (ℕ_discrete x.call.region k)
    (λ h. inl (some-injective p x (sym e ∙ eq_cond x.call.region k (some x) (last_of xs k) h)))
    (λ n. inr (last_in xs k p (sym (ne_cond x.call.region k (some x) (last_of xs k) n) ∙ e)))

pub top_le : (H : List Entry) (clock k : ℕ) → ((e : Entry) → In e H → e.stamp.at ≤ clock) → top_of (last_of H k) ≤ clock
top_le H clock k h = at (last_of H k) refl
  where
    at : (z : Option Entry) → last_of H k ≡ z → top_of z ≤ clock
    at none e = omega arith
    at (some p) e = h p (last_in H k p e)

none_found : (x : ℕ) → none ≡ some x → ⊥
none_found x e = some-ne-none x (sym e)

module _ {S : Type 0} (key : Story) (s : State S Book) (r : IsKept key s) (me : ℕ) (v : Book) (at : get_elem? s.views me ≡ some v) where
  abbrev clock : ℕ
  clock = get_or s.words 0 0

  abbrev W : World
  W = world_of key s r

  abbrev F : Faces
  F = faces s.views

  mine : Mine key s r me v
  mine = r.each me v at

  face_is : F me ≡ v.face
  face_is = face_at s.views me v at

  holds_none : v.face.held ≡ [] → (i : ℕ) → r.holder i ≡ suc me → ⊥
  holds_none none_held i h = let l = (r.locks.grip me).listed i h in let e : lookup v.face.held i ≡ some (2 * r.ver i) = ap (λ (f : Face). lookup f.held i) (sym face_is) ∙ l in
      none_found (2 * r.ver i) (ap (λ (m : Map ℕ). lookup m i) (sym none_held) ∙ e)

  dead : {A : Type 0} → false ≡ true → A
  dead l = absurd (let z : false ≡ true = l in cc z)

  pub begins_mine : (c : Call) → v.face.held ≡ [] → v.face.stage ≡ Unticked → Mine key s r me (begun v c clock)
  begins_mine c none_held calm = record {
    known = omega arith;
    bounded = omega arith;
    stamps = λ e i. let l = mine.stamps e i in omega (arith, l, mine.known);
    ticked = λ e. absurd (ticked_busy v.face.stage e calm);
    decided = λ e. absurd (decided_busy v.face.stage e calm);
    aim = λ i h. absurd (holds_none none_held i h);
    own_reads = λ a x l e h. absurd e;
    reads = λ a x l e. absurd e;
    checked = λ a x l had f. absurd f;
    goal = λ l. (omega arith, omega arith);
    ahead = λ l u. omega arith;
    look = λ _. tt;
    regions = λ k u e. let g = mine.regions k u e in let l = top_le r.log clock k r.annals.stamps in (g.0, g.1, l, λ _. l);
  }

  -- the same book but for the look
  pub looks_mine : (z : Look) → (v.live ≡ true → Looks (start key) (used_at key) W (suc me) v.bound z) → Mine key s r me (record v { look = z })
  looks_mine z h = record {
    known = mine.known;
    bounded = mine.bounded;
    stamps = mine.stamps;
    ticked = mine.ticked;
    decided = mine.decided;
    aim = mine.aim;
    own_reads = mine.own_reads;
    reads = mine.reads;
    checked = mine.checked;
    goal = mine.goal;
    ahead = mine.ahead;
    look = h;
    regions = mine.regions;
  }

  -- a conflict ends the reading
  pub lost_mine : (a n : ℕ) → Mine key s r me (lost_at v a n)
  lost_mine a n = record {
    known = mine.known;
    bounded = mine.bounded;
    stamps = mine.stamps;
    ticked = mine.ticked;
    decided = λ e. refl;
    aim = mine.aim;
    own_reads = λ b x l. dead l;
    reads = λ b x l. dead l;
    checked = λ b x l. dead l;
    goal = λ l. dead l;
    ahead = λ l u. dead l;
    look = λ l. dead l;
    regions = λ k u e. let g = mine.regions k u e in (g.0, g.1, g.2, λ l. dead l);
  }

  -- a free stripe that shows 2 * u has the version u
  pub free_is : (i n : ℕ) → i < 4096 → get_or s.words (i + 1) 0 ≡ 2 * n → (r.ver i ≡ n) × (r.holder i ≡ 0)
  free_is i n l e = cases (r.holder i) refl
    where
      cases : (h : ℕ) → r.holder i ≡ h → (r.ver i ≡ n) × (r.holder i ≡ 0)
      cases zero f = let p : 2 * n ≡ 2 * r.ver i = sym e ∙ (r.stripes i l ∙ ap (λ (k : ℕ). code F k (r.ver i)) f) in (omega arith, f)
      cases (suc j) f = let p : 2 * n ≡ 2 * (F j).number + 1 = sym e ∙ (r.stripes i l ∙ ap (λ (k : ℕ). code F k (r.ver i)) f) in absurd (omega arith)

  pub saw : (i n bound : ℕ) → i < 4096 → get_or s.words (i + 1) 0 ≡ 2 * n → Watch (start key) (used_at key) W bound i n
  saw i n bound l e = let f = free_is i n l e in (inl f.0, λ k h. absurd (omega (arith, f.1, h)))

  pub looked_mine : (a : ℕ) (newer : Bool) (n : ℕ) → a % 4096 < 4096 → get_or s.words (a % 4096 + 1) 0 ≡ n → Mine key s r me (looked v a newer n)
  looked_mine a newer n l e = dite (ℕ_discrete (n % 2) 0)
      (λ h. let yes : Book = record v { look = Saw (a % 4096) (n / 2) } in let good : Mine key s r me yes = looks_mine (Saw (a % 4096) (n / 2)) (λ _. saw (a % 4096) (n / 2) v.bound l (omega (arith, e, h))) in
      subst (Mine key s r me) (sym (eq_cond (n % 2) 0 (cond newer yes (cond (fits v.bound n) yes (lost_at v a n))) (lost_at v a n) h)) (either newer yes (cond (fits v.bound n) yes (lost_at v a n)) good (either (fits v.bound n) yes (lost_at v a n) good (lost_mine a n))))
      (λ m. subst (Mine key s r me) (sym (ne_cond (n % 2) 0 (cond newer (record v { look = Saw (a % 4096) (n / 2) }) (cond (fits v.bound n) (record v { look = Saw (a % 4096) (n / 2) }) (lost_at v a n))) (lost_at v a n) m)) (lost_mine a n))
    where
      either : (b : Bool) (x y : Book) → Mine key s r me x → Mine key s r me y → Mine key s r me (cond b x y)
      either true x y p q = p
      either false x y p q = q

  had : (i u a : ℕ) → stripe a ≡ i → Watch (start key) (used_at key) W v.bound i u → Looks (start key) (used_at key) W (suc me) v.bound (Had i u a (get_or s.words (a + 4097) 0))
  had i u a same w = let w' : Watch (start key) (used_at key) W v.bound (stripe a) u = rw same w in
      (same, w, catches (start key) (used_at key) W r.locks a (suc me) v.bound u (omega (arith, mine.known, mine.bounded)) w')

  pub loaded_mine : (z : Look) (i a : ℕ) → v.look ≡ z → v.live ≡ true → stripe a ≡ i → Aims z i → Mine key s r me (loaded_at z v a (get_or s.words (a + 4097) 0))
  loaded_mine Away i a is live same aims = absurd aims
  loaded_mine (Saw j u) i a is live same aims = looks_mine (Had j u a (get_or s.words (a + 4097) 0)) (λ l. had j u a (same ∙ sym aims) (subst (Looks (start key) (used_at key) W (suc me) v.bound) is (mine.look l)))
  loaded_mine (Had j u b x) i a is live same aims = looks_mine (Had j u a (get_or s.words (a + 4097) 0)) (λ l. had j u a (same ∙ sym aims) (subst (Looks (start key) (used_at key) W (suc me) v.bound) is (mine.look l)).1)

  -- one more read is logged
  reads_mine : (a x : ℕ) → v.face.stage ≡ Unticked → Sees (start key) (used_at key) W (suc me) v.bound a x → r.ver (stripe a) ≤ v.bound → Mine key s r me (record v { reads = (a, x) ∷ v.reads; look = Away; checked = [] })
  reads_mine a x calm sees low = record {
    known = mine.known;
    bounded = mine.bounded;
    stamps = mine.stamps;
    ticked = mine.ticked;
    decided = mine.decided;
    aim = mine.aim;
    own_reads = λ b y l e h. ⊎_elim (λ (t : Same_pair b y a x). let q : b ≡ a = ap (λ (p : ℕ × ℕ). p.0) t in let k : r.ver (stripe b) ≤ v.bound = rw q low in k) (λ i. mine.own_reads b y l i h) e;
    reads = λ b y l e. ⊎_elim (λ (t : Same_pair b y a x). subst (λ (p : ℕ × ℕ). Sees (start key) (used_at key) W (suc me) v.bound p.0 p.1) (sym t) sees) (λ i. mine.reads b y l i) e;
    checked = λ b y l c f. absurd c;
    goal = mine.goal;
    ahead = mine.ahead;
    look = λ _. tt;
    regions = mine.regions;
  }

  -- a recheck that finds the word again
  caught : (i u a x : ℕ) → stripe a ≡ i → (r.ver i ≡ u) × (r.holder i ≡ 0) → u ≤ v.bound → Catch (start key) (used_at key) W (suc me) v.bound a x → Sees (start key) (used_at key) W (suc me) v.bound a x
  caught i u a x same f low c = let ver : r.ver (stripe a) ≡ u = rw same f.0 in let free : r.holder (stripe a) ≡ 0 = rw same f.1 in
      ⊎_elim (λ h. h) (λ h. ⊎_elim (λ l. absurd (omega arith)) (λ (d : (k : ℕ) × (r.holder (stripe a) ≡ suc k) × ((F k).stage ≡ Decided)). let e = d.1 in absurd (omega arith)) h) c

  pub checked_mine : (z : Look) (a n : ℕ) → v.look ≡ z → v.live ≡ true → v.face.stage ≡ Unticked → a % 4096 < 4096 → get_or s.words (a % 4096 + 1) 0 ≡ n → IsLoaded z a v.bound → Mine key s r me (checked_at z v n)
  checked_mine Away a n is live calm l e h = absurd h
  checked_mine (Saw j u) a n is live calm l e h = absurd h
  checked_mine (Had j u b x) a n is live calm l e h = let w = subst (Looks (start key) (used_at key) W (suc me) v.bound) is (mine.look live) in dite (ℕ_discrete n (2 * u))
      (λ m. subst (Mine key s r me) (sym (eq_cond n (2 * u) (record v { reads = (b, x) ∷ v.reads; look = Away; checked = [] }) (lost_at v b n) m))
      (let f = free_is (a % 4096) u l (e ∙ m) in let same : stripe b ≡ a % 4096 = w.0 ∙ h.0 in reads_mine b x calm (caught (a % 4096) u b x same f h.2 w.2) (let k : r.ver (a % 4096) ≤ v.bound = omega (arith, f.0, h.2) in rw same k)))
      (λ m. subst (Mine key s r me) (sym (ne_cond n (2 * u) (record v { reads = (b, x) ∷ v.reads; look = Away; checked = [] }) (lost_at v b n) m)) (lost_mine b n))

  -- one more stripe is validated
  marks_mine : (i : ℕ) → v.live ≡ true → r.holder i ≡ 0 → r.ver i ≤ v.bound → Mine key s r me (record v { checked = i ∷ v.checked })
  marks_mine i live free low = let t = mine.goal live in record {
    known = mine.known;
    bounded = mine.bounded;
    stamps = mine.stamps;
    ticked = mine.ticked;
    decided = mine.decided;
    aim = mine.aim;
    own_reads = mine.own_reads;
    reads = mine.reads;
    checked = λ a x e had f. ⊎_elim
        (λ (z : stripe a ≡ i). let nobody : r.holder (stripe a) ≡ 0 = ap r.holder z ∙ free in let l : r.ver (stripe a) ≤ v.bound = omega (arith, low, ap r.ver z) in
        (still (start key) (used_at key) W r.locks a v.bound v.goal (λ k h. absurd (omega arith)) l t.0 ∙ (mine.reads a x live f).0, clears (start key) (used_at key) W r.locks a (suc me) v.goal (λ k h. absurd (omega arith))))
        (λ z. mine.checked a x e z f) had;
    goal = mine.goal;
    ahead = mine.ahead;
    look = mine.look;
    regions = mine.regions;
  }

  bool_or : (b : Bool) → (b ≡ true) ⊎ (b ≡ false)
  bool_or true = inl refl
  bool_or false = inr refl

  -- the extension's last validation: each read was seen at its goal
  ends_mine : (u : Book) → u.face ≡ v.face → Mine key s r me u → u.live ≡ true → u.face.stage ≡ Unticked
      → ((b x : ℕ) → In (b, x) u.reads → In (stripe b) u.checked ⊎ Has u.face.held (stripe b)) → Mine key s r me (extended u)
  ends_mine u face m live calm safe = let t = m.goal live in let ahead = m.ahead live calm in let low : u.bound ≤ clock = omega (arith, t.0, t.1) in record {
    known = omega (arith, t.1);
    bounded = omega arith;
    stamps = λ e i. let l = m.stamps e i in omega (arith, l, ahead);
    ticked = λ e. absurd (ticked_busy u.face.stage e calm);
    decided = m.decided;
    aim = m.aim;
    own_reads = λ a x l e h. let k = m.own_reads a x l e h in omega (arith, k, t.0);
    reads = λ a x l e. ⊎_elim (λ had. m.checked a x l had e) (λ own. seen a x l e own) (safe a x e);
    checked = λ a x l had. absurd had;
    goal = λ l. (omega arith, t.1);
    ahead = λ l z. omega arith;
    look = λ _. tt;
    regions = λ q g e. let k = m.regions q g e in (k.0, k.1, (let l = k.2 in omega (arith, l, ahead)), λ l. let n = k.3 l in omega (arith, n, t.0));
  }
    where
      holds : (a : ℕ) → Has u.face.held (stripe a) → r.holder (stripe a) ≡ suc me
      holds a own = (r.locks.grip me).only (stripe a) own.0 (ap (λ (f : Face). lookup f.held (stripe a)) (face_is ∙ sym face) ∙ own.1)

      calm_here : (k : ℕ) → suc k ≡ suc me → (F k).stage ≡ Unticked
      calm_here k e = let m : k ≡ me = omega arith in ap (λ j. (F j).stage) m ∙ (ap (λ (f : Face). f.stage) (face_is ∙ sym face) ∙ calm)

      seen : (a x : ℕ) → u.live ≡ true → In (a, x) u.reads → Has u.face.held (stripe a) → Sees (start key) (used_at key) W (suc me) u.goal a x
      seen a x l e own = let here = holds a own in (
        still (start key) (used_at key) W r.locks a u.bound u.goal (λ k h d. decided_busy (F k).stage d (calm_here k (sym h ∙ here))) (m.own_reads a x l e here) (m.goal l).0 ∙ (m.reads a x l e).0,
        clears (start key) (used_at key) W r.locks a (suc me) u.goal (λ k h busy other. absurd (other (sym h ∙ here))),
      )

  -- an extension begins
  opens_mine : v.live ≡ true → v.face.stage ≡ Unticked → Mine key s r me (record v { goal = clock; look = Away; checked = [] })
  opens_mine live calm = record {
    known = mine.known;
    bounded = mine.bounded;
    stamps = mine.stamps;
    ticked = λ e. absurd (ticked_busy v.face.stage e calm);
    decided = mine.decided;
    aim = mine.aim;
    own_reads = mine.own_reads;
    reads = mine.reads;
    checked = λ a x l had. absurd had;
    goal = λ l. (omega (arith, mine.known, mine.bounded), omega arith);
    ahead = λ l z. mine.known;
    look = λ _. tt;
    regions = mine.regions;
  }

  pub extending_mine : (whole : Bool) → v.live ≡ true → v.face.stage ≡ Unticked → (whole ≡ true → (b x : ℕ) → In (b, x) v.reads → Has v.face.held (stripe b)) → Mine key s r me (extending v whole clock)
  extending_mine true live calm safe = ends_mine (record v { goal = clock; look = Away; checked = [] }) refl (opens_mine live calm) live calm (λ b x i. inr (safe refl b x i))
  extending_mine false live calm safe = opens_mine live calm

  -- an address on a stripe that the pass holds, whose old version is not over the bound, has the value at the bound
  pub own_mine : (a w : ℕ) → v.live ≡ true → v.face.stage ≡ Unticked → lookup v.face.held (stripe a) ≡ some w → w ≤ 2 * v.bound → Mine key s r me (logged v a (get_or s.words (a + 4097) 0))
  own_mine a w live calm held low = reads_mine a (get_or s.words (a + 4097) 0) calm (
    sym (settled (start key) (used_at key) W r.locks a v.bound (λ k h d. decided_busy (F k).stage d (calm_here k h)) old (omega (arith, mine.known, mine.bounded))),
    clears (start key) (used_at key) W r.locks a (suc me) v.bound (λ k h busy other. absurd (other (sym h ∙ here))),
  ) old
    where
      there : lookup (F me).held (stripe a) ≡ some w
      there = ap (λ (f : Face). lookup f.held (stripe a)) face_is ∙ held

      here : r.holder (stripe a) ≡ suc me
      here = (r.locks.grip me).only (stripe a) w there

      word : w ≡ 2 * r.ver (stripe a)
      word = some-injective w (2 * r.ver (stripe a)) (sym there ∙ (r.locks.grip me).listed (stripe a) here)

      old : r.ver (stripe a) ≤ v.bound
      old = omega (arith, word, low)

      calm_here : (k : ℕ) → r.holder (stripe a) ≡ suc k → (F k).stage ≡ Unticked
      calm_here k h = let e : suc k ≡ suc me = sym h ∙ here in let m : k ≡ me = omega arith in ap (λ j. (F j).stage) m ∙ (ap (λ (f : Face). f.stage) face_is ∙ calm)

  -- what the last validation of an extension asks for
  abbrev pub Covers : ℕ → Bool → Type 0
  Covers i last = last ≡ true → (v.face.stage ≡ Unticked) × ((b x : ℕ) → In (b, x) v.reads → (stripe b ≡ i) ⊎ (In (stripe b) v.checked ⊎ Has v.face.held (stripe b)))

  passed_mine : (i : ℕ) (last : Bool) → v.live ≡ true → r.holder i ≡ 0 → r.ver i ≤ v.bound → Covers i last → Mine key s r me (passed v i last)
  passed_mine i false live free low safe = marks_mine i live free low
  passed_mine i true live free low safe = let f = safe refl in ends_mine (record v { checked = i ∷ v.checked }) refl (marks_mine i live free low) live f.0
      (λ b x j. ⊎_elim (λ e. inl (inl e)) (λ k. ⊎_elim (λ h. inl (inr h)) (λ h. inr h) k) (f.1 b x j))

  pub validated_mine : (a i n : ℕ) (last : Bool) → i < 4096 → v.live ≡ true → Covers i last → get_or s.words (i + 1) 0 ≡ n → Mine key s r me (validated v a last i n)
  validated_mine a i n last l live safe e = let yes : Book = passed v i last in dite (ℕ_discrete (n % 2) 0)
      (λ h. subst (Mine key s r me) (sym (eq_cond (n % 2) 0 (cond (fits v.bound n) yes (lost_at v a n)) (lost_at v a n) h)) (⊎_elim
      (λ b. let p = leb-true n (2 * v.bound) b in let f = free_is i (n / 2) l (omega (arith, e, h)) in subst (Mine key s r me) (ap (λ c. cond c yes (lost_at v a n)) (sym b)) (passed_mine i last live f.1 (omega (arith, f.0, p)) safe))
      (λ b. subst (Mine key s r me) (ap (λ c. cond c yes (lost_at v a n)) (sym b)) (lost_mine a n))
      (bool_or (fits v.bound n))))
      (λ m. subst (Mine key s r me) (sym (ne_cond (n % 2) 0 (cond (fits v.bound n) yes (lost_at v a n)) (lost_at v a n) m)) (lost_mine a n))

  -- while one pass holds every number, an extension leaves its bound at the clock
  pub ends_sole : (u : Book) → v.live ≡ true → v.face.stage ≡ Unticked → u.face ≡ v.face → u.numbers ≡ v.numbers → u.bound ≡ u.goal → v.bound ≤ u.goal → u.goal ≤ clock
      → u.numbers ≡ 1048576 → u.live ≡ true → IsSole clock u
  ends_sole u live calm face numbers bound low high all _ = let k = (r.sole me v at (sym numbers ∙ all) live).0 calm in
      (λ _. omega (arith, k, bound, low, high), λ t. absurd (ticked_busy v.face.stage (ap (λ (f : Face). f.stage) (sym face) ∙ t) calm))

  -- while this pass holds every number, no other holds a stripe
  others_free : v.numbers ≡ 1048576 → (k : ℕ) → k ≢ me → (F k).held ≡ []
  others_free all k n = by_view (get_elem? s.views k) refl
    where
      by_view : (z : Option Book) → get_elem? s.views k ≡ z → (F k).held ≡ []
      by_view none e = ap (λ z. (face_of z).held) e
      by_view (some w) e = let p = two_le (λ b. b.numbers) s.views k me w v n e at in ap (λ z. (face_of z).held) e ∙ (r.counts.idle k w e (omega (arith, p, all, r.counts.numbers))).1

  -- and a stripe that it does not hold is free, with a version up to the bound
  unheld : (i : ℕ) → i < 4096 → v.numbers ≡ 1048576 → v.live ≡ true → lookup v.face.held i ≡ none → (get_or s.words (i + 1) 0 ≡ 2 * r.ver i) × (r.ver i ≤ v.bound)
  unheld i l all live free = (by_holder (r.holder i) refl, by_stage v.face.stage refl)
    where
      by_holder : (h : ℕ) → r.holder i ≡ h → get_or s.words (i + 1) 0 ≡ 2 * r.ver i
      by_holder zero e = r.stripes i l ∙ ap (λ (k : ℕ). code F k (r.ver i)) e
      by_holder (suc k) e = let g = (r.locks.grip k).listed i e in dite (ℕ_discrete k me)
          (λ m. absurd (some-ne-none (2 * r.ver i) (sym g ∙ (ap (λ j. lookup (F j).held i) m ∙ (ap (λ (f : Face). lookup f.held i) face_is ∙ free)))))
          (λ m. absurd (some-ne-none (2 * r.ver i) (sym g ∙ ap (λ h. lookup h i) (others_free all k m))))

      by_stage : (z : Stage) → v.face.stage ≡ z → r.ver i ≤ v.bound
      by_stage Unticked e = let g = (r.sole me v at all live).0 e in let y = r.locks.young i in omega (arith, g, y)
      by_stage Ticked e = let g = (r.sole me v at all live).1 e in let y = r.locks.young i in
          let n = (r.locks.grip me).apart i (ap (λ (f : Face). f.stage) face_is ∙ e) in let t = ap (λ (f : Face). f.tick) face_is in dite (ℕ_discrete (r.ver i) v.face.tick) (λ q. absurd (n (q ∙ sym t))) (λ q. omega (arith, g.0, g.1, y, q))
      by_stage Decided e = let z : true ≡ false = sym live ∙ mine.decided e in cc z

  pub untouched : (i : ℕ) → i < 4096 → Untouched i v (get_or s.words (i + 1) 0)
  untouched i l all live free = let g = unheld i l all live free in (omega (arith, g.0), omega (arith, g.0, g.1))

  pub unchanged : (i : ℕ) → i < 4096 → Unchanged i v (get_or s.words (i + 1) 0)
  unchanged i l all live free aims = let g = unheld i l all live free in by_look v.look refl aims g
    where
      same : (u : ℕ) → Watch (start key) (used_at key) W v.bound i u → r.ver i ≤ v.bound → r.ver i ≡ u
      same u w low = ⊎_elim (λ e. e) (λ m. absurd (omega arith)) w.0

      by_look : (z : Look) → v.look ≡ z → Aims z i → (get_or s.words (i + 1) 0 ≡ 2 * r.ver i) × (r.ver i ≤ v.bound) → get_or s.words (i + 1) 0 ≡ word_in z 0
      by_look Away e aims g = absurd aims
      by_look (Saw j u) e aims g = let w = subst (Looks (start key) (used_at key) W (suc me) v.bound) e (mine.look live) in g.0 ∙ ap (λ k. 2 * k) (same u (subst (λ (k : ℕ). Watch (start key) (used_at key) W v.bound k u) aims w) g.1)
      by_look (Had j u a x) e aims g = let w = subst (Looks (start key) (used_at key) W (suc me) v.bound) e (mine.look live) in g.0 ∙ ap (λ k. 2 * k) (same u (subst (λ (k : ℕ). Watch (start key) (used_at key) W v.bound k u) aims w.1) g.1)

  -- a stripe at which a look is in flight shows its word, or is held, or has a version over the bound
  pub moved : (i : ℕ) → i < 4096 → Moved i v (get_or s.words (i + 1) 0)
  moved i l live aims other = by_look v.look refl aims other
    where
      past : (u : ℕ) → Watch (start key) (used_at key) W v.bound i u → get_or s.words (i + 1) 0 ≢ 2 * u → IsPast v.bound (get_or s.words (i + 1) 0)
      past u w other = by_holder (r.holder i) refl
        where
          by_holder : (h : ℕ) → r.holder i ≡ h → IsPast v.bound (get_or s.words (i + 1) 0)
          by_holder zero e = let g : get_or s.words (i + 1) 0 ≡ 2 * r.ver i = r.stripes i l ∙ ap (λ (k : ℕ). code F k (r.ver i)) e in
              ⊎_elim (λ (q : r.ver i ≡ u). absurd (other (g ∙ ap (λ k. 2 * k) q))) (λ (m : v.bound < r.ver i). inr (omega arith)) w.0
          by_holder (suc k) e = let g : get_or s.words (i + 1) 0 ≡ 2 * (F k).number + 1 = r.stripes i l ∙ ap (λ (k : ℕ). code F k (r.ver i)) e in inl (omega arith)

      by_look : (z : Look) → v.look ≡ z → Aims z i → get_or s.words (i + 1) 0 ≢ word_in z 0 → IsPast v.bound (get_or s.words (i + 1) 0)
      by_look Away e aims other = absurd aims
      by_look (Saw j u) e aims other = let w = subst (Looks (start key) (used_at key) W (suc me) v.bound) e (mine.look live) in past u (subst (λ (k : ℕ). Watch (start key) (used_at key) W v.bound k u) aims w) other
      by_look (Had j u a x) e aims other = let w = subst (Looks (start key) (used_at key) W (suc me) v.bound) e (mine.look live) in past u (subst (λ (k : ℕ). Watch (start key) (used_at key) W v.bound k u) aims w.1) other

  -- a stripe that this pass does not hold does not show its number
  pub foreign : (i : ℕ) → i < 4096 → Foreign i v (get_or s.words (i + 1) 0)
  foreign i l some_numbers free own = by_holder (r.holder i) refl
    where
      by_count : (k : ℕ) (w : Book) (c : ℕ) → w.numbers ≡ c → k ≢ me → get_elem? s.views k ≡ some w → lookup w.face.held i ≡ some (2 * r.ver i) → w.face.number ≡ v.face.number → ⊥
      by_count k w zero c m e h p = none_found (2 * r.ver i) (ap (λ (f : Map ℕ). lookup f i) (sym (r.counts.idle k w e c).1) ∙ h)
      by_count k w (suc q) c m e h p = let more : 0 < w.numbers = omega arith in r.distinct.differ k me w v m e at more some_numbers p

      by_view : (k : ℕ) (z : Option Book) → get_elem? s.views k ≡ z → lookup (F k).held i ≡ some (2 * r.ver i) → (F k).number ≡ v.face.number → ⊥
      by_view k none e h p = none_found (2 * r.ver i) (ap (λ z. lookup (face_of z).held i) (sym e) ∙ h)
      by_view k (some w) e h p = dite (ℕ_discrete k me)
          (λ m. none_found (2 * r.ver i) (sym free ∙ ap (λ (f : Face). lookup f.held i) (sym face_is) ∙ ap (λ j. lookup (F j).held i) (sym m) ∙ h))
          (λ m. by_count k w w.numbers refl m e (ap (λ z. lookup (face_of z).held i) (sym e) ∙ h) (ap (λ z. (face_of z).number) (sym e) ∙ p))

      by_holder : (h : ℕ) → r.holder i ≡ h → ⊥
      by_holder zero e = let g : get_or s.words (i + 1) 0 ≡ 2 * r.ver i = r.stripes i l ∙ ap (λ (k : ℕ). code F k (r.ver i)) e in omega arith
      by_holder (suc k) e = let g : get_or s.words (i + 1) 0 ≡ 2 * (F k).number + 1 = r.stripes i l ∙ ap (λ (k : ℕ). code F k (r.ver i)) e in by_view k (get_elem? s.views k) refl ((r.locks.grip k).listed i e) (omega arith)

-- what quiet steps leave alone
abbrev pub Same : Book → Book → Type 0
Same w v = (w.face ≡ v.face) × ((w.numbers ≡ v.numbers) × (w.fresh ≡ v.fresh)) × (w.ticks ≡ v.ticks) × (w.entries ≡ v.entries) × (w.live ≡ true → (v.live ≡ true) × (w.bound ≡ v.bound))

pub same_cond : (c : Bool) (x y v : Book) → Same x v → Same y v → Same (cond c x y) v
same_cond true x y v p q = p
same_cond false x y v p q = q

over : {A : Type 0} → false ≡ true → A
over l = absurd (let z : false ≡ true = l in cc z)

same_loaded : (z : Look) (v : Book) (a n : ℕ) → Same (loaded_at z v a n) v
same_loaded Away v a n = (refl, (refl, refl), refl, refl, λ l. (l, refl))
same_loaded (Saw s u) v a n = (refl, (refl, refl), refl, refl, λ l. (l, refl))
same_loaded (Had s u b x) v a n = (refl, (refl, refl), refl, refl, λ l. (l, refl))

pub same_lost : (v : Book) (a n : ℕ) → Same (lost_at v a n) v
same_lost v a n = (refl, (refl, refl), refl, refl, λ l. over l)

same_checked : (z : Look) (v : Book) (n : ℕ) → Same (checked_at z v n) v
same_checked Away v n = (refl, (refl, refl), refl, refl, λ l. (l, refl))
same_checked (Saw s u) v n = (refl, (refl, refl), refl, refl, λ l. (l, refl))
same_checked (Had s u a x) v n = same_cond (n == 2 * u) (record v { reads = (a, x) ∷ v.reads; look = Away; checked = [] }) (lost_at v a n) v (refl, (refl, refl), refl, refl, λ l. (l, refl)) (same_lost v a n)

pub same_looked : (v : Book) (a : ℕ) (newer : Bool) (n : ℕ) → Same (looked v a newer n) v
same_looked v a newer n = let yes : Book = record v { look = Saw (a % 4096) (n / 2) } in let id : Same yes v = (refl, (refl, refl), refl, refl, λ l. (l, refl)) in let no : Same (lost_at v a n) v = same_lost v a n in
    same_cond (is_free n) (cond newer yes (cond (fits v.bound n) yes (lost_at v a n))) (lost_at v a n) v (same_cond newer yes (cond (fits v.bound n) yes (lost_at v a n)) v id (same_cond (fits v.bound n) yes (lost_at v a n) v id no)) no

pub same_sole : (now : ℕ) (w v : Book) → Same w v → (v.numbers ≡ 1048576 → v.live ≡ true → IsSole now v) → w.numbers ≡ 1048576 → w.live ≡ true → IsSole now w
same_sole now w v same h n l = let g = same.4 l in let k = h (sym same.1.0 ∙ n) g.0 in let f = same.0 in
    (λ u. k.0 (ap (λ (f : Face). f.stage) (sym f) ∙ u) ∙ sym g.1, λ t. let q = k.1 (ap (λ (f : Face). f.stage) (sym f) ∙ t) in (q.0 ∙ ap (λ (f : Face). f.tick) (sym f), q.1 ∙ ap (λ k. k + 1) (sym g.1)))

module _ {S : Type 0} (key : Story) (slots id : ℕ) (me : Me S Book) where
  -- a load at which the book becomes f of what was found
  pub load_allows : (i : ℕ) (f : ℕ → Book) (then : ℕ → Me S Book → Type 0)
      → ((s : State S Book) (r : IsKept key s) → get_elem? s.views id ≡ some me.0 → Mine key s r id (f (get_or s.words i 0)) × then (get_or s.words i 0) (f (get_or s.words i 0), me.1))
      → ((n : ℕ) → Same (f n) me.0)
      → Allows (IsKept key) slots id me i (λ n. n) then
  load_allows i f then mine same s r _ at small = let n : ℕ = get_or s.words i 0 in let m = mine s r at in
      (f n, keeps, tt, quietly key s r i id me.0 (f n) at (same n).0 (same n).1.0 (same n).1.1 (same n).2 (same n).3 m.0 (same_sole (get_or s.words 0 0) (f n) me.0 (same n) (r.sole id me.0 at)), m.1)

  pub looks : (a : ℕ) (newer : Bool) → a % 4096 < 4096 → Allows (IsKept key) slots id me (a % 4096 + 1) (λ n. n) (Looks_up a newer (step slots (a % 4096 + 1) 0 0 none) me)
  looks a newer l = let back : a % 4096 ≡ a % 4096 + 1 - 1 = omega arith in load_allows (a % 4096 + 1) (looked me.0 a newer) (Looks_up a newer (step slots (a % 4096 + 1) 0 0 none) me)
      (λ s r at. (looked_mine key s r id me.0 at a newer (get_or s.words (a % 4096 + 1) 0) l refl, (refl, subst (λ (k : ℕ). Untouched k me.0 (get_or s.words (a % 4096 + 1) 0)) back (untouched key s r id me.0 at (a % 4096) l), subst (λ (k : ℕ). Foreign k me.0 (get_or s.words (a % 4096 + 1) 0)) back (foreign key s r id me.0 at (a % 4096) l)))) (λ n. same_looked me.0 a newer n)

  -- the same, where the address is told
  pub looks_for : (a b : ℕ) → b ≡ a → (newer : Bool) → a % 4096 < 4096 → Allows (IsKept key) slots id me (a % 4096 + 1) (λ n. n) (Looks_up b newer (step slots (a % 4096 + 1) 0 0 none) me)
  looks_for a b e newer l = subst (λ (c : ℕ). Allows (IsKept key) slots id me (a % 4096 + 1) (λ n. n) (Looks_up c newer (step slots (a % 4096 + 1) 0 0 none) me)) (sym e) (looks a newer l)

  pub loads : (a : ℕ) → me.0.live ≡ true → Aims me.0.look (a % 4096) → Allows (IsKept key) slots id me (a + 4097) (λ n. n) (Loads (step slots (a + 4097) 0 0 none) me)
  loads a live aims = let back : a ≡ a + 4097 - 4097 = omega arith in load_allows (a + 4097) (loaded_at me.0.look me.0 (a + 4097 - 4097)) (Loads (step slots (a + 4097) 0 0 none) me)
      (λ s r at. (subst (λ (k : ℕ). Mine key s r id (loaded_at me.0.look me.0 k (get_or s.words (a + 4097) 0))) back (loaded_mine key s r id me.0 at me.0.look (a % 4096) a refl live refl aims), refl))
      (λ n. same_loaded me.0.look me.0 (a + 4097 - 4097) n)

  -- a second look tells what is then known of the book
  pub rechecks : (says : Book → Type 0) → ((s : State S Book) (r : IsKept key s) (b : Book) → Mine key s r id b → b.live ≡ true → says b) → (a : ℕ) → me.0.live ≡ true → me.0.face.stage ≡ Unticked → a % 4096 < 4096 → IsLoaded me.0.look a me.0.bound
      → Allows (IsKept key) slots id me (a % 4096 + 1) (λ n. n) (Rechecks says (step slots (a % 4096 + 1) 0 0 none) me)
  rechecks says tells a live calm l had = let back : a % 4096 ≡ a % 4096 + 1 - 1 = omega arith in load_allows (a % 4096 + 1) (checked_at me.0.look me.0) (Rechecks says (step slots (a % 4096 + 1) 0 0 none) me)
      (λ s r at. let k = checked_mine key s r id me.0 at me.0.look a (get_or s.words (a % 4096 + 1) 0) refl live calm l refl had in (k, (refl, (λ h. tells s r (checked_at me.0.look me.0 (get_or s.words (a % 4096 + 1) 0)) k h), subst (λ (k : ℕ). Unchanged k me.0 (get_or s.words (a % 4096 + 1) 0)) back (unchanged key s r id me.0 at (a % 4096) l), subst (λ (k : ℕ). Moved k me.0 (get_or s.words (a % 4096 + 1) 0)) back (moved key s r id me.0 at (a % 4096) l), subst (λ (k : ℕ). Foreign k me.0 (get_or s.words (a % 4096 + 1) 0)) back (foreign key s r id me.0 at (a % 4096) l))))
      (λ n. same_checked me.0.look me.0 n)

  pub begins : (says : Book → Type 0) → ((s : State S Book) (r : IsKept key s) (b : Book) → Mine key s r id b → b.live ≡ true → says b) → (c : Call) → me.0.face.held ≡ [] → me.0.face.stage ≡ Unticked
      → Allows (IsKept key) slots id me 0 (λ n. n) (Begins c says (step slots 0 0 0 none) me)
  begins says tells c none_held calm s r _ at small = let n : ℕ = get_or s.words 0 0 in let w = begun me.0 c n in let k = begins_mine key s r id me.0 at c none_held calm in
      (w, keeps, tt, quietly key s r 0 id me.0 w at refl refl refl refl refl k (λ all live. (λ u. refl, λ t. absurd (ticked_busy me.0.face.stage t calm))), ((r.each id me.0 at).known, refl, tells s r w k refl))

-- Steps at which the bound may move.
-- what all but the bound, the reads and the look have in common
abbrev Still : Book → Book → Type 0
Still w v = (w.face ≡ v.face) × ((w.numbers ≡ v.numbers) × (w.fresh ≡ v.fresh)) × (w.ticks ≡ v.ticks) × (w.entries ≡ v.entries)

still_cond : (c : Bool) (x y v : Book) → Still x v → Still y v → Still (cond c x y) v
still_cond true x y v p q = p
still_cond false x y v p q = q

still_passed : (v : Book) (i : ℕ) (last : Bool) → Still (passed v i last) v
still_passed v i true = (refl, (refl, refl), refl, refl)
still_passed v i false = (refl, (refl, refl), refl, refl)

still_lost : (v : Book) (a n : ℕ) → Still (lost_at v a n) v
still_lost v a n = (refl, (refl, refl), refl, refl)

still_validated : (v : Book) (a i n : ℕ) (last : Bool) → Still (validated v a last i n) v
still_validated v a i n last = still_cond (is_free n) (cond (fits v.bound n) (passed v i last) (lost_at v a n)) (lost_at v a n) v
    (still_cond (fits v.bound n) (passed v i last) (lost_at v a n) v (still_passed v i last) (still_lost v a n)) (still_lost v a n)

still_extending : (v : Book) (whole : Bool) (n : ℕ) → Still (extending v whole n) v
still_extending v true n = (refl, (refl, refl), refl, refl)
still_extending v false n = (refl, (refl, refl), refl, refl)

module _ {S : Type 0} (key : Story) (slots id : ℕ) (me : Me S Book) where
  -- a load at which the book becomes f of what was found
  alone_allows : (i : ℕ) (f : ℕ → Book) (then : ℕ → Me S Book → Type 0)
      → ((s : State S Book) (r : IsKept key s) → get_elem? s.views id ≡ some me.0
      → Mine key s r id (f (get_or s.words i 0)) × ((f (get_or s.words i 0)).numbers ≡ 1048576 → (f (get_or s.words i 0)).live ≡ true → IsSole (get_or s.words 0 0) (f (get_or s.words i 0)))
      × then (get_or s.words i 0) (f (get_or s.words i 0), me.1))
      → ((n : ℕ) → Still (f n) me.0)
      → Allows (IsKept key) slots id me i (λ n. n) then
  alone_allows i f then mine same s r _ at small = let n : ℕ = get_or s.words i 0 in let m = mine s r at in
      (f n, keeps, tt, quietly key s r i id me.0 (f n) at (same n).0 (same n).1.0 (same n).1.1 (same n).2 (same n).3 m.0 m.1, m.2)

  passed_sole : (s : State S Book) (r : IsKept key s) → get_elem? s.views id ≡ some me.0 → (a i n : ℕ) (last : Bool) → me.0.live ≡ true → (last ≡ true → me.0.face.stage ≡ Unticked)
      → (validated me.0 a last i n).numbers ≡ 1048576 → (validated me.0 a last i n).live ≡ true → IsSole (get_or s.words 0 0) (validated me.0 a last i n)
  passed_sole s r at a i n last live calm = by_cond (is_free n) (cond (fits me.0.bound n) (passed me.0 i last) (lost_at me.0 a n)) (lost_at me.0 a n)
      (by_cond (fits me.0.bound n) (passed me.0 i last) (lost_at me.0 a n) (by_last last calm) lost) lost
    where
      Alone : Book → Type 0
      Alone w = w.numbers ≡ 1048576 → w.live ≡ true → IsSole (get_or s.words 0 0) w

      by_cond : (c : Bool) (x y : Book) → Alone x → Alone y → Alone (cond c x y)
      by_cond true x y p q = p
      by_cond false x y p q = q

      lost : Alone (lost_at me.0 a n)
      lost all l = over l

      by_last : (b : Bool) → (b ≡ true → me.0.face.stage ≡ Unticked) → Alone (passed me.0 i b)
      by_last true f = let t = (r.each id me.0 at).goal live in ends_sole key s r id me.0 at (extended me.0) live (f refl) refl refl refl t.0 t.1
      by_last false f = r.sole id me.0 at

  extending_sole : (s : State S Book) (r : IsKept key s) → get_elem? s.views id ≡ some me.0 → (whole : Bool) → me.0.live ≡ true → me.0.face.stage ≡ Unticked
      → (extending me.0 whole (get_or s.words 0 0)).numbers ≡ 1048576 → (extending me.0 whole (get_or s.words 0 0)).live ≡ true → IsSole (get_or s.words 0 0) (extending me.0 whole (get_or s.words 0 0))
  extending_sole s r at true live calm = let m = r.each id me.0 at in
      ends_sole key s r id me.0 at (extended (record me.0 { goal = get_or s.words 0 0 })) live calm refl refl refl (omega (arith, m.known, m.bounded)) (omega arith)
  extending_sole s r at false live calm = r.sole id me.0 at

  validates : (a : ℕ) (last : Bool) → a % 4096 < 4096 → me.0.live ≡ true
      → (last ≡ true → (me.0.face.stage ≡ Unticked) × ((b x : ℕ) → In (b, x) me.0.reads → (stripe b ≡ stripe a) ⊎ (In (stripe b) me.0.checked ⊎ Has me.0.face.held (stripe b))))
      → Allows (IsKept key) slots id me (a % 4096 + 1) (λ n. n) (Validates a last (step slots (a % 4096 + 1) 0 0 none) me)
  validates a last l live safe = let back : a % 4096 ≡ a % 4096 + 1 - 1 = omega arith in alone_allows (a % 4096 + 1) (validated me.0 a last (a % 4096 + 1 - 1)) (Validates a last (step slots (a % 4096 + 1) 0 0 none) me)
      (λ s r at. (
        subst (λ (k : ℕ). Mine key s r id (validated me.0 a last k (get_or s.words (a % 4096 + 1) 0))) back (validated_mine key s r id me.0 at a (a % 4096) (get_or s.words (a % 4096 + 1) 0) last l live safe refl),
        passed_sole s r at a (a % 4096 + 1 - 1) (get_or s.words (a % 4096 + 1) 0) last live (λ e. (safe e).0),
        (refl, subst (λ (k : ℕ). Untouched k me.0 (get_or s.words (a % 4096 + 1) 0)) back (untouched key s r id me.0 at (a % 4096) l), subst (λ (k : ℕ). Foreign k me.0 (get_or s.words (a % 4096 + 1) 0)) back (foreign key s r id me.0 at (a % 4096) l)),
      ))
      (λ n. still_validated me.0 a (a % 4096 + 1 - 1) n last)

  -- the same, where the address is told
  pub validates_for : (a b : ℕ) (last : Bool) → b ≡ a → a % 4096 < 4096 → me.0.live ≡ true
      → (last ≡ true → (me.0.face.stage ≡ Unticked) × ((c x : ℕ) → In (c, x) me.0.reads → (stripe c ≡ stripe a) ⊎ (In (stripe c) me.0.checked ⊎ Has me.0.face.held (stripe c))))
      → Allows (IsKept key) slots id me (a % 4096 + 1) (λ n. n) (Validates b last (step slots (a % 4096 + 1) 0 0 none) me)
  validates_for a b last e l live safe = subst (λ (c : ℕ). Allows (IsKept key) slots id me (a % 4096 + 1) (λ n. n) (Validates c last (step slots (a % 4096 + 1) 0 0 none) me)) (sym e) (validates a last l live safe)

  pub extends : (whole : Bool) → me.0.live ≡ true → me.0.face.stage ≡ Unticked → (whole ≡ true → (b x : ℕ) → In (b, x) me.0.reads → Has me.0.face.held (stripe b))
      → Allows (IsKept key) slots id me 0 (λ n. n) (Extends whole (step slots 0 0 0 none) me)
  extends whole live calm safe = alone_allows 0 (extending me.0 whole) (Extends whole (step slots 0 0 0 none) me)
      (λ s r at. (extending_mine key s r id me.0 at whole live calm safe, extending_sole s r at whole live calm, ((r.each id me.0 at).known, refl)))
      (λ n. still_extending me.0 whole n)

  pub loads_own : (says : Book → Type 0) → ((s : State S Book) (r : IsKept key s) (b : Book) → Mine key s r id b → b.live ≡ true → says b) → (a w : ℕ) → me.0.live ≡ true → me.0.face.stage ≡ Unticked
      → lookup me.0.face.held (stripe a) ≡ some w → w ≤ 2 * me.0.bound → Allows (IsKept key) slots id me (a + 4097) (λ n. n) (Loads_own says (step slots (a + 4097) 0 0 none) me)
  loads_own says tells a w live calm held low = let back : a ≡ a + 4097 - 4097 = omega arith in load_allows key slots id me (a + 4097) (logged me.0 (a + 4097 - 4097)) (Loads_own says (step slots (a + 4097) 0 0 none) me)
      (λ s r at.
      let k = subst (λ (b : ℕ). Mine key s r id (logged me.0 b (get_or s.words (a + 4097) 0))) back (own_mine key s r id me.0 at a w live calm held low) in
      (k, (refl, tells s r (logged me.0 (a + 4097 - 4097) (get_or s.words (a + 4097) 0)) k live)))
      (λ n. (refl, (refl, refl), refl, refl, λ l. (l, refl)))
