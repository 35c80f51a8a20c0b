-- Steps that change one book and no face.
use Rattle.std.proofs.Common.{◌≡◌, ◌≢◌, ℕ, zero, suc, ◌+◌, ◌*◌, ◌<◌, ◌≤◌, true, List, [], ◌∷◌, get_or, set, sym, refl, ap, ◌∙◌, subst, inl, inr, ⊎_elim, arith}
use mathlib.Core.Option.{some, some-injective, some-ne-none}
use mathlib.Core.Logic.{dite}
use native.Mathlib.Decide.{ℕ_discrete}
use lib.ListN.{get_elem?}
use Rattle.atomic_table.specs.Table.{State}
use Rattle.tx_table.specs.Book.{Face, Book}
use Rattle.tx_table.specs.Rule.{Story, used_at, start, Faces, World, Knows, Locks, Annals, total, weigh, face_of, faces, code, Counts, Numbers, IsSole, world}
use Rattle.tx_table.specs.Steps.{IsKept}
use lib.Seq.{set-get_or}
use Rattle.atomic_table.proofs.Lists.{at_set, set_else}

pub set_there : {A : Type 0} (l : List A) (i : ℕ) (a b : A) → get_elem? l i ≡ some a → get_elem? (set l i b) i ≡ some b
set_there [] i a b e = absurd (some-ne-none a (sym e))
set_there (x ∷ xs) zero a b e = refl
set_there (x ∷ xs) (suc i) a b e = set_there xs i a b e

pub total_set : (f : Book → ℕ) (views : List Book) (j : ℕ) (v w : Book) → get_elem? views j ≡ some v → total f (set views j w) + f v ≡ total f views + f w
total_set f [] j v w e = absurd (some-ne-none v (sym e))
total_set f (x ∷ xs) zero v w e = let h : x ≡ v = some-injective x v e in let h' : f x ≡ f v = ap f h in omega arith
total_set f (x ∷ xs) (suc j) v w e = let h = total_set f xs j v w e in omega arith

pub one_le : (f : Book → ℕ) (views : List Book) (j : ℕ) (v : Book) → get_elem? views j ≡ some v → f v ≤ total f views
one_le f [] j v e = absurd (some-ne-none v (sym e))
one_le f (x ∷ xs) zero v e = let p = ap f (some-injective x v e) in omega arith
one_le f (x ∷ xs) (suc j) v e = let p = one_le f xs j v e in omega arith

pub two_le : (f : Book → ℕ) (views : List Book) (j k : ℕ) (v w : Book) → j ≢ k → get_elem? views j ≡ some v → get_elem? views k ≡ some w → f v + f w ≤ total f views
two_le f [] j k v w n e g = absurd (some-ne-none v (sym e))
two_le f (x ∷ xs) zero zero v w n e g = absurd (n refl)
two_le f (x ∷ xs) zero (suc k) v w n e g = let p = ap f (some-injective x v e) in let q = one_le f xs k w g in omega arith
two_le f (x ∷ xs) (suc j) zero v w n e g = let p = ap f (some-injective x w g) in let q = one_le f xs j v e in omega arith
two_le f (x ∷ xs) (suc j) (suc k) v w n e g = let p = two_le f xs j k v w (λ h. n (ap suc h)) e g in omega arith

pub same_total : (f : Book → ℕ) (views : List Book) (j : ℕ) (v w : Book) → get_elem? views j ≡ some v → f w ≡ f v → total f (set views j w) ≡ total f views
same_total f views j v w e h = let t = total_set f views j v w e in omega arith

pub faces_else : (views : List Book) (j k : ℕ) (w : Book) → k ≢ j → faces (set views j w) k ≡ faces views k
faces_else views j k w n = ap face_of (set_else views j k w n)

pub faces_here : (views : List Book) (j : ℕ) (v w : Book) → get_elem? views j ≡ some v → faces (set views j w) j ≡ w.face
faces_here views j v w e = ap face_of (set_there views j v w e)

pub face_at : (views : List Book) (j : ℕ) (v : Book) → get_elem? views j ≡ some v → faces views j ≡ v.face
face_at views j v e = ap face_of e

pub same_faces : (views : List Book) (j : ℕ) (v w : Book) → get_elem? views j ≡ some v → w.face ≡ v.face → faces (set views j w) ≡ faces views
same_faces views j v w e h = let at : (k : ℕ) → faces (set views j w) k ≡ faces views k =
    λ k. dite (ℕ_discrete k j) (λ m. ap (faces (set views j w)) m ∙ (faces_here views j v w e ∙ (h ∙ (sym (face_at views j v e) ∙ ap (faces views) (sym m))))) (faces_else views j k w) in
    λ i k. at k i

-- what holds of each book, where one changes
pub each_stays : (K : ℕ → Book → Type 0) (views : List Book) (me : ℕ) (w : Book) → K me w → ((j : ℕ) (b : Book) → j ≢ me → get_elem? views j ≡ some b → K j b)
    → (j : ℕ) (b : Book) → get_elem? (set views me w) j ≡ some b → K j b
each_stays K views me w mine others j b e = ⊎_elim (λ (t : (j ≡ me) × (w ≡ b)). subst (λ (x : ℕ × Book). K x.0 x.1) (λ i. (sym t.0 i, t.1 i)) mine)
    (λ (t : (j ≢ me) × (get_elem? views j ≡ some b)). others j b t.0 t.1) (at_set views me j w b e)

pub counts_stay : (views : List Book) (me : ℕ) (v w : Book) → get_elem? views me ≡ some v → w.face ≡ v.face → w.numbers ≡ v.numbers → w.ticks ≡ v.ticks → w.entries ≡ v.entries → Counts views → Counts (set views me w)
counts_stay views me v w at face numbers ticks entries c = record {
  numbers = same_total (λ b. b.numbers) views me v w at numbers ∙ c.numbers;
  spare = each_stays (λ j b. b.ticks ≤ b.numbers * 1099511627776) views me w (let h = c.spare me v at in rw (numbers, ticks) h) (λ j b n e. c.spare j b e);
  number = each_stays (λ j b. b.face.number < 1048576) views me w (let h = c.number me v at in rw face h) (λ j b n e. c.number j b e);
  idle = each_stays (λ j b. b.numbers ≡ 0 → (b.entries ≡ []) × (b.face.held ≡ [])) views me w (λ z. let g = c.idle me v at (sym numbers ∙ z) in (entries ∙ g.0, ap (λ (f : Face). f.held) face ∙ g.1)) (λ j b n e. c.idle j b e);
}

-- the same numbers at the same place
abbrev pub Like : Book → Book → Type 0
Like b c = (b.face.number ≡ c.face.number) × (b.numbers ≡ c.numbers) × (b.fresh ≡ c.fresh)

pub numbers_like : (views views' : List Book) → ((k : ℕ) (b : Book) → get_elem? views' k ≡ some b → (c : Book) × (get_elem? views k ≡ some c) × Like b c) → Numbers views → Numbers views'
numbers_like views views' old n = record {
  stock = λ j b e. let o = old j b e in let l = n.stock j o.0 o.1 in omega (arith, l, o.2.2);
  single = λ j k b c m e f. let o = old j b e in let q = old k c f in ⊎_elim (λ z. inl (o.2.2 ∙ z)) (λ z. inr (q.2.2 ∙ z)) (n.single j k o.0 q.0 m o.1 q.1);
  given = λ j k b c e f some. let o = old j b e in let q = old k c f in ⊎_elim (λ z. inl (o.2.0 ∙ z)) (λ z. inr (omega (arith, z, o.2.0, q.2.2))) (n.given j k o.0 q.0 o.1 q.1 (omega (arith, some, o.2.1)));
  differ = λ j k b c m e f some more z. let o = old j b e in let q = old k c f in n.differ j k o.0 q.0 m o.1 q.1 (omega (arith, some, o.2.1)) (omega (arith, more, q.2.1)) (sym o.2.0 ∙ (z ∙ q.2.0));
}

pub numbers_stay : (views : List Book) (me : ℕ) (v w : Book) → get_elem? views me ≡ some v → Like w v → Numbers views → Numbers (set views me w)
numbers_stay views me v w at like n = numbers_like views (set views me w) (each_stays (λ k b. (c : Book) × (get_elem? views k ≡ some c) × Like b c) views me w (v, at, like) (λ j b m e. (b, e, (refl, refl, refl)))) n

module _ {S : Type 0} (key : Story) where
  abbrev pub world_of : (s : State S Book) → IsKept key s → World
  world_of s r = world s.words s.views r.ver r.holder r.whose r.keeper r.log

  abbrev pub Mine : (s : State S Book) → IsKept key s → ℕ → Book → Type 0
  Mine s r j b = Knows (start key) (used_at key) (world_of s r) j b

  -- a load at which one book changes, and its face does not
  pub quietly : (s : State S Book) (r : IsKept key s) (i me : ℕ) (v w : Book) → get_elem? s.views me ≡ some v → w.face ≡ v.face → w.numbers ≡ v.numbers → w.fresh ≡ v.fresh → w.ticks ≡ v.ticks → w.entries ≡ v.entries → Mine s r me w → (w.numbers ≡ 1048576 → w.live ≡ true → IsSole (get_or s.words 0 0) w)
      → IsKept key record { words = set s.words i (get_or s.words i 0); homes = s.homes; views = set s.views me w }
  quietly s r i me v w at face numbers fresh ticks entries mine alone =
      let W : Faces → World = λ F. record (world_of s r) { faces = F } in let same : faces s.views ≡ faces (set s.views me w) = sym (same_faces s.views me v w at face) in
      subst (λ (ws : List ℕ). IsKept key record { words = ws; homes = s.homes; views = set s.views me w }) (sym (set-get_or s.words i 0)) record {
        ver = r.ver;
        holder = r.holder;
        whose = r.whose;
        keeper = r.keeper;
        log = r.log;
        wide = r.wide;
        clock_is = r.clock_is ∙ sym (same_total (λ b. b.ticks) s.views me v w at ticks);
        stripes = subst (λ (F : Faces). (i : ℕ) → i < 4096 → get_or s.words (i + 1) 0 ≡ code F (r.holder i) (r.ver i)) same r.stripes;
        locks = subst (λ (F : Faces). Locks (start key) (used_at key) (W F)) same r.locks;
        annals = subst (λ (F : Faces). Annals (start key) (used_at key) (W F) r.log) same r.annals;
        chain = r.chain;
        account = λ h. r.account h ∙ sym (same_total (λ b. weigh h b.entries) s.views me v w at (ap (weigh h) entries));
        each = subst (λ (F : Faces). (j : ℕ) (b : Book) → get_elem? (set s.views me w) j ≡ some b → Knows (start key) (used_at key) (W F) j b) same
            (each_stays (Knows (start key) (used_at key) (world_of s r)) s.views me w mine (λ j b n e. r.each j b e));
        counts = counts_stay s.views me v w at face numbers ticks entries r.counts;
        distinct = numbers_stay s.views me v w at (ap (λ (f : Face). f.number) face, numbers, fresh) r.distinct;
        sole = each_stays (λ j b. b.numbers ≡ 1048576 → b.live ≡ true → IsSole (get_or s.words 0 0) b) s.views me w alone (λ j b n e. r.sole j b e);
      }
