-- How an extension goes on from read to read.
use Rattle.std.proofs.Common.{◌≡◌, ◌≢◌, ◌⊎◌, ◌<◌, ◌≤◌, ◌+◌, ◌*◌, ◌%◌, ◌&&◌, ℕ, zero, suc, Bool, true, false, List, [], ◌∷◌, ◌++◌, All, length, take, drop, reverse, slice_index, refl, sym, ap, ◌∙◌, inl, inr, ⊎_elim, subst, arith}
use mathlib.Core.Option.{none}
use Rattle.std.proofs.lemmas.List.{drop_more, drop_all, take_more, reverse-reverse}
use Rattle.std.specs.BTreeSet.{BTreeSet}
use Rattle.tx_core.specs.declared.engine.Conflict.{Conflict}
use Rattle.tx_table.specs.Book.{Book, Face, Map, Away, Saw, Look, Unticked, Has, In, lookup}
use Rattle.tx_table.specs.Plays.{extending, keys, lost_at, passed}
use Rattle.tx_table.specs.Steps.{IsPast}
use Rattle.tl2.specs.Conflicts.{lost_to}
use Rattle.tl2.proofs.Keys.{by_bool}
use Rattle.tl2.proofs.Members.{in_keys, in_reversed, in_turned}
use Rattle.tl2.proofs.Rests.{lost_is}
use Rattle.lsa.specs.Conflicts.{Meets, IsLost}
use Rattle.lsa.specs.Owning.{is_own, all_own, moved, IsOn, Tells}

in_parts : (xs ys : List ℕ) (a : ℕ) → In a (xs ++ ys) → In a xs ⊎ In a ys
in_parts [] ys a i = inr i
in_parts (x ∷ xs) ys a (inl e) = inl (inl e)
in_parts (x ∷ xs) ys a (inr i) = ⊎_elim (λ (j : In a xs). inl (inr j)) (λ (j : In a ys). inr j) (in_parts xs ys a i)

and_left : (b c : Bool) → (b && c) ≡ true → b ≡ true
and_left true c e = refl
and_left false c e = e

and_right : (b c : Bool) → (b && c) ≡ true → c ≡ true
and_right true c e = e
and_right false c e = absurd (let z : false ≡ true = e in cc z)

-- An extension up to n of an attempt with the book v, with the reads from the place i on still to be looked at: none of them is, and the bound has
-- moved; or some are.
abbrev pub IsGoing : BTreeSet ℕ → ℕ → List ℕ → Book → ℕ → ℕ → Book → Type 0
IsGoing own wanted reads v i n w = ((all_own own wanted (drop i reads) ≡ true) × (w ≡ moved v n))
    ⊎ ((all_own own wanted (drop i reads) ≡ false) × ((checked : List ℕ) × (w ≡ record v { goal = n; look = Away; checked = checked })
    × ((b : ℕ) → In b (take i reads) → (is_own own wanted (b % 4096) ≡ true) ⊎ In (b % 4096) checked)))

module _ (own : BTreeSet ℕ) (wanted : ℕ) where
  pub own_in : (xs : List ℕ) (b : ℕ) → all_own own wanted xs ≡ true → In b xs → is_own own wanted (b % 4096) ≡ true
  own_in [] b e i = absurd i
  own_in (a ∷ xs) b e (inl q) = ap (λ (k : ℕ). is_own own wanted (k % 4096)) q ∙ and_left (is_own own wanted (a % 4096)) (all_own own wanted xs) e
  own_in (a ∷ xs) b e (inr i) = own_in xs b (and_right (is_own own wanted (a % 4096)) (all_own own wanted xs) e) i

  module _ (reads : List ℕ) (v : Book) (log : reverse reads ≡ keys v.reads) (tells : Tells own wanted v) where
    -- what the book has as read is one of the addresses
    pub read_in : (b x : ℕ) → In (b, x) v.reads → In b reads
    read_in b x i = in_reversed reads b (subst (In b) (sym log) (in_keys v.reads b x i))

    -- where each lies on a stripe that is held, so does each read
    pub all_held : all_own own wanted reads ≡ true → (b x : ℕ) → In (b, x) v.reads → Has v.face.held (b % 4096)
    all_held e b x i = (tells (b % 4096)).0 (own_in reads b e (read_in b x i))

    pub going_first : (whole : Bool) (n : ℕ) (w : Book) → whole ≡ all_own own wanted reads → w ≡ extending v whole n → IsGoing own wanted reads v 0 n w
    going_first true n w told e = inl (sym told, e)
    going_first false n w told e = inr (sym told, ([], e, (λ b i. absurd i)))

    module _ (i : ℕ) (less : i < length reads) where
      abbrev a : ℕ
      a = slice_index reads i

      abbrev rest : Bool
      rest = all_own own wanted (drop (i + 1) reads)

      here : all_own own wanted (drop i reads) ≡ (is_own own wanted (a % 4096) && rest)
      here = ap (all_own own wanted) (drop_more reads i 0 less)

      pieces : (b : ℕ) → In b (take (i + 1) reads) → In b (take i reads) ⊎ (b ≡ a)
      pieces b j = ⊎_elim (λ (k : In b (take i reads)). inl k) (λ (k : In b (a ∷ [])). ⊎_elim (λ (e : b ≡ a). inr e) (λ (no : ⊥). absurd no) k)
          (in_parts (take i reads) (a ∷ []) b (subst (In b) (take_more reads i 0 less) j))

      split : (b : ℕ) (xs : List ℕ) (k : ℕ) → In b xs → In b (take k xs) ⊎ In b (drop k xs)
      split b [] k j = absurd j
      split b (x ∷ xs) zero j = inr j
      split b (x ∷ xs) (suc k) (inl e) = inl (inl e)
      split b (x ∷ xs) (suc k) (inr j) = ⊎_elim (λ (h : In b (take k xs)). inl (inr h)) (λ (h : In b (drop k xs)). inr h) (split b xs k j)

      -- a read on a stripe that is held is passed over
      pub going_own : (n : ℕ) (w : Book) → is_own own wanted (a % 4096) ≡ true → IsGoing own wanted reads v i n w → IsGoing own wanted reads v (i + 1) n w
      going_own n w own_here g = ⊎_elim
          (λ (t : (all_own own wanted (drop i reads) ≡ true) × (w ≡ moved v n)). inl (sym next ∙ t.0, t.1))
          (λ (t : (all_own own wanted (drop i reads) ≡ false) × ((checked : List ℕ) × (w ≡ record v { goal = n; look = Away; checked = checked })
          × ((b : ℕ) → In b (take i reads) → (is_own own wanted (b % 4096) ≡ true) ⊎ In (b % 4096) checked))).
          inr (sym next ∙ t.0, (t.1.0, t.1.1, (λ b j. ⊎_elim (λ k. t.1.2 b k) (λ (e : b ≡ a). inl (ap (λ (k : ℕ). is_own own wanted (k % 4096)) e ∙ own_here)) (pieces b j)))))
          g
        where
          next : all_own own wanted (drop i reads) ≡ rest
          next = here ∙ ap (λ (c : Bool). c && rest) own_here

      -- one on another stripe is looked at
      module _ (n : ℕ) (w : Book) (other : is_own own wanted (a % 4096) ≡ false) (g : IsGoing own wanted reads v i n w) where
        abbrev Open : Type 0
        Open = (checked : List ℕ) × (w ≡ record v { goal = n; look = Away; checked = checked })
            × ((b : ℕ) → In b (take i reads) → (is_own own wanted (b % 4096) ≡ true) ⊎ In (b % 4096) checked)

        pub going_open : Open
        going_open = ⊎_elim
            (λ (t : (all_own own wanted (drop i reads) ≡ true) × (w ≡ moved v n)).
            let no : true ≡ false = sym t.0 ∙ here ∙ ap (λ (c : Bool). c && rest) other in let z : ⊥ = cc no in absurd z)
            (λ (t : (all_own own wanted (drop i reads) ≡ false) × Open). t.1) g

        pub going_covers : v.face.stage ≡ Unticked → (last : Bool) → last ≡ rest → last ≡ true
            → (w.face.stage ≡ Unticked) × ((b x : ℕ) → In (b, x) w.reads → (b % 4096 ≡ a % 4096) ⊎ (In (b % 4096) w.checked ⊎ Has w.face.held (b % 4096)))
        going_covers calm last told e = let o = going_open in (
          ap (λ (u : Book). u.face.stage) o.1 ∙ calm,
          λ b x j.
              let there : In b reads = read_in b x (subst (In (b, x)) (ap (λ (u : Book). u.reads) o.1) j) in
              let held : is_own own wanted (b % 4096) ≡ true → (b % 4096 ≡ a % 4096) ⊎ (In (b % 4096) w.checked ⊎ Has w.face.held (b % 4096)) =
              λ q. inr (inr (subst (λ (m : Map ℕ). Has m (b % 4096)) (sym (ap (λ (u : Book). u.face.held) o.1)) ((tells (b % 4096)).0 q))) in
              ⊎_elim
              (λ (k : In b (take (i + 1) reads)). ⊎_elim
              (λ k. ⊎_elim held (λ c. inr (inl (subst (In (b % 4096)) (sym (ap (λ (u : Book). u.checked) o.1)) c))) (o.2 b k))
              (λ (q : b ≡ a). inl (ap (λ (k : ℕ). k % 4096) q)) (pieces b k))
              (λ (k : In b (drop (i + 1) reads)). held (own_in (drop (i + 1) reads) b (sym told ∙ e) k))
              (split b reads (i + 1) there),
        )

        pub going_passed : (last : Bool) (u : Book) → last ≡ rest → u ≡ passed w (a % 4096) last → IsGoing own wanted reads v (i + 1) n u
        going_passed true u told e = let o = going_open in inl (sym told, e ∙ ap (λ (b : Book). passed b (a % 4096) true) o.1)
        going_passed false u told e = let o = going_open in inr (
          sym told,
          (
            (a % 4096) ∷ o.0,
            e ∙ ap (λ (b : Book). passed b (a % 4096) false) o.1,
            λ b j. ⊎_elim (λ k. ⊎_elim (λ h. inl h) (λ h. inr (inr h)) (o.2 b k)) (λ (q : b ≡ a). inr (inl (ap (λ (k : ℕ). k % 4096) q))) (pieces b j),
          ),
        )

        pub going_free : lookup w.face.held (a % 4096) ≡ none
        going_free = ap (λ (u : Book). lookup u.face.held (a % 4096)) going_open.1 ∙ (tells (a % 4096)).1 other

        pub going_lost : (u : Book) (e : Conflict) → e.address ≡ a → e.upto ≡ w.bound → IsPast w.bound e.word → e.word ≢ 2 * w.face.number + 1 → u ≡ lost_at w a e.word → IsLost v u e
        going_lost u e address upto past foreign is =
            let o = going_open in
            let same : u ≡ lost_at w e.address e.word = is ∙ ap (λ (k : ℕ). lost_at w k e.word) (sym address) in
            subst (λ (b : Book). IsLost v b e) (sym same) (record {
              meets = record {
                upto = upto;
                past = past;
                other = subst (λ (k : ℕ). e.word ≢ 2 * k + 1) (ap (λ (b : Book). b.face.number) o.1) foreign;
                kept = lost_is v w e upto (ap (λ (b : Book). b.call) o.1) (ap (λ (b : Book). b.regions) o.1) (ap (λ (b : Book). b.reads) o.1) (ap (λ (b : Book). b.lost) o.1);
                bound = let q = ap (λ (b : Book). b.bound) o.1 in omega arith;
                reads = ap (λ (b : Book). b.reads) o.1;
              };
              face = ap (λ (b : Book). b.face) o.1;
              numbers = ap (λ (b : Book). b.numbers) o.1;
              fresh = ap (λ (b : Book). b.fresh) o.1;
              begins = ap (λ (b : Book). b.begins) o.1;
              ticks = ap (λ (b : Book). b.ticks) o.1;
              regions = ap (λ (b : Book). b.regions) o.1;
              entries = ap (λ (b : Book). b.entries) o.1;
              call = ap (λ (b : Book). b.call) o.1;
              wants = ap (λ (b : Book). b.wants) o.1;
              seen = let q = ap (λ (b : Book). b.seen) o.1 in omega arith;
            })

    -- behind the last read the bound has moved
    pub going_last : (i n : ℕ) (w : Book) → length reads ≤ i → IsGoing own wanted reads v i n w → w ≡ moved v n
    going_last i n w over g = ⊎_elim (λ (t : (all_own own wanted (drop i reads) ≡ true) × (w ≡ moved v n)). t.1)
        (λ (t : (all_own own wanted (drop i reads) ≡ false) × ((checked : List ℕ) × (w ≡ record v { goal = n; look = Away; checked = checked })
        × ((b : ℕ) → In b (take i reads) → (is_own own wanted (b % 4096) ≡ true) ⊎ In (b % 4096) checked))).
        let no : true ≡ false = sym (ap (all_own own wanted) (drop_all i reads over)) ∙ t.0 in let z : ⊥ = cc no in absurd z) g

-- books before and after a look
pub on_look : (v w : Book) (l : Look) → w ≡ record v { look = l } → IsOn v w
on_look v w l e = subst (IsOn v) (sym e) (record {
  face = refl;
  numbers = refl;
  fresh = refl;
  begins = refl;
  ticks = refl;
  regions = refl;
  entries = refl;
  lost = refl;
  live = refl;
  call = refl;
  reads = refl;
  wants = refl;
  seen = omega arith;
  bound = omega arith;
  even = λ q. q;
})

-- and a move of the bound
pub on_moved : (v w u : Book) (l : Look) (n : ℕ) → v.seen ≤ n → v.bound ≤ n → w ≡ moved v n → u ≡ record w { look = l } → IsOn v u
on_moved v w u l n later low e f = subst (IsOn v) (sym (f ∙ ap (λ (b : Book). let k : Book = record b { look = l } in k) e)) (record {
  face = refl;
  numbers = refl;
  fresh = refl;
  begins = refl;
  ticks = refl;
  regions = refl;
  entries = refl;
  lost = refl;
  live = refl;
  call = refl;
  reads = refl;
  wants = refl;
  seen = later;
  bound = low;
  even = λ q. refl;
})

-- a conflict of a step behind others
pub lost_on : (v w u : Book) (e : Conflict) → IsOn v w → e.upto ≡ w.bound → IsPast w.bound e.word → e.word ≢ 2 * w.face.number + 1 → u ≡ lost_at w e.address e.word → IsLost v u e
lost_on v w u e o upto past foreign is = subst (λ (b : Book). IsLost v b e) (sym is) (record {
  meets = record {
    upto = upto;
    past = past;
    other = subst (λ (k : ℕ). e.word ≢ 2 * k + 1) (ap (λ (f : Face). f.number) o.face) foreign;
    kept = lost_is v w e upto o.call o.regions o.reads o.lost;
    bound = o.bound;
    reads = o.reads;
  };
  face = o.face;
  numbers = o.numbers;
  fresh = o.fresh;
  begins = o.begins;
  ticks = o.ticks;
  regions = o.regions;
  entries = o.entries;
  call = o.call;
  wants = o.wants;
  seen = o.seen;
})

pub on_here : (v : Book) → IsOn v v
on_here v = record {
  face = refl;
  numbers = refl;
  fresh = refl;
  begins = refl;
  ticks = refl;
  regions = refl;
  entries = refl;
  lost = refl;
  live = refl;
  call = refl;
  reads = refl;
  wants = refl;
  seen = omega arith;
  bound = omega arith;
  even = λ q. q;
}

-- a conflict of the next step
pub lost_here : (v u : Book) (e : Conflict) (a : ℕ) → e.address ≡ a → e.upto ≡ v.bound → IsPast v.bound e.word → e.word ≢ 2 * v.face.number + 1 → u ≡ lost_at v a e.word → IsLost v u e
lost_here v u e a address upto past foreign is = lost_on v v u e (on_here v) upto past foreign (is ∙ ap (λ (k : ℕ). lost_at v k e.word) (sym address))
