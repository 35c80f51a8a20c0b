-- A new object behind the used words of a region: the words that stand for a state with it.
use Rattle.std.proofs.Common.{◌≡◌, ◌≢◌, ℕ, zero, suc, ◌+◌, ◌/◌, ◌%◌, ◌<◌, ◌≤◌, List, [], ◌∷◌, map, length, Some, refl, sym, ap, ◌∙◌, arith, ⊎_elim}
use Rattle.std.specs.Prelude.{replicate}
use Rattle.std.specs.List.{AllByRecursion}
use Rattle.jmodel.specs.declared.value.Value.{Value}
use Rattle.objects.specs.declared.op.WordType.{WordType}
use Rattle.objects.specs.declared.op.WordType.TheVariants as word
use Rattle.objects.specs.semantics.Value.{word_of}
use Rattle.objects.specs.semantics.Program.{Declared, Holds, Words as HoldsWords, Elements, Row, Program}
use Rattle.objects.specs.semantics.Region.{Region, next_reference}
use Rattle.objects.specs.semantics.State.{Object, State, header, words_of, with_object, first_word, object_of}
use Rattle.objects.specs.rewriting.Attempt.{Log, access}
use Rattle.jmodel.specs.history.History.{Words, overlaid}
use Rattle.objects.specs.history.Meaning.{AreLaid, IsLaid, IsHeap, Represents}
use Rattle.objects.proofs.Heap.{one_or, HasWords, fits_region, in_region, in_place, used_here, used_more, whole_new, apart_from}
use Rattle.objects.proofs.Memory.{laid_same, same_region, overlaid_here, overlaid_there}

-- a value that a word 0 stands for
abbrev pub IsZero : Value → Type 0
IsZero v = word_of v ≡ 0

first_zero : (c : List ℕ) (t : WordType) → IsZero (first_word (record { word = t; class = c }))
first_zero c word.Reference = refl
first_zero c word.Long = refl
first_zero c word.Boolean = refl
first_zero c word.Byte = refl
first_zero c word.Char = refl
first_zero c word.Short = refl
first_zero c word.Int = refl

firsts_zero : (ds : List Declared) → AllByRecursion IsZero (map first_word ds)
firsts_zero [] = tt
firsts_zero (d ∷ ds) = (first_zero d.class d.word, firsts_zero ds)

copies_zero : (d : Declared) (n : ℕ) → AllByRecursion IsZero (replicate n (first_word d))
copies_zero d zero = tt
copies_zero d (suc n) = (first_zero d.class d.word, copies_zero d n)

-- a new object holds zeros
pub object_zero : (t n : ℕ) (r : Row) → AllByRecursion IsZero (object_of t n r).values
object_zero t n r = by r.holds
  where
    by : (x : Holds) → AllByRecursion IsZero (object_of t n (record r { holds = x })).values
    by (HoldsWords ds) = firsts_zero ds
    by (Elements d name) = copies_zero d n

module _ (P : Program) (G : Region) (ws ws' : Words) (τ : State) (o : Object) (zeros : AllByRecursion IsZero o.values) (room : HasWords G (τ.used G.number) (words_of o)) (R : Represents P G.size ws τ) (heap : IsHeap P G.size (with_object G o τ))
    (there : ws' (next_reference G (τ.used G.number)) ≡ header o) (same : (b : ℕ) → b ≢ next_reference G (τ.used G.number) → ws' b ≡ ws b) where
  abbrev n : ℕ
  n = G.number

  abbrev size : ℕ
  size = G.size

  abbrev u : ℕ
  u = τ.used n

  abbrev at : ℕ
  at = next_reference G u

  abbrev after : State
  after = with_object G o τ

  fits : u + length o.values + 1 ≤ size
  fits = fits_region P G τ o room R.heap

  in_reg : at / size ≡ n
  in_reg = in_region P G τ o room R.heap

  in_pl : at % size ≡ u
  in_pl = in_place P G τ o room R.heap

  zeros_laid : (a : ℕ) (vs : List Value) → AllByRecursion IsZero vs → ((i : ℕ) → i < length vs → ws' (a + i) ≡ 0) → AreLaid ws' a vs
  zeros_laid a [] z h = tt
  zeros_laid a (v ∷ vs) z h =
      let e : a + 0 ≡ a = omega arith in
      let p : 0 < length (v ∷ vs) = omega arith in
      (ap ws' (sym e) ∙ h 0 p ∙ sym z.0, zeros_laid (a + 1) vs z.1 (λ i lt. let q : a + suc i ≡ a + 1 + i = omega arith in let r : suc i < length (v ∷ vs) = omega (arith, lt) in ap ws' (sym q) ∙ h (suc i) r))

  free_behind : (i : ℕ) → i < length o.values → ws' (at + 1 + i) ≡ 0
  free_behind i lt =
      let e : at + 1 + i ≡ at + suc i = omega arith in
      let le : suc i ≤ length o.values = omega (arith, lt) in
      let inside : at % size + length o.values + 1 ≤ size = omega (arith, in_pl, fits) in
      let t = same_region size at (suc i) (length o.values) inside le in
      let k : (at + suc i) / size ≡ n = t.0 ∙ in_reg in
      let used : τ.used ((at + suc i) / size) ≡ u = ap τ.used k in
      let rest = t.1 in
      let le' : τ.used ((at + suc i) / size) ≤ (at + suc i) % size = omega (arith, used, rest, in_pl) in
      let ne : at + suc i ≢ at = λ q. omega (arith, q) in
      ap ws' e ∙ same (at + suc i) ne ∙ R.free (at + suc i) le'

  laid_after : (r : ℕ) (p : Object) → after.objects r ≡ Some p → IsLaid ws' r p
  laid_after r p e = ⊎_elim here elsewhere (whole_new P G τ o room R.heap r p e)
    where
      here : (r ≡ at) × (p ≡ o) → IsLaid ws' r p
      here w = let t : IsLaid ws' at o = record { header_lies = there; values_lie = zeros_laid (at + 1) o.values zeros free_behind } in rw (w.0, w.1) t

      elsewhere : (r ≢ at) × (τ.objects r ≡ Some p) → IsLaid ws' r p
      elsewhere w =
          let l = R.laid r p w.1 in
          let a = (apart_from P G τ o room R.heap r p w.1).where_it_is in
          let off : (d : ℕ) → d ≤ length p.values → r + d ≢ at = λ d le q. ⊎_elim (λ (h : r + length p.values < at). omega (arith, h, le, q)) (λ (h : at + length o.values < r). omega (arith, h, q)) a in
          let z : r + 0 ≡ r = omega arith in
          let z0 : 0 ≤ length p.values = omega arith in
          record {
            header_lies = same r (λ q. off 0 z0 (z ∙ q)) ∙ l.header_lies;
            values_lie = laid_same ws ws' (r + 1) p.values (λ i lt. let y : r + suc i ≡ r + 1 + i = omega arith in let le : suc i ≤ length p.values = omega (arith, lt) in same (r + 1 + i) (λ q. off (suc i) le (y ∙ q))) l.values_lie;
          }

  apart_after : (r q : ℕ) (p s : Object) → after.objects r ≡ Some p → after.objects q ≡ Some s → r < q → r + length p.values < q
  apart_after r q p s e f lt = ⊎_elim
      (λ (w : (r ≡ at) × (p ≡ o)). ⊎_elim
      (λ (v : (q ≡ at) × (s ≡ o)). let a = w.0 in let b = v.0 in absurd (omega (arith, a, b, lt)))
      (λ (v : (q ≢ at) × (τ.objects q ≡ Some s)). let a = w.0 in let len : length p.values ≡ length o.values = ap (λ (p : Object). length p.values) w.1 in ⊎_elim (λ (h : q + length s.values < at). absurd (omega (arith, h, a, lt))) (λ (h : at + length o.values < q). omega (arith, h, a, len)) (apart_from P G τ o room R.heap q s v.1).where_it_is)
      (whole_new P G τ o room R.heap q s f))
      (λ (w : (r ≢ at) × (τ.objects r ≡ Some p)). ⊎_elim
      (λ (v : (q ≡ at) × (s ≡ o)). let b = v.0 in ⊎_elim (λ (h : r + length p.values < at). omega (arith, h, b)) (λ (h : at + length o.values < r). absurd (omega (arith, h, b, lt))) (apart_from P G τ o room R.heap r p w.1).where_it_is)
      (λ (v : (q ≢ at) × (τ.objects q ≡ Some s)). R.apart r q p s w.1 v.1 lt)
      (whole_new P G τ o room R.heap q s f))
      (whole_new P G τ o room R.heap r p e)

  free_after : (a : ℕ) → after.used (a / size) ≤ a % size → ws' a ≡ 0
  free_after a le = ⊎_elim
      (λ (e : a ≡ at).
      let k : a / size ≡ n = ap (λ (b : ℕ). b / size) e ∙ in_reg in
      let rest : a % size ≡ u = ap (λ (b : ℕ). b % size) e ∙ in_pl in
      let used : after.used (a / size) ≡ u + words_of o = ap after.used k ∙ used_here P G τ o room R.heap in
      absurd (omega (arith, le, rest, used)))
      (λ (ne : a ≢ at). let m = used_more P G τ o room R.heap (a / size) in let le' : τ.used (a / size) ≤ a % size = omega (arith, m, le) in same a ne ∙ R.free a le')
      (one_or a at)

  pub represents_object : Represents P G.size ws' (with_object G o τ)
  represents_object = record { laid = laid_after; apart = apart_after; heap = heap; free = free_after }

-- a header in the log is one of the words
pub represents_header : (P : Program) (G : Region) (w : Log) (ws : Words) (τ : State) (o : Object) → AllByRecursion IsZero o.values → HasWords G (τ.used G.number) (words_of o) → IsHeap P G.size (with_object G o τ) → Represents P G.size (overlaid w ws) τ
    → Represents P G.size (overlaid (access (next_reference G (τ.used G.number)) (header o) ∷ w) ws) (with_object G o τ)
represents_header P G w ws τ o zeros room heap R =
    represents_object P G (overlaid w ws) (overlaid (access (next_reference G (τ.used G.number)) (header o) ∷ w) ws) τ o zeros room R heap
    (overlaid_here (next_reference G (τ.used G.number)) (header o) w ws) (overlaid_there (next_reference G (τ.used G.number)) (header o) w ws)
