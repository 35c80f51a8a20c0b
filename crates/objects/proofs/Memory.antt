-- Memory as words: what stands where, and what a write of a place's value leaves.
use Rattle.std.proofs.Common.{◌≡◌, ◌≢◌, ℕ, zero, suc, ◌+◌, ◌*◌, ◌/◌, ◌%◌, ◌^◌, ◌<◌, ◌≤◌, List, [], ◌∷◌, length, Some, true, false, refl, sym, ap, ◌∙◌, arith, ⊎_elim}
use Rattle.std.specs.Prelude.{slice_get, slice_set, nat_eq, if◌then◌else◌}
use Rattle.std.proofs.lemmas.List.{length-set}
use Rattle.std.proofs.lemmas.Bool.{cases_lt}
use Rattle.std.proofs.lemmas.Bool.Decides.{nat_tests}
use Rattle.std.proofs.lemmas.Nat.{div-mul-add, mod-mul-add, div-add-mod'}
use Rattle.jmodel.specs.declared.value.Value.{Value}
use Rattle.objects.specs.declared.op.Place.{Place}
use Rattle.objects.specs.semantics.Value.{word_of}
use Rattle.objects.specs.semantics.Program.{Program}
use Rattle.objects.specs.semantics.State.{Object, State, value_held, put, header}
use Rattle.objects.specs.rewriting.Attempt.{Log, access, address}
use Rattle.jmodel.specs.history.History.{Words, overlaid}
use Rattle.objects.specs.history.Meaning.{AreLaid, IsLaid, IsHeap, Represents}
use Rattle.objects.proofs.Heap.{one_or, IsHeldAt, held_at, inside, written_object, whole, before}

-- a write keeps the header
header_same : (o : Object) (i : ℕ) (x : Value) → header (record o { values = slice_set o.values i x }) ≡ header o
header_same o i x = ap (λ (n : ℕ). o.type * 2 ^ 32 + (if o.array then n else 0)) (length-set o.values i x)

laid_at : (ws : Words) (a : ℕ) (vs : List Value) (i : ℕ) (v : Value) → AreLaid ws a vs → slice_get vs i ≡ Some v → ws (a + i) ≡ word_of v
laid_at ws a [] i v l h = cc
laid_at ws a (x ∷ vs) zero v l h = let e : x ≡ v = cc in let z : a + 0 ≡ a = omega arith in ap ws z ∙ l.0 ∙ ap word_of e
laid_at ws a (x ∷ vs) (suc i) v l h = let z : a + suc i ≡ a + 1 + i = omega arith in ap ws z ∙ laid_at ws (a + 1) vs i v l.1 h

-- the word of a value that is held
pub word_at : (P : Program) (size : ℕ) (ws : Words) (τ : State) (p : Place) (v : Value) → Represents P size ws τ → value_held τ p ≡ Some v → ws (address p) ≡ word_of v
word_at P size ws τ p v R h =
    let k = held_at τ p v h in
    let l = (R.laid p.object k.o k.object).values_lie in
    let e : address p ≡ p.object + 1 + k.i = omega (arith, k.index) in
    ap ws e ∙ laid_at ws (p.object + 1) k.o.values k.i _ l k.there

-- words that differ at one place
pub laid_same : (ws ws' : Words) (b : ℕ) (vs : List Value) → ((i : ℕ) → i < length vs → ws' (b + i) ≡ ws (b + i)) → AreLaid ws b vs → AreLaid ws' b vs
laid_same ws ws' b [] s l = tt
laid_same ws ws' b (v ∷ vs) s l =
    let z : b + 0 ≡ b = omega arith in
    let p : 0 < length (v ∷ vs) = omega arith in
    let s' : (i : ℕ) → i < length vs → ws' (b + 1 + i) ≡ ws (b + 1 + i) = λ i h. let q : b + suc i ≡ b + 1 + i = omega arith in let r : suc i < length (v ∷ vs) = omega arith in ap ws' (sym q) ∙ s (suc i) r ∙ ap ws q in
    (ap ws' (sym z) ∙ s 0 p ∙ ap ws z ∙ l.0, laid_same ws ws' (b + 1) vs s' l.1)

laid_set : (ws ws' : Words) (b : ℕ) (vs : List Value) (j : ℕ) (v : Value) → ((c : ℕ) → c ≢ b + j → ws' c ≡ ws c) → ws' (b + j) ≡ word_of v → AreLaid ws b vs → AreLaid ws' b (slice_set vs j v)
laid_set ws ws' b [] j v s e l = tt
laid_set ws ws' b (x ∷ vs) zero v s e l =
    let z : b + 0 ≡ b = omega arith in
    (ap ws' (sym z) ∙ e, laid_same ws ws' (b + 1) vs (λ i h. let n : b + 1 + i ≢ b + 0 = λ q. omega arith in s (b + 1 + i) n) l.1)
laid_set ws ws' b (x ∷ vs) (suc j) v s e l =
    let z : b + suc j ≡ b + 1 + j = omega arith in
    let n : b ≢ b + suc j = λ q. omega arith in
    (s b n ∙ l.0, laid_set ws ws' (b + 1) vs j v (λ c h. s c (λ q. h (q ∙ z))) (ap ws' (sym z) ∙ e) l.1)

-- a place inside an object's region
pub same_region : (size r d n : ℕ) → r % size + n + 1 ≤ size → d ≤ n → ((r + d) / size ≡ r / size) × ((r + d) % size ≡ r % size + d)
same_region size r d n h le =
    let e : r + d ≡ r / size * size + (r % size + d) = omega (arith, div-add-mod' r size) in
    let lt : r % size + d < size = omega arith in
    (ap (λ (k : ℕ). k / size) e ∙ div-mul-add (r / size) size (r % size + d) lt, ap (λ (k : ℕ). k % size) e ∙ mod-mul-add (r / size) size (r % size + d) lt)

apart_places : (r q a d n m i : ℕ) → r ≢ q → (r < q → r + n < q) → (q < r → q + m < r) → d ≤ n → i < m → a ≡ q + 1 + i → r + d ≡ a → ⊥
apart_places r q a d n m i ne up down le lt e f = ⊎_elim (λ (b : r < q). let u = up b in omega arith) (λ (b : q ≤ r). let c : q < r = omega arith in let u = down c in omega arith) (cases_lt r q)

-- a write of a value
module _ (P : Program) (size : ℕ) (ws ws' : Words) (τ : State) (p : Place) (x old : Value) (h : IsHeldAt τ p old) (R : Represents P size ws τ) (heap : IsHeap P size (put τ p x)) (there : ws' (address p) ≡ word_of x) (same : (b : ℕ) → b ≢ address p → ws' b ≡ ws b) where
  abbrev after : State
  after = put τ p x

  abbrev new_object : Object
  new_object = written_object τ p x old h

  at_index : address p ≡ p.object + 1 + h.i
  at_index = omega (arith, h.index)

  laid_after : (r : ℕ) (o : Object) → after.objects r ≡ Some o → IsLaid ws' r o
  laid_after r o e = ⊎_elim here elsewhere (whole τ p x old h r o e)
    where
      here : (r ≡ p.object) × (o ≡ new_object) → IsLaid ws' r o
      here w =
          let l = R.laid p.object h.o h.object in
          let n : p.object ≢ address p = λ q. omega arith in
          let a : ws' p.object ≡ header new_object = same p.object n ∙ l.header_lies ∙ sym (header_same h.o h.i x) in
          let b : AreLaid ws' (p.object + 1) new_object.values = laid_set ws ws' (p.object + 1) h.o.values h.i x (λ c d. same c (λ q. d (q ∙ at_index))) (ap ws' (sym at_index) ∙ there) l.values_lie in
          let t : IsLaid ws' p.object new_object = record { header_lies = a; values_lie = b } in
          rw (w.0, w.1) t

      elsewhere : (r ≢ p.object) × (τ.objects r ≡ Some o) → IsLaid ws' r o
      elsewhere w =
          let l = R.laid r o w.1 in
          let up : r < p.object → r + length o.values < p.object = R.apart r p.object o h.o w.1 h.object in
          let down : p.object < r → p.object + length h.o.values < r = R.apart p.object r h.o o h.object w.1 in
          let lt = inside τ p x old h in
          let off : (d : ℕ) → d ≤ length o.values → r + d ≢ address p = λ d le q. apart_places r p.object (address p) d (length o.values) (length h.o.values) h.i w.0 up down le lt at_index q in
          let z : r + 0 ≡ r = omega arith in
          let z0 : 0 ≤ length o.values = omega arith in
          record {
            header_lies = same r (λ q. off 0 z0 (z ∙ q)) ∙ l.header_lies;
            values_lie = laid_same ws ws' (r + 1) o.values (λ i lt. let y : r + suc i ≡ r + 1 + i = omega arith in let le : suc i ≤ length o.values = omega arith in same (r + 1 + i) (λ q. off (suc i) le (y ∙ q))) l.values_lie;
          }

  apart_after : (r q : ℕ) (o u : Object) → after.objects r ≡ Some o → after.objects q ≡ Some u → r < q → r + length o.values < q
  apart_after r q o u e f lt = let b = before τ p x old h r o e in let c = before τ p x old h q u f in let a = R.apart r q b.0 c.0 b.1 c.1 lt in rw (← b.2) a

  free_after : (a : ℕ) → after.used (a / size) ≤ a % size → ws' a ≡ 0
  free_after a le = ⊎_elim (λ (e : a ≡ address p). absurd (taken e)) (λ (n : a ≢ address p). same a n ∙ R.free a le) (one_or a (address p))
    where
      taken : a ≡ address p → ⊥
      taken e =
          let i = R.heap.regions p.object h.o h.object in
          let d : a ≡ p.object + suc h.i = omega (arith, at_index) in
          let k : suc h.i ≤ length h.o.values = omega (arith, inside τ p x old h) in
          let s = same_region size p.object (suc h.i) (length h.o.values) i.inside k in
          let q : a / size ≡ p.object / size = ap (λ (n : ℕ). n / size) d ∙ s.0 in
          let t : a % size ≡ p.object % size + suc h.i = ap (λ (n : ℕ). n % size) d ∙ s.1 in
          let u : τ.used (a / size) ≡ τ.used (p.object / size) = ap τ.used q in
          omega (arith, i.below)

  pub represents_after : Represents P size ws' after
  represents_after = record { laid = laid_after; apart = apart_after; heap = heap; free = free_after }

-- a write in the log is a write of the words
pub overlaid_here : (a y : ℕ) (w : Log) (ws : Words) → overlaid (access a y ∷ w) ws a ≡ y
overlaid_here a y w ws = let e : nat_eq a a ≡ true = grind (arith, nat_tests) in rw e refl

pub overlaid_there : (a y : ℕ) (w : Log) (ws : Words) (b : ℕ) → b ≢ a → overlaid (access a y ∷ w) ws b ≡ overlaid w ws b
overlaid_there a y w ws b n = let e : nat_eq a b ≡ false = grind (arith, nat_tests) in rw e refl

pub represents_write : (P : Program) (size : ℕ) (w : Log) (ws : Words) (τ : State) (p : Place) (x old : Value) → value_held τ p ≡ Some old → IsHeap P size (put τ p x) → Represents P size (overlaid w ws) τ
    → Represents P size (overlaid (access (address p) (word_of x) ∷ w) ws) (put τ p x)
represents_write P size w ws τ p x old held heap R =
    represents_after P size (overlaid w ws) (overlaid (access (address p) (word_of x) ∷ w) ws) τ p x old (held_at τ p old held) R heap
    (overlaid_here (address p) (word_of x) w ws) (overlaid_there (address p) (word_of x) w ws)
