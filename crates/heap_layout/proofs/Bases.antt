-- Where static bases lie, as loops go from class to class.
use Rattle.std.proofs.Common.{◌≡◌, ℕ, suc, ◌+◌, ◌<◌, ◌≤◌, Bool, true, false, cond, List, [], ◌∷◌, ◌++◌, length, take, drop, get_or, Some, None, Bor, refl, sym, ap, ◌∙◌, arith, add-one, append_assoc}
use Rattle.std.specs.Prelude.{filter, sum_by}
use Rattle.std.proofs.Math.ListN.{get_or-map}
use Rattle.std.proofs.lemmas.List.{take_more, take_all, length-map, length-append}
use Rattle.std.proofs.lemmas.List.Elements.{filter_more}
use Rattle.std.proofs.lemmas.List.Sums.{sum_by-append}
use Rattle.jmodel.specs.format.ClassFile.{Member, ClassFile}
use Rattle.objects.specs.linking.Members.{is_static}
use Rattle.objects.specs.linking.StaticBases.{has_base, base_words, base_of, bases_end, base_type}
use Rattle.objects.specs.semantics.Program.{Field}
use Rattle.objects.specs.linking.Constructs.{is_floating}
use Rattle.objects.specs.linking.Layout.{field_type, if_not, fields_behind}
use Rattle.heap_layout.specs.Slots.{slot_record, slots_behind}
use Rattle.hierarchy.proofs.InOrder.{seen}
use Rattle.hierarchy.proofs.Each.{item_is}

-- one field before others
pub one_before : {A : Type 0} (b : Bool) (x : A) (xs : List A) → if_not b x xs ≡ if_not b x [] ++ xs
one_before true x xs = refl
one_before false x xs = refl

-- the fields of the class that is the n-th, by its base
pub fields_same : (cs : List ClassFile) (n : ℕ) (c : ClassFile) (s w : ℕ) (ms : List Member) → fields_behind cs n c s w ms ≡ slots_behind cs (base_of cs n) c s w ms
fields_same cs n c s w [] = refl
fields_same cs n c s w (m ∷ ms) = go (is_static m) refl (fields_same cs n c (suc s) w ms) (fields_same cs n c s (suc w) ms)
  where
    go : (b : Bool) → is_static m ≡ b → fields_behind cs n c (suc s) w ms ≡ slots_behind cs (base_of cs n) c (suc s) w ms → fields_behind cs n c s (suc w) ms ≡ slots_behind cs (base_of cs n) c s (suc w) ms
        → fields_behind cs n c s w (m ∷ ms) ≡ slots_behind cs (base_of cs n) c s w (m ∷ ms)
    go true e first second = rw e (ap (λ (l : List Field). if_not (is_floating (field_type c.pool m)) (slot_record cs c m (Some (base_of cs n)) s) l) first)
    go false e first second = rw e (ap (λ (l : List Field). if_not (is_floating (field_type c.pool m)) (slot_record cs c m None w) l) second)

module _ (classes : List (Bor ClassFile)) (i : ℕ) (c : Bor ClassFile) (inside : i < length classes) (is : c ≡ get_or classes i c) where
  abbrev cs : List ClassFile
  cs = seen classes

  abbrev rest : List ClassFile
  rest = seen (drop (i + 1) classes)

  item : seen (drop i classes) ≡ c.now ∷ rest
  item = ap seen (item_is classes i c inside is)

  many : length cs ≡ length classes
  many = length-map _ _

  here : i < length cs
  here = omega (arith, inside, many)

  at : get_or cs i c.now ≡ c.now
  at = get_or-map (λ (k : Bor ClassFile). k.now) classes i c ∙ ap (λ (k : Bor ClassFile). k.now) (sym is)

  front : take (i + 1) cs ≡ take i cs ++ c.now ∷ []
  front = take_more cs i c.now here ∙ ap (λ (k : ClassFile). take i cs ++ k ∷ []) at

  -- the next base lies behind this one
  pub next_base : base_of cs (i + 1) ≡ base_of cs i + base_words c.now
  next_base =
      let one : sum_by base_words (c.now ∷ []) ≡ base_words c.now = omega arith in
      let whole = ap (λ (l : List ClassFile). sum_by base_words l) front in
      omega (arith, whole, sum_by-append base_words (take i cs) (c.now ∷ []), one)

  -- what is listed class by class, with its class's number, goes on with one more class
  pub next_listed : {A : Type 0} (own : ℕ → ClassFile → List A) (all_from : ℕ → List ClassFile → List A) → ((n : ℕ) (k : ClassFile) (ks : List ClassFile) → all_from n (k ∷ ks) ≡ own n k ++ all_from (suc n) ks)
      → (before more all : List A) → before ++ all_from i (seen (drop i classes)) ≡ all → more ≡ before ++ own i c.now → more ++ all_from (i + 1) rest ≡ all
  next_listed {A} own all_from step before more all so_far put =
      ap (λ (l : List A). l ++ all_from (i + 1) rest) put
      ∙ append_assoc before (own i c.now) (all_from (i + 1) rest)
      ∙ ap (λ (n : ℕ). before ++ (own i c.now ++ all_from n rest)) (add-one i)
      ∙ ap (λ (l : List A). before ++ l) (sym (step i c.now rest))
      ∙ sym (ap (λ (l : List ClassFile). before ++ all_from i l) item) ∙ so_far

  -- the number of the type of the next base
  pub next_type : base_type cs (i + 1) ≡ base_type cs i + cond (has_base c.now) 1 0
  next_type =
      let more = ap (λ (l : List ClassFile). length l) (filter_more has_base cs i c.now here ∙ ap (λ (k : ClassFile). filter has_base (take i cs) ++ cond (has_base k) (k ∷ []) []) at) in
      go (has_base c.now) more
    where
      go : (b : Bool) → length (filter has_base (take (i + 1) cs)) ≡ length (filter has_base (take i cs) ++ cond b (c.now ∷ []) []) → base_type cs (i + 1) ≡ base_type cs i + cond b 1 0
      go true more = omega (arith, more, length-append (filter has_base (take i cs)) (c.now ∷ []))
      go false more = omega (arith, more, length-append (filter has_base (take i cs)) [])

-- behind the last base nothing lies
pub last_base : (cs : List ClassFile) (n : ℕ) → length cs ≤ n → base_of cs n ≡ bases_end cs
last_base cs n h = ap (λ (l : List ClassFile). 2 + sum_by base_words l) (take_all n cs h)
