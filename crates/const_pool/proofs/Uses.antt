-- What is kept of each text is what the pool says of it.
use Rattle.std.proofs.Common.{◌≡◌, ℕ, zero, suc, ◌+◌, ◌<◌, ◌≤◌, Bool, false, List, [], ◌∷◌, get_or, length, drop, Option, Some, None, Result, Ok, Err, refl, ap, sym, ◌∙◌}
use Rattle.std.specs.Prelude.{option_and_then}
use Rattle.std.proofs.lemmas.List.{drop_more, drop_all}
use Rattle.jmodel.specs.declared.class_file.Constant.{Constant}
use Rattle.jmodel.specs.declared.class_file.Constant.TheVariants.{Utf8, Integer, Float, Long, Double, Class, Text, Field, Method, InterfaceMethod, NameAndType, Second}
use Rattle.jmodel.specs.declared.refusal.Refusal.{Refusal}
use Rattle.jmodel.specs.declared.refusal.Halt.{Halt}
use Rattle.jmodel.specs.declared.refusal.Halt.TheVariants as halts
use Rattle.jmodel.specs.format.Pool as pool
use Rattle.jmodel.specs.format.Pool.{utf8, entry}
use Rattle.jmodel.specs.format.DescriptorReading.{is_field_descriptor, is_method_descriptor}
use Rattle.jmodel.specs.format.Reading.{◌>>=◌, Fails}
use Rattle.jmodel.specs.format.PoolReading.{passes, entry_of, text_in, utf8_at, constant_fits, all_fit}
use Rattle.const_pool.specs.Uses.{use_of, uses_of, use_at}

-- both uses of an index
abbrev pub AreUses : List Constant → ℕ → Bool × Bool → Type 0
AreUses pool i u = (passes is_field_descriptor (utf8 pool i) ≡ u.0) × (passes is_method_descriptor (utf8 pool i) ≡ u.1)

of_entry : (c : Constant) (pool : List Constant) → AreUses (c ∷ pool) 1 (use_of c)
of_entry (Utf8 text) pool = (refl, refl)
of_entry (Integer n) pool = (refl, refl)
of_entry (Float n) pool = (refl, refl)
of_entry (Long n) pool = (refl, refl)
of_entry (Double n) pool = (refl, refl)
of_entry (Class n) pool = (refl, refl)
of_entry (Text n) pool = (refl, refl)
of_entry (Field a b) pool = (refl, refl)
of_entry (Method a b) pool = (refl, refl)
of_entry (InterfaceMethod a b) pool = (refl, refl)
of_entry (NameAndType a b) pool = (refl, refl)
of_entry Second pool = (refl, refl)

at_index : (pool : List Constant) (i : ℕ) → AreUses pool (suc i) (get_or (uses_of pool) i (false, false))
at_index [] i = (refl, refl)
at_index (c ∷ pool) zero = of_entry c pool
at_index (c ∷ pool) (suc i) = at_index pool i

pub uses : (pool : List Constant) (i : ℕ) → AreUses pool i (use_at (uses_of pool) i)
uses pool zero = (refl, refl)
uses pool (suc i) = at_index pool i

text_of_entry : (i : ℕ) (o : Option Constant) (text : List ℕ) → (entry_of i o >>= text_in i) ≡ Ok text → option_and_then pool.text_in o ≡ Some text
text_of_entry i None text h = absurd cc
text_of_entry i (Some (Utf8 b)) text h = cc
text_of_entry i (Some (Integer n)) text h = absurd cc
text_of_entry i (Some (Float n)) text h = absurd cc
text_of_entry i (Some (Long n)) text h = absurd cc
text_of_entry i (Some (Double n)) text h = absurd cc
text_of_entry i (Some (Class n)) text h = absurd cc
text_of_entry i (Some (Text n)) text h = absurd cc
text_of_entry i (Some (Field a b)) text h = absurd cc
text_of_entry i (Some (Method a b)) text h = absurd cc
text_of_entry i (Some (InterfaceMethod a b)) text h = absurd cc
text_of_entry i (Some (NameAndType a b)) text h = absurd cc
text_of_entry i (Some Second) text h = absurd cc

-- an index whose text was read has that text
pub text_read : (pool : List Constant) (i : ℕ) (text : List ℕ) → utf8_at pool i ≡ Ok text → utf8 pool i ≡ Some text
unfolding utf8_at
text_read pool i text h = text_of_entry i (entry pool i) text h

-- what a text that was read can be used for
pub read_uses : (pool : List Constant) (i : ℕ) (text : List ℕ) → utf8_at pool i ≡ Ok text → (is_field_descriptor text ≡ (use_at (uses_of pool) i).0) × (is_method_descriptor text ≡ (use_at (uses_of pool) i).1)
read_uses pool i text h =
    let e = text_read pool i text h in
    let u = uses pool i in
    (ap (passes is_field_descriptor) (sym e) ∙ u.0, ap (passes is_method_descriptor) (sym e) ∙ u.1)

-- ---- going over the entries

module _ (pool items : List Constant) (i : ℕ) (x : Constant) (total : Result (Unit {0}) Refusal) (below : i < length items) (is : x ≡ get_or items i x) (so_far : all_fit pool (drop i items) ≡ total) where
  at_item : all_fit pool (drop i items) ≡ (constant_fits pool x >>= λ _. all_fit pool (drop (i + 1) items))
  unfolding all_fit
  at_item = ap (all_fit pool) (drop_more items i x below ∙ ap (λ (y : Constant). y ∷ drop (i + 1) items) (sym is))

  pub fits_on : (u : Unit {0}) → constant_fits pool x ≡ Ok u → all_fit pool (drop (i + 1) items) ≡ total
  fits_on u h = let one : all_fit pool (drop i items) ≡ all_fit pool (drop (i + 1) items) = at_item ∙ rw h refl in sym one ∙ so_far

  pub fits_not : (e : Halt) → Fails e (constant_fits pool x) → Fails e total
  fits_not halts.NoMemory h = tt
  fits_not (halts.Refused f) h = let one : all_fit pool (drop i items) ≡ Err f = at_item ∙ rw h refl in sym so_far ∙ one

pub fits_all : (pool items : List Constant) (i : ℕ) (total : Result (Unit {0}) Refusal) → length items ≤ i → all_fit pool (drop i items) ≡ total → total ≡ Ok tt
unfolding all_fit
fits_all pool items i total le so_far = sym so_far ∙ ap (all_fit pool) (drop_all i items le)
