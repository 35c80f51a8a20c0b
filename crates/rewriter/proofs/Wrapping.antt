-- Wrappers in the places of a class's methods, one after another.
use Rattle.std.proofs.Common.{◌≡◌, ℕ, zero, suc, ◌+◌, ◌<◌, ◌≤◌, Bool, true, false, List, [], ◌∷◌, length, drop, get_or, Result, Ok, refl, sym, ap, ◌∙◌, arith}
use Rattle.std.specs.Prelude.{if◌then◌else◌, slice_get, zip}
use Rattle.std.specs.Int.{from_bool}
use Rattle.std.proofs.lemmas.List.{drop_all}
use Rattle.std.proofs.lemmas.Slice.Zip.{length-zip}
use Rattle.jmodel.specs.declared.refusal.Refusal.{Refusal}
use Rattle.jmodel.specs.declared.refusal.Halt.{Halt}
use Rattle.jmodel.specs.declared.refusal.Halt.TheVariants as halts
use Rattle.jmodel.specs.format.Reading.{◌>>=◌, Fails}
use Rattle.jmodel.specs.format.ClassFile.{Member, Pool, ClassFile}
use Rattle.objects.specs.linking.Code.{is_root, retries_of}
use Rattle.objects.specs.semantics.Program.{Program}
use Rattle.rewriter.proofs.Lists.{zip_item}
use Rattle.rewriter.specs.Rewritten.{wrapped_if, wrapped_from, number_behind, id_behind}

-- a number counted on
pub number_is : (taken : Bool) (n k : ℕ) → k ≡ from_bool taken → n + k ≡ number_behind taken n
number_is true n k e = omega (arith, e)
number_is false n k e = omega (arith, e)

pub id_is : (root : Bool) (pool : Pool) (m : Member) (id k : ℕ) → root ≡ is_root pool m → k ≡ from_bool root → id + k ≡ id_behind pool id m
id_is root pool m id k is e = number_is root id k e ∙ ap (λ (b : Bool). if b then id + 1 else id) is

-- it grows by one at most
pub one_more : (b : Bool) (k : ℕ) → k ≡ from_bool b → k ≤ 1
one_more true k e = omega (arith, e)
one_more false k e = omega (arith, e)

-- a method and its flag, by their index
pub pair_is : (ms methods : List Member) (bs flags : List Bool) (i : ℕ) (m : Member) → methods ≡ ms → flags ≡ bs → length bs ≡ length ms → i < length methods → m ≡ get_or methods i m
    → drop i (zip ms bs) ≡ (m, get_or flags i false) ∷ drop (i + 1) (zip ms bs)
pair_is ms methods bs flags i m told seen long inside is =
    let left : i < length ms = (let e = ap (λ (xs : List Member). length xs) told in omega (arith, e, inside)) in
    let right : i < length bs = omega (arith, left, long) in
    let first : m ≡ get_or ms i m = is ∙ ap (λ (xs : List Member). get_or xs i m) told in
    let second : get_or flags i false ≡ get_or bs i (get_or flags i false) = ap (λ (xs : List Bool). get_or xs i false) seen ∙ get_or_any bs i false (get_or flags i false) right in
    zip_item ms bs i m (get_or flags i false) left right first second
  where
    get_or_any : (xs : List Bool) (i : ℕ) (a b : Bool) → i < length xs → get_or xs i a ≡ get_or xs i b
    get_or_any [] i a b h = absurd (omega (arith, h))
    get_or_any (x ∷ xs) zero a b h = refl
    get_or_any (x ∷ xs) (suc i) a b h = get_or_any xs i a b (omega (arith, h))

-- behind the last method nothing is wrapped
pub done : (P : Program) (pool : Pool) (ms : List Member) (bs : List Bool) (i n id : ℕ) (c : ClassFile) (total : Result ClassFile Refusal) → length ms ≤ i → wrapped_from P pool i n id (drop i (zip ms bs)) c ≡ total → total ≡ Ok c
done P pool ms bs i n id c total past so_far =
    let none : drop i (zip ms bs) ≡ [] = drop_all i (zip ms bs) (omega (arith, length-zip ms bs, past)) in
    sym so_far ∙ ap (λ (l : List (Member × Bool)). wrapped_from P pool i n id l c) none

module _ (P : Program) (pool : Pool) (all : List (Member × Bool)) (i n id : ℕ) (m : Member × Bool) (c : ClassFile) (item : drop i all ≡ m ∷ drop (i + 1) all) (total : Result ClassFile Refusal)
    (so_far : wrapped_from P pool i n id (drop i all) c ≡ total) where
  here : (wrapped_if id (retries_of pool m.0) (slice_get P.methods n) c i >>= λ next. wrapped_from P pool (suc i) (number_behind m.1 n) (id_behind pool id m.0) (drop (i + 1) all) next) ≡ total
  here = ap (λ (ms : List (Member × Bool)). wrapped_from P pool i n id ms c) (sym item) ∙ so_far

  pub goes_on : (next : ClassFile) → wrapped_if id (retries_of pool m.0) (slice_get P.methods n) c i ≡ Ok next
      → wrapped_from P pool (i + 1) (number_behind m.1 n) (id_behind pool id m.0) (drop (i + 1) all) next ≡ total
  goes_on next gives =
      let z : i + 1 ≡ suc i = omega arith in
      let step : wrapped_from P pool (suc i) (number_behind m.1 n) (id_behind pool id m.0) (drop (i + 1) all) next ≡ total =
      sym (ap (λ (r : Result ClassFile Refusal). r >>= λ next. wrapped_from P pool (suc i) (number_behind m.1 n) (id_behind pool id m.0) (drop (i + 1) all) next) gives) ∙ here in
      ap (λ (k : ℕ). wrapped_from P pool k (number_behind m.1 n) (id_behind pool id m.0) (drop (i + 1) all) next) z ∙ step

  pub fails : (e : Halt) → Fails e (wrapped_if id (retries_of pool m.0) (slice_get P.methods n) c i) → Fails e total
  fails halts.NoMemory h = tt
  fails (halts.Refused r) h =
      sym here ∙ ap (λ (x : Result ClassFile Refusal). x >>= λ next. wrapped_from P pool (suc i) (number_behind m.1 n) (id_behind pool id m.0) (drop (i + 1) all) next) h
