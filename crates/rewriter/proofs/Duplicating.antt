-- Duplicates of a class's methods, one after another.
use Rattle.std.proofs.Common.{◌≡◌, ℕ, zero, suc, ◌+◌, ◌-◌, ◌<◌, ◌≤◌, List, [], ◌∷◌, length, get_or, Bor, ◌++◌, drop, Some, Ok, refl, sym, ap, subst, ◌∙◌, arith}
use Rattle.std.specs.Prelude.{map, slice_get, zip}
use Rattle.std.proofs.Math.ListN.{get_or-map}
use Rattle.std.proofs.lemmas.Slice.Zip.{length-zip}
use Rattle.jmodel.specs.declared.refusal.Halt.{Halt}
use Rattle.jmodel.specs.format.Reading.{Fails}
use Rattle.jmodel.specs.format.ClassFile.{Member, Pool, ClassFile}
use Rattle.objects.specs.semantics.Program.{Method, Program, method_at}
use Rattle.objects.specs.typing.Typing.{Table}
use Rattle.objects.specs.typing.Source.{AreTypes}
use Rattle.std.proofs.lemmas.List.{append-nil, drop_all}
use Rattle.member_code.specs.Growing.{Growth, grow_from}
use Rattle.member_code.proofs.Grow as grow
use Rattle.member_code.proofs.Grow.{with_front}
use Rattle.dup_methods.specs.Originals.{Original}
use Rattle.dup_methods.specs.Duplicates.{duplicate_of}
use Rattle.program_typing.specs.Tables.{IsTableOf, AreTables}
use Rattle.program_typing.proofs.Chosen.{as_many, chosen}
use Rattle.rewriter.specs.Rewritten.{original_of, originals}
use Rattle.rewriter.proofs.Lists.{item_at, place_inside, zip_item}
use Rattle.rewriter.proofs.SameDuplicates.{same_duplicate}

-- a method and its member, by their index
pub pair_at : (ks methods : List Method) (ms : List Member) (members : List (Bor Member)) (i : ℕ) (k : Method) (m : Bor Member) → methods ≡ ks → map (λ (m : Bor Member). m.now) members ≡ ms → length ms ≡ length ks → i < length methods
    → k ≡ get_or methods i k → m ≡ get_or members i m → drop i (zip ks ms) ≡ (k, m.now) ∷ drop (i + 1) (zip ks ms)
pair_at ks methods ms members i k m told seen long inside is too =
    let left : i < length ks = (let e = ap (λ (xs : List Method). length xs) told in omega (arith, e, inside)) in
    let first : k ≡ get_or ks i k = is ∙ ap (λ (xs : List Method). get_or xs i k) told in
    let at : get_or (map (λ (m : Bor Member). m.now) members) i m.now ≡ m.now = get_or-map (λ (m : Bor Member). m.now) members i m ∙ ap (λ (m : Bor Member). m.now) (sym too) in
    let second : m.now ≡ get_or ms i m.now = sym at ∙ ap (λ (xs : List Member). get_or xs i m.now) seen in
    zip_item ks ms i k m.now left (omega (arith, left, long)) first second

pub method_there : (ks methods : List Method) (i : ℕ) (k : Method) → methods ≡ ks → i < length methods → k ≡ get_or methods i k → slice_get ks i ≡ Some k
method_there ks methods i k told inside is = ap (λ (xs : List Method). slice_get xs i) (sym told) ∙ item_at methods i k inside is

-- of tables of a program's methods the one with the number of a share's method is this method's
pub table_there : (P : Program) (Ts : List Table) (first i n : ℕ) (k : Method) (T : Table) → AreTables P Ts → n ≡ first → method_at P (first + i) ≡ Some k → T ≡ get_or Ts (n + i) T → IsTableOf P k (get_or Ts (n + i) T)
table_there P Ts first i n k T are same at is = subst (IsTableOf P k) is (chosen P P.methods Ts (first + i) k T are at (is ∙ ap (λ (m : ℕ). get_or Ts (m + i) T) same))

-- its number is that of a table, and that of a method
pub table_inside : (P : Program) (Ts : List Table) (first i n : ℕ) (k : Method) → AreTables P Ts → n ≡ first → method_at P (first + i) ≡ Some k → (n + i < length P.methods) × (length Ts ≡ length P.methods)
table_inside P Ts first i n k are same at =
    let inside = place_inside P.methods (first + i) k at in
    (omega (arith, inside, same), as_many P P.methods Ts are)

-- behind the last there is none
pub no_more : (ks methods : List Method) (ms : List Member) (i : ℕ) → methods ≡ ks → length methods ≤ i → drop i (zip ks ms) ≡ []
no_more ks methods ms i told past =
    let e = ap (λ (xs : List Method). length xs) told in
    drop_all i (zip ks ms) (omega (arith, length-zip ks ms, e, past))

module _ (P : Program) (c : ClassFile) where
  -- the original with a number has the table with that number
  rest_is : (pairs : List (Method × Member)) (Ts : List Table) (i : ℕ) (p : Method × Member) (more : List (Method × Member)) (T : Table) → drop i pairs ≡ p ∷ more → slice_get Ts i ≡ Some T
      → drop i (originals P c pairs Ts) ≡ original_of P c p T ∷ drop (suc i) (originals P c pairs Ts)
  rest_is [] Ts zero p more T e h = absurd cc
  rest_is [] Ts (suc i) p more T e h = absurd cc
  rest_is (q ∷ pairs) [] i p more T e h = cc
  rest_is (q ∷ pairs) (U ∷ Ts) zero p more T e h =
      let s : q ≡ p = cc in
      let t : U ≡ T = cc in
      ap (λ (x : Method × Member). original_of P c x U ∷ originals P c pairs Ts) s ∙ ap (λ (V : Table). original_of P c p V ∷ originals P c pairs Ts) t
  rest_is (q ∷ pairs) (U ∷ Ts) (suc i) p more T e h = rest_is pairs Ts i p more T e h

  -- there are as many as pairs
  none_left : (pairs : List (Method × Member)) (Ts : List Table) (i : ℕ) → drop i pairs ≡ [] → drop i (originals P c pairs Ts) ≡ []
  none_left [] Ts zero e = refl
  none_left [] Ts (suc i) e = refl
  none_left (q ∷ pairs) [] zero e = absurd cc
  none_left (q ∷ pairs) (U ∷ Ts) zero e = absurd cc
  none_left (q ∷ pairs) [] (suc i) e = none_left pairs [] i e
  none_left (q ∷ pairs) (U ∷ Ts) (suc i) e = none_left pairs Ts i e

  module _ (C : AreTypes P) (room : ℕ) (pairs : List (Method × Member)) (Ts : List Table) (pool0 : Pool) where
    abbrev made : ℕ → Original → Pool → Growth Member
    made n O = duplicate_of (room - n) O

    abbrev all : List Original
    all = originals P c pairs Ts

    abbrev total : Growth (List Member)
    total = grow_from made 0 all pool0

    module _ (i : ℕ) (copies : List Member) (pool : Pool) (so_far : with_front copies (grow_from made i (drop i all) pool) ≡ total) where
      module _ (p : Method × Member) (item : drop i pairs ≡ p ∷ drop (i + 1) pairs) (T : Table) (is : IsTableOf P p.0 T) (given : (U : Table) × (slice_get Ts i ≡ Some U) × IsTableOf P p.0 U) where
        rest : drop i all ≡ original_of P c p given.0 ∷ drop (i + 1) all
        rest =
            let z : suc i ≡ i + 1 = omega arith in
            rest_is pairs Ts i p (drop (i + 1) pairs) given.0 item given.1 ∙ ap (λ (n : ℕ). original_of P c p given.0 ∷ drop n all) z

        same : duplicate_of (room - i) (original_of P c p T) pool ≡ duplicate_of (room - i) (original_of P c p given.0) pool
        same = same_duplicate P C c p T given.0 is given.2 (room - i) pool

        pub goes_on : (y : Member) (next : Pool) → duplicate_of (room - i) (original_of P c p T) pool ≡ Ok (y, next) → with_front (copies ++ y ∷ []) (grow_from made (i + 1) (drop (i + 1) all) next) ≡ total
        goes_on y next gives = grow.goes_on made copies all i (original_of P c p given.0) y pool next total rest (sym same ∙ gives) so_far

        pub ends : (e : Halt) → Fails e (duplicate_of (room - i) (original_of P c p T) pool) → Fails e total
        ends e gives = grow.ends made e copies all i (original_of P c p given.0) pool total rest (subst (Fails e) same gives) so_far

      pub done : drop i pairs ≡ [] → total ≡ Ok (copies, pool)
      done none =
          let last : with_front copies (grow_from made i (drop i all) pool) ≡ Ok (copies ++ [], pool) = rw (none_left pairs Ts i none) refl in
          sym so_far ∙ last ∙ ap (λ (ys : List Member). Ok (ys, pool)) (append-nil copies)
