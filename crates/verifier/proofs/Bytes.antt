-- The bytes of descriptors.
use Rattle.std.proofs.Common.{◌≡◌, ℕ, zero, suc, ◌+◌, ◌≤◌, List, [], ◌∷◌, ◌++◌, length, take, drop, true, false, refl, sym, ap, ◌∙◌, append_assoc, arith}
use Rattle.std.proofs.lemmas.Bool.Decides.{nat_tests}
use Rattle.std.specs.Prelude.{nat_eq, bytes_eq, codes}
use Rattle.objects.specs.semantics.Program.{Program}
use Rattle.objects.specs.typing.TypeOrder.{is_array, without_last, is_ended, is_element_within, element_read}
use Rattle.verifier.specs.Names.{is_base_within, base_read}
use Rattle.verifier.specs.Order.{object_descriptor}

pub front_is : (b : List ℕ) (n : ℕ) → n + 1 ≡ length b → take n b ≡ without_last b
front_is [] n e = absurd (omega arith)
front_is (c ∷ []) zero e = refl
front_is (c ∷ []) (suc n) e = absurd (omega arith)
front_is (c ∷ d ∷ b) zero e = absurd (omega arith)
front_is (c ∷ d ∷ b) (suc n) e = ap (λ (x : List ℕ). c ∷ x) (front_is (d ∷ b) n (omega arith))

same_number : (c : ℕ) → nat_eq c c ≡ true
same_number c = grind (arith, nat_tests)

ended_is : (n : List ℕ) → bytes_eq (drop (length (without_last n)) n) (codes ";") ≡ is_ended n
ended_is [] = refl
ended_is (c ∷ []) = refl
ended_is (c ∷ d ∷ n) = let e = same_number c in ended_is (d ∷ n) ∙ rw e refl

pub ended_by : (n f : List ℕ) (k : ℕ) → f ≡ without_last n → k ≡ length f → bytes_eq (drop k n) (codes ";") ≡ is_ended n
ended_by n f k e g = let h : k ≡ length (without_last n) = g ∙ ap length e in ap (λ (k : ℕ). bytes_eq (drop k n) (codes ";")) h ∙ ended_is n

-- one step of two elements, by whether they are arrays
pub base_step : (P : Program) (m n : List ℕ) → is_array m ≡ false → is_base_within P m n ≡ is_element_within P m n
base_step P [] n e = refl
base_step P (c ∷ m) [] e = refl
base_step P (c ∷ m) (d ∷ n) e = rw e refl

pub object_step : (P : Program) (m n : List ℕ) → is_array m ≡ true → is_array n ≡ false → is_element_within P m n ≡ bytes_eq n object_descriptor
object_step P [] n e f = cc
object_step P (c ∷ m) [] e f = refl
object_step P (c ∷ m) (d ∷ n) e f = rw (e, f) refl

deeper : (P : Program) (m n : List ℕ) → is_array m ≡ true → is_array n ≡ true → is_element_within P m n ≡ is_element_within P (drop 1 m) (drop 1 n)
deeper P [] n e f = cc
deeper P (c ∷ m) [] e f = cc
deeper P (c ∷ m) (d ∷ n) e f = rw (e, f) refl

pub deeper_step : (P : Program) (m n : List ℕ) (i : ℕ) → is_array (drop i m) ≡ true → is_array (drop i n) ≡ true → is_element_within P (drop i m) (drop i n) ≡ is_element_within P (drop (i + 1) m) (drop (i + 1) n)
deeper_step P m n i e f =
    let x : drop 1 (drop i m) ≡ drop (i + 1) m = drop_more m i in
    let y : drop 1 (drop i n) ≡ drop (i + 1) n = drop_more n i in
    deeper P (drop i m) (drop i n) e f ∙ rw (x, y) refl
  where
    drop_more : (l : List ℕ) (i : ℕ) → drop 1 (drop i l) ≡ drop (i + 1) l
    drop_more l zero = refl
    drop_more [] (suc i) = let n : suc i + 1 ≡ suc (i + 1) = omega arith in rw n refl
    drop_more (c ∷ l) (suc i) = let n : suc i + 1 ≡ suc (i + 1) = omega arith in drop_more l i ∙ rw n refl

-- one step of reading a descriptor
read_deeper : (P : Program) (n : List ℕ) → is_array n ≡ true → element_read P n ≡ 91 ∷ element_read P (drop 1 n)
read_deeper P [] e = cc
read_deeper P (c ∷ n) e = let s : c ≡ 91 = grind (arith, nat_tests) in rw e (ap (λ (c : ℕ). c ∷ element_read P n) s)

drop_one : (l : List ℕ) (i : ℕ) → drop 1 (drop i l) ≡ drop (i + 1) l
drop_one l zero = refl
drop_one [] (suc i) = let n : suc i + 1 ≡ suc (i + 1) = omega arith in rw n refl
drop_one (c ∷ l) (suc i) = let n : suc i + 1 ≡ suc (i + 1) = omega arith in drop_one l i ∙ rw n refl

pub read_array : (P : Program) (n : List ℕ) (i : ℕ) → is_array (drop i n) ≡ true → element_read P (drop i n) ≡ 91 ∷ element_read P (drop (i + 1) n)
read_array P n i e = read_deeper P (drop i n) e ∙ ap (λ (l : List ℕ). 91 ∷ element_read P l) (drop_one n i)

pub read_class : (P : Program) (n : List ℕ) → is_array n ≡ false → base_read P n ≡ element_read P n
read_class P [] e = refl
read_class P (c ∷ n) e = rw e refl

pub read_other : (P : Program) (n : List ℕ) (i : ℕ) → length n ≤ i → element_read P (drop i n) ≡ []
read_other P [] zero h = refl
read_other P [] (suc i) h = refl
read_other P (c ∷ n) zero h = absurd (omega arith)
read_other P (c ∷ n) (suc i) h = read_other P n i (omega arith)

pub read_step : (P : Program) (n : List ℕ) (i : ℕ) (b d : List ℕ) → is_array (drop i n) ≡ true → d ≡ b ++ 91 ∷ [] → b ++ element_read P (drop i n) ≡ element_read P n → d ++ element_read P (drop (i + 1) n) ≡ element_read P n
read_step P n i b d e f h =
    ap (λ (x : List ℕ). x ++ element_read P (drop (i + 1) n)) f
    ∙ append_assoc b (91 ∷ []) (element_read P (drop (i + 1) n))
    ∙ ap (λ (x : List ℕ). b ++ x) (sym (read_array P n i e))
    ∙ h
