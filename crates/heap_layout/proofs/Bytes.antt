-- The bytes of descriptors.
use Rattle.std.proofs.Common.{◌≡◌, ℕ, zero, suc, ◌+◌, ◌≤◌, List, [], ◌∷◌, ◌++◌, length, take, drop, true, false, refl, sym, ap, ◌∙◌, append_assoc, arith}
use Rattle.std.proofs.lemmas.Bool.Decides.{nat_tests}
use Rattle.jmodel.specs.format.ClassFile.{ClassFile}
use Rattle.objects.specs.typing.TypeOrder.{is_array, without_last}
use Rattle.objects.specs.linking.Layout.{descriptor_read}
use Rattle.heap_layout.specs.Elements.{element_read}

-- all bytes but the last
pub front_is : (b : List ℕ) (n : ℕ) → n + 1 ≡ length b → take n b ≡ without_last b
front_is [] n e = absurd (omega arith)
front_is (c ∷ []) zero e = refl
front_is (c ∷ []) (suc n) e = absurd (omega arith)
front_is (c ∷ d ∷ b) zero e = absurd (omega arith)
front_is (c ∷ d ∷ b) (suc n) e = ap (λ (x : List ℕ). c ∷ x) (front_is (d ∷ b) n (omega arith))

-- one bracket of a descriptor is read
read_deeper : (cs : List ClassFile) (n : List ℕ) → is_array n ≡ true → descriptor_read cs n ≡ 91 ∷ descriptor_read cs (drop 1 n)
read_deeper cs [] e = cc
read_deeper cs (c ∷ n) e = let s : c ≡ 91 = grind (arith, nat_tests) in rw e (ap (λ (c : ℕ). c ∷ descriptor_read cs n) s)

drop_one : (l : List ℕ) (i : ℕ) → drop 1 (drop i l) ≡ drop (i + 1) l
drop_one l zero = refl
drop_one [] (suc i) = let n : suc i + 1 ≡ suc (i + 1) = omega arith in rw n refl
drop_one (c ∷ l) (suc i) = let n : suc i + 1 ≡ suc (i + 1) = omega arith in drop_one l i ∙ rw n refl

-- the bracket at a place
pub read_array : (cs : List ClassFile) (n : List ℕ) (i : ℕ) → is_array (drop i n) ≡ true → descriptor_read cs (drop i n) ≡ 91 ∷ descriptor_read cs (drop (i + 1) n)
read_array cs n i e = read_deeper cs (drop i n) e ∙ ap (λ (l : List ℕ). 91 ∷ descriptor_read cs l) (drop_one n i)

-- an element that is no array
pub read_class : (cs : List ClassFile) (n : List ℕ) → is_array n ≡ false → element_read cs n ≡ descriptor_read cs n
read_class cs [] e = refl
read_class cs (c ∷ n) e = rw e refl

-- nothing is left behind the end
pub read_other : (cs : List ClassFile) (n : List ℕ) (i : ℕ) → length n ≤ i → descriptor_read cs (drop i n) ≡ []
read_other cs [] zero h = refl
read_other cs [] (suc i) h = refl
read_other cs (c ∷ n) zero h = absurd (omega arith)
read_other cs (c ∷ n) (suc i) h = read_other cs n i (omega arith)

-- what is read so far, with one bracket more
pub read_step : (cs : List ClassFile) (n : List ℕ) (i : ℕ) (b d : List ℕ) → is_array (drop i n) ≡ true → d ≡ b ++ 91 ∷ [] → b ++ descriptor_read cs (drop i n) ≡ descriptor_read cs n
    → d ++ descriptor_read cs (drop (i + 1) n) ≡ descriptor_read cs n
read_step cs n i b d e f h =
    ap (λ (x : List ℕ). x ++ descriptor_read cs (drop (i + 1) n)) f
    ∙ append_assoc b (91 ∷ []) (descriptor_read cs (drop (i + 1) n))
    ∙ ap (λ (x : List ℕ). b ++ x) (sym (read_array cs n i e))
    ∙ h
