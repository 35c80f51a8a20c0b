-- Rules of class files that tests decide.
use Rattle.std.proofs.Common.{◌≡◌, ℕ, zero, suc, ◌+◌, ◌<◌, ◌^◌, List, [], ◌∷◌, length, Option, Some, None, Bool, true, false, nat_lt, get_or, refl, arith}
use Rattle.std.specs.Prelude.{◌&&◌, codes, AllPairs}
use Rattle.std.specs.List.{AllByRecursion, list_all}
use Rattle.std.proofs.lemmas.Bool.Decides.{nat_tests}
use Rattle.jmodel.specs.declared.class_file.Constant.TheVariants.{Utf8}
use Rattle.jmodel.specs.declared.class_file.FieldType.TheVariants as field
use Rattle.jmodel.specs.format.ClassFile.{Attribute, Pool, Code}
use Rattle.jmodel.specs.format.Descriptor.{IsClassName, IsFieldDescriptor, IsMethodDescriptor}
use Rattle.jmodel.specs.format.ClassRules.{IsTwoBytes, IsTextByte, IsConstant, AreAttributes}

-- ---- numbers and texts

pub below : (n m : ℕ) → nat_lt n m ≡ true → n < m
below n m e = grind (arith, nat_tests)

pub small : (n : ℕ) → nat_lt n (2 ^ 16) ≡ true → IsTwoBytes n
small n e = below n (2 ^ 16) e

both : (a b : Bool) → (a && b) ≡ true → (a ≡ true) × (b ≡ true)
both true b e = (refl, e)
both false b e = cc

text_bytes : (xs : List ℕ) → list_all (λ b. nat_lt 0 b && nat_lt b 240) xs ≡ true → AllByRecursion IsTextByte xs
text_bytes [] e = tt
text_bytes (b ∷ xs) e =
    let a = both (nat_lt 0 b && nat_lt b 240) (list_all (λ b. nat_lt 0 b && nat_lt b 240) xs) e in
    let c = both (nat_lt 0 b) (nat_lt b 240) a.0 in
    ((below 0 b c.0, below b 240 c.1), text_bytes xs a.1)

pub text : (pool : Pool) (xs : List ℕ) → nat_lt (length xs) (2 ^ 16) ≡ true → list_all (λ b. nat_lt 0 b && nat_lt b 240) xs ≡ true → IsConstant pool (Utf8 xs)
text pool xs e f = (below (length xs) (2 ^ 16) e, text_bytes xs f)

pub all_bytes : (xs : List ℕ) → list_all (λ b. nat_lt b 256) xs ≡ true → AllByRecursion (λ b. b < 256) xs
all_bytes [] e = tt
all_bytes (b ∷ xs) e = let a = both (nat_lt b 256) (list_all (λ b. nat_lt b 256) xs) e in (below b 256 a.0, all_bytes xs a.1)

-- numbers below 256, at each place of a list
pub byte_at_each : (xs : List ℕ) → AllByRecursion (λ b. b < 256) xs → (i : ℕ) → get_or xs i 0 < 256
byte_at_each [] h i = omega arith
byte_at_each (x ∷ xs) h zero = h.0
byte_at_each (x ∷ xs) h (suc i) = byte_at_each xs h.1 i

pub bytes_in : (a : Attribute) → list_all (λ b. nat_lt b 256) a.bytes ≡ true → (i : ℕ) → get_or a.bytes i 0 < 256
bytes_in a e = byte_at_each a.bytes (all_bytes a.bytes e)

-- ---- descriptors

pub no_attributes : (pool : Pool) → AreAttributes pool []
no_attributes pool = record { few = small 0 refl; each = tt }

-- the code of a method without handlers
abbrev pub code_of : ℕ → ℕ → List ℕ → Code
code_of stack locals code = record { max_stack = stack; max_locals = locals; code = code; handlers = []; attributes = [] }

pub account_named : IsClassName (codes "Account")
account_named = record { is_there = λ e. cc; no_end = (λ e. omega (arith, e), (λ e. omega (arith, e), (λ e. omega (arith, e), (λ e. omega (arith, e), (λ e. omega (arith, e), (λ e. omega (arith, e), (λ e. omega (arith, e), tt))))))); no_array = refl }

pub of_nothing : IsMethodDescriptor (codes "()V")
of_nothing = (record { parameters = []; result = None }, record { signature = record { parameters = tt; result = tt; few = omega (arith) }; is = refl })

pub takes_int : IsMethodDescriptor (codes "(I)V")
takes_int = (record { parameters = field.Int ∷ []; result = None }, record { signature = record { parameters = (tt, tt); result = tt; few = omega (arith) }; is = refl })

pub gives_int : IsMethodDescriptor (codes "()I")
gives_int = (record { parameters = []; result = Some field.Int }, record { signature = record { parameters = tt; result = tt; few = omega (arith) }; is = refl })

pub of_int : IsFieldDescriptor (codes "I")
of_int = (field.Int, record { type = tt; is = refl })

-- ---- members that differ

-- the sum of a text's bytes, by which names differ
abbrev pub sum_of : Option (List ℕ) → ℕ
sum_of None = 0
sum_of (Some []) = 0
sum_of (Some (b ∷ bs)) = b + sum_of (Some bs)

pub one_differs : {A : Type 0} (R : A → A → Type 0) (x : A) → AllPairs R (x ∷ [])
one_differs R x zero zero d p q = absurd (omega (arith, p))
one_differs R x zero (suc j) d p q = absurd (omega (arith, q))
one_differs R x (suc i) j d p q = absurd (omega (arith, p, q))

pub three_differ : {A : Type 0} (R : A → A → Type 0) (x y z : A) → R x y → R x z → R y z → AllPairs R (x ∷ y ∷ z ∷ [])
three_differ R x y z a b c zero zero d p q = absurd (omega (arith, p))
three_differ R x y z a b c zero (suc zero) d p q = a
three_differ R x y z a b c zero (suc (suc zero)) d p q = b
three_differ R x y z a b c (suc zero) (suc (suc zero)) d p q = c
three_differ R x y z a b c i j d p q = absurd (omega (arith, p, q))
