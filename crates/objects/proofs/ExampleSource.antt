-- The class of the example of linking keeps the rules that the laws of linking ask of class files: so its program is source.
use Rattle.std.proofs.Common.{◌≡◌, ◌+◌, ℕ, zero, suc, ap, ◌<◌, ◌^◌, List, [], ◌∷◌, length, Option, Some, None, Bool, true, false, inl, inr, nat_lt, refl, arith}
use Rattle.std.specs.Prelude.{◌&&◌, codes, AllPairs}
use Rattle.std.specs.List.{AllByRecursion, list_all}
use Rattle.std.proofs.lemmas.Bool.Decides.{nat_tests}
use Rattle.jmodel.specs.declared.class_file.Constant.TheVariants as constants
use Rattle.jmodel.specs.declared.class_file.FieldType.TheVariants as field
use Rattle.jmodel.specs.format.ClassFile.{Code}
use Rattle.jmodel.specs.format.ClassRules.{IsTwoBytes, IsTextByte, IsConstant, IsPool, AreAttributes, IsField, IsMethod, IsSameMember, IsClassFile}
use Rattle.jmodel.specs.format.Descriptor.{IsClassName, IsFieldDescriptor, IsMethodDescriptor}
use Rattle.objects.specs.laws.LinkingLaw.{AreRead}
use Rattle.objects.specs.typing.Source.{IsSource}
use Rattle.objects.proofs.SourceProof.{source_law}
use Rattle.objects.proofs.ExampleLinking.{pool, initialiser, constructor, class_a, program, links}

-- ---- numbers and texts

below : (n m : ℕ) → nat_lt n m ≡ true → n < m
below n m e = grind (arith, nat_tests)

small : (n : ℕ) → nat_lt n (2 ^ 16) ≡ true → IsTwoBytes n
small n e = below n (2 ^ 16) e

both : (a b : Bool) → (a && b) ≡ true → (a ≡ true) × (b ≡ true)
both true b e = (refl, e)
both false b e = cc

text_bytes : (xs : List ℕ) → list_all (λ b. nat_lt 0 b && nat_lt b 240) xs ≡ true → AllByRecursion IsTextByte xs
text_bytes [] e = tt
text_bytes (b ∷ xs) e =
    let a = both (nat_lt 0 b && nat_lt b 240) (list_all (λ b. nat_lt 0 b && nat_lt b 240) xs) e in
    let c = both (nat_lt 0 b) (nat_lt b 240) a.0 in
    ((below 0 b c.0, below b 240 c.1), text_bytes xs a.1)

text : (xs : List ℕ) → nat_lt (length xs) (2 ^ 16) ≡ true → list_all (λ b. nat_lt 0 b && nat_lt b 240) xs ≡ true → IsConstant pool (constants.Utf8 xs)
text xs e f = (below (length xs) (2 ^ 16) e, text_bytes xs f)

-- ---- descriptors

a_named : IsClassName (codes "A")
a_named = record { is_there = λ e. cc; no_end = (λ e. omega (arith, e), tt); no_array = refl }

of_a : IsFieldDescriptor (codes "LA;")
of_a = (field.Reference (codes "A"), record { type = a_named; is = refl })

of_int : IsFieldDescriptor (codes "I")
of_int = (field.Int, record { type = tt; is = refl })

of_nothing : IsMethodDescriptor (codes "()V")
of_nothing = (record { parameters = []; result = None }, record { signature = record { parameters = tt; result = tt; few = omega (arith) }; is = refl })

-- ---- the pool

entries : AllByRecursion (IsConstant pool) pool
entries =
    ((small 2 refl, tt), (text (codes "A") refl refl, ((small 4 refl, tt), (text (codes "java/lang/Object") refl refl, (text (codes "s") refl refl, (text (codes "LA;") refl refl, (text (codes "x") refl refl, (text (codes "I") refl refl, (text (codes "<clinit>") refl refl, (text (codes "()V") refl refl, (text (codes "<init>") refl refl, (text (codes "Code") refl refl, ((small 1 refl, small 14 refl, refl, of_a), ((small 5 refl, small 6 refl, refl, inl of_a), ((small 1 refl, small 16 refl, refl, of_int), ((small 7 refl, small 8 refl, refl, inl of_int), ((small 1 refl, small 18 refl, refl, of_nothing), ((small 11 refl, small 10 refl, refl, inr of_nothing), ((small 3 refl, small 18 refl, refl, of_nothing), ((small 21 refl, refl), (text (codes "hi") refl refl, tt)))))))))))))))))))))

is_pool : IsPool pool
is_pool = record { few = below 21 65535 refl; placed = (refl, (refl, (refl, (refl, (refl, (refl, (refl, (refl, (refl, (refl, (refl, (refl, (refl, (refl, (refl, (refl, (refl, (refl, (refl, (refl, (refl, refl))))))))))))))))))))); entries = entries }

-- ---- members

no_attributes : AreAttributes pool []
no_attributes = record { few = small 0 refl; each = tt }

field_s : IsField pool (record { flags = 8; name = 5; descriptor = 6; attributes = [] })
field_s = record { flags = small 8 refl; name = small 5 refl; descriptor = small 6 refl; named = refl; typed = of_a; attributes = no_attributes }

field_x : IsField pool (record { flags = 0; name = 7; descriptor = 8; attributes = [] })
field_x = record { flags = small 0 refl; name = small 7 refl; descriptor = small 8 refl; named = refl; typed = of_int; attributes = no_attributes }

abbrev code_of_initialiser : Code
code_of_initialiser = record { max_stack = 2; max_locals = 0; code = 187 ∷ 0 ∷ 1 ∷ 89 ∷ 183 ∷ 0 ∷ 17 ∷ 179 ∷ 0 ∷ 13 ∷ 4 ∷ 189 ∷ 0 ∷ 1 ∷ 87 ∷ 18 ∷ 20 ∷ 87 ∷ 177 ∷ []; handlers = []; attributes = [] }

abbrev code_of_constructor : Code
code_of_constructor = record { max_stack = 2; max_locals = 1; code = 42 ∷ 183 ∷ 0 ∷ 19 ∷ 42 ∷ 16 ∷ 7 ∷ 181 ∷ 0 ∷ 15 ∷ 177 ∷ []; handlers = []; attributes = [] }

method_initialiser : IsMethod pool initialiser
method_initialiser = record {
  member = record {
    flags = small 8 refl;
    name = small 9 refl;
    descriptor = small 10 refl;
    named = refl;
    typed = of_nothing;
    attributes = record { few = small 1 refl; each = (record { name = small 12 refl; named = refl; short = below 31 (2 ^ 32) refl }, tt) };
  };
  codes_fit = (
    _,
    code_of_initialiser,
    refl,
    record {
      code = record { stack = small 2 refl; locals = small 0 refl; some = below 0 19 refl; short = omega (arith); few = small 0 refl; handlers = tt; attributes = no_attributes };
      is = refl;
    },
  );
}

method_constructor : IsMethod pool constructor
method_constructor = record {
  member = record {
    flags = small 0 refl;
    name = small 11 refl;
    descriptor = small 10 refl;
    named = refl;
    typed = of_nothing;
    attributes = record { few = small 1 refl; each = (record { name = small 12 refl; named = refl; short = below 23 (2 ^ 32) refl }, tt) };
  };
  codes_fit = (
    _,
    code_of_constructor,
    refl,
    record {
      code = record { stack = small 2 refl; locals = small 1 refl; some = below 0 11 refl; short = omega (arith); few = small 0 refl; handlers = tt; attributes = no_attributes };
      is = refl;
    },
  );
}

-- ---- the class

-- the sum of a text's bytes, by which the names below differ
abbrev sum_of : Option (List ℕ) → ℕ
sum_of None = 0
sum_of (Some []) = 0
sum_of (Some (b ∷ bs)) = b + sum_of (Some bs)

two_differ : {A : Type 0} (R : A → A → Type 0) (x y : A) → R x y → AllPairs R (x ∷ y ∷ [])
two_differ R x y h zero zero d p q = absurd (omega (arith, p))
two_differ R x y h zero (suc zero) d p q = h
two_differ R x y h zero (suc (suc j)) d p q = absurd (omega (arith, q))
two_differ R x y h (suc i) j d p q = absurd (omega (arith, p, q))

is_class_file : IsClassFile class_a
is_class_file = record {
  minor = small 0 refl;
  major = refl;
  pool = is_pool;
  flags = small 33 refl;
  this_class = small 1 refl;
  this_name = a_named;
  super_class = small 3 refl;
  super_name = refl;
  few_interfaces = small 0 refl;
  interfaces = tt;
  few_fields = small 2 refl;
  fields = (field_s, (field_x, tt));
  few_methods = small 2 refl;
  methods = (method_initialiser, (method_constructor, tt));
  attributes = no_attributes;
  distinct_fields = two_differ (λ a b. ¬ IsSameMember pool a b) _ _ (λ e. let n : 115 ≡ 120 = ap sum_of e.0 in omega (arith, n));
  distinct_methods = two_differ (λ a b. ¬ IsSameMember pool a b) _ _ (λ e. let n : 765 ≡ 558 = ap sum_of e.0 in omega (arith, n));
}

pub is_read : AreRead (class_a ∷ [])
is_read = record { few = omega (arith); files = (is_class_file, tt); doubled = refl; reserved = refl }

pub is_source : IsSource program
is_source = source_law (class_a ∷ []) program is_read links
