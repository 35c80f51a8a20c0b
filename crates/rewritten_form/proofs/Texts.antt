-- The texts that rewriting names are lawful: its own, and those of a lawful class.
use Rattle.std.proofs.Common.{◌≡◌, ℕ, zero, suc, ◌≤◌, Bool, true, false, ◌&&◌, List, [], ◌∷◌, ◌++◌, take, drop, Option, Some, None, refl, subst, arith}
use Rattle.std.specs.Prelude.{codes, pos, nat_lt, slice_get, option_and_then, FitsSigned}
use Rattle.std.specs.Int.{w32, w64, cast_signed}
use Rattle.std.specs.List.{AllByRecursion, list_all}
use Rattle.std.proofs.lemmas.Bool.Decides.{nat_tests}
use Rattle.std.proofs.lemmas.Int.{ints}
use Rattle.jmodel.specs.declared.class_file.Constant.{Constant}
use Rattle.jmodel.specs.declared.class_file.Constant.TheVariants as constants
use Rattle.jmodel.specs.format.ClassFile.{Pool}
use Rattle.jmodel.specs.format.Pool.{utf8, text_in, class_name, name_in}
use Rattle.jmodel.specs.format.Descriptor.{IsMethodDescriptor}
use Rattle.jmodel.specs.format.DescriptorReading.{element_rest, type_rest, is_field_descriptor, type_of, types_at, result_of, signature_of}
use Rattle.jmodel.specs.format.ClassRules.{IsTextByte, IsConstant, IsPool}
use Rattle.objects.specs.declared.op.WordType.{WordType}
use Rattle.objects.specs.declared.op.WordType.TheVariants as word
use Rattle.objects.specs.typing.TypeOrder.{object_class, context_class, conflict_class}
use Rattle.objects.specs.linking.Decoding.{read_descriptor, write_descriptor}
use Rattle.objects.specs.rewriting.Rewriting.{context_type, before_end, with_context, helper_class}
use Rattle.const_pool.proofs.Signatures.{is_field, is_method}
use Rattle.member_code.proofs.Added.{two_true}
use Rattle.array_helper.specs.Names.{load_named, store_named}
use Rattle.rewritten_form.proofs.Adding.{IsText, IsClassText, IsFieldText, IsMethodText}

-- ---- texts

-- whether a byte may stand in a text
abbrev pub is_text_byte : ℕ → Bool
is_text_byte b = nat_lt 0 b && nat_lt b 240

-- a byte that passes the test
byte_good : (b : ℕ) → is_text_byte b ≡ true → IsTextByte b
byte_good b h =
    let t = two_true (nat_lt 0 b) (nat_lt b 240) h in
    let low = t.0 in
    let high = t.1 in
    (grind (arith, nat_tests), grind (arith, nat_tests))

-- a text whose bytes all pass the test
pub text_good : (cs : List ℕ) → list_all is_text_byte cs ≡ true → IsText cs
text_good [] h = tt
text_good (c ∷ cs) h = let t = two_true (is_text_byte c) (list_all is_text_byte cs) h in (byte_good c t.0, text_good cs t.1)

-- a text made of texts
pub text_append : (xs ys : List ℕ) → IsText xs → IsText ys → IsText (xs ++ ys)
text_append [] ys h k = k
text_append (x ∷ xs) ys h k = (h.0, text_append xs ys h.1 k)

-- a text's front
text_take : (n : ℕ) (xs : List ℕ) → IsText xs → IsText (take n xs)
text_take zero [] h = tt
text_take zero (x ∷ xs) h = tt
text_take (suc n) [] h = tt
text_take (suc n) (x ∷ xs) h = (h.0, text_take n xs h.1)

-- a text's end
text_drop : (n : ℕ) (xs : List ℕ) → IsText xs → IsText (drop n xs)
text_drop zero [] h = h
text_drop zero (x ∷ xs) h = h
text_drop (suc n) [] h = h
text_drop (suc n) (x ∷ xs) h = text_drop n xs h.1

-- ---- texts of a lawful pool

module _ (pool : Pool) (p : IsPool pool) where
  -- an entry of the pool is lawful
  lawful_at : (cs : Pool) (i : ℕ) (c : Constant) → AllByRecursion (IsConstant pool) cs → slice_get cs i ≡ Some c → IsConstant pool c
  lawful_at [] i c h e = absurd cc
  lawful_at (k ∷ cs) zero c h e = let s : k ≡ c = cc in subst (IsConstant pool) s h.0
  lawful_at (k ∷ cs) (suc i) c h e = lawful_at cs i c h.1 e

  text_of : (t : List ℕ) (c : Constant) → IsConstant pool c → text_in c ≡ Some t → IsText t
  text_of t (constants.Utf8 b) k h = let s : b ≡ t = cc in subst IsText s k.1
  text_of t c k h = absurd cc

  -- a text that the pool has
  pub pool_text : (i : ℕ) (t : List ℕ) → utf8 pool i ≡ Some t → IsText t
  pool_text zero t e = absurd cc
  pool_text (suc i) t e = go (slice_get pool i) refl e
    where
      go : (o : Option Constant) → slice_get pool i ≡ o → option_and_then text_in o ≡ Some t → IsText t
      go None q h = absurd cc
      go (Some c) q h = text_of t c (lawful_at pool i c p.entries q) h

  class_of : (t : List ℕ) (c : Constant) → IsConstant pool c → name_in pool c ≡ Some t → IsClassText t
  class_of t (constants.Class n) k h = record { text = pool_text n t h; named = rw h at k.1 }
  class_of t c k h = absurd cc

  -- a class's name that the pool has
  pub pool_class : (i : ℕ) (t : List ℕ) → class_name pool i ≡ Some t → IsClassText t
  pool_class zero t e = absurd cc
  pool_class (suc i) t e = go (slice_get pool i) refl e
    where
      go : (o : Option Constant) → slice_get pool i ≡ o → option_and_then (name_in pool) o ≡ Some t → IsClassText t
      go None q h = absurd cc
      go (Some c) q h = class_of t c (lawful_at pool i c p.entries q) h

-- ---- descriptors with a context

-- a text with the context put in
pub context_text : (d : List ℕ) → IsText d → IsText (with_context d)
context_text d h =
    let front = text_append (take (before_end false d) d) context_type (text_take (before_end false d) d h) (text_good context_type refl) in
    text_append (take (before_end false d) d ++ context_type) (drop (before_end false d) d) front (text_drop (before_end false d) d h)

-- ---- classes and descriptors that rewriting names

pub context_lawful : IsClassText context_class
context_lawful = record { text = text_good context_class refl; named = tt }

pub object_lawful : IsClassText object_class
object_lawful = record { text = text_good object_class refl; named = tt }

pub helper_lawful : IsClassText helper_class
helper_lawful = record { text = text_good helper_class refl; named = tt }

pub delegator_lawful : IsClassText (codes "org/deuce/transaction/ContextDelegator")
delegator_lawful = record { text = text_good (codes "org/deuce/transaction/ContextDelegator") refl; named = tt }

pub conflict_lawful : IsClassText conflict_class
conflict_lawful = record { text = text_good conflict_class refl; named = tt }

-- a field of a class, whose descriptor passes the tests
field_text : (class name descriptor : List ℕ) → IsClassText class → IsText name → list_all is_text_byte descriptor ≡ true → is_field_descriptor descriptor ≡ true → IsFieldText class name descriptor
field_text class name descriptor c n t d = record { owner = c; named = n; text = text_good descriptor t; typed = is_field descriptor d }

pub long_field : (class name : List ℕ) → IsClassText class → IsText name → IsFieldText class name (codes "J")
unfolding element_rest type_rest is_field_descriptor
long_field class name c n = field_text class name (codes "J") c n refl refl

pub object_field : (class name : List ℕ) → IsClassText class → IsText name → IsFieldText class name (codes "Ljava/lang/Object;")
unfolding element_rest type_rest is_field_descriptor
object_field class name c n = field_text class name (codes "Ljava/lang/Object;") c n refl refl

-- a method of a class, whose name and descriptor pass the tests
method_text : (class name descriptor : List ℕ) → IsClassText class → IsText name → list_all is_text_byte descriptor ≡ true → IsMethodDescriptor descriptor → IsMethodText class name descriptor
method_text class name descriptor c n t d = record { owner = c; named = n; text = text_good descriptor t; typed = d }

-- a call of the context
context_call : (name descriptor : List ℕ) → list_all is_text_byte name ≡ true → list_all is_text_byte descriptor ≡ true → IsMethodDescriptor descriptor → IsMethodText context_class name descriptor
context_call name descriptor n t d = method_text context_class name descriptor context_lawful (text_good name n) t d

pub before_method : IsMethodText context_class (codes "beforeReadAccess") (codes "(Ljava/lang/Object;J)V")
unfolding element_rest type_rest is_field_descriptor type_of types_at result_of signature_of
before_method = context_call (codes "beforeReadAccess") (codes "(Ljava/lang/Object;J)V") refl refl (is_method (codes "(Ljava/lang/Object;J)V") refl)

pub before_element_method : IsMethodText context_class (codes "beforeReadAccess") (codes "(Ljava/lang/Object;I)V")
unfolding element_rest type_rest is_field_descriptor type_of types_at result_of signature_of
before_element_method = context_call (codes "beforeReadAccess") (codes "(Ljava/lang/Object;I)V") refl refl (is_method (codes "(Ljava/lang/Object;I)V") refl)

pub init_method : IsMethodText context_class (codes "init") (codes "(II)V")
unfolding element_rest type_rest is_field_descriptor type_of types_at result_of signature_of
init_method = context_call (codes "init") (codes "(II)V") refl refl (is_method (codes "(II)V") refl)

pub commit_method : IsMethodText context_class (codes "commit") (codes "()Z")
unfolding element_rest type_rest is_field_descriptor type_of types_at result_of signature_of
commit_method = context_call (codes "commit") (codes "()Z") refl refl (is_method (codes "()Z") refl)

pub rollback_method : IsMethodText context_class (codes "rollback") (codes "()V")
unfolding element_rest type_rest is_field_descriptor type_of types_at result_of signature_of
rollback_method = context_call (codes "rollback") (codes "()V") refl refl (is_method (codes "()V") refl)

pub instance_method : IsMethodText (codes "org/deuce/transaction/ContextDelegator") (codes "getInstance") (codes "()Lorg/deuce/transaction/Context;")
unfolding element_rest type_rest is_field_descriptor type_of types_at result_of signature_of
instance_method =
    method_text (codes "org/deuce/transaction/ContextDelegator") (codes "getInstance") (codes "()Lorg/deuce/transaction/Context;") delegator_lawful (text_good (codes "getInstance") refl) refl
    (is_method (codes "()Lorg/deuce/transaction/Context;") refl)

pub read_method : (t : WordType) → IsMethodText context_class (codes "onReadAccess") (read_descriptor (codes "J") t)
unfolding element_rest type_rest is_field_descriptor type_of types_at result_of signature_of
read_method word.Boolean = context_call (codes "onReadAccess") (read_descriptor (codes "J") word.Boolean) refl refl (is_method (read_descriptor (codes "J") word.Boolean) refl)
read_method word.Byte = context_call (codes "onReadAccess") (read_descriptor (codes "J") word.Byte) refl refl (is_method (read_descriptor (codes "J") word.Byte) refl)
read_method word.Char = context_call (codes "onReadAccess") (read_descriptor (codes "J") word.Char) refl refl (is_method (read_descriptor (codes "J") word.Char) refl)
read_method word.Short = context_call (codes "onReadAccess") (read_descriptor (codes "J") word.Short) refl refl (is_method (read_descriptor (codes "J") word.Short) refl)
read_method word.Int = context_call (codes "onReadAccess") (read_descriptor (codes "J") word.Int) refl refl (is_method (read_descriptor (codes "J") word.Int) refl)
read_method word.Long = context_call (codes "onReadAccess") (read_descriptor (codes "J") word.Long) refl refl (is_method (read_descriptor (codes "J") word.Long) refl)
read_method word.Reference = context_call (codes "onReadAccess") (read_descriptor (codes "J") word.Reference) refl refl (is_method (read_descriptor (codes "J") word.Reference) refl)

pub write_method : (t : WordType) → IsMethodText context_class (codes "onWriteAccess") (write_descriptor (codes "J") t)
unfolding element_rest type_rest is_field_descriptor type_of types_at result_of signature_of
write_method word.Boolean = context_call (codes "onWriteAccess") (write_descriptor (codes "J") word.Boolean) refl refl (is_method (write_descriptor (codes "J") word.Boolean) refl)
write_method word.Byte = context_call (codes "onWriteAccess") (write_descriptor (codes "J") word.Byte) refl refl (is_method (write_descriptor (codes "J") word.Byte) refl)
write_method word.Char = context_call (codes "onWriteAccess") (write_descriptor (codes "J") word.Char) refl refl (is_method (write_descriptor (codes "J") word.Char) refl)
write_method word.Short = context_call (codes "onWriteAccess") (write_descriptor (codes "J") word.Short) refl refl (is_method (write_descriptor (codes "J") word.Short) refl)
write_method word.Int = context_call (codes "onWriteAccess") (write_descriptor (codes "J") word.Int) refl refl (is_method (write_descriptor (codes "J") word.Int) refl)
write_method word.Long = context_call (codes "onWriteAccess") (write_descriptor (codes "J") word.Long) refl refl (is_method (write_descriptor (codes "J") word.Long) refl)
write_method word.Reference = context_call (codes "onWriteAccess") (write_descriptor (codes "J") word.Reference) refl refl (is_method (write_descriptor (codes "J") word.Reference) refl)

pub read_element_method : (t : WordType) → IsMethodText context_class (codes "onReadAccess") (read_descriptor (codes "I") t)
unfolding element_rest type_rest is_field_descriptor type_of types_at result_of signature_of
read_element_method word.Boolean = context_call (codes "onReadAccess") (read_descriptor (codes "I") word.Boolean) refl refl (is_method (read_descriptor (codes "I") word.Boolean) refl)
read_element_method word.Byte = context_call (codes "onReadAccess") (read_descriptor (codes "I") word.Byte) refl refl (is_method (read_descriptor (codes "I") word.Byte) refl)
read_element_method word.Char = context_call (codes "onReadAccess") (read_descriptor (codes "I") word.Char) refl refl (is_method (read_descriptor (codes "I") word.Char) refl)
read_element_method word.Short = context_call (codes "onReadAccess") (read_descriptor (codes "I") word.Short) refl refl (is_method (read_descriptor (codes "I") word.Short) refl)
read_element_method word.Int = context_call (codes "onReadAccess") (read_descriptor (codes "I") word.Int) refl refl (is_method (read_descriptor (codes "I") word.Int) refl)
read_element_method word.Long = context_call (codes "onReadAccess") (read_descriptor (codes "I") word.Long) refl refl (is_method (read_descriptor (codes "I") word.Long) refl)
read_element_method word.Reference = context_call (codes "onReadAccess") (read_descriptor (codes "I") word.Reference) refl refl (is_method (read_descriptor (codes "I") word.Reference) refl)

pub write_element_method : (t : WordType) → IsMethodText context_class (codes "onWriteAccess") (write_descriptor (codes "I") t)
unfolding element_rest type_rest is_field_descriptor type_of types_at result_of signature_of
write_element_method word.Boolean = context_call (codes "onWriteAccess") (write_descriptor (codes "I") word.Boolean) refl refl (is_method (write_descriptor (codes "I") word.Boolean) refl)
write_element_method word.Byte = context_call (codes "onWriteAccess") (write_descriptor (codes "I") word.Byte) refl refl (is_method (write_descriptor (codes "I") word.Byte) refl)
write_element_method word.Char = context_call (codes "onWriteAccess") (write_descriptor (codes "I") word.Char) refl refl (is_method (write_descriptor (codes "I") word.Char) refl)
write_element_method word.Short = context_call (codes "onWriteAccess") (write_descriptor (codes "I") word.Short) refl refl (is_method (write_descriptor (codes "I") word.Short) refl)
write_element_method word.Int = context_call (codes "onWriteAccess") (write_descriptor (codes "I") word.Int) refl refl (is_method (write_descriptor (codes "I") word.Int) refl)
write_element_method word.Long = context_call (codes "onWriteAccess") (write_descriptor (codes "I") word.Long) refl refl (is_method (write_descriptor (codes "I") word.Long) refl)
write_element_method word.Reference = context_call (codes "onWriteAccess") (write_descriptor (codes "I") word.Reference) refl refl (is_method (write_descriptor (codes "I") word.Reference) refl)

pub load_method : (t : WordType) → IsMethodText helper_class (load_named t).name (load_named t).descriptor
unfolding element_rest type_rest is_field_descriptor type_of types_at result_of signature_of
load_method word.Boolean = method_text helper_class (load_named word.Boolean).name (load_named word.Boolean).descriptor helper_lawful (text_good (load_named word.Boolean).name refl) refl (is_method (load_named word.Boolean).descriptor refl)
load_method word.Byte = method_text helper_class (load_named word.Byte).name (load_named word.Byte).descriptor helper_lawful (text_good (load_named word.Byte).name refl) refl (is_method (load_named word.Byte).descriptor refl)
load_method word.Char = method_text helper_class (load_named word.Char).name (load_named word.Char).descriptor helper_lawful (text_good (load_named word.Char).name refl) refl (is_method (load_named word.Char).descriptor refl)
load_method word.Short = method_text helper_class (load_named word.Short).name (load_named word.Short).descriptor helper_lawful (text_good (load_named word.Short).name refl) refl (is_method (load_named word.Short).descriptor refl)
load_method word.Int = method_text helper_class (load_named word.Int).name (load_named word.Int).descriptor helper_lawful (text_good (load_named word.Int).name refl) refl (is_method (load_named word.Int).descriptor refl)
load_method word.Long = method_text helper_class (load_named word.Long).name (load_named word.Long).descriptor helper_lawful (text_good (load_named word.Long).name refl) refl (is_method (load_named word.Long).descriptor refl)
load_method word.Reference = method_text helper_class (load_named word.Reference).name (load_named word.Reference).descriptor helper_lawful (text_good (load_named word.Reference).name refl) refl (is_method (load_named word.Reference).descriptor refl)

pub store_method : (t : WordType) → IsMethodText helper_class (store_named t).name (store_named t).descriptor
unfolding element_rest type_rest is_field_descriptor type_of types_at result_of signature_of
store_method word.Boolean = method_text helper_class (store_named word.Boolean).name (store_named word.Boolean).descriptor helper_lawful (text_good (store_named word.Boolean).name refl) refl (is_method (store_named word.Boolean).descriptor refl)
store_method word.Byte = method_text helper_class (store_named word.Byte).name (store_named word.Byte).descriptor helper_lawful (text_good (store_named word.Byte).name refl) refl (is_method (store_named word.Byte).descriptor refl)
store_method word.Char = method_text helper_class (store_named word.Char).name (store_named word.Char).descriptor helper_lawful (text_good (store_named word.Char).name refl) refl (is_method (store_named word.Char).descriptor refl)
store_method word.Short = method_text helper_class (store_named word.Short).name (store_named word.Short).descriptor helper_lawful (text_good (store_named word.Short).name refl) refl (is_method (store_named word.Short).descriptor refl)
store_method word.Int = method_text helper_class (store_named word.Int).name (store_named word.Int).descriptor helper_lawful (text_good (store_named word.Int).name refl) refl (is_method (store_named word.Int).descriptor refl)
store_method word.Long = method_text helper_class (store_named word.Long).name (store_named word.Long).descriptor helper_lawful (text_good (store_named word.Long).name refl) refl (is_method (store_named word.Long).descriptor refl)
store_method word.Reference = method_text helper_class (store_named word.Reference).name (store_named word.Reference).descriptor helper_lawful (text_good (store_named word.Reference).name refl) refl (is_method (store_named word.Reference).descriptor refl)

-- ---- numbers

-- a place in memory, as a long
pub place_fits : (n : ℕ) → FitsSigned w64 (cast_signed w64 n)
place_fits n = omega (arith, ints)

-- a wrapper's number, or a number of attempts, as an int
pub number_fits : (n : ℕ) → n ≤ 2147483647 → FitsSigned w32 (pos n)
number_fits n h = omega (arith, ints, h)
