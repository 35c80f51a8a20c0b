-- The names of the helper's methods, by their places.
use Rattle.std.proofs.Common.{◌≡◌, ◌+◌, ◌*◌, List, [], ◌∷◌, ◌++◌, length, map, Option, Some, None, Bool, false, refl, sym, ap, ◌∙◌}
use Rattle.std.specs.Prelude.{position, option_map, option_and_then}
use Rattle.jmodel.specs.declared.name.MethodName.{MethodName}
use Rattle.jmodel.specs.format.ClassFile.{Member}
use Rattle.objects.specs.linking.Classes.{declared_in, full_name}
use Rattle.objects.specs.linking.Code.{Coded}
use Rattle.objects.specs.linking.Each.{each, in_front}
use Rattle.jmodel.specs.format.Descriptor.{Signature}
use Rattle.objects.specs.declared.op.WordType.{WordType}
use Rattle.objects.specs.declared.op.WordType.TheVariants as word
use Rattle.objects.specs.semantics.Program.{Method}
use Rattle.objects.specs.linking.Decoding.{Symbols, is_method}
use Rattle.objects.specs.linking.Linking.{Body, receiver_types, parameter_types, method_with, shaped, body_of, signature_in, method_of, decoded_member}
use Rattle.objects.specs.rewriting.Relinking.{decoded_or_none}
use Rattle.objects.specs.rewriting.Rewriting.{helper_methods, helper_place, element_getter_method, element_setter_method}
use Rattle.member_code.specs.Meaning.{meaning}

-- ---- what a member means has its name

module _ (s : Symbols) (counted : Bool) (m : Member) (k : Method) where
  -- with its body
  by_body : (g : Signature) (o : Option Body) → option_map (method_with s counted m g) o ≡ Some k → k.name ≡ full_name (record { class = s.class; member = m })
  by_body g None e = cc
  by_body g (Some b) e = let same : method_with s counted m g b ≡ k = cc in ap (λ (k : Method). k.name) (sym same)

  -- with its signature
  by_signature : (c : Option Coded) (o : Option Signature) → option_and_then (shaped s counted m c) o ≡ Some k → k.name ≡ full_name (record { class = s.class; member = m })
  by_signature c None e = cc
  by_signature c (Some g) e = by_body g (body_of s (length (receiver_types s.classes s.class m ++ parameter_types s.classes g)) c) e

  -- with its code
  by_code : (o : Option (Option Coded)) → option_and_then (method_of s counted m) o ≡ Some k → k.name ≡ full_name (record { class = s.class; member = m })
  by_code None e = cc
  by_code (Some c) e = by_signature c (signature_in (record { class = s.class; member = m })) e

  -- the name of what a member means
  pub meant_name : meaning s counted m ≡ Some k → k.name ≡ full_name (record { class = s.class; member = m })
  meant_name e = by_code (decoded_or_none (decoded_member (record { class = s.class; member = m }))) e

-- the names of what members mean are theirs
pub meant_names : (s : Symbols) (ms : List Member) (ks : List Method) → each (meaning s false) ms ≡ Some ks → map full_name (declared_in s.class ms) ≡ map (λ (k : Method). k.name) ks
meant_names s [] ks e = let same : [] ≡ ks = cc in ap (map (λ (k : Method). k.name)) same
meant_names s (m ∷ ms) ks e = go (meaning s false m) refl (each (meaning s false) ms) refl e (meant_names s ms)
  where
    go : (o : Option Method) → meaning s false m ≡ o → (os : Option (List Method)) → each (meaning s false) ms ≡ os → in_front o os ≡ Some ks
        → ((ls : List Method) → each (meaning s false) ms ≡ Some ls → map full_name (declared_in s.class ms) ≡ map (λ (k : Method). k.name) ls)
        → map full_name (declared_in s.class (m ∷ ms)) ≡ map (λ (k : Method). k.name) ks
    go None is os are e rest = cc
    go (Some k) is None are e rest = cc
    go (Some k) is (Some ls) are e rest =
        let same : k ∷ ls ≡ ks = cc in
        ap (λ (n : MethodName). n ∷ map full_name (declared_in s.class ms)) (sym (meant_name s false m k is)) ∙ ap (λ (l : List MethodName). k.name ∷ l) (rest ls are) ∙ ap (map (λ (k : Method). k.name)) same

-- ---- places

-- the place of the method that reads an element
pub load_place : (t : WordType) → position (is_method (element_getter_method t).name) (map (λ (k : Method). k.name) helper_methods) ≡ Some (2 * helper_place t)
load_place word.Byte = refl
load_place word.Boolean = refl
load_place word.Char = refl
load_place word.Short = refl
load_place word.Int = refl
load_place word.Long = refl
load_place word.Reference = refl

-- the place of the one that writes
pub store_place : (t : WordType) → position (is_method (element_setter_method t).name) (map (λ (k : Method). k.name) helper_methods) ≡ Some (2 * helper_place t + 1)
store_place word.Byte = refl
store_place word.Boolean = refl
store_place word.Char = refl
store_place word.Short = refl
store_place word.Int = refl
store_place word.Long = refl
store_place word.Reference = refl
