-- A method of an original class has the same head with the symbols of its rewritten class.
use Rattle.std.proofs.Common.{◌≡◌, ℕ, List, [], ◌∷◌, Option, Some, false, ◌||◌, sym, ap, ◌∙◌}
use Rattle.std.specs.Prelude.{codes, if◌then◌else◌}
use Rattle.std.specs.List.{AllByRecursion}
use Rattle.jmodel.specs.declared.name.MethodName.{MethodName}
use Rattle.jmodel.specs.declared.typing.VType.TheVariants as type
use Rattle.jmodel.specs.format.ClassFile.{Member, ClassFile}
use Rattle.jmodel.specs.format.ClassRules.{same_text, IsAttribute}
use Rattle.objects.specs.linking.Classes.{full_name}
use Rattle.jmodel.specs.format.Descriptor.{Signature}
use Rattle.jmodel.specs.format.DescriptorReading.{signature_of}
use Rattle.objects.specs.linking.Members.{is_static, own_name}
use Rattle.jmodel.specs.format.Pool.{text_or_none, utf8}
use Rattle.objects.specs.linking.Reserved.{is_reserved}
use Rattle.objects.specs.declared.op.Dispatch.{Dispatch}
use Rattle.objects.specs.declared.op.Dispatch.TheVariants as dispatch
use Rattle.objects.specs.linking.Resolution.{is_private, is_abstract_member}
use Rattle.objects.specs.linking.Layout.{class_read}
use Rattle.objects.specs.linking.Decoding.{Symbols}
use Rattle.objects.specs.linking.Linking.{dispatch_of, receiver_types, signature_in}
use Rattle.member_code.proofs.Grown.{Grown, utf8_grown}
use Rattle.rewritten_names.specs.LeadsLaw.{IsOther}
use Rattle.rewritten_code.specs.OldLaw.{member_in, IsSameHead}
use Rattle.rewritten_code.proofs.Marks.{HasMark, retries_stay}
use Rattle.rewritten_code.proofs.TypesAlike.{signature_alike}

-- a member of a class that keeps the rules: its texts are there, its descriptor isn't kept for rewriting, and its mark has no fault
pub record IsSound (c : ClassFile) (m : Member) : Type 0 where
  pub name : List ℕ
  pub descriptor : List ℕ
  pub named : utf8 c.pool m.name ≡ Some name
  pub typed : utf8 c.pool m.descriptor ≡ Some descriptor
  pub free : is_reserved descriptor ≡ false
  pub attributes : AllByRecursion (IsAttribute c.pool) m.attributes
  pub mark : HasMark c.pool m

module _ (s0 s : Symbols) (G : Grown s0.class.pool s.class.pool) (own : own_name s.class ≡ own_name s0.class) (other : IsOther (own_name s0.class))
    (reads : (name : List ℕ) → IsOther name → class_read s.classes name ≡ class_read s0.classes name) (m : Member) (H : IsSound s0.class m) where
  -- its name is the same text
  same_name : utf8 s.class.pool m.name ≡ utf8 s0.class.pool m.name
  same_name = utf8_grown s0.class.pool s.class.pool G m.name H.name H.named ∙ sym H.named

  -- so is its descriptor
  same_type : utf8 s.class.pool m.descriptor ≡ utf8 s0.class.pool m.descriptor
  same_type = utf8_grown s0.class.pool s.class.pool G m.descriptor H.descriptor H.typed ∙ sym H.typed

  -- a full name, by its parts
  abbrev name_from : List ℕ → Option (List ℕ) → Option (List ℕ) → MethodName
  name_from class name descriptor = record { class = class; name = text_or_none name; descriptor = text_or_none descriptor }

  -- its full name is the same
  name_is : full_name (member_in s m) ≡ full_name (member_in s0 m)
  name_is =
      ap (λ (t : List ℕ). name_from t (utf8 s.class.pool m.name) (utf8 s.class.pool m.descriptor)) own
      ∙ ap (λ (o : Option (List ℕ)). name_from (own_name s0.class) o (utf8 s.class.pool m.descriptor)) same_name
      ∙ ap (λ (o : Option (List ℕ)). name_from (own_name s0.class) (utf8 s0.class.pool m.name) o) same_type

  -- how calls find it, by its name
  abbrev dispatch_by : Option (List ℕ) → Dispatch
  dispatch_by name =
      if is_static m then dispatch.Static
      else if is_private m || same_text name (codes "<init>") then dispatch.Exact
      else if is_abstract_member m then dispatch.Abstract
      else dispatch.Virtual

  -- calls find it the same way
  dispatch_is : dispatch_of s.class m ≡ dispatch_of s0.class m
  dispatch_is = ap dispatch_by same_name

  -- it has the same signature
  signature_is : signature_in (member_in s m) ≡ signature_in (member_in s0 m)
  signature_is = ap (λ (o : Option (List ℕ)). signature_of (text_or_none o)) same_type

  -- the object comes with the same type
  receiver_is : receiver_types s.classes s.class m ≡ receiver_types s0.classes s0.class m
  receiver_is = ap (λ (n : List ℕ). if is_static m then [] else type.Ref n ∷ []) (ap (class_read s.classes) own ∙ reads (own_name s0.class) other)

  -- its descriptor says the signature
  described : (g : Signature) → signature_in (member_in s0 m) ≡ Some g → signature_of H.descriptor ≡ Some g
  described g e = ap (λ (o : Option (List ℕ)). signature_of (text_or_none o)) (sym H.typed) ∙ e

  -- so it has the same head
  pub same_head : IsSameHead s0 s m
  same_head = record {
    name = name_is;
    dispatch = dispatch_is;
    signature = signature_is;
    receiver = receiver_is;
    parameters = λ g e. (signature_alike s0.classes s.classes reads H.descriptor g (described g e) H.free).takes;
    result = λ g e. (signature_alike s0.classes s.classes reads H.descriptor g (described g e) H.free).gives;
    retries = retries_stay s0.class.pool s.class.pool G m H.name H.descriptor H.named H.typed H.attributes H.mark;
  }
