-- The pool keeps the rules when the members of fields are added.
use Rattle.std.proofs.Common.{◌≡◌, ℕ, ℤ, suc, ◌+◌, ◌-◌, Bool, true, false, List, [], ◌∷◌, ◌++◌, Option, Some, None, Ok, refl}
use Rattle.std.specs.Prelude.{codes, FitsSigned}
use Rattle.std.specs.Int.{w64, cast_signed}
use Rattle.std.specs.List.{AllByRecursion}
use Rattle.jmodel.specs.declared.class_file.FieldType.{FieldType}
use Rattle.jmodel.specs.declared.name.MethodName.{MethodName}
use Rattle.jmodel.specs.declared.instruction.Instr.{Instr}
use Rattle.jmodel.specs.format.ClassFile.{Pool}
use Rattle.jmodel.specs.format.Descriptor.{IsClassName, DescribesField}
use Rattle.jmodel.specs.format.PoolAdding.{add_class, add_field}
use Rattle.jmodel.specs.format.Reading.{◌>>=◌}
use Rattle.objects.specs.semantics.Program.{Field}
use Rattle.objects.specs.typing.TypeOrder.{context_class}
use Rattle.objects.specs.semantics.Step.{sort_of}
use Rattle.objects.specs.linking.Decoding.{read_descriptor, write_descriptor}
use Rattle.objects.specs.rewriting.Rewriting.{word_places}
use Rattle.const_pool.proofs.Takes.{bind_ok}
use Rattle.member_code.specs.Instrs.{give, check_cast}
use Rattle.member_code.specs.Coding.{high, low, typed_name, coded_method, straight_bytes, straight_method, room_for, added_method}
use Rattle.field_members.specs.Names.{address_name, base_name, base_type, getter_named, setter_named}
use Rattle.field_members.specs.Fields.{added_field, constant_value, address_of, static_base, bases, added_fields}
use Rattle.field_members.specs.declared.accessors.Place.{Place}
use Rattle.field_members.specs.Accessors.{read_call, write_call, receiver_places, base_if, place_of, look_code, read_code, is_cast, cast_if, look_of, read_of, getter_instrs, getter_of, setter_code, setter_instrs, setter_of, accessors_of, all_accessors}
use Rattle.rewritten_form.proofs.Adding.{IsText, IsClassText, IsFieldText, IsMethodText, Keeping, pool_is, text_pool, long_pool, class_pool, field_pool, method_pool, AllGood, all_pool}
use Rattle.rewritten_form.proofs.Texts.{text_good, text_append, long_field, object_field, before_method, read_method, write_method, place_fits}

-- ---- members

pub typed_pool : (name type : List ℕ) → IsText name → IsText type → Keeping (typed_name name type)
unfolding typed_name
typed_pool name type n t pool r e p =
    let a = bind_ok _ _ r e in
    let b = bind_ok _ _ r a.2 in
    pool_is (a.0.0, b.0.0) b.0.1 r b.2 (text_pool type t a.0.1 b.0 b.1 (text_pool name n pool a.0 a.1 p))

pub coded_pool : (flags : ℕ) (name : MethodName) (bytes : List ℕ) → IsText name.name → IsText name.descriptor → Keeping (coded_method flags name bytes)
unfolding coded_method
coded_pool flags name bytes n t pool r e p =
    let a = bind_ok _ _ r e in
    let b = bind_ok _ _ r a.2 in
    pool_is (added_method flags a.0.0.0 a.0.0.1 b.0.0 bytes) b.0.1 r b.2 (text_pool (codes "Code") (text_good (codes "Code") refl) a.0.1 b.0 b.1 (typed_pool name.name name.descriptor n t pool a.0 a.1 p))

pub straight_pool : (most locals : ℕ) (is : List Instr) (name : MethodName) → IsText name.name → IsText name.descriptor → Keeping (straight_method most locals is name)
unfolding straight_method
straight_pool most locals is name n t pool r e p =
    let a = bind_ok (straight_bytes most locals is) (λ bytes. coded_method 0x1009 name bytes pool) r e in
    coded_pool 0x1009 name a.0 n t pool r a.2 p

-- ---- fields

-- What is known of a field of the program: its texts, and its class in a cast.
pub record IsLawfulField (f : Field) : Type 0 where
  pub owner : IsClassText f.class
  pub class_named : IsClassName f.class
  pub name : IsText f.name
  pub text : IsText f.descriptor
  pub type : FieldType
  pub describes : DescribesField f.descriptor type
  pub cast : is_cast f.declared.word f.declared.class ≡ true → IsClassText f.declared.class
  pub getter : IsMethodText f.class (getter_named f).name (getter_named f).descriptor
  pub setter : IsMethodText f.class (setter_named f).name (setter_named f).descriptor

constant_pool : (n : ℤ) → FitsSigned w64 n → Keeping (constant_value n)
unfolding constant_value
constant_pool n fits pool r e p =
    let a = bind_ok _ _ r e in
    let b = bind_ok _ _ r a.2 in
    pool_is (record { name = a.0.0; bytes = high b.0.0 ∷ low b.0.0 ∷ [] }) b.0.1 r b.2 (long_pool n fits a.0.1 b.0 b.1 (text_pool (codes "ConstantValue") (text_good (codes "ConstantValue") refl) pool a.0 a.1 p))

pub address_text : (f : Field) → IsLawfulField f → IsText (address_name f)
address_text f F = text_append f.name (codes "__ADDRESS__") F.name (text_good (codes "__ADDRESS__") refl)

address_pool : (f : Field) → IsLawfulField f → Keeping (address_of f)
unfolding address_of
address_pool f F pool r e p =
    let a = bind_ok _ _ r e in
    let b = bind_ok _ _ r a.2 in
    pool_is (added_field a.0.0 (b.0.0 ∷ [])) b.0.1 r b.2
    (constant_pool (cast_signed w64 (suc f.index)) (place_fits (suc f.index)) a.0.1 b.0 b.1 (typed_pool (address_name f) (codes "J") (address_text f F) (text_good (codes "J") refl) pool a.0 a.1 p))

base_pool : Keeping static_base
unfolding static_base
base_pool pool r e p =
    let a = bind_ok _ _ r e in
    pool_is (added_field a.0.0 []) a.0.1 r a.2 (typed_pool base_name base_type (text_good base_name refl) (text_good base_type refl) pool a.0 a.1 p)

bases_pool : (b : Bool) → Keeping (bases b)
bases_pool false pool r e p = pool_is [] pool r e p
bases_pool true pool r e p = let a = bind_ok (static_base pool) (λ base. Ok (base.0 ∷ [], base.1)) r e in pool_is (a.0.0 ∷ []) a.0.1 r a.2 (base_pool pool a.0 a.1 p)

-- each of a list, from whatever number on
all_fields : {B : Type 0} (f : ℕ → Field → Pool → _) (one : (n : ℕ) (x : Field) → IsLawfulField x → Keeping {X = B} (f n x)) (n : ℕ) (fs : List Field) → AllByRecursion IsLawfulField fs → AllGood (λ n x. IsLawfulField x) f one n fs
all_fields f one n [] h = tt
all_fields f one n (x ∷ fs) h = (h.0, all_fields f one (n + 1) fs h.1)

pub fields_pool : (fs : List Field) (b : Bool) → AllByRecursion IsLawfulField fs → Keeping (added_fields fs b)
unfolding added_fields
fields_pool fs based F pool r e p =
    let a = bind_ok _ _ r e in
    let b = bind_ok _ _ r a.2 in
    pool_is (a.0.0 ++ b.0.0) b.0.1 r b.2
    (bases_pool based a.0.1 b.0 b.1
    (all_pool (λ n x. IsLawfulField x) (λ n f. address_of f) (λ n f. address_pool f) 0 fs (all_fields (λ n f. address_of f) (λ n f. address_pool f) 0 fs F) pool a.0 a.1 p))

-- ---- accessors

module _ (f : Field) (F : IsLawfulField f) where
  base_if_pool : (o : Option ℕ) → Keeping (base_if o f.class)
  base_if_pool None pool r e p = pool_is None pool r e p
  base_if_pool (Some o) pool r e p =
      let a = bind_ok (add_field pool f.class base_name base_type) (λ i. Ok (Some i.0, i.1)) r e in
      pool_is (Some a.0.0) a.0.1 r a.2 (field_pool f.class base_name base_type (object_field f.class base_name F.owner (text_good base_name refl)) pool a.0 a.1 p)

  place_pool : Keeping (place_of f)
  unfolding place_of
  place_pool pool r e p =
      let a = bind_ok _ _ r e in
      let b = bind_ok _ _ r a.2 in
      pool_is (record { base = a.0.0; address = b.0.0 }) b.0.1 r b.2
      (field_pool f.class (address_name f) (codes "J") (long_field f.class (address_name f) F.owner (address_text f F)) a.0.1 b.0 b.1 (base_if_pool f.base pool a.0 a.1 p))

  look_pool : (x : Place) → Keeping (look_of x)
  unfolding look_of
  look_pool x pool r e p =
      let a = bind_ok _ _ r e in
      pool_is (look_code x a.0.0) a.0.1 r a.2 (method_pool context_class (codes "beforeReadAccess") (codes "(Ljava/lang/Object;J)V") before_method pool a.0 a.1 p)

  own_field : IsFieldText f.class f.name f.descriptor
  own_field = record { owner = F.owner; named = F.name; text = F.text; typed = (F.type, F.describes) }

  read_pool : (x : Place) → Keeping (read_of x f)
  unfolding read_of read_call
  read_pool x pool r e p =
      let a = bind_ok _ _ r e in
      let b = bind_ok _ _ r a.2 in
      pool_is (read_code x a.0.0 b.0.0) b.0.1 r b.2
      (method_pool context_class (codes "onReadAccess") (read_descriptor (codes "J") f.declared.word) (read_method f.declared.word) a.0.1 b.0 b.1 (field_pool f.class f.name f.descriptor own_field pool a.0 a.1 p))

  cast_pool : (b : Bool) (class : List ℕ) → (b ≡ true → IsClassText class) → Keeping (cast_if b class)
  cast_pool false class fits pool r e p = pool_is [] pool r e p
  cast_pool true class fits pool r e p =
      let a = bind_ok (add_class pool class) (λ i. Ok (check_cast i.0 ∷ [], i.1)) r e in
      pool_is (check_cast a.0.0 ∷ []) a.0.1 r a.2 (class_pool class (fits refl) pool a.0 a.1 p)

  getter_code_pool : Keeping (getter_instrs f)
  unfolding getter_instrs
  getter_code_pool pool r e p =
      let a = bind_ok _ _ r e in
      let b = bind_ok _ _ r a.2 in
      let c = bind_ok _ _ r b.2 in
      let d = bind_ok _ _ r c.2 in
      pool_is (b.0.0 ++ c.0.0 ++ d.0.0 ++ give (sort_of f.declared.word) ∷ []) d.0.1 r d.2
      (cast_pool (is_cast f.declared.word f.declared.class) f.declared.class F.cast c.0.1 d.0 d.1 (read_pool a.0.0 b.0.1 c.0 c.1 (look_pool a.0.0 a.0.1 b.0 b.1 (place_pool pool a.0 a.1 p))))

  getter_pool : (room : ℕ) → Keeping (getter_of room f)
  unfolding getter_of
  getter_pool room pool r e p =
      let x = bind_ok (room_for room (getter_named f)) (λ fits. getter_instrs f pool >>= λ code. straight_method (4 + word_places f.declared.word) (receiver_places f + 1) code.0 (getter_named f) code.1) r e in
      let a = bind_ok (getter_instrs f pool) (λ code. straight_method (4 + word_places f.declared.word) (receiver_places f + 1) code.0 (getter_named f) code.1) r x.2 in
      straight_pool (4 + word_places f.declared.word) (receiver_places f + 1) a.0.0 (getter_named f) F.getter.named F.getter.text a.0.1 r a.2 (getter_code_pool pool a.0 a.1 p)

  setter_code_pool : Keeping (setter_instrs f)
  unfolding setter_instrs write_call
  setter_code_pool pool r e p =
      let a = bind_ok _ _ r e in
      let b = bind_ok _ _ r a.2 in
      pool_is (setter_code a.0.0 f.declared.word (receiver_places f) b.0.0) b.0.1 r b.2
      (method_pool context_class (codes "onWriteAccess") (write_descriptor (codes "J") f.declared.word) (write_method f.declared.word) a.0.1 b.0 b.1 (place_pool pool a.0 a.1 p))

  setter_pool : (room : ℕ) → Keeping (setter_of room f)
  unfolding setter_of
  setter_pool room pool r e p =
      let x = bind_ok (room_for room (setter_named f)) (λ fits. setter_instrs f pool >>= λ code. straight_method (4 + word_places f.declared.word) (receiver_places f + word_places f.declared.word + 1) code.0 (setter_named f) code.1) r e in
      let a = bind_ok (setter_instrs f pool) (λ code. straight_method (4 + word_places f.declared.word) (receiver_places f + word_places f.declared.word + 1) code.0 (setter_named f) code.1) r x.2 in
      straight_pool (4 + word_places f.declared.word) (receiver_places f + word_places f.declared.word + 1) a.0.0 (setter_named f) F.setter.named F.setter.text a.0.1 r a.2 (setter_code_pool pool a.0 a.1 p)

  accessors_pool : (room : ℕ) → Keeping (accessors_of room f)
  unfolding accessors_of
  accessors_pool room pool r e p =
      let a = bind_ok _ _ r e in
      let b = bind_ok _ _ r a.2 in
      pool_is (record { getter = a.0.0; setter = b.0.0 }) b.0.1 r b.2 (setter_pool (room - 1) a.0.1 b.0 b.1 (getter_pool room pool a.0 a.1 p))

pub all_accessors_pool : (room : ℕ) (fs : List Field) → AllByRecursion IsLawfulField fs → Keeping (all_accessors room fs)
all_accessors_pool room fs F pool r e p =
    all_pool (λ n x. IsLawfulField x) (λ n f. accessors_of (room - n - n) f) (λ n f h. accessors_pool f h (room - n - n)) 0 fs (all_fields (λ n f. accessors_of (room - n - n) f) (λ n f h. accessors_pool f h (room - n - n)) 0 fs F) pool r e p
