-- A class with accessors: its pool is grown, and the heads of the added methods are those of the accessors of its fields.
use Rattle.std.proofs.Common.{◌≡◌, ℕ, Bool, ◌+◌, ◌-◌, ◌<◌, true, false, List, [], ◌∷◌, ◌++◌, length, Option, Some, None, Ok, refl, sym, ap, ◌∙◌, subst}
use Rattle.std.specs.Prelude.{codes}
use Rattle.std.specs.List.{flat_map}
use Rattle.std.proofs.lemmas.List.Concat.{flat_map-cons}
use Rattle.jmodel.specs.declared.name.MethodName.{MethodName}
use Rattle.jmodel.specs.declared.instruction.Instr.{Instr}
use Rattle.jmodel.specs.format.ClassFile.{Member, Pool, ClassFile}
use Rattle.jmodel.specs.format.Pool.{utf8}
use Rattle.jmodel.specs.format.PoolAdding.{add_class, add_field, add_method}
use Rattle.jmodel.specs.format.Reading.{◌>>=◌}
use Rattle.objects.specs.declared.op.WordType.{WordType}
use Rattle.objects.specs.semantics.Step.{sort_of}
use Rattle.objects.specs.typing.TypeOrder.{context_class}
use Rattle.objects.specs.linking.Decoding.{read_descriptor, write_descriptor}
use Rattle.objects.specs.semantics.Program.{Field}
use Rattle.objects.specs.rewriting.Rewriting.{word_places, getter_method, setter_method}
use Rattle.const_pool.proofs.Takes.{bind_ok, ok_is}
use Rattle.member_code.specs.Instrs.{give, check_cast}
use Rattle.member_code.specs.Coding.{room_for, straight_method}
use Rattle.member_code.proofs.Grown.{Grown, grown_trans}
use Rattle.member_code.proofs.Puts.{Puts, Adding, AllPut, adds_all, IsCodedAt, adds_straight}
use Rattle.field_members.specs.Names.{address_name, base_name, base_type, getter_named, setter_named}
use Rattle.field_members.specs.declared.accessors.Accessors.{Accessors}
use Rattle.field_members.specs.declared.accessors.Place.{Place}
use Rattle.field_members.specs.Accessors.{base_if, place_of, look_code, look_of, read_call, write_call, read_code, read_of, cast_if, is_cast, receiver_places, getter_instrs, getter_of, setter_code, setter_instrs, setter_of, accessors_of, all_accessors, room_in, both_of, and_methods, with_accessors}
use Rattle.rewritten_names.specs.Heads.{Head, head_of, heads, added_head, accessor_heads}
use Rattle.rewritten_program.proofs.Grows.{Growing, gives, then, behind, method_grows, field_grows, class_grows}

-- ---- names

-- a getter has the name of the rewriting
getter_is : (f : Field) → getter_named f ≡ (getter_method 0 f).name
getter_is f = go f.base refl
  where
    go : (o : Option ℕ) → f.base ≡ o → getter_named f ≡ (getter_method 0 f).name
    go None e = rw e refl
    go (Some b) e = rw e refl

-- so has a setter
setter_is : (f : Field) → setter_named f ≡ (setter_method f).name
setter_is f = go f.base refl
  where
    go : (o : Option ℕ) → f.base ≡ o → setter_named f ≡ (setter_method f).name
    go None e = rw e refl
    go (Some b) e = rw e refl

-- ---- heads

-- the head of an added method
abbrev head_with : Option (List ℕ) → Option (List ℕ) → Head
head_with n d = record { private = false; static = true; name = n; descriptor = d }

-- the head of an added method is that of its name
coded_head : (name : MethodName) (bytes : List ℕ) (Z : Pool) (m : Member) → IsCodedAt 0x1009 name bytes Z m → head_of Z m ≡ added_head name
coded_head name bytes Z m h =
    ap (head_of Z) h.is ∙ ap (λ (o : Option (List ℕ)). head_with o (utf8 Z h.descriptor_at)) h.named ∙ ap (λ (o : Option (List ℕ)). head_with (Some name.name) o) h.typed

-- ---- the code of accessors

-- the static base
base_grows : (o : Option ℕ) (class : List ℕ) → Growing (base_if o class)
base_grows None class = gives None
base_grows (Some o) class = then (λ pool. add_field pool class base_name base_type) (λ i pool. Ok (Some i, pool)) (field_grows class base_name base_type) (λ i. gives (Some i))

-- a field's place
place_grows : (f : Field) → Growing (place_of f)
unfolding place_of
place_grows f =
    then (base_if f.base f.class) (λ base pool. add_field pool f.class (address_name f) (codes "J") >>= λ address. Ok (record { base = base; address = address.0 }, address.1)) (base_grows f.base f.class)
    (λ base. then (λ pool. add_field pool f.class (address_name f) (codes "J")) (λ address pool. Ok (record { base = base; address = address }, pool)) (field_grows f.class (address_name f) (codes "J")) (λ address. gives (record { base = base; address = address })))

-- the look before a read
look_grows : (p : Place) → Growing (look_of p)
unfolding look_of
look_grows p =
    then (λ pool. add_method pool context_class (codes "beforeReadAccess") (codes "(Ljava/lang/Object;J)V")) (λ before pool. Ok (look_code p before, pool)) (method_grows context_class (codes "beforeReadAccess") (codes "(Ljava/lang/Object;J)V"))
    (λ before. gives (look_code p before))

-- the call of a read
read_call_grows : (t : WordType) → Growing (read_call t)
unfolding read_call
read_call_grows t = method_grows context_class (codes "onReadAccess") (read_descriptor (codes "J") t)

-- the call of a write
write_call_grows : (t : WordType) → Growing (write_call t)
unfolding write_call
write_call_grows t = method_grows context_class (codes "onWriteAccess") (write_descriptor (codes "J") t)

-- a read
read_grows : (p : Place) (f : Field) → Growing (read_of p f)
unfolding read_of
read_grows p f =
    then (λ pool. add_field pool f.class f.name f.descriptor) (λ field pool. read_call f.declared.word pool >>= λ after. Ok (read_code p field after.0, after.1)) (field_grows f.class f.name f.descriptor)
    (λ field. then (read_call f.declared.word) (λ after pool. Ok (read_code p field after, pool)) (read_call_grows f.declared.word) (λ after. gives (read_code p field after)))

-- a cast
cast_grows : (b : Bool) (class : List ℕ) → Growing (cast_if b class)
cast_grows false class = gives []
cast_grows true class = then (λ pool. add_class pool class) (λ i pool. Ok (check_cast i ∷ [], pool)) (class_grows class) (λ i. gives (check_cast i ∷ []))

-- a getter's code
getter_code_grows : (f : Field) → Growing (getter_instrs f)
unfolding getter_instrs
getter_code_grows f =
    then (place_of f)
    (λ place pool. look_of place pool >>= λ look. read_of place f look.1 >>= λ read. cast_if (is_cast f.declared.word f.declared.class) f.declared.class read.1 >>= λ cast. Ok (look.0 ++ read.0 ++ cast.0 ++ give (sort_of f.declared.word) ∷ [], cast.1)) (place_grows f)
    (λ place. then (look_of place) (λ look pool. read_of place f pool >>= λ read. cast_if (is_cast f.declared.word f.declared.class) f.declared.class read.1 >>= λ cast. Ok (look ++ read.0 ++ cast.0 ++ give (sort_of f.declared.word) ∷ [], cast.1)) (look_grows place)
    (λ look. then (read_of place f) (λ read pool. cast_if (is_cast f.declared.word f.declared.class) f.declared.class pool >>= λ cast. Ok (look ++ read ++ cast.0 ++ give (sort_of f.declared.word) ∷ [], cast.1)) (read_grows place f)
    (λ read. then (cast_if (is_cast f.declared.word f.declared.class) f.declared.class) (λ cast pool. Ok (look ++ read ++ cast ++ give (sort_of f.declared.word) ∷ [], pool)) (cast_grows (is_cast f.declared.word f.declared.class) f.declared.class)
    (λ cast. gives (look ++ read ++ cast ++ give (sort_of f.declared.word) ∷ [])))))

-- a setter's code
setter_code_grows : (f : Field) → Growing (setter_instrs f)
unfolding setter_instrs
setter_code_grows f =
    then (place_of f) (λ place pool. write_call f.declared.word pool >>= λ write. Ok (setter_code place f.declared.word (receiver_places f) write.0, write.1)) (place_grows f)
    (λ place. then (write_call f.declared.word) (λ write pool. Ok (setter_code place f.declared.word (receiver_places f) write, pool)) (write_call_grows f.declared.word) (λ write. gives (setter_code place f.declared.word (receiver_places f) write)))

-- ---- accessors

-- a method has the head of an added one of this name
abbrev pub IsHeaded : MethodName → Pool → Member → Type 0
IsHeaded name Z m = head_of Z m ≡ added_head name

-- a method of one run of instructions has the head of its name
pub straight_headed : (most locals : ℕ) (is : List Instr) (name : MethodName) → Adding (IsHeaded name) (straight_method most locals is name)
straight_headed most locals is name pool r s e =
    let p = adds_straight most locals is name pool r s e in
    record { grown = p.grown; short = p.short; facts = λ Z g. (let f = p.facts Z g in coded_head name f.bytes Z r.0 f.coded) }

-- a getter
getter_headed : (room : ℕ) (f : Field) → Adding (IsHeaded (getter_named f)) (getter_of room f)
unfolding getter_of
getter_headed room f pool r s e =
    let a = bind_ok (room_for room (getter_named f)) (λ fits. getter_instrs f pool >>= λ code. straight_method (4 + word_places f.declared.word) (receiver_places f + 1) code.0 (getter_named f) code.1) r e in
    behind (IsHeaded (getter_named f)) (getter_instrs f) (λ code pool. straight_method (4 + word_places f.declared.word) (receiver_places f + 1) code (getter_named f) pool) (getter_code_grows f)
    (λ code. straight_headed (4 + word_places f.declared.word) (receiver_places f + 1) code (getter_named f)) pool r s a.2

-- a setter
setter_headed : (room : ℕ) (f : Field) → Adding (IsHeaded (setter_named f)) (setter_of room f)
unfolding setter_of
setter_headed room f pool r s e =
    let a = bind_ok (room_for room (setter_named f)) (λ fits. setter_instrs f pool >>= λ code. straight_method (4 + word_places f.declared.word) (receiver_places f + word_places f.declared.word + 1) code.0 (setter_named f) code.1) r e in
    behind (IsHeaded (setter_named f)) (setter_instrs f) (λ code pool. straight_method (4 + word_places f.declared.word) (receiver_places f + word_places f.declared.word + 1) code (setter_named f) pool) (setter_code_grows f)
    (λ code. straight_headed (4 + word_places f.declared.word) (receiver_places f + word_places f.declared.word + 1) code (setter_named f)) pool r s a.2

-- both of a field
record AreAccessors (f : Field) (Z : Pool) (a : Accessors) : Type 0 where
  getter : IsHeaded (getter_named f) Z a.getter
  setter : IsHeaded (setter_named f) Z a.setter

-- both are added
accessors_put : (room : ℕ) (f : Field) → Adding (AreAccessors f) (accessors_of room f)
unfolding accessors_of
accessors_put room f pool r s e =
    let a = bind_ok _ _ r e in
    let b = bind_ok _ _ r a.2 in
    let p = getter_headed room f pool a.0 s a.1 in
    let q = setter_headed (room - 1) f a.0.1 b.0 p.short b.1 in
    subst (Puts (AreAccessors f) pool) (ok_is (record { getter = a.0.0; setter = b.0.0 }, b.0.1) r b.2)
    (record { grown = grown_trans pool a.0.1 b.0.1 p.grown q.grown; short = q.short; facts = λ Z g. record { getter = p.facts Z (grown_trans a.0.1 b.0.1 Z q.grown g); setter = q.facts Z g } })

-- the heads of all accessors
both_heads : (n : ℕ) (fs : List Field) (Z : Pool) (all : List Accessors) → AllPut (λ (n : ℕ) (f : Field). AreAccessors f) n fs Z all → heads Z (flat_map both_of all) ≡ accessor_heads fs
both_heads n [] Z [] h = refl
both_heads n [] Z (a ∷ all) h = absurd h
both_heads n (f ∷ fs) Z [] h = absurd h
both_heads n (f ∷ fs) Z (a ∷ all) h =
    let first = h.0.getter ∙ ap added_head (getter_is f) in
    let second = h.0.setter ∙ ap added_head (setter_is f) in
    ap (heads Z) (flat_map-cons both_of a all)
    ∙ ap (λ (x : Head). x ∷ head_of Z a.setter ∷ heads Z (flat_map both_of all)) first
    ∙ ap (λ (x : Head). added_head (getter_method 0 f).name ∷ x ∷ heads Z (flat_map both_of all)) second
    ∙ ap (λ (l : List Head). added_head (getter_method 0 f).name ∷ added_head (setter_method f).name ∷ l) (both_heads (n + 1) fs Z all h.1)
    ∙ sym (flat_map-cons (λ (f : Field). added_head (getter_method 0 f).name ∷ added_head (setter_method f).name ∷ []) f fs)

-- ---- the class

-- a class with accessors
pub record IsAccessed (fs : List Field) (c new : ClassFile) : Type 0 where
  pub members : List Member
  pub is : new ≡ and_methods c members new.pool
  pub grown : Grown c.pool new.pool
  pub short : length new.pool < 65535
  pub heads_are : (Z : Pool) → Grown new.pool Z → heads Z members ≡ accessor_heads fs

-- what is added to a class
pub accessed : (fs : List Field) (c new : ClassFile) → length c.pool < 65535 → with_accessors fs c ≡ Ok new → IsAccessed fs c new
accessed fs c new short e =
    let a = bind_ok (all_accessors (room_in c) fs c.pool) (λ all. Ok (and_methods c (flat_map both_of all.0) all.1)) new e in
    let p = adds_all (λ i f. AreAccessors f) (λ i f. accessors_of (room_in c - i - i) f) (λ i f. accessors_put (room_in c - i - i) f) 0 fs c.pool a.0 short a.1 in
    subst (IsAccessed fs c) (ok_is (and_methods c (flat_map both_of a.0.0) a.0.1) new a.2)
    (record { members = flat_map both_of a.0.0; is = refl; grown = p.grown; short = p.short; heads_are = λ Z g. both_heads 0 fs Z a.0.0 (p.facts Z g) })
