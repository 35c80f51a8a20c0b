-- What the code of accessors names is in every pool that is grown from the one that was left.
use Rattle.std.proofs.Common.{◌≡◌, ℕ, ◌+◌, ◌-◌, List, [], ◌∷◌, ◌++◌, Bool, true, false, Option, Some, None, Ok, refl, subst}
use Rattle.std.specs.Prelude.{codes}
use Rattle.jmodel.specs.declared.instruction.Instr.{Instr}
use Rattle.jmodel.specs.format.ClassFile.{Pool, Member}
use Rattle.jmodel.specs.format.PoolAdding.{add_class, add_field}
use Rattle.jmodel.specs.format.Reading.{◌>>=◌}
use Rattle.objects.specs.semantics.Program.{Field}
use Rattle.objects.specs.semantics.Step.{sort_of}
use Rattle.objects.specs.typing.TypeOrder.{context_class}
use Rattle.objects.specs.rewriting.Rewriting.{word_places}
use Rattle.objects.specs.linking.Decoding.{read_descriptor, write_descriptor}
use Rattle.const_pool.proofs.Takes.{bind_ok, ok_is}
use Rattle.member_code.specs.Instrs.{give, check_cast}
use Rattle.member_code.specs.Coding.{room_for, straight_method}
use Rattle.member_code.proofs.Grown.{grown_refl, grown_trans}
use Rattle.member_code.proofs.Added.{member}
use Rattle.member_code.proofs.Puts.{Puts, Adding, IsFieldAt, IsMethodAt, IsClassAt, adds_class, adds_field, adds_method, IsStraightAt, adds_straight}
use Rattle.field_members.specs.Names.{address_name, base_name, base_type, getter_named, setter_named}
use Rattle.field_members.specs.Accessors.{Place, Accessors, read_call, write_call, receiver_places, base_if, place_of, look_code, read_code, is_cast, cast_if, look_of, read_of, getter_instrs, getter_of, setter_code, setter_instrs, setter_of, accessors_of}

-- ---- parts

-- the static base is named where the field is one of it
abbrev pub BaseAt : Option ℕ → Field → Pool → Option ℕ → Type 0
BaseAt None f Z None = Unit {0}
BaseAt (Some o) f Z (Some i) = IsFieldAt (member f.class base_name base_type) Z i
BaseAt o f Z i = ⊥

base_puts : (o : Option ℕ) (f : Field) → Adding (BaseAt o f) (base_if o f.class)
base_puts None f pool r s e = subst (Puts (BaseAt None f) pool) (ok_is (None, pool) r e) (record { grown = grown_refl pool; short = s; facts = λ Z g. tt })
base_puts (Some o) f pool r s e =
    let a = bind_ok (add_field pool f.class base_name base_type) (λ i. Ok (Some i.0, i.1)) r e in
    let p = adds_field f.class base_name base_type pool a.0 s a.1 in
    subst (Puts (BaseAt (Some o) f) pool) (ok_is (Some a.0.0, a.0.1) r a.2) (record { grown = p.grown; short = p.short; facts = λ Z g. p.facts Z g })

pub record PlaceAt (f : Field) (Z : Pool) (p : Place) : Type 0 where
  pub base : BaseAt f.base f Z p.base
  pub address : IsFieldAt (member f.class (address_name f) (codes "J")) Z p.address

place_puts : (f : Field) → Adding (PlaceAt f) (place_of f)
unfolding place_of
place_puts f pool r s e =
    let a = bind_ok _ _ r e in
    let b = bind_ok _ _ r a.2 in
    let p = base_puts f.base f pool a.0 s a.1 in
    let q = adds_field f.class (address_name f) (codes "J") a.0.1 b.0 p.short b.1 in
    subst (Puts (PlaceAt f) pool) (ok_is (record { base = a.0.0; address = b.0.0 }, b.0.1) r b.2)
    (record { grown = grown_trans pool a.0.1 b.0.1 p.grown q.grown; short = q.short; facts = λ Z g. record { base = p.facts Z (grown_trans a.0.1 b.0.1 Z q.grown g); address = q.facts Z g } })

abbrev pub before_read : List ℕ
before_read = codes "(Ljava/lang/Object;J)V"

pub record LookAt (p : Place) (Z : Pool) (is : List Instr) : Type 0 where
  pub before : ℕ
  pub is_before : IsMethodAt (member context_class (codes "beforeReadAccess") before_read) Z before
  pub code : is ≡ look_code p before

look_puts : (p : Place) → Adding (LookAt p) (look_of p)
unfolding look_of
look_puts x pool r s e =
    let a = bind_ok _ _ r e in
    let p = adds_method context_class (codes "beforeReadAccess") before_read pool a.0 s a.1 in
    subst (Puts (LookAt x) pool) (ok_is (look_code x a.0.0, a.0.1) r a.2) (record { grown = p.grown; short = p.short; facts = λ Z g. record { before = a.0.0; is_before = p.facts Z g; code = refl } })

pub record ReadAt (p : Place) (f : Field) (Z : Pool) (is : List Instr) : Type 0 where
  pub field : ℕ
  pub after : ℕ
  pub is_field : IsFieldAt (member f.class f.name f.descriptor) Z field
  pub is_after : IsMethodAt (member context_class (codes "onReadAccess") (read_descriptor (codes "J") f.declared.word)) Z after
  pub code : is ≡ read_code p field after

read_puts : (p : Place) (f : Field) → Adding (ReadAt p f) (read_of p f)
unfolding read_of read_call
read_puts x f pool r s e =
    let a = bind_ok _ _ r e in
    let b = bind_ok _ _ r a.2 in
    let p = adds_field f.class f.name f.descriptor pool a.0 s a.1 in
    let q = adds_method context_class (codes "onReadAccess") (read_descriptor (codes "J") f.declared.word) a.0.1 b.0 p.short b.1 in
    subst (Puts (ReadAt x f) pool) (ok_is (read_code x a.0.0 b.0.0, b.0.1) r b.2)
    (record {
      grown = grown_trans pool a.0.1 b.0.1 p.grown q.grown;
      short = q.short;
      facts = λ Z g. record { field = a.0.0; after = b.0.0; is_field = p.facts Z (grown_trans a.0.1 b.0.1 Z q.grown g); is_after = q.facts Z g; code = refl };
    })

abbrev pub CastAt : Bool → List ℕ → Pool → List Instr → Type 0
CastAt true class Z is = (i : ℕ) × (is ≡ check_cast i ∷ []) × IsClassAt class Z i
CastAt false class Z is = is ≡ []

cast_puts : (b : Bool) (class : List ℕ) → Adding (CastAt b class) (cast_if b class)
cast_puts false class pool r s e = subst (Puts (CastAt false class) pool) (ok_is ([], pool) r e) (record { grown = grown_refl pool; short = s; facts = λ Z g. refl })
cast_puts true class pool r s e =
    let a = bind_ok (add_class pool class) (λ i. Ok (check_cast i.0 ∷ [], i.1)) r e in
    let p = adds_class class pool a.0 s a.1 in
    subst (Puts (CastAt true class) pool) (ok_is (check_cast a.0.0 ∷ [], a.0.1) r a.2) (record { grown = p.grown; short = p.short; facts = λ Z g. (a.0.0, refl, p.facts Z g) })

-- ---- the code of accessors

pub record GetterAt (f : Field) (Z : Pool) (is : List Instr) : Type 0 where
  pub place : Place
  pub is_place : PlaceAt f Z place
  pub look : List Instr
  pub is_look : LookAt place Z look
  pub read : List Instr
  pub is_read : ReadAt place f Z read
  pub cast : List Instr
  pub is_cast : CastAt (is_cast f.declared.word f.declared.class) f.declared.class Z cast
  pub code : is ≡ look ++ read ++ cast ++ give (sort_of f.declared.word) ∷ []

pub getter_code_puts : (f : Field) → Adding (GetterAt f) (getter_instrs f)
unfolding getter_instrs
getter_code_puts f pool r s e =
    let a = bind_ok _ _ r e in
    let b = bind_ok _ _ r a.2 in
    let c = bind_ok _ _ r b.2 in
    let d = bind_ok _ _ r c.2 in
    let p = place_puts f pool a.0 s a.1 in
    let q = look_puts a.0.0 a.0.1 b.0 p.short b.1 in
    let t = read_puts a.0.0 f b.0.1 c.0 q.short c.1 in
    let u = cast_puts (is_cast f.declared.word f.declared.class) f.declared.class c.0.1 d.0 t.short d.1 in
    let tu = grown_trans b.0.1 c.0.1 d.0.1 t.grown u.grown in
    let qtu = grown_trans a.0.1 b.0.1 d.0.1 q.grown tu in
    subst (Puts (GetterAt f) pool) (ok_is (b.0.0 ++ c.0.0 ++ d.0.0 ++ give (sort_of f.declared.word) ∷ [], d.0.1) r d.2)
    (record {
      grown = grown_trans pool a.0.1 d.0.1 p.grown qtu;
      short = u.short;
      facts = λ Z g. record {
        place = a.0.0;
        is_place = p.facts Z (grown_trans a.0.1 d.0.1 Z qtu g);
        look = b.0.0;
        is_look = q.facts Z (grown_trans b.0.1 d.0.1 Z tu g);
        read = c.0.0;
        is_read = t.facts Z (grown_trans c.0.1 d.0.1 Z u.grown g);
        cast = d.0.0;
        is_cast = u.facts Z g;
        code = refl;
      };
    })

pub record SetterAt (f : Field) (Z : Pool) (is : List Instr) : Type 0 where
  pub place : Place
  pub is_place : PlaceAt f Z place
  pub write : ℕ
  pub is_write : IsMethodAt (member context_class (codes "onWriteAccess") (write_descriptor (codes "J") f.declared.word)) Z write
  pub code : is ≡ setter_code place f.declared.word (receiver_places f) write

pub setter_code_puts : (f : Field) → Adding (SetterAt f) (setter_instrs f)
unfolding setter_instrs write_call
setter_code_puts f pool r s e =
    let a = bind_ok _ _ r e in
    let b = bind_ok _ _ r a.2 in
    let p = place_puts f pool a.0 s a.1 in
    let q = adds_method context_class (codes "onWriteAccess") (write_descriptor (codes "J") f.declared.word) a.0.1 b.0 p.short b.1 in
    subst (Puts (SetterAt f) pool) (ok_is (setter_code a.0.0 f.declared.word (receiver_places f) b.0.0, b.0.1) r b.2)
    (record {
      grown = grown_trans pool a.0.1 b.0.1 p.grown q.grown;
      short = q.short;
      facts = λ Z g. record { place = a.0.0; is_place = p.facts Z (grown_trans a.0.1 b.0.1 Z q.grown g); write = b.0.0; is_write = q.facts Z g; code = refl };
    })

-- ---- accessors

pub record IsGetter (f : Field) (Z : Pool) (m : Member) : Type 0 where
  pub is : List Instr
  pub code : GetterAt f Z is
  pub method : IsStraightAt (4 + word_places f.declared.word) (receiver_places f + 1) is (getter_named f) Z m

getter_puts : (room : ℕ) (f : Field) → Adding (IsGetter f) (getter_of room f)
unfolding getter_of
getter_puts room f pool r s e =
    let x = bind_ok (room_for room (getter_named f)) (λ fits. getter_instrs f pool >>= λ code. straight_method (4 + word_places f.declared.word) (receiver_places f + 1) code.0 (getter_named f) code.1) r e in
    let a = bind_ok (getter_instrs f pool) (λ code. straight_method (4 + word_places f.declared.word) (receiver_places f + 1) code.0 (getter_named f) code.1) r x.2 in
    let p = getter_code_puts f pool a.0 s a.1 in
    let q = adds_straight (4 + word_places f.declared.word) (receiver_places f + 1) a.0.0 (getter_named f) a.0.1 r p.short a.2 in
    record { grown = grown_trans pool a.0.1 r.1 p.grown q.grown; short = q.short; facts = λ Z g. record { is = a.0.0; code = p.facts Z (grown_trans a.0.1 r.1 Z q.grown g); method = q.facts Z g } }

pub record IsSetter (f : Field) (Z : Pool) (m : Member) : Type 0 where
  pub is : List Instr
  pub code : SetterAt f Z is
  pub method : IsStraightAt (4 + word_places f.declared.word) (receiver_places f + word_places f.declared.word + 1) is (setter_named f) Z m

setter_puts : (room : ℕ) (f : Field) → Adding (IsSetter f) (setter_of room f)
unfolding setter_of
setter_puts room f pool r s e =
    let x = bind_ok (room_for room (setter_named f)) (λ fits. setter_instrs f pool >>= λ code. straight_method (4 + word_places f.declared.word) (receiver_places f + word_places f.declared.word + 1) code.0 (setter_named f) code.1) r e in
    let a = bind_ok (setter_instrs f pool) (λ code. straight_method (4 + word_places f.declared.word) (receiver_places f + word_places f.declared.word + 1) code.0 (setter_named f) code.1) r x.2 in
    let p = setter_code_puts f pool a.0 s a.1 in
    let q = adds_straight (4 + word_places f.declared.word) (receiver_places f + word_places f.declared.word + 1) a.0.0 (setter_named f) a.0.1 r p.short a.2 in
    record { grown = grown_trans pool a.0.1 r.1 p.grown q.grown; short = q.short; facts = λ Z g. record { is = a.0.0; code = p.facts Z (grown_trans a.0.1 r.1 Z q.grown g); method = q.facts Z g } }

pub record AreAccessors (f : Field) (Z : Pool) (a : Accessors) : Type 0 where
  pub getter : IsGetter f Z a.getter
  pub setter : IsSetter f Z a.setter

pub accessors_put : (room : ℕ) (f : Field) → Adding (AreAccessors f) (accessors_of room f)
unfolding accessors_of
accessors_put room f pool r s e =
    let a = bind_ok _ _ r e in
    let b = bind_ok _ _ r a.2 in
    let p = getter_puts room f pool a.0 s a.1 in
    let q = setter_puts (room - 1) f a.0.1 b.0 p.short b.1 in
    subst (Puts (AreAccessors f) pool) (ok_is (record { getter = a.0.0; setter = b.0.0 }, b.0.1) r b.2)
    (record { grown = grown_trans pool a.0.1 b.0.1 p.grown q.grown; short = q.short; facts = λ Z g. record { getter = p.facts Z (grown_trans a.0.1 b.0.1 Z q.grown g); setter = q.facts Z g } })
