-- The instructions of accessors: that they can be laid, and what they mean.
use Rattle.std.proofs.Common.{◌≡◌, ℕ, ◌+◌, ◌<◌, List, [], ◌∷◌, ◌++◌, Bool, true, false, Option, Some, None, refl, sym, ◌∙◌, subst, arith, append_assoc}
use Rattle.std.specs.Prelude.{codes, not, bytes_eq, if◌then◌else◌}
use Rattle.std.specs.List.{AllByRecursion}
use Rattle.jmodel.specs.declared.value.Value.TheVariants.{Ref}
use Rattle.jmodel.specs.declared.instruction.Instr.{Instr}
use Rattle.jmodel.specs.format.ClassFile.{Pool}
use Rattle.jmodel.specs.format.Pool.{field_name}
use Rattle.objects.specs.declared.op.Sort.TheVariants as sort
use Rattle.objects.specs.declared.op.WordType.{WordType}
use Rattle.objects.specs.declared.op.WordType.TheVariants as word
use Rattle.objects.specs.declared.op.ContextCall.TheVariants.{BeforeRead, OnRead, OnWrite}
use Rattle.objects.specs.declared.op.Op.{Op}
use Rattle.objects.specs.declared.op.Op.TheVariants.{Constant, Load, GetStatic, GetField, CheckCast, Return, ReturnValue, Context}
use Rattle.objects.specs.semantics.Program.{Declared, Field}
use Rattle.objects.specs.semantics.Step.{sort_of}
use Rattle.objects.specs.typing.TypeOrder.{context_class, object_class}
use Rattle.objects.specs.rewriting.Rewriting.{word_places, distance, cast_to, cast_of}
use Rattle.objects.specs.linking.Decoding.{Symbols, read_descriptor, write_descriptor, virtual_call_op}
use Rattle.bytecode.proofs.LaidLaws.{join_all}
use Rattle.member_code.specs.Instrs.{load, give, get_static, get_field, call_virtual}
use Rattle.member_code.proofs.Added.{member}
use Rattle.member_code.proofs.ValuePlaces.{few_places}
use Rattle.member_code.proofs.Single.{Means, AreMeant, meant_append, load_means, get_static_means, get_field_means, call_virtual_means, check_cast_means, give_means, IsLaid, plain_laid, load_laid, give_laid, call_virtual_laid, get_static_laid, get_field_laid, check_cast_laid, named_member}
use Rattle.field_members.specs.Names.{address_name, base_name, base_type}
use Rattle.field_members.specs.Accessors.{Place, receiver_places, object, context_local, read_code, is_cast}
use Rattle.field_members.specs.AccessorsLaw.{IsKnown}
use Rattle.field_members.proofs.Gets.{BaseAt, PlaceAt, before_read, LookAt, ReadAt, CastAt, GetterAt, SetterAt}

-- ---- that they can be laid

module _ (f : Field) (Z : Pool) where
  object_laid : (o b : Option ℕ) → BaseAt o f Z b → IsLaid Z (object b)
  object_laid None None h = load_laid Z sort.Reference 0 (omega arith)
  object_laid None (Some i) h = absurd h
  object_laid (Some o) None h = absurd h
  object_laid (Some o) (Some i) h = get_static_laid Z i (member f.class base_name base_type) h.1 h.0

  module _ (p : Place) (P : PlaceAt f Z p) where
    look_laid : (is : List Instr) → LookAt p Z is → AllByRecursion (IsLaid Z) is
    look_laid is h = subst (AllByRecursion (IsLaid Z)) (sym h.code) (context_laid p.base, (object_laid f.base p.base P.base, (address_laid, (call_laid, tt))))
      where
        context_laid : (b : Option ℕ) → IsLaid Z (load sort.Reference (context_local b))
        context_laid None = load_laid Z sort.Reference 1 (omega arith)
        context_laid (Some b) = load_laid Z sort.Reference 0 (omega arith)

        address_laid : IsLaid Z (get_static p.address)
        address_laid = get_static_laid Z p.address (member f.class (address_name f) (codes "J")) P.address.1 P.address.0

        call_laid : IsLaid Z (call_virtual h.before)
        call_laid = call_virtual_laid Z h.before (member context_class (codes "beforeReadAccess") before_read) h.is_before.1 h.is_before.0

    read_laid : (is : List Instr) → ReadAt p f Z is → AllByRecursion (IsLaid Z) is
    read_laid is h = subst (AllByRecursion (IsLaid Z)) (sym h.code) (go f.base p.base refl P.base)
      where
        address_laid : IsLaid Z (get_static p.address)
        address_laid = get_static_laid Z p.address (member f.class (address_name f) (codes "J")) P.address.1 P.address.0

        call_laid : IsLaid Z (call_virtual h.after)
        call_laid = call_virtual_laid Z h.after (member context_class (codes "onReadAccess") (read_descriptor (codes "J") f.declared.word)) h.is_after.1 h.is_after.0

        go : (o b : Option ℕ) → p.base ≡ b → BaseAt o f Z b → AllByRecursion (IsLaid Z) (read_code p h.field h.after)
        go None None q x = rw q (
          load_laid Z sort.Reference 1 (omega arith),
          (
            load_laid Z sort.Reference 0 (omega arith),
            (
              load_laid Z sort.Reference 0 (omega arith),
              (get_field_laid Z h.field (member f.class f.name f.descriptor) h.is_field.1 h.is_field.0, (address_laid, (call_laid, tt))),
            ),
          ),
        )
        go None (Some i) q x = absurd x
        go (Some o) None q x = absurd x
        go (Some o) (Some i) q x = rw q (
          load_laid Z sort.Reference 0 (omega arith),
          (
            get_static_laid Z i (member f.class base_name base_type) x.1 x.0,
            (get_static_laid Z h.field (member f.class f.name f.descriptor) h.is_field.1 h.is_field.0, (address_laid, (call_laid, tt))),
          ),
        )

  cast_laid : (b : Bool) (class : List ℕ) (is : List Instr) → CastAt b class Z is → AllByRecursion (IsLaid Z) is
  cast_laid true class is h = subst (AllByRecursion (IsLaid Z)) (sym h.1) (check_cast_laid Z h.0 class h.2.2 h.2.0, tt)
  cast_laid false class is h = subst (AllByRecursion (IsLaid Z)) (sym h) tt

  pub getter_laid : (is : List Instr) → GetterAt f Z is → AllByRecursion (IsLaid Z) is
  getter_laid is h = subst (AllByRecursion (IsLaid Z)) (sym h.code)
      (join_all (IsLaid Z) (h.look ++ h.read ++ h.cast) (give (sort_of f.declared.word) ∷ [])
      (join_all (IsLaid Z) (h.look ++ h.read) h.cast (join_all (IsLaid Z) h.look h.read (look_laid h.place h.is_place h.look h.is_look) (read_laid h.place h.is_place h.read h.is_read)) (cast_laid (is_cast f.declared.word f.declared.class) f.declared.class h.cast h.is_cast))
      (give_laid Z (sort_of f.declared.word), tt))

  receiver_few : receiver_places f < 2
  receiver_few = go f.base refl
    where
      go : (o : Option ℕ) → f.base ≡ o → receiver_places f < 2
      go None e = rw e (omega arith)
      go (Some o) e = rw e (omega arith)

  pub setter_laid : (is : List Instr) → SetterAt f Z is → AllByRecursion (IsLaid Z) is
  setter_laid is h = subst (AllByRecursion (IsLaid Z)) (sym h.code) (
    load_laid Z sort.Reference (receiver_places f + word_places f.declared.word) (omega (arith, few_places f.declared.word, receiver_few)),
    (
      object_laid f.base h.place.base h.is_place.base,
      (
        load_laid Z (sort_of f.declared.word) (receiver_places f) (omega (arith, receiver_few)),
        (
          get_static_laid Z h.place.address (member f.class (address_name f) (codes "J")) h.is_place.address.1 h.is_place.address.0,
          (call_virtual_laid Z h.write (member context_class (codes "onWriteAccess") (write_descriptor (codes "J") f.declared.word)) h.is_write.1 h.is_write.0, (plain_laid Z 177 (omega arith) tt tt, tt)),
        ),
      ),
    ),
  )

-- ---- what they mean

read_call : (s : Symbols) (t : WordType) → virtual_call_op s (member context_class (codes "onReadAccess") (read_descriptor (codes "J") t)) ≡ Some (Context (OnRead t))
read_call s word.Boolean = refl
read_call s word.Byte = refl
read_call s word.Char = refl
read_call s word.Short = refl
read_call s word.Int = refl
read_call s word.Long = refl
read_call s word.Reference = refl

write_call : (s : Symbols) (t : WordType) → virtual_call_op s (member context_class (codes "onWriteAccess") (write_descriptor (codes "J") t)) ≡ Some (Context (OnWrite t))
write_call s word.Boolean = refl
write_call s word.Byte = refl
write_call s word.Char = refl
write_call s word.Short = refl
write_call s word.Int = refl
write_call s word.Long = refl
write_call s word.Reference = refl

-- the object on the stack
abbrev pub object_op : Option ℕ → Op
object_op None = Load sort.Reference 0
object_op (Some o) = Constant (Ref o)

abbrev pub look_ops : Field → Option ℕ → List Op
look_ops f o = Load sort.Reference (context_local o) ∷ object_op o ∷ distance f.index ∷ Context BeforeRead ∷ []

abbrev pub read_ops : Field → ℕ → Option ℕ → List Op
read_ops f n None = Load sort.Reference 1 ∷ Load sort.Reference 0 ∷ Load sort.Reference 0 ∷ GetField n f.class ∷ distance f.index ∷ Context (OnRead f.declared.word) ∷ []
read_ops f n (Some o) = Load sort.Reference 0 ∷ Constant (Ref o) ∷ GetStatic n ∷ distance f.index ∷ Context (OnRead f.declared.word) ∷ []

-- the cast and what follows it
abbrev pub cast_ops : WordType → List ℕ → List Op → List Op
cast_ops word.Reference class code = cast_to class code
cast_ops t class code = code

pub cast_is : (d : Declared) (code : List Op) → cast_of d code ≡ cast_ops d.word d.class code
cast_is d code = go d.word refl
  where
    go : (w : WordType) → d.word ≡ w → cast_of d code ≡ cast_ops w d.class code
    go word.Boolean e = rw e refl
    go word.Byte e = rw e refl
    go word.Char e = rw e refl
    go word.Short e = rw e refl
    go word.Int e = rw e refl
    go word.Long e = rw e refl
    go word.Reference e = rw e refl

abbrev pub getter_ops : Field → ℕ → Option ℕ → List Op
getter_ops f n o = (look_ops f o ++ read_ops f n o) ++ cast_ops f.declared.word f.declared.class (ReturnValue (sort_of f.declared.word) ∷ [])

abbrev pub setter_ops : Field → Option ℕ → List Op
setter_ops f o = Load sort.Reference (receiver_places f + word_places f.declared.word) ∷ object_op o ∷ Load (sort_of f.declared.word) (receiver_places f) ∷ distance f.index ∷ Context (OnWrite f.declared.word) ∷ Return ∷ []

module _ (s : Symbols) (n : ℕ) (f : Field) (K : IsKnown s n f) (place : ℕ → ℕ) (L : List Instr) where
  object_meant : (o b : Option ℕ) → f.base ≡ o → BaseAt o f s.class.pool b → Means s place L (object_op o) (object b)
  object_meant None None e h = load_means s place L sort.Reference 0
  object_meant None (Some i) e h = absurd h
  object_meant (Some o) None e h = absurd h
  object_meant (Some o) (Some i) e h = get_static_means s place L i (member f.class base_name base_type) (Constant (Ref o)) h.0 (K.base o e)

  context_meant : (o b : Option ℕ) → BaseAt o f s.class.pool b → Means s place L (Load sort.Reference (context_local o)) (load sort.Reference (context_local b))
  context_meant None None h = load_means s place L sort.Reference 1
  context_meant None (Some i) h = absurd h
  context_meant (Some o) None h = absurd h
  context_meant (Some o) (Some i) h = load_means s place L sort.Reference 0

  module _ (p : Place) (P : PlaceAt f s.class.pool p) where
    address_meant : Means s place L (distance f.index) (get_static p.address)
    address_meant = get_static_means s place L p.address (member f.class (address_name f) (codes "J")) (distance f.index) P.address.0 K.address

    look_meant : (is : List Instr) → LookAt p s.class.pool is → AreMeant s place L is (look_ops f f.base)
    look_meant is h = subst (λ (x : List Instr). AreMeant s place L x (look_ops f f.base)) (sym h.code) (
      context_meant f.base p.base P.base,
      (
        object_meant f.base p.base refl P.base,
        (
          address_meant,
          (call_virtual_means s place L h.before (member context_class (codes "beforeReadAccess") before_read) (Context BeforeRead) (named_member s.class.pool h.before _ h.is_before.0) refl, tt),
        ),
      ),
    )

    field_meant : (i : ℕ) → field_name s.class.pool i ≡ Some (member f.class f.name f.descriptor) → Means s place L (GetField n f.class) (get_field i)
    field_meant i e = let k = K.number in let c = K.class_same in get_field_means s place L i (member f.class f.name f.descriptor) (GetField n f.class) e (rw (k, c) refl)

    static_meant : (i : ℕ) → field_name s.class.pool i ≡ Some (member f.class f.name f.descriptor) → Means s place L (GetStatic n) (get_static i)
    static_meant i e = let k = K.number in get_static_means s place L i (member f.class f.name f.descriptor) (GetStatic n) e (rw k refl)

    read_meant : (is : List Instr) → ReadAt p f s.class.pool is → AreMeant s place L is (read_ops f n f.base)
    read_meant is h = subst (λ (x : List Instr). AreMeant s place L x (read_ops f n f.base)) (sym h.code) (go f.base p.base refl refl P.base)
      where
        call_meant : Means s place L (Context (OnRead f.declared.word)) (call_virtual h.after)
        call_meant = call_virtual_means s place L h.after (member context_class (codes "onReadAccess") (read_descriptor (codes "J") f.declared.word)) (Context (OnRead f.declared.word)) (named_member s.class.pool h.after _ h.is_after.0) (read_call s f.declared.word)

        go : (o b : Option ℕ) → f.base ≡ o → p.base ≡ b → BaseAt o f s.class.pool b → AreMeant s place L (read_code p h.field h.after) (read_ops f n o)
        go None None e q x = rw q (load_means s place L sort.Reference 1, (load_means s place L sort.Reference 0, (load_means s place L sort.Reference 0, (field_meant h.field h.is_field.0, (address_meant, (call_meant, tt))))))
        go None (Some i) e q x = absurd x
        go (Some o) None e q x = absurd x
        go (Some o) (Some i) e q x = rw q (load_means s place L sort.Reference 0, (object_meant (Some o) (Some i) e x, (static_meant h.field h.is_field.0, (address_meant, (call_meant, tt)))))

  tail_meant : (w : WordType) (class : List ℕ) (is : List Instr) → CastAt (is_cast w class) class s.class.pool is → AreMeant s place L (is ++ give (sort_of w) ∷ []) (cast_ops w class (ReturnValue (sort_of w) ∷ []))
  tail_meant w class is h = by_word w h
    where
      alone : (w : WordType) → is ≡ [] → AreMeant s place L (is ++ give (sort_of w) ∷ []) (ReturnValue (sort_of w) ∷ [])
      alone w none = subst (λ (x : List Instr). AreMeant s place L (x ++ give (sort_of w) ∷ []) (ReturnValue (sort_of w) ∷ [])) (sym none) (give_means s place L (sort_of w), tt)

      by_class : (b : Bool) → CastAt (not b) class s.class.pool is → AreMeant s place L (is ++ give sort.Reference ∷ []) (if b then ReturnValue sort.Reference ∷ [] else CheckCast class ∷ ReturnValue sort.Reference ∷ [])
      by_class true h = alone word.Reference h
      by_class false h = subst (λ (x : List Instr). AreMeant s place L (x ++ give sort.Reference ∷ []) (CheckCast class ∷ ReturnValue sort.Reference ∷ [])) (sym h.1) (check_cast_means s place L h.0 class h.2.0, (give_means s place L sort.Reference, tt))

      by_word : (w : WordType) → CastAt (is_cast w class) class s.class.pool is → AreMeant s place L (is ++ give (sort_of w) ∷ []) (cast_ops w class (ReturnValue (sort_of w) ∷ []))
      by_word word.Reference h = by_class (bytes_eq class object_class) h
      by_word word.Boolean h = alone word.Boolean h
      by_word word.Byte h = alone word.Byte h
      by_word word.Char h = alone word.Char h
      by_word word.Short h = alone word.Short h
      by_word word.Int h = alone word.Int h
      by_word word.Long h = alone word.Long h

  pub getter_meant : (is : List Instr) → GetterAt f s.class.pool is → AreMeant s place L is (getter_ops f n f.base)
  getter_meant is h = subst (λ (x : List Instr). AreMeant s place L x (getter_ops f n f.base)) (sym (h.code ∙ append_assoc (h.look ++ h.read) h.cast (give (sort_of f.declared.word) ∷ [])))
      (meant_append s place L (h.look ++ h.read) (h.cast ++ give (sort_of f.declared.word) ∷ []) (look_ops f f.base ++ read_ops f n f.base) (cast_ops f.declared.word f.declared.class (ReturnValue (sort_of f.declared.word) ∷ []))
      (meant_append s place L h.look h.read (look_ops f f.base) (read_ops f n f.base) (look_meant h.place h.is_place h.look h.is_look) (read_meant h.place h.is_place h.read h.is_read))
      (tail_meant f.declared.word f.declared.class h.cast h.is_cast))

  pub setter_meant : (is : List Instr) → SetterAt f s.class.pool is → AreMeant s place L is (setter_ops f f.base)
  setter_meant is h = subst (λ (x : List Instr). AreMeant s place L x (setter_ops f f.base)) (sym h.code) (
    load_means s place L sort.Reference (receiver_places f + word_places f.declared.word),
    (
      object_meant f.base h.place.base refl h.is_place.base,
      (
        load_means s place L (sort_of f.declared.word) (receiver_places f),
        (address_meant h.place h.is_place, (call_virtual_means s place L h.write (member context_class (codes "onWriteAccess") (write_descriptor (codes "J") f.declared.word)) (Context (OnWrite f.declared.word)) (named_member s.class.pool h.write _ h.is_write.0) (write_call s f.declared.word), (λ a. refl, tt))),
      ),
    ),
  )
