-- The helper's methods mean what the rewriting says.
use Rattle.std.proofs.Common.{◌≡◌, ℕ, ◌+◌, List, [], ◌∷◌, ◌++◌, length, Some, None, Ok, false, refl, sym, ap, ◌∙◌, subst, arith}
use Rattle.std.specs.Prelude.{codes}
use Rattle.std.specs.List.{flat_map}
use Rattle.std.proofs.lemmas.List.Concat.{flat_map-cons}
use Rattle.jmodel.specs.declared.class_file.FieldType.{FieldType}
use Rattle.jmodel.specs.declared.class_file.FieldType.TheVariants as types
use Rattle.jmodel.specs.declared.typing.VType.{VType}
use Rattle.jmodel.specs.declared.typing.VType.TheVariants as type
use Rattle.jmodel.specs.declared.instruction.Instr.{Instr}
use Rattle.jmodel.specs.format.ClassFile.{Pool, Member, ClassFile}
use Rattle.jmodel.specs.format.Descriptor.{Signature}
use Rattle.jmodel.specs.format.DescriptorReading.{element_rest, type_rest, type_of, types_at, result_of, signature_of, is_field_descriptor}
use Rattle.jmodel.specs.format.Pool.{text_or_none, class_name}
use Rattle.objects.specs.linking.Each.{each}
use Rattle.jmodel.specs.format.Relocation.{place_of, relocated}
use Rattle.objects.specs.linking.Members.{own_name}
use Rattle.objects.specs.declared.op.Sort.TheVariants as sort
use Rattle.objects.specs.declared.op.WordType.{WordType}
use Rattle.objects.specs.declared.op.WordType.TheVariants as word
use Rattle.objects.specs.declared.op.ContextCall.TheVariants.{BeforeReadElement, OnReadElement, OnWriteElement}
use Rattle.objects.specs.declared.op.Op.{Op}
use Rattle.objects.specs.declared.op.Op.TheVariants.{Load, Return, ReturnValue, Context}
use Rattle.objects.specs.semantics.Program.{Method}
use Rattle.objects.specs.semantics.Step.{sort_of}
use Rattle.objects.specs.typing.TypeOrder.{context_class, object_class, place_types}
use Rattle.objects.specs.rewriting.Rewriting.{context, word_places, as_result, any_of, array_type, plain_load, helper_class, element_getter_method, element_setter_method}
use Rattle.objects.specs.linking.Decoding.{Symbols, read_descriptor, write_descriptor, virtual_call_op}
use Rattle.const_pool.proofs.Takes.{bind_ok, ok_is}
use Rattle.member_code.specs.Instrs.{plain}
use Rattle.member_code.specs.Meaning.{meaning}
use Rattle.member_code.proofs.Grown.{Grown, grown_refl, grown_trans}
use Rattle.member_code.proofs.Added.{member}
use Rattle.member_code.proofs.ValuePlaces.{few_places}
use Rattle.member_code.proofs.Single.{Means, load_means, give_means, call_virtual_means, named_member}
use Rattle.member_code.proofs.Straight.{run, IsRun}
use Rattle.member_code.proofs.Coded.{IsTyped, straight_means}
use Rattle.member_code.proofs.Puts.{AllPut, adds_all, adds_class, as_added}
use Rattle.array_helper.specs.Names.{load_named, store_named}
use Rattle.array_helper.specs.Helper.{ElementMethods, load_code, load_instrs, store_instrs, element_methods, both_of, element_types, every_method, helper_parts, file_of, helper_file}
use Rattle.array_helper.specs.HelperLaw.{HelperLaw}
use Rattle.array_helper.proofs.Gets.{IsLoad, IsStore, AreElements, elements_put, loads_laid, stores_laid}

-- ---- types

abbrev field_of : WordType → FieldType
field_of word.Boolean = types.Boolean
field_of word.Byte = types.Byte
field_of word.Char = types.Char
field_of word.Short = types.Short
field_of word.Int = types.Int
field_of word.Long = types.Long
field_of word.Reference = types.Reference object_class

abbrev load_signature : WordType → Signature
load_signature t = record { parameters = types.Reference (array_type t) ∷ types.Int ∷ types.Reference context_class ∷ []; result = Some (field_of t) }

abbrev store_signature : WordType → Signature
store_signature t = record { parameters = types.Reference (array_type t) ∷ types.Int ∷ field_of t ∷ types.Reference context_class ∷ []; result = None }

load_signed : (t : WordType) → signature_of (load_named t).descriptor ≡ Some (load_signature t)
unfolding element_rest type_rest is_field_descriptor type_of types_at result_of signature_of
load_signed word.Boolean = refl
load_signed word.Byte = refl
load_signed word.Char = refl
load_signed word.Short = refl
load_signed word.Int = refl
load_signed word.Long = refl
load_signed word.Reference = refl

store_signed : (t : WordType) → signature_of (store_named t).descriptor ≡ Some (store_signature t)
unfolding element_rest type_rest is_field_descriptor type_of types_at result_of signature_of
store_signed word.Boolean = refl
store_signed word.Byte = refl
store_signed word.Char = refl
store_signed word.Short = refl
store_signed word.Int = refl
store_signed word.Long = refl
store_signed word.Reference = refl

abbrev load_takes : WordType → List VType
load_takes t = type.Ref (array_type t) ∷ type.Int ∷ context ∷ []

abbrev store_takes : WordType → List VType
store_takes t = type.Ref (array_type t) ∷ type.Int ∷ place_types (any_of t) ++ context ∷ []

load_typed : (s : Symbols) (t : WordType) → IsTyped s (load_named t).descriptor (load_takes t) (Some (as_result (any_of t)))
load_typed s word.Boolean = record { signature = load_signature word.Boolean; is = load_signed word.Boolean; takes_are = refl; result_is = refl; other = refl }
load_typed s word.Byte = record { signature = load_signature word.Byte; is = load_signed word.Byte; takes_are = refl; result_is = refl; other = refl }
load_typed s word.Char = record { signature = load_signature word.Char; is = load_signed word.Char; takes_are = refl; result_is = refl; other = refl }
load_typed s word.Short = record { signature = load_signature word.Short; is = load_signed word.Short; takes_are = refl; result_is = refl; other = refl }
load_typed s word.Int = record { signature = load_signature word.Int; is = load_signed word.Int; takes_are = refl; result_is = refl; other = refl }
load_typed s word.Long = record { signature = load_signature word.Long; is = load_signed word.Long; takes_are = refl; result_is = refl; other = refl }
load_typed s word.Reference = record { signature = load_signature word.Reference; is = load_signed word.Reference; takes_are = refl; result_is = refl; other = refl }

store_typed : (s : Symbols) (t : WordType) → IsTyped s (store_named t).descriptor (store_takes t) None
store_typed s word.Boolean = record { signature = store_signature word.Boolean; is = store_signed word.Boolean; takes_are = refl; result_is = refl; other = refl }
store_typed s word.Byte = record { signature = store_signature word.Byte; is = store_signed word.Byte; takes_are = refl; result_is = refl; other = refl }
store_typed s word.Char = record { signature = store_signature word.Char; is = store_signed word.Char; takes_are = refl; result_is = refl; other = refl }
store_typed s word.Short = record { signature = store_signature word.Short; is = store_signed word.Short; takes_are = refl; result_is = refl; other = refl }
store_typed s word.Int = record { signature = store_signature word.Int; is = store_signed word.Int; takes_are = refl; result_is = refl; other = refl }
store_typed s word.Long = record { signature = store_signature word.Long; is = store_signed word.Long; takes_are = refl; result_is = refl; other = refl }
store_typed s word.Reference = record { signature = store_signature word.Reference; is = store_signed word.Reference; takes_are = refl; result_is = refl; other = refl }

store_long : (t : WordType) → 3 + word_places t ≡ length (store_takes t)
store_long word.Boolean = refl
store_long word.Byte = refl
store_long word.Char = refl
store_long word.Short = refl
store_long word.Int = refl
store_long word.Long = refl
store_long word.Reference = refl

-- ---- instructions

read_call : (s : Symbols) (t : WordType) → virtual_call_op s (member context_class (codes "onReadAccess") (read_descriptor (codes "I") t)) ≡ Some (Context (OnReadElement t))
read_call s word.Boolean = refl
read_call s word.Byte = refl
read_call s word.Char = refl
read_call s word.Short = refl
read_call s word.Int = refl
read_call s word.Long = refl
read_call s word.Reference = refl

write_call : (s : Symbols) (t : WordType) → virtual_call_op s (member context_class (codes "onWriteAccess") (write_descriptor (codes "I") t)) ≡ Some (Context (OnWriteElement t))
write_call s word.Boolean = refl
write_call s word.Byte = refl
write_call s word.Char = refl
write_call s word.Short = refl
write_call s word.Int = refl
write_call s word.Long = refl
write_call s word.Reference = refl

module _ (s : Symbols) (place : ℕ → ℕ) (L : List Instr) where
  plain_load_means : (t : WordType) → Means s place L (plain_load t) (plain (load_code t))
  plain_load_means word.Boolean at = refl
  plain_load_means word.Byte at = refl
  plain_load_means word.Char at = refl
  plain_load_means word.Short at = refl
  plain_load_means word.Int at = refl
  plain_load_means word.Long at = refl
  plain_load_means word.Reference at = refl

abbrev load_ops : WordType → List Op
load_ops t =
    Load sort.Reference 2 ∷ Load sort.Reference 0 ∷ Load sort.Int 1 ∷ Context BeforeReadElement
    ∷ Load sort.Reference 2 ∷ Load sort.Reference 0 ∷ Load sort.Reference 0 ∷ Load sort.Int 1 ∷ plain_load t ∷ Load sort.Int 1 ∷ Context (OnReadElement t)
    ∷ ReturnValue (sort_of t) ∷ []

abbrev store_ops : WordType → List Op
store_ops t = Load sort.Reference (2 + word_places t) ∷ Load sort.Reference 0 ∷ Load (sort_of t) 2 ∷ Load sort.Int 1 ∷ Context (OnWriteElement t) ∷ Return ∷ []

-- ---- methods

module _ (s : Symbols) (own : own_name s.class ≡ helper_class) (t : WordType) where
  load_is : (m : Member) → IsLoad t s.class.pool m → meaning s false m ≡ Some (element_getter_method t)
  load_is m g =
      let M = g.method in
      let place = place_of (run (load_instrs t g.before g.after)) in
      let L = relocated (run (load_instrs t g.before g.after)) [] in
      straight_means s m helper_class (load_named t).name (load_named t).descriptor (load_takes t) (Some (as_result (any_of t))) (3 + word_places t) (load_instrs t g.before g.after) (load_ops t) M.bytes
      (as_added s (load_named t) M.bytes m M.coded) (load_typed s t) M.run (loads_laid t s.class.pool g.before g.after g.is_before g.is_after) (omega arith) (omega (arith, few_places t)) (omega arith) own (
        load_means s place L sort.Reference 2,
        (
          load_means s place L sort.Reference 0,
          (
            load_means s place L sort.Int 1,
            (
              call_virtual_means s place L g.before _ (Context BeforeReadElement) (named_member s.class.pool g.before _ g.is_before.0) refl,
              (
                load_means s place L sort.Reference 2,
                (
                  load_means s place L sort.Reference 0,
                  (
                    load_means s place L sort.Reference 0,
                    (
                      load_means s place L sort.Int 1,
                      (plain_load_means s place L t, (load_means s place L sort.Int 1, (call_virtual_means s place L g.after _ (Context (OnReadElement t)) (named_member s.class.pool g.after _ g.is_after.0) (read_call s t), (give_means s place L (sort_of t), tt)))),
                    ),
                  ),
                ),
              ),
            ),
          ),
        ),
      )

  store_is : (m : Member) → IsStore t s.class.pool m → meaning s false m ≡ Some (element_setter_method t)
  store_is m g =
      let M = g.method in
      let place = place_of (run (store_instrs t g.write)) in
      let L = relocated (run (store_instrs t g.write)) [] in
      straight_means s m helper_class (store_named t).name (store_named t).descriptor (store_takes t) None (3 + word_places t) (store_instrs t g.write) (store_ops t) M.bytes
      (as_added s (store_named t) M.bytes m M.coded) (store_typed s t) (subst (λ (n : ℕ). IsRun (3 + word_places t) n (store_instrs t g.write) M.bytes) (store_long t) M.run) (stores_laid t s.class.pool g.write g.is_write) (omega arith) (omega (arith, few_places t)) (omega (arith, few_places t, store_long t)) own (
        load_means s place L sort.Reference (2 + word_places t),
        (
          load_means s place L sort.Reference 0,
          (
            load_means s place L (sort_of t) 2,
            (
              load_means s place L sort.Int 1,
              (call_virtual_means s place L g.write _ (Context (OnWriteElement t)) (named_member s.class.pool g.write _ g.is_write.0) (write_call s t), (λ at. refl, tt)),
            ),
          ),
        ),
      )

abbrev methods_of : List WordType → List Method
methods_of ts = flat_map (λ t. element_getter_method t ∷ element_setter_method t ∷ []) ts

each_is : (s : Symbols) → own_name s.class ≡ helper_class → (k : ℕ) (ts : List WordType) (ms : List ElementMethods) → AllPut (λ i t. AreElements t) k ts s.class.pool ms → each (meaning s false) (flat_map both_of ms) ≡ Some (methods_of ts)
each_is s own k [] [] h = refl
each_is s own k [] (m ∷ ms) h = absurd h
each_is s own k (t ∷ ts) [] h = absurd h
each_is s own k (t ∷ ts) (m ∷ ms) h =
    let one = load_is s own t m.load h.0.load in
    let two = store_is s own t m.store h.0.store in
    let more = each_is s own (k + 1) ts ms h.1 in
    ap (each (meaning s false)) (flat_map-cons both_of m ms) ∙ rw one (rw two (rw more (ap (λ (l : List Method). Some l) (sym (flat_map-cons (λ t. element_getter_method t ∷ element_setter_method t ∷ []) t ts)))))

pub helper_is : HelperLaw
unfolding helper_file helper_parts every_method
helper_is s e =
    let x = bind_ok (helper_parts []) (λ made. Ok (file_of made.0 made.1)) s.class e in
    let a = bind_ok _ _ x.0 x.1 in
    let b = bind_ok _ _ x.0 a.2 in
    let c = bind_ok _ _ x.0 b.2 in
    let done = ok_is _ x.0 c.2 in
    let is : file_of (a.0.0, b.0.0, flat_map both_of c.0.0) c.0.1 ≡ s.class = ap (λ (y : (ℕ × ℕ × List Member) × Pool). file_of y.0 y.1) done ∙ ok_is _ s.class x.2 in
    let p = adds_class helper_class [] a.0 (omega arith) a.1 in
    let q = adds_class object_class a.0.1 b.0 p.short b.1 in
    let u = adds_all (λ i t. AreElements t) (λ i t. element_methods t) (λ i t. elements_put t) 0 element_types b.0.1 c.0 q.short c.1 in
    let here : Grown c.0.1 s.class.pool = subst (λ (d : ClassFile). Grown c.0.1 d.pool) is (grown_refl c.0.1) in
    let named : class_name c.0.1 a.0.0 ≡ Some helper_class = (p.facts c.0.1 (grown_trans a.0.1 b.0.1 c.0.1 q.grown u.grown)).0 in
    let own : own_name s.class ≡ helper_class = ap own_name (sym is) ∙ ap text_or_none named in
    ap (λ (d : ClassFile). each (meaning s false) d.methods) (sym is) ∙ each_is s own 0 element_types c.0.0 (u.facts s.class.pool here)
