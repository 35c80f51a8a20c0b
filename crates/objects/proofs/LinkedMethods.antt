-- The methods of linked classes are source, and so are their names.
use Rattle.std.proofs.Common.{◌≡◌, ◌≢◌, ◌⊎◌, inl, inr, ℕ, ◌<◌, List, [], ◌∷◌, ◌++◌, length, take, drop, Option, Some, None, Result, Ok, Err, Bool, true, false, not, refl, sym, ap, subst, ◌∙◌, arith, append_assoc}
use Rattle.std.specs.Prelude.{◌==◌, if◌then◌else◌, bytes_eq, codes, bit_and, option_map, IsSomeAnd, IsSome}
use Rattle.std.specs.List.{AllByRecursion, flat_map}
use Rattle.std.proofs.lemmas.Slice.Eq.{bytes_eq-Decides}
use Rattle.std.proofs.lemmas.Option.{none-some, same_Some}
use Rattle.std.proofs.lemmas.Bool.Decides.{Decides-eqb}
use Rattle.jmodel.specs.declared.class_file.FieldType.{FieldType}
use Rattle.jmodel.specs.declared.refusal.Refusal.{Refusal}
use Rattle.jmodel.specs.declared.typing.VType.{VType}
use Rattle.jmodel.specs.declared.typing.VType.TheVariants as type
use Rattle.jmodel.specs.format.ClassFile.{ClassFile}
use Rattle.jmodel.specs.format.Pool.{utf8, text_or_none}
use Rattle.jmodel.specs.format.ClassRules.{IsMethod}
use Rattle.jmodel.specs.format.Descriptor.{Signature, IsMethodDescriptor}
use Rattle.jmodel.specs.format.DescriptorReading.{signature_of}
use Rattle.objects.specs.linking.Members.{is_static, own_name}
use Rattle.objects.specs.linking.Reserved.{is_reserved}
use Rattle.objects.specs.linking.Faults.{mark_fault}
use Rattle.jmodel.specs.format.Reading.{◌>>=◌}
use Rattle.objects.specs.linking.Classes.{Declared as DeclaredMember, methods_in, full_name}
use Rattle.objects.specs.linking.Code.{Coded, decoded}
use Rattle.objects.specs.linking.Each.{each}
use Rattle.objects.specs.declared.op.WordType.{WordType}
use Rattle.objects.specs.declared.op.WordType.TheVariants as word
use Rattle.objects.specs.declared.op.Dispatch.{Dispatch}
use Rattle.objects.specs.declared.op.Dispatch.TheVariants as dispatch
use Rattle.objects.specs.declared.op.Op.{Op}
use Rattle.objects.specs.declared.op.Catch.{Catch}
use Rattle.objects.specs.semantics.Program.{Declared, Method, Program, method_at}
use Rattle.objects.specs.typing.TypeOrder.{context_class, name_read, place_types}
use Rattle.objects.specs.typing.Typing.{is_constructor, arguments}
use Rattle.objects.specs.rewriting.Rewriting.{as_result, before_end, context_type, with_context}
use Rattle.objects.specs.linking.Resolution.{is_abstract_member}
use Rattle.objects.specs.linking.Layout.{rows, made_arrays, class_read, declared_as, word_kind, referred}
use Rattle.objects.specs.linking.Decoding.{Symbols, ops_of, catch_of}
use Rattle.objects.specs.linking.Linking.{is_exact, dispatch_of, receiver_types, parameter_types, result_type, Body, no_body, with_catches, coded_body, body_of, method_with, has_no_code, decoded_member, taken_methods, original_symbols}
use Rattle.objects.specs.typing.Source.{AreTypes, IsReadType, AreParameters, IsResult, HasObject, HasCode, IsSourceOp, IsSourceCatch, IsSourceMethod, AreNamed}
use Rattle.objects.specs.laws.LinkingLaw.{AreRead, IsUpward}
use Rattle.objects.proofs.Items.{IsAt, item, each_many}
use Rattle.objects.proofs.Elements.{never}
use Rattle.objects.proofs.AsRead.{is_file, unreserved}
use Rattle.objects.proofs.Flags.{abstract_by}
use Rattle.objects.proofs.ClassTypes.{each_none}
use Rattle.objects.proofs.MadeArrays.{IsMade}
use Rattle.objects.proofs.CastNames.{own_known}
use Rattle.objects.proofs.CleanCode.{clean_whole, taken_clean}
use Rattle.objects.proofs.Links.{IsLinkedTo, IsFrom, method_from}
use Rattle.objects.proofs.DeclaredMembers.{of_methods}
use Rattle.objects.proofs.TakenMembers.{in_methods, constructor_unmarked, codeless_unmarked, initialiser_static, constructor_over_object}
use Rattle.objects.proofs.ResolvedMembers.{over_dispatch, static_dispatch}
use Rattle.objects.proofs.CodeRead.{has_instr}
use Rattle.objects.proofs.LinkedCode.{ops_source, catches_source}
use Rattle.objects.proofs.LinkedTypes.{IsPart, part_in, context_reserved, AreReadIn, signature_reads, receiver_reads, own_read}

-- ---- types of parameters and results

one_parameter : (d : Declared) (ts : List VType) → AreParameters ts → AreParameters (place_types d ++ ts)
one_parameter d ts h = by d.word d.class
  where
    by : (w : WordType) (n : List ℕ) → AreParameters (place_types (record { word = w; class = n }) ++ ts)
    by word.Boolean n = h
    by word.Byte n = h
    by word.Char n = h
    by word.Short n = h
    by word.Int n = h
    by word.Long n = h
    by word.Reference n = h

all_parameters : (cs : List ClassFile) (ts : List FieldType) → AreParameters (flat_map (λ (t : FieldType). place_types (declared_as cs t)) ts)
all_parameters cs [] = tt
all_parameters cs (t ∷ ts) = one_parameter (declared_as cs t) (flat_map (λ (t : FieldType). place_types (declared_as cs t)) ts) (all_parameters cs ts)

one_result : (w : WordType) (n : List ℕ) → IsResult (Some (as_result (record { word = w; class = n })))
one_result word.Boolean n = tt
one_result word.Byte n = tt
one_result word.Char n = tt
one_result word.Short n = tt
one_result word.Int n = tt
one_result word.Long n = tt
one_result word.Reference n = tt

is_result : (cs : List ClassFile) (o : Option FieldType) → IsResult (option_map (λ (t : FieldType). as_result (declared_as cs t)) o)
is_result cs None = tt
is_result cs (Some t) = one_result (word_kind t) (referred cs t)

-- ---- texts

some_fits : (o : Option (List ℕ)) (Fits : List ℕ → Type 0) → IsSomeAnd o Fits → o ≡ Some (text_or_none o)
some_fits None Fits h = absurd h
some_fits (Some t) Fits h = refl

some_text : (o : Option (List ℕ)) → IsSome o → o ≡ Some (text_or_none o)
some_text None h = cc
some_text (Some t) h = refl

-- ways of calls that aren't abstract
not_static : dispatch.Static ≡ dispatch.Abstract → ⊥
not_static e = cc

not_exact : dispatch.Exact ≡ dispatch.Abstract → ⊥
not_exact e = cc

not_virtual : dispatch.Virtual ≡ dispatch.Abstract → ⊥
not_virtual e = cc

-- a duplicate's descriptor has the name of the context
context_inside : (d : List ℕ) → IsPart context_class (with_context d)
context_inside d = part_in context_class context_type (with_context d)
    (record { before = codes "L"; after = codes ";"; is = refl })
    (record { before = take (before_end false d) d; after = drop (before_end false d) d; is = append_assoc (take (before_end false d) d) context_type (drop (before_end false d) d) })

-- ---- bodies

-- the parts of the body of a method that has code
record IsBody (s : Symbols) (x : Coded) (b : Body) : Type 0 where
  ops : ops_of s x.instrs ≡ Some b.ops
  catches : each (catch_of s.class.pool x.instrs (length x.code.code)) x.code.handlers ≡ Some b.catches

is_body : (s : Symbols) (x : Coded) (b : Body) → coded_body s x ≡ Some b → IsBody s x b
is_body s x b e = go (ops_of s x.instrs) refl (each (catch_of s.class.pool x.instrs (length x.code.code)) x.code.handlers) refl e
  where
    go : (o : Option (List Op)) → ops_of s x.instrs ≡ o → (c : Option (List Catch)) → each (catch_of s.class.pool x.instrs (length x.code.code)) x.code.handlers ≡ c → with_catches x o c ≡ Some b → IsBody s x b
    go None a c d e = absurd (none-some b e)
    go (Some ops) a None d e = absurd (none-some b e)
    go (Some ops) a (Some catches) d e =
        let same = same_Some (record { locals = x.code.max_locals; max_stack = x.code.max_stack; ops = ops; catches = catches }) b e in
        record { ops = a ∙ ap (λ (b : Body). Some b.ops) same; catches = d ∙ ap (λ (b : Body). Some b.catches) same }

-- which members have code
pub coded_or_not : (d : DeclaredMember) (o : Option Coded) → decoded_member d ≡ Ok o → ((o ≡ None) × (has_no_code d.member ≡ true)) ⊎ ((x : Coded) × (o ≡ Some x) × (decoded d.class d.member ≡ Ok x) × (has_no_code d.member ≡ false))
coded_or_not d o e = go (has_no_code d.member) refl e
  where
    by : (r : Result Coded Refusal) → decoded d.class d.member ≡ r → has_no_code d.member ≡ false → (r >>= λ x. Ok (Some x)) ≡ Ok o
        → ((o ≡ None) × (has_no_code d.member ≡ true)) ⊎ ((x : Coded) × (o ≡ Some x) × (decoded d.class d.member ≡ Ok x) × (has_no_code d.member ≡ false))
    by (Err r) is coded e = cc
    by (Ok x) is coded e = inr (x, cc, is, coded)

    go : (b : Bool) → has_no_code d.member ≡ b → (if b then Ok None else (decoded d.class d.member >>= λ x. Ok (Some x))) ≡ Ok o
        → ((o ≡ None) × (has_no_code d.member ≡ true)) ⊎ ((x : Coded) × (o ≡ Some x) × (decoded d.class d.member ≡ Ok x) × (has_no_code d.member ≡ false))
    go true is e = inl (cc, is)
    go false is e = by (decoded d.class d.member) refl is e

-- ---- methods

module _ (cs : List ClassFile) (P : Program) (read : AreRead cs) (l : IsLinkedTo cs P) (up : IsUpward cs) (types : AreTypes P) (made : AllByRecursion (IsMade cs) (made_arrays cs)) where
  rows_are : P.types ≡ rows cs
  rows_are = ap (λ (P : Program). P.types) l.is

  unmarked_rule : (d : DeclaredMember) → IsAt (methods_in cs) d → mark_fault d.class d.member ≡ None
  unmarked_rule d at = item (λ (d : DeclaredMember). mark_fault d.class d.member ≡ None) (methods_in cs) d (each_none (λ (d : DeclaredMember). mark_fault d.class d.member) (methods_in cs) l.marks) at

  module _ (d : DeclaredMember) (taken : IsAt (taken_methods cs) d) where
    abbrev s : Symbols
    s = original_symbols cs d.class

    all : IsAt (methods_in cs) d
    all = in_methods cs d taken

    class_at : IsAt cs d.class
    class_at = (of_methods cs d all).0

    fits : IsMethod d.class.pool d.member
    fits = item (IsMethod d.class.pool) d.class.methods d.member (is_file cs read d.class class_at).methods (of_methods cs d all).1

    marks : mark_fault d.class d.member ≡ None
    marks = unmarked_rule d all

    abbrev name : List ℕ
    name = text_or_none (utf8 d.class.pool d.member.name)

    abbrev descriptor : List ℕ
    descriptor = text_or_none (utf8 d.class.pool d.member.descriptor)

    pub name_free : is_reserved name ≡ false
    name_free = unreserved cs read d.class class_at d.member.name name (some_text (utf8 d.class.pool d.member.name) fits.member.named)

    pub descriptor_free : is_reserved descriptor ≡ false
    descriptor_free = unreserved cs read d.class class_at d.member.descriptor descriptor (some_fits (utf8 d.class.pool d.member.descriptor) IsMethodDescriptor fits.member.typed)

    pub initialiser : name ≡ codes "<clinit>" → is_static d.member ≡ true
    initialiser e = initialiser_static cs read up l.constructs d taken marks e

    same_name : (t : List ℕ) → bytes_eq name t ≡ true → name ≡ t
    same_name t e = (bytes_eq-Decides name t).0 e

    module _ (o : Option Coded) (e : decoded_member d ≡ Ok o) (g : Signature) (described : signature_of descriptor ≡ Some g) (b : Body)
        (bodied : body_of s (length (receiver_types cs d.class d.member ++ parameter_types cs g)) o ≡ Some b) where
      abbrev K : Method
      K = method_with s true d.member g b

      reads : AreReadIn cs P read rows_are types g
      reads = signature_reads cs P read rows_are types descriptor g described descriptor_free

      parameters : AreParameters K.parameters
      parameters = by (is_static d.member)
        where
          by : (b : Bool) → AreParameters ((if b then [] else type.Ref (class_read cs (own_name d.class)) ∷ []) ++ parameter_types cs g)
          by true = all_parameters cs g.parameters
          by false = all_parameters cs g.parameters

      takes : AllByRecursion (IsReadType P) K.parameters
      takes = by (is_static d.member)
        where
          by : (b : Bool) → AllByRecursion (IsReadType P) ((if b then [] else type.Ref (class_read cs (own_name d.class)) ∷ []) ++ parameter_types cs g)
          by true = reads.takes
          by false = (receiver_reads cs P read rows_are types d.class class_at, reads.takes)

      -- a method over an object has it first
      over : is_static d.member ≡ false → K.parameters ≡ type.Ref (name_read P K.name.class) ∷ arguments K
      over is =
          let whole : K.parameters ≡ type.Ref (class_read cs (own_name d.class)) ∷ parameter_types cs g = ap (λ b. (if b then [] else type.Ref (class_read cs (own_name d.class)) ∷ []) ++ parameter_types cs g) is in
          let rest : arguments K ≡ parameter_types cs g = ap (λ b. arguments_of ((if b then [] else type.Ref (class_read cs (own_name d.class)) ∷ []) ++ parameter_types cs g)) is in
          whole ∙ ap (λ n. type.Ref n ∷ parameter_types cs g) (sym (own_read cs P read rows_are types l.supers made d.class class_at)) ∙ ap (λ ts. type.Ref (name_read P (own_name d.class)) ∷ ts) (sym rest)
        where
          arguments_of : List VType → List VType
          arguments_of [] = []
          arguments_of (t ∷ ts) = ts

      object : HasObject P K.dispatch K
      object = by (is_static d.member) refl
        where
          of : (x : Dispatch) → x ≢ dispatch.Static → K.parameters ≡ type.Ref (name_read P K.name.class) ∷ arguments K → HasObject P x K
          of dispatch.Static n e = absurd (n refl)
          of dispatch.Exact n e = e
          of dispatch.Virtual n e = e
          of dispatch.Abstract n e = (name_read P K.name.class, e)

          not_constructor : is_static d.member ≡ true → (b : Bool) → is_constructor K ≡ b → b ≡ false
          not_constructor is true c = absurd (never (is_static d.member) is (constructor_over_object cs read up l.constructs d taken marks (same_name (codes "<init>") c)))
          not_constructor is false c = refl

          by : (b : Bool) → is_static d.member ≡ b → HasObject P K.dispatch K
          by true is = subst (λ x. HasObject P x K) (sym (static_dispatch d.class d.member is)) (not_constructor is (is_constructor K) refl)
          by false is = of (dispatch_of d.class d.member) (over_dispatch d.class d.member is) (over is)

      unmarked : is_constructor K ≡ true → K.retries ≡ None
      unmarked c = constructor_unmarked d.class d.member marks (same_name (codes "<init>") c)

      -- where there is no code, there is none
      record AreParts (k : Method) : Type 0 where
        code : HasCode k.ops k
        entries : AllByRecursion (IsSourceCatch P k) k.catches
        each_op : AllByRecursion (IsSourceOp P k) k.ops

      parts : AreParts K
      parts = elim (coded_or_not d o e) [ inl n ↦ without n.0 n.1 | inr x ↦ with_code x.0 x.1 x.2 x.3 ]
        where
          without : o ≡ None → has_no_code d.member ≡ true → AreParts K
          without none flags =
              let same = same_Some (no_body (length (receiver_types cs d.class d.member ++ parameter_types cs g))) b (ap (body_of s (length (receiver_types cs d.class d.member ++ parameter_types cs g))) (sym none) ∙ bodied) in
              let retries = codeless_unmarked d.class d.member marks (clean_whole cs d (taken_clean cs l.constructs d taken)).native flags in
              subst (λ (b : Body). AreParts (method_with s true d.member g b)) same (record { code = (refl, retries); entries = tt; each_op = tt })

          with_code : (x : Coded) → o ≡ Some x → decoded d.class d.member ≡ Ok x → has_no_code d.member ≡ false → AreParts K
          with_code x some is flags =
              let body : IsBody s x b = is_body s x b (ap (body_of s (length (receiver_types cs d.class d.member ++ parameter_types cs g))) (sym some) ∙ bodied) in
              let many : length K.ops ≡ length x.instrs = each_many _ x.instrs b.ops body.ops in
              record {
                code = has_code b.ops (omega (arith, many, has_instr d.class d.member x is));
                entries = catches_source cs P read l types made d taken x is K many (length x.code.code) b.catches body.catches;
                each_op = ops_source cs P read l types made d taken x is K many b.ops body.ops;
              }
            where
              zero_is : (n : ℕ) → not (n == 0) ≡ false → n ≡ 0
              zero_is n e = (Decides-eqb n 0).0 (by (n == 0) e)
                where
                  by : (b : Bool) → not b ≡ false → b ≡ true
                  by true e = refl
                  by false e = absurd (never true refl e)

              not_abstract : is_abstract_member d.member ≡ false
              not_abstract = ap (λ n. not (n == 0)) (abstract_by d.member.flags (zero_is (bit_and d.member.flags 0x500) flags))

              no_abstract : dispatch_of d.class d.member ≢ dispatch.Abstract
              no_abstract same = by (is_static d.member) (is_exact d.class d.member) (sym (ap (λ a. if is_static d.member then dispatch.Static else (if is_exact d.class d.member then dispatch.Exact else if a then dispatch.Abstract else dispatch.Virtual)) not_abstract) ∙ same)
                where
                  by : (a b : Bool) → (if a then dispatch.Static else (if b then dispatch.Exact else dispatch.Virtual)) ≡ dispatch.Abstract → ⊥
                  by true b e = not_static e
                  by false true e = not_exact e
                  by false false e = not_virtual e

              has_code : (ops : List Op) → 0 < length ops → HasCode ops K
              has_code [] some = absurd (omega arith)
              has_code (x ∷ xs) some = no_abstract

      pub source : IsSourceMethod P K
      source =
          let p = parts in
          record {
            counted = refl;
            class = own_known cs P read rows_are types made l.supers d.class class_at;
            parameters = parameters;
            many = refl;
            object = object;
            code = p.code;
            result = is_result cs g.result;
            takes = takes;
            gives = reads.gives;
            unmarked = unmarked;
            entries = p.entries;
            each = p.each_op;
          }

  pub method_source : (i : ℕ) (k : Method) → method_at P i ≡ Some k → IsSourceMethod P k
  method_source i k h =
      let f = method_from cs P l i k h in
      let m = f.meant in
      subst (IsSourceMethod P) (sym m.is) (source f.member (i, f.there) f.code f.decoded m.signature m.described m.body m.bodied)

  -- ---- names

  over_object : (i : ℕ) (k : Method) (f : IsFrom cs i k) → k.dispatch ≢ dispatch.Static → is_static f.member.member ≡ false
  over_object i k f n = go (is_static f.member.member) refl
    where
      go : (b : Bool) → is_static f.member.member ≡ b → b ≡ false
      go true is = absurd (n (ap (λ (k : Method). k.dispatch) f.meant.is ∙ static_dispatch f.member.class f.member.member is))
      go false is = refl

  descriptor_is : (i : ℕ) (k : Method) (f : IsFrom cs i k) → k.name.descriptor ≡ (full_name f.member).descriptor
  descriptor_is i k f = ap (λ (k : Method). k.name.descriptor) f.meant.is

  name_is : (i : ℕ) (k : Method) (f : IsFrom cs i k) → k.name.name ≡ (full_name f.member).name
  name_is i k f = ap (λ (k : Method). k.name.name) f.meant.is

  arguments_are : (i : ℕ) (k : Method) (f : IsFrom cs i k) → is_static f.member.member ≡ false → arguments k ≡ parameter_types cs f.meant.signature
  arguments_are i k f is = ap arguments f.meant.is ∙ ap (λ b. arguments_of ((if b then [] else type.Ref (class_read cs (own_name f.member.class)) ∷ []) ++ parameter_types cs f.meant.signature)) is
    where
      arguments_of : List VType → List VType
      arguments_of [] = []
      arguments_of (t ∷ ts) = ts

  pub names : AreNamed P
  names = record {
    described = λ i j k o a b n m same.
        let f = method_from cs P l i k a in
        let h = method_from cs P l j o b in
        let text : (full_name f.member).descriptor ≡ (full_name h.member).descriptor = sym (descriptor_is i k f) ∙ same ∙ descriptor_is j o h in
        let one : Some f.meant.signature ≡ Some h.meant.signature = sym f.meant.described ∙ ap signature_of text ∙ h.meant.described in
        let signature = same_Some f.meant.signature h.meant.signature one in (
          arguments_are i k f (over_object i k f n) ∙ ap (parameter_types cs) signature ∙ sym (arguments_are j o h (over_object j o h m)),
          ap (λ (k : Method). k.result) f.meant.is ∙ ap (result_type cs) signature ∙ sym (ap (λ (k : Method). k.result) h.meant.is),
        );
    apart = λ i j k o a b same.
        let h = method_from cs P l j o b in
        let part : IsPart context_class (full_name h.member).descriptor = subst (IsPart context_class) (same ∙ descriptor_is j o h) (context_inside k.name.descriptor) in
        never (is_reserved (full_name h.member).descriptor) (context_reserved (full_name h.member).descriptor part) (descriptor_free h.member (j, h.there));
    initialisers = λ i k a same.
        let f = method_from cs P l i k a in
        ap (λ (k : Method). k.dispatch) f.meant.is ∙ static_dispatch f.member.class f.member.member (initialiser f.member (i, f.there) (sym (name_is i k f) ∙ same));
    reserved = λ i k a same.
        let f = method_from cs P l i k a in
        never (is_reserved (full_name f.member).name) (ap is_reserved (sym (name_is i k f) ∙ same)) (name_free f.member (i, f.there));
  }
