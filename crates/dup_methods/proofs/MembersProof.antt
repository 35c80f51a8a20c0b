-- The law of duplicates as whole members.
use Rattle.std.proofs.Common.{◌≡◌, ℕ, ◌+◌, ◌<◌, true, false, [], ◌∷◌, ◌++◌, length, Option, Some, None, Result, Ok, refl, sym, ap, ◌∙◌, subst, inl, inr}
use Rattle.std.specs.Prelude.{option_and_then}
use Rattle.jmodel.specs.declared.refusal.Refusal.{Refusal}
use Rattle.jmodel.specs.format.ClassFile.{Member, Pool, ClassFile}
use Rattle.objects.specs.linking.Classes.{Declared}
use Rattle.objects.specs.linking.Code.{Coded}
use Rattle.jmodel.specs.format.PoolAdding.{IsLonger}
use Rattle.objects.specs.semantics.Program.{Method}
use Rattle.objects.specs.linking.Constructs.{is_float_descriptor}
use Rattle.objects.specs.linking.Decoding.{Symbols}
use Rattle.objects.specs.linking.Linking.{Body, no_body, receiver_types, parameter_types, method_of, decoded_member, has_no_code}
use Rattle.objects.specs.rewriting.Relinking.{decoded_or_none}
use Rattle.objects.specs.rewriting.Rewriting.{context, duplicate_method}
use Rattle.objects.proofs.LinkedMethods.{coded_or_not}
use Rattle.member_code.specs.Meaning.{meaning}
use Rattle.member_code.specs.Names.{duplicate_named}
use Rattle.member_code.proofs.Grown.{Grown}
use Rattle.member_code.proofs.Puts.{IsTypedAt, adds_typed}
use Rattle.dup_methods.specs.Originals.{Original}
use Rattle.dup_methods.specs.Duplicates.{duplicate_flags, duplicate_with}
use Rattle.dup_methods.specs.DuplicateLaw.{ReadsAlike, DuplicateLaw}
use Rattle.dup_methods.proofs.Widened.{wider}
use Rattle.dup_methods.proofs.KeptFlags.{code_stays, bare_unmarked}
use Rattle.dup_methods.proofs.Heads.{IsHeadOf, head_is}
use Rattle.dup_methods.proofs.Copied.{IsMeantAs, meant_as, made_as, head_means, bare_duplicate}
use Rattle.dup_methods.proofs.Members.{IsBareCopy, split, copy_parts, bare_parts}
use Rattle.dup_methods.proofs.Whole.{few_kept, longer}
use Rattle.dup_methods.proofs.CopiesAre.{copy_is}

-- the duplicate of a method without code
module _ (O : Original) (s0 s : Symbols) (pool : Pool) (r : Member × Pool) (alike : ReadsAlike s0 s O.member) (flagged : has_no_code O.member ≡ true) (M : IsMeantAs s0 O.member None O.method) (floatless : is_float_descriptor O.method.name.descriptor ≡ false)
    (short : length pool < 65535) (C : IsBareCopy O pool r) (rest : IsLonger r.1 s.class.pool) where
  abbrev made : Member
  made = record { flags = duplicate_flags O.member.flags; name = C.texts.0.0; descriptor = C.texts.0.1; attributes = [] }

  named : IsTypedAt (duplicate_named O.method.name).name (duplicate_named O.method.name).descriptor s.class.pool C.texts.0
  named = (adds_typed (duplicate_named O.method.name).name (duplicate_named O.method.name).descriptor pool C.texts short C.texts_are).facts s.class.pool (subst (λ (p : Pool). Grown p s.class.pool) C.left (longer r.1 s.class.pool rest))

  head : IsHeadOf s made O.method M.signature
  head = head_is s0 s O.member made O.method M.signature M.body M.signed M.is alike floatless (few_kept O [] C.arguments).0 refl named.0 named.1 (bare_unmarked s.class.pool (duplicate_flags O.member.flags) C.texts.0.0 C.texts.0.1)

  decodes : decoded_member (record { class = s.class; member = made }) ≡ Ok None
  decodes = let f = code_stays O.member made refl ∙ flagged in rw f refl

  abbrev old : ℕ
  old = length (receiver_types s0.classes s0.class O.member ++ parameter_types s0.classes M.signature)

  body_is : M.body ≡ no_body old
  body_is = the_body (no_body old) M.body M.bodied
    where
      the_body : (a b : Body) → Some a ≡ Some b → b ≡ a
      the_body a b e = let same : a ≡ b = cc in sym same

  none : O.method.ops ≡ []
  none = ap (λ (k : Method). k.ops) M.is ∙ ap (λ (b : Body). b.ops) body_is

  locals : O.method.locals ≡ O.method.places
  locals = ap (λ (k : Method). k.locals) M.is ∙ ap (λ (b : Body). b.locals) body_is ∙ sym (ap (λ (k : Method). k.places) M.is)

  bare_is : meaning s true r.0 ≡ Some (duplicate_method O.program O.method O.table)
  bare_is =
      ap (meaning s true) C.member
      ∙ head_means s made O.method M.signature head None decodes (no_body (length (receiver_types s.classes s.class made ++ parameter_types s.classes (wider M.signature)))) refl
      ∙ ap (λ (n : ℕ). Some (made_as (duplicate_named O.method.name) O.method.dispatch (O.method.parameters ++ context ∷ []) (O.method.places + 1) n 0 O.method.result None [] [])) head.places
      ∙ ap (λ (k : Method). Some k) (sym (bare_duplicate O.program O.method O.table none locals))

-- what is meant is meant by what was decoded
meant_by : (s0 : Symbols) (O : Original) (o : Option Coded) → s0.class ≡ O.class → decoded_member (record { class = O.class; member = O.member }) ≡ Ok o → meaning s0 true O.member ≡ Some O.method → IsMeantAs s0 O.member o O.method
meant_by s0 O o same decodes e =
    let here : decoded_member (record { class = s0.class; member = O.member }) ≡ Ok o = ap (λ (c : ClassFile). decoded_member (record { class = c; member = O.member })) same ∙ decodes in
    meant_as s0 O.member o O.method (sym (ap (λ (x : Result (Option Coded) Refusal). option_and_then (method_of s0 true O.member) (decoded_or_none x)) here) ∙ e)

-- every duplicate, with code or without
pub members_are : DuplicateLaw
members_are O s0 s room pool r ties alike same bytes means source floatless front short told rest =
    let p = split room O pool r told in
    let d : Declared = record { class = O.class; member = O.member } in
    elim (coded_or_not (record { class = O.class; member = O.member }) p.coded p.decodes) [
      | inl n ↦ (
          let M = meant_by s0 O None same (p.decodes ∙ ap (λ (o : Option Coded). Ok o) n.0) means in
          let C = bare_parts O pool r (ap (λ (o : Option Coded). duplicate_with O o pool) (sym n.0) ∙ p.makes) in
          bare_is O s0 s pool r alike n.1 M floatless short C rest)
      | inr y ↦ (
          let M = meant_by s0 O (Some y.0) same (p.decodes ∙ ap (λ (o : Option Coded). Ok o) y.1) means in
          let C = copy_parts O y.0 pool r (ap (λ (o : Option Coded). duplicate_with O o pool) (sym y.1) ∙ p.makes) in
          copy_is O s0 s y.0 pool r ties alike same bytes y.2 y.3 M source floatless front short C rest)
    ]
