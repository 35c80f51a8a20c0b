-- A method of an original class means with the symbols of its rewritten class what it meant.
use Rattle.std.proofs.Common.{◌≡◌, inl, inr, ℕ, ℤ, List, ◌++◌, length, Option, Some, None, Result, Ok, Err, true, refl, sym, ap, ◌∙◌}
use Rattle.std.specs.Prelude.{option_map, option_and_then}
use Rattle.jmodel.specs.declared.name.MethodName.{MethodName}
use Rattle.jmodel.specs.declared.refusal.Refusal.{Refusal}
use Rattle.jmodel.specs.declared.typing.VType.{VType}
use Rattle.jmodel.specs.format.ClassFile.{Member, ClassFile}
use Rattle.jmodel.specs.format.Pool.{MemberName, member_name}
use Rattle.jmodel.specs.format.ClassRules.{IsMethod}
use Rattle.objects.specs.linking.Classes.{Declared, full_name}
use Rattle.objects.specs.linking.Code.{Coded, decoded, retries_of}
use Rattle.jmodel.specs.format.Descriptor.{Signature}
use Rattle.objects.specs.declared.op.Dispatch.{Dispatch}
use Rattle.objects.specs.semantics.Program.{Method}
use Rattle.objects.specs.linking.Decoding.{Symbols}
use Rattle.objects.specs.linking.Linking.{Body, dispatch_of, receiver_types, parameter_types, result_type, body_of, method_with, signature_in, shaped, method_of, decoded_member, taken_methods, original_symbols, constructs_fault}
use Rattle.objects.specs.laws.LinkingLaw.{AreRead}
use Rattle.objects.specs.rewriting.Relinking.{decoded_or_none}
use Rattle.objects.proofs.Items.{IsAt}
use Rattle.objects.proofs.Links.{IsMeant, meant}
use Rattle.objects.proofs.LinkedMethods.{coded_or_not}
use Rattle.member_code.specs.Meaning.{meaning}
use Rattle.rewritten_names.specs.LeadsLaw.{IsPlain}
use Rattle.rewritten_code.specs.OldLaw.{member_in, IsSameHead}
use Rattle.rewritten_code.proofs.CodeKept.{member_keeps}
use Rattle.rewritten_code.proofs.Instructions.{IsAlike}
use Rattle.rewritten_code.proofs.Bodies.{body_kept}

-- a method whose frames count, of these parts
abbrev method_from : MethodName → Dispatch → List VType → Option VType → Option ℤ → Body → Method
method_from name d parameters result retries b = record {
  name = name;
  dispatch = d;
  parameters = parameters;
  places = length parameters;
  locals = b.locals;
  max_stack = b.max_stack;
  result = result;
  counted = true;
  retries = retries;
  ops = b.ops;
  catches = b.catches;
}

-- of one head it is one method
same_method : (s0 s : Symbols) (m : Member) → IsSameHead s0 s m → (g : Signature) → signature_in (member_in s0 m) ≡ Some g → (b : Body) → method_with s true m g b ≡ method_with s0 true m g b
same_method s0 s m H g e b =
    let takes : receiver_types s.classes s.class m ++ parameter_types s.classes g ≡ receiver_types s0.classes s0.class m ++ parameter_types s0.classes g =
    ap (λ (l : List VType). l ++ parameter_types s.classes g) H.receiver ∙ ap (λ (l : List VType). receiver_types s0.classes s0.class m ++ l) (H.parameters g e) in
    ap (λ (n : MethodName). method_from n (dispatch_of s.class m) (receiver_types s.classes s.class m ++ parameter_types s.classes g) (result_type s.classes g) (retries_of s.class.pool m) b) H.name
    ∙ ap (λ (d : Dispatch). method_from (full_name (member_in s0 m)) d (receiver_types s.classes s.class m ++ parameter_types s.classes g) (result_type s.classes g) (retries_of s.class.pool m) b) H.dispatch
    ∙ ap (λ (l : List VType). method_from (full_name (member_in s0 m)) (dispatch_of s0.class m) l (result_type s.classes g) (retries_of s.class.pool m) b) takes
    ∙ ap (λ (r : Option VType). method_from (full_name (member_in s0 m)) (dispatch_of s0.class m) (receiver_types s0.classes s0.class m ++ parameter_types s0.classes g) r (retries_of s.class.pool m) b) (H.result g e)
    ∙ ap (λ (n : Option ℤ). method_from (full_name (member_in s0 m)) (dispatch_of s0.class m) (receiver_types s0.classes s0.class m ++ parameter_types s0.classes g) (result_type s0.classes g) n b) H.retries

module _ (cs : List ClassFile) (read : AreRead cs) (constructs : constructs_fault cs ≡ None) (c : ClassFile) (m : Member) (taken : IsAt (taken_methods cs) (record { class = c; member = m })) (fits : IsMethod c.pool m)
    (s : Symbols) (A : IsAlike (original_symbols cs c) s) (H : IsSameHead (original_symbols cs c) s m) (plain : (j : ℕ) (n : MemberName) → member_name c.pool j ≡ Some n → IsPlain n) where
  -- the method of the original class
  abbrev k : Declared
  k = record { class = c; member = m }

  abbrev s0 : Symbols
  s0 = original_symbols cs c

  -- what its code is read as
  coded_as : (o : Option Coded) → decoded_member k ≡ Ok o → (x : Coded) → o ≡ Some x → decoded c m ≡ Ok x
  coded_as o is x f = elim (coded_or_not k o is) [ inl n ↦ absurd (neither n.0) | inr y ↦ same y.0 y.1 y.2 ]
    where
      neither : o ≡ None → ⊥
      neither e = let fall : None ≡ Some x = sym e ∙ f in cc

      same : (y : Coded) → o ≡ Some y → decoded c m ≡ Ok y → decoded c m ≡ Ok x
      same y e is = let s : Some y ≡ Some x = sym e ∙ f in let t : y ≡ x = cc in is ∙ ap (λ (x : Coded). Ok x) t

  -- with its instructions it means what it meant
  method_kept : (o : Option Coded) → decoded_member k ≡ Ok o → (K : Method) → method_of s0 true m o ≡ Some K → method_of s true m o ≡ Some K
  method_kept o is K e =
      let M : IsMeant cs k o K = meant cs k o K e in
      let old : ℕ = length (receiver_types cs c m ++ parameter_types cs M.signature) in
      let takes : receiver_types s.classes s.class m ++ parameter_types s.classes M.signature ≡ receiver_types cs c m ++ parameter_types cs M.signature =
      ap (λ (l : List VType). l ++ parameter_types s.classes M.signature) H.receiver ∙ ap (λ (l : List VType). receiver_types cs c m ++ l) (H.parameters M.signature M.described) in
      let body : body_of s old o ≡ Some M.body = (body_kept cs read constructs k taken s A plain old o (coded_as o is)).kept M.body M.bodied in
      let now : body_of s (length (receiver_types s.classes s.class m ++ parameter_types s.classes M.signature)) o ≡ Some M.body = ap (λ (l : List VType). body_of s (length l) o) takes ∙ body in
      ap (option_and_then (shaped s true m o)) (H.signature ∙ M.described)
      ∙ ap (option_map (method_with s true m M.signature)) now
      ∙ ap (λ (x : Method). Some x) (same_method s0 s m H M.signature M.described M.body ∙ sym M.is)

  -- so does what its class has of it
  pub means : (K : Method) → meaning s0 true m ≡ Some K → meaning s true m ≡ Some K
  means K e = go (decoded_member k) refl e
    where
      go : (r : Result (Option Coded) Refusal) → decoded_member k ≡ r → option_and_then (method_of s0 true m) (decoded_or_none r) ≡ Some K → meaning s true m ≡ Some K
      go (Err r) is e = cc
      go (Ok o) is e =
          let now = (member_keeps c s.class A.pool m fits).keeps o is in
          ap (λ (r : Result (Option Coded) Refusal). option_and_then (method_of s true m) (decoded_or_none r)) now ∙ method_kept o is K e
