-- What classes that are linked to a program have: no fault, and for each of its methods the member that it comes from.
use Rattle.std.proofs.Common.{◌≡◌, ℕ, zero, suc, ◌<◌, List, [], ◌∷◌, ◌++◌, length, true, Option, Some, None, Result, Ok, Err, refl, sym, ap, subst, ◌∙◌, arith}
use Rattle.std.specs.Prelude.{slice_get, zip, option_map, option_and_then}
use Rattle.std.proofs.lemmas.Option.{slice_get-get_or}
use Rattle.jmodel.specs.declared.refusal.Refusal.{Refusal}
use Rattle.jmodel.specs.format.ClassFile.{ClassFile}
use Rattle.jmodel.specs.format.Reading.{◌>>=◌}
use Rattle.objects.specs.linking.Classes.{Declared}
use Rattle.objects.specs.linking.Code.{Coded}
use Rattle.jmodel.specs.format.Descriptor.{Signature}
use Rattle.objects.specs.linking.Faults.{unless}
use Rattle.objects.specs.semantics.Program.{Method, Program, method_at}
use Rattle.objects.specs.linking.ClassesFaults.{supers_fault, marks_fault, members_fault}
use Rattle.objects.specs.linking.Layout.{rows, fields_of, text_places}
use Rattle.objects.specs.linking.Linking.{Body, receiver_types, parameter_types, body_of, method_with, signature_in, shaped, method_of, decoded_member, all_decoded, taken_methods, original_symbols, linked_methods, program_with, constructs_fault, linking}
use Rattle.objects.proofs.Items.{from_each, each_many, of_zip}

-- ---- lists of results

pub decoded_at : (ks : List Declared) (os : List (Option Coded)) → all_decoded ks ≡ Ok os → (i : ℕ) (k : Declared) (o : Option Coded) → slice_get ks i ≡ Some k → slice_get os i ≡ Some o → decoded_member k ≡ Ok o
decoded_at [] os e i k o h l = cc
decoded_at (d ∷ ks) os e i k o h l = go (decoded_member d) refl (all_decoded ks) refl e (λ zs are j a b. decoded_at ks zs are j k o a b)
  where
    at : (x : Option Coded) (zs : List (Option Coded)) → decoded_member d ≡ Ok x → (i : ℕ) → slice_get (d ∷ ks) i ≡ Some k → slice_get (x ∷ zs) i ≡ Some o
        → ((j : ℕ) → slice_get ks j ≡ Some k → slice_get zs j ≡ Some o → decoded_member k ≡ Ok o) → decoded_member k ≡ Ok o
    at x zs is zero h l rest = let s : d ≡ k = cc in let t : x ≡ o = cc in ap decoded_member (sym s) ∙ is ∙ ap (λ (x : Option Coded). Ok x) t
    at x zs is (suc i) h l rest = rest i h l

    go : (r : Result (Option Coded) Refusal) → decoded_member d ≡ r → (rs : Result (List (Option Coded)) Refusal) → all_decoded ks ≡ rs → (r >>= λ first. rs >>= λ others. Ok (first ∷ others)) ≡ Ok os
        → ((zs : List (Option Coded)) → all_decoded ks ≡ Ok zs → (j : ℕ) → slice_get ks j ≡ Some k → slice_get zs j ≡ Some o → decoded_member k ≡ Ok o) → decoded_member k ≡ Ok o
    go (Err r) is rs are e rest = cc
    go (Ok x) is (Err r) are e rest = cc
    go (Ok x) is (Ok zs) are e rest = let s : os ≡ x ∷ zs = cc in at x zs is i h (subst (λ (l : List (Option Coded)). slice_get l i ≡ Some o) s l) (rest zs are)

decoded_many : (ks : List Declared) (os : List (Option Coded)) → all_decoded ks ≡ Ok os → length os ≡ length ks
decoded_many [] os e = let s : os ≡ [] = cc in ap length s
decoded_many (d ∷ ks) os e = go (decoded_member d) (all_decoded ks) refl e (decoded_many ks)
  where
    go : (r : Result (Option Coded) Refusal) (rs : Result (List (Option Coded)) Refusal) → all_decoded ks ≡ rs → (r >>= λ first. rs >>= λ others. Ok (first ∷ others)) ≡ Ok os
        → ((zs : List (Option Coded)) → all_decoded ks ≡ Ok zs → length zs ≡ length ks) → length os ≡ length (d ∷ ks)
    go (Err r) rs are e rest = cc
    go (Ok x) (Err r) are e rest = cc
    go (Ok x) (Ok zs) are e rest = let s : os ≡ x ∷ zs = cc in ap length s ∙ ap suc (rest zs are)

zip_many : {A B : Type 0} (xs : List A) (ys : List B) → length ys ≡ length xs → length (zip xs ys) ≡ length xs
zip_many [] ys e = refl
zip_many (x ∷ xs) [] e = absurd (omega (arith, e))
zip_many (x ∷ xs) (y ∷ ys) e = ap suc (zip_many xs ys (omega (arith, e)))

-- ---- the program

pub record IsLinkedTo (cs : List ClassFile) (P : Program) : Type 0 where
  pub supers : supers_fault cs ≡ None
  pub marks : marks_fault cs ≡ None
  pub members : members_fault cs ≡ None
  pub constructs : constructs_fault cs ≡ None
  pub codes : List (Option Coded)
  pub decoded : all_decoded (taken_methods cs) ≡ Ok codes
  pub methods : List Method
  pub meant : linked_methods cs codes ≡ Some methods
  pub is : P ≡ record { types = rows cs; texts = text_places cs; fields = fields_of cs; methods = methods }

unless_ok : (o : Option Refusal) (r : Result (Option Program) Refusal) (P : Program) → unless o r ≡ Ok (Some P) → (o ≡ None) × (r ≡ Ok (Some P))
unless_ok None r P e = (refl, e)
unless_ok (Some f) r P e = cc

pub links : (cs : List ClassFile) (P : Program) → linking cs ≡ Ok (Some P) → IsLinkedTo cs P
links cs P e =
    let a = unless_ok (supers_fault cs) _ P e in
    let b = unless_ok (marks_fault cs) _ P a.1 in
    let c = unless_ok (members_fault cs) _ P b.1 in
    by_code a.0 b.0 c.0 (all_decoded (taken_methods cs)) refl c.1
  where
    by_methods : supers_fault cs ≡ None → marks_fault cs ≡ None → members_fault cs ≡ None → constructs_fault cs ≡ None → (ks : List (Option Coded)) → all_decoded (taken_methods cs) ≡ Ok ks
        → (o : Option (List Method)) → linked_methods cs ks ≡ o → option_map (λ (ms : List Method). record { types = rows cs; texts = text_places cs; fields = fields_of cs; methods = ms }) o ≡ Some P → IsLinkedTo cs P
    by_methods a b c d ks are None is e = cc
    by_methods a b c d ks are (Some ms) is e =
        let s : P ≡ record { types = rows cs; texts = text_places cs; fields = fields_of cs; methods = ms } = cc in
        record { supers = a; marks = b; members = c; constructs = d; codes = ks; decoded = are; methods = ms; meant = is; is = s }

    by_code : supers_fault cs ≡ None → marks_fault cs ≡ None → members_fault cs ≡ None → (r : Result (List (Option Coded)) Refusal) → all_decoded (taken_methods cs) ≡ r
        → (r >>= λ ks. unless (constructs_fault cs) (Ok (program_with cs ks))) ≡ Ok (Some P) → IsLinkedTo cs P
    by_code a b c (Err r) are e = cc
    by_code a b c (Ok ks) are e =
        let d = unless_ok (constructs_fault cs) (Ok (program_with cs ks)) P e in
        let some : program_with cs ks ≡ Some P = let f = d.1 in cc in
        by_methods a b c d.0 ks are (linked_methods cs ks) refl some

-- ---- its methods

-- a member, with its instructions, means this
pub record IsMeant (cs : List ClassFile) (d : Declared) (o : Option Coded) (k : Method) : Type 0 where
  pub signature : Signature
  pub body : Body
  pub described : signature_in d ≡ Some signature
  pub bodied : body_of (original_symbols cs d.class) (length (receiver_types cs d.class d.member ++ parameter_types cs signature)) o ≡ Some body
  pub is : k ≡ method_with (original_symbols cs d.class) true d.member signature body

pub meant : (cs : List ClassFile) (d : Declared) (o : Option Coded) (k : Method) → method_of (original_symbols cs d.class) true d.member o ≡ Some k → IsMeant cs d o k
meant cs d o k e = by_signature (signature_in d) refl e
  where
    by_body : (g : Signature) → signature_in d ≡ Some g → (b : Option Body) → body_of (original_symbols cs d.class) (length (receiver_types cs d.class d.member ++ parameter_types cs g)) o ≡ b
        → option_map (method_with (original_symbols cs d.class) true d.member g) b ≡ Some k → IsMeant cs d o k
    by_body g is None has e = cc
    by_body g is (Some b) has e = let same : k ≡ method_with (original_symbols cs d.class) true d.member g b = cc in record { signature = g; body = b; described = is; bodied = has; is = same }

    by_signature : (g : Option Signature) → signature_in d ≡ g → option_and_then (shaped (original_symbols cs d.class) true d.member o) g ≡ Some k → IsMeant cs d o k
    by_signature None is e = cc
    by_signature (Some g) is e = by_body g is (body_of (original_symbols cs d.class) (length (receiver_types cs d.class d.member ++ parameter_types cs g)) o) refl e

-- a method of the program, by its number
pub record IsFrom (cs : List ClassFile) (i : ℕ) (k : Method) : Type 0 where
  pub member : Declared
  pub code : Option Coded
  pub there : slice_get (taken_methods cs) i ≡ Some member
  pub decoded : decoded_member member ≡ Ok code
  pub meant : IsMeant cs member code k

module _ (cs : List ClassFile) (P : Program) (l : IsLinkedTo cs P) where
  pub methods_are : P.methods ≡ l.methods
  methods_are = ap (λ (P : Program). P.methods) l.is

  pub method_from : (i : ℕ) (k : Method) → method_at P i ≡ Some k → IsFrom cs i k
  method_from i k h =
      let f = from_each _ (zip (taken_methods cs) l.codes) l.methods l.meant i k (subst (λ (ms : List Method). slice_get ms i ≡ Some k) methods_are h) in
      let z = of_zip (taken_methods cs) l.codes i f.0 f.1 in
      record { member = f.0.0; code = f.0.1; there = z.0; decoded = decoded_at (taken_methods cs) l.codes l.decoded i f.0.0 f.0.1 z.0 z.1; meant = meant cs f.0.0 f.0.1 k f.2 }

  pub methods_many : length P.methods ≡ length (taken_methods cs)
  methods_many =
      ap length methods_are ∙ each_many _ (zip (taken_methods cs) l.codes) l.methods l.meant ∙ zip_many (taken_methods cs) l.codes (decoded_many (taken_methods cs) l.codes l.decoded)

  -- each member that is taken has a method
  pub method_there : (i : ℕ) → i < length (taken_methods cs) → (k : Method) × (method_at P i ≡ Some k)
  method_there i h = by P.methods (omega (arith, h, methods_many))
    where
      by : (ms : List Method) → i < length ms → (k : Method) × (slice_get ms i ≡ Some k)
      by [] h = absurd (omega (arith, h))
      by (m ∷ ms) h = (_, slice_get-get_or (m ∷ ms) i m h)
