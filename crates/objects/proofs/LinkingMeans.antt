-- Classes that are read are linked to a program, or refused: what they have that is left out is refused, so each of their methods means something.
use Rattle.std.proofs.Common.{◌≡◌, inl, inr, ℕ, List, [], ◌∷◌, ◌++◌, length, Option, Some, None, Result, Ok, Err, Bool, true, false, refl, sym, ap, ◌∙◌}
use Rattle.std.specs.Prelude.{zip, ◌==◌, ◌||◌, if◌then◌else◌, is_some, option_map, IsSomeAnd}
use Rattle.std.specs.List.{AllByRecursion, flat_map}
use Rattle.jmodel.specs.declared.class_file.Handler.{Handler}
use Rattle.jmodel.specs.declared.instruction.Instr.{Instr}
use Rattle.jmodel.specs.declared.refusal.Refusal.{Refusal}
use Rattle.jmodel.specs.format.ClassFile.{Pool, ClassFile}
use Rattle.jmodel.specs.format.Pool.{utf8, class_name, text_or_none}
use Rattle.jmodel.specs.format.ClassRules.{IsMethod}
use Rattle.jmodel.specs.format.Descriptor.{Signature, IsMethodDescriptor}
use Rattle.jmodel.specs.format.DescriptorReading.{signature_of}
use Rattle.jmodel.specs.format.Instruction.{is_start, places_of_handler}
use Rattle.objects.specs.linking.Faults.{unless}
use Rattle.jmodel.specs.format.Reading.{◌>>=◌}
use Rattle.objects.specs.linking.Classes.{Declared}
use Rattle.objects.specs.linking.Code.{Coded, decoded, number_at}
use Rattle.objects.specs.linking.Each.{each}
use Rattle.const_pool.proofs.Signatures.{signature_again}
use Rattle.objects.specs.declared.op.Op.{Op}
use Rattle.objects.specs.declared.op.Catch.{Catch}
use Rattle.objects.specs.declared.op.Catches.{Catches}
use Rattle.objects.specs.declared.op.Catches.TheVariants.{Any}
use Rattle.objects.specs.semantics.Program.{Method, Program}
use Rattle.objects.specs.linking.Layout.{rows, fields_of, text_places}
use Rattle.objects.specs.linking.Decoding.{Symbols, op_of, ops_of, end_at, catches_named, catches_of, make_catch, catch_of}
use Rattle.objects.specs.linking.Linking.{with_catches, coded_body, body_of, receiver_types, parameter_types, method_with, signature_in, shaped, method_of, decoded_member, all_decoded, taken_methods, original_symbols, linked_methods, program_with, constructs_fault}
use Rattle.objects.specs.linking.ClassesFaults.{supers_fault, marks_fault, members_fault}
use Rattle.objects.specs.laws.LinkingLaw.{AreRead, MeaningLaw}
use Rattle.objects.proofs.Items.{IsAt, item, all_items, of_zip}
use Rattle.objects.proofs.AsRead.{is_file}
use Rattle.objects.proofs.DeclaredMembers.{of_methods}
use Rattle.objects.proofs.TakenMembers.{in_methods}
use Rattle.objects.proofs.Links.{decoded_at}
use Rattle.objects.proofs.LinkedMethods.{coded_or_not}
use Rattle.objects.proofs.CodeShapes.{code_read, HasClass, catches_named as caught_named}
use Rattle.objects.proofs.NamesMean.{map_some, then_some}
use Rattle.objects.proofs.CodeMeans.{each_some, no_each, start_there, op_means}

-- ---- exception entries

abbrev Starts : List Instr → ℕ → Type 0
Starts is n = is_start is n ≡ true

split : (Rule : ℕ → Type 0) (xs ys : List ℕ) → AllByRecursion Rule (xs ++ ys) → AllByRecursion Rule xs × AllByRecursion Rule ys
split Rule [] ys h = (tt, h)
split Rule (x ∷ xs) ys h = let r = split Rule xs ys h.1 in ((h.0, r.0), r.1)

caught : (b : Bool) (o : Option (List ℕ)) → (b || is_some o) ≡ true → is_some (if b then Some Any else option_map catches_named o) ≡ true
caught true o e = refl
caught false o e = map_some catches_named o e

all_there : (from to at : Option ℕ) (catches : Option Catches) → is_some from ≡ true → is_some to ≡ true → is_some at ≡ true → is_some catches ≡ true → is_some (make_catch from to at catches) ≡ true
all_there None to at catches e f g h = cc
all_there (Some from) None at catches e f g h = cc
all_there (Some from) (Some to) None catches e f g h = cc
all_there (Some from) (Some to) (Some at) None e f g h = cc
all_there (Some from) (Some to) (Some at) (Some catches) e f g h = refl

module _ (pool : Pool) (is : List Instr) (len : ℕ) where
  ends : (h : Handler) (b : Bool) → AllByRecursion (Starts is) (if b then h.handler ∷ [] else h.end ∷ h.handler ∷ []) → (is_some (if b then Some (length is) else number_at is h.end) ≡ true) × (is_start is h.handler ≡ true)
  ends h true s = (refl, s.0)
  ends h false s = (start_there is h.end s.0, s.1.0)

  catch_means : (h : Handler) → AllByRecursion (Starts is) (places_of_handler len h) → HasClass pool h → is_some (catch_of pool is len h) ≡ true
  catch_means h starts class =
      let e = ends h (h.end == len) starts.1 in
      all_there (number_at is h.start) (end_at is len h.end) (number_at is h.handler) (catches_of pool h.catch_type)
      (start_there is h.start starts.0) e.0 (start_there is h.handler e.1) (caught (h.catch_type == 0) (class_name pool h.catch_type) class)

  catches_mean : (hs : List Handler) → AllByRecursion (Starts is) (flat_map (places_of_handler len) hs) → AllByRecursion (HasClass pool) hs → AllByRecursion (λ h. is_some (catch_of pool is len h) ≡ true) hs
  catches_mean [] starts classes = tt
  catches_mean (h ∷ hs) starts classes =
      let s = split (Starts is) (places_of_handler len h) (flat_map (places_of_handler len) hs) starts in
      (catch_means h s.0 classes.0, catches_mean hs s.1 classes.1)

-- ---- methods

module _ (cs : List ClassFile) (read : AreRead cs) (constructs : constructs_fault cs ≡ None) where
  module _ (d : Declared) (taken : IsAt (taken_methods cs) d) where
    abbrev s : Symbols
    s = original_symbols cs d.class

    coded_means : (x : Coded) → decoded d.class d.member ≡ Ok x → is_some (coded_body s x) ≡ true
    coded_means x is =
        by (ops_of s x.instrs) (each (catch_of d.class.pool x.instrs (length x.code.code)) x.code.handlers)
        (each_some (op_of s x.instrs) x.instrs (all_items (λ i. is_some (op_of s x.instrs i) ≡ true) x.instrs (λ i at. op_means cs read d taken constructs x is i at)))
        (each_some (catch_of d.class.pool x.instrs (length x.code.code)) x.code.handlers
        (catches_mean d.class.pool x.instrs (length x.code.code) x.code.handlers (code_read d.class d.member x is).entries (caught_named d.class d.member x is)))
      where
        by : (os : Option (List Op)) (hs : Option (List Catch)) → is_some os ≡ true → is_some hs ≡ true → is_some (with_catches x os hs) ≡ true
        by None hs e f = cc
        by (Some os) None e f = cc
        by (Some os) (Some hs) e f = refl

    body_means : (places : ℕ) (o : Option Coded) → decoded_member d ≡ Ok o → is_some (body_of s places o) ≡ true
    body_means places o e = elim (coded_or_not d o e) [
      | inl n ↦ ap (λ o. is_some (body_of s places o)) n.0
      | inr x ↦ ap (λ o. is_some (body_of s places o)) x.1 ∙ coded_means x.0 x.2
    ]

    signature_there : (o : Option (List ℕ)) → IsSomeAnd o IsMethodDescriptor → (g : Signature) × (signature_of (text_or_none o) ≡ Some g)
    signature_there None h = absurd h
    signature_there (Some t) h = (h.0, signature_again t h.0 h.1)

    method_means : (o : Option Coded) → decoded_member d ≡ Ok o → is_some (method_of s true d.member o) ≡ true
    method_means o e =
        let at = of_methods cs d (in_methods cs d taken) in
        let fits : IsMethod d.class.pool d.member = item (IsMethod d.class.pool) d.class.methods d.member (is_file cs read d.class at.0).methods at.1 in
        let g = signature_there (utf8 d.class.pool d.member.descriptor) fits.member.typed in
        let places : ℕ = length (receiver_types s.classes s.class d.member ++ parameter_types s.classes g.0) in
        then_some (shaped s true d.member o) (signature_in (record { class = s.class; member = d.member })) g.0 g.1 (map_some (method_with s true d.member g.0) (body_of s places o) (body_means places o e))

  all_mean : (ks : List (Option Coded)) → all_decoded (taken_methods cs) ≡ Ok ks → linked_methods cs ks ≡ None → ⊥
  all_mean ks are none =
      let f = no_each _ (zip (taken_methods cs) ks) none in
      let z = of_zip (taken_methods cs) ks f.0 f.1 f.2 in
      let m = method_means f.1.0 (f.0, z.0) f.1.1 (decoded_at (taken_methods cs) ks are f.0 f.1.0 f.1.1 z.0 z.1) in
      let fall : false ≡ true = sym (ap (λ (o : Option Method). is_some o) f.3) ∙ m in
      cc

-- ---- linking

unless_none : (o : Option Refusal) (r : Result (Option Program) Refusal) → unless o r ≡ Ok None → (o ≡ None) × (r ≡ Ok None)
unless_none None r e = (refl, e)
unless_none (Some f) r e = cc

pub meaning_law : MeaningLaw
meaning_law cs read e =
    let a = unless_none (supers_fault cs) _ e in
    let b = unless_none (marks_fault cs) _ a.1 in
    let c = unless_none (members_fault cs) _ b.1 in
    by_code (all_decoded (taken_methods cs)) refl c.1
  where
    by_methods : constructs_fault cs ≡ None → (ks : List (Option Coded)) → all_decoded (taken_methods cs) ≡ Ok ks → (o : Option (List Method)) → linked_methods cs ks ≡ o
        → option_map {U = Program} (λ (ms : List Method). record { types = rows cs; texts = text_places cs; fields = fields_of cs; methods = ms }) o ≡ None → ⊥
    by_methods d ks are None is e = all_mean cs read d ks are is
    by_methods d ks are (Some ms) is e = cc

    by_code : (r : Result (List (Option Coded)) Refusal) → all_decoded (taken_methods cs) ≡ r → (r >>= λ ks. unless (constructs_fault cs) (Ok (program_with cs ks))) ≡ Ok None → ⊥
    by_code (Err r) are e = cc
    by_code (Ok ks) are e =
        let d = unless_none (constructs_fault cs) (Ok (program_with cs ks)) e in
        let none : program_with cs ks ≡ None = let f = d.1 in cc in
        by_methods d.0 ks are (linked_methods cs ks) refl none
