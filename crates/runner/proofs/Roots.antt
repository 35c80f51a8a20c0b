-- What may be called from outside, of the program of classes: each marked method may make an attempt, and each static initialiser can be called alone.
use Rattle.std.proofs.Common.{◌≡◌, ◌⊎◌, inl, inr, ℕ, ℤ, List, [], ◌∷◌, ◌++◌, Option, Some, None, Result, Ok, Err, Bool, true, false, refl, sym, ap, ◌∙◌, subst, arith}
use Rattle.std.specs.Prelude.{◌≤ℤ◌, ◌&&◌, ◌||◌, not, IfSome, pos, int_lt, bytes_eq, codes, is_some, if◌then◌else◌, nat_eq, bit_and, filter}
use Rattle.std.specs.List.{AllByRecursion, flat_map}
use Rattle.std.proofs.lemmas.Int.{ints}
use Rattle.std.proofs.lemmas.Slice.Eq.{bytes_eq-Decides}
use Rattle.jmodel.specs.declared.mark.AnnotationFault.TheVariants.{Retries}
use Rattle.jmodel.specs.declared.class_file.FieldType.{FieldType}
use Rattle.jmodel.specs.declared.typing.VType.{VType}
use Rattle.jmodel.specs.declared.typing.VType.TheVariants as type
use Rattle.jmodel.specs.format.ClassFile.{Member, Pool, ClassFile}
use Rattle.jmodel.specs.format.Pool.{utf8, text_or_none}
use Rattle.jmodel.specs.format.ClassRules.{same_text}
use Rattle.objects.specs.linking.Members.{is_static, own_name}
use Rattle.jmodel.specs.format.Mark.{retries_in, answer}
use Rattle.objects.specs.linking.Classes.{Declared, methods_in, full_name, in_start_order}
use Rattle.objects.specs.linking.Code.{attempts_in, mark_retries, names_initialiser, is_initialiser, retries_of, is_root}
use Rattle.jmodel.specs.format.Descriptor.{Signature}
use Rattle.jmodel.specs.format.DescriptorReading.{types_at, result_of, signature_of}
use Rattle.objects.specs.linking.Faults.{mark_fault}
use Rattle.objects.specs.linking.Constructs.{is_bad_call}
use Rattle.objects.specs.linking.Resolution.{holds_of}
use Rattle.objects.specs.semantics.Program.{Method, Program, method_at}
use Rattle.objects.specs.history.Journal.{IsRootCall}
use Rattle.objects.specs.linking.Layout.{class_read, declared_as}
use Rattle.objects.specs.typing.TypeOrder.{place_types}
use Rattle.objects.specs.linking.Linking.{receiver_types, parameter_types, taken_methods, is_initialiser_of, numbers_from, initialisers_in}
use Rattle.objects.specs.laws.LinkingLaw.{AreRead, IsUpward}
use Rattle.objects.proofs.Items.{IsAt, item, all_items, of_filter, of_flat}
use Rattle.objects.proofs.Links.{IsLinkedTo, method_from}
use Rattle.objects.proofs.ResolvedMembers.{static_dispatch}
use Rattle.objects.proofs.Upward.{upward_law}
use Rattle.objects.proofs.CleanCode.{IsGoodCall, good_call, clean_code, taken_clean}
use Rattle.objects.proofs.TakenMembers.{IsCalled, called_or_root, in_methods, unmarked, initialiser_static}
use Rattle.objects.proofs.ClassTypes.{each_none}
use Rattle.session.specs.Rule.{MayAttempt}

-- ---- marks

may_attempt : (pool : Pool) (m : Member) → IfSome (retries_of pool m) (λ n. pos 1 ≤ℤ n)
may_attempt pool m = by_kind (is_initialiser pool m)
  where
    by_test : (n : ℤ) (b : Bool) → int_lt n (pos 1) ≡ b → IfSome (attempts_in (if b then Err (Retries n) else Ok (Some (record { retries = n })))) (λ n. pos 1 ≤ℤ n)
    by_test n true h = tt
    by_test n false h = omega (arith, ints)

    by_read : (r : Result (Option ℤ) ℕ) → IfSome (attempts_in (answer r)) (λ n. pos 1 ≤ℤ n)
    by_read (Ok None) = tt
    by_read (Ok (Some n)) = by_test n (int_lt n (pos 1)) refl
    by_read (Err at) = tt

    by_kind : (b : Bool) → IfSome (if b then Some (pos 2147483647) else mark_retries pool m) (λ n. pos 1 ≤ℤ n)
    by_kind true = omega (arith, ints)
    by_kind false = by_read (retries_in pool m.attributes)

module _ (cs : List ClassFile) (P : Program) (l : IsLinkedTo cs P) where
  one_marked : (k : Method) → IsAt P.methods k → MayAttempt k
  one_marked k at =
      let f = method_from cs P l at.0 k at.1 in
      subst MayAttempt (sym f.meant.is) (may_attempt f.member.class.pool f.member.member)

  pub all_marked : AllByRecursion MayAttempt P.methods
  all_marked = all_items MayAttempt P.methods one_marked

-- ---- static initialisers

both : (a b : Bool) → (a && b) ≡ true → (a ≡ true) × (b ≡ true)
both true b e = (refl, e)
both false b e = cc

same_bytes : (a b : List ℕ) → bytes_eq a b ≡ true → a ≡ b
same_bytes a b e = (bytes_eq-Decides a b).0 e

root_parts : (pool : Pool) (m : Member) → is_root pool m ≡ true → (is_initialiser pool m ≡ true) ⊎ (is_some (mark_retries pool m) ≡ true)
root_parts pool m e = go (is_initialiser pool m) refl e
  where
    go : (b : Bool) → is_initialiser pool m ≡ b → is_some (if b then Some (pos 2147483647) else mark_retries pool m) ≡ true → (is_initialiser pool m ≡ true) ⊎ (is_some (mark_retries pool m) ≡ true)
    go true is e = inl is
    go false is e = inr e

-- the test of names is of texts
initialiser_text : (o : Option (List ℕ)) (b : Bool) → text_or_none o ≡ codes "<clinit>" → (b && not (same_text o (codes "<init>") || same_text o (codes "<clinit>"))) ≡ false
initialiser_text None b e = absurd (let fall : true ≡ false = sym ((bytes_eq-Decides [] (codes "<clinit>")).1 e) in cc)
initialiser_text (Some t) true e = rw e refl
initialiser_text (Some t) false e = refl

-- what the descriptor of static initialisers takes
abbrev parameters_in : Option Signature → List FieldType
parameters_in None = []
parameters_in (Some g) = g.parameters

takes_none : parameters_in (signature_of (codes "()V")) ≡ []
unfolding signature_of types_at result_of
takes_none = refl

module _ (cs : List ClassFile) (P : Program) (read : AreRead cs) (l : IsLinkedTo cs P) where
  abbrev up : IsUpward cs
  up = upward_law cs l.supers

  unmarked_rule : (d : Declared) → IsAt (methods_in cs) d → mark_fault d.class d.member ≡ None
  unmarked_rule d at = item (λ (d : Declared). mark_fault d.class d.member ≡ None) (methods_in cs) d (each_none (λ (d : Declared). mark_fault d.class d.member) (methods_in cs) l.marks) at

  -- a call has no name of static initialisers
  not_called : (d : Declared) → text_or_none (utf8 d.class.pool d.member.name) ≡ codes "<clinit>" → IsCalled cs d → ⊥
  not_called d name c =
      let clean = (clean_code cs c.caller (taken_clean cs l.constructs c.caller c.there) c.coded c.decodes c.instr c.inside).instr in
      let good : IsGoodCall cs c.caller.class c.instr.op c.name = good_call cs c.caller.class c.instr.op c.name (ap (holds_of (is_bad_call cs c.caller.class c.instr.op)) (sym c.names) ∙ clean.call) in
      let takes = both (bytes_eq c.name.name (full_name d).name && bytes_eq c.name.descriptor (full_name d).descriptor) _ c.takes in
      let same = same_bytes c.name.name (full_name d).name (both (bytes_eq c.name.name (full_name d).name) _ takes.0).0 in
      let is : bytes_eq c.name.name (codes "<clinit>") ≡ true = (bytes_eq-Decides c.name.name (codes "<clinit>")).1 (same ∙ name) in
      let none = good.initialiser in
      cc

  -- a taken method of that name is a static initialiser
  is_root_method : (d : Declared) → IsAt (taken_methods cs) d → text_or_none (utf8 d.class.pool d.member.name) ≡ codes "<clinit>" → is_initialiser d.class.pool d.member ≡ true
  is_root_method d at name = elim (called_or_root cs d at) [ inl r ↦ by_root (root_parts d.class.pool d.member r) | inr c ↦ absurd (not_called d name c) ]
    where
      by_root : (is_initialiser d.class.pool d.member ≡ true) ⊎ (is_some (mark_retries d.class.pool d.member) ≡ true) → is_initialiser d.class.pool d.member ≡ true
      by_root (inl i) = i
      by_root (inr k) =
          let none = unmarked d.class d.member (unmarked_rule d (in_methods cs d at)) (initialiser_text (utf8 d.class.pool d.member.name) (nat_eq (bit_and d.member.flags 0x500) 0) name) in
          let fall : true ≡ false = sym k ∙ ap (λ (o : Option ℤ). is_some o) none in
          cc

  -- each can be called alone
  one_root : (m : ℕ) (k : Method) → method_at P m ≡ Some k → names_initialiser k.name ≡ true → IsRootCall P m []
  one_root m k is named =
      let f = method_from cs P l m k is in
      let d = f.member in
      let at : IsAt (taken_methods cs) d = (m, f.there) in
      let parts = both (bytes_eq k.name.name (codes "<clinit>")) (bytes_eq k.name.descriptor (codes "()V")) named in
      let name : text_or_none (utf8 d.class.pool d.member.name) ≡ codes "<clinit>" = sym (ap (λ (k : Method). k.name.name) f.meant.is) ∙ same_bytes k.name.name (codes "<clinit>") parts.0 in
      let text : text_or_none (utf8 d.class.pool d.member.descriptor) ≡ codes "()V" = sym (ap (λ (k : Method). k.name.descriptor) f.meant.is) ∙ same_bytes k.name.descriptor (codes "()V") parts.1 in
      let initialises = is_root_method d at name in
      let static : is_static d.member ≡ true = initialiser_static cs read up l.constructs d at (unmarked_rule d (in_methods cs d at)) name in
      let one : Some f.meant.signature ≡ signature_of (codes "()V") = sym f.meant.described ∙ ap signature_of text in
      let takes : parameter_types cs f.meant.signature ≡ [] = ap (flat_map (λ (t : FieldType). place_types (declared_as cs t))) (ap parameters_in one ∙ takes_none) in
      let none : k.parameters ≡ [] = ap (λ (k : Method). k.parameters) f.meant.is ∙ ap (λ (ts : List VType). receiver_types cs d.class d.member ++ ts) takes
      ∙ ap (λ (b : Bool). (if b then [] else type.Ref (class_read cs (own_name d.class)) ∷ []) ++ []) static in
      record {
        method = k;
        retries = pos 2147483647;
        there = is;
        static = ap (λ (k : Method). k.dispatch) f.meant.is ∙ static_dispatch d.class d.member static;
        marked = ap (λ (k : Method). k.retries) f.meant.is ∙ ap (λ (b : Bool). if b then Some (pos 2147483647) else mark_retries d.class.pool d.member) initialises;
        given = rw none tt;
      }

  one_numbered : (name : List ℕ) (m : ℕ) → is_initialiser_of name (method_at P m) ≡ true → IsRootCall P m []
  one_numbered name m is = go (method_at P m) refl is
    where
      go : (o : Option Method) → method_at P m ≡ o → is_initialiser_of name o ≡ true → IsRootCall P m []
      go None e h = cc
      go (Some k) e h = one_root m k e (both (names_initialiser k.name) _ h).0

  -- each static initialiser that runs can be called alone
  pub all_roots : AllByRecursion (λ m. IsRootCall P m []) (initialisers_in cs P)
  all_roots = all_items (λ m. IsRootCall P m []) (initialisers_in cs P) one
    where
      one : (m : ℕ) → IsAt (initialisers_in cs P) m → IsRootCall P m []
      one m at =
          let in_class = of_flat (λ (c : ClassFile). filter (λ m. is_initialiser_of (own_name c) (method_at P m)) (numbers_from 0 P.methods)) (in_start_order cs) m at in
          let passes = of_filter (λ m. is_initialiser_of (own_name in_class.0) (method_at P m)) (numbers_from 0 P.methods) m in_class.2 in
          one_numbered (own_name in_class.0) m passes.1
