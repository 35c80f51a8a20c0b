-- The rewriting of a class keeps the rules of class files.
use Rattle.std.proofs.Common.{◌≡◌, ◌≢◌, ℕ, Bool, true, false, not, List, [], ◌∷◌, ◌++◌, map, cond, Option, Some, None, Ok, refl, sym, ap, ◌∙◌, subst}
use Rattle.std.specs.Prelude.{codes, pos, bytes_eq, filter, zip, slice_get, option_map, if◌then◌else◌}
use Rattle.std.specs.List.{AllByRecursion, AllZip}
use Rattle.std.proofs.lemmas.Slice.Eq.{bytes_eq-Decides}
use Rattle.jmodel.specs.declared.name.MethodName.{MethodName}
use Rattle.jmodel.specs.declared.refusal.Refusal.TheVariants.{Construct}
use Rattle.jmodel.specs.format.ClassFile.{Member, ClassFile}
use Rattle.jmodel.specs.format.ClassRules.{IsClassFile}
use Rattle.objects.specs.linking.Classes.{Declared, declared_in, full_name}
use Rattle.objects.specs.linking.Code.{Coded, decoded}
use Rattle.jmodel.specs.format.Instruction.{IsInstr, IsInstrOver}
use Rattle.jmodel.specs.declared.instruction.Instr.{Instr}
use Rattle.objects.specs.linking.Members.{are_distinct, field_name_of, own_name}
use Rattle.jmodel.specs.format.Reading.{◌>>=◌}
use Rattle.objects.specs.declared.op.Op.{Op}
use Rattle.objects.specs.declared.op.Catch.{Catch}
use Rattle.objects.specs.semantics.Program.{Field, Method, Program, method_at}
use Rattle.objects.specs.typing.Typing.{Table}
use Rattle.objects.specs.linking.ClassesFaults.{has_interface_init, has_twin_fields, member_fault}
use Rattle.objects.specs.linking.Constructs.{first_kind}
use Rattle.objects.specs.linking.Decoding.{ops_of}
use Rattle.objects.specs.linking.Linking.{has_no_code, Body, no_body, with_catches, body_of, decoded_member, taken_methods, original_symbols}
use Rattle.objects.specs.laws.LinkingLaw.{AreRead}
use Rattle.objects.proofs.AsRead.{is_file, unreserved}
use Rattle.objects.proofs.ClassTypes.{each_none}
use Rattle.objects.proofs.Items.{IsAt, item}
use Rattle.objects.proofs.Links.{IsLinkedTo, IsFrom, method_from}
use Rattle.objects.proofs.DeclaredMembers.{of_methods}
use Rattle.objects.proofs.TakenMembers.{in_methods}
use Rattle.rewritten_names.proofs.Apart.{IsOtherField, fields_apart, AreApart as AreApartIn}
use Rattle.const_pool.proofs.Takes.{bind_ok}
use Rattle.field_members.specs.Fields.{with_fields}
use Rattle.field_members.specs.Accessors.{with_accessors}
use Rattle.dup_methods.specs.Limits.{AddsLittle}
use Rattle.dup_methods.proofs.Little.{little_is}
use Rattle.rewriter.specs.Asked.{HasBytes, AreFiled}
use Rattle.rewriter.specs.Part.{own_fields, own_methods, part_of}
use Rattle.rewriter.specs.Rewritten.{original_of, originals, with_duplicates, wrapped_from, rewritten_part}
use Rattle.rewriter.proofs.Owned.{is_taken_of, taken_of}
use Rattle.member_code.proofs.Grown.{grown_trans}
use Rattle.rewritten_form.proofs.Lists.{all_where}
use Rattle.rewritten_form.proofs.Spelled.{spelled}
use Rattle.rewritten_form.proofs.Attempts.{attempts_fit}
use Rattle.rewritten_form.proofs.Keys.{Key, AreKeyed, AreUnlike, IsNamedFree, keyed_append, keys_grown, key_of, unlike, names_free, types_free}
use Rattle.rewritten_form.proofs.FieldPools.{IsLawfulField}
use Rattle.rewritten_form.proofs.FieldSteps.{IsOrdinary, AreApart, fields_step}
use Rattle.rewritten_form.proofs.ClassSteps.{methods_keyed}
use Rattle.rewritten_form.proofs.MethodSteps.{accessor_keys, accessors_step, accessors_unlike}
use Rattle.rewritten_form.proofs.CopyCode.{few_kept}
use Rattle.rewritten_form.proofs.CopySteps.{IsGood, copy_key, copy_keys, copies_step, wraps_step}
use Rattle.rewritten_form.proofs.CopyNames.{copied, copies_unlike, copies_away, unlike_where, all_mapped_where}
use Rattle.rewritten_form.proofs.CodeNames.{HasTexts, code_lawful}
use Rattle.rewritten_form.proofs.SourceTexts.{fields_lawful, method_lawful}

-- ---- fields of a class

module _ (name : List ℕ) where
  abbrev is_of : Field → Bool
  is_of f = bytes_eq f.class name

  -- none of these that has the class has this name
  others_where : (f : Field) → f.class ≡ name → (fs : List Field) → AllByRecursion (IsOtherField f) fs → AllByRecursion (λ (g : Field). f.name ≢ g.name) (filter is_of fs)
  others_where f own [] h = tt
  others_where f own (g ∷ fs) h = go (is_of g) refl (others_where f own fs h.1)
    where
      go : (b : Bool) → is_of g ≡ b → AllByRecursion (λ (g : Field). f.name ≢ g.name) (filter is_of fs) → AllByRecursion (λ (g : Field). f.name ≢ g.name) (cond b (g ∷ filter is_of fs) (filter is_of fs))
      go true q rest = (λ e. h.0 ((bytes_eq-Decides g.class name).0 q ∙ sym own) (sym e), rest)
      go false q rest = rest

  apart_where : (fs : List Field) → AreApartIn fs → AreApart (filter is_of fs)
  apart_where [] h = tt
  apart_where (f ∷ fs) h = go (is_of f) refl (apart_where fs h.1)
    where
      go : (b : Bool) → is_of f ≡ b → AreApart (filter is_of fs) → AreApart (cond b (f ∷ filter is_of fs) (filter is_of fs))
      go true q rest = (others_where f ((bytes_eq-Decides f.class name).0 q) fs h.0, rest)
      go false q rest = rest

no_kind : (a b : Bool) (x y : List ℕ) (name : List ℕ) → option_map (λ kind. Construct kind name (pos 0)) (first_kind ((x, a) ∷ (y, b) ∷ [])) ≡ None → b ≡ false
no_kind true b x y name e = cc
no_kind false true x y name e = cc
no_kind false false x y name e = refl

turned : (b : Bool) → not b ≡ false → b ≡ true
turned true e = refl
turned false e = cc

-- ---- the code of a method

-- the instructions that a method with code has
is_body : (k : Coded) (o : Option (List Op)) (c : Option (List Catch)) (b : Body) → with_catches k o c ≡ Some b → o ≡ Some b.ops
is_body k None c b e = cc
is_body k (Some ops) None b e = cc
is_body k (Some ops) (Some catches) b e =
    let same : record { locals = k.code.max_locals; max_stack = k.code.max_stack; ops = ops; catches = catches } ≡ b = cc in
    ap (λ (b : Body). Some b.ops) same

pub each_instr : (pool : _) (is : List Instr) → AllByRecursion (IsInstrOver pool) is → AllByRecursion IsInstr is
each_instr pool [] h = tt
each_instr pool (i ∷ is) h = (h.0.instr, each_instr pool is h.1)

-- the code of a member that has one
pub coded_is : (c : ClassFile) (m : Member) (coded : Coded) → decoded_member (record { class = c; member = m }) ≡ Ok (Some coded) → decoded c m ≡ Ok coded
coded_is c m coded told = go (has_no_code m) told
  where
    go : (b : Bool) → (if b then Ok None else (decoded c m >>= λ x. Ok (Some x))) ≡ Ok (Some coded) → decoded c m ≡ Ok coded
    go true e = cc
    go false e = let a = bind_ok (decoded c m) (λ x. Ok (Some x)) (Some coded) e in let s : a.0 ≡ coded = (let u = a.2 in cc) in a.1 ∙ ap (λ (y : Coded). Ok y) s

module _ (cs : List ClassFile) (P : Program) (read : AreRead cs) (l : IsLinkedTo cs P) (filed : AllByRecursion AreFiled cs) where
  -- a method of the program comes from a member
  abbrev pub ComesFrom : Declared → Method → Type 0
  ComesFrom d k = (i : ℕ) × (method_at P i ≡ Some k) × (slice_get (taken_methods cs) i ≡ Some d)

  -- the code of the member, by its symbols
  pub ops_by : (i : ℕ) (k : Method) (f : IsFrom cs i k) (d : Declared) → f.member ≡ d → (coded : Coded) → decoded_member d ≡ Ok (Some coded) → ops_of (original_symbols cs d.class) coded.instrs ≡ Some k.ops
  ops_by i k f d same coded told =
      let code : f.code ≡ Some coded = (let e = sym f.decoded ∙ ap decoded_member same ∙ told in cc) in
      let M = f.meant in
      let body = ap (body_of (original_symbols cs f.member.class) _) (sym code) ∙ M.bodied in
      let ops = is_body coded (ops_of (original_symbols cs f.member.class) coded.instrs) _ M.body body in
      let is : M.body.ops ≡ k.ops = sym (ap (λ (k : Method). k.ops) M.is) in
      ap (λ (d : Declared). ops_of (original_symbols cs d.class) coded.instrs) (sym same) ∙ ops ∙ ap (λ (os : List Op). Some os) is

  -- a member without code
  pub no_ops : (i : ℕ) (k : Method) (f : IsFrom cs i k) → f.code ≡ None → k.ops ≡ []
  no_ops i k f none =
      let M = f.meant in
      let body = ap (body_of (original_symbols cs f.member.class) _) (sym none) ∙ M.bodied in
      let same : [] ≡ M.body.ops = bare _ M.body body in
      ap (λ (k : Method). k.ops) M.is ∙ sym same
    where
      bare : (places : ℕ) (b : Body) → Some (no_body places) ≡ Some b → [] ≡ b.ops
      bare places b e = let same : no_body places ≡ b = cc in ap (λ (b : Body). b.ops) same

  module _ (c : ClassFile) (at : IsAt cs c) where
    rules : IsClassFile c
    rules = is_file cs read c at

    held : AllByRecursion HasBytes c.methods
    held = item AreFiled cs c filed at

    pub member_of : (d : Declared) → IsAt (taken_methods cs) d → d.class ≡ c → HasBytes d.member
    member_of d taken same =
        let m = (of_methods cs d (in_methods cs d taken)).1 in
        item HasBytes c.methods d.member held (subst (λ (x : ClassFile). IsAt x.methods d.member) same m)

    -- what is known of the original of a method
    good : (k : Method) (m : Member) (T : Table) → ComesFrom (record { class = c; member = m }) k → HasTexts k T → IsGood c (original_of P c (k, m) T)
    good k m T from texts =
        let f = method_from cs P l from.0 k from.1 in
        let d : Declared = record { class = c; member = m } in
        let same : f.member ≡ record { class = c; member = m } = (let e = sym f.there ∙ from.2 in cc) in
        let bytes : HasBytes m = member_of (record { class = c; member = m }) (from.0, from.2) refl in
        record {
          class = refl;
          held = bytes;
          little = little bytes f same f.code refl;
          method = λ few. method_lawful cs P read l from.0 k from.1 few;
          ops = λ coded told few.
              let code = coded_is c m coded told in
              let ops = ops_by from.0 k f (record { class = c; member = m }) same coded told in
              let spells = spelled c m coded bytes code in
              let kept = few_kept (original_of P c (k, m) T) coded.instrs few in
              code_lawful cs P read l c rules (original_of P c (k, m) T) refl refl coded.instrs ops (each_instr c.pool coded.instrs spells.instrs.each) kept.called texts;
        }
      where
        little : HasBytes m → (f : IsFrom cs from.0 k) → f.member ≡ record { class = c; member = m } → (o : Option Coded) → f.code ≡ o → AllByRecursion AddsLittle k.ops
        little bytes f same None e = subst (AllByRecursion AddsLittle) (sym (no_ops from.0 k f e)) tt
        little bytes f same (Some coded) e =
            let told : decoded_member (record { class = c; member = m }) ≡ Ok (Some coded) = ap decoded_member (sym same) ∙ f.decoded ∙ ap (λ (o : Option Coded). Ok o) e in
            let spells = spelled c m coded bytes (coded_is c m coded told) in
            little_is (original_symbols cs c) coded.instrs k.ops (each_instr c.pool coded.instrs spells.instrs.each) (ops_by from.0 k f (record { class = c; member = m }) same coded told)

    -- of all of a class, side by side
    all_good : (ms : List Member) (ks : List Method) (Ts : List Table) → AllZip ComesFrom (declared_in c ms) ks → AllZip HasTexts ks Ts → AllByRecursion (IsGood c) (originals P c (zip ks ms) Ts)
    all_good [] [] Ts h t = tt
    all_good [] (k ∷ ks) Ts h t = absurd h
    all_good (m ∷ ms) [] Ts h t = absurd h
    all_good (m ∷ ms) (k ∷ ks) [] h t = absurd t
    all_good (m ∷ ms) (k ∷ ks) (T ∷ Ts) h t = (good k m T h.0 t.0, all_good ms ks Ts h.1 t.1)

    -- their names are those of the members
    keys_are : (ms : List Member) (ks : List Method) (Ts : List Table) → AllZip ComesFrom (declared_in c ms) ks → AllZip HasTexts ks Ts → copy_keys (originals P c (zip ks ms) Ts) ≡ map copied (map (key_of c.pool) ms)
    keys_are [] [] Ts h t = refl
    keys_are [] (k ∷ ks) Ts h t = absurd h
    keys_are (m ∷ ms) [] Ts h t = absurd h
    keys_are (m ∷ ms) (k ∷ ks) [] h t = absurd t
    keys_are (m ∷ ms) (k ∷ ks) (T ∷ Ts) h t =
        let f = method_from cs P l h.0.0 k h.0.1 in
        let same : f.member ≡ record { class = c; member = m } = (let there = h.0.2 in let e = sym f.there ∙ there in cc) in
        let name : k.name ≡ full_name (record { class = c; member = m }) = ap (λ (k : Method). k.name) f.meant.is ∙ ap full_name same in
        let one : copy_key (original_of P c (k, m) T) ≡ copied (key_of c.pool m) = ap (λ (n : MethodName). copied (n.name, n.descriptor)) name in
        ap (λ (x : Key). x ∷ copy_keys (originals P c (zip ks ms) Ts)) one ∙ ap (λ (xs : List Key). copied (key_of c.pool m) ∷ xs) (keys_are ms ks Ts h.1 t.1)

    ordinary : IsOrdinary c
    ordinary =
        let none = item (λ c. member_fault c ≡ None) cs c (each_none member_fault cs l.members) at in
        record {
          free = unreserved cs read c at;
          names = turned (are_distinct (map (field_name_of c.pool) c.fields)) (no_kind (has_interface_init c) (has_twin_fields c) (codes "InterfaceInit") (codes "TwinField") (own_name c) none);
        }

    pub class_rules : (n id : ℕ) (Ts : List Table) (d : ClassFile) → AllZip ComesFrom (declared_in c (taken_of cs c)) (own_methods P c) → AllZip HasTexts (own_methods P c) Ts → rewritten_part P c (part_of cs P n id c) Ts ≡ Ok d → IsClassFile d
    class_rules n id Ts d from texts e =
        let os = originals P c (zip (own_methods P c) (taken_of cs c)) Ts in
        let fs = own_fields P c in
        let x = bind_ok (with_fields (own_fields P c) c) (λ fields. with_accessors (own_fields P c) fields >>= λ accessors. with_duplicates os accessors >>= λ copies. wrapped_from P c.pool 0 n id (zip c.methods (map (is_taken_of cs c) c.methods)) copies) d e in
        let y = bind_ok (with_accessors (own_fields P c) x.0) (λ accessors. with_duplicates os accessors >>= λ copies. wrapped_from P c.pool 0 n id (zip c.methods (map (is_taken_of cs c) c.methods)) copies) d x.2 in
        let z = bind_ok (with_duplicates os y.0) (λ copies. wrapped_from P c.pool 0 n id (zip c.methods (map (is_taken_of cs c) c.methods)) copies) d y.2 in
        let lawful = all_where IsLawfulField (λ (f : Field). bytes_eq f.class (own_name c)) P.fields (fields_lawful cs P read l) in
        let apart = apart_where (own_name c) P.fields (fields_apart cs P read l) in
        let O = ordinary in
        let olds : List Key = map (key_of c.pool) c.methods in
        let old = methods_keyed c.pool c.methods rules.methods in
        let unlike_olds = unlike c.pool c.methods olds old rules.distinct_methods in
        let named = names_free c.pool O.free c.methods olds old in
        let typed = types_free c.pool O.free c.methods olds old in
        let F = fields_step c rules O (own_fields P c) lawful apart x.0 x.1 in
        let keyed1 = subst (λ (ms : List Member). AreKeyed x.0.pool ms olds) (sym F.1) (keys_grown c.pool x.0.pool F.0.grown c.methods olds old) in
        let A = accessors_step x.0 F.0.rules olds keyed1 unlike_olds named (own_fields P c) lawful apart y.0 y.1 in
        let keyed2 = subst (λ (ms : List Member). AreKeyed y.0.pool ms (olds ++ accessor_keys (own_fields P c))) (sym A.are)
        (keyed_append y.0.pool x.0.methods A.added olds (accessor_keys (own_fields P c)) (keys_grown x.0.pool y.0.pool A.step.grown x.0.methods olds keyed1) A.keyed) in
        let unlike2 = accessors_unlike olds unlike_olds named (own_fields P c) apart in
        let G = grown_trans c.pool x.0.pool y.0.pool F.0.grown A.step.grown in
        let own : List Key = map (key_of c.pool) (taken_of cs c) in
        let keys = keys_are (taken_of cs c) (own_methods P c) Ts from texts in
        let own_unlike = unlike_where (key_of c.pool) (is_taken_of cs c) c.methods unlike_olds in
        let own_named = all_mapped_where IsNamedFree (key_of c.pool) (is_taken_of cs c) c.methods named in
        let C = copies_step c y.0 A.step.rules G (olds ++ accessor_keys (own_fields P c)) keyed2 unlike2 os (all_good (taken_of cs c) (own_methods P c) Ts from texts)
        (subst AreUnlike (sym keys) (copies_unlike own own_named own_unlike))
        (subst (λ (ks : List Key). AllByRecursion (λ (k : Key). AllByRecursion (λ (j : Key). ¬ (k ≡ j)) ks) (olds ++ accessor_keys (own_fields P c))) (sym keys) (copies_away olds own (own_fields P c) typed own_named)) z.0 z.1 in
        wraps_step P c.pool (λ i k s few. method_lawful cs P read l i k s few) (attempts_fit c.pool rules.pool.entries) 0 n id (zip c.methods (map (is_taken_of cs c) c.methods)) z.0 d C.step.rules z.2
