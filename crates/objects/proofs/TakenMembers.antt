-- What is known of a method that is taken: it is marked, a static initialiser, or called by a taken one by its name. So static initialisers and
-- constructors among them are what their names say.
use Rattle.std.proofs.Common.{◌≡◌, ◌⊎◌, inl, inr, ℕ, suc, List, [], ◌∷◌, ◌++◌, length, Option, Some, None, Result, Ok, Err, Bool, true, false, not, refl, sym, ap, ◌∙◌, nat_eq}
use Rattle.std.specs.Prelude.{◌==◌, ◌&&◌, ◌||◌, bytes_eq, codes, bit_and, is_some, if◌then◌else◌, pos, find, ℤ}
use Rattle.std.specs.List.{flat_map, list_any}
use Rattle.std.proofs.lemmas.Slice.Eq.{bytes_eq-Decides}
use Rattle.std.proofs.lemmas.Bool.Decides.{Decides-eqb}
use Rattle.jmodel.specs.declared.refusal.Refusal.{Refusal}
use Rattle.jmodel.specs.declared.instruction.Instr.{Instr}
use Rattle.jmodel.specs.declared.mark.Atomic.{Atomic}
use Rattle.jmodel.specs.declared.mark.AnnotationFault.{AnnotationFault}
use Rattle.jmodel.specs.declared.mark.AnnotationFault.TheVariants.{Bad, Retries}
use Rattle.jmodel.specs.format.ClassFile.{Member, Pool, ClassFile}
use Rattle.jmodel.specs.format.Pool.{MemberName, utf8, text_or_none}
use Rattle.jmodel.specs.format.ClassRules.{same_text}
use Rattle.objects.specs.linking.Members.{is_static, own_name, name_of}
use Rattle.jmodel.specs.format.Mark.{mark_of}
use Rattle.jmodel.specs.format.Name.{printed}
use Rattle.objects.specs.linking.Superclasses.{super_name, with_above, lineage}
use Rattle.objects.specs.linking.Classes.{Declared, declared_in, methods_in, full_name}
use Rattle.objects.specs.linking.Code.{Coded, decoded, attempts_in, mark_retries, is_initialiser, retries_of, is_root}
use Rattle.objects.specs.linking.Taken.{invoked, is_taken_by, is_named_by, code_calls, calls, is_found, is_taken}
use Rattle.objects.specs.linking.Faults.{may_be_marked, fault_in, mark_fault}
use Rattle.objects.proofs.TakenLaws.{all_rounds}
use Rattle.objects.specs.linking.Resolution.{holds_of, is_in_folder, interface_names, ancestry, has_name, method_way, resolved_method}
use Rattle.objects.specs.linking.Constructs.{has_flag, is_misused, is_bad_call}
use Rattle.objects.specs.linking.Linking.{has_no_code, taken_methods, constructs_fault}
use Rattle.objects.specs.laws.LinkingLaw.{AreRead, IsUpward}
use Rattle.objects.proofs.Items.{IsAt, item, of_filter, any_item, found, finds, of_map, into_map, into_flat}
use Rattle.objects.proofs.Flags.{static_bit, not_abstract, has_code_by}
use Rattle.objects.proofs.ClassRows.{find_front}
use Rattle.objects.proofs.CleanCode.{IsClean, IsGoodCall, good_call, clean_code, taken_clean}
use Rattle.objects.proofs.DeclaredMembers.{HasName, of_methods, name_of_member, has_its_name, full_has_name, same_full, by_own_name, same_method}

-- ---- who calls it

pub record IsCalled (cs : List ClassFile) (m : Declared) : Type 0 where
  pub caller : Declared
  pub there : IsAt (taken_methods cs) caller
  pub coded : Coded
  pub decodes : decoded caller.class caller.member ≡ Ok coded
  pub instr : Instr
  pub inside : IsAt coded.instrs instr
  pub name : MemberName
  pub names : invoked caller.class.pool instr ≡ Some name
  pub takes : is_taken_by name (full_name m) ≡ true

either : (a b : Bool) → (a || b) ≡ true → (a ≡ true) ⊎ (b ≡ true)
either true b e = inl refl
either false b e = inr e

pub in_methods : (cs : List ClassFile) (m : Declared) → IsAt (taken_methods cs) m → IsAt (methods_in cs) m
in_methods cs m h = (of_filter (is_taken cs) (methods_in cs) m h).0

by_call : (cs : List ClassFile) (m k : Declared) → IsAt (taken_methods cs) k → calls k m ≡ true → IsCalled cs m
by_call cs m k h e = go (decoded k.class k.member) refl e
  where
    named : (x : Coded) → decoded k.class k.member ≡ Ok x → (i : Instr) → IsAt x.instrs i → (o : Option MemberName) → invoked k.class.pool i ≡ o → is_named_by o (full_name m) ≡ true → IsCalled cs m
    named x is i at None f e = cc
    named x is i at (Some n) f e = record { caller = k; there = h; coded = x; decodes = is; instr = i; inside = at; name = n; names = f; takes = e }

    go : (r : Result Coded Refusal) → decoded k.class k.member ≡ r → code_calls k.class.pool r (full_name m) ≡ true → IsCalled cs m
    go (Err r) is e = cc
    go (Ok x) is e =
        let a = any_item (λ (i : Instr). is_named_by (invoked k.class.pool i) (full_name m)) x.instrs e in
        named x is a.0 a.1 (invoked k.class.pool a.0) refl a.2

pub called_or_root : (cs : List ClassFile) (m : Declared) → IsAt (taken_methods cs) m → (is_root m.class.pool m.member ≡ true) ⊎ IsCalled cs m
called_or_root cs m h =
    let t = of_filter (is_taken cs) (methods_in cs) m h in
    let again : is_found cs (suc (length (methods_in cs))) m ≡ true = sym (item (λ m. is_taken cs m ≡ is_found cs (suc (length (methods_in cs))) m) (methods_in cs) m (all_rounds cs) t.0) ∙ t.1 in
    go (either (is_root m.class.pool m.member) _ again)
  where
    go : (is_root m.class.pool m.member ≡ true) ⊎ (list_any (λ k. calls k m) (taken_methods cs) ≡ true) → (is_root m.class.pool m.member ≡ true) ⊎ IsCalled cs m
    go (inl e) = inl e
    go (inr e) = let a = any_item (λ k. calls k m) (taken_methods cs) e in inr (by_call cs m a.0 a.1 a.2)

-- ---- marks

-- what may not be marked isn't
pub unmarked : (c : ClassFile) (m : Member) → mark_fault c m ≡ None → may_be_marked c.pool m ≡ false → mark_retries c.pool m ≡ None
unmarked c m e may = go (mark_of c.pool m) refl (ap (λ b. fault_in (printed (name_of c m)) b (mark_of c.pool m)) (sym may) ∙ e)
  where
    go : (r : Result (Option Atomic) AnnotationFault) → mark_of c.pool m ≡ r → fault_in (printed (name_of c m)) false r ≡ None → attempts_in r ≡ None
    go (Ok None) is e = refl
    go (Ok (Some a)) is e = cc
    go (Err (Bad at)) is e = cc
    go (Err (Retries n)) is e = cc

-- a method that is neither is called from outside no more
not_root : (pool : Pool) (m : Member) → is_initialiser pool m ≡ false → mark_retries pool m ≡ None → retries_of pool m ≡ None
not_root pool m a b = ap (λ c. if c then Some (pos 2147483647) else mark_retries pool m) a ∙ b

text_of : (o : Option (List ℕ)) (t : List ℕ) → text_or_none o ≡ t → bytes_eq [] t ≡ false → same_text o t ≡ true
text_of None t e f = let fall : true ≡ false = sym ((bytes_eq-Decides [] t).1 e) ∙ f in cc
text_of (Some u) t e f = (bytes_eq-Decides u t).1 e

other_text : (o : Option (List ℕ)) (t u : List ℕ) → text_or_none o ≡ t → bytes_eq t u ≡ false → bytes_eq [] u ≡ false → same_text o u ≡ false
other_text None t u e f g = refl
other_text (Some v) t u e f g = ap (λ v. bytes_eq v u) e ∙ f

constructor_text : (o : Option (List ℕ)) (b : Bool) → text_or_none o ≡ codes "<init>" → (b && not (same_text o (codes "<init>") || same_text o (codes "<clinit>"))) ≡ false
constructor_text o b e = let t = text_of o (codes "<init>") e refl in go b
  where
    go : (b : Bool) → (b && not (same_text o (codes "<init>") || same_text o (codes "<clinit>"))) ≡ false
    go true = let t = text_of o (codes "<init>") e refl in rw t refl
    go false = refl

initialiser_text : (o : Option (List ℕ)) (b : Bool) → text_or_none o ≡ codes "<clinit>" → (b && not (same_text o (codes "<init>") || same_text o (codes "<clinit>"))) ≡ false
initialiser_text o true e =
    let t = text_of o (codes "<clinit>") e refl in
    let u = other_text o (codes "<clinit>") (codes "<init>") e refl refl in
    rw (t, u) refl
initialiser_text o false e = refl

both : (a b : Bool) → (a && b) ≡ true → (a ≡ true) × (b ≡ true)
both true b e = (refl, e)
both false b e = cc

-- a constructor isn't called from outside
pub constructor_unmarked : (c : ClassFile) (m : Member) → mark_fault c m ≡ None → text_or_none (utf8 c.pool m.name) ≡ codes "<init>" → retries_of c.pool m ≡ None
constructor_unmarked c m e name = not_root c.pool m other (unmarked c m e (constructor_text (utf8 c.pool m.name) (nat_eq (bit_and m.flags 0x500) 0) name))
  where
    other : is_initialiser c.pool m ≡ false
    other =
        let u = other_text (utf8 c.pool m.name) (codes "<init>") (codes "<clinit>") name refl refl in
        ap (λ b. nat_eq (bit_and m.flags 0x408) 8 && (b && same_text (utf8 c.pool m.descriptor) (codes "()V"))) u ∙ last (nat_eq (bit_and m.flags 0x408) 8)
      where
        last : (a : Bool) → (a && false) ≡ false
        last true = refl
        last false = refl

-- nor is a method without code, of those that have no construct
pub codeless_unmarked : (c : ClassFile) (m : Member) → mark_fault c m ≡ None → has_flag 0x100 m ≡ false → has_no_code m ≡ true → retries_of c.pool m ≡ None
codeless_unmarked c m e native none = not_root c.pool m (go (is_initialiser c.pool m) refl) (unmarked c m e no_mark)
  where
    zero_is : (n : ℕ) → not (n == 0) ≡ false → n ≡ 0
    zero_is n e = (Decides-eqb n 0).0 (by (n == 0) e)
      where
        by : (b : Bool) → not b ≡ false → b ≡ true
        by true e = refl
        by false e = cc

    no_mark : may_be_marked c.pool m ≡ false
    no_mark = by (bit_and m.flags 0x500 == 0) none
      where
        by : (b : Bool) → not b ≡ true → (b && not (same_text (utf8 c.pool m.name) (codes "<init>") || same_text (utf8 c.pool m.name) (codes "<clinit>"))) ≡ false
        by true e = cc
        by false e = refl

    go : (b : Bool) → is_initialiser c.pool m ≡ b → b ≡ false
    go true is =
        let f = (both (nat_eq (bit_and m.flags 0x408) 8) _ is).0 in
        let all : bit_and m.flags 0x500 ≡ 0 = has_code_by m.flags (zero_is (bit_and m.flags 0x100) native) (not_abstract m.flags f) in
        let fall : true ≡ false = sym none ∙ ap (λ n. not (n == 0)) all in
        cc
    go false is = refl

-- ---- special names

root_parts : (pool : Pool) (m : Member) → is_root pool m ≡ true → (is_initialiser pool m ≡ true) ⊎ (is_some (mark_retries pool m) ≡ true)
root_parts pool m e = go (is_initialiser pool m) refl e
  where
    go : (b : Bool) → is_initialiser pool m ≡ b → is_some (if b then Some (pos 2147483647) else mark_retries pool m) ≡ true → (is_initialiser pool m ≡ true) ⊎ (is_some (mark_retries pool m) ≡ true)
    go true is e = inl is
    go false is e = inr e

-- the name by which it is called
record IsCalledBy (m : Declared) (n : MemberName) : Type 0 where
  name : n.name ≡ text_or_none (utf8 m.class.pool m.member.name)
  descriptor : n.descriptor ≡ text_or_none (utf8 m.class.pool m.member.descriptor)
  class : bytes_eq n.name (codes "<init>") ≡ true → n.class ≡ own_name m.class

called_name : {cs : List ClassFile} (m : Declared) (c : IsCalled cs m) → IsCalledBy m c.name
called_name m c =
    let a = both (bytes_eq c.name.name (full_name m).name && bytes_eq c.name.descriptor (full_name m).descriptor) (not (bytes_eq c.name.name (codes "<init>")) || bytes_eq c.name.class (full_name m).class) c.takes in
    let b = both (bytes_eq c.name.name (full_name m).name) (bytes_eq c.name.descriptor (full_name m).descriptor) a.0 in
    record {
      name = (bytes_eq-Decides c.name.name (full_name m).name).0 b.0;
      descriptor = (bytes_eq-Decides c.name.descriptor (full_name m).descriptor).0 b.1;
      class = λ is. (bytes_eq-Decides c.name.class (full_name m).class).0 (by (bytes_eq c.name.name (codes "<init>")) (bytes_eq c.name.class (full_name m).class) is a.1);
    }
  where
    by : (a b : Bool) → a ≡ true → (not a || b) ≡ true → b ≡ true
    by true b e f = f
    by false b e f = cc

special_op : (a b c : Bool) → a ≡ true → (a && (not b || c)) ≡ false → b ≡ true
special_op true true c e f = refl
special_op true false c e f = cc
special_op false b c e f = cc

if_true : (b x y : Bool) → b ≡ true → (if b then x else y) ≡ false → x ≡ false
if_true true x y e f = f
if_true false x y e f = cc

module _ (cs : List ClassFile) (read : AreRead cs) (up : IsUpward cs) (constructs : constructs_fault cs ≡ None) where
  call_of : (m : Declared) (c : IsCalled cs m) → IsClean cs c.caller c.instr
  call_of m c = (clean_code cs c.caller (taken_clean cs constructs c.caller c.there) c.coded c.decodes c.instr c.inside).instr

  good_call_of : (m : Declared) (c : IsCalled cs m) → IsGoodCall cs c.caller.class c.instr.op c.name
  good_call_of m c = good_call cs c.caller.class c.instr.op c.name (ap (holds_of (is_bad_call cs c.caller.class c.instr.op)) (sym c.names) ∙ (call_of m c).call)

  -- a method with the name of static initialisers is static
  pub initialiser_static : (m : Declared) → IsAt (taken_methods cs) m → mark_fault m.class m.member ≡ None → text_or_none (utf8 m.class.pool m.member.name) ≡ codes "<clinit>" → is_static m.member ≡ true
  initialiser_static m h e name = elim (called_or_root cs m h) [ inl r ↦ by_root (root_parts m.class.pool m.member r) | inr c ↦ absurd (by_caller c) ]
    where
      by_root : (is_initialiser m.class.pool m.member ≡ true) ⊎ (is_some (mark_retries m.class.pool m.member) ≡ true) → is_static m.member ≡ true
      by_root (inl i) = static_bit m.member.flags (both (nat_eq (bit_and m.member.flags 0x408) 8) _ i).0
      by_root (inr k) = let fall : true ≡ false = sym k ∙ ap (λ (o : Option ℤ). is_some o) (unmarked m.class m.member e (initialiser_text (utf8 m.class.pool m.member.name) (nat_eq (bit_and m.member.flags 0x500) 0) name)) in cc

      by_caller : IsCalled cs m → ⊥
      by_caller c =
          let t = called_name m c in
          let fall : true ≡ false = sym ((bytes_eq-Decides c.name.name (codes "<clinit>")).1 (t.name ∙ name)) ∙ (good_call_of m c).initialiser in
          cc

  -- the way of a class's methods begins with its own
  own_first : (c : ClassFile) → IsAt cs c → method_way cs (own_name c) ≡ (c ∷ lineage cs (super_name c)) ++ flat_map (λ c. flat_map (ancestry cs) (interface_names c)) (lineage cs (own_name c))
  own_first c h =
      let named : lineage cs (own_name c) ≡ c ∷ lineage cs (super_name c) = up.supers (own_name c) ∙ ap (with_above (λ c. lineage cs (super_name c))) (by_own_name cs read c h) in
      ap (λ (l : List ClassFile). l ++ flat_map (λ c. flat_map (ancestry cs) (interface_names c)) (lineage cs (own_name c))) named

  -- a method that its own class is asked for is the one that is found
  pub own_resolved : (m : Declared) → IsAt (methods_in cs) m → (n : MemberName) → n.class ≡ own_name m.class → HasName m n → resolved_method cs n ≡ Some m
  own_resolved m h n class name = by (resolved_method cs n) refl
    where
      parts : IsAt cs m.class × IsAt m.class.methods m.member
      parts = of_methods cs m h

      way : methods_in (method_way cs n.class) ≡ declared_in m.class m.class.methods ++ methods_in (lineage cs (super_name m.class) ++ flat_map (λ c. flat_map (ancestry cs) (interface_names c)) (lineage cs (own_name m.class)))
      way = ap (λ t. methods_in (method_way cs t)) class ∙ ap methods_in (own_first m.class parts.0)

      first : (k : Declared) × (find (has_name n) (declared_in m.class m.class.methods) ≡ Some k)
      first = finds (has_name n) (declared_in m.class m.class.methods) m (into_map (λ o. record { class = m.class; member = o }) m.class.methods m.member parts.1) (has_its_name n m name)

      is_first : resolved_method cs n ≡ Some first.0
      is_first = ap (find (has_name n)) way ∙ find_front (has_name n) (declared_in m.class m.class.methods) _ first.0 first.1

      one : first.0 ≡ m
      one =
          let f = found (has_name n) (declared_in m.class m.class.methods) first.0 first.1 in
          let at = of_map (λ o. record { class = m.class; member = o }) m.class.methods first.0 f.0 in
          let named : HasName first.0 n = name_of_member n first.0 f.1 in
          let class_is : m.class ≡ first.0.class = ap (λ (k : Declared). k.class) at.2 in
          let all : IsAt (methods_in cs) first.0 = into_flat (λ (c : ClassFile). declared_in c c.methods) cs m.class first.0 parts.0 f.0 in
          same_method cs read first.0 m all h (same_full first.0 m n named name (sym class_is))

      by : (o : Option Declared) → resolved_method cs n ≡ o → resolved_method cs n ≡ Some m
      by o e = is_first ∙ ap (λ (k : Declared). Some k) one

  -- a constructor isn't static
  pub constructor_over_object : (m : Declared) → IsAt (taken_methods cs) m → mark_fault m.class m.member ≡ None → text_or_none (utf8 m.class.pool m.member.name) ≡ codes "<init>" → is_static m.member ≡ false
  constructor_over_object m h e name = elim (called_or_root cs m h) [
    | inl r ↦ (let fall : true ≡ false = sym r ∙ ap (λ (o : Option ℤ). is_some o) (constructor_unmarked m.class m.member e name) in cc)
    | inr c ↦ by_caller c
  ]
    where
      by_caller : IsCalled cs m → is_static m.member ≡ false
      by_caller c =
          let t = called_name m c in
          let g = good_call_of m c in
          let named : bytes_eq c.name.name (codes "<init>") ≡ true = (bytes_eq-Decides c.name.name (codes "<init>")).1 (t.name ∙ name) in
          let op : (c.instr.op == 183) ≡ true = special_op (bytes_eq c.name.name (codes "<init>")) (c.instr.op == 183) _ named g.constructor in
          let class : c.name.class ≡ own_name m.class = t.class named in
          let found : resolved_method cs c.name ≡ Some m = own_resolved m (in_methods cs m h) c.name class (full_has_name cs read m c.name (in_methods cs m h) t.name t.descriptor) in
          let folder : is_in_folder cs c.name.class ≡ true = ap (is_in_folder cs) class ∙ ap (λ (o : Option ClassFile). is_some o) (by_own_name cs read m.class (of_methods cs m (in_methods cs m h)).0) in
          let used : holds_of (is_misused (c.instr.op == 184)) (resolved_method cs c.name) ≡ false = if_true (is_in_folder cs c.name.class) _ _ folder g.static in
          let no_static : (c.instr.op == 184) ≡ false = ap (λ n. n == 184) ((Decides-eqb c.instr.op 183).0 op) in
          ap (λ b. is_misused b m) (sym no_static) ∙ ap (holds_of (is_misused (c.instr.op == 184))) (sym found) ∙ used
