-- What an instruction without a construct that is left out keeps.
use Rattle.std.proofs.Common.{◌≡◌, ℕ, List, [], ◌∷◌, Option, Some, None, Ok, Bool, true, false, refl, sym, ap, ◌∙◌}
use Rattle.std.specs.Prelude.{not, bytes_eq, ◌&&◌, ◌==◌, ◌||◌, if◌then◌else◌, option_map, codes}
use Rattle.std.specs.List.{AllByRecursion}
use Rattle.jmodel.specs.declared.class_file.Handler.{Handler}
use Rattle.jmodel.specs.declared.instruction.Instr.{Instr}
use Rattle.jmodel.specs.format.ClassFile.{ClassFile}
use Rattle.jmodel.specs.format.Pool.{MemberName}
use Rattle.objects.specs.linking.Classes.{Declared}
use Rattle.objects.specs.linking.Taken.{invoked}
use Rattle.objects.specs.linking.Faults.{first_fault}
use Rattle.objects.specs.linking.Code.{Coded, decoded}
use Rattle.objects.specs.linking.Resolution.{holds_of, resolved_field, resolved_method}
use Rattle.objects.specs.linking.Constructs.{accessed, named_class, has_flag, is_float_descriptor, is_float, is_subroutine, is_among, entry_pushed, is_class_constant, unknown_in, is_bad_new, is_outside_field, is_library_call, is_unresolved, is_interface_field, is_bad_access, is_bad_static, is_bad_interface, is_elsewhere, is_bad_special_name, is_bad_special, is_bad_call, construct, first_kind, kind_fault, whole_kinds, whole_fault, first_kinds, last_kinds, instr_fault, catch_fault, place_fault, code_construct, construct_fault}
use Rattle.objects.specs.linking.Members.{descriptor_of}
use Rattle.objects.specs.linking.Linking.{taken_methods, constructs_fault}
use Rattle.objects.proofs.Items.{IsAt, item}
use Rattle.objects.proofs.ClassTypes.{no_first, each_none}

-- none of these kinds is there
none_there : (xs : List (List ℕ × Bool)) → first_kind xs ≡ None → AllByRecursion (λ (x : List ℕ × Bool). x.1 ≡ false) xs
none_there [] e = tt
none_there (x ∷ xs) e = go x.1 refl e (none_there xs)
  where
    go : (b : Bool) → x.1 ≡ b → (if b then Some x.0 else first_kind xs) ≡ None → (first_kind xs ≡ None → AllByRecursion (λ (x : List ℕ × Bool). x.1 ≡ false) xs) → AllByRecursion (λ (x : List ℕ × Bool). x.1 ≡ false) (x ∷ xs)
    go true is e rest = cc
    go false is e rest = (is, rest e)

no_kind : (k : Declared) (pc : ℕ) (xs : List (List ℕ × Bool)) → kind_fault k pc xs ≡ None → first_kind xs ≡ None
no_kind k pc xs e = go (first_kind xs) e
  where
    go : (o : Option (List ℕ)) → option_map (construct k pc) o ≡ None → o ≡ None
    go None e = refl
    go (Some n) e = cc

pub neither : (a b : Bool) → (a || b) ≡ false → (a ≡ false) × (b ≡ false)
neither true b e = cc
neither false b e = (refl, e)

-- a call of a method that it may call so
pub record IsGoodCall (cs : List ClassFile) (current : ClassFile) (c : ℕ) (n : MemberName) : Type 0 where
  pub static : is_bad_static cs c n ≡ false
  pub interface : is_bad_interface cs c n ≡ false
  pub initialiser : bytes_eq n.name (codes "<clinit>") ≡ false
  pub constructor : bytes_eq n.name (codes "<init>") && (not (c == 183) || holds_of (is_elsewhere n.class) (resolved_method cs n)) ≡ false
  pub special : is_bad_special cs current c n ≡ false

pub good_call : (cs : List ClassFile) (current : ClassFile) (c : ℕ) (n : MemberName) → is_bad_call cs current c n ≡ false → IsGoodCall cs current c n
good_call cs current c n e =
    let a = neither (is_bad_static cs c n || is_bad_interface cs c n || is_bad_special_name cs c n) (is_bad_special cs current c n) e in
    let b = neither (is_bad_static cs c n || is_bad_interface cs c n) (is_bad_special_name cs c n) a.0 in
    let d = neither (is_bad_static cs c n) (is_bad_interface cs c n) b.0 in
    let f = neither (bytes_eq n.name (codes "<clinit>")) (bytes_eq n.name (codes "<init>") && (not (c == 183) || holds_of (is_elsewhere n.class) (resolved_method cs n))) b.1 in
    record { static = d.0; interface = d.1; initialiser = f.0; constructor = f.1; special = a.1 }

-- no construct at an instruction of a method
pub record IsClean (cs : List ClassFile) (k : Declared) (i : Instr) : Type 0 where
  pub float : is_float k.class.pool i ≡ false
  pub subroutine : is_subroutine i ≡ false
  pub monitor : is_among 194 195 i.op ≡ false
  pub multi_array : (i.op == 197) ≡ false
  pub class_literal : holds_of is_class_constant (entry_pushed k.class.pool i) ≡ false
  pub known : unknown_in cs (named_class k.class.pool i) ≡ None
  pub new : holds_of (is_bad_new cs i.op) (named_class k.class.pool i) ≡ false
  pub inside : holds_of (is_outside_field cs) (accessed k.class.pool i) ≡ false
  pub own_call : holds_of (is_library_call cs) (invoked k.class.pool i) ≡ false
  pub field : holds_of (is_unresolved cs (resolved_field cs)) (accessed k.class.pool i) ≡ false
  pub method : holds_of (is_unresolved cs (resolved_method cs)) (invoked k.class.pool i) ≡ false
  pub class_field : holds_of (is_interface_field cs) (accessed k.class.pool i) ≡ false
  pub access : holds_of (is_bad_access cs i.op) (accessed k.class.pool i) ≡ false
  pub call : holds_of (is_bad_call cs k.class i.op) (invoked k.class.pool i) ≡ false

pub clean : (cs : List ClassFile) (k : Declared) (i : Instr) → instr_fault cs k i ≡ None → IsClean cs k i
clean cs k i e =
    let a = no_first (kind_fault k i.pc (first_kinds k.class.pool i)) _ e in
    let b = no_first (unknown_in cs (named_class k.class.pool i)) _ a.1 in
    let f = none_there (first_kinds k.class.pool i) (no_kind k i.pc (first_kinds k.class.pool i) a.0) in
    let l = none_there (last_kinds cs k.class i) (no_kind k i.pc (last_kinds cs k.class i) b.1) in
    let calls = neither (holds_of (is_outside_field cs) (accessed k.class.pool i)) (holds_of (is_library_call cs) (invoked k.class.pool i)) l.1.0 in
    let members = neither (holds_of (is_unresolved cs (resolved_field cs)) (accessed k.class.pool i)) (holds_of (is_unresolved cs (resolved_method cs)) (invoked k.class.pool i)) l.1.1.0 in
    let uses = neither (holds_of (is_bad_access cs i.op) (accessed k.class.pool i)) (holds_of (is_bad_call cs k.class i.op) (invoked k.class.pool i)) l.1.1.1.1.0 in
    record {
      float = f.0;
      subroutine = f.1.0;
      monitor = f.1.1.0;
      multi_array = f.1.1.1.0;
      class_literal = f.1.1.1.1.0;
      known = b.0;
      new = l.0;
      inside = calls.0;
      own_call = calls.1;
      field = members.0;
      method = members.1;
      class_field = l.1.1.1.0;
      access = uses.0;
      call = uses.1;
    }

-- no construct of the whole of a method
pub record IsCleanWhole (k : Declared) : Type 0 where
  pub native : has_flag 0x100 k.member ≡ false
  pub synchronized : has_flag 0x20 k.member ≡ false
  pub float : is_float_descriptor (descriptor_of k.class.pool k.member) ≡ false

pub clean_whole : (cs : List ClassFile) (k : Declared) → construct_fault cs k ≡ None → IsCleanWhole k
clean_whole cs k e =
    let a = no_first (whole_fault k) _ e in
    let f = none_there (whole_kinds k) (no_kind k 0 (whole_kinds k) a.0) in
    record { native = f.0; synchronized = f.1.0; float = f.1.1.0 }

-- a place of the code of a method that has no construct
pub record IsCleanPlace (cs : List ClassFile) (k : Declared) (handlers : List Handler) (i : Instr) : Type 0 where
  pub instr : IsClean cs k i
  pub caught : AllByRecursion (λ h. catch_fault cs k.class.pool i.pc h ≡ None) handlers

pub clean_code : (cs : List ClassFile) (k : Declared) → construct_fault cs k ≡ None → (x : Coded) → decoded k.class k.member ≡ Ok x → (i : Instr) → IsAt x.instrs i → IsCleanPlace cs k x.code.handlers i
clean_code cs k e x is i at =
    let all : code_construct cs k (Ok x) ≡ None = ap (code_construct cs k) (sym is) ∙ (no_first (whole_fault k) _ e).1 in
    let here = item (λ i. place_fault cs k x.code.handlers i ≡ None) x.instrs i (each_none (place_fault cs k x.code.handlers) x.instrs all) at in
    let parts = no_first (first_fault (catch_fault cs k.class.pool i.pc) x.code.handlers) (instr_fault cs k i) here in
    record { instr = clean cs k i parts.1; caught = each_none (catch_fault cs k.class.pool i.pc) x.code.handlers parts.0 }

-- no taken method has a construct
pub taken_clean : (cs : List ClassFile) → constructs_fault cs ≡ None → (k : Declared) → IsAt (taken_methods cs) k → construct_fault cs k ≡ None
taken_clean cs e k at = item (λ k. construct_fault cs k ≡ None) (taken_methods cs) k (each_none (construct_fault cs) (taken_methods cs) e) at
