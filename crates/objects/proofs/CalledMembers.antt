-- What instructions of taken methods name has a number in the program: fields, methods, types and texts.
use Rattle.std.proofs.Common.{◌≡◌, ◌⊎◌, inl, inr, ℕ, zero, suc, List, [], ◌∷◌, ◌++◌, map, Option, Some, None, Result, Ok, Bool, true, false, not, refl, sym, ap, subst, ◌∙◌}
use Rattle.std.specs.Prelude.{slice_get, position, bytes_eq, codes, ◌==◌, ◌||◌, if◌then◌else◌, is_some, option_map, option_and_then, bit_and}
use Rattle.std.specs.List.{list_any, flat_map}
use Rattle.std.proofs.lemmas.Bool.Decides.{Decides-eqb}
use Rattle.std.proofs.lemmas.Slice.Eq.{bytes_eq-Decides}
use Rattle.std.proofs.lemmas.Nat.{and_assoc}
use Rattle.jmodel.specs.declared.class_file.Constant.{Constant}
use Rattle.jmodel.specs.declared.instruction.Instr.{Instr}
use Rattle.jmodel.specs.declared.refusal.Refusal.{Refusal}
use Rattle.jmodel.specs.format.ClassFile.{ClassFile}
use Rattle.jmodel.specs.format.Pool.{entry, string_in, string, class_name, MemberName, text_or_none}
use Rattle.jmodel.specs.format.Descriptor.{is_array_name}
use Rattle.objects.specs.linking.Members.{own_name}
use Rattle.objects.specs.linking.Superclasses.{class_named}
use Rattle.objects.specs.linking.Classes.{Declared, methods_in, full_name, is_before}
use Rattle.objects.specs.linking.Code.{Coded, decoded, is_root}
use Rattle.objects.specs.linking.Taken.{index_of, invoked, is_taken_by, is_named_by, code_calls, calls, is_next, is_taken}
use Rattle.objects.proofs.TakenLaws.{closed}
use Rattle.objects.specs.linking.LibraryClasses.{library_rows}
use Rattle.objects.specs.linking.LibraryMethods.{is_library}
use Rattle.objects.specs.semantics.Program.{Row}
use Rattle.objects.specs.linking.Resolution.{is_interface, is_known, holds_of}
use Rattle.objects.specs.linking.Constructs.{is_abstract, has_no_object}
use Rattle.objects.specs.linking.Layout.{rows, class_row, base_rows, array_row, primitive_arrays, with_text, in_text_order, array_over, some_array, made_by, made_in, made_arrays, some_text, texts_of, type_number}
use Rattle.objects.specs.linking.Decoding.{is_method, number_of}
use Rattle.objects.specs.linking.Linking.{taken_methods, original_symbols}
use Rattle.objects.proofs.Items.{IsAt, later, item, in_front_part, in_back_part, into_map, into_filter, into_flat, places}
use Rattle.objects.proofs.AsRead.{entry_at, named_as}
use Rattle.objects.proofs.ClassRows.{found_passes, is_row}
use Rattle.objects.proofs.ClassTypes.{of_library}
use Rattle.objects.proofs.ReadNames.{in_rows}
use Rattle.objects.proofs.DeclaredMembers.{HasName}

-- ---- lists

any_of : {A : Type 0} (p : A → Bool) (xs : List A) (x : A) → IsAt xs x → p x ≡ true → list_any p xs ≡ true
any_of {A} p xs x h is = go xs h.0 h.1
  where
    or_right : (a b : Bool) → b ≡ true → (a || b) ≡ true
    or_right true b e = refl
    or_right false b e = e

    go : (xs : List A) (i : ℕ) → slice_get xs i ≡ Some x → list_any p xs ≡ true
    go [] i e = cc
    go (y ∷ xs) zero e = let s : y ≡ x = cc in ap (λ b. b || list_any p xs) (ap p s ∙ is)
    go (y ∷ xs) (suc i) e = or_right (p y) (list_any p xs) (go xs i e)

same : (t : List ℕ) → bytes_eq t t ≡ true
same t = (bytes_eq-Decides t t).1 refl

-- a text is among the ordered ones
kept_text : (t u : List ℕ) (us : List (List ℕ)) (i : ℕ) → slice_get us i ≡ Some t → IsAt (with_text u us) t
kept_text t u [] i e = cc
kept_text t u (v ∷ us) i e = by (bytes_eq u v) (is_before v u) i e (λ j f. kept_text t u us j f)
  where
    by : (a b : Bool) (i : ℕ) → slice_get (v ∷ us) i ≡ Some t → ((j : ℕ) → slice_get us j ≡ Some t → IsAt (with_text u us) t) → IsAt (if a then v ∷ us else (if b then v ∷ with_text u us else u ∷ v ∷ us)) t
    by true b i e rest = (i, e)
    by false false i e rest = later u (v ∷ us) t (i, e)
    by false true zero e rest = (0, e)
    by false true (suc i) e rest = later v (with_text u us) t (rest i e)

new_text : (u : List ℕ) (us : List (List ℕ)) → IsAt (with_text u us) u
new_text u [] = (0, refl)
new_text u (v ∷ us) = by (bytes_eq u v) refl (is_before v u) (new_text u us)
  where
    by : (a : Bool) → bytes_eq u v ≡ a → (b : Bool) → IsAt (with_text u us) u → IsAt (if a then v ∷ us else (if b then v ∷ with_text u us else u ∷ v ∷ us)) u
    by true s b rest = (0, ap (λ (t : List ℕ). Some t) (sym ((bytes_eq-Decides u v).0 s)))
    by false s true rest = later v (with_text u us) u rest
    by false s false rest = (0, refl)

in_order_text : (ts : List (List ℕ)) (t : List ℕ) (i : ℕ) → slice_get ts i ≡ Some t → IsAt (in_text_order ts) t
in_order_text [] t i e = cc
in_order_text (u ∷ ts) t zero e = let s : u ≡ t = cc in subst (λ t. IsAt (with_text u (in_text_order ts)) t) s (new_text u (in_text_order ts))
in_order_text (u ∷ ts) t (suc i) e = let r = in_order_text ts t i e in kept_text t u (in_text_order ts) r.0 r.1

-- ---- types

numbered_type : (cs : List ClassFile) (n : List ℕ) (r : Row) → IsAt (rows cs) r → r.name ≡ n → is_some (type_number (rows cs) n) ≡ true
numbered_type cs n r at name =
    let p = places (λ (r : Row). bytes_eq r.name n) (rows cs) r at ((bytes_eq-Decides r.name n).1 name) in
    ap (λ (o : Option ℕ). is_some (option_map suc o)) p.1

-- a class of which objects are made
pub class_numbered : (cs : List ClassFile) (n : List ℕ) → is_known cs n ≡ true → has_no_object cs n ≡ false → is_some (type_number (rows cs) n) ≡ true
class_numbered cs n known made = go (class_named cs n) refl
  where
    library : is_library n ≡ true → is_some (type_number (rows cs) n) ≡ true
    library is =
        let o = of_library n is in
        let name : o.row.name ≡ n = (bytes_eq-Decides o.row.name n).0 (found_passes (is_row n) library_rows o.row o.found) in
        numbered_type cs n o.row (in_rows cs o.row (in_front_part library_rows (map (class_row cs) cs) o.row (o.place, o.there))) name

    second : (a b : Bool) → (a || b) ≡ false → b ≡ false
    second true b e = cc
    second false b e = e

    plain : (c : ClassFile) → is_abstract c ≡ false → is_interface c ≡ false
    plain c e =
        let none : bit_and c.flags 0x600 ≡ 0 = zero_is (bit_and c.flags 0x600) e in
        let part : bit_and c.flags 0x200 ≡ 0 = sym (and_assoc 0x200 c.flags 0x600) ∙ ap (λ n. bit_and n 0x200) none in
        ap (λ n. not (n == 0)) part
      where
        zero_is : (n : ℕ) → not (n == 0) ≡ false → n ≡ 0
        zero_is n e = (Decides-eqb n 0).0 (by (n == 0) e)
          where
            by : (b : Bool) → not b ≡ false → b ≡ true
            by true e = refl
            by false e = cc

    go : (o : Option ClassFile) → class_named cs n ≡ o → is_some (type_number (rows cs) n) ≡ true
    go None f = library (ap (λ (o : Option ClassFile). is_some o || is_library n) (sym f) ∙ known)
    go (Some c) f =
        let a = named_as cs n c f in
        let abstract : is_abstract c ≡ false = ap (holds_of is_abstract) (sym f) ∙ second (is_array_name n) (holds_of is_abstract (class_named cs n)) made in
        let name : (class_row cs c).name ≡ own_name c = let p = plain c abstract in rw p refl in
        numbered_type cs n (class_row cs c) (in_rows cs (class_row cs c) (in_back_part library_rows (map (class_row cs) cs) (class_row cs c) (into_map (class_row cs) cs c a.0))) (name ∙ a.1)

-- an array of a primitive type, or one that is made
pub array_numbered : (cs : List ClassFile) (n : List ℕ) → IsAt primitive_arrays n ⊎ IsAt (made_arrays cs) n → is_some (type_number (rows cs) n) ≡ true
array_numbered cs n h = numbered_type cs n (array_row cs n) (by h) refl
  where
    by : IsAt primitive_arrays n ⊎ IsAt (made_arrays cs) n → IsAt (rows cs) (array_row cs n)
    by (inr a) = in_back_part (library_rows ++ map (class_row cs) cs ++ base_rows cs ++ map (array_row cs) primitive_arrays) (map (array_row cs) (made_arrays cs)) (array_row cs n) (into_map (array_row cs) (made_arrays cs) n a)
    by (inl a) = in_front_part (library_rows ++ map (class_row cs) cs ++ base_rows cs ++ map (array_row cs) primitive_arrays) (map (array_row cs) (made_arrays cs)) (array_row cs n)
        (in_back_part (library_rows ++ map (class_row cs) cs ++ base_rows cs) (map (array_row cs) primitive_arrays) (array_row cs n) (into_map (array_row cs) primitive_arrays n a))

-- ---- what a taken method names

module _ (cs : List ClassFile) (d : Declared) (taken : IsAt (taken_methods cs) d) (x : Coded) (is : decoded d.class d.member ≡ Ok x) (i : Instr) (inside : IsAt x.instrs i) where
  -- an array that it makes is among those that are made
  pub made_there : (n : List ℕ) → (i.op == 189) ≡ true → option_and_then (class_name d.class.pool) (index_of i.operands) ≡ Some n → IsAt (made_arrays cs) (array_over n)
  made_there n op name =
      let one : made_by d.class.pool i ≡ array_over n ∷ [] = ap (λ b. if b then some_array (option_and_then (class_name d.class.pool) (index_of i.operands)) else []) op ∙ ap some_array name in
      let here : IsAt (made_by d.class.pool i) (array_over n) = subst (λ (l : List (List ℕ)). IsAt l (array_over n)) (sym one) (0, refl) in
      let all : IsAt (flat_map (made_by d.class.pool) x.instrs) (array_over n) = into_flat (made_by d.class.pool) x.instrs i (array_over n) inside here in
      let of : IsAt (made_in d.class.pool (decoded d.class d.member)) (array_over n) = subst (λ (r : Result Coded Refusal). IsAt (made_in d.class.pool r) (array_over n)) (sym is) all in
      let whole = into_flat (λ (k : Declared). made_in k.class.pool (decoded k.class k.member)) (taken_methods cs) d (array_over n) taken of in
      in_order_text (flat_map (λ (k : Declared). made_in k.class.pool (decoded k.class k.member)) (taken_methods cs)) (array_over n) whole.0 whole.1

  -- a method that it calls is taken too
  pub callee_taken : (n : MemberName) (m : Declared) → invoked d.class.pool i ≡ Some n → IsAt (methods_in cs) m → is_taken_by n (full_name m) ≡ true → IsAt (taken_methods cs) m
  callee_taken n m names at takes =
      let in_code : list_any (λ (i : Instr). is_named_by (invoked d.class.pool i) (full_name m)) x.instrs ≡ true =
      any_of (λ (i : Instr). is_named_by (invoked d.class.pool i) (full_name m)) x.instrs i inside (ap (λ (o : Option MemberName). is_named_by o (full_name m)) names ∙ takes) in
      let calls_it : calls d m ≡ true = ap (λ (r : Result Coded Refusal). code_calls d.class.pool r (full_name m)) is ∙ in_code in
      let next : is_next cs (is_taken cs) m ≡ true = or_right (is_root m.class.pool m.member) _ (any_of (λ k. calls k m) (taken_methods cs) d taken calls_it) in
      into_filter (is_taken cs) (methods_in cs) m at (item (λ m. is_next cs (is_taken cs) m ≡ true → is_taken cs m ≡ true) (methods_in cs) m (closed cs) at next)
    where
      or_right : (a b : Bool) → b ≡ true → (a || b) ≡ true
      or_right true b e = refl
      or_right false b e = e

  -- so it has a number
  pub callee_numbered : (m : Declared) → IsAt (taken_methods cs) m → is_some (number_of (original_symbols cs d.class) m) ≡ true
  callee_numbered m at =
      let n = same (full_name m).name in
      let t = same (full_name m).descriptor in
      let c = same (full_name m).class in
      let p = places (is_method (full_name m)) (map full_name (taken_methods cs)) (full_name m) (into_map full_name (taken_methods cs) m at) (rw (n, t, c) refl) in
      ap (λ (o : Option ℕ). is_some o) p.1

  pub takes_it : (n : MemberName) (m : Declared) → HasName m n → (bytes_eq n.name (codes "<init>") ≡ true → n.class ≡ own_name m.class) → is_taken_by n (full_name m) ≡ true
  takes_it n m h class =
      let name : bytes_eq n.name (full_name m).name ≡ true = (bytes_eq-Decides n.name (full_name m).name).1 (sym (ap text_or_none h.name)) in
      let descriptor : bytes_eq n.descriptor (full_name m).descriptor ≡ true = (bytes_eq-Decides n.descriptor (full_name m).descriptor).1 (sym (ap text_or_none h.descriptor)) in
      rw (name, descriptor) (by (bytes_eq n.name (codes "<init>")) refl)
    where
      by : (b : Bool) → bytes_eq n.name (codes "<init>") ≡ b → (not b || bytes_eq n.class (own_name m.class)) ≡ true
      by true e = (bytes_eq-Decides n.class (own_name m.class)).1 (class e)
      by false e = refl

-- ---- texts

-- the text of a String of the folder has a number
pub text_numbered : (cs : List ClassFile) (c : ClassFile) → IsAt cs c → (j : ℕ) (t : List ℕ) → string c.pool j ≡ Some t → is_some (position (bytes_eq t) (texts_of cs)) ≡ true
text_numbered cs c at j t e = go (entry c.pool j) refl e
  where
    by : (k : Constant) → IsAt c.pool k → string_in c.pool k ≡ Some t → is_some (position (bytes_eq t) (texts_of cs)) ≡ true
    by k h f =
        let here : IsAt (some_text (string_in c.pool k)) t = subst (λ (o : Option (List ℕ)). IsAt (some_text o) t) (sym f) (0, refl) in
        let pool = into_flat (λ k. some_text (string_in c.pool k)) c.pool k t h here in
        let all = into_flat (λ (c : ClassFile). flat_map (λ k. some_text (string_in c.pool k)) c.pool) cs c t at pool in
        let ordered = in_order_text (flat_map (λ (c : ClassFile). flat_map (λ k. some_text (string_in c.pool k)) c.pool) cs) t all.0 all.1 in
        let p = places (bytes_eq t) (texts_of cs) t ordered (same t) in
        ap (λ (o : Option ℕ). is_some o) p.1

    go : (o : Option Constant) → entry c.pool j ≡ o → option_and_then (string_in c.pool) o ≡ Some t → is_some (position (bytes_eq t) (texts_of cs)) ≡ true
    go None f g = cc
    go (Some k) f g = by k (entry_at c.pool j k f) g
