-- Code that is read over a pool is read alike over a longer one.
use Rattle.std.proofs.Common.{◌≡◌, ◌⊎◌, inl, inr, ℕ, zero, suc, Bool, true, false, ◌&&◌, List, [], ◌∷◌, length, Option, Some, None, Result, Ok, Err, refl, sym, ap, ◌∙◌, subst}
use Rattle.std.specs.Prelude.{codes, filter, find, nat_le, nat_lt, if◌then◌else◌, option_and_then, ◌==◌, IsSome}
use Rattle.std.specs.List.{AllByRecursion}
use Rattle.std.specs.Int.{Width, w8, w16}
use Rattle.jmodel.specs.declared.class_file.Constant.{Constant}
use Rattle.jmodel.specs.declared.class_file.Handler.{Handler}
use Rattle.jmodel.specs.declared.instruction.EntryKind.{EntryKind}
use Rattle.jmodel.specs.declared.instruction.EntryKind.TheVariants as kind
use Rattle.jmodel.specs.declared.instruction.Form.{Form}
use Rattle.jmodel.specs.declared.instruction.Form.TheVariants as form
use Rattle.jmodel.specs.declared.instruction.Operands.TheVariants as operands
use Rattle.jmodel.specs.declared.instruction.Instr.{Instr}
use Rattle.jmodel.specs.declared.refusal.Refusal.{Refusal}
use Rattle.jmodel.specs.format.ClassFile.{Attribute, Pool as Entries, Member, ClassFile, Code}
use Rattle.jmodel.specs.format.Pool.{entry, utf8, class_name, member_name}
use Rattle.jmodel.specs.format.ClassRules.{IsAttribute, IsHandler, IsCode, IsMethod, is_named, named_attributes, AreCodes}
use Rattle.jmodel.specs.format.ClassReading.{code_of}
use Rattle.jmodel.specs.format.Instruction.{form_of, is_kind_in, is_entry, places_in, argument_places}
use Rattle.jmodel.specs.format.InstructionReading.{want, as_bad, entry_operand_at, is_count, interface_at, dimensions_at, operands_at, operands_as, parts_at, instr_at, instrs_at, instrs_of}
use Rattle.jmodel.specs.format.Reading.{◌>>=◌, number_at, u2_at}
use Rattle.objects.specs.linking.Code.{Coded, code_in, decoded, decoded_code, named_fault}
use Rattle.objects.specs.linking.Members.{name_of}
use Rattle.const_pool.proofs.Parts.{code_is_read}
use Rattle.objects.specs.linking.Linking.{has_no_code, decoded_member}
use Rattle.objects.proofs.CodeRead.{coded_parts}
use Rattle.member_code.proofs.Grown.{Grown, the_some, entry_grown, utf8_grown, class_grown, member_grown}
use Rattle.rewritten_code.proofs.Kept.{Kept, kept_none, kept_refl, kept_then, Keeps, keeps_err, keeps_refl, keeps_then, keeps_when}

module _ (pool Z : Entries) (G : Grown pool Z) where
  -- ---- entries

  -- an index keeps its kind
  entry_stays : (k : EntryKind) (i : ℕ) → is_entry pool k i ≡ true → is_entry Z k i ≡ true
  entry_stays k i e = go (entry pool i) refl e
    where
      go : (o : Option Constant) → entry pool i ≡ o → is_kind_in k o ≡ true → is_entry Z k i ≡ true
      go None f e = cc
      go (Some c) f e = ap (is_kind_in k) (entry_grown pool Z G i c f) ∙ e

  -- the places of a call's arguments stay
  places_stay : (i : ℕ) → Kept (argument_places pool i) (argument_places Z i)
  places_stay i = go (is_entry pool kind.InterfaceMethod i) refl
    where
      go : (b : Bool) → is_entry pool kind.InterfaceMethod i ≡ b → Kept (if b then option_and_then places_in (member_name pool i) else None) (argument_places Z i)
      go false e = kept_none (argument_places Z i)
      go true e =
          let there = entry_stays kind.InterfaceMethod i e in
          rw there (kept_then places_in places_in (member_name pool i) (member_name Z i) (record { kept = member_grown pool Z G i }) (λ n f. kept_refl (places_in n)))

  -- so does the count that tells them
  count_stays : (i n : ℕ) → is_count (argument_places pool i) n ≡ true → is_count (argument_places Z i) n ≡ true
  count_stays i n e = go (argument_places pool i) refl e
    where
      go : (o : Option ℕ) → argument_places pool i ≡ o → is_count o n ≡ true → is_count (argument_places Z i) n ≡ true
      go None f e = cc
      go (Some k) f e = ap (λ o. is_count o n) ((places_stay i).kept k f) ∙ e

  -- ---- operands

  -- a wish that is granted stays granted
  want_keeps : {A : Type 0} (b c : Bool) (pc : ℕ) (x : A) → (b ≡ true → c ≡ true) → Keeps (want b pc x) (want c pc x)
  want_keeps true c pc x h = let e = h refl in rw e (keeps_refl (Ok x))
  want_keeps false c pc x h = keeps_err _ (want c pc x)

  -- of two tests the first stays passed
  left_stays : (a b c : Bool) → (a ≡ true → c ≡ true) → (a && b) ≡ true → (c && b) ≡ true
  left_stays true b c h e = let f = h refl in rw f e
  left_stays false b c h e = cc

  module _ (bytes : List ℕ) (pc at : ℕ) where
    -- an index is read alike
    entry_keeps : (w : Width) (k : EntryKind) → Keeps (entry_operand_at pool w k pc bytes at) (entry_operand_at Z w k pc bytes at)
    unfolding entry_operand_at
    entry_keeps w k =
        keeps_then (number_at w bytes at) (number_at w bytes at) _ _ (keeps_refl _)
        (λ i. want_keeps (is_entry pool k i.0) (is_entry Z k i.0) pc (operands.Pool i.0, i.1) (entry_stays k i.0))

    -- the operands of a call of an interface's method
    interface_keeps : Keeps (interface_at pool pc bytes at) (interface_at Z pc bytes at)
    unfolding interface_at
    interface_keeps =
        keeps_then (u2_at bytes at) (u2_at bytes at) _ _ (keeps_refl _)
        (λ i. keeps_then (number_at w8 bytes i.1) (number_at w8 bytes i.1) _ _ (keeps_refl _)
        (λ count. keeps_then (number_at w8 bytes count.1) (number_at w8 bytes count.1) _ _ (keeps_refl _)
        (λ last. want_keeps (is_count (argument_places pool i.0) count.0 && last.0 == 0) (is_count (argument_places Z i.0) count.0 && last.0 == 0) pc (operands.Interface i.0 count.0, last.1)
        (left_stays (is_count (argument_places pool i.0) count.0) (last.0 == 0) (is_count (argument_places Z i.0) count.0) (count_stays i.0 count.0)))))

    -- those of an array of several dimensions
    dimensions_keep : Keeps (dimensions_at pool pc bytes at) (dimensions_at Z pc bytes at)
    unfolding dimensions_at
    dimensions_keep =
        keeps_then (u2_at bytes at) (u2_at bytes at) _ _ (keeps_refl _)
        (λ i. keeps_then (number_at w8 bytes i.1) (number_at w8 bytes i.1) _ _ (keeps_refl _)
        (λ count. want_keeps (is_entry pool kind.Class i.0 && nat_lt 0 count.0) (is_entry Z kind.Class i.0 && nat_lt 0 count.0) pc (operands.Dimensions i.0 count.0, count.1)
        (left_stays (is_entry pool kind.Class i.0) (nat_lt 0 count.0) (is_entry Z kind.Class i.0) (entry_stays kind.Class i.0))))

    -- operands of each form are read alike
    operands_keep : (f : Form) → Keeps (operands_at pool pc f bytes at) (operands_at Z pc f bytes at)
    operands_keep form.Plain = keeps_refl _
    operands_keep form.Byte = keeps_refl _
    operands_keep form.Short = keeps_refl _
    operands_keep form.ArrayType = keeps_refl _
    operands_keep form.Local = keeps_refl _
    operands_keep form.Increment = keeps_refl _
    operands_keep (form.ShortEntry k) = entry_keeps w8 k
    operands_keep (form.Entry k) = entry_keeps w16 k
    operands_keep form.Interface = interface_keeps
    operands_keep form.Dimensions = dimensions_keep
    operands_keep form.Jump = keeps_refl _
    operands_keep form.FarJump = keeps_refl _
    operands_keep form.Table = keeps_refl _
    operands_keep form.Lookup = keeps_refl _
    operands_keep form.Wide = keeps_refl _

    -- also where the form is sought first
    as_keeps : (f : Option Form) → Keeps (operands_as pool pc f bytes at) (operands_as Z pc f bytes at)
    as_keeps None = keeps_refl _
    as_keeps (Some f) = operands_keep f

  -- ---- instructions

  -- an opcode with its operands
  parts_keep : (bytes : List ℕ) (pc : ℕ) → Keeps (parts_at pool bytes pc) (parts_at Z bytes pc)
  unfolding parts_at
  parts_keep bytes pc =
      keeps_then (number_at w8 bytes pc) (number_at w8 bytes pc) _ _ (keeps_refl _)
      (λ op. keeps_then (operands_as pool pc (form_of op.0) bytes op.1) (operands_as Z pc (form_of op.0) bytes op.1) _ _ (as_keeps bytes pc op.1 (form_of op.0)) (λ o. keeps_refl _))

  -- whatever the fault of its parts is
  bad_keeps : (pc : ℕ) (r s : Result (Instr × ℕ) Refusal) → Keeps r s → Keeps (as_bad pc r) (as_bad pc s)
  bad_keeps pc (Err e) s h = keeps_err _ (as_bad pc s)
  bad_keeps pc (Ok x) s h = let e = h.keeps x refl in rw e (keeps_refl (Ok x))

  -- all instructions up to the end
  instrs_keep : (bytes : List ℕ) (n at : ℕ) → Keeps (instrs_at pool bytes n at) (instrs_at Z bytes n at)
  unfolding instrs_at
  instrs_keep bytes zero at = keeps_refl _
  instrs_keep bytes (suc n) at =
      keeps_when (nat_le (length bytes) at) (Ok []) (Ok []) _ _ (keeps_refl (Ok []))
      (keeps_then (instr_at pool bytes at) (instr_at Z bytes at) _ _ (bad_keeps at (parts_at pool bytes at) (parts_at Z bytes at) (parts_keep bytes at))
      (λ first. keeps_then (instrs_at pool bytes n first.1) (instrs_at Z bytes n first.1) _ _ (instrs_keep bytes n first.1) (λ others. keeps_refl _)))

  -- code with its exception entries
  pub code_keeps : (handlers : List Handler) (code : List ℕ) → Keeps (instrs_of pool handlers code) (instrs_of Z handlers code)
  unfolding instrs_of
  code_keeps handlers code = keeps_then (instrs_at pool code (length code) 0) (instrs_at Z code (length code) 0) _ _ (instrs_keep code (length code) 0) (λ is. keeps_refl _)

  -- ---- the Code of a method

  -- what is there stays there
  there : (o p : Option (List ℕ)) → ((x : List ℕ) → o ≡ Some x → p ≡ Some x) → IsSome o → IsSome p
  there None p same h = absurd cc
  there (Some x) p same h = let e = same x refl in rw e refl

  -- attributes keep their rules
  attributes_stay : (xs : List Attribute) → AllByRecursion (IsAttribute pool) xs → AllByRecursion (IsAttribute Z) xs
  attributes_stay [] h = tt
  attributes_stay (a ∷ xs) h = (record { name = h.0.name; named = there (utf8 pool a.name) (utf8 Z a.name) (utf8_grown pool Z G a.name) h.0.named; short = h.0.short }, attributes_stay xs h.1)

  -- what an entry catches stays
  catches_stay : (i : ℕ) → (i ≡ 0) ⊎ IsSome (class_name pool i) → (i ≡ 0) ⊎ IsSome (class_name Z i)
  catches_stay i (inl e) = inl e
  catches_stay i (inr h) = inr (there (class_name pool i) (class_name Z i) (class_grown pool Z G i) h)

  -- exception entries keep their rules
  handlers_stay : (len : ℕ) (hs : List Handler) → AllByRecursion (IsHandler pool len) hs → AllByRecursion (IsHandler Z len) hs
  handlers_stay len [] h = tt
  handlers_stay len (x ∷ xs) h = (record { some = h.0.some; inside = h.0.inside; target = h.0.target; catches = catches_stay x.catch_type h.0.catches; class = h.0.class }, handlers_stay len xs h.1)

  -- so does a Code
  rules_stay : (k : Code) → IsCode pool k → IsCode Z k
  rules_stay k h = record {
    stack = h.stack;
    locals = h.locals;
    some = h.some;
    short = h.short;
    few = h.few;
    handlers = handlers_stay (length k.code) k.handlers h.handlers;
    attributes = record { few = h.attributes.few; each = attributes_stay k.attributes h.attributes.each };
  }

  -- a text names the same in both
  pub named_same : (name : List ℕ) (a : Attribute) → IsAttribute pool a → is_named Z name a ≡ is_named pool name a
  named_same name a h =
      let t = the_some (utf8 pool a.name) h.named in
      let here = t.1 in
      let later = utf8_grown pool Z G a.name t.0 t.1 in
      rw (here, later) refl

  -- the first attribute that passes
  first_passes : (p : Attribute → Bool) (a : Attribute) (rest xs : List Attribute) → filter p xs ≡ a ∷ rest → find p xs ≡ Some a
  first_passes p a rest [] e = cc
  first_passes p a rest (x ∷ xs) e = go (p x) refl (first_passes p a rest xs) e
    where
      go : (b : Bool) → p x ≡ b → (filter p xs ≡ a ∷ rest → find p xs ≡ Some a) → (if b then x ∷ filter p xs else filter p xs) ≡ a ∷ rest → find p (x ∷ xs) ≡ Some a
      go true f more e = let s : x ≡ a = cc in rw f (ap (λ (x : Attribute). Some x) s)
      go false f more e = rw f (more e)

  -- the first attribute of a name is the same
  find_same : (name : List ℕ) (xs : List Attribute) → AllByRecursion (IsAttribute pool) xs → find (is_named Z name) xs ≡ find (is_named pool name) xs
  find_same name [] L = refl
  find_same name (a ∷ xs) L = ap (λ b. if b then Some a else find (is_named Z name) xs) (named_same name a L.0) ∙ ap (λ o. if is_named pool name a then Some a else o) (find_same name xs L.1)

  -- the Code of a method is the same
  code_stays : (m : Member) → IsMethod pool m → has_no_code m ≡ false → (k : Code) → code_in pool m ≡ Some k → code_in Z m ≡ Some k
  code_stays m fits coded k e =
      let codes_are : AreCodes pool false (named_attributes pool (codes "Code") m.attributes) = subst (λ b. AreCodes pool b (named_attributes pool (codes "Code") m.attributes)) coded fits.codes_fit in
      let here = first_passes (is_named pool (codes "Code")) codes_are.0 [] m.attributes codes_are.2 in
      let later = find_same (codes "Code") m.attributes fits.member.attributes.each ∙ here in
      let old : code_of pool codes_are.0.bytes ≡ Some k = sym (ap (option_and_then (λ (a : Attribute). code_of pool a.bytes)) here) ∙ e in
      let now = code_is_read Z codes_are.0.bytes codes_are.1 (record { code = rules_stay codes_are.1 codes_are.3.code; is = codes_are.3.is }) in
      let same : Some codes_are.1 ≡ Some k = sym (code_is_read pool codes_are.0.bytes codes_are.1 codes_are.3) ∙ old in
      ap (option_and_then (λ (a : Attribute). code_of Z a.bytes)) later ∙ now ∙ same

-- What a method of a class is read as, it is read as in a class with a longer pool.
module _ (c d : ClassFile) (G : Grown c.pool d.pool) (m : Member) (fits : IsMethod c.pool m) where
  -- the instructions of its code
  decoded_stays : has_no_code m ≡ false → (x : Coded) → decoded c m ≡ Ok x → decoded d m ≡ Ok x
  decoded_stays coded x e =
      let p = coded_parts c m x e in
      let k = code_stays c.pool d.pool G m fits coded x.code p.code in
      let is = (code_keeps c.pool d.pool G x.code.handlers x.code.code).keeps x.instrs p.instrs in
      ap (λ (o : Option Code). named_fault (name_of d m) (decoded_code d.pool o)) k
      ∙ ap (λ (r : Result (List Instr) Refusal). named_fault (name_of d m) (r >>= λ is. Ok (record { code = x.code; instrs = is }))) is

  -- with code or without
  pub member_keeps : Keeps (decoded_member (record { class = c; member = m })) (decoded_member (record { class = d; member = m }))
  member_keeps = go (has_no_code m) refl
    where
      go : (b : Bool) → has_no_code m ≡ b → Keeps (if b then Ok None else (decoded c m >>= λ x. Ok (Some x))) (if b then Ok None else (decoded d m >>= λ x. Ok (Some x)))
      go true e = keeps_refl (Ok None)
      go false e = keeps_then (decoded c m) (decoded d m) (λ x. Ok (Some x)) (λ x. Ok (Some x)) (record { keeps = decoded_stays e }) (λ x. keeps_refl (Ok (Some x)))
