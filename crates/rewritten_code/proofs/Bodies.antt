-- Old code means as a whole what it meant: its instructions, and what its exception entries catch.
use Rattle.std.proofs.Common.{◌≡◌, ℕ, true, List, length, Option, Some, None, Ok, refl, ap}
use Rattle.std.specs.Prelude.{is_some, ◌==◌}
use Rattle.jmodel.specs.declared.class_file.Handler.{Handler}
use Rattle.jmodel.specs.declared.instruction.Instr.{Instr}
use Rattle.jmodel.specs.format.ClassFile.{Pool, ClassFile}
use Rattle.jmodel.specs.format.Pool.{MemberName, class_name, field_name, member_name}
use Rattle.objects.specs.linking.Classes.{Declared}
use Rattle.objects.specs.linking.Taken.{index_of}
use Rattle.objects.specs.linking.Code.{Coded, decoded, number_at}
use Rattle.objects.specs.linking.Each.{each}
use Rattle.objects.specs.declared.op.Op.{Op}
use Rattle.objects.specs.declared.op.Catch.{Catch}
use Rattle.objects.specs.declared.op.Catches.{Catches}
use Rattle.objects.specs.declared.op.Catches.TheVariants.{Any}
use Rattle.objects.specs.linking.Decoding.{Symbols, is_among, field_number, op_of, ops_of, end_at, catches_named, catches_of, make_catch, catch_of}
use Rattle.objects.specs.linking.Linking.{with_catches, coded_body, body_of, taken_methods, original_symbols, constructs_fault}
use Rattle.objects.specs.laws.LinkingLaw.{AreRead}
use Rattle.objects.proofs.Items.{IsAt, all_items}
use Rattle.objects.proofs.CleanCode.{clean_code, taken_clean}
use Rattle.objects.proofs.NamedMembers.{of_field, accessed_is, named_field}
use Rattle.member_code.proofs.Grown.{Grown, class_grown}
use Rattle.rewritten_names.specs.LeadsLaw.{IsPlain}
use Rattle.rewritten_code.proofs.Kept.{Kept, kept_none, kept_refl, kept_when, kept_map, kept_each}
use Rattle.rewritten_code.proofs.Instructions.{IsAlike, meaning_kept}

-- ---- exception entries

-- an entry catches what it caught
catches_kept : (pool Z : Pool) → Grown pool Z → (class : ℕ) → Kept (catches_of pool class) (catches_of Z class)
catches_kept pool Z G class =
    kept_when (class == 0) (Some Any) (Some Any) _ _ (kept_refl (Some Any)) (kept_map catches_named (class_name pool class) (class_name Z class) (record { kept = class_grown pool Z G class }))

-- an entry of the same places stays, where what it catches stays
made_kept : (from to at : Option ℕ) (x y : Option Catches) → Kept x y → Kept (make_catch from to at x) (make_catch from to at y)
made_kept None to at x y h = kept_none _
made_kept (Some from) None at x y h = kept_none _
made_kept (Some from) (Some to) None x y h = kept_none _
made_kept (Some from) (Some to) (Some at) None y h = kept_none _
made_kept (Some from) (Some to) (Some at) (Some c) y h = let e = h.kept c refl in rw e (kept_refl _)

-- so an entry stays
catch_kept : (pool Z : Pool) → Grown pool Z → (is : List Instr) (len : ℕ) (h : Handler) → Kept (catch_of pool is len h) (catch_of Z is len h)
catch_kept pool Z G is len h = made_kept (number_at is h.start) (end_at is len h.end) (number_at is h.handler) (catches_of pool h.catch_type) (catches_of Z h.catch_type) (catches_kept pool Z G h.catch_type)

-- ---- code

module _ (cs : List ClassFile) (read : AreRead cs) (constructs : constructs_fault cs ≡ None) (k : Declared) (taken : IsAt (taken_methods cs) k) (s : Symbols) (A : IsAlike (original_symbols cs k.class) s)
    (plain : (j : ℕ) (n : MemberName) → member_name k.class.pool j ≡ Some n → IsPlain n) where
  abbrev s0 : Symbols
  s0 = original_symbols cs k.class

  module _ (x : Coded) (is : decoded k.class k.member ≡ Ok x) where
    -- the field that an instruction names has a number
    numbered : (i : Instr) → IsAt x.instrs i → (j : ℕ) → index_of i.operands ≡ Some j → (n : MemberName) → is_among 178 181 i.op ≡ true → field_name k.class.pool j ≡ Some n → is_some (field_number s0 n) ≡ true
    numbered i inside j at n among e =
        let clean = (clean_code cs k (taken_clean cs constructs k taken) x is i inside).instr in
        ap (λ (o : Option ℕ). is_some o) (named_field cs read k i clean n (accessed_is k.class.pool i j n among at (of_field k.class.pool j n e))).numbered

    -- an instruction means what it meant
    op_kept : (i : Instr) → IsAt x.instrs i → Kept (op_of s0 x.instrs i) (op_of s x.instrs i)
    op_kept i inside = meaning_kept s0 s A plain x.instrs i.op i.operands (λ j e. numbered i inside j (ap index_of e)) (λ j count e. numbered i inside j (ap index_of e))

    -- all of them mean what they meant
    ops_kept : Kept (ops_of s0 x.instrs) (ops_of s x.instrs)
    ops_kept = kept_each (op_of s0 x.instrs) (op_of s x.instrs) x.instrs (all_items (λ i. Kept (op_of s0 x.instrs i) (op_of s x.instrs i)) x.instrs op_kept)

    -- all entries stay
    entries_kept : Kept (each (catch_of s0.class.pool x.instrs (length x.code.code)) x.code.handlers) (each (catch_of s.class.pool x.instrs (length x.code.code)) x.code.handlers)
    entries_kept =
        kept_each (catch_of s0.class.pool x.instrs (length x.code.code)) (catch_of s.class.pool x.instrs (length x.code.code)) x.code.handlers
        (all_items (λ h. Kept (catch_of s0.class.pool x.instrs (length x.code.code) h) (catch_of s.class.pool x.instrs (length x.code.code) h)) x.code.handlers
        (λ h at. catch_kept s0.class.pool s.class.pool A.pool x.instrs (length x.code.code) h))

    -- so the code means what it meant
    coded_kept : Kept (coded_body s0 x) (coded_body s x)
    coded_kept = both (ops_of s0 x.instrs) (ops_of s x.instrs) _ _ ops_kept entries_kept
      where
        both : (o p : Option (List Op)) (u v : Option (List Catch)) → Kept o p → Kept u v → Kept (with_catches x o u) (with_catches x p v)
        both None p u v a b = kept_none _
        both (Some os) p None v a b = kept_none _
        both (Some os) p (Some hs) v a b = let e = a.kept os refl in let f = b.kept hs refl in rw (e, f) (kept_refl _)

  -- a body means what it meant
  pub body_kept : (places : ℕ) (o : Option Coded) → ((x : Coded) → o ≡ Some x → decoded k.class k.member ≡ Ok x) → Kept (body_of s0 places o) (body_of s places o)
  body_kept places None is = kept_refl _
  body_kept places (Some x) is = coded_kept x (is x refl)
