-- Code of a method that is read: it has an instruction, and its numbers are small.
use Rattle.std.proofs.Common.{◌≡◌, ℕ, zero, suc, ◌+◌, ◌<◌, ◌≤◌, List, [], ◌∷◌, length, take, drop, Option, Some, None, Result, Ok, Err, Bool, true, false, nat_lt, nat_le, refl, subst, arith, length-take, length-drop}
use Rattle.std.specs.Prelude.{◌==◌, ◌||◌, if◌then◌else◌, find, option_and_then, codes}
use Rattle.std.specs.List.{AllByRecursion}
use Rattle.std.specs.Result.{result_ok}
use Rattle.std.proofs.lemmas.Bool.Decides.{nat_tests}
use Rattle.jmodel.specs.declared.refusal.Refusal.{Refusal}
use Rattle.jmodel.specs.declared.refusal.Refusal.TheVariants.{Truncated, BadCode}
use Rattle.jmodel.specs.declared.class_file.Handler.{Handler}
use Rattle.jmodel.specs.declared.instruction.Instr.{Instr}
use Rattle.jmodel.specs.format.ClassFile.{Attribute, Member, Pool, ClassFile, Code}
use Rattle.jmodel.specs.format.ClassRules.{is_named}
use Rattle.jmodel.specs.format.Reading.{◌>>=◌, place, run_at, u2_at, u4_at}
use Rattle.jmodel.specs.format.ClassReading.{handlers_at, attributes_at, body_at, code_at, code_of}
use Rattle.jmodel.specs.format.InstructionReading.{instr_at, instrs_at, targets_fit, places_fit, instrs_of}
use Rattle.objects.specs.linking.Code.{Coded, code_in, named_fault, decoded_code, decoded}
use Rattle.objects.specs.linking.Members.{name_of}
use Rattle.objects.proofs.InstrNumbers.{Has, then_has, after, IsSmallInstr, read_small}

-- ---- the parts of what is decoded

pub record IsCoded (c : ClassFile) (m : Member) (x : Coded) : Type 0 where
  pub code : code_in c.pool m ≡ Some x.code
  pub instrs : instrs_of c.pool x.code.handlers x.code.code ≡ Ok x.instrs

pub coded_parts : (c : ClassFile) (m : Member) (x : Coded) → decoded c m ≡ Ok x → IsCoded c m x
coded_parts c m x e = by_code (code_in c.pool m) refl (unnamed (decoded_code c.pool (code_in c.pool m)) e)
  where
    unnamed : (r : Result Coded Refusal) → named_fault (name_of c m) r ≡ Ok x → r ≡ Ok x
    unnamed (Ok y) e = e
    unnamed (Err r) e = cc

    by_instrs : (k : Code) → code_in c.pool m ≡ Some k → (r : Result (List Instr) Refusal) → instrs_of c.pool k.handlers k.code ≡ r → (r >>= λ is. Ok (record { code = k; instrs = is })) ≡ Ok x → IsCoded c m x
    by_instrs k is (Err r) are e = cc
    by_instrs k is (Ok instrs) are e =
        let s : record { code = k; instrs = instrs } ≡ x = cc in
        subst (IsCoded c m) s (record { code = is; instrs = are })

    by_code : (o : Option Code) → code_in c.pool m ≡ o → decoded_code c.pool o ≡ Ok x → IsCoded c m x
    by_code None is e = cc
    by_code (Some k) is e = by_instrs k is (instrs_of c.pool k.handlers k.code) refl e

-- ---- there is code

abbrev IsSome : List ℕ × ℕ → Type 0
IsSome r = 0 < length r.0

abbrev HasCode : Code → Type 0
HasCode k = 0 < length k.code

run_some : (bytes : List ℕ) (at n : ℕ) → 0 < n → Has IsSome (run_at bytes at n)
unfolding run_at
run_some bytes at n some = go (nat_lt (length bytes) (at + n)) refl
  where
    go : (b : Bool) → nat_lt (length bytes) (at + n) ≡ b → Has IsSome (if b then Err (Truncated (place at)) else Ok (take n (drop at bytes), at + n))
    go true is = tt
    go false is =
        let fits : at + n ≤ length bytes = grind (arith, nat_tests) in
        omega (arith, fits, some, length-take n (drop at bytes), length-drop at bytes)

body_some : (bytes : List ℕ) (at : ℕ) → Has IsSome (body_at bytes at)
unfolding body_at
body_some bytes at = after IsSome (u4_at bytes at) _ (λ len. go len.1 len.0 (len.0 == 0) refl (nat_lt 65535 len.0))
  where
    go : (at n : ℕ) (a : Bool) → (n == 0) ≡ a → (b : Bool) → Has IsSome (if a || b then Err (BadCode []) else run_at bytes at n)
    go at n true is b = tt
    go at n false is true = tt
    go at n false is false = run_some bytes at n (let some : 0 < n = grind (arith, nat_tests) in some)

code_some : (pool : Pool) (bytes : List ℕ) → Has HasCode (code_at pool bytes)
unfolding code_at
code_some pool bytes =
    after HasCode (u2_at bytes 0) _ (λ stack. after HasCode (u2_at bytes stack.1) _ (λ locals. then_has IsSome HasCode (body_at bytes locals.1) _ (body_some bytes locals.1)
    (λ code some. after HasCode (handlers_at pool (length code.0) bytes code.1) _ (λ handlers. after HasCode (attributes_at pool bytes handlers.1) _ (λ attributes. last (attributes.1 == length bytes) _ some)))))
  where
    last : (b : Bool) (k : Code) → HasCode k → Has HasCode (if b then Ok k else Err (BadCode []))
    last true k h = h
    last false k h = tt

code_there : (pool : Pool) (m : Member) (k : Code) → code_in pool m ≡ Some k → 0 < length k.code
code_there pool m k e = go (find (is_named pool (codes "Code")) m.attributes) e
  where
    by : (r : Result Code Refusal) → Has HasCode r → result_ok r ≡ Some k → 0 < length k.code
    by (Ok x) h e = let s : x ≡ k = cc in subst HasCode s h
    by (Err r) h e = cc

    go : (o : Option Attribute) → option_and_then (λ (a : Attribute). code_of pool a.bytes) o ≡ Some k → 0 < length k.code
    go None e = cc
    go (Some a) e = by (code_at pool a.bytes) (code_some pool a.bytes) e

-- ---- instructions

abbrev AreSome : List Instr → Type 0
AreSome is = 0 < length is

first_there : (pool : Pool) (bytes : List ℕ) (n : ℕ) → 0 < n → 0 < length bytes → Has AreSome (instrs_at pool bytes n 0)
unfolding instrs_at
first_there pool bytes zero some there = absurd (omega arith)
first_there pool bytes (suc n) some there = go (nat_le (length bytes) 0) refl
  where
    go : (b : Bool) → nat_le (length bytes) 0 ≡ b → Has AreSome (if b then Ok [] else (instr_at pool bytes 0 >>= λ first. instrs_at pool bytes n first.1 >>= λ others. Ok (first.0 ∷ others)))
    go true is = let none : length bytes ≤ 0 = grind (arith, nat_tests) in absurd (omega (arith, none, there))
    go false is = after AreSome (instr_at pool bytes 0) _ (λ first. after AreSome (instrs_at pool bytes n first.1) _ (λ others. omega arith))

some_instrs : (pool : Pool) (handlers : List Handler) (code : List ℕ) → 0 < length code → Has AreSome (instrs_of pool handlers code)
unfolding instrs_of
some_instrs pool handlers code some =
    then_has AreSome AreSome (instrs_at pool code (length code) 0) _ (first_there pool code (length code) some some)
    (λ is h. after AreSome (targets_fit is is) _ (λ jumps. after AreSome (places_fit _) (λ entries. Ok is) (λ entries. h)))

-- code has an instruction
pub has_instr : (c : ClassFile) (m : Member) (x : Coded) → decoded c m ≡ Ok x → 0 < length x.instrs
has_instr c m x e =
    let p = coded_parts c m x e in
    subst (Has AreSome) p.instrs (some_instrs c.pool x.code.handlers x.code.code (code_there c.pool m x.code p.code))

-- and its numbers fit 32 bits
pub small_instrs : (c : ClassFile) (m : Member) (x : Coded) → decoded c m ≡ Ok x → AllByRecursion IsSmallInstr x.instrs
small_instrs c m x e =
    let p = coded_parts c m x e in
    subst (Has (λ is. AllByRecursion IsSmallInstr is)) p.instrs (read_small c.pool x.code.handlers x.code.code)
