-- The code of methods, whose bytes are bytes: the rules that it and its instructions keep.
use Rattle.std.proofs.Common.{◌≡◌, ℕ, zero, suc, ◌<◌, List, [], ◌∷◌, ◌++◌, length, Some, Ok, Bool, true, false, refl, ap, subst, arith}
use Rattle.std.specs.Prelude.{if◌then◌else◌, find, option_and_then, codes}
use Rattle.std.specs.List.{AllByRecursion, flat_map}
use Rattle.jmodel.specs.declared.instruction.Instr.{Instr}
use Rattle.jmodel.specs.format.ClassFile.{u2, u4, handler, attributes, Attribute, Member, Pool, ClassFile, Code, code_spelling}
use Rattle.jmodel.specs.format.ClassRules.{is_named, IsCode, SpellsCode}
use Rattle.jmodel.specs.format.ClassReading.{code_of}
use Rattle.jmodel.specs.format.Instruction.{Holds, SpellsInstrs}
use Rattle.objects.specs.linking.Code.{Coded, code_in, decoded}
use Rattle.objects.proofs.CodeRead.{coded_parts}
use Rattle.const_pool.proofs.Takes.{IsBytes}
use Rattle.const_pool.proofs.Parts.{code_is_found}
use Rattle.bytecode.proofs.CodeLaws.{code_take}
use Rattle.rewriter.specs.Asked.{HasBytes}

-- parts of bytes are bytes
behind_bytes : (xs ys : List ℕ) → IsBytes (xs ++ ys) → IsBytes ys
behind_bytes [] ys h i = h i
behind_bytes (x ∷ xs) ys h i = behind_bytes xs ys (λ j. h (suc j)) i

front_bytes : (xs ys : List ℕ) → IsBytes (xs ++ ys) → IsBytes xs
front_bytes [] ys h i = omega arith
front_bytes (x ∷ xs) ys h zero = h zero
front_bytes (x ∷ xs) ys h (suc i) = front_bytes xs ys (λ j. h (suc j)) i

found_bytes : (pool : Pool) (xs : List Attribute) (k : Code) → AllByRecursion (λ (a : Attribute). IsBytes a.bytes) xs → option_and_then (λ (a : Attribute). code_of pool a.bytes) (find (is_named pool (codes "Code")) xs) ≡ Some k
    → (bytes : List ℕ) × IsBytes bytes × (code_of pool bytes ≡ Some k)
found_bytes pool [] k h e = absurd cc
found_bytes pool (a ∷ xs) k h e = go (is_named pool (codes "Code") a) refl e (λ t. found_bytes pool xs k h.1 t)
  where
    go : (b : Bool) → is_named pool (codes "Code") a ≡ b → option_and_then (λ (a : Attribute). code_of pool a.bytes) (if b then Some a else find (is_named pool (codes "Code")) xs) ≡ Some k
        → (option_and_then (λ (a : Attribute). code_of pool a.bytes) (find (is_named pool (codes "Code")) xs) ≡ Some k → (bytes : List ℕ) × IsBytes bytes × (code_of pool bytes ≡ Some k))
        → (bytes : List ℕ) × IsBytes bytes × (code_of pool bytes ≡ Some k)
    go true q t more = (a.bytes, h.0, t)
    go false q t more = more t

-- code that a method has keeps the rules of code, and is bytes
pub record IsFiled (pool : Pool) (k : Code) : Type 0 where
  pub rules : IsCode pool k
  pub bytes : IsBytes k.code

pub filed : (pool : Pool) (m : Member) (k : Code) → HasBytes m → code_in pool m ≡ Some k → IsFiled pool k
filed pool m k h e =
    let f = found_bytes pool m.attributes k h e in
    let s : SpellsCode pool f.0 k = code_is_found pool f.0 (Some (Ok k)) f.1 f.2 in
    let all : IsBytes (code_spelling k) = subst IsBytes s.is f.1 in
    let first : List ℕ = u2 k.max_stack ++ u2 k.max_locals ++ u4 (length k.code) in
    let a = front_bytes (first ++ k.code ++ u2 (length k.handlers) ++ flat_map handler k.handlers) (attributes k.attributes) all in
    let b = front_bytes (first ++ k.code ++ u2 (length k.handlers)) (flat_map handler k.handlers) a in
    let c = front_bytes (first ++ k.code) (u2 (length k.handlers)) b in
    record { rules = s.code; bytes = behind_bytes first k.code c }

-- what the code spells
pub spelled : (c : ClassFile) (m : Member) (k : Coded) → HasBytes m → decoded c m ≡ Ok k → SpellsInstrs c.pool k.code.handlers k.code.code k.instrs
spelled c m k h e =
    let r = coded_parts c m k e in
    let f = filed c.pool m k.code h r.code in
    code_take c.pool k.code.handlers k.code.code f.bytes f.rules.short k.instrs r.instrs

-- the rules of the code
pub decoded_rules : (c : ClassFile) (m : Member) (k : Coded) → HasBytes m → decoded c m ≡ Ok k → IsCode c.pool k.code
decoded_rules c m k h e = let r = coded_parts c m k e in (filed c.pool m k.code h r.code).rules

-- code has an instruction
pub some_instr : (pool : Pool) (k : Code) (is : List Instr) → IsCode pool k → Holds 0 k.code is → 0 < length is
some_instr pool k [] rules h = absurd (omega (arith, rules.some, ap length h))
some_instr pool k (i ∷ is) rules h = omega arith
