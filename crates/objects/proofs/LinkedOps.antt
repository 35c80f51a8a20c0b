-- What instructions of taken methods mean is source: the fields, methods, texts, types and targets that they name are there.
use Rattle.std.proofs.Common.{◌≡◌, ℕ, ℤ, ◌-◌, ◌<◌, ◌≤◌, List, length, Option, Some, None, Bool, true, false, nat_le, nat_eq, refl, subst, arith}
use Rattle.std.specs.Prelude.{pos, ◌-ℤ◌, ◌==◌, ◌&&◌, if◌then◌else◌, option_map, option_and_then, FitsSigned}
use Rattle.std.specs.Int.{w32, w64}
use Rattle.std.specs.Option.{option_or}
use Rattle.std.proofs.lemmas.Bool.Decides.{nat_tests}
use Rattle.std.proofs.lemmas.Int.{ints}
use Rattle.jmodel.specs.declared.instruction.Instr.{Instr}
use Rattle.jmodel.specs.declared.value.Value.TheVariants as value
use Rattle.objects.specs.linking.Code.{number_at, numbered_case}
use Rattle.objects.specs.linking.Each.{each}
use Rattle.objects.specs.declared.op.Sort.TheVariants as sort
use Rattle.objects.specs.declared.op.Width.{Width}
use Rattle.objects.specs.declared.op.Width.TheVariants as width
use Rattle.objects.specs.declared.op.Op.{Op}
use Rattle.objects.specs.declared.op.Op.TheVariants as op
use Rattle.objects.specs.declared.op.Binary.TheVariants as binary
use Rattle.objects.specs.declared.op.Shift.TheVariants as shift
use Rattle.objects.specs.declared.op.Division.TheVariants as division
use Rattle.objects.specs.declared.op.Unary.TheVariants as unary
use Rattle.objects.specs.declared.op.Conversion.TheVariants as conversion
use Rattle.objects.specs.declared.op.StackOp.TheVariants as stack
use Rattle.objects.specs.semantics.Program.{Method, Program}
use Rattle.objects.specs.typing.Source.{IsSourceOp}
use Rattle.objects.specs.linking.Decoding.{is_among, constant_op, short_local_op, element_type, element_op, stack_op, arithmetic_of, arithmetic_op, conversion_op, leaving_op, simple_op, local_op, wide_op, test_of, jump_to, jump_op, switch_to, switch_op}
use Rattle.objects.proofs.Items.{placed, from_each, all_items}

-- ---- forms

module _ (P : Program) (k : Method) where
  abbrev IsFine : Option Op → Type 0
  IsFine None = Unit {0}
  IsFine (Some o) = IsSourceOp P k o

  -- what an instruction means, where it means something, is source
  pub record Fine (o : Option Op) : Type 0 where
    pub fine : IsFine o

  pub nothing : Fine None
  nothing = record { fine = tt }

  pub leaf : (o : Op) → IsSourceOp P k o → Fine (Some o)
  leaf o h = record { fine = h }

  pub either : (t : Bool) (x y : Option Op) → Fine x → Fine y → Fine (if t then x else y)
  either true x y p q = p
  either false x y p q = q

  -- the same, where it matters that the test holds or fails
  pub when : (t : Bool) (x y : Option Op) → (t ≡ true → Fine x) → (t ≡ false → Fine y) → Fine (if t then x else y)
  when true x y p q = p refl
  when false x y p q = q refl

  pub plain : (t : Bool) (o : Op) (y : Option Op) → IsSourceOp P k o → Fine y → Fine (if t then Some o else y)
  plain t o y p q = either t (Some o) y (leaf o p) q

  pub first : (x y : Option Op) → Fine x → Fine y → Fine (option_or x y)
  first None y p q = q
  first (Some o) y p q = p

  pub mapped : {A : Type 0} (f : A → Op) (o : Option A) → ((x : A) → o ≡ Some x → IsSourceOp P k (f x)) → Fine (option_map f o)
  mapped f None h = nothing
  mapped f (Some x) h = leaf (f x) (h x refl)

  pub chained : {A : Type 0} (f : A → Option Op) (o : Option A) → ((x : A) → o ≡ Some x → Fine (f x)) → Fine (option_and_then f o)
  chained f None h = nothing
  chained f (Some x) h = h x refl

  -- ---- instructions without operands

  both : (a b : Bool) → (a && b) ≡ true → (a ≡ true) × (b ≡ true)
  both true b e = (refl, e)
  both false b e = cc

  small : (c : ℕ) → is_among 2 8 c ≡ true → FitsSigned w32 (pos c -ℤ pos 3)
  small c h =
      let t = both (nat_le 2 c) (nat_le c 8) h in
      let low : 2 ≤ c = let u = t.0 in grind (arith, nat_tests) in
      let high : c ≤ 8 = let u = t.1 in grind (arith, nat_tests) in
      omega (arith, ints)

  bit : (c : ℕ) → is_among 9 10 c ≡ true → FitsSigned w64 (pos (c - 9))
  bit c h =
      let t = both (nat_le 9 c) (nat_le c 10) h in
      let high : c ≤ 10 = let u = t.1 in grind (arith, nat_tests) in
      omega (arith, ints)

  constant_fine : (c : ℕ) → Fine (constant_op c)
  constant_fine c =
      plain (c == 1) (op.Constant (value.Ref 0)) _ refl
      (when (is_among 2 8 c) (Some (op.Constant (value.Int (pos c -ℤ pos 3)))) _ (λ t. leaf _ (small c t))
      (λ f. when (is_among 9 10 c) (Some (op.Constant (value.Long (pos (c - 9))))) None (λ t. leaf _ (bit c t)) (λ f. nothing)))

  short_fine : (c : ℕ) → Fine (short_local_op c)
  short_fine c =
      plain _ (op.Load sort.Int (c - 26)) _ tt (plain _ (op.Load sort.Long (c - 30)) _ tt (plain _ (op.Load sort.Reference (c - 42)) _ tt
      (plain _ (op.Store sort.Int (c - 59)) _ tt (plain _ (op.Store sort.Long (c - 63)) _ tt (plain _ (op.Store sort.Reference (c - 75)) None tt nothing)))))

  element_fine : (c : ℕ) → Fine (element_op c)
  element_fine c = either (is_among 46 53 c) _ _ (mapped op.LoadElement (element_type (c - 46)) (λ t e. tt)) (either (is_among 79 86 c) _ None (mapped op.StoreElement (element_type (c - 79)) (λ t e. tt)) nothing)

  stack_fine : (c : ℕ) → Fine (stack_op c)
  stack_fine c =
      plain _ (op.Stack stack.Nop) _ tt (plain _ (op.Stack stack.Pop) _ tt (plain _ (op.Stack stack.Pop2) _ tt (plain _ (op.Stack stack.Dup) _ tt (plain _ (op.Stack stack.DupX1) _ tt
      (plain _ (op.Stack stack.DupX2) _ tt (plain _ (op.Stack stack.Dup2) _ tt (plain _ (op.Stack stack.Dup2X1) _ tt (plain _ (op.Stack stack.Dup2X2) _ tt (plain _ (op.Stack stack.Swap) None tt nothing)))))))))

  arithmetic_fine : (w : Width) (c : ℕ) → Fine (arithmetic_of w c)
  arithmetic_fine w c =
      plain _ (op.Binary w binary.Add) _ tt (plain _ (op.Binary w binary.Subtract) _ tt (plain _ (op.Binary w binary.Multiply) _ tt (plain _ (op.Divide w division.Quotient) _ tt
      (plain _ (op.Divide w division.Remainder) _ tt (plain _ (op.Unary w unary.Negate) _ tt (plain _ (op.Shift w shift.Left) _ tt (plain _ (op.Shift w shift.Right) _ tt
      (plain _ (op.Shift w shift.UnsignedRight) _ tt (plain _ (op.Binary w binary.And) _ tt (plain _ (op.Binary w binary.Or) _ tt (plain _ (op.Binary w binary.Xor) None tt nothing)))))))))))

  conversion_fine : (c : ℕ) → Fine (conversion_op c)
  conversion_fine c =
      plain _ (op.Convert conversion.IntToLong) _ tt (plain _ (op.Convert conversion.LongToInt) _ tt (plain _ (op.Convert conversion.IntToByte) _ tt
      (plain _ (op.Convert conversion.IntToChar) _ tt (plain _ (op.Convert conversion.IntToShort) _ tt (plain _ op.CompareLongs None tt nothing)))))

  leaving_fine : (c : ℕ) → Fine (leaving_op c)
  leaving_fine c =
      plain _ (op.ReturnValue sort.Int) _ tt (plain _ (op.ReturnValue sort.Long) _ tt (plain _ (op.ReturnValue sort.Reference) _ tt (plain _ op.Return _ tt (plain _ op.Throw None tt nothing))))

  pub simple_fine : (c : ℕ) → Fine (simple_op c)
  simple_fine c =
      plain (c == 190) op.ArrayLength _ tt (first (constant_op c) _ (constant_fine c) (first (short_local_op c) _ (short_fine c) (first (element_op c) _ (element_fine c) (first (stack_op c) _ (stack_fine c)
      (first (arithmetic_op c) _ (first (arithmetic_of width.Int c) _ (arithmetic_fine width.Int c) (arithmetic_fine width.Long (c - 1))) (first (conversion_op c) _ (conversion_fine c) (leaving_fine c)))))))

  pub local_fine : (c n : ℕ) → Fine (local_op c n)
  local_fine c n =
      plain _ (op.Load sort.Int n) _ tt (plain _ (op.Load sort.Long n) _ tt (plain _ (op.Load sort.Reference n) _ tt
      (plain _ (op.Store sort.Int n) _ tt (plain _ (op.Store sort.Long n) _ tt (plain _ (op.Store sort.Reference n) None tt nothing)))))

  pub wide_fine : (c n : ℕ) (add : ℤ) → Fine (wide_op c n add)
  wide_fine c n add = plain _ (op.Increment n add) _ tt (local_fine c n)

  -- ---- jumps

  module _ (is : List Instr) (many : length k.ops ≡ length is) where
    target_there : (pc n : ℕ) → number_at is pc ≡ Some n → n < length k.ops
    target_there pc n e = let p = placed (λ (i : Instr). nat_eq i.pc pc) is n e in let below = p.3 in omega (arith, below, many)

    jump_to_fine : (c to : ℕ) → to < length k.ops → Fine (jump_to c to)
    jump_to_fine c to h =
        either (is_among 153 158 c) _ _ (mapped (λ t. op.Branch t to) (test_of (c - 153)) (λ t e. h))
        (either (is_among 159 164 c) _ _ (mapped (λ t. op.BranchInts t to) (test_of (c - 159)) (λ t e. h))
        (plain _ (op.BranchReferences true to) _ h (plain _ (op.BranchReferences false to) _ h (plain _ (op.Goto to) _ h
        (plain _ (op.BranchNull true to) _ h (plain _ (op.BranchNull false to) None h nothing))))))

    pub jump_fine : (c target : ℕ) → Fine (jump_op is c target)
    jump_fine c target = chained (jump_to c) (number_at is target) (λ to e. jump_to_fine c to (target_there target to e))

    case_there : (c d : ℤ × ℕ) → numbered_case is c ≡ Some d → d.1 < length k.ops
    case_there c d e = go (number_at is c.1) refl e
      where
        go : (o : Option ℕ) → number_at is c.1 ≡ o → option_map (λ (n : ℕ). (c.0, n)) o ≡ Some d → d.1 < length k.ops
        go None f h = cc
        go (Some n) f h = let same : n ≡ d.1 = cc in subst (λ (i : ℕ). i < length k.ops) same (target_there c.1 n f)

    pub switch_fine : (other : ℕ) (cases : List (ℤ × ℕ)) → Fine (switch_op is other cases)
    switch_fine other cases = go (number_at is other) refl (each (numbered_case is) cases) refl
      where
        go : (o : Option ℕ) → number_at is other ≡ o → (cs : Option (List (ℤ × ℕ))) → each (numbered_case is) cases ≡ cs → Fine (switch_to o cs)
        go (Some o) e (Some cs) f =
            leaf (op.Switch o cs) (target_there other o e, all_items (λ (c : ℤ × ℕ). c.1 < length k.ops) cs (λ d at. let r = from_each (numbered_case is) cases cs f at.0 d at.1 in case_there r.0 d r.2))
        go (Some o) e None f = nothing
        go None e cs f = nothing
