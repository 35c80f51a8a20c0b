-- The instructions that are added: what they mean, and that they can be laid.
use Rattle.std.proofs.Common.{◌≡◌, ℕ, zero, suc, ◌+◌, ◌<◌, ℤ, pos, Bool, true, false, ◌&&◌, List, [], ◌∷◌, ◌++◌, length, Option, Some, None, refl, arith}
use Rattle.std.specs.Prelude.{nat_lt, negsuc, int_le, if◌then◌else◌, option_and_then, FitsSigned}
use Rattle.std.specs.Int.{w8, w16}
use Rattle.std.specs.List.{AllByRecursion}
use Rattle.std.proofs.lemmas.Int.{ints}
use Rattle.std.proofs.lemmas.Bool.Decides.{nat_tests}
use Rattle.jmodel.specs.declared.class_file.Constant.{Constant}
use Rattle.jmodel.specs.declared.class_file.Constant.TheVariants as constants
use Rattle.jmodel.specs.declared.instruction.EntryKind.{EntryKind}
use Rattle.jmodel.specs.declared.instruction.EntryKind.TheVariants as kind
use Rattle.jmodel.specs.declared.instruction.Operands.TheVariants as operands
use Rattle.jmodel.specs.declared.instruction.Instr.{Instr}
use Rattle.jmodel.specs.format.ClassFile.{Pool}
use Rattle.jmodel.specs.format.Pool.{entry, field_in, field_name, method_in, method_name, member_in, member_name, class_name, name_in, MemberName}
use Rattle.jmodel.specs.format.Constants.{as_int, integer, integer_in}
use Rattle.jmodel.specs.format.Instruction.{form_of, is_kind_in, targets_of, FitPoolAs}
use Rattle.objects.specs.linking.Each.{each}
use Rattle.jmodel.specs.format.Relocation.{put_at, retargeted, size_at, laid_to, IsShaped, IsShapedAs}
use Rattle.objects.specs.declared.op.Sort.{Sort}
use Rattle.objects.specs.declared.op.Sort.TheVariants as sort
use Rattle.objects.specs.declared.op.Op.{Op}
use Rattle.objects.specs.declared.op.Op.TheVariants as op
use Rattle.objects.specs.linking.Decoding.{Symbols, op_of, get_static_op, field_op, call_op, virtual_call_op, static_call_op, special_call_op}
use Rattle.member_code.specs.Instrs.{instr, plain, naming, local_instr, load, store, increment, give, call_static, call_virtual, call_special, get_static, get_field, check_cast}

-- ---- the shortest form of a load or a store

below_four : (P : ℕ → Type 0) → P 0 → P 1 → P 2 → P 3 → (i : ℕ) → i < 4 → P i
below_four P a b c d zero h = a
below_four P a b c d (suc zero) h = b
below_four P a b c d (suc (suc zero)) h = c
below_four P a b c d (suc (suc (suc zero))) h = d
below_four P a b c d (suc (suc (suc (suc i)))) h = absurd (omega arith)

test_less : (a b : ℕ) → nat_lt a b ≡ true → a < b
test_less a b t = grind (arith, nat_tests)

pub local_cases : (P : Instr → Type 0) (c short i : ℕ) → (i < 4 → P (plain (short + i))) → (i < 256 → P (instr c (operands.Local i))) → P (instr 196 (operands.Wide c i (pos 0))) → P (local_instr c short i)
local_cases P c short i a b d = go (nat_lt i 4) refl (nat_lt i 256) refl
  where
    go : (x : Bool) → nat_lt i 4 ≡ x → (y : Bool) → nat_lt i 256 ≡ y → P (if x then plain (short + i) else if y then instr c (operands.Local i) else instr 196 (operands.Wide c i (pos 0)))
    go true p y q = a (test_less i 4 p)
    go false p true q = b (test_less i 256 q)
    go false p false q = d

-- an instruction means this wherever it stands
abbrev pub Means : Symbols → (ℕ → ℕ) → List Instr → Op → Instr → Type 0
Means s place is o i = (at : ℕ) → op_of s is (retargeted place (put_at at i)) ≡ Some o

module _ (s : Symbols) (place : ℕ → ℕ) (is : List Instr) where
  pub load_means : (k : Sort) (i : ℕ) → Means s place is (op.Load k i) (load k i)
  load_means sort.Int i = local_cases (Means s place is (op.Load sort.Int i)) 21 26 i (λ h. below_four (λ j. Means s place is (op.Load sort.Int j) (plain (26 + j))) (λ at. refl) (λ at. refl) (λ at. refl) (λ at. refl) i h) (λ h at. refl) (λ at. refl)
  load_means sort.Long i = local_cases (Means s place is (op.Load sort.Long i)) 22 30 i (λ h. below_four (λ j. Means s place is (op.Load sort.Long j) (plain (30 + j))) (λ at. refl) (λ at. refl) (λ at. refl) (λ at. refl) i h) (λ h at. refl) (λ at. refl)
  load_means sort.Reference i = local_cases (Means s place is (op.Load sort.Reference i)) 25 42 i (λ h. below_four (λ j. Means s place is (op.Load sort.Reference j) (plain (42 + j))) (λ at. refl) (λ at. refl) (λ at. refl) (λ at. refl) i h) (λ h at. refl) (λ at. refl)

  pub store_means : (k : Sort) (i : ℕ) → Means s place is (op.Store k i) (store k i)
  store_means sort.Int i = local_cases (Means s place is (op.Store sort.Int i)) 54 59 i (λ h. below_four (λ j. Means s place is (op.Store sort.Int j) (plain (59 + j))) (λ at. refl) (λ at. refl) (λ at. refl) (λ at. refl) i h) (λ h at. refl) (λ at. refl)
  store_means sort.Long i = local_cases (Means s place is (op.Store sort.Long i)) 55 63 i (λ h. below_four (λ j. Means s place is (op.Store sort.Long j) (plain (63 + j))) (λ at. refl) (λ at. refl) (λ at. refl) (λ at. refl) i h) (λ h at. refl) (λ at. refl)
  store_means sort.Reference i = local_cases (Means s place is (op.Store sort.Reference i)) 58 75 i (λ h. below_four (λ j. Means s place is (op.Store sort.Reference j) (plain (75 + j))) (λ at. refl) (λ at. refl) (λ at. refl) (λ at. refl) i h) (λ h at. refl) (λ at. refl)

  pub give_means : (k : Sort) → Means s place is (op.ReturnValue k) (give k)
  give_means sort.Int at = refl
  give_means sort.Long at = refl
  give_means sort.Reference at = refl

  pub call_static_means : (i : ℕ) (m : MemberName) (o : Op) → member_name s.class.pool i ≡ Some m → static_call_op s m ≡ Some o → Means s place is o (call_static i)
  call_static_means i m o e f at = rw e f

  pub call_virtual_means : (i : ℕ) (m : MemberName) (o : Op) → member_name s.class.pool i ≡ Some m → virtual_call_op s m ≡ Some o → Means s place is o (call_virtual i)
  call_virtual_means i m o e f at = rw e f

  pub call_special_means : (i : ℕ) (m : MemberName) (o : Op) → member_name s.class.pool i ≡ Some m → special_call_op s m ≡ Some o → Means s place is o (call_special i)
  call_special_means i m o e f at = rw e f

  pub get_static_means : (i : ℕ) (m : MemberName) (o : Op) → field_name s.class.pool i ≡ Some m → get_static_op s m ≡ Some o → Means s place is o (get_static i)
  get_static_means i m o e f at = rw e f

  pub get_field_means : (i : ℕ) (m : MemberName) (o : Op) → field_name s.class.pool i ≡ Some m → field_op s 180 m ≡ Some o → Means s place is o (get_field i)
  get_field_means i m o e f at = rw e f

  pub check_cast_means : (i : ℕ) (n : List ℕ) → class_name s.class.pool i ≡ Some n → Means s place is (op.CheckCast n) (check_cast i)
  check_cast_means i n e at = rw e refl

-- iinc in its shortest form
small_add : (n : ℤ) → (int_le (negsuc 127) n && int_le n (pos 127)) ≡ true → FitsSigned w8 n
small_add n t = grind (arith, ints)

pub increment_cases : (P : Instr → Type 0) (i : ℕ) (n : ℤ) → (i < 256 → FitsSigned w8 n → P (instr 132 (operands.LocalAdd i n))) → P (instr 196 (operands.Wide 132 i n)) → P (increment i n)
increment_cases P i n a b = go (nat_lt i 256) refl (int_le (negsuc 127) n) refl (int_le n (pos 127)) refl
  where
    go : (x : Bool) → nat_lt i 256 ≡ x → (y : Bool) → int_le (negsuc 127) n ≡ y → (z : Bool) → int_le n (pos 127) ≡ z → P (if x && y && z then instr 132 (operands.LocalAdd i n) else instr 196 (operands.Wide 132 i n))
    go false p y q z r = b
    go true p false q z r = b
    go true p true q false r = b
    go true p true q true r = a (test_less i 256 p) (small_add n (rw (q, r) refl))

pub increment_means : (s : Symbols) (place : ℕ → ℕ) (is : List Instr) (i : ℕ) (n : ℤ) → Means s place is (op.Increment i n) (increment i n)
increment_means s place is i n = increment_cases (Means s place is (op.Increment i n)) i n (λ h k at. refl) (λ at. refl)

-- ---- lists of them

module _ (s : Symbols) (place : ℕ → ℕ) (L : List Instr) where
  -- each means what stands at its place
  abbrev pub AreMeant : List Instr → List Op → Type 0
  AreMeant [] [] = Unit {0}
  AreMeant [] (o ∷ os) = ⊥
  AreMeant (i ∷ is) [] = ⊥
  AreMeant (i ∷ is) (o ∷ os) = Means s place L o i × AreMeant is os

  pub meant_append : (is js : List Instr) (os qs : List Op) → AreMeant is os → AreMeant js qs → AreMeant (is ++ js) (os ++ qs)
  meant_append [] js [] qs h k = k
  meant_append [] js (o ∷ os) qs h k = absurd h
  meant_append (i ∷ is) js [] qs h k = absurd h
  meant_append (i ∷ is) js (o ∷ os) qs h k = (h.0, meant_append is js os qs h.1 k)

  pub all_meant : (a : ℕ) (is : List Instr) (os : List Op) → AreMeant is os → each (op_of s L) (laid_to place a is) ≡ Some os
  all_meant a [] [] h = refl
  all_meant a [] (o ∷ os) h = absurd h
  all_meant a (i ∷ is) [] h = absurd h
  all_meant a (i ∷ is) (o ∷ os) h = let e = h.0 a in let t = all_meant (a + size_at a i) is os h.1 in rw e (rw t refl)

-- ---- that they can be laid

-- an instruction can stand in code over a pool, and leads nowhere
pub record IsLaid (pool : Pool) (i : Instr) : Type 0 where
  pub shaped : IsShaped i
  pub fits : FitPoolAs pool (form_of i.op) i.operands
  pub nowhere : targets_of i.operands ≡ []

module _ (pool : Pool) where
  pub plain_laid : (c : ℕ) → c < 256 → IsShapedAs (form_of c) operands.Nothing → FitPoolAs pool (form_of c) operands.Nothing → IsLaid pool (plain c)
  plain_laid c h s f = record { shaped = record { op = h; operands = s }; fits = f; nowhere = refl }

  local_laid : (i : ℕ) → i < 256 → (c : ℕ) → c < 256 → IsShapedAs (form_of c) (operands.Local i) → FitPoolAs pool (form_of c) (operands.Local i) → IsLaid pool (instr c (operands.Local i))
  local_laid i k c h s f = record { shaped = record { op = h; operands = s }; fits = f; nowhere = refl }

  wide_laid : (c i : ℕ) (n : ℤ) → IsShapedAs (form_of 196) (operands.Wide c i n) → IsLaid pool (instr 196 (operands.Wide c i n))
  wide_laid c i n s = record { shaped = record { op = omega arith; operands = s }; fits = tt; nowhere = refl }

  pub load_laid : (k : Sort) (i : ℕ) → i < 65536 → IsLaid pool (load k i)
  load_laid sort.Int i h = local_cases (IsLaid pool) 21 26 i
      (λ k. below_four (λ j. IsLaid pool (plain (26 + j))) (plain_laid 26 (omega arith) tt tt) (plain_laid 27 (omega arith) tt tt) (plain_laid 28 (omega arith) tt tt) (plain_laid 29 (omega arith) tt tt) i k)
      (λ k. local_laid i k 21 (omega arith) k tt) (wide_laid 21 i (pos 0) (omega arith, h, refl))
  load_laid sort.Long i h = local_cases (IsLaid pool) 22 30 i
      (λ k. below_four (λ j. IsLaid pool (plain (30 + j))) (plain_laid 30 (omega arith) tt tt) (plain_laid 31 (omega arith) tt tt) (plain_laid 32 (omega arith) tt tt) (plain_laid 33 (omega arith) tt tt) i k)
      (λ k. local_laid i k 22 (omega arith) k tt) (wide_laid 22 i (pos 0) (omega arith, h, refl))
  load_laid sort.Reference i h = local_cases (IsLaid pool) 25 42 i
      (λ k. below_four (λ j. IsLaid pool (plain (42 + j))) (plain_laid 42 (omega arith) tt tt) (plain_laid 43 (omega arith) tt tt) (plain_laid 44 (omega arith) tt tt) (plain_laid 45 (omega arith) tt tt) i k)
      (λ k. local_laid i k 25 (omega arith) k tt) (wide_laid 25 i (pos 0) (omega arith, h, refl))

  pub store_laid : (k : Sort) (i : ℕ) → i < 65536 → IsLaid pool (store k i)
  store_laid sort.Int i h = local_cases (IsLaid pool) 54 59 i
      (λ k. below_four (λ j. IsLaid pool (plain (59 + j))) (plain_laid 59 (omega arith) tt tt) (plain_laid 60 (omega arith) tt tt) (plain_laid 61 (omega arith) tt tt) (plain_laid 62 (omega arith) tt tt) i k)
      (λ k. local_laid i k 54 (omega arith) k tt) (wide_laid 54 i (pos 0) (omega arith, h, refl))
  store_laid sort.Long i h = local_cases (IsLaid pool) 55 63 i
      (λ k. below_four (λ j. IsLaid pool (plain (63 + j))) (plain_laid 63 (omega arith) tt tt) (plain_laid 64 (omega arith) tt tt) (plain_laid 65 (omega arith) tt tt) (plain_laid 66 (omega arith) tt tt) i k)
      (λ k. local_laid i k 55 (omega arith) k tt) (wide_laid 55 i (pos 0) (omega arith, h, refl))
  store_laid sort.Reference i h = local_cases (IsLaid pool) 58 75 i
      (λ k. below_four (λ j. IsLaid pool (plain (75 + j))) (plain_laid 75 (omega arith) tt tt) (plain_laid 76 (omega arith) tt tt) (plain_laid 77 (omega arith) tt tt) (plain_laid 78 (omega arith) tt tt) i k)
      (λ k. local_laid i k 58 (omega arith) k tt) (wide_laid 58 i (pos 0) (omega arith, h, refl))

  pub increment_laid : (i : ℕ) (n : ℤ) → i < 65536 → FitsSigned w16 n → IsLaid pool (increment i n)
  increment_laid i n h f = increment_cases (IsLaid pool) i n (λ k g. record { shaped = record { op = omega arith; operands = (k, g) }; fits = tt; nowhere = refl })
      (wide_laid 132 i n (omega arith, h, f))

  pub give_laid : (k : Sort) → IsLaid pool (give k)
  give_laid sort.Int = plain_laid 172 (omega arith) tt tt
  give_laid sort.Long = plain_laid 173 (omega arith) tt tt
  give_laid sort.Reference = plain_laid 176 (omega arith) tt tt

  in_kind : {X : Type 0} (f : Constant → Option X) (k : EntryKind) → ((c : Constant) (x : X) → f c ≡ Some x → is_kind_in k (Some c) ≡ true) → (o : Option Constant) (x : X) → option_and_then f o ≡ Some x → is_kind_in k o ≡ true
  in_kind f k h None x e = cc
  in_kind f k h (Some c) x e = h c x e

  field_kind : (c : Constant) (x : MemberName) → field_in pool c ≡ Some x → is_kind_in kind.Field (Some c) ≡ true
  field_kind (constants.Field k p) x h = refl
  field_kind c x h = cc

  method_kind : (c : Constant) (x : MemberName) → method_in pool c ≡ Some x → is_kind_in kind.Method (Some c) ≡ true
  method_kind (constants.Method k p) x h = refl
  method_kind c x h = cc

  class_kind : (c : Constant) (x : List ℕ) → name_in pool c ≡ Some x → is_kind_in kind.Class (Some c) ≡ true
  class_kind (constants.Class n) x h = refl
  class_kind c x h = cc

  int_kind : (c : Constant) (x : ℤ) → integer_in c ≡ Some x → is_kind_in kind.Single (Some c) ≡ true
  int_kind (constants.Integer n) x h = refl
  int_kind c x h = cc

  pub call_static_laid : (i : ℕ) (m : MemberName) → i < 65535 → method_name pool i ≡ Some m → IsLaid pool (call_static i)
  call_static_laid i m h e = record { shaped = record { op = omega arith; operands = omega (arith, h) }; fits = in_kind (method_in pool) kind.Method method_kind (entry pool i) m e; nowhere = refl }

  pub call_virtual_laid : (i : ℕ) (m : MemberName) → i < 65535 → method_name pool i ≡ Some m → IsLaid pool (call_virtual i)
  call_virtual_laid i m h e = record { shaped = record { op = omega arith; operands = omega (arith, h) }; fits = in_kind (method_in pool) kind.Method method_kind (entry pool i) m e; nowhere = refl }

  pub call_special_laid : (i : ℕ) (m : MemberName) → i < 65535 → method_name pool i ≡ Some m → IsLaid pool (call_special i)
  call_special_laid i m h e = record { shaped = record { op = omega arith; operands = omega (arith, h) }; fits = in_kind (method_in pool) kind.Method method_kind (entry pool i) m e; nowhere = refl }

  pub get_static_laid : (i : ℕ) (m : MemberName) → i < 65535 → field_name pool i ≡ Some m → IsLaid pool (get_static i)
  get_static_laid i m h e = record { shaped = record { op = omega arith; operands = omega (arith, h) }; fits = in_kind (field_in pool) kind.Field field_kind (entry pool i) m e; nowhere = refl }

  pub get_field_laid : (i : ℕ) (m : MemberName) → i < 65535 → field_name pool i ≡ Some m → IsLaid pool (get_field i)
  get_field_laid i m h e = record { shaped = record { op = omega arith; operands = omega (arith, h) }; fits = in_kind (field_in pool) kind.Field field_kind (entry pool i) m e; nowhere = refl }

  pub check_cast_laid : (i : ℕ) (n : List ℕ) → i < 65535 → class_name pool i ≡ Some n → IsLaid pool (check_cast i)
  check_cast_laid i n h e = record { shaped = record { op = omega arith; operands = omega (arith, h) }; fits = in_kind (name_in pool) kind.Class class_kind (entry pool i) n e; nowhere = refl }

  pub int_laid : (i : ℕ) (n : ℤ) → i < 65535 → integer pool i ≡ Some n → IsLaid pool (naming 19 i)
  int_laid i n h e = record { shaped = record { op = omega arith; operands = omega (arith, h) }; fits = in_kind integer_in kind.Single int_kind (entry pool i) n e; nowhere = refl }

  -- a Methodref is a member
  method_member : (c : Constant) (x : MemberName) → method_in pool c ≡ Some x → member_in pool c ≡ Some x
  method_member (constants.Method k p) x h = h
  method_member c x h = cc

  pub named_member : (i : ℕ) (m : MemberName) → method_name pool i ≡ Some m → member_name pool i ≡ Some m
  named_member i m e = go (entry pool i) e where
    go : (o : Option Constant) → option_and_then (method_in pool) o ≡ Some m → option_and_then (member_in pool) o ≡ Some m
    go None h = cc
    go (Some c) h = method_member c m h
