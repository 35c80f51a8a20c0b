-- Jumps and switches of a duplicate: they lead to the blocks of their targets.
use Rattle.std.proofs.Common.{◌≡◌, ℕ, ℤ, ◌<◌, Bool, true, false, ◌||◌, List, [], ◌∷◌, Option, Some, None, refl, sym, ap, ◌∙◌}
use Rattle.std.specs.Prelude.{if◌then◌else◌, ◌==◌, option_map, option_and_then, map, pos, ◌-◌}
use Rattle.std.specs.Int.{w32, int_wrapping_add}
use Rattle.jmodel.specs.declared.instruction.Operands.{Operands}
use Rattle.jmodel.specs.declared.instruction.Operands.TheVariants as operands
use Rattle.jmodel.specs.declared.instruction.Instr.{Instr}
use Rattle.objects.specs.linking.Code.{number_at, table_cases, numbered_case}
use Rattle.objects.specs.linking.Each.{in_front, each}
use Rattle.jmodel.specs.format.Relocation.{retarget}
use Rattle.objects.specs.declared.op.Op.{Op}
use Rattle.objects.specs.declared.op.Op.TheVariants as op
use Rattle.objects.specs.declared.op.Test.{Test}
use Rattle.objects.specs.rewriting.Rewriting.{moved_cases}
use Rattle.objects.specs.linking.Decoding.{Symbols, is_among, test_of, jump_to, jump_op, switch_to, switch_op, wide_op, local_op, meaning}
use Rattle.member_code.proofs.Single.{Means}
use Rattle.dup_methods.proofs.Apart.{is_jump, is_switch, is_far, NoneOf, leaf, either, simple_near, number_near, local_near, pool_near, jump_none, switch_none}

-- a jump with its target changed
abbrev pub jump_by : (ℕ → ℕ) → Op → Op
jump_by at (op.Branch t to) = op.Branch t (at to)
jump_by at (op.BranchInts t to) = op.BranchInts t (at to)
jump_by at (op.BranchNull b to) = op.BranchNull b (at to)
jump_by at (op.BranchReferences b to) = op.BranchReferences b (at to)
jump_by at (op.Goto to) = op.Goto (at to)
jump_by at o = o

-- a jump has a target where an instruction stands
pub record Jumps (is : List Instr) (c : ℕ) (operand : Operands) (o : Op) : Type 0 where
  pub target : ℕ
  pub is_target : operand ≡ operands.Target target
  pub number : ℕ
  pub leads : number_at is target ≡ Some number
  pub means : jump_to c number ≡ Some o

target_jumps : (is : List Instr) (c t : ℕ) (o : Op) → jump_op is c t ≡ Some o → Jumps is c (operands.Target t) o
target_jumps is c t o h = go (number_at is t) refl h
  where
    go : (x : Option ℕ) → number_at is t ≡ x → option_and_then (jump_to c) x ≡ Some o → Jumps is c (operands.Target t) o
    go None e h = cc
    go (Some n) e h = record { target = t; is_target = refl; number = n; leads = e; means = h }

-- a jump passes the test of what is neither
far_of : (a b : Bool) → a ≡ true → (a || b) ≡ true
far_of true b h = refl
far_of false b h = cc

far_jump : (o : Op) → is_jump o ≡ true → is_far o ≡ true
far_jump o h = far_of (is_jump o) _ h

wide_jumps_not : (w n : ℕ) (a : ℤ) → w < 256 → NoneOf is_jump (wide_op w n a)
wide_jumps_not w n a less = either is_jump (w == 132) (Some (op.Increment n a)) (local_op w n) (leaf is_jump _ refl) (record { other = λ o e t. (local_near n w less).other o e (far_jump o t) })

-- the opcode behind wide is one
abbrev pub IsWideOp : Operands → Type 0
IsWideOp (operands.Wide w n a) = w < 256
IsWideOp o = Unit {0}

pub jump_is : (s : Symbols) (is : List Instr) (c : ℕ) (operand : Operands) (o : Op) → c < 256 → IsWideOp operand → is_jump o ≡ true → meaning s is c operand ≡ Some o → Jumps is c operand o
jump_is s is c operands.Nothing o less w h e = absurd ((simple_near c less).other o e (far_jump o h))
jump_is s is c (operands.Number n) o less w h e = absurd ((number_near s c n).other o e (far_jump o h))
jump_is s is c (operands.Local n) o less w h e = absurd ((local_near n c less).other o e (far_jump o h))
jump_is s is c (operands.LocalAdd n a) o less w h e = absurd ((leaf is_jump (op.Increment n a) refl).other o e h)
jump_is s is c (operands.Pool i) o less w h e = absurd ((pool_near s c i).other o e (far_jump o h))
jump_is s is c (operands.Interface i n) o less w h e = absurd ((pool_near s c i).other o e (far_jump o h))
jump_is s is c (operands.Dimensions i n) o less w h e = absurd cc
jump_is s is c (operands.Target t) o less w h e = target_jumps is c t o e
jump_is s is c (operands.Table other low ts) o less w h e = absurd ((switch_none is_jump (λ o cs. refl) is other (table_cases low ts)).other o e h)
jump_is s is c (operands.Lookup other ps) o less w h e = absurd ((switch_none is_jump (λ o cs. refl) is other ps).other o e h)
jump_is s is c (operands.Wide v n a) o less w h e = absurd ((wide_jumps_not v n a w).other o e h)

-- a jump that is no comparison of an int with 0
abbrev rest : ℕ → ℕ → Option Op
rest c m =
    if is_among 159 164 c then option_map (λ t. op.BranchInts t m) (test_of (c - 159))
    else if c == 165 then Some (op.BranchReferences true m)
    else if c == 166 then Some (op.BranchReferences false m)
    else if (c == 167) || (c == 200) then Some (op.Goto m)
    else if c == 198 then Some (op.BranchNull true m)
    else if c == 199 then Some (op.BranchNull false m)
    else None

-- the same jump to another place
jump_moved : (at : ℕ → ℕ) (c n : ℕ) (o : Op) → jump_to c n ≡ Some o → jump_to c (at n) ≡ Some (jump_by at o)
jump_moved at c n o h = first (is_among 153 158 c) (test_of (c - 153)) h
  where
    -- one that is told by a test of ints
    tested : (f : Test → ℕ → Op) → ((t : Test) → jump_by at (f t n) ≡ f t (at n)) → (t : Option Test) → option_map (λ x. f x n) t ≡ Some o → option_map (λ x. f x (at n)) t ≡ Some (jump_by at o)
    tested f same None e = cc
    tested f same (Some t) e = let it : f t n ≡ o = cc in ap (λ (q : Op). Some q) (sym (same t)) ∙ ap (λ (q : Op). Some (jump_by at q)) it

    one : (f : ℕ → Op) → jump_by at (f n) ≡ f (at n) → f n ≡ o → f (at n) ≡ jump_by at o
    one f same e = sym same ∙ ap (jump_by at) e

    sixth : (a : Bool) → (if a then Some (op.BranchNull false n) else None) ≡ Some o → (if a then Some (op.BranchNull false (at n)) else None) ≡ Some (jump_by at o)
    sixth true e = let it : op.BranchNull false n ≡ o = cc in ap (λ (q : Op). Some q) (one (λ m. op.BranchNull false m) refl it)
    sixth false e = cc

    fifth : (a : Bool) → (if a then Some (op.BranchNull true n) else if c == 199 then Some (op.BranchNull false n) else None) ≡ Some o → (if a then Some (op.BranchNull true (at n)) else if c == 199 then Some (op.BranchNull false (at n)) else None) ≡ Some (jump_by at o)
    fifth true e = let it : op.BranchNull true n ≡ o = cc in ap (λ (q : Op). Some q) (one (λ m. op.BranchNull true m) refl it)
    fifth false e = sixth (c == 199) e

    fourth : (a : Bool) → (if a then Some (op.Goto n) else if c == 198 then Some (op.BranchNull true n) else if c == 199 then Some (op.BranchNull false n) else None) ≡ Some o
        → (if a then Some (op.Goto (at n)) else if c == 198 then Some (op.BranchNull true (at n)) else if c == 199 then Some (op.BranchNull false (at n)) else None) ≡ Some (jump_by at o)
    fourth true e = let it : op.Goto n ≡ o = cc in ap (λ (q : Op). Some q) (one (λ m. op.Goto m) refl it)
    fourth false e = fifth (c == 198) e

    third : (a b : Bool) → (if a then Some (op.BranchReferences true n) else if b then Some (op.BranchReferences false n) else if (c == 167) || (c == 200) then Some (op.Goto n) else if c == 198 then Some (op.BranchNull true n) else if c == 199 then Some (op.BranchNull false n) else None) ≡ Some o
        → (if a then Some (op.BranchReferences true (at n)) else if b then Some (op.BranchReferences false (at n)) else if (c == 167) || (c == 200) then Some (op.Goto (at n)) else if c == 198 then Some (op.BranchNull true (at n)) else if c == 199 then Some (op.BranchNull false (at n)) else None) ≡ Some (jump_by at o)
    third true b e = let it : op.BranchReferences true n ≡ o = cc in ap (λ (q : Op). Some q) (one (λ m. op.BranchReferences true m) refl it)
    third false true e = let it : op.BranchReferences false n ≡ o = cc in ap (λ (q : Op). Some q) (one (λ m. op.BranchReferences false m) refl it)
    third false false e = fourth ((c == 167) || (c == 200)) e

    second : (a : Bool) (t : Option Test) → (if a then option_map (λ t. op.BranchInts t n) t else if c == 165 then Some (op.BranchReferences true n) else if c == 166 then Some (op.BranchReferences false n) else if (c == 167) || (c == 200) then Some (op.Goto n) else if c == 198 then Some (op.BranchNull true n) else if c == 199 then Some (op.BranchNull false n) else None) ≡ Some o
        → (if a then option_map (λ t. op.BranchInts t (at n)) t else if c == 165 then Some (op.BranchReferences true (at n)) else if c == 166 then Some (op.BranchReferences false (at n)) else if (c == 167) || (c == 200) then Some (op.Goto (at n)) else if c == 198 then Some (op.BranchNull true (at n)) else if c == 199 then Some (op.BranchNull false (at n)) else None) ≡ Some (jump_by at o)
    second true t e = tested (λ t m. op.BranchInts t m) (λ t. refl) t e
    second false t e = third (c == 165) (c == 166) e

    first : (a : Bool) (t : Option Test) → (if a then option_map (λ t. op.Branch t n) t else rest c n) ≡ Some o → (if a then option_map (λ t. op.Branch t (at n)) t else rest c (at n)) ≡ Some (jump_by at o)
    first true t e = tested (λ t m. op.Branch t m) (λ t. refl) t e
    first false t e = second (is_among 159 164 c) (test_of (c - 159)) e

pub jump_means : (s : Symbols) (is0 is : List Instr) (place at : ℕ → ℕ) (i : Instr) (o : Op) (j : Jumps is0 i.op i.operands o) → number_at is (place j.target) ≡ Some (at j.number) → Means s place is (jump_by at o) i
jump_means s is0 is place at i o j e where_at =
    ap (λ (x : Operands). meaning s is i.op (retarget place x)) j.is_target ∙ ap (option_and_then (jump_to i.op)) e ∙ jump_moved at i.op j.number o j.means

-- ---- switches

-- the cases of operands
pub record Switches (is : List Instr) (operand : Operands) (o : Op) : Type 0 where
  pub other : ℕ
  pub cases : List (ℤ × ℕ)
  pub means : switch_op is other cases ≡ Some o
  pub moves : (s : Symbols) (is' : List Instr) (c : ℕ) (place : ℕ → ℕ) → meaning s is' c (retarget place operand) ≡ switch_op is' (place other) (moved_cases place cases)

table_moved : (place : ℕ → ℕ) (key : ℤ) (ts : List ℕ) → table_cases key (map place ts) ≡ moved_cases place (table_cases key ts)
table_moved place key [] = refl
table_moved place key (t ∷ ts) = ap (λ (l : List (ℤ × ℕ)). (key, place t) ∷ l) (table_moved place (int_wrapping_add w32 key (pos 1)) ts)

wide_switches_not : (w n : ℕ) (a : ℤ) → w < 256 → NoneOf is_switch (wide_op w n a)
wide_switches_not w n a less = either is_switch (w == 132) (Some (op.Increment n a)) (local_op w n) (leaf is_switch _ refl) (record { other = λ o e t. (local_near n w less).other o e (switch_far o t) })
  where
    or_second : (a b : Bool) → b ≡ true → (a || b) ≡ true
    or_second true b h = refl
    or_second false b h = h

    switch_far : (o : Op) → is_switch o ≡ true → is_far o ≡ true
    switch_far o t = or_second (is_jump o) _ (far_of (is_switch o) _ t)

pub switch_is : (s : Symbols) (is : List Instr) (c : ℕ) (operand : Operands) (other : ℕ) (cases : List (ℤ × ℕ)) → c < 256 → IsWideOp operand → meaning s is c operand ≡ Some (op.Switch other cases) → Switches is operand (op.Switch other cases)
switch_is s is c operands.Nothing o cs less w e = absurd ((simple_near c less).other _ e refl)
switch_is s is c (operands.Number n) o cs less w e = absurd ((number_near s c n).other _ e refl)
switch_is s is c (operands.Local n) o cs less w e = absurd ((local_near n c less).other _ e refl)
switch_is s is c (operands.LocalAdd n a) o cs less w e = absurd ((leaf is_switch (op.Increment n a) refl).other _ e refl)
switch_is s is c (operands.Pool i) o cs less w e = absurd ((pool_near s c i).other _ e refl)
switch_is s is c (operands.Interface i n) o cs less w e = absurd ((pool_near s c i).other _ e refl)
switch_is s is c (operands.Dimensions i n) o cs less w e = absurd cc
switch_is s is c (operands.Target t) o cs less w e = absurd ((jump_none is_switch (λ t to. refl) (λ t to. refl) (λ b to. refl) (λ to. refl) (λ b to. refl) is c t).other _ e refl)
switch_is s is c (operands.Wide v n a) o cs less w e = absurd ((wide_switches_not v n a w).other _ e refl)
switch_is s is c (operands.Table other low ts) o cs less w e = record { other = other; cases = table_cases low ts; means = e; moves = λ s is c place. ap (switch_op is (place other)) (table_moved place low ts) }
switch_is s is c (operands.Lookup other ps) o cs less w e = record { other = other; cases = ps; means = e; moves = λ s is c place. refl }

-- in code in which each target's instruction has moved
module _ (is0 is : List Instr) (place at : ℕ → ℕ) (moves : (t n : ℕ) → number_at is0 t ≡ Some n → number_at is (place t) ≡ Some (at n)) where
  case_moved : (c d : ℤ × ℕ) → numbered_case is0 c ≡ Some d → numbered_case is (c.0, place c.1) ≡ Some (d.0, at d.1)
  case_moved c d e = go (number_at is0 c.1) refl e
    where
      go : (o : Option ℕ) → number_at is0 c.1 ≡ o → option_map (λ (n : ℕ). (c.0, n)) o ≡ Some d → numbered_case is (c.0, place c.1) ≡ Some (d.0, at d.1)
      go None q h = cc
      go (Some n) q h = let there = moves c.1 n q in let pair : ℤ × ℕ = (c.0, n) in let same : pair ≡ d = cc in rw there (ap (λ (x : ℤ × ℕ). Some (x.0, at x.1)) same)

  cases_moved : (cs ns : List (ℤ × ℕ)) → each (numbered_case is0) cs ≡ Some ns → each (numbered_case is) (moved_cases place cs) ≡ Some (moved_cases at ns)
  cases_moved [] ns e = let none : ns ≡ [] = cc in rw none refl
  cases_moved (c ∷ cs) ns e = go (numbered_case is0 c) refl (each (numbered_case is0) cs) refl e (λ ms h. cases_moved cs ms h)
    where
      go : (o : Option (ℤ × ℕ)) → numbered_case is0 c ≡ o → (os : Option (List (ℤ × ℕ))) → each (numbered_case is0) cs ≡ os → in_front o os ≡ Some ns
          → ((ms : List (ℤ × ℕ)) → each (numbered_case is0) cs ≡ Some ms → each (numbered_case is) (moved_cases place cs) ≡ Some (moved_cases at ms)) → each (numbered_case is) (moved_cases place (c ∷ cs)) ≡ Some (moved_cases at ns)
      go None q os r h more = cc
      go (Some d) q None r h more = cc
      go (Some d) q (Some ms) r h more =
          let list : ns ≡ d ∷ ms = cc in
          let first = case_moved c d q in
          let rest = more ms r in
          rw (list, first, rest) refl

  switch_moved : (other : ℕ) (cases : List (ℤ × ℕ)) (o : ℕ) (cs : List (ℤ × ℕ)) → switch_op is0 other cases ≡ Some (op.Switch o cs) → switch_op is (place other) (moved_cases place cases) ≡ Some (op.Switch (at o) (moved_cases at cs))
  switch_moved other cases o cs e = go (number_at is0 other) refl (each (numbered_case is0) cases) refl e
    where
      go : (m : Option ℕ) → number_at is0 other ≡ m → (ns : Option (List (ℤ × ℕ))) → each (numbered_case is0) cases ≡ ns → switch_to m ns ≡ Some (op.Switch o cs)
          → switch_op is (place other) (moved_cases place cases) ≡ Some (op.Switch (at o) (moved_cases at cs))
      go None q ns r h = cc
      go (Some m) q None r h = cc
      go (Some m) q (Some ns) r h =
          let first = moves other m q in
          let rest = cases_moved cases ns r in
          let x : m ≡ o = cc in
          let y : ns ≡ cs = cc in
          rw (first, rest, x, y) refl

  pub switch_means : (s : Symbols) (i : Instr) (o : ℕ) (cs : List (ℤ × ℕ)) → Switches is0 i.operands (op.Switch o cs) → Means s place is (op.Switch (at o) (moved_cases at cs)) i
  switch_means s i o cs w a = w.moves s is i.op place ∙ switch_moved w.other w.cases o cs w.means
