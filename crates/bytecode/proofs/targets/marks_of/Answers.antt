use Rattle.std.proofs.Common.{◌≡◌, ◌<◌, ◌∙◌, ap, sym, refl, arith, length-set, true, false, ℕ, Bool, eqb, List, length, take, get_or, set, ◌+◌, get_or-set_same, get_or-set_other, ◌||◌, ◌∷◌, [], ◌≢◌}
use Rattle.std.proofs.lemmas.List.{take_more}
use Rattle.std.proofs.lemmas.List.Folds.{list_any-append}
use Rattle.std.proofs.lemmas.Bool.{eqb-true, eqb-false}
use Rattle.std.specs.List.{list_any}
use Rattle.jmodel.specs.declared.instruction.Instr.{Instr}
use Rattle.jmodel.specs.format.Instruction.{is_start}
use Rattle.bytecode.proofs.SizeLaws.{drop_each}
use Rattle.bytecode.proofs.targets.marks_of.Goals as goal

or_true : (b : Bool) → (b || true) ≡ true
or_true true = refl
or_true false = refl

or_false : (b : Bool) → (b || false) ≡ b
or_false true = refl
or_false false = refl

-- an instruction more
start_more : (is : List Instr) (k : ℕ) (i : Instr) (n : ℕ) → k < length is → i ≡ get_or is k i → is_start (take (k + 1) is) n ≡ (is_start (take k is) n || eqb i.pc n)
start_more is k i n lt e = rw (take_more is k i lt, ← e, list_any-append (λ (x : Instr). eqb x.pc n) (take k is) (i ∷ [])) (ap (λ b. is_start (take k is) n || b) (or_false (eqb i.pc n)))

marked_more : (marks : List Bool) (is : List Instr) (k : ℕ) (i : Instr) → k < length is → i ≡ get_or is k i → i.pc < length marks → ((n : ℕ) → get_or marks n false ≡ is_start (take k is) n) → (n : ℕ) → get_or (set marks i.pc true) n false ≡ is_start (take (k + 1) is) n
marked_more marks is k i lt e within so_far n = by_test (eqb i.pc n) refl ∙ sym (start_more is k i n lt e) where
  by_test : (b : Bool) → eqb i.pc n ≡ b → get_or (set marks i.pc true) n false ≡ (is_start (take k is) n || eqb i.pc n)
  by_test true t =
      let same : i.pc ≡ n = eqb-true i.pc n t in
      rw (t, or_true (is_start (take k is) n), ← same) (get_or-set_same marks i.pc true false within)
  by_test false t =
      let other : n ≢ i.pc = λ q. eqb-false i.pc n t (sym q) in
      rw (t, or_false (is_start (take k is) n)) (get_or-set_other marks i.pc n true false other ∙ so_far n)

pub loop-i-preserved : goal.loop-i-preserved
loop-i-preserved c =
    let i = c.i-item.result in
    let l = c.loop-i in
    let inside = drop_each (λ (x : Instr). x.pc < c.args.len) c.args.instrs.now l.i-index i c.loop-i-test.true c.i-item.is c.requires in
    record { long = length-set l.marks.items i.pc true ∙ l.invariant.long; says = marked_more l.marks.items c.args.instrs.now l.i-index i c.loop-i-test.true c.i-item.is (omega (arith, inside, l.invariant.long)) l.invariant.says }
