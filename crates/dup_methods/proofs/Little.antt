-- What code adds to locals has two bytes.
use Rattle.std.proofs.Common.{◌≡◌, List, [], ◌∷◌, Option, Some, None, refl, subst, sym, arith}
use Rattle.std.specs.List.{AllByRecursion}
use Rattle.jmodel.specs.declared.instruction.Instr.{Instr}
use Rattle.jmodel.specs.format.Instruction.{IsInstr}
use Rattle.objects.specs.linking.Each.{in_front, each}
use Rattle.objects.specs.declared.op.Op.{Op}
use Rattle.objects.specs.declared.op.Op.TheVariants as op
use Rattle.objects.specs.linking.Decoding.{Symbols, op_of}
use Rattle.dup_methods.specs.Limits.{AddsLittle}
use Rattle.dup_methods.specs.DuplicateLaw.{LittleLaw}
use Rattle.dup_methods.proofs.Apart.{adds_little}

one_little : (s : Symbols) (is : List Instr) (i : Instr) (o : Op) → IsInstr i → op_of s is i ≡ Some o → AddsLittle o
one_little s is i (op.Increment n x) h e = adds_little s is i.op i.operands i.pc n x (omega (arith, h.op)) e h.operands
one_little s is i o h e = tt

each_little : (s : Symbols) (all is : List Instr) (os : List Op) → AllByRecursion IsInstr is → each (op_of s all) is ≡ Some os → AllByRecursion AddsLittle os
each_little s all [] os h e = let none : os ≡ [] = cc in subst (AllByRecursion AddsLittle) (sym none) tt
each_little s all (i ∷ is) os h e = go (op_of s all i) refl (each (op_of s all) is) refl e (λ qs t. each_little s all is qs h.1 t)
  where
    go : (o : Option Op) → op_of s all i ≡ o → (r : Option (List Op)) → each (op_of s all) is ≡ r → in_front o r ≡ Some os → ((qs : List Op) → each (op_of s all) is ≡ Some qs → AllByRecursion AddsLittle qs) → AllByRecursion AddsLittle os
    go None q r t f more = absurd cc
    go (Some o) q None t f more = absurd cc
    go (Some o) q (Some qs) t f more = let list : os ≡ o ∷ qs = cc in subst (AllByRecursion AddsLittle) (sym list) (one_little s all i o h.0 q, more qs t)

pub little_is : LittleLaw
little_is s is os h e = each_little s is is os h e
