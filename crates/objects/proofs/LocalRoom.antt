-- A method that has a typing has locals for its parameters.
use Rattle.std.proofs.Common.{◌≡◌, ◌-◌, ◌≤◌, List, [], ◌∷◌, length, replicate, Bool, true, false, refl, arith, length-append}
use Rattle.std.proofs.lemmas.List.{length-replicate}
use Rattle.jmodel.specs.declared.typing.VType.{VType}
use Rattle.jmodel.specs.declared.typing.VType.TheVariants.{Top}
use Rattle.objects.specs.semantics.Program.{Method, Program}
use Rattle.objects.specs.typing.Typing.{Table, is_constructor, first_locals, first_types, IsTyping}

pub first_many : (b : Bool) (ts : List VType) → length (first_locals b ts) ≡ length ts
first_many true [] = refl
first_many true (t ∷ ts) = refl
first_many false ts = refl

pub has_room : (P : Program) (k : Method) (T : Table) → IsTyping P k T → length k.parameters ≡ k.places → k.places ≤ k.locals
has_room P k T typing many =
    let all = (typing.each 0 (first_types k) typing.first).locals in
    omega (arith, all, many, first_many (is_constructor k) k.parameters, length-append (first_locals (is_constructor k) k.parameters) (replicate (k.locals - k.places) Top), length-replicate (k.locals - k.places) Top)
