-- The first class file of those that were read that isn't good.
use Rattle.std.proofs.Common.{◌≡◌, ◌<◌, ◌∙◌, ℕ, suc, List, ◌∷◌, ◌++◌, length, get_or, take, drop, ap, sym, subst, drop-cons}
use Rattle.std.proofs.lemmas.List.{take-append-drop}
use Rattle.jmodel.specs.declared.refusal.Refusal.{Refusal}
use Rattle.jmodel.specs.format.ClassFile.{ClassFile}
use Rattle.deuce.specs.declared.inputs.ClassInput.{ClassInput}
use Rattle.deuce.specs.declared.inputs.InputEnd.{InputEnd}
use Rattle.deuce.specs.declared.inputs.InputEnd.TheVariants as ends
use Rattle.deuce.specs.Folder.{IsFileFault}
use Rattle.deuce.specs.Ending.{AreClassesOf, IsBadClassAs, EndsClasses}

module _ (inputs : List ClassInput) (i : ℕ) (input : ClassInput) (lt : i < length inputs) (is : input ≡ get_or inputs i input) where
  -- it stands between those before it and those behind it
  parts : inputs ≡ take i inputs ++ input ∷ drop (suc i) inputs
  parts = sym (take-append-drop i inputs) ∙ ap (λ (l : List ClassInput). take i inputs ++ l) (drop-cons inputs i input lt ∙ ap (λ (k : ClassInput). k ∷ drop (suc i) inputs) (sym is))

  pub refused : (cs : List ClassFile) (r : Refusal) (e : InputEnd) → AreClassesOf (take i inputs) cs → IsFileFault input.bytes r → IsBadClassAs input r e → EndsClasses inputs e
  refused cs r (ends.Outside p) good fault as_is = absurd as_is
  refused cs r (ends.BadClass p s) good fault as_is = record {
    before = take i inputs;
    input = input;
    behind = drop (suc i) inputs;
    are = parts;
    classes = cs;
    good = good;
    at_path = as_is.0;
    fault = subst (IsFileFault input.bytes) (sym as_is.1) fault;
  }
  refused cs r (ends.Refused s) good fault as_is = absurd as_is
  refused cs r ends.NoMemory good fault as_is = tt
