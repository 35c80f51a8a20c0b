-- Laws for callers, of what is told across several calls.
use Rattle.std.specs.Prelude.{◌≡◌, ◌<◌, min, ℕ, List, [], ◌++◌, length, take, drop, ◌+◌, Option, Some, None}
use Rattle.std.proofs.Common.{◌∙◌, ap, refl, sym, arith, append_assoc}
use Rattle.std.proofs.Math.Seq.{take-add}
use Rattle.std.proofs.lemmas.List.{append-nil, length-take, take_all}
use Rattle.std.specs.Option.{option_map}
use Rattle.std.specs.Io.KnownBytes.{append_known}

-- two changes of what is told are one
pub told_twice : {A B C : Type 0} (f : A → B) (g : B → C) (told : Option A) → option_map g (option_map f told) ≡ option_map (λ x. g (f x)) told
told_twice f g None = refl
told_twice f g (Some x) = refl

-- pieces written one after another
pub written_twice : (written : Option (List ℕ)) (first second : List ℕ) → append_known (append_known written first) second ≡ append_known written (first ++ second)
written_twice None first second = refl
written_twice (Some before) first second = ap Some (append_assoc before first second)

-- the first n bytes from a place on, written after all before it
pub written_on : (first before now : Option (List ℕ)) (text : List ℕ) (at n : ℕ)
    → before ≡ append_known first (take at text) → now ≡ append_known before (take n (drop at text)) → now ≡ append_known first (take (at + n) text)
written_on first before now text at n so is =
    is ∙ ap (λ (w : Option (List ℕ)). append_known w (take n (drop at text))) so ∙ written_twice first (take at text) (take n (drop at text))
    ∙ ap (λ (l : List ℕ). append_known first l) (sym (take-add at n text))

-- no piece written
pub written_none : (written : Option (List ℕ)) → append_known written [] ≡ written
written_none None = refl
written_none (Some before) = ap Some (append-nil before)

-- a file of which fewer bytes came than were asked for came whole
pub came_whole : (file : Option (List ℕ)) (most : ℕ) (bytes : List ℕ) → option_map (take most) file ≡ Some bytes → length bytes < most → file ≡ Some bytes
came_whole None most bytes is less = cc
came_whole (Some whole) most bytes is less =
    let start : take most whole ≡ bytes = cc in
    let size : length bytes ≡ min most (length whole) = ap length (sym start) ∙ length-take most whole in
    ap Some (sym (take_all most whole (omega arith)) ∙ start)
