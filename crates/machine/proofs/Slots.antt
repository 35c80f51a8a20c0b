-- Slots that instructions look for.
use Rattle.std.proofs.Common.{◌≡◌, ℕ, zero, suc, ◌+◌, ◌<◌, List, [], ◌∷◌, ◌++◌, length, reverse, take, drop, Option, Some, None, slice_get, refl, ap, sym, arith, ◌∙◌}
use Rattle.std.proofs.lemmas.List.{append-nil, append_assoc, reverse-append, reverse-reverse, length-reverse, take-append-drop, length-drop}
use Rattle.objects.specs.declared.op.Slot.{Slot}
use Rattle.objects.specs.declared.op.Slot.TheVariants.{Int, Long, Second, Ref, Context, Loaded, Empty}
use Rattle.objects.specs.semantics.Program.{Program, Method, method_at}
use Rattle.objects.specs.semantics.Step.{Did, Wrong, Frame, on_ref, slot_in, ref_in, receiver, method_in, over_object, not_null, take_args, Took, TooFew}

-- the topmost slot of a stack
pub top_is : (s : List Slot) (v : Slot) → slice_get s 0 ≡ Some v → (t : List Slot) × (s ≡ v ∷ t)
top_is [] v e = let no : ⊥ = cc in absurd no
top_is (x ∷ t) v e = let same : x ≡ v = cc in (t, ap (λ (y : Slot). y ∷ t) same)

abbrev IsNoRef : Option Slot → Type 0
IsNoRef None = Unit {0}
IsNoRef (Some (Ref o)) = ⊥
IsNoRef (Some v) = Unit {0}

-- no reference is topmost
pub top_no_ref : (s : List Slot) → IsNoRef (slice_get s 0) → (k : ℕ → List Slot → Did) → on_ref s k ≡ Wrong
top_no_ref [] n k = refl
top_no_ref (Int x ∷ t) n k = refl
top_no_ref (Long x ∷ t) n k = refl
top_no_ref (Second ∷ t) n k = refl
top_no_ref (Ref o ∷ t) n k = absurd n
top_no_ref (Context ∷ t) n k = refl
top_no_ref (Loaded ∷ t) n k = refl
top_no_ref (Empty ∷ t) n k = refl

-- a call that has no object
pub no_receiver : (P : Program) (m : ℕ) (k : Method) (f : Frame) (on : Method → ℕ → Did) → method_at P m ≡ Some k → ((q : ℕ → Did) → slot_in (receiver k f.stack) (λ v. ref_in v q) ≡ Wrong) → over_object P m f on ≡ Wrong
no_receiver P m k f on e h = ap (λ (x : Option Method). method_in x (λ k. slot_in (receiver k f.stack) (λ v. ref_in v (λ o. not_null o f (on k o))))) e ∙ h _

-- arguments that stand on top
args_front : (zs args s : List Slot) → take_args (length zs) args (zs ++ s) ≡ Took (reverse zs ++ args) s
args_front [] args s = refl
args_front (z ∷ zs) args s = args_front zs (z ∷ args) s ∙ ap (λ (l : List Slot). Took l s) (rw (reverse-append (z ∷ []) zs, append_assoc (reverse zs) (z ∷ []) args) refl)

-- the topmost slots of a stack that is kept from the bottom up
pub args_behind : (xs : List Slot) (k n : ℕ) → k + n ≡ length xs → take_args n [] (reverse xs) ≡ Took (drop k xs) (reverse (take k xs))
args_behind xs k n e =
    let ws = drop k xs in
    let below = reverse (take k xs) in
    let split : reverse xs ≡ reverse ws ++ below = ap reverse (sym (take-append-drop k xs)) ∙ reverse-append (take k xs) ws in
    let many : length (reverse ws) ≡ n = rw (length-reverse ws, length-drop k xs) (omega (arith, e)) in
    rw split (ap (λ (m : ℕ). take_args m [] (reverse ws ++ below)) (sym many) ∙ args_front (reverse ws) [] below
    ∙ ap (λ (l : List Slot). Took l below) (append-nil (reverse (reverse ws)) ∙ reverse-reverse ws))

-- where there are too few
pub few_args : (n : ℕ) (args s : List Slot) → length s < n → take_args n args s ≡ TooFew
few_args zero args s h = let no : ⊥ = omega (arith, h) in absurd no
few_args (suc n) args [] h = refl
few_args (suc n) args (v ∷ s) h = few_args n (v ∷ args) s (omega (arith, h))
