-- Methods by their numbers.
use Rattle.std.proofs.Common.{◌≡◌, ℕ, ◌<◌, List, length, Some, sym, ap, subst, ◌∙◌, get_or}
use Rattle.std.specs.Prelude.{slice_get}
use Rattle.std.proofs.lemmas.Option.{get_or_from_slice_get, slice_get-get_or}
use Rattle.objects.specs.semantics.Program.{Method}

-- the method of a number is the one that is looked at
pub the_method : (ms ns : List Method) (i : ℕ) (x : Method) → ms ≡ ns → x ≡ get_or ms i x → (k : Method) → slice_get ns i ≡ Some k → x ≡ k
the_method ms ns i x e is k g = is ∙ get_or_from_slice_get ms i k x (subst (λ (y : List Method). slice_get y i ≡ Some k) (sym e) g)

pub method_there : (ms ns : List Method) (i : ℕ) (x : Method) → ms ≡ ns → x ≡ get_or ms i x → i < length ns → slice_get ns i ≡ Some x
method_there ms ns i x e is lt =
    let f : get_or ns i x ≡ x = sym (is ∙ ap (λ (y : List Method). get_or y i x) e) in
    slice_get-get_or ns i x lt ∙ ap (λ (y : Method). Some y) f
