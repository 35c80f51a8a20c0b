-- A call ends in one way.
use Rattle.std.proofs.Common.{◌≡◌, ℕ, zero, suc, [], ◌∷◌, false, refl, sym, ◌∙◌, ap, subst, inl, inr}
use Rattle.jmodel.specs.declared.value.Answer.{Answer}
use Rattle.jmodel.specs.declared.value.Answer.TheVariants.{Returned}
use Rattle.objects.specs.semantics.Program.{Program}
use Rattle.objects.specs.semantics.Region.{Region}
use Rattle.objects.specs.semantics.State.{State}
use Rattle.objects.specs.semantics.Call.{Direct, Ended, next_direct, direct, kept, call_start, Calls}
use Rattle.objects.specs.semantics.Opening.{first_region, Fails, is_return, ReturnLaw}

-- a call that has ended stays as it is
stays : (P : Program) (G : Region) (n : ℕ) (x : Answer) (σ : State) → direct P G n (Ended x σ) ≡ Ended x σ
stays P G zero x σ = refl
stays P G (suc n) x σ = stays P G n x σ

one_end : (P : Program) (G : Region) (n m : ℕ) (d : Direct) (x y : Answer) (σ τ : State) → direct P G n d ≡ Ended x σ → direct P G m d ≡ Ended y τ → Ended x σ ≡ Ended y τ
one_end P G zero m d x y σ τ h k = sym (stays P G m x σ) ∙ ap (direct P G m) (sym h) ∙ k
one_end P G (suc n) zero d x y σ τ h k = sym h ∙ ap (direct P G (suc n)) k ∙ stays P G (suc n) y τ
one_end P G (suc n) (suc m) d x y σ τ h k = one_end P G n m (next_direct P G d) x y σ τ h k

abbrev answer_in : Direct → Answer → Answer
answer_in (Ended x σ) y = x
answer_in d y = y

abbrev state_in : Direct → State → State
state_in (Ended x σ) τ = σ
state_in d τ = τ

pub one_answer : (P : Program) (budget : ℕ) (G : Region) (m : ℕ) (σ : State) (x y : Answer) (τ ρ : State) → Calls P budget G m [] σ x τ → Calls P budget G m [] σ y ρ → (x ≡ y) × (τ ≡ ρ)
one_answer P budget G m σ x y τ ρ h k =
    let e = one_end P G h.steps k.steps (call_start P m [] budget σ) x y h.last k.last h.ends k.ends in
    let answers : x ≡ y = ap (λ d. answer_in d x) e in
    let lasts : h.last ≡ k.last = ap (λ d. state_in d h.last) e in
    (answers, h.leaves ∙ ap (λ z. kept z σ h.last) answers ∙ ap (kept y σ) lasts ∙ sym k.leaves)

pub returns : ReturnLaw
returns P size budget σ τ [] n x opens fails = fails
returns P size budget σ τ (m ∷ ms) n x (v, ρ, calls, rest) (inl (same, none, θ, ends)) =
    let is = (one_answer P budget (first_region size) m σ (Returned v) x ρ θ calls ends).0 in
    let no : is_return (Returned v) ≡ false = ap is_return is ∙ none in
    cc
returns P size budget σ τ (m ∷ ms) n x (v, ρ, calls, rest) (inr (u, θ, again, fails)) =
    let is = (one_answer P budget (first_region size) m σ (Returned v) (Returned u) ρ θ calls again).1 in
    returns P size budget ρ τ ms n x rest (let F : State → Type 0 = λ s. Fails P size budget s ms n x in subst F (sym is) fails)
