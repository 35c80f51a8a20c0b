-- The static initialisers of a program, one after another.
use Rattle.std.proofs.Common.{◌+◌, ◌≡◌, ◌≢◌, ℕ, zero, suc, ◌<◌, slice_index_or, List, [], ◌∷◌, ◌++◌, length, Bool, true, false, Option, refl, sym, ap, ◌∙◌, subst, inl, inr, arith}
use Rattle.std.specs.List.{AllByRecursion}
use Rattle.std.specs.Bool.{MatchBool}
use Rattle.jmodel.specs.declared.value.Value.{Value}
use Rattle.jmodel.specs.declared.value.Answer.{Answer}
use Rattle.jmodel.specs.declared.value.Answer.TheVariants.{Returned, Threw, Budget, Depth, Heap, Spent, NoMemory}
use Rattle.objects.specs.semantics.Program.{Program}
use Rattle.objects.specs.semantics.State.{State}
use Rattle.objects.specs.semantics.Call.{Calls}
use Rattle.objects.specs.semantics.Opening.{first_region, Opening, is_return, Fails}
use Rattle.jmodel.specs.declared.access.Access.{Access}
use Rattle.jmodel.specs.declared.value.Stamp.{Stamp}
use Rattle.objects.specs.rewriting.Attempt.{Log, Bounds}
use Rattle.jmodel.specs.history.History.{Entry, Told}
use Rattle.objects.specs.history.Meaning.{region_of}
use Rattle.objects.specs.semantics.Region.{Region}
use Rattle.jmodel.specs.history.Schedule.{is_memory}
use Rattle.tx_core.specs.Serial.{StandsFor}
use Rattle.machine.specs.declared.room.Room.{Room}
use Rattle.session.specs.declared.record.Record.{Record}
use Rattle.session.specs.declared.record.Place.{Place}
use Rattle.session.specs.Lane.{Takes}
use Rattle.session.specs.Rule.{IsRuled, IsCallOf, IsState, IsStretch}
use Rattle.session.specs.Adds.{call_of, told_by, is_spent, AddsSpent, AddsNothing, AddsCall, AddsEntry}
use Rattle.driver.specs.declared.memory.Memory.{Memory}
use Rattle.driver.specs.Memory.{used_at_first, Holds}
use Rattle.driver.proofs.Phased.{memory_is}
use Rattle.driver.proofs.Stretches.{stretch_of}
use Rattle.driver.specs.SetUp.{AnswersAlone, OpensTo}

-- what is kept of a call
abbrev pub record_at : Place → ℕ → Answer → Stamp → Record
record_at at m x stamp = record { phase = at.phase; lane = at.lane; index = at.first; method = m; stamp = stamp; answer = x }

-- a method that can be called without arguments
abbrev pub IsCallable : Program → ℕ → Type 0
IsCallable P m = IsCallOf P (record { method = m; args = [] })

-- initialisers, and behind them others
opening_append : (P : Program) (size budget : ℕ) (σ ρ τ : State) (ms ns : List ℕ) → Opening P size budget σ ms ρ → Opening P size budget ρ ns τ → Opening P size budget σ (ms ++ ns) τ
opening_append P size budget σ ρ τ [] ns h k = let From : State → Type 0 = λ s. Opening P size budget s ns τ in subst From h k
opening_append P size budget σ ρ τ (m ∷ ms) ns (v, θ, calls, rest) k = (v, θ, calls, opening_append P size budget θ ρ τ ms ns rest k)

fails_append : (P : Program) (size budget : ℕ) (σ ρ : State) (ms ns : List ℕ) (n : ℕ) (x : Answer) → Opening P size budget σ ms ρ → Fails P size budget ρ ns n x → Fails P size budget σ (ms ++ ns) n x
fails_append P size budget σ ρ [] ns n x h k = let From : State → Type 0 = λ s. Fails P size budget s ns n x in subst From h k
fails_append P size budget σ ρ (m ∷ ms) ns n x (v, θ, calls, rest) k = inr (v, θ, calls, fails_append P size budget θ ρ ms ns n x rest k)

-- none
pub opens_none : (P : Program) (size budget : ℕ) (memory : Memory) → OpensTo P size budget memory [] memory
opens_none P size budget memory σ stands = (σ, refl, stands)

-- one more that returns
pub opens_more : (P : Program) (size budget : ℕ) (memory between left : Memory) (ms : List ℕ) (m : ℕ) (v : Option Value) → OpensTo P size budget memory ms between
    → AnswersAlone P size budget between m (Returned v) left → OpensTo P size budget memory (ms ++ m ∷ []) left
opens_more P size budget memory between left ms m v h k σ stands =
    let front = h σ stands in
    let one = k front.0 front.2 in
    (one.0, opening_append P size budget σ front.0 one.0 ms (m ∷ []) front.1 (v, one.0, one.1, refl), one.2)

-- one more that doesn't, whatever comes behind it
pub fails_at : (P : Program) (size budget : ℕ) (memory between left : Memory) (ms rest : List ℕ) (m : ℕ) (x : Answer) → is_return x ≡ false → OpensTo P size budget memory ms between
    → AnswersAlone P size budget between m x left → (σ : State) → Holds P size memory σ → Fails P size budget σ (ms ++ m ∷ rest) m x
fails_at P size budget memory between left ms rest m x none h k σ stands =
    let front = h σ stands in
    let one = k front.0 front.2 in
    fails_append P size budget σ front.0 ms (m ∷ rest) m x front.1 (inl (refl, none, one.0, one.1))

-- what a call gives that returns
returned : (x : Answer) → is_return x ≡ true → (v : Option Value) × (x ≡ Returned v)
returned (Returned v) is = (v, refl)
returned (Threw c) is = cc
returned Budget is = cc
returned Depth is = cc
returned (Heap a b c) is = cc
returned Spent is = cc
returned NoMemory is = cc

pub opens_after : (P : Program) (size budget : ℕ) (memory between left : Memory) (ms : List ℕ) (m : ℕ) (x : Answer) → is_return x ≡ true → OpensTo P size budget memory ms between
    → AnswersAlone P size budget between m x left → OpensTo P size budget memory (ms ++ m ∷ []) left
opens_after P size budget memory between left ms m x is h k =
    let value = returned x is in
    let Answers : Answer → Type 0 = λ y. AnswersAlone P size budget between m y left in
    opens_more P size budget memory between left ms m value.0 h (subst Answers value.1 k)

pub at_index : (Q : ℕ → Type 0) (xs : List ℕ) (i d : ℕ) → AllByRecursion Q xs → i < length xs → Q (slice_index_or xs i d)
at_index Q [] i d h l = absurd (omega (arith, l))
at_index Q (x ∷ xs) zero d h l = h.0
at_index Q (x ∷ xs) (suc i) d h l = at_index Q xs i d h.1 (omega (arith, l))

-- ---- one call

-- how a call over one thread ended that has a place in the history
pub answered : (P Q : Program) (B : Bounds) (S : List Entry → ℕ → Log → Log → Type 0) (after : ℕ) (t : Told) → ((h : List Entry) (n : ℕ) → S h n [] [] → n ≡ 0)
    → (t.answer ≡ NoMemory → ⊥) → AddsCall P Q B S [] 0 t after → AddsEntry S [] 0 B.used t after
answered P Q B S after t alone placed adds = go (is_spent t.answer) (is_memory t.answer) refl adds
  where
    go : (a b : Bool) → is_memory t.answer ≡ b → MatchBool a (AddsSpent P Q B t.call (S []) 0 after) (MatchBool b (AddsNothing (S []) 0 B.used after) (AddsEntry S [] 0 B.used t after))
        → AddsEntry S [] 0 B.used t after
    go true b q m = absurd (let none = alone [] (0 + m.tried) m.stands in let some = m.used_up.some in omega (arith, none, some))
    go false true q m = absurd (placed (memory_is t.answer q))
    go false false q m = m

-- no region but region 0 has used words
elsewhere : (before after other : ℕ) → other ≢ 0 → used_at_first after other ≡ used_at_first before other
elsewhere before after zero apart = absurd (apart refl)
elsewhere before after (suc other) apart = refl

-- a method that is called alone answers so
module _ (P Q : Program) (size budget attempts : ℕ) (rule : Entry → Type 0) (ruled : (e : Entry) → rule e → IsRuled P Q size budget attempts e) where
  pub answers_alone : (first : List ℕ) (memory left : Memory) (clock m : ℕ) (kept : List Access) (x : Answer) (stamp : Stamp) (room : Room) (at : Place)
      → memory.words.items ≡ first → room.region ≡ 0
      → AddsEntry (λ h n r w. StandsFor rule first left.words.items clock kept h n r w) [] 0 memory.used (told_by room at (record { method = m; args = [] }) (record_at at m x stamp)) left.used
      → AnswersAlone P size budget memory m x left
  answers_alone first memory left clock m kept x stamp room at same region adds σ holds =
      let e = adds.entry in
      let stands = subst (λ (n : ℕ). StandsFor rule first left.words.items clock kept (e ∷ []) n [] []) (adds.stands.no_conflict) adds.stands in
      let of_region : e.call.region ≡ 0 = ap (λ (t : Told). t.call.region) adds.told_is ∙ region in
      let takes : Takes 0 memory.used (e ∷ []) left.used = (of_region, adds.used_before, sym adds.used_after) in
      let First : List ℕ → Type 0 = λ l. IsState P size l (used_at_first memory.used) σ in
      let stretch = stretch_of P Q size budget attempts rule ruled first left.words.items clock kept (e ∷ []) stands 0 memory.used left.used takes (used_at_first memory.used) (used_at_first left.used) refl
      (record { here = refl; there = elsewhere memory.used left.used }) σ (subst First same holds) in
      let told : IsStretch P size budget σ left.words.items (used_at_first left.used) (told_by room at (record { method = m; args = [] }) (record_at at m x stamp) ∷ []) =
      subst (λ (t : Told). IsStretch P size budget σ left.words.items (used_at_first left.used) (t ∷ [])) adds.told_is stretch in
      let serial = told.serial in
      let zero_region : region_of size (call_of room at (record { method = m; args = [] })) ≡ first_region size = ap (λ (r : ℕ). record { number = r; size = size }) region in
      let Called : Region → Type 0 = λ G. Calls P budget G m [] σ x serial.0 in
      let Left : State → Type 0 = λ s. Calls P budget (first_region size) m [] σ x s in
      (told.after, subst Left (sym serial.2) (subst Called zero_region serial.1), told.stands)
