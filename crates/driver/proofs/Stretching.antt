-- From the history of a phase to its original methods, each run alone.
use Rattle.std.proofs.Common.{◌≡◌, ℕ, List, [], ◌∷◌, map, nat_eq, refl, sym, ap, ◌∙◌, subst, inl, inr}
use Rattle.std.specs.Prelude.{if◌then◌else◌, slice_index}
use Rattle.std.specs.List.{AllByRecursion}
use Rattle.objects.specs.semantics.Program.{Program}
use Rattle.objects.specs.semantics.State.{State}
use Rattle.jmodel.specs.declared.value.Answer.{Answer}
use Rattle.jmodel.specs.history.History.{Call, Entry, Words, told, overlaid, memory_after, used_after, used_with, AreEntries}
use Rattle.tx_table.specs.Book.{In}
use Rattle.objects.specs.history.Meaning.{Represents, Explains}
use Rattle.objects.specs.semantics.Serial.{Serial}
use Rattle.objects.proofs.SerialProof.{serial_of}
use Rattle.tx_core.specs.Serial.{word_in}
use Rattle.session.specs.Rule.{IsRuled, IsState, IsStretch, calls_of, answers_of}
use Rattle.session.proofs.Marked.{explained}

-- what holds of each entry in a list
pub all_in : {X : Type 0} (Q : X → Type 0) (xs : List X) → ((x : X) → In x xs → Q x) → AllByRecursion Q xs
all_in Q [] f = tt
all_in Q (x ∷ xs) f = (f x (inl refl), all_in Q xs (λ y i. f y (inr i)))

all_weaker : {X : Type 0} (Q R : X → Type 0) (xs : List X) → ((x : X) → Q x → R x) → AllByRecursion Q xs → AllByRecursion R xs
all_weaker Q R [] f a = tt
all_weaker Q R (x ∷ xs) f a = (f x a.0, all_weaker Q R xs f a.1)

-- used words that are alike are so after an entry
alike_next : (u v : ℕ → ℕ) (e : Entry) → ((region : ℕ) → u region ≡ v region) → (region : ℕ) → used_with u e region ≡ used_with v e region
alike_next u v e same region = ap (λ (n : ℕ). if nat_eq e.call.region region then e.used_after else n) (same region)

entries_alike : (words : Words) (u v : ℕ → ℕ) (h : List Entry) → ((region : ℕ) → u region ≡ v region) → AreEntries words u h → AreEntries words v h
entries_alike words u v [] same a = tt
entries_alike words u v (e ∷ h) same a = (
  record { update = a.0.update; reads = a.0.reads; used_before = a.0.used_before ∙ same e.call.region; stays = a.0.stays },
  entries_alike (overlaid e.writes words) (used_with u e) (used_with v e) h (alike_next u v e same) a.1,
)

-- the calls and the answers of what is told of entries
told_calls : (h : List Entry) → map (λ (e : Entry). e.call) h ≡ calls_of (map told h)
told_calls [] = refl
told_calls (e ∷ h) = ap (λ (cs : List Call). e.call ∷ cs) (told_calls h)

told_answers : (h : List Entry) → map (λ (e : Entry). e.answer) h ≡ answers_of (map told h)
told_answers [] = refl
told_answers (e ∷ h) = ap (λ (xs : List Answer). e.answer ∷ xs) (told_answers h)

-- A legal history of a phase's entries, told in its order, is the original methods, each run alone from what those before it left.
pub stretch_of : (P Q : Program) (size budget attempts : ℕ) (words after : List ℕ) (used u v : ℕ → ℕ) (h : List Entry) → ((region : ℕ) → used region ≡ u region)
    → AreEntries (word_in words) used h → ((e : Entry) → In e h → IsRuled P Q size budget attempts e) → ((a : ℕ) → slice_index after a ≡ memory_after h (word_in words) a)
    → ((region : ℕ) → used_after h region (used region) ≡ v region) → (σ : State) → IsState P size words u σ → IsStretch P size budget σ after v (map told h)
stretch_of P Q size budget attempts words after used u v h alike entries ruled heap left σ state =
    let rules = all_in (IsRuled P Q size budget attempts) h ruled in
    let moved = entries_alike (word_in words) used σ.used h (λ region. alike region ∙ sym (state.used_are region)) entries in
    let serial = serial_of P size budget h (word_in words) σ.used σ state.represents (λ region. refl) moved
    (all_weaker (IsRuled P Q size budget attempts) (Explains P size budget) h (λ e r. explained P Q size budget attempts e r) rules) in
    let Calls : List Call → Type 0 = λ cs. Serial P size budget σ cs (map (λ (e : Entry). e.answer) h) serial.after in
    let Answers : List Answer → Type 0 = λ xs. Serial P size budget σ (calls_of (map told h)) xs serial.after in
    let words_are : memory_after h (word_in words) ≡ word_in after = λ i a. sym (heap a) i in
    record {
      after = serial.after;
      serial = subst Answers (told_answers h) (subst Calls (told_calls h) serial.serial);
      stands = record {
        represents = subst (λ (w : Words). Represents P size w serial.after) words_are serial.represents;
        used_are = λ region. serial.used region ∙ ap (used_after h region) (state.used_are region ∙ sym (alike region)) ∙ left region;
      };
    }
