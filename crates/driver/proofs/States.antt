-- What the words that a run begins with stand for, as each of its calls needs it.
use Rattle.std.proofs.Common.{◌≡◌, ◌≤◌, ℕ, suc, List, [], sym, ap, ◌∙◌, subst, arith, inr}
use Rattle.jmodel.specs.history.History.{Call, Entry, Words}
use Rattle.objects.specs.semantics.Program.{Program}
use Rattle.objects.specs.semantics.State.{State}
use Rattle.objects.specs.history.Meaning.{Represents, Explains}
use Rattle.tx_core.specs.Serial.{word_in}
use Rattle.tx_table.specs.Rule.{start, used_at}
use Rattle.machine.specs.declared.machine.Limits.{Limits as CallLimits}
use Rattle.machine.specs.Sound.{AreOfState, IsOverStates}
use Rattle.session.specs.Rule.{IsState, IsRuled, Begun, Leads}
use Rattle.session.proofs.Marked.{explained}
use Rattle.driver.specs.Memory.{used_at_first, AreOfStates}
use Rattle.driver.specs.Stories.{story_of}
use Rattle.driver.proofs.Over.{opens_with}

-- a table's words stand for a state
begun_of : (P : Program) (size : ℕ) (words : List ℕ) (used : ℕ) (rule : Entry → Type 0) (σ : State) → IsState P size words (used_at_first used) σ → (first : Words) (opened : ℕ → ℕ)
    → first ≡ start (story_of rule words used) → opened ≡ used_at (story_of rule words used) → AreOfState P size first opened
begun_of P size words used rule σ stands first opened first_is opened_is = record {
  state = σ;
  represents = subst (λ (w : Words). Represents P size w σ) (sym first_is) stands.represents;
  has = λ region. stands.used_are region ∙ sym (opens_with used region) ∙ sym (ap (λ (f : ℕ → ℕ). f region) opened_is);
}

-- no word of a lane's region is used at first
pub over_lane : (P : Program) (size budget : ℕ) (words : List ℕ) (used : ℕ) (rule : Entry → Type 0) (T : Type 0) (limits : CallLimits) (lane : ℕ) → AreOfStates P size budget words used rule
    → limits.room.size ≡ size → limits.budget ≡ budget → limits.room.region ≡ suc lane → IsOverStates P limits (Begun T (λ o. story_of rule words used)) rule
over_lane P size budget words used rule T limits lane are size_is budget_is region = record {
  begun = λ first opened (o, first_is, opened_is). subst (λ (n : ℕ). AreOfState P n first opened) (sym size_is) (begun_of P size words used rule are.state are.stands first opened first_is opened_is);
  reached = record {
    words = word_in words;
    opened = used_at_first used;
    stand = subst (λ (n : ℕ). AreOfState P n (word_in words) (used_at_first used)) (sym size_is) (record { state = are.state; represents = are.stands.represents; has = are.stands.used_are });
    below = subst (λ (n : ℕ). used_at_first used n ≤ limits.room.used) (sym region) (omega arith);
  };
  explained = λ e r. subst (λ (n : ℕ). Explains P n limits.budget e) (sym size_is) (subst (λ (n : ℕ). Explains P size n e) (sym budget_is) (are.explained e r));
}

-- the same of a call alone, which takes words of region 0
pub over_alone : (P Q : Program) (size budget attempts : ℕ) (words : List ℕ) (used : ℕ) (rule : Entry → Type 0) (limits : CallLimits) (σ : State) → IsState P size words (used_at_first used) σ
    → ((e : Entry) → rule e → IsRuled P Q size budget attempts e) → limits.room.size ≡ size → limits.budget ≡ budget → limits.room.region ≡ 0 → limits.room.used ≡ used
    → IsOverStates P limits (λ first opened. (first ≡ word_in words) × (opened ≡ used_at_first used)) rule
over_alone P Q size budget attempts words used rule limits σ stands ruled size_is budget_is region used_is = record {
  begun = λ first opened (first_is, opened_is). subst (λ (n : ℕ). AreOfState P n first opened) (sym size_is) (record {
    state = σ;
    represents = subst (λ (w : Words). Represents P size w σ) (sym first_is) stands.represents;
    has = λ r. stands.used_are r ∙ sym (ap (λ (f : ℕ → ℕ). f r) opened_is);
  });
  reached = record {
    words = word_in words;
    opened = used_at_first used;
    stand = subst (λ (n : ℕ). AreOfState P n (word_in words) (used_at_first used)) (sym size_is) (record { state = σ; represents = stands.represents; has = stands.used_are });
    below = subst (λ (n : ℕ). used_at_first used n ≤ limits.room.used) (sym region) (omega (arith, used_is));
  };
  explained = λ e r. subst (λ (n : ℕ). Explains P n limits.budget e) (sym size_is) (subst (λ (n : ℕ). Explains P size n e) (sym budget_is) (explained P Q size budget attempts e (ruled e r)));
}

-- it is the first of its history
pub leads_alone : (shared : Type 0) (words : List ℕ) (used : ℕ) (limits : CallLimits) (c : Call) → c.region ≡ 0 → limits.room.used ≡ used
    → Leads shared (λ first opened. (first ≡ word_in words) × (opened ≡ used_at_first used)) [] c limits.room.used
leads_alone shared words used limits c region used_is = inr (λ first opened (first_is, opened_is). record {
  along = tt;
  after = ap (λ (f : ℕ → ℕ). f c.region) opened_is ∙ ap (used_at_first used) region ∙ sym used_is;
})
