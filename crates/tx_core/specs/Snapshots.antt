-- That the history of an engine for one thread is the snapshot of its attempt, which its `impl` cites.
use Rattle.std.proofs.Common.{◌≡◌, ◌⊎◌, inl, inr, ℕ, List, [], ◌∷◌, refl, subst}
use Rattle.std.specs.List.{AllByRecursion}
use Rattle.jmodel.specs.declared.access.Access.{Access}
use Rattle.jmodel.specs.history.Log.{Log}
use Rattle.jmodel.specs.history.History.{Call, Entry, Words, Agrees, AreEntries, overlaid, used_with}
use Rattle.tx_core.specs.Engine.{AreUsed, IsSnapshot, LeadsTo}
use Rattle.tx_core.specs.Serial.{word_in, IsSerial, Stays, StandsFor}

-- entries one after the other, with used words that follow from one another
serial_entries : (rule : Entry → Type 0) (h : List Entry) (clock : ℕ) (σ : Words) (used : ℕ → ℕ) → IsSerial rule clock σ h → AllByRecursion Stays h → AreUsed used h
    → AreEntries σ used h × AllByRecursion rule h
serial_entries rule [] clock σ used s stays along = (tt, tt)
serial_entries rule (e ∷ h) clock σ used s stays along =
    let rest = serial_entries rule h e.stamp.at (overlaid e.writes σ) (used_with used e) s.4 stays.1 along.1 in
    ((record { update = s.1; reads = s.3; used_before = along.0; stays = stays.0 }, rest.0), (s.0, rest.1))

-- the history of an engine for one thread is the snapshot of its attempt
pub serial_snapshot : (rule : Entry → Type 0) (first words : List ℕ) (clock : ℕ) (kept : List Access) (opened : ℕ → ℕ) (h : List Entry) (n : ℕ) (r w : Log) (c : Call) (used : ℕ)
    → StandsFor rule first words clock kept h n r w
    → ⊥ ⊎ ((σ : Words) (u : ℕ → ℕ) → (σ ≡ word_in first) × (u ≡ opened) → LeadsTo u h c used)
    → IsSnapshot (λ σ u. (σ ≡ word_in first) × (u ≡ opened)) rule c used r
serial_snapshot rule first words clock kept opened h n r w c used s (inl shared) = absurd shared
serial_snapshot rule first words clock kept opened h n r w c used s (inr leads) =
    let to = leads (word_in first) opened (refl, refl) in
    let both = serial_entries rule h 0 (word_in first) opened s.serial s.stays to.along in
    record {
      first = word_in first;
      opened = opened;
      begun = (refl, refl);
      history = h;
      entries = both.0;
      allowed = both.1;
      reads = subst (λ (σ : Words). Agrees σ r) s.memory s.reads;
      left = to.after;
    }
