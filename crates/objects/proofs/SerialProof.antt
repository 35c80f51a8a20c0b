-- The serial law, entry by entry.
use Rattle.std.proofs.Common.{◌≡◌, ℕ, List, [], ◌∷◌, Bool, true, false, nat_eq, refl, sym, ◌∙◌, arith, ap}
use Rattle.std.specs.Prelude.{if◌then◌else◌}
use Rattle.std.specs.List.{AllByRecursion}
use Rattle.std.proofs.lemmas.Bool.Decides.{nat_tests}
use Rattle.objects.specs.semantics.Program.{Program}
use Rattle.objects.specs.semantics.State.{State}
use Rattle.jmodel.specs.history.History.{Entry, Words, overlaid, AreEntries, used_with, used_after}
use Rattle.objects.specs.history.Meaning.{Represents, Explains, ExplainsFrom}
use Rattle.objects.specs.laws.SerialLaw.{HasUsed, IsSerial}

-- the used words after an explained entry
used_next : (P : Program) (size budget : ℕ) (e : Entry) (words : Words) (used : ℕ → ℕ) (σ : State) (x : ExplainsFrom P size budget e words σ)
    → HasUsed σ used → HasUsed x.after (used_with used e)
used_next P size budget e words used σ x has region = go (nat_eq e.call.region region) refl
  where
    go : (b : Bool) → nat_eq e.call.region region ≡ b → x.after.used region ≡ (if b then e.used_after else used region)
    go true is = let same : region ≡ e.call.region = grind (arith, nat_tests) in ap x.after.used same ∙ x.used
    go false is = x.others region (grind (arith, nat_tests)) ∙ has region

pub serial_of : (P : Program) (size budget : ℕ) (h : List Entry) (words : Words) (used : ℕ → ℕ) (σ : State) → Represents P size words σ
    → HasUsed σ used → AreEntries words used h → AllByRecursion (Explains P size budget) h → IsSerial P size budget h words σ
serial_of P size budget [] words used σ stands has entries explained = record { after = σ; serial = refl; represents = stands; used = λ region. refl }
serial_of P size budget (e ∷ h) words used σ stands has entries explained =
    let x = explained.0 words σ stands entries.0.reads (has e.call.region ∙ sym entries.0.used_before) in
    let rest = serial_of P size budget h (overlaid e.writes words) (used_with used e) x.after x.represents
    (used_next P size budget e words used σ x has) entries.1 explained.1 in
    record {
      after = rest.after;
      serial = (x.after, x.calls, rest.serial);
      represents = rest.represents;
      used = λ region. rest.used region ∙ ap (used_after h region) (used_next P size budget e words σ.used σ x (λ r. refl) region);
    }
