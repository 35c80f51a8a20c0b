use Rattle.std.proofs.Common.{◌≡◌, ℕ, List, [], length, sym, ap, ◌∙◌, subst}
use Rattle.std.specs.Global.{Global}
use Rattle.std.specs.declared.vec.Vec.{Vec}
use Rattle.jmodel.specs.declared.value.Value.{Value}
use Rattle.jmodel.specs.history.History.{Entry}
use Rattle.jmodel.specs.history.Log.{Log}
use Rattle.jmodel.specs.history.Schedule.{Known}
use Rattle.tx_core.specs.Serial.{word_in, StandsFor}
use Rattle.machine.specs.Sound.{IsOverStates}
use Rattle.machine.specs.declared.machine.Limits.{Limits as CallLimits}
use Rattle.machine.specs.Machine.{bounds_of}
use Rattle.session.specs.declared.record.Place.{Place}
use Rattle.session.specs.Rule.{IsState, Leads}
use Rattle.session.specs.Adds.{call_of, told_by, AddsCall, AddsEntry}
use Rattle.driver.specs.declared.memory.Memory.{Memory}
use Rattle.driver.specs.Memory.{used_at_first}
use Rattle.driver.proofs.SettingUp.{answered, answers_alone}
use Rattle.driver.proofs.States.{over_alone, leads_alone}
use Rattle.driver.proofs.setting_up.call_over.Goals as goal

pub make_next-record-requires-clause-stands : goal.make_next-record-requires-clause-stands
make_next-record-requires-clause-stands g c =
    let limits = c.in_region.result in
    let used = ap (λ (l : CallLimits). l.room.used) c.in_region.ensures in
    let region = ap (λ (l : CallLimits). l.room.region) c.in_region.ensures in
    let call : Known = record { method = c.args.method; args = c.new.result.items } in
    let at : Place = record { phase = 0; lane = 0; first = 0 } in (
      [],
      0,
      c.new-engine.ensures.stands,
      subst (λ (opened : ℕ → ℕ). Leads ⊥ (λ f u. (f ≡ word_in g.K.Origin.first) × (u ≡ opened)) [] (call_of limits.room at call) limits.room.used) (sym c.requires.opened)
          (leads_alone ⊥ g.K.Origin.first c.args.memory.used limits (call_of limits.room at call) region used),
    )

pub make_next-record-requires-clause-states : goal.make_next-record-requires-clause-states
make_next-record-requires-clause-states g c =
    let limits = c.in_region.result in
    let P = c.args.original.now in
    let size = c.args.limits.size in
    let σ = c.requires.stands.0 in
    let memory = c.args.memory in
    let Words : List ℕ → Type 0 = λ words. IsState P size words (used_at_first memory.used) σ in
    let Opened : (ℕ → ℕ) → Type 0 = λ opened. IsOverStates P limits (λ f u. (f ≡ word_in g.K.Origin.first) × (u ≡ opened)) g.K.Origin.rule in
    subst Opened (sym c.requires.opened)
    (over_alone P c.args.rewritten.now size c.args.limits.budget c.args.limits.attempts g.K.Origin.first memory.used g.K.Origin.rule limits σ (subst Words c.requires.first c.requires.stands.1) c.requires.ruled
    (ap (λ (l : CallLimits). l.room.size) c.in_region.ensures) (ap (λ (l : CallLimits). l.budget) c.in_region.ensures)
    (ap (λ (l : CallLimits). l.room.region) c.in_region.ensures) (ap (λ (l : CallLimits). l.room.used) c.in_region.ensures))

pub returns : goal.returns
returns g c =
    let P = c.args.original.now in
    let Q = c.args.rewritten.now in
    let size = c.args.limits.size in
    let budget = c.args.limits.budget in
    let rule = g.K.Origin.rule in
    let first = g.K.Origin.first in
    let memory = c.args.memory in
    let engine = c.make_next-record.new.engine in
    let made = c.make_next-record.result.0 in
    let used = c.make_next-record.result.1 in
    let room = c.in_region.result.room in
    let at : Place = record { phase = 0; lane = 0; first = 0 } in
    let call : Known = record { method = c.args.method; args = c.new.result.items } in
    let left : Memory = record { words = c.into_words-words.result; used = used } in
    let Stands : List Entry → ℕ → Log → Log → Type 0 = λ h n r w. StandsFor rule first engine.words.items engine.clock engine.writes.items h n r w in
    let bounds = bounds_of c.in_region.result in
    let adds : AddsCall P Q bounds Stands [] 0 (told_by room at call made) used = c.make_next-record.ensures.adds [] 0 c.new-engine.ensures.stands in
    let entry : AddsEntry Stands [] 0 room.used (told_by room at call made) used =
    answered P Q bounds Stands used (told_by room at call made) (λ h n stands. stands.no_conflict) c.in_default.not-NoMemory adds in
    let room_is = c.in_region.ensures in
    let region : room.region ≡ 0 = ap (λ (l : CallLimits). l.room.region) room_is in
    let before : room.used ≡ memory.used = ap (λ (l : CallLimits). l.room.used) room_is in
    let called : call ≡ record { method = c.args.method; args = [] } = ap (λ (values : List Value). record { method = c.args.method; args = values }) c.new.ensures.items in
    let words : left.words.items ≡ engine.words.items = ap (λ (v : Vec ℕ Global). v.items) c.into_words-words.ensures in
    let none : Known = record { method = c.args.method; args = [] } in
    let Entered : List ℕ → ℕ → Known → Type 0 =
    λ ws n k. AddsEntry (λ h m r w. StandsFor rule first ws engine.clock engine.writes.items h m r w) [] 0 n (told_by room at k made) used in
    let of_call : Entered engine.words.items room.used none = subst (Entered engine.words.items room.used) called entry in
    let of_memory : Entered engine.words.items memory.used none = subst (λ (n : ℕ). Entered engine.words.items n none) before of_call in
    let alone : Entered left.words.items memory.used none = subst (λ (ws : List ℕ). Entered ws memory.used none) (sym words) of_memory in
    record {
      answers = answers_alone P Q size budget c.args.limits.attempts rule c.requires.ruled first memory left engine.clock c.args.method engine.writes.items made.answer made.stamp room at
          c.requires.first region alone;
      size = ap length words ∙ entry.stands.size ∙ ap length (sym c.requires.first);
    }
