use Rattle.std.proofs.Common.{refl}
use Rattle.tx_core.proofs.Serial.{adds_reader}
use Rattle.tx_core.proofs.solo.SoloEngine.finish_refused.Goals as goal

pub returns-clause-run : goal.returns-clause-run
returns-clause-run g c = λ h n r w s.
    (((λ q. cc), (λ q. absurd (q refl))), λ k used a may. rw c.clear.ensures.items (adds_reader g.K.Origin.rule g.K.Origin.first c.args.self.now.words.items c.args.self.now.clock c.args.self.now.writes.items h n r w s c.args._answer.value (λ used. used) k used a may))
