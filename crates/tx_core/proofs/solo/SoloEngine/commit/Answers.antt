use Rattle.std.proofs.Common.{◌≡◌, ◌≢◌, [], refl, sym, ap, ◌∙◌, reverse, length, arith}
use Rattle.std.proofs.lemmas.List.{length-reverse}
use Rattle.std.proofs.lemmas.Grind.{common_steps}
use Rattle.tx_core.proofs.Serial.{adds_reader, adds_update}
use Rattle.tx_core.proofs.solo.SoloEngine.commit.Goals as goal

pub returns-then-is_empty-clause-run : goal.returns-then-is_empty-clause-run
returns-then-is_empty-clause-run g c = λ h n r w s.
    let e : c.args.self.now.writes.items ≡ [] = grind (arith, common_steps) in
    let q : w ≡ [] = sym s.writes ∙ ap reverse e in
    rw q (((λ t. cc), (λ t. absurd (t refl))), λ k used a may. rw e (adds_reader g.K.Origin.rule g.K.Origin.first c.args.self.now.words.items c.args.self.now.clock c.args.self.now.writes.items h n r w s c.args._answer.value (λ _. c.args._used.value) k used a may))

pub returns-clause-run : goal.returns-clause-run
returns-clause-run g c = λ h n r w s.
    let wrote : w ≢ [] = λ q.
    let z : length (reverse c.args.self.now.writes.items) ≡ 0 = ap length (s.writes ∙ q) in
    let y : length c.args.self.now.writes.items ≡ 0 = rw length-reverse at z in
    grind (arith, common_steps) in (
      ((λ t. wrote), (λ t. refl)),
      λ k used a may. rw c.clear.ensures.items
          (adds_update g.K.Origin.rule g.K.Origin.first c.args.self.now.words.items c.write_all.new.words.items c.args.self.now.clock c.args.self.now.writes.items h n r w s c.write_all.ensures.size c.write_all.ensures.words wrote c.args._answer.value (λ _. c.args._used.value) k used a may),
    )
