use Rattle.std.proofs.Common.{[]}
use Rattle.tx_table.proofs.Showing.{shows}
use Rattle.tx_table.proofs.laws.rule_shows.Goals as goal

pub returns : goal.returns
returns g c = λ words views r. shows {S = Unit {0}} (g.T.Story.story c.args.story.now) (record { words = words; homes = []; views = views }) r
