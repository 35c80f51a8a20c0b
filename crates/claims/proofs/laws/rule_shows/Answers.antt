use Rattle.claims.proofs.Showing.{shows}
use Rattle.claims.proofs.laws.rule_shows.Goals as goal

pub returns : goal.returns
returns c = shows
