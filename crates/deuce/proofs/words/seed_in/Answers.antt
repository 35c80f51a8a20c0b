use Rattle.deuce.proofs.Worded.{seed_cases}
use Rattle.deuce.proofs.words.seed_in.Goals as goal

pub returns-in-Some : goal.returns-in-Some
returns-in-Some c = seed_cases c.args.word.now c.in_ok-number.field-0 c.in-Some.number c.seed_of.result c.in_ok-number.ensures c.in-Some.is c.seed_of.ensures
