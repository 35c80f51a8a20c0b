-- First the folder's path, and then the slash.
use Rattle.std.proofs.Common.{Some, lit<}
use Rattle.std.proofs.lemmas.Str.Pattern.{strip_prefix_char}
use Rattle.deuce_io.proofs.Shows.{strip_text, below_found}
use Rattle.deuce_io.proofs.listing.below.Goals as goal

pub returns-in-Some : goal.returns-in-Some
returns-in-Some c =
    let rest = c.in-Some.rest in
    let stripped = c.strip_prefix-in-Some in
    below_found c.args.dir.now c.args.path.now rest.now stripped.result
    (strip_text c.args.dir.now c.args.path.now (Some rest) c.in-Some.ensures.cases)
    (strip_prefix_char 47 rest.now stripped.result stripped.ensures.cases (lit< tt))
