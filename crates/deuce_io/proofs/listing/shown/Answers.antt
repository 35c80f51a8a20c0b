-- The parts round the first slash, or the whole where there is none.
use Rattle.std.proofs.Common.{◌∙◌, ap, Some, None, lit<}
use Rattle.std.proofs.lemmas.Str.Pattern.{split_parts}
use Rattle.deuce_io.specs.Files.{inside}
use Rattle.deuce_io.proofs.Shows.{file_shown, folder_shown}
use Rattle.deuce_io.proofs.listing.shown.Goals as goal

pub returns-in-Some-split_once : goal.returns-in-Some-split_once
returns-in-Some-split_once c =
    let arm = c.in-Some-split_once in
    let parts = split_parts 47 c.in-Some.rest.now (Some (arm.name, arm.field-0-1)) arm.ensures.cases (lit< tt) in
    folder_shown c.args.dir.now c.args.path.now arm.name.now arm.field-0-1.now (c.in-Some.ensures ∙ ap (inside c.args.dir.now) parts.0) parts.1

pub returns-in-None-split_once : goal.returns-in-None-split_once
returns-in-None-split_once c =
    file_shown c.args.dir.now c.args.path.now c.in-Some.rest.now c.in-Some.ensures
    (split_parts 47 c.in-Some.rest.now None c.in-None-split_once.ensures.cases (lit< tt))
