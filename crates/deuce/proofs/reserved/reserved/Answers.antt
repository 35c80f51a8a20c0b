use Rattle.std.proofs.Common.{◌<◌, length, refl, arith}
use Rattle.std.proofs.lemmas.Option.{slice_get_read, slice_get_within}
use Rattle.deuce.specs.declared.inputs.ClassInput.{ClassInput}
use Rattle.deuce.specs.Folder.{IsFileOf}
use Rattle.deuce.proofs.Reading.{same_count}
use Rattle.deuce.proofs.HelperPath.{zip_at}
use Rattle.deuce.proofs.reserved.reserved.Goals as goal

pub offset_bounds-files-number : goal.offset_bounds-files-number
offset_bounds-files-number c =
    let lt = slice_get_within c.args.inputs.now c.in-Some.number c.in-Some.ensures.input c.in-Some.ensures.there in
    let few = c.requires.few in
    omega (arith, lt, few, same_count c.args.inputs.now c.args.files.now c.requires.good)

pub bounds-files-number : goal.bounds-files-number
bounds-files-number c =
    let lt = slice_get_within c.args.inputs.now c.in-Some.number c.in-Some.ensures.input c.in-Some.ensures.there in
    omega (arith, lt, same_count c.args.inputs.now c.args.files.now c.requires.good)

pub returns-in_ok-refusal_of-in-Some : goal.returns-in_ok-refusal_of-in-Some
returns-in_ok-refusal_of-in-Some c =
    let inputs = c.args.inputs.now in
    let files = c.args.files.now in
    let number = c.in-Some.number in
    let class = c.index-files-number.result in
    let at = c.in-Some.ensures in
    let within = slice_get_within inputs number at.input at.there in
    let lt : number < length files = omega (arith, within, same_count inputs files c.requires.good) in
    let there = slice_get_read files (length files) number class refl lt c.index-files-number.is in (
      class,
      record { number = number; input = at.input; there = at.there; at_helper = at.at_helper; good = zip_at (λ (i : ClassInput). IsFileOf i.bytes) inputs files number at.input class c.requires.good at.there there },
      c.in_ok-refusal_of-in-Some.ensures,
    )
