use Rattle.std.proofs.Common.{◌≡◌, ◌∙◌, sym, refl, arith}
use Rattle.std.specs.Prelude.{codes, string_bytes}
use Rattle.std.proofs.lemmas.Slice.Eq.{bytes_eq-Decides}
use Rattle.deuce.proofs.Lists.{three}
use Rattle.deuce.proofs.words.command_of.Goals as goal

pub returns-in-len3 : goal.returns-in-len3
returns-in-len3 c =
    let words = three c.args.words.now c.name-item.result c.dir-item.result c.script-item.result (omega arith) c.name-item.is c.dir-item.is c.script-item.is in
    let name : string_bytes c.name-item.result ≡ codes "run" =
    sym c.as_str.ensures.value ∙ (bytes_eq-Decides _ _).0 (sym c.if-eq.ensures) in
    rw (words, name, c.as_str-in-len3.ensures.value, c.as_str-in-len3-2.ensures.value) refl

pub returns-in-len3-2 : goal.returns-in-len3-2
returns-in-len3-2 c =
    let words = three c.args.words.now c.name-item-then-words-lt4.result c.dir-item-then-words-lt4.result c.out-item.result (omega arith) c.name-item-then-words-lt4.is c.dir-item-then-words-lt4.is c.out-item.is in
    let name : string_bytes c.name-item-then-words-lt4.result ≡ codes "rewrite" =
    sym c.as_str-then-words-lt4.ensures.value ∙ (bytes_eq-Decides _ _).0 (sym c.if-eq-2.ensures) in
    rw (words, name, c.as_str-in-len3-2-2.ensures.value, c.as_str-in-len3-2-3.ensures.value) refl
