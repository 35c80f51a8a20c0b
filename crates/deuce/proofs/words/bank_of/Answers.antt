use Rattle.std.proofs.Common.{◌≡◌, ◌∙◌, [], ◌∷◌, sym, refl, arith}
use Rattle.std.specs.Prelude.{codes, string_bytes}
use Rattle.std.proofs.lemmas.Slice.Eq.{bytes_eq-Decides}
use Rattle.deuce.specs.Command.{seen_words}
use Rattle.deuce.proofs.Lists.{on_ok}
use Rattle.deuce.proofs.Worded.{five, six, bank_cases, engine_cases}
use Rattle.deuce.proofs.words.bank_of.Goals as goal

pub returns-in-len5 : goal.returns-in-len5
returns-in-len5 c =
    let words = five c.args.words.now c.name-item.result c.seed-item.result c.accounts-item.result c.calls-item.result c.lanes-item.result (omega arith) c.name-item.is c.seed-item.is c.accounts-item.is c.calls-item.is c.lanes-item.is in
    let name : string_bytes c.name-item.result ≡ codes "bank" = sym c.as_str.ensures.value ∙ (bytes_eq-Decides _ _).0 (sym c.if-eq.ensures) in
    let seed = c.as_str-in-len5.result.now in
    let accounts = c.as_str-in-len5-2.result.now in
    let calls = c.as_str-in-len5-3.result.now in
    let lanes = c.as_str-in-len5-4.result.now in
    let seen : seen_words c.args.words.now ≡ codes "bank" ∷ seed ∷ accounts ∷ calls ∷ lanes ∷ [] =
    rw (words, name, c.as_str-in-len5.ensures.value, c.as_str-in-len5-2.ensures.value, c.as_str-in-len5-3.ensures.value, c.as_str-in-len5-4.ensures.value) refl in
    on_ok c.bank_in.result _ _ (λ o h. bank_cases c.args.words.now seed accounts calls lanes o seen h) c.bank_in.ensures

pub returns-in-len6 : goal.returns-in-len6
returns-in-len6 c =
    let words = six c.args.words.now c.name-item-then-words-lt7.result c.seed-item-then-words-lt7.result c.accounts-item-then-words-lt7.result c.calls-item-then-words-lt7.result c.lanes-item-then-words-lt7.result c.engine-item.result
    (omega arith) c.name-item-then-words-lt7.is c.seed-item-then-words-lt7.is c.accounts-item-then-words-lt7.is c.calls-item-then-words-lt7.is c.lanes-item-then-words-lt7.is c.engine-item.is in
    let name : string_bytes c.name-item-then-words-lt7.result ≡ codes "bank" = sym c.as_str-then-words-lt7.ensures.value ∙ (bytes_eq-Decides _ _).0 (sym c.if-eq-2.ensures) in
    let seed = c.as_str-in-len6.result.now in
    let accounts = c.as_str-in-len6-2.result.now in
    let calls = c.as_str-in-len6-3.result.now in
    let lanes = c.as_str-in-len6-4.result.now in
    let engine = c.as_str-in-len6-5.result.now in
    let seen : seen_words c.args.words.now ≡ codes "bank" ∷ seed ∷ accounts ∷ calls ∷ lanes ∷ engine ∷ [] =
    rw (words, name, c.as_str-in-len6.ensures.value, c.as_str-in-len6-2.ensures.value, c.as_str-in-len6-3.ensures.value, c.as_str-in-len6-4.ensures.value, c.as_str-in-len6-5.ensures.value) refl in
    on_ok c.bank_over.result _ _ (λ o h. engine_cases c.args.words.now seed accounts calls lanes engine o seen h) c.bank_over.ensures
