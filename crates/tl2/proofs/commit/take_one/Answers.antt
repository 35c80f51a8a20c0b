use Rattle.std.proofs.Common.{◌≡◌, ◌≤◌, ◌*◌, true, false, not, ⊎_elim}
use Rattle.tx_table.specs.Book.{In}
use Rattle.tx_table.specs.Passes.{book}
use Rattle.tl2.proofs.commit.take_one.Goals as goal

pub take-requires-clause-fits : goal.take-requires-clause-fits
take-requires-clause-fits g c = λ b x i e.
    let k = c.in_ok-word.ensures.ok in
    let before : In (b, x) (book c.args.pass.now).reads = rw k.2 at i in
    let t = c.requires.read b x before e in
    rw k.2 (⊎_elim (λ (p : not c.args.was_read ≡ true). let q : false ≡ true = rw t at p in let no : ⊥ = cc q in absurd no) (λ (l : c.in_ok-word.word ≤ 2 * (book c.args.pass.now).bound). l) k.1)
