use Rattle.std.proofs.Common.{[], ◌∷◌, refl, inr}
use Rattle.std.proofs.lemmas.Result.{err_from_is_err_and}
use Rattle.objects.specs.declared.event.Event.TheVariants.{Looked, Loaded}
use Rattle.machine.proofs.Ways.{grows_trans}
use Rattle.machine.proofs.make.read_header.Goals as goal

pub returns-in_err-word-clause-told : goal.returns-in_err-word-clause-told
returns-in_err-word-clause-told g c =
    let p = err_from_is_err_and c.from_residual.result c.from_residual.ensures.1 in
    rw p.1 (Looked c.args.object ∷ Loaded c.args.object ∷ [], inr refl, tt, grows_trans _ _ _ (Looked c.args.object ∷ []) (Loaded c.args.object ∷ []) c.at.ensures c.at-2.ensures)
