use Rattle.rewritten_form.proofs.WholeForm.{form_law}
use Rattle.rewritten_form.proofs.laws.form_law.Goals as goal

pub returns : goal.returns
returns c cs news P Ts read filed linked tables e = form_law cs news P Ts read filed linked tables e
