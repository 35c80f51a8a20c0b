use Rattle.lsa.proofs.extension.validate_at.Given as goal

abbrev pub ghost-validate : goal.ghost-validate
ghost-validate g a = g.last
