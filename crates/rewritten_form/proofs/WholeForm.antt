-- What rewriting gives keeps the rules of class files.
use Rattle.objects.proofs.Links.{links}
use Rattle.rewritten_form.specs.FormLaw.{FormLaw}
use Rattle.rewritten_form.proofs.Folder.{folder_rules}
use Rattle.rewritten_form.proofs.TableTexts.{tables_texts}

pub form_law : FormLaw
form_law cs news P Ts read filed linked tables e = folder_rules cs P read (links cs P linked) filed Ts news (tables_texts cs P read linked filed Ts tables) e
