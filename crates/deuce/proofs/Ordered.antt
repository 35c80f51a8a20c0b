-- The classes of class files in the order of their names: what holds of all files holds of them.
use Rattle.std.proofs.Common.{List, [], ◌∷◌, Bool, true, false}
use Rattle.std.specs.Prelude.{if◌then◌else◌}
use Rattle.std.specs.List.{AllByRecursion}
use Rattle.jmodel.specs.format.ClassFile.{ClassFile}
use Rattle.objects.specs.linking.Members.{own_name}
use Rattle.objects.specs.linking.Classes.{is_before, placed, in_order}

module _ (Q : ClassFile → Type 0) where
  all_placed : (c : ClassFile) (cs : List ClassFile) → Q c → AllByRecursion Q cs → AllByRecursion Q (placed c cs)
  all_placed c [] one all = (one, tt)
  all_placed c (d ∷ ds) one all = go (is_before (own_name d) (own_name c)) (all_placed c ds one all.1)
    where
      go : (b : Bool) → AllByRecursion Q (placed c ds) → AllByRecursion Q (if b then d ∷ placed c ds else c ∷ d ∷ ds)
      go true rest = (all.0, rest)
      go false rest = (one, all)

  pub all_in_order : (files : List ClassFile) → AllByRecursion Q files → AllByRecursion Q (in_order files)
  all_in_order [] all = tt
  all_in_order (c ∷ cs) all = all_placed c (in_order cs) all.0 (all_in_order cs all.1)
