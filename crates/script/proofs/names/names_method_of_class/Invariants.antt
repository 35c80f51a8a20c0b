use Rattle.std.proofs.Common.{◌≡◌, false, take}
use Rattle.std.specs.List.{list_any}
use Rattle.objects.specs.linking.Members.{name_of}
use Rattle.script.specs.Script.{is_called}
use Rattle.script.proofs.names.names_method_of_class.Given as goal

-- none so far
abbrev pub invariant-loop-member : goal.invariant-loop-member
invariant-loop-member l = list_any (λ m. is_called l.text (name_of l.class m)) (take l.member-index l.member-items) ≡ false
