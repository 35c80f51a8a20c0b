use Rattle.std.proofs.Common.{◌≡◌, take}
use Rattle.std.specs.List.{list_any}
use Rattle.jmodel.specs.declared.name.MethodName.{MethodName}
use Rattle.objects.specs.linking.Members.{is_name}
use Rattle.objects.specs.semantics.Program.{Method}
use Rattle.hierarchy.specs.Names.{has}
use Rattle.linking.proofs.rewritten.method_names.Given as goal

-- the names of the methods so far
abbrev pub invariant-loop-method : goal.invariant-loop-method
invariant-loop-method l = (n : MethodName) → has l.names n ≡ list_any (λ (k : Method). is_name n k.name) (take l.method-index l.method-items)
