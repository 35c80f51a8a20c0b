-- Names of duplicates, which take the context as last parameter.
use Rattle.jmodel.specs.declared.name.MethodName.{MethodName}
use Rattle.objects.specs.rewriting.Rewriting.{duplicate_name, with_context}

-- the duplicate of a method
abbrev pub duplicate_named : MethodName → MethodName
duplicate_named n = record { class = n.class; name = duplicate_name n.name; descriptor = with_context n.descriptor }
