-- The code of methods, as programs have it, in the words of the definitions.
use Rattle.hierarchy.specs.declared.program.Body.{Body as Built}
use Rattle.objects.specs.linking.Linking.{Body}

-- code that was built
abbrev pub body_of : Built → Body
body_of b = record { locals = b.locals; max_stack = b.max_stack; ops = b.ops.items; catches = b.catches.items }
