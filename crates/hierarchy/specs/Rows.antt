-- What the objects of a type hold, as the program has it, in the words of the definitions.
use Rattle.objects.specs.semantics.Program.{Holds, Words, Elements}
use Rattle.hierarchy.specs.declared.row.Holds.{Holds as Held}
use Rattle.hierarchy.specs.declared.row.Holds.TheVariants as held

abbrev pub holds_of : Held → Holds
holds_of (held.Words ds) = Words ds.items
holds_of (held.Elements d name) = Elements d name
