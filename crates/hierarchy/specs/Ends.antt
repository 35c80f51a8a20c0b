-- How building a program ends.
use Rattle.jmodel.specs.declared.refusal.Halt.{Halt}
use Rattle.jmodel.specs.declared.refusal.Halt.TheVariants as halts
use Rattle.hierarchy.specs.declared.outcome.BuildEnd.{BuildEnd}
use Rattle.hierarchy.specs.declared.outcome.BuildEnd.TheVariants as ends

-- the same end, of a part that was read
abbrev pub end_of : Halt → BuildEnd
end_of (halts.Refused r) = ends.Refused r
end_of halts.NoMemory = ends.NoMemory
