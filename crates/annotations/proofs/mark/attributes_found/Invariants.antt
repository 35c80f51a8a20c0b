use Rattle.std.proofs.Common.{◌≡◌, drop}
use Rattle.jmodel.specs.format.ClassRules.{named_attributes}
use Rattle.annotations.specs.Walk.{attributes_end, value_end}
use Rattle.annotations.proofs.mark.attributes_found.Given as goal

abbrev pub invariant-loop-attribute : goal.invariant-loop-attribute
invariant-loop-attribute l = attributes_end l.pool (value_end 16 l.pool) (named_attributes l.pool l.name (drop l.attribute-index l.attributes)) l.found ≡ attributes_end l.pool (value_end 16 l.pool) (named_attributes l.pool l.name l.attributes) l.fn.before
