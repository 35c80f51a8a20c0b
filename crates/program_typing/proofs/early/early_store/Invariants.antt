use Rattle.std.proofs.Common.{◌≡◌, drop}
use Rattle.program_typing.specs.Early.{early_from, early_store}
use Rattle.program_typing.proofs.early.early_store.Given as goal

-- none of the instructions so far is such a store
abbrev pub invariant-loop-pc : goal.invariant-loop-pc
invariant-loop-pc l = early_store l.program l.method l.typing ≡ early_from l.program l.typing l.pc (drop l.pc l.op-items)
