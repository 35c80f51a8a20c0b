-- How what the code keeps of a phase is seen.
use Rattle.jmodel.specs.history.Schedule.{ScriptPhase}
use Rattle.jmodel.specs.history.Schedule as phase
use Rattle.script.specs.declared.phases.Calls.{Calls}
use Rattle.script.specs.declared.phases.Calls.TheVariants.{Lanes, Bag}

abbrev pub phase_seen : Calls → ScriptPhase
phase_seen (Lanes ls) = phase.Lanes ls.items
phase_seen (Bag lanes calls) = phase.Bag lanes calls
