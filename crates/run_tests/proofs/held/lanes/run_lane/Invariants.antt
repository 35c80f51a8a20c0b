use Rattle.std.proofs.Common.{suc}
use Rattle.session.specs.Adds.{call_of}
use Rattle.driver.specs.Passing.{first_of}
use Rattle.run_tests.proofs.held.lanes.run_lane.Given as goal

abbrev pub ghosts-run_over : goal.ghosts-run_over
ghosts-run_over g a = record {
  call = call_of (record { region = suc a.start.lane; size = a.runner.limits.size; used = a.start.used }) (first_of 0 a.start.lane) a.call.now;
  used = a.start.used;
}
