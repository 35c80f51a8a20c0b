use Rattle.std.proofs.Common.{◌≡◌, ◌≤◌, ◌+◌, ℕ, drop}
use Rattle.tx_table.specs.Passes.{book, IsSame}
use Rattle.lsa.specs.Owning.{all_own}
use Rattle.lsa.proofs.Extending.{IsGoing}
use Rattle.lsa.proofs.extension.extend.Given as goal

abbrev pub ghost-open_over : goal.ghost-open_over
ghost-open_over g a = all_own a._own.now a._wanted a._reads.now

abbrev pub ghost-validate_at : goal.ghost-validate_at
ghost-validate_at g a = all_own a._own.now a._wanted (drop (a.place + 1) a.reads.now)

abbrev pub invariant-loop-i : goal.invariant-loop-i
invariant-loop-i g l = record {
  same : IsSame l.fn.pass l.pass;
  still : l.pass.bound ≡ l.fn.pass.bound;
  going : (n : ℕ) × ((book l.fn.pass).seen ≤ n) × IsGoing l.own l.wanted l.reads (book l.fn.pass) l.i n (book l.pass);
}
