-- No more bytes than asked for have been kept.
use Rattle.std.proofs.Common.{◌≤◌, vec_len}
use Rattle.deuce_io.proofs.real_folder.first_bytes.Given as goal

abbrev pub invariant-loop : goal.invariant-loop
invariant-loop g l = vec_len l.bytes ≤ l.most
