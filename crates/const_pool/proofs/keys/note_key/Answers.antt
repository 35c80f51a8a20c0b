use Rattle.std.proofs.Common.{sym}
use Rattle.const_pool.proofs.KeyTests.{key_noted, none_from_test}
use Rattle.const_pool.proofs.keys.note_key.Goals as goal

pub returns : goal.returns
returns c = λ q. rw c.in-Some.is (key_noted c.args.keys.now c.insert.new.self c.in-Some.key c.args.at (none_from_test _ (sym c.if-contains_key.ensures)) c.in_ok-insert.ensures.updates.0 q)
