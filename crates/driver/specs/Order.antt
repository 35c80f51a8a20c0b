-- The order of history, by what is kept of calls.
use Rattle.std.specs.Prelude.{Bool, not, ◌&&◌, ◌||◌, nat_lt}
use Rattle.jmodel.specs.history.History.{first_by}
use Rattle.session.specs.declared.record.Record.{Record}

-- of two calls of one phase: by stamp, an update before readers of the same stamp, then by lane and index
abbrev pub stands_before : Record → Record → Bool
stands_before a b =
    first_by a.stamp.at b.stamp.at (
    (a.stamp.update && not b.stamp.update)
    || ((a.stamp.update || not b.stamp.update)
    && first_by a.lane b.lane (nat_lt a.index b.index)))
