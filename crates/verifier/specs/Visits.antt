-- What the instruction of a place does in one turn of the search.
use Rattle.std.specs.Prelude.{◌≡◌, ℕ, List, length, Option, Some, None, Bool, true, false, ◌&&◌, nat_le, slice_get, if◌then◌else◌}
use Rattle.objects.specs.declared.op.Op.{Op}
use Rattle.objects.specs.semantics.Program.{Method, Program}
use Rattle.objects.specs.typing.Typing.{Types, Flow, Leads, Wrong, flow}
use Rattle.verifier.specs.declared.search.Outflow.{Outflow}
use Rattle.verifier.specs.Search.{State, Flows, are_throwable, demands, is_ready}
use Rattle.verifier.specs.Settled.{brings_itself}

-- the types before an instruction, where it goes on, and what it leaves there
pub record Step : Type 0 where
  pub before : Outflow
  pub to : List ℕ
  pub left : Outflow

-- Those before it are settled, and so are those that it leaves where all that it brings is within itself.
abbrev pub step : Program → Method → Op → Types → List ℕ → Types → Step
step P k o h tos x = record { before = record { types = h; settled = true }; to = tos; left = record { types = x; settled = brings_itself P k o x.stack } }

-- none where the frame has no room, or where an entry that guards the place takes no exceptions
abbrev pub step_of : Program → Method → ℕ → Op → Types → Flow → Option Step
step_of P k pc o h Wrong = None
step_of P k pc o h (Leads tos x) = if nat_le (length x.stack) k.max_stack && are_throwable P k.catches pc then Some (step P k o h tos x) else None

abbrev pub step_in : Program → Method → ℕ → Types → Option Op → Option Step
step_in P k pc h None = None
step_in P k pc h (Some o) = step_of P k pc o h (flow P k pc o h)

abbrev pub step_at : Program → Method → ℕ → Option Types → Option Step
step_at P k pc None = None
step_at P k pc (Some h) = if is_ready k h then step_in P k pc h (slice_get k.ops pc) else None

-- what is left flows on, or there is no step
abbrev pub FollowsStep : Program → Method → ℕ → Option Step → State → State → Bool → Type 0
FollowsStep P k pc None s n b = b ≡ false
FollowsStep P k pc (Some x) s n b = Flows P (demands P k pc x.before.types x.to x.left.types) s n b
