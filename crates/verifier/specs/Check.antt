-- The rules of the definition as tests of a given table.
use Rattle.std.specs.Prelude.{ℕ, ◌+◌, List, [], ◌∷◌, length, Option, Some, None, Bool, true, false, ◌&&◌, nat_eq, nat_le, nat_lt, slice_get}
use Rattle.objects.specs.declared.op.Op.{Op}
use Rattle.objects.specs.semantics.Program.{Method, Program}
use Rattle.objects.specs.typing.Typing.{Types, Table, Flow, Leads, Wrong, types_at, flow}
use Rattle.verifier.specs.Order.{fits_in}
use Rattle.verifier.specs.Search.{Demands, demands, are_locals_after, are_throwable, is_ready}

-- types of a frame of the method
abbrev pub is_shaped : Method → Types → Bool
is_shaped k h = nat_eq (length h.locals) k.locals && (are_locals_after false h.locals && is_ready k h)

-- the types at a place are at least as wide as these
abbrev pub are_above : Program → Types → Option Types → Bool
are_above P h None = false
are_above P h (Some g) = fits_in P h g

abbrev pub covers : Program → Method → Table → ℕ → Types → Bool
covers P k T to h = nat_lt to (length k.ops) && are_above P h (types_at T to)

abbrev pub covers_each : Program → Method → Table → Demands → Bool
covers_each P k T [] = true
covers_each P k T (d ∷ ds) = covers P k T d.0 d.1 && covers_each P k T ds

-- what is left stays within the stack, and each entry that guards the place takes exceptions
abbrev pub stays : Program → Method → ℕ → Types → Bool
stays P k pc x = nat_le (length x.stack) k.max_stack && are_throwable P k.catches pc

abbrev pub keeps_flow : Program → Method → Table → ℕ → Types → Flow → Bool
keeps_flow P k T pc h Wrong = false
keeps_flow P k T pc h (Leads tos x) = stays P k pc x && covers_each P k T (demands P k pc h tos x)

abbrev pub keeps_op : Program → Method → Table → ℕ → Types → Option Op → Bool
keeps_op P k T pc h None = false
keeps_op P k T pc h (Some o) = keeps_flow P k T pc h (flow P k pc o h)

abbrev pub keeps : Program → Method → Table → ℕ → Types → Bool
keeps P k T pc h = keeps_op P k T pc h (slice_get k.ops pc)

abbrev pub keeps_at : Program → Method → Table → ℕ → Option Types → Bool
keeps_at P k T pc None = true
keeps_at P k T pc (Some h) = is_shaped k h && keeps P k T pc h

-- from a place on
abbrev pub keeps_from : Program → Method → Table → ℕ → List (Option Types) → Bool
keeps_from P k T pc [] = true
keeps_from P k T pc (o ∷ os) = keeps_at P k T pc o && keeps_from P k T (pc + 1) os
