-- What the search for a typing keeps: a table so far, and the places that are to be looked at.
use Rattle.std.specs.Prelude.{◌≡◌, ℕ, ◌-◌, List, [], ◌∷◌, ◌++◌, length, replicate, Option, Some, None, Bool, true, false, not, cond, nat_eq, nat_le, ◌&&◌, ◌||◌, slice_get, slice_set, option_and_then, if◌then◌else◌}
use Rattle.std.specs.List.{list_any}
use Rattle.std.specs.Ordering.{nat_cmp}
use Rattle.std.specs.BTreeMap.{is_at}
use Rattle.jmodel.specs.declared.typing.VType.{VType}
use Rattle.jmodel.specs.declared.typing.VType.TheVariants.{Long, Second, Ref}
use Rattle.objects.specs.declared.op.Op.{Op}
use Rattle.objects.specs.declared.op.Catch.{Catch}
use Rattle.objects.specs.semantics.Program.{Method, Program}
use Rattle.objects.specs.typing.TypeOrder.{throwable_class, is_within}
use Rattle.objects.specs.typing.Typing.{Types, Table, Flow, Leads, Wrong, types_at, first_types, flow, caught_type, is_guarded}
use Rattle.verifier.specs.declared.search.Change.{Change}
use Rattle.verifier.specs.declared.search.Change.TheVariants.{Nothing, Put, Refused}
use Rattle.verifier.specs.Order.{fits_in, joined}
pub use Rattle.type_lists.specs.Stacks.{some_and, next_under, is_stack_under}

-- whether a local has the first place of a long, where the local before it had one or not; none where the two don't go together
abbrev pub next_local : Bool → VType → Option Bool
next_local false Long = Some true
next_local false Second = None
next_local false t = Some false
next_local true Second = Some false
next_local true t = None

abbrev pub are_locals_after : Bool → List VType → Bool
are_locals_after after [] = not after
are_locals_after after (t ∷ ts) = some_and (next_local after t) (λ (b : Bool). are_locals_after b ts)

-- whether the last of some locals has the first place of a long
abbrev pub after_all : Bool → List VType → Option Bool
after_all after [] = Some after
after_all after (t ∷ ts) = option_and_then (λ (b : Bool). after_all b ts) (next_local after t)

-- a stack of a frame of the method
abbrev pub is_ready : Method → Types → Bool
is_ready k h = nat_le (length h.stack) k.max_stack && is_stack_under false h.stack

pub record State : Type 0 where
  pub table : Table
  -- in order
  pub waiting : List ℕ

abbrev pub is_alike : Types → Types → Bool
is_alike h g = nat_eq (length h.locals) (length g.locals) && nat_eq (length h.stack) (length g.stack)

-- What types do to those of a place that they flow to. The first place keeps what the method begins with.
abbrev pub merged : Program → ℕ → Types → Types → Change
merged P to out h =
    if not (is_alike out h) then Refused
    else if fits_in P out h then Nothing
    else if nat_eq to 0 then Refused
    else Put (joined P h out)

-- of types that are none of the program what is above them is put
abbrev pub change_of : Program → ℕ → Types → Option (Option Types) → Change
change_of P to out None = Refused
change_of P to out (Some None) = Put (joined P out out)
change_of P to out (Some (Some h)) = merged P to out h

-- the places that wait have this one
abbrev pub waits : List ℕ → ℕ → Bool
waits ws q = list_any (is_at (nat_cmp q)) ws

abbrev pub IsInserted : ℕ → List ℕ → List ℕ → Type 0
IsInserted k ws ns = (q : ℕ) → waits ns q ≡ cond (is_at (nat_cmp k) q) true (waits ws q)

-- a place waits no longer, and each other one as before
abbrev pub IsTaken : ℕ → List ℕ → List ℕ → Type 0
IsTaken k ws ns = (q : ℕ) → waits ns q ≡ cond (is_at (nat_cmp k) q) false (waits ws q)

-- types have flowed to a place, or it can't take them
abbrev pub Makes : Change → ℕ → State → State → Bool → Type 0
Makes Nothing to s n b = (b ≡ true) × (n ≡ s)
Makes (Put h) to s n b = (b ≡ true) × (n.table ≡ slice_set s.table to (Some h)) × IsInserted to s.waiting n.waiting
Makes Refused to s n b = b ≡ false

abbrev pub IsPour : Program → ℕ → Types → State → State → Bool → Type 0
IsPour P to out s n b = Makes (change_of P to out (slice_get s.table to)) to s n b

abbrev pub Then : Bool → Type 0 → Type 0 → Type 0
Then true A B = A
Then false A B = B

-- places, and the types that flow to each
abbrev pub Demands : Type 0
Demands = List (ℕ × Types)

-- types flow to each place of a list, as long as one takes them
abbrev pub Flows : Program → Demands → State → State → Bool → Type 0
Flows P [] s n b = (b ≡ true) × (n ≡ s)
Flows P (d ∷ ds) s n b = (m : State) × (c : Bool) × IsPour P d.0 d.1 s m c × Then c (Flows P ds m n b) (b ≡ false)

abbrev pub each_to : List ℕ → Types → Demands
each_to [] h = []
each_to (to ∷ tos) h = (to, h) ∷ each_to tos h

-- an exception over these locals
abbrev pub thrown : Program → List VType → Bool → Catch → Types
thrown P l built c = record { locals = l; stack = caught_type P c.catches ∷ []; built = built }

-- what flows to the places of the entries that guard a place
abbrev pub caught : Program → List Catch → ℕ → List VType → Bool → Demands
caught P [] pc l built = []
caught P (c ∷ cs) pc l built = if is_guarded c pc then (c.at, thrown P l built c) ∷ caught P cs pc l built else caught P cs pc l built

-- whether each entry that guards a place takes exceptions
abbrev pub are_throwable : Program → List Catch → ℕ → Bool
are_throwable P [] pc = true
are_throwable P (c ∷ cs) pc = (not (is_guarded c pc) || is_within P (caught_type P c.catches) (Ref throwable_class)) && are_throwable P cs pc

abbrev pub demands : Program → Method → ℕ → Types → List ℕ → Types → Demands
demands P k pc g tos h = each_to tos h ++ (caught P k.catches pc g.locals g.built ++ caught P k.catches pc h.locals h.built)

-- what an instruction leaves flows on, or its rules fail
abbrev pub Follows : Program → Method → ℕ → Types → Flow → State → State → Bool → Type 0
Follows P k pc h Wrong s n b = b ≡ false
Follows P k pc h (Leads tos x) s n b = Then (nat_le (length x.stack) k.max_stack && are_throwable P k.catches pc) (Flows P (demands P k pc h tos x) s n b) (b ≡ false)

abbrev pub follows_op : Program → Method → ℕ → Types → Option Op → State → State → Bool → Type 0
follows_op P k pc h None s n b = b ≡ false
follows_op P k pc h (Some o) s n b = Follows P k pc h (flow P k pc o h) s n b

abbrev pub follows_at : Program → Method → ℕ → Option Types → State → State → Bool → Type 0
follows_at P k pc None s n b = b ≡ false
follows_at P k pc (Some h) s n b = Then (is_ready k h) (follows_op P k pc h (slice_get k.ops pc) s n b) (b ≡ false)

-- the instruction of a place has been looked at, and its rules hold or fail
abbrev pub IsVisit : Program → Method → ℕ → State → State → Bool → Type 0
IsVisit P k pc s n b = follows_at P k pc (types_at s.table pc) s n b

-- the types that a method begins with are those of a frame
abbrev pub is_entered : Method → Bool
is_entered k = nat_eq (length (first_types k).locals) k.locals && are_locals_after false (first_types k).locals

-- the search begins at the first place
abbrev pub starting : Method → State
starting k = record { table = Some (first_types k) ∷ replicate (length k.ops - 1) None; waiting = 0 ∷ [] }
