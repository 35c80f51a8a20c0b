use Rattle.std.proofs.Common.{◌≡◌, ℕ, List, [], map, take, true}
use Rattle.std.specs.Prelude.{bytes_eq}
use Rattle.std.specs.List.{list_any}
use Rattle.objects.specs.linking.Members.{are_distinct, field_name_of}
use Rattle.hierarchy.specs.Names.{named, has}
use Rattle.hierarchy.proofs.member_faults.have_own_names.Given as goal

-- the names so far, of which no two are the same
abbrev pub invariant-loop-field : goal.invariant-loop-field
invariant-loop-field l =
    (are_distinct (map (field_name_of l.pool) (take l.field-index l.fields)) ≡ true)
    × ((n : List ℕ) → has l.names (named [] n []) ≡ list_any (bytes_eq n) (map (field_name_of l.pool) (take l.field-index l.fields)))
