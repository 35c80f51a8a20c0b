-- Entries behind a pool, for which there is room.
use Rattle.std.proofs.Common.{◌≡◌, ℕ, suc, ◌+◌, ◌≤◌, List, ◌++◌, length, Ok, refl, ap, ◌∙◌, append_assoc, add-one}
use Rattle.std.proofs.lemmas.Bool.{le-ltb}
use Rattle.jmodel.specs.declared.class_file.Constant.{Constant}
use Rattle.jmodel.specs.format.PoolAdding.{put, IsLonger}

pub has_room : (pool cs new : List Constant) (n : ℕ) → n ≡ length pool → length pool + length cs ≤ 65534 → new ≡ pool ++ cs → put pool cs ≡ Ok (n + 1, new)
has_room pool cs new n is room same = rw (is, same, le-ltb 65534 (length pool + length cs) room, add-one) refl

pub longer_on : (a b c : List Constant) → IsLonger a b → IsLonger b c → IsLonger a c
longer_on a b c h k = (h.0 ++ k.0, k.1 ∙ ap (λ (x : List Constant). x ++ k.0) h.1 ∙ append_assoc a h.0 k.0)
