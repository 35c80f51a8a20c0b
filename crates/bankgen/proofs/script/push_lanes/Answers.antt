use Rattle.std.proofs.Common.{◌≡◌, ℕ, ◌+◌, List, ◌++◌, ◌∷◌, [], length, map, ap, ◌∙◌, sym}
use Rattle.std.proofs.lemmas.List.{map-append, length-map}
use Rattle.std.proofs.lemmas.List.FromFn.{length-map-range_with_len}
use Rattle.std.specs.List.{join_with_byte}
use Rattle.bankgen.specs.Script.{list_text, lane_calls, numbers}
use Rattle.bankgen.proofs.Joined.{adds_item}
use Rattle.bankgen.proofs.Dealing.{numbers_more}
use Rattle.bankgen.proofs.script.push_lanes.Goals as goal

pub loop-lane-preserved : goal.loop-lane-preserved
loop-lane-preserved c seed accounts calls h =
    let f : ℕ → List (List ℕ) = lane_calls seed accounts calls c.args.lanes in
    let m = c.loop-lane.lane in
    let n : length (map list_text (map f (numbers m))) ≡ m = length-map (map f (numbers m)) list_text ∙ length-map-range_with_len f 0 m in
    let e : map list_text (map f (numbers (m + 1))) ≡ map list_text (map f (numbers m)) ++ list_text (f m) ∷ [] =
    ap (λ ks. map list_text (map f ks)) (numbers_more m) ∙ ap (map list_text) (map-append f (numbers m) (m ∷ [])) ∙ map-append list_text (map f (numbers m)) (f m ∷ []) in
    adds_item c.push.new.self _ _ _ _ _ m (c.loop-lane.invariant seed accounts calls h) n c.in_ok-push_separator.ensures (c.in_ok-push_lane.ensures seed accounts calls h)
    ∙ ap (λ xs. c.push.new.self ++ join_with_byte 44 xs) (sym e)
