use Rattle.std.proofs.Common.{◌≡◌, ◌++◌, length, map, take, ap, ◌∙◌, sym}
use Rattle.std.proofs.lemmas.List.{map-append, take_more, length-map, length-take-le}
use Rattle.std.specs.List.{join_with_byte}
use Rattle.bankgen.specs.Script.{transfer_text}
use Rattle.bankgen.proofs.Joined.{adds_item}
use Rattle.bankgen.proofs.script.push_calls.Goals as goal

pub loop-i-preserved : goal.loop-i-preserved
loop-i-preserved c =
    let n : length (map transfer_text (take c.loop-i.i c.args.calls.now)) ≡ c.loop-i.i = length-map (take c.loop-i.i c.args.calls.now) transfer_text ∙ length-take-le c.loop-i.i c.args.calls.now c.loop-i.auto.i-end in
    let t = ap (map transfer_text) (take_more c.args.calls.now c.loop-i.i _ c.loop-i-test.true) in
    adds_item c.push.new.self _ _ _ _ _ _ c.loop-i.invariant n c.in_ok-push_separator.ensures c.in_ok-push_transfer.ensures
    ∙ ap (λ xs. c.push.new.self ++ join_with_byte 44 xs) (sym (t ∙ map-append transfer_text _ _))
