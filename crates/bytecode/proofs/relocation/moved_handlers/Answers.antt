use Rattle.std.proofs.Common.{◌∷◌, [], map, take, append_assoc}
use Rattle.std.proofs.lemmas.List.{map_more}
use Rattle.jmodel.specs.format.Relocation.{moved}
use Rattle.bytecode.specs.Places.{place_in, entry_to}
use Rattle.bytecode.proofs.relocation.moved_handlers.Goals as goal

pub loop-h-preserved : goal.loop-h-preserved
loop-h-preserved c =
    let move = moved (place_in c.args.places.now) in
    let i = c.loop-h.h-index in
    let more = map_more move c.args.handlers.now i (record { start = 0; end = 0; handler = 0; catch_type = 0 }) c.loop-h-test.true in
    let joined = append_assoc (entry_to c.args.places.now c.args.first) (map move (take i c.args.handlers.now)) (c.moved_handler.result ∷ []) in
    cc (c.in_ok-push-2.ensures.items)
