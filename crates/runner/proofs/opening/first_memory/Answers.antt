use Rattle.std.proofs.Common.{◌≡◌, ℕ, ◌+◌, ◌*◌, ◌-◌, ◌++◌, length, map, ap, arith, length-append}
use Rattle.std.specs.Prelude.{replicate}
use Rattle.std.proofs.lemmas.List.{length-replicate}
use Rattle.objects.specs.linking.Layout.{opening_words}
use Rattle.runner.proofs.Opens.{opening_holds, room_for, few_words, words_fixed, small_region}
use Rattle.runner.proofs.opening.first_memory.Goals as goal

pub memory_words-requires-clause-room : goal.memory_words-requires-clause-room
memory_words-requires-clause-room c =
    let cs = map (λ k. k.now) c.args.classes.now in
    let fixed = words_fixed cs in
    let room = c.requires.room.0 in
    room_for c.args.size c.args.lanes (length (opening_words cs)) (omega (arith, fixed, room))

pub memory_words-requires-clause-size : goal.memory_words-requires-clause-size
memory_words-requires-clause-size c = let few = few_words c.args.size c.args.lanes c.requires.room.1 c.requires.lanes in omega (arith, few)

pub returns-clause-holds : goal.returns-clause-holds
returns-clause-holds c =
    let cs = map (λ k. k.now) c.args.classes.now in
    opening_holds cs c.args.program.now c.args.size (c.args.size * (c.args.lanes + 1) - length (opening_words cs)) (record { words = c.in_ok-words.words; used = c.in_ok-used.used }) c.requires.read c.requires.links
    c.in_ok-words.ensures c.in_ok-used.ensures c.requires.room.0 (small_region c.args.size c.requires.room.1)

pub returns-clause-size : goal.returns-clause-size
returns-clause-size c =
    let cs = map (λ k. k.now) c.args.classes.now in
    let first = opening_words cs in
    let zeros = replicate (c.args.size * (c.args.lanes + 1) - length first) 0 in
    let many : length c.in_ok-words.words.items ≡ length (first ++ zeros) = ap length c.in_ok-words.ensures in
    let few = few_words c.args.size c.args.lanes c.requires.room.1 c.requires.lanes in
    let fixed = words_fixed cs in
    let inside = c.requires.room.0 in
    let room = room_for c.args.size c.args.lanes (length first) (omega (arith, fixed, inside)) in
    omega (arith, many, length-append first zeros, length-replicate {A = ℕ} (c.args.size * (c.args.lanes + 1) - length first) 0, few, room)
