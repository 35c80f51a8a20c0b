use Rattle.std.proofs.Common.{◌≡◌, Some, true, false, sym, subst, ◌∙◌}
use Rattle.objects.specs.typing.Typing.{Table, types_at}
use Rattle.verifier.specs.Bounded.{IsTableUpTo}
use Rattle.verifier.specs.Search.{State, IsVisit}
use Rattle.verifier.proofs.Infers.{Known, known_start, known_found, none_entered, turn_holds, turn_fails}
use Rattle.verifier.proofs.Rooms.{AreLowIn, start_low, turn_low, turn_less}
use Rattle.verifier.proofs.Starts.{read_itself}
use Rattle.verifier.proofs.inference.table_up_to.Goals as goal

pub returns-then-not-is_entered : goal.returns-then-not-is_entered
returns-then-not-is_entered c = none_entered c.args.program.now c.args.method.now c.args.last (sym c.is_entered.ensures ∙ c.if-not-is_entered.true)

pub loop-pc-init : goal.loop-pc-init
loop-pc-init c =
    let P = c.args.program.now in
    let k = c.args.method.now in
    let entered = sym c.is_entered.ensures ∙ c.if-not-is_entered.false in
    let itself = read_itself P k.parameters c.requires.takes in
    let is = sym c.in_ok-search.ensures in
    record {
      known = subst (Known P k c.args.last) is (known_start P k c.args.last c.requires.some itself entered);
      low = subst (λ (s : State). AreLowIn P k s.table) is (start_low P c.requires.types k);
    }

pub visit-requires-clause-itself : goal.visit-requires-clause-itself
visit-requires-clause-itself c = λ h t. (c.loop-pc.invariant.known.entered c.in-Some.pc h (subst (λ (T : Table). types_at T c.in-Some.pc ≡ Some h) c.in-Some.ensures.table t)).itself

pub returns-then-not-branch : goal.returns-then-not-branch
returns-then-not-branch c =
    let P = c.args.program.now in
    let k = c.args.method.now in
    let e = c.in-Some.ensures in
    let b = c.if-not-branch.true in
    let v : IsVisit P k c.in-Some.pc c.next.new.self c.visit.new.search false = rw b at c.in_ok-visit.ensures in
    turn_fails P c.requires.types k c.args.last c.in-Some.pc c.loop-pc.search c.next.new.self c.visit.new.search c.loop-pc.invariant.known e.waiting e.inside e.taken e.table v

pub loop-pc-smaller : goal.loop-pc-smaller
loop-pc-smaller c =
    let P = c.args.program.now in
    let k = c.args.method.now in
    let e = c.in-Some.ensures in
    let b = c.if-not-branch.false in
    let v : IsVisit P k c.in-Some.pc c.next.new.self c.visit.new.search true = rw b at c.in_ok-visit.ensures in
    turn_less P c.requires.types k c.args.last c.in-Some.pc c.loop-pc.search c.next.new.self c.visit.new.search c.loop-pc.invariant.known c.loop-pc.invariant.low e.waiting e.inside e.taken e.table v

pub loop-pc-preserved : goal.loop-pc-preserved
loop-pc-preserved c =
    let P = c.args.program.now in
    let k = c.args.method.now in
    let e = c.in-Some.ensures in
    let b = c.if-not-branch.false in
    let v : IsVisit P k c.in-Some.pc c.next.new.self c.visit.new.search true = rw b at c.in_ok-visit.ensures in
    record {
      known = turn_holds P c.requires.types k c.args.last c.in-Some.pc c.loop-pc.search c.next.new.self c.visit.new.search c.loop-pc.invariant.known e.waiting e.inside e.taken e.table v;
      low = turn_low P c.requires.types k c.args.last c.in-Some.pc c.loop-pc.search c.next.new.self c.visit.new.search c.loop-pc.invariant.known c.loop-pc.invariant.low e.waiting e.inside e.taken e.table v;
    }

pub returns : goal.returns
returns c =
    let P = c.args.program.now in
    let k = c.args.method.now in
    let same : c.loop-pc.search.table ≡ c.into_typing.result = sym c.in_default.ensures.table ∙ sym c.into_typing.ensures in
    subst (IsTableUpTo P k c.args.last) same (known_found P k c.args.last c.loop-pc.search c.loop-pc.invariant.known c.in_default.ensures.none)
