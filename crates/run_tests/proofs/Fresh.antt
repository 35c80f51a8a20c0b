-- The first call of a lane's session.
use Rattle.std.proofs.Common.{◌≡◌, ◌<◌, ℕ, suc, List, length, get_or, inr, refl, sym, ◌∙◌, ap, subst, arith}
use Rattle.atomic_table.specs.Seated.{TableId}
use Rattle.jmodel.specs.history.History.{Call}
use Rattle.jmodel.specs.history.Schedule.{Known}
use Rattle.tx_table.specs.Book.{Book}
use Rattle.tx_table.specs.Passes.{book}
use Rattle.tl2.specs.Standing.{Awaits}
use Rattle.machine.specs.declared.room.Room.{Room}
use Rattle.session.specs.declared.record.Place.{Place}
use Rattle.session.specs.Adds.{call_of}
use Rattle.driver.specs.declared.table.Start.{Start}
use Rattle.driver.specs.Passing.{used_of, first_of, MayGoOn, IsOfOne, AreStarting}

-- a call goes by its room's region
pub call_in : (r s : Room) (at : Place) (c : Known) → r.region ≡ s.region → call_of r at c ≡ call_of s at c
call_in r s at c e = ap (λ (k : ℕ). let d : Call = record { phase = at.phase; lane = at.lane; index = at.first; method = c.method; args = c.args; region = k } in d) e

-- it is awaited over a pass that its lane may begin with
pub awaits_first : (named c : Call) (b : Book) (lane used taken size : ℕ) (call : Known) → c ≡ named → c ≡ call_of (record { region = suc lane; size = size; used = taken }) (first_of 0 lane) call
    → used ≡ used_of b lane → MayGoOn (first_of 0 lane) b → Awaits named b c used
awaits_first named c b lane used taken size call same is kept goes =
    (same, rw is (inr refl), (record { used = used_of b lane; last = goes.last }, rw is goes.region, sym kept, rw is (goes.follows 0 0 call (inr (refl, omega arith)))))

-- what is known of one of the lanes that start
pub start_of : (t : TableId) (seen i : ℕ) (starts : List Start) (s : Start) → AreStarting t seen 0 starts → i < length starts → s ≡ get_or starts i s
    → (s.lane ≡ i) × (s.used ≡ used_of (book s.pass) s.lane) × IsOfOne t (book s.pass).seen (first_of 0 s.lane) s.pass
start_of t seen i starts s are low is =
    let k = are i s low in
    let lane : s.lane ≡ i = ap (λ (x : Start). x.lane) is ∙ k.0 in
    let used : s.used ≡ used_of (book s.pass) i = subst (λ (x : Start). x.used ≡ used_of (book x.pass) i) (sym is) k.1 in
    let one : IsOfOne t seen (first_of 0 i) s.pass = subst (λ (x : Start). IsOfOne t seen (first_of 0 i) x.pass) (sym is) k.2 in (
      lane,
      subst (λ (n : ℕ). s.used ≡ used_of (book s.pass) n) (sym lane) used,
      subst (λ (n : ℕ). IsOfOne t (book s.pass).seen (first_of 0 n) s.pass) (sym lane) (subst (λ (n : ℕ). IsOfOne t n (first_of 0 i) s.pass) (sym one.seen_is) one),
    )
