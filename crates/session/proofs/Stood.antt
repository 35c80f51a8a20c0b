-- One call more over a pass of a table.
use Rattle.std.proofs.Common.{◌≡◌, ◌≤◌, ◌<◌, ◌+◌, ◌*◌, ℕ, suc, List, [], ◌∷◌, ◌++◌, length, reverse, get_or, append-nil, append_assoc, All, Bool, true, false, inl, inr, ⊎_elim, refl, sym, ◌∙◌, ap, subst, arith}
use Rattle.std.specs.List.{AllByRecursion}
use Rattle.std.proofs.lemmas.Bool.Decides.{nat_tests}
use Rattle.std.proofs.lemmas.List.{reverse-reverse}
use mathlib.Core.Logic.{dite}
use mathlib.Core.Option.{Option, some}
use native.Mathlib.Decide.{ℕ_discrete}
use Rattle.std.proofs.lemmas.List.Elements.{All-append, All-weaker, All-from_recursion}
use Rattle.atomic_table.specs.Seated.{TableId}
use Rattle.objects.specs.semantics.Program.{Program}
use Rattle.objects.specs.rewriting.Attempt.{Log, Bounds}
use Rattle.jmodel.specs.history.History.{Call, Entry, round, used_after}
use Rattle.jmodel.specs.history.Schedule.{Known, call_at}
use Rattle.tx_table.specs.Book.{Book, Lost, Region, Unticked, In, lookup, rises}
use Rattle.tx_table.specs.Rule.{Succeeds, last_of}
use Rattle.machine.specs.declared.room.Room.{Room}
use Rattle.machine.specs.declared.machine.Limits.{Limits}
use Rattle.tx_table.specs.declared.shared.Pass.{Pass}
use Rattle.tx_table.specs.Passes.{book}
use Rattle.tl2.specs.declared.attempt.At.TheVariants.{Outside}
use Rattle.engines.specs.Chosen.{Rests}
use Rattle.tx_table.proofs.MapLaws.{eq_cond, ne_cond}
use Rattle.tl2.specs.Commits.{IsRest}
use Rattle.tl2.specs.Standing.{Awaits, IsEarlier, IsSince, Keeps, Stands, region_since}
use Rattle.tl2.proofs.Updating.{all_in, all_reversed}
use Rattle.tl2.proofs.Waiting.{used_since, after_last, awaits_later, earlier_still, rises_in_lane, made_are, since_here}
use Rattle.session.specs.declared.record.Lane.{Lane}
use Rattle.session.specs.declared.record.Place.{Place}
use Rattle.session.specs.Lane.{Takes, HasMade}
use Rattle.session.specs.Adds.{call_of, AddsSpent, AddsMade, AddsOne, IsEmpty, IsUsedUp}
use Rattle.session.specs.Passes.{IsSeated, MayFollow, MayBegin, IsStarting, behind, IsEnding, bounds_with, HasSpent}
use Rattle.session.proofs.Lanes.{takes_after, lane_empty, call_there, made_more}

-- What an engine stands for, S, is that behind these first entries the calls of a lane made others so far, which are earlier than the next
-- call; there were so many conflicts before.
pub record Stood (S : List Entry → ℕ → Log → Log → Type 0) (first : List Entry) (met : ℕ) (at : Place) (used : ℕ) (calls : List Known) (lane : Lane) : Type 0 where
  pub history : List Entry
  pub conflicts : ℕ
  pub later : met ≤ conflicts
  pub stands : S (first ++ history) conflicts [] []
  pub made : HasMade at used calls history lane
  pub earlier : (c : Known) → All (IsEarlier (call_at at.phase at.lane (at.first + lane.made) c)) history

-- entries of a call of a lane are earlier than the lane's next one
pub earlier_all : (phase lane k n : ℕ) (c d : Known) (h added : List Entry) → n ≡ k + 1 → All (IsEarlier (call_at phase lane k c)) h
    → AllByRecursion (λ (e : Entry). e.call ≡ call_at phase lane k c) added → All (IsEarlier (call_at phase lane n d)) (h ++ added)
earlier_all phase lane k n c d h added next before are =
    let less : k < n = omega arith in
    All-append (IsEarlier (call_at phase lane n d)) h added (earlier_still (call_at phase lane k c) (call_at phase lane n d) h refl refl less before)
    (All-weaker (λ (e : Entry). e.call ≡ call_at phase lane k c) (IsEarlier (call_at phase lane n d))
    (λ e is. (ap (λ (x : Call). x.phase) is, ap (λ (x : Call). x.lane) is, subst (λ (i : ℕ). i < n) (sym (ap (λ (x : Call). x.index) is)) less))
    added (All-from_recursion _ added are))

-- One turn of the loop over the calls.
module _ (S : List Entry → ℕ → Log → Log → Type 0) (room : Room) (at here : Place) (used : ℕ) (calls : List Known) (i : ℕ) (old new : Lane) (c : Known)
    (region : room.region ≡ suc at.lane) (place : here ≡ record at { first = at.first + i }) (count : old.made ≡ i) (less : i < length calls) (is : c ≡ get_or calls i c) where
  pub stood_more : (first h : List Entry) (met n : ℕ) → met ≤ n → HasMade at used calls h old
      → ((d : Known) → All (IsEarlier (call_at at.phase at.lane (at.first + old.made) d)) h)
      → AddsMade (call_of room here c) S (first ++ h) n old new → Stood S first met at used calls new
  stood_more first h met n low made earlier adds =
      let more = adds.later in
      let Of : Call → Type 0 = λ k. AllByRecursion (λ (e : Entry). e.call ≡ k) adds.added in
      let there : call_of room here c ≡ call_at at.phase at.lane (at.first + old.made) c =
      call_there S room at here used calls i old new c region place count less is ∙ ap (λ (j : ℕ). call_at at.phase at.lane (at.first + j) c) (sym count) in
      let later : at.first + new.made ≡ at.first + old.made + 1 = omega (arith, adds.record_is.made) in
      record {
        history = h ++ adds.added;
        conflicts = adds.conflicts;
        later = omega arith;
        stands = subst (λ (l : List Entry). S l adds.conflicts [] []) (append_assoc first h adds.added) adds.stands;
        made = made_more S room at here used calls i old new c region place count less is (first ++ h) h n made adds;
        earlier = λ d. earlier_all at.phase at.lane (at.first + old.made) (at.first + new.made) c d h adds.added later (earlier c) (subst Of there adds.entries);
      }

-- before the first call
pub keeps_first : (began : TableId → Book → Type 0) (t : TableId) (p : Pass) → ((u : TableId) (b : Book) → began u b → (u ≡ t) × (b ≡ book p)) → IsSeated t p
    → Keeps began p
keeps_first began t p only seated = λ u b o.
    let is = only u b o in (
      seated.table ∙ sym is.0,
      subst (λ (c : Book). IsSince c (book p)) (sym is.1) (since_here (book p)),
    )

pub stood_first : (S : List Entry → ℕ → Log → Log → Type 0) (first : List Entry) (at : Place) (used : ℕ) (calls : List Known) (lane : Lane) (n : ℕ) → IsEmpty lane used
    → S first n [] [] → Stood S first n at used calls lane
stood_first S first at used calls lane n empty stands = record {
  history = [];
  conflicts = n;
  later = omega arith;
  stands = subst (λ (l : List Entry). S l n [] []) (sym (append-nil first)) stands;
  made = lane_empty at used calls lane empty;
  earlier = λ c. All-from_recursion _ [] tt;
}

-- what holds of a region, and of what each entry in it leaves, holds of it after them; its used words are those that the last one left
since_keeps : (Q : Region → Type 0) (r : ℕ) (g : Option Region) (used : ℕ) (es : List Entry)
    → ((e : Entry) → In e es → e.call.region ≡ r → Q (record { used = e.used_after; last = some e.call }))
    → (k : Region) × (g ≡ some k) × (k.used ≡ used) × Q k
    → (k : Region) × (region_since g (last_of es r) ≡ some k) × (k.used ≡ used_since used (last_of es r)) × Q k
since_keeps Q r g used [] leaves first = first
since_keeps Q r g used (e ∷ es) leaves first = dite (ℕ_discrete e.call.region r)
    (λ here. (
      record { used = e.used_after; last = some e.call },
      ap (region_since g) (eq_cond e.call.region r (some e) (last_of es r) here),
      sym (ap (used_since used) (eq_cond e.call.region r (some e) (last_of es r) here)),
      leaves e (inl refl) here,
    ))
    (λ other.
    let rest = since_keeps Q r g used es (λ d i. leaves d (inr i)) first in (
      rest.0,
      ap (region_since g) (ne_cond e.call.region r (some e) (last_of es r) other) ∙ rest.1,
      rest.2 ∙ sym (ap (used_since used) (ne_cond e.call.region r (some e) (last_of es r) other)),
      rest.3,
    ))

-- calls of lanes are of the round of their phase
round_of : (c : Call) (lane : ℕ) → c.region ≡ suc lane → round c ≡ c.phase + 1
round_of c lane region = grind (arith, nat_tests)

-- a call of a later phase comes after
rises_later : (a b : Call) (lane : ℕ) → a.region ≡ suc lane → b.region ≡ suc lane → a.phase < b.phase → rises a b ≡ true
rises_later a b lane here there l =
    let first = round_of a lane here in
    let second = round_of b lane there in
    grind (arith, nat_tests)

-- the calls of a lane may go on behind the entries of those before
next_of : (began : TableId → Book → Type 0) (t : TableId) (b : Book) (place : Place) (used made after : ℕ) (p : Pass) (h : List Entry) (n : ℕ)
    → began t b → Rests began p (reverse b.entries ++ h) n → MayBegin place used b → Takes (suc place.lane) used h after
    → ((c : Known) → All (IsEarlier (call_at place.phase place.lane (place.first + made) c)) h) → MayBegin (behind place made) after (book p)
next_of began t b place used made after p h n of stands begins takes earlier =
    let since = made_are b (book p) (reverse b.entries) h (stands.keeps t b of).1 (sym (reverse-reverse b.entries)) stands.entries in
    let es = since.0.made in
    let Q : Region → Type 0 = λ k. MayFollow (behind place made) k.last in
    let any : Known = record { method = 0; args = [] } in
    let all : All (IsEarlier (call_at place.phase place.lane (place.first + made) any)) (reverse es) =
    subst (All (IsEarlier (call_at place.phase place.lane (place.first + made) any))) (sym (ap reverse since.1 ∙ reverse-reverse h)) (earlier any) in
    let each : (e : Entry) → In e es → IsEarlier (call_at place.phase place.lane (place.first + made) any) e =
    λ e i. all_in (IsEarlier (call_at place.phase place.lane (place.first + made) any)) es e
    (all_reversed (IsEarlier (call_at place.phase place.lane (place.first + made) any)) es all) i in
    let leaves : (e : Entry) → In e es → e.call.region ≡ suc place.lane → Q (record { used = e.used_after; last = some e.call }) = λ e i here.
    let k = each e i in
    λ phase index c.
    ⊎_elim
    (λ (l : place.phase < phase).
    rises_later e.call (call_at phase place.lane index c) place.lane here refl (subst (λ (m : ℕ). m < phase) (sym k.0) l))
    (λ (both : (place.phase ≡ phase) × (place.first + made ≤ index)).
    rises_in_lane e.call (call_at phase place.lane index c) here (k.0 ∙ both.0) k.1 (let below = k.2 in let from = both.1 in omega arith)) in
    let last = since_keeps Q (suc place.lane) (lookup b.regions (suc place.lane)) used es leaves (
      record { used = used; last = begins.last },
      begins.region,
      refl,
      λ phase index c later.
          begins.follows phase index c (⊎_elim (λ (l : place.phase < phase). inl l)
          (λ (both : (place.phase ≡ phase) × (place.first + made ≤ index)). inr (both.0, let from = both.1 in omega arith)) later),
    ) in
    let is : lookup (book p).regions (suc place.lane) ≡ some last.0 = since.0.regions (suc place.lane) ∙ last.1 in
    let left : last.0.used ≡ after =
    last.2 ∙ after_last es (suc place.lane) used ∙ ap (λ (g : List Entry). used_after g (suc place.lane) used) (ap reverse since.1 ∙ reverse-reverse h)
    ∙ takes_after (suc place.lane) used after h takes in
    let so : last.0 ≡ record { used = after; last = last.0.last } = λ i. record { used = left i; last = last.0.last } in
    record { last = last.0.last; region = is ∙ ap (λ (k : Region). some k) so; follows = last.3 }

-- an engine that ends leaves its pass with what it kept between calls
pub rests_after : (began : TableId → Book → Type 0) (p q : Pass) (h : List Entry) (n : ℕ) → IsRest [] 0 (book p) (book q) → (Keeps began p → Keeps began q) → Rests began p h n
    → Rests began q h n
rests_after began p q h n rest keeps rests = record {
  entries = rest.entries ∙ rests.entries;
  lost = ap (λ (l : List Lost). length l) rest.lost ∙ rests.lost;
  keeps = keeps rests.keeps;
}

-- and with as many moves of the clock
pub ticks_after : (p q : Pass) (n : ℕ) → IsRest [] 0 (book p) (book q) → (book p).ticks ≤ n → (book q).ticks ≤ n
ticks_after p q n rest few = let same = rest.ticks in omega arith

-- the pass that is given back
pub ending : (began : TableId → Book → Type 0) (t : TableId) (b : Book) (place : Place) (used count made after : ℕ) (q : Pass) (h : List Entry) (n : ℕ)
    → began t b → Rests began q (reverse b.entries ++ h) n → ((book q).face.held ≡ []) × ((book q).face.stage ≡ Unticked)
    → MayBegin place used b → Takes (suc place.lane) used h after → ((c : Known) → All (IsEarlier (call_at place.phase place.lane (place.first + made) c)) h)
    → (book q).ticks ≤ b.ticks + count * 1000000 → IsEnding t b place count made after h q
ending began t b place used count made after q h n of rests free begins takes earlier ticks =
    let k = rests.keeps t b of in
    let since = made_are b (book q) (reverse b.entries) h k.1 (sym (reverse-reverse b.entries)) rests.entries in
    record {
      seated = record { table = k.0; held = free.0; stage = free.1 };
      since = since.0;
      entries = since.1;
      next = next_of began t b place used made after q h n of rests begins takes earlier;
      ticks = ticks;
    }

-- a pass of a lane of whose calls none was made
pub untouched : (t : TableId) (place : Place) (used count any made after : ℕ) (p : Pass) → made ≡ 0 → after ≡ used → IsStarting t place used count p → IsEnding t (book p) place any made after [] p
untouched t place used count any made after p none kept starting =
    let es = (book p).entries in
    let first = reverse es in
    let back : es ≡ reverse first = sym (reverse-reverse es) in
    let same = made_are (book p) (book p) first [] (since_here (book p)) back (back ∙ ap reverse (sym (append-nil first))) in
    record {
      seated = starting.seated;
      since = same.0;
      entries = same.1;
      next = record {
        last = starting.begins.last;
        region = starting.begins.region ∙ ap (λ (u : ℕ). let k : Option Region = some (record { used = u; last = starting.begins.last }) in k) (sym kept);
        follows = λ phase index c later.
            starting.begins.follows phase index c (⊎_elim (λ (l : place.phase < phase). inl l)
            (λ (both : (place.phase ≡ phase) × (place.first + made ≤ index)). inr (both.0, let from = both.1 in omega arith)) later);
      };
      ticks = omega arith;
    }

-- whether a call was made
pub was_made : (made : Bool) (P Q : Program) (B : Bounds) (c : Call) (S : List Entry → ℕ → Log → Log → Type 0) (h : List Entry) (n : ℕ) (old new : Lane) → made ≡ true
    → AddsOne made P Q B c S h n old new → AddsMade c S h n old new
was_made true P Q B c S h n old new is adds = adds
was_made false P Q B c S h n old new is adds = cc

pub was_left : (made : Bool) (P Q : Program) (B : Bounds) (c : Call) (S : List Entry → ℕ → Log → Log → Type 0) (h : List Entry) (n : ℕ) (old new : Lane) → made ≡ false
    → AddsOne made P Q B c S h n old new → (new ≡ old) × AddsSpent P Q B c (S h) n old.used
was_left true P Q B c S h n old new is adds = cc
was_left false P Q B c S h n old new is adds = adds

-- a lane stops at a call that was left out
pub has_spent : (P Q : Program) (limits : Limits) (calls : List Known) (made used : ℕ) (c : Known) (began : TableId → Book → Type 0)
    (b : Book) (q : Pass) (h : List Entry) (n tried : ℕ) → made < length calls → c ≡ get_or calls made c → length b.lost ≤ n
    → IsUsedUp P Q (bounds_with limits used) c.method c.args tried → Rests began q h (n + tried) → HasSpent P Q limits calls made used b q
has_spent P Q limits calls made used c began b q h n tried left next above used_up rests =
    let count = rests.lost in
    record { call = c; left = left; next = next; tried = tried; used_up = used_up; lost = omega (arith, above, count) }

-- a pass that holds every number met no conflict
pub meets_none : (began : TableId → Book → Type 0) (t : TableId) (b : Book) (p : Pass) (h : List Entry) (n : ℕ)
    → began t b → b.numbers ≡ 1048576 → Rests began p h n → n ≡ length b.lost
meets_none began t b p h n of whole rests = sym rests.lost ∙ ap (λ (l : List Lost). length l) ((rests.keeps t b of).1.lost whole)

-- what any engine keeps between calls is what one keeps that has read and written nothing
stands_outside : (began : TableId → Book → Type 0) (p : Pass) (h : List Entry) (n : ℕ) → Rests began p h n → Stands began 0 Outside [] p h n [] []
stands_outside began p h n rests = record {
  entries = rests.entries;
  lost = rests.lost;
  reads = λ inside. absurd (inside refl);
  writes = refl;
  within = All-from_recursion _ [] tt;
  bound = λ inside. absurd (inside refl);
  keeps = rests.keeps;
}

-- behind the entries of its lane's calls an engine awaits the next one
pub awaits_next : (began : TableId → Book → Type 0) (t : TableId) (b : Book) (room : Room) (place here : Place) (used made i after : ℕ) (p : Pass)
    (h : List Entry) (n : ℕ) (c : Known) (named : Call)
    → began t b → Rests began p (reverse b.entries ++ h) n → MayBegin place used b → Takes (suc place.lane) used h after → room.region ≡ suc place.lane
    → here ≡ record place { first = place.first + i } → made ≡ i
    → call_of room here c ≡ named → ((d : Known) → All (IsEarlier (call_at place.phase place.lane (place.first + made) d)) h)
    → Awaits named (book p) (call_of room here c) after
awaits_next began t b room place here used made i after p h n c named of rests start takes region is count told earlier =
    let there : call_at place.phase place.lane (place.first + made) c ≡ call_of room here c =
    ap (λ (j : ℕ). call_at place.phase place.lane (place.first + j) c) count ∙ sym (λ j. record { phase = (is j).phase; lane = (is j).lane; index = (is j).first; method = c.method; args = c.args; region = region j }) in
    let own : lookup b.regions room.region ≡ some (record { used = used; last = start.last }) = ap (lookup b.regions) region ∙ start.region in
    let lane : suc place.lane ≡ suc here.lane = ap (λ (q : Place). suc q.lane) (sym is) in
    let next : Succeeds (call_of room here c) start.last =
    subst (λ (k : Call). Succeeds k start.last) there (start.follows place.phase (place.first + made) c (inr (refl, omega arith))) in
    let later = awaits_later {words = 0} {at = Outside} {kept = []} {p = p} (reverse b.entries) h named (call_of room here c) t b (record { used = used; last = start.last })
    (stands_outside began p (reverse b.entries ++ h) n rests) told (inr (region ∙ lane)) of (sym (reverse-reverse b.entries)) own next (subst (λ (k : Call). All (IsEarlier k) h) there (earlier c)) in
    let left : used_after h room.region used ≡ after = ap (λ (r : ℕ). used_after h r used) region ∙ takes_after (suc place.lane) used after h takes in
    subst (Awaits named (book p) (call_of room here c)) left later
