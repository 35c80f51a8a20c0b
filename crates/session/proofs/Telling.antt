-- What gates are told, call by call.
use Rattle.std.proofs.Common.{◌≡◌, ◌+◌, ◌<◌, ℕ, zero, suc, List, [], ◌∷◌, ◌++◌, length, map, Bool, true, false, Option, Some, refl, sym, ◌∙◌, ap, subst, append_assoc, append-nil, get_or}
use Rattle.std.specs.Prelude.{filter, slice_get, not}
use Rattle.std.proofs.lemmas.Option.{slice_get_read}
use Rattle.jmodel.specs.declared.value.Value.{Value}
use Rattle.jmodel.specs.declared.value.Answer.{Answer}
use Rattle.jmodel.specs.declared.value.Answer.TheVariants.{Returned, Threw, Budget, Depth, Heap, Spent, NoMemory}
use Rattle.jmodel.specs.history.History.{Call, Entry}
use Rattle.jmodel.specs.history.Schedule.{Known, is_memory}
use Rattle.objects.specs.declared.event.Event.{Event}
use Rattle.objects.specs.semantics.Program.{Program}
use Rattle.objects.specs.rewriting.Attempt.{Log, Bounds}
use Rattle.objects.specs.rewriting.Events.{AreOpen, Grows}
use Rattle.machine.specs.declared.machine.End.{End}
use Rattle.machine.specs.Telling.{TellsNone, TellsEntry, TellsBy}
use Rattle.machine.proofs.Ways.{grows_trans, grows_same, open_append}
use Rattle.session.specs.declared.record.Record.{Record}
use Rattle.session.specs.declared.record.Lane.{Lane}
use Rattle.session.specs.declared.record.Place.{Place}
use Rattle.session.specs.Adds.{is_spent, has_place}
use Rattle.session.specs.Telling.{TellsRun, TellsCall, TellsEach, IsRecordOf, TellsRecord, HasTold, TellsMade, TellsLost, TellsOne}

-- events of no entry before others
pub open_each : {X : Type 0} → (E : X → List Event → Type 0) → (xs : List X) → (es fs : List Event) → AreOpen es → TellsEach E xs fs → TellsEach E xs (es ++ fs)
open_each E [] es fs none each = open_append es fs none each
open_each E (x ∷ xs) es fs none each =
    (es ++ each.0, each.1, each.2, open_append es each.0 none each.3, each.4, each.5, ap (λ (l : List Event). es ++ l) each.6 ∙ sym (append_assoc es (each.0 ++ each.1) each.2) ∙ ap (λ (l : List Event). l ++ each.2) (sym (append_assoc es each.0 each.1)))

pub each_append : {X : Type 0} → (E : X → List Event → Type 0) → (xs ys : List X) → (es fs : List Event) → TellsEach E xs es → TellsEach E ys fs → TellsEach E (xs ++ ys) (es ++ fs)
each_append E [] ys es fs first more = open_each E ys es fs first more
each_append E (x ∷ xs) ys es fs first more = (
  first.0,
  first.1,
  first.2 ++ fs,
  first.3,
  first.4,
  each_append E xs ys first.2 fs first.5 more,
  ap (λ (l : List Event). l ++ fs) first.6 ∙ append_assoc (first.0 ++ first.1) first.2 fs,
)

pub each_map : {X Y : Type 0} → (E : X → List Event → Type 0) → (F : Y → List Event → Type 0) → (f : X → Y) → ((x : X) (es : List Event) → E x es → F (f x) es) → (xs : List X) → (es : List Event)
    → TellsEach E xs es → TellsEach F (map f xs) es
each_map E F f more [] es each = each
each_map E F f more (x ∷ xs) es each = (each.0, each.1, each.2, each.3, more x each.1 each.4, each_map E F f more xs each.2 each.5, each.6)

-- what the machine tells of a call
module _ (Q : Program) (B : Bounds) (k : Call) (S : List Entry → ℕ → Log → Log → Type 0) (h : List Entry) (n : ℕ) (T : List Event → Type 0) (e : End) where
  entry_told : TellsEntry Q B k S h n T e → (es : List Event) × TellsRun Q B k.method k.args e.answer es × T es
  entry_told t = (t.events, record { after = e.used; writes = t.writes; reads = t.reads; tells = t.tells }, t.told)

  none_told : TellsNone T → (es : List Event) × AreOpen es × T es
  none_told t = (t.events, t.no_entry, t.told)

  call_by : (x : Answer) → e.answer ≡ x → TellsBy x Q B k S h n T e → (es : List Event) × TellsCall x Q B k.method k.args es × T es
  call_by (Returned v) is t = subst (λ (x : Answer). (es : List Event) × TellsRun Q B k.method k.args x es × T es) is (entry_told t)
  call_by (Threw class) is t = subst (λ (x : Answer). (es : List Event) × TellsRun Q B k.method k.args x es × T es) is (entry_told t)
  call_by Budget is t = subst (λ (x : Answer). (es : List Event) × TellsRun Q B k.method k.args x es × T es) is (entry_told t)
  call_by Depth is t = subst (λ (x : Answer). (es : List Event) × TellsRun Q B k.method k.args x es × T es) is (entry_told t)
  call_by (Heap u w s) is t = subst (λ (x : Answer). (es : List Event) × TellsRun Q B k.method k.args x es × T es) is (entry_told t)
  call_by Spent is t = none_told t
  call_by NoMemory is t = none_told t

  pub call_told : TellsBy e.answer Q B k S h n T e → (es : List Event) × TellsCall e.answer Q B k.method k.args es × T es
  call_told t = call_by e.answer refl t

-- a call that isn't spent tells of its record, where that has a place
module _ (Q : Program) (B : Bounds) (C : Record → Known → Type 0) (r : Record) (c : Known) (used : ℕ) (is_of : C r c) where
  abbrev E : Record → List Event → Type 0
  E = TellsRecord Q B C

  placed_each : (es : List Event) → TellsRun Q (record B { used = used }) c.method c.args r.answer es → TellsEach E (r ∷ []) es
  placed_each es run = ([], es, [], tt, record { call = c; is_of = is_of; before = used; run = run }, tt, sym (append-nil es))

  kept_alone : (p : Record → Bool) → p r ≡ true → filter p (r ∷ []) ≡ r ∷ []
  kept_alone p is = rw is refl

  dropped_alone : (p : Record → Bool) → p r ≡ false → filter p (r ∷ []) ≡ []
  dropped_alone p is = rw is refl

  abbrev Own : List Event → Answer → Type 0
  Own es x = TellsRun Q (record B { used = used }) c.method c.args x es

  placed_so : (x : Answer) → r.answer ≡ x → is_memory x ≡ false → (es : List Event) → Own es x → TellsEach E (filter has_place (r ∷ [])) es
  placed_so x is some es t =
      let kept : has_place r ≡ true = ap not (ap is_memory is ∙ some) in
      subst (λ (rs : List Record). TellsEach E rs es) (sym (kept_alone has_place kept)) (placed_each es (subst (Own es) (sym is) t))

  by_answer : (x : Answer) → r.answer ≡ x → is_spent x ≡ false → (es : List Event) → TellsCall x Q (record B { used = used }) c.method c.args es → TellsEach E (filter has_place (r ∷ [])) es
  by_answer (Returned v) is un es t = placed_so (Returned v) is refl es t
  by_answer (Threw class) is un es t = placed_so (Threw class) is refl es t
  by_answer Budget is un es t = placed_so Budget is refl es t
  by_answer Depth is un es t = placed_so Depth is refl es t
  by_answer (Heap u w s) is un es t = placed_so (Heap u w s) is refl es t
  by_answer Spent is un es t = cc
  by_answer NoMemory is un es t =
      let kept : has_place r ≡ false = ap not (ap is_memory is) in
      subst (λ (rs : List Record). TellsEach E rs es) (sym (dropped_alone has_place kept)) t

  pub one_each : is_spent r.answer ≡ false → (es : List Event) → TellsCall r.answer Q (record B { used = used }) c.method c.args es → TellsEach E (filter has_place (r ∷ [])) es
  one_each un es t = by_answer r.answer refl un es t

pub spent_open : (Q : Program) (B : Bounds) (m : ℕ) (args : List Value) (x : Answer) → is_spent x ≡ true → (es : List Event) → TellsCall x Q B m args es → AreOpen es
spent_open Q B m args (Returned v) is es t = cc
spent_open Q B m args (Threw class) is es t = cc
spent_open Q B m args Budget is es t = cc
spent_open Q B m args Depth is es t = cc
spent_open Q B m args (Heap u w s) is es t = cc
spent_open Q B m args Spent is es t = t
spent_open Q B m args NoMemory is es t = cc

pub each_weaker : {X : Type 0} → (E F : X → List Event → Type 0) → ((x : X) (es : List Event) → E x es → F x es) → (xs : List X) → (es : List Event) → TellsEach E xs es → TellsEach F xs es
each_weaker E F more [] es each = each
each_weaker E F more (x ∷ xs) es each = (each.0, each.1, each.2, each.3, more x each.1 each.4, each_weaker E F more xs each.2 each.5, each.6)

-- what the records are of may be said in a weaker form
pub told_weaker : (Q : Program) (B : Bounds) (C D : Record → Known → Type 0) → ((r : Record) (c : Known) → C r c → D r c) → (placed : List Record) (T : List Event → Type 0)
    → HasTold Q B C placed T → HasTold Q B D placed T
told_weaker Q B C D more placed T has = record {
  events = has.events;
  tells =
      each_weaker (TellsRecord Q B C) (TellsRecord Q B D) (λ r es t. record { call = t.call; is_of = more r t.call t.is_of; before = t.before; run = t.run }) placed has.events has.tells;
  told = has.told;
}

module _ (Q : Program) (B : Bounds) (C : Record → Known → Type 0) where
  -- before the first call
  pub told_first : (placed : List Record) (a : Option (List Event)) → placed ≡ [] → HasTold Q B C placed (Grows a a)
  told_first placed a none = record { events = []; tells = subst (λ (rs : List Record). TellsEach (TellsRecord Q B C) rs []) (sym none) tt; told = grows_same a }

  -- events of records behind others
  pub told_append : (old more : List Record) (a b c : Option (List Event)) → HasTold Q B C old (Grows a b) → HasTold Q B C more (Grows b c) → HasTold Q B C (old ++ more) (Grows a c)
  told_append old more a b c first next = record {
    events = first.events ++ next.events;
    tells = each_append (TellsRecord Q B C) old more first.events next.events first.tells next.tells;
    told = grows_trans a b c first.events next.events first.told next.told;
  }

  pub told_lost : (old : List Record) (a b c : Option (List Event)) → HasTold Q B C old (Grows a b) → TellsLost (Grows b c) → HasTold Q B C old (Grows a c)
  told_lost old a b c first lost =
      subst (λ (rs : List Record). HasTold Q B C rs (Grows a c)) (append-nil old)
      (told_append old [] a b c first (record { events = lost.events; tells = lost.no_entry; told = lost.told }))

  -- the record of a call that was made stands behind others
  pub told_more : (used : ℕ) (here : Place) (c : Known) (old new : Lane) (x y z : Option (List Event)) → HasTold Q B C old.placed.items (Grows x y)
      → (made : TellsMade Q (record B { used = used }) here c old new (Grows y z)) → C made.one c → HasTold Q B C new.placed.items (Grows x z)
  told_more used here c old new x y z first made is_of =
      let own : HasTold Q B C (filter has_place (made.one ∷ [])) (Grows y z) = record {
        events = made.events;
        tells = one_each Q B C made.one c used is_of made.unspent made.events made.tells;
        told = made.told;
      } in
      subst (λ (rs : List Record). HasTold Q B C rs (Grows x z)) (sym made.placed) (told_append old.placed.items (filter has_place (made.one ∷ [])) x y z first own)

-- the record of the call at a place is of that call
pub record_here : (at here : Place) (calls : List Known) (i : ℕ) (c : Known) (r : Record) → here ≡ record at { first = at.first + i } → i < length calls → c ≡ get_or calls i c
    → r.phase ≡ here.phase → r.lane ≡ here.lane → r.index ≡ here.first → IsRecordOf at calls r c
record_here at here calls i c r place less is phase lane index = record {
  phase = phase ∙ ap (λ (p : Place). p.phase) place;
  lane = lane ∙ ap (λ (p : Place). p.lane) place;
  count = i;
  index = index ∙ ap (λ (p : Place). p.first) place;
  there = slice_get_read calls (length calls) i c refl less is;
}

got_before : {A : Type 0} → (xs ys : List A) (i : ℕ) (x : A) → slice_get xs i ≡ Some x → slice_get (xs ++ ys) i ≡ Some x
got_before [] ys i x h = cc
got_before (y ∷ xs) ys zero x h = h
got_before (y ∷ xs) ys (suc i) x h = got_before xs ys i x h

-- a record is of the call with others behind, too
pub record_longer : (at : Place) (cs ds es : List Known) → es ≡ cs ++ ds → (r : Record) (c : Known) → IsRecordOf at cs r c → IsRecordOf at es r c
record_longer at cs ds es are r c is = record {
  phase = is.phase;
  lane = is.lane;
  count = is.count;
  index = is.index;
  there = subst (λ (l : List Known). slice_get l is.count ≡ Some c) (sym are) (got_before cs ds is.count c is.there);
}

pub was_told : (b : Bool) (Q : Program) (B : Bounds) (at : Place) (c : Known) (old new : Lane) (T : List Event → Type 0) → b ≡ true → TellsOne b Q B at c old new T → TellsMade Q B at c old new T
was_told true Q B at c old new T is t = t
was_told false Q B at c old new T is t = cc

pub was_lost : (b : Bool) (Q : Program) (B : Bounds) (at : Place) (c : Known) (old new : Lane) (T : List Event → Type 0) → b ≡ false → TellsOne b Q B at c old new T → TellsLost T
was_lost true Q B at c old new T is t = cc
was_lost false Q B at c old new T is t = t
