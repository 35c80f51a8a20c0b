-- What an engine stands for between calls says that a lane's next call may come.
use Rattle.std.proofs.Common.{◌≡◌, ◌<◌, ◌+◌, ℕ, true, cond, List, [], ◌∷◌, ◌++◌, All, reverse, refl, sym, ap, ◌∙◌, subst, arith}
use Rattle.std.specs.Prelude.{nat_eq, nat_lt}
use Rattle.std.specs.List.{AllByRecursion}
use Rattle.std.proofs.lemmas.Bool.{lt-ltb}
use Rattle.std.proofs.lemmas.List.{reverse-reverse, reverse-append, append_cancel_right}
use Rattle.std.proofs.lemmas.List.Elements.{All-push, All-weaker, recursion_from_All}
use mathlib.Core.Logic.{dite}
use mathlib.Core.Option.{Option, some, none}
use native.Mathlib.Decide.{ℕ_discrete}
use Rattle.atomic_table.specs.Seated.{TableId}
use Rattle.jmodel.specs.declared.access.Access.{Access}
use Rattle.jmodel.specs.history.Log.{Log}
use Rattle.jmodel.specs.history.History.{Call, Entry, round, first_by, used_after}
use Rattle.tx_table.specs.Book.{Book, Region, lookup, rises, IsOfLane}
use Rattle.tx_table.specs.Rule.{Succeeds, last_of, region_after}
use Rattle.tx_table.specs.declared.shared.Pass.{Pass}
use Rattle.tx_table.specs.Passes.{book}
use Rattle.tx_table.proofs.MapLaws.{eq_cond, ne_cond}
use Rattle.tx_table.proofs.Order.{first_same}
use Rattle.tx_table.proofs.Histories.{oldest, used_is}
use Rattle.tl2.specs.declared.attempt.At.{At}
use Rattle.tl2.specs.Standing.{Awaits, IsBefore, IsEarlier, IsSince, Stands, region_since}
use Rattle.tl2.proofs.Members.{all_reversed}

-- of two calls of one lane and phase that with the lower index comes first
pub rises_in_lane : (a b : Call) → a.region ≡ b.region → a.phase ≡ b.phase → a.lane ≡ b.lane → a.index < b.index → rises a b ≡ true
rises_in_lane a b region phase lane l =
    let rounds : round a ≡ round b = λ i. let k : ℕ = cond (nat_eq (region i) 0) 0 (phase i + 1) in k in
    first_same (round a) (round b) (first_by a.lane b.lane (nat_lt a.index b.index)) rounds
    ∙ first_same a.lane b.lane (nat_lt a.index b.index) lane ∙ lt-ltb a.index b.index l

pub earlier_before : (c : Call) (e : Entry) → IsEarlier c e → IsBefore c e
earlier_before c e k same = rises_in_lane e.call c same k.0 k.1 k.2

-- the used words of a region after its last entry
abbrev pub used_since : ℕ → Option Entry → ℕ
used_since used none = used
used_since used (some e) = e.used_after

-- so many words of a region are used, and a call may come next in it
abbrev IsReady : Call → ℕ → Option Region → Type 0
IsReady c used g = (k : Region) × (g ≡ some k) × (k.used ≡ used) × Succeeds c k.last

ready : (c : Call) (used : ℕ) (g : Option Region) (es : List Entry) → IsReady c used g → AllByRecursion (IsBefore c) es
    → IsReady c (used_since used (last_of es c.region)) (region_since g (last_of es c.region))
ready c used g [] free all = free
ready c used g (e ∷ es) free all = dite (ℕ_discrete e.call.region c.region)
    (λ here.
    subst (λ (z : Option Entry). IsReady c (used_since used z) (region_since g z)) (sym (eq_cond e.call.region c.region (some e) (last_of es c.region) here))
    (record { used = e.used_after; last = some e.call }, refl, refl, all.0 here))
    (λ not.
    subst (λ (z : Option Entry). IsReady c (used_since used z) (region_since g z)) (sym (ne_cond e.call.region c.region (some e) (last_of es c.region) not))
    (ready c used g es free all.1))

oldest_reverse : (es : List Entry) → oldest es ≡ reverse es
oldest_reverse [] = refl
oldest_reverse (e ∷ es) = ap (λ (h : List Entry). h ++ e ∷ []) (oldest_reverse es) ∙ sym (reverse-append (e ∷ []) es)

-- the used words after entries, the newest first, are those that the last of the region left
pub after_last : (es : List Entry) (r used : ℕ) → used_since used (last_of es r) ≡ used_after (reverse es) r used
after_last es r used = by (last_of es r) (ap (λ (h : List Entry). used_after h r used) (sym (oldest_reverse es)) ∙ used_is es r used)
  where
    by : (z : Option Entry) → used_after (reverse es) r used ≡ (region_after used z).used → used_since used z ≡ used_after (reverse es) r used
    by none e = sym e
    by (some d) e = sym e

-- The entries that a pass made since its book was b are the ones behind those of b.
pub made_are : (b v : Book) (first h : List Entry) → IsSince b v → b.entries ≡ reverse first → v.entries ≡ reverse (first ++ h) → (s : IsSince b v) × (s.made ≡ reverse h)
made_are b v first h s before all =
    let both : s.made ++ reverse first ≡ reverse h ++ reverse first =
    ap (λ (es : List Entry). s.made ++ es) (sym before) ∙ sym s.entries ∙ all ∙ reverse-append first h in
    (s, append_cancel_right s.made (reverse h) (reverse first) both)

-- a book as it was
pub since_here : (b : Book) → IsSince b b
since_here b = record {
  numbers = refl;
  fresh = refl;
  seen = omega arith;
  made = [];
  entries = refl;
  behind = λ e i. absurd i;
  known = λ e i. absurd i;
  regions = λ r. refl;
  lost = λ whole. refl;
}

-- The call c that the engine was told may come next, where all entries since the book was b are before it, of its lane and phase, and so was
-- the last one of its region then. The used words of that are those that these entries left.
pub awaits_later : {began : TableId → Book → Type 0} {words : ℕ} {at : At} {kept : List Access} {p : Pass} {n : ℕ}
    {r w : Log} (first h : List Entry) (named c : Call) (t : TableId) (b : Book) (g : Region)
    → Stands began words at kept p (first ++ h) n r w → c ≡ named → IsOfLane c → began t b → b.entries ≡ reverse first → lookup b.regions c.region ≡ some g
    → Succeeds c g.last → All (IsEarlier c) h → Awaits named (book p) c (used_after h c.region g.used)
awaits_later {p = p} first h named c t b g s told lane of before region next all =
    let since = made_are b (book p) first h (s.keeps t b of).1 before s.entries in
    let made = since.0.made in
    let turned : reverse made ≡ h = ap reverse since.1 ∙ reverse-reverse h in
    let earlier : All (IsBefore c) made =
    all_reversed (IsBefore c) made (subst (All (IsBefore c)) (sym turned) (All-weaker (IsEarlier c) (IsBefore c) (earlier_before c) h all)) in
    let last = ready c g.used (lookup b.regions c.region) made (g, region, refl, next) (recursion_from_All (IsBefore c) made earlier) in
    let used : used_since g.used (last_of made c.region) ≡ used_after h c.region g.used =
    after_last made c.region g.used ∙ ap (λ (es : List Entry). used_after es c.region g.used) turned in
    (told, lane, (last.0, since.0.regions c.region ∙ last.1, last.2 ∙ used, last.3))

-- what is earlier than a call is earlier than one behind it in the lane
pub earlier_still : (c d : Call) (h : List Entry) → d.phase ≡ c.phase → d.lane ≡ c.lane → c.index < d.index → All (IsEarlier c) h → All (IsEarlier d) h
earlier_still c d h phase lane l all = All-weaker (IsEarlier c) (IsEarlier d) (λ e k. let m = k.2 in (k.0 ∙ sym phase, k.1 ∙ sym lane, omega arith)) h all

-- and so is the call's own entry
pub earlier_more : (c d : Call) (h : List Entry) (e : Entry) → d.phase ≡ c.phase → d.lane ≡ c.lane → c.index < d.index → e.call ≡ c
    → All (IsEarlier c) h → All (IsEarlier d) (h ++ e ∷ [])
earlier_more c d h e phase lane l same all =
    let here : IsEarlier d e = (ap (λ (k : Call). k.phase) same ∙ sym phase, ap (λ (k : Call). k.lane) same ∙ sym lane, subst (λ (k : Call). k.index < d.index) (sym same) l) in
    All-push (IsEarlier d) h e (earlier_still c d h phase lane l all) here
