-- A plan's parts, one write or read more.
use Rattle.std.proofs.Common.{◌≡◌, ◌≢◌, ◌⊎◌, inl, inr, ◌<◌, ◌+◌, ◌%◌, ◌==◌, ◌||◌, ℕ, Bool, true, false, not, cond, Option, Some, None, List, [], ◌∷◌, ◌++◌, All, length, map, filter, nat_eq, slice_index, take, option_map, is_some, is_none, refl, sym, ap, ◌∙◌, ⊎_elim, subst, eq-eqb, ne_eqb}
use Rattle.std.specs.Cmp.{nat_cmp_total}
use Rattle.std.specs.Option.{IsSome}
use Rattle.std.specs.List.Sorted.{IsStrictlyIncreasing}
use Rattle.std.specs.Map.{lookup, keys_of, values_of}
use Rattle.std.specs.Ordering.{nat_cmp}
use Rattle.std.specs.BTreeMap.{BTreeMap, IsOrdered, get, is_at}
use mathlib.Core.Logic.{dite}
use native.Mathlib.Decide.{ℕ_discrete}
use Rattle.std.proofs.Math.Bool.{or-true, or-false}
use Rattle.std.proofs.lemmas.List.{append-nil, take_more}
use Rattle.std.proofs.lemmas.List.Folds.{list_any-append}
use Rattle.std.proofs.lemmas.List.Elements.{All-head, All-tail, All-map, All-weaker, filter_agree, filter_more}
use Rattle.std.proofs.lemmas.Map.Keys.{IsStrictlyIncreasing-from_sorted}
use Rattle.std.proofs.lemmas.Map.Views.{All-found}
use Rattle.jmodel.specs.history.Log.{Log, written}
use Rattle.tx_table.specs.Book.{Map, Has, pairs}
use Rattle.tx_table.proofs.MapLaws.{lookup_here}
use Rattle.tl2.specs.declared.plan.Stripe.{Stripe}
use Rattle.tl2.specs.Plans.{addresses_of, marked, number_of, touches, IsPlan, IsWritten}
use Rattle.tl2.proofs.Keys.{at_same, at_here, by_bool}
use Rattle.tl2.proofs.Latest.{entries_same}
use Rattle.tl2.proofs.Listed.{has_cases, has_more}

-- The stripes of the words due that are no longer left, by their numbers.
pub record IsWriting (due left : Map ℕ) (stripes : BTreeMap ℕ Stripe) : Type 0 where
  pub only : (n : ℕ) (s : Stripe) → get nat_cmp stripes n ≡ Some s → (number_of s ≡ n) × Has due s.address × (s.was_read ≡ false)
  pub each : (a : ℕ) → Has due a → Has left a ⊎ IsSome (get nat_cmp stripes (a % 4096))
  pub inside : (a : ℕ) → Has left a → Has due a

-- all are left
pub writing_first : (w : Log) (es : Map ℕ) → ((a : ℕ) → lookup (nat_eq a) es ≡ written w a) → (m : BTreeMap ℕ Stripe) → m.entries ≡ [] → IsWriting (pairs w) es m
writing_first w es words m empty = record {
  only = λ n s e. let gone : get nat_cmp m n ≡ None = ap (lookup (is_at (nat_cmp n))) empty in let no : ⊥ = cc (sym gone ∙ e) in absurd no;
  each = λ a h. inl (h.0, sym (entries_same w es words a) ∙ h.1);
  inside = λ a h. (h.0, entries_same w es words a ∙ h.1);
}

-- one address more
pub writing_more : (due left : Map ℕ) (m n : BTreeMap ℕ Stripe) (s : Stripe) (x : ℕ) → s.was_read ≡ false → ((q : ℕ) → get nat_cmp n q ≡ cond (is_at (nat_cmp (number_of s)) q) (Some s) (get nat_cmp m q))
    → IsWriting due ((s.address, x) ∷ left) m → IsWriting due left n
writing_more due left m n s x unread up o = record {
  only = λ q t e. by_bool (is_at (nat_cmp (number_of s)) q)
      (λ y. let here : Some s ≡ Some t = sym (up q ∙ at q y) ∙ e in
      let same : s ≡ t = cc in
      subst (λ (u : Stripe). (number_of u ≡ q) × Has due u.address × (u.was_read ≡ false)) same (at_same (number_of s) q y, o.inside s.address (x, lookup_here left s.address x), unread))
      (λ f. o.only q t (sym (up q ∙ off q f) ∙ e));
  each = λ a h. ⊎_elim (λ (k : Has ((s.address, x) ∷ left) a). ⊎_elim (λ (e : s.address ≡ a). inr (here a e)) (λ (j : Has left a). inl j) (has_cases left s.address x a k))
      (λ (k : IsSome (get nat_cmp m (a % 4096))). inr (still a k)) (o.each a h);
  inside = λ a h. o.inside a (has_more left s.address x a h);
}
  where
    at : (q : ℕ) → is_at (nat_cmp (number_of s)) q ≡ true → cond (is_at (nat_cmp (number_of s)) q) (Some s) (get nat_cmp m q) ≡ Some s
    at q y = ap (λ (b : Bool). cond b (Some s) (get nat_cmp m q)) y

    off : (q : ℕ) → is_at (nat_cmp (number_of s)) q ≡ false → cond (is_at (nat_cmp (number_of s)) q) (Some s) (get nat_cmp m q) ≡ get nat_cmp m q
    off q f = ap (λ (b : Bool). cond b (Some s) (get nat_cmp m q)) f

    here : (a : ℕ) → s.address ≡ a → IsSome (get nat_cmp n (a % 4096))
    here a e = ap is_some (up (a % 4096) ∙ at (a % 4096) (ap (λ (b : ℕ). is_at (nat_cmp (number_of s)) (b % 4096)) (sym e) ∙ at_here (number_of s)))

    still : (a : ℕ) → IsSome (get nat_cmp m (a % 4096)) → IsSome (get nat_cmp n (a % 4096))
    still a k = by_bool (is_at (nat_cmp (number_of s)) (a % 4096))
        (λ y. ap is_some (up (a % 4096) ∙ at (a % 4096) y))
        (λ f. ap is_some (up (a % 4096) ∙ off (a % 4096) f) ∙ k)

-- none is left
pub writing_done : (due : Map ℕ) (m : BTreeMap ℕ Stripe) → IsWriting due [] m → IsWritten due m
writing_done due m o = record {
  only = o.only;
  each = λ a h. ⊎_elim (λ (k : Has [] a). let no : ⊥ = cc k.1 in absurd no) (λ (k : IsSome (get nat_cmp m (a % 4096))). k) (o.each a h);
}

-- An entry of the map of a plan's stripes.
record Suits (due : Map ℕ) (reads : List ℕ) (e : ℕ × Stripe) : Type 0 where
  number : number_of e.1 ≡ e.0
  due_there : Has due e.1.address
  read : e.1.was_read ≡ touches reads e.0

marked_from : (reads : List ℕ) (n : ℕ) (o : Option Stripe) (t : Stripe) → option_map (marked reads n) o ≡ Some t → (s : Stripe) × (o ≡ Some s) × (marked reads n s ≡ t)
marked_from reads n None t e = let no : ⊥ = cc e in absurd no
marked_from reads n (Some s) t e = (s, refl, cc)

some_mapped : (f : Stripe → Stripe) (o : Option Stripe) → is_some (option_map f o) ≡ is_some o
some_mapped f None = refl
some_mapped f (Some s) = refl

none_mapped : (f : Stripe → Stripe) (o : Option Stripe) → option_map f o ≡ None → o ≡ None
none_mapped f None e = refl
none_mapped f (Some s) e = let no : ⊥ = cc e in absurd no

-- one read more, where the stripes of the earlier ones are marked
module _ (reads : List ℕ) (i : ℕ) (l : i < length reads) (first old : BTreeMap ℕ Stripe) (marks : (n : ℕ) → get nat_cmp old n ≡ option_map (marked (take i reads) n) (get nat_cmp first n)) where
  abbrev number : ℕ
  number = slice_index reads i % 4096

  touches_more : (n : ℕ) → touches (take (i + 1) reads) n ≡ (touches (take i reads) n || (number == n))
  touches_more n =
      ap (λ (xs : List ℕ). touches xs n) (take_more reads i 0 l) ∙ list_any-append (λ a. a % 4096 == n) (take i reads) (slice_index reads i ∷ [])
      ∙ ap (λ (b : Bool). touches (take i reads) n || b) (or-false (number == n))

  marks_same : (n : ℕ) → number ≢ n → get nat_cmp old n ≡ option_map (marked (take (i + 1) reads) n) (get nat_cmp first n)
  marks_same n other =
      let same : touches (take (i + 1) reads) n ≡ touches (take i reads) n = touches_more n ∙ ap (λ (b : Bool). touches (take i reads) n || b) (ne_eqb number n other) ∙ or-false (touches (take i reads) n) in
      marks n ∙ ap (λ (b : Bool). option_map (λ (s : Stripe). record s { was_read = s.was_read || b }) (get nat_cmp first n)) (sym same)

  pub marks_found : (s : Stripe) (new : BTreeMap ℕ Stripe) → get nat_cmp old number ≡ Some s
      → ((q : ℕ) → get nat_cmp new q ≡ cond (is_at (nat_cmp number) q) (Some (record s { was_read = true })) (get nat_cmp old q))
      → (n : ℕ) → get nat_cmp new n ≡ option_map (marked (take (i + 1) reads) n) (get nat_cmp first n)
  marks_found s new found up n = by_bool (is_at (nat_cmp number) n)
      (λ t.
      let here : number ≡ n = at_same number n t in
      let from = marked_from (take i reads) n (get nat_cmp first n) s (sym (marks n) ∙ subst (λ (k : ℕ). get nat_cmp old k ≡ Some s) here found) in
      let touched : touches (take (i + 1) reads) n ≡ true = touches_more n ∙ ap (λ (b : Bool). touches (take i reads) n || b) (eq-eqb number n here) ∙ or-true (touches (take i reads) n) in
      let full : (from.0.was_read || touches (take (i + 1) reads) n) ≡ true = ap (λ (b : Bool). from.0.was_read || b) touched ∙ or-true from.0.was_read in
      up n ∙ ap (λ (b : Bool). cond b (Some (record s { was_read = true })) (get nat_cmp old n)) t
      ∙ ap (λ (u : Stripe). Some (record u { was_read = true })) (sym from.2)
      ∙ ap (λ (b : Bool). Some (record from.0 { was_read = b })) (sym full)
      ∙ ap (λ (o : Option Stripe). option_map (marked (take (i + 1) reads) n) o) (sym from.1))
      (λ f.
      let other : number ≢ n = λ e. let w : true ≡ false = sym (at_here number) ∙ ap (is_at (nat_cmp number)) e ∙ f in let no : ⊥ = cc w in no in
      up n ∙ ap (λ (b : Bool). cond b (Some (record s { was_read = true })) (get nat_cmp old n)) f ∙ marks_same n other)

  pub marks_missed : get nat_cmp old number ≡ None → (n : ℕ) → get nat_cmp old n ≡ option_map (marked (take (i + 1) reads) n) (get nat_cmp first n)
  marks_missed missed n = dite (ℕ_discrete number n)
      (λ e.
      let none : get nat_cmp old n ≡ None = subst (λ (k : ℕ). get nat_cmp old k ≡ None) e missed in
      none ∙ sym (ap (λ (o : Option Stripe). option_map (marked (take (i + 1) reads) n) o) (none_mapped (marked (take i reads) n) (get nat_cmp first n) (sym (marks n) ∙ none))))
      (λ d. marks_same n d)

  abbrev is_off : ℕ → Bool
  is_off a = is_none (get nat_cmp first (a % 4096))

  same_off : is_off (slice_index reads i) ≡ is_none (get nat_cmp old number)
  same_off = ap not (sym (ap is_some (marks number) ∙ some_mapped (marked (take i reads) number) (get nat_cmp first number)))

  pub elsewhere_found : (s : Stripe) → get nat_cmp old number ≡ Some s → filter is_off (take (i + 1) reads) ≡ filter is_off (take i reads)
  elsewhere_found s found =
      let on : is_off (slice_index reads i) ≡ false = same_off ∙ ap is_none found in
      filter_more is_off reads i 0 l ∙ ap (λ (b : Bool). filter is_off (take i reads) ++ cond b (slice_index reads i ∷ []) []) on ∙ append-nil (filter is_off (take i reads))

  pub elsewhere_missed : get nat_cmp old number ≡ None → filter is_off (take (i + 1) reads) ≡ filter is_off (take i reads) ++ slice_index reads i ∷ []
  elsewhere_missed missed =
      let off : is_off (slice_index reads i) ≡ true = same_off ∙ ap is_none missed in
      filter_more is_off reads i 0 l ∙ ap (λ (b : Bool). filter is_off (take i reads) ++ cond b (slice_index reads i ∷ []) []) off

numbers : (due : Map ℕ) (reads : List ℕ) (es : List (ℕ × Stripe)) → All (Suits due reads) es → map (λ a. a % 4096) (addresses_of (values_of es)) ≡ keys_of es
numbers due reads [] all = refl
numbers due reads (e ∷ es) all =
    let first = (All-head (Suits due reads) e es all).number in
    let rest = numbers due reads es (All-tail (Suits due reads) e es all) in
    λ i. first i ∷ rest i

touched_keys : (due : Map ℕ) (reads : List ℕ) (n : ℕ) (es : List (ℕ × Stripe)) → All (Suits due reads) es → touches (addresses_of (values_of es)) n ≡ is_some (lookup (is_at (nat_cmp n)) es)
touched_keys due reads n [] all = refl
touched_keys due reads n (e ∷ es) all =
    let first = (All-head (Suits due reads) e es all).number in
    let rest = touched_keys due reads n es (All-tail (Suits due reads) e es all) in
    by_bool (is_at (nat_cmp n) e.0)
    (λ t. ap (λ (b : Bool). b || touches (addresses_of (values_of es)) n) (eq-eqb (number_of e.1) n (first ∙ sym (at_same n e.0 t)))
    ∙ sym (ap (λ (b : Bool). is_some (cond b (Some e.1) (lookup (is_at (nat_cmp n)) es))) t))
    (λ f.
    let apart : number_of e.1 ≢ n = λ q. let w : true ≡ false = sym (ap (is_at (nat_cmp n)) (sym first ∙ q) ∙ at_here n) ∙ f in let no : ⊥ = cc w in no in
    ap (λ (b : Bool). b || touches (addresses_of (values_of es)) n) (ne_eqb (number_of e.1) n apart) ∙ rest
    ∙ sym (ap (λ (b : Bool). is_some (cond b (Some e.1) (lookup (is_at (nat_cmp n)) es))) f))

pub planned : (due : Map ℕ) (reads : List ℕ) (m n : BTreeMap ℕ Stripe) (stripes : List Stripe) (elsewhere : List ℕ) → IsWritten due m
    → ((q : ℕ) → get nat_cmp n q ≡ option_map (marked reads q) (get nat_cmp m q)) → elsewhere ≡ filter (λ a. is_none (get nat_cmp m (a % 4096))) reads
    → IsOrdered nat_cmp n → stripes ≡ values_of n.entries → IsPlan due reads stripes elsewhere
planned due reads m n stripes elsewhere written marks others ordered values = subst (λ (ss : List Stripe). IsPlan due reads ss elsewhere) (sym values) (record {
  ascending = subst IsStrictlyIncreasing (sym (numbers due reads n.entries suits)) (IsStrictlyIncreasing-from_sorted (keys_of n.entries) ordered);
  each = λ a h. touched_keys due reads (a % 4096) n.entries suits ∙ there (a % 4096) ∙ written.each a h;
  only = All-map (Has due) (λ (s : Stripe). s.address) (values_of n.entries) (All-map (λ (s : Stripe). Has due s.address) (λ (e : ℕ × Stripe). e.1) n.entries
      (All-weaker (Suits due reads) (λ e. Has due e.1.address) (λ e h. h.due_there) n.entries suits));
  read = All-map (λ (s : Stripe). s.was_read ≡ touches reads (number_of s)) (λ (e : ℕ × Stripe). e.1) n.entries
      (All-weaker (Suits due reads) (λ e. e.1.was_read ≡ touches reads (number_of e.1)) (λ e h. h.read ∙ ap (touches reads) (sym h.number)) n.entries suits);
  elsewhere = others ∙ filter_agree (λ a. is_none (get nat_cmp m (a % 4096))) (λ a. not (touches (addresses_of (values_of n.entries)) (a % 4096)))
      (λ a. ap not (sym (touched_keys due reads (a % 4096) n.entries suits ∙ there (a % 4096)))) reads;
})
  where
    suit : (e : ℕ × Stripe) → get nat_cmp n e.0 ≡ Some e.1 → Suits due reads e
    suit e found =
        let t = marked_from reads e.0 (get nat_cmp m e.0) e.1 (sym (marks e.0) ∙ found) in
        let old = written.only e.0 t.0 t.1 in
        let new : Suits due reads (e.0, marked reads e.0 t.0) = record { number = old.0; due_there = old.1; read = ap (λ (b : Bool). b || touches reads e.0) old.2 } in
        subst (λ (s : Stripe). Suits due reads (e.0, s)) t.2 new

    suits : All (Suits due reads) n.entries
    suits = All-weaker (λ (e : ℕ × Stripe). get nat_cmp n e.0 ≡ Some e.1) (Suits due reads) suit n.entries (All-found nat_cmp_total n ordered)

    there : (q : ℕ) → is_some (get nat_cmp n q) ≡ is_some (get nat_cmp m q)
    there q = ap is_some (marks q) ∙ some_mapped (marked reads q) (get nat_cmp m q)
