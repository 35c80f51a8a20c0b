-- Stripes, and those that are held.
use Rattle.std.proofs.Common.{◌≡◌, ◌≢◌, ◌<◌, ◌+◌, ◌%◌, ◌==◌, ◌||◌, ℕ, Bool, true, false, cond, List, [], ◌∷◌, ◌++◌, All, map, length, take, drop, slice_index, slice_index_or, slice_set, refl, sym, ap, ◌∙◌, inl, inr, ⊎_elim, subst, arith}
use mathlib.Core.Option.{none, some, some-ne-none}
use Rattle.std.specs.List.Sorted.{IsStrictlyIncreasing}
use Rattle.std.proofs.lemmas.List.{drop_more, take_more_set, map_push, map-set, set-get_or, length-map, length-take-le, get_or-map, get_or-take}
use Rattle.std.proofs.lemmas.List.Elements.{All-head, All-tail, All-more, All-weaker, All-get_or, All-from_get_or}
use Rattle.std.proofs.lemmas.List.Kept.{AllPairs-from_increasing}
use Rattle.jmodel.specs.history.Log.{access}
use Rattle.tx_table.specs.Book.{Book, Map, Has, In, lookup, pairs}
use Rattle.tx_table.proofs.MapLaws.{lookup_put, lookup_else}
use Rattle.tl2.specs.declared.plan.Stripe.{Stripe}
use Rattle.tl2.specs.Commits.{IsChecked}
use Rattle.tl2.specs.Plans.{addresses_of, number_of, touches, words_of, IsListed}
use Rattle.tl2.proofs.Keys.{by_bool}
use Rattle.tl2.proofs.Listed.{listed_first}

-- what a look past the end of a list gives
abbrev pub no_stripe : Stripe
no_stripe = record { address = 0; was_read = false; word = 0 }

-- a stripe that an address lies on, and one that none does
pub touched : (ss : List Stripe) (n : ℕ) → touches (addresses_of ss) n ≡ true → Has (pairs (words_of ss)) n
touched [] n e = let no : ⊥ = cc e in absurd no
touched (s ∷ ss) n e = by_bool (number_of s == n)
    (λ t. (s.word, ap (λ (b : Bool). cond b (some s.word) (lookup (pairs (words_of ss)) n)) t))
    (λ f. let h = touched ss n (sym (ap (λ (b : Bool). b || touches (addresses_of ss) n) f) ∙ e) in (h.0, ap (λ (b : Bool). cond b (some s.word) (lookup (pairs (words_of ss)) n)) f ∙ h.1))

pub untouched : (ss : List Stripe) (n : ℕ) → touches (addresses_of ss) n ≡ false → lookup (pairs (words_of ss)) n ≡ none
untouched [] n e = refl
untouched (s ∷ ss) n e = by_bool (number_of s == n)
    (λ t. let q : true ≡ false = sym (ap (λ (b : Bool). b || touches (addresses_of ss) n) t) ∙ e in let no : ⊥ = cc q in absurd no)
    (λ f. ap (λ (b : Bool). cond b (some s.word) (lookup (pairs (words_of ss)) n)) f ∙ untouched ss n (sym (ap (λ (b : Bool). b || touches (addresses_of ss) n) f) ∙ e))

-- a stripe has an address
pub touching : (ss : List Stripe) (n x : ℕ) → lookup (pairs (words_of ss)) n ≡ some x → (a : ℕ) × In a (addresses_of ss) × (a % 4096 ≡ n)
touching [] n x e = absurd (some-ne-none x (sym e))
touching (s ∷ ss) n x e = ⊎_elim
    (λ (t : (number_of s ≡ n) × (s.word ≡ x)). (s.address, inl refl, t.0))
    (λ (t : (number_of s ≢ n) × (lookup (pairs (words_of ss)) n ≡ some x)). let h = touching ss n x t.1 in (h.0, inr h.1, h.2))
    (lookup_put (pairs (words_of ss)) (number_of s) s.word n x e)

-- a stripe's number is over those of the stripes before it
below : (ss : List Stripe) (n : ℕ) → All (λ s. number_of s < n) ss → lookup (pairs (words_of ss)) n ≡ none
below [] n all = refl
below (s ∷ ss) n all =
    let first = All-head (λ (s : Stripe). number_of s < n) s ss all in
    lookup_else (pairs (words_of ss)) (number_of s) s.word n (λ e. omega arith) ∙ below ss n (All-tail (λ (s : Stripe). number_of s < n) s ss all)

-- what holds of each address, holds of the one at a place
pub holds_at : (P : ℕ → Type 0) (ss rs : List Stripe) (i : ℕ) → i < length ss → addresses_of ss ≡ addresses_of rs → All P (addresses_of rs) → P (slice_index_or ss i no_stripe).address
holds_at P ss rs i l same all =
    let f : Stripe → ℕ = λ s. s.address in
    let place : i < length (addresses_of ss) = rw (length-map ss f) l in
    subst P (get_or-map f ss i no_stripe 0 l) (All-get_or P (addresses_of ss) i 0 place (subst (λ (xs : List ℕ). All P xs) (sym same) all))

number_at : (ss : List Stripe) (i : ℕ) → i < length ss → slice_index_or (map (λ a. a % 4096) (addresses_of ss)) i 0 ≡ number_of (slice_index_or ss i no_stripe)
number_at ss i l =
    let f : Stripe → ℕ = λ s. s.address in
    let place : i < length (addresses_of ss) = rw (length-map ss f) l in
    get_or-map (λ a. a % 4096) (addresses_of ss) i 0 0 place ∙ ap (λ (a : ℕ). a % 4096) (get_or-map f ss i no_stripe 0 l)

numbers_length : (ss : List Stripe) → length (map (λ a. a % 4096) (addresses_of ss)) ≡ length ss
numbers_length ss = length-map (addresses_of ss) (λ a. a % 4096) ∙ length-map ss (λ (s : Stripe). s.address)

-- of ascending stripes the next one isn't held yet
pub not_before : (ss rs : List Stripe) (held : Map ℕ) (i : ℕ) → i < length ss → addresses_of ss ≡ addresses_of rs → IsStrictlyIncreasing (map (λ a. a % 4096) (addresses_of rs)) → IsListed held (words_of (take i ss))
    → lookup held (number_of (slice_index_or ss i no_stripe)) ≡ none
not_before ss rs held i l same rise listed = listed.same (number_of (slice_index_or ss i no_stripe)) ∙ below (take i ss) (number_of (slice_index_or ss i no_stripe)) lower
  where
    far : (k : ℕ) → k < i → number_of (slice_index_or ss k no_stripe) < number_of (slice_index_or ss i no_stripe)
    far k h =
        let here : k < length ss = omega arith in
        let rises : IsStrictlyIncreasing (map (λ a. a % 4096) (addresses_of ss)) = subst (λ (xs : List ℕ). IsStrictlyIncreasing (map (λ a. a % 4096) xs)) (sym same) rise in
        let place : i < length (map (λ a. a % 4096) (addresses_of ss)) = rw (numbers_length ss) l in
        let less = AllPairs-from_increasing (map (λ a. a % 4096) (addresses_of ss)) rises k i 0 h place in
        rw (number_at ss k here, number_at ss i l) at less

    lower : All (λ s. number_of s < number_of (slice_index_or ss i no_stripe)) (take i ss)
    lower = All-from_get_or (λ s. number_of s < number_of (slice_index_or ss i no_stripe)) (take i ss) no_stripe
        (λ k h. let front : length (take i ss) ≡ i = length-take-le i ss (omega arith) in let h' : k < i = omega arith in rw (get_or-take i ss k no_stripe h') (far k h'))

-- the stripe at a place and those behind it are as they were
pub same_later : (ss rs : List Stripe) (i : ℕ) → i < length ss → i < length rs → drop i ss ≡ drop i rs → (slice_index_or ss i no_stripe ≡ slice_index_or rs i no_stripe) × (drop (i + 1) ss ≡ drop (i + 1) rs)
same_later ss rs i l m same =
    let e : slice_index_or ss i no_stripe ∷ drop (i + 1) ss ≡ slice_index_or rs i no_stripe ∷ drop (i + 1) rs = sym (drop_more ss i no_stripe l) ∙ same ∙ drop_more rs i no_stripe m in
    (cc, cc)

-- one stripe more is held
pub held_more : (ss : List Stripe) (i w : ℕ) (held : Map ℕ) → i < length ss → IsListed held (words_of (take i ss)) → lookup held (number_of (slice_index_or ss i no_stripe)) ≡ none
    → IsListed ((number_of (slice_index_or ss i no_stripe), w) ∷ held) (words_of (take (i + 1) (slice_set ss i (record (slice_index_or ss i no_stripe) { word = w }))))
held_more ss i w held l listed new =
    let s : Stripe = record (slice_index_or ss i no_stripe) { word = w } in
    let more : words_of (take (i + 1) (slice_set ss i s)) ≡ words_of (take i ss) ++ access (number_of s) w ∷ [] =
    ap words_of (take_more_set ss i s l) ∙ map_push (λ (t : Stripe). access (number_of t) t.word) (take i ss) s in
    subst (IsListed ((number_of s, w) ∷ held)) (sym more) (listed_first held (words_of (take i ss)) (access (number_of s) w) listed new)

pub addresses_kept : (ss : List Stripe) (i w : ℕ) → i < length ss → addresses_of (slice_set ss i (record (slice_index_or ss i no_stripe) { word = w })) ≡ addresses_of ss
addresses_kept ss i w l =
    let f : Stripe → ℕ = λ s. s.address in
    map-set f ss i (record (slice_index_or ss i no_stripe) { word = w })
    ∙ ap (slice_set (addresses_of ss) i) (sym (get_or-map f ss i no_stripe 0 l))
    ∙ set-get_or (addresses_of ss) i 0

-- one address more is checked
pub checked_more : (reads : List ℕ) (i : ℕ) (v w : Book) → i < length reads → IsChecked (take i reads) v w → IsChecked (take (i + 1) reads) v (record w { checked = (slice_index reads i % 4096) ∷ w.checked })
checked_more reads i v w l c =
    let now : List ℕ = (slice_index reads i % 4096) ∷ c.0 in (
      now,
      ap (λ (u : Book). record u { checked = (slice_index reads i % 4096) ∷ u.checked }) c.1,
      All-more (λ a. In (a % 4096) now) reads i 0 l (All-weaker (λ a. In (a % 4096) c.0) (λ a. In (a % 4096) now) (λ a h. inr h) (take i reads) c.2) (inl refl),
    )
