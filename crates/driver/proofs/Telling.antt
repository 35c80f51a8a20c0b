-- What is told of the entries of a history, once it is sorted by the order of history, is what is told of the history from its first entry on.
use Rattle.std.proofs.Common.{◌≡◌, ◌≢◌, ℕ, zero, suc, ◌+◌, ◌<◌, List, [], ◌∷◌, length, get_or, map, sum_by, Bool, true, false, cond, ◌&&◌, ◌||◌, not, nat_eq, nat_lt, Option, Some, None, refl, sym, ap, ◌∙◌, subst, inl, inr, if◌then◌else◌, arith}
use Rattle.std.specs.Prelude.{AllPairs, IsPermutation}
use Rattle.std.specs.Bool.{Decides, beq}
use Rattle.std.specs.Cmp.{IsStrictWeakOrder, booleans_Decides}
use Rattle.std.specs.Cmp.Lexicographic.{pointwise, pointwise_decides}
use Rattle.std.specs.List.{All}
use Rattle.std.specs.List.Sorted.{IsSortedBy}
use Rattle.std.specs.Option.{option_eq}
use Rattle.std.specs.Ordering.{int_eq}
use Rattle.std.specs.Str.{bytes_eq}
use Rattle.std.proofs.lemmas.Bool.Decides.{Decides-and, Decides-eqb, Decides-int_eq, Decides-like, nat_tests}
use Rattle.std.proofs.lemmas.List.Elements.{All-map, All-cons, All-nil}
use Rattle.std.proofs.lemmas.List.Kept.{AllPairs-cons}
use Rattle.std.proofs.lemmas.List.Sorted.{IsStrictWeakOrder-by_number, sorted_far, sum_by-IsPermutation}
use Rattle.std.proofs.lemmas.List.Sums.{sum_by-cons, sum_by-le}
use Rattle.std.proofs.lemmas.Slice.Eq.{bytes_eq-Decides}
use Rattle.jmodel.specs.declared.value.Value.{Value}
use Rattle.jmodel.specs.declared.value.Value.TheVariants.{Int, Long, Ref}
use Rattle.jmodel.specs.declared.value.Answer.{Answer}
use Rattle.jmodel.specs.declared.value.Answer.TheVariants.{Returned, Threw, Budget, Depth, Heap, Spent, NoMemory}
use Rattle.jmodel.specs.declared.value.Stamp.{Stamp}
use Rattle.jmodel.specs.history.History.{Call, Entry, Told, told, round, first_by, comes_first, precedes}
use Rattle.tx_table.specs.Book.{In, rises}
use Rattle.tx_table.specs.Rule.{weigh, IsRegionKept}

-- ---- whether two are the same

-- whether two values are the same
abbrev pub value_eq : Value → Value → Bool
value_eq (Int x) (Int y) = int_eq x y
value_eq (Long x) (Long y) = int_eq x y
value_eq (Ref x) (Ref y) = nat_eq x y
value_eq x y = false

-- the test of values says so
pub value_decides : (x y : Value) → Decides (value_eq x y) (x ≡ y)
value_decides (Int x) (Int y) = Decides-like _ (λ e. ap Int e) (λ e. cc e) (Decides-int_eq x y)
value_decides (Long x) (Long y) = Decides-like _ (λ e. ap Long e) (λ e. cc e) (Decides-int_eq x y)
value_decides (Ref x) (Ref y) = Decides-like _ (λ e. ap Ref e) (λ e. cc e) (Decides-eqb x y)
value_decides x y = (λ h. cc h, λ e. cc e)

-- where the elements of two options are compared so, the options are
option_decides : {X : Type 0} (eq : X → X → Bool) → ((x y : X) → Decides (eq x y) (x ≡ y)) → (p q : Option X) → Decides (option_eq eq p q) (p ≡ q)
option_decides eq decides None None = (λ h. refl, λ e. refl)
option_decides eq decides (Some x) (Some y) = Decides-like _ (λ e. ap Some e) (λ e. cc e) (decides x y)
option_decides eq decides p q = (λ h. cc h, λ e. cc e)

-- whether two answers are the same
abbrev pub answer_eq : Answer → Answer → Bool
answer_eq (Returned v) (Returned w) = option_eq value_eq v w
answer_eq (Threw c) (Threw d) = bytes_eq c d
answer_eq Budget Budget = true
answer_eq Depth Depth = true
answer_eq (Heap used wanted size) (Heap u w s) = nat_eq used u && (nat_eq wanted w && nat_eq size s)
answer_eq Spent Spent = true
answer_eq NoMemory NoMemory = true
answer_eq x y = false

-- that of answers
pub answer_decides : (x y : Answer) → Decides (answer_eq x y) (x ≡ y)
answer_decides (Returned v) (Returned w) = Decides-like _ (λ e. ap Returned e) (λ e. cc e) (option_decides value_eq value_decides v w)
answer_decides (Threw c) (Threw d) = Decides-like _ (λ e. ap Threw e) (λ e. cc e) (bytes_eq-Decides c d)
answer_decides Budget Budget = (λ h. refl, λ e. refl)
answer_decides Depth Depth = (λ h. refl, λ e. refl)
answer_decides (Heap used wanted size) (Heap u w s) =
    Decides-like _ (λ e. (λ i. Heap (e.0 i) (e.1.0 i) (e.1.1 i)))
    (λ e. let a : used ≡ u = cc e in let b : wanted ≡ w = cc e in let c : size ≡ s = cc e in (a, (b, c)))
    (Decides-and _ _ (Decides-eqb used u) (Decides-and _ _ (Decides-eqb wanted w) (Decides-eqb size s)))
answer_decides Spent Spent = (λ h. refl, λ e. refl)
answer_decides NoMemory NoMemory = (λ h. refl, λ e. refl)
answer_decides x y = (λ h. cc h, λ e. cc e)

-- whether two stamps are the same
abbrev pub stamp_eq : Stamp → Stamp → Bool
stamp_eq x y = nat_eq x.at y.at && beq x.update y.update

-- that of stamps
pub stamp_decides : (x y : Stamp) → Decides (stamp_eq x y) (x ≡ y)
stamp_decides x y = Decides-like _ (λ e. (λ i. record { at = e.0 i; update = e.1 i })) (λ e. (ap (λ (s : Stamp). s.at) e, ap (λ (s : Stamp). s.update) e))
    (Decides-and _ _ (Decides-eqb x.at y.at) (booleans_Decides x.update y.update))

-- whether two calls stand at one place
abbrev place_eq : Call → Call → Bool
place_eq c d = nat_eq c.phase d.phase && (nat_eq c.lane d.lane && nat_eq c.index d.index)

-- whether two calls ask for the same
abbrev asks_eq : Call → Call → Bool
asks_eq c d = nat_eq c.method d.method && (pointwise value_eq c.args d.args && nat_eq c.region d.region)

-- whether two calls are the same
abbrev pub call_eq : Call → Call → Bool
call_eq c d = place_eq c d && asks_eq c d

-- that of calls
pub call_decides : (c d : Call) → Decides (call_eq c d) (c ≡ d)
call_decides c d =
    Decides-like _ (λ e. (λ i. record { phase = e.0.0 i; lane = e.0.1.0 i; index = e.0.1.1 i; method = e.1.0 i; args = e.1.1.0 i; region = e.1.1.1 i }))
    (λ e. (
      (ap (λ (k : Call). k.phase) e, (ap (λ (k : Call). k.lane) e, ap (λ (k : Call). k.index) e)),
      (ap (λ (k : Call). k.method) e, (ap (λ (k : Call). k.args) e, ap (λ (k : Call). k.region) e)),
    ))
    (Decides-and (place_eq c d) (asks_eq c d)
    (Decides-and _ _ (Decides-eqb c.phase d.phase) (Decides-and _ _ (Decides-eqb c.lane d.lane) (Decides-eqb c.index d.index)))
    (Decides-and _ _ (Decides-eqb c.method d.method) (Decides-and _ _ (pointwise_decides value_decides c.args d.args) (Decides-eqb c.region d.region))))

-- whether the same is told
abbrev pub told_eq : Told → Told → Bool
told_eq s t = stamp_eq s.stamp t.stamp && (call_eq s.call t.call && answer_eq s.answer t.answer)

-- that of what is told
pub told_decides : (s t : Told) → Decides (told_eq s t) (s ≡ t)
told_decides s t =
    Decides-like _ (λ e. (λ i. record { stamp = e.0 i; call = e.1.0 i; answer = e.1.1 i }))
    (λ e. (ap (λ (t : Told). t.stamp) e, (ap (λ (t : Told). t.call) e, ap (λ (t : Told). t.answer) e)))
    (Decides-and _ _ (stamp_decides s.stamp t.stamp) (Decides-and _ _ (call_decides s.call t.call) (answer_decides s.answer t.answer)))

-- ---- the order of history

-- by a key first, and among equal keys by an order, is an order
first_by_order : {X : Type 0} (key : X → ℕ) (lt : X → X → Bool) → IsStrictWeakOrder lt → IsStrictWeakOrder (λ x y. first_by (key x) (key y) (lt x y))
first_by_order key lt o = record {
  one_way = λ x y h. let l = o.one_way x y in grind (arith, nat_tests);
  chain = λ x y z g h. let l = o.chain x y z in grind (arith, nat_tests);
}

-- 0 for an update and 1 for a reader
abbrev reads_only : Told → ℕ
reads_only t = cond t.stamp.update 0 1

-- by round, lane and index
abbrev by_place : Told → Told → Bool
by_place s t = first_by (round s.call) (round t.call) (first_by s.call.lane t.call.lane (nat_lt s.call.index t.call.index))

-- the order of history, key by key
comes_by_keys : (s t : Told) → comes_first s t ≡ first_by s.stamp.at t.stamp.at (first_by (reads_only s) (reads_only t) (by_place s t))
comes_by_keys s t = ap (first_by s.stamp.at t.stamp.at) (kinds s.stamp.update t.stamp.update (by_place s t))
  where
    kinds : (u v rest : Bool) → ((u && not v) || ((u || not v) && rest)) ≡ first_by (cond u 0 1) (cond v 0 1) rest
    kinds true true rest = refl
    kinds true false rest = refl
    kinds false true rest = refl
    kinds false false rest = refl

-- the order of history is an order in which any two compare
pub history_order : IsStrictWeakOrder comes_first
history_order = subst IsStrictWeakOrder (λ i s t. sym (comes_by_keys s t) i)
    (first_by_order (λ t. t.stamp.at) _ (first_by_order reads_only _ by_calls))
  where
    by_calls : IsStrictWeakOrder by_place
    by_calls = first_by_order (λ t. round t.call) _ (first_by_order (λ t. t.call.lane) _ (IsStrictWeakOrder-by_number (λ t. t.call.index)))

-- in such an order nothing comes before itself
pub irreflexive : {X : Type 0} (lt : X → X → Bool) → IsStrictWeakOrder lt → (x : X) → lt x x ≡ false
irreflexive lt o x = let l = o.one_way x x in grind arith

-- and what comes before another comes before all that the other comes before
pub transitive : {X : Type 0} (lt : X → X → Bool) → IsStrictWeakOrder lt → (x y z : X) → lt x y ≡ true → lt y z ≡ true → lt x z ≡ true
transitive lt o x y z g h = let l = o.one_way y z h in let m = o.chain x z y in grind arith

-- in a sorted list no later one comes before an earlier one
pub sorted_pairs : {X : Type 0} (lt : X → X → Bool) → IsStrictWeakOrder lt → (xs : List X) → IsSortedBy lt xs → AllPairs (λ x y. lt y x ≡ false) xs
sorted_pairs lt o xs sorted i j d before inside = sorted_far lt o xs sorted i j d (omega arith) inside

-- ---- one order of the same elements

-- of the pairs of a list, the first element with each other
pairs_head : {X : Type 0} (R : X → X → Type 0) (x : X) (xs : List X) → AllPairs R (x ∷ xs) → All (R x) xs
pairs_head R x xs pairs k d inside = pairs 0 (suc k) d (omega arith) (omega arith)

-- and the pairs of the others
pairs_tail : {X : Type 0} (R : X → X → Type 0) (x : X) (xs : List X) → AllPairs R (x ∷ xs) → AllPairs R xs
pairs_tail R x xs pairs i j d before inside = pairs (suc i) (suc j) d (omega arith) (omega arith)

-- the pairs of what a function makes of each element
pub pairs_map : {X Y : Type 0} (R : Y → Y → Type 0) (f : X → Y) (xs : List X) → AllPairs (λ x y. R (f x) (f y)) xs → AllPairs R (map f xs)
pairs_map R f [] pairs = λ i j d before inside. absurd (omega arith)
pairs_map R f (x ∷ xs) pairs =
    let head = pairs_head (λ x y. R (f x) (f y)) x xs pairs in let tail = pairs_tail (λ x y. R (f x) (f y)) x xs pairs in
    AllPairs-cons R (f x) (map f xs) (All-map (R (f x)) f xs head) (pairs_map R f xs tail)

-- a list of what weighs nothing weighs nothing
weighs_nothing : {X : Type 0} (h : X → ℕ) (xs : List X) → All (λ x. h x ≡ 0) xs → sum_by h xs ≡ 0
weighs_nothing h xs none = let l = sum_by-le h 0 xs (λ k d inside. let n = none k d inside in omega arith) in omega arith

-- a list without some element has not the elements of a list that begins with it
unlike : {X : Type 0} (eq : X → X → Bool) → ((x y : X) → Decides (eq x y) (x ≡ y)) → (x : X) (xs zs : List X) → All (λ z. z ≢ x) zs
    → ((h : X → ℕ) → sum_by h (x ∷ xs) ≡ sum_by h zs) → ⊥
unlike {X} eq decides x xs zs none same =
    let is_it : X → ℕ = λ z. cond (eq z x) 1 0 in
    let no : (z : X) → z ≢ x → is_it z ≡ 0 = λ z n. let d = decides z x in grind arith in
    let once : is_it x ≡ 1 = ap (λ (b : Bool). cond b 1 0) ((decides x x).1 refl) in
    let nothing = weighs_nothing is_it zs (λ k d inside. no (get_or zs k d) (none k d inside)) in
    let whole = same is_it in
    let front = sum_by-cons is_it x xs in omega arith

-- Two lists with the same elements, each as often in one as in the other, begin with the same one, where one strictly ascends and
-- in the other no later element comes before an earlier one.
same_first : {X : Type 0} (eq : X → X → Bool) → ((x y : X) → Decides (eq x y) (x ≡ y)) → (lt : X → X → Bool) (x y : X) (xs ys : List X)
    → All (λ z. lt x z ≡ true) xs → All (λ z. lt z y ≡ false) ys → ((h : X → ℕ) → sum_by h (x ∷ xs) ≡ sum_by h (y ∷ ys)) → x ≡ y
same_first {X} eq decides lt x y xs ys up sorted same = by_eq (eq x y) refl
  where
    apart : x ≢ y → (b : Bool) → lt x y ≡ b → ⊥
    apart n true e = unlike eq decides x xs (y ∷ ys)
        (All-cons (λ z. z ≢ x) y ys (λ p. n (sym p)) (λ k d inside p. cc (sym e ∙ sym (ap (λ z. lt z y) p) ∙ sorted k d inside))) same
    apart n false e = unlike eq decides y ys (x ∷ xs)
        (All-cons (λ z. z ≢ y) x xs n (λ k d inside p. cc (sym e ∙ sym (ap (lt x) p) ∙ up k d inside))) (λ h. sym (same h))

    by_eq : (b : Bool) → eq x y ≡ b → x ≡ y
    by_eq true e = (decides x y).0 e
    by_eq false e = absurd (apart (λ p. cc (sym e ∙ (decides x y).1 p)) (lt x y) refl)

-- and so they are one list
pub same_order : {X : Type 0} (eq : X → X → Bool) → ((x y : X) → Decides (eq x y) (x ≡ y)) → (lt : X → X → Bool) (xs ys : List X)
    → AllPairs (λ x y. lt x y ≡ true) xs → AllPairs (λ x y. lt y x ≡ false) ys → ((h : X → ℕ) → sum_by h xs ≡ sum_by h ys) → xs ≡ ys
same_order eq decides lt [] [] up sorted same = refl
same_order eq decides lt [] (y ∷ ys) up sorted same = absurd (unlike eq decides y ys [] (All-nil (λ z. z ≢ y)) (λ h. sym (same h)))
same_order eq decides lt (x ∷ xs) [] up sorted same = absurd (unlike eq decides x xs [] (All-nil (λ z. z ≢ x)) same)
same_order eq decides lt (x ∷ xs) (y ∷ ys) up sorted same =
    let first : x ≡ y = same_first eq decides lt x y xs ys (pairs_head (λ x y. lt x y ≡ true) x xs up) (pairs_head (λ x y. lt y x ≡ false) y ys sorted) same in
    let rest : xs ≡ ys = same_order eq decides lt xs ys (pairs_tail (λ x y. lt x y ≡ true) x xs up) (pairs_tail (λ x y. lt y x ≡ false) y ys sorted)
    (λ h. let whole = same h in let fronts = ap h first in let a = sum_by-cons h x xs in let b = sum_by-cons h y ys in omega arith) in
    (λ i. first i ∷ rest i)

-- what is told of entries weighs as much as they do by what is told of them
weigh_told : (h : Told → ℕ) (es : List Entry) → sum_by h (map told es) ≡ weigh (λ e. h (told e)) es
weigh_told h [] = refl
weigh_told h (e ∷ es) = sum_by-cons h (told e) (map told es) ∙ ap (λ n. h (told e) + n) (weigh_told h es)

-- ---- the history

-- What is told of the entries of a history, in whichever order they were collected, is told of it in turn once that is sorted.
pub told_in_order : (hist es : List Entry) (zs : List Told) → AllPairs (λ a b. precedes a b ≡ true) hist → ((h : Entry → ℕ) → weigh h hist ≡ weigh h es)
    → IsPermutation (map told es) zs → IsSortedBy comes_first zs → map told hist ≡ zs
told_in_order hist es zs ordered account moved sorted =
    same_order told_eq told_decides comes_first (map told hist) zs (pairs_map (λ s t. comes_first s t ≡ true) told hist ordered)
    (sorted_pairs comes_first history_order zs sorted)
    (λ h. weigh_told h hist ∙ account (λ e. h (told e)) ∙ sym (weigh_told h es) ∙ sym (sum_by-IsPermutation h (map told es) zs moved))

-- and so all that is told of the history stands in what is sorted
pub told_stands : (hist es : List Entry) (zs : List Told) → AllPairs (λ a b. precedes a b ≡ true) hist → ((h : Entry → ℕ) → weigh h hist ≡ weigh h es)
    → IsPermutation (map told es) zs → IsSortedBy comes_first zs → (t : Told) → In t (map told hist) → In t zs
told_stands hist es zs ordered account moved sorted t at = subst (In t) (told_in_order hist es zs ordered account moved sorted) at

-- an entry by its place stands in the list
in_at : (xs : List Entry) (k : ℕ) (d : Entry) → k < length xs → In (get_or xs k d) xs
in_at [] k d inside = absurd (omega arith)
in_at (x ∷ xs) zero d inside = inl refl
in_at (x ∷ xs) (suc k) d inside = inr (in_at xs k d (omega arith))

-- of two calls of one lane and phase the first has the lower index
rises_index : (c d : Call) → c.region ≡ d.region → c.phase ≡ d.phase → c.lane ≡ d.lane → rises c d ≡ true → c.index < d.index
rises_index c d region phase lane rise =
    let same : round c ≡ round d = (λ i. if nat_eq (region i) 0 then 0 else phase i + 1) in grind (arith, nat_tests)

-- In the history of a phase the calls of a lane stand by index, where each lane takes words from its own region.
pub regions_told : (hist : List Entry) (phase : ℕ) → AllPairs IsRegionKept hist
    → ((e : Entry) → In e hist → (e.call.region ≡ suc e.call.lane) × (e.call.phase ≡ phase))
    → AllPairs (λ s t. s.call.lane ≡ t.call.lane → s.call.index < t.call.index) (map told hist)
regions_told hist phase kept of_phase = pairs_map (λ s t. s.call.lane ≡ t.call.lane → s.call.index < t.call.index) told hist (λ i j d before inside lane.
    let a = get_or hist i d in let b = get_or hist j d in
    let p = of_phase a (in_at hist i d (omega arith)) in let q = of_phase b (in_at hist j d inside) in
    let region : a.call.region ≡ b.call.region = p.0 ∙ ap suc lane ∙ sym q.0 in
    rises_index a.call b.call region (p.1 ∙ sym q.1) lane (kept i j d before inside region))
