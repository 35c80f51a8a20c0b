-- The stripes that an attempt holds, one more or none.
use Rattle.std.proofs.Common.{◌≡◌, ◌≢◌, ◌⊎◌, ◌<◌, ◌≤◌, ◌*◌, ◌%◌, ◌==◌, ◌&&◌, ◌||◌, ℕ, Bool, true, false, not, cond, List, [], ◌∷◌, ◌++◌, All, filter, length, take, reverse, slice_index_or, slice_set, refl, sym, ap, ◌∙◌, inl, inr, ⊎_elim, subst, eq-eqb, ne_eqb, arith}
use mathlib.Core.Logic.{dite}
use native.Mathlib.Decide.{ℕ_discrete}
use mathlib.Core.Option.{Option, none, some}
use Rattle.std.specs.Ordering.{nat_cmp}
use Rattle.std.specs.BTreeMap.{is_at}
use Rattle.std.specs.BTreeSet.{BTreeSet, contains}
use Rattle.std.proofs.lemmas.List.{reverse-append, reverse-reverse}
use Rattle.std.proofs.lemmas.List.Elements.{All-nil, All-push, All-weaker, filter_agree}
use Rattle.jmodel.specs.declared.access.Access.{Access}
use Rattle.jmodel.specs.history.Log.{Log, access}
use Rattle.tx_table.specs.Book.{Book, Face, Map, Has, lookup, pairs}
use Rattle.tx_table.specs.Plays.{keys, logged}
use Rattle.tx_table.proofs.MapLaws.{lookup_put, lookup_here}
use Rattle.tl2.specs.declared.plan.Stripe.{Stripe}
use Rattle.tl2.specs.Commits.{Holds}
use Rattle.tl2.specs.Plans.{addresses_of, number_of, touches, words_of, AreApart, IsHolding, IsListed}
use Rattle.tl2.proofs.Keys.{at_same, at_here, by_bool}
use Rattle.tl2.proofs.Listed.{has_more, listed_first}
use Rattle.tl2.proofs.Stripes.{touched, untouched}
use Rattle.lsa.specs.Owning.{apart, found, is_own, HasTaken, IsOwning, IsTaken, Tells}

found_when : (m : Map ℕ) (a : ℕ) (z : Option ℕ) → lookup m a ≡ z → found z ≡ true → Has m a
found_when m a none e f = absurd (let no : false ≡ true = f in cc no)
found_when m a (some x) e f = (x, e)

found_has : (m : Map ℕ) (a : ℕ) → found (lookup m a) ≡ true → Has m a
found_has m a f = found_when m a (lookup m a) refl f

has_found : (m : Map ℕ) (a : ℕ) → Has m a → found (lookup m a) ≡ true
has_found m a h = ap found h.1

missing : (z : Option ℕ) → not (found z) ≡ true → z ≡ none
missing none e = refl
missing (some x) e = absurd (let no : false ≡ true = e in cc no)

and_parts : (b c : Bool) → (b && c) ≡ true → (b ≡ true) × (c ≡ true)
and_parts true c e = (refl, e)
and_parts false c e = absurd (let no : false ≡ true = e in cc no)

apart_from : (ls : Log) → apart ls ≡ true → AreApart ls
apart_from [] e = tt
apart_from (l ∷ ls) e = let t = and_parts (not (found (lookup (pairs ls) l.address))) (apart ls) e in (missing (lookup (pairs ls) l.address) t.0, apart_from ls t.1)

apart_to : (ls : Log) → AreApart ls → apart ls ≡ true
apart_to [] e = refl
apart_to (l ∷ ls) e = ap (λ (z : Option ℕ). not (found z) && apart ls) e.0 ∙ apart_to ls e.1

-- what the engine keeps of its stripes is what the steps ask for
pub holds_from : (ss : List Stripe) (v : Book) → HasTaken ss v → Holds ss v
holds_from ss v h = record { same = h.same; apart = apart_from (words_of ss) h.once }

pub holds_to : (ss : List Stripe) (v : Book) → Holds ss v → HasTaken ss v
holds_to ss v h = record { same = h.same; once = apart_to (words_of ss) h.apart }

-- each has a written address
pub only_written : (ss : List Stripe) (own : BTreeSet ℕ) (log : List Access) (v : Book) → IsOwning ss own log v → All (Has (pairs (reverse log))) (addresses_of ss)
only_written ss own log v o = All-weaker (λ a. found (lookup (pairs (reverse log)) a) ≡ true) (Has (pairs (reverse log))) (found_has (pairs (reverse log))) (addresses_of ss) o.only

-- no stripe
pub holds_none : (v : Book) → v.face.held ≡ [] → Holds [] v
holds_none v e = subst (λ (m : Map ℕ). IsListed m []) (sym e) (record { same = λ a. refl; apart = tt })

-- what is held is as it was
pub holds_still : (ss : List Stripe) (v w : Book) → w.face ≡ v.face → Holds ss v → Holds ss w
holds_still ss v w e h = subst (λ (f : Face). IsListed f.held (words_of ss)) (sym e) h

pub owning_none : (own : BTreeSet ℕ) (log : List Access) (v : Book) → v.face.held ≡ [] → log ≡ [] → ((n : ℕ) → contains nat_cmp own n ≡ false) → IsOwning [] own log v
owning_none own log v held empty none_own = record {
  numbers = none_own;
  only = All-nil (λ a. found (lookup (pairs (reverse log)) a) ≡ true);
  each = λ a h. let no : lookup [] a ≡ some h.0 = subst (λ (k : List Access). lookup (pairs (reverse k)) a ≡ some h.0) empty h.1 in absurd (cc no);
  low = λ n w e. let no : lookup [] n ≡ some w = subst (λ (m : Map ℕ). lookup m n ≡ some w) held e in absurd (cc no);
}

-- the bound may have moved
pub owning_on : (ss : List Stripe) (own : BTreeSet ℕ) (log : List Access) (v w : Book) → w.face ≡ v.face → v.bound ≤ w.bound → IsOwning ss own log v → IsOwning ss own log w
owning_on ss own log v w face bound o = record {
  numbers = o.numbers;
  only = o.only;
  each = o.each;
  low = λ n x e. let l = o.low n x (ap (λ (f : Face). lookup f.held n) (sym face) ∙ e) in omega arith;
}

-- no stripe was taken or given back
pub taken_still : (ss : List Stripe) (v w : Book) → w.face ≡ v.face → HasTaken ss v → HasTaken ss w
taken_still ss v w face h = record { same = λ n. ap (λ (f : Face). lookup f.held n) face ∙ h.same n; once = h.once }

-- a read was logged
module _ (v w : Book) (a x : ℕ) (is : w ≡ logged v a x) where
  pub owning_logged : (ss : List Stripe) (own : BTreeSet ℕ) (log : List Access) → IsOwning ss own log v → IsOwning ss own log w
  owning_logged ss own log o = subst (IsOwning ss own log) (sym is) (owning_on ss own log v (logged v a x) refl (omega arith) o)

  pub keys_logged : (words : ℕ) (reads more : List ℕ) → a < words → more ≡ reads ++ a ∷ [] → (reverse reads ≡ keys v.reads) × All (λ b. b < words) reads
      → (reverse more ≡ keys w.reads) × All (λ b. b < words) more
  keys_logged words reads more low push was = (
    ap reverse push ∙ reverse-append reads (a ∷ []) ∙ ap (λ (k : List ℕ). a ∷ k) was.0 ∙ sym (ap (λ (b : Book). keys b.reads) is),
    subst (All (λ b. b < words)) (sym push) (All-push (λ b. b < words) reads a was.1 low),
  )

module _ (ss : List Stripe) (own : BTreeSet ℕ) (log : List Access) (v : Book) (o : IsOwning ss own log v) (holds : Holds ss v) where
  held_when : (n : ℕ) → contains nat_cmp own n ≡ true → Has v.face.held n
  held_when n e = let h = touched ss n (sym (o.numbers n) ∙ e) in (h.0, holds.same n ∙ h.1)

  pub free_when : (n : ℕ) → contains nat_cmp own n ≡ false → lookup v.face.held n ≡ none
  free_when n e = holds.same n ∙ untouched ss n (sym (o.numbers n) ∙ e)

  -- the stripe of an address is held, with an old version up to the bound
  pub own_word : (a : ℕ) → contains nat_cmp own (a % 4096) ≡ true → (w : ℕ) × (lookup v.face.held (a % 4096) ≡ some w) × (w ≤ 2 * v.bound)
  own_word a e = let h = held_when (a % 4096) e in (h.0, h.1, o.low (a % 4096) h.0 h.1)

  -- where that of the wanted address isn't, the numbers tell which are
  pub tells_here : (wanted : ℕ) → contains nat_cmp own (wanted % 4096) ≡ false → Tells own wanted v
  tells_here wanted free n = (
    λ e. held_when n (left (contains nat_cmp own n) (not (n == wanted % 4096)) e),
    λ e. by_bool (contains nat_cmp own n)
        (λ t. dite (ℕ_discrete n (wanted % 4096))
        (λ q. free_when n (ap (contains nat_cmp own) q ∙ free))
        (λ m. let no : true ≡ false = sym (ap (λ (b : Bool). b && not (n == wanted % 4096)) t ∙ ap (λ (b : Bool). true && not b) (ne_eqb n (wanted % 4096) m)) ∙ e in let z : ⊥ = cc no in absurd z))
        (λ f. free_when n f),
  )
    where
      left : (b c : Bool) → (b && c) ≡ true → b ≡ true
      left true c e = refl
      left false c e = e

  -- and also once its number is among them
  pub tells_more : (more : BTreeSet ℕ) (wanted : ℕ) → contains nat_cmp own (wanted % 4096) ≡ false
      → ((q : ℕ) → contains nat_cmp more q ≡ cond (is_at (nat_cmp (wanted % 4096)) q) true (contains nat_cmp own q)) → Tells more wanted v
  tells_more more wanted free up n = dite (ℕ_discrete n (wanted % 4096))
      (λ q. (
        (λ e. let no : false ≡ true = sym (ap (λ (b : Bool). contains nat_cmp more n && not b) (eq-eqb n (wanted % 4096) q) ∙ and_false (contains nat_cmp more n)) ∙ e in let z : ⊥ = cc no in absurd z),
        (λ e. free_when n (ap (contains nat_cmp own) q ∙ free)),
      ))
      (λ m.
      let off : is_at (nat_cmp (wanted % 4096)) n ≡ false = by_bool (is_at (nat_cmp (wanted % 4096)) n) (λ t. absurd (m (sym (at_same (wanted % 4096) n t)))) (λ f. f) in
      let same : contains nat_cmp more n ≡ contains nat_cmp own n = up n ∙ ap (λ (b : Bool). cond b true (contains nat_cmp own n)) off in
      let here : is_own more wanted n ≡ is_own own wanted n = ap (λ (b : Bool). b && not (n == wanted % 4096)) same in
      let t = tells_here wanted free n in (
        (λ e. t.0 (sym here ∙ e)),
        (λ e. t.1 (sym here ∙ e)),
      ))
    where
      and_false : (b : Bool) → (b && false) ≡ false
      and_false true = refl
      and_false false = refl

-- a write to an address whose stripe is held
has_wrote : (log log' : List Access) (l : Access) → log' ≡ log ++ l ∷ [] → (a : ℕ) → Has (pairs (reverse log)) a → Has (pairs (reverse log')) a
has_wrote log log' l more a h = subst (λ (k : Log). Has (pairs k) a) (sym (ap reverse more ∙ reverse-append log (l ∷ []))) (has_more (pairs (reverse log)) l.address l.word a h)

wrote_has : (log log' : List Access) (l : Access) → log' ≡ log ++ l ∷ [] → (a : ℕ) → Has (pairs (reverse log')) a → (l.address ≡ a) ⊎ Has (pairs (reverse log)) a
wrote_has log log' l more a h =
    let k : Has ((l.address, l.word) ∷ pairs (reverse log)) a = subst (λ (k : Log). Has (pairs k) a) (ap reverse more ∙ reverse-append log (l ∷ [])) h in
    ⊎_elim (λ t. inl t.0) (λ t. inr (k.0, t.1)) (lookup_put (pairs (reverse log)) l.address l.word a k.0 k.1)

pub owning_wrote : (ss : List Stripe) (own : BTreeSet ℕ) (log log' : List Access) (v : Book) (l : Access) → log' ≡ log ++ l ∷ [] → contains nat_cmp own (l.address % 4096) ≡ true
    → IsOwning ss own log v → IsOwning ss own log' v
owning_wrote ss own log log' v l more held o = record {
  numbers = o.numbers;
  only = All-weaker (λ a. found (lookup (pairs (reverse log)) a) ≡ true) (λ a. found (lookup (pairs (reverse log')) a) ≡ true)
      (λ a f. has_found (pairs (reverse log')) a (has_wrote log log' l more a (found_has (pairs (reverse log)) a f))) (addresses_of ss) o.only;
  each = λ a h. ⊎_elim (λ (e : l.address ≡ a). ap (λ (k : ℕ). touches (addresses_of ss) (k % 4096)) (sym e) ∙ sym (o.numbers (l.address % 4096)) ∙ held) (λ k. o.each a k) (wrote_has log log' l more a h);
  low = o.low;
}

-- the stripe of a written address is taken
module _ (ss ss' : List Stripe) (own own' : BTreeSet ℕ) (log log' : List Access) (v w : Book) (l : Access) (x : ℕ) (place : Stripe)
    (more : log' ≡ log ++ l ∷ []) (free : contains nat_cmp own (l.address % 4096) ≡ false)
    (up : (q : ℕ) → contains nat_cmp own' q ≡ cond (is_at (nat_cmp (l.address % 4096)) q) true (contains nat_cmp own q))
    (t : IsTaken l.address x v w) (o : IsOwning ss own log v) (holds : Holds ss v)
    (at : place.address ≡ l.address) (word : place.word ≡ x) (push : ss' ≡ ss ++ place ∷ []) where
  held_is : w.face.held ≡ (l.address % 4096, x) ∷ v.face.held
  held_is = ap (λ (b : Book). b.face.held) t.took ∙ ap (λ (f : Face). (l.address % 4096, x) ∷ f.held) t.on.face

  words_push : (rs : List Stripe) (s : Stripe) → words_of (rs ++ s ∷ []) ≡ words_of rs ++ access (number_of s) s.word ∷ []
  words_push [] s = refl
  words_push (y ∷ rs) s = ap (λ (k : Log). access (number_of y) y.word ∷ k) (words_push rs s)

  addresses_push : (rs : List Stripe) (s : Stripe) → addresses_of (rs ++ s ∷ []) ≡ addresses_of rs ++ s.address ∷ []
  addresses_push [] s = refl
  addresses_push (y ∷ rs) s = ap (λ (k : List ℕ). y.address ∷ k) (addresses_push rs s)

  addresses_are : addresses_of ss' ≡ addresses_of ss ++ l.address ∷ []
  addresses_are = ap addresses_of push ∙ addresses_push ss place ∙ ap (λ (a : ℕ). addresses_of ss ++ a ∷ []) at

  touches_more : (xs : List ℕ) (a n : ℕ) → touches (xs ++ a ∷ []) n ≡ (touches xs n || (a % 4096 == n))
  touches_more [] a n = or_false (a % 4096 == n)
    where
      or_false : (b : Bool) → (b || false) ≡ b
      or_false true = refl
      or_false false = refl
  touches_more (y ∷ xs) a n = ap (λ (b : Bool). (y % 4096 == n) || b) (touches_more xs a n) ∙ sym (or_assoc (y % 4096 == n) (touches xs n) (a % 4096 == n))
    where
      or_assoc : (b c d : Bool) → ((b || c) || d) ≡ (b || (c || d))
      or_assoc true c d = refl
      or_assoc false c d = refl

  or_true : (b : Bool) → (b || true) ≡ true
  or_true true = refl
  or_true false = refl

  or_false : (b : Bool) → (b || false) ≡ b
  or_false true = refl
  or_false false = refl

  pub holds_taken : Holds ss' w
  holds_taken =
      let new : lookup v.face.held (l.address % 4096) ≡ none = holds.same (l.address % 4096) ∙ untouched ss (l.address % 4096) (sym (o.numbers (l.address % 4096)) ∙ free) in
      let one : IsListed ((l.address % 4096, x) ∷ v.face.held) (words_of ss ++ access (l.address % 4096) x ∷ []) = listed_first v.face.held (words_of ss) (access (l.address % 4096) x) holds new in
      let words : words_of ss' ≡ words_of ss ++ access (l.address % 4096) x ∷ [] =
      ap words_of push ∙ words_push ss place ∙ (λ i. words_of ss ++ access (at i % 4096) (word i) ∷ []) in
      subst (λ (k : Log). IsListed w.face.held k) (sym words) (subst (λ (m : Map ℕ). IsListed m (words_of ss ++ access (l.address % 4096) x ∷ [])) (sym held_is) one)

  pub owning_taken : IsOwning ss' own' log' w
  owning_taken = record {
    numbers = λ n. up n ∙ dite (ℕ_discrete (l.address % 4096) n)
        (λ e. ap (λ (b : Bool). cond b true (contains nat_cmp own n)) (subst (λ (k : ℕ). is_at (nat_cmp (l.address % 4096)) k ≡ true) e (at_here (l.address % 4096)))
        ∙ sym (ap (λ (xs : List ℕ). touches xs n) addresses_are ∙ touches_more (addresses_of ss) l.address n ∙ ap (λ (b : Bool). touches (addresses_of ss) n || b) (eq-eqb (l.address % 4096) n e) ∙ or_true (touches (addresses_of ss) n)))
        (λ m.
        let off : is_at (nat_cmp (l.address % 4096)) n ≡ false = by_bool (is_at (nat_cmp (l.address % 4096)) n) (λ t. absurd (m (at_same (l.address % 4096) n t))) (λ f. f) in
        ap (λ (b : Bool). cond b true (contains nat_cmp own n)) off ∙ o.numbers n
        ∙ sym (ap (λ (xs : List ℕ). touches xs n) addresses_are ∙ touches_more (addresses_of ss) l.address n ∙ ap (λ (b : Bool). touches (addresses_of ss) n || b) (ne_eqb (l.address % 4096) n m) ∙ or_false (touches (addresses_of ss) n)));
    only = subst (λ (xs : List ℕ). All (λ a. found (lookup (pairs (reverse log')) a) ≡ true) xs) (sym addresses_are)
        (All-push (λ a. found (lookup (pairs (reverse log')) a) ≡ true) (addresses_of ss) l.address
        (All-weaker (λ a. found (lookup (pairs (reverse log)) a) ≡ true) (λ a. found (lookup (pairs (reverse log')) a) ≡ true)
        (λ a f. has_found (pairs (reverse log')) a (has_wrote log log' l more a (found_has (pairs (reverse log)) a f))) (addresses_of ss) o.only)
        (has_found (pairs (reverse log')) l.address (subst (λ (k : Log). Has (pairs k) l.address) (sym (ap reverse more ∙ reverse-append log (l ∷ []))) (l.word, lookup_here (pairs (reverse log)) l.address l.word))));
    each = λ a h. ap (λ (xs : List ℕ). touches xs (a % 4096)) addresses_are ∙ touches_more (addresses_of ss) l.address (a % 4096)
        ∙ ⊎_elim
        (λ (e : l.address ≡ a). ap (λ (b : Bool). touches (addresses_of ss) (a % 4096) || b) (eq-eqb (l.address % 4096) (a % 4096) (ap (λ (k : ℕ). k % 4096) e)) ∙ or_true (touches (addresses_of ss) (a % 4096)))
        (λ (k : Has (pairs (reverse log)) a). ap (λ (b : Bool). b || (l.address % 4096 == a % 4096)) (o.each a k))
        (wrote_has log log' l more a h);
    low = λ n y e.
        let bound = ap (λ (b : Book). b.bound) t.took in
        let raised = t.on.bound in
        let last = t.low in
        ⊎_elim
        (λ (q : (l.address % 4096 ≡ n) × (x ≡ y)). let same = q.1 in omega arith)
        (λ (q : (l.address % 4096 ≢ n) × (lookup v.face.held n ≡ some y)). let was = o.low n y q.1 in omega arith)
        (lookup_put v.face.held (l.address % 4096) x n y (subst (λ (m : Map ℕ). lookup m n ≡ some y) held_is e));
  }

-- the last stripe of a list
pub set_last : (xs : List Stripe) (p t : Stripe) → slice_set (xs ++ p ∷ []) (length xs) t ≡ xs ++ t ∷ []
set_last [] p t = refl
set_last (x ∷ xs) p t = ap (λ (ys : List Stripe). x ∷ ys) (set_last xs p t)

pub get_last : (xs : List Stripe) (p d : Stripe) → slice_index_or (xs ++ p ∷ []) (length xs) d ≡ p
get_last [] p d = refl
get_last (x ∷ xs) p d = get_last xs p d

pub take_last : (xs : List Stripe) (p : Stripe) → take (length xs) (xs ++ p ∷ []) ≡ xs
take_last [] p = refl
take_last (x ∷ xs) p = ap (λ (ys : List Stripe). x ∷ ys) (take_last xs p)

-- what a commit looks at once more
pub holding_of : (ss : List Stripe) (own : BTreeSet ℕ) (log : List Access) (v : Book) (reads : List ℕ) (m : Map ℕ) (elsewhere : List ℕ) → IsOwning ss own log v → reverse reads ≡ keys m
    → elsewhere ≡ filter (λ a. not (contains nat_cmp own (a % 4096))) reads → IsHolding (pairs (reverse log)) (reverse (keys m)) ss elsewhere
holding_of ss own log v reads m elsewhere o same is = record {
  each = o.each;
  only = only_written ss own log v o;
  elsewhere = is ∙ filter_agree (λ a. not (contains nat_cmp own (a % 4096))) (λ a. not (touches (addresses_of ss) (a % 4096))) (λ a. ap not (o.numbers (a % 4096))) reads
      ∙ ap (filter (λ a. not (touches (addresses_of ss) (a % 4096)))) (sym (ap (λ (xs : List ℕ). reverse xs) (sym same) ∙ reverse-reverse reads));
}
