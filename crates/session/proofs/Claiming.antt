-- A worker's claims, as they are made.
use Rattle.std.proofs.Common.{◌≡◌, ◌≤◌, ◌<◌, ◌+◌, ℕ, List, [], ◌∷◌, ◌++◌, length, nat_lt, cond, Bool, true, false, Option, Some, None, inl, inr, refl, sym, ◌∙◌, ap, subst, ltb-true, lt-ltb, arith}
use Rattle.std.proofs.lemmas.Bool.Decides.{nat_tests}
use Rattle.std.specs.Prelude.{filter}
use Rattle.std.specs.List.{AllByRecursion}
use Rattle.std.proofs.lemmas.List.{append-nil, length_push}
use Rattle.std.proofs.lemmas.List.Elements.{filter-append}
use Rattle.claims.specs.Claims.{Claims, Ascends, HasClaimed, claimed, goes}
use Rattle.session.specs.Claimed.{HasTaken, HasEmptied}
use Rattle.claims.proofs.Ascending.{ascends_snoc}

-- Of a bag of n calls a worker claimed these indexes, so many, and nothing else.
pub record Claiming (n count : ℕ) (v : Claims) (indexes : List ℕ) : Type 0 where
  pub claimed_are : v.indexes ≡ indexes
  pub long : length indexes ≡ count
  pub ascends : Ascends indexes
  pub under : AllByRecursion (λ i. i < n) indexes
  pub left : count + v.left ≡ n + 1

pub claiming_first : (n : ℕ) (v : Claims) (indexes : List ℕ) → v ≡ goes (n + 1) → indexes ≡ [] → Claiming n 0 v indexes
claiming_first n v indexes is empty =
    let left : v.left ≡ n + 1 = ap (λ (c : Claims). c.left) is in
    record {
      claimed_are = ap (λ (c : Claims). c.indexes) is ∙ sym empty;
      long = ap length empty;
      ascends = subst Ascends (sym empty) tt;
      under = subst (AllByRecursion (λ i. i < n)) (sym empty) tt;
      left = omega (arith, left);
    }

-- an index that was answered is the number that was claimed
pub answered : (n number i : ℕ) → Some i ≡ cond (nat_lt number n) (Some number) None → (number ≡ i) × (i < n)
answered n number i is = go (nat_lt number n) refl is
  where
    go : (b : Bool) → nat_lt number n ≡ b → Some i ≡ cond b (Some number) None → (number ≡ i) × (i < n)
    go true less same = let e : number ≡ i = cc in (e, let l = ltb-true number n less in omega arith)
    go false less same = cc

pub unanswered : (n number : ℕ) (r : Option ℕ) → r ≡ None → r ≡ cond (nat_lt number n) (Some number) None → nat_lt number n ≡ false
unanswered n number r none is = go (nat_lt number n) is
  where
    go : (b : Bool) → r ≡ cond b (Some number) None → b ≡ false
    go true same = cc
    go false same = refl

all_push : (P : ℕ → Type 0) (xs : List ℕ) (x : ℕ) → AllByRecursion P xs → P x → AllByRecursion P (xs ++ x ∷ [])
all_push P [] x all p = (p, tt)
all_push P (y ∷ xs) x all p = (all.0, all_push P xs x all.1 p)

pub claiming_more : (n count i : ℕ) (v w : Claims) (indexes next : List ℕ) → count < n → HasClaimed n v w (Some i) → next ≡ indexes ++ i ∷ []
    → Claiming n count v indexes → Claiming n (count + 1) w next
claiming_more n count i v w indexes next room claim pushed c =
    let is = answered n claim.number i claim.answer_is in
    let over = subst (AllByRecursion (λ j. j < claim.number)) c.claimed_are claim.over in
    let over_i = subst (λ (k : ℕ). AllByRecursion (λ j. j < k) indexes) is.0 over in
    let left : w.left + 1 ≡ v.left = (let l : w.left ≡ (claimed v claim.number).left = ap (λ (u : Claims). u.left) claim.after in let k = c.left in omega arith) in
    record {
      claimed_are = ap (λ (u : Claims). u.indexes) claim.after ∙ ap (λ (l : List ℕ). l ++ claim.number ∷ []) c.claimed_are
          ∙ ap (λ (k : ℕ). indexes ++ k ∷ []) is.0 ∙ sym pushed;
      long = ap length pushed ∙ length_push indexes i ∙ ap (λ (k : ℕ). k + 1) c.long;
      ascends = subst Ascends (sym pushed) (ascends_snoc indexes i c.ascends over_i);
      under = subst (AllByRecursion (λ j. j < n)) (sym pushed) (all_push (λ j. j < n) indexes i c.under is.1);
      left = let k = c.left in omega arith;
    }

all_pass : (n : ℕ) (xs : List ℕ) → AllByRecursion (λ i. i < n) xs → xs ≡ filter (λ i. nat_lt i n) xs
all_pass n [] all = refl
all_pass n (x ∷ xs) all = rw (lt-ltb x n all.0) (ap (λ (l : List ℕ). x ∷ l) (all_pass n xs all.1))

-- the worker stops behind an index
pub has_taken : (n count : ℕ) (v : Claims) (indexes : List ℕ) → Claiming n count v indexes → HasTaken n v indexes
has_taken n count v indexes c =
    let long : length v.indexes ≡ count = ap length c.claimed_are ∙ c.long in
    record {
      indexes_are = all_pass n indexes c.under ∙ ap (filter (λ i. nat_lt i n)) (sym c.claimed_are);
      ascends = c.ascends;
      all = let k = c.left in omega arith;
    }

-- or at a number that is no index
pub has_ended : (n count : ℕ) (v w : Claims) (indexes : List ℕ) → count ≤ n → HasClaimed n v w None → Claiming n count v indexes → HasTaken n w indexes
has_ended n count v w indexes room claim c =
    let none = unanswered n claim.number None refl claim.answer_is in
    let last : filter (λ i. nat_lt i n) (claim.number ∷ []) ≡ [] = rw none refl in
    let claimed_are : w.indexes ≡ indexes ++ claim.number ∷ [] = ap (λ (u : Claims). u.indexes) claim.after ∙ ap (λ (l : List ℕ). l ++ claim.number ∷ []) c.claimed_are in
    let long : length w.indexes ≡ count + 1 = ap length claimed_are ∙ length_push indexes claim.number ∙ ap (λ (k : ℕ). k + 1) c.long in
    let left : w.left ≡ (claimed v claim.number).left = ap (λ (u : Claims). u.left) claim.after in
    record {
      indexes_are = all_pass n indexes c.under ∙ sym (append-nil (filter (λ i. nat_lt i n) indexes))
          ∙ ap (λ (l : List ℕ). filter (λ i. nat_lt i n) indexes ++ l) (sym last)
          ∙ sym (filter-append (λ i. nat_lt i n) indexes (claim.number ∷ [])) ∙ ap (filter (λ i. nat_lt i n)) (sym claimed_are);
      ascends = c.ascends;
      all = let k = c.left in omega arith;
    }

-- an index that was answered is one of the bag
pub index_under : (n i : ℕ) (v w : Claims) → HasClaimed n v w (Some i) → i < n
index_under n i v w claim = (answered n claim.number i claim.answer_is).1

pub taken_at : (n : ℕ) (v w : Claims) (old new : List ℕ) → v ≡ w → old ≡ new → HasTaken n v old → HasTaken n w new
taken_at n v w old new claims indexes took = subst (λ (c : Claims). HasTaken n c new) claims (subst (HasTaken n v) indexes took)

-- a worker that took as many as the bag has
pub emptied_whole : (n count : ℕ) (v w : Claims) (indexes next : List ℕ) → count ≡ n → indexes ≡ next → Claiming n count v indexes → HasEmptied n w next
emptied_whole n count v w indexes next whole same c = inl (ap length (sym same) ∙ c.long ∙ whole)

not_under : (number n : ℕ) → nat_lt number n ≡ false → n ≤ number
not_under number n h = grind (arith, nat_tests)

-- or claimed a number that is no index
pub emptied_behind : (n count : ℕ) (v w x : Claims) (indexes next : List ℕ) → w ≡ x → indexes ≡ next → HasClaimed n v w None → Claiming n count v indexes
    → HasEmptied n x next
emptied_behind n count v w x indexes next claims same claim c =
    let claimed_are : w.indexes ≡ indexes ++ claim.number ∷ [] = ap (λ (u : Claims). u.indexes) claim.after ∙ ap (λ (l : List ℕ). l ++ claim.number ∷ []) c.claimed_are in
    inr (
      claim.number,
      not_under claim.number n (unanswered n claim.number None refl claim.answer_is),
      ap (λ (u : Claims). u.indexes) (sym claims) ∙ claimed_are ∙ ap (λ (l : List ℕ). l ++ claim.number ∷ []) same,
    )
