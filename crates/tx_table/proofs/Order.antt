-- The order of history, place by place.
use Rattle.std.specs.Prelude.{nat_lt, nat_eq, ◌&&◌, ◌||◌, not}
use Rattle.std.proofs.Common.{◌≡◌, ◌≢◌, ◌⊎◌, ℕ, suc, ◌+◌, ◌*◌, ◌<◌, ◌≤◌, Bool, true, false, cond, sym, refl, ap, ◌∙◌, subst, inl, inr, ⊎_elim, arith, eq-eqb, ne_eqb}
use mathlib.Core.Logic.{dite}
use native.Mathlib.Decide.{ℕ_discrete, dec_le}
use Rattle.std.proofs.Math.Dec.{ltb}
use Rattle.std.proofs.lemmas.Bool.{ltb-true, lt-ltb, le-ltb}
use Rattle.jmodel.specs.history.History.{Call, Entry, round, first_by, precedes}
use Rattle.tx_table.specs.Book.{rises, IsOfLane}

pub bool_or : (b : Bool) → (b ≡ true) ⊎ (b ≡ false)
bool_or true = inl refl
bool_or false = inr refl

pub clash : {A : Type 0} (b : Bool) → b ≡ true → b ≡ false → A
clash b p q = absurd (let z : true ≡ false = sym p ∙ q in cc z)

abbrev Test : ℕ → ℕ → Bool → Bool → Bool → Bool
Test x y c l e = l || (e && c)

pub first_less : (x y : ℕ) (c : Bool) → x < y → first_by x y c ≡ true
first_less x y c h = ap (λ l. Test x y c l (nat_eq x y)) (lt-ltb x y h)

pub first_same : (x y : ℕ) (c : Bool) → x ≡ y → first_by x y c ≡ c
first_same x y c h = (λ i. Test x y c (le-ltb x y (omega (arith, h)) i) (eq-eqb x y h i))

first_more : (x y : ℕ) (c : Bool) → y < x → first_by x y c ≡ false
first_more x y c h = (λ i. Test x y c (le-ltb x y (omega (arith, h)) i) (ne_eqb x y (λ e. absurd (omega (arith, h, e))) i))

pub first_true : (x y : ℕ) (c : Bool) → first_by x y c ≡ true → (x < y) ⊎ ((x ≡ y) × (c ≡ true))
first_true x y c h = dite (ℕ_discrete x y) (λ e. inr (e, sym (first_same x y c e) ∙ h)) (λ n. dite (dec_le x y) (λ l. inl (omega arith)) (λ m. clash (first_by x y c) h (first_more x y c (omega arith))))

pub first_false : (x y : ℕ) (c : Bool) → first_by x y c ≡ false → (y < x) ⊎ ((x ≡ y) × (c ≡ false))
first_false x y c h = dite (ℕ_discrete x y) (λ e. inr (e, sym (first_same x y c e) ∙ h)) (λ n. dite (dec_le x y) (λ l. clash (first_by x y c) (first_less x y c (omega arith)) h) (λ m. inl (omega arith)))

-- twice the stamp, and one more for a reader
abbrev pub rank : Entry → ℕ
rank e = 2 * e.stamp.at + cond e.stamp.update 0 1

pub update_rank : (e : Entry) → e.stamp.update ≡ true → rank e ≡ 2 * e.stamp.at
update_rank e h = ap (λ (u : Bool). let k : ℕ = cond u 0 1 in 2 * e.stamp.at + k) h ∙ omega arith

pub reader_rank : (e : Entry) → e.stamp.update ≡ false → rank e ≡ 2 * e.stamp.at + 1
reader_rank e h = ap (λ (u : Bool). let k : ℕ = cond u 0 1 in 2 * e.stamp.at + k) h

-- one entry comes before another
abbrev pub comes : Entry → Entry → Bool
comes e x = first_by (rank e) (rank x) (rises e.call x.call)

pub comes_rank : (e x : Entry) → comes e x ≡ true → rank e ≤ rank x
comes_rank e x h = ⊎_elim (λ l. omega arith) (λ t. let q = t.0 in omega arith) (first_true (rank e) (rank x) (rises e.call x.call) h)

pub comes_less : (e x : Entry) → rank e < rank x → comes e x ≡ true
comes_less e x h = first_less (rank e) (rank x) (rises e.call x.call) h

pub comes_same : (e x : Entry) → rank e ≡ rank x → rises e.call x.call ≡ true → comes e x ≡ true
comes_same e x h r = first_same (rank e) (rank x) (rises e.call x.call) h ∙ r

chain_by : (x y z : ℕ) (a b c : Bool) → (a ≡ true → b ≡ true → c ≡ true) → first_by x y a ≡ true → first_by y z b ≡ true → first_by x z c ≡ true
chain_by x y z a b c h p q = ⊎_elim
    (λ l. ⊎_elim (λ m. first_less x z c (omega arith)) (λ t. let k = t.0 in first_less x z c (omega arith)) (first_true y z b q))
    (λ t. let k = t.0 in ⊎_elim (λ m. first_less x z c (omega arith)) (λ u. first_same x z c (k ∙ u.0) ∙ h t.1 u.1) (first_true y z b q)) (first_true x y a p)

less_chain : (x y z : ℕ) → nat_lt x y ≡ true → nat_lt y z ≡ true → nat_lt x z ≡ true
less_chain x y z p q = let l = ltb-true x y p in let m = ltb-true y z q in lt-ltb x z (omega arith)

pub rises_chain : (a b c : Call) → rises a b ≡ true → rises b c ≡ true → rises a c ≡ true
rises_chain a b c = chain_by (round a) (round b) (round c) (low a b) (low b c) (low a c)
    (chain_by a.lane b.lane c.lane (nat_lt a.index b.index) (nat_lt b.index c.index) (nat_lt a.index c.index) (less_chain a.index b.index c.index))
  where
    low : Call → Call → Bool
    low d e = first_by d.lane e.lane (nat_lt d.index e.index)

pub comes_chain : (a b c : Entry) → comes a b ≡ true → comes b c ≡ true → comes a c ≡ true
comes_chain a b c = chain_by (rank a) (rank b) (rank c) (rises a.call b.call) (rises b.call c.call) (rises a.call c.call) (rises_chain a.call b.call c.call)

never_by : (x : ℕ) (a : Bool) → a ≡ false → first_by x x a ≡ false
never_by x a h = first_same x x a refl ∙ h

comes_never : (a : Entry) → comes a a ≡ false
comes_never a = never_by (rank a) (rises a.call a.call) (never_by (round a.call) (first_by a.call.lane a.call.lane (nat_lt a.call.index a.call.index)) (never_by a.call.lane (nat_lt a.call.index a.call.index) (le-ltb a.call.index a.call.index (omega arith))))

pub comes_once : {A : Type 0} (a b : Entry) → comes a b ≡ true → comes b a ≡ true → A
comes_once a b p q = clash (comes a a) (comes_chain a b a p q) (comes_never a)

-- of two entries of different regions one comes first
round_or : (c : Call) → (c.region ≡ 0) ⊎ (0 < round c)
round_or c = dite (ℕ_discrete c.region 0) (λ e. inl e) (λ n. inr (subst (λ (k : ℕ). 0 < k) (sym (ap (λ b. cond b 0 (c.phase + 1)) (ne_eqb c.region 0 n))) (omega arith)))

pub round_zero : (c : Call) → c.region ≡ 0 → round c ≡ 0
round_zero c e = ap (λ b. cond b 0 (c.phase + 1)) (eq-eqb c.region 0 e)

same_region : (a b : Call) → IsOfLane a → IsOfLane b → round a ≡ round b → a.lane ≡ b.lane → a.region ≡ b.region
same_region a b f g r l = ⊎_elim
    (λ p. ⊎_elim (λ q. p ∙ sym q) (λ q. let z = round_zero a p in absurd (omega (arith, q, z, r))) (round_or b))
    (λ p. ⊎_elim (λ q. let z = round_zero b q in absurd (omega (arith, p, z, r))) (λ q. ⊎_elim
    (λ h. let z = round_zero a h in absurd (omega (arith, p, z)))
    (λ h. ⊎_elim (λ k. let z = round_zero b k in absurd (omega (arith, q, z))) (λ k. h ∙ (ap suc l ∙ sym k)) g) f) (round_or b)) (round_or a)

pub comes_either : (e x : Entry) → IsOfLane e.call → IsOfLane x.call → e.call.region ≢ x.call.region → comes e x ≡ false → comes x e ≡ true
comes_either e x f g n h = ⊎_elim (λ l. comes_less x e l) (λ t. comes_same x e (sym t.0) (⊎_elim
    (λ l. first_less (round x.call) (round e.call) (first_by x.call.lane e.call.lane (nat_lt x.call.index e.call.index)) l)
    (λ u. ⊎_elim (λ l. first_same (round x.call) (round e.call) (first_by x.call.lane e.call.lane (nat_lt x.call.index e.call.index)) (sym u.0) ∙ first_less x.call.lane e.call.lane (nat_lt x.call.index e.call.index) l)
    (λ w. absurd (n (same_region e.call x.call f g u.0 w.0))) (first_false e.call.lane x.call.lane (nat_lt e.call.index x.call.index) u.1))
    (first_false (round e.call) (round x.call) (first_by e.call.lane x.call.lane (nat_lt e.call.index x.call.index)) t.1))) (first_false (rank e) (rank x) (rises e.call x.call) h)

-- what decides between entries of one stamp
abbrev Rest : Entry → Entry → Bool → Bool → Bool
Rest a b c d = (c && not d) || ((c || not d) && rises a.call b.call)

-- this is the order of histories
pub comes_precedes : (a b : Entry) → comes a b ≡ true → precedes a b ≡ true
comes_precedes a b h = by_kind a.stamp.update b.stamp.update refl refl
  where
    swap : (c d : Bool) → a.stamp.update ≡ c → b.stamp.update ≡ d → first_by a.stamp.at b.stamp.at (Rest a b c d) ≡ true → precedes a b ≡ true
    swap c d p q k = (λ i. first_by a.stamp.at b.stamp.at (Rest a b (p i) (q i))) ∙ k

    by_kind : (c d : Bool) → a.stamp.update ≡ c → b.stamp.update ≡ d → precedes a b ≡ true
    by_kind true true p q = swap true true p q (⊎_elim (λ l. first_less a.stamp.at b.stamp.at (Rest a b true true) (omega (arith, l, update_rank a p, update_rank b q)))
        (λ t. first_same a.stamp.at b.stamp.at (Rest a b true true) (omega (arith, t.0, update_rank a p, update_rank b q)) ∙ t.1) (first_true (rank a) (rank b) (rises a.call b.call) h))
    by_kind false false p q = swap false false p q (⊎_elim (λ l. first_less a.stamp.at b.stamp.at (Rest a b false false) (omega (arith, l, reader_rank a p, reader_rank b q)))
        (λ t. first_same a.stamp.at b.stamp.at (Rest a b false false) (omega (arith, t.0, reader_rank a p, reader_rank b q)) ∙ t.1) (first_true (rank a) (rank b) (rises a.call b.call) h))
    by_kind true false p q = let l = comes_rank a b h in swap true false p q (dite (ℕ_discrete a.stamp.at b.stamp.at) (λ e. first_same a.stamp.at b.stamp.at (Rest a b true false) e)
        (λ n. first_less a.stamp.at b.stamp.at (Rest a b true false) (omega (arith, l, n, update_rank a p, reader_rank b q))))
    by_kind false true p q = let l = comes_rank a b h in swap false true p q (first_less a.stamp.at b.stamp.at (Rest a b false true) (omega (arith, l, reader_rank a p, update_rank b q)))
