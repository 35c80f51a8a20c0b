-- A history in order, the oldest entry first.
use Rattle.std.proofs.Common.{◌==◌, ◌++◌, ◌≡◌, ◌≢◌, ◌⊎◌, ℕ, zero, suc, ◌<◌, Bool, true, false, cond, List, [], ◌∷◌, length, get_or, sym, refl, ap, ◌∙◌, inl, inr, ⊎_elim, arith}
use mathlib.Core.Option.{some}
use mathlib.Core.Logic.{dite}
use native.Mathlib.Decide.{ℕ_discrete}
use Rattle.jmodel.specs.history.History.{Entry, Words, overlaid, memory_after, Agrees, precedes, used_after, IsEntry, used_with, AreEntries, IsOneUpdate, IsLegal}
use Rattle.tx_table.specs.Book.{lookup, In, pairs}
use Rattle.tx_table.specs.Rule.{Story, used_at, start, or_old, last_of, region_after, Continues, IsRegionKept}
use Rattle.std.specs.Prelude.{AllPairs, IsTrue, ◌↔◌, nat_eq, unwrap_or, option_map, find, Some}
use Rattle.std.proofs.lemmas.List.Quantifiers.{all_pairs_push}
use Rattle.jmodel.specs.declared.access.Access.{Access}
use Rattle.jmodel.specs.history.Log.{answered}
use Rattle.tx_table.proofs.MapLaws.{eq_cond, ne_cond}
use Rattle.tx_table.proofs.Order.{comes_precedes}
use Rattle.tx_table.proofs.Sorting.{Sorted, alone_in, region_kept}

-- the same entries, the oldest first
abbrev pub oldest : List Entry → List Entry
oldest [] = []
oldest (e ∷ es) = oldest es ++ e ∷ []

-- the memory after entries, the newest first
abbrev pub memory : (ℕ → ℕ) → List Entry → ℕ → ℕ
memory o [] a = o a
memory o (e ∷ es) a = or_old (lookup (pairs e.writes) a) (memory o es a)

in_snoc : (xs : List Entry) (e p : Entry) → In p (xs ++ e ∷ []) → (p ≡ e) ⊎ In p xs
in_snoc [] e p i = ⊎_elim (λ h. inl h) (λ h. absurd h) i
in_snoc (x ∷ xs) e p i = ⊎_elim (λ h. inr (inl h)) (λ h. ⊎_elim (λ k. inl k) (λ k. inr (inr k)) (in_snoc xs e p h)) i

pub in_oldest : (X : List Entry) (p : Entry) → In p (oldest X) → In p X
in_oldest [] p i = i
in_oldest (x ∷ xs) p i = ⊎_elim (λ h. inl h) (λ h. inr (in_oldest xs p h)) (in_snoc (oldest xs) x p i)

in_at : (xs : List Entry) (k : ℕ) (d : Entry) → k < length xs → In (get_or xs k d) xs
in_at [] k d l = absurd (omega arith)
in_at (x ∷ xs) zero d l = inl refl
in_at (x ∷ xs) (suc k) d l = inr (in_at xs k d (omega arith))

pub over_write : (w : List Access) (τ : Words) (a : ℕ) → answered w a (τ a) ≡ or_old (lookup (pairs w) a) (τ a)
over_write [] τ a = refl
over_write (l ∷ r) τ a = by_test (l.address == a) (over_write r τ a)
  where
    by_test : (b : Bool) → answered r a (τ a) ≡ or_old (lookup (pairs r) a) (τ a)
        → unwrap_or (option_map (λ (k : Access). k.word) (cond b (Some l) (find (λ (k : Access). nat_eq k.address a) r))) (τ a) ≡ or_old (cond b (some l.word) (lookup (pairs r) a)) (τ a)
    by_test true h = refl
    by_test false h = h

after_snoc : (h : List Entry) (e : Entry) (σ : Words) (a : ℕ) → memory_after (h ++ e ∷ []) σ a ≡ or_old (lookup (pairs e.writes) a) (memory_after h σ a)
after_snoc [] e σ a = over_write e.writes σ a
after_snoc (x ∷ h) e σ a = after_snoc h e (overlaid x.writes σ) a

pub memory_is : (o : ℕ → ℕ) (X : List Entry) (a : ℕ) → memory_after (oldest X) o a ≡ memory o X a
memory_is o [] a = refl
memory_is o (e ∷ es) a = after_snoc (oldest es) e o a ∙ ap (or_old (lookup (pairs e.writes) a)) (memory_is o es a)

used_snoc : (h : List Entry) (e : Entry) (r u : ℕ) → used_after (h ++ e ∷ []) r u ≡ cond (nat_eq e.call.region r) e.used_after (used_after h r u)
used_snoc [] e r u = refl
used_snoc (x ∷ h) e r u = used_snoc h e r (cond (nat_eq x.call.region r) x.used_after u)

pub used_is : (X : List Entry) (r u : ℕ) → used_after (oldest X) r u ≡ (region_after u (last_of X r)).used
used_is [] r u = refl
used_is (e ∷ es) r u = used_snoc (oldest es) e r u ∙ dite (ℕ_discrete e.call.region r)
    (λ h. eq_cond e.call.region r e.used_after (used_after (oldest es) r u) h ∙ ap (λ z. (region_after u z).used) (sym (eq_cond e.call.region r (some e) (last_of es r) h)))
    (λ n. ne_cond e.call.region r e.used_after (used_after (oldest es) r u) n ∙ (used_is es r u ∙ ap (λ z. (region_after u z).used) (sym (ne_cond e.call.region r (some e) (last_of es r) n))))

-- the used words of all regions after entries
abbrev useds : List Entry → (ℕ → ℕ) → ℕ → ℕ
useds [] u = u
useds (x ∷ h) u = useds h (used_with u x)

useds_are : (h : List Entry) (u : ℕ → ℕ) (r : ℕ) → useds h u r ≡ used_after h r (u r)
useds_are [] u r = refl
useds_are (x ∷ h) u r = useds_are h (used_with u x) r

entries_snoc : (h : List Entry) (e : Entry) (σ : Words) (u : ℕ → ℕ) → AreEntries σ u h → IsEntry (memory_after h σ) (useds h u) e → AreEntries σ u (h ++ e ∷ [])
entries_snoc [] e σ u a i = (i, tt)
entries_snoc (x ∷ h) e σ u a i = (a.0, entries_snoc h e (overlaid x.writes σ) (used_with u x) a.1 i)

agrees_all : (σ : Words) (l : List Access) → ((a x : ℕ) → In (a, x) (pairs l) → σ a ≡ x) → Agrees σ l
agrees_all σ [] h = tt
agrees_all σ (y ∷ ys) h = (h y.address y.word (inl refl), agrees_all σ ys (λ a x i. h a x (inr i)))

-- each entry agrees with the memory before it
abbrev pub Agree : (ℕ → ℕ) → List Entry → Type 0
Agree o [] = Unit {0}
Agree o (e ∷ es) = ((a x : ℕ) → In (a, x) (pairs e.reads) → memory o es a ≡ x) × Agree o es

is_update : (key : Story) (es : List Entry) (e : Entry) → Continues key es e → IsTrue e.stamp.update ↔ (e.writes ≢ [])
is_update key es e c = by_kind e.stamp.update refl
  where
    by_kind : (b : Bool) → e.stamp.update ≡ b → IsTrue e.stamp.update ↔ (e.writes ≢ [])
    by_kind true f = (λ t. c.writer f, λ n. f)
    by_kind false f = (λ t. let z : true ≡ false = sym t ∙ f in cc z, λ n. absurd (n (c.reader f)))

module _ (key : Story) where
  are_entries : (X : List Entry) → Sorted key X → Agree (start key) X → AreEntries (start key) (used_at key) (oldest X)
  are_entries [] h a = tt
  are_entries (e ∷ es) h a = entries_snoc (oldest es) e (start key) (used_at key) (are_entries es h.2 a.1) record {
    update = is_update key es e h.0;
    reads = agrees_all (memory_after (oldest es) (start key)) e.reads (λ b x i. memory_is (start key) es b ∙ a.0 b x i);
    used_before = sym (useds_are (oldest es) (used_at key) e.call.region ∙ (used_is es e.call.region (used_at key e.call.region) ∙ h.0.used));
    stays = h.0.stays;
  }

  ordered : (X : List Entry) → Sorted key X → AllPairs (λ a b. precedes a b ≡ true) (oldest X)
  ordered [] h = λ i j d l m. absurd (omega arith)
  ordered (e ∷ es) h = all_pairs_push (λ a b. precedes a b ≡ true) (oldest es) e (ordered es h.2) (λ k d l. comes_precedes (get_or (oldest es) k d) e (h.1 (get_or (oldest es) k d) (in_oldest es (get_or (oldest es) k d) (in_at (oldest es) k d l))))

  stamps : (X : List Entry) → Sorted key X → AllPairs (λ a b. ¬ IsOneUpdate a b) (oldest X)
  stamps [] h = λ i j d l m. absurd (omega arith)
  stamps (e ∷ es) h = all_pairs_push (λ a b. ¬ IsOneUpdate a b) (oldest es) e (stamps es h.2)
      (λ k d l t. alone_in key es e (get_or (oldest es) k d) h.2 h.0.fresh (in_oldest es (get_or (oldest es) k d) (in_at (oldest es) k d l)) t.0 t.1 (sym t.2))

  pub regions_kept : (X : List Entry) → Sorted key X → AllPairs IsRegionKept (oldest X)
  regions_kept [] h = λ i j d l m. absurd (omega arith)
  regions_kept (e ∷ es) h = all_pairs_push IsRegionKept (oldest es) e (regions_kept es h.2)
      (λ k d l. region_kept key es e (get_or (oldest es) k d) (used_at key e.call.region) h.2 h.0.call (in_oldest es (get_or (oldest es) k d) (in_at (oldest es) k d l)))

  pub is_legal : (X : List Entry) → Sorted key X → Agree (start key) X → IsLegal (start key) (used_at key) (oldest X)
  is_legal X h a = record { ordered = ordered X h; stamps = stamps X h; entries = are_entries X h a }
