-- The table at the start meets the rule.
use Rattle.std.proofs.Common.{◌≡◌, ℕ, zero, suc, ◌+◌, ◌*◌, ◌<◌, ◌≤◌, true, false, List, [], ◌∷◌, length, get_or, sym, refl, ap, ◌∙◌, subst, inl, arith}
use mathlib.Core.Option.{none, some, some-injective, some-ne-none}
use mathlib.Core.Logic.{dite}
use native.Mathlib.Decide.{ℕ_discrete}
use lib.ListN.{get_elem?}
use Rattle.atomic_table.specs.Table.{State, opening}
use Rattle.tx_table.specs.Book.{Map, lookup, Region, Unticked, Book}
use Rattle.tx_table.specs.Rule.{Story, used_at, start, wrote, value, region_after, World, Knows, faces, IsSole, world, or_zero}
use Rattle.tx_table.specs.Steps.{IsKept}
use Rattle.tx_table.specs.Plays.{first_book, opening_regions}
use Rattle.tx_table.proofs.MapLaws.{eq_cond, ne_cond}
use Rattle.tx_table.proofs.Settled.{ticked_busy, decided_busy}

-- the table at the start
alone : (key : Story) (P : ℕ → Book → Type 0) → P 0 (first_book key) → (j : ℕ) (b : Book) → get_elem? (first_book key ∷ []) j ≡ some b → P j b
alone key P h zero b e = subst (P 0) (some-injective (first_book key) b e) h
alone key P h (suc j) b e = absurd (some-ne-none b (sym e))

idle : (key : Story) (k : ℕ) → ((faces (first_book key ∷ []) k).stage ≡ Unticked) × ((faces (first_book key ∷ []) k).held ≡ []) × ((faces (first_book key ∷ []) k).left ≡ [])
idle key zero = (refl, refl, refl)
idle key (suc k) = (refl, refl, refl)

dead₀ : {A : Type 0} → false ≡ true → A
dead₀ l = absurd (let z : false ≡ true = l in cc z)

-- a region that no entry has yet
opened_region : (m : Map ℕ) (q : ℕ) (g : Region) → lookup (opening_regions m) q ≡ some g → region_after (or_zero (lookup m q)) none ≡ g
opened_region [] q g e = absurd (some-ne-none g (sym e))
opened_region (y ∷ ys) q g e = dite (ℕ_discrete y.0 q)
    (λ h. let new : Region = record { used = y.1; last = none } in ap (λ z. region_after (or_zero z) none) (eq_cond y.0 q (some y.1) (lookup ys q) h) ∙ some-injective new g (sym (eq_cond y.0 q (some new) (lookup (opening_regions ys) q) h) ∙ e))
    (λ n. let new : Region = record { used = y.1; last = none } in ap (λ z. region_after (or_zero z) none) (ne_cond y.0 q (some y.1) (lookup ys q) n) ∙ opened_region ys q g (sym (ne_cond y.0 q (some new) (lookup (opening_regions ys) q) n) ∙ e))

module _ (S : Type 0) (key : Story) (words : List ℕ) (wide : length words ≡ length key.words + 4097) (zeros : (i : ℕ) → i < 4097 → get_or words i 0 ≡ 0) (heap : (a : ℕ) → get_or words (a + 4097) 0 ≡ get_or key.words a 0) where
  abbrev s₀ : State S Book
  s₀ = opening words [] (first_book key)

  abbrev W₀ : World
  W₀ = world s₀.words s₀.views (λ i. 0) (λ i. 0) (λ i. 0) (λ i. 0) []

  only_one : (j : ℕ) (b : Book) → get_elem? (first_book key ∷ []) j ≡ some b → j ≡ 0
  only_one zero b e = refl
  only_one (suc j) b e = absurd (some-ne-none b (sym e))

  pub opens : IsKept key s₀
  opens = let clock : get_or words 0 0 ≡ 0 = zeros 0 (omega arith) in record {
    ver = λ i. 0;
    holder = λ i. 0;
    whose = λ i. 0;
    keeper = λ i. 0;
    log = [];
    wide = wide;
    clock_is = clock;
    stripes = λ i l. zeros (i + 1) (omega arith);
    locks = record {
      young = λ i. omega arith;
      grip = λ k. let f = idle key k in record {
        listed = λ i h. absurd (omega arith);
        only = λ i y h. absurd (some-ne-none y (sym h ∙ ap (λ m. lookup m i) f.1));
        over = λ i h b. absurd (omega arith);
        owns = λ a d. absurd (ticked_busy (faces (first_book key ∷ []) k).stage d f.0);
        left = λ a y h. absurd (some-ne-none y (sym h ∙ ap (λ m. lookup m a) f.2));
        ticks = λ b. absurd (b f.0);
        apart = λ i d. absurd (ticked_busy (faces (first_book key ∷ []) k).stage d f.0);
        unused = λ a d. refl;
        placed = λ a d. absurd (decided_busy (faces (first_book key ∷ []) k).stage d f.0);
      };
      quiet = λ t a y l e. absurd (some-ne-none y (sym e));
      heap = λ a. inl (heap a ∙ ap (λ t. value (start key) (wrote []) t a) (sym clock));
      ended = λ t a l. refl;
    };
    annals = record { agree = λ e h. absurd h; stamps = λ e h. absurd h };
    chain = tt;
    account = λ h. refl;
    each = alone key (Knows (start key) (used_at key) W₀) record {
      known = omega arith;
      bounded = omega arith;
      stamps = λ e i. absurd i;
      ticked = λ d. absurd (ticked_busy Unticked d refl);
      decided = λ d. refl;
      aim = λ i h. absurd (omega arith);
      own_reads = λ a x l. dead₀ l;
      reads = λ a x l. dead₀ l;
      checked = λ a x l. dead₀ l;
      goal = λ l. dead₀ l;
      ahead = λ l u. dead₀ l;
      look = λ l. tt;
      regions = λ q g e. (refl, opened_region key.regions q g e, omega arith, λ l. omega arith);
    };
    counts = record {
      numbers = refl;
      spare = alone key (λ j b. b.ticks ≤ b.numbers * 1099511627776) (omega arith);
      number = alone key (λ j b. b.face.number < 1048576) (omega arith);
      idle = alone key (λ j b. b.numbers ≡ 0 → (b.entries ≡ []) × (b.face.held ≡ [])) (λ z. (refl, refl));
    };
    distinct = record {
      stock = alone key (λ j b. b.fresh < 1048576) (omega arith);
      single = λ j k b c m e f. absurd (m (only_one j b e ∙ sym (only_one k c f)));
      given = λ j k b c e f some. inl (alone key (λ i d. d.face.number ≡ 0) refl j b e);
      differ = λ j k b c m e f. absurd (m (only_one j b e ∙ sym (only_one k c f)));
    };
    sole = alone key (λ j b. b.numbers ≡ 1048576 → b.live ≡ true → IsSole (get_or words 0 0) b) (λ n l. dead₀ l);
  }
