-- A new entry goes to the end of its region.
use Rattle.std.proofs.Common.{◌≡◌, ◌≢◌, ◌⊎◌, ℕ, ◌<◌, ◌≤◌, true, false, List, [], sym, ap, ◌∙◌, subst, inl, inr, ⊎_elim, arith}
use mathlib.Core.Option.{Option, none, some, some-ne-none}
use mathlib.Core.Logic.{dite}
use native.Mathlib.Decide.{ℕ_discrete}
use Rattle.jmodel.specs.history.History.{Entry}
use Rattle.tx_table.specs.Book.{Map, lookup, pairs, Region, Book}
use Rattle.tx_table.specs.Rule.{Story, used_at, wrote, last_of, region_after, top_of, Succeeds, IsLater, Continues}
use Rattle.tx_table.specs.Plays.{Fits}

-- its stamp is over that of the last entry there
pub later : (e : Entry) (z : Option Entry) → (top_of z < e.stamp.at) ⊎ ((top_of z ≤ e.stamp.at) × (e.stamp.update ≡ false)) → IsLater e z
later e none top = tt
later e (some p) top = ⊎_elim (λ l. inl l) (λ t. ⊎_elim (λ l. inl l) (λ q. inr (q, t.1)) (at_most p.stamp.at e.stamp.at t.0)) top
  where
    at_most : (m k : ℕ) → m ≤ k → (m < k) ⊎ (m ≡ k)
    at_most m k l = dite (ℕ_discrete m k) (λ e. inr e) (λ n. inl (omega arith))

-- writes that are found are some
pub some_writes : (e : Entry) (due : Map ℕ) (a x : ℕ) → pairs e.writes ≡ due → lookup due a ≡ some x → e.writes ≢ []
some_writes e due a x same f empty = some-ne-none x (sym f ∙ (ap (λ m. lookup m a) (sym same) ∙ ap (λ m. lookup (pairs m) a) empty))

module _ (key : Story) (v : Book) (e : Entry) (f : Fits key v e) (H : List Entry) (is : (g : Region) → lookup v.regions e.call.region ≡ some g → region_after (used_at key e.call.region) (last_of H e.call.region) ≡ g) where
  abbrev now : region_after (used_at key e.call.region) (last_of H e.call.region) ≡ f.region.0
  now = is f.region.0 f.region.1

  pub continues : IsLater e (last_of H e.call.region) → (e.stamp.update ≡ true → (a : ℕ) → wrote H e.stamp.at a ≡ none) → (e.stamp.update ≡ false → e.writes ≡ []) → (e.stamp.update ≡ true → e.writes ≢ []) → (e.stamp.update ≡ true → 0 < e.stamp.at) → Continues key H e
  continues is_later fresh reader writer stamped = record {
    used = ap (λ (g : Region). g.used) now ∙ f.region.2;
    call = subst (λ (g : Region). Succeeds e.call g.last) (sym now) f.region.3;
    later = is_later;
    runs = f.runs;
    lane = f.lane;
    fresh = fresh;
    reader = reader;
    writer = writer;
    stamped = stamped;
    stays = f.stays;
  }
