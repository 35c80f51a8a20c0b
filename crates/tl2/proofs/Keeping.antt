-- What a pass keeps between calls, after the steps of an attempt.
use Rattle.std.proofs.Common.{◌≡◌, ◌≤◌, ◌==◌, ℕ, Bool, true, false, cond, List, ◌∷◌, refl, sym, ap, ◌∙◌, inl, inr, subst, arith}
use mathlib.Core.Option.{some}
use Rattle.atomic_table.specs.Seated.{TableId}
use Rattle.jmodel.specs.history.History.{Entry}
use Rattle.tx_table.specs.Book.{Book, Map, Region, In, lookup}
use Rattle.tx_table.specs.Rule.{last_of}
use Rattle.tx_table.specs.Plays.{region_of}
use Rattle.tx_table.specs.declared.shared.Pass.{Pass}
use Rattle.tx_table.specs.Passes.{book, IsSame}
use Rattle.tl2.specs.Standing.{IsBehind, Keeps, region_since}

module _ (began : TableId → Book → Type 0) (p q : Pass) (same : IsSame p q)
    (numbers : (book q).numbers ≡ (book p).numbers) (fresh : (book q).fresh ≡ (book p).fresh) where
  -- no entry was added, nor did a pass that holds every number meet a conflict
  pub keeps_still : (book q).regions ≡ (book p).regions → (book q).entries ≡ (book p).entries → (book p).seen ≤ (book q).seen
      → ((book p).numbers ≡ 1048576 → (book q).lost ≡ (book p).lost) → Keeps began p → Keeps began q
  keeps_still regions entries seen lost k = λ t b o.
      let s = (k t b o).1 in
      let was = s.seen in (
        same.0 ∙ (k t b o).0,
        record {
          numbers = numbers ∙ s.numbers;
          fresh = fresh ∙ s.fresh;
          seen = omega arith;
          made = s.made;
          entries = entries ∙ s.entries;
          behind = s.behind;
          known = λ e i. let l = s.known e i in omega arith;
          regions = λ r. ap (λ (m : Map Region). lookup m r) regions ∙ s.regions r;
          lost = λ whole. lost (s.numbers ∙ whole) ∙ s.lost whole;
        },
      )

  -- one was
  pub keeps_more : (e : Entry) → (book q).regions ≡ region_of e ∷ (book p).regions → (book q).entries ≡ e ∷ (book p).entries → (book p).seen ≤ (book q).seen
      → (book q).lost ≡ (book p).lost → IsBehind (book p).seen e → e.stamp.at ≤ (book q).seen → Keeps began p → Keeps began q
  keeps_more e regions entries seen lost behind known k = λ t b o.
      let s = (k t b o).1 in
      let was = s.seen in (
        same.0 ∙ (k t b o).0,
        record {
          numbers = numbers ∙ s.numbers;
          fresh = fresh ∙ s.fresh;
          seen = omega arith;
          made = e ∷ s.made;
          entries = entries ∙ ap (λ (es : List Entry). e ∷ es) s.entries;
          behind = behind_all b s.made was s.behind;
          known = known_all s.made s.known;
          regions = λ r. ap (λ (m : Map Region). lookup m r) regions ∙ by b s.made r (e.call.region == r) (s.regions r);
          lost = λ whole. lost ∙ s.lost whole;
        },
      )
    where
      behind_all : (b : Book) (es : List Entry) → b.seen ≤ (book p).seen → ((d : Entry) → In d es → IsBehind b.seen d) → (d : Entry) → In d (e ∷ es) → IsBehind b.seen d
      behind_all b es low all d (inl is) = let first = behind.0 in subst (IsBehind b.seen) (sym is) (omega arith, λ u. let more = behind.1 u in omega arith)
      behind_all b es low all d (inr i) = all d i

      known_all : (es : List Entry) → ((d : Entry) → In d es → d.stamp.at ≤ (book p).seen) → (d : Entry) → In d (e ∷ es) → d.stamp.at ≤ (book q).seen
      known_all es all d (inl is) = subst (λ (x : Entry). x.stamp.at ≤ (book q).seen) (sym is) known
      known_all es all d (inr i) = let l = all d i in omega arith

      by : (b : Book) (es : List Entry) (r : ℕ) (c : Bool) → lookup (book p).regions r ≡ region_since (lookup b.regions r) (last_of es r)
          → cond c (some (region_of e).1) (lookup (book p).regions r) ≡ region_since (lookup b.regions r) (cond c (some e) (last_of es r))
      by b es r true l = refl
      by b es r false l = l
