-- The entries of a log, which have the last word of each address.
use Rattle.std.proofs.Common.{◌≡◌, ◌≢◌, ◌<◌, ◌==◌, ℕ, Bool, true, false, cond, Option as StdOption, Some, None, [], ◌∷◌, All, map, find, nat_eq, option_map, refl, sym, ap, ◌∙◌, eq-eqb, ne_eqb}
use mathlib.Core.Option.{Option, none, some}
use mathlib.Core.Logic.{dite}
use native.Mathlib.Decide.{ℕ_discrete}
use Rattle.std.specs.Cmp.{nat_eq_equiv}
use Rattle.std.specs.List.{IsDistinct}
use Rattle.std.specs.Map as std
use Rattle.std.specs.Map.{keys_of}
use Rattle.std.proofs.lemmas.Map.{lookup-none}
use Rattle.std.proofs.lemmas.Map.Entries.{none_past_head}
use Rattle.std.proofs.lemmas.Map.Keys.{IsDistinct-tail}
use Rattle.jmodel.specs.declared.access.Access.{Access}
use Rattle.jmodel.specs.history.Log.{Log, access, written}
use Rattle.tx_table.specs.Book.{Map, Has, lookup, pairs}
use Rattle.tx_table.proofs.MapLaws.{lookup_here}
use Rattle.tl2.specs.Plans.{AreApart, IsListed}
use Rattle.tl2.proofs.Updating.{bounded}

-- entries as writes
abbrev pub logged : Map ℕ → Log
logged es = map (λ (e : ℕ × ℕ). access e.0 e.1) es

pairs_logged : (es : Map ℕ) → pairs (logged es) ≡ es
pairs_logged [] = refl
pairs_logged (e ∷ es) = ap (λ (m : Map ℕ). e ∷ m) (pairs_logged es)

abbrev plain : Option ℕ → StdOption ℕ
plain none = None
plain (some x) = Some x

plain_one : (x y : Option ℕ) → plain x ≡ plain y → x ≡ y
plain_one none none e = refl
plain_one none (some y) e = let no : ⊥ = cc e in absurd no
plain_one (some x) none e = let no : ⊥ = cc e in absurd no
plain_one (some x) (some y) e = let same : x ≡ y = cc e in ap some same

plain_cond : (b : Bool) (x : ℕ) (o : Option ℕ) → plain (cond b (some x) o) ≡ cond b (Some x) (plain o)
plain_cond true x o = refl
plain_cond false x o = refl

written_plain : (w : Log) (a : ℕ) → written w a ≡ plain (lookup (pairs w) a)
written_plain [] a = refl
written_plain (l ∷ w) a = by (nat_eq l.address a) ∙ ap (cond (nat_eq l.address a) (Some l.word)) (written_plain w a) ∙ sym (plain_cond (l.address == a) l.word (lookup (pairs w) a))
  where
    by : (b : Bool) → option_map (λ (x : Access). x.word) (cond b (Some l) (find (λ (x : Access). nat_eq x.address a) w)) ≡ cond b (Some l.word) (written w a)
    by true = refl
    by false = refl

lookup_plain : (es : Map ℕ) (a : ℕ) → std.lookup (nat_eq a) es ≡ plain (lookup es a)
lookup_plain [] a = refl
lookup_plain (e ∷ es) a = ap (λ (b : Bool). cond b (Some e.1) (std.lookup (nat_eq a) es)) turned ∙ ap (cond (e.0 == a) (Some e.1)) (lookup_plain es a) ∙ sym (plain_cond (e.0 == a) e.1 (lookup es a))
  where
    turned : nat_eq a e.0 ≡ (e.0 == a)
    turned = dite (ℕ_discrete e.0 a)
        (λ q. eq-eqb a e.0 (sym q) ∙ sym (eq-eqb e.0 a q))
        (λ n. ne_eqb a e.0 (λ q. n (sym q)) ∙ sym (ne_eqb e.0 a n))

apart_logged : (es : Map ℕ) → IsDistinct nat_eq (keys_of es) → AreApart (logged es)
apart_logged [] once = tt
apart_logged (e ∷ es) once = (
  ap (λ (m : Map ℕ). lookup m e.0) (pairs_logged es) ∙ plain_one (lookup es e.0) none (sym (lookup_plain es e.0) ∙ lookup-none (nat_eq e.0) es (none_past_head nat_eq_equiv e.0 e es once (eq-eqb e.0 e.0 refl))),
  apart_logged es (IsDistinct-tail nat_eq e.0 (keys_of es) once),
)

module _ (w : Log) (es : Map ℕ) (words : (a : ℕ) → std.lookup (nat_eq a) es ≡ written w a) where
  -- what a log's entries have is what is due
  pub entries_same : (a : ℕ) → lookup (pairs w) a ≡ lookup es a
  entries_same a = plain_one (lookup (pairs w) a) (lookup es a) (sym (written_plain w a) ∙ sym (words a) ∙ lookup_plain es a)

  pub entries_listed : IsDistinct nat_eq (keys_of es) → IsListed (pairs w) (logged es)
  entries_listed once = record { same = λ a. entries_same a ∙ sym (ap (λ (m : Map ℕ). lookup m a) (pairs_logged es)); apart = apart_logged es once }

  pub entries_some : w ≢ [] → es ≢ []
  entries_some some_writes e = none_written w some_writes (λ a. entries_same a ∙ ap (λ (m : Map ℕ). lookup m a) e)
    where
      none_written : (w : Log) → w ≢ [] → ((a : ℕ) → lookup (pairs w) a ≡ none) → ⊥
      none_written [] wrote gone = wrote refl
      none_written (p ∷ w) wrote gone = let no : ⊥ = cc (sym (lookup_here (pairs w) p.address p.word) ∙ gone p.address) in no

  -- each has an address of the words
  pub entries_fit : (n : ℕ) → All (λ (l : Access). l.address < n) w → (a : ℕ) → Has es a → a < n
  entries_fit n all a h = bounded n w all a (h.0, entries_same a ∙ h.1)
