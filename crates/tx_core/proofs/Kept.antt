-- Entries of a log, one write later.
use Rattle.std.proofs.Common.{◌≡◌, ◌≢◌, ◌<◌, ◌≤◌, ◌++◌, ◌∷◌, [], ℕ, Bool, true, false, cond, true≢false, List, Some, Result, Ok, Err, is_ok, nat_eq, length, reverse, option_map, unwrap_or, find, slice_index, slice_set, refl, sym, ap, ◌∙◌, subst, arith}
use Rattle.std.proofs.lemmas.Bool.Decides.{nat_tests}
use Rattle.std.proofs.lemmas.List.{map-append, reverse-append, get_or-set_same, get_or-set_other}
use Rattle.std.proofs.lemmas.Map.{lookup-none}
use Rattle.std.proofs.lemmas.Map.Entries.{none_past_head}
use Rattle.std.specs.Cmp.{nat_eq_equiv}
use Rattle.std.specs.List.{IsDistinct}
use Rattle.std.specs.Map.{lookup, keys_of}
use Rattle.std.specs.Result.{OnOk}
use Rattle.std.specs.declared.snapshot.Snapshot.{Snapshot}
use Rattle.indexmap.specs.IndexMap.{insert_entry}
use Rattle.indexmap.specs.IndexSet.{insert_key}
use Rattle.indexmap.proofs.SetLemmas.{keys_insert_entry}
use Rattle.jmodel.specs.declared.access.Access.{Access}
use Rattle.jmodel.specs.history.Log.{Log, written}
use Rattle.tx_core.specs.Kept.{IsIndexed, accesses_of, first_written}

written_more : (w : Log) (l : Access) (a : ℕ) → written (l ∷ w) a ≡ cond (nat_eq l.address a) (Some l.word) (written w a)
written_more w l a = by (nat_eq l.address a) refl
  where
    by : (b : Bool) → nat_eq l.address a ≡ b → option_map (λ (x : Access). x.word) (cond b (Some l) (find (λ (x : Access). nat_eq x.address a) w)) ≡ cond b (Some l.word) (written w a)
    by true e = refl
    by false e = refl

pub indexed_more : (shown : List (Snapshot Access)) (s : Snapshot Access) (l : Access) (es fs : List (ℕ × ℕ)) → s.value ≡ l → IsIndexed (accesses_of shown) es
    → ((a : ℕ) → lookup (nat_eq a) fs ≡ cond (nat_eq l.address a) (Some l.word) (lookup (nat_eq a) es)) → fs ≡ insert_entry nat_eq es l.address l.word
    → IsIndexed (accesses_of (shown ++ s ∷ [])) fs
indexed_more shown s l es fs is was updates entries = record {
  words = λ a. updates a ∙ ap (cond (nat_eq l.address a) (Some l.word)) (was.words a) ∙ sym (ap (λ (w : Log). written w a) turned ∙ written_more (reverse (accesses_of shown)) l a);
  order = ap keys_of entries ∙ keys_insert_entry nat_eq es l.address l.word ∙ ap (λ (ks : List ℕ). insert_key nat_eq ks l.address) was.order ∙ sym (ap first_written turned);
}
  where
    turned : reverse (accesses_of (shown ++ s ∷ [])) ≡ l ∷ reverse (accesses_of shown)
    turned = ap (λ (k : Log). reverse k) (map-append (λ (x : Snapshot Access). x.value) shown (s ∷ [])) ∙ reverse-append (accesses_of shown) (s.value ∷ []) ∙ ap (λ (k : Access). k ∷ reverse (accesses_of shown)) is

pub on_ok : {T E P : Type 0} (r : Result T E) → is_ok r ≡ true → OnOk r P → P
on_ok (Ok x) e p = p
on_ok (Err x) e p = absurd (true≢false (sym e))

-- the words that entries give over others, after the first was stored
pub stored_first : (words : List ℕ) (e : ℕ × ℕ) (es : List (ℕ × ℕ)) (a : ℕ) → a < length words → IsDistinct nat_eq (keys_of (e ∷ es))
    → unwrap_or (lookup (nat_eq a) es) (slice_index (slice_set words e.0 e.1) a) ≡ unwrap_or (lookup (nat_eq a) (e ∷ es)) (slice_index words a)
stored_first words e es a below once = by (nat_eq a e.0) refl
  where
    by : (b : Bool) → nat_eq a e.0 ≡ b → unwrap_or (lookup (nat_eq a) es) (slice_index (slice_set words e.0 e.1) a) ≡ unwrap_or (cond b (Some e.1) (lookup (nat_eq a) es)) (slice_index words a)
    by true q =
        let here : a ≡ e.0 = grind (arith, nat_tests) in
        let none = lookup-none (nat_eq a) es (none_past_head nat_eq_equiv a e es once q) in
        rw none (subst (λ (i : ℕ). slice_index (slice_set words i e.1) a ≡ e.1) here (get_or-set_same words a e.1 0 below))
    by false q =
        let other : a ≢ e.0 = grind (arith, nat_tests) in
        ap (unwrap_or (lookup (nat_eq a) es)) (get_or-set_other words e.0 a e.1 0 other)

-- and where it lies beyond their end
pub passed_first : (words : List ℕ) (e : ℕ × ℕ) (es : List (ℕ × ℕ)) (a : ℕ) → a < length words → length words ≤ e.0
    → unwrap_or (lookup (nat_eq a) es) (slice_index words a) ≡ unwrap_or (lookup (nat_eq a) (e ∷ es)) (slice_index words a)
passed_first words e es a below past = by (nat_eq a e.0) refl
  where
    by : (b : Bool) → nat_eq a e.0 ≡ b → unwrap_or (lookup (nat_eq a) es) (slice_index words a) ≡ unwrap_or (cond b (Some e.1) (lookup (nat_eq a) es)) (slice_index words a)
    by true q = let no : ⊥ = grind (arith, nat_tests) in absurd no
    by false q = refl
