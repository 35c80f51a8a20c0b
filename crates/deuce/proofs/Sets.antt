-- Sets of texts.
use Rattle.std.proofs.Common.{◌≡◌, ◌∙◌, ◌↔◌, ◌⊎◌, inl, inr, ℕ, List, [], ◌∷◌, ap, sym, refl, Contains, String, string_bytes, arith}
use Rattle.std.specs.declared.alloc.Global.{Global}
use Rattle.std.specs.declared.cmp.Ordering.{Ordering}
use Rattle.std.specs.declared.cmp.Ordering.TheVariants.{Less, Equal, Greater}
use Rattle.std.specs.Ordering.{is_eq, match_ordering}
use Rattle.std.specs.BTreeSet.{insert_key}
use Rattle.std.specs.String.{string_cmp}
use Rattle.std.proofs.lemmas.Map.Text.{is_eq-slice_cmp}
use Rattle.std.proofs.lemmas.Slice.Eq.{bytes_eq-Decides}
use Rattle.deuce.specs.Listing.{seen_texts}
use Rattle.deuce.proofs.Folders.{first_or, as_other}

tied : (k x : String Global) → string_cmp k x ≡ Equal → string_bytes k ≡ string_bytes x
tied k x e = (bytes_eq-Decides (string_bytes k) (string_bytes x)).0 (sym (is_eq-slice_cmp (string_bytes k) (string_bytes x)) ∙ ap is_eq e)

-- what a set has after a text was put into it
pub inserted : (texts : List (String Global)) (k : String Global) (q : List ℕ) → Contains (seen_texts (insert_key string_cmp texts k)) q ↔ (Contains (seen_texts texts) q ⊎ (q ≡ string_bytes k))
inserted [] k q = (
  λ h. elim (first_or (string_bytes k) [] q h) as (λ _. Contains [] q ⊎ (q ≡ string_bytes k)) [ inl e ↦ inr e | inr a ↦ inl a ],
  λ h. elim h as (λ _. Contains (string_bytes k ∷ []) q) [
    | inl none ↦ let lt = none.1 in absurd (omega (arith, lt))
    | inr e ↦ (0, omega arith, sym e)
  ],
)
inserted (x ∷ xs) k q = go (string_cmp k x) refl (inserted xs k q)
  where
    go : (o : Ordering) → string_cmp k x ≡ o → Contains (seen_texts (insert_key string_cmp xs k)) q ↔ (Contains (seen_texts xs) q ⊎ (q ≡ string_bytes k))
        → Contains (seen_texts (match_ordering o (k ∷ x ∷ xs) (x ∷ xs) (x ∷ insert_key string_cmp xs k))) q ↔ (Contains (seen_texts (x ∷ xs)) q ⊎ (q ≡ string_bytes k))
    go Less e behind = (
      λ h. elim (first_or (string_bytes k) (seen_texts (x ∷ xs)) q h) as (λ _. Contains (seen_texts (x ∷ xs)) q ⊎ (q ≡ string_bytes k)) [ inl is ↦ inr is | inr a ↦ inl a ],
      λ h. elim h as (λ _. Contains (seen_texts (k ∷ x ∷ xs)) q) [ inl a ↦ as_other (string_bytes k) (seen_texts (x ∷ xs)) q a | inr is ↦ (0, omega arith, sym is) ],
    )
    go Equal e behind = (inl, λ h. elim h as (λ _. Contains (seen_texts (x ∷ xs)) q) [ inl a ↦ a | inr is ↦ (0, omega arith, sym (is ∙ tied k x e)) ])
    go Greater e behind = (
      λ h. elim (first_or (string_bytes x) (seen_texts (insert_key string_cmp xs k)) q h) as (λ _. Contains (seen_texts (x ∷ xs)) q ⊎ (q ≡ string_bytes k)) [
        | inl is ↦ inl (0, omega arith, sym is)
        | inr a ↦ elim (behind.0 a) as (λ _. Contains (seen_texts (x ∷ xs)) q ⊎ (q ≡ string_bytes k)) [ inl b ↦ inl (as_other (string_bytes x) (seen_texts xs) q b) | inr is ↦ inr is ]
      ],
      λ h. elim h as (λ _. Contains (seen_texts (x ∷ insert_key string_cmp xs k)) q) [
        | inl a ↦ elim (first_or (string_bytes x) (seen_texts xs) q a) as (λ _. Contains (seen_texts (x ∷ insert_key string_cmp xs k)) q) [
          | inl is ↦ (0, omega arith, sym is)
          | inr b ↦ as_other (string_bytes x) (seen_texts (insert_key string_cmp xs k)) q (behind.1 (inl b))
        ]
        | inr is ↦ as_other (string_bytes x) (seen_texts (insert_key string_cmp xs k)) q (behind.1 (inr is))
      ],
    )
