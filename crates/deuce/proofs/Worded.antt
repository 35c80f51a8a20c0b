-- Words that are the numbers of a bank, or aren't.
use Rattle.std.proofs.Common.{◌≡◌, ◌≤◌, ◌<◌, ◌^◌, ◌∙◌, ℕ, List, [], ◌∷◌, length, slice_index_or, Option, Some, None, ◌⊎◌, inl, inr, sym, ap, arith}
use Rattle.std.specs.Prelude.{String, MatchOption, codes}
use Rattle.std.specs.declared.alloc.Global.{Global}
use Rattle.std.specs.Fmt.{decimal}
use Rattle.std.proofs.lemmas.Fmt.{decimal_injective}
use Rattle.script.specs.declared.head.EngineKind.{EngineKind}
use Rattle.deuce.specs.declared.words.BankWords.{BankWords}
use Rattle.bankgen.specs.Numbers.{IsNumber, IsNoNumber}
use Rattle.deuce.specs.Command.{seen_words, bank_words, engine_word, engine_words, AsksBank, IsNoBank, IsNoEngine, AreNoFigures, AreOfBank, IsSeed, IsNoSeed}
use Rattle.deuce.proofs.Asked.{same_five}

-- a list of five by its elements
pub five : {X : Type 0} (xs : List X) (a b c d e : X) → length xs ≡ 5 → a ≡ slice_index_or xs 0 a → b ≡ slice_index_or xs 1 b → c ≡ slice_index_or xs 2 c → d ≡ slice_index_or xs 3 d
    → e ≡ slice_index_or xs 4 e → xs ≡ a ∷ b ∷ c ∷ d ∷ e ∷ []
five [] a b c d e n x y z u v = absurd (omega (arith, n))
five (p ∷ []) a b c d e n x y z u v = absurd (omega (arith, n))
five (p ∷ q ∷ []) a b c d e n x y z u v = absurd (omega (arith, n))
five (p ∷ q ∷ r ∷ []) a b c d e n x y z u v = absurd (omega (arith, n))
five (p ∷ q ∷ r ∷ s ∷ []) a b c d e n x y z u v = absurd (omega (arith, n))
five (p ∷ q ∷ r ∷ s ∷ t ∷ []) a b c d e n x y z u v = cc
five (p ∷ q ∷ r ∷ s ∷ t ∷ w ∷ l) a b c d e n x y z u v = absurd (omega (arith, n))

-- a number of a word is a seed where it has 32 bits, and else the word is none
pub seed_cases : (word : List ℕ) (o : Option ℕ) (number : ℕ) (s : Option ℕ) → MatchOption o (IsNoNumber word) (IsNumber word) → o ≡ Some number → MatchOption s (2 ^ 32 ≤ number) (λ n. (n ≡ number) × (n < 2 ^ 32))
    → MatchOption s (IsNoSeed word) (IsSeed word)
seed_cases word None number s is e h = cc
seed_cases word (Some k) number None is e h = λ n seed.
    let same : k ≡ number = cc in
    let few = is.0 in
    let small = seed.0 in
    let one : k ≡ n = decimal_injective k n (omega (arith, few)) (omega (arith, small)) (sym is.1 ∙ seed.1) in
    omega (arith, same, one, small, h)
seed_cases word (Some k) number (Some n) is e h = let same : k ≡ number = cc in (h.1, is.1 ∙ ap decimal (same ∙ sym h.0))

-- a list of six by its elements
pub six : {X : Type 0} (xs : List X) (a b c d e f : X) → length xs ≡ 6 → a ≡ slice_index_or xs 0 a → b ≡ slice_index_or xs 1 b → c ≡ slice_index_or xs 2 c → d ≡ slice_index_or xs 3 d
    → e ≡ slice_index_or xs 4 e → f ≡ slice_index_or xs 5 f → xs ≡ a ∷ b ∷ c ∷ d ∷ e ∷ f ∷ []
six [] a b c d e f n x y z u v w = absurd (omega (arith, n))
six (p ∷ l) a b c d e f n x y z u v w = let rest = five l b c d e f (omega (arith, n)) y z u v w in cc

module _ (words : List (String Global)) (a b c d : List ℕ) where
  -- four words behind `bank`, and an engine's, ask for a bank where they are its numbers
  asked : (k : BankWords) (o : Option EngineKind) → seen_words words ≡ codes "bank" ∷ a ∷ b ∷ c ∷ d ∷ engine_words o → AreOfBank a b c d o k → AsksBank words k
  asked k o are h =
      let f = h.0 in
      let words_of : List (List ℕ) = engine_words o in
      let tail : engine_words o ≡ engine_words k.engine = ap engine_words (sym h.1) in
      let same : codes "bank" ∷ a ∷ b ∷ c ∷ d ∷ engine_words o ≡ bank_words k = cc (f.1, f.2, f.3, f.4, tail) in
      (f.0, are ∙ same)

  not_asked : (l : List (List ℕ)) → seen_words words ≡ codes "bank" ∷ a ∷ b ∷ c ∷ d ∷ l → AreNoFigures a b c d → IsNoBank words
  not_asked l are none k h =
      let f = k.figures in
      let same = same_five (codes "bank") a b c d (codes "bank") (decimal f.seed) (decimal f.accounts) (decimal f.calls) (decimal f.lanes) l (engine_words k.engine) (sym are ∙ h.1) in
      none f (h.0, same.0, same.1, same.2, same.3)

  no_engine : (word : List ℕ) (o : Option EngineKind) → word ∷ [] ≡ engine_words o → IsNoEngine word → ⊥
  no_engine word None e none = cc
  no_engine word (Some k) e none = none k (let same : word ≡ engine_word k = cc in same)

  not_named : (word : List ℕ) → seen_words words ≡ codes "bank" ∷ a ∷ b ∷ c ∷ d ∷ word ∷ [] → IsNoEngine word → IsNoBank words
  not_named word are none k h =
      let f = k.figures in
      let same = same_five (codes "bank") a b c d (codes "bank") (decimal f.seed) (decimal f.accounts) (decimal f.calls) (decimal f.lanes) (word ∷ []) (engine_words k.engine) (sym are ∙ h.1) in
      no_engine word k.engine same.4 none

  pub bank_cases : (o : Option BankWords) → seen_words words ≡ codes "bank" ∷ a ∷ b ∷ c ∷ d ∷ [] → MatchOption o (AreNoFigures a b c d) (AreOfBank a b c d None) → MatchOption o (IsNoBank words) (AsksBank words)
  bank_cases None are h = not_asked [] are h
  bank_cases (Some k) are h = asked k None are h

  pub engine_cases : (word : List ℕ) (o : Option BankWords) → seen_words words ≡ codes "bank" ∷ a ∷ b ∷ c ∷ d ∷ word ∷ []
      → MatchOption o (AreNoFigures a b c d ⊎ IsNoEngine word) (λ k. (e : EngineKind) × (word ≡ engine_word e) × AreOfBank a b c d (Some e) k) → MatchOption o (IsNoBank words) (AsksBank words)
  engine_cases word None are (inl h) = not_asked (word ∷ []) are h
  engine_cases word None are (inr h) = not_named word are h
  engine_cases word (Some k) are (e, named, h) = asked k (Some e) (are ∙ ap (λ (x : List ℕ). codes "bank" ∷ a ∷ b ∷ c ∷ d ∷ x ∷ []) named) h
