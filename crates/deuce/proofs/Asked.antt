-- Words ask for one command.
use Rattle.std.proofs.Common.{◌≡◌, ◌<◌, ◌^◌, ◌∙◌, ℕ, List, ◌∷◌, [], Option, Some, None, refl, inl, inr, sym, arith}
use Rattle.std.specs.Prelude.{String, codes}
use Rattle.std.specs.declared.alloc.Global.{Global}
use Rattle.std.specs.Fmt.{decimal}
use Rattle.std.proofs.lemmas.Fmt.{decimal_injective}
use Rattle.bankgen.specs.declared.figures.Figures.{Figures}
use Rattle.script.specs.declared.head.EngineKind.{EngineKind}
use Rattle.script.specs.declared.head.EngineKind.TheVariants.{Tl2, Lsa}
use Rattle.deuce.specs.declared.words.BankWords.{BankWords}
use Rattle.deuce.specs.Command.{seen_words, run_words, rewrite_words, engine_words, AreFigures, AsksBank, IsNoBank, NamesFolder}

-- three words are the same each by each
same_words : (a b c x y z : List ℕ) → a ∷ b ∷ c ∷ [] ≡ x ∷ y ∷ z ∷ [] → (a ≡ x) × (b ≡ y) × (c ≡ z)
same_words a b c x y z e = (cc, cc, cc)

other_name : codes "run" ≡ codes "rewrite" → ⊥
other_name e = cc

-- five words or more aren't three
not_five : (a b c x y z u v : List ℕ) (l : List (List ℕ)) → a ∷ b ∷ c ∷ [] ≡ x ∷ y ∷ z ∷ u ∷ v ∷ l → ⊥
not_five a b c x y z u v l e = cc

-- words from five on are the same each by each, and so are those behind them
pub same_five : (a b c d e x y z u v : List ℕ) (l m : List (List ℕ)) → a ∷ b ∷ c ∷ d ∷ e ∷ l ≡ x ∷ y ∷ z ∷ u ∷ v ∷ m → (b ≡ y) × (c ≡ z) × (d ≡ u) × (e ≡ v) × (l ≡ m)
same_five a b c d e x y z u v l m same = (cc, cc, cc, cc, cc)

-- a word names one engine
one_word : (x y : List ℕ) → x ∷ [] ≡ y ∷ [] → x ≡ y
one_word x y e = cc

other_engine : codes "tl2" ≡ codes "lsa" → ⊥
other_engine e = cc

no_word : (x : List ℕ) → [] ≡ x ∷ [] → ⊥
no_word x e = cc

pub one_engine : (o p : Option EngineKind) → engine_words o ≡ engine_words p → o ≡ p
one_engine None None e = refl
one_engine None (Some k) e = absurd (no_word _ e)
one_engine (Some k) None e = absurd (no_word _ (sym e))
one_engine (Some Tl2) (Some Tl2) e = refl
one_engine (Some Tl2) (Some Lsa) e = absurd (other_engine (one_word _ _ e))
one_engine (Some Lsa) (Some Tl2) e = absurd (other_engine (one_word _ _ (sym e)))
one_engine (Some Lsa) (Some Lsa) e = refl

-- words of one seed, and of one number, are of one
one_seed : (m n : ℕ) → m < 2 ^ 32 → n < 2 ^ 32 → decimal m ≡ decimal n → m ≡ n
one_seed m n p q e = decimal_injective m n (omega (arith, p)) (omega (arith, q)) e

one_number : (m n : ℕ) → m < 10 ^ 10 → n < 10 ^ 10 → decimal m ≡ decimal n → m ≡ n
one_number m n p q e = decimal_injective m n (omega (arith, p)) (omega (arith, q)) e

-- numbers that are printed alike are the same
one_figures : (f g : Figures) → AreFigures f → AreFigures g → decimal f.seed ≡ decimal g.seed → decimal f.accounts ≡ decimal g.accounts → decimal f.calls ≡ decimal g.calls → decimal f.lanes ≡ decimal g.lanes
    → f ≡ g
one_figures f g p q s a c l =
    let seed = one_seed f.seed g.seed p.seed q.seed s in
    let accounts = one_number f.accounts g.accounts p.accounts q.accounts a in
    let calls = one_number f.calls g.calls p.calls q.calls c in
    let lanes = one_number f.lanes g.lanes p.lanes q.lanes l in
    λ i. record { seed = seed i; accounts = accounts i; calls = calls i; lanes = lanes i }

module _ (words : List (String Global)) where
  -- words ask for one bank
  pub one_bank : (f g : BankWords) → AsksBank words f → AsksBank words g → f ≡ g
  one_bank f g p q =
      let n = f.figures in
      let m = g.figures in
      let same = same_five (codes "bank") (decimal n.seed) (decimal n.accounts) (decimal n.calls) (decimal n.lanes) (codes "bank") (decimal m.seed) (decimal m.accounts) (decimal m.calls) (decimal m.lanes)
      (engine_words f.engine) (engine_words g.engine) (sym p.1 ∙ q.1) in
      let figures = one_figures n m p.0 q.0 same.0 same.1 same.2 same.3 in
      let engine = one_engine f.engine g.engine same.4 in
      λ i. record { figures = figures i; engine = engine i }

  -- words that name a folder ask for no bank
  pub no_bank : (d : List ℕ) → NamesFolder words d → IsNoBank words
  no_bank d (t, inl p) b a = let f = b.figures in not_five (codes "run") d t (codes "bank") (decimal f.seed) (decimal f.accounts) (decimal f.calls) (decimal f.lanes) (engine_words b.engine) (sym p ∙ a.1)
  no_bank d (t, inr p) b a = let f = b.figures in not_five (codes "rewrite") d t (codes "bank") (decimal f.seed) (decimal f.accounts) (decimal f.calls) (decimal f.lanes) (engine_words b.engine) (sym p ∙ a.1)

  pub one_run : (d s e t : List ℕ) → seen_words words ≡ run_words d s → seen_words words ≡ run_words e t → (d ≡ e) × (s ≡ t)
  one_run d s e t p q = let same = same_words (codes "run") d s (codes "run") e t (sym p ∙ q) in (same.1, same.2)

  pub one_rewriting : (d s e t : List ℕ) → seen_words words ≡ rewrite_words d s → seen_words words ≡ rewrite_words e t → (d ≡ e) × (s ≡ t)
  one_rewriting d s e t p q = let same = same_words (codes "rewrite") d s (codes "rewrite") e t (sym p ∙ q) in (same.1, same.2)

  pub apart : (d s e t : List ℕ) → seen_words words ≡ run_words d s → seen_words words ≡ rewrite_words e t → ⊥
  apart d s e t p q = other_name (same_words (codes "run") d s (codes "rewrite") e t (sym p ∙ q)).0

  -- the folder that a run names
  pub run_folder : (d e t : List ℕ) → NamesFolder words d → seen_words words ≡ run_words e t → d ≡ e
  run_folder d e t (s, inl is) q = (one_run d s e t is q).0
  run_folder d e t (s, inr is) q = absurd (apart e t d s q is)

  -- the folder that a rewriting names
  pub rewriting_folder : (d e t : List ℕ) → NamesFolder words d → seen_words words ≡ rewrite_words e t → d ≡ e
  rewriting_folder d e t (s, inr is) q = (one_rewriting d s e t is q).0
  rewriting_folder d e t (s, inl is) q = absurd (apart d s e t is q)

  -- words name one folder
  pub one_folder : (d e : List ℕ) → NamesFolder words d → NamesFolder words e → d ≡ e
  one_folder d e n (t, inl q) = run_folder d e t n q
  one_folder d e n (t, inr q) = rewriting_folder d e t n q
