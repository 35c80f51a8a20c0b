-- What holds of the engine that was chosen.
use Rattle.std.specs.Prelude.{◌≡◌, ℕ, List, length, reverse}
use Rattle.atomic_table.specs.Seated.{TableId}
use Rattle.jmodel.specs.history.History.{Entry}
use Rattle.tx_table.specs.Book.{Book}
use Rattle.tx_table.specs.declared.shared.Pass.{Pass}
use Rattle.tx_table.specs.Passes.{book}
use Rattle.tl2.specs.Standing.{Keeps}
use Rattle.engines.specs.declared.chosen.Chosen.{Chosen}
use Rattle.engines.specs.declared.chosen.Chosen.TheVariants.{Tl2, Lsa}

abbrev pub by_kind : {A B X : Type 0} → (A → X) → (B → X) → Chosen A B → X
by_kind f g (Tl2 a) = f a
by_kind f g (Lsa b) = g b

abbrev pub MatchKind : {A B : Type 0} → Chosen A B → (A → Type 0) → (B → Type 0) → Type 0
MatchKind (Tl2 a) P Q = P a
MatchKind (Lsa b) P Q = Q b

-- what holds of each engine of either kind holds of the chosen one
pub each_kind : {A B : Type 0} (P : Chosen A B → Type 0) → ((a : A) → P (Tl2 a)) → ((b : B) → P (Lsa b)) → (e : Chosen A B) → P e
each_kind P f g (Tl2 a) = f a
each_kind P f g (Lsa b) = g b

-- What an engine of either kind stands for says of its pass: the entries and how many conflicts were met, and what it keeps between calls.
pub record Rests (began : TableId → Book → Type 0) (p : Pass) (h : List Entry) (n : ℕ) : Type 0 where
  pub entries : (book p).entries ≡ reverse h
  pub lost : length (book p).lost ≡ n
  pub keeps : Keeps began p
