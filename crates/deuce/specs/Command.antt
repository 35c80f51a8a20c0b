-- The forms of the words of the command line.
use Rattle.std.specs.Prelude.{◌≡◌, ◌⊎◌, ℕ, ◌<◌, ◌^◌, List, [], ◌∷◌, Option, Some, None, codes, map, string_bytes, String}
use Rattle.std.specs.declared.alloc.Global.{Global}
use Rattle.std.specs.Fmt.{decimal}
use Rattle.bankgen.specs.declared.figures.Figures.{Figures}
use Rattle.script.specs.declared.head.EngineKind.{EngineKind}
use Rattle.script.specs.declared.head.EngineKind.TheVariants.{Tl2, Lsa}
use Rattle.deuce.specs.declared.words.BankWords.{BankWords}
use Rattle.deuce.specs.declared.words.Command.{Command}
use Rattle.deuce.specs.declared.words.Command.TheVariants.{Run, Rewrite}

-- the words, each as its bytes
abbrev pub seen_words : List (String Global) → List (List ℕ)
seen_words words = map string_bytes words

-- the words of the form `run DIR SCRIPT`
abbrev pub run_words : List ℕ → List ℕ → List (List ℕ)
run_words dir script = codes "run" ∷ dir ∷ script ∷ []

-- the words of the form `rewrite DIR OUT`
abbrev pub rewrite_words : List ℕ → List ℕ → List (List ℕ)
rewrite_words dir out = codes "rewrite" ∷ dir ∷ out ∷ []

-- the word that names an engine
abbrev pub engine_word : EngineKind → List ℕ
engine_word Tl2 = codes "tl2"
engine_word Lsa = codes "lsa"

-- the word behind the numbers of a bank, where there is one
abbrev pub engine_words : Option EngineKind → List (List ℕ)
engine_words None = []
engine_words (Some e) = engine_word e ∷ []

-- the words of the form `bank SEED ACCOUNTS CALLS LANES`, behind which an engine may stand
abbrev pub bank_words : BankWords → List (List ℕ)
bank_words b = codes "bank" ∷ decimal b.figures.seed ∷ decimal b.figures.accounts ∷ decimal b.figures.calls ∷ decimal b.figures.lanes ∷ engine_words b.engine

-- numbers of words: a seed of 32 bits, and others of at most ten digits
pub record AreFigures (f : Figures) : Type 0 where
  pub seed : f.seed < 2 ^ 32
  pub accounts : f.accounts < 10 ^ 10
  pub calls : f.calls < 10 ^ 10
  pub lanes : f.lanes < 10 ^ 10

-- the words ask for this bank
abbrev pub AsksBank : List (String Global) → BankWords → Type 0
AsksBank words b = AreFigures b.figures × (seen_words words ≡ bank_words b)

-- the words ask for this
abbrev pub AreWords : List (String Global) → Command → Type 0
AreWords words (Run dir script) = seen_words words ≡ run_words dir.now script.now
AreWords words (Rewrite dir out) = seen_words words ≡ rewrite_words dir.now out.now

-- the words don't ask for a run
abbrev pub IsNoRun : List (String Global) → Type 0
IsNoRun words = (dir script : List ℕ) → seen_words words ≡ run_words dir script → ⊥

-- the words don't ask for a rewriting
abbrev pub IsNoRewriting : List (String Global) → Type 0
IsNoRewriting words = (dir out : List ℕ) → seen_words words ≡ rewrite_words dir out → ⊥

-- four words are these numbers
abbrev pub AreFiguresOf : (seed accounts calls lanes : List ℕ) → Figures → Type 0
AreFiguresOf seed accounts calls lanes f =
    AreFigures f × (seed ≡ decimal f.seed) × (accounts ≡ decimal f.accounts) × (calls ≡ decimal f.calls) × (lanes ≡ decimal f.lanes)

-- four words aren't the numbers of a bank
abbrev pub AreNoFigures : (seed accounts calls lanes : List ℕ) → Type 0
AreNoFigures seed accounts calls lanes = (f : Figures) → AreFiguresOf seed accounts calls lanes f → ⊥

-- they are the numbers of a bank, for which this engine is named, if any
abbrev pub AreOfBank : (seed accounts calls lanes : List ℕ) → Option EngineKind → BankWords → Type 0
AreOfBank seed accounts calls lanes engine b = AreFiguresOf seed accounts calls lanes b.figures × (b.engine ≡ engine)

-- a word names no engine
abbrev pub IsNoEngine : List ℕ → Type 0
IsNoEngine word = (e : EngineKind) → word ≡ engine_word e → ⊥

-- a word is this seed
abbrev pub IsSeed : List ℕ → ℕ → Type 0
IsSeed word n = (n < 2 ^ 32) × (word ≡ decimal n)

abbrev pub IsNoSeed : List ℕ → Type 0
IsNoSeed word = (n : ℕ) → IsSeed word n → ⊥

-- the words don't ask for a bank
abbrev pub IsNoBank : List (String Global) → Type 0
IsNoBank words = (b : BankWords) → AsksBank words b → ⊥

-- the words ask for nothing over a folder
abbrev pub AsksNoFolder : List (String Global) → Type 0
AsksNoFolder words = IsNoRun words × IsNoRewriting words

-- the words are of no form
abbrev pub IsNoCommand : List (String Global) → Type 0
IsNoCommand words = AsksNoFolder words × IsNoBank words

-- the words name a folder of class files
abbrev pub NamesFolder : List (String Global) → List ℕ → Type 0
NamesFolder words dir = (other : List ℕ) × ((seen_words words ≡ run_words dir other) ⊎ (seen_words words ≡ rewrite_words dir other))
