-- What each outcome of a command says of the words and of the folder, and how it is printed.
use Rattle.std.specs.Prelude.{◌≡◌, ◌⊎◌, ℕ, List, Option, Some, IsSome, codes, string_bytes, String, take}
use Rattle.std.specs.Io.KnownBytes.{append_known}
use Rattle.std.specs.declared.alloc.Global.{Global}
use Rattle.deuce_io.specs.Files.{Files, inside}
use Rattle.deuce_io.specs.Seen.{Seen}
use Rattle.jmodel.specs.declared.refusal.Refusal.{Refusal}
use Rattle.jmodel.specs.declared.value.Answer.{Answer}
use Rattle.jmodel.specs.history.Output.{◌and◌, answer_text, refusal_text, error_text}
use Rattle.deuce.specs.Command.{seen_words, run_words, rewrite_words, AsksBank, IsNoCommand, NamesFolder}
use Rattle.deuce.specs.Bank.{IsSummaryOf, IsOutside, IsBadBank, IsUntypableBank, IsBadBankScript, IsUnopenedBank, CanRunBank}
use Rattle.bankgen.specs.declared.figures.Figures.{Figures}
use Rattle.deuce.specs.declared.words.BankWords.{BankWords}
use Rattle.deuce.specs.Rewritten.{counts_text}
use Rattle.deuce.specs.Folder.{IsBadClass, helper_path}
use Rattle.deuce.specs.Ending.{IsCallOfFolder, IsCallOfRun, Failed, FailedPut, IsJournalOf, IsRewritingOf, StopsAt, HasBadProgram, HasUntypable, HasBadScript, HasUnopened, CanRunIn, CanRewriteIn}
use Rattle.deuce.specs.declared.inputs.InputEnd.{InputEnd}
use Rattle.deuce.specs.declared.inputs.InputEnd.TheVariants as ends
use Rattle.deuce.specs.declared.putting.PutEnd.{PutEnd}
use Rattle.deuce.specs.declared.putting.PutEnd.TheVariants as put_ends
use Rattle.runner.specs.declared.outcome.RunEnd.{RunEnd}
use Rattle.runner.specs.declared.outcome.RunEnd.TheVariants as run_ends
use Rattle.deuce.specs.declared.outcome.Outcome.{Outcome}
use Rattle.deuce.specs.declared.outcome.Outcome.TheVariants.{Journal, Summary, Rewritten, Usage, BadClass, BadProgram, Untyped, BadScript, Unopened, Outside, NotPut}

-- the text that an outcome is printed as
abbrev pub IsTextOf : Outcome → List ℕ → Type 0
IsTextOf (Journal text) printed = printed ≡ text
IsTextOf (Summary text) printed = printed ≡ text
IsTextOf (Rewritten classes taken marked) printed = printed ≡ counts_text classes taken marked
IsTextOf Usage printed = printed ≡ error_text (codes "2") (codes "usage")
IsTextOf (BadClass path refusal) printed = printed ≡ error_text (codes "3") (string_bytes path and refusal_text refusal)
IsTextOf (BadProgram refusal) printed = printed ≡ error_text (codes "4") (refusal_text refusal)
IsTextOf (Untyped refusal) printed = printed ≡ error_text (codes "5") (refusal_text refusal)
IsTextOf (BadScript refusal) printed = printed ≡ error_text (codes "6") (refusal_text refusal)
IsTextOf (Unopened class answer) printed = printed ≡ error_text (codes "7") (class and answer_text answer)
IsTextOf (Outside path) printed = printed ≡ error_text (codes "8") (string_bytes path)
IsTextOf (NotPut path) printed = printed ≡ error_text (codes "11") (string_bytes path)

-- the status of an outcome that is printed whole
abbrev pub status_of : Outcome → ℕ
status_of (Journal text) = 0
status_of (Summary text) = 0
status_of (Rewritten classes taken marked) = 0
status_of Usage = 2
status_of (BadClass path refusal) = 3
status_of (BadProgram refusal) = 4
status_of (Untyped refusal) = 5
status_of (BadScript refusal) = 6
status_of (Unopened class answer) = 7
status_of (Outside path) = 8
status_of (NotPut path) = 11

-- the outcome of a run that ended so
abbrev pub IsRefusedAs : RunEnd → Outcome → Type 0
IsRefusedAs (run_ends.Refused r) o = o ≡ BadProgram r
IsRefusedAs (run_ends.Untyped r) o = o ≡ Untyped r
IsRefusedAs (run_ends.BadScript r) o = o ≡ BadScript r
IsRefusedAs (run_ends.Unopened class x) o = o ≡ Unopened class x
IsRefusedAs run_ends.NoMemory o = ⊥

-- the outcome of a command without inputs, or without their classes
abbrev pub IsUnreadAs : InputEnd → Outcome → Type 0
IsUnreadAs (ends.Outside path) o = o ≡ Outside path
IsUnreadAs (ends.BadClass path r) o = o ≡ BadClass path r
IsUnreadAs (ends.Refused r) o = o ≡ BadProgram r
IsUnreadAs ends.NoMemory o = ⊥

-- the outcome of a rewriting the puts of which ended so
abbrev pub IsNotPutAs : PutEnd → Outcome → Type 0
IsNotPutAs (put_ends.Failed path) o = o ≡ NotPut path
IsNotPutAs put_ends.NoMemory o = ⊥

-- in the folder that the words name, the class file at this path is the first that isn't good, with this fault
abbrev pub IsBadClassOfWords : List (String Global) → Option Files → List ℕ → Refusal → Type 0
IsBadClassOfWords words files path r = (dir : List ℕ) × NamesFolder words dir × IsBadClass files dir path r

-- The words ask for a bank, of whose numbers this holds.
abbrev pub OfBankOfWords : List (String Global) → (Figures → Type 0) → Type 0
OfBankOfWords words Holding = (b : BankWords) × AsksBank words b × Holding b.figures

-- The folder that the words name is refused: it passes a limit of folders, or its class files are good, and they are refused so. Or a bank is.
abbrev pub IsBadProgramOfWords : List (String Global) → Option Files → Refusal → Type 0
IsBadProgramOfWords words files r = ((dir : List ℕ) × NamesFolder words dir × HasBadProgram files dir r) ⊎ OfBankOfWords words (λ f. IsBadBank f r)

-- The class files of the folder that the words name are good, and a method of their classes, or of a bank's, has no typing, as the refusal says.
abbrev pub IsUntypableOfWords : List (String Global) → Option Files → Refusal → Type 0
IsUntypableOfWords words files r = ((dir : List ℕ) × NamesFolder words dir × HasUntypable files dir r) ⊎ OfBankOfWords words (λ f. IsUntypableBank f r)

-- The words ask for a run, and its script has this fault, or for a bank, whose script has it.
abbrev pub IsBadScriptOfWords : List (String Global) → Option Files → Refusal → Type 0
IsBadScriptOfWords words files r =
    ((dir : List ℕ) × (script : List ℕ) × (seen_words words ≡ run_words dir script) × HasBadScript files dir script r) ⊎ OfBankOfWords words (λ f. IsBadBankScript f r)

-- The words ask for a run or a bank, and a static initialiser of its classes, of the class of this name, doesn't return.
abbrev pub IsUnopenedOfWords : List (String Global) → Option Files → List ℕ → Answer → Type 0
IsUnopenedOfWords words files class x =
    ((dir : List ℕ) × (script : List ℕ) × (seen_words words ≡ run_words dir script) × HasUnopened files dir script class x) ⊎ OfBankOfWords words (λ f. IsUnopenedBank f class x)

-- The text is that of the run that the words ask for.
abbrev pub IsJournalOfWords : List (String Global) → Option Files → List ℕ → Type 0
IsJournalOfWords words files text = (dir : List ℕ) × (script : List ℕ) × (seen_words words ≡ run_words dir script) × IsJournalOf files dir script text

-- The text is the summary of the bank that the words ask for.
abbrev pub IsSummaryOfWords : List (String Global) → List ℕ → Type 0
IsSummaryOfWords words text = (b : BankWords) × AsksBank words b × IsSummaryOf b text

-- The rewriting that the words ask for was put, and these are its counts.
abbrev pub IsRewritingOfWords : List (String Global) → Option Files → Option Files → ℕ → ℕ → ℕ → Type 0
IsRewritingOfWords words files files' classes taken marked =
    (dir : List ℕ) × (out : List ℕ) × (seen_words words ≡ rewrite_words dir out) × IsRewritingOf files files' dir out classes taken marked

-- The words ask for a run, and the folder tells files with which that can be made.
abbrev pub CanRunWords : List (String Global) → Option Files → Type 0
CanRunWords words files = (dir : List ℕ) × (script : List ℕ) × (told : Files) × (seen_words words ≡ run_words dir script) × (files ≡ Some told) × CanRunIn told dir script

-- The words ask for a bank that can be run.
abbrev pub CanRunBankOfWords : List (String Global) → Type 0
CanRunBankOfWords words = OfBankOfWords words CanRunBank

-- The words ask for a bank, of whose numbers one is outside its limits.
abbrev pub IsOutsideOfWords : List (String Global) → Type 0
IsOutsideOfWords words = OfBankOfWords words (λ f. (r : Refusal) × IsOutside f r)

-- The words ask for a rewriting, and the folder tells class files that can be rewritten.
abbrev pub CanRewriteWords : List (String Global) → Option Files → Type 0
CanRewriteWords words files = (dir : List ℕ) × (out : List ℕ) × (told : Files) × (seen_words words ≡ rewrite_words dir out) × (files ≡ Some told) × CanRewriteIn told dir

-- The words name a folder that tells its files, and one stands where rewriting puts the helper of arrays.
abbrev pub HasHelperOfWords : List (String Global) → Option Files → Type 0
HasHelperOfWords words files = (dir : List ℕ) × (told : Files) × NamesFolder words dir × (files ≡ Some told) × IsSome (told (inside dir helper_path))

-- a list or a read of the command that the words ask for failed, at this path
abbrev pub FailedOutside : List (String Global) → List ℕ → Seen → Seen → Type 0
FailedOutside words path old new = (dir : List ℕ) × (other : List ℕ)
    × (((seen_words words ≡ run_words dir other) × Failed (IsCallOfRun old.files dir other) path old new)
    ⊎ ((seen_words words ≡ rewrite_words dir other) × Failed (IsCallOfFolder old.files dir) path old new))

-- a put of the rewriting that the words ask for failed, at this path
abbrev pub FailedPutOfWords : List (String Global) → List ℕ → Seen → Seen → Type 0
FailedPutOfWords words path old new =
    (dir : List ℕ) × (out : List ℕ) × (seen_words words ≡ rewrite_words dir out) × FailedPut old new dir out path

-- what puts made of a folder's files: they put each file of a rewriting, or stopped at one
abbrev pub IsPutInto : Option Files → Option Files → List ℕ → List ℕ → Type 0
IsPutInto files files' dir out =
    ((classes : ℕ) × (taken : ℕ) × (marked : ℕ) × IsRewritingOf files files' dir out classes taken marked) ⊎ ((path : List ℕ) × StopsAt files files' dir out path)

-- The files are as before, or the words ask for a rewriting, and its puts made them so.
abbrev pub ArePut : List (String Global) → Option Files → Option Files → Type 0
ArePut words files files' = (files' ≡ files) ⊎ ((dir : List ℕ) × (out : List ℕ) × (seen_words words ≡ rewrite_words dir out) × IsPutInto files files' dir out)

-- the statuses of refusals: nothing was put before them
abbrev pub IsRefusal : ℕ → Type 0
IsRefusal status = (status ≡ 2) ⊎ ((status ≡ 3) ⊎ ((status ≡ 4) ⊎ ((status ≡ 5) ⊎ ((status ≡ 6) ⊎ ((status ≡ 7) ⊎ (status ≡ 8))))))

-- the statuses of a run that can be made: done, or a list, a read or the sink failed, or memory ran out
abbrev pub IsRunOrFailed : ℕ → Type 0
IsRunOrFailed status = (status ≡ 0) ⊎ ((status ≡ 8) ⊎ ((status ≡ 9) ⊎ (status ≡ 10)))

-- the statuses of a bank that can be run: done, or the sink failed, or memory ran out
abbrev pub IsBankRunOrFailed : ℕ → Type 0
IsBankRunOrFailed status = (status ≡ 0) ⊎ ((status ≡ 9) ⊎ (status ≡ 10))

-- the statuses of a bank one of whose numbers is outside its limits: refused, or the sink failed, or memory ran out
abbrev pub IsOutsideOrFailed : ℕ → Type 0
IsOutsideOrFailed status = (status ≡ 4) ⊎ ((status ≡ 9) ⊎ (status ≡ 10))

-- the statuses of a rewriting that can be made: those, or a put failed
abbrev pub IsRewrittenOrFailed : ℕ → Type 0
IsRewrittenOrFailed status = (status ≡ 0) ⊎ ((status ≡ 8) ⊎ ((status ≡ 9) ⊎ ((status ≡ 10) ⊎ (status ≡ 11))))

-- the statuses of a folder with a file where rewriting puts the helper of arrays: a refusal, or a list, a read or the sink failed, or memory ran out
abbrev pub IsRefusedOrFailed : ℕ → Type 0
IsRefusedOrFailed status = (status ≡ 3) ⊎ ((status ≡ 4) ⊎ ((status ≡ 8) ⊎ ((status ≡ 9) ⊎ (status ≡ 10))))

-- all statuses
abbrev pub IsStatus : ℕ → Type 0
IsStatus status = (status ≡ 0) ⊎ ((status ≡ 2) ⊎ ((status ≡ 3) ⊎ ((status ≡ 4) ⊎ ((status ≡ 5) ⊎ ((status ≡ 6) ⊎ ((status ≡ 7)
    ⊎ ((status ≡ 8) ⊎ ((status ≡ 9) ⊎ ((status ≡ 10) ⊎ (status ≡ 11))))))))))

-- an outcome before which nothing is put
abbrev pub Keeps : Outcome → Seen → Seen → Type 0
Keeps (Rewritten classes taken marked) old new = Unit {0}
Keeps (NotPut path) old new = Unit {0}
Keeps o old new = new.files ≡ old.files

-- what an outcome says of the words, and of what the folder told before and tells now
abbrev pub Says : List (String Global) → Seen → Seen → Outcome → Type 0
Says words old new (Journal text) = IsJournalOfWords words old.files text
Says words old new (Summary text) = IsSummaryOfWords words text
Says words old new (Rewritten classes taken marked) = IsRewritingOfWords words old.files new.files classes taken marked
Says words old new Usage = IsNoCommand words
Says words old new (BadClass path refusal) = IsBadClassOfWords words old.files (string_bytes path) refusal
Says words old new (BadProgram refusal) = IsBadProgramOfWords words old.files refusal
Says words old new (Untyped refusal) = IsUntypableOfWords words old.files refusal
Says words old new (BadScript refusal) = IsBadScriptOfWords words old.files refusal
Says words old new (Unopened class answer) = IsUnopenedOfWords words old.files class answer
Says words old new (Outside path) = FailedOutside words (string_bytes path) old new
Says words old new (NotPut path) = FailedPutOfWords words (string_bytes path) old new

abbrev pub IsOutcome : List (String Global) → Seen → Seen → Outcome → Type 0
IsOutcome words old new o = Keeps o old new × Says words old new o

-- bytes were appended, where they are told
abbrev pub Appends : Option (List ℕ) → Option (List ℕ) → List ℕ → Type 0
Appends before now text = now ≡ append_known before text

-- What was written is a front of what the command that the words ask for is printed as.
pub record IsCut (words : List (String Global)) (old new : Seen) (before now : Option (List ℕ)) : Type 0 where
  pub outcome : Outcome
  pub is_outcome : IsOutcome words old new outcome
  pub text : List ℕ
  pub is_text : IsTextOf outcome text
  pub many : ℕ
  pub front : Appends before now (take many text)
