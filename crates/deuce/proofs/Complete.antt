-- What can be run is run, and what can be rewritten is rewritten; and a folder with a file at the path of the helper of arrays is neither.
use Rattle.std.proofs.Common.{◌≡◌, ◌≤◌, ◌+◌, ◌⊎◌, ℕ, List, [], ◌∷◌, ◌++◌, length, take, Option, Some, None, inl, inr, refl, sym, ap, ◌∙◌, subst, arith}
use Rattle.std.specs.Prelude.{String, string_bytes, option_map}
use Rattle.std.specs.declared.alloc.Global.{Global}
use Rattle.std.specs.List.{AllZip}
use Rattle.std.proofs.lemmas.List.{take_all}
use Rattle.deuce_io.specs.Files.{Files, inside}
use Rattle.jmodel.specs.declared.refusal.Refusal.{Refusal}
use Rattle.jmodel.specs.declared.value.Answer.{Answer}
use Rattle.jmodel.specs.format.ClassFile.{ClassFile}
use Rattle.jmodel.specs.format.ClassRules.{Spells}
use Rattle.objects.specs.semantics.Program.{Program}
use Rattle.class_reader.proofs.ClassLaws.{class_again}
use Rattle.deuce.specs.Command.{seen_words, run_words, rewrite_words, IsNoBank, IsNoCommand, NamesFolder}
use Rattle.script.specs.Script.{script_limit}
use Rattle.runner.specs.Headline.{IsRunnable, CanRun}
use Rattle.runner.specs.Faults.{HasFault, IsBadRewriting, IsUntypable, IsBadScript, IsUnopened}
use Rattle.runner.proofs.Complete.{no_bad_program, all_typed, good_script, opens}
use Rattle.deuce.specs.Rewritten.{CanRewrite}
use Rattle.deuce.specs.declared.outcome.Outcome.{Outcome}
use Rattle.deuce.specs.declared.outcome.Outcome.TheVariants.{Journal, Summary, Rewritten, Usage, BadClass, BadProgram, Untyped, BadScript, Unopened, Outside, NotPut}
use Rattle.deuce.specs.Folder.{helper_path, LacksHelper, class_limit, HoldsClasses, IsTooDeep, HasManyClasses, IsOverfull, IsGoodFile, HasClasses, IsBadClass}
use Rattle.deuce.specs.Ending.{HasReservedPath, HasBadClasses, HasBadProgram, HasUntypable, HasBadScript, HasUnopened, CanRunIn, CanRewriteIn}
use Rattle.deuce_io.specs.Seen.{Seen}
use Rattle.deuce.specs.Outcomes.{Says, IsBadProgramOfWords, IsUntypableOfWords, IsBadClassOfWords, IsBadScriptOfWords, IsUnopenedOfWords, HasHelperOfWords, CanRunWords, CanRewriteWords, IsRefusedOrFailed, status_of}
use Rattle.deuce.proofs.Folders.{same_paths}
use Rattle.deuce.proofs.Asked.{one_run, no_bank, apart, one_folder, run_folder, rewriting_folder}

-- bytes spell one class
one_class : (bytes : List ℕ) (a b : ClassFile) → Spells bytes a → Spells bytes b → a ≡ b
one_class bytes a b p q = let both = sym (class_again bytes a p) ∙ class_again bytes b q in cc

-- the front of a file that is no longer than that
front_is : (told : Option (List ℕ)) (most : ℕ) (whole front : List ℕ) → told ≡ Some whole → option_map (take most) told ≡ Some front → length whole ≤ most → front ≡ whole
front_is told most whole front is cut few =
    let some : option_map (take most) (Some whole) ≡ Some front = subst (λ (o : Option (List ℕ)). option_map (take most) o ≡ Some front) is cut in
    let all = take_all most whole few in
    let same : take most whole ≡ front = cc (some) in
    sym same ∙ all

-- ---- the classes of a folder

module _ (told : Files) (dir : List ℕ) where
  -- a file is good for one class
  same_file : (path : List ℕ) (a b : ClassFile) → IsGoodFile (Some told) dir path a → IsGoodFile (Some told) dir path b → a ≡ b
  same_file path a b p q =
      let bytes : p.bytes ≡ q.bytes = let x = p.holds told refl in let y = q.holds told refl in cc in
      one_class q.bytes a b (subst (λ (l : List ℕ). Spells l a) bytes p.is_file.1) q.is_file.1

  same_files : (paths : List (List ℕ)) (xs ys : List ClassFile) → AllZip (IsGoodFile (Some told) dir) paths xs → AllZip (IsGoodFile (Some told) dir) paths ys → xs ≡ ys
  same_files [] [] [] p q = refl
  same_files [] [] (b ∷ ys) p q = absurd q
  same_files [] (a ∷ xs) ys p q = absurd p
  same_files (path ∷ paths) [] ys p q = absurd p
  same_files (path ∷ paths) (a ∷ xs) [] p q = absurd q
  same_files (path ∷ paths) (a ∷ xs) (b ∷ ys) p q =
      ap (λ (c : ClassFile). c ∷ xs) (same_file path a b p.0 q.0) ∙ ap (λ (cs : List ClassFile). b ∷ cs) (same_files paths xs ys p.1 q.1)

  paths_are : (xs ys : List (List ℕ)) → HoldsClasses (Some told) dir xs → HoldsClasses (Some told) dir ys → xs ≡ ys
  paths_are xs ys a b = same_paths told dir xs ys (a told refl) (b told refl)

  module _ (Holding : List ClassFile → Type 0) (can : HasClasses (Some told) dir Holding) where
    -- what holds of the classes of the folder holds of these
    held : (Other : List ClassFile → Type 0) → HasClasses (Some told) dir Other → Other can.classes
    held Other has =
        let paths = paths_are has.paths can.paths has.class_files can.class_files in
        let good = subst (λ (ps : List (List ℕ)). AllZip (IsGoodFile (Some told) dir) ps has.classes) paths has.good in
        subst Other (same_files can.paths has.classes can.classes good can.good) has.holding

    -- there aren't too many
    not_many : (r : Refusal) → HasManyClasses (Some told) dir r → ⊥
    not_many r h =
        let paths = paths_are h.paths can.paths h.class_files can.class_files in
        let many = h.many in
        let few = can.few in
        omega (arith, many, few, ap length paths)

    -- nor does one lie too deep
    not_deep : (r : Refusal) → IsTooDeep (Some told) dir r → ⊥
    not_deep r h =
        let at = h.deep told refl in
        let paths = can.class_files told refl in
        let shallow = paths.shallow at.0 at.1 in
        let deep = at.2 in
        omega (arith, shallow, deep)

    fits : (r : Refusal) → IsOverfull (Some told) dir r → ⊥
    fits r (inl deep) = not_deep r deep
    fits r (inr many) = not_many r many

    -- each file among them is good
    good_at : (before : List (List ℕ)) (path : List ℕ) (behind : List (List ℕ)) (cs : List ClassFile) → AllZip (IsGoodFile (Some told) dir) (before ++ path ∷ behind) cs → (c : ClassFile) × IsGoodFile (Some told) dir path c
    good_at [] path behind [] good = absurd good
    good_at [] path behind (c ∷ cs) good = (c, good.0)
    good_at (b ∷ before) path behind [] good = absurd good
    good_at (b ∷ before) path behind (c ∷ cs) good = good_at before path behind cs good.1

    no_fault : (path : List ℕ) (r : Refusal) → IsBadClass (Some told) dir path r → ⊥
    no_fault path r bad =
        let paths = paths_are can.paths (bad.before ++ bad.relative ∷ bad.behind) can.class_files bad.class_files in
        let one = good_at bad.before bad.relative bad.behind can.classes (subst (λ (ps : List (List ℕ)). AllZip (IsGoodFile (Some told) dir) ps can.classes) paths can.good) in
        let good = one.1 in
        let within = good.is_file.0 in
        let holds : told path ≡ Some good.bytes = rw bad.class_path (good.holds told refl) in
        let bytes : bad.bytes ≡ good.bytes = front_is (told path) (class_limit + 1) good.bytes bad.bytes holds (bad.front told refl) (omega (arith, within)) in
        elim (bad.fault) as (λ _. ⊥) [
          | inl long ↦ let size : length bad.bytes ≡ length good.bytes = ap length bytes in omega (arith, long.0, size, within)
          | inr none ↦ none.1.0 one.0 (subst (λ (b : List ℕ). Spells b one.0) (sym bytes) good.is_file.1)
        ]

-- ---- class files that can be run or rewritten

-- what is said of refused class files isn't said of them
module _ (words : List (String Global)) (told : Files) (dir : List ℕ) (free : told (inside dir helper_path) ≡ None) (Holding : List ClassFile → Type 0) (has : HasClasses (Some told) dir Holding)
    (P : Program) (can : IsRunnable has.classes P) (named : (d : List ℕ) → NamesFolder words d → d ≡ dir) (other : IsNoBank words) where
  no_bad_class : (files : Option Files) (path : List ℕ) (r : Refusal) → files ≡ Some told → IsBadClassOfWords words files path r → ⊥
  no_bad_class files path r is h = no_fault told dir Holding has path r (rw (is, named h.0 h.1) at h.2)

  no_reserved : (r : Refusal) → HasReservedPath (Some told) dir r → ⊥
  no_reserved r h = let some = h.good.holds told refl in cc

  no_program_fault : (files : Option Files) (r : Refusal) → files ≡ Some told → IsBadProgramOfWords words files r → ⊥
  no_program_fault files r is (inr h) = other h.0 h.1
  no_program_fault files r is (inl h) = refused (rw (is, named h.0 h.1) at h.2)
    where
      classes : HasBadClasses (Some told) dir r → ⊥
      classes (inl bad) = no_bad_program has.classes P r can (inl (held told dir Holding has (HasFault r) bad))
      classes (inr (inl bad)) = no_reserved r bad
      classes (inr (inr bad)) = no_bad_program has.classes P r can (inr (held told dir Holding has (IsBadRewriting r) bad.1))

      refused : HasBadProgram (Some told) dir r → ⊥
      refused (inl over) = fits told dir Holding has r over
      refused (inr bad) = classes bad

  none_untyped : (files : Option Files) (r : Refusal) → files ≡ Some told → IsUntypableOfWords words files r → ⊥
  none_untyped files r is (inr h) = other h.0 h.1
  none_untyped files r is (inl h) = typed (rw (is, named h.0 h.1) at h.2)
    where
      typed : HasUntypable (Some told) dir r → ⊥
      typed bad = all_typed has.classes P r can (held told dir Holding has (IsUntypable r) bad.1)

-- ---- runs

abbrev CanRunOn : List ℕ → List ClassFile → Type 0
CanRunOn bytes files = CanRun files bytes

module _ (words : List (String Global)) (told : Files) (dir script : List ℕ) (asked : seen_words words ≡ run_words dir script) (can : CanRunIn told dir script) where
  abbrev has : HasClasses (Some told) dir (CanRunOn can.script_bytes)
  has = can.of_classes

  held_by : (Other : List ClassFile → Type 0) → HasClasses (Some told) dir Other → Other has.classes
  held_by Other h = held told dir (CanRunOn can.script_bytes) has Other h

  run_named : (d : List ℕ) → NamesFolder words d → d ≡ dir
  run_named d n = run_folder words d dir script n asked

  not_bank : IsNoBank words
  not_bank = no_bank words dir (script, inl asked)

  script_taken : (r : Refusal) → HasBadScript (Some told) dir script r → ⊥
  script_taken r bad =
      let fits = has.holding.is_script.fits in
      let front : bad.script_bytes ≡ can.script_bytes = front_is (told script) (script_limit + 1) can.script_bytes bad.script_bytes can.script_holds (bad.script_front told refl) (omega (arith, fits)) in
      let of_classes : IsBadScript can.script_bytes r has.classes = subst (λ (b : List ℕ). IsBadScript b r has.classes) front (held_by (IsBadScript bad.script_bytes r) bad.of_classes) in
      good_script has.classes can.script_bytes r has.holding of_classes

  good_script_of_words : (files : Option Files) (r : Refusal) → files ≡ Some told → IsBadScriptOfWords words files r → ⊥
  good_script_of_words files r is (inr h) = not_bank h.0 h.1
  good_script_of_words files r is (inl h) = let same = one_run words h.0 h.1 dir script h.2 asked in script_taken r (rw (is, same.0, same.1) at h.3)

  opened : (class : List ℕ) (x : Answer) → HasUnopened (Some told) dir script class x → ⊥
  opened class x bad =
      let a = can.script_holds in
      let b = bad.script_holds told refl in
      let bytes : bad.script_bytes ≡ can.script_bytes = cc in
      opens has.classes can.script_bytes class x has.holding (subst (λ (l : List ℕ). IsUnopened l class x has.classes) bytes (held_by (IsUnopened bad.script_bytes class x) bad.of_classes))

  opens_of_words : (files : Option Files) (class : List ℕ) (x : Answer) → files ≡ Some told → IsUnopenedOfWords words files class x → ⊥
  opens_of_words files class x is (inr h) = not_bank h.0 h.1
  opens_of_words files class x is (inl h) = let same = one_run words h.0 h.1 dir script h.2 asked in opened class x (rw (is, same.0, same.1) at h.3)

  -- no status of a refusal
  run_completes : (old new : Seen) (o : Outcome) (status : ℕ) → old.files ≡ Some told → Says words old new o → status ≡ status_of o
      → (status ≡ 0) ⊎ ((status ≡ 8) ⊎ ((status ≡ 9) ⊎ (status ≡ 10)))
  run_completes old new (Journal text) status is h s = inl s
  run_completes old new (Summary text) status is h s = inl s
  run_completes old new (Rewritten n taken marked) status is h s = inl s
  run_completes old new Usage status is h s = absurd (h.0.0 dir script asked)
  run_completes old new (BadClass path r) status is h s =
      absurd (no_bad_class words told dir can.free (CanRunOn can.script_bytes) has has.holding.program has.holding.runnable run_named not_bank old.files (string_bytes path) r is h)
  run_completes old new (BadProgram r) status is h s =
      absurd (no_program_fault words told dir can.free (CanRunOn can.script_bytes) has has.holding.program has.holding.runnable run_named not_bank old.files r is h)
  run_completes old new (Untyped r) status is h s =
      absurd (none_untyped words told dir can.free (CanRunOn can.script_bytes) has has.holding.program has.holding.runnable run_named not_bank old.files r is h)
  run_completes old new (BadScript r) status is h s = absurd (good_script_of_words old.files r is h)
  run_completes old new (Unopened class x) status is h s = absurd (opens_of_words old.files class x is h)
  run_completes old new (Outside path) status is h s = inr (inl s)
  run_completes old new (NotPut path) status is h s = absurd (apart words dir script h.0 h.1 asked h.2)

pub complete : (words : List (String Global)) (old new : Seen) (o : Outcome) (status : ℕ) → Says words old new o → status ≡ status_of o → CanRunWords words old.files
    → (status ≡ 0) ⊎ ((status ≡ 8) ⊎ ((status ≡ 9) ⊎ (status ≡ 10)))
complete words old new o status h s can = run_completes words can.2 can.0 can.1 can.3 can.5 old new o status can.4 h s

-- ---- rewritings

module _ (words : List (String Global)) (told : Files) (dir out : List ℕ) (asked : seen_words words ≡ rewrite_words dir out) (can : CanRewriteIn told dir) where
  rewriting_named : (d : List ℕ) → NamesFolder words d → d ≡ dir
  rewriting_named d n = rewriting_folder words d dir out n asked

  -- no status of a refusal
  rewriting_completes : (old new : Seen) (o : Outcome) (status : ℕ) → old.files ≡ Some told → Says words old new o → status ≡ status_of o
      → (status ≡ 0) ⊎ ((status ≡ 8) ⊎ ((status ≡ 9) ⊎ ((status ≡ 10) ⊎ (status ≡ 11))))
  rewriting_completes old new (Journal text) status is h s = inl s
  rewriting_completes old new (Summary text) status is h s = inl s
  rewriting_completes old new (Rewritten n taken marked) status is h s = inl s
  rewriting_completes old new Usage status is h s = absurd (h.0.1 dir out asked)
  rewriting_completes old new (BadClass path r) status is h s =
      absurd (no_bad_class words told dir can.free CanRewrite can.of_classes can.of_classes.holding.0 can.of_classes.holding.1 rewriting_named (no_bank words dir (out, inr asked)) old.files (string_bytes path) r is h)
  rewriting_completes old new (BadProgram r) status is h s =
      absurd (no_program_fault words told dir can.free CanRewrite can.of_classes can.of_classes.holding.0 can.of_classes.holding.1 rewriting_named (no_bank words dir (out, inr asked)) old.files r is h)
  rewriting_completes old new (Untyped r) status is h s =
      absurd (none_untyped words told dir can.free CanRewrite can.of_classes can.of_classes.holding.0 can.of_classes.holding.1 rewriting_named (no_bank words dir (out, inr asked)) old.files r is h)
  rewriting_completes old new (BadScript r) status is (inl h) s = absurd (apart words h.0 h.1 dir out h.2 asked)
  rewriting_completes old new (BadScript r) status is (inr h) s = absurd (no_bank words dir (out, inr asked) h.0 h.1)
  rewriting_completes old new (Unopened class x) status is (inl h) s = absurd (apart words h.0 h.1 dir out h.2 asked)
  rewriting_completes old new (Unopened class x) status is (inr h) s = absurd (no_bank words dir (out, inr asked) h.0 h.1)
  rewriting_completes old new (Outside path) status is h s = inr (inl s)
  rewriting_completes old new (NotPut path) status is h s = inr (inr (inr (inr s)))

pub complete_rewriting : (words : List (String Global)) (old new : Seen) (o : Outcome) (status : ℕ) → Says words old new o → status ≡ status_of o → CanRewriteWords words old.files
    → (status ≡ 0) ⊎ ((status ≡ 8) ⊎ ((status ≡ 9) ⊎ ((status ≡ 10) ⊎ (status ≡ 11))))
complete_rewriting words old new o status h s can = rewriting_completes words can.2 can.0 can.1 can.3 can.5 old new o status can.4 h s

-- ---- a file at the path of the helper of arrays

not_free : (words : List (String Global)) (files : Option Files) (d : List ℕ) → NamesFolder words d → LacksHelper files d → HasHelperOfWords words files → ⊥
not_free words files d names free has = go (subst (λ (e : List ℕ). LacksHelper files e) (one_folder words d has.0 names has.2) free has.1 has.3)
  where
    go : has.1 (inside has.0 helper_path) ≡ None → ⊥
    go none = let some = has.4 in cc

no_usage : (words : List (String Global)) (files : Option Files) → IsNoCommand words → HasHelperOfWords words files → ⊥
no_usage words files none (dir, told, (other, inl w), is, some) = none.0.0 dir other w
no_usage words files none (dir, told, (other, inr w), is, some) = none.0.1 dir other w

-- nothing is run or rewritten
pub helper_refused : (words : List (String Global)) (old new : Seen) (o : Outcome) (status : ℕ) → Says words old new o → status ≡ status_of o → HasHelperOfWords words old.files → IsRefusedOrFailed status
helper_refused words old new (Journal text) status h s has = absurd (not_free words old.files h.0 (h.1, inl h.2) h.3.free has)
helper_refused words old new (Summary text) status h s has = absurd (no_bank words has.0 has.2 h.0 h.1)
helper_refused words old new (Rewritten n taken marked) status h s has = absurd (not_free words old.files h.0 (h.1, inr h.2) h.3.rewriting.free has)
helper_refused words old new Usage status h s has = absurd (no_usage words old.files h has)
helper_refused words old new (BadClass path r) status h s has = inl s
helper_refused words old new (BadProgram r) status h s has = inr (inl s)
helper_refused words old new (Untyped r) status (inr h) s has = absurd (no_bank words has.0 has.2 h.0 h.1)
helper_refused words old new (Untyped r) status (inl h) s has = absurd (not_free words old.files h.0 h.1 h.2.0 has)
helper_refused words old new (BadScript r) status (inr h) s has = absurd (no_bank words has.0 has.2 h.0 h.1)
helper_refused words old new (BadScript r) status (inl h) s has = absurd (not_free words old.files h.0 (h.1, inl h.2) h.3.free has)
helper_refused words old new (Unopened class x) status (inr h) s has = absurd (no_bank words has.0 has.2 h.0 h.1)
helper_refused words old new (Unopened class x) status (inl h) s has = absurd (not_free words old.files h.0 (h.1, inl h.2) h.3.free has)
helper_refused words old new (Outside path) status h s has = inr (inr (inl s))
helper_refused words old new (NotPut path) status h s has = absurd (not_free words old.files h.0 (h.1, inr h.2) h.3.stopped.rewriting.free has)
