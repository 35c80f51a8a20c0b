-- Files that were read whole.
use Rattle.std.proofs.Common.{◌≡◌, ◌∙◌, ℕ, zero, suc, ◌+◌, ◌≤◌, List, [], ◌∷◌, ◌++◌, length, map, min, Option, Some, None, refl, sym, subst, ap, take, slice_get, inl, inr, arith}
use Rattle.std.specs.Prelude.{option_map, string_bytes, codes, Contains}
use Rattle.std.specs.List.{AllByRecursion, AllZip}
use Rattle.std.proofs.lemmas.List.{length-map, length-take, take_all, map-append}
use Rattle.deuce_io.specs.Files.{Files, inside}
use Rattle.jmodel.specs.declared.refusal.Refusal.{Refusal}
use Rattle.jmodel.specs.declared.value.Answer.{Answer}
use Rattle.jmodel.specs.format.ClassFile.{ClassFile}
use Rattle.jmodel.specs.format.ClassRules.{IsClassFile}
use Rattle.deuce.specs.declared.inputs.ClassInput.{ClassInput}
use Rattle.deuce.specs.declared.inputs.Inputs.{Inputs}
use Rattle.runner.specs.Headline.{IsRunOf}
use Rattle.runner.specs.Faults.{HasFault, IsUnopened}
use Rattle.deuce.specs.Rewritten.{IsRewriting}
use Rattle.script.specs.Script.{script_limit}
use Rattle.deuce.specs.Folder.{class_limit, HoldsClasses, HoldsContents, IsFrontOf, Holds, IsFileOf, IsGoodFile, HasClasses, IsBadClass, helper_path, LacksHelper, AreClassPaths, with_files, placed_with, ArePutUpTo}
use Rattle.deuce.proofs.Lists.{all_at}
use Rattle.objects.specs.declared.event.Event.{Event}
use Rattle.runner.specs.Telling.{TellsRunOf}
use Rattle.deuce.specs.Telling.{TellsJournalOf}
use Rattle.deuce.specs.Ending.{IsClassInput, AreClassInputs, AreInputs, paths_of, AreClassesOf, IsFirstFault, AreLinked, HasBadClasses, IsHelperAmong, IsReservedAs, IsJournalOf, AreRewritten, IsRewritingOf, StopsAt, HasUnopened}

whole : (most limit : ℕ) (o : Option (List ℕ)) (bytes : List ℕ) → most ≡ suc limit → option_map (take most) o ≡ Some bytes → length bytes ≤ limit → o ≡ Some bytes
whole most limit None bytes m e le = absurd (cc)
whole most limit (Some xs) bytes m e le =
    let is : take most xs ≡ bytes = cc (e) in
    let short : min most (length xs) ≤ limit = omega (arith, sym (length-take most xs) ∙ ap length is, le) in
    let all : take most xs ≡ xs = take_all most xs (omega (arith, short, m)) in
    ap (λ (l : List ℕ). Some l) (sym all ∙ is)

holds : (files : Option Files) (path : List ℕ) (most limit : ℕ) (bytes : List ℕ) → most ≡ suc limit → IsFrontOf files path most bytes → length bytes ≤ limit → Holds files path bytes
holds files path most limit bytes m front le = λ told is. whole most limit (told path) bytes m (front told is) le

-- classes that were read keep the rules of class files
pub all_form : (inputs : List ClassInput) (cs : List ClassFile) → AreClassesOf inputs cs → AllByRecursion IsClassFile cs
all_form [] [] good = tt
all_form [] (c ∷ cs) good = absurd good
all_form (i ∷ inputs) [] good = absurd good
all_form (i ∷ inputs) (c ∷ cs) good = (good.0.1.class, all_form inputs cs good.1)

-- the bytes that were read
abbrev pub contents_of : List ClassInput → List (List ℕ)
contents_of inputs = map (λ (i : ClassInput). i.bytes) inputs

pub are_files : (inputs : List ClassInput) (cs : List ClassFile) → AreClassesOf inputs cs → AllZip IsFileOf (contents_of inputs) cs
are_files [] [] good = tt
are_files [] (c ∷ cs) good = absurd good
are_files (i ∷ inputs) [] good = absurd good
are_files (i ∷ inputs) (c ∷ cs) good = (good.0, are_files inputs cs good.1)

module _ (files : Option Files) (dir : List ℕ) where
  -- a class file that is good
  good_file : (input : ClassInput) (c : ClassFile) → IsClassInput files dir input → IsFileOf input.bytes c → IsGoodFile files dir (string_bytes input.relative) c
  good_file input c a is = record {
    bytes = input.bytes;
    holds = holds files (inside dir (string_bytes input.relative)) (class_limit + 1) class_limit input.bytes refl a.class is.0;
    is_file = is;
  }

  good_files : (inputs : List ClassInput) (cs : List ClassFile) → AllByRecursion (IsClassInput files dir) inputs → AreClassesOf inputs cs → AllZip (IsGoodFile files dir) (paths_of inputs) cs
  good_files [] [] a good = tt
  good_files [] (c ∷ cs) a good = absurd good
  good_files (i ∷ inputs) [] a good = absurd good
  good_files (i ∷ inputs) (c ∷ cs) a good = (good_file i c a.0 good.0, good_files inputs cs a.1 good.1)

  -- what holds of the classes of what was read holds of those of the folder
  pub has_classes : (inputs : List ClassInput) (cs : List ClassFile) (Holding : List ClassFile → Type 0) → AreClassInputs files dir inputs → AreClassesOf inputs cs → Holding cs → HasClasses files dir Holding
  has_classes inputs cs Holding a good h = record {
    paths = paths_of inputs;
    class_files = a.class_files;
    few = a.few;
    classes = cs;
    good = good_files inputs cs a.each good;
    holding = h;
  }

  -- the first fault of what was read is one of the class files
  pub bad_class : (inputs : List ClassInput) (path : List ℕ) (r : Refusal) → AreClassInputs files dir inputs → IsFirstFault inputs path r → IsBadClass files dir path r
  bad_class inputs path r a fault =
      let paths : paths_of inputs ≡ paths_of fault.before ++ string_bytes fault.input.relative ∷ paths_of fault.behind =
      ap paths_of fault.are ∙ map-append (λ (i : ClassInput). string_bytes i.relative) fault.before (fault.input ∷ fault.behind) in
      let each = subst (AllByRecursion (IsClassInput files dir)) fault.are a.each in
      let input = the_input fault.before fault.input fault.behind each in
      let at_path : path ≡ inside dir (string_bytes fault.input.relative) = fault.at_path ∙ input.class_path in
      record {
        before = paths_of fault.before;
        relative = string_bytes fault.input.relative;
        behind = paths_of fault.behind;
        class_files = subst (HoldsClasses files dir) paths a.class_files;
        few = subst (λ (ps : List (List ℕ)). length ps ≤ 256) paths a.few;
        classes = fault.classes;
        good = good_files fault.before fault.classes (those_before fault.before (fault.input ∷ fault.behind) each) fault.good;
        class_path = at_path;
        bytes = fault.input.bytes;
        front = subst (λ (p : List ℕ). IsFrontOf files p (class_limit + 1) fault.input.bytes) (sym at_path) input.class;
        fault = fault.fault;
      }
    where
      the_input : (xs : List ClassInput) (i : ClassInput) (ys : List ClassInput) → AllByRecursion (IsClassInput files dir) (xs ++ i ∷ ys) → IsClassInput files dir i
      the_input [] i ys h = h.0
      the_input (x ∷ xs) i ys h = the_input xs i ys h.1

      those_before : (xs ys : List ClassInput) → AllByRecursion (IsClassInput files dir) (xs ++ ys) → AllByRecursion (IsClassInput files dir) xs
      those_before [] ys h = tt
      those_before (x ∷ xs) ys h = (h.0, those_before xs ys h.1)

  -- the class files have what was read
  all_hold : (inputs : List ClassInput) (cs : List ClassFile) → AllByRecursion (IsClassInput files dir) inputs → AreClassesOf inputs cs → AllZip (λ path. Holds files (inside dir path)) (paths_of inputs) (contents_of inputs)
  unfolding good_file
  all_hold [] cs a good = tt
  all_hold (i ∷ inputs) [] a good = absurd good
  all_hold (i ∷ inputs) (c ∷ cs) a good = ((good_file i c a.0 good.0).holds, all_hold inputs cs a.1 good.1)

  pub read_whole : (inputs : List ClassInput) (cs : List ClassFile) → AreClassInputs files dir inputs → AreClassesOf inputs cs → HoldsContents files dir (paths_of inputs) (contents_of inputs)
  read_whole inputs cs a good = record { class_files = a.class_files; few = a.few; each = all_hold inputs cs a.each good }

-- there are as many classes as class files, and so no more than a folder may have
pub same_count : (inputs : List ClassInput) (cs : List ClassFile) → AreClassesOf inputs cs → length cs ≡ length inputs
same_count [] [] good = refl
same_count [] (c ∷ cs) good = absurd good
same_count (i ∷ inputs) [] good = absurd good
same_count (i ∷ inputs) (c ∷ cs) good = ap suc (same_count inputs cs good.1)

pub few_files : (files : Option Files) (dir : List ℕ) (inputs : List ClassInput) (cs : List ClassFile) → AreClassInputs files dir inputs → AreClassesOf inputs cs → length cs ≤ 256
few_files files dir inputs cs a good =
    let few = a.few in
    omega (arith, same_count inputs cs good, length-map inputs (λ (i : ClassInput). string_bytes i.relative), few)

-- ---- the path of the helper of arrays

path_at : (inputs : List ClassInput) (i : ℕ) (input : ClassInput) → slice_get inputs i ≡ Some input → slice_get (paths_of inputs) i ≡ Some (string_bytes input.relative)
path_at [] i input h = cc
path_at (x ∷ inputs) zero input h = let same : x ≡ input = cc in ap (λ (y : ClassInput). Some (string_bytes y.relative)) same
path_at (x ∷ inputs) (suc i) input h = path_at inputs i input h

-- where none of the class files that were read has it, no file stands there
pub lacks_helper : (files : Option Files) (dir : List ℕ) (inputs : List ClassInput) → AreClassInputs files dir inputs → (Contains (paths_of inputs) helper_path → ⊥) → LacksHelper files dir
lacks_helper files dir inputs a none = λ told is. go told (a.class_files told is) (told (inside dir helper_path)) refl
  where
    go : (told : Files) → AreClassPaths told dir (paths_of inputs) → (o : Option (List ℕ)) → told (inside dir helper_path) ≡ o → told (inside dir helper_path) ≡ None
    go told paths None e = e
    go told paths (Some bytes) e = absurd (none ((paths.each helper_path).1 (rw e refl, (codes "org/deuce/transaction/ArrayHelper", refl))))

-- one that has it is good
pub helper_good : (files : Option Files) (dir : List ℕ) (inputs : List ClassInput) (class : ClassFile) → AreClassInputs files dir inputs → IsHelperAmong inputs class → IsGoodFile files dir helper_path class
helper_good files dir inputs class a h =
    let input = all_at (IsClassInput files dir) inputs h.number h.input a.each h.there in
    subst (λ (p : List ℕ). IsGoodFile files dir p class) h.at_helper (good_file files dir h.input class input h.good)

-- why class files that were read are refused before they are typed
pub reserved_of : (files : Option Files) (dir : List ℕ) (inputs : List ClassInput) (cs : List ClassFile) (class : ClassFile) (r : Refusal) → AreClassInputs files dir inputs → AreClassesOf inputs cs
    → IsHelperAmong inputs class → IsReservedAs cs class r → HasBadClasses files dir r
reserved_of files dir inputs cs class r a good h (inl fault) = inl (has_classes files dir inputs cs (HasFault r) a good fault)
reserved_of files dir inputs cs class r a good h (inr (linked, is)) =
    inr (inl (record { linked = has_classes files dir inputs cs AreLinked a good linked; class = class; good = helper_good files dir inputs class a h; refusal = is }))

-- a run of what was read whole
pub journal_of : (files : Option Files) (dir script : List ℕ) (inputs : Inputs) (cs : List ClassFile) (text : List ℕ) → AreInputs files dir script inputs → AreClassesOf inputs.classes.items cs
    → LacksHelper files dir → IsRunOf cs inputs.script text → IsJournalOf files dir script text
journal_of files dir script inputs cs text a good free run =
    record {
      free = free;
      paths = paths_of inputs.classes.items;
      contents = contents_of inputs.classes.items;
      class_files = read_whole files dir inputs.classes.items cs a.of_classes good;
      script_bytes = inputs.script;
      script_holds = holds files script (script_limit + 1) script_limit inputs.script refl a.script_bytes run.are_calls.is_script.fits;
      run = record { files = cs; are_files = are_files inputs.classes.items cs good; run = run };
    }

-- what gates were told of a run of what was read whole
pub told_journal : (files : Option Files) (dir script : List ℕ) (inputs : Inputs) (cs : List ClassFile) (text : List ℕ) (x y : List (Option (List Event))) → AreInputs files dir script inputs
    → AreClassesOf inputs.classes.items cs → length inputs.script ≤ script_limit → TellsRunOf cs inputs.script text x y → TellsJournalOf files dir script text x y
told_journal files dir script inputs cs text x y a good fits told =
    record {
      paths = paths_of inputs.classes.items;
      contents = contents_of inputs.classes.items;
      class_files = read_whole files dir inputs.classes.items cs a.of_classes good;
      script_bytes = inputs.script;
      script_holds = holds files script (script_limit + 1) script_limit inputs.script refl a.script_bytes fits;
      read = cs;
      are_read = are_files inputs.classes.items cs good;
      told = told;
    }

-- a run that doesn't begin, of what was read whole
pub unopened_of : (files : Option Files) (dir script bytes name : List ℕ) (x : Answer) → LacksHelper files dir → IsFrontOf files script (script_limit + 1) bytes → length bytes ≤ script_limit → HasClasses files dir (IsUnopened bytes name x)
    → HasUnopened files dir script name x
unopened_of files dir script bytes name x free front fits h = record { free = free; script_bytes = bytes; script_holds = holds files script (script_limit + 1) script_limit bytes refl front fits; of_classes = h }

-- a rewriting of what was read whole
pub rewritten_of : (files : Option Files) (dir : List ℕ) (inputs : List ClassInput) (cs : List ClassFile) (news : List (List ℕ)) (helper : List ℕ) (taken marked : ℕ) → AreClassInputs files dir inputs → AreClassesOf inputs cs
    → LacksHelper files dir → ((contents : List (List ℕ)) → AllZip IsFileOf contents cs → IsRewriting contents news helper taken marked) → AreRewritten files dir (paths_of inputs) news helper taken marked
rewritten_of files dir inputs cs news helper taken marked a good free made = record {
  free = free;
  contents = contents_of inputs;
  class_files = read_whole files dir inputs cs a good;
  rewriting = made (contents_of inputs) (are_files inputs cs good);
}

module _ (files files' : Option Files) (dir out : List ℕ) (inputs : List ClassInput) (news : List (List ℕ)) (helper : List ℕ) (taken marked : ℕ) (made : AreRewritten files dir (paths_of inputs) news helper taken marked)
    (puts : List (List ℕ × List ℕ)) (are : puts ≡ placed_with out (paths_of inputs) news helper) where
  -- that was put
  pub rewriting_of : (classes : ℕ) → classes ≡ length inputs → files' ≡ option_map (with_files puts) files → IsRewritingOf files files' dir out classes taken marked
  rewriting_of classes count put = record {
    paths = paths_of inputs;
    news = news;
    helper = helper;
    rewriting = made;
    count = count ∙ sym (length-map inputs (λ (i : ClassInput). string_bytes i.relative));
    put = subst (λ (fs : List (List ℕ × List ℕ)). files' ≡ option_map (with_files fs) files) are put;
  }

  -- or the puts of which stopped
  pub stopped_at : (path : List ℕ) → ArePutUpTo puts files files' path → StopsAt files files' dir out path
  stopped_at path put = record {
    paths = paths_of inputs;
    news = news;
    helper = helper;
    taken = taken;
    marked = marked;
    rewriting = made;
    put = subst (λ (fs : List (List ℕ × List ℕ)). ArePutUpTo fs files files' path) are put;
  }
