-- What the lists of folders and the reads of class files make together.
use Rattle.std.proofs.Common.{◌≡◌, ◌<◌, ◌≤◌, ◌+◌, ◌∙◌, ℕ, List, [], ◌∷◌, ◌++◌, length, get_or, take, Option, Result, Ok, Err, ap, sym, subst, inl, inr, refl, arith}
use Rattle.std.specs.Prelude.{IfOk, string_bytes, String, Vec, codes, pos}
use Rattle.std.specs.declared.alloc.Global.{Global}
use Rattle.std.specs.List.{AllByRecursion}
use Rattle.std.proofs.lemmas.List.{length-map, get_or-map, map-append, take_more}
use Rattle.deuce_io.specs.Fault.{Call, HasFailed}
use Rattle.deuce_io.proofs.Rising.{rose_since}
use Rattle.deuce_io.specs.Files.{Files}
use Rattle.deuce_io.specs.Seen.{Seen}
use Rattle.deuce_io.specs.declared.end.IoEnd.{IoEnd}
use Rattle.deuce_io.specs.declared.end.IoEnd.TheVariants as io
use Rattle.jmodel.specs.declared.refusal.Refusal.TheVariants.{OverLimit}
use Rattle.deuce.specs.declared.inputs.ClassInput.{ClassInput}
use Rattle.deuce.specs.declared.inputs.InputEnd.{InputEnd}
use Rattle.deuce.specs.declared.inputs.InputEnd.TheVariants as ends
use Rattle.deuce.specs.Folder.{HoldsClasses, HasDeepFolder}
use Rattle.deuce.specs.Listing.{seen_texts}
use Rattle.deuce.specs.Ending.{IsCallOfFolder, Failed, IsClassInput, AreClassInputs, paths_of, EndsListing, EndsReads, EndsInputs, IsOverLimitAs, IsOutsideAt}

-- the paths of one more class file that was read
pub read_more : (paths : List (String Global)) (i : ℕ) (e : String Global) (old new : List ClassInput) (input : ClassInput) → new ≡ old ++ input ∷ [] → paths_of old ≡ take i (seen_texts paths) → i < length paths
    → string_bytes input.relative ≡ string_bytes (get_or paths i e) → paths_of new ≡ take (i + 1) (seen_texts paths)
read_more paths i e old new input more so_far lt is =
    let path = string_bytes input.relative in
    let at : get_or (seen_texts paths) i path ≡ path = get_or-map string_bytes paths i e path lt ∙ sym is in
    ap paths_of more ∙ map-append (λ (k : ClassInput). string_bytes k.relative) old (input ∷ [])
    ∙ ap (λ (l : List (List ℕ)). l ++ path ∷ []) so_far ∙ ap (λ (n : List ℕ). take i (seen_texts paths) ++ n ∷ []) (sym at) ∙ sym (take_more (seen_texts paths) i path (omega (arith, length-map paths string_bytes, lt)))

-- counts that don't fall
pub no_less : (n : ℕ) → n ≤ n
no_less n = omega arith

pub no_less_since : (first before now : ℕ) → first ≤ before → before ≤ now → first ≤ now
no_less_since first before now so_far later = omega arith

-- what is asked later is asked since, and is more that may be asked
module _ (Asks Other : Call → Type 0) (first before now : Seen) (later : first.faults ≤ before.faults) (as_other : (call : Call) → Asks call → Other call) where
  failed_as : (path : List ℕ) → Failed Asks path before now → Failed Other path first now
  failed_as path h = record { rose = rose_since first.faults before.faults now.faults later h.rose; call = h.call; is_last = h.is_last; asked = as_other h.call h.asked; at_path = h.at_path }

  pub reads_as : (e : InputEnd) → EndsReads Asks before now e → EndsReads Other first now e
  reads_as (ends.Outside p) h = failed_as (string_bytes p) h
  reads_as (ends.BadClass p r) h = absurd h
  reads_as (ends.Refused r) h = absurd h
  reads_as ends.NoMemory h = tt

-- a call of the folder that failed, where this may be asked
module _ (Asks : Call → Type 0) (old new : Seen) (call : Call) (asked : Asks call) where
  pub failed_at : (end : IoEnd) (e : InputEnd) → (end ≡ io.Failed → HasFailed old.faults new.faults new.failed call) → IsOutsideAt end call.path e → EndsReads Asks old new e
  failed_at io.Failed (ends.Outside p) h is = let failed = h refl in record { rose = failed.rose; call = call; is_last = failed.is_last; asked = asked; at_path = sym is }
  failed_at io.NoMemory (ends.Outside p) h is = absurd is
  failed_at io.Failed (ends.BadClass p r) h is = absurd is
  failed_at io.NoMemory (ends.BadClass p r) h is = absurd is
  failed_at io.Failed (ends.Refused r) h is = absurd is
  failed_at io.NoMemory (ends.Refused r) h is = absurd is
  failed_at end ends.NoMemory h is = tt

-- what is asked is more that may be asked
pub inputs_as : (Asks Other : Call → Type 0) (dir : List ℕ) (old new : Seen) → ((call : Call) → Asks call → Other call) → (e : InputEnd) → EndsInputs Asks dir old new e → EndsInputs Other dir old new e
inputs_as Asks Other dir old new as_other (ends.Outside p) h = record { rose = h.rose; call = h.call; is_last = h.is_last; asked = as_other h.call h.asked; at_path = h.at_path }
inputs_as Asks Other dir old new as_other (ends.BadClass p r) h = absurd h
inputs_as Asks Other dir old new as_other (ends.Refused r) h = h
inputs_as Asks Other dir old new as_other ends.NoMemory h = tt

module _ (dir : List ℕ) (old new : Seen) where
  -- a folder that can't be listed
  pub unlisted : (e : InputEnd) → EndsReads (IsCallOfFolder old.files dir) old new e → EndsListing dir old new e
  unlisted (ends.Outside p) h = h
  unlisted (ends.BadClass p r) h = absurd h
  unlisted (ends.Refused r) h = absurd h
  unlisted ends.NoMemory h = tt

  -- or one that lies too deep
  pub too_deep : (e : InputEnd) → HasDeepFolder old.files dir → IsOverLimitAs (codes "depth") 17 e → EndsListing dir old new e
  too_deep (ends.Outside p) deep is = absurd is
  too_deep (ends.BadClass p r) deep is = absurd is
  too_deep (ends.Refused r) deep is = record { deep = deep; refusal = is }
  too_deep ends.NoMemory deep is = tt

  -- a folder without paths of class files has none that are read
  pub unread : (e : InputEnd) → EndsListing dir old new e → EndsInputs (IsCallOfFolder old.files dir) dir old new e
  unread (ends.Outside p) h = h
  unread (ends.BadClass p r) h = absurd h
  unread (ends.Refused r) h = inl h
  unread ends.NoMemory h = tt

  -- a folder of too many class files
  pub too_many : (Asks : Call → Type 0) (paths : List (List ℕ)) (count : ℕ) (e : InputEnd) → HoldsClasses old.files dir paths → count ≡ length paths → 256 < count → IsOverLimitAs (codes "classes") count e
      → EndsInputs Asks dir old new e
  too_many Asks paths count (ends.Outside p) held many over is = absurd is
  too_many Asks paths count (ends.BadClass p r) held many over is = absurd is
  too_many Asks paths count (ends.Refused r) held many over is =
      inr (record { paths = paths; class_files = held; many = omega (arith, over, many); refusal = is ∙ ap (λ (n : ℕ). OverLimit (codes "classes") (pos n)) many })
  too_many Asks paths count ends.NoMemory held many over is = tt

  -- a class file that can't be read
  pub not_read : (Asks : Call → Type 0) (e : InputEnd) → EndsReads Asks old new e → EndsInputs Asks dir old new e
  not_read Asks (ends.Outside p) h = h
  not_read Asks (ends.BadClass p r) h = absurd h
  not_read Asks (ends.Refused r) h = absurd h
  not_read Asks ends.NoMemory h = tt

-- each class file was read
pub all_read : (files : Option Files) (dir : List ℕ) (paths : List (List ℕ)) (r : Result (Vec ClassInput Global) InputEnd) → HoldsClasses files dir paths → length paths ≤ 256
    → IfOk r (λ v. paths_of v.items ≡ paths) → IfOk r (λ v. AllByRecursion (IsClassInput files dir) v.items) → IfOk r (λ v. AreClassInputs files dir v.items)
all_read files dir paths (Ok v) held few are each = record {
  class_files = subst (HoldsClasses files dir) (sym are) held;
  few = omega (arith, few, ap length are);
  each = each;
}
all_read files dir paths (Err e) held few are each = tt
