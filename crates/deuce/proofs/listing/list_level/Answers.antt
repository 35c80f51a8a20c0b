use Rattle.std.proofs.Common.{◌≡◌, ◌<◌, ◌+◌, ◌++◌, ◌∷◌, ◌∙◌, [], ℕ, List, length, take, ap, inl, inr, sym, subst, string_bytes, arith}
use Rattle.std.proofs.lemmas.List.{length-map, get_or-map, map-append, take_more, take_all}
use Rattle.deuce_io.specs.Fault.{list_of}
use Rattle.deuce_io.specs.Files.{inside, StandsIn}
use Rattle.deuce.specs.Listing.{seen_texts, TakesIn}
use Rattle.deuce.specs.Ending.{IsCallOfFolder, IsListed}
use Rattle.deuce.specs.declared.inputs.InputEnd.TheVariants.{NoMemory}
use Rattle.deuce.proofs.Levels.{AreTaken, level_more, found_next}
use Rattle.deuce.proofs.Listed.{no_less_since, reads_as}
use Rattle.deuce.proofs.Lists.{err_at}
use Rattle.deuce.proofs.listing.list_level.Goals as goal

pub loop-relative-preserved : goal.loop-relative-preserved
loop-relative-preserved g c =
    let so_far = c.loop-relative.invariant in
    let dir = c.args.dir.now in
    let i = c.loop-relative.relative-index in
    let level = c.args.level.now in
    let relative = string_bytes c.relative-item.result in
    let old = seen_texts c.args.classes.now.keys in
    let between = seen_texts c.loop-relative.classes.keys in
    let new = seen_texts c.list_folder.new.classes.keys in
    let next = seen_texts c.loop-relative.next.items in
    let some = seen_texts c.in_ok-folders.folders.items in
    let more = seen_texts c.append.new.self.items in
    let path : c.as_str.result.now ≡ inside dir relative = c.as_str.ensures.value ∙ c.in_ok-path.ensures.ok in
    let front : c.as_str-in-loop-relative.result.now ≡ relative ++ 47 ∷ [] = c.as_str-in-loop-relative.ensures.value ∙ c.in_ok-front.ensures.ok in
    let less : i < length (seen_texts level) = omega (arith, c.loop-relative-test.true, length-map level string_bytes) in
    let longer : take (i + 1) (seen_texts level) ≡ take i (seen_texts level) ++ relative ∷ [] =
    take_more (seen_texts level) i relative less
    ∙ ap (λ (x : List ℕ). take i (seen_texts level) ++ x ∷ []) (get_or-map string_bytes level i c.relative-item.result relative c.loop-relative-test.true ∙ ap string_bytes (sym c.relative-item.is)) in
    let joined : more ≡ next ++ some = ap seen_texts c.in_ok-append.ensures.items ∙ map-append string_bytes c.loop-relative.next.items c.in_ok-folders.folders.items in
    record {
      taken = λ told is.
          let found = c.in_ok-folders.ensures.found told (so_far.kept ∙ is) in
          level_more told dir (take i (seen_texts level)) (take (i + 1) (seen_texts level)) relative old between new next some more longer joined
          (subst (λ (f : List ℕ). TakesIn (StandsIn told (inside dir relative)) f between new some) front
          (subst (λ (p : List ℕ). TakesIn (StandsIn told p) c.as_str-in-loop-relative.result.now between new some) path found)) (so_far.taken told is);
      named = λ all. c.in_ok-folders.ensures.named (so_far.named all);
      kept = c.list_folder.ensures.files_kept ∙ so_far.kept;
      counts = no_less_since _ _ _ so_far.counts c.list_folder.ensures.counts;
      put_counts = no_less_since _ _ _ so_far.put_counts c.list_folder.ensures.put_counts;
    }

pub returns-in_err-path : goal.returns-in_err-path
returns-in_err-path g c =
    let so_far = c.loop-relative.invariant in
    rw (err_at c.from_residual.result NoMemory c.from_residual.ensures.1) record {
      found = λ told is. tt;
      named = tt;
      files_kept = so_far.kept;
      counts = so_far.counts;
      put_counts = so_far.put_counts;
      cause = tt;
    }

pub returns-in_err-front : goal.returns-in_err-front
returns-in_err-front g c =
    let so_far = c.loop-relative.invariant in
    rw (err_at c.from_residual-in_err-front.result NoMemory c.from_residual-in_err-front.ensures.1) record {
      found = λ told is. tt;
      named = tt;
      files_kept = so_far.kept;
      counts = so_far.counts;
      put_counts = so_far.put_counts;
      cause = tt;
    }

pub returns-in_err-folders : goal.returns-in_err-folders
returns-in_err-folders g c =
    let dir = c.args.dir.now in
    let first = g.F.Folder.seen c.args.folder.now in
    let before = g.F.Folder.seen c.loop-relative.folder in
    let now = g.F.Folder.seen c.list_folder.new.folder in
    let end = c.in_err-folders.field-0.0 in
    let so_far = c.loop-relative.invariant in
    let ends = c.list_folder.ensures in
    let relative = string_bytes c.relative-item.result in
    let path : c.as_str.result.now ≡ inside dir relative = c.as_str.ensures.value ∙ c.in_ok-path.ensures.ok in
    let listed = subst (IsListed first.files dir) (ap string_bytes (sym c.relative-item.is)) (c.requires c.loop-relative.relative-index c.relative-item.result c.loop-relative-test.true) in
    rw (err_at c.from_residual-in_err-folders.result end c.from_residual-in_err-folders.ensures.1) record {
      found = λ told is. tt;
      named = tt;
      files_kept = ends.files_kept ∙ so_far.kept;
      counts = no_less_since _ _ _ so_far.counts ends.counts;
      put_counts = no_less_since _ _ _ so_far.put_counts ends.put_counts;
      cause =
          reads_as (λ call. call ≡ list_of c.as_str.result.now) (IsCallOfFolder first.files dir) first before now so_far.counts
          (λ call is. inr (inl (relative, listed, is ∙ ap list_of path))) end c.in_err-folders.ensures.cause;
    }

pub returns-in_err-append : goal.returns-in_err-append
returns-in_err-append g c =
    let so_far = c.loop-relative.invariant in
    let ends = c.list_folder.ensures in
    rw (err_at c.from_residual-in_err-append.result NoMemory c.from_residual-in_err-append.ensures.1) record {
      found = λ told is. tt;
      named = tt;
      files_kept = ends.files_kept ∙ so_far.kept;
      counts = no_less_since _ _ _ so_far.counts ends.counts;
      put_counts = no_less_since _ _ _ so_far.put_counts ends.put_counts;
      cause = tt;
    }

pub returns : goal.returns
returns g c =
    let so_far = c.loop-relative.invariant in
    record {
      found = λ told is levels found.
          let dir = c.args.dir.now in
          let level = seen_texts c.args.level.now in
          let i = c.loop-relative.relative-index in
          let old = seen_texts c.args.classes.now.keys in
          let new = seen_texts c.loop-relative.classes.keys in
          let next = seen_texts c.loop-relative.next.items in
          let all : take i level ≡ level = take_all i level (omega (arith, c.loop-relative-test.false, length-map c.args.level.now string_bytes)) in
          found_next told dir levels old new level next found (subst (λ (l : List (List ℕ)). AreTaken told dir l old new next) all (so_far.taken told is));
      named = so_far.named;
      files_kept = so_far.kept;
      counts = so_far.counts;
      put_counts = so_far.put_counts;
      cause = tt;
    }
