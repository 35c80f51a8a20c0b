use Rattle.std.proofs.Common.{rules, true, false, eqb, vec_len, ◌≡◌, ◌∙◌, [], ℕ, List, Option, inl, sym, subst, String, arith}
use Rattle.std.specs.declared.alloc.Global.{Global}
use Rattle.std.specs.List.{All}
use Rattle.deuce_io.specs.Fault.{list_of}
use Rattle.deuce_io.specs.Files.{Files, StandsIn}
use Rattle.deuce.specs.Folder.{IsClassFileName}
use Rattle.deuce.specs.Listing.{seen_texts, TakesIn, AreFound}
use Rattle.deuce.specs.Ending.{IsCallOfFolder}
use Rattle.deuce.specs.declared.inputs.InputEnd.TheVariants.{NoMemory}
use Rattle.deuce.proofs.Levels.{found_first, listable, left_over, all_found, all_named}
use Rattle.deuce.proofs.Listed.{no_less, no_less_since, reads_as, unlisted, too_deep}
use Rattle.deuce.proofs.Lists.{err_at, not_empty, is_empty}
use Rattle.deuce.proofs.listing.class_paths.Goals as goal

-- so many levels were listed
abbrev Listed : Files → List ℕ → ℕ → List (String Global) → List (String Global) → Type 0
Listed told dir levels classes level = AreFound told dir levels (seen_texts classes) (seen_texts level)

pub levels-init : goal.levels-init
levels-init g c =
    let dir = c.args.dir.now in
    let new = seen_texts c.list_folder.new.classes.keys in
    let folders = seen_texts c.in_ok-level.level.items in
    let none : All IsClassFileName (seen_texts c.new-classes.result.keys) = subst (λ (ks : List (String Global)). All IsClassFileName (seen_texts ks)) (sym c.new-classes.ensures.empty) (λ k d lt. absurd (omega (arith, lt))) in
    record {
      found = λ told is. found_first told dir new folders
          (subst (λ (ks : List (String Global)). TakesIn (StandsIn told dir) [] (seen_texts ks) new folders) c.new-classes.ensures.empty (c.in_ok-level.ensures.found told is));
      named = c.in_ok-level.ensures.named none;
      kept = c.list_folder.ensures.files_kept;
      counts = c.list_folder.ensures.counts;
      put_counts = c.list_folder.ensures.put_counts;
    }

pub list_level-requires : goal.list_level-requires
list_level-requires g c = rw c.as_slice.ensures.value (λ k d lt told is.
    listable told c.args.dir.now c.levels.counter (seen_texts c.levels.classes.keys) c.levels.level.items (c.levels.invariant.found told (sym c.levels.invariant.kept ∙ is)) (omega (arith, c.levels-test.true)) k d lt)

pub levels-preserved : goal.levels-preserved
levels-preserved g c =
    let so_far = c.levels.invariant in
    let ends = c.list_level.ensures in
    record {
      found = λ told is.
          c.in_ok-level-2.ensures.found told (so_far.kept ∙ is) c.levels.counter
          (subst (λ (l : List (String Global)). Listed told c.args.dir.now c.levels.counter c.levels.classes.keys l) (sym c.as_slice.ensures.value) (so_far.found told is));
      named = c.in_ok-level-2.ensures.named so_far.named;
      kept = ends.files_kept ∙ so_far.kept;
      counts = no_less_since _ _ _ so_far.counts ends.counts;
      put_counts = no_less_since _ _ _ so_far.put_counts ends.put_counts;
    }

pub returns-in_err-level : goal.returns-in_err-level
returns-in_err-level g c =
    let dir = c.args.dir.now in
    let first = g.F.Folder.seen c.args.folder.now in
    let now = g.F.Folder.seen c.list_folder.new.folder in
    let end = c.in_err-level.field-0.0 in
    rw (err_at c.from_residual.result end c.from_residual.ensures.1) record {
      paths = tt;
      named = tt;
      files_kept = c.list_folder.ensures.files_kept;
      counts = c.list_folder.ensures.counts;
      put_counts = c.list_folder.ensures.put_counts;
      cause =
          unlisted dir first now end (reads_as (λ call. call ≡ list_of dir) (IsCallOfFolder first.files dir) first first now (no_less first.faults)
          (λ call is. inl is) end c.in_err-level.ensures.cause);
    }

pub returns-in_err-level-2 : goal.returns-in_err-level-2
returns-in_err-level-2 g c =
    let dir = c.args.dir.now in
    let first = g.F.Folder.seen c.args.folder.now in
    let before = g.F.Folder.seen c.levels.folder in
    let now = g.F.Folder.seen c.list_level.new.folder in
    let end = c.in_err-level-2.field-0.0 in
    let so_far = c.levels.invariant in
    let ends = c.list_level.ensures in
    rw (err_at c.from_residual-in_err-level-2.result end c.from_residual-in_err-level-2.ensures.1) record {
      paths = tt;
      named = tt;
      files_kept = ends.files_kept ∙ so_far.kept;
      counts = no_less_since _ _ _ so_far.counts ends.counts;
      put_counts = no_less_since _ _ _ so_far.put_counts ends.put_counts;
      cause =
          unlisted dir first now end (reads_as (IsCallOfFolder before.files dir) (IsCallOfFolder first.files dir) first before now so_far.counts
          (λ call asked. subst (λ (f : Option Files). IsCallOfFolder f dir call) so_far.kept asked) end c.in_err-level-2.ensures.cause);
    }

pub returns-then-not-is_empty : goal.returns-then-not-is_empty
returns-then-not-is_empty g c =
    let dir = c.args.dir.now in
    let so_far = c.levels.invariant in
    let all : c.levels.counter ≡ 16 = omega (arith, c.levels-test.false, c.levels.auto.counter-end) in
    let left : eqb (vec_len c.levels.level) 0 ≡ false = sym c.is_empty.ensures ∙ c.if-not-is_empty.true in
    let some = not_empty c.levels.level.items (vec_len c.levels.level) c.levels.level.ok.0 left in
    record {
      paths = tt;
      named = tt;
      files_kept = so_far.kept;
      counts = so_far.counts;
      put_counts = so_far.put_counts;
      cause =
          too_deep dir (g.F.Folder.seen c.args.folder.now) (g.F.Folder.seen c.levels.folder) c.over_limit.result
          (λ told is. left_over told dir (seen_texts c.levels.classes.keys) c.levels.level.items
          (subst (λ (n : ℕ). Listed told dir n c.levels.classes.keys c.levels.level.items) all (so_far.found told is)) some) c.over_limit.ensures;
    }

pub returns-in_err-paths : goal.returns-in_err-paths
returns-in_err-paths g c =
    let so_far = c.levels.invariant in
    rw (err_at c.from_residual-in_err-paths.result NoMemory c.from_residual-in_err-paths.ensures.1) record {
      paths = tt;
      named = tt;
      files_kept = so_far.kept;
      counts = so_far.counts;
      put_counts = so_far.put_counts;
      cause = tt;
    }

pub returns : goal.returns
returns g c =
    let dir = c.args.dir.now in
    let so_far = c.levels.invariant in
    let given : c.in_ok-paths.paths.items ≡ c.levels.classes.keys = search rules in
    record {
      paths = λ told is.
          let all : c.levels.counter ≡ 16 = omega (arith, c.levels-test.false, c.levels.auto.counter-end) in
          let end : eqb (vec_len c.levels.level) 0 ≡ true = sym c.is_empty.ensures ∙ c.if-not-is_empty.false in
          let none = is_empty c.levels.level.items (vec_len c.levels.level) c.levels.level.ok.0 end in
          let found = subst (λ (level : List (String Global)). Listed told dir 16 c.levels.classes.keys level) none
          (subst (λ (n : ℕ). Listed told dir n c.levels.classes.keys c.levels.level.items) all (so_far.found told is)) in
          rw given (all_found told dir c.levels.classes.keys found c.into_iter.ensures.into_iter_gives.4);
      named = rw given (all_named c.levels.classes.keys so_far.named);
      files_kept = so_far.kept;
      counts = so_far.counts;
      put_counts = so_far.put_counts;
      cause = tt;
    }
