use Rattle.std.proofs.Common.{◌≡◌, Contains, Err, ap, refl}
use Rattle.deuce_io.specs.Fault.{list_of}
use Rattle.deuce_io.specs.Files.{seen_items}
use Rattle.deuce.specs.Listing.{seen_texts}
use Rattle.deuce.specs.declared.inputs.InputEnd.TheVariants.{NoMemory}
use Rattle.deuce.proofs.Levels.{taken_listed, taken_named}
use Rattle.deuce.proofs.Listed.{failed_at}
use Rattle.deuce.proofs.Lists.{err_at}
use Rattle.deuce.proofs.listing.list_folder.Goals as goal

pub returns-in_ok-take_in-in-Ok : goal.returns-in_ok-take_in-in-Ok
returns-in_ok-take_in-in-Ok g c =
    let old = seen_texts c.args.classes.now.keys in
    let new = seen_texts c.take_in.new.classes.keys in
    let folders = seen_texts c.in_ok-take_in-in-Ok.field-0.items in
    record {
      found = λ told is.
          taken_listed told c.args.path.now c.args.front.now (seen_items c.in-Ok.items.items) old new folders
          (c.in-Ok.ensures.items told is) (rw c.deref.ensures.value at c.in_ok-take_in-in-Ok.ensures);
      named = taken_named (Contains (seen_items c.deref.result.now)) c.args.front.now old new folders c.in_ok-take_in-in-Ok.ensures;
      files_kept = c.list.ensures.files_kept;
      counts = c.list.ensures.counts;
      put_counts = c.list.ensures.put_counts;
      cause = tt;
    }

pub returns-in_err-take_in-in-Ok : goal.returns-in_err-take_in-in-Ok
returns-in_err-take_in-in-Ok g c =
    rw (err_at c.from_residual.result NoMemory c.from_residual.ensures.1) record {
      found = λ told is. tt;
      named = tt;
      files_kept = c.list.ensures.files_kept;
      counts = c.list.ensures.counts;
      put_counts = c.list.ensures.put_counts;
      cause = tt;
    }

pub returns-in-Err : goal.returns-in-Err
returns-in-Err g c =
    let path = c.args.path.now in
    record {
      found = λ told is. tt;
      named = tt;
      files_kept = c.list.ensures.files_kept;
      counts = c.list.ensures.counts;
      put_counts = c.list.ensures.put_counts;
      cause =
          failed_at (λ call. call ≡ list_of path) (g.F.Folder.seen c.args.folder.now) (g.F.Folder.seen c.list.new.self) (list_of path) refl c.in-Err.end c.outside.result
          (λ is. c.in-Err.ensures.cause (ap Err is)) c.outside.ensures;
    }
