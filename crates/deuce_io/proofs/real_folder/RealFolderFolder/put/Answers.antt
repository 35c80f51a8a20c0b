-- The count rises at each error, and nothing else changes.
use Rattle.std.proofs.Common.{ℕ, ap, refl}
use Rattle.deuce_io.proofs.Ends.{no_less, answered, failure}
use Rattle.deuce_io.proofs.real_folder.RealFolderFolder.put.Goals as goal

pub returns-in-Ok : goal.returns-in-Ok
returns-in-Ok g c =
    let self = c.args.self.now in
    record {
      counts = no_less self.faults;
      put_counts = no_less self.put_faults;
      cause = λ e. absurd (answered tt e);
      quiet = refl;
      rises = tt;
    }

pub returns-in-Err : goal.returns-in-Err
returns-in-Err g c =
    let self = c.args.self.now in
    let fail = c.fail_by.ensures in
    record {
      counts = no_less self.faults;
      put_counts = fail.no_less;
      cause = λ e. record { rose = fail.rose; is_last = fail.failed (failure c.fail_by.result e) };
      quiet = tt;
      rises = ap (λ (n : ℕ). record self { put_faults = n; failed = c.fail_by.new.last }) fail.counted;
    }
