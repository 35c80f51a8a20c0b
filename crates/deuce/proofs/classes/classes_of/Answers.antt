use Rattle.rewriter.specs.Asked.{AreFiled}
use Rattle.deuce.specs.declared.inputs.ClassInput.{ClassInput}
use Rattle.deuce.specs.declared.inputs.InputEnd.TheVariants.{NoMemory}
use Rattle.deuce.specs.Folder.{IsFileOf}
use Rattle.deuce.proofs.Refused.{refused}
use Rattle.deuce.proofs.Lists.{all_pushed, err_at, zip_more}
use Rattle.deuce.proofs.classes.classes_of.Goals as goal

pub returns-in-Err-Refused : goal.returns-in-Err-Refused
returns-in-Err-Refused c =
    let fault = rw c.in-Err-Refused.field-0-is at c.in-Err-Refused.ensures.cause in
    record {
      classes = tt;
      filed = tt;
      cause =
          refused c.args.inputs.now c.loop-input.input-index c.input-item.result c.loop-input-test.true c.input-item.is c.loop-input.classes.items c.in-Err-Refused.refusal c.bad_class.result c.loop-input.invariant.good
          (rw c.as_slice.ensures at fault) (rw c.in-Err-Refused.field-0-is at c.bad_class.ensures);
    }

pub returns-in-Err-NoMemory : goal.returns-in-Err-NoMemory
returns-in-Err-NoMemory c = record { classes = tt; filed = tt; cause = tt }

pub returns-in_err-push-in-Ok : goal.returns-in_err-push-in-Ok
returns-in_err-push-in-Ok c = rw (err_at c.from_residual.result NoMemory c.from_residual.ensures.1) record { classes = tt; filed = tt; cause = tt }

pub loop-input-preserved : goal.loop-input-preserved
loop-input-preserved c =
    let so_far = c.loop-input.invariant in
    record {
      good = rw c.in_ok-push-in-Ok.ensures.items (zip_more (λ (i : ClassInput). IsFileOf i.bytes) c.args.inputs.now c.loop-input.classes.items c.loop-input.input-index c.input-item.result c.in-Ok.class c.loop-input-test.true c.input-item.is so_far.good
          (rw c.as_slice.ensures at c.in-Ok.ensures.within, rw c.as_slice.ensures at c.in-Ok.ensures.class));
      filed = rw c.in_ok-push-in-Ok.ensures.items (all_pushed AreFiled c.loop-input.classes.items c.in-Ok.class so_far.filed c.in-Ok.ensures.filed);
    }
