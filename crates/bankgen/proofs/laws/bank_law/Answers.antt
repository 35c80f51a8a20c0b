use Rattle.std.proofs.Common.{refl}
use Rattle.jmodel.specs.format.Mark.{all_annotations, retries_in}
use Rattle.jmodel.specs.format.AnnotationReading.{run_at, u1_at, u2_at, text_at, items_at, counted_at, items_until, counted_until, pair_at, annotation_at, value_at, mark_pair_at, top_annotation_at, annotations_of}
use Rattle.bankgen.proofs.laws.bank_law.Goals as goal

pub returns : goal.returns
unfolding all_annotations retries_in run_at u1_at u2_at text_at items_at counted_at items_until counted_until pair_at annotation_at value_at mark_pair_at top_annotation_at annotations_of
returns c = record {
  object_init = refl;
  balance = refl;
  account = refl;
  all = refl;
  account_init = refl;
  get = refl;
  add = refl;
  transfer_marked = refl;
  total_marked = refl;
}
