use Rattle.std.proofs.Common.{◌≡◌, ◌+◌, List, refl, subst, arith}
use Rattle.jmodel.specs.format.ClassFile.{ClassFile}
use Rattle.objects.specs.linking.StaticBases.{base_of, base_words}
use Rattle.objects.specs.linking.Layout.{class_fields, fields_from}
use Rattle.heap_layout.proofs.Bases.{next_base, next_listed}
use Rattle.heap_layout.proofs.fields.placed_fields.Goals as goal

pub loop-class-preserved : goal.loop-class-preserved
loop-class-preserved c =
    let cs = c.args.folder.now in
    let classes = c.classes-class-items.result.now in
    let i = c.loop-class.class-index in
    let class = c.class-item.result in
    let inv = c.loop-class.invariant in
    let next : base_of cs (i + 1) ≡ base_of cs i + base_words class.now =
    subst (λ (ks : List ClassFile). base_of ks (i + 1) ≡ base_of ks i + base_words class.now) c.classes-class-items.ensures (next_base classes i class c.loop-class-test.true c.class-item.is) in
    record {
      so_far = next_listed classes i class c.loop-class-test.true c.class-item.is (class_fields cs) (fields_from cs) (λ n k ks. refl) c.loop-class.fields.items c.push_class_fields.new.fields.items _ inv.so_far (c.in_ok-push_class_fields.ensures i inv.base);
      base = omega (arith, c.in_ok-base.ensures, c.in_ok-base_words.ensures, inv.base, next);
    }
