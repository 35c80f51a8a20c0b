use Rattle.std.proofs.Common.{◌≡◌, ℕ, ◌++◌, Bool, cond, List, length, sym, ap, ◌∙◌, arith, refl}
use Rattle.std.proofs.lemmas.List.{append-nil, drop_all, length-map}
use Rattle.jmodel.specs.format.ClassFile.{ClassFile}
use Rattle.objects.specs.linking.Library.{library}
use Rattle.objects.specs.linking.StaticBases.{has_base, base_type}
use Rattle.objects.specs.linking.Layout.{base_images}
use Rattle.hierarchy.proofs.InOrder.{seen}
use Rattle.heap_layout.specs.Opening.{image_of}
use Rattle.heap_layout.proofs.Bases.{next_listed, next_type}
use Rattle.heap_layout.proofs.Images.{images_step}
use Rattle.heap_layout.proofs.opening.append_images.Goals as goal
use Rattle.heap_layout.proofs.opening.append_images.Goals.{then-branch+in_ok-number-2, else-branch}

pub loop-class-init : goal.loop-class-init
loop-class-init c =
    let classes = c.args.classes.now in
    let many : length (seen classes) ≡ length classes = length-map _ _ in
    let known : length library ≡ 20 = refl in
    record { so_far = refl; type = omega (arith, many, known, c.in_ok-number.ensures) }

pub loop-class-preserved : goal.loop-class-preserved
loop-class-preserved c =
    let classes = c.args.classes.now in
    let cs = seen classes in
    let i = c.loop-class.class-index in
    let class = c.class-item.result in
    let inv = c.loop-class.invariant in
    let before = c.loop-class.words.items in
    let put = c.in_ok-append_image.ensures.words cs c.requires ∙ ap (λ (n : ℕ). before ++ image_of cs n class.now) inv.type in
    let words = next_listed classes i class c.loop-class-test.true c.class-item.is (λ (n : ℕ) (k : ClassFile). image_of cs (base_type cs n) k) (λ (n : ℕ) (ks : List ClassFile). base_images cs n ks) (images_step cs) before c.append_image.new.words.items _ inv.so_far put in
    let type = next_type classes i class c.loop-class-test.true c.class-item.is in
    elim c.if-branch.branch [
      | then-branch+in_ok-number-2 w ↦ (
          let one : ◌≡◌ {A = ℕ} (cond (has_base class.now) 1 0) 1 = ap (λ (b : Bool). cond {A = ℕ} b 1 0) (sym c.in_ok-append_image.ensures.has_base ∙ w.if-branch.true) in
          record { so_far = words; type = omega (arith, w.number-is, w.in_ok-number-2.ensures, inv.type, type, one) })
      | else-branch w ↦ (
          let none : ◌≡◌ {A = ℕ} (cond (has_base class.now) 1 0) 0 = ap (λ (b : Bool). cond {A = ℕ} b 1 0) (sym c.in_ok-append_image.ensures.has_base ∙ w.if-branch.false) in
          record { so_far = words; type = omega (arith, w.number-is, inv.type, type, none) })
    ]

pub returns : goal.returns
returns c =
    let classes = c.args.classes.now in
    let cs = seen classes in
    sym (append-nil c.loop-class.words.items) ∙ ap (λ l. c.loop-class.words.items ++ base_images cs c.loop-class.class-index (seen l)) (sym (drop_all c.loop-class.class-index classes c.loop-class-test.false)) ∙ c.loop-class.invariant.so_far
