use Rattle.std.proofs.Common.{◌≡◌, ℕ, ◌++◌, [], List, Bool, false, cond, length, sym, ap, ◌∙◌}
use Rattle.objects.specs.linking.StaticBases.{base_of}
use Rattle.objects.specs.linking.Superclasses.{super_name}
use Rattle.objects.specs.semantics.Program.{Field}
use Rattle.objects.specs.linking.Resolution.{is_interface}
use Rattle.objects.specs.linking.Layout.{words_upward, fields_behind}
use Rattle.heap_layout.specs.Slots.{slots_behind}
use Rattle.heap_layout.proofs.Bases.{fields_same}
use Rattle.heap_layout.proofs.fields.push_class_fields.Goals as goal

pub returns : goal.returns
returns c = λ n base_is.
    let cs = c.args.folder.now in
    let class = c.args.class.now in
    let before = c.args.fields.now.items in
    let many : ℕ = length (words_upward cs (super_name class)) in
    let class_like : is_interface class ≡ false = sym c.is_interface.ensures ∙ c.if-is_interface.false in
    let above : c.in_ok-above.above ≡ many = c.in_ok-above.ensures ∙ ap (λ (name : List ℕ). length (words_upward cs name)) c.super_name.ensures in
    c.in_ok-push_fields.ensures
    ∙ ap (λ (b : ℕ). before ++ slots_behind cs b class 0 c.in_ok-above.above class.fields) base_is
    ∙ ap (λ (w : ℕ). before ++ slots_behind cs (base_of cs n) class 0 w class.fields) above
    ∙ ap (λ (l : List Field). before ++ l) (sym (fields_same cs n class 0 many class.fields))
    ∙ ap (λ (b : Bool). before ++ cond b [] (fields_behind cs n class 0 many class.fields)) (sym class_like)
