use Rattle.std.proofs.Common.{◌≡◌, ◌+◌, ◌++◌, ◌∷◌, [], Bool, true, false, drop, sym, ap, ◌∙◌}
use Rattle.std.specs.Prelude.{not}
use Rattle.jmodel.specs.format.ClassFile.{Member, ClassFile}
use Rattle.objects.specs.linking.Members.{is_static}
use Rattle.objects.specs.semantics.Program.{Declared}
use Rattle.objects.specs.linking.Layout.{declared_as, field_type}
use Rattle.hierarchy.proofs.Each.{item_is}
use Rattle.heap_layout.proofs.Puts.{chosen, passed}
use Rattle.heap_layout.proofs.words.push_own_words.Goals as goal
use Rattle.heap_layout.proofs.words.push_own_words.Goals.{then-not-is_static+in_ok-declared+in_ok-push, else-not-is_static}

pub loop-member-preserved : goal.loop-member-preserved
loop-member-preserved c =
    let cs = c.args.folder.now in
    let members = c.deref-member-items.result.now in
    let i = c.loop-member.member-index in
    let m : Member = c.member-item.result in
    let item = item_is members i m c.loop-member-test.true c.member-item.is in
    let p : Member → Bool = λ k. not (is_static k) in
    let f : Member → Declared = λ k. declared_as cs (field_type c.args.class.now.pool k) in
    let before = c.loop-member.words.items in
    elim c.if-not-is_static.branch [
      | then-not-is_static+in_ok-declared+in_ok-push w ↦ (
          let plain : p m ≡ true = ap not (sym c.is_static.ensures ∙ w.if-not-is_static.true) in
          let put : c.if-not-is_static.words.items ≡ before ++ f m ∷ [] =
          ap (λ v. v.items) w.words-is ∙ w.in_ok-push.ensures.items ∙ ap (λ (d : Declared). before ++ d ∷ []) (w.in_ok-declared.ensures ∙ ap (λ (k : ClassFile). declared_as cs (field_type k.pool m)) c.class.view_is) in
          chosen p f before c.if-not-is_static.words.items _ (drop i members) (drop (i + 1) members) m item c.loop-member.invariant plain put)
      | else-not-is_static w ↦ (
          let static : p m ≡ false = ap not (sym c.is_static.ensures ∙ w.if-not-is_static.false) in
          passed p f before c.if-not-is_static.words.items _ (drop i members) (drop (i + 1) members) m item c.loop-member.invariant static (ap (λ v. v.items) w.words-is))
    ]
