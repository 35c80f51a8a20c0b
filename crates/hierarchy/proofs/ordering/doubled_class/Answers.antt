use Rattle.std.proofs.Common.{◌≡◌, ℕ, ◌+◌, true, false, ◌||◌, List, ◌++◌, drop, Option, Some, IfOk, sym, ap, ◌∙◌}
use Rattle.std.specs.Prelude.{bytes_eq}
use Rattle.std.specs.List.{list_any}
use Rattle.std.proofs.lemmas.Result.{IfOk-weaker}
use Rattle.jmodel.specs.declared.refusal.Refusal.{Refusal}
use Rattle.jmodel.specs.declared.refusal.Refusal.TheVariants.{DoubledClass}
use Rattle.objects.specs.linking.Library.{library}
use Rattle.objects.specs.linking.Members.{own_name}
use Rattle.objects.specs.linking.Classes.{doubled_among}
use Rattle.objects.proofs.TakenLaws.{or_right}
use Rattle.hierarchy.proofs.Bools.{or_left, is_true, is_false}
use Rattle.hierarchy.proofs.Each.{item_is}
use Rattle.hierarchy.proofs.InOrder.{texts, set_has, set_with, goes_on, is_doubled}
use Rattle.hierarchy.proofs.ordering.doubled_class.Goals as goal
use Rattle.hierarchy.proofs.ordering.doubled_class.Goals.{then-not-is_free_name-via-then-not-is_free_name, then-not-is_free_name-via-else-not-is_free_name+in_ok-insert+then-not-branch}

pub returns-then-not-is_free_name : goal.returns-then-not-is_free_name
returns-then-not-is_free_name c =
    let files = c.args.files.now in
    let at = c.loop-file.file-index in
    let file = c.file-item.result in
    let keys = texts c.loop-file.names.keys in
    let item = item_is files at file c.loop-file-test.true c.file-item.is in
    let name = c.own_name-name.result in
    let named : name.now ≡ own_name file = c.own_name-name.ensures in
    let told : (list_any (bytes_eq (own_name file)) library || list_any (bytes_eq (own_name file)) keys) ≡ true → IfOk c.doubled.result (λ (o : Option Refusal). o ≡ doubled_among library files) =
    λ has. IfOk-weaker c.doubled.result (λ (o : Option Refusal). o ≡ Some (DoubledClass name.now)) (λ (o : Option Refusal). o ≡ doubled_among library files)
    (λ o is. is ∙ ap (λ (n : List ℕ). Some (DoubledClass n)) named ∙ sym (ap (doubled_among (library ++ keys)) item ∙ is_doubled keys file (drop (at + 1) files) has) ∙ c.loop-file.invariant)
    c.doubled.ensures in
    elim c.then-not-is_free_name.branch [
      | then-not-is_free_name-via-then-not-is_free_name w ↦ (
          let taken = is_true (list_any (bytes_eq name.now) library) (sym c.is_free_name.ensures ∙ w.if-not-is_free_name.true) in
          told (or_left (list_any (bytes_eq (own_name file)) library) (list_any (bytes_eq (own_name file)) keys) (ap (λ (n : List ℕ). list_any (bytes_eq n) library) (sym named) ∙ taken)))
      | then-not-is_free_name-via-else-not-is_free_name+in_ok-insert+then-not-branch w ↦ (
          let seen = sym (set_has name c.loop-file.names.keys) ∙ is_true _ (sym w.in_ok-insert.ensures.added ∙ w.if-not-branch.true) in
          told (or_right (list_any (bytes_eq (own_name file)) library) (list_any (bytes_eq (own_name file)) keys) (ap (λ (n : List ℕ). list_any (bytes_eq n) keys) (sym named) ∙ seen)))
    ]

pub loop-file-preserved : goal.loop-file-preserved
loop-file-preserved c =
    let files = c.args.files.now in
    let at = c.loop-file.file-index in
    let file = c.file-item.result in
    let keys = texts c.loop-file.names.keys in
    let more = texts c.insert.new.self.keys in
    let name = c.own_name-name.result in
    let named : name.now ≡ own_name file = c.own_name-name.ensures in
    let item = item_is files at file c.loop-file-test.true c.file-item.is in
    let free : list_any (bytes_eq name.now) library ≡ false = is_false (list_any (bytes_eq name.now) library) (sym c.is_free_name.ensures ∙ c.if-not-is_free_name.false) in
    let new : list_any (bytes_eq name.now) keys ≡ false = sym (set_has name c.loop-file.names.keys) ∙ is_false _ (sym c.in_ok-insert.ensures.added ∙ c.if-not-branch.false) in
    let added = set_with name c.loop-file.names.keys c.insert.new.self.keys c.in_ok-insert.ensures.updates.0 in
    let passes = goes_on keys more file (drop (at + 1) files) (ap (λ (n : List ℕ). list_any (bytes_eq n) library) (sym named) ∙ free) (ap (λ (n : List ℕ). list_any (bytes_eq n) keys) (sym named) ∙ new)
    (λ q. added q ∙ ap (λ (n : List ℕ). bytes_eq q n || list_any (bytes_eq q) keys) named) in
    sym (ap (doubled_among (library ++ keys)) item ∙ passes) ∙ c.loop-file.invariant
