-- One item more.
use Rattle.std.proofs.Common.{List, ℕ, Bool, ap, sym, subst, rules, Contains}
use Rattle.deuce_io.specs.declared.folder.Item.{Item}
use Rattle.deuce_io.specs.Files.{seen_items}
use Rattle.deuce_io.proofs.Items.{seen_pushed, contains_pushed, once_pushed}
use Rattle.deuce_io.proofs.listing.add.Goals as goal

pub returns-clause-added : goal.returns-clause-added
returns-clause-added c =
    let old = c.args.items.now.items in
    let new = c.push.new.self.items in
    let seen : List ℕ × Bool = (c.args.name.now, c.args.folder) in
    contains_pushed (seen_items old) (seen_items new) seen
    (seen_pushed old new _ seen c.in_ok-push.ensures.items (ap (λ (l : List ℕ). (l, c.args.folder)) c.in_ok-from_str.ensures.ok))

pub returns-clause-once : goal.returns-clause-once
returns-clause-once c =
    let old = c.args.items.now.items in
    let new = c.push.new.self.items in
    let seen : List ℕ × Bool = (c.args.name.now, c.args.folder) in
    let fresh : Contains (seen_items old) seen → ⊥ =
    λ h. let t = c.has.ensures.1 (subst (λ (l : List Item). Contains (seen_items l) seen) (sym c.deref.ensures.value) h) in search rules in
    once_pushed (seen_items old) (seen_items new) seen
    (seen_pushed old new _ seen c.in_ok-push.ensures.items (ap (λ (l : List ℕ). (l, c.args.folder)) c.in_ok-from_str.ensures.ok)) fresh
