-- One path more, and at the end all of them.
use Rattle.std.proofs.Common.{◌∷◌, ◌∙◌, [], List, ℕ, Bool, sym, subst, map, string_bytes}
use Rattle.std.proofs.lemmas.List.{map-append}
use Rattle.std.proofs.lemmas.Map.Iter.{iter_end}
use Rattle.std.specs.Map.Iter.{deref}
use Rattle.std.specs.BTreeMap.{keys}
use Rattle.deuce_io.specs.Files.{seen_items, Shows}
use Rattle.deuce_io.proofs.Listed.{Listed, listed_past, listed_more, listing_of}
use Rattle.deuce_io.proofs.listing.items_of.Goals as goal

pub loop-path-preserved-in-Continue-1 : goal.loop-path-preserved-in-Continue-1
loop-path-preserved-in-Continue-1 c =
    let dir = c.args.dir.now in
    let path = string_bytes c.in-Some.path.now in
    let before = map (λ path. string_bytes path.now) c.loop-path.yielded in
    let new = seen_items c.add.new.items.items in
    let shows : Shows dir path (c.in-Some-shown.name.now, c.in-Some-shown.folder) = subst (λ (p : List ℕ). Shows dir p (c.in-Some-shown.name.now, c.in-Some-shown.folder)) c.as_str.ensures.value c.in-Some-shown.ensures in
    subst (λ (paths : List (List ℕ)). Listed dir paths new) (sym (map-append (λ path. string_bytes path.now) c.loop-path.yielded (c.in-Some.path ∷ [])))
    (listed_more dir path before (seen_items c.loop-path.items.items) new _ shows c.in_ok-add.ensures.added c.in_ok-add.ensures.once c.loop-path.invariant)

pub loop-path-preserved : goal.loop-path-preserved
loop-path-preserved c =
    let dir = c.args.dir.now in
    let path = string_bytes c.in-Some.path.now in
    let before = map (λ path. string_bytes path.now) c.loop-path.yielded in
    let items = seen_items c.loop-path.items.items in
    let nothing : (item : List ℕ × Bool) → Shows dir path item → ⊥ = λ item shows. c.in_default.ensures item (subst (λ (p : List ℕ). Shows dir p item) (sym c.as_str.ensures.value) shows) in
    subst (λ (paths : List (List ℕ)). Listed dir paths items) (sym (map-append (λ path. string_bytes path.now) c.loop-path.yielded (c.in-Some.path ∷ [])))
    (listed_past dir path before items nothing c.loop-path.invariant)

pub returns : goal.returns
returns c =
    let start = c.into_iter-path-iterator.ensures.into_iter_gives ∙ c.keys-path-items.ensures.rest in
    let all = iter_end deref (keys c.args.files.now) c.loop-path.yielded _ _ _ _ start c.loop-path.yielded_by c.in-None.is c.next.ensures.steps in
    listing_of c.args.files.now c.args.dir.now c.loop-path.yielded (seen_items c.loop-path.items.items) all.0 c.loop-path.invariant
