use Rattle.std.proofs.Common.{◌≡◌, ◌<◌, ◌+◌, ◌++◌, ◌∷◌, ◌∙◌, ◌↔◌, ◌⊎◌, [], ℕ, Bool, List, length, take, ap, refl, sym, subst, Contains, String, string_bytes, arith}
use Rattle.std.specs.declared.alloc.Global.{Global}
use Rattle.std.proofs.lemmas.List.{length-map, map-append, take_more, take_all}
use Rattle.deuce_io.specs.Files.{seen_item, seen_items}
use Rattle.deuce_io.proofs.Items.{seen_at}
use Rattle.deuce.specs.Folder.{IsClassFileName}
use Rattle.deuce.specs.Listing.{seen_texts, TakesIn}
use Rattle.deuce.proofs.Levels.{taken_folder, taken_class, taken_other, taken_sorted}
use Rattle.deuce.proofs.Sets.{inserted}
use Rattle.deuce.proofs.listing.take_in.Goals as goal
use Rattle.deuce.proofs.listing.take_in.Goals.{then-item+in_ok-push, else-item+then-is_class_file+in_ok-insert, else-item+else-is_class_file}

pub loop-item-preserved : goal.loop-item-preserved
loop-item-preserved c =
    let items = c.args.items.now in
    let i = c.loop-item.item-index in
    let item = c.item-item.result in
    let name = string_bytes item.name in
    let front = c.args.front.now in
    let xs = take i (seen_items items) in
    let ys = take (i + 1) (seen_items items) in
    let old = seen_texts c.args.classes.now.keys in
    let new = seen_texts c.loop-item.classes.keys in
    let folders = seen_texts c.loop-item.folders.items in
    let path = string_bytes c.in_ok-path.path in
    let is_path : path ≡ front ++ name = c.in_ok-path.ensures.ok in
    let less : i < length (seen_items items) = omega (arith, c.loop-item-test.true, length-map items seen_item) in
    let more : ys ≡ xs ++ seen_item item ∷ [] =
    take_more (seen_items items) i (seen_item item) less ∙ ap (λ (x : List ℕ × Bool). xs ++ x ∷ []) (seen_at items i item (seen_item item) c.loop-item-test.true c.item-item.is) in
    elim c.if-item.branch [
      | then-item+in_ok-push w ↦
          let added : seen_texts w.push.new.self.items ≡ folders ++ path ∷ [] = ap seen_texts w.in_ok-push.ensures.items ∙ map-append string_bytes c.loop-item.folders.items (c.in_ok-path.path ∷ []) in
          rw (w.classes-is, w.folders-is) (taken_folder xs ys name front path is_path old new folders (seen_texts w.push.new.self.items)
          (more ∙ ap (λ (b : Bool). xs ++ (name, b) ∷ []) w.if-item.true) added c.loop-item.invariant)
      | else-item+then-is_class_file+in_ok-insert w ↦
          let named : IsClassFileName path = subst IsClassFileName w.as_str.ensures.value (w.if-is_class_file.ensures.0 refl) in
          let added : (p : List ℕ) → Contains (seen_texts w.insert.new.self.keys) p ↔ (Contains new p ⊎ (p ≡ path)) =
          λ p. subst (λ (ks : List (String Global)). Contains (seen_texts ks) p ↔ (Contains new p ⊎ (p ≡ path))) (sym w.in_ok-insert.ensures.keys) (inserted c.loop-item.classes.keys c.in_ok-path.path p) in
          rw (w.classes-is, w.folders-is) (taken_class xs ys name front path is_path old new folders (more ∙ ap (λ (b : Bool). xs ++ (name, b) ∷ []) w.if-item.false) c.loop-item.invariant
          (seen_texts w.insert.new.self.keys) named added)
      | else-item+else-is_class_file w ↦
          rw (w.classes-is, w.folders-is) (taken_other xs ys name front path is_path old new folders (more ∙ ap (λ (b : Bool). xs ++ (name, b) ∷ []) w.if-item.false) c.loop-item.invariant
          (λ named. let no_class = w.if-is_class_file.ensures.1 (subst IsClassFileName (sym w.as_str.ensures.value) named) in cc))
    ]

pub returns : goal.returns
returns c =
    let items = c.args.items.now in
    let i = c.loop-item.item-index in
    let front = c.args.front.now in
    let old = seen_texts c.args.classes.now.keys in
    let new = seen_texts c.loop-item.classes.keys in
    let all : take i (seen_items items) ≡ seen_items items = take_all i (seen_items items) (omega (arith, c.loop-item-test.false, length-map items seen_item)) in
    taken_sorted (Contains (seen_items items)) front old new c.loop-item.folders.items c.sort.new.self.items c.in_ok-sort.ensures.permutation
    (subst (λ (xs : List (List ℕ × Bool)). TakesIn (Contains xs) front old new (seen_texts c.loop-item.folders.items)) all c.loop-item.invariant)
