use Rattle.std.proofs.Common.{◌≡◌, ℕ, ◌+◌, ◌∷◌, map, drop, get_or, sym, ap, ◌∙◌}
use Rattle.objects.specs.linking.Faults.{first_fault}
use Rattle.jmodel.specs.format.Pool.{text_or_none, class_name}
use Rattle.objects.specs.linking.ClassesFaults.{interface_fault}
use Rattle.hierarchy.proofs.Each.{item_at}
use Rattle.hierarchy.proofs.FirstFault.{found, passed}
use Rattle.hierarchy.proofs.superclasses.listed_fault.Goals as goal

pub returns-in-Some : goal.returns-in-Some
returns-in-Some c =
    let P = interface_fault c.args.places.now c.args.own.now in
    let F = λ (i : ℕ). text_or_none (class_name c.args.pool.now i) in
    let xs = c.args.interfaces.now in
    let i : ℕ = c.loop-index.index-index in
    let item : map F (drop i xs) ≡ F (get_or xs i 0) ∷ map F (drop (i + 1) xs) = ap (map F) (item_at xs i 0 c.loop-index-test.true) in
    found P (map F (drop i xs)) (F (get_or xs i 0)) (map F (drop (i + 1) xs)) c.in-Some.fault (first_fault P (map F xs)) item (ap P (sym c.class_text-name.ensures) ∙ sym c.in_ok-fault.ensures ∙ c.in-Some.is) c.loop-index.invariant

pub loop-index-preserved : goal.loop-index-preserved
loop-index-preserved c =
    let P = interface_fault c.args.places.now c.args.own.now in
    let F = λ (i : ℕ). text_or_none (class_name c.args.pool.now i) in
    let xs = c.args.interfaces.now in
    let i : ℕ = c.loop-index.index-index in
    let item : map F (drop i xs) ≡ F (get_or xs i 0) ∷ map F (drop (i + 1) xs) = ap (map F) (item_at xs i 0 c.loop-index-test.true) in
    passed P (map F (drop i xs)) (F (get_or xs i 0)) (map F (drop (i + 1) xs)) (first_fault P (map F xs)) item (ap P (sym c.class_text-name.ensures) ∙ sym c.in_ok-fault.ensures ∙ c.in_default.is) c.loop-index.invariant
