use Rattle.std.proofs.Common.{◌≡◌, List, ℕ, ◌++◌, ◌∷◌, [], Option, Bor, map, take, sym, ap, ◌∙◌}
use Rattle.std.proofs.lemmas.List.{take_all}
use Rattle.jmodel.specs.format.ClassFile.{ClassFile}
use Rattle.objects.specs.linking.Superclasses.{super_name}
use Rattle.hierarchy.specs.Names.{named, number_of}
use Rattle.hierarchy.specs.Places.{place_of}
use Rattle.hierarchy.proofs.Each.{map_seen, map_next}
use Rattle.hierarchy.proofs.InOrder.{seen}
use Rattle.hierarchy.proofs.ClassPlaces.{found}
use Rattle.hierarchy.proofs.places.superclasses.Goals as goal

pub loop-class-preserved : goal.loop-class-preserved
loop-class-preserved c =
    let classes : List (Bor ClassFile) = c.args.classes.now in
    let i : ℕ = c.loop-class.class-index in
    let at : Bor ClassFile → Option ℕ = λ k. place_of (seen c.args.classes.now) (super_name k.now) in
    let before : List (Option ℕ) = map at (take i classes) in
    let pushed : List (Option ℕ) = c.push.new.self.items in
    let grown : c.loop-class.above.items ++ c.get.result ∷ [] ≡ before ++ c.get.result ∷ [] = ap (λ (l : List (Option ℕ)). l ++ c.get.result ∷ []) c.loop-class.invariant in
    let named_place : c.get.result ≡ number_of c.args.own.now (named (super_name c.class-item.result.now) [] []) = c.get.ensures ∙ ap (λ (name : List ℕ). number_of c.args.own.now (named name [] [])) c.super_name.ensures in
    let is : c.get.result ≡ at c.class-item.result = named_place ∙ found (seen c.args.classes.now) c.args.own.now c.requires (super_name c.class-item.result.now) in
    let put : pushed ≡ before ++ at c.class-item.result ∷ [] = c.in_ok-push.ensures.items ∙ grown ∙ ap (λ (o : Option ℕ). before ++ o ∷ []) is in
    put ∙ sym (map_next at classes i c.class-item.result c.loop-class-test.true c.class-item.is)

pub returns : goal.returns
returns c =
    let classes = c.args.classes.now in
    let cs = seen classes in
    let at = λ (k : Bor ClassFile). place_of cs (super_name k.now) in
    c.loop-class.invariant ∙ ap (map at) (take_all c.loop-class.class-index classes c.loop-class-test.false) ∙ map_seen (λ (k : ClassFile). place_of cs (super_name k)) classes
