use Rattle.std.proofs.Common.{◌≡◌, ◌+◌, ◌-◌, [], ◌∷◌, ◌++◌, take, Bool, true, false, cond, Some, sym, ap, ◌∙◌, arith}
use Rattle.std.proofs.lemmas.List.{take_more}
use Rattle.std.specs.Prelude.{bytes_eq, string_bytes}
use Rattle.serde_json.specs.Data.{no_members}
use Rattle.serde_json.specs.Find.{get_member}
use Rattle.script.specs.Seen.{seen, members_seen}
use Rattle.script.proofs.Trees.{last_first}
use Rattle.script.proofs.members.last_of.Goals as goal

pub returns-then-equal : goal.returns-then-equal
returns-then-equal c =
    let xs = c.args.members.now in
    let i = c.loop-left.left - 1 in
    let m = c.index-members-left.result in
    let name = c.args.key.now in
    let next : c.loop-left.left ≡ i + 1 = omega arith in
    let front : take c.loop-left.left xs ≡ take i xs ++ m ∷ [] = ap (λ k. take k xs) next ∙ take_more xs i m (omega arith) ∙ ap (λ y. take i xs ++ y ∷ []) (sym c.index-members-left.is) in
    let step = c.loop-left.invariant.0 ∙ ap (λ ys. get_member name (members_seen ys no_members)) front ∙ last_first name (take i xs) m in
    let pick = λ (b : Bool). cond b (Some (seen m.1)) (get_member name (members_seen (take i xs) no_members)) in
    let same : bytes_eq (string_bytes m.0) name ≡ true = grind arith in
    sym (step ∙ ap pick same)

pub loop-left-preserved : goal.loop-left-preserved
loop-left-preserved c =
    let xs = c.args.members.now in
    let i = c.loop-left.left - 1 in
    let m = c.index-members-left.result in
    let name = c.args.key.now in
    let next : c.loop-left.left ≡ i + 1 = omega arith in
    let front : take c.loop-left.left xs ≡ take i xs ++ m ∷ [] = ap (λ k. take k xs) next ∙ take_more xs i m (omega arith) ∙ ap (λ y. take i xs ++ y ∷ []) (sym c.index-members-left.is) in
    let step = c.loop-left.invariant.0 ∙ ap (λ ys. get_member name (members_seen ys no_members)) front ∙ last_first name (take i xs) m in
    let pick = λ (b : Bool). cond b (Some (seen m.1)) (get_member name (members_seen (take i xs) no_members)) in
    let other : bytes_eq (string_bytes m.0) name ≡ false = grind arith in
    (step ∙ ap pick other, omega arith)
