use Rattle.std.proofs.Common.{◌≡◌, ◌∷◌, ◌≤◌, ℕ, length, nat_eq, ◌∙◌, arith}
use Rattle.std.proofs.lemmas.Grind.{common_steps}
use Rattle.std.proofs.lemmas.List.{length-set}
use Rattle.std.proofs.lemmas.Map.Iter.{rest_more}
use Rattle.std.proofs.lemmas.Map.Keys.{IsDistinct-tail}
use Rattle.std.specs.Map.{keys_of}
use Rattle.std.specs.Map.Iter.{deref_pair}
use Rattle.tx_core.proofs.Kept.{stored_first, passed_first}
use Rattle.tx_core.proofs.solo.write_all.Goals as goal

pub loop-address-preserved-then-at-len : goal.loop-address-preserved-then-at-len
loop-address-preserved-then-at-len c =
    let i = c.loop-address.invariant in
    let e : ℕ × ℕ = (c.in-Some.address.now, c.in-Some.word.now) in
    let left : c.loop-address.address-iterator ≡ e ∷ c.next.new.self = rest_more deref_pair _ _ _ (c.in-Some.address, c.in-Some.word) c.in-Some.is c.next.ensures.steps in
    let once = rw left at i.once in
    record {
      size = length-set c.loop-address.words.items e.0 e.1 ∙ i.size;
      once = IsDistinct-tail nat_eq e.0 (keys_of c.next.new.self) once;
      words = λ a h. stored_first c.loop-address.words.items e c.next.new.self a (rw i.size h) once ∙ (rw left at (i.words a h));
    }

pub loop-address-preserved : goal.loop-address-preserved
loop-address-preserved c =
    let i = c.loop-address.invariant in
    let e : ℕ × ℕ = (c.in-Some.address.now, c.in-Some.word.now) in
    let left : c.loop-address.address-iterator ≡ e ∷ c.next.new.self = rest_more deref_pair _ _ _ (c.in-Some.address, c.in-Some.word) c.in-Some.is c.next.ensures.steps in
    let past : length c.loop-address.words.items ≤ e.0 = grind (arith, common_steps) in
    let once = rw left at i.once in
    record {
      size = i.size;
      once = IsDistinct-tail nat_eq e.0 (keys_of c.next.new.self) once;
      words = λ a h. passed_first c.loop-address.words.items e c.next.new.self a (rw i.size h) past ∙ (rw left at (i.words a h));
    }
