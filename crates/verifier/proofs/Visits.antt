-- What flows from one place is a visit.
use Rattle.std.proofs.Common.{◌≡◌, ℕ, List, [], ◌∷◌, ◌++◌, length, Option, Some, None, Bool, true, false, refl, subst}
use Rattle.std.specs.Prelude.{Result, Ok, Err, IfOk, nat_le, slice_get, ◌&&◌, if◌then◌else◌}
use Rattle.jmodel.specs.declared.typing.VType.{VType}
use Rattle.objects.specs.declared.op.Catch.{Catch}
use Rattle.objects.specs.declared.op.Op.{Op}
use Rattle.objects.specs.semantics.Program.{Method, Program}
use Rattle.objects.specs.typing.Typing.{Types, Flow, Leads, Wrong, flow, types_at}
use Rattle.verifier.specs.Search.{State, Demands, Flows, Follows, IsVisit, Then, are_throwable, caught, demands, each_to, follows_at, follows_op, is_ready}
use Rattle.verifier.specs.Visits.{Step, FollowsStep, step, step_of, step_in, step_at}

module _ (P : Program) (k : Method) (pc : ℕ) (s n : State) (b : Bool) where
  by_flow : (o : Op) (h : Types) (f : Flow) → FollowsStep P k pc (step_of P k pc o h f) s n b → Follows P k pc h f s n b
  by_flow o h Wrong x = x
  by_flow o h (Leads tos g) x = go (nat_le (length g.stack) k.max_stack && are_throwable P k.catches pc) x
    where
      go : (t : Bool) → FollowsStep P k pc (if t then Some (step P k o h tos g) else None) s n b → Then t (Flows P (demands P k pc h tos g) s n b) (b ≡ false)
      go true x = x
      go false x = x

  by_op : (h : Types) (o : Option Op) → FollowsStep P k pc (step_in P k pc h o) s n b → follows_op P k pc h o s n b
  by_op h None x = x
  by_op h (Some o) x = by_flow o h (flow P k pc o h) x

  by_types : (o : Option Types) → FollowsStep P k pc (step_at P k pc o) s n b → follows_at P k pc o s n b
  by_types None x = x
  by_types (Some h) x = go (is_ready k h) x
    where
      go : (t : Bool) → FollowsStep P k pc (if t then step_in P k pc h (slice_get k.ops pc) else None) s n b → Then t (follows_op P k pc h (slice_get k.ops pc) s n b) (b ≡ false)
      go true x = by_op h (slice_get k.ops pc) x
      go false x = x

  -- a step that is followed is a visit
  pub visit_is : (o : Option Step) → o ≡ step_at P k pc (types_at s.table pc) → FollowsStep P k pc o s n b → IsVisit P k pc s n b
  visit_is o e x = by_types (types_at s.table pc) (subst (λ (o : Option Step). FollowsStep P k pc o s n b) e x)

-- so where the calls that follow it have answered
pub visited : {E : Type 0} (P : Program) (k : Method) (pc : ℕ) (r : Result Bool E) (x y : Step) (s m n : State) → y ≡ x → m ≡ s → Some x ≡ step_at P k pc (types_at s.table pc)
    → IfOk r (λ (b : Bool). Flows P (demands P k pc y.before.types y.to y.left.types) m n b) → IfOk r (λ (b : Bool). IsVisit P k pc s n b)
visited P k pc (Ok b) x y s m n e g h f =
    visit_is P k pc s n b (Some x) h (subst (λ (m : State). Flows P (demands P k pc x.before.types x.to x.left.types) m n b) g (subst (λ (y : Step). Flows P (demands P k pc y.before.types y.to y.left.types) m n b) e f))
visited P k pc (Err o) x y s m n e g h f = f

module _ (P : Program) where
  -- where the first of two lists fails, both do
  pub flows_fail : (a ds : Demands) (s n : State) (b : Bool) → b ≡ false → Flows P a s n b → Flows P (a ++ ds) s n b
  flows_fail [] ds s n b e x = absurd (let no : ⊥ = cc (e, x.0) in no)
  flows_fail (d ∷ a) ds s n b e x = (x.0, x.1, x.2, go (λ y. flows_fail a ds x.0 n b e y) x.1 x.3)
    where
      go : (Flows P a x.0 n b → Flows P (a ++ ds) x.0 n b) → (c : Bool) → Then c (Flows P a x.0 n b) (b ≡ false) → Then c (Flows P (a ++ ds) x.0 n b) (b ≡ false)
      go more true y = more y
      go more false y = y

  -- where the first of two lists flows, the second goes on
  pub flows_on : (a ds : Demands) (s m n : State) (b c : Bool) → c ≡ true → Flows P a s m c → Flows P ds m n b → Flows P (a ++ ds) s n b
  flows_on [] ds s m n b c e x y = subst (λ (z : State). Flows P ds z n b) x.1 y
  flows_on (d ∷ a) ds s m n b c e x y = (x.0, x.1, x.2, go (λ z. flows_on a ds x.0 m n b c e z y) x.1 x.3)
    where
      go : (Flows P a x.0 m c → Flows P (a ++ ds) x.0 n b) → (t : Bool) → Then t (Flows P a x.0 m c) (c ≡ false) → Then t (Flows P (a ++ ds) x.0 n b) (b ≡ false)
      go more true z = more z
      go more false z = absurd (let no : ⊥ = cc (e, z) in no)

-- for the code: what the calls that let types flow have answered
module _ (P : Program) (k : Method) (pc : ℕ) (g x : Types) (tos : List ℕ) where
  ways_of : (ts : List ℕ) (y : Types) (s n : State) (b c : Bool) → Flows P (each_to ts y) s n b → ts ≡ tos → y ≡ x → b ≡ c → Flows P (each_to tos x) s n c
  ways_of ts y s n b c f e h i = subst (λ (b : Bool). Flows P (each_to tos x) s n b) i (subst (λ (y : Types). Flows P (each_to tos y) s n b) h (subst (λ (ts : List ℕ). Flows P (each_to ts y) s n b) e f))

  caught_of : (h : Types) (cs : List Catch) (l : List VType) (u : Bool) (s n : State) (b c : Bool) → Flows P (caught P cs pc l u) s n b → cs ≡ k.catches → l ≡ h.locals → u ≡ h.built → b ≡ c → Flows P (caught P k.catches pc h.locals h.built) s n c
  caught_of h cs l u s n b c f e i j d =
      subst (λ (b : Bool). Flows P (caught P k.catches pc h.locals h.built) s n b) d
      (subst (λ (u : Bool). Flows P (caught P k.catches pc h.locals u) s n b) j (subst (λ (l : List VType). Flows P (caught P k.catches pc l u) s n b) i (subst (λ (cs : List Catch). Flows P (caught P cs pc l u) s n b) e f)))

  -- a place where the instruction goes on can't take what is left
  pub follow_first : (ts : List ℕ) (y : Types) (s n : State) (b : Bool) → Flows P (each_to ts y) s n b → ts ≡ tos → y ≡ x → b ≡ false → Flows P (demands P k pc g tos x) s n false
  follow_first ts y s n b f e h i = flows_fail P (each_to tos x) (caught P k.catches pc g.locals g.built ++ caught P k.catches pc x.locals x.built) s n false refl (ways_of ts y s n b false f e h i)

  -- an entry's place can't take the locals before it
  pub follow_second : (ts : List ℕ) (y : Types) (s m n : State) (b c : Bool) (cs : List Catch) (l : List VType) (u : Bool) → Flows P (each_to ts y) s m b → Flows P (caught P cs pc l u) m n c
      → ts ≡ tos → y ≡ x → b ≡ true → cs ≡ k.catches → l ≡ g.locals → u ≡ g.built → c ≡ false → Flows P (demands P k pc g tos x) s n false
  follow_second ts y s m n b c cs l u f q e h i d j v z =
      flows_on P (each_to tos x) (caught P k.catches pc g.locals g.built ++ caught P k.catches pc x.locals x.built) s m n false true refl (ways_of ts y s m b true f e h i)
      (flows_fail P (caught P k.catches pc g.locals g.built) (caught P k.catches pc x.locals x.built) m n false refl (caught_of g cs l u m n c false q d j v z))

  -- the locals after it flow last
  pub follow_ok : {E : Type 0} (r : Result Bool E) (ts : List ℕ) (y : Types) (s m p n : State) (b c : Bool) (cs ds : List Catch) (l a : List VType) (u w : Bool)
      → Flows P (each_to ts y) s m b → Flows P (caught P cs pc l u) m p c → IfOk r (λ (t : Bool). Flows P (caught P ds pc a w) p n t)
      → ts ≡ tos → y ≡ x → b ≡ true → cs ≡ k.catches → l ≡ g.locals → u ≡ g.built → c ≡ true → ds ≡ k.catches → a ≡ x.locals → w ≡ x.built → IfOk r (λ (t : Bool). Flows P (demands P k pc g tos x) s n t)
  follow_ok (Ok t) ts y s m p n b c cs ds l a u w f q o e h i d j v z d' j' v' =
      flows_on P (each_to tos x) (caught P k.catches pc g.locals g.built ++ caught P k.catches pc x.locals x.built) s m n t true refl (ways_of ts y s m b true f e h i)
      (flows_on P (caught P k.catches pc g.locals g.built) (caught P k.catches pc x.locals x.built) m p n t true refl (caught_of g cs l u m p c true q d j v z) (caught_of x ds a w p n t t o d' j' v' refl))
  follow_ok (Err o') ts y s m p n b c cs ds l a u w f q o e h i d j v z d' j' v' = o
