-- What steps of one attempt leave of a book.
use Rattle.std.specs.Prelude.{IfErr}
use Rattle.std.specs.Result.{IsErrAnd}
use Rattle.std.proofs.Common.{◌≡◌, ◌≢◌, ◌⊎◌, Result, Ok, Err, ℕ, Bool, true, List, [], ◌∷◌, refl, sym, ap, ◌∙◌, inl, inr, arith}
use mathlib.Core.Option.{some, some-ne-none}
use Rattle.tx_core.specs.declared.engine.Conflict.{Conflict}
use Rattle.tx_table.specs.Book.{Book, Lost, Map, Unticked, Decided, lookup, without}
use Rattle.tx_table.specs.Plays.{gave_up, took, lost_at, released, stage_of, used_in}
use Rattle.tl2.specs.Commits.{IsRest, IsTaking, IsReleasing}
use Rattle.tl2.specs.Conflicts.{lost_to}

pub rest_here : (v : Book) → IsRest [] 0 v v
rest_here v = record {
  number = refl;
  stage = inr refl;
  numbers = refl;
  fresh = refl;
  begins = refl;
  ticks = omega arith;
  regions = refl;
  entries = refl;
  lost = refl;
  call = refl;
  bound = refl;
  reads = refl;
  seen = omega arith;
}

-- a stripe more is given back
pub rest_given : (c : List Lost) (t : ℕ) (v w : Book) (s : ℕ) (kept : Bool) → IsRest c t v w → IsRest c t v (gave_up w s kept)
rest_given c t v w s kept r = record {
  number = r.number;
  stage = inl refl;
  numbers = r.numbers;
  fresh = r.fresh;
  begins = r.begins;
  ticks = r.ticks;
  regions = r.regions;
  entries = r.entries;
  lost = r.lost;
  call = r.call;
  bound = r.bound;
  reads = r.reads;
  seen = r.seen;
}

-- a stripe more is taken
pub taking_one : (v w : Book) (s word a : ℕ) → IsTaking v w → IsTaking v (took w s word a)
taking_one v w s word a t = record {
  rest = record {
    number = t.rest.number;
    stage = t.rest.stage;
    numbers = t.rest.numbers;
    fresh = t.rest.fresh;
    begins = t.rest.begins;
    ticks = t.rest.ticks;
    regions = t.rest.regions;
    entries = t.rest.entries;
    lost = t.rest.lost;
    call = t.rest.call;
    bound = t.rest.bound;
    reads = t.rest.reads;
    seen = t.rest.seen;
  };
  stage = t.stage;
  live = t.live;
}

pub taking_here : (v : Book) → v.face.stage ≡ Unticked → v.live ≡ true → IsTaking v v
taking_here v stage live = record { rest = rest_here v; stage = stage; live = live }

-- a conflict at a later step of the same attempt is one of its beginning
pub lost_is : (v w : Book) (e : Conflict) → e.upto ≡ w.bound → w.call ≡ v.call → w.regions ≡ v.regions → w.reads ≡ v.reads → w.lost ≡ v.lost
    → (lost_at w e.address e.word).lost ≡ lost_to v e ∷ v.lost
lost_is v w e upto call regions reads lost = λ i. record {
  call = call i;
  used = used_in (lookup (regions i) (call i).region);
  address = e.address;
  word = e.word;
  upto = (sym upto) i;
  reads = reads i;
} ∷ lost i

-- a conflict at the next stripe, and the stripes given back
pub taking_lost : (v w u : Book) (e : Conflict) → e.upto ≡ w.bound → IsTaking v w → IsRest [] 0 (lost_at w e.address e.word) u → IsRest (lost_to v e ∷ []) 0 v u
taking_lost v w u e upto t r = record {
  number = r.number ∙ t.rest.number;
  stage = inl (stage_of r.stage);
  numbers = r.numbers ∙ t.rest.numbers;
  fresh = r.fresh ∙ t.rest.fresh;
  begins = r.begins ∙ t.rest.begins;
  ticks = let p = r.ticks in let q = t.rest.ticks in omega arith;
  regions = r.regions ∙ t.rest.regions;
  entries = r.entries ∙ t.rest.entries;
  lost = r.lost ∙ lost_is v w e upto t.rest.call t.rest.regions t.rest.reads t.rest.lost;
  call = r.call ∙ t.rest.call;
  bound = r.bound ∙ t.rest.bound;
  reads = r.reads ∙ t.rest.reads;
  seen = let p = r.seen in let q = t.rest.seen in omega arith;
}
  where
    stage_of : (u.face.stage ≡ Unticked) ⊎ (u.face.stage ≡ w.face.stage) → u.face.stage ≡ Unticked
    stage_of (inl p) = p
    stage_of (inr p) = p ∙ t.stage

staged : (m : Map ℕ) → ((stage_of m ≡ Decided) × (m ≢ [])) ⊎ ((stage_of m ≡ Unticked) × (m ≡ []))
staged [] = inr (refl, refl)
staged (x ∷ m) = inl (refl, λ e. let no : ⊥ = cc e in absurd no)

-- a stripe of a decided attempt is given back
pub releasing_one : (w : Book) (s : ℕ) → IsReleasing (released w s)
releasing_one w s = staged (without w.face.held s)

pub rest_released : (c : List Lost) (t : ℕ) (v w : Book) (s : ℕ) → v.face.stage ≡ Decided → IsRest c t v w → IsRest c t v (released w s)
rest_released c t v w s d r = record {
  number = r.number;
  stage = stage_then (staged (without w.face.held s));
  numbers = r.numbers;
  fresh = r.fresh;
  begins = r.begins;
  ticks = r.ticks;
  regions = r.regions;
  entries = r.entries;
  lost = r.lost;
  call = r.call;
  bound = r.bound;
  reads = r.reads;
  seen = r.seen;
}
  where
    stage_then : ((stage_of (without w.face.held s) ≡ Decided) × (without w.face.held s ≢ [])) ⊎ ((stage_of (without w.face.held s) ≡ Unticked) × (without w.face.held s ≡ []))
        → (stage_of (without w.face.held s) ≡ Unticked) ⊎ (stage_of (without w.face.held s) ≡ v.face.stage)
    stage_then (inl p) = inr (p.0 ∙ sym d)
    stage_then (inr p) = inl p.0

-- who holds a stripe is decided
pub decided_still : (w : Book) (s x : ℕ) → IsReleasing w → lookup w.face.held s ≡ some x → w.face.stage ≡ Decided
decided_still w s x (inl p) e = p.0
decided_still w s x (inr p) e = absurd (some-ne-none x (sym e ∙ ap (λ (m : Map ℕ). lookup m s) p.1))

-- who holds none is over
pub over : (w : Book) → IsReleasing w → w.face.held ≡ [] → w.face.stage ≡ Unticked
over w (inl p) e = absurd (p.1 e)
over w (inr p) e = p.0

-- an error passes on what it says
pub err_says : {A E : Type 0} {P Q : E → Type 0} (r : Result A E) → IsErrAnd r P → ((e : E) → P e → Q e) → IfErr r Q
err_says (Ok a) h f = absurd h
err_says (Err e) h f = f e h
