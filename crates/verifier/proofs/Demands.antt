-- What an instruction asks of a table, and the rules of the definition.
use Rattle.std.proofs.Common.{◌≡◌, ℕ, ◌≤◌, List, [], ◌∷◌, ◌++◌, length, Some, Bool, true, false, refl}
use Rattle.std.specs.Prelude.{IsTrue, ◌||◌, not, if◌then◌else◌}
use Rattle.std.specs.List.{AllByRecursion}
use Rattle.jmodel.specs.declared.typing.VType.{VType}
use Rattle.jmodel.specs.declared.typing.VType.TheVariants.{Ref}
use Rattle.objects.specs.declared.op.Catch.{Catch}
use Rattle.objects.specs.semantics.Program.{Method, Program}
use Rattle.objects.specs.typing.TypeOrder.{throwable_class, is_within, IsWithin, IsLocals}
use Rattle.objects.specs.typing.Typing.{Types, Table, FitsIn, Covers, AreCaught, Keeps, types_at, caught_type, is_guarded}
use Rattle.objects.specs.typing.Source.{AreTypes}
use Rattle.verifier.specs.Search.{Demands, each_to, thrown, caught, are_throwable, demands}
use Rattle.verifier.proofs.Lists.{both, and_true, fits_trans}
use Rattle.verifier.proofs.Under.{Under, under_fits, AreUnder, under_same, IsFramed}

-- a place of a table stays above its types in a wider table
pub record Above (P : Program) (T : Table) (q : ℕ) (h : Types) : Type 0 where
  pub types : Types
  pub there : types_at T q ≡ Some types
  pub fits : FitsIn P h types

-- a table covers what flows to each place of a list
abbrev pub Met : Program → Method → Table → Demands → Type 0
Met P k T ds = AllByRecursion (λ (d : ℕ × Types). Covers P k T d.1 d.0) ds

module _ (P : Program) (C : AreTypes P) where
  pub covers_up : (k : Method) (T N : Table) (h : Types) (q : ℕ) → ((q : ℕ) (g : Types) → types_at T q ≡ Some g → Above P N q g) → Covers P k T h q → Covers P k N h q
  covers_up k T N h q up c = let a = up q c.types c.there in record { inside = c.inside; types = a.types; there = a.there; fits = fits_trans P C h c.types a.types c.fits a.fits }

  pub met_up : (k : Method) (T N : Table) → ((q : ℕ) (g : Types) → types_at T q ≡ Some g → Above P N q g) → (ds : Demands) → Met P k T ds → Met P k N ds
  met_up k T N up [] x = tt
  met_up k T N up (d ∷ ds) x = (covers_up k T N d.1 d.0 up x.0, met_up k T N up ds x.1)

module _ (P : Program) (k : Method) (T : Table) where
  covers_down : (h g : Types) (q : ℕ) → Under P h g → Covers P k T g q → Covers P k T h q
  covers_down h g q u c = record { inside = c.inside; types = c.types; there = c.there; fits = under_fits P h g c.types u c.fits }

  pub met_append : (a b : Demands) → Met P k T a → Met P k T b → Met P k T (a ++ b)
  met_append [] b x y = y
  met_append (d ∷ a) b x y = (x.0, met_append a b x.1 y)

  pub met_first : (a b : Demands) → Met P k T (a ++ b) → Met P k T a
  met_first [] b x = tt
  met_first (d ∷ a) b x = (x.0, met_first a b x.1)

  pub met_second : (a b : Demands) → Met P k T (a ++ b) → Met P k T b
  met_second [] b x = x
  met_second (d ∷ a) b x = met_second a b x.1

  to_ways : (tos : List ℕ) (h : Types) → AllByRecursion (Covers P k T h) tos → Met P k T (each_to tos h)
  to_ways [] h a = tt
  to_ways (to ∷ tos) h a = (a.0, to_ways tos h a.1)

  of_ways : (tos : List ℕ) (h : Types) → Met P k T (each_to tos h) → AllByRecursion (Covers P k T h) tos
  of_ways [] h a = tt
  of_ways (to ∷ tos) h a = (a.0, of_ways tos h a.1)

  ways_down : (tos : List ℕ) (h g : Types) → Under P h g → Met P k T (each_to tos g) → Met P k T (each_to tos h)
  ways_down [] h g f a = tt
  ways_down (to ∷ tos) h g f a = (covers_down h g to f a.0, ways_down tos h g f a.1)

  to_caught : (cs : List Catch) (pc : ℕ) (l : List VType) (b : Bool) → AreCaught P k T pc l b cs → Met P k T (caught P cs pc l b)
  to_caught [] pc l b a = tt
  to_caught (c ∷ cs) pc l b a = go (is_guarded c pc) a.0 (to_caught cs pc l b a.1)
    where
      go : (x : Bool) → (IsTrue x → IsWithin P (caught_type P c.catches) (Ref throwable_class) × Covers P k T (thrown P l b c) c.at) → Met P k T (caught P cs pc l b) → Met P k T (if x then (c.at, thrown P l b c) ∷ caught P cs pc l b else caught P cs pc l b)
      go true x y = ((x refl).1, y)
      go false x y = y

  pub to_throwable : (cs : List Catch) (pc : ℕ) (l : List VType) (b : Bool) → AreCaught P k T pc l b cs → are_throwable P cs pc ≡ true
  to_throwable [] pc l b a = refl
  to_throwable (c ∷ cs) pc l b a = and_true (not (is_guarded c pc) || is_within P (caught_type P c.catches) (Ref throwable_class)) (are_throwable P cs pc) (go (is_guarded c pc) a.0) (to_throwable cs pc l b a.1)
    where
      go : (x : Bool) → (IsTrue x → IsWithin P (caught_type P c.catches) (Ref throwable_class) × Covers P k T (thrown P l b c) c.at) → (not x || is_within P (caught_type P c.catches) (Ref throwable_class)) ≡ true
      go true x = (x refl).0
      go false x = refl

  of_caught : (cs : List Catch) (pc : ℕ) (l : List VType) (b : Bool) → are_throwable P cs pc ≡ true → Met P k T (caught P cs pc l b) → AreCaught P k T pc l b cs
  of_caught [] pc l b e a = tt
  of_caught (c ∷ cs) pc l b e a =
      let p = both (not (is_guarded c pc) || is_within P (caught_type P c.catches) (Ref throwable_class)) (are_throwable P cs pc) e in
      go (λ x. of_caught cs pc l b p.1 x) (is_guarded c pc) p.0 a
    where
      go : (Met P k T (caught P cs pc l b) → AreCaught P k T pc l b cs) → (x : Bool) → (not x || is_within P (caught_type P c.catches) (Ref throwable_class)) ≡ true → Met P k T (if x then (c.at, thrown P l b c) ∷ caught P cs pc l b else caught P cs pc l b)
          → (IsTrue x → IsWithin P (caught_type P c.catches) (Ref throwable_class) × Covers P k T (thrown P l b c) c.at) × AreCaught P k T pc l b cs
      go more true e x = (λ t. (e, x.0), more x.1)
      go more false e x = (λ t. absurd (cc), more x)

  caught_down : (cs : List Catch) (pc : ℕ) (l m : List VType) (b c : Bool) → AreUnder P l m → (IsTrue c → IsTrue b) → Met P k T (caught P cs pc m c) → Met P k T (caught P cs pc l b)
  caught_down [] pc l m b c f t a = tt
  caught_down (e ∷ cs) pc l m b c f t a = go (λ x. caught_down cs pc l m b c f t x) (is_guarded e pc) a
    where
      go : (Met P k T (caught P cs pc m c) → Met P k T (caught P cs pc l b)) → (x : Bool) → Met P k T (if x then (e.at, thrown P m c e) ∷ caught P cs pc m c else caught P cs pc m c) → Met P k T (if x then (e.at, thrown P l b e) ∷ caught P cs pc l b else caught P cs pc l b)
      go more true x = (covers_down (thrown P l b e) (thrown P m c e) e.at (record { locals = f; stack = under_same P (caught_type P e.catches ∷ []); built = t }) x.0, more x.1)
      go more false x = more x

  pub demands_down : (pc : ℕ) (h g x y : Types) (tos : List ℕ) → AreUnder P h.locals g.locals → (IsTrue g.built → IsTrue h.built) → Under P x y → Met P k T (demands P k pc g tos y) → Met P k T (demands P k pc h tos x)
  demands_down pc h g x y tos f t u a =
      let ds = each_to tos y in
      let es = caught P k.catches pc g.locals g.built in
      let fs = caught P k.catches pc y.locals y.built in
      let r = met_second ds (es ++ fs) a in
      met_append (each_to tos x) (caught P k.catches pc h.locals h.built ++ caught P k.catches pc x.locals x.built) (ways_down tos x y u (met_first ds (es ++ fs) a))
      (met_append (caught P k.catches pc h.locals h.built) (caught P k.catches pc x.locals x.built) (caught_down k.catches pc h.locals g.locals h.built g.built f t (met_first es fs r)) (caught_down k.catches pc x.locals y.locals x.built y.built u.locals u.built (met_second es fs r)))

  pub to_demands : (pc : ℕ) (g x : Types) (tos : List ℕ) → Keeps P k T pc g tos x → Met P k T (demands P k pc g tos x)
  to_demands pc g x tos a =
      met_append (each_to tos x) (caught P k.catches pc g.locals g.built ++ caught P k.catches pc x.locals x.built) (to_ways tos x a.goes)
      (met_append (caught P k.catches pc g.locals g.built) (caught P k.catches pc x.locals x.built) (to_caught k.catches pc g.locals g.built a.before) (to_caught k.catches pc x.locals x.built a.after))

  pub of_demands : (pc : ℕ) (g x : Types) (tos : List ℕ) → length x.stack ≤ k.max_stack → are_throwable P k.catches pc ≡ true → Met P k T (demands P k pc g tos x) → Keeps P k T pc g tos x
  of_demands pc g x tos room e a =
      let r = met_second (each_to tos x) (caught P k.catches pc g.locals g.built ++ caught P k.catches pc x.locals x.built) a in
      record {
        room = room;
        goes = of_ways tos x (met_first (each_to tos x) (caught P k.catches pc g.locals g.built ++ caught P k.catches pc x.locals x.built) a);
        before = of_caught k.catches pc g.locals g.built e (met_first (caught P k.catches pc g.locals g.built) (caught P k.catches pc x.locals x.built) r);
        after = of_caught k.catches pc x.locals x.built e (met_second (caught P k.catches pc g.locals g.built) (caught P k.catches pc x.locals x.built) r);
      }

-- what flows from a frame has frames
abbrev pub AreFramed : Program → ℕ → Demands → Type 0
AreFramed P n ds = AllByRecursion (λ (d : ℕ × Types). IsFramed P n d.1) ds

module _ (P : Program) (n : ℕ) where
  framed_append : (a b : Demands) → AreFramed P n a → AreFramed P n b → AreFramed P n (a ++ b)
  framed_append [] b x y = y
  framed_append (d ∷ a) b x y = (x.0, framed_append a b x.1 y)

  ways_framed : (tos : List ℕ) (h : Types) → IsFramed P n h → AreFramed P n (each_to tos h)
  ways_framed [] h f = tt
  ways_framed (to ∷ tos) h f = (f, ways_framed tos h f)

  caught_framed : (cs : List Catch) (pc : ℕ) (l : List VType) (b : Bool) → length l ≡ n → IsLocals l → AreFramed P n (caught P cs pc l b)
  caught_framed [] pc l b e a = tt
  caught_framed (c ∷ cs) pc l b e a = go (is_guarded c pc) (caught_framed cs pc l b e a)
    where
      go : (x : Bool) → AreFramed P n (caught P cs pc l b) → AreFramed P n (if x then (c.at, thrown P l b c) ∷ caught P cs pc l b else caught P cs pc l b)
      go true x = (record { places = e; each = a }, x)
      go false x = x

  pub demands_framed : (k : Method) (pc : ℕ) (g x : Types) (tos : List ℕ) → IsFramed P n g → IsFramed P n x → AreFramed P n (demands P k pc g tos x)
  demands_framed k pc g x tos f e = framed_append (each_to tos x) (caught P k.catches pc g.locals g.built ++ caught P k.catches pc x.locals x.built) (ways_framed tos x e)
      (framed_append (caught P k.catches pc g.locals g.built) (caught P k.catches pc x.locals x.built) (caught_framed k.catches pc g.locals g.built f.places f.each) (caught_framed k.catches pc x.locals x.built e.places e.each))
