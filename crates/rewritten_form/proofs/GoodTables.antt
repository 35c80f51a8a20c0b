-- The narrowest typing of a source method has good names of arrays alone: with null in place of each other array, it is a typing too.
use Rattle.std.proofs.Common.{◌≡◌, ℕ, zero, suc, ◌-◌, List, [], ◌∷◌, ◌++◌, map, replicate, Option, Some, None, Bool, true, false, refl, sym, ap, subst, ◌∙◌, arith}
use Rattle.std.specs.Prelude.{slice_get, option_map, bytes_eq, not, IsTrue}
use Rattle.std.proofs.lemmas.Slice.Eq.{bytes_eq-Decides}
use Rattle.std.specs.List.{AllByRecursion}
use Rattle.jmodel.specs.declared.typing.VType.{VType}
use Rattle.jmodel.specs.declared.typing.VType.TheVariants.{Ref, Top}
use Rattle.objects.specs.declared.op.Op.{Op}
use Rattle.objects.specs.declared.op.Catch.{Catch}
use Rattle.objects.specs.declared.op.Catches.{Catches}
use Rattle.objects.specs.declared.op.Catches.TheVariants.{Conflict, Any, Of}
use Rattle.objects.specs.semantics.Program.{Method, Program}
use Rattle.objects.specs.typing.TypeOrder.{object_class, throwable_class, conflict_class, is_array, name_read, IsWithin, AreWithin}
use Rattle.objects.specs.typing.Typing.{Types, Table, types_at, Flow, Leads, Wrong, flow, first_locals, first_types, is_constructor, caught_type, Covers, AreCaught, KeepsFlow, KeepsAt, IsTypedAt, IsTyping, IsNarrowest}
use Rattle.objects.specs.typing.Source.{IsSourceOp, IsSourceMethod, IsSource}
use Rattle.objects.proofs.Fields.{each_at}
use Rattle.objects.proofs.MovedTypes.{map_long}
use Rattle.objects.proofs.Elements.{never, Within, classes, object, arrays, within}
use Rattle.rewritten_form.proofs.GoodNames.{plain_good}
use Rattle.rewritten_form.proofs.GoodTypes.{IsGoodName, IsGood, clean, all_clean, clean_good, clean_locals, clean_stack, AreCleaner, cleaner_length, cleaner_within, all_cleaner, good_cleaner, all_good}
use Rattle.rewritten_form.proofs.GoodFlows.{cleaned, IsCleaned}
use Rattle.rewritten_form.proofs.GoodOps.{IsNamedWell, IsMethodNamed, AreNamedWell, op_cleaned}

module _ (P : Program) (S : IsSource P) (N : AreNamedWell P) (k : Method) (src : IsSourceMethod P k) (own : IsMethodNamed P k) (T : Table) (typing : IsTyping P k T) where
  abbrev C : (m n : List ℕ) → IsGoodName P m → IsWithin P (Ref m) (Ref n) → IsGoodName P n
  C = N.up

  abbrev entry : Option Types → Option Types
  entry o = option_map (cleaned P C) o

  abbrev U : Table
  U = map entry T

  -- ---- the table's entries

  entry_at : (os : Table) (pc : ℕ) (h : Types) → types_at os pc ≡ Some h → types_at (map entry os) pc ≡ Some (cleaned P C h)
  entry_at [] pc h e = cc
  entry_at (None ∷ os) zero h e = cc
  entry_at (Some g ∷ os) zero h e = let s : g ≡ h = cc in ap (λ (g : Types). Some (cleaned P C g)) s
  entry_at (o ∷ os) (suc pc) h e = entry_at os pc h e

  record IsEntry (os : Table) (pc : ℕ) (g : Types) : Type 0 where
    types : Types
    there : types_at os pc ≡ Some types
    is : g ≡ cleaned P C types

  entry_back : (os : Table) (pc : ℕ) (g : Types) → types_at (map entry os) pc ≡ Some g → IsEntry os pc g
  entry_back [] pc g e = cc
  entry_back (None ∷ os) zero g e = cc
  entry_back (Some h ∷ os) zero g e = let s : cleaned P C h ≡ g = cc in record { types = h; there = refl; is = sym s }
  entry_back (o ∷ os) (suc pc) g e = let x = entry_back os pc g e in record { types = x.types; there = x.there; is = x.is }

  -- ---- where it goes on

  covers_clean : (x g : Types) (pc : ℕ) → AreCleaner P g.locals x.locals → AreCleaner P g.stack x.stack → g.built ≡ x.built → Covers P k T x pc → Covers P k U g pc
  covers_clean x g pc locals stack built c = record {
    inside = c.inside;
    types = cleaned P C c.types;
    there = entry_at T pc c.types c.there;
    fits = record {
      locals = cleaner_within P g.locals x.locals c.types.locals locals c.fits.locals;
      stack = cleaner_within P g.stack x.stack c.types.stack stack c.fits.stack;
      built = λ b. subst IsTrue (sym built) (c.fits.built b);
    };
  }

  covers_all : (x g : Types) → AreCleaner P g.locals x.locals → AreCleaner P g.stack x.stack → g.built ≡ x.built → (to : List ℕ) → AllByRecursion (Covers P k T x) to → AllByRecursion (Covers P k U g) to
  covers_all x g locals stack built [] c = tt
  covers_all x g locals stack built (pc ∷ to) c = (covers_clean x g pc locals stack built c.0, covers_all x g locals stack built to c.1)

  -- what is at most Throwable is no array
  thrown_good : (n : List ℕ) → IsWithin P (Ref n) (Ref throwable_class) → IsGoodName P n
  thrown_good n w = by (within P n throwable_class w)
    where
      by : Within P n throwable_class → IsGoodName P n
      by (classes i h) = plain_good n i
      by (object i e) = absurd (never (bytes_eq throwable_class object_class) ((bytes_eq-Decides throwable_class object_class).1 e) refl)
      by (arrays i j h) = absurd (never (is_array throwable_class) j refl)

  caught_good : (c : Catches) → IsWithin P (caught_type P c) (Ref throwable_class) → IsGood P (caught_type P c)
  caught_good Conflict w = thrown_good conflict_class w
  caught_good Any w = thrown_good throwable_class w
  caught_good (Of n) w = thrown_good (name_read P n) w

  caught_clean : (pc : ℕ) (l l' : List VType) (b b' : Bool) (cs : List Catch) → AreCleaner P l' l → b' ≡ b → AreCaught P k T pc l b cs → AreCaught P k U pc l' b' cs
  caught_clean pc l l' b b' [] f e c = tt
  caught_clean pc l l' b b' (x ∷ cs) f e c = (
    λ guarded.
        let got = c.0 guarded in (
          got.0,
          covers_clean (record { locals = l; stack = caught_type P x.catches ∷ []; built = b }) (record { locals = l'; stack = caught_type P x.catches ∷ []; built = b' }) x.at f
              (good_cleaner P C (caught_type P x.catches) (caught_good x.catches got.0), tt) e got.1,
        ),
    caught_clean pc l l' b b' cs f e c.1,
  )

  keeps_flow : (pc : ℕ) (h : Types) (F G : Flow) → IsCleaned P C F G → KeepsFlow P k T pc h F → KeepsFlow P k U pc (cleaned P C h) G
  keeps_flow pc h Wrong G m kept = absurd kept
  keeps_flow pc h (Leads to g) Wrong m kept = absurd m
  keeps_flow pc h (Leads to g) (Leads tos f) m kept = record {
    room = (let e = cleaner_length P f.stack g.stack m.stack in let r = kept.room in omega (arith, e, r));
    goes = subst (AllByRecursion (Covers P k U f)) (sym m.targets) (covers_all g f m.locals m.stack m.built to kept.goes);
    before = caught_clean pc h.locals (all_clean P h.locals) h.built h.built k.catches (all_cleaner P C h.locals) refl kept.before;
    after = caught_clean pc g.locals f.locals g.built f.built k.catches m.locals m.built kept.after;
  }

  keeps_at : (pc : ℕ) (h : Types) (o : Option Op) → ((x : Op) → o ≡ Some x → IsSourceOp P k x × IsNamedWell P x) → KeepsAt P k T pc h o → KeepsAt P k U pc (cleaned P C h) o
  keeps_at pc h None f kept = absurd kept
  keeps_at pc h (Some o) f kept = keeps_flow pc h (flow P k pc o h) (flow P k pc o (cleaned P C h)) (op_cleaned P S N k src own pc h o (f o refl).0 (f o refl).1) kept

  typed_at : (pc : ℕ) (h : Types) → IsTypedAt P k T pc h → IsTypedAt P k U pc (cleaned P C h)
  typed_at pc h x = record {
    locals = map_long (clean P) h.locals ∙ x.locals;
    each_local = clean_locals P false h.locals x.each_local;
    room = (let e = map_long (clean P) h.stack in let r = x.room in omega (arith, e, r));
    stack = clean_stack P false h.stack x.stack;
    keeps = keeps_at pc h (slice_get k.ops pc) (λ o is. (each_at (IsSourceOp P k) k.ops pc o src.each is, each_at (IsNamedWell P) k.ops pc o own.each is)) x.keeps;
  }

  -- ---- the first types

  clean_all : (ts : List VType) → AllByRecursion (IsGood P) ts → all_clean P ts ≡ ts
  clean_all [] x = refl
  clean_all (t ∷ ts) x = ap (λ (u : VType). u ∷ all_clean P ts) (clean_good P t x.0) ∙ ap (λ (us : List VType). t ∷ us) (clean_all ts x.1)

  with_tops : (ts : List VType) (m : ℕ) → AllByRecursion (IsGood P) ts → AllByRecursion (IsGood P) (ts ++ replicate m Top)
  with_tops (t ∷ ts) m x = (x.0, with_tops ts m x.1)
  with_tops [] zero x = tt
  with_tops [] (suc m) x = (tt, with_tops [] m x)

  good_first : (c : Bool) (ts : List VType) (m : ℕ) → AllByRecursion (IsGood P) ts → AllByRecursion (IsGood P) (first_locals c ts ++ replicate m Top)
  good_first true (t ∷ ts) m x = (tt, with_tops ts m x.1)
  good_first true [] m x = with_tops [] m x
  good_first false ts m x = with_tops ts m x

  clean_typing : IsTyping P k U
  clean_typing = record {
    first =
        let good = good_first (is_constructor k) k.parameters (k.locals - k.places) own.takes in
        entry_at T 0 (first_types k) typing.first ∙ ap (λ (l : List VType). Some (record { locals = l; stack = []; built = not (is_constructor k) })) (clean_all (first_types k).locals good);
    each = λ pc g e. let x = entry_back T pc g e in subst (IsTypedAt P k U pc) (sym x.is) (typed_at pc x.types (typing.each pc x.types x.there));
  }

  -- the names in the narrowest table are good, since each type is at most what stands for it
  pub narrowest_good : IsNarrowest P k T → (pc : ℕ) (h : Types) → types_at T pc ≡ Some h → AllByRecursion (IsGood P) h.locals × AllByRecursion (IsGood P) h.stack
  narrowest_good narrow pc h e =
      let c = narrow U clean_typing pc h e in
      let there = c.there in
      let same : c.types ≡ cleaned P C h = (let f : Some c.types ≡ Some (cleaned P C h) = sym there ∙ entry_at T pc h e in cc) in (
        all_good P h.locals (subst (λ (g : Types). AreWithin P h.locals g.locals) same c.fits.locals),
        all_good P h.stack (subst (λ (g : Types). AreWithin P h.stack g.stack) same c.fits.stack),
      )
