-- The table of a duplicate: at the first place of each block the copies of the types before its instruction, and inside a block those that its first
-- instructions leave on the stack.
use Rattle.std.proofs.Common.{◌≡◌, ℕ, zero, suc, ◌+◌, ◌<◌, ◌≤◌, List, [], ◌∷◌, ◌++◌, length, map, replicate, Option, Some, None, Bool, true, false, refl, sym, ap, subst, ◌∙◌, arith, append_assoc, length-append, ⊎_elim, drop}
use Rattle.std.specs.Prelude.{slice_get, IsTrue, bytes_eq, if◌then◌else◌}
use Rattle.std.specs.List.{AllByRecursion, list_any}
use Rattle.std.proofs.lemmas.Bool.{cases_lt}
use Rattle.std.proofs.lemmas.Option.{slice_get_within}
use Rattle.jmodel.specs.declared.typing.VType.{VType}
use Rattle.jmodel.specs.declared.typing.VType.TheVariants.{Null, Ref, Top}
use Rattle.objects.specs.declared.op.WordType.{WordType}
use Rattle.objects.specs.declared.op.WordType.TheVariants as word
use Rattle.objects.specs.declared.op.Op.{Op}
use Rattle.objects.specs.declared.op.Op.TheVariants as op
use Rattle.objects.specs.declared.op.Catch.{Catch}
use Rattle.objects.specs.declared.op.Catches.{Catches}
use Rattle.objects.specs.declared.op.Catches.TheVariants.{Conflict, Any, Of}
use Rattle.objects.specs.semantics.Program.{Method, Program}
use Rattle.objects.specs.typing.TypeOrder.{object_class, throwable_class, conflict_class, element_class, IsWithin, AreWithin}
use Rattle.objects.specs.typing.Typing.{Types, Table, types_at, Covers, AreCaught, caught_type, is_guarded}
use Rattle.objects.specs.typing.Source.{IsSourceCatch}
use Rattle.objects.specs.rewriting.Rewriting.{more_locals, is_stray, Typed, typed_from, after_load, block_len, block_len_of, block_at, moved_catch, duplicate_code, rewritten}
use Rattle.objects.proofs.Fields.{some_at}
use Rattle.objects.proofs.Places.{HasAt, has_all, get_back, typed_at, typed_length, at_cons, blocks_most, has_stub, past_end, blocks_grow}
use Rattle.objects.proofs.Caught.{same_le, same_lt}
use Rattle.objects.proofs.SameFlow.{within_same, are_same, name_same}
use Rattle.objects.proofs.CopiedLocals.{context}
use Rattle.objects.proofs.MovedTypes.{named, all_named, all_within, map_long, IsAlone}
use Rattle.objects.proofs.DuplicateFlows.{copy_of}

-- ---- stacks inside a block

-- what the helper's method leaves of an element, before it is cast or stands for null
abbrev pub after_stacks : WordType → Option VType → List VType → List (List VType)
after_stacks word.Reference (Some (Ref n)) v = if bytes_eq (element_class n) object_class then [] else (Ref object_class ∷ v) ∷ []
after_stacks word.Reference (Some Null) v = (Ref object_class ∷ v) ∷ v ∷ []
after_stacks t u v = []

abbrev pub more_stacks : (ℕ → ℕ) → Op → Types → List (List VType)
more_stacks at (op.GetStatic f) h = (context ∷ all_named at h.stack) ∷ []
more_stacks at (op.PutStatic f) h = (context ∷ all_named at h.stack) ∷ []
more_stacks at (op.GetField f c) h = (context ∷ all_named at h.stack) ∷ []
more_stacks at (op.PutField f c) h = (context ∷ all_named at h.stack) ∷ []
more_stacks at (op.LoadElement t) h = (context ∷ all_named at h.stack) ∷ after_stacks t (slice_get h.stack 1) (drop 2 (all_named at h.stack))
more_stacks at (op.StoreElement t) h = (context ∷ all_named at h.stack) ∷ []
more_stacks at (op.InvokeStatic m) h = (context ∷ all_named at h.stack) ∷ []
more_stacks at (op.InvokeSpecial m) h = (context ∷ all_named at h.stack) ∷ []
more_stacks at (op.InvokeVirtual m c) h = (context ∷ all_named at h.stack) ∷ []
more_stacks at (op.InvokeInterface m c) h = (context ∷ all_named at h.stack) ∷ []
more_stacks at o h = []

after_many : (t : WordType) (u : Option VType) (v : List VType) → length (after_stacks t u v) ≡ length (after_load t u)
after_many word.Reference (Some (Ref n)) v = by (bytes_eq (element_class n) object_class)
  where
    by : (b : Bool) → length (if b then [] else (Ref object_class ∷ v) ∷ []) ≡ length (if b then [] else op.CheckCast (element_class n) ∷ [])
    by true = refl
    by false = refl
after_many word.Reference (Some Null) v = refl
after_many t u v = refl

more_many : (at : ℕ → ℕ) (o : Op) (h : Types) → suc (length (more_stacks at o h)) ≡ block_len_of (Some h) o
more_many at (op.LoadElement t) h = let e = after_many t (slice_get h.stack 1) (drop 2 (all_named at h.stack)) in omega (arith, e)
more_many at o h = refl

never_true : IsTrue false → ⊥
never_true e = cc

-- ---- an instruction's block is no other's

none_past : (xs : List Typed) (r : ℕ) → length xs ≤ r → slice_get xs r ≡ None
none_past [] r le = refl
none_past (x ∷ xs) zero le = absurd (omega (arith, le))
none_past (x ∷ xs) (suc r) le = none_past xs r (omega (arith, le))

pub block_alone : (xs : List Typed) (q : ℕ) → q < length xs → IsAlone (block_at xs) q
block_alone xs q lt r e = ⊎_elim
    (λ (a : r < q). absurd (let g = blocks_grow xs r q a (omega (arith, lt)) in omega (arith, g, e)))
    (λ (b : q ≤ r). ⊎_elim
    (λ (c : q < r). absurd (⊎_elim
    (λ (i : r < length xs). let g = blocks_grow xs q r c (omega (arith, i)) in omega (arith, g, e))
    (λ (i : length xs ≤ r). let p = past_end xs r (none_past xs r i) in let g = blocks_grow xs q (length xs) lt (omega arith) in omega (arith, g, e, p))
    (cases_lt r (length xs))))
    (λ (c : r ≤ q). omega (arith, b, c))
    (cases_lt q r))
    (cases_lt r q)

module _ (P : Program) (Ts : List Table) (k : Method) (T : Table) (at : ℕ → ℕ) (copy : List VType → List VType) where
  abbrev Q : Program
  Q = rewritten P Ts

  abbrev ms : List Method
  ms = (rewritten P Ts).methods

  abbrev p : ℕ
  p = k.places

  abbrev n : ℕ
  n = k.locals

  abbrev s : Bool
  s = list_any (is_stray k.places) k.ops

  abbrev N : ℕ
  N = n + more_locals s

  abbrev pub entry : Types → List VType → Option Types
  entry h u = Some (copy_of P ms at copy p n s h u)

  abbrev pub entries : Types → List (List VType) → Table
  entries h us = map (entry h) us

  abbrev pub types_of : ℕ → Op → Option Types → Table
  types_of m o None = replicate m None
  types_of m o (Some h) = entry h (all_named at h.stack) ∷ entries h (more_stacks at o h)

  abbrev pub block_types : Typed → Table
  block_types x = types_of (block_len x) x.op x.types

  abbrev pub spread : List Typed → Table
  spread [] = []
  spread (x ∷ xs) = block_types x ++ spread xs

  -- before the stub the conflict alone is known
  abbrev pub stub_types : Types
  stub_types = record { locals = replicate N Top; stack = Ref conflict_class ∷ []; built = false }

  abbrev xs : List Typed
  xs = typed_from 0 T k.ops

  abbrev pub whole_table : Table
  whole_table = spread xs ++ Some stub_types ∷ []

  pub types_many : (x : Typed) → length (block_types x) ≡ block_len x
  types_many x = by x.op x.types
    where
      by : (o : Op) (y : Option Types) → length (types_of (block_len_of y o) o y) ≡ block_len_of y o
      by o None = many (block_len_of None o)
        where
          many : (m : ℕ) → length (replicate {A = Option Types} m None) ≡ m
          many zero = refl
          many (suc m) = ap suc (many m)
      by o (Some h) = ap suc (map_long (entry h) (more_stacks at o h)) ∙ more_many at o h

  pub spread_many : (ys : List Typed) → length (spread ys) ≡ block_at ys (length ys)
  spread_many [] = refl
  spread_many (x ∷ ys) = omega (arith, length-append (block_types x) (spread ys), types_many x, spread_many ys, at_cons x ys (length ys))

  cut : (ys : List Typed) (pc : ℕ) (x : Typed) → slice_get ys pc ≡ Some x → (pre : Table) × (post : Table) × (spread ys ≡ pre ++ (block_types x ++ post)) × (length pre ≡ block_at ys pc)
  cut [] pc x e = cc
  cut (y ∷ ys) zero x e = let s : y ≡ x = cc in ([], spread ys, ap (λ y. block_types y ++ spread ys) s, refl)
  cut (y ∷ ys) (suc pc) x e =
      let a = cut ys pc x e in
      (block_types y ++ a.0, a.1, ap (λ l. block_types y ++ l) a.2 ∙ sym (append_assoc (block_types y) a.0 _), omega (arith, length-append (block_types y) a.0, types_many y, a.3, at_cons y ys pc))

  -- the types of a block stand where its instructions do
  pub block_there : (pc : ℕ) (x : Typed) → slice_get xs pc ≡ Some x → HasAt whole_table (block_at xs pc) (block_types x)
  block_there pc x e =
      let a = cut xs pc x e in
      let tail : Table = Some stub_types ∷ [] in
      let b = block_types x in
      let is : a.0 ++ (b ++ (a.1 ++ tail)) ≡ whole_table = ap (λ l. a.0 ++ l) (sym (append_assoc b a.1 tail)) ∙ sym (append_assoc a.0 (b ++ a.1) tail) ∙ ap (λ l. l ++ tail) (sym a.2) in
      subst (λ c. HasAt c (block_at xs pc) b) is (subst (λ m. HasAt (a.0 ++ (b ++ (a.1 ++ tail))) m b) a.3 (has_all a.0 b (a.1 ++ tail)))

  abbrev end : ℕ
  end = block_at xs (length xs)

  pub stub_there : types_at whole_table end ≡ Some stub_types
  stub_there =
      let z : end ≡ length (spread xs) + 0 = let e = spread_many xs in omega (arith, e) in
      let is : slice_get whole_table end ≡ Some (Some stub_types) = ap (slice_get whole_table) z ∙ get_back (spread xs) (Some stub_types ∷ []) 0 in
      rw is refl

  module _ (D : Method) (code : D ≡ duplicate_code P k xs) (own : at ≡ block_at xs) where
    many_ops : length xs ≡ length k.ops
    many_ops = typed_length 0 T k.ops

    pub end_inside : end < length D.ops
    end_inside = slice_get_within D.ops end op.Throw (ap (λ (d : Method). slice_get d.ops end) code ∙ has_stub P k xs)

    pub inside : (pc : ℕ) → pc < length k.ops → at pc < length D.ops
    inside pc lt =
        let m = many_ops in
        let le = blocks_most xs pc (length xs) (omega (arith, m, lt)) (omega arith) in
        let e = end_inside in
        let z : at pc ≡ block_at xs pc = ap (λ (f : ℕ → ℕ). f pc) own in
        omega (arith, le, e, z)

    pub types_there : (pc : ℕ) (h : Types) → pc < length k.ops → types_at T pc ≡ Some h → types_at whole_table (at pc) ≡ entry h (all_named at h.stack)
    types_there pc h lt e =
        let o = some_at k.ops pc lt in
        let y : 0 + pc ≡ pc = omega arith in
        let here = typed_at 0 T k.ops pc o.0 o.1 in
        let types : types_at T (0 + pc) ≡ Some h = ap (types_at T) y ∙ e in
        let x : slice_get xs pc ≡ Some (record { op = o.0; types = Some h }) = here ∙ ap (λ (t : Option Types). Some (record { op = o.0; types = t })) types in
        let z : at pc ≡ block_at xs pc = ap (λ (f : ℕ → ℕ). f pc) own in
        let is : slice_get whole_table (block_at xs pc) ≡ Some (entry h (all_named at h.stack)) = (block_there pc (record { op = o.0; types = Some h }) x).0 in
        rw z (rw is refl)

    -- ---- places that the method covers, its duplicate covers

    pub covers_copy : (x g : Types) (pc : ℕ) → g.stack ≡ all_named at x.stack → g.built ≡ x.built → ((us : List VType) → AreWithin P x.locals us → AreWithin P g.locals (copy us)) → Covers P k T x pc → Covers Q D whole_table g (at pc)
    covers_copy x g pc stack built locals c = record {
      inside = inside pc c.inside;
      types = copy_of P ms at copy p n s c.types (all_named at c.types.stack);
      there = types_there pc c.types c.inside c.there;
      fits = record {
        locals = are_same P ms g.locals (copy c.types.locals) (locals c.types.locals c.fits.locals);
        stack = are_same P ms g.stack (all_named at c.types.stack) (subst (λ (l : List VType). AreWithin P l (all_named at c.types.stack)) (sym stack) (all_within at P x.stack c.types.stack c.fits.stack));
        built = λ b. subst IsTrue (sym built) (c.fits.built b);
      };
    }

    pub covers_all : (x g : Types) → g.stack ≡ all_named at x.stack → g.built ≡ x.built → ((us : List VType) → AreWithin P x.locals us → AreWithin P g.locals (copy us)) → (to : List ℕ) → AllByRecursion (Covers P k T x) to → AllByRecursion (Covers Q D whole_table g) (map at to)
    covers_all x g stack built locals [] c = tt
    covers_all x g stack built locals (pc ∷ to) c = (covers_copy x g pc stack built locals c.0, covers_all x g stack built locals to c.1)

    -- ---- handlers

    under_tops : (ls : List VType) → AreWithin Q ls (replicate (length ls) Top)
    under_tops [] = tt
    under_tops (t ∷ ls) = (refl, under_tops ls)

    same_caught : (c : Catches) → caught_type Q c ≡ caught_type P c
    same_caught Conflict = refl
    same_caught Any = refl
    same_caught (Of m) = ap Ref (name_same P ms m)

    caught_named : (c : Catches) → named at (caught_type P c) ≡ caught_type Q c
    caught_named Conflict = refl
    caught_named Any = refl
    caught_named (Of m) = ap Ref (sym (name_same P ms m))

    module _ (pc : ℕ) (y : Typed) (e : slice_get xs pc ≡ Some y) (b : ℕ) (low : block_at xs pc ≤ b) (high : b < block_at xs pc + block_len y) (l l' : List VType) (built : Bool)
        (size : length l' ≡ N) (locals : (us : List VType) → AreWithin P l us → AreWithin P l' (copy us)) where
      caught_copies : (cs : List Catch) → AllByRecursion (IsSourceCatch P k) cs → AreCaught P k T pc l built cs → AreCaught Q D whole_table b l' built (map (moved_catch at) cs)
      caught_copies [] src c = tt
      caught_copies (x ∷ cs) src c = (λ guarded. let got = c.0 (subst IsTrue same guarded) in (below got.0, place got.1), caught_copies cs src.1 c.1)
        where
          many : length xs ≡ length k.ops
          many = many_ops

          same : is_guarded (moved_catch at x) b ≡ is_guarded x pc
          same =
              let f = same_le xs pc b y e low high x.from (subst (λ (m : ℕ). x.from ≤ m) (sym many) src.0.from) in
              let g = same_lt xs pc b y e low high x.to (subst (λ (m : ℕ). x.to ≤ m) (sym many) src.0.to) in
              let z0 : at x.from ≡ block_at xs x.from = ap (λ (f : ℕ → ℕ). f x.from) own in
              let z1 : at x.to ≡ block_at xs x.to = ap (λ (f : ℕ → ℕ). f x.to) own in
              rw (z0, z1, f, g) refl

          below : IsWithin P (caught_type P x.catches) (Ref throwable_class) → IsWithin Q (caught_type Q x.catches) (Ref throwable_class)
          below w = subst (λ (t : VType). IsWithin Q t (Ref throwable_class)) (sym (same_caught x.catches)) (within_same P ms (caught_type P x.catches) (Ref throwable_class) ∙ w)

          place : Covers P k T (record { locals = l; stack = caught_type P x.catches ∷ []; built = built }) x.at → Covers Q D whole_table (record { locals = l'; stack = caught_type Q x.catches ∷ []; built = built }) (at x.at)
          place w = covers_copy (record { locals = l; stack = caught_type P x.catches ∷ []; built = built }) (record { locals = l'; stack = caught_type Q x.catches ∷ []; built = built }) x.at
              (ap (λ (t : VType). t ∷ []) (sym (caught_named x.catches))) refl locals w

      -- a conflict finds the stub, and what the method's own entries take goes where they lead
      pub caught_there : IsWithin Q (Ref conflict_class) (Ref conflict_class) → IsWithin Q (Ref conflict_class) (Ref throwable_class) → AllByRecursion (IsSourceCatch P k) k.catches → AreCaught P k T pc l built k.catches → AreCaught Q D whole_table b l' built D.catches
      caught_there itself thrown src c = subst (λ (d : Method). AreCaught Q D whole_table b l' built d.catches) (sym code) (
        λ guarded. (
          thrown,
          record {
            inside = end_inside;
            types = stub_types;
            there = stub_there;
            fits = record { locals = subst (λ (m : ℕ). AreWithin Q l' (replicate m Top)) size (under_tops l'); stack = (itself, tt); built = λ b. absurd (never_true b) };
          },
        ),
        subst (λ (f : ℕ → ℕ). AreCaught Q D whole_table b l' built (map (moved_catch f) k.catches)) own (caught_copies k.catches src c),
      )
