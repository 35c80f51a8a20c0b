-- What an instruction asks and leaves in a duplicate, over the copies of what it finds in the method: the same, under other names.
use Rattle.std.proofs.Common.{◌≡◌, ℕ, suc, ◌+◌, ◌<◌, List, [], ◌∷◌, ◌++◌, length, map, Option, Some, Bool, true, false, refl, ap, subst, ◌∙◌, arith}
use Rattle.std.specs.Prelude.{slice_get, slice_set, nat_lt, if◌then◌else◌}
use Rattle.std.proofs.lemmas.Bool.Decides.{nat_tests}
use Rattle.std.proofs.lemmas.List.{length-set}
use Rattle.jmodel.specs.declared.typing.VType.{VType}
use Rattle.jmodel.specs.declared.typing.VType.TheVariants.{Int, Long, Second, Null, Ref, Uninit, UninitThis}
use Rattle.objects.specs.declared.op.Sort.{Sort}
use Rattle.objects.specs.declared.op.Sort.TheVariants as sort
use Rattle.objects.specs.declared.op.Width.{Width}
use Rattle.objects.specs.declared.op.Width.TheVariants as width
use Rattle.objects.specs.declared.op.Conversion.{Conversion}
use Rattle.objects.specs.declared.op.Conversion.TheVariants.{IntToLong, LongToInt}
use Rattle.objects.specs.declared.op.StackOp.{StackOp}
use Rattle.objects.specs.declared.op.StackOp.TheVariants.{Nop, Pop, Pop2, Dup, DupX1, DupX2, Dup2, Dup2X1, Dup2X2, Swap}
use Rattle.objects.specs.semantics.Program.{Method, Program}
use Rattle.objects.specs.typing.TypeOrder.{object_class, is_array, is_within, IsWithin, AreWithin, IsLocals}
use Rattle.objects.specs.typing.Typing.{freed, Types, Flow, Leads, Wrong, with_stack, leaves, ends, if_so, is_reference, on, on_each, on_int, on_long, on_number, number_types, on_reference, on_top, on_one, on_two, on_array, local_in, int_in, long_at, set_local, set_long, loads, stores, rearranged, converted}
use Rattle.objects.specs.rewriting.Rewriting.{moved, moved_long, moved_to, more_locals, is_stray_of}
use Rattle.objects.proofs.SameFlow.{within_same}
use Rattle.objects.proofs.Agreeing.{IsOneKind}
use Rattle.objects.proofs.MovedTypes.{named, all_named, named_within, IsFixed, AreFixed, fixed_before}
use Rattle.objects.proofs.FreedPlaces.{freed_size}
use Rattle.objects.proofs.Copying.{Copying}

module _ (P : Program) (ms : List Method) (at : ℕ → ℕ) (copy : List VType → List VType) (p n : ℕ) (s : Bool) where
  abbrev Q : Program
  Q = record P { methods = ms }

  abbrev pub all : List VType → List VType
  all s = all_named at s

  -- the types of a place of the duplicate, over another stack
  abbrev pub copy_of : Types → List VType → Types
  copy_of h s = record { locals = copy h.locals; stack = s; built = h.built }

  -- on to the blocks of the same instructions; the locals are at most the copies of each that are wider
  pub record Goes (to : List ℕ) (h : Types) (tos : List ℕ) (g : Types) : Type 0 where
    pub targets : tos ≡ map at to
    pub stack : g.stack ≡ all h.stack
    pub built : g.built ≡ h.built
    pub size : length g.locals ≡ n + more_locals s
    pub locals : (us : List VType) → AreWithin P h.locals us → AreWithin P g.locals (copy us)

  abbrev pub IsMoved : Flow → Flow → Type 0
  IsMoved Wrong g = Unit {0}
  IsMoved (Leads to h) Wrong = ⊥
  IsMoved (Leads to h) (Leads tos g) = Goes to h tos g

  -- ---- what is asked of a stack

  pub so_moved : (b c : Bool) (j k : Flow) → (b ≡ true → c ≡ true) → (b ≡ true → IsMoved j k) → IsMoved (if_so b j) (if_so c k)
  so_moved false c j k f m = tt
  so_moved true true j k f m = m refl
  so_moved true false j k f m = absurd (let e = f refl in cc)

  pub within_moved : (u t : VType) → IsFixed at t → is_within P u t ≡ true → is_within Q (named at u) t ≡ true
  within_moved u t fixed e = within_same P ms (named at u) t ∙ subst (λ (t : VType). IsWithin P (named at u) t) fixed (named_within at P u t e)

  pub on_moved : (t : VType) (s : List VType) (j k : List VType → Flow) → IsFixed at t → ((s : List VType) → IsMoved (j s) (k (all s))) → IsMoved (on P t s j) (on Q t (all s) k)
  on_moved t [] j k fixed f = tt
  on_moved t (u ∷ s) j k fixed f = go (is_within P u t) (is_within Q (named at u) t) (within_moved u t fixed)
    where
      go : (b c : Bool) → (b ≡ true → c ≡ true) → IsMoved (if b then j s else Wrong) (if c then k (all s) else Wrong)
      go false c g = tt
      go true true g = f s
      go true false g = absurd (let e = g refl in cc)

  pub each_moved : (ts s : List VType) (j k : List VType → Flow) → AreFixed at ts → ((s : List VType) → IsMoved (j s) (k (all s))) → IsMoved (on_each P ts s j) (on_each Q ts (all s) k)
  each_moved [] s j k fixed f = f s
  each_moved (t ∷ ts) s j k fixed f = on_moved t s _ _ fixed.0 (λ s. each_moved ts s j k fixed.1 f)

  -- so where it is known what lies below
  pub each_moved_at : (ts s : List VType) (j k : List VType → Flow) → AreFixed at ts → ((u : List VType) → ((i : ℕ) → slice_get s (length ts + i) ≡ slice_get u i) → IsMoved (j u) (k (all u))) → IsMoved (on_each P ts s j) (on_each Q ts (all s) k)
  each_moved_at [] s j k fixed f = f s (λ i. let e : 0 + i ≡ i = omega arith in ap (slice_get s) e)
  each_moved_at (t ∷ ts) [] j k fixed f = tt
  each_moved_at (t ∷ ts) (u ∷ s) j k fixed f = go (is_within P u t) (is_within Q (named at u) t) (within_moved u t fixed.0) (each_moved_at ts s j k fixed.1 (λ v g. f v (λ i. below i ∙ g i)))
    where
      below : (i : ℕ) → slice_get (u ∷ s) (length (t ∷ ts) + i) ≡ slice_get s (length ts + i)
      below i = let e : length (t ∷ ts) + i ≡ suc (length ts + i) = omega arith in ap (slice_get (u ∷ s)) e

      go : (b c : Bool) → (b ≡ true → c ≡ true) → IsMoved (on_each P ts s j) (on_each Q ts (all s) k) → IsMoved (if b then on_each P ts s j else Wrong) (if c then on_each Q ts (all s) k else Wrong)
      go false c g m = tt
      go true true g m = m
      go true false g m = absurd (let e = g refl in cc)

  pub int_moved : (s : List VType) (j k : List VType → Flow) → ((s : List VType) → IsMoved (j s) (k (all s))) → IsMoved (on_int s j) (on_int (all s) k)
  int_moved [] j k f = tt
  int_moved (Int ∷ s) j k f = f s
  int_moved (t ∷ s) j k f = tt

  pub long_moved : (s : List VType) (j k : List VType → Flow) → ((s : List VType) → IsMoved (j s) (k (all s))) → IsMoved (on_long P s j) (on_long Q (all s) k)
  long_moved s j k f = each_moved (Second ∷ Long ∷ []) s j k (refl, (refl, tt)) f

  pub number_moved : (w : Width) (s : List VType) (j k : List VType → Flow) → ((s : List VType) → IsMoved (j s) (k (all s))) → IsMoved (on_number P w s j) (on_number Q w (all s) k)
  number_moved width.Int s j k f = int_moved s j k f
  number_moved width.Long s j k f = long_moved s j k f

  pub reference_moved : (s : List VType) (j k : List VType → Flow) → ((s : List VType) → IsMoved (j s) (k (all s))) → IsMoved (on_reference P s j) (on_reference Q (all s) k)
  reference_moved s j k f = on_moved (Ref object_class) s j k refl f

  pub top_moved : (s : List VType) (j k : VType → List VType → Flow) → ((t : VType) (s : List VType) → IsMoved (j t s) (k (named at t) (all s))) → IsMoved (on_top s j) (on_top (all s) k)
  top_moved [] j k f = tt
  top_moved (t ∷ s) j k f = f t s

  pub one_moved : (s : List VType) (j k : VType → List VType → Flow) → ((t : VType) (s : List VType) → IsMoved (j t s) (k (named at t) (all s))) → IsMoved (on_one s j) (on_one (all s) k)
  one_moved [] j k f = tt
  one_moved (Int ∷ s) j k f = f Int s
  one_moved (Null ∷ s) j k f = f Null s
  one_moved (Ref n ∷ s) j k f = f (Ref n) s
  one_moved (Uninit q ∷ s) j k f = f (Uninit q) s
  one_moved (UninitThis ∷ s) j k f = f UninitThis s
  one_moved (t ∷ s) j k f = tt

  two_ones : (s : List VType) (j k : VType → VType → List VType → Flow) → ((t u : VType) (s : List VType) → IsMoved (j t u s) (k (named at t) (named at u) (all s)))
      → IsMoved (on_one s (λ t s. on_one s (λ u s. j t u s))) (on_one (all s) (λ t s. on_one s (λ u s. k t u s)))
  two_ones s j k f = one_moved s _ _ (λ t s. one_moved s _ _ (λ u s. f t u s))

  pub two_moved : (s : List VType) (j k : VType → VType → List VType → Flow) → ((t u : VType) (s : List VType) → IsMoved (j t u s) (k (named at t) (named at u) (all s))) → IsMoved (on_two s j) (on_two (all s) k)
  two_moved [] j k f = tt
  two_moved (Second ∷ Long ∷ s) j k f = f Second Long s
  two_moved (Second ∷ s) j k f = tt
  two_moved (Int ∷ s) j k f = two_ones (Int ∷ s) j k f
  two_moved (Null ∷ s) j k f = two_ones (Null ∷ s) j k f
  two_moved (Ref n ∷ s) j k f = two_ones (Ref n ∷ s) j k f
  two_moved (Uninit q ∷ s) j k f = two_ones (Uninit q ∷ s) j k f
  two_moved (UninitThis ∷ s) j k f = two_ones (UninitThis ∷ s) j k f
  two_moved (t ∷ s) j k f = tt

  -- null, or an array
  abbrev pub IsArrayType : VType → Type 0
  IsArrayType Null = Unit {0}
  IsArrayType (Ref n) = is_array n ≡ true
  IsArrayType t = ⊥

  pub array_moved : (s : List VType) (j k : VType → List VType → Flow) → ((t : VType) (s : List VType) → IsArrayType t → IsMoved (j t s) (k t (all s))) → IsMoved (on_array s j) (on_array (all s) k)
  array_moved [] j k f = tt
  array_moved (Null ∷ s) j k f = f Null s tt
  array_moved (Ref n ∷ s) j k f = by (is_array n) refl
    where
      by : (b : Bool) → is_array n ≡ b → IsMoved (if_so b (j (Ref n) s)) (if_so b (k (Ref n) (all s)))
      by true e = f (Ref n) s e
      by false e = tt
  array_moved (t ∷ s) j k f = tt

  -- ---- what is left

  module _ (K : Copying P at p n s copy) (h : Types) (many : length h.locals ≡ n) where
    abbrev r : List VType
    r = all h.stack

    pub ends_moved : (b c : Bool) (u : List VType) → b ≡ c → IsMoved (ends b (with_stack h u)) (ends c (copy_of h (all u)))
    ends_moved true true u e = record { targets = refl; stack = refl; built = refl; size = K.size h.locals many; locals = λ us w. K.within h.locals us w }
    ends_moved false c u e = tt
    ends_moved true false u e = absurd (let no : true ≡ false = e in cc)

    pub leads_moved : (to tos : List ℕ) (u : List VType) → tos ≡ map at to → IsMoved (Leads to (with_stack h u)) (Leads tos (copy_of h (all u)))
    leads_moved to tos u e = record { targets = e; stack = refl; built = refl; size = K.size h.locals many; locals = λ us w. K.within h.locals us w }

    module _ (pc a : ℕ) (next : a + 1 ≡ at (pc + 1)) where
      pub leaves_moved : (v u : List VType) → IsMoved (leaves pc h u) (leaves a (copy_of h v) (all u))
      leaves_moved v u = record { targets = ap (λ (x : ℕ). x ∷ []) next; stack = refl; built = refl; size = K.size h.locals many; locals = λ us w. K.within h.locals us w }

      -- values that keep their types, on top
      pub gives_moved : (v ts u : List VType) → AreFixed at ts → IsMoved (leaves pc h (ts ++ u)) (leaves a (copy_of h v) (ts ++ all u))
      gives_moved v ts u fixed = subst (λ (l : List VType). IsMoved (leaves pc h (ts ++ u)) (leaves a (copy_of h v) l)) (fixed_before at ts u fixed) (leaves_moved v (ts ++ u))

      pub number_fixed : (w : Width) → AreFixed at (number_types w)
      number_fixed width.Int = (refl, tt)
      number_fixed width.Long = (refl, (refl, tt))

      pub converted_moved : (c : Conversion) → IsMoved (converted P c pc h) (converted Q c a (copy_of h r))
      converted_moved IntToLong = int_moved h.stack _ _ (λ s. leaves_moved r (Second ∷ Long ∷ s))
      converted_moved LongToInt = long_moved h.stack _ _ (λ s. leaves_moved r (Int ∷ s))
      converted_moved c = int_moved h.stack _ _ (λ s. leaves_moved r (Int ∷ s))

      pub rearranged_moved : (o : StackOp) → IsMoved (rearranged o pc h) (rearranged o a (copy_of h r))
      rearranged_moved Nop = leaves_moved r h.stack
      rearranged_moved Pop = one_moved h.stack _ _ (λ t s. leaves_moved r s)
      rearranged_moved Pop2 = two_moved h.stack _ _ (λ t u s. leaves_moved r s)
      rearranged_moved Dup = one_moved h.stack _ _ (λ t s. leaves_moved r (t ∷ t ∷ s))
      rearranged_moved DupX1 = one_moved h.stack _ _ (λ t s. one_moved s _ _ (λ u s. leaves_moved r (t ∷ u ∷ t ∷ s)))
      rearranged_moved DupX2 = one_moved h.stack _ _ (λ t s. two_moved s _ _ (λ u v s. leaves_moved r (t ∷ u ∷ v ∷ t ∷ s)))
      rearranged_moved Dup2 = two_moved h.stack _ _ (λ t u s. leaves_moved r (t ∷ u ∷ t ∷ u ∷ s))
      rearranged_moved Dup2X1 = two_moved h.stack _ _ (λ t u s. one_moved s _ _ (λ v s. leaves_moved r (t ∷ u ∷ v ∷ t ∷ u ∷ s)))
      rearranged_moved Dup2X2 = two_moved h.stack _ _ (λ t u s. two_moved s _ _ (λ v w s. leaves_moved r (t ∷ u ∷ v ∷ w ∷ t ∷ u ∷ s)))
      rearranged_moved Swap = one_moved h.stack _ _ (λ t s. one_moved s _ _ (λ u s. leaves_moved r (u ∷ t ∷ s)))

      -- ---- locals

      module _ (locals : IsLocals h.locals) where
        pub int_local : (i : ℕ) (j k : Flow) → IsMoved j k → IsMoved (int_in (slice_get h.locals i) j) (int_in (slice_get (copy h.locals) (moved p i)) k)
        int_local i j k m = by (slice_get h.locals i) refl
          where
            by : (o : Option VType) → slice_get h.locals i ≡ o → IsMoved (int_in o j) (int_in (slice_get (copy h.locals) (moved p i)) k)
            by (Some Int) e = let g = K.one h.locals i Int e tt in rw g m
            by o e = tt

        pub loads_moved : (t : Sort) (i : ℕ) → (is_stray_of t p i ≡ true → s ≡ true) → IsMoved (loads t i pc h) (loads t (moved_to t p n i) a (copy_of h r))
        loads_moved sort.Int i stray = int_local i _ _ (leaves_moved r (Int ∷ h.stack))
        loads_moved sort.Reference i stray = by (slice_get h.locals i) refl
          where
            by : (o : Option VType) → slice_get h.locals i ≡ o → IsMoved (local_in o (λ t. if_so (is_reference t) (leaves pc h (t ∷ h.stack)))) (loads sort.Reference (moved p i) a (copy_of h r))
            by (Some Null) e = let g = K.one h.locals i Null e tt in rw g (leaves_moved r (Null ∷ h.stack))
            by (Some (Ref m)) e = let g = K.one h.locals i (Ref m) e tt in rw g (leaves_moved r (Ref m ∷ h.stack))
            by (Some (Uninit q)) e = let g = K.one h.locals i (Uninit q) e tt in rw g (leaves_moved r (Uninit q ∷ h.stack))
            by (Some UninitThis) e = let g = K.one h.locals i UninitThis e tt in rw g (leaves_moved r (UninitThis ∷ h.stack))
            by o e = tt
        loads_moved sort.Long i stray = by (slice_get h.locals i) (slice_get h.locals (i + 1)) refl refl
          where
            stray_at : suc i ≡ p → s ≡ true
            stray_at e = stray (grind (arith, nat_tests))

            by : (o u : Option VType) → slice_get h.locals i ≡ o → slice_get h.locals (i + 1) ≡ u → IsMoved (long_at o u (leaves pc h (Second ∷ Long ∷ h.stack))) (loads sort.Long (moved_long p n i) a (copy_of h r))
            by (Some Long) (Some Second) e f = let g = K.long h.locals many i stray_at e f in let g0 = g.0 in let g1 = g.1 in rw (g0, g1) (leaves_moved r (Second ∷ Long ∷ h.stack))
            by o u e f = tt

        stored_size : (j : ℕ) (t : VType) → length (slice_set (freed j (copy h.locals)) j t) ≡ n + more_locals s
        stored_size j t = length-set (freed j (copy h.locals)) j t ∙ freed_size j (copy h.locals) ∙ K.size h.locals many

        both_size : (q : ℕ) → length (slice_set (slice_set (freed (q + 1) (freed q (copy h.locals))) q Long) (q + 1) Second) ≡ n + more_locals s
        both_size q =
            let fs = freed (q + 1) (freed q (copy h.locals)) in
            length-set (slice_set fs q Long) (q + 1) Second ∙ length-set fs q Long ∙ freed_size (q + 1) (freed q (copy h.locals)) ∙ freed_size q (copy h.locals) ∙ K.size h.locals many

        set_moved : (i : ℕ) (t : VType) → IsOneKind t → (u : List VType) → IsMoved (set_local (nat_lt i (length h.locals)) i t pc h u) (set_local (nat_lt (moved p i) (length (copy h.locals))) (moved p i) (named at t) a (copy_of h r) (all u))
        set_moved i t kind u = by (nat_lt i (length h.locals)) refl
          where
            by : (b : Bool) → nat_lt i (length h.locals) ≡ b → IsMoved (set_local b i t pc h u) (set_local (nat_lt (moved p i) (length (copy h.locals))) (moved p i) (named at t) a (copy_of h r) (all u))
            by false e = tt
            by true e =
                let lt : i < length h.locals = grind (arith, nat_tests) in
                let low : i < n = omega (arith, lt, many) in
                let whole = K.size h.locals many in
                let below = K.room i low in
                let inside : moved p i < length (copy h.locals) = omega (arith, whole, below) in
                let is : nat_lt (moved p i) (length (copy h.locals)) ≡ true = grind (arith, nat_tests) in
                let m : IsMoved (set_local true i t pc h u) (set_local true (moved p i) (named at t) a (copy_of h r) (all u)) =
                record { targets = ap (λ (x : ℕ). x ∷ []) next; stack = refl; built = refl; size = stored_size (moved p i) (named at t); locals = λ us w. K.store h.locals many locals i low t kind us w } in
                rw is m

        long_set : (i : ℕ) → (suc i ≡ p → s ≡ true) → (u : List VType)
            → IsMoved (set_long (nat_lt (i + 1) (length h.locals)) i pc h u) (set_long (nat_lt (moved_long p n i + 1) (length (copy h.locals))) (moved_long p n i) a (copy_of h r) (all u))
        long_set i stray u = by (nat_lt (i + 1) (length h.locals)) refl
          where
            by : (b : Bool) → nat_lt (i + 1) (length h.locals) ≡ b → IsMoved (set_long b i pc h u) (set_long (nat_lt (moved_long p n i + 1) (length (copy h.locals))) (moved_long p n i) a (copy_of h r) (all u))
            by false e = tt
            by true e =
                let lt : i + 1 < length h.locals = grind (arith, nat_tests) in
                let low : i + 1 < n = omega (arith, lt, many) in
                let whole = K.size h.locals many in
                let below = K.long_room i low stray in
                let inside : moved_long p n i + 1 < length (copy h.locals) = omega (arith, whole, below) in
                let is : nat_lt (moved_long p n i + 1) (length (copy h.locals)) ≡ true = grind (arith, nat_tests) in
                let m : IsMoved (set_long true i pc h u) (set_long true (moved_long p n i) a (copy_of h r) (all u)) =
                record { targets = ap (λ (x : ℕ). x ∷ []) next; stack = refl; built = refl; size = both_size (moved_long p n i); locals = λ us w. K.store_long h.locals many locals i low stray us w } in
                rw is m

        pub stores_moved : (t : Sort) (i : ℕ) → (is_stray_of t p i ≡ true → s ≡ true) → IsMoved (stores P t i pc h) (stores Q t (moved_to t p n i) a (copy_of h r))
        stores_moved sort.Int i stray = int_moved h.stack _ _ (λ u. set_moved i Int tt u)
        stores_moved sort.Reference i stray = by h.stack
          where
            by : (u : List VType) → IsMoved (on_top u (λ t u. if_so (is_reference t) (set_local (nat_lt i (length h.locals)) i t pc h u))) (on_top (all u) (λ t u. if_so (is_reference t) (set_local (nat_lt (moved p i) (length (copy h.locals))) (moved p i) t a (copy_of h r) u)))
            by [] = tt
            by (Null ∷ u) = set_moved i Null tt u
            by (Ref m ∷ u) = set_moved i (Ref m) tt u
            by (Uninit q ∷ u) = set_moved i (Uninit q) tt u
            by (UninitThis ∷ u) = set_moved i UninitThis tt u
            by (t ∷ u) = tt
        stores_moved sort.Long i stray = long_moved h.stack _ _ (λ u. long_set i (λ e. stray (grind (arith, nat_tests))) u)
