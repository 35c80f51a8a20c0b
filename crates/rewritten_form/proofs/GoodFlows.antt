-- What an instruction asks and leaves over types in which null stands for arrays whose names may not stand in a class file: at most what stands for each wider type.
use Rattle.std.proofs.Common.{◌≡◌, ℕ, ◌+◌, List, [], ◌∷◌, ◌++◌, length, Option, Some, Bool, true, false, refl, sym, ap, subst, ◌∙◌}
use Rattle.std.specs.Prelude.{slice_get, slice_set, nat_lt, if◌then◌else◌}
use Rattle.jmodel.specs.declared.typing.VType.{VType}
use Rattle.jmodel.specs.declared.typing.VType.TheVariants.{Int, Long, Second, Null, Ref, Uninit, UninitThis}
use Rattle.objects.specs.declared.op.Sort.{Sort}
use Rattle.objects.specs.declared.op.Sort.TheVariants as sort
use Rattle.objects.specs.declared.op.Width.{Width}
use Rattle.objects.specs.declared.op.Width.TheVariants as width
use Rattle.objects.specs.declared.op.Conversion.{Conversion}
use Rattle.objects.specs.declared.op.Conversion.TheVariants.{IntToLong, LongToInt}
use Rattle.objects.specs.declared.op.StackOp.{StackOp}
use Rattle.objects.specs.declared.op.StackOp.TheVariants.{Nop, Pop, Pop2, Dup, DupX1, DupX2, Dup2, Dup2X1, Dup2X2, Swap}
use Rattle.objects.specs.semantics.Program.{Program}
use Rattle.objects.specs.typing.TypeOrder.{object_class, is_array, is_within, IsWithin}
use Rattle.objects.specs.typing.Typing.{freed, Types, Flow, Leads, Wrong, with_stack, leaves, ends, if_so, is_reference, is_one, on, on_each, on_int, on_long, on_number, number_types, on_reference, on_top, on_one, on_two, on_array, local_in, int_in, long_at, set_local, set_long, loads, stores, rearranged, converted}
use Rattle.objects.proofs.Places.{get_map}
use Rattle.objects.proofs.MovedTypes.{map_set, map_long}
use Rattle.rewritten_form.proofs.GoodTypes.{IsGoodName, clean, all_clean, by_clean, clean_below, clean_freed, AreCleaner, cleaner_append, all_cleaner, no_true}

module _ (P : Program) (C : (m n : List ℕ) → IsGoodName P m → IsWithin P (Ref m) (Ref n) → IsGoodName P n) where
  abbrev pub cl : List VType → List VType
  cl s = all_clean P s

  abbrev pub cleaned : Types → Types
  cleaned h = record { locals = cl h.locals; stack = cl h.stack; built = h.built }

  -- on to the same places, with at most what stands for each wider type
  pub record Goes (to : List ℕ) (h : Types) (tos : List ℕ) (g : Types) : Type 0 where
    pub targets : tos ≡ to
    pub locals : AreCleaner P g.locals h.locals
    pub stack : AreCleaner P g.stack h.stack
    pub built : g.built ≡ h.built

  abbrev pub IsCleaned : Flow → Flow → Type 0
  IsCleaned Wrong g = Unit {0}
  IsCleaned (Leads to h) Wrong = ⊥
  IsCleaned (Leads to h) (Leads tos g) = Goes to h tos g

  -- ---- what is asked of a stack

  pub so_cleaned : (b c : Bool) (j l : Flow) → (b ≡ true → c ≡ true) → (b ≡ true → IsCleaned j l) → IsCleaned (if_so b j) (if_so c l)
  so_cleaned false c j l f m = tt
  so_cleaned true true j l f m = m refl
  so_cleaned true false j l f m = absurd (no_true (f refl))

  pub on_cleaned : (t : VType) (s : List VType) (j l : List VType → Flow) → ((s : List VType) → IsCleaned (j s) (l (cl s))) → IsCleaned (on P t s j) (on P t (cl s) l)
  on_cleaned t [] j l f = tt
  on_cleaned t (u ∷ s) j l f = go (is_within P u t) (is_within P (clean P u) t) (clean_below P u t)
    where
      go : (b c : Bool) → (b ≡ true → c ≡ true) → IsCleaned (if b then j s else Wrong) (if c then l (cl s) else Wrong)
      go false c g = tt
      go true true g = f s
      go true false g = absurd (no_true (g refl))

  pub each_cleaned : (ts s : List VType) (j l : List VType → Flow) → ((s : List VType) → IsCleaned (j s) (l (cl s))) → IsCleaned (on_each P ts s j) (on_each P ts (cl s) l)
  each_cleaned [] s j l f = f s
  each_cleaned (t ∷ ts) s j l f = on_cleaned t s _ _ (λ s. each_cleaned ts s j l f)

  pub int_cleaned : (s : List VType) (j l : List VType → Flow) → ((s : List VType) → IsCleaned (j s) (l (cl s))) → IsCleaned (on_int s j) (on_int (cl s) l)
  int_cleaned [] j l f = tt
  int_cleaned (Int ∷ s) j l f = f s
  int_cleaned (t ∷ s) j l f = tt

  pub long_cleaned : (s : List VType) (j l : List VType → Flow) → ((s : List VType) → IsCleaned (j s) (l (cl s))) → IsCleaned (on_long P s j) (on_long P (cl s) l)
  long_cleaned s j l f = each_cleaned (Second ∷ Long ∷ []) s j l f

  pub number_cleaned : (w : Width) (s : List VType) (j l : List VType → Flow) → ((s : List VType) → IsCleaned (j s) (l (cl s))) → IsCleaned (on_number P w s j) (on_number P w (cl s) l)
  number_cleaned width.Int s j l f = int_cleaned s j l f
  number_cleaned width.Long s j l f = long_cleaned s j l f

  pub reference_cleaned : (s : List VType) (j l : List VType → Flow) → ((s : List VType) → IsCleaned (j s) (l (cl s))) → IsCleaned (on_reference P s j) (on_reference P (cl s) l)
  reference_cleaned s j l f = on_cleaned (Ref object_class) s j l f

  pub top_cleaned : (s : List VType) (j l : VType → List VType → Flow) → ((t : VType) (s : List VType) → IsCleaned (j t s) (l (clean P t) (cl s))) → IsCleaned (on_top s j) (on_top (cl s) l)
  top_cleaned [] j l f = tt
  top_cleaned (t ∷ s) j l f = f t s

  one_ref : (n : List ℕ) → is_one (clean P (Ref n)) ≡ true
  one_ref n = by_clean P n (λ t. is_one t ≡ true) (λ k. refl) refl

  pub one_cleaned : (s : List VType) (j l : VType → List VType → Flow) → ((t : VType) (s : List VType) → IsCleaned (j t s) (l (clean P t) (cl s))) → IsCleaned (on_one s j) (on_one (cl s) l)
  one_cleaned [] j l f = tt
  one_cleaned (Int ∷ s) j l f = f Int s
  one_cleaned (Null ∷ s) j l f = f Null s
  one_cleaned (Ref n ∷ s) j l f = subst (λ (b : Bool). IsCleaned (j (Ref n) s) (if_so b (l (clean P (Ref n)) (cl s)))) (sym (one_ref n)) (f (Ref n) s)
  one_cleaned (Uninit q ∷ s) j l f = f (Uninit q) s
  one_cleaned (UninitThis ∷ s) j l f = f UninitThis s
  one_cleaned (t ∷ s) j l f = tt

  two_ones : (s : List VType) (j l : VType → VType → List VType → Flow) → ((t u : VType) (s : List VType) → IsCleaned (j t u s) (l (clean P t) (clean P u) (cl s)))
      → IsCleaned (on_one s (λ t s. on_one s (λ u s. j t u s))) (on_one (cl s) (λ t s. on_one s (λ u s. l t u s)))
  two_ones s j l f = one_cleaned s _ _ (λ t s. one_cleaned s _ _ (λ u s. f t u s))

  two_ref : (n : List ℕ) (s : List VType) (l : VType → VType → List VType → Flow) → on_two (clean P (Ref n) ∷ s) l ≡ on_one (clean P (Ref n) ∷ s) (λ t s. on_one s (λ u s. l t u s))
  two_ref n s l = by_clean P n (λ t. on_two (t ∷ s) l ≡ on_one (t ∷ s) (λ t s. on_one s (λ u s. l t u s))) (λ k. refl) refl

  pub two_cleaned : (s : List VType) (j l : VType → VType → List VType → Flow) → ((t u : VType) (s : List VType) → IsCleaned (j t u s) (l (clean P t) (clean P u) (cl s))) → IsCleaned (on_two s j) (on_two (cl s) l)
  two_cleaned [] j l f = tt
  two_cleaned (Second ∷ Long ∷ s) j l f = f Second Long s
  two_cleaned (Second ∷ s) j l f = tt
  two_cleaned (Int ∷ s) j l f = two_ones (Int ∷ s) j l f
  two_cleaned (Null ∷ s) j l f = two_ones (Null ∷ s) j l f
  two_cleaned (Ref n ∷ s) j l f = subst (IsCleaned (on_two (Ref n ∷ s) j)) (sym (two_ref n (cl s) l)) (two_ones (Ref n ∷ s) j l f)
  two_cleaned (Uninit q ∷ s) j l f = two_ones (Uninit q ∷ s) j l f
  two_cleaned (UninitThis ∷ s) j l f = two_ones (UninitThis ∷ s) j l f
  two_cleaned (t ∷ s) j l f = tt

  -- an array, of which null may take the place
  pub array_cleaned : (s : List VType) (j l : VType → List VType → Flow) → ((s : List VType) → IsCleaned (j Null s) (l Null (cl s)))
      → ((n : List ℕ) (s : List VType) → is_array n ≡ true → IsGoodName P n → IsCleaned (j (Ref n) s) (l (Ref n) (cl s))) → ((n : List ℕ) (s : List VType) → IsCleaned (j (Ref n) s) (l Null (cl s))) → IsCleaned (on_array s j) (on_array (cl s) l)
  array_cleaned [] j l f g i = tt
  array_cleaned (Null ∷ s) j l f g i = f s
  array_cleaned (Ref n ∷ s) j l f g i = by (is_array n) refl
    where
      known : is_array n ≡ true → IsGoodName P n → IsCleaned (j (Ref n) s) (if_so (is_array n) (l (Ref n) (cl s)))
      known e k = subst (λ (b : Bool). IsCleaned (j (Ref n) s) (if_so b (l (Ref n) (cl s)))) (sym e) (g n s e k)

      by : (b : Bool) → is_array n ≡ b → IsCleaned (if_so b (j (Ref n) s)) (on_array (clean P (Ref n) ∷ cl s) l)
      by true e = by_clean P n (λ t. IsCleaned (j (Ref n) s) (on_array (t ∷ cl s) l)) (known e) (i n s)
      by false e = tt
  array_cleaned (t ∷ s) j l f g i = tt

  -- ---- what is left

  module _ (pc : ℕ) (h : Types) where
    abbrev H : Types
    H = cleaned h

    pub leave : (u : List VType) → IsCleaned (leaves pc h u) (leaves pc H (cl u))
    leave u = record { targets = refl; locals = all_cleaner P C h.locals; stack = all_cleaner P C u; built = refl }

    pub give : (ts us u : List VType) → AreCleaner P ts us → IsCleaned (leaves pc h (us ++ u)) (leaves pc H (ts ++ cl u))
    give ts us u f = record { targets = refl; locals = all_cleaner P C h.locals; stack = cleaner_append P ts us (cl u) u f (all_cleaner P C u); built = refl }

    pub lead : (to : List ℕ) (u : List VType) → IsCleaned (Leads to (with_stack h u)) (Leads to (with_stack H (cl u)))
    lead to u = record { targets = refl; locals = all_cleaner P C h.locals; stack = all_cleaner P C u; built = refl }

    pub finish : (b : Bool) (u : List VType) → IsCleaned (ends b (with_stack h u)) (ends b (with_stack H (cl u)))
    finish true u = lead [] u
    finish false u = tt

    pub number : (w : Width) (u : List VType) → IsCleaned (leaves pc h (number_types w ++ u)) (leaves pc H (number_types w ++ cl u))
    number width.Int u = leave (Int ∷ u)
    number width.Long u = leave (Second ∷ Long ∷ u)

    pub converted_cleaned : (c : Conversion) → IsCleaned (converted P c pc h) (converted P c pc H)
    converted_cleaned IntToLong = int_cleaned h.stack _ _ (λ s. leave (Second ∷ Long ∷ s))
    converted_cleaned LongToInt = long_cleaned h.stack _ _ (λ s. leave (Int ∷ s))
    converted_cleaned c = int_cleaned h.stack _ _ (λ s. leave (Int ∷ s))

    pub rearranged_cleaned : (o : StackOp) → IsCleaned (rearranged o pc h) (rearranged o pc H)
    rearranged_cleaned Nop = leave h.stack
    rearranged_cleaned Pop = one_cleaned h.stack _ _ (λ t s. leave s)
    rearranged_cleaned Pop2 = two_cleaned h.stack _ _ (λ t u s. leave s)
    rearranged_cleaned Dup = one_cleaned h.stack _ _ (λ t s. leave (t ∷ t ∷ s))
    rearranged_cleaned DupX1 = one_cleaned h.stack _ _ (λ t s. one_cleaned s _ _ (λ u s. leave (t ∷ u ∷ t ∷ s)))
    rearranged_cleaned DupX2 = one_cleaned h.stack _ _ (λ t s. two_cleaned s _ _ (λ u v s. leave (t ∷ u ∷ v ∷ t ∷ s)))
    rearranged_cleaned Dup2 = two_cleaned h.stack _ _ (λ t u s. leave (t ∷ u ∷ t ∷ u ∷ s))
    rearranged_cleaned Dup2X1 = two_cleaned h.stack _ _ (λ t u s. one_cleaned s _ _ (λ v s. leave (t ∷ u ∷ v ∷ t ∷ u ∷ s)))
    rearranged_cleaned Dup2X2 = two_cleaned h.stack _ _ (λ t u s. two_cleaned s _ _ (λ v w s. leave (t ∷ u ∷ v ∷ w ∷ t ∷ u ∷ s)))
    rearranged_cleaned Swap = one_cleaned h.stack _ _ (λ t s. one_cleaned s _ _ (λ u s. leave (u ∷ t ∷ s)))

    -- ---- locals

    there : (i : ℕ) (t : VType) → slice_get h.locals i ≡ Some t → slice_get (cl h.locals) i ≡ Some (clean P t)
    there i t e = get_map (clean P) h.locals i t e

    pub int_local : (i : ℕ) (j l : Flow) → IsCleaned j l → IsCleaned (int_in (slice_get h.locals i) j) (int_in (slice_get (cl h.locals) i) l)
    int_local i j l m = by (slice_get h.locals i) refl
      where
        by : (o : Option VType) → slice_get h.locals i ≡ o → IsCleaned (int_in o j) (int_in (slice_get (cl h.locals) i) l)
        by (Some Int) e = let g = there i Int e in rw g m
        by o e = tt

    reference_ref : (n : List ℕ) → is_reference (clean P (Ref n)) ≡ true
    reference_ref n = by_clean P n (λ t. is_reference t ≡ true) (λ k. refl) refl

    pub loads_cleaned : (t : Sort) (i : ℕ) → IsCleaned (loads t i pc h) (loads t i pc H)
    loads_cleaned sort.Int i = int_local i _ _ (leave (Int ∷ h.stack))
    loads_cleaned sort.Reference i = by (slice_get h.locals i) refl
      where
        by : (o : Option VType) → slice_get h.locals i ≡ o → IsCleaned (local_in o (λ t. if_so (is_reference t) (leaves pc h (t ∷ h.stack)))) (local_in (slice_get (cl h.locals) i) (λ t. if_so (is_reference t) (leaves pc H (t ∷ cl h.stack))))
        by (Some Null) e = let g = there i Null e in rw g (leave (Null ∷ h.stack))
        by (Some (Ref m)) e =
            let g = there i (Ref m) e in
            subst (λ (o : Option VType). IsCleaned (leaves pc h (Ref m ∷ h.stack)) (local_in o (λ t. if_so (is_reference t) (leaves pc H (t ∷ cl h.stack))))) (sym g)
            (subst (λ (b : Bool). IsCleaned (leaves pc h (Ref m ∷ h.stack)) (if_so b (leaves pc H (clean P (Ref m) ∷ cl h.stack)))) (sym (reference_ref m)) (leave (Ref m ∷ h.stack)))
        by (Some (Uninit q)) e = let g = there i (Uninit q) e in rw g (leave (Uninit q ∷ h.stack))
        by (Some UninitThis) e = let g = there i UninitThis e in rw g (leave (UninitThis ∷ h.stack))
        by o e = tt
    loads_cleaned sort.Long i = by (slice_get h.locals i) (slice_get h.locals (i + 1)) refl refl
      where
        by : (o u : Option VType) → slice_get h.locals i ≡ o → slice_get h.locals (i + 1) ≡ u → IsCleaned (long_at o u (leaves pc h (Second ∷ Long ∷ h.stack))) (long_at (slice_get (cl h.locals) i) (slice_get (cl h.locals) (i + 1)) (leaves pc H (Second ∷ Long ∷ cl h.stack)))
        by (Some Long) (Some Second) e f = let g = there i Long e in let d = there (i + 1) Second f in rw (g, d) (leave (Second ∷ Long ∷ h.stack))
        by o u e f = tt

    size : (i : ℕ) → nat_lt i (length (cl h.locals)) ≡ nat_lt i (length h.locals)
    size i = ap (nat_lt i) (map_long (clean P) h.locals)

    stored : (i : ℕ) (t : VType) → AreCleaner P (slice_set (freed i (cl h.locals)) i (clean P t)) (slice_set (freed i h.locals) i t)
    stored i t =
        let e : cl (slice_set (freed i h.locals) i t) ≡ slice_set (freed i (cl h.locals)) i (clean P t) = map_set (clean P) (freed i h.locals) i t ∙ ap (λ (l : List VType). slice_set l i (clean P t)) (clean_freed P i h.locals) in
        subst (λ (l : List VType). AreCleaner P l (slice_set (freed i h.locals) i t)) e (all_cleaner P C (slice_set (freed i h.locals) i t))

    set_cleaned : (i : ℕ) (t : VType) (u : List VType) → IsCleaned (set_local (nat_lt i (length h.locals)) i t pc h u) (set_local (nat_lt i (length (cl h.locals))) i (clean P t) pc H (cl u))
    set_cleaned i t u = subst (λ (b : Bool). IsCleaned (set_local (nat_lt i (length h.locals)) i t pc h u) (set_local b i (clean P t) pc H (cl u))) (sym (size i)) (by (nat_lt i (length h.locals)))
      where
        by : (b : Bool) → IsCleaned (set_local b i t pc h u) (set_local b i (clean P t) pc H (cl u))
        by true = record { targets = refl; locals = stored i t; stack = all_cleaner P C u; built = refl }
        by false = tt

    stored_long : (i : ℕ) → AreCleaner P (slice_set (slice_set (freed (i + 1) (freed i (cl h.locals))) i Long) (i + 1) Second) (slice_set (slice_set (freed (i + 1) (freed i h.locals)) i Long) (i + 1) Second)
    stored_long i =
        let e : cl (slice_set (slice_set (freed (i + 1) (freed i h.locals)) i Long) (i + 1) Second) ≡ slice_set (slice_set (freed (i + 1) (freed i (cl h.locals))) i Long) (i + 1) Second =
        map_set (clean P) (slice_set (freed (i + 1) (freed i h.locals)) i Long) (i + 1) Second
        ∙ ap (λ (l : List VType). slice_set l (i + 1) Second) (map_set (clean P) (freed (i + 1) (freed i h.locals)) i Long)
        ∙ ap (λ (l : List VType). slice_set (slice_set l i Long) (i + 1) Second) (clean_freed P (i + 1) (freed i h.locals))
        ∙ ap (λ (l : List VType). slice_set (slice_set (freed (i + 1) l) i Long) (i + 1) Second) (clean_freed P i h.locals) in
        subst (λ (l : List VType). AreCleaner P l (slice_set (slice_set (freed (i + 1) (freed i h.locals)) i Long) (i + 1) Second)) e (all_cleaner P C _)

    long_set : (i : ℕ) (u : List VType) → IsCleaned (set_long (nat_lt (i + 1) (length h.locals)) i pc h u) (set_long (nat_lt (i + 1) (length (cl h.locals))) i pc H (cl u))
    long_set i u = subst (λ (b : Bool). IsCleaned (set_long (nat_lt (i + 1) (length h.locals)) i pc h u) (set_long b i pc H (cl u))) (sym (size (i + 1))) (by (nat_lt (i + 1) (length h.locals)))
      where
        by : (b : Bool) → IsCleaned (set_long b i pc h u) (set_long b i pc H (cl u))
        by true = record { targets = refl; locals = stored_long i; stack = all_cleaner P C u; built = refl }
        by false = tt

    pub stores_cleaned : (t : Sort) (i : ℕ) → IsCleaned (stores P t i pc h) (stores P t i pc H)
    stores_cleaned sort.Int i = int_cleaned h.stack _ _ (λ u. set_cleaned i Int u)
    stores_cleaned sort.Reference i = by h.stack
      where
        by : (u : List VType) → IsCleaned (on_top u (λ t u. if_so (is_reference t) (set_local (nat_lt i (length h.locals)) i t pc h u))) (on_top (cl u) (λ t u. if_so (is_reference t) (set_local (nat_lt i (length (cl h.locals))) i t pc H u)))
        by [] = tt
        by (Null ∷ u) = set_cleaned i Null u
        by (Ref m ∷ u) = subst (λ (b : Bool). IsCleaned (set_local (nat_lt i (length h.locals)) i (Ref m) pc h u) (if_so b (set_local (nat_lt i (length (cl h.locals))) i (clean P (Ref m)) pc H (cl u)))) (sym (reference_ref m)) (set_cleaned i (Ref m) u)
        by (Uninit q ∷ u) = set_cleaned i (Uninit q) u
        by (UninitThis ∷ u) = set_cleaned i UninitThis u
        by (t ∷ u) = tt
    stores_cleaned sort.Long i = long_cleaned h.stack _ _ (λ u. long_set i u)
