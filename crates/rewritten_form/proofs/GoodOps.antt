-- Each instruction of a source method leaves at most what stands for each type that is wider than what it leaves, where null stands for arrays of bad names.
use Rattle.std.proofs.Common.{◌≡◌, ℕ, zero, suc, ◌+◌, List, [], ◌∷◌, ◌++◌, reverse, replicate, Option, Some, None, Bool, true, false, refl, sym, ap, subst, ◌∙◌, ⊎_elim}
use Rattle.std.specs.Prelude.{slice_get, option_map, bytes_eq, is_some, not, ◌||◌, ◌&&◌}
use Rattle.std.specs.List.{AllByRecursion, list_any}
use Rattle.std.proofs.lemmas.Slice.Eq.{bytes_eq-Decides}
use Rattle.std.proofs.lemmas.Option.{slice_get-map}
use Rattle.jmodel.specs.declared.value.Value.{Value}
use Rattle.jmodel.specs.declared.value.Value.TheVariants as value
use Rattle.jmodel.specs.declared.typing.VType.{VType}
use Rattle.jmodel.specs.declared.typing.VType.TheVariants.{Int, Long, Second, Null, Ref, Uninit, UninitThis, Top}
use Rattle.objects.specs.declared.op.WordType.{WordType}
use Rattle.objects.specs.declared.op.WordType.TheVariants as word
use Rattle.objects.specs.declared.op.Op.{Op}
use Rattle.objects.specs.declared.op.Op.TheVariants as op
use Rattle.objects.specs.semantics.Program.{Holds, Words, Elements, Row, Field, Method, Program, field_at, method_at, row_at}
use Rattle.objects.specs.typing.TypeOrder.{object_class, throwable_class, string_class, is_array, element_class, name_read, stack_types, is_within, IsWithin}
use Rattle.objects.specs.typing.Typing.{is_received, argument_places, value_places, Types, Flow, leaves, if_so, field_in, row_in, method_in, fits_elements, element_types, stored_types, puts, exits, constant_types, is_constructor, is_uninit, new_class, is_named, direct_superclass, constructs, makes_new, arguments, results, calls, special, returns, flow}
use Rattle.objects.specs.typing.Source.{IsClass, IsRowOf, IsMadeOf, IsSourceOp, IsSourceMethod, IsSource}
use Rattle.objects.proofs.Fields.{each_at}
use Rattle.objects.proofs.Order.{plain_name}
use Rattle.rewritten_form.proofs.GoodNames.{plain_good, text_is_good, element_lawful}
use Rattle.rewritten_form.proofs.GoodTypes.{no_true, IsGoodName, IsGood, clean, by_clean, clean_below, uninit_clean, any_clean, AreCleaner, null_cleaner, good_cleaner, all_cleaner, all_good_cleaner, become_cleaner}
use Rattle.rewritten_form.proofs.GoodFlows.{cl, cleaned, IsCleaned, so_cleaned, on_cleaned, each_cleaned, int_cleaned, long_cleaned, number_cleaned, reference_cleaned, top_cleaned, array_cleaned, leave, give, lead, finish, number, converted_cleaned, rearranged_cleaned, int_local, loads_cleaned, stores_cleaned}

put_test : (i b w v : Bool) → (w ≡ true → v ≡ true) → ((i && b) || w) ≡ true → ((i && b) || v) ≡ true
put_test true true w v f e = refl
put_test true false w v f e = f e
put_test false b w v f e = f e

-- ---- what is asked of a program

-- names that an instruction gives to types
abbrev pub IsNamedWell : Program → Op → Type 0
IsNamedWell P (op.NewArray t) = (r : Row) → row_at P t ≡ Some r → IsGoodName P r.read
IsNamedWell P (op.CheckCast c) = IsGoodName P (name_read P c)
IsNamedWell P o = Unit {0}

-- the names in a method's types are good
pub record IsMethodNamed (P : Program) (k : Method) : Type 0 where
  pub class : IsGoodName P k.name.class
  pub takes : AllByRecursion (IsGood P) k.parameters
  pub gives : AllByRecursion (IsGood P) (results k)
  pub each : AllByRecursion (IsNamedWell P) k.ops

-- so are those in the types of fields and of all methods, and what is wider than a good name is good
pub record AreNamedWell (P : Program) : Type 0 where
  pub fields : (i : ℕ) (f : Field) → field_at P i ≡ Some f → AllByRecursion (IsGood P) (stack_types f.declared)
  pub methods : (i : ℕ) (k : Method) → method_at P i ≡ Some k → IsMethodNamed P k
  pub up : (m n : List ℕ) → IsGoodName P m → IsWithin P (Ref m) (Ref n) → IsGoodName P n

module _ (P : Program) (S : IsSource P) (N : AreNamedWell P) where
  abbrev C : (m n : List ℕ) → IsGoodName P m → IsWithin P (Ref m) (Ref n) → IsGoodName P n
  C = N.up

  object_good : IsGoodName P object_class
  object_good = refl

  constant_good : (v : Value) → AllByRecursion (IsGood P) (constant_types v)
  constant_good (value.Int x) = (tt, tt)
  constant_good (value.Long x) = (tt, (tt, tt))
  constant_good (value.Ref zero) = (tt, tt)
  constant_good (value.Ref (suc o)) = (object_good, tt)

  module _ (k : Method) (src : IsSourceMethod P k) (own : IsMethodNamed P k) (pc : ℕ) (h : Types) where
    abbrev H : Types
    H = cleaned P C h

    abbrev Clean : Flow → Flow → Type 0
    Clean = IsCleaned P C

    leaves_good : (ts u : List VType) → AllByRecursion (IsGood P) ts → Clean (leaves pc h (ts ++ u)) (leaves pc H (ts ++ cl P C u))
    leaves_good ts u good = give P C pc h ts ts u (all_good_cleaner P C ts good)

    field_cleaned : (n : ℕ) (j l : Field → Flow) → ((f : Field) → field_at P n ≡ Some f → Clean (j f) (l f)) → Clean (field_in (field_at P n) j) (field_in (field_at P n) l)
    field_cleaned n j l m = by (field_at P n) refl
      where
        by : (o : Option Field) → field_at P n ≡ o → Clean (field_in o j) (field_in o l)
        by None e = tt
        by (Some f) e = m f e

    field_good : (n : ℕ) (f : Field) → field_at P n ≡ Some f → AllByRecursion (IsGood P) (stack_types f.declared)
    field_good n f e = N.fields n f e

    row_cleaned : (t : ℕ) (j l : Row → Flow) → ((r : Row) → row_at P t ≡ Some r → Clean (j r) (l r)) → Clean (row_in (row_at P t) j) (row_in (row_at P t) l)
    row_cleaned t j l m = by (row_at P t) refl
      where
        by : (o : Option Row) → row_at P t ≡ o → Clean (row_in o j) (row_in o l)
        by None e = tt
        by (Some r) e = m r e

    method_cleaned : (n : ℕ) (j l : Method → Flow) → ((c : Method) → IsMethodNamed P c → Clean (j c) (l c)) → Clean (method_in (method_at P n) j) (method_in (method_at P n) l)
    method_cleaned n j l m = by (method_at P n) refl
      where
        by : (o : Option Method) → method_at P n ≡ o → Clean (method_in o j) (method_in o l)
        by None e = tt
        by (Some c) e = m c (N.methods n c e)

    -- ---- objects that are built

    -- a class of which objects are made is no array
    made_good : (r : Row) (x : Holds) → IsRowOf P r x → IsMadeOf false r x → IsGoodName P r.name
    made_good r (Words ds) is m = ⊎_elim (λ (b : (r.lineage ≡ []) × (r.read ≡ [])). plain_good r.name (ap is_array (sym m ∙ b.1))) (λ (c : IsClass P r ds). plain_good r.name (plain_name r.name c.named)) is
    made_good r (Elements d n) is m = absurd m

    new_good : (c : List ℕ) (q : ℕ) (o : Option Op) → slice_get k.ops q ≡ o → is_named c (new_class P o) ≡ true → IsGoodName P c
    new_good c q (Some (op.New t)) e y =
        let can = each_at (IsSourceOp P k) k.ops q (op.New t) src.each e in
        let there = can.there in
        let same : bytes_eq can.row.name c ≡ true = (rw there at y) in
        subst (IsGoodName P) ((bytes_eq-Decides can.row.name c).0 same) (made_good can.row can.row.holds (S.types.rows t can.row there) can.holds)
    new_good c q o e y = absurd (no_true y)

    construct : (c : List ℕ) (t : VType) (u : List VType) → Clean (constructs P k pc c h t u) (constructs P k pc c H (clean P t) (cl P C u))
    construct c (Uninit q) u = so_cleaned P C (is_named c (new_class P (slice_get k.ops q))) (is_named c (new_class P (slice_get k.ops q))) _ _ (λ y. y) (λ y.
        let good = new_good c q (slice_get k.ops q) refl y in
        record { targets = refl; locals = become_cleaner P C (Uninit q) (Ref c) tt good h.locals; stack = become_cleaner P C (Uninit q) (Ref c) tt good u; built = refl })
    construct c UninitThis u = so_cleaned P C (bytes_eq c k.name.class || is_named c (direct_superclass P k.name.class)) (bytes_eq c k.name.class || is_named c (direct_superclass P k.name.class)) _ _ (λ y. y)
        (λ y. record { targets = refl; locals = become_cleaner P C UninitThis (Ref k.name.class) tt own.class h.locals; stack = become_cleaner P C UninitThis (Ref k.name.class) tt own.class u; built = refl })
    construct c t u = tt

    -- ---- calls

    call : (c : Method) → IsMethodNamed P c → Clean (calls P pc c h) (calls P pc c H)
    call c x = each_cleaned P C (reverse c.parameters) h.stack _ _ (λ u. leaves_good (results c) u x.gives)

    special_call : (b : Bool) (c : Method) → IsMethodNamed P c → Clean (special b P k pc c h) (special b P k pc c H)
    special_call true c x = so_cleaned P C (not (is_some c.result)) (not (is_some c.result)) _ _ (λ y. y) (λ y. each_cleaned P C (reverse (arguments c)) h.stack _ _ (λ u. top_cleaned P C u _ _ (λ t u. construct c.name.class t u)))
    special_call false c x = each_cleaned P C (reverse (arguments c)) h.stack _ _ (λ u. top_cleaned P C u _ _ (λ t u.
        so_cleaned P C (is_within P t (Ref (name_read P k.name.class))) (is_within P (clean P t) (Ref (name_read P k.name.class))) _ _ (clean_below P t (Ref (name_read P k.name.class))) (λ y. call c x)))

    received : (n : List ℕ) (o : Option VType) → is_received P n o ≡ true → is_received P n (option_map (clean P) o) ≡ true
    received n None e = e
    received n (Some (Ref m)) e = by_clean P m (λ t. is_received P n (Some t) ≡ true) (λ k. e) refl
    received n (Some t) e = e

    over_object : (n : List ℕ) (i : ℕ) (j l : Flow) → Clean j l → Clean (if_so (is_received P n (slice_get h.stack i)) j) (if_so (is_received P n (slice_get (cl P C h.stack) i)) l)
    over_object n i j l m = so_cleaned P C (is_received P n (slice_get h.stack i)) (is_received P n (slice_get (cl P C h.stack) i)) j l
        (λ y. ap (is_received P n) (slice_get-map (clean P) h.stack i) ∙ received n (slice_get h.stack i) y) (λ y. m)

    put : (f : Field) (u : List VType) → Clean (puts P k pc f h u) (puts P k pc f H (cl P C u))
    put f [] = tt
    put f (t ∷ u) =
        let e = uninit_clean P UninitThis t tt in
        so_cleaned P C ((is_uninit UninitThis t && bytes_eq f.class k.name.class) || is_within P t (Ref f.class)) ((is_uninit UninitThis (clean P t) && bytes_eq f.class k.name.class) || is_within P (clean P t) (Ref f.class)) _ _
        (λ y. rw e (put_test (is_uninit UninitThis t) (bytes_eq f.class k.name.class) (is_within P t (Ref f.class)) (is_within P (clean P t) (Ref f.class)) (clean_below P t (Ref f.class)) y)) (λ y. leave P C pc h u)

    -- ---- elements

    element_cleaner : (t : WordType) (n : List ℕ) → is_array n ≡ true → fits_elements t (Ref n) ≡ true → IsGoodName P n → AllByRecursion (IsGood P) (element_types t (Ref n))
    element_cleaner word.Reference n i f k = (text_is_good (element_class n) (element_lawful n i k), tt)
    element_cleaner word.Long n i f k = (tt, (tt, tt))
    element_cleaner word.Boolean n i f k = (tt, tt)
    element_cleaner word.Byte n i f k = (tt, tt)
    element_cleaner word.Char n i f k = (tt, tt)
    element_cleaner word.Short n i f k = (tt, tt)
    element_cleaner word.Int n i f k = (tt, tt)

    null_element : (t : WordType) (n : List ℕ) → AreCleaner P (element_types t Null) (element_types t (Ref n))
    null_element word.Reference n = (null_cleaner P (element_class n), tt)
    null_element word.Long n = (good_cleaner P C Second tt, (good_cleaner P C Long tt, tt))
    null_element word.Boolean n = (good_cleaner P C Int tt, tt)
    null_element word.Byte n = (good_cleaner P C Int tt, tt)
    null_element word.Char n = (good_cleaner P C Int tt, tt)
    null_element word.Short n = (good_cleaner P C Int tt, tt)
    null_element word.Int n = (good_cleaner P C Int tt, tt)

    null_good : (t : WordType) → AllByRecursion (IsGood P) (element_types t Null)
    null_good word.Reference = (tt, tt)
    null_good word.Long = (tt, (tt, tt))
    null_good word.Boolean = (tt, tt)
    null_good word.Byte = (tt, tt)
    null_good word.Char = (tt, tt)
    null_good word.Short = (tt, tt)
    null_good word.Int = (tt, tt)

    load : (t : WordType) → Clean (flow P k pc (op.LoadElement t) h) (flow P k pc (op.LoadElement t) H)
    load t = int_cleaned P C h.stack _ _ (λ u. array_cleaned P C u _ _
        (λ u. leaves_good (element_types t Null) u (null_good t))
        (λ n u i good. so_cleaned P C (fits_elements t (Ref n)) (fits_elements t (Ref n)) _ _ (λ y. y) (λ y. leaves_good (element_types t (Ref n)) u (element_cleaner t n i y good)))
        (λ n u. so_cleaned P C (fits_elements t (Ref n)) true _ _ (λ y. refl) (λ y. give P C pc h (element_types t Null) (element_types t (Ref n)) u (null_element t n))))

    store : (t : WordType) → Clean (flow P k pc (op.StoreElement t) h) (flow P k pc (op.StoreElement t) H)
    store t = each_cleaned P C (stored_types t) h.stack _ _ (λ u. int_cleaned P C u _ _ (λ u. array_cleaned P C u _ _
        (λ u. leave P C pc h u)
        (λ n u i good. so_cleaned P C (fits_elements t (Ref n)) (fits_elements t (Ref n)) _ _ (λ y. y) (λ y. leave P C pc h u))
        (λ n u. so_cleaned P C (fits_elements t (Ref n)) true _ _ (λ y. refl) (λ y. leave P C pc h u))))

    makes : (b : Bool) → Clean (makes_new b pc h) (makes_new b pc H)
    makes true = tt
    makes false = record { targets = refl; locals = become_cleaner P C (Uninit pc) Top tt tt h.locals; stack = (good_cleaner P C (Uninit pc) tt, all_cleaner P C h.stack); built = refl }

    -- ---- all instructions

    pub op_cleaned : (o : Op) → IsSourceOp P k o → IsNamedWell P o → Clean (flow P k pc o h) (flow P k pc o H)
    op_cleaned (op.Constant v) x z = leaves_good (constant_types v) h.stack (constant_good v)
    op_cleaned (op.Text n) x z = so_cleaned P C (is_some (slice_get P.texts n)) (is_some (slice_get P.texts n)) _ _ (λ y. y) (λ y. leaves_good (Ref string_class ∷ []) h.stack (refl, tt))
    op_cleaned (op.Load t i) x z = loads_cleaned P C pc h t i
    op_cleaned (op.Store t i) x z = stores_cleaned P C pc h t i
    op_cleaned (op.Stack o) x z = rearranged_cleaned P C pc h o
    op_cleaned (op.Binary w b) x z = number_cleaned P C w h.stack _ _ (λ u. number_cleaned P C w u _ _ (λ u. number P C pc h w u))
    op_cleaned (op.Shift w b) x z = int_cleaned P C h.stack _ _ (λ u. number_cleaned P C w u _ _ (λ u. number P C pc h w u))
    op_cleaned (op.Divide w b) x z = number_cleaned P C w h.stack _ _ (λ u. number_cleaned P C w u _ _ (λ u. number P C pc h w u))
    op_cleaned (op.Unary w b) x z = number_cleaned P C w h.stack _ _ (λ u. number P C pc h w u)
    op_cleaned (op.Convert c) x z = converted_cleaned P C pc h c
    op_cleaned op.CompareLongs x z = long_cleaned P C h.stack _ _ (λ u. long_cleaned P C u _ _ (λ u. leave P C pc h (Int ∷ u)))
    op_cleaned (op.Increment i n) x z = int_local P C pc h i _ _ (leave P C pc h h.stack)
    op_cleaned (op.Branch t to) x z = int_cleaned P C h.stack _ _ (λ u. lead P C pc h ((pc + 1) ∷ to ∷ []) u)
    op_cleaned (op.BranchInts t to) x z = int_cleaned P C h.stack _ _ (λ u. int_cleaned P C u _ _ (λ u. lead P C pc h ((pc + 1) ∷ to ∷ []) u))
    op_cleaned (op.BranchNull b to) x z = reference_cleaned P C h.stack _ _ (λ u. lead P C pc h ((pc + 1) ∷ to ∷ []) u)
    op_cleaned (op.BranchReferences b to) x z = reference_cleaned P C h.stack _ _ (λ u. reference_cleaned P C u _ _ (λ u. lead P C pc h ((pc + 1) ∷ to ∷ []) u))
    op_cleaned (op.Goto to) x z = lead P C pc h (to ∷ []) h.stack
    op_cleaned (op.Switch other cases) x z = int_cleaned P C h.stack _ _ (λ u. lead P C pc h (exits other cases) u)
    op_cleaned (op.GetStatic n) x z = field_cleaned n _ _ (λ f e. so_cleaned P C (is_some f.base) (is_some f.base) _ _ (λ y. y) (λ y. leaves_good (stack_types f.declared) h.stack (field_good n f e)))
    op_cleaned (op.PutStatic n) x z = field_cleaned n _ _ (λ f e. so_cleaned P C (is_some f.base) (is_some f.base) _ _ (λ y. y) (λ y. each_cleaned P C (stack_types f.declared) h.stack _ _ (λ u. leave P C pc h u)))
    op_cleaned (op.GetField n c) x z = over_object c 0 _ _ (field_cleaned n _ _ (λ f e. on_cleaned P C (Ref f.class) h.stack _ _ (λ u. leaves_good (stack_types f.declared) u (field_good n f e))))
    op_cleaned (op.PutField n c) x z = over_object c (value_places (field_at P n)) _ _ (field_cleaned n _ _ (λ f e. each_cleaned P C (stack_types f.declared) h.stack _ _ (λ u. put f u)))
    op_cleaned (op.InvokeStatic m) x z = method_cleaned m _ _ (λ c y. call c y)
    op_cleaned (op.InvokeSpecial m) x z = method_cleaned m _ _ (λ c y. special_call (is_constructor c) c y)
    op_cleaned (op.InvokeVirtual m n) x z = over_object n (argument_places (method_at P m)) _ _ (method_cleaned m _ _ (λ c y. call c y))
    op_cleaned (op.InvokeInterface m n) x z = method_cleaned m _ _ (λ c y. call c y)
    op_cleaned (op.InitLibrary c n) x z = each_cleaned P C (replicate n (Ref string_class)) h.stack _ _ (λ u. top_cleaned P C u _ _ (λ t u. construct c t u))
    op_cleaned (op.New t) x z = row_cleaned t _ _ (λ r e. let f = any_clean P (Uninit pc) tt h.stack in rw f (makes (list_any (is_uninit (Uninit pc)) h.stack)))
    op_cleaned (op.NewArray t) x z = row_cleaned t _ _ (λ r e. int_cleaned P C h.stack _ _ (λ u.
        leaves_good (Ref r.read ∷ []) u (z r e, tt)))
    op_cleaned op.ArrayLength x z = array_cleaned P C h.stack _ _ (λ u. leave P C pc h (Int ∷ u)) (λ n u i good. leave P C pc h (Int ∷ u)) (λ n u. leave P C pc h (Int ∷ u))
    op_cleaned (op.LoadElement t) x z = load t
    op_cleaned (op.StoreElement t) x z = store t
    op_cleaned (op.CheckCast c) x z = reference_cleaned P C h.stack _ _ (λ u. leaves_good (Ref (name_read P c) ∷ []) u (z, tt))
    op_cleaned (op.InstanceOf c) x z = reference_cleaned P C h.stack _ _ (λ u. leave P C pc h (Int ∷ u))
    op_cleaned op.Return x z = finish P C pc h (not (is_some k.result) && (not (is_constructor k) || h.built)) h.stack
    op_cleaned (op.ReturnValue t) x z = so_cleaned P C (returns t k.result) (returns t k.result) _ _ (λ y. y) (λ y. each_cleaned P C (results k) h.stack _ _ (λ u. finish P C pc h true u))
    op_cleaned op.Throw x z = on_cleaned P C (Ref throwable_class) h.stack _ _ (λ u. finish P C pc h true u)
    op_cleaned op.GetContext x z = absurd x
    op_cleaned (op.Context c) x z = absurd x
