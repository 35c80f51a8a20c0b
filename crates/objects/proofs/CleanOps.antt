-- Each instruction of a source method leaves at most what stands for each type that is wider than what it leaves, where null stands for references that aren't known.
use Rattle.std.proofs.Common.{◌≡◌, ℕ, zero, suc, ◌+◌, List, [], ◌∷◌, ◌++◌, reverse, replicate, Option, Some, None, Bool, true, false, refl, sym, ap, subst, ◌∙◌}
use Rattle.std.specs.Prelude.{slice_get, option_map, bytes_eq, is_some, not, ◌||◌, ◌&&◌}
use Rattle.std.specs.List.{AllByRecursion, list_any}
use Rattle.std.proofs.lemmas.Slice.Eq.{bytes_eq-Decides}
use Rattle.std.proofs.lemmas.Option.{slice_get-map}
use Rattle.jmodel.specs.declared.value.Value.{Value}
use Rattle.jmodel.specs.declared.value.Value.TheVariants as value
use Rattle.jmodel.specs.declared.typing.VType.{VType}
use Rattle.jmodel.specs.declared.typing.VType.TheVariants.{Int, Long, Second, Null, Ref, Uninit, UninitThis, Top}
use Rattle.objects.specs.declared.op.WordType.{WordType}
use Rattle.objects.specs.declared.op.WordType.TheVariants as word
use Rattle.objects.specs.declared.op.Op.{Op}
use Rattle.objects.specs.declared.op.Op.TheVariants as op
use Rattle.objects.specs.semantics.Program.{Holds, Words, Elements, Row, Field, Method, Program, field_at, method_at, row_at}
use Rattle.objects.specs.typing.TypeOrder.{object_class, throwable_class, string_class, is_array, element_class, name_read, stack_types, is_within}
use Rattle.objects.specs.typing.Typing.{is_received, argument_places, value_places, Types, Flow, leaves, if_so, field_in, row_in, method_in, fits_elements, element_types, stored_types, puts, exits, constant_types, is_constructor, is_uninit, new_class, is_named, direct_superclass, constructs, makes_new, arguments, results, calls, special, returns, flow}
use Rattle.objects.specs.typing.Source.{AreTypes, IsReadType, IsReadWord, IsKnownName, IsMadeOf, IsSourceOp, IsSourceField, IsSourceMethod, IsSource}
use Rattle.objects.proofs.Fields.{each_at}
use Rattle.objects.proofs.ReadTypes.{object_is_read}
use Rattle.objects.proofs.KnownTypes.{element_known}
use Rattle.objects.proofs.CleanTypes.{no_true, IsKnown, clean, by_clean, clean_below, uninit_clean, any_clean, AreCleaner, null_cleaner, known_cleaner, all_cleaner, all_known_cleaner, become_cleaner}
use Rattle.objects.proofs.CleanFlows.{cl, cleaned, IsCleaned, so_cleaned, on_cleaned, each_cleaned, int_cleaned, long_cleaned, number_cleaned, reference_cleaned, top_cleaned, array_cleaned, leave, give, lead, finish, number, converted_cleaned, rearranged_cleaned, int_local, loads_cleaned, stores_cleaned}

made_name : (r : Row) (x : Holds) → IsMadeOf false r x → r.read ≡ r.name
made_name r (Words ds) m = m
made_name r (Elements d n) m = absurd m

put_test : (i b w v : Bool) → (w ≡ true → v ≡ true) → ((i && b) || w) ≡ true → ((i && b) || v) ≡ true
put_test true true w v f e = refl
put_test true false w v f e = f e
put_test false b w v f e = f e

module _ (P : Program) (S : IsSource P) where
  abbrev C : AreTypes P
  C = S.types

  pub read_known : (ts : List VType) → AllByRecursion (IsReadType P) ts → AllByRecursion (IsKnown P) ts
  read_known [] r = tt
  read_known (t ∷ ts) r = (one t r.0, read_known ts r.1)
    where
      one : (t : VType) → IsReadType P t → IsKnown P t
      one (Ref n) r = record { itself = r.itself; array = λ e. r.read }
      one t r = tt

  word_known : (w : WordType) (c : List ℕ) → IsReadWord P w c → AllByRecursion (IsKnown P) (stack_types (record { word = w; class = c }))
  word_known word.Boolean c r = (tt, tt)
  word_known word.Byte c r = (tt, tt)
  word_known word.Char c r = (tt, tt)
  word_known word.Short c r = (tt, tt)
  word_known word.Int c r = (tt, tt)
  word_known word.Long c r = (tt, (tt, tt))
  word_known word.Reference c r = (record { itself = r.itself; array = λ e. r.read }, tt)

  object_known : IsKnownName P object_class
  object_known = record { itself = (object_is_read P C).itself; array = λ e. absurd (no_true e) }

  constant_known : (v : Value) → AllByRecursion (IsKnown P) (constant_types v)
  constant_known (value.Int x) = (tt, tt)
  constant_known (value.Long x) = (tt, (tt, tt))
  constant_known (value.Ref zero) = (tt, tt)
  constant_known (value.Ref (suc o)) = (object_known, tt)

  module _ (k : Method) (src : IsSourceMethod P k) (pc : ℕ) (h : Types) where
    abbrev H : Types
    H = cleaned P C h

    abbrev Clean : Flow → Flow → Type 0
    Clean = IsCleaned P C

    leaves_known : (ts u : List VType) → AllByRecursion (IsKnown P) ts → Clean (leaves pc h (ts ++ u)) (leaves pc H (ts ++ cl P C u))
    leaves_known ts u known = give P C pc h ts ts u (all_known_cleaner P C ts known)

    field_cleaned : (n : ℕ) (j l : Field → Flow) → ((f : Field) → field_at P n ≡ Some f → Clean (j f) (l f)) → Clean (field_in (field_at P n) j) (field_in (field_at P n) l)
    field_cleaned n j l m = by (field_at P n) refl
      where
        by : (o : Option Field) → field_at P n ≡ o → Clean (field_in o j) (field_in o l)
        by None e = tt
        by (Some f) e = m f e

    field_known : (n : ℕ) (f : Field) → field_at P n ≡ Some f → AllByRecursion (IsKnown P) (stack_types f.declared)
    field_known n f e = word_known f.declared.word f.declared.class (each_at (IsSourceField P) P.fields n f S.fields e).read

    row_cleaned : (t : ℕ) (j l : Row → Flow) → ((r : Row) → row_at P t ≡ Some r → Clean (j r) (l r)) → Clean (row_in (row_at P t) j) (row_in (row_at P t) l)
    row_cleaned t j l m = by (row_at P t) refl
      where
        by : (o : Option Row) → row_at P t ≡ o → Clean (row_in o j) (row_in o l)
        by None e = tt
        by (Some r) e = m r e

    method_cleaned : (n : ℕ) (j l : Method → Flow) → ((c : Method) → IsSourceMethod P c → Clean (j c) (l c)) → Clean (method_in (method_at P n) j) (method_in (method_at P n) l)
    method_cleaned n j l m = by (method_at P n) refl
      where
        by : (o : Option Method) → method_at P n ≡ o → Clean (method_in o j) (method_in o l)
        by None e = tt
        by (Some c) e = m c (each_at (IsSourceMethod P) P.methods n c S.methods e)

    -- ---- objects that are built

    new_known : (c : List ℕ) (q : ℕ) (o : Option Op) → slice_get k.ops q ≡ o → is_named c (new_class P o) ≡ true → IsKnownName P c
    new_known c q (Some (op.New t)) e y =
        let can = each_at (IsSourceOp P k) k.ops q (op.New t) src.each e in
        let there = can.there in
        let same : bytes_eq can.row.name c ≡ true = (rw there at y) in
        subst (IsKnownName P) (made_name can.row can.row.holds can.holds ∙ (bytes_eq-Decides can.row.name c).0 same) can.known
    new_known c q o e y = absurd (no_true y)

    construct : (c : List ℕ) (t : VType) (u : List VType) → Clean (constructs P k pc c h t u) (constructs P k pc c H (clean P t) (cl P C u))
    construct c (Uninit q) u = so_cleaned P C (is_named c (new_class P (slice_get k.ops q))) (is_named c (new_class P (slice_get k.ops q))) _ _ (λ y. y) (λ y.
        let known = new_known c q (slice_get k.ops q) refl y in
        record { targets = refl; locals = become_cleaner P C (Uninit q) (Ref c) tt known h.locals; stack = become_cleaner P C (Uninit q) (Ref c) tt known u; built = refl })
    construct c UninitThis u = so_cleaned P C (bytes_eq c k.name.class || is_named c (direct_superclass P k.name.class)) (bytes_eq c k.name.class || is_named c (direct_superclass P k.name.class)) _ _ (λ y. y)
        (λ y. record { targets = refl; locals = become_cleaner P C UninitThis (Ref k.name.class) tt src.class h.locals; stack = become_cleaner P C UninitThis (Ref k.name.class) tt src.class u; built = refl })
    construct c t u = tt

    -- ---- calls

    call : (c : Method) → IsSourceMethod P c → Clean (calls P pc c h) (calls P pc c H)
    call c x = each_cleaned P C (reverse c.parameters) h.stack _ _ (λ u. leaves_known (results c) u (read_known (results c) x.gives))

    special_call : (b : Bool) (c : Method) → IsSourceMethod P c → Clean (special b P k pc c h) (special b P k pc c H)
    special_call true c x = so_cleaned P C (not (is_some c.result)) (not (is_some c.result)) _ _ (λ y. y) (λ y. each_cleaned P C (reverse (arguments c)) h.stack _ _ (λ u. top_cleaned P C u _ _ (λ t u. construct c.name.class t u)))
    special_call false c x = each_cleaned P C (reverse (arguments c)) h.stack _ _ (λ u. top_cleaned P C u _ _ (λ t u.
        so_cleaned P C (is_within P t (Ref (name_read P k.name.class))) (is_within P (clean P t) (Ref (name_read P k.name.class))) _ _ (clean_below P t (Ref (name_read P k.name.class))) (λ y. call c x)))

    received : (n : List ℕ) (o : Option VType) → is_received P n o ≡ true → is_received P n (option_map (clean P) o) ≡ true
    received n None e = e
    received n (Some (Ref m)) e = by_clean P m (λ t. is_received P n (Some t) ≡ true) (λ k. e) refl
    received n (Some t) e = e

    over_object : (n : List ℕ) (i : ℕ) (j l : Flow) → Clean j l → Clean (if_so (is_received P n (slice_get h.stack i)) j) (if_so (is_received P n (slice_get (cl P C h.stack) i)) l)
    over_object n i j l m = so_cleaned P C (is_received P n (slice_get h.stack i)) (is_received P n (slice_get (cl P C h.stack) i)) j l
        (λ y. ap (is_received P n) (slice_get-map (clean P) h.stack i) ∙ received n (slice_get h.stack i) y) (λ y. m)

    put : (f : Field) (u : List VType) → Clean (puts P k pc f h u) (puts P k pc f H (cl P C u))
    put f [] = tt
    put f (t ∷ u) =
        let e = uninit_clean P UninitThis t tt in
        so_cleaned P C ((is_uninit UninitThis t && bytes_eq f.class k.name.class) || is_within P t (Ref f.class)) ((is_uninit UninitThis (clean P t) && bytes_eq f.class k.name.class) || is_within P (clean P t) (Ref f.class)) _ _
        (λ y. rw e (put_test (is_uninit UninitThis t) (bytes_eq f.class k.name.class) (is_within P t (Ref f.class)) (is_within P (clean P t) (Ref f.class)) (clean_below P t (Ref f.class)) y)) (λ y. leave P C pc h u)

    -- ---- elements

    element_cleaner : (t : WordType) (n : List ℕ) → is_array n ≡ true → fits_elements t (Ref n) ≡ true → IsKnownName P n → AllByRecursion (IsKnown P) (element_types t (Ref n))
    element_cleaner word.Reference n i f k = (element_known P C n i f k, tt)
    element_cleaner word.Long n i f k = (tt, (tt, tt))
    element_cleaner word.Boolean n i f k = (tt, tt)
    element_cleaner word.Byte n i f k = (tt, tt)
    element_cleaner word.Char n i f k = (tt, tt)
    element_cleaner word.Short n i f k = (tt, tt)
    element_cleaner word.Int n i f k = (tt, tt)

    null_element : (t : WordType) (n : List ℕ) → AreCleaner P (element_types t Null) (element_types t (Ref n))
    null_element word.Reference n = (null_cleaner P (element_class n), tt)
    null_element word.Long n = (known_cleaner P C Second tt, (known_cleaner P C Long tt, tt))
    null_element word.Boolean n = (known_cleaner P C Int tt, tt)
    null_element word.Byte n = (known_cleaner P C Int tt, tt)
    null_element word.Char n = (known_cleaner P C Int tt, tt)
    null_element word.Short n = (known_cleaner P C Int tt, tt)
    null_element word.Int n = (known_cleaner P C Int tt, tt)

    null_known : (t : WordType) → AllByRecursion (IsKnown P) (element_types t Null)
    null_known word.Reference = (tt, tt)
    null_known word.Long = (tt, (tt, tt))
    null_known word.Boolean = (tt, tt)
    null_known word.Byte = (tt, tt)
    null_known word.Char = (tt, tt)
    null_known word.Short = (tt, tt)
    null_known word.Int = (tt, tt)

    load : (t : WordType) → Clean (flow P k pc (op.LoadElement t) h) (flow P k pc (op.LoadElement t) H)
    load t = int_cleaned P C h.stack _ _ (λ u. array_cleaned P C u _ _
        (λ u. leaves_known (element_types t Null) u (null_known t))
        (λ n u i known. so_cleaned P C (fits_elements t (Ref n)) (fits_elements t (Ref n)) _ _ (λ y. y) (λ y. leaves_known (element_types t (Ref n)) u (element_cleaner t n i y known)))
        (λ n u. so_cleaned P C (fits_elements t (Ref n)) true _ _ (λ y. refl) (λ y. give P C pc h (element_types t Null) (element_types t (Ref n)) u (null_element t n))))

    store : (t : WordType) → Clean (flow P k pc (op.StoreElement t) h) (flow P k pc (op.StoreElement t) H)
    store t = each_cleaned P C (stored_types t) h.stack _ _ (λ u. int_cleaned P C u _ _ (λ u. array_cleaned P C u _ _
        (λ u. leave P C pc h u)
        (λ n u i known. so_cleaned P C (fits_elements t (Ref n)) (fits_elements t (Ref n)) _ _ (λ y. y) (λ y. leave P C pc h u))
        (λ n u. so_cleaned P C (fits_elements t (Ref n)) true _ _ (λ y. refl) (λ y. leave P C pc h u))))

    makes : (b : Bool) → Clean (makes_new b pc h) (makes_new b pc H)
    makes true = tt
    makes false = record { targets = refl; locals = become_cleaner P C (Uninit pc) Top tt tt h.locals; stack = (known_cleaner P C (Uninit pc) tt, all_cleaner P C h.stack); built = refl }

    -- ---- all instructions

    pub op_cleaned : (o : Op) → IsSourceOp P k o → Clean (flow P k pc o h) (flow P k pc o H)
    op_cleaned (op.Constant v) x = leaves_known (constant_types v) h.stack (constant_known v)
    op_cleaned (op.Text n) x = so_cleaned P C (is_some (slice_get P.texts n)) (is_some (slice_get P.texts n)) _ _ (λ y. y) (λ y. leaves_known (Ref string_class ∷ []) h.stack (C.string, tt))
    op_cleaned (op.Load t i) x = loads_cleaned P C pc h t i
    op_cleaned (op.Store t i) x = stores_cleaned P C pc h t i
    op_cleaned (op.Stack o) x = rearranged_cleaned P C pc h o
    op_cleaned (op.Binary w b) x = number_cleaned P C w h.stack _ _ (λ u. number_cleaned P C w u _ _ (λ u. number P C pc h w u))
    op_cleaned (op.Shift w b) x = int_cleaned P C h.stack _ _ (λ u. number_cleaned P C w u _ _ (λ u. number P C pc h w u))
    op_cleaned (op.Divide w b) x = number_cleaned P C w h.stack _ _ (λ u. number_cleaned P C w u _ _ (λ u. number P C pc h w u))
    op_cleaned (op.Unary w b) x = number_cleaned P C w h.stack _ _ (λ u. number P C pc h w u)
    op_cleaned (op.Convert c) x = converted_cleaned P C pc h c
    op_cleaned op.CompareLongs x = long_cleaned P C h.stack _ _ (λ u. long_cleaned P C u _ _ (λ u. leave P C pc h (Int ∷ u)))
    op_cleaned (op.Increment i n) x = int_local P C pc h i _ _ (leave P C pc h h.stack)
    op_cleaned (op.Branch t to) x = int_cleaned P C h.stack _ _ (λ u. lead P C pc h ((pc + 1) ∷ to ∷ []) u)
    op_cleaned (op.BranchInts t to) x = int_cleaned P C h.stack _ _ (λ u. int_cleaned P C u _ _ (λ u. lead P C pc h ((pc + 1) ∷ to ∷ []) u))
    op_cleaned (op.BranchNull b to) x = reference_cleaned P C h.stack _ _ (λ u. lead P C pc h ((pc + 1) ∷ to ∷ []) u)
    op_cleaned (op.BranchReferences b to) x = reference_cleaned P C h.stack _ _ (λ u. reference_cleaned P C u _ _ (λ u. lead P C pc h ((pc + 1) ∷ to ∷ []) u))
    op_cleaned (op.Goto to) x = lead P C pc h (to ∷ []) h.stack
    op_cleaned (op.Switch other cases) x = int_cleaned P C h.stack _ _ (λ u. lead P C pc h (exits other cases) u)
    op_cleaned (op.GetStatic n) x = field_cleaned n _ _ (λ f e. so_cleaned P C (is_some f.base) (is_some f.base) _ _ (λ y. y) (λ y. leaves_known (stack_types f.declared) h.stack (field_known n f e)))
    op_cleaned (op.PutStatic n) x = field_cleaned n _ _ (λ f e. so_cleaned P C (is_some f.base) (is_some f.base) _ _ (λ y. y) (λ y. each_cleaned P C (stack_types f.declared) h.stack _ _ (λ u. leave P C pc h u)))
    op_cleaned (op.GetField n c) x = over_object c 0 _ _ (field_cleaned n _ _ (λ f e. on_cleaned P C (Ref f.class) h.stack _ _ (λ u. leaves_known (stack_types f.declared) u (field_known n f e))))
    op_cleaned (op.PutField n c) x = over_object c (value_places (field_at P n)) _ _ (field_cleaned n _ _ (λ f e. each_cleaned P C (stack_types f.declared) h.stack _ _ (λ u. put f u)))
    op_cleaned (op.InvokeStatic m) x = method_cleaned m _ _ (λ c y. call c y)
    op_cleaned (op.InvokeSpecial m) x = method_cleaned m _ _ (λ c y. special_call (is_constructor c) c y)
    op_cleaned (op.InvokeVirtual m n) x = over_object n (argument_places (method_at P m)) _ _ (method_cleaned m _ _ (λ c y. call c y))
    op_cleaned (op.InvokeInterface m n) x = method_cleaned m _ _ (λ c y. call c y)
    op_cleaned (op.InitLibrary c n) x = each_cleaned P C (replicate n (Ref string_class)) h.stack _ _ (λ u. top_cleaned P C u _ _ (λ t u. construct c t u))
    op_cleaned (op.New t) x = row_cleaned t _ _ (λ r e. let f = any_clean P (Uninit pc) tt h.stack in rw f (makes (list_any (is_uninit (Uninit pc)) h.stack)))
    op_cleaned (op.NewArray t) x = row_cleaned t _ _ (λ r e. int_cleaned P C h.stack _ _ (λ u.
        let there = x.there in
        let same : x.row ≡ r = (let f : Some x.row ≡ Some r = sym there ∙ e in cc) in
        leaves_known (Ref r.read ∷ []) u (subst (λ (r : Row). IsKnownName P r.read) same x.known, tt)))
    op_cleaned op.ArrayLength x = array_cleaned P C h.stack _ _ (λ u. leave P C pc h (Int ∷ u)) (λ n u i known. leave P C pc h (Int ∷ u)) (λ n u. leave P C pc h (Int ∷ u))
    op_cleaned (op.LoadElement t) x = load t
    op_cleaned (op.StoreElement t) x = store t
    op_cleaned (op.CheckCast c) x = reference_cleaned P C h.stack _ _ (λ u. leaves_known (Ref (name_read P c) ∷ []) u (x, tt))
    op_cleaned (op.InstanceOf c) x = reference_cleaned P C h.stack _ _ (λ u. leave P C pc h (Int ∷ u))
    op_cleaned op.Return x = finish P C pc h (not (is_some k.result) && (not (is_constructor k) || h.built)) h.stack
    op_cleaned (op.ReturnValue t) x = so_cleaned P C (returns t k.result) (returns t k.result) _ _ (λ y. y) (λ y. each_cleaned P C (results k) h.stack _ _ (λ u. finish P C pc h true u))
    op_cleaned op.Throw x = on_cleaned P C (Ref throwable_class) h.stack _ _ (λ u. finish P C pc h true u)
    op_cleaned op.GetContext x = absurd x
    op_cleaned (op.Context c) x = absurd x
