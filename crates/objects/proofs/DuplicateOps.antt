-- The instructions of a method, and those that stand for them in its duplicate: what they ask and leave is the same, under other names.
use Rattle.std.proofs.Common.{length-append, ◌≡◌, ◌≢◌, ℕ, zero, suc, ◌+◌, List, [], ◌∷◌, ◌++◌, length, map, reverse, replicate, Option, Some, None, Bool, true, false, refl, sym, ap, subst, ◌∙◌, arith}
use Rattle.std.specs.Prelude.{slice_get, option_map, bytes_eq, codes, is_some, not, ◌||◌, ◌&&◌, if◌then◌else◌}
use Rattle.std.specs.List.{AllByRecursion, list_any}
use Rattle.std.proofs.lemmas.Slice.Eq.{bytes_eq-Decides}
use Rattle.std.proofs.lemmas.Option.{slice_get-map}
use Rattle.jmodel.specs.declared.value.Value.{Value}
use Rattle.jmodel.specs.declared.value.Value.TheVariants as value
use Rattle.jmodel.specs.declared.typing.VType.{VType}
use Rattle.jmodel.specs.declared.typing.VType.TheVariants.{Int, Long, Second, Null, Ref, Uninit, UninitThis, Top}
use Rattle.objects.specs.declared.op.Width.{Width}
use Rattle.objects.specs.declared.op.WordType.{WordType}
use Rattle.objects.specs.declared.op.WordType.TheVariants as word
use Rattle.objects.specs.declared.op.Op.{Op}
use Rattle.objects.specs.declared.op.Op.TheVariants as op
use Rattle.objects.specs.semantics.Program.{Row, Field, Method, Program, row_at}
use Rattle.objects.specs.typing.TypeOrder.{object_class, throwable_class, string_class, is_array, name_read, stack_types, is_within, IsWithin, IsLocals}
use Rattle.objects.specs.typing.Typing.{is_received, argument_places, value_places, field_in, Types, Table, Flow, Leads, Wrong, with_stack, leaves, ends, if_so, on, on_each, on_int, on_long, on_number, on_reference, on_array, row_in, method_in, fits_elements, stored_types, puts, exits, constant_types, number_types, is_constructor, is_uninit, built_as, become, new_class, is_named, direct_superclass, constructs, makes_new, arguments, results, calls, special, returns, flow}
use Rattle.objects.specs.typing.Source.{AreTypes, IsReadType, IsKnownName, IsKnownType, AreParameters, IsResult, IsSourceOp}
use Rattle.objects.specs.rewriting.Rewriting.{moved, moved_to, moved_cases, is_stray, more_locals, word_places, array_type, any_of, helped, getter, setter, duplicate, element_getter, element_setter, duplicate_method, rewritten}
use Rattle.objects.proofs.Switched.{exits_moved}
use Rattle.objects.proofs.Fields.{each_at}
use Rattle.objects.proofs.Places.{Rewrites}
use Rattle.objects.proofs.SameFlow.{within_same, name_same}
use Rattle.objects.proofs.ReadTypes.{known_array, elements_read}
use Rattle.objects.proofs.BlockFlows.{context, get_static, put_static, get_field, put_field, get_element, put_element, duplicate_parameters, duplicate_result, duplicate_names, constructor_name, duplicate_calls, duplicate_special}
use Rattle.objects.proofs.MovedTypes.{named, all_named, map_long, IsAlone, IsFixed, AreFixed, fixed_reverse, fixed_parameters, fixed_result, fixed_word, fixed_copies, all_become, any_uninit, uninit_tests, this_tests}
use Rattle.objects.proofs.Copying.{Copying}
use Rattle.objects.proofs.DuplicateFlows.{copy_of, IsMoved, so_moved, within_moved, on_moved, each_moved, each_moved_at, int_moved, long_moved, number_moved, reference_moved, top_moved, IsArrayType, array_moved, ends_moved, leads_moved, leaves_moved, gives_moved, number_fixed, converted_moved, rearranged_moved, int_local, loads_moved, stores_moved}

-- what a duplicate shares with its method
pub record IsCopyOf (k d : Method) (at : ℕ → ℕ) : Type 0 where
  pub class : d.name.class ≡ k.name.class
  pub result : d.result ≡ k.result
  pub constructor : is_constructor d ≡ is_constructor k
  pub news : (q t : ℕ) → slice_get k.ops q ≡ Some (op.New t) → slice_get d.ops (at q) ≡ Some (op.New t)
  pub alone : (q : ℕ) (o : Op) → slice_get k.ops q ≡ Some o → IsAlone at q

-- an instruction for which one stands
abbrev pub IsSingle : Op → Type 0
IsSingle (op.GetStatic f) = ⊥
IsSingle (op.PutStatic f) = ⊥
IsSingle (op.GetField f c) = ⊥
IsSingle (op.PutField f c) = ⊥
IsSingle (op.LoadElement t) = ⊥
IsSingle (op.StoreElement t) = ⊥
IsSingle (op.InvokeStatic m) = ⊥
IsSingle (op.InvokeSpecial m) = ⊥
IsSingle (op.InvokeVirtual m c) = ⊥
IsSingle (op.InvokeInterface m c) = ⊥
IsSingle o = Unit {0}

abbrev pub moved_op : ℕ → ℕ → (ℕ → ℕ) → Op → Op
moved_op p n at (op.Load t i) = op.Load t (moved_to t p n i)
moved_op p n at (op.Store t i) = op.Store t (moved_to t p n i)
moved_op p n at (op.Increment i x) = op.Increment (moved p i) x
moved_op p n at (op.Branch t to) = op.Branch t (at to)
moved_op p n at (op.BranchInts t to) = op.BranchInts t (at to)
moved_op p n at (op.BranchNull b to) = op.BranchNull b (at to)
moved_op p n at (op.BranchReferences b to) = op.BranchReferences b (at to)
moved_op p n at (op.Goto to) = op.Goto (at to)
moved_op p n at (op.Switch other cases) = op.Switch (at other) (moved_cases at cases)
moved_op p n at o = o

fixed_constant : (at : ℕ → ℕ) (v : Value) → AreFixed at (constant_types v)
fixed_constant at (value.Int x) = (refl, tt)
fixed_constant at (value.Long x) = (refl, (refl, tt))
fixed_constant at (value.Ref zero) = (refl, tt)
fixed_constant at (value.Ref (suc o)) = (refl, tt)

fixed_arguments : (at : ℕ → ℕ) (c : Method) (ts : List VType) → AreFixed at ts → AreFixed at (arguments (record c { parameters = ts }))
fixed_arguments at c [] f = tt
fixed_arguments at c (t ∷ ts) f = f.1

module _ (P : Program) (Ts : List Table) (k d : Method) (at : ℕ → ℕ) (copy : List VType → List VType) (p n : ℕ) (s : Bool) (K : Copying P at p n s copy) (X : IsCopyOf k d at) (gives : IsResult k.result)
    (h : Types) (many : length h.locals ≡ n) (locals : IsLocals h.locals) (pc a : ℕ) (next : a + 1 ≡ at (pc + 1)) where
  abbrev ms : List Method
  ms = (rewritten P Ts).methods

  abbrev Q : Program
  Q = rewritten P Ts

  abbrev Moved : Flow → Flow → Type 0
  Moved = IsMoved P ms at copy p n s

  abbrev all : List VType → List VType
  all u = all_named at u

  abbrev r : List VType
  r = all h.stack

  abbrev E : List VType → Types
  E u = copy_of P ms at copy p n s h u

  leave : (u : List VType) → Moved (leaves pc h u) (leaves a (E r) (all u))
  leave u = leaves_moved P ms at copy p n s K h many pc a next r u

  give : (ts u : List VType) → AreFixed at ts → Moved (leaves pc h (ts ++ u)) (leaves a (E r) (ts ++ all u))
  give ts u f = gives_moved P ms at copy p n s K h many pc a next r ts u f

  number : (w : Width) (u : List VType) → Moved (leaves pc h (number_types w ++ u)) (leaves a (E r) (number_types w ++ all u))
  number w u = give (number_types w) u (number_fixed P ms at copy p n s K h many pc a next w)

  lead : (to tos : List ℕ) (u : List VType) → tos ≡ map at to → Moved (Leads to (with_stack h u)) (Leads tos (E (all u)))
  lead to tos u e = leads_moved P ms at copy p n s K h many to tos u e

  finish : (b c : Bool) (u : List VType) → b ≡ c → Moved (ends b (with_stack h u)) (ends c (E (all u)))
  finish b c u e = ends_moved P ms at copy p n s K h many b c u e

  each : (ts u : List VType) (j l : List VType → Flow) → AreFixed at ts → ((u : List VType) → Moved (j u) (l (all u))) → Moved (on_each P ts u j) (on_each Q ts (all u) l)
  each ts u j l fixed f = each_moved P ms at copy p n s ts u j l fixed f

  one_on : (t : VType) (u : List VType) (j l : List VType → Flow) → IsFixed at t → ((u : List VType) → Moved (j u) (l (all u))) → Moved (on P t u j) (on Q t (all u) l)
  one_on t u j l fixed f = on_moved P ms at copy p n s t u j l fixed f

  ints : (u : List VType) (j l : List VType → Flow) → ((u : List VType) → Moved (j u) (l (all u))) → Moved (on_int u j) (on_int (all u) l)
  ints u j l f = int_moved P ms at copy p n s u j l f

  longs : (u : List VType) (j l : List VType → Flow) → ((u : List VType) → Moved (j u) (l (all u))) → Moved (on_long P u j) (on_long Q (all u) l)
  longs u j l f = long_moved P ms at copy p n s u j l f

  numbers : (w : Width) (u : List VType) (j l : List VType → Flow) → ((u : List VType) → Moved (j u) (l (all u))) → Moved (on_number P w u j) (on_number Q w (all u) l)
  numbers w u j l f = number_moved P ms at copy p n s w u j l f

  references : (u : List VType) (j l : List VType → Flow) → ((u : List VType) → Moved (j u) (l (all u))) → Moved (on_reference P u j) (on_reference Q (all u) l)
  references u j l f = reference_moved P ms at copy p n s u j l f

  so : (b c : Bool) (j l : Flow) → (b ≡ true → c ≡ true) → (b ≡ true → Moved j l) → Moved (if_so b j) (if_so c l)
  so b c j l f m = so_moved P ms at copy p n s b c j l f m

  row_same : (t : ℕ) → row_at Q t ≡ row_at P t
  row_same zero = refl
  row_same (suc t) = refl

  row_case : (o : Option Row) (j l : Row → Flow) → ((x : Row) → Moved (j x) (l x)) → Moved (row_in o j) (row_in o l)
  row_case None j l f = tt
  row_case (Some x) j l f = f x

  rows : (t : ℕ) (j l : Row → Flow) → ((x : Row) → Moved (j x) (l x)) → Moved (row_in (row_at P t) j) (row_in (row_at Q t) l)
  rows t j l f = subst (λ (o : Option Row). Moved (row_in (row_at P t) j) (row_in o l)) (sym (row_same t)) (row_case (row_at P t) j l f)

  -- ---- objects that are built

  length_of : (u v t : VType) → ((x : VType) → is_uninit v (named at x) ≡ is_uninit u x) → length (map (become v t) (copy h.locals)) ≡ n + more_locals s
  length_of u v t tests = map_long (become v t) (copy h.locals) ∙ K.size h.locals many

  construct : (c : List ℕ) (t : VType) (u : List VType) → Moved (constructs P k pc c h t u) (constructs Q d a c (E r) (named at t) (all u))
  construct c (Uninit q) u = by (slice_get k.ops q) refl
    where
      made : (t : ℕ) → slice_get k.ops q ≡ Some (op.New t) → Moved (if_so (is_named c (new_class P (Some (op.New t)))) (Leads ((pc + 1) ∷ []) (built_as (Uninit q) (Ref c) h u))) (constructs Q d a c (E r) (Uninit (at q)) (all u))
      made t e =
          let there = X.news q t e in
          let row = row_same t in
          let tests = uninit_tests at q (X.alone q (op.New t) e) in
          let name : new_class Q (slice_get d.ops (at q)) ≡ new_class P (Some (op.New t)) = rw (there, row) refl in
          so (is_named c (new_class P (Some (op.New t)))) (is_named c (new_class Q (slice_get d.ops (at q)))) _ _ (λ y. ap (is_named c) name ∙ y)
          (λ y. record {
            targets = ap (λ (x : ℕ). x ∷ []) next;
            stack = all_become at (Uninit q) (Uninit (at q)) (Ref c) refl tests u;
            built = refl;
            size = length_of (Uninit q) (Uninit (at q)) (Ref c) tests;
            locals = λ us w. K.built (Uninit q) (Uninit (at q)) (Ref c) tt tt tests h.locals us w;
          })

      by : (o : Option Op) → slice_get k.ops q ≡ o → Moved (if_so (is_named c (new_class P o)) (Leads ((pc + 1) ∷ []) (built_as (Uninit q) (Ref c) h u))) (constructs Q d a c (E r) (Uninit (at q)) (all u))
      by (Some (op.New t)) e = made t e
      by o e = tt
  construct c UninitThis u = subst (λ (m : List ℕ). Moved (constructs P k pc c h UninitThis u) (if_so (bytes_eq c m || is_named c (direct_superclass Q m)) (Leads ((a + 1) ∷ []) (record (built_as UninitThis (Ref m) (E r) (all u)) { built = true })))) (sym X.class) (
      so (bytes_eq c k.name.class || is_named c (direct_superclass P k.name.class)) _ _ _ (λ y. y) (λ y. record {
        targets = ap (λ (x : ℕ). x ∷ []) next;
        stack = all_become at UninitThis UninitThis (Ref k.name.class) refl (this_tests at) u;
        built = refl;
        size = length_of UninitThis UninitThis (Ref k.name.class) (this_tests at);
        locals = λ us w. K.built UninitThis UninitThis (Ref k.name.class) tt tt (this_tests at) h.locals us w;
      }))
  construct c t u = tt

  -- ---- calls

  call : (c : Method) → AreFixed at c.parameters → AreFixed at (results c) → Moved (calls P pc c h) (calls Q a c (E r))
  call c takes given = each (reverse c.parameters) h.stack _ _ (fixed_reverse at c.parameters takes) (λ u. give (results c) u given)

  pub call_moved : (c : Method) → AreParameters c.parameters → IsResult c.result → Moved (calls P pc c h) (calls Q a c (E r))
  call_moved c takes given = call c (fixed_parameters at false c.parameters takes) (fixed_result at c.result given)

  pub special_moved : (b : Bool) (c : Method) → AreParameters c.parameters → IsResult c.result → Moved (special b P k pc c h) (special b Q d a c (E r))
  special_moved true c takes given =
      so (not (is_some c.result)) (not (is_some c.result)) _ _ (λ y. y)
      (λ y. each (reverse (arguments c)) h.stack _ _ (fixed_reverse at (arguments c) (fixed_arguments at c c.parameters (fixed_parameters at false c.parameters takes)))
      (λ u. top_moved P ms at copy p n s u _ _ (λ t u. construct c.name.class t u)))
  special_moved false c takes given =
      each (reverse (arguments c)) h.stack _ _ (fixed_reverse at (arguments c) (fixed_arguments at c c.parameters (fixed_parameters at false c.parameters takes)))
      (λ u. top_moved P ms at copy p n s u _ _ (λ t u.
      let same : name_read Q d.name.class ≡ name_read P k.name.class = ap (name_read Q) X.class ∙ name_same P ms k.name.class in
      so (is_within P t (Ref (name_read P k.name.class))) (is_within Q (named at t) (Ref (name_read Q d.name.class))) _ _
      (λ y. ap (λ (m : List ℕ). is_within Q (named at t) (Ref m)) same ∙ within_moved P ms at copy p n s t (Ref (name_read P k.name.class)) refl y)
      (λ y. call_moved c takes given)))

  -- ---- calls of added methods, with the context on top

  both : (x y w z : Flow) → x ≡ w → y ≡ z → Moved w z → Moved x y
  both x y w z e f m = subst (λ (x : Flow). Moved x y) (sym e) (subst (λ (y : Flow). Moved w y) (sym f) m)

  guarded : (b : Bool) (x y : Flow) → Moved x y → Moved (if_so b x) y
  guarded true x y m = m
  guarded false x y m = tt

  received_moved : (i : List ℕ) (o : Option VType) → is_received P i o ≡ true → is_received Q i (option_map (named at) o) ≡ true
  received_moved i None e = e
  received_moved i (Some UninitThis) e = refl
  received_moved i (Some Int) e = e
  received_moved i (Some Long) e = e
  received_moved i (Some Second) e = e
  received_moved i (Some Null) e = e
  received_moved i (Some (Uninit q)) e = e
  received_moved i (Some Top) e = e
  received_moved i (Some (Ref m)) e = within_moved P ms at copy p n s (Ref m) (Ref i) refl e

  module _ (R : Rewrites P Ts Q) (con : IsWithin Q context context) where
    abbrev Over : Types
    Over = E (context ∷ r)

    pub call_static : (m : ℕ) (c : Method) (T : Table) → slice_get P.methods m ≡ Some c → slice_get Q.methods (duplicate P m) ≡ Some (duplicate_method P c T) → AreParameters c.parameters → IsResult c.result
        → Moved (method_in (slice_get P.methods m) (λ c. calls P pc c h)) (method_in (slice_get Q.methods (duplicate P m)) (λ c. calls Q a c Over))
    call_static m c T there copied takes given =
        let names = duplicate_names P c T in
        let named : is_constructor (duplicate_method P c T) ≡ is_constructor c = ap (λ (n : List ℕ). bytes_eq n (codes "<init>")) names.1 ∙ constructor_name c.name.name in
        let e = duplicate_calls Q con d c (duplicate_method P c T) a (E r) r (duplicate_parameters P c T) (duplicate_result P c T) names.0 named in
        both _ _ (calls P pc c h) (calls Q a c (E r)) (rw there refl) (ap (λ (o : Option Method). method_in o (λ c. calls Q a c Over)) copied ∙ e) (call_moved c takes given)

    -- the context lies above the arguments
    places_more : (c : Method) (T : Table) (t : VType) → c.parameters ≡ t ∷ arguments c → argument_places (Some (duplicate_method P c T)) ≡ suc (argument_places (Some c))
    places_more c T t first = rw (duplicate_parameters P c T, first) (length-append (arguments c) (context ∷ []) ∙ omega arith)

    pub call_virtual : (m : ℕ) (i : List ℕ) (c : Method) (T : Table) → slice_get P.methods m ≡ Some c → slice_get Q.methods (duplicate P m) ≡ Some (duplicate_method P c T) → AreParameters c.parameters → IsResult c.result
        → (t : VType) → c.parameters ≡ t ∷ arguments c → Moved (flow P k pc (op.InvokeVirtual m i) h) (flow Q d a (op.InvokeVirtual (duplicate P m) i) Over)
    call_virtual m i c T there copied takes given t first =
        so (is_received P i (slice_get h.stack (argument_places (slice_get P.methods m)))) (is_received Q i (slice_get (context ∷ r) (argument_places (slice_get Q.methods (duplicate P m))))) _ _
        (λ y.
        let z = received_moved i (slice_get h.stack (argument_places (Some c))) (subst (λ (o : Option Method). is_received P i (slice_get h.stack (argument_places o)) ≡ true) there y) in
        let v = ap (is_received Q i) (slice_get-map (named at) h.stack (argument_places (Some c))) ∙ z in
        ap (λ (o : Option Method). is_received Q i (slice_get (context ∷ r) (argument_places o))) copied ∙ (ap (λ (j : ℕ). is_received Q i (slice_get (context ∷ r) j)) (places_more c T t first) ∙ v))
        (λ y. call_static m c T there copied takes given)

    pub call_special : (m : ℕ) (c : Method) (T : Table) → slice_get P.methods m ≡ Some c → slice_get Q.methods (duplicate P m) ≡ Some (duplicate_method P c T) → AreParameters c.parameters → IsResult c.result
        → (t : VType) → c.parameters ≡ t ∷ arguments c → Moved (flow P k pc (op.InvokeSpecial m) h) (flow Q d a (op.InvokeSpecial (duplicate P m)) Over)
    call_special m c T there copied takes given t first =
        let names = duplicate_names P c T in
        let named : is_constructor (duplicate_method P c T) ≡ is_constructor c = ap (λ (n : List ℕ). bytes_eq n (codes "<init>")) names.1 ∙ constructor_name c.name.name in
        let e = duplicate_special Q con d c (duplicate_method P c T) a (E r) r (duplicate_parameters P c T) (duplicate_result P c T) names.0 named t first in
        both _ _ (special (is_constructor c) P k pc c h) (special (is_constructor c) Q d a c (E r)) (ap (λ (o : Option Method). method_in o (λ c. special (is_constructor c) P k pc c h)) there)
        (ap (λ (o : Option Method). method_in o (λ c. special (is_constructor c) Q d a c Over)) copied ∙ e) (special_moved (is_constructor c) c takes given)

    -- ---- fields

    module _ (x : ℕ) (f : Field) where
      abbrev with_base : Option ℕ → Field
      with_base b = record f { base = b }

      fixed : AreFixed at (stack_types f.declared)
      fixed = fixed_word at f.declared.word f.declared.class

      pub get_static_moved : (o : ℕ) → slice_get P.fields x ≡ Some (with_base (Some o)) → Moved (flow P k pc (op.GetStatic x) h) (flow Q d a (op.InvokeStatic (getter P x)) Over)
      get_static_moved o there = both _ _ (leaves pc h (stack_types f.declared ++ h.stack)) _ (rw there refl)
          (get_static P Ts Q R con d a (E r) r x f.class f.name f.descriptor f.index f.declared.word f.declared.class o there) (give (stack_types f.declared) h.stack fixed)

      pub put_static_moved : (o : ℕ) → slice_get P.fields x ≡ Some (with_base (Some o)) → Moved (flow P k pc (op.PutStatic x) h) (flow Q d a (op.InvokeStatic (setter P x)) Over)
      put_static_moved o there = both _ _ (on_each P (stack_types f.declared) h.stack (λ u. leaves pc h u)) _ (rw there refl)
          (put_static P Ts Q R con d a (E r) r x f.class f.name f.descriptor f.index f.declared.word f.declared.class o there) (each (stack_types f.declared) h.stack _ _ fixed (λ u. leave u))

      pub get_field_moved : (c : List ℕ) → slice_get P.fields x ≡ Some (with_base None) → Moved (flow P k pc (op.GetField x c) h) (flow Q d a (op.InvokeStatic (getter P x)) Over)
      get_field_moved c there = guarded (is_received P c (slice_get h.stack 0)) (field_in (slice_get P.fields x) (λ f. on P (Ref f.class) h.stack (λ u. leaves pc h (stack_types f.declared ++ u)))) (flow Q d a (op.InvokeStatic (getter P x)) Over) (both _ _ (on P (Ref f.class) h.stack (λ u. leaves pc h (stack_types f.declared ++ u))) _ (rw there refl)
          (get_field P Ts Q R con d a (E r) r x f.class f.name f.descriptor f.index f.declared.word f.declared.class there) (one_on (Ref f.class) h.stack _ _ refl (λ u. give (stack_types f.declared) u fixed)))

      not_this : (t : VType) → t ≢ UninitThis → is_uninit UninitThis t ≡ false
      not_this UninitThis ne = absurd (ne refl)
      not_this t ne = refl

      put : (u : List VType) → slice_get u 0 ≢ Some UninitThis → Moved (puts P k pc f h u) (on Q (Ref f.class) (all u) (λ u. leaves a (E r) u))
      put [] ne = tt
      put (t ∷ u) ne = go (is_uninit UninitThis t) (not_this t (λ e. ne (ap (λ (t : VType). Some t) e))) (is_within P t (Ref f.class)) (is_within Q (named at t) (Ref f.class)) (within_moved P ms at copy p n s t (Ref f.class) refl)
        where
          go : (i : Bool) → i ≡ false → (b c : Bool) → (b ≡ true → c ≡ true) → Moved (if_so ((i && bytes_eq f.class k.name.class) || b) (leaves pc h u)) (if c then leaves a (E r) (all u) else Wrong)
          go true off b c g = cc
          go false off false c g = tt
          go false off true true g = leave u
          go false off true false g = absurd (let e = g refl in cc)

      stacked_places : (w : WordType) (c : List ℕ) → length (stack_types (record { word = w; class = c })) ≡ word_places w
      stacked_places word.Boolean c = refl
      stacked_places word.Byte c = refl
      stacked_places word.Char c = refl
      stacked_places word.Short c = refl
      stacked_places word.Int c = refl
      stacked_places word.Long c = refl
      stacked_places word.Reference c = refl

      pub put_field_moved : (c : List ℕ) → slice_get P.fields x ≡ Some (with_base None) → slice_get h.stack (word_places f.declared.word) ≢ Some UninitThis → Moved (flow P k pc (op.PutField x c) h) (flow Q d a (op.InvokeStatic (setter P x)) Over)
      put_field_moved c there late = guarded (is_received P c (slice_get h.stack (value_places (slice_get P.fields x)))) (field_in (slice_get P.fields x) (λ f. on_each P (stack_types f.declared) h.stack (λ u. puts P k pc f h u))) (flow Q d a (op.InvokeStatic (setter P x)) Over) (both _ _ (on_each P (stack_types f.declared) h.stack (λ u. puts P k pc (with_base None) h u)) _ (rw there refl)
          (put_field P Ts Q R con d a (E r) r x f.class f.name f.descriptor f.index f.declared.word f.declared.class there)
          (each_moved_at P ms at copy p n s (stack_types f.declared) h.stack _ _ fixed (λ u below. put u (λ e.
          let z : length (stack_types f.declared) + 0 ≡ word_places f.declared.word = let y = stacked_places f.declared.word f.declared.class in omega (arith, y) in
          late (ap (slice_get h.stack) (sym z) ∙ below 0 ∙ e)))))

    -- ---- elements

    array_is : (t : WordType) (n : List ℕ) → bytes_eq n (array_type t) ≡ true → is_within Q (Ref (array_type t)) (Ref (array_type t)) ≡ true → is_within Q (Ref n) (Ref (array_type t)) ≡ true
    array_is t n e itself = subst (λ (m : List ℕ). is_within Q (Ref m) (Ref (array_type t)) ≡ true) (sym ((bytes_eq-Decides n (array_type t)).0 e)) itself

    module _ (types : AreTypes P) where
      -- the array is one that the helper takes
      pub array_taken : (t : WordType) (u : VType) → IsArrayType P ms at copy p n s u → IsReadType P u → fits_elements t u ≡ true → is_within Q u (Ref (array_type (helped (Some u) t))) ≡ true
      array_taken t Null array read fits = refl
      array_taken word.Reference (Ref m) array read fits = within_same P ms (Ref m) (Ref (array_type word.Reference)) ∙ (elements_read P types m array fits read).below
      array_taken word.Boolean (Ref m) array read fits = array_is word.Boolean m fits refl
      array_taken word.Char (Ref m) array read fits = array_is word.Char m fits refl
      array_taken word.Short (Ref m) array read fits = array_is word.Short m fits refl
      array_taken word.Int (Ref m) array read fits = array_is word.Int m fits refl
      array_taken word.Long (Ref m) array read fits = array_is word.Long m fits refl
      array_taken word.Byte (Ref m) array read fits = by (bytes_eq m (codes "[Z")) refl (bytes_eq m (codes "[B")) refl fits
        where
          by : (b : Bool) → bytes_eq m (codes "[Z") ≡ b → (c : Bool) → bytes_eq m (codes "[B") ≡ c → (c || b) ≡ true → is_within Q (Ref m) (Ref (array_type (if b then word.Boolean else word.Byte))) ≡ true
          by true e c f g = array_is word.Boolean m e refl
          by false e true f g = array_is word.Byte m f refl
          by false e false f g = cc
      array_taken t u array read fits = absurd array

      stored_fixed : (t : WordType) → AreFixed at (stored_types t)
      stored_fixed t = fixed_word at t object_class

      stored_helped : (o : Option VType) (t : WordType) → stack_types (any_of (helped o t)) ≡ stored_types t
      stored_helped (Some (Ref m)) word.Byte = by (bytes_eq m (codes "[Z"))
        where
          by : (b : Bool) → stack_types (any_of (if b then word.Boolean else word.Byte)) ≡ Int ∷ []
          by true = refl
          by false = refl
      stored_helped o t = refl

      -- the helper's method loads an element of the array
      pub element_loaded : (b : ℕ) (t : WordType) (u : VType) (v : List VType) → IsArrayType P ms at copy p n s u → IsReadType P u → fits_elements t u ≡ true
          → flow Q d b (op.InvokeStatic (element_getter P (helped (Some u) t))) (E (context ∷ Int ∷ u ∷ v)) ≡ leaves b (E r) (stored_types t ++ v)
      element_loaded b t u v array read fits =
          let e = array_taken t u array read fits in
          get_element P Ts Q R con d b (E r) (Int ∷ u ∷ v) (helped (Some u) t) ∙ (rw e refl) ∙ ap (λ (l : List VType). leaves b (E r) (l ++ v)) (stored_helped (Some u) t)

      stores : (t : WordType) (o : Option VType) (u : List VType) → slice_get u 1 ≡ o → ((m : List ℕ) → o ≡ Some (Ref m) → IsKnownName P m)
          → Moved (on_int u (λ u. on_array u (λ x u. if_so (fits_elements t x) (leaves pc h u)))) (on_each Q (Int ∷ Ref (array_type (helped o t)) ∷ []) (all u) (λ u. leaves a (E r) u))
      stores t o [] e read = tt
      stores t o (Int ∷ []) e read = tt
      stores t o (Int ∷ Null ∷ u) e read = leave u
      stores t o (Int ∷ Ref m ∷ u) e read = by (is_array m) refl (fits_elements t (Ref m)) refl
        where
          by : (b : Bool) → is_array m ≡ b → (c : Bool) → fits_elements t (Ref m) ≡ c → Moved (if_so b (if_so c (leaves pc h u))) (if is_within Q (Ref m) (Ref (array_type (helped o t))) then leaves a (E r) (all u) else Wrong)
          by false i c f = tt
          by true i false f = tt
          by true i true f =
              let taken : is_within Q (Ref m) (Ref (array_type (helped o t))) ≡ true = subst (λ (o : Option VType). is_within Q (Ref m) (Ref (array_type (helped o t))) ≡ true) e (array_taken t (Ref m) i (known_array P m i (read m (sym e))) f) in
              rw taken (leave u)
      stores t o (Int ∷ x ∷ u) e read = tt
      stores t o (x ∷ u) e read = tt

      pub store_moved : (t : WordType) → AllByRecursion (IsKnownType P) h.stack → Moved (flow P k pc (op.StoreElement t) h) (flow Q d a (op.InvokeStatic (element_setter P (helped (slice_get h.stack (1 + word_places t)) t))) Over)
      store_moved t read =
          let o = slice_get h.stack (1 + word_places t) in
          let e = put_element P Ts Q R con d a (E r) r (helped o t) ∙ ap (λ (l : List VType). on_each Q l r (λ u. on_each Q (Int ∷ Ref (array_type (helped o t)) ∷ []) u (λ u. leaves a (E r) u))) (stored_helped o t) in
          both _ _ (on_each P (stored_types t) h.stack (λ u. on_int u (λ u. on_array u (λ x u. if_so (fits_elements t x) (leaves pc h u))))) _ refl e
          (each_moved_at P ms at copy p n s (stored_types t) h.stack _ _ (stored_fixed t) (λ u below. stores t o u
          (let z : length (stored_types t) + 1 ≡ 1 + word_places t = let y = places t in omega (arith, y) in sym (below 1) ∙ ap (slice_get h.stack) z)
          (λ m e. each_at (IsKnownType P) h.stack (1 + word_places t) (Ref m) read e)))
        where
          places : (t : WordType) → length (stored_types t) ≡ word_places t
          places word.Boolean = refl
          places word.Byte = refl
          places word.Char = refl
          places word.Short = refl
          places word.Int = refl
          places word.Long = refl
          places word.Reference = refl

  -- ---- instructions for which one stands

  module _ (here : a ≡ at pc) (alone : IsAlone at pc) where
    makes : (b : Bool) → Moved (makes_new b pc h) (makes_new b a (E r))
    makes true = tt
    makes false = subst (λ (x : ℕ). Moved (makes_new false pc h) (Leads ((a + 1) ∷ []) (record (E r) { locals = map (become (Uninit x) Top) (copy h.locals); stack = Uninit x ∷ r }))) (sym here) (record {
      targets = ap (λ (x : ℕ). x ∷ []) next;
      stack = refl;
      built = refl;
      size = length_of (Uninit pc) (Uninit (at pc)) Top (uninit_tests at pc alone);
      locals = λ us w. K.built (Uninit pc) (Uninit (at pc)) Top tt tt (uninit_tests at pc alone) h.locals us w;
    })

    new_test : list_any (is_uninit (Uninit a)) r ≡ list_any (is_uninit (Uninit pc)) h.stack
    new_test = ap (λ (x : ℕ). list_any (is_uninit (Uninit x)) r) here ∙ any_uninit at pc alone h.stack

    pub single_moved : (o : Op) → IsSingle o → IsSourceOp P k o → (is_stray p o ≡ true → s ≡ true) → Moved (flow P k pc o h) (flow Q d a (moved_op p n at o) (E r))
    single_moved (op.GetStatic f) i src stray = absurd i
    single_moved (op.PutStatic f) i src stray = absurd i
    single_moved (op.GetField f c) i src stray = absurd i
    single_moved (op.PutField f c) i src stray = absurd i
    single_moved (op.LoadElement t) i src stray = absurd i
    single_moved (op.StoreElement t) i src stray = absurd i
    single_moved (op.InvokeStatic m) i src stray = absurd i
    single_moved (op.InvokeSpecial m) i src stray = absurd i
    single_moved (op.InvokeVirtual m c) i src stray = absurd i
    single_moved (op.InvokeInterface m c) i src stray = absurd i
    single_moved op.GetContext i src stray = absurd src
    single_moved (op.Context c) i src stray = absurd src
    single_moved (op.Constant v) i src stray = give (constant_types v) h.stack (fixed_constant at v)
    single_moved (op.Text x) i src stray = so (is_some (slice_get P.texts x)) (is_some (slice_get P.texts x)) _ _ (λ y. y) (λ y. leave (Ref string_class ∷ h.stack))
    single_moved (op.Load t x) i src stray = loads_moved P ms at copy p n s K h many pc a next locals t x stray
    single_moved (op.Store t x) i src stray = stores_moved P ms at copy p n s K h many pc a next locals t x stray
    single_moved (op.Stack o) i src stray = rearranged_moved P ms at copy p n s K h many pc a next o
    single_moved (op.Binary w b) i src stray = numbers w h.stack _ _ (λ u. numbers w u _ _ (λ u. number w u))
    single_moved (op.Shift w b) i src stray = ints h.stack _ _ (λ u. numbers w u _ _ (λ u. number w u))
    single_moved (op.Divide w b) i src stray = numbers w h.stack _ _ (λ u. numbers w u _ _ (λ u. number w u))
    single_moved (op.Unary w b) i src stray = numbers w h.stack _ _ (λ u. number w u)
    single_moved (op.Convert c) i src stray = converted_moved P ms at copy p n s K h many pc a next c
    single_moved op.CompareLongs i src stray = longs h.stack _ _ (λ u. longs u _ _ (λ u. leave (Int ∷ u)))
    single_moved (op.Increment x y) i src stray = int_local P ms at copy p n s K h many pc a next locals x _ _ (leave h.stack)
    single_moved (op.Branch t to) i src stray = ints h.stack _ _ (λ u. lead ((pc + 1) ∷ to ∷ []) ((a + 1) ∷ at to ∷ []) u (ap (λ (x : ℕ). x ∷ at to ∷ []) next))
    single_moved (op.BranchInts t to) i src stray = ints h.stack _ _ (λ u. ints u _ _ (λ u. lead ((pc + 1) ∷ to ∷ []) ((a + 1) ∷ at to ∷ []) u (ap (λ (x : ℕ). x ∷ at to ∷ []) next)))
    single_moved (op.BranchNull b to) i src stray = references h.stack _ _ (λ u. lead ((pc + 1) ∷ to ∷ []) ((a + 1) ∷ at to ∷ []) u (ap (λ (x : ℕ). x ∷ at to ∷ []) next))
    single_moved (op.BranchReferences b to) i src stray = references h.stack _ _ (λ u. references u _ _ (λ u. lead ((pc + 1) ∷ to ∷ []) ((a + 1) ∷ at to ∷ []) u (ap (λ (x : ℕ). x ∷ at to ∷ []) next)))
    single_moved (op.Goto to) i src stray = lead (to ∷ []) (at to ∷ []) h.stack refl
    single_moved (op.Switch other cases) i src stray = ints h.stack _ _ (λ u. lead (exits other cases) (exits (at other) (moved_cases at cases)) u (exits_moved at other cases))
    single_moved (op.InitLibrary c x) i src stray = each (replicate x (Ref string_class)) h.stack _ _ (fixed_copies at x string_class) (λ u. top_moved P ms at copy p n s u _ _ (λ t u. construct c t u))
    single_moved (op.New t) i src stray = rows t _ _ (λ x. let e = new_test in rw e (makes (list_any (is_uninit (Uninit pc)) h.stack)))
    single_moved (op.NewArray t) i src stray = rows t _ _ (λ x. ints h.stack _ _ (λ u. leave (Ref x.read ∷ u)))
    single_moved op.ArrayLength i src stray = array_moved P ms at copy p n s h.stack _ _ (λ t u y. leave (Int ∷ u))
    single_moved (op.CheckCast c) i src stray = references h.stack _ _ (λ u. let e = name_same P ms c in subst (λ (m : List ℕ). Moved (leaves pc h (Ref (name_read P c) ∷ u)) (leaves a (E r) (Ref m ∷ all u))) (sym e) (leave (Ref (name_read P c) ∷ u)))
    single_moved (op.InstanceOf c) i src stray = references h.stack _ _ (λ u. leave (Int ∷ u))
    single_moved op.Return i src stray = finish (not (is_some k.result) && (not (is_constructor k) || h.built)) (not (is_some d.result) && (not (is_constructor d) || h.built)) h.stack
        (sym (ap (λ (o : Option VType). not (is_some o) && (not (is_constructor d) || h.built)) X.result ∙ ap (λ (b : Bool). not (is_some k.result) && (not b || h.built)) X.constructor))
    single_moved (op.ReturnValue t) i src stray = subst (λ (o : Option VType). Moved (flow P k pc (op.ReturnValue t) h) (flow Q (record d { result = o }) a (op.ReturnValue t) (E r))) (sym X.result)
        (so (returns t k.result) (returns t k.result) _ _ (λ y. y) (λ y. each (results k) h.stack _ _ (fixed_result at k.result gives) (λ u. finish true true u refl)))
    single_moved op.Throw i src stray = one_on (Ref throwable_class) h.stack _ _ refl (λ u. finish true true u refl)
