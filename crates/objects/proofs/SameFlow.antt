-- A method that stays as it was has its typing over the rewritten program.
use Rattle.std.proofs.Common.{◌≡◌, ℕ, ℤ, ◌+◌, List, [], ◌∷◌, ◌++◌, reverse, replicate, Option, Some, None, Bool, true, false, refl, sym, ap, subst, ◌∙◌}
use Rattle.std.specs.Prelude.{slice_get, codes, drop, is_some, not, bytes_eq}
use Rattle.std.specs.List.{AllByRecursion}
use Rattle.jmodel.specs.declared.typing.VType.{VType}
use Rattle.jmodel.specs.declared.typing.VType.TheVariants.{Int, Long, Second, Ref, Uninit, UninitThis, Top}
use Rattle.objects.specs.declared.op.Sort.TheVariants as sort
use Rattle.objects.specs.declared.op.Width.{Width}
use Rattle.objects.specs.declared.op.Width.TheVariants as width
use Rattle.objects.specs.declared.op.Conversion.TheVariants.{IntToLong, LongToInt}
use Rattle.objects.specs.declared.op.Op.{Op}
use Rattle.objects.specs.declared.op.Op.TheVariants as op
use Rattle.objects.specs.declared.op.Catch.{Catch}
use Rattle.objects.specs.declared.op.Catches.{Catches}
use Rattle.objects.specs.declared.op.Catches.TheVariants.{Conflict, Any, Of}
use Rattle.objects.specs.semantics.Program.{Field, Method, Program, method_at, field_at, has_code}
use Rattle.objects.specs.typing.TypeOrder.{object_class, throwable_class, string_class, is_element_within, is_reference_within, is_within, IsWithin, AreWithin, element_read, name_read, stack_types}
use Rattle.objects.specs.typing.Typing.{is_received, argument_places, value_places, Types, Table, FitsIn, Flow, Leads, Wrong, if_so, on, on_each, on_int, on_number, on_top, field_in, method_in, stored_types, is_constructor, arguments, results, calls, special, constructs, puts, returns, flow, Covers, caught_type, AreCaught, KeepsFlow, KeepsAt, IsTyping, IsTypable}
use Rattle.objects.specs.typing.Source.{IsSourceOp, IsSourceMethod}
use Rattle.objects.specs.laws.TypingLaw.{IsTypedProgram}
use Rattle.objects.specs.rewriting.Rewriting.{accessors, duplicates, wrapper_method, old_method, old_methods, rewritten}
use Rattle.objects.proofs.Fields.{each_at}
use Rattle.objects.proofs.Places.{old_at, get_front}

-- the program with other methods
module _ (P : Program) (ms : List Method) where
  abbrev Q : Program
  Q = record P { methods = ms }

  -- ---- the order of types

  element_same : (m n : List ℕ) → is_element_within Q m n ≡ is_element_within P m n
  element_same [] n = refl
  element_same (c ∷ m) [] = refl
  element_same (c ∷ m) (d ∷ n) = let e = element_same m n in rw e refl

  reference_same : (m n : List ℕ) → is_reference_within Q m n ≡ is_reference_within P m n
  reference_same m n = let e = element_same (drop 1 m) (drop 1 n) in rw e refl

  pub within_same : (t u : VType) → is_within Q t u ≡ is_within P t u
  within_same t Top = refl
  within_same (Ref m) (Ref n) = reference_same m n
  within_same Int Int = refl
  within_same t u = refl

  pub are_same : (ts us : List VType) → AreWithin P ts us → AreWithin Q ts us
  are_same [] [] h = tt
  are_same [] (u ∷ us) h = absurd h
  are_same (t ∷ ts) [] h = absurd h
  are_same (t ∷ ts) (u ∷ us) h = (within_same t u ∙ h.0, are_same ts us h.1)

  read_same : (n : List ℕ) → element_read Q n ≡ element_read P n
  read_same [] = refl
  read_same (c ∷ n) = let e = read_same n in rw e refl

  pub name_same : (n : List ℕ) → name_read Q n ≡ name_read P n
  name_same n = let e = read_same n in rw e refl

  -- ---- flow

  abbrev Alike : (List VType → Flow) → (List VType → Flow) → Type 0
  Alike j l = (s : List VType) → j s ≡ l s

  on_same : (t : VType) (s : List VType) (j l : List VType → Flow) → Alike j l → on Q t s j ≡ on P t s l
  on_same t [] j l f = refl
  on_same t (u ∷ s) j l f = let e = within_same u t in let g = f s in rw (e, g) refl

  each_same : (ts s : List VType) (j l : List VType → Flow) → Alike j l → on_each Q ts s j ≡ on_each P ts s l
  each_same [] s j l f = f s
  each_same (t ∷ ts) s j l f = on_same t s (λ s. on_each Q ts s j) (λ s. on_each P ts s l) (λ s. each_same ts s j l f)

  int_same : (s : List VType) (j l : List VType → Flow) → Alike j l → on_int s j ≡ on_int s l
  int_same [] j l f = refl
  int_same (Int ∷ s) j l f = f s
  int_same (t ∷ s) j l f = refl

  number_same : (w : Width) (s : List VType) (j l : List VType → Flow) → Alike j l → on_number Q w s j ≡ on_number P w s l
  number_same width.Int s j l f = int_same s j l f
  number_same width.Long s j l f = each_same (Second ∷ Long ∷ []) s j l f

  so_same : (b : Bool) (x y : Flow) → x ≡ y → if_so b x ≡ if_so b y
  so_same true x y e = e
  so_same false x y e = refl

  top_same : (s : List VType) (j l : VType → List VType → Flow) → ((t : VType) (s : List VType) → j t s ≡ l t s) → on_top s j ≡ on_top s l
  top_same [] j l f = refl
  top_same (t ∷ s) j l f = f t s

  field_same : (o : Option Field) (j l : Field → Flow) → ((f : Field) → j f ≡ l f) → field_in o j ≡ field_in o l
  field_same None j l f = refl
  field_same (Some x) j l f = f x

  construct_same : (k : Method) (pc : ℕ) (c : List ℕ) (h : Types) (t : VType) (s : List VType) → constructs Q k pc c h t s ≡ constructs P k pc c h t s
  construct_same k pc c h (Uninit p) s = refl
  construct_same k pc c h UninitThis s = refl
  construct_same k pc c h t s = refl

  calls_same : (pc : ℕ) (c : Method) (h : Types) → calls Q pc c h ≡ calls P pc c h
  calls_same pc c h = each_same (reverse c.parameters) h.stack _ _ (λ s. refl)

  special_same : (b : Bool) (k : Method) (pc : ℕ) (c : Method) (h : Types) → special b Q k pc c h ≡ special b P k pc c h
  special_same true k pc c h = so_same (not (is_some c.result)) _ _ (each_same (reverse (arguments c)) h.stack _ _ (λ s. top_same s _ _ (λ t s. construct_same k pc c.name.class h t s)))
  special_same false k pc c h = each_same (reverse (arguments c)) h.stack _ _ (λ s. top_same s _ _ (λ t u. let r = name_same k.name.class in let e = within_same t (Ref (name_read P k.name.class)) in let g = calls_same pc c h in rw (r, e, g) refl))

  pub received_same : (n : List ℕ) (o : Option VType) → is_received Q n o ≡ is_received P n o
  received_same n None = refl
  received_same n (Some UninitThis) = refl
  received_same n (Some t) = within_same t (Ref n)

  guard_same : (b c : Bool) (x y : Flow) → b ≡ c → x ≡ y → if_so b x ≡ if_so c y
  guard_same b c x y e f = ap (λ (b : Bool). if_so b x) e ∙ so_same c x y f

  puts_same : (k : Method) (pc : ℕ) (f : Field) (h : Types) (s : List VType) → puts Q k pc f h s ≡ puts P k pc f h s
  puts_same k pc f h s = top_same s _ _ (λ t s. let e = within_same t (Ref f.class) in rw e refl)

  -- what is taken and given by a method, and its name, are as they were
  pub record IsAlike (m : ℕ) (c : Method) : Type 0 where
    pub method : Method
    pub there : slice_get ms m ≡ Some method
    pub parameters : method.parameters ≡ c.parameters
    pub result : method.result ≡ c.result
    pub name : method.name ≡ c.name

  module _ (alike : (m : ℕ) (c : Method) → method_at P m ≡ Some c → IsAlike m c) (k : Method) (pc : ℕ) (h : Types) where
    called_same : (m : ℕ) (c : Method) → method_at P m ≡ Some c → method_in (method_at Q m) (λ c. calls Q pc c h) ≡ method_in (method_at P m) (λ c. calls P pc c h)
    called_same m c is =
        let x = alike m c is in
        let there = x.there in let parameters = x.parameters in let result = x.result in
        let e = calls_same pc c h in
        rw (there, is, parameters, result) e

    places_alike : (x c : Method) → x.parameters ≡ c.parameters → argument_places (Some x) ≡ argument_places (Some c)
    places_alike x c e = rw e refl

    places_same : (m : ℕ) (c : Method) → method_at P m ≡ Some c → argument_places (method_at Q m) ≡ argument_places (method_at P m)
    places_same m c is = let x = alike m c is in ap argument_places x.there ∙ (places_alike x.method c x.parameters ∙ sym (ap argument_places is))

    special_called : (m : ℕ) (c : Method) → method_at P m ≡ Some c → method_in (method_at Q m) (λ c. special (is_constructor c) Q k pc c h) ≡ method_in (method_at P m) (λ c. special (is_constructor c) P k pc c h)
    special_called m c is =
        let x = alike m c is in
        let there = x.there in let parameters = x.parameters in let result = x.result in let name = x.name in
        let e = special_same (is_constructor c) k pc c h in
        ap (λ (o : Option Method). method_in o (λ c. special (is_constructor c) Q k pc c h)) there ∙ shaped x.method c parameters result name ∙ e ∙ sym (ap (λ (o : Option Method). method_in o (λ c. special (is_constructor c) P k pc c h)) is)
      where
        shaped : (x c : Method) → x.parameters ≡ c.parameters → x.result ≡ c.result → x.name ≡ c.name → special (is_constructor x) Q k pc x h ≡ special (is_constructor c) Q k pc c h
        shaped x c e f g = by (is_constructor c) (ap (λ n. bytes_eq n.name (codes "<init>")) g)
          where
            by : (b : Bool) → is_constructor x ≡ b → special (is_constructor x) Q k pc x h ≡ special b Q k pc c h
            by true is = rw is (rw (e, f, g) refl)
            by false is = rw is (rw (e, f) refl)

    pub flow_same : (o : Op) → IsSourceOp P k o → flow Q k pc o h ≡ flow P k pc o h
    flow_same (op.Store sort.Long i) src = each_same (Second ∷ Long ∷ []) h.stack _ _ (λ s. refl)
    flow_same (op.Store sort.Int i) src = refl
    flow_same (op.Store sort.Reference i) src = refl
    flow_same (op.Binary w b) src = number_same w h.stack _ _ (λ s. number_same w s _ _ (λ s. refl))
    flow_same (op.Shift w b) src = int_same h.stack _ _ (λ s. number_same w s _ _ (λ s. refl))
    flow_same (op.Divide w d) src = number_same w h.stack _ _ (λ s. number_same w s _ _ (λ s. refl))
    flow_same (op.Unary w u) src = number_same w h.stack _ _ (λ s. refl)
    flow_same (op.Convert IntToLong) src = refl
    flow_same (op.Convert LongToInt) src = each_same (Second ∷ Long ∷ []) h.stack _ _ (λ s. refl)
    flow_same (op.Convert c) src = refl
    flow_same op.CompareLongs src = each_same (Second ∷ Long ∷ []) h.stack _ _ (λ s. each_same (Second ∷ Long ∷ []) s _ _ (λ s. refl))
    flow_same (op.BranchNull b to) src = on_same (Ref object_class) h.stack _ _ (λ s. refl)
    flow_same (op.BranchReferences b to) src = on_same (Ref object_class) h.stack _ _ (λ s. on_same (Ref object_class) s _ _ (λ s. refl))
    flow_same (op.PutStatic n) src = field_same (field_at P n) _ _ (λ f. so_same (is_some f.base) _ _ (each_same (stack_types f.declared) h.stack _ _ (λ s. refl)))
    flow_same (op.GetField n c) src = guard_same _ _ _ _ (received_same c (slice_get h.stack 0)) (field_same (field_at P n) _ _ (λ f. on_same (Ref f.class) h.stack _ _ (λ s. refl)))
    flow_same (op.PutField n c) src = guard_same _ _ _ _ (received_same c (slice_get h.stack (value_places (field_at P n)))) (field_same (field_at P n) _ _ (λ f. each_same (stack_types f.declared) h.stack _ _ (λ s. puts_same k pc f h s)))
    flow_same (op.InvokeStatic m) src = called_same m src.method src.there
    flow_same (op.InvokeSpecial m) src = special_called m src.method src.there
    flow_same (op.InvokeVirtual m n) src = guard_same _ _ _ _ (ap (λ (j : ℕ). is_received Q n (slice_get h.stack j)) (places_same m src.method src.there) ∙ received_same n (slice_get h.stack (argument_places (method_at P m)))) (called_same m src.method src.there)
    flow_same (op.InvokeInterface m n) src = called_same m src.method src.there
    flow_same (op.InitLibrary c n) src = each_same (replicate n (Ref string_class)) h.stack _ _ (λ s. top_same s _ _ (λ t s. construct_same k pc c h t s))
    flow_same (op.StoreElement t) src = each_same (stored_types t) h.stack _ _ (λ s. refl)
    flow_same (op.CheckCast c) src = on_same (Ref object_class) h.stack _ _ (λ s. let e = name_same c in rw e refl)
    flow_same (op.InstanceOf c) src = on_same (Ref object_class) h.stack _ _ (λ s. refl)
    flow_same (op.ReturnValue t) src = so_same (returns t k.result) _ _ (each_same (results k) h.stack _ _ (λ s. refl))
    flow_same op.Throw src = on_same (Ref throwable_class) h.stack _ _ (λ s. refl)
    flow_same op.GetContext src = absurd src
    flow_same (op.Context c) src = absurd src
    flow_same o src = refl

  -- ---- a typing

  module _ (alike : (m : ℕ) (c : Method) → method_at P m ≡ Some c → IsAlike m c) (k : Method) (T : Table) where
    fits_same : (h g : Types) → FitsIn P h g → FitsIn Q h g
    fits_same h g x = record { locals = are_same h.locals g.locals x.locals; stack = are_same h.stack g.stack x.stack; built = x.built }

    covers_same : (h : Types) (pc : ℕ) → Covers P k T h pc → Covers Q k T h pc
    covers_same h pc x = record { inside = x.inside; types = x.types; there = x.there; fits = fits_same h x.types x.fits }

    all_same : (h : Types) (to : List ℕ) → AllByRecursion (Covers P k T h) to → AllByRecursion (Covers Q k T h) to
    all_same h [] x = tt
    all_same h (pc ∷ to) x = (covers_same h pc x.0, all_same h to x.1)

    caught_same : (c : Catches) → caught_type Q c ≡ caught_type P c
    caught_same Conflict = refl
    caught_same Any = refl
    caught_same (Of n) = ap Ref (name_same n)

    are_caught : (pc : ℕ) (l : List VType) (built : Bool) (cs : List Catch) → AreCaught P k T pc l built cs → AreCaught Q k T pc l built cs
    are_caught pc l built [] x = tt
    are_caught pc l built (c ∷ cs) x = (λ guarded. one (caught_type P c.catches) (caught_type Q c.catches) (caught_same c.catches) (x.0 guarded), are_caught pc l built cs x.1)
      where
        one : (t u : VType) → u ≡ t → IsWithin P t (Ref throwable_class) × Covers P k T (record { locals = l; stack = t ∷ []; built = built }) c.at
            → IsWithin Q u (Ref throwable_class) × Covers Q k T (record { locals = l; stack = u ∷ []; built = built }) c.at
        one t u e y = subst (λ (v : VType). IsWithin Q v (Ref throwable_class) × Covers Q k T (record { locals = l; stack = v ∷ []; built = built }) c.at) (sym e) (within_same t (Ref throwable_class) ∙ y.0, covers_same _ c.at y.1)

    keeps_flow : (pc : ℕ) (h : Types) (x : Flow) → KeepsFlow P k T pc h x → KeepsFlow Q k T pc h x
    keeps_flow pc h Wrong e = absurd e
    keeps_flow pc h (Leads to g) e = record { room = e.room; goes = all_same g to e.goes; before = are_caught pc h.locals h.built k.catches e.before; after = are_caught pc g.locals g.built k.catches e.after }

    keeps_same : (pc : ℕ) (h : Types) (o : Option Op) → ((x : Op) → o ≡ Some x → IsSourceOp P k x) → KeepsAt P k T pc h o → KeepsAt Q k T pc h o
    keeps_same pc h None f e = absurd e
    keeps_same pc h (Some o) f e = subst (KeepsFlow Q k T pc h) (sym (flow_same alike k pc h o (f o refl))) (keeps_flow pc h (flow P k pc o h) e)

    -- a typing of a method of the program is one over the other
    pub typing_same : IsSourceMethod P k → IsTyping P k T → IsTyping Q k T
    typing_same src x = record {
      first = x.first;
      each = λ pc h e. let y = x.each pc h e in
          record {
            locals = y.locals;
            each_local = y.each_local;
            room = y.room;
            stack = y.stack;
            keeps = keeps_same pc h (slice_get k.ops pc) (λ o is. each_at (IsSourceOp P k) k.ops pc o src.each is) y.keeps;
          };
    }

-- a method that stays
module _ (P : Program) (Ts : List Table) where
  pub alike : (m : ℕ) (c : Method) → method_at P m ≡ Some c → IsAlike P (rewritten P Ts).methods m c
  alike m c h = go c.retries refl
    where
      at : (j : ℕ) × (slice_get (old_methods P 0 0 P.methods) m ≡ Some (old_method P j (0 + m) c.retries c))
      at = old_at P 0 0 m P.methods c h

      there : (x : Method) → old_method P at.0 (0 + m) c.retries c ≡ x → slice_get (rewritten P Ts).methods m ≡ Some x
      there x e =
          let olds = old_methods P 0 0 P.methods in
          let news = accessors 0 P.fields in
          let copies = duplicates P P.methods Ts in
          get_front (olds ++ news ++ copies) _ m _ (get_front (olds ++ news) _ m _ (get_front olds news m _ (at.1 ∙ ap (λ (y : Method). Some y) e)))

      go : (r : Option ℤ) → c.retries ≡ r → IsAlike P (rewritten P Ts).methods m c
      go None e = record { method = c; there = there c (ap (λ (r : Option ℤ). old_method P at.0 (0 + m) r c) e); parameters = refl; result = refl; name = refl }
      go (Some n) e = record { method = wrapper_method P at.0 (0 + m) n c; there = there _ (ap (λ (r : Option ℤ). old_method P at.0 (0 + m) r c) e); parameters = refl; result = refl; name = refl }

  pub stays_typable : IsTypedProgram P Ts → (m : ℕ) (k : Method) → slice_get P.methods m ≡ Some k → has_code (Some k) ≡ true → IsTypable (rewritten P Ts) k
  stays_typable S m k there code =
      let x = S.typed m k there code in
      record { table = x.table; typing = typing_same P (rewritten P Ts).methods alike k x.table (each_at (IsSourceMethod P) P.methods m k S.source.methods there) x.typing }
