-- The duplicate of a typed method has a typing.
use Rattle.std.proofs.Common.{◌≡◌, ◌≢◌, ℕ, zero, suc, ◌+◌, ◌-◌, ◌<◌, ◌≤◌, List, [], ◌∷◌, ◌++◌, length, map, replicate, Option, Some, None, Bool, true, false, refl, sym, ap, subst, ◌∙◌, arith, drop}
use Rattle.std.specs.Prelude.{slice_get, nat_lt, nat_le, ◌&&◌, ◌||◌, bytes_eq, not, if◌then◌else◌}
use Rattle.std.specs.List.{AllByRecursion, list_any}
use Rattle.std.proofs.lemmas.Bool.Decides.{nat_tests}
use Rattle.std.proofs.lemmas.Slice.Eq.{bytes_eq-Decides}
use Rattle.std.proofs.lemmas.Option.{same_Some, slice_get_within}
use Rattle.std.proofs.lemmas.List.{length-replicate}
use Rattle.jmodel.specs.declared.value.Value.TheVariants as value
use Rattle.jmodel.specs.declared.typing.VType.{VType}
use Rattle.jmodel.specs.declared.typing.VType.TheVariants.{Int, Null, Ref, Top}
use Rattle.objects.specs.declared.op.Sort.TheVariants as sort
use Rattle.objects.specs.declared.op.WordType.{WordType}
use Rattle.objects.specs.declared.op.WordType.TheVariants as word
use Rattle.objects.specs.declared.op.StackOp.TheVariants as stack
use Rattle.objects.specs.declared.op.Dispatch.{Dispatch}
use Rattle.objects.specs.declared.op.Dispatch.TheVariants as dispatch
use Rattle.objects.specs.declared.op.Op.{Op}
use Rattle.objects.specs.declared.op.Op.TheVariants as op
use Rattle.objects.specs.declared.op.Catch.{Catch}
use Rattle.objects.specs.semantics.Program.{Method, Program, has_code}
use Rattle.objects.specs.typing.TypeOrder.{object_class, throwable_class, conflict_class, element_class, name_read, is_array, IsWithin, AreWithin, IsLocals, IsStack}
use Rattle.objects.specs.typing.Typing.{first_locals, Types, Table, types_at, Flow, Leads, Wrong, flow, leaves, on_int, on_array, if_so, fits_elements, element_types, stored_types, first_types, is_constructor, arguments, Covers, AreCaught, KeepsFlow, KeepsAt, IsTypedAt, IsTyping, IsTypable}
use Rattle.objects.specs.typing.Source.{AreTypes, IsReadType, IsKnownName, IsKnownType, IsSourceOp, IsSourceCatch, IsSourceMethod, HasObject}
use Rattle.objects.specs.laws.TypingLaw.{IsTypedProgram, IsRewritable}
use Rattle.objects.specs.rewriting.Rewriting.{more_locals, is_stray, Typed, typed_from, block_of, block_len, block_len_of, block_at, moved_catch, helped, array_under, after_load, word_places, getter, setter, duplicate, element_getter, element_setter, duplicate_method, duplicate_code, rewritten}
use Rattle.objects.proofs.Fields.{each_at, some_at}
use Rattle.objects.proofs.Places.{HasAt, has_block, has_duplicate, typed_at, typed_length, next_block, blocks_most, has_stub, rewrites}
use Rattle.objects.proofs.Selection.{duplicate_is}
use Rattle.objects.proofs.SameFlow.{within_same, are_same, name_same}
use Rattle.objects.proofs.ReadTypes.{known_itself, known_array, context_itself, conflict_itself, conflict_thrown, object_is_read, elements_read}
use Rattle.objects.proofs.TypingTables.{Shape, FineFrom, fine_append, fine_typing, typed_here}
use Rattle.objects.proofs.BlockFlows.{constructor_name}
use Rattle.objects.proofs.CopiedLocals.{context}
use Rattle.objects.proofs.MovedTypes.{named, all_named, map_long, all_within, all_stack}
use Rattle.objects.proofs.Copying.{Copying, copies_of, copying}
use Rattle.objects.proofs.DuplicateFlows.{copy_of, IsMoved, IsArrayType, leaves_moved}
use Rattle.objects.proofs.LocalRoom.{has_room}
use Rattle.objects.proofs.DuplicateOps.{IsCopyOf, IsSingle, moved_op, call_static, call_virtual, call_special, get_static_moved, put_static_moved, get_field_moved, put_field_moved, element_loaded, store_moved, single_moved}
use Rattle.objects.proofs.FirstTypes.{first_copies}
use Rattle.objects.proofs.DuplicateTable.{entries, more_stacks, after_stacks, types_of, block_types, spread, stub_types, whole_table, spread_many, types_many, block_alone, block_there, types_there, covers_all, caught_there}

-- one instruction stands for it
single_block : (P : Program) (p n : ℕ) (at : ℕ → ℕ) (x : Option Types) (o : Op) → IsSingle o → block_of P p n at x o ≡ moved_op p n at o ∷ []
single_block P p n at x (op.GetStatic f) i = absurd i
single_block P p n at x (op.PutStatic f) i = absurd i
single_block P p n at x (op.GetField f c) i = absurd i
single_block P p n at x (op.PutField f c) i = absurd i
single_block P p n at x (op.LoadElement t) i = absurd i
single_block P p n at x (op.StoreElement t) i = absurd i
single_block P p n at x (op.InvokeStatic m) i = absurd i
single_block P p n at x (op.InvokeSpecial m) i = absurd i
single_block P p n at x (op.InvokeVirtual m c) i = absurd i
single_block P p n at x (op.InvokeInterface m c) i = absurd i
single_block P p n at x o i = refl

single_len : (x : Option Types) (o : Op) → IsSingle o → block_len_of x o ≡ 1
single_len x (op.GetStatic f) i = absurd i
single_len x (op.PutStatic f) i = absurd i
single_len x (op.GetField f c) i = absurd i
single_len x (op.PutField f c) i = absurd i
single_len x (op.LoadElement t) i = absurd i
single_len x (op.StoreElement t) i = absurd i
single_len x (op.InvokeStatic m) i = absurd i
single_len x (op.InvokeSpecial m) i = absurd i
single_len x (op.InvokeVirtual m c) i = absurd i
single_len x (op.InvokeInterface m c) i = absurd i
single_len x o i = refl

single_stacks : (at : ℕ → ℕ) (h : Types) (o : Op) → IsSingle o → more_stacks at o h ≡ []
single_stacks at h (op.GetStatic f) i = absurd i
single_stacks at h (op.PutStatic f) i = absurd i
single_stacks at h (op.GetField f c) i = absurd i
single_stacks at h (op.PutField f c) i = absurd i
single_stacks at h (op.LoadElement t) i = absurd i
single_stacks at h (op.StoreElement t) i = absurd i
single_stacks at h (op.InvokeStatic m) i = absurd i
single_stacks at h (op.InvokeSpecial m) i = absurd i
single_stacks at h (op.InvokeVirtual m c) i = absurd i
single_stacks at h (op.InvokeInterface m c) i = absurd i
single_stacks at h o i = refl

block_many : (P : Program) (p n : ℕ) (at : ℕ → ℕ) (x : Option Types) (o : Op) → length (block_of P p n at x o) ≡ block_len_of x o
block_many P p n at x (op.LoadElement t) = let e : suc (suc (length (after_load t (array_under 1 x)))) ≡ 2 + length (after_load t (array_under 1 x)) = omega arith in e
block_many P p n at x o = refl

-- an instruction of a method that moves a long is one of those that do
any_stray : (p : ℕ) (ops : List Op) (pc : ℕ) (o : Op) → slice_get ops pc ≡ Some o → is_stray p o ≡ true → list_any (is_stray p) ops ≡ true
any_stray p [] pc o e h = cc
any_stray p (z ∷ ops) zero o e h = let s : z ≡ o = cc in let t : is_stray p z ≡ true = ap (is_stray p) s ∙ h in rw t refl
any_stray p (z ∷ ops) (suc pc) o e h = go (is_stray p z) (list_any (is_stray p) ops) (any_stray p ops pc o e h)
  where
    go : (b c : Bool) → c ≡ true → (b || c) ≡ true
    go true c h = refl
    go false c h = h

module _ (P : Program) (Ts : List Table) (S : IsTypedProgram P Ts) (k : Method) (src : IsSourceMethod P k) (T : Table) (typing : IsTyping P k T) (W : IsRewritable P k T) where
  abbrev C : AreTypes P
  C = S.source.types

  abbrev Q : Program
  Q = rewritten P Ts

  abbrev ms : List Method
  ms = (rewritten P Ts).methods

  abbrev xs : List Typed
  xs = typed_from 0 T k.ops

  abbrev D : Method
  D = duplicate_code P k xs

  abbrev p : ℕ
  p = k.places

  abbrev n : ℕ
  n = k.locals

  abbrev s : Bool
  s = list_any (is_stray k.places) k.ops

  many_ops : length xs ≡ length k.ops
  many_ops = typed_length 0 T k.ops

  -- ---- over copies of which only what is used is known

  module _ (at : ℕ → ℕ) (own : at ≡ block_at xs) (copy : List VType → List VType) (K : Copying P at p n s copy) where
    abbrev N : ℕ
    N = n + more_locals s

    abbrev V : Table
    V = whole_table P Ts k T at copy

    abbrev E : Types → List VType → Types
    E h u = copy_of P ms at copy p n s h u

    abbrev Moved : Flow → Flow → Type 0
    Moved = IsMoved P ms at copy p n s

    conflict_self : IsWithin Q (Ref conflict_class) (Ref conflict_class)
    conflict_self = within_same P ms (Ref conflict_class) (Ref conflict_class) ∙ conflict_itself P C

    conflict_below : IsWithin Q (Ref conflict_class) (Ref throwable_class)
    conflict_below = within_same P ms (Ref conflict_class) (Ref throwable_class) ∙ conflict_thrown P C

    con : IsWithin Q context context
    con = within_same P ms context context ∙ context_itself P C

    object_self : IsWithin Q (Ref object_class) (Ref object_class)
    object_self = within_same P ms (Ref object_class) (Ref object_class) ∙ (object_is_read P C).itself

    at_is : (pc : ℕ) → at pc ≡ block_at xs pc
    at_is pc = ap (λ (f : ℕ → ℕ). f pc) own

    alone : (q : ℕ) → q < length xs → (r : ℕ) → at r ≡ at q → r ≡ q
    alone q lt r e = block_alone xs q lt r (sym (at_is r) ∙ e ∙ at_is q)

    -- where an instruction's block stands
    module _ (pc : ℕ) (o : Op) (is : slice_get k.ops pc ≡ Some o) where
      abbrev y : Typed
      y = record { op = o; types = types_at T pc }

      typed_there : slice_get xs pc ≡ Some y
      typed_there = let z : 0 + pc ≡ pc = omega arith in typed_at 0 T k.ops pc o is ∙ ap (λ (i : ℕ). Some (record { op = o; types = types_at T i })) z

      code_there : HasAt D.ops (at pc) (block_of P p n at (types_at T pc) o)
      code_there = subst (λ (f : ℕ → ℕ). HasAt D.ops (f pc) (block_of P p n f (types_at T pc) o)) (sym own) (has_block P k xs pc y typed_there)

      next_is : at (pc + 1) ≡ at pc + block_len_of (types_at T pc) o
      next_is = at_is (pc + 1) ∙ next_block xs pc y typed_there ∙ ap (λ (i : ℕ). i + block_len_of (types_at T pc) o) (sym (at_is pc))

    X : IsCopyOf k D at
    X = record {
      class = refl;
      result = refl;
      constructor = constructor_name k.name.name;
      news = λ q t e. (code_there q (op.New t) e).0;
      alone = λ q o e. let m = many_ops in let lt = slice_get_within k.ops q o e in alone q (omega (arith, lt, m));
    }

    -- ---- the places of one block

    module _ (pc : ℕ) (o : Op) (is : slice_get k.ops pc ≡ Some o) (h : Types) (there : types_at T pc ≡ Some h) where
      typed : IsTypedAt P k T pc h
      typed = typing.each pc h there

      keeps : KeepsFlow P k T pc h (flow P k pc o h)
      keeps = subst (KeepsAt P k T pc h) is typed.keeps

      before : (F : Flow) → KeepsFlow P k T pc h F → AreCaught P k T pc h.locals h.built k.catches
      before Wrong e = absurd e
      before (Leads to g) e = e.before

      abbrev r : List VType
      r = all_named at h.stack

      record IsInBlock (b : ℕ) : Type 0 where
        low : at pc ≤ b
        high : b < at pc + block_len_of (types_at T pc) o

      record IsOnStack (u : List VType) : Type 0 where
        stack : IsStack u
        room : length u ≤ k.max_stack + 1

      -- exceptions that are thrown at a place of the block
      thrown_at : (b : ℕ) → IsInBlock b → (l l' : List VType) (built : Bool) → length l' ≡ N → ((us : List VType) → AreWithin P l us → AreWithin P l' (copy us)) → AreCaught P k T pc l built k.catches → AreCaught Q D V b l' built D.catches
      thrown_at b i l l' built size locals c =
          let z = at_is pc in let low = i.low in let high = i.high in
          caught_there P Ts k T at copy D refl own pc (y pc o is) (typed_there pc o is) b (omega (arith, z, low)) (omega (arith, z, high)) l l' built size locals conflict_self conflict_below src.entries c

      copy_size : length (copy h.locals) ≡ N
      copy_size = K.size h.locals typed.locals

      shape : (u : List VType) → IsOnStack u → Shape D (E h u)
      shape u x = record { locals = copy_size; each_local = K.locals h.locals typed.each_local; room = x.room; stack = x.stack }

      here_caught : (b : ℕ) → IsInBlock b → AreCaught Q D V b (copy h.locals) h.built D.catches
      here_caught b i = thrown_at b i h.locals (copy h.locals) h.built copy_size (λ us w. K.within h.locals us w) (before (flow P k pc o h) keeps)

      -- the last instruction of a block goes where the original goes
      fine_last : (b : ℕ) → IsInBlock b → (d : Op) → slice_get D.ops b ≡ Some d → (u : List VType) → IsOnStack u → (F G : Flow) → flow Q D b d (E h u) ≡ G → KeepsFlow P k T pc h F → Moved F G → IsTypedAt Q D V b (E h u)
      fine_last b i d code u x Wrong G e kept m = absurd kept
      fine_last b i d code u x (Leads to g) Wrong e kept m = absurd m
      fine_last b i d code u x (Leads to g) (Leads tos f) e kept m =
          let goes = covers_all P Ts k T at copy D refl own g f m.stack m.built m.locals to kept.goes in
          let less = kept.room in
          let many : length f.stack ≡ length g.stack = ap length m.stack ∙ map_long (named at) g.stack in
          typed_here Q D V b (E h u) d tos f code e (shape u x) (omega (arith, less, many)) (subst (AllByRecursion (Covers Q D V f)) (sym m.targets) goes)
          (here_caught b i) (subst (λ (c : Bool). AreCaught Q D V b f.locals c D.catches) (sym m.built) (thrown_at b i g.locals f.locals g.built m.size m.locals kept.after))

      -- another falls to the next
      fine_mid : (b : ℕ) → IsInBlock b → (d : Op) → slice_get D.ops b ≡ Some d → (u v : List VType) → IsOnStack u → IsOnStack v → AreWithin Q v v → b + 1 < length D.ops → types_at V (b + 1) ≡ Some (E h v)
          → flow Q D b d (E h u) ≡ Leads ((b + 1) ∷ []) (E h v) → IsTypedAt Q D V b (E h u)
      fine_mid b i d code u v x z self lt typed_next e =
          let known = (W.known pc h there).0 in
          let same = are_same P ms (copy h.locals) (copy h.locals) (K.within h.locals h.locals (known_itself P h.locals known)) in
          typed_here Q D V b (E h u) d ((b + 1) ∷ []) (E h v) code e (shape u x) z.room
          (record { inside = lt; types = E h v; there = typed_next; fits = record { locals = same; stack = self; built = λ c. c } }, tt) (here_caught b i) (here_caught b i)

      -- ---- a block, one stack after another

      abbrev Line : ℕ → List VType → List Op → List (List VType) → Flow → Type 0
      Line b u [] vs F = ⊥
      Line b u (d ∷ ds) (v ∷ vs) F = (flow Q D b d (E h u) ≡ Leads ((b + 1) ∷ []) (E h v)) × IsOnStack v × AreWithin Q v v × Line (b + 1) v ds vs F
      Line b u (d ∷ []) [] F = Moved F (flow Q D b d (E h u))
      Line b u (d ∷ e ∷ ds) [] F = ⊥

      next_code : (b : ℕ) (u : List VType) (ds : List Op) (vs : List (List VType)) (F : Flow) → Line b u ds vs F → HasAt D.ops b ds → b < length D.ops
      next_code b u [] vs F x c = absurd x
      next_code b u (d ∷ ds) vs F x c = slice_get_within D.ops b d c.0

      fine_line : (b : ℕ) (u : List VType) (ds : List Op) (vs : List (List VType)) (F : Flow) → Line b u ds vs F → KeepsFlow P k T pc h F → IsOnStack u → HasAt D.ops b ds → HasAt V b (entries P Ts k T at copy h (u ∷ vs))
          → at pc ≤ b → b + length ds ≡ at pc + block_len_of (types_at T pc) o → FineFrom Q D V b (entries P Ts k T at copy h (u ∷ vs))
      fine_line b u [] vs F x kept st code tab low whole = absurd x
      fine_line b u (d ∷ []) [] F x kept st code tab low whole = (fine_last b (record { low = low; high = omega (arith, whole) }) d code.0 u st F _ refl kept x, tt)
      fine_line b u (d ∷ e ∷ ds) [] F x kept st code tab low whole = absurd x
      fine_line b u (d ∷ ds) (v ∷ vs) F x kept st code tab low whole =
          let high : b < at pc + block_len_of (types_at T pc) o = omega (arith, whole) in
          let next : types_at V (b + 1) ≡ Some (E h v) = let e = tab.1.0 in rw e refl in (
            fine_mid b (record { low = low; high = high }) d code.0 u v st x.1 x.2 (next_code (b + 1) v ds vs F x.3 code.1) next x.0,
            fine_line (b + 1) v ds vs F x.3 kept x.1 code.1 tab.1 (omega (arith, low)) (omega (arith, whole)),
          )

      -- what stands for an instruction
      record Stands : Type 0 where
        leads : Flow
        kept : KeepsFlow P k T pc h leads
        line : Line (at pc) r (block_of P p n at (Some h) o) (more_stacks at o h) leads

      abbrev L : ℕ
      L = block_len_of (types_at T pc) o

      stack_self : AreWithin Q r r
      stack_self = are_same P ms r r (all_within at P h.stack h.stack (known_itself P h.stack (W.known pc h there).1))

      on_stack : IsOnStack r
      on_stack = record { stack = all_stack at false h.stack typed.stack; room = let m = map_long (named at) h.stack in let l = typed.room in omega (arith, m, l) }

      under : IsOnStack (context ∷ r)
      under = record { stack = on_stack.stack; room = let m = map_long (named at) h.stack in let l = typed.room in omega (arith, m, l) }

      loads_context : (u : List VType) → flow Q D (at pc) (op.Load sort.Reference p) (E h u) ≡ Leads ((at pc + 1) ∷ []) (E h (context ∷ u))
      loads_context u = let g = K.context_there h.locals typed.locals in rw g refl

      stands_single : IsSingle o → IsSourceOp P k o → Stands
      stands_single i source =
          let one = single_len (types_at T pc) o i in
          let step = next_is pc o is in
          let next : at pc + 1 ≡ at (pc + 1) = omega (arith, one, step) in
          let m = many_ops in
          let lt = slice_get_within k.ops pc o is in
          let moves = single_moved P Ts k D at copy p n s K X src.result h typed.locals typed.each_local pc (at pc) next refl (alone pc (omega (arith, lt, m))) o i source (any_stray p k.ops pc o is) in
          record {
            leads = flow P k pc o h;
            kept = keeps;
            line = subst (λ (ds : List Op). Line (at pc) r ds (more_stacks at o h) (flow P k pc o h)) (sym (single_block P p n at (Some h) o i))
                (subst (λ (vs : List (List VType)). Line (at pc) r (moved_op p n at o ∷ []) vs (flow P k pc o h)) (sym (single_stacks at h o i)) moves);
          }

      stands_pair : (d : Op) → block_of P p n at (Some h) o ≡ op.Load sort.Reference p ∷ d ∷ [] → more_stacks at o h ≡ (context ∷ r) ∷ [] → block_len_of (Some h) o ≡ 2
          → ((a : ℕ) → a + 1 ≡ at (pc + 1) → Moved (flow P k pc o h) (flow Q D a d (E h (context ∷ r)))) → Stands
      stands_pair d code tab two moves =
          let step = next_is pc o is in
          let len : L ≡ 2 = ap (λ (x : Option Types). block_len_of x o) there ∙ two in
          let next : at pc + 1 + 1 ≡ at (pc + 1) = omega (arith, len, step) in
          record {
            leads = flow P k pc o h;
            kept = keeps;
            line = subst (λ (ds : List Op). Line (at pc) r ds (more_stacks at o h) (flow P k pc o h)) (sym code)
                (subst (λ (vs : List (List VType)). Line (at pc) r (op.Load sort.Reference p ∷ d ∷ []) vs (flow P k pc o h)) (sym tab) (loads_context r, under, (con, stack_self), moves (at pc + 1) next));
          }

      fine_stands : Stands → FineFrom Q D V (at pc) (types_of P Ts k T at copy L o (types_at T pc))
      fine_stands x =
          let low : at pc ≤ at pc = omega arith in
          let code : HasAt D.ops (at pc) (block_of P p n at (Some h) o) = subst (λ (y : Option Types). HasAt D.ops (at pc) (block_of P p n at y o)) there (code_there pc o is) in
          let many : length (block_of P p n at (Some h) o) ≡ block_len_of (Some h) o = block_many P p n at (Some h) o in
          let same : L ≡ block_len_of (Some h) o = ap (λ (y : Option Types). block_len_of y o) there in
          let table : HasAt V (at pc) (types_of P Ts k T at copy L o (types_at T pc)) = subst (λ (i : ℕ). HasAt V i (types_of P Ts k T at copy L o (types_at T pc))) (sym (at_is pc)) (block_there P Ts k T at copy pc (y pc o is) (typed_there pc o is)) in
          let here : HasAt V (at pc) (entries P Ts k T at copy h (r ∷ more_stacks at o h)) = subst (λ (y : Option Types). HasAt V (at pc) (types_of P Ts k T at copy L o y)) there table in
          let fine = fine_line (at pc) r (block_of P p n at (Some h) o) (more_stacks at o h) x.leads x.line x.kept on_stack code here low (omega (arith, many, same)) in
          subst (λ (y : Option Types). FineFrom Q D V (at pc) (types_of P Ts k T at copy L o y)) (sym there) fine

    -- ---- elements that are loaded

    module _ (pc : ℕ) (t : WordType) (is : slice_get k.ops pc ≡ Some (op.LoadElement t)) (h : Types) (there : types_at T pc ≡ Some h) where
      abbrev typed_load : IsTypedAt P k T pc h
      typed_load = typed pc (op.LoadElement t) is h there

      record Loaded (w : List VType) : Type 0 where
        array : VType
        below : List VType
        shape_is : w ≡ Int ∷ array ∷ below
        is_array_type : IsArrayType P ms at copy p n s array
        fits : fits_elements t array ≡ true
        kept : KeepsFlow P k T pc h (leaves pc h (element_types t array ++ below))

      loaded : (w : List VType) → KeepsFlow P k T pc h (on_int w (λ s. on_array s (λ u s. if_so (fits_elements t u) (leaves pc h (element_types t u ++ s))))) → Loaded w
      loaded [] e = absurd e
      loaded (Int ∷ []) e = absurd e
      loaded (Int ∷ Null ∷ v) e = record { array = Null; below = v; shape_is = refl; is_array_type = tt; fits = refl; kept = e }
      loaded (Int ∷ Ref m ∷ v) e = by (is_array m) refl (fits_elements t (Ref m)) refl e
        where
          by : (b : Bool) → is_array m ≡ b → (c : Bool) → fits_elements t (Ref m) ≡ c → KeepsFlow P k T pc h (if_so b (if_so c (leaves pc h (element_types t (Ref m) ++ v)))) → Loaded (Int ∷ Ref m ∷ v)
          by false i c f e = absurd e
          by true i false f e = absurd e
          by true i true f e = record { array = Ref m; below = v; shape_is = refl; is_array_type = i; fits = f; kept = e }
      loaded (Int ∷ x ∷ v) e = absurd e
      loaded (x ∷ w) e = absurd e

      given : Loaded h.stack
      given = loaded h.stack (keeps pc (op.LoadElement t) is h there)

      abbrev LineOf : ℕ → List VType → List Op → List (List VType) → Flow → Type 0
      LineOf = Line pc (op.LoadElement t) is h there

      abbrev OnStack : List VType → Type 0
      OnStack = IsOnStack pc (op.LoadElement t) is h there

      module _ (u : VType) (v : List VType) (stacked : IsStack (Int ∷ u ∷ v)) (fewer : length v + 2 ≤ k.max_stack) (array : IsArrayType P ms at copy p n s u) (read : IsKnownType P u) (reads : AllByRecursion (IsKnownType P) v) (fits : fits_elements t u ≡ true)
          (whole : at pc + (2 + length (after_load t (Some u))) ≡ at (pc + 1)) where
        abbrev vs : List VType
        vs = all_named at v

        -- the array keeps its name
        array_named : named at u ≡ u
        array_named = by u array
          where
            by : (u : VType) → IsArrayType P ms at copy p n s u → named at u ≡ u
            by Null i = refl
            by (Ref m) i = refl
            by u i = absurd i

        below_array : IsStack v
        below_array = by u array stacked
          where
            by : (u : VType) → IsArrayType P ms at copy p n s u → IsStack (Int ∷ u ∷ v) → IsStack v
            by Null i h = h
            by (Ref m) i h = h
            by u i h = absurd i

        below_self : AreWithin Q vs vs
        below_self = are_same P ms vs vs (all_within at P v v (known_itself P v reads))

        below_stack : OnStack vs
        below_stack = record { stack = all_stack at false v below_array; room = let m = map_long (named at) v in omega (arith, m, fewer) }

        object_stack : OnStack (Ref object_class ∷ vs)
        object_stack = record { stack = all_stack at false v below_array; room = let m = map_long (named at) v in omega (arith, m, fewer) }

        context_stack : OnStack (context ∷ Int ∷ u ∷ vs)
        context_stack = record { stack = by u array; room = let m = map_long (named at) v in omega (arith, m, fewer) }
          where
            by : (u : VType) → IsArrayType P ms at copy p n s u → IsStack (context ∷ Int ∷ u ∷ vs)
            by Null i = all_stack at false v below_array
            by (Ref m) i = all_stack at false v below_array
            by u i = absurd i

        array_self : IsWithin Q u u
        array_self = (are_same P ms (u ∷ []) (u ∷ []) (known_itself P (u ∷ []) (read, tt))).0

        -- the last place of the block
        abbrev z : ℕ
        z = at pc + 1 + length (after_load t (Some u))

        next : z + 1 ≡ at (pc + 1)
        next = omega (arith, whole)

        as_read : (u : VType) → IsArrayType P ms at copy p n s u → IsKnownType P u → IsReadType P u
        as_read Null i r = tt
        as_read (Ref m) i r = known_array P m i r
        as_read u i r = absurd i

        helper_loads : (b : ℕ) → flow Q D b (op.InvokeStatic (element_getter P (helped (Some u) t))) (E h (context ∷ Int ∷ u ∷ vs)) ≡ Leads ((b + 1) ∷ []) (E h (stored_types t ++ vs))
        helper_loads b = element_loaded P Ts k D at copy p n s K X src.result h typed_load.locals typed_load.each_local pc z next (rewrites P Ts) con C b t u vs array (as_read u array read) fits

        leave : (b : ℕ) → b + 1 ≡ at (pc + 1) → (w : List VType) → Moved (leaves pc h w) (Leads ((b + 1) ∷ []) (E h (all_named at w)))
        leave b e w = leaves_moved P ms at copy p n s K h typed_load.locals pc b e (all_named at w) w

        abbrev Lined : List Op → List (List VType) → Flow → Type 0
        Lined ds us F = LineOf (at pc) (Int ∷ u ∷ vs) (op.Load sort.Reference p ∷ op.InvokeStatic (element_getter P (helped (Some u) t)) ∷ ds) ((context ∷ Int ∷ u ∷ vs) ∷ us) F

        begun : (ds : List Op) (us : List (List VType)) (F : Flow) → LineOf (at pc + 1) (context ∷ Int ∷ u ∷ vs) (op.InvokeStatic (element_getter P (helped (Some u) t)) ∷ ds) us F → Lined ds us F
        begun ds us F rest = (loads_context pc (op.LoadElement t) is h there (Int ∷ u ∷ vs), context_stack, (con, (refl, (array_self, below_self))), rest)

        -- a value that isn't a reference is left as it is
        plain : after_load t (Some u) ≡ [] → element_types t u ≡ stored_types t → all_named at (stored_types t ++ v) ≡ stored_types t ++ vs → after_stacks t (Some u) vs ≡ [] → Lined (after_load t (Some u)) (after_stacks t (Some u) vs) (leaves pc h (element_types t u ++ v))
        plain none same fixed no_more =
            let last : at pc + 1 + 1 ≡ at (pc + 1) = let l : length (after_load t (Some u)) ≡ 0 = ap length none in omega (arith, l, whole) in
            subst (λ (ds : List Op). Lined ds (after_stacks t (Some u) vs) (leaves pc h (element_types t u ++ v))) (sym none)
            (subst (λ (us : List (List VType)). Lined [] us (leaves pc h (element_types t u ++ v))) (sym no_more)
            (begun [] [] (leaves pc h (element_types t u ++ v)) (subst (Moved (leaves pc h (element_types t u ++ v))) (sym (helper_loads (at pc + 1)))
            (subst (λ (ts : List VType). Moved (leaves pc h (ts ++ v)) (Leads ((at pc + 1 + 1) ∷ []) (E h (stored_types t ++ vs)))) (sym same)
            (subst (λ (w : List VType). Moved (leaves pc h (stored_types t ++ v)) (Leads ((at pc + 1 + 1) ∷ []) (E h w))) fixed (leave (at pc + 1) last (stored_types t ++ v)))))))

    -- a reference is cast to the class of the array's elements
    module _ (pc : ℕ) (is : slice_get k.ops pc ≡ Some (op.LoadElement word.Reference)) (h : Types) (there : types_at T pc ≡ Some h) (v : List VType) (fewer : length v + 2 ≤ k.max_stack) (reads : AllByRecursion (IsKnownType P) v) where
      abbrev object : VType
      object = Ref object_class

      cast_line : (m : List ℕ) (stacked : IsStack (Int ∷ Ref m ∷ v)) (array : is_array m ≡ true) (read : IsKnownName P m) (fits : fits_elements word.Reference (Ref m) ≡ true) (whole : at pc + (2 + length (after_load word.Reference (Some (Ref m)))) ≡ at (pc + 1))
          → Lined pc word.Reference is h there (Ref m) v stacked fewer array read reads fits whole (after_load word.Reference (Some (Ref m))) (after_stacks word.Reference (Some (Ref m)) (all_named at v)) (leaves pc h (element_types word.Reference (Ref m) ++ v))
      cast_line m stacked array read fits whole = by (bytes_eq (element_class m) object_class) refl whole
        where
          as_read : name_read Q (element_class m) ≡ (element_class m)
          as_read = name_same P ms (element_class m) ∙ (elements_read P C m array fits (known_array P m array read)).read

          helper : (b : ℕ) → flow Q D b (op.InvokeStatic (element_getter P word.Reference)) (E h (context ∷ Int ∷ Ref m ∷ all_named at v)) ≡ Leads ((b + 1) ∷ []) (E h (object ∷ all_named at v))
          helper b = helper_loads pc word.Reference is h there (Ref m) v stacked fewer array read reads fits whole b

          go_on : (b : ℕ) → b + 1 ≡ at (pc + 1) → (w : List VType) → Moved (leaves pc h w) (Leads ((b + 1) ∷ []) (E h (all_named at w)))
          go_on b e w = leave pc word.Reference is h there (Ref m) v stacked fewer array read reads fits whole b e w

          by : (b : Bool) → bytes_eq (element_class m) object_class ≡ b → at pc + (2 + length (if b then [] else op.CheckCast (element_class m) ∷ [])) ≡ at (pc + 1)
              → Lined pc word.Reference is h there (Ref m) v stacked fewer array read reads fits whole (if b then [] else op.CheckCast (element_class m) ∷ []) (if b then [] else (object ∷ all_named at v) ∷ []) (leaves pc h (Ref (element_class m) ∷ v))
          by true e w =
              let last : at pc + 1 + 1 ≡ at (pc + 1) = omega (arith, w) in
              let same : (element_class m) ≡ object_class = (bytes_eq-Decides (element_class m) object_class).0 e in
              begun pc word.Reference is h there (Ref m) v stacked fewer array read reads fits whole [] [] (leaves pc h (Ref (element_class m) ∷ v))
              (subst (Moved (leaves pc h (Ref (element_class m) ∷ v))) (sym (helper (at pc + 1)))
              (subst (λ (d : List ℕ). Moved (leaves pc h (Ref d ∷ v)) (Leads ((at pc + 1 + 1) ∷ []) (E h (object ∷ all_named at v)))) (sym same) (go_on (at pc + 1) last (object ∷ v))))
          by false e w =
              let a = at pc + 1 + 1 in
              let last : a + 1 ≡ at (pc + 1) = omega (arith, w) in
              let f = object_self in
              let g = as_read in
              let cast : flow Q D a (op.CheckCast (element_class m)) (E h (object ∷ all_named at v)) ≡ Leads ((a + 1) ∷ []) (E h (Ref (element_class m) ∷ all_named at v)) = rw (f, g) refl in
              begun pc word.Reference is h there (Ref m) v stacked fewer array read reads fits whole (op.CheckCast (element_class m) ∷ []) ((object ∷ all_named at v) ∷ []) (leaves pc h (Ref (element_class m) ∷ v)) (
                helper (at pc + 1),
                object_stack pc word.Reference is h there (Ref m) v stacked fewer array read reads fits whole,
                (f, below_self pc word.Reference is h there (Ref m) v stacked fewer array read reads fits whole),
                subst (Moved (leaves pc h (Ref (element_class m) ∷ v))) (sym cast) (go_on a last (Ref (element_class m) ∷ v)),
              )

      null_line : (stacked : IsStack (Int ∷ Null ∷ v)) (whole : at pc + 4 ≡ at (pc + 1)) → Lined pc word.Reference is h there Null v stacked fewer tt tt reads refl whole (after_load word.Reference (Some Null)) (after_stacks word.Reference (Some Null) (all_named at v)) (leaves pc h (Null ∷ v))
      null_line stacked whole =
          let a = at pc + 1 + 1 + 1 in
          let last : a + 1 ≡ at (pc + 1) = omega (arith, whole) in
          let self = below_self pc word.Reference is h there Null v stacked fewer tt tt reads refl whole in
          begun pc word.Reference is h there Null v stacked fewer tt tt reads refl whole (op.Stack stack.Pop ∷ op.Constant (value.Ref 0) ∷ []) ((object ∷ all_named at v) ∷ all_named at v ∷ []) (leaves pc h (Null ∷ v)) (
            helper_loads pc word.Reference is h there Null v stacked fewer tt tt reads refl whole (at pc + 1),
            object_stack pc word.Reference is h there Null v stacked fewer tt tt reads refl whole,
            (object_self, self),
            (refl, below_stack pc word.Reference is h there Null v stacked fewer tt tt reads refl whole, self, leave pc word.Reference is h there Null v stacked fewer tt tt reads refl whole a last (Null ∷ v)),
          )

    -- ---- what stands for an instruction that loads an element

    -- by the element's type
    element_line : (pc : ℕ) (t : WordType) (is : slice_get k.ops pc ≡ Some (op.LoadElement t)) (h : Types) (there : types_at T pc ≡ Some h) (u : VType) (v : List VType) (stacked : IsStack (Int ∷ u ∷ v)) (fewer : length v + 2 ≤ k.max_stack)
        (array : IsArrayType P ms at copy p n s u) (read : IsKnownType P u) (reads : AllByRecursion (IsKnownType P) v) (fits : fits_elements t u ≡ true) (whole : at pc + (2 + length (after_load t (Some u))) ≡ at (pc + 1))
        → Lined pc t is h there u v stacked fewer array read reads fits whole (after_load t (Some u)) (after_stacks t (Some u) (all_named at v)) (leaves pc h (element_types t u ++ v))
    element_line pc word.Boolean is h there u v stacked fewer array read reads fits whole = plain pc word.Boolean is h there u v stacked fewer array read reads fits whole refl refl refl refl
    element_line pc word.Byte is h there u v stacked fewer array read reads fits whole = plain pc word.Byte is h there u v stacked fewer array read reads fits whole refl refl refl refl
    element_line pc word.Char is h there u v stacked fewer array read reads fits whole = plain pc word.Char is h there u v stacked fewer array read reads fits whole refl refl refl refl
    element_line pc word.Short is h there u v stacked fewer array read reads fits whole = plain pc word.Short is h there u v stacked fewer array read reads fits whole refl refl refl refl
    element_line pc word.Int is h there u v stacked fewer array read reads fits whole = plain pc word.Int is h there u v stacked fewer array read reads fits whole refl refl refl refl
    element_line pc word.Long is h there u v stacked fewer array read reads fits whole = plain pc word.Long is h there u v stacked fewer array read reads fits whole refl refl refl refl
    element_line pc word.Reference is h there Null v stacked fewer array read reads fits whole = null_line pc is h there v fewer reads stacked whole
    element_line pc word.Reference is h there (Ref m) v stacked fewer array read reads fits whole = cast_line pc is h there v fewer reads m stacked array read fits whole
    element_line pc word.Reference is h there u v stacked fewer array read reads fits whole = absurd array

    stands_load : (pc : ℕ) (t : WordType) (is : slice_get k.ops pc ≡ Some (op.LoadElement t)) (h : Types) (there : types_at T pc ≡ Some h) → Stands pc (op.LoadElement t) is h there
    stands_load pc t is h there =
        let G = given pc t is h there in
        let shape = G.shape_is in
        let u = G.array in
        let v = G.below in
        let ok = typed pc (op.LoadElement t) is h there in
        let stacked : IsStack (Int ∷ u ∷ v) = subst IsStack shape ok.stack in
        let size : length h.stack ≡ length (Int ∷ u ∷ v) = ap length shape in
        let less = ok.room in
        let fewer : length v + 2 ≤ k.max_stack = omega (arith, size, less) in
        let reads = subst (AllByRecursion (IsKnownType P)) shape (W.known pc h there).1 in
        let second : slice_get h.stack 1 ≡ Some u = ap (λ (w : List VType). slice_get w 1) shape in
        let len : block_len_of (types_at T pc) (op.LoadElement t) ≡ 2 + length (after_load t (Some u)) = ap (λ (x : Option Types). block_len_of x (op.LoadElement t)) there ∙ ap (λ (x : Option VType). 2 + length (after_load t x)) second in
        let step = next_is pc (op.LoadElement t) is in
        let whole : at pc + (2 + length (after_load t (Some u))) ≡ at (pc + 1) = omega (arith, len, step) in
        let F = leaves pc h (element_types t u ++ v) in
        let line = element_line pc t is h there u v stacked fewer G.is_array_type reads.1.0 reads.1.1 G.fits whole in
        let same = array_named pc t is h there u v stacked fewer G.is_array_type reads.1.0 reads.1.1 G.fits whole in
        let vs = all_named at v in
        let under_name : Line pc (op.LoadElement t) is h there (at pc) (Int ∷ named at u ∷ vs) (op.Load sort.Reference p ∷ op.InvokeStatic (element_getter P (helped (Some u) t)) ∷ after_load t (Some u)) ((context ∷ Int ∷ named at u ∷ vs) ∷ after_stacks t (Some u) vs) F =
        subst (λ (x : VType). Line pc (op.LoadElement t) is h there (at pc) (Int ∷ x ∷ vs) (op.Load sort.Reference p ∷ op.InvokeStatic (element_getter P (helped (Some u) t)) ∷ after_load t (Some u)) ((context ∷ Int ∷ x ∷ vs) ∷ after_stacks t (Some u) vs) F) (sym same) line in
        record {
          leads = F;
          kept = G.kept;
          line = subst (λ (w : List VType). Line pc (op.LoadElement t) is h there (at pc) (all_named at w) (op.Load sort.Reference p ∷ op.InvokeStatic (element_getter P (helped (slice_get w 1) t)) ∷ after_load t (slice_get w 1)) ((context ∷ all_named at w) ∷ after_stacks t (slice_get w 1) (drop 2 (all_named at w))) F) (sym shape) under_name;
        }

    -- ---- what stands for each instruction

    first_parameter : (c : Method) → c.dispatch ≢ dispatch.Static → HasObject P c.dispatch c → (t : VType) × (c.parameters ≡ t ∷ arguments c)
    first_parameter c over = by c.dispatch refl
      where
        by : (x : Dispatch) → c.dispatch ≡ x → HasObject P x c → (t : VType) × (c.parameters ≡ t ∷ arguments c)
        by dispatch.Static e x = absurd (over e)
        by dispatch.Exact e x = (Ref (name_read P c.name.class), x)
        by dispatch.Virtual e x = (Ref (name_read P c.name.class), x)
        by dispatch.Abstract e x = (Ref x.0, x.1)

    source_of : (m : ℕ) (c : Method) → slice_get P.methods m ≡ Some c → IsSourceMethod P c
    source_of m c e = each_at (IsSourceMethod P) P.methods m c S.source.methods e

    stands : (pc : ℕ) (o : Op) (is : slice_get k.ops pc ≡ Some o) (h : Types) (there : types_at T pc ≡ Some h) → IsSourceOp P k o → Stands pc o is h there
    stands pc (op.GetStatic f) is h there source =
        let ok = typed pc (op.GetStatic f) is h there in
        let F = source.1 in
        let based = subst (λ (b : Option ℕ). slice_get P.fields f ≡ Some (record F.field { base = b })) F.base_is F.there in
        stands_pair pc (op.GetStatic f) is h there (op.InvokeStatic (getter P f)) refl refl refl
        (λ a next. get_static_moved P Ts k D at copy p n s K X src.result h ok.locals ok.each_local pc a next (rewrites P Ts) con f F.field source.0 based)
    stands pc (op.PutStatic f) is h there source =
        let ok = typed pc (op.PutStatic f) is h there in
        let F = source.1 in
        let based = subst (λ (b : Option ℕ). slice_get P.fields f ≡ Some (record F.field { base = b })) F.base_is F.there in
        stands_pair pc (op.PutStatic f) is h there (op.InvokeStatic (setter P f)) refl refl refl
        (λ a next. put_static_moved P Ts k D at copy p n s K X src.result h ok.locals ok.each_local pc a next (rewrites P Ts) con f F.field source.0 based)
    stands pc (op.GetField f cn) is h there source =
        let ok = typed pc (op.GetField f cn) is h there in
        let based = subst (λ (b : Option ℕ). slice_get P.fields f ≡ Some (record source.field { base = b })) source.base_is source.there in
        stands_pair pc (op.GetField f cn) is h there (op.InvokeStatic (getter P f)) refl refl refl
        (λ a next. get_field_moved P Ts k D at copy p n s K X src.result h ok.locals ok.each_local pc a next (rewrites P Ts) con f source.field cn based)
    stands pc (op.PutField f cn) is h there source =
        let ok = typed pc (op.PutField f cn) is h there in
        let based = subst (λ (b : Option ℕ). slice_get P.fields f ≡ Some (record source.field { base = b })) source.base_is source.there in
        stands_pair pc (op.PutField f cn) is h there (op.InvokeStatic (setter P f)) refl refl refl
        (λ a next. put_field_moved P Ts k D at copy p n s K X src.result h ok.locals ok.each_local pc a next (rewrites P Ts) con f source.field cn based (W.late pc f cn h source.field there is source.there))
    stands pc (op.LoadElement t) is h there source = stands_load pc t is h there
    stands pc (op.StoreElement t) is h there source =
        let ok = typed pc (op.StoreElement t) is h there in
        stands_pair pc (op.StoreElement t) is h there (op.InvokeStatic (element_setter P (helped (slice_get h.stack (1 + word_places t)) t))) refl refl refl
        (λ a next. store_moved P Ts k D at copy p n s K X src.result h ok.locals ok.each_local pc a next (rewrites P Ts) con C t (W.known pc h there).1)
    stands pc (op.InvokeStatic m) is h there source =
        let ok = typed pc (op.InvokeStatic m) is h there in
        let c = source_of m source.method source.there in
        let x = duplicate_is P Ts m source.method source.there in
        stands_pair pc (op.InvokeStatic m) is h there (op.InvokeStatic (duplicate P m)) refl refl refl
        (λ a next. call_static P Ts k D at copy p n s K X src.result h ok.locals ok.each_local pc a next (rewrites P Ts) con m source.method x.0 source.there x.1 c.parameters c.result)
    stands pc (op.InvokeSpecial m) is h there source =
        let ok = typed pc (op.InvokeSpecial m) is h there in
        let c = source_of m source.method source.there in
        let x = duplicate_is P Ts m source.method source.there in
        let y = first_parameter source.method source.over_object c.object in
        stands_pair pc (op.InvokeSpecial m) is h there (op.InvokeSpecial (duplicate P m)) refl refl refl
        (λ a next. call_special P Ts k D at copy p n s K X src.result h ok.locals ok.each_local pc a next (rewrites P Ts) con m source.method x.0 source.there x.1 c.parameters c.result y.0 y.1)
    stands pc (op.InvokeVirtual m i) is h there source =
        let ok = typed pc (op.InvokeVirtual m i) is h there in
        let c = source_of m source.method source.there in
        let x = duplicate_is P Ts m source.method source.there in
        let y = first_parameter source.method source.over_object c.object in
        stands_pair pc (op.InvokeVirtual m i) is h there (op.InvokeVirtual (duplicate P m) i) refl refl refl
        (λ a next. call_virtual P Ts k D at copy p n s K X src.result h ok.locals ok.each_local pc a next (rewrites P Ts) con m i source.method x.0 source.there x.1 c.parameters c.result y.0 y.1)
    stands pc (op.InvokeInterface m i) is h there source =
        let ok = typed pc (op.InvokeInterface m i) is h there in
        let c = source_of m source.method source.there in
        let x = duplicate_is P Ts m source.method source.there in
        stands_pair pc (op.InvokeInterface m i) is h there (op.InvokeInterface (duplicate P m) i) refl refl refl
        (λ a next. call_static P Ts k D at copy p n s K X src.result h ok.locals ok.each_local pc a next (rewrites P Ts) con m source.method x.0 source.there x.1 c.parameters c.result)
    stands pc o is h there source = stands_single pc o is h there tt source

    -- ---- the whole table

    fine_none : (b m : ℕ) → FineFrom Q D V b (replicate m None)
    fine_none b zero = tt
    fine_none b (suc m) = fine_none (b + 1) m

    fine_block : (pc : ℕ) (o : Op) → slice_get k.ops pc ≡ Some o → FineFrom Q D V (at pc) (types_of P Ts k T at copy (block_len_of (types_at T pc) o) o (types_at T pc))
    fine_block pc o is = by (types_at T pc) refl
      where
        by : (x : Option Types) → types_at T pc ≡ x → FineFrom Q D V (at pc) (types_of P Ts k T at copy (block_len_of (types_at T pc) o) o (types_at T pc))
        by None e = subst (λ (x : Option Types). FineFrom Q D V (at pc) (types_of P Ts k T at copy (block_len_of (types_at T pc) o) o x)) (sym e) (fine_none (at pc) (block_len_of (types_at T pc) o))
        by (Some h) e = fine_stands pc o is h e (stands pc o is h e (each_at (IsSourceOp P k) k.ops pc o src.each is))

    typed_back : (pc : ℕ) (x : Typed) → slice_get xs pc ≡ Some x → (slice_get k.ops pc ≡ Some x.op) × (x.types ≡ types_at T pc)
    typed_back pc x e =
        let m = many_ops in
        let lt = slice_get_within xs pc x e in
        let o = some_at k.ops pc (omega (arith, lt, m)) in
        let there = typed_there pc o.0 o.1 in
        let same : record { op = o.0; types = types_at T pc } ≡ x = cc in
        (o.1 ∙ ap (λ (x : Typed). Some x.op) same, sym (ap (λ (x : Typed). x.types) same))

    fine_spread : (pc : ℕ) (ys : List Typed) → ((i : ℕ) (x : Typed) → slice_get ys i ≡ Some x → slice_get xs (pc + i) ≡ Some x) → FineFrom Q D V (at pc) (spread P Ts k T at copy ys)
    fine_spread pc [] f = tt
    fine_spread pc (x ∷ ys) f =
        let z : pc + 0 ≡ pc = omega arith in
        let e : slice_get xs pc ≡ Some x = subst (λ (i : ℕ). slice_get xs i ≡ Some x) z (f 0 x refl) in
        let b = typed_back pc x e in
        let one = fine_block pc x.op b.0 in
        let block : FineFrom Q D V (at pc) (block_types P Ts k T at copy x) = subst (λ (t : Option Types). FineFrom Q D V (at pc) (types_of P Ts k T at copy (block_len_of t x.op) x.op t)) (sym b.1) one in
        let y : pc + 1 ≡ suc pc = omega arith in
        let next : at (suc pc) ≡ at pc + length (block_types P Ts k T at copy x) =
        ap at (sym y) ∙ at_is (pc + 1) ∙ next_block xs pc x e ∙ ap (λ (i : ℕ). i + block_len x) (sym (at_is pc)) ∙ ap (λ (i : ℕ). at pc + i) (sym (types_many P Ts k T at copy x)) in
        let rest = fine_spread (suc pc) ys (λ i w g. let v : pc + suc i ≡ suc pc + i = omega arith in subst (λ (j : ℕ). slice_get xs j ≡ Some w) v (f (suc i) w g)) in
        fine_append Q D V (at pc) (block_types P Ts k T at copy x) (spread P Ts k T at copy ys) block (subst (λ (i : ℕ). FineFrom Q D V i (spread P Ts k T at copy ys)) next rest)

    -- ---- the stub

    abbrev end : ℕ
    end = block_at xs (length xs)

    tops_locals : (m : ℕ) → IsLocals (replicate m Top)
    tops_locals zero = tt
    tops_locals (suc m) = tops_locals m

    no_and : (a b : Bool) → b ≡ false → (a && b) ≡ true → ⊥
    no_and true b e f = cc
    no_and false b e f = cc

    none_guard : (l : List VType) (cs : List Catch) → AllByRecursion (IsSourceCatch P k) cs → AreCaught Q D V end l false (map (moved_catch (block_at xs)) cs)
    none_guard l [] x = tt
    none_guard l (c ∷ cs) x = (λ guarded. absurd (no_and (nat_le (block_at xs c.from) end) (nat_lt end (block_at xs c.to)) out guarded), none_guard l cs x.1)
      where
        out : nat_lt end (block_at xs c.to) ≡ false
        out = let m = many_ops in let to = x.0.to in let le = blocks_most xs c.to (length xs) (omega (arith, m, to)) (omega arith) in grind (arith, nat_tests)

    none_caught : (l : List VType) → AreCaught Q D V end l false D.catches
    none_caught l = (λ guarded. absurd (no_and (nat_le 0 end) (nat_lt end end) (grind (arith, nat_tests)) guarded), none_guard l k.catches src.entries)

    fine_stub : IsTypedAt Q D V end (stub_types P Ts k T at copy)
    fine_stub =
        let thrown = conflict_below in
        typed_here Q D V end (stub_types P Ts k T at copy) op.Throw [] (record { locals = replicate N Top; stack = []; built = false }) (has_stub P k xs) (rw thrown refl)
        (record { locals = length-replicate N Top; each_local = tops_locals N; room = omega arith; stack = tt }) (omega arith) tt (none_caught (replicate N Top)) (none_caught (replicate N Top))

    fine_table : FineFrom Q D V 0 V
    fine_table =
        let blocks = fine_spread 0 xs (λ i x e. let z : i ≡ 0 + i = omega arith in subst (λ (j : ℕ). slice_get xs j ≡ Some x) z e) in
        let first : at 0 ≡ 0 = at_is 0 in
        let z : end ≡ 0 + length (spread P Ts k T at copy xs) = let m = spread_many P Ts k T at copy xs in omega (arith, m) in
        fine_append Q D V 0 (spread P Ts k T at copy xs) (Some (stub_types P Ts k T at copy) ∷ []) (subst (λ (i : ℕ). FineFrom Q D V i (spread P Ts k T at copy xs)) first blocks) (subst (λ (i : ℕ). FineFrom Q D V i (Some (stub_types P Ts k T at copy) ∷ [])) z (fine_stub, tt))

    some_code : 0 < length k.ops
    some_code = go k.ops (typing.each 0 (first_types k) typing.first).keeps
      where
        go : (os : List Op) → KeepsAt P k T 0 (first_types k) (slice_get os 0) → 0 < length os
        go [] e = absurd e
        go (o ∷ os) e = omega arith

    typable : copy (first_types k).locals ≡ (first_types D).locals → IsTypable Q D
    typable locals =
        let first : at 0 ≡ 0 = at_is 0 in
        let there = types_there P Ts k T at copy D refl own 0 (first_types k) some_code typing.first in
        let built : not (is_constructor k) ≡ not (is_constructor D) = ap not (sym X.constructor) in
        let same : E (first_types k) [] ≡ first_types D = ap (λ (l : List VType). record { locals = l; stack = []; built = not (is_constructor k) }) locals ∙ ap (λ (b : Bool). record { locals = (first_types D).locals; stack = []; built = b }) built in
        record { table = V; typing = fine_typing Q D V (ap (types_at V) (sym first) ∙ there ∙ ap (λ (h : Types). Some h) same) fine_table }

  -- ---- over the copies themselves

  abbrev own_con : IsWithin P context context
  own_con = context_itself P C

  has_first : is_constructor k ≡ true → (m : List ℕ) × (us : List VType) × (k.parameters ≡ Ref m ∷ us)
  has_first e = by k.dispatch src.object
    where
      by : (x : Dispatch) → HasObject P x k → (m : List ℕ) × (us : List VType) × (k.parameters ≡ Ref m ∷ us)
      by dispatch.Static h = cc
      by dispatch.Exact h = (name_read P k.name.class, arguments k, h)
      by dispatch.Virtual h = (name_read P k.name.class, arguments k, h)
      by dispatch.Abstract h = (h.0, arguments k, h.1)

  pub copy_typable : IsTypable Q D
  copy_typable =
      let room = has_room P k T typing src.many in
      let at = block_at xs in
      let copies = copies_of P own_con at p n room s in
      let first : copies (first_types k).locals ≡ first_locals (is_constructor k) (k.parameters ++ context ∷ []) ++ replicate (n + more_locals s - (p + 1)) Top = first_copies at s (is_constructor k) k.parameters p n src.parameters has_first src.many room in
      typable at refl copies (copying P own_con at p n room s)
      (first ∙ ap (λ (c : Bool). first_locals c (k.parameters ++ context ∷ []) ++ replicate (n + more_locals s - (p + 1)) Top) (sym (constructor_name k.name.name)))

-- the duplicate of a method of a typed program
pub duplicate_typable : (P : Program) (Ts : List Table) → IsTypedProgram P Ts → (m : ℕ) (k : Method) (T : Table) → slice_get P.methods m ≡ Some k → slice_get Ts m ≡ Some T → has_code (Some k) ≡ true → IsRewritable P k T → IsTypable (rewritten P Ts) (duplicate_method P k T)
duplicate_typable P Ts S m k T there table code W =
    let t = S.typed m k there code in
    let same = same_Some t.table T (sym t.there ∙ table) in
    let src = each_at (IsSourceMethod P) P.methods m k S.source.methods there in
    subst (IsTypable (rewritten P Ts)) (sym (has_duplicate P k T code)) (copy_typable P Ts S k src T (subst (IsTyping P k) same t.typing) W)
