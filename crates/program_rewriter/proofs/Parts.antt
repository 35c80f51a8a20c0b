-- The duplicate of a method, from its parts.
use Rattle.std.proofs.Common.{◌≡◌, ℕ, ◌+◌, List, [], ◌∷◌, ◌++◌, length, map, Option, None, Bool, true, false, Result, Ok, Err, refl, length-append, sym, ap, ◌∙◌, subst}
use Rattle.std.specs.Prelude.{ℤ, IfOk}
use Rattle.std.specs.List.{list_any}
use Rattle.jmodel.specs.declared.name.MethodName.{MethodName}
use Rattle.jmodel.specs.declared.typing.VType.{VType}
use Rattle.objects.specs.declared.op.Op.{Op}
use Rattle.objects.specs.declared.op.Op.TheVariants.{Throw}
use Rattle.objects.specs.declared.op.Dispatch.{Dispatch}
use Rattle.objects.specs.declared.op.Catch.{Catch}
use Rattle.objects.specs.declared.op.Catches.TheVariants.{Conflict}
use Rattle.objects.specs.semantics.Program.{Method, Program, is_code}
use Rattle.objects.specs.typing.Typing.{Table}
use Rattle.objects.specs.rewriting.Rewriting.{abstracted, typed_from, block_at, catch, moved_catch, is_stray, more_locals, duplicate_code, duplicate_method, context}
use Rattle.member_code.specs.Names.{duplicate_named}
use Rattle.hierarchy.specs.declared.program.Body.{Body}
use Rattle.program_rewriter.specs.Bodies.{HasBody}
use Rattle.program_rewriter.specs.Places.{starts_from, start_of}
use Rattle.program_rewriter.specs.Blocks.{blocks_from}
use Rattle.program_rewriter.proofs.Starts.{starts_say, many_typed, table_blocks}

-- a method from its parts
abbrev pub method_of : MethodName → Dispatch → List VType → ℕ → ℕ → ℕ → Option VType → Bool → Option ℤ → List Op → List Catch → Method
method_of name dispatch parameters places locals max_stack result counted retries ops catches =
    record { name = name; dispatch = dispatch; parameters = parameters; places = places; locals = locals; max_stack = max_stack; result = result; counted = counted; retries = retries; ops = ops; catches = catches }

pub same_parts : (K : Method) (name : MethodName) (dispatch : Dispatch) (parameters : List VType) (places locals max_stack : ℕ) (result : Option VType) (counted : Bool) (retries : Option ℤ) (ops : List Op) (catches : List Catch)
    → name ≡ K.name → dispatch ≡ K.dispatch → parameters ≡ K.parameters → places ≡ K.places → locals ≡ K.locals → max_stack ≡ K.max_stack → result ≡ K.result → counted ≡ K.counted → retries ≡ K.retries → ops ≡ K.ops → catches ≡ K.catches
    → method_of name dispatch parameters places locals max_stack result counted retries ops catches ≡ K
same_parts K name dispatch parameters places locals max_stack result counted retries ops catches e1 e2 e3 e4 e5 e6 e7 e8 e9 e10 e11 = rw (e1, e2, e3, e4, e5, e6, e7, e8, e9, e10, e11) refl

-- ---- the body

abstracted_is : (os : List Op) (K : Method) → is_code os ≡ true → abstracted os K ≡ K
abstracted_is [] K h = absurd cc
abstracted_is (o ∷ os) K h = refl

abstracted_none : (os : List Op) (K : Method) → os ≡ [] → abstracted os K ≡ record K { max_stack = 0; ops = []; catches = [] }
abstracted_none [] K h = refl
abstracted_none (o ∷ os) K h = absurd cc

-- that of a method that has code
pub coded_has : (P : Program) (k : Method) (T : Table) (b : Body) → is_code k.ops ≡ true → HasBody (duplicate_code P k (typed_from 0 T k.ops)) b → HasBody (duplicate_method P k T) b
coded_has P k T b code has = subst (λ (m : Method). HasBody m b) (sym (abstracted_is k.ops (duplicate_code P k (typed_from 0 T k.ops)) code)) has

-- that of a method without code
pub bare_has : (P : Program) (k : Method) (T : Table) (b : Body) → k.ops ≡ [] → b.locals ≡ k.locals + 1 → b.max_stack ≡ 0 → b.ops.items ≡ [] → b.catches.items ≡ [] → HasBody (duplicate_method P k T) b
bare_has P k T b bare locals max_stack ops catches =
    let same : duplicate_method P k T ≡ record (duplicate_code P k (typed_from 0 T k.ops)) { max_stack = 0; ops = []; catches = [] } = abstracted_none k.ops (duplicate_code P k (typed_from 0 T k.ops)) bare in
    subst (λ (m : Method). HasBody m b) (sym same) (record {
      locals = locals ∙ sym (ap (λ (os : List Op). k.locals + more_locals (list_any (is_stray k.places) os)) bare);
      max_stack = max_stack;
      ops = ops;
      catches = catches;
    })

pub coded_ok : {E : Type 0} (r : Result Body E) (P : Program) (k : Method) (T : Table) → is_code k.ops ≡ true → IfOk r (HasBody (duplicate_code P k (typed_from 0 T k.ops))) → IfOk r (HasBody (duplicate_method P k T))
coded_ok (Ok b) P k T code has = coded_has P k T b code has
coded_ok (Err e) P k T code has = tt

pub bare_ok : {E : Type 0} (r : Result Body E) (P : Program) (k : Method) (T : Table) → k.ops ≡ [] → IfOk r (λ b. b.locals ≡ k.locals + 1) → IfOk r (λ b. b.max_stack ≡ 0)
    → IfOk r (λ b. b.ops.items ≡ []) → IfOk r (λ b. b.catches.items ≡ []) → IfOk r (HasBody (duplicate_method P k T))
bare_ok (Ok b) P k T bare locals max_stack ops catches = bare_has P k T b bare locals max_stack ops catches
bare_ok (Err e) P k T bare locals max_stack ops catches = tt

pub no_code : (os : List Op) → is_code os ≡ false → os ≡ []
no_code [] h = refl
no_code (o ∷ os) h = absurd cc

-- the code, by the table of places
pub table_has : (P : Program) (k : Method) (T : Table) (ss : List ℕ) (b : Body) → ss ≡ starts_from 0 0 T k.ops
    → b.locals ≡ k.locals + more_locals (list_any (is_stray k.places) k.ops) → b.max_stack ≡ k.max_stack + 1
    → b.ops.items ≡ blocks_from P k.places k.locals (start_of ss) T 0 k.ops ++ Throw ∷ []
    → b.catches.items ≡ catch 0 (start_of ss (length k.ops)) (start_of ss (length k.ops)) Conflict ∷ map (moved_catch (start_of ss)) k.catches
    → HasBody (duplicate_code P k (typed_from 0 T k.ops)) b
table_has P k T ss b starts locals max_stack ops catches =
    let xs = typed_from 0 T k.ops in
    let at : start_of ss ≡ block_at xs = ap start_of starts ∙ starts_say T k.ops in
    let end : start_of ss (length k.ops) ≡ block_at xs (length xs) = ap (λ (f : ℕ → ℕ). f (length k.ops)) at ∙ ap (block_at xs) (sym (many_typed 0 T k.ops)) in
    record {
      locals = locals;
      max_stack = max_stack;
      ops = ops ∙ ap (λ (s : List ℕ). blocks_from P k.places k.locals (start_of s) T 0 k.ops ++ Throw ∷ []) starts ∙ ap (λ (os : List Op). os ++ Throw ∷ []) (table_blocks P k.places k.locals T k.ops);
      catches = catches ∙ ap (λ (n : ℕ). catch 0 n n Conflict ∷ map (moved_catch (start_of ss)) k.catches) end
          ∙ ap (λ (f : ℕ → ℕ). catch 0 (block_at xs (length xs)) (block_at xs (length xs)) Conflict ∷ map (moved_catch f) k.catches) at;
    }

-- the same, by what the parts were made of
pub table_has_for : (P : Program) (k : Method) (T : Table) (ss s2 s3 : List ℕ) (p l m st : ℕ) (b : Body) → ss ≡ starts_from 0 0 T k.ops → s2 ≡ ss → s3 ≡ ss
    → p ≡ k.places → l ≡ k.locals → m ≡ more_locals (list_any (is_stray k.places) k.ops) → st ≡ k.max_stack
    → b.locals ≡ l + m → b.max_stack ≡ st + 1
    → b.ops.items ≡ blocks_from P p l (start_of s2) T 0 k.ops ++ Throw ∷ []
    → b.catches.items ≡ catch 0 (start_of s3 (length k.ops)) (start_of s3 (length k.ops)) Conflict ∷ map (moved_catch (start_of s3)) k.catches
    → HasBody (duplicate_code P k (typed_from 0 T k.ops)) b
table_has_for P k T ss s2 s3 p l m st b starts e2 e3 ep el em es locals max_stack ops catches =
    table_has P k T ss b starts
    (locals ∙ ap (λ (n : ℕ). n + m) el ∙ ap (λ (n : ℕ). k.locals + n) em)
    (max_stack ∙ ap (λ (n : ℕ). n + 1) es)
    (ops ∙ ap (λ (n : ℕ). blocks_from P n l (start_of s2) T 0 k.ops ++ Throw ∷ []) ep ∙ ap (λ (n : ℕ). blocks_from P k.places n (start_of s2) T 0 k.ops ++ Throw ∷ []) el
    ∙ ap (λ (s : List ℕ). blocks_from P k.places k.locals (start_of s) T 0 k.ops ++ Throw ∷ []) e2)
    (catches ∙ ap (λ (s : List ℕ). catch 0 (start_of s (length k.ops)) (start_of s (length k.ops)) Conflict ∷ map (moved_catch (start_of s)) k.catches) e3)

-- ---- the whole

made_for : (os : List Op) (K : Method) (name : MethodName) (dispatch : Dispatch) (parameters : List VType) (places : ℕ) (result : Option VType) (b : Body)
    → name ≡ K.name → dispatch ≡ K.dispatch → parameters ≡ K.parameters → places ≡ K.places → result ≡ K.result → true ≡ K.counted → None ≡ K.retries → HasBody (abstracted os K) b
    → method_of name dispatch parameters places b.locals b.max_stack result true None b.ops.items b.catches.items ≡ abstracted os K
made_for [] K name dispatch parameters places result b e1 e2 e3 e4 e5 e6 e7 has =
    same_parts (record K { max_stack = 0; ops = []; catches = [] }) name dispatch parameters places b.locals b.max_stack result true None b.ops.items b.catches.items e1 e2 e3 e4 has.locals has.max_stack e5 e6 e7 has.ops has.catches
made_for (o ∷ os) K name dispatch parameters places result b e1 e2 e3 e4 e5 e6 e7 has =
    same_parts K name dispatch parameters places b.locals b.max_stack result true None b.ops.items b.catches.items e1 e2 e3 e4 has.locals has.max_stack e5 e6 e7 has.ops has.catches

pub made_is : (P : Program) (k : Method) (T : Table) (name : MethodName) (dispatch : Dispatch) (parameters : List VType) (result : Option VType) (b : Body)
    → name ≡ duplicate_named k.name → dispatch ≡ k.dispatch → parameters ≡ k.parameters ++ context ∷ [] → length k.parameters ≡ k.places → result ≡ k.result → HasBody (duplicate_method P k T) b
    → method_of name dispatch parameters (length parameters) b.locals b.max_stack result true None b.ops.items b.catches.items ≡ duplicate_method P k T
made_is P k T name dispatch parameters result b e1 e2 e3 e4 e5 has =
    let places : length parameters ≡ k.places + 1 = ap length e3 ∙ length-append k.parameters (context ∷ []) ∙ ap (λ (n : ℕ). n + 1) e4 in
    made_for k.ops (duplicate_code P k (typed_from 0 T k.ops)) name dispatch parameters (length parameters) result b e1 e2 e3 places e5 refl refl has
