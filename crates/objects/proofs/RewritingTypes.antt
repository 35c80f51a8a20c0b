-- Typings of the methods of a rewritten program.
use Rattle.std.proofs.Common.{◌≡◌, ◌≢◌, ℕ, ℤ, suc, ◌+◌, ◌<◌, List, [], ◌∷◌, Option, Some, None, Bool, true, false, refl, sym, ap, subst, ◌∙◌, arith}
use Rattle.std.specs.Prelude.{slice_get}
use Rattle.std.specs.List.{AllByRecursion}
use Rattle.jmodel.specs.declared.typing.VType.{VType}
use Rattle.jmodel.specs.declared.typing.VType.TheVariants.{Ref}
use Rattle.objects.specs.declared.op.Dispatch.TheVariants as dispatch
use Rattle.objects.specs.declared.op.WordType.{WordType}
use Rattle.objects.specs.declared.op.WordType.TheVariants as word
use Rattle.objects.specs.declared.op.Op.{Op}
use Rattle.objects.specs.semantics.Program.{Field, Method, Program, is_code, has_code}
use Rattle.objects.specs.typing.TypeOrder.{object_class, throwable_class, context_class, conflict_class, IsWithin}
use Rattle.objects.specs.typing.Typing.{Table, result_types, is_constructor, IsTypable}
use Rattle.objects.specs.typing.Source.{IsReadName, IsReadWord, IsSourceField, IsSourceMethod, IsBased, HasCode, AreTypes}
use Rattle.objects.specs.laws.TypingLaw.{IsTypedProgram}
use Rattle.objects.specs.rewriting.Rewriting.{accessors, element_getter_method, element_setter_method, helper_methods, typed_from, abstracted, duplicate_code, duplicate_method, duplicates, old_method, next_id, old_methods, rewritten}
use Rattle.objects.proofs.Fields.{each_at}
use Rattle.objects.proofs.Added.{all_append, all_at}
use Rattle.objects.proofs.Places.{rewrites}
use Rattle.objects.proofs.SameFlow.{within_same, are_same, name_same, stays_typable}
use Rattle.objects.proofs.AccessorTypes.{HasContext, accessors_typable, element_getter_typable, element_setter_typable}
use Rattle.objects.proofs.ReadTypes.{read_itself, owner_is_read, object_is_read, context_itself, conflict_itself, conflict_thrown, throwable_itself}
use Rattle.objects.proofs.WrapperTypes.{wrapper_typable}

module _ (P : Program) (Ts : List Table) (S : IsTypedProgram P Ts)
    (copied : (m : ℕ) (k : Method) (T : Table) → slice_get P.methods m ≡ Some k → slice_get Ts m ≡ Some T → has_code (Some k) ≡ true → IsTypable (rewritten P Ts) (duplicate_method P k T)) where
  abbrev C : AreTypes P
  C = S.source.types

  abbrev Q : Program
  Q = rewritten P Ts

  abbrev ms : List Method
  ms = Q.methods

  -- a method that has code has a typing
  abbrev IsFine : Method → Type 0
  IsFine k = has_code (Some k) ≡ true → IsTypable Q k

  same : (t u : VType) → IsWithin P t u → IsWithin Q t u
  same t u h = within_same P ms t u ∙ h

  name_there : (n : List ℕ) → IsReadName P n → IsReadName Q n
  name_there n x = record { itself = same (Ref n) (Ref n) x.itself; top = same (Ref n) (Ref object_class) x.top; read = name_same P ms n ∙ x.read }

  word_there : (w : WordType) (c : List ℕ) → IsReadWord P w c → IsReadWord Q w c
  word_there word.Reference c x = name_there c x
  word_there w c x = tt

  context : HasContext Q
  context = record { context = same (Ref context_class) (Ref context_class) (context_itself P C); object = name_there object_class (object_is_read P C) }

  -- ---- accessors

  based : (b : Option ℕ) (f : Field) → IsBased f b → (o : ℕ) → b ≡ Some o → 0 < o
  based None f x o e = cc
  based (Some p) f x o e = let s : p ≡ o = cc in let h = x.object in subst (λ (n : ℕ). 0 < n) s (omega (arith, h))

  fields_fine : (n : ℕ) (fs : List Field) → ((i : ℕ) (f : Field) → slice_get fs i ≡ Some f → slice_get P.fields (n + i) ≡ Some f) → AllByRecursion IsFine (accessors n fs)
  fields_fine n [] at = tt
  fields_fine n (f ∷ fs) at =
      let z : n + 0 ≡ n = omega arith in
      let there : slice_get P.fields n ≡ Some f = subst (λ (i : ℕ). slice_get P.fields i ≡ Some f) z (at 0 f refl) in
      let x = each_at (IsSourceField P) P.fields n f S.source.fields there in
      let t = accessors_typable Q context n f there (word_there f.declared.word f.declared.class x.read) (λ e. name_there f.class (owner_is_read P C n f there e)) (based f.base f x.based) in
      ((λ c. t.0), ((λ c. t.1), fields_fine (suc n) fs (λ i g e. let w : n + suc i ≡ suc n + i = omega arith in subst (λ (j : ℕ). slice_get P.fields j ≡ Some g) w (at (suc i) g e))))

  -- ---- methods that were there, and wrappers

  unmarked : (k : Method) (n : ℤ) → IsSourceMethod P k → k.retries ≡ Some n → is_constructor k ≡ false
  unmarked k n x e = by (is_constructor k) refl
    where
      by : (b : Bool) → is_constructor k ≡ b → b ≡ false
      by false d = refl
      by true d = let none = x.unmarked d in cc

  -- what is marked has code, and isn't abstract
  marked_code : (k : Method) (n : ℤ) → k.retries ≡ Some n → (os : List Op) → HasCode os k → (is_code os ≡ true) × (k.dispatch ≢ dispatch.Abstract)
  marked_code k n e [] h = let none = h.1 in cc
  marked_code k n e (o ∷ os) h = (refl, h)

  old_fine : (id m : ℕ) (k : Method) → slice_get P.methods m ≡ Some k → (r : Option ℤ) → k.retries ≡ r → IsFine (old_method P id m r k)
  old_fine id m k there None e code = stays_typable P Ts S m k there code
  old_fine id m k there (Some n) e any =
      let src = each_at (IsSourceMethod P) P.methods m k S.source.methods there in
      let code = marked_code k n e k.ops src.code in
      let t = S.typed m k there code.0 in
      wrapper_typable Q P id m n k t.table (record {
        code = code.0;
        concrete = code.1;
        class = name_same P ms k.name.class;
        plain = unmarked k n src e;
        parameters = src.parameters;
        many = src.many;
        object = src.object;
        result = src.result;
        takes_itself = are_same P ms k.parameters k.parameters (read_itself P k.parameters src.takes);
        gives_itself = are_same P ms (result_types k.result) (result_types k.result) (read_itself P (result_types k.result) src.gives);
        context_itself = same (Ref context_class) (Ref context_class) (context_itself P C);
        conflict_itself = same (Ref conflict_class) (Ref conflict_class) (conflict_itself P C);
        conflict_thrown = same (Ref conflict_class) (Ref throwable_class) (conflict_thrown P C);
        throwable_itself = same (Ref throwable_class) (Ref throwable_class) (throwable_itself P C);
      }) ((rewrites P Ts).duplicates_are m k t.table there t.there)

  olds_fine : (id m : ℕ) (ks : List Method) → ((i : ℕ) (k : Method) → slice_get ks i ≡ Some k → slice_get P.methods (m + i) ≡ Some k) → AllByRecursion IsFine (old_methods P id m ks)
  olds_fine id m [] at = tt
  olds_fine id m (k ∷ ks) at =
      let z : m + 0 ≡ m = omega arith in
      let there : slice_get P.methods m ≡ Some k = subst (λ (n : ℕ). slice_get P.methods n ≡ Some k) z (at 0 k refl) in
      (old_fine id m k there k.retries refl, olds_fine (next_id k.retries id) (suc m) ks (λ i x e. let w : m + suc i ≡ suc m + i = omega arith in subst (λ (n : ℕ). slice_get P.methods n ≡ Some x) w (at (suc i) x e)))

  -- ---- duplicates

  abbrev AreTables : ℕ → List Table → Type 0
  AreTables m Us = (i : ℕ) (T : Table) → slice_get Ts (m + i) ≡ Some T → slice_get Us i ≡ Some T

  abbrev AreMethods : ℕ → List Method → Type 0
  AreMethods m ks = (i : ℕ) (k : Method) → slice_get ks i ≡ Some k → slice_get P.methods (m + i) ≡ Some k

  here : (m : ℕ) (k : Method) (ks : List Method) → AreMethods m (k ∷ ks) → slice_get P.methods m ≡ Some k
  here m k ks at = let z : m + 0 ≡ m = omega arith in subst (λ (n : ℕ). slice_get P.methods n ≡ Some k) z (at 0 k refl)

  rest : (m : ℕ) (k : Method) (ks : List Method) → AreMethods m (k ∷ ks) → AreMethods (suc m) ks
  rest m k ks at i x e = let w : m + suc i ≡ suc m + i = omega arith in subst (λ (n : ℕ). slice_get P.methods n ≡ Some x) w (at (suc i) x e)

  no_tables : (m : ℕ) → AreTables m [] → AreTables (suc m) []
  no_tables m f i T e = let w : suc m + i ≡ m + suc i = omega arith in let none = f (suc i) T (ap (slice_get Ts) (sym w) ∙ e) in cc

  tables_rest : (m : ℕ) (U : Table) (Us : List Table) → AreTables m (U ∷ Us) → AreTables (suc m) Us
  tables_rest m U Us f i T e = let w : suc m + i ≡ m + suc i = omega arith in f (suc i) T (ap (slice_get Ts) (sym w) ∙ e)

  code_of : (k : Method) (T : Table) → has_code (Some (duplicate_method P k T)) ≡ true → has_code (Some k) ≡ true
  code_of k T = by k.ops
    where
      by : (os : List Op) → is_code (abstracted os (duplicate_code P k (typed_from 0 T k.ops))).ops ≡ true → is_code os ≡ true
      by [] e = e
      by (o ∷ os) e = refl

  table_there : (m : ℕ) (k : Method) (Us : List Table) → slice_get P.methods m ≡ Some k → has_code (Some k) ≡ true → AreTables m Us → (T : Table) × (slice_get Ts m ≡ Some T) × (slice_get Us 0 ≡ Some T)
  table_there m k Us there code f =
      let t = S.typed m k there code in
      let z : m + 0 ≡ m = omega arith in
      (t.table, t.there, f 0 t.table (ap (slice_get Ts) z ∙ t.there))

  one_fine : (m : ℕ) (k : Method) (U : Table) (Us : List Table) → slice_get P.methods m ≡ Some k → AreTables m (U ∷ Us) → IsFine (duplicate_method P k U)
  one_fine m k U Us there f code =
      let x = table_there m k (U ∷ Us) there (code_of k U code) f in
      let is = x.2 in
      let own : x.0 ≡ U = cc in
      copied m k U there (x.1 ∙ ap (λ (T : Table). Some T) own) (code_of k U code)

  none_fine : (m : ℕ) (k : Method) → slice_get P.methods m ≡ Some k → AreTables m [] → IsFine (duplicate_method P k [])
  none_fine m k there f code = absurd (let x = table_there m k [] there (code_of k [] code) f in let is = x.2 in cc)

  copies_fine : (m : ℕ) (ks : List Method) (Us : List Table) → AreMethods m ks → AreTables m Us → AllByRecursion IsFine (duplicates P ks Us)
  copies_fine m [] Us at f = tt
  copies_fine m (k ∷ ks) [] at f = (none_fine m k (here m k ks at) f, copies_fine (suc m) ks [] (rest m k ks at) (no_tables m f))
  copies_fine m (k ∷ ks) (U ∷ Us) at f = (one_fine m k U Us (here m k ks at) f, copies_fine (suc m) ks Us (rest m k ks at) (tables_rest m U Us f))

  -- ---- the helper

  pair : (t : WordType) → IsFine (element_getter_method t) × IsFine (element_setter_method t)
  pair t = ((λ c. element_getter_typable Q context t), (λ c. element_setter_typable Q context t))

  helper_fine : AllByRecursion IsFine helper_methods
  helper_fine =
      let b = pair word.Byte in let c = pair word.Char in let z = pair word.Boolean in let s = pair word.Short in let i = pair word.Int in let l = pair word.Long in let a = pair word.Reference in
      (b.0, (b.1, (z.0, (z.1, (c.0, (c.1, (s.0, (s.1, (i.0, (i.1, (l.0, (l.1, (a.0, (a.1, tt))))))))))))))

  pub rewriting_typable : (m : ℕ) (k : Method) → slice_get Q.methods m ≡ Some k → has_code (Some k) ≡ true → IsTypable Q k
  rewriting_typable m k there =
      let w : (i : ℕ) → i ≡ 0 + i = λ i. omega arith in
      let olds = olds_fine 0 0 P.methods (λ i k e. subst (λ (n : ℕ). slice_get P.methods n ≡ Some k) (w i) e) in
      let news = fields_fine 0 P.fields (λ i f e. subst (λ (n : ℕ). slice_get P.fields n ≡ Some f) (w i) e) in
      let copies = copies_fine 0 P.methods Ts (λ i k e. subst (λ (n : ℕ). slice_get P.methods n ≡ Some k) (w i) e) (λ i T e. subst (λ (n : ℕ). slice_get Ts n ≡ Some T) (sym (w i)) e) in
      let whole : AllByRecursion IsFine Q.methods = all_append IsFine _ helper_methods (all_append IsFine _ (duplicates P P.methods Ts) (all_append IsFine (old_methods P 0 0 P.methods) (accessors 0 P.fields) olds news) copies) helper_fine in
      all_at IsFine Q.methods m k whole there
