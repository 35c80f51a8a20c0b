-- What the calls of added methods ask and leave in a duplicate's blocks: what the instruction does for which the block stands, under the context.
use Rattle.std.proofs.Common.{◌≡◌, ℕ, List, [], ◌∷◌, ◌++◌, reverse, Option, Some, None, Bool, true, false, refl, sym, ap, ◌∙◌}
use Rattle.std.specs.Prelude.{slice_get, bytes_eq, codes, is_some, not, if◌then◌else◌}
use Rattle.std.proofs.lemmas.Slice.Eq.{bytes_eq-Decides}
use Rattle.std.proofs.lemmas.List.{reverse-append}
use Rattle.jmodel.specs.declared.typing.VType.{VType}
use Rattle.jmodel.specs.declared.typing.VType.TheVariants.{Int, Ref, Uninit, UninitThis}
use Rattle.objects.specs.declared.op.Op.{Op}
use Rattle.objects.specs.declared.op.WordType.{WordType}
use Rattle.objects.specs.declared.op.WordType.TheVariants as word
use Rattle.objects.specs.declared.op.Op.TheVariants as op
use Rattle.objects.specs.semantics.Program.{Declared, Field, Method, Program}
use Rattle.objects.specs.typing.TypeOrder.{context_class, object_class, name_read, is_within, IsWithin, stack_types, place_types}
use Rattle.objects.specs.typing.Typing.{Types, Table, Flow, with_stack, leaves, if_so, on, on_each, on_top, arguments, is_constructor, constructs, special, calls, results, result_types, flow}
use Rattle.objects.specs.rewriting.Rewriting.{array_type, any_of, as_result, getter, setter, duplicate_name, abstracted, element_getter, element_setter, duplicate_method, duplicate_code, typed_from}
use Rattle.objects.proofs.Places.{Rewrites}

abbrev pub context : VType
context = Ref context_class

abbrev pub kind : WordType → List ℕ → Declared
kind w c = record { word = w; class = c }

result_stack : (w : WordType) (c : List ℕ) → result_types (Some (as_result (kind w c))) ≡ stack_types (kind w c)
result_stack word.Boolean c = refl
result_stack word.Byte c = refl
result_stack word.Char c = refl
result_stack word.Short c = refl
result_stack word.Int c = refl
result_stack word.Long c = refl
result_stack word.Reference c = refl

turned : (w : WordType) (c : List ℕ) → reverse (place_types (kind w c)) ≡ stack_types (kind w c)
turned word.Boolean c = refl
turned word.Byte c = refl
turned word.Char c = refl
turned word.Short c = refl
turned word.Int c = refl
turned word.Long c = refl
turned word.Reference c = refl

turned_first : (t : VType) (w : WordType) (c : List ℕ) → reverse (t ∷ place_types (kind w c)) ≡ stack_types (kind w c) ++ t ∷ []
turned_first t word.Boolean c = refl
turned_first t word.Byte c = refl
turned_first t word.Char c = refl
turned_first t word.Short c = refl
turned_first t word.Int c = refl
turned_first t word.Long c = refl
turned_first t word.Reference c = refl

turned_third : (t u : VType) (w : WordType) (c : List ℕ) → reverse (t ∷ u ∷ place_types (kind w c)) ≡ stack_types (kind w c) ++ u ∷ t ∷ []
turned_third t u word.Boolean c = refl
turned_third t u word.Byte c = refl
turned_third t u word.Char c = refl
turned_third t u word.Short c = refl
turned_third t u word.Int c = refl
turned_third t u word.Long c = refl
turned_third t u word.Reference c = refl

each_append : (Q : Program) (ts us s : List VType) (j : List VType → Flow) → on_each Q (ts ++ us) s j ≡ on_each Q ts s (λ s. on_each Q us s j)
each_append Q [] us s j = refl
each_append Q (t ∷ ts) us [] j = refl
each_append Q (t ∷ ts) us (v ∷ s) j = let e = each_append Q ts us s j in rw e refl

module _ (P : Program) (Ts : List Table) (Q : Program) (R : Rewrites P Ts Q) (con : IsWithin Q context context) (d : Method) (pc : ℕ) (h : Types) (s : List VType) where
  -- the context on top
  abbrev under : Types
  under = with_stack h (context ∷ s)

  -- a method that takes the context last
  context_calls : (c : Method) (ts : List VType) → c.parameters ≡ ts ++ context ∷ [] → calls Q pc c under ≡ on_each Q (reverse ts) s (λ s. leaves pc h (results c ++ s))
  context_calls c ts takes =
      let j : List VType → Flow = λ s. leaves pc h (results c ++ s) in
      let back : reverse (ts ++ context ∷ []) ≡ context ∷ reverse ts = reverse-append ts (context ∷ []) in
      ap (λ us. on_each Q (reverse us) (context ∷ s) j) takes ∙ ap (λ us. on_each Q us (context ∷ s) j) back ∙ (let e = con in rw e refl)

  static_calls : (m : ℕ) (c : Method) (ts : List VType) → slice_get Q.methods m ≡ Some c → c.parameters ≡ ts ++ context ∷ [] → flow Q d pc (op.InvokeStatic m) under ≡ on_each Q (reverse ts) s (λ s. leaves pc h (results c ++ s))
  static_calls m c ts there takes = let e = context_calls c ts takes in rw there e

  -- ---- fields

  module _ (n : ℕ) (class name descriptor : List ℕ) (index : ℕ) (w : WordType) (c : List ℕ) where
    abbrev field : Option ℕ → Field
    field b = record { class = class; name = name; descriptor = descriptor; base = b; index = index; declared = kind w c }

    pub get_static : (o : ℕ) → slice_get P.fields n ≡ Some (field (Some o)) → flow Q d pc (op.InvokeStatic (getter P n)) under ≡ leaves pc h (stack_types (kind w c) ++ s)
    get_static o there = static_calls (getter P n) _ [] (R.getters n (field (Some o)) there) refl ∙ ap (λ ts. leaves pc h (ts ++ s)) (result_stack w c)

    pub put_static : (o : ℕ) → slice_get P.fields n ≡ Some (field (Some o)) → flow Q d pc (op.InvokeStatic (setter P n)) under ≡ on_each Q (stack_types (kind w c)) s (λ s. leaves pc h s)
    put_static o there = static_calls (setter P n) _ (place_types (kind w c)) (R.setters n (field (Some o)) there) refl ∙ ap (λ ts. on_each Q ts s (λ s. leaves pc h s)) (turned w c)

    pub get_field : slice_get P.fields n ≡ Some (field None) → flow Q d pc (op.InvokeStatic (getter P n)) under ≡ on Q (Ref class) s (λ s. leaves pc h (stack_types (kind w c) ++ s))
    get_field there = static_calls (getter P n) _ (Ref class ∷ []) (R.getters n (field None) there) refl ∙ ap (λ ts. on Q (Ref class) s (λ s. leaves pc h (ts ++ s))) (result_stack w c)

    pub put_field : slice_get P.fields n ≡ Some (field None) → flow Q d pc (op.InvokeStatic (setter P n)) under ≡ on_each Q (stack_types (kind w c)) s (λ s. on Q (Ref class) s (λ s. leaves pc h s))
    put_field there =
        static_calls (setter P n) _ (Ref class ∷ place_types (kind w c)) (R.setters n (field None) there) refl ∙ ap (λ ts. on_each Q ts s (λ s. leaves pc h s)) (turned_first (Ref class) w c)
        ∙ each_append Q (stack_types (kind w c)) (Ref class ∷ []) s (λ s. leaves pc h s)

  -- ---- elements

  pub get_element : (t : WordType) → flow Q d pc (op.InvokeStatic (element_getter P t)) under ≡ on_each Q (Int ∷ Ref (array_type t) ∷ []) s (λ s. leaves pc h (stack_types (any_of t) ++ s))
  get_element t = static_calls (element_getter P t) _ (Ref (array_type t) ∷ Int ∷ []) (R.element_getters t) refl ∙ ap (λ ts. on_each Q (Int ∷ Ref (array_type t) ∷ []) s (λ s. leaves pc h (ts ++ s))) (result_stack t object_class)

  pub put_element : (t : WordType) → flow Q d pc (op.InvokeStatic (element_setter P t)) under ≡ on_each Q (stack_types (any_of t)) s (λ s. on_each Q (Int ∷ Ref (array_type t) ∷ []) s (λ s. leaves pc h s))
  put_element t =
      static_calls (element_setter P t) _ (Ref (array_type t) ∷ Int ∷ place_types (any_of t)) (R.element_setters t) refl ∙ ap (λ ts. on_each Q ts s (λ s. leaves pc h s)) (turned_third (Ref (array_type t)) Int t object_class)
      ∙ each_append Q (stack_types (any_of t)) (Int ∷ Ref (array_type t) ∷ []) s (λ s. leaves pc h s)

-- ---- duplicates

each_alike : (Q : Program) (ts s : List VType) (j l : List VType → Flow) → ((s : List VType) → j s ≡ l s) → on_each Q ts s j ≡ on_each Q ts s l
each_alike Q [] s j l f = f s
each_alike Q (t ∷ ts) [] j l f = refl
each_alike Q (t ∷ ts) (u ∷ s) j l f = let e = each_alike Q ts s j l f in rw e refl

top_alike : (s : List VType) (j l : VType → List VType → Flow) → ((t : VType) (s : List VType) → j t s ≡ l t s) → on_top s j ≡ on_top s l
top_alike [] j l f = refl
top_alike (t ∷ s) j l f = f t s

pub duplicate_parameters : (P : Program) (c : Method) (T : Table) → (duplicate_method P c T).parameters ≡ c.parameters ++ context ∷ []
duplicate_parameters P c T = by c.ops
  where
    by : (os : List Op) → (abstracted os (duplicate_code P c (typed_from 0 T c.ops))).parameters ≡ c.parameters ++ context ∷ []
    by [] = refl
    by (o ∷ os) = refl

pub duplicate_result : (P : Program) (c : Method) (T : Table) → (duplicate_method P c T).result ≡ c.result
duplicate_result P c T = by c.ops
  where
    by : (os : List Op) → (abstracted os (duplicate_code P c (typed_from 0 T c.ops))).result ≡ c.result
    by [] = refl
    by (o ∷ os) = refl

pub duplicate_names : (P : Program) (c : Method) (T : Table) → ((duplicate_method P c T).name.class ≡ c.name.class) × ((duplicate_method P c T).name.name ≡ duplicate_name c.name.name)
duplicate_names P c T = by c.ops
  where
    by : (os : List Op) → ((abstracted os (duplicate_code P c (typed_from 0 T c.ops))).name.class ≡ c.name.class) × ((abstracted os (duplicate_code P c (typed_from 0 T c.ops))).name.name ≡ duplicate_name c.name.name)
    by [] = (refl, refl)
    by (o ∷ os) = (refl, refl)

pub constructor_name : (n : List ℕ) → bytes_eq (duplicate_name n) (codes "<init>") ≡ bytes_eq n (codes "<init>")
constructor_name n = by (bytes_eq n (codes "<clinit>")) refl
  where
    by : (b : Bool) → bytes_eq n (codes "<clinit>") ≡ b → bytes_eq (if b then codes "__CLINIT__" else n) (codes "<init>") ≡ bytes_eq n (codes "<init>")
    by true e = let same : n ≡ codes "<clinit>" = (bytes_eq-Decides n (codes "<clinit>")).0 e in sym (ap (λ (m : List ℕ). bytes_eq m (codes "<init>")) same)
    by false e = refl

construct_under : (Q : Program) (d : Method) (pc : ℕ) (c : List ℕ) (h : Types) (r s : List VType) (t : VType) (u : List VType) → constructs Q d pc c (with_stack h r) t u ≡ constructs Q d pc c (with_stack h s) t u
construct_under Q d pc c h r s (Uninit p) u = refl
construct_under Q d pc c h r s UninitThis u = refl
construct_under Q d pc c h r s t u = refl

module _ (Q : Program) (con : IsWithin Q context context) (d c x : Method) (pc : ℕ) (h : Types) (s : List VType) (takes : x.parameters ≡ c.parameters ++ context ∷ []) (gives : x.result ≡ c.result) (class : x.name.class ≡ c.name.class)
    (named : is_constructor x ≡ is_constructor c) where
  abbrev topped : Types
  topped = with_stack h (context ∷ s)

  -- a call of the duplicate x of the method c, under the context
  pub duplicate_calls : calls Q pc x topped ≡ calls Q pc c (with_stack h s)
  duplicate_calls =
      let j : Option VType → List VType → Flow = λ r s. leaves pc h (result_types r ++ s) in
      let back : reverse (c.parameters ++ context ∷ []) ≡ context ∷ reverse c.parameters = reverse-append c.parameters (context ∷ []) in
      ap (λ us. on_each Q (reverse us) (context ∷ s) (j x.result)) takes ∙ ap (λ us. on_each Q us (context ∷ s) (j x.result)) back ∙ ap (λ (r : Option VType). on_each Q (context ∷ reverse c.parameters) (context ∷ s) (j r)) gives ∙ (let e = con in rw e refl)

  module _ (t : VType) (first : c.parameters ≡ t ∷ arguments c) where
    arguments_behind : arguments x ≡ arguments c ++ context ∷ []
    arguments_behind = ap (λ (ps : List VType). arguments (record x { parameters = ps })) (takes ∙ ap (λ (ps : List VType). ps ++ context ∷ []) first)

    behind : (j : List VType → Flow) → on_each Q (reverse (arguments x)) (context ∷ s) j ≡ on_each Q (reverse (arguments c)) s j
    behind j =
        let back : reverse (arguments c ++ context ∷ []) ≡ context ∷ reverse (arguments c) = reverse-append (arguments c) (context ∷ []) in
        ap (λ us. on_each Q (reverse us) (context ∷ s) j) arguments_behind ∙ ap (λ us. on_each Q us (context ∷ s) j) back ∙ (let e = con in rw e refl)

    by_constructor : (b : Bool) → special b Q d pc x topped ≡ special b Q d pc c (with_stack h s)
    by_constructor true =
        ap (λ (r : Option VType). if_so (not (is_some r)) (on_each Q (reverse (arguments x)) (context ∷ s) (λ s. on_top s (λ t s. constructs Q d pc x.name.class topped t s)))) gives
        ∙ ap (λ k. if_so (not (is_some c.result)) k) (behind (λ s. on_top s (λ t s. constructs Q d pc x.name.class topped t s))
        ∙ each_alike Q (reverse (arguments c)) s _ _ (λ u. top_alike u _ _ (λ t v. ap (λ n. constructs Q d pc n topped t v) class ∙ construct_under Q d pc c.name.class h (context ∷ s) s t v)))
    by_constructor false =
        behind (λ s. on_top s (λ t u. if_so (is_within Q t (Ref (name_read Q d.name.class))) (calls Q pc x topped)))
        ∙ each_alike Q (reverse (arguments c)) s _ _ (λ u. top_alike u _ _ (λ t v. ap (λ k. if_so (is_within Q t (Ref (name_read Q d.name.class))) k) duplicate_calls))

    pub duplicate_special : special (is_constructor x) Q d pc x topped ≡ special (is_constructor c) Q d pc c (with_stack h s)
    duplicate_special = ap (λ b. special b Q d pc x topped) named ∙ by_constructor (is_constructor c)
