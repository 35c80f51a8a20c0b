-- The helper of arrays keeps the rules of class files.
use Rattle.std.proofs.Common.{◌≡◌, ℕ, ◌+◌, List, [], ◌∷◌, length, Option, Some, None, Ok, refl, sym, ap, ◌∙◌, subst, arith}
use Rattle.std.specs.Prelude.{IsSome}
use Rattle.std.specs.List.{AllByRecursion, flat_map}
use Rattle.std.proofs.lemmas.List.Concat.{flat_map-cons}
use Rattle.jmodel.specs.format.ClassFile.{Pool, Member, ClassFile}
use Rattle.jmodel.specs.format.Pool.{utf8, class_name}
use Rattle.jmodel.specs.format.Descriptor.{IsClassName}
use Rattle.jmodel.specs.format.ClassRules.{IsPool, IsMethod, IsClassFile}
use Rattle.objects.specs.declared.op.WordType.{WordType}
use Rattle.objects.specs.typing.TypeOrder.{object_class}
use Rattle.objects.specs.rewriting.Rewriting.{word_places, helper_class}
use Rattle.const_pool.proofs.Takes.{bind_ok, ok_is}
use Rattle.member_code.proofs.Grown.{grown_refl, grown_trans}
use Rattle.member_code.proofs.Puts.{AllPut, adds_all, adds_class}
use Rattle.member_code.proofs.Straight.{no_attributes}
use Rattle.member_code.proofs.ValuePlaces.{few_places}
use Rattle.array_helper.specs.Names.{load_named, store_named}
use Rattle.array_helper.specs.declared.helper.ElementMethods.{ElementMethods}
use Rattle.array_helper.specs.Helper.{look_call, read_call, write_call, load_instrs, load_method, store_instrs, store_method, element_methods, both_of, element_types, every_method, helper_parts, file_of, helper_file}
use Rattle.array_helper.proofs.Gets.{IsLoad, IsStore, AreElements, elements_put, loads_laid, stores_laid}
use Rattle.rewritten_form.proofs.Adding.{Keeping, pool_is, class_pool, method_pool, AllGood, all_pool}
use Rattle.rewritten_form.proofs.Texts.{before_element_method, read_element_method, write_element_method, helper_lawful, object_lawful, load_method as load_texts, store_method as store_texts}
use Rattle.rewritten_form.proofs.ContextTypes.{unlike}
use Rattle.rewritten_form.proofs.FieldPools.{straight_pool}
use Rattle.rewritten_form.proofs.Keys.{Key, AreKeyed, AreUnlike, names_unlike, tested_names, distinct}
use Rattle.rewritten_form.proofs.MethodSteps.{straight_form}

-- ---- the pool

load_pool : (t : WordType) → Keeping (load_method t)
unfolding load_method look_call read_call
load_pool t pool r e p =
    let a = bind_ok _ _ r e in
    let b = bind_ok _ _ r a.2 in
    let M = load_texts t in
    straight_pool (3 + word_places t) 3 (load_instrs t a.0.0 b.0.0) (load_named t) M.named M.text b.0.1 r b.2
    (method_pool _ _ _ (read_element_method t) a.0.1 b.0 b.1 (method_pool _ _ _ before_element_method pool a.0 a.1 p))

store_pool : (t : WordType) → Keeping (store_method t)
unfolding store_method write_call
store_pool t pool r e p =
    let a = bind_ok _ _ r e in
    let M = store_texts t in
    straight_pool (3 + word_places t) (3 + word_places t) (store_instrs t a.0.0) (store_named t) M.named M.text a.0.1 r a.2 (method_pool _ _ _ (write_element_method t) pool a.0 a.1 p)

elements_pool : (n : ℕ) (t : WordType) → Unit {0} → Keeping (element_methods t)
unfolding element_methods
elements_pool n t u pool r e p =
    let a = bind_ok _ _ r e in
    let b = bind_ok _ _ r a.2 in
    pool_is (record { load = a.0.0; store = b.0.0 }) b.0.1 r b.2 (store_pool t a.0.1 b.0 b.1 (load_pool t pool a.0 a.1 p))

every_good : (n : ℕ) (ts : List WordType) → AllGood (λ (n : ℕ) (t : WordType). Unit {0}) (λ n t. element_methods t) elements_pool n ts
every_good n [] = tt
every_good n (t ∷ ts) = (tt, every_good (n + 1) ts)

-- an empty pool keeps the rules
empty_pool : IsPool []
empty_pool = record { few = omega arith; placed = refl; entries = tt }

-- ---- the methods

-- the names and descriptors of the methods
abbrev keys_of : List WordType → List Key
keys_of [] = []
keys_of (t ∷ ts) = ((load_named t).name, (load_named t).descriptor) ∷ ((store_named t).name, (store_named t).descriptor) ∷ keys_of ts

load_form : (Z : Pool) → IsPool Z → (t : WordType) (m : Member) → IsLoad t Z m → IsMethod Z m
load_form Z p t m g =
    straight_form Z p (3 + word_places t) 3 (load_instrs t g.before g.after) (load_named t) m g.method (loads_laid t Z g.before g.after g.is_before g.is_after) (omega arith) (omega (arith, few_places t)) (omega arith) (load_texts t).typed

store_form : (Z : Pool) → IsPool Z → (t : WordType) (m : Member) → IsStore t Z m → IsMethod Z m
store_form Z p t m g =
    straight_form Z p (3 + word_places t) (3 + word_places t) (store_instrs t g.write) (store_named t) m g.method (stores_laid t Z g.write g.is_write) (omega arith) (omega (arith, few_places t)) (omega (arith, few_places t)) (store_texts t).typed

forms : (Z : Pool) → IsPool Z → (n : ℕ) (ts : List WordType) (ms : List ElementMethods) → AllPut (λ i t. AreElements t) n ts Z ms → AllByRecursion (IsMethod Z) (flat_map both_of ms)
forms Z p n [] [] h = tt
forms Z p n [] (m ∷ ms) h = absurd h
forms Z p n (t ∷ ts) [] h = absurd h
forms Z p n (t ∷ ts) (m ∷ ms) h =
    subst (AllByRecursion (IsMethod Z)) (sym (flat_map-cons both_of m ms)) (load_form Z p t m.load h.0.load, (store_form Z p t m.store h.0.store, forms Z p (n + 1) ts ms h.1))

keyed : (Z : Pool) (n : ℕ) (ts : List WordType) (ms : List ElementMethods) → AllPut (λ i t. AreElements t) n ts Z ms → AreKeyed Z (flat_map both_of ms) (keys_of ts)
keyed Z n [] [] h = tt
keyed Z n [] (m ∷ ms) h = absurd h
keyed Z n (t ∷ ts) [] h = absurd h
keyed Z n (t ∷ ts) (m ∷ ms) h =
    let a = h.0.load.method.coded in
    let b = h.0.store.method.coded in
    subst (λ (l : List Member). AreKeyed Z l (keys_of (t ∷ ts))) (sym (flat_map-cons both_of m ms)) (
      record { named = ap (λ (y : Member). utf8 Z y.name) a.is ∙ a.named; typed = ap (λ (y : Member). utf8 Z y.descriptor) a.is ∙ a.typed },
      (record { named = ap (λ (y : Member). utf8 Z y.name) b.is ∙ b.named; typed = ap (λ (y : Member). utf8 Z y.descriptor) b.is ∙ b.typed }, keyed Z (n + 1) ts ms h.1),
    )

many : (Z : Pool) (n : ℕ) (ts : List WordType) (ms : List ElementMethods) → AllPut (λ i t. AreElements t) n ts Z ms → length (flat_map both_of ms) ≡ length (keys_of ts)
many Z n [] [] h = refl
many Z n [] (m ∷ ms) h = absurd h
many Z n (t ∷ ts) [] h = absurd h
many Z n (t ∷ ts) (m ∷ ms) h = let l = ap length (flat_map-cons both_of m ms) in omega (arith, l, many Z (n + 1) ts ms h.1)

helper_named : IsClassName helper_class
helper_named = record { is_there = λ e. absurd cc; no_end = unlike helper_class refl; no_array = refl }

-- no two methods have one name
keys_unlike : AreUnlike (keys_of element_types)
keys_unlike = names_unlike (keys_of element_types) (tested_names (keys_of element_types) refl)

-- ---- the class

some_name : (o : Option (List ℕ)) (n : List ℕ) → o ≡ Some n → IsSome o
some_name None n e = absurd cc
some_name (Some m) n e = refl

pub helper_form : (h : ClassFile) → helper_file ≡ Ok h → IsClassFile h
unfolding helper_file helper_parts every_method
helper_form h e =
    let x = bind_ok (helper_parts []) (λ made. Ok (file_of made.0 made.1)) h e in
    let a = bind_ok _ _ x.0 x.1 in
    let b = bind_ok _ _ x.0 a.2 in
    let c = bind_ok _ _ x.0 b.2 in
    let done = ok_is _ x.0 c.2 in
    let is : file_of (a.0.0, b.0.0, flat_map both_of c.0.0) c.0.1 ≡ h = ap (λ (y : (ℕ × ℕ × List Member) × Pool). file_of y.0 y.1) done ∙ ok_is _ h x.2 in
    let p = adds_class helper_class [] a.0 empty_pool.few a.1 in
    let q = adds_class object_class a.0.1 b.0 p.short b.1 in
    let u = adds_all (λ i t. AreElements t) (λ i t. element_methods t) (λ i t. elements_put t) 0 element_types b.0.1 c.0 q.short c.1 in
    let Z : Pool = c.0.1 in
    let pool : IsPool Z =
    all_pool (λ (n : ℕ) (t : WordType). Unit {0}) (λ n t. element_methods t) elements_pool 0 element_types (every_good 0 element_types) b.0.1 c.0 c.1
    (class_pool object_class object_lawful a.0.1 b.0 b.1 (class_pool helper_class helper_lawful [] a.0 a.1 empty_pool)) in
    let facts = u.facts Z (grown_refl Z) in
    let this = p.facts Z (grown_trans a.0.1 b.0.1 Z q.grown u.grown) in
    let above = q.facts Z u.grown in
    let l = many Z 0 element_types c.0.0 facts in
    subst IsClassFile is (record {
      minor = omega arith;
      major = refl;
      pool = pool;
      flags = omega arith;
      this_class = omega (arith, this.2);
      this_name = rw this.0 helper_named;
      super_class = omega (arith, above.2);
      super_name = some_name (class_name Z b.0.0) object_class above.0;
      few_interfaces = omega arith;
      interfaces = tt;
      few_fields = omega arith;
      fields = tt;
      few_methods = omega (arith, l);
      methods = forms Z pool 0 element_types c.0.0 facts;
      attributes = no_attributes Z;
      distinct_fields = distinct Z [] [] tt tt;
      distinct_methods = distinct Z (flat_map both_of c.0.0) (keys_of element_types) (keyed Z 0 element_types c.0.0 facts) keys_unlike;
    })
