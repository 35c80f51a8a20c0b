-- The calls of a script are those of a run.
use Rattle.std.proofs.Common.{◌≡◌, ◌≤◌, ◌+◌, ℕ, ℤ, pos, negsuc, suc, List, [], ◌∷◌, ◌++◌, length, map, Bool, true, false, ◌&&◌, Option, Some, None, Result, Ok, Err, refl, sym, ap, ◌∙◌, subst, arith, length-append, lit<}
use Rattle.std.specs.Prelude.{sum_by, option_map, option_and_then, slice_get, is_some, nat_eq, if◌then◌else◌, FitsSigned, int_le, nat_le, unsigned_abs, codes}
use Rattle.std.specs.Int.{w32, w64}
use Rattle.std.specs.List.{AllByRecursion, flat_map}
use Rattle.std.proofs.lemmas.List.Concat.{flat_map-cons}
use Rattle.std.proofs.lemmas.Int.{ints}
use Rattle.std.proofs.lemmas.Bool.Decides.{nat_tests}
use Rattle.std.proofs.lemmas.List.Sums.{sum_by-cons}
use Rattle.serde_json.specs.Data.{Data}
use Rattle.serde_json.specs.Find.{as_str, as_bool, as_null}
use Rattle.jmodel.specs.declared.refusal.Refusal.{Refusal}
use Rattle.jmodel.specs.declared.refusal.Refusal.TheVariants.{OverLimit, BadArgs}
use Rattle.jmodel.specs.declared.value.Value.{Value}
use Rattle.jmodel.specs.declared.value.Value.TheVariants as value
use Rattle.jmodel.specs.declared.class_file.FieldType.{FieldType}
use Rattle.jmodel.specs.declared.class_file.FieldType.TheVariants as types
use Rattle.jmodel.specs.declared.typing.VType.{VType}
use Rattle.jmodel.specs.declared.typing.VType.TheVariants as type
use Rattle.jmodel.specs.format.DescriptorReading.{signature_of}
use Rattle.jmodel.specs.format.ClassRules.{same_text}
use Rattle.objects.specs.linking.Members.{is_static as is_static_method, own_name}
use Rattle.jmodel.specs.format.Name.{printed}
use Rattle.jmodel.specs.format.ClassFile.{ClassFile}
use Rattle.objects.specs.semantics.Program.{Method, Program, method_at}
use Rattle.objects.specs.declared.op.Dispatch.{Dispatch}
use Rattle.objects.specs.declared.op.Dispatch.TheVariants as dispatch
use Rattle.objects.specs.linking.Layout.{fixed_words, declared_as, class_read}
use Rattle.objects.specs.linking.Linking.{receiver_types, parameter_types, dispatch_of}
use Rattle.objects.specs.typing.Source.{AreArguments}
use Rattle.objects.specs.typing.TypeOrder.{place_types}
use Rattle.objects.proofs.Links.{IsLinkedTo, method_from}
use Rattle.objects.proofs.Items.{placed, at_map}
use Rattle.objects.proofs.ResolvedMembers.{over_dispatch}
use Rattle.jmodel.specs.format.Reading.{◌>>=◌}
use Rattle.jmodel.specs.history.Schedule.{Known, Phase, ScriptPhase, Lanes, Bag, lists_in, lane_calls, phase_calls, script_calls}
use Rattle.script.specs.declared.head.Head.{Head}
use Rattle.script.specs.Json.{under, at, bad_shape, must, or_refused, each_from, as_list, as_whole, is_object_of, is_object_with, wanted}
use Rattle.script.specs.Script.{script_keys, region_limit, within, Listed, InLanes, InBag, lanes_path, bag_path, list_in, lists_of_lanes, lanes_at, lists_at, lists_of_phase, head_of, lists_of, numbers_within, is_within, number_named, not_callable, is_static, is_callable, call_text, can_be_named, as_int, as_long, as_value, types_in, types_of, value_in, values_of, known_at, call_in, lane_in, lanes_of, bag_of, phase_of, calls_of, Script, script_with, script_of, IsScript, truth_value}
use Rattle.session.specs.Rule.{IsCallOf}
use Rattle.driver.specs.Runs.{AreScripted, HasLanes}

-- ---- what was given without a refusal

bound : {A B : Type 0} (x : Result A Refusal) (f : A → Result B Refusal) (y : B) → (x >>= f) ≡ Ok y → (a : A) × (x ≡ Ok a) × (f a ≡ Ok y)
bound (Ok a) f y h = (a, refl, h)
bound (Err r) f y h = cc

passed : {A : Type 0} (b : Bool) (r : Refusal) (x : Result A Refusal) (y : A) → must b r x ≡ Ok y → (b ≡ true) × (x ≡ Ok y)
passed true r x y h = (refl, h)
passed false r x y h = cc

there : {A : Type 0} (r : Refusal) (o : Option A) (x : A) → or_refused r o ≡ Ok x → o ≡ Some x
there r None x h = cc
there r (Some y) x h = cc

-- one result for each item
each_length : {A B : Type 0} (f : ℕ → A → Result B Refusal) (i : ℕ) (xs : List A) (ys : List B) → each_from f i xs ≡ Ok ys → length ys ≡ length xs
each_length f i [] ys h = let same : ys ≡ [] = cc in ap length same
each_length f i (x ∷ xs) ys h =
    let one = bound (f i x) (λ y. each_from f (suc i) xs >>= λ rest. Ok (y ∷ rest)) ys h in
    let more = bound (each_from f (suc i) xs) (λ rest. Ok (one.0 ∷ rest)) ys one.2 in
    let same : ys ≡ one.0 ∷ more.0 = let is = more.2 in cc in
    ap length same ∙ ap suc (each_length f (suc i) xs more.0 more.1)

-- what holds of each result, where something holds of each item
each_all : {A B : Type 0} (f : ℕ → A → Result B Refusal) (Q : A → Type 0) (R : B → Type 0) → ((i : ℕ) (x : A) (y : B) → Q x → f i x ≡ Ok y → R y)
    → (i : ℕ) (xs : List A) (ys : List B) → AllByRecursion Q xs → each_from f i xs ≡ Ok ys → AllByRecursion R ys
each_all f Q R gives i [] ys all h = let same : ys ≡ [] = cc in rw same tt
each_all f Q R gives i (x ∷ xs) ys all h =
    let one = bound (f i x) (λ y. each_from f (suc i) xs >>= λ rest. Ok (y ∷ rest)) ys h in
    let more = bound (each_from f (suc i) xs) (λ rest. Ok (one.0 ∷ rest)) ys one.2 in
    let same : ys ≡ one.0 ∷ more.0 = let is = more.2 in cc in
    rw same (gives i x one.0 all.0 one.1, each_all f Q R gives (suc i) xs more.0 all.1 more.1)

nothing_asked : {A : Type 0} (xs : List A) → AllByRecursion (λ (x : A). Unit {0}) xs
nothing_asked [] = tt
nothing_asked (x ∷ xs) = (tt, nothing_asked xs)

each_gives : {A B : Type 0} (f : ℕ → A → Result B Refusal) (R : B → Type 0) → ((i : ℕ) (x : A) (y : B) → f i x ≡ Ok y → R y)
    → (i : ℕ) (xs : List A) (ys : List B) → each_from f i xs ≡ Ok ys → AllByRecursion R ys
each_gives {A} f R gives i xs ys h = each_all f (λ (x : A). Unit {0}) R (λ j x y q is. gives j x y is) i xs ys (nothing_asked xs) h

-- ---- numbers within their limits

fits : (n : ℤ) → (int_le (negsuc 2147483647) n && int_le n (pos 2147483647)) ≡ true → FitsSigned w32 n
fits n h = grind (arith, ints, nat_tests)

some : (n : ℤ) → (int_le (pos 1) n && int_le n (pos 1000000)) ≡ true → 1 ≤ unsigned_abs n
some n h = grind (arith, ints, nat_tests)

few : (n : ℤ) → (int_le (pos 1) n && int_le n (pos 1000000)) ≡ true → unsigned_abs n ≤ 1000000
few n h = grind (arith, ints, nat_tests)

room : (m : ℕ) (n : ℤ) → (int_le (pos m) n && int_le n (pos region_limit)) ≡ true → m ≤ unsigned_abs n
room m n h = grind (arith, ints, nat_tests)

most_words : (m : ℕ) (n : ℤ) → (int_le (pos m) n && int_le n (pos region_limit)) ≡ true → unsigned_abs n ≤ region_limit
most_words m n h = grind (arith, ints, nat_tests)

few_lanes : (m : ℕ) (n : ℤ) → int_le (pos m) n ≡ true → (int_le (pos 1) n && int_le n (pos 16)) ≡ true → m ≤ 16
few_lanes m n h k = grind (arith, ints, nat_tests)

some_lanes : (n : ℤ) → (int_le (pos 1) n && int_le n (pos 16)) ≡ true → (1 ≤ unsigned_abs n) × (unsigned_abs n ≤ 16)
some_lanes n h = (grind (arith, ints, nat_tests), grind (arith, ints, nat_tests))

few_phases : (n : ℕ) → (int_le (pos 0) (pos n) && int_le (pos n) (pos 10000)) ≡ true → n ≤ 10000
few_phases n h = grind (arith, ints, nat_tests)

few_calls : (n : ℕ) → nat_le n 100000 ≡ true → n ≤ 100000
few_calls n h = grind (arith, nat_tests)

inside : {A : Type 0} (name : List ℕ) (low high n : ℤ) (x : Result A Refusal) (y : A) → within name low high n x ≡ Ok y → ((int_le low n && int_le n high) ≡ true) × (x ≡ Ok y)
inside name low high n x y h = passed (int_le low n && int_le n high) (OverLimit name n) x y h

-- a phase has at most 16 lists, where it has lanes
abbrev FewLists : Listed → Type 0
FewLists (InLanes ls) = length ls ≤ 16
FewLists (InBag ds) = Unit {0}

-- ---- calls

-- a value is one for the places of its type, whatever stands behind
abbrev Fits : List ClassFile → FieldType → Value → Type 0
Fits cs t v = (ts : List VType) (vs : List Value) → AreArguments ts vs → AreArguments (place_types (declared_as cs t) ++ ts) (v ∷ vs)

int_fits : (low high : ℤ) (d : Data) (v : Value) → ((n : ℤ) → (int_le low n && int_le n high) ≡ true → FitsSigned w32 n) → as_int low high d ≡ Some v → (x : ℤ) × (v ≡ value.Int x) × FitsSigned w32 x
int_fits low high d v narrow h = go (as_whole d) h
  where
    choose : (n : ℤ) (b : Bool) → (int_le low n && int_le n high) ≡ b → (if b then Some (value.Int n) else None) ≡ Some v → (x : ℤ) × (v ≡ value.Int x) × FitsSigned w32 x
    choose n true e h = let same : v ≡ value.Int n = cc in (n, same, narrow n e)
    choose n false e h = cc

    go : (o : Option ℤ) → option_and_then (λ (n : ℤ). if int_le low n && int_le n high then Some (value.Int n) else None) o ≡ Some v → (x : ℤ) × (v ≡ value.Int x) × FitsSigned w32 x
    go (Some n) h = choose n (int_le low n && int_le n high) refl h
    go None h = cc

truth_fits : (o : Option Bool) (v : Value) → option_map truth_value o ≡ Some v → (x : ℤ) × (v ≡ value.Int x) × FitsSigned w32 x
truth_fits None v h = cc
truth_fits (Some true) v h = let same : v ≡ value.Int (pos 1) = cc in (pos 1, same, record { sfits = lit< tt })
truth_fits (Some false) v h = let same : v ≡ value.Int (pos 0) = cc in (pos 0, same, record { sfits = lit< tt })

-- a whole number of an int's type
as_int_fits : (cs : List ClassFile) (t : FieldType) (low high : ℤ) (d : Data) (v : Value) → ((x : ℤ) → FitsSigned w32 x → Fits cs t (value.Int x)) → ((n : ℤ) → (int_le low n && int_le n high) ≡ true → FitsSigned w32 n)
    → as_int low high d ≡ Some v → Fits cs t v
as_int_fits cs t low high d v takes narrow h = let n = int_fits low high d v narrow h in subst (Fits cs t) (sym n.1) (takes n.0 n.2)

long_fits : (cs : List ClassFile) (d : Data) (v : Value) → as_long d ≡ Some v → Fits cs types.Long v
long_fits cs d v h = go (as_whole d) h
  where
    wide : (n : ℤ) → (int_le (negsuc 9223372036854775807) n && int_le n (pos 9223372036854775807)) ≡ true → FitsSigned w64 n
    wide n e = grind (arith, ints, nat_tests)

    choose : (n : ℤ) (b : Bool) → (int_le (negsuc 9223372036854775807) n && int_le n (pos 9223372036854775807)) ≡ b → (if b then Some (value.Long n) else None) ≡ Some v → Fits cs types.Long v
    choose n true e h = let same : v ≡ value.Long n = cc in λ ts vs rest. rw same (wide n e, rest)
    choose n false e h = cc

    go : (o : Option ℤ) → option_and_then (λ (n : ℤ). if int_le (negsuc 9223372036854775807) n && int_le n (pos 9223372036854775807) then Some (value.Long n) else None) o ≡ Some v → Fits cs types.Long v
    go (Some n) h = choose n (int_le (negsuc 9223372036854775807) n && int_le n (pos 9223372036854775807)) refl h
    go None h = cc

null_fits : {U : Type 0} (cs : List ClassFile) (n : List ℕ) (o : Option U) (v : Value) → option_map (λ (u : U). value.Ref 0) o ≡ Some v → Fits cs (types.Reference n) v
null_fits cs n None v h = cc
null_fits cs n (Some u) v h = let same : v ≡ value.Ref 0 = cc in λ ts vs rest. rw same (refl, rest)

-- a value of a type fits it
value_fits : (cs : List ClassFile) (t : FieldType) (d : Data) (v : Value) → as_value t d ≡ Some v → Fits cs t v
value_fits cs types.Boolean d v h = let n = truth_fits (as_bool d) v h in subst (Fits cs types.Boolean) (sym n.1) (λ ts vs rest. (n.2, rest))
value_fits cs types.Byte d v h = as_int_fits cs types.Byte (negsuc 127) (pos 127) d v (λ x fit ts vs rest. (fit, rest)) (λ n e. grind (arith, ints, nat_tests)) h
value_fits cs types.Char d v h = as_int_fits cs types.Char (pos 0) (pos 65535) d v (λ x fit ts vs rest. (fit, rest)) (λ n e. grind (arith, ints, nat_tests)) h
value_fits cs types.Short d v h = as_int_fits cs types.Short (negsuc 32767) (pos 32767) d v (λ x fit ts vs rest. (fit, rest)) (λ n e. grind (arith, ints, nat_tests)) h
value_fits cs types.Int d v h = as_int_fits cs types.Int (negsuc 2147483647) (pos 2147483647) d v (λ x fit ts vs rest. (fit, rest)) fits h
value_fits cs types.Long d v h = long_fits cs d v h
value_fits cs types.Float d v h = cc
value_fits cs types.Double d v h = cc
value_fits cs (types.Reference n) d v h = null_fits cs n (as_null d) v h

-- the types of the places of parameters
abbrev places_in : List ClassFile → FieldType → List VType
places_in cs t = place_types (declared_as cs t)

-- as many values as there are parameters, each of its type, are their arguments
values_fit : (cs : List ClassFile) (all : List FieldType) (path : List ℕ) (i : ℕ) (rest : List FieldType) → ((j : ℕ) → slice_get all (i + j) ≡ slice_get rest j) → (ds : List Data) (vs : List Value) → length rest ≡ length ds
    → each_from (value_in all path) i ds ≡ Ok vs → AreArguments (flat_map (places_in cs) rest) vs
values_fit cs all path i [] on [] vs many h = let same : vs ≡ [] = cc in rw same tt
values_fit cs all path i [] on (d ∷ ds) vs many h = absurd (omega (arith, many))
values_fit cs all path i (t ∷ rest) on [] vs many h = absurd (omega (arith, many))
values_fit cs all path i (t ∷ rest) on (d ∷ ds) vs many h =
    let one = bound (value_in all path i d) (λ y. each_from (value_in all path) (suc i) ds >>= λ more. Ok (y ∷ more)) vs h in
    let more = bound (each_from (value_in all path) (suc i) ds) (λ ys. Ok (one.0 ∷ ys)) vs one.2 in
    let same : vs ≡ one.0 ∷ more.0 = let is = more.2 in cc in
    let here : slice_get all i ≡ Some t = let z : i ≡ i + 0 = omega arith in ap (slice_get all) z ∙ on 0 in
    let found = there (BadArgs (at path i)) (option_and_then (λ (t : FieldType). as_value t d) (slice_get all i)) one.0 one.1 in
    let value : as_value t d ≡ Some one.0 = sym (ap (option_and_then (λ (t : FieldType). as_value t d)) here) ∙ found in
    let later : (j : ℕ) → slice_get all (suc i + j) ≡ slice_get rest j = λ j. let z : suc i + j ≡ i + suc j = omega arith in ap (slice_get all) z ∙ on (suc j) in
    rw (same, flat_map-cons (places_in cs) t rest) (value_fits cs t d one.0 value (flat_map (places_in cs) rest) more.0 (values_fit cs all path (suc i) rest later ds more.0 (omega (arith, many)) more.1))

-- ---- methods that are called

parts_and : (a b : Bool) → (a && b) ≡ true → (a ≡ true) × (b ≡ true)
parts_and true b e = (refl, e)
parts_and false b e = cc

some_of : (o : Option ℤ) → is_some o ≡ true → (n : ℤ) × (o ≡ Some n)
some_of None e = cc
some_of (Some n) e = (n, refl)

static_of : (d : Dispatch) → is_static d ≡ true → d ≡ dispatch.Static
static_of dispatch.Static e = refl
static_of dispatch.Exact e = cc
static_of dispatch.Virtual e = cc
static_of dispatch.Abstract e = cc

-- a method that a text names may be called
named_callable : (k : Method) (text : List ℕ) → same_text (call_text k) text ≡ true → is_callable k ≡ true
named_callable k text = go (is_callable k) (can_be_named k.name)
  where
    go : (a b : Bool) → same_text (if a && b then Some (printed k.name) else None) text ≡ true → a ≡ true
    go true b e = refl
    go false b e = cc

number_callable : (P : Program) (text : List ℕ) (m : ℕ) → number_named P text ≡ Some m → (k : Method) × (method_at P m ≡ Some k) × (is_callable k ≡ true)
number_callable P text m e =
    let p = placed (λ o. same_text o text) (map call_text P.methods) m e in
    let k = at_map call_text P.methods m p.0 p.1 in
    (k.0, k.1, named_callable k.0 text (ap (λ (o : Option (List ℕ)). same_text o text) k.2 ∙ p.2))

module _ (cs : List ClassFile) (P : Program) (l : IsLinkedTo cs P) where
  -- the parameters of a static method are those of its descriptor
  parameters_are : (m : ℕ) (k : Method) → method_at P m ≡ Some k → k.dispatch ≡ dispatch.Static → k.parameters ≡ flat_map (places_in cs) (types_of (method_at P m))
  parameters_are m k there static =
      let f = method_from cs P l m k there in
      let is_static_member : is_static_method f.member.member ≡ true = by (is_static_method f.member.member) refl (sym (ap (λ (k : Method). k.dispatch) f.meant.is) ∙ static) in
      let none : receiver_types cs f.member.class f.member.member ≡ [] = ap (λ (b : Bool). if b then [] else type.Ref (class_read cs (own_name f.member.class)) ∷ []) is_static_member in
      let signature : signature_of k.name.descriptor ≡ Some f.meant.signature = ap (λ (k : Method). signature_of k.name.descriptor) f.meant.is ∙ f.meant.described in
      let types : types_of (method_at P m) ≡ f.meant.signature.parameters = ap types_of there ∙ ap types_in signature in
      ap (λ (k : Method). k.parameters) f.meant.is ∙ ap (λ (ts : List VType). ts ++ parameter_types cs f.meant.signature) none ∙ sym (ap (flat_map (places_in cs)) types)
    where
      by : (b : Bool) → is_static_method (method_from cs P l m k there).member.member ≡ b → dispatch_of (method_from cs P l m k there).member.class (method_from cs P l m k there).member.member ≡ dispatch.Static → b ≡ true
      by true e s = refl
      by false e s = absurd (over_dispatch (method_from cs P l m k there).member.class (method_from cs P l m k there).member.member e s)

  call_made : (m : ℕ) (vs : List Value) (c : Known) (path : List ℕ) (ds : List Data) (text : List ℕ) → number_named P text ≡ Some m → nat_eq (length (types_of (method_at P m))) (length ds) ≡ true
      → values_of (types_of (method_at P m)) path ds ≡ Ok vs → ◌≡◌ {A = Result Known Refusal} (Ok (record { method = m; args = vs })) (Ok c) → IsCallOf P c
  call_made m vs c path ds text named count values h =
      let same : c ≡ record { method = m; args = vs } = cc in
      let k = number_callable P text m named in
      let parts = parts_and (is_some k.0.retries) _ k.2 in
      let static = static_of k.0.dispatch (parts_and (is_static k.0.dispatch) _ parts.1).0 in
      let retries = some_of k.0.retries parts.0 in
      let many : length (types_of (method_at P m)) ≡ length ds = grind (arith, nat_tests) in
      let args = values_fit cs (types_of (method_at P m)) path 0 (types_of (method_at P m)) (λ j. let z : 0 + j ≡ j = omega arith in ap (slice_get (types_of (method_at P m))) z) ds vs many values in
      let given : AreArguments k.0.parameters vs = subst (λ (ts : List VType). AreArguments ts vs) (sym (parameters_are m k.0 k.1 static)) args in
      rw same (record { method = k.0; retries = retries.0; there = k.1; static = static; marked = retries.1; given = given })

  is_call : (path : List ℕ) (d : Data) (k : Known) → known_at cs P path d ≡ Ok k → IsCallOf P k
  is_call path d k h =
      let place = under path (codes "args") in
      let made : ℕ → List Value → Result Known Refusal = λ m vs. Ok (record { method = m; args = vs }) in
      let taken : List Data → ℕ → Result Known Refusal = λ args m. must (nat_eq (length (types_of (method_at P m))) (length args)) (BadArgs place) (values_of (types_of (method_at P m)) place args >>= made m) in
      let named : List ℕ → List Data → Result Known Refusal = λ text args. or_refused (not_callable cs (under path (codes "call")) text) (number_named P text) >>= taken args in
      let a = passed (is_object_of (codes "call" ∷ codes "args" ∷ []) d) (bad_shape path) (wanted as_str path (codes "call") d >>= λ text. wanted as_list path (codes "args") d >>= named text) k h in
      let b = bound (wanted as_str path (codes "call") d) (λ text. wanted as_list path (codes "args") d >>= named text) k a.1 in
      let c = bound (wanted as_list path (codes "args") d) (named b.0) k b.2 in
      let m = bound (or_refused (not_callable cs (under path (codes "call")) b.0) (number_named P b.0)) (taken c.0) k c.2 in
      let e = passed (nat_eq (length (types_of (method_at P m.0))) (length c.0)) (BadArgs place) (values_of (types_of (method_at P m.0)) place c.0 >>= made m.0) k m.2 in
      let v = bound (values_of (types_of (method_at P m.0)) place c.0) (made m.0) k e.1 in
      call_made m.0 v.0 k place c.0 b.0 (there (not_callable cs (under path (codes "call")) b.0) (number_named P b.0) m.0 m.1) e.0 v.1 v.2

  lane_calls_are : (path : List ℕ) (l : ℕ) (ds : List Data) (ks : List Known) → lane_in cs P path l ds ≡ Ok ks → AllByRecursion (IsCallOf P) ks
  lane_calls_are path l = each_gives (call_in cs P (at path l)) (IsCallOf P) (λ i d k is. is_call (at (at path l) i) d k is) 0

  lanes_are_calls : (p : ℕ) (ls : List (List Data)) (phase : Phase) → lanes_of cs P p ls ≡ Ok phase → AllByRecursion (AllByRecursion (IsCallOf P)) phase
  lanes_are_calls p = each_gives (lane_in cs P (lanes_path p)) (AllByRecursion (IsCallOf P)) (lane_calls_are (lanes_path p)) 0

  bag_calls_are : (p : ℕ) (ds : List Data) (ks : List Known) → bag_of cs P p ds ≡ Ok ks → AllByRecursion (IsCallOf P) ks
  bag_calls_are p = each_gives (call_in cs P (bag_path p)) (IsCallOf P) (λ i d k is. is_call (at (bag_path p) i) d k is) 0

  phase_calls_are : (lanes p : ℕ) (l : Listed) (phase : ScriptPhase) → phase_of cs P lanes p l ≡ Ok phase → AllByRecursion (AllByRecursion (IsCallOf P)) (lists_in phase)
  phase_calls_are lanes p (InLanes ls) phase h =
      let a = bound (lanes_of cs P p ls) (λ ks. Ok (Lanes ks)) phase h in
      let same : phase ≡ Lanes a.0 = let is = a.2 in cc in
      rw same (lanes_are_calls p ls a.0 a.1)
  phase_calls_are lanes p (InBag ds) phase h =
      let a = bound (bag_of cs P p ds) (λ ks. Ok (Bag lanes ks)) phase h in
      let same : phase ≡ Bag lanes a.0 = let is = a.2 in cc in
      rw same (bag_calls_are p ds a.0 a.1, tt)

  calls_are : (lanes : ℕ) (lists : List Listed) (phases : List ScriptPhase) → each_from (phase_of cs P lanes) 0 lists ≡ Ok phases
      → AllByRecursion (λ (p : ScriptPhase). AllByRecursion (AllByRecursion (IsCallOf P)) (lists_in p)) phases
  calls_are lanes = each_gives (phase_of cs P lanes) (λ (p : ScriptPhase). AllByRecursion (AllByRecursion (IsCallOf P)) (lists_in p)) (phase_calls_are lanes) 0

  -- a phase has as many lanes as there are lists of calls
  phase_lanes_are : (lanes p : ℕ) (l : Listed) (phase : ScriptPhase) → (1 ≤ lanes) × (lanes ≤ 16) → FewLists l → phase_of cs P lanes p l ≡ Ok phase → HasLanes phase
  phase_lanes_are lanes p (InLanes ls) phase some few h =
      let a = bound (lanes_of cs P p ls) (λ ks. Ok (Lanes ks)) phase h in
      let same : phase ≡ Lanes a.0 = let is = a.2 in cc in
      let long = each_length (lane_in cs P (lanes_path p)) 0 ls a.0 a.1 in
      rw same (omega (arith, few, long))
  phase_lanes_are lanes p (InBag ds) phase some few h =
      let a = bound (bag_of cs P p ds) (λ ks. Ok (Bag lanes ks)) phase h in
      let same : phase ≡ Bag lanes a.0 = let is = a.2 in cc in
      rw same some

  lanes_are : (lanes : ℕ) (lists : List Listed) (phases : List ScriptPhase) → (1 ≤ lanes) × (lanes ≤ 16) → AllByRecursion FewLists lists
      → each_from (phase_of cs P lanes) 0 lists ≡ Ok phases → AllByRecursion HasLanes phases
  lanes_are lanes lists phases some few h =
      each_all (phase_of cs P lanes) FewLists HasLanes (λ p l phase le is. phase_lanes_are lanes p l phase some le is) 0 lists phases few h

-- ---- how many lanes and calls there are

lists_within : (lanes : ℤ) (path : List ℕ) (d : Data) (ls : List (List Data)) → lanes_at lanes path d ≡ Ok ls → int_le (pos (length ls)) lanes ≡ true
lists_within lanes path d ls h =
    let place = under path (codes "lanes") in
    let b = bound (wanted as_list path (codes "lanes") d) (lists_of_lanes lanes place) ls h in
    let c = passed (int_le (pos (length b.0)) lanes) (bad_shape place) (each_from (list_in place) 0 b.0) ls b.2 in
    let same = each_length (list_in place) 0 b.0 ls c.1 in
    ap (λ (n : ℕ). int_le (pos n) lanes) same ∙ c.0

few_in_lanes : (lanes : ℤ) (path : List ℕ) (d : Data) (l : Listed) → (int_le (pos 1) lanes && int_le lanes (pos 16)) ≡ true
    → (lanes_at lanes path d >>= λ ls. Ok (InLanes ls)) ≡ Ok l → FewLists l
few_in_lanes lanes path d l most h =
    let a = bound (lanes_at lanes path d) (λ ls. Ok (InLanes ls)) l h in
    let same : l ≡ InLanes a.0 = let is = a.2 in cc in
    rw same (few_lanes (length a.0) lanes (lists_within lanes path d a.0 a.1) most)

few_in_bag : (path : List ℕ) (d : Data) (l : Listed) → (wanted as_list path (codes "bag") d >>= λ cs. Ok (InBag cs)) ≡ Ok l → FewLists l
few_in_bag path d l h =
    let a = bound (wanted as_list path (codes "bag") d) (λ cs. Ok (InBag cs)) l h in
    let same : l ≡ InBag a.0 = let is = a.2 in cc in
    rw same tt

few_in_phase : (lanes : ℤ) (path : List ℕ) (d : Data) (l : Listed) → (int_le (pos 1) lanes && int_le lanes (pos 16)) ≡ true → lists_at lanes path d ≡ Ok l → FewLists l
few_in_phase lanes path d l most h = go (is_object_with (codes "lanes") d) (is_object_with (codes "bag") d) h
  where
    go : (a b : Bool)
        → (if a then (lanes_at lanes path d >>= λ ls. Ok (InLanes ls)) else (if b then (wanted as_list path (codes "bag") d >>= λ cs. Ok (InBag cs)) else Err (bad_shape path))) ≡ Ok l
        → FewLists l
    go true b h = few_in_lanes lanes path d l most h
    go false true h = few_in_bag path d l h
    go false false h = cc

few_lists : (lanes : ℤ) (d : Data) (lists : List Listed) → (int_le (pos 1) lanes && int_le lanes (pos 16)) ≡ true → lists_of lanes d ≡ Ok lists
    → AllByRecursion FewLists lists
few_lists lanes d lists most h =
    let a = bound (wanted as_list [] (codes "phases") d) (each_from (lists_of_phase lanes) 0) lists h in
    each_gives (lists_of_phase lanes) FewLists (λ p x l is. few_in_phase lanes (at (codes "/phases") p) x l most is) 0 a.0 lists a.2

many_in_lane : (phase lane index : ℕ) (cs : List Known) → length (lane_calls phase lane index cs) ≡ length cs
many_in_lane phase lane index [] = refl
many_in_lane phase lane index (c ∷ cs) = ap suc (many_in_lane phase lane (suc index) cs)

many_in_phase : (phase lane : ℕ) (ls : Phase) → length (phase_calls phase lane ls) ≡ sum_by length ls
many_in_phase phase lane [] = refl
many_in_phase phase lane (cs ∷ ls) =
    let first = many_in_lane phase lane 0 cs in
    let rest = many_in_phase phase (suc lane) ls in
    length-append (lane_calls phase lane 0 cs) (phase_calls phase (suc lane) ls) ∙ omega (arith, first, rest, sum_by-cons length cs ls)

many_in_script : (phase : ℕ) (ps : List ScriptPhase) → length (script_calls phase (map lists_in ps)) ≡ sum_by calls_of ps
many_in_script phase [] = refl
many_in_script phase (p ∷ ps) =
    let first = many_in_phase phase 0 (lists_in p) in
    let rest = many_in_script (suc phase) ps in
    length-append (phase_calls phase 0 (lists_in p)) (script_calls (suc phase) (map lists_in ps)) ∙ omega (arith, first, rest, sum_by-cons calls_of p ps)

-- ---- scripts

-- the parts of a script
record HasParts (cs : List ClassFile) (P : Program) (s : Script) : Type 0 where
  head : Head
  lists : List Listed
  lanes : (int_le (pos 1) head.lanes && int_le head.lanes (pos 16)) ≡ true
  attempts : (int_le (pos 1) head.attempts && int_le head.attempts (pos 1000000)) ≡ true
  many : (int_le (pos 0) (pos (length lists)) && int_le (pos (length lists)) (pos 10000)) ≡ true
  few : AllByRecursion FewLists lists
  phases : each_from (phase_of cs P (unsigned_abs head.lanes)) 0 lists ≡ Ok s.phases
  calls : nat_le (sum_by calls_of s.phases) 100000 ≡ true
  attempts_are : s.attempts ≡ unsigned_abs head.attempts
  region : (int_le (pos (fixed_words cs)) head.region && int_le head.region (pos region_limit)) ≡ true
  region_is : s.region ≡ unsigned_abs head.region
  lanes_is : s.lanes ≡ unsigned_abs head.lanes

module _ (cs : List ClassFile) (P : Program) (s : Script) where
  parts_of : (d : Data) (head : Head) (lists : List Listed) → lists_of head.lanes d ≡ Ok lists → script_of cs P head lists ≡ Ok s → HasParts cs P s
  parts_of d head lists are h =
      let ended : Head → Result Script Refusal = λ k. each_from (phase_of cs P (unsigned_abs head.lanes)) 0 lists >>= script_with k in
      let region : Head → Result Head Refusal = λ k. within (codes "region") (pos (fixed_words cs)) (pos region_limit) k.region (within (codes "phases") (pos 0) (pos 10000) (pos (length lists)) (Ok k)) in
      let a = bound (is_within (fixed_words cs) head (length lists)) ended s h in
      let b = bound (numbers_within head) region a.0 a.1 in
      let lanes = inside (codes "lanes") (pos 1) (pos 16) head.lanes (within (codes "budget") (pos 1) (pos 1000000) head.budget (within (codes "attempts") (pos 1) (pos 1000000) head.attempts (Ok head))) b.0 b.1 in
      let budget = inside (codes "budget") (pos 1) (pos 1000000) head.budget (within (codes "attempts") (pos 1) (pos 1000000) head.attempts (Ok head)) b.0 lanes.1 in
      let attempts = inside (codes "attempts") (pos 1) (pos 1000000) head.attempts (Ok head) b.0 budget.1 in
      let words = inside (codes "region") (pos (fixed_words cs)) (pos region_limit) b.0.region (within (codes "phases") (pos 0) (pos 10000) (pos (length lists)) (Ok b.0)) a.0 b.2 in
      let many = inside (codes "phases") (pos 0) (pos 10000) (pos (length lists)) (Ok b.0) a.0 words.1 in
      let same_head : b.0 ≡ head = let x = attempts.1 in cc in
      let kept : head ≡ a.0 = let x = attempts.1 in let y = many.1 in cc in
      let c = bound (each_from (phase_of cs P (unsigned_abs head.lanes)) 0 lists) (script_with a.0) s a.2 in
      let e = passed (nat_le (sum_by calls_of c.0) 100000) (OverLimit (codes "calls") (pos (sum_by calls_of c.0))) (Ok (record { engine = a.0.engine; budget = unsigned_abs a.0.budget; attempts = unsigned_abs a.0.attempts; lanes = unsigned_abs a.0.lanes; region = unsigned_abs a.0.region; phases = c.0 })) s c.2 in
      let is : s ≡ record { engine = a.0.engine; budget = unsigned_abs a.0.budget; attempts = unsigned_abs a.0.attempts; lanes = unsigned_abs a.0.lanes; region = unsigned_abs a.0.region; phases = c.0 } = let x = e.1 in cc in
      let phases : s.phases ≡ c.0 = ap (λ (t : Script). t.phases) is in
      record {
        head = head;
        lists = lists;
        lanes = lanes.0;
        attempts = attempts.0;
        many = many.0;
        few = few_lists head.lanes d lists lanes.0 are;
        phases = c.1 ∙ ap (λ (ps : List ScriptPhase). Ok ps) (sym phases);
        calls = ap (λ (ps : List ScriptPhase). nat_le (sum_by calls_of ps) 100000) phases ∙ e.0;
        attempts_are = ap (λ (t : Script). t.attempts) is ∙ ap (λ (k : Head). unsigned_abs k.attempts) (sym kept);
        region = subst (λ (k : Head). (int_le (pos (fixed_words cs)) k.region && int_le k.region (pos region_limit)) ≡ true) same_head words.0;
        lanes_is = ap (λ (t : Script). t.lanes) is ∙ ap (λ (k : Head). unsigned_abs k.lanes) (sym kept);
        region_is = ap (λ (t : Script). t.region) is ∙ ap (λ (k : Head). unsigned_abs k.region) (sym kept);
      }

  parts : (bytes : List ℕ) → IsScript cs P bytes s → HasParts cs P s
  parts bytes is =
      let d = is.value in
      let of_head : Head → Result Script Refusal = λ head. lists_of head.lanes d >>= script_of cs P head in
      let a = passed (is_object_of script_keys d) (bad_shape []) (head_of d >>= of_head) s is.script in
      let b = bound (head_of d) of_head s a.1 in
      let c = bound (lists_of b.0.lanes d) (script_of cs P b.0) s b.2 in
      parts_of d b.0 c.0 c.1 c.2

  -- the calls of a script are as a run asks
  pub scripted : (bytes : List ℕ) → IsLinkedTo cs P → IsScript cs P bytes s → AreScripted P s.phases
  scripted bytes l is =
      let p = parts bytes is in
      let same = each_length (phase_of cs P (unsigned_abs p.head.lanes)) 0 p.lists s.phases p.phases in
      let many = few_phases (length p.lists) p.many in
      let calls = few_calls (sum_by calls_of s.phases) p.calls in
      let all = many_in_script 0 s.phases in
      record {
        calls = calls_are cs P l (unsigned_abs p.head.lanes) p.lists s.phases p.phases;
        lanes = lanes_are cs P l (unsigned_abs p.head.lanes) p.lists s.phases (some_lanes p.head.lanes p.lanes) p.few p.phases;
        few_phases = omega (arith, same, many);
        few_calls = omega (arith, all, calls);
      }

  -- and so are its attempts
  pub few_attempts : (bytes : List ℕ) → IsScript cs P bytes s → (1 ≤ s.attempts) × (s.attempts ≤ 1000000)
  few_attempts bytes is =
      let p = parts bytes is in
      rw p.attempts_are (some p.head.attempts p.attempts, few p.head.attempts p.attempts)

  -- a region has room for the words that a run begins with
  pub region_fits : (bytes : List ℕ) → IsScript cs P bytes s → (fixed_words cs ≤ s.region) × (s.region ≤ region_limit)
  region_fits bytes is =
      let p = parts bytes is in
      rw p.region_is (room (fixed_words cs) p.head.region p.region, most_words (fixed_words cs) p.head.region p.region)

  -- and there are few lanes
  pub lanes_fit : (bytes : List ℕ) → IsScript cs P bytes s → s.lanes ≤ 16
  lanes_fit bytes is = let p = parts bytes is in rw p.lanes_is (some_lanes p.head.lanes p.lanes).1
