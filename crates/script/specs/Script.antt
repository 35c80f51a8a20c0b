-- Which JSON is a script for classes and their program: what each lane calls in each phase, and the turns and attempts that each call may take.
-- A script that is none is refused, with the first of the rules below that it breaks, in their order.
use Rattle.std.specs.Prelude.{◌≡◌, ◌⊎◌, ◌<◌, ◌≤◌, ℕ, ℤ, pos, negsuc, List, [], ◌∷◌, ◌++◌, length, map, sum_by, Option, Some, None, Result, Ok, Err, Bool, not, ◌&&◌, ◌==◌, nat_le, int_le, unsigned_abs, if◌then◌else◌, bytes_eq, codes, position, option_and_then, true, false, option_map, is_some, nat_eq, slice_get}
use Rattle.std.specs.List.{list_any}
use Rattle.std.specs.Str.{IsUtf8}
use Rattle.serde_json.specs.Data.{Data}
use Rattle.serde_json.specs.Find.{as_str, as_bool, as_null}
use Rattle.serde_json.specs.Read.{read}
use Rattle.jmodel.specs.declared.name.MethodName.{MethodName}
use Rattle.jmodel.specs.declared.refusal.Refusal.{Refusal}
use Rattle.jmodel.specs.declared.refusal.Refusal.TheVariants.{NotJson, UnknownMethod, NotAtomic, BadArgs, OverLimit}
use Rattle.jmodel.specs.declared.value.Value.{Value}
use Rattle.jmodel.specs.declared.value.Value.TheVariants.{Int, Long, Ref}
use Rattle.jmodel.specs.declared.class_file.FieldType.{FieldType}
use Rattle.jmodel.specs.declared.class_file.FieldType.TheVariants as types
use Rattle.jmodel.specs.format.Name.{printed}
use Rattle.jmodel.specs.format.ClassFile.{ClassFile}
use Rattle.jmodel.specs.format.ClassRules.{same_text}
use Rattle.objects.specs.semantics.Program.{Method, Program, method_at}
use Rattle.objects.specs.linking.Classes.{methods_in, full_name}
use Rattle.jmodel.specs.format.Descriptor.{Signature}
use Rattle.jmodel.specs.format.DescriptorReading.{signature_of}
use Rattle.objects.specs.linking.Code.{names_initialiser}
use Rattle.jmodel.specs.history.Schedule.{Known, Phase, ScriptPhase, Lanes, Bag, lists_in}
use Rattle.objects.specs.declared.op.Dispatch.{Dispatch}
use Rattle.objects.specs.declared.op.Dispatch.TheVariants as dispatch
use Rattle.objects.specs.linking.Layout.{fixed_words}
use Rattle.jmodel.specs.format.Reading.{◌>>=◌}
use Rattle.script.specs.declared.head.Head.{Head}
use Rattle.script.specs.declared.head.EngineKind.{EngineKind}
use Rattle.script.specs.declared.head.EngineKind.TheVariants.{Tl2, Lsa}
use Rattle.script.specs.Json.{under, at, bad_shape, must, or_refused, each_from, as_list, as_whole, is_object_of, is_object_with, wanted, may_be}

-- ---- the shape of a script

abbrev pub script_keys : List (List ℕ)
script_keys = codes "form" ∷ codes "engine" ∷ codes "lanes" ∷ codes "budget" ∷ codes "attempts" ∷ codes "region" ∷ codes "phases" ∷ []

-- a script names the form 1
abbrev pub as_form : Data → Option ℤ
as_form d = option_and_then (λ n. if int_le n (pos 1) && int_le (pos 1) n then Some n else None) (as_whole d)

-- and may name its engine
abbrev pub engine_named : List ℕ → Option EngineKind
engine_named name = if bytes_eq name (codes "tl2") then Some Tl2 else (if bytes_eq name (codes "lsa") then Some Lsa else None)

abbrev pub as_engine : Data → Option EngineKind
as_engine d = option_and_then engine_named (as_str d)

-- a number within its limits
abbrev pub within : {A : Type 0} → List ℕ → ℤ → ℤ → ℤ → Result A Refusal → Result A Refusal
within name low high n x = must (int_le low n && int_le n high) (OverLimit name n) x

-- the lists of calls of the phase of a number, one for each of its lanes: at most as many as the script has lanes
abbrev pub lanes_path : ℕ → List ℕ
lanes_path p = under (at (codes "/phases") p) (codes "lanes")

abbrev pub list_in : List ℕ → ℕ → Data → Result (List Data) Refusal
list_in path l d = or_refused (bad_shape (at path l)) (as_list d)

abbrev pub lists_of_lanes : ℤ → List ℕ → List Data → Result (List (List Data)) Refusal
lists_of_lanes lanes path ls = must (int_le (pos (length ls)) lanes) (bad_shape path) (each_from (list_in path) 0 ls)

-- the calls of a phase as data: a list for each of its lanes, or that of a bag
pub data Listed : Type 0 where
  InLanes : List (List Data) → Listed
  InBag : List Data → Listed

-- the path of the list of calls of a bag
abbrev pub bag_path : ℕ → List ℕ
bag_path p = under (at (codes "/phases") p) (codes "bag")

abbrev pub lanes_at : ℤ → List ℕ → Data → Result (List (List Data)) Refusal
lanes_at lanes path d = wanted as_list path (codes "lanes") d >>= lists_of_lanes lanes (under path (codes "lanes"))

-- of the phase at a path, which has one of two keys and no other
abbrev pub lists_at : ℤ → List ℕ → Data → Result Listed Refusal
lists_at lanes path d =
    if is_object_with (codes "lanes") d then (lanes_at lanes path d >>= λ ls. Ok (InLanes ls))
    else (if is_object_with (codes "bag") d then (wanted as_list path (codes "bag") d >>= λ cs. Ok (InBag cs))
    else Err (bad_shape path))

abbrev pub lists_of_phase : ℤ → ℕ → Data → Result Listed Refusal
lists_of_phase lanes p d = lists_at lanes (at (codes "/phases") p) d

-- what a script is, as far as its calls: its head, and the lists of calls, by phase
abbrev pub head_of : Data → Result Head Refusal
head_of d = do
  form ← wanted as_form [] (codes "form") d
  engine ← may_be as_engine Tl2 [] (codes "engine") d
  lanes ← wanted as_whole [] (codes "lanes") d
  budget ← may_be as_whole (pos 100000) [] (codes "budget") d
  attempts ← may_be as_whole (pos 1000000) [] (codes "attempts") d
  region ← may_be as_whole (pos 65536) [] (codes "region") d
  Ok (record { engine = engine; lanes = lanes; budget = budget; attempts = attempts; region = region })

abbrev pub lists_of : ℤ → Data → Result (List Listed) Refusal
lists_of lanes d = wanted as_list [] (codes "phases") d >>= each_from (lists_of_phase lanes) 0

-- ---- limits: 1 to 16 lanes, at most 10000 phases, and for each call 1 to 1000000 turns and as many attempts; a region has room for
-- the fixed words that a run begins with

-- the most words of a region
abbrev pub region_limit : ℕ
region_limit = 1048576

-- the most bytes of a script
abbrev pub script_limit : ℕ
script_limit = 16777216

abbrev pub numbers_within : Head → Result Head Refusal
numbers_within h =
    within (codes "lanes") (pos 1) (pos 16) h.lanes
    (within (codes "budget") (pos 1) (pos 1000000) h.budget
    (within (codes "attempts") (pos 1) (pos 1000000) h.attempts (Ok h)))

abbrev pub is_within : ℕ → Head → ℕ → Result Head Refusal
is_within fixed head phases = numbers_within head >>= λ h.
    within (codes "region") (pos fixed) (pos region_limit) h.region
    (within (codes "phases") (pos 0) (pos 10000) (pos phases) (Ok h))

-- ---- calls

-- A text names a method by its printed name, CLASS.NAMEDESCRIPTOR: the descriptor begins at the first `(`, and the name behind the last
-- dot before it. So a method can't be named whose class or name has a `(`, or whose name has a dot. 40 and 46 are these two.
abbrev pub can_be_named : MethodName → Bool
can_be_named k = not (list_any (λ c. c == 40) (k.class ++ k.name)) && not (list_any (λ c. c == 46) k.name)

abbrev pub is_called : List ℕ → MethodName → Bool
is_called text k = can_be_named k && bytes_eq (printed k) text

abbrev pub is_static : Dispatch → Bool
is_static dispatch.Static = true
is_static d = false

-- a method which a script may call: a marked static one, which is no static initialiser
abbrev pub is_callable : Method → Bool
is_callable k = is_some k.retries && (is_static k.dispatch && not (names_initialiser k.name))

-- the text that names such a method
abbrev pub call_text : Method → Option (List ℕ)
call_text k = if is_callable k && can_be_named k.name then Some (printed k.name) else None

-- the number of the method that a text names
abbrev pub number_named : Program → List ℕ → Option ℕ
number_named P text = position (λ o. same_text o text) (map call_text P.methods)

-- whether a text names a method of some class, marked or not
abbrev pub names_method : List ClassFile → List ℕ → Bool
names_method cs text = list_any (λ k. is_called text (full_name k)) (methods_in cs)

abbrev pub not_callable : List ClassFile → List ℕ → List ℕ → Refusal
not_callable cs path text = if names_method cs text then NotAtomic path else UnknownMethod path

-- a boolean is passed as 1 or 0
abbrev pub truth_value : Bool → Value
truth_value true = Int (pos 1)
truth_value false = Int (pos 0)

-- a whole number within these limits
abbrev pub as_int : ℤ → ℤ → Data → Option Value
as_int low high d = option_and_then (λ n. if int_le low n && int_le n high then Some (Int n) else None) (as_whole d)

-- a whole number of 64 bits
abbrev pub as_long : Data → Option Value
as_long d = option_and_then (λ n. if int_le (negsuc 9223372036854775807) n && int_le n (pos 9223372036854775807) then Some (Long n) else None) (as_whole d)

-- A value of a type: a boolean is true or false, a reference is null, and each other a whole number of its type. No value is a float or a double.
abbrev pub as_value : FieldType → Data → Option Value
as_value types.Boolean d = option_map truth_value (as_bool d)
as_value types.Byte d = as_int (negsuc 127) (pos 127) d
as_value types.Char d = as_int (pos 0) (pos 65535) d
as_value types.Short d = as_int (negsuc 32767) (pos 32767) d
as_value types.Int d = as_int (negsuc 2147483647) (pos 2147483647) d
as_value types.Long d = as_long d
as_value types.Float d = None
as_value types.Double d = None
as_value (types.Reference n) d = option_map (λ u. Ref 0) (as_null d)

-- the types of the parameters of a method, by its descriptor
abbrev pub types_in : Option Signature → List FieldType
types_in None = []
types_in (Some s) = s.parameters

abbrev pub types_of : Option Method → List FieldType
types_of None = []
types_of (Some k) = types_in (signature_of k.name.descriptor)

-- the argument of a number, for a method whose parameters have these types
abbrev pub value_in : List FieldType → List ℕ → ℕ → Data → Result Value Refusal
value_in types path i d = or_refused (BadArgs (at path i)) (option_and_then (λ t. as_value t d) (slice_get types i))

abbrev pub values_of : List FieldType → List ℕ → List Data → Result (List Value) Refusal
values_of types path args = each_from (value_in types path) 0 args

-- the call that stands at a path: a method of the program, with as many values as it has parameters, of their types
abbrev pub known_at : List ClassFile → Program → List ℕ → Data → Result Known Refusal
known_at cs P path d = must (is_object_of (codes "call" ∷ codes "args" ∷ []) d) (bad_shape path) (do
  text ← wanted as_str path (codes "call") d
  args ← wanted as_list path (codes "args") d
  m ← or_refused (not_callable cs (under path (codes "call")) text) (number_named P text)
  must (nat_eq (length (types_of (method_at P m))) (length args)) (BadArgs (under path (codes "args"))) (do
    values ← values_of (types_of (method_at P m)) (under path (codes "args")) args
    Ok (record { method = m; args = values })))

-- a call of the lane at a path
abbrev pub call_in : List ClassFile → Program → List ℕ → ℕ → Data → Result Known Refusal
call_in cs P path i d = known_at cs P (at path i) d

-- a lane of the phase whose lanes stand at a path
abbrev pub lane_in : List ClassFile → Program → List ℕ → ℕ → List Data → Result (List Known) Refusal
lane_in cs P path l calls = each_from (call_in cs P (at path l)) 0 calls

abbrev pub lanes_of : List ClassFile → Program → ℕ → List (List Data) → Result Phase Refusal
lanes_of cs P p lists = each_from (lane_in cs P (lanes_path p)) 0 lists

abbrev pub bag_of : List ClassFile → Program → ℕ → List Data → Result (List Known) Refusal
bag_of cs P p calls = each_from (call_in cs P (bag_path p)) 0 calls

-- a phase of a script of so many lanes
abbrev pub phase_of : List ClassFile → Program → ℕ → ℕ → Listed → Result ScriptPhase Refusal
phase_of cs P lanes p (InLanes lists) = lanes_of cs P p lists >>= λ ls. Ok (Lanes ls)
phase_of cs P lanes p (InBag calls) = bag_of cs P p calls >>= λ known. Ok (Bag lanes known)

-- ---- scripts

-- the engine, the turns and the attempts that each call may take, how many lanes there are, how many words each region has, and what each phase calls
pub record Script : Type 0 where
  pub engine : EngineKind
  pub budget : ℕ
  pub attempts : ℕ
  pub lanes : ℕ
  pub region : ℕ
  pub phases : List ScriptPhase

-- how many calls a phase has
abbrev pub calls_of : ScriptPhase → ℕ
calls_of phase = sum_by length (lists_in phase)

-- with at most 100000 calls in all
abbrev pub script_with : Head → List ScriptPhase → Result Script Refusal
script_with h phases =
    must (nat_le (sum_by calls_of phases) 100000) (OverLimit (codes "calls") (pos (sum_by calls_of phases)))
    (Ok (record { engine = h.engine; budget = unsigned_abs h.budget; attempts = unsigned_abs h.attempts; lanes = unsigned_abs h.lanes; region = unsigned_abs h.region; phases = phases }))

-- the script of a head and of the lists of its calls
abbrev pub script_of : List ClassFile → Program → Head → List Listed → Result Script Refusal
script_of cs P head lists = do
  h ← is_within (fixed_words cs) head (length lists)
  phases ← each_from (phase_of cs P (unsigned_abs head.lanes)) 0 lists
  script_with h phases

-- the script that data are for classes and their program
abbrev pub script_in : List ClassFile → Program → Data → Result Script Refusal
script_in cs P d = must (is_object_of script_keys d) (bad_shape []) (do
  head ← head_of d
  lists ← lists_of head.lanes d
  script_of cs P head lists)

-- The bytes are a script for classes and their program.
pub record IsScript (cs : List ClassFile) (P : Program) (bytes : List ℕ) (s : Script) : Type 0 where
  pub fits : length bytes ≤ script_limit
  pub text : IsUtf8 bytes
  pub value : Data
  pub value_is : read bytes ≡ Some value
  pub script : script_in cs P value ≡ Ok s

-- The bytes are JSON, but no script: of its rules this is the first that they break.
abbrev pub BreaksRule : List ClassFile → Program → List ℕ → Refusal → Type 0
BreaksRule cs P bytes r = IsUtf8 bytes × ((d : Data) × (read bytes ≡ Some d) × (script_in cs P d ≡ Err r))

-- Why they are none: there are too many, or they are no JSON, or a rule is broken, of which this is the first.
abbrev pub IsFault : List ClassFile → Program → List ℕ → Refusal → Type 0
IsFault cs P bytes r =
    ((script_limit < length bytes) × (r ≡ OverLimit (codes "script") (pos (length bytes))))
    ⊎ ((length bytes ≤ script_limit) × (((IsUtf8 bytes → read bytes ≡ None) × (r ≡ NotJson)) ⊎ BreaksRule cs P bytes r))
