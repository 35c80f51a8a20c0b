-- The search for the taken methods of classes.
use Rattle.std.specs.Prelude.{◌≡◌, ℕ, ◌+◌, ◌≤◌, List, [], length, filter, Bool, not, ◌&&◌, ◌||◌, codes, bytes_eq, if◌then◌else◌}
use Rattle.std.specs.List.{AllByRecursion, list_any}
use Rattle.jmodel.specs.declared.instruction.Instr.{Instr}
use Rattle.jmodel.specs.declared.name.MethodName.{MethodName}
use Rattle.jmodel.specs.format.ClassFile.{Pool, ClassFile}
use Rattle.jmodel.specs.format.Pool.{MemberName}
use Rattle.objects.specs.linking.Code.{is_root}
use Rattle.objects.specs.linking.Members.{is_name}
use Rattle.objects.specs.linking.Taken.{invoked, is_named_by, is_taken}
use Rattle.objects.specs.linking.Classes.{Declared, methods_in, full_name}
use Rattle.hierarchy.specs.Names.{has, group_of}

-- A call of a constructor takes that of the named class alone; any other call, each method of the name and the descriptor.
abbrev pub class_for : List ℕ → List ℕ → List ℕ
class_for name class = if bytes_eq name (codes "<init>") then class else []

-- what calls of a method have in common
abbrev pub call_key : MemberName → MethodName
call_key n = record { class = class_for n.name n.class; name = n.name; descriptor = n.descriptor }

abbrev pub method_key : Declared → MethodName
method_key k = record { class = class_for (full_name k).name (full_name k).class; name = (full_name k).name; descriptor = (full_name k).descriptor }

-- whether some instruction calls a method of this name
abbrev pub instrs_call : Pool → List Instr → MethodName → Bool
instrs_call pool is name = list_any (λ (i : Instr). is_named_by (invoked pool i) name) is

abbrev pub is_root_of : Declared → Bool
is_root_of k = is_root k.class.pool k.member

-- Groups have each method that is neither marked nor a static initialiser.
abbrev pub IsGrouped : List Declared → List (MethodName × List Declared) → Type 0
IsGrouped ms groups = (key : MethodName) → group_of groups key ≡ filter (λ m. not (is_root_of m) && is_name key (method_key m)) ms

-- the keys that were called so far, and the methods found whose calls are still to be looked at
pub record State : Type 0 where
  pub called : List MethodName
  pub queue : List Declared

abbrev pub starting : List Declared → State
starting ms = record { called = []; queue = filter is_root_of ms }

-- whether a method was called
abbrev pub is_called : List MethodName → Declared → Bool
is_called called m = has called (method_key m)

-- whether a method is marked or a static initialiser, or was called
abbrev pub is_found : List MethodName → Declared → Bool
is_found called m = is_root_of m || is_called called m

-- whether a method is found by what was called since
abbrev pub is_fresh : List MethodName → List MethodName → Declared → Bool
is_fresh before after m = not (is_found before m) && is_called after m

-- how many methods weren't called
abbrev pub uncalled : List Declared → List MethodName → ℕ
uncalled ms called = length (filter (λ m. not (is_called called m)) ms)

-- What is named is called, and the methods that this finds are to be looked at.
pub record Visits (ms : List Declared) (named : MethodName → Bool) (s t : State) : Type 0 where
  pub called : (m : Declared) → is_called t.called m ≡ (is_called s.called m || named (full_name m))
  pub queue : (test : Declared → Bool) → list_any test t.queue ≡ (list_any test s.queue || list_any test (filter (is_fresh s.called t.called) ms))
  pub less : length t.queue + uncalled ms t.called ≤ length s.queue + uncalled ms s.called

-- What is named is visited, of whatever methods the groups have.
abbrev pub VisitsOf : List (MethodName × List Declared) → (MethodName → Bool) → State → State → Type 0
VisitsOf groups named s t = (ms : List Declared) → IsGrouped ms groups → Visits ms named s t

-- The methods that are marked or static initialisers, or that are called, are the taken ones.
abbrev pub Finds : List ClassFile → List MethodName → Type 0
Finds cs called = AllByRecursion (λ m. is_found called m ≡ is_taken cs m) (methods_in cs)
