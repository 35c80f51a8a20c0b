-- Where the name of a field or a method leads, among the classes and interfaces of a folder (JVM Specification, Java SE 7, sections 5.4.3.2 to
-- 5.4.3.4), and which method runs. Which of them may be used from where (5.4.4) isn't looked at.
use Rattle.std.specs.Prelude.{ℕ, zero, suc, List, [], ◌∷◌, ◌++◌, length, map, find, Option, Some, None, Bool, false, not, ◌==◌, ◌&&◌, ◌||◌, if◌then◌else◌, bit_and, bytes_eq, codes, is_some, option_map, unwrap_or}
use Rattle.std.specs.List.{list_any, flat_map}
use Rattle.jmodel.specs.format.ClassFile.{Member, ClassFile}
use Rattle.jmodel.specs.format.Pool.{class_name, MemberName, text_or_none}
use Rattle.objects.specs.linking.Members.{is_static, own_name, is_member}
use Rattle.objects.specs.linking.Superclasses.{class_named, super_name, with_above, lineage}
use Rattle.objects.specs.linking.Classes.{Declared, declared_in, methods_in}
use Rattle.objects.specs.linking.LibraryMethods.{is_library}

-- ---- classes and interfaces

-- the flag 0200
abbrev pub is_interface : ClassFile → Bool
is_interface c = not (bit_and c.flags 0x200 == 0)

-- whether there is something, of which a test holds
abbrev pub holds_of : {A : Type 0} → (A → Bool) → Option A → Bool
holds_of p None = false
holds_of p (Some x) = p x

-- whether the folder has a class or an interface of a name
abbrev pub is_in_folder : List ClassFile → List ℕ → Bool
is_in_folder cs name = is_some (class_named cs name)

abbrev pub names_interface : List ClassFile → List ℕ → Bool
names_interface cs name = holds_of is_interface (class_named cs name)

-- a class of the folder or of the library
abbrev pub is_known : List ClassFile → List ℕ → Bool
is_known cs name = is_in_folder cs name || is_library name

-- the interfaces that a class lists, in the order of its file
abbrev pub interface_names : ClassFile → List (List ℕ)
interface_names c = map (λ i. text_or_none (class_name c.pool i)) c.interfaces

-- ---- what stands above a class

-- right above it: its interfaces, then its superclass
abbrev pub names_above : ClassFile → List (List ℕ)
names_above c = interface_names c ++ super_name c ∷ []

-- The class of a name, then, of each that stands right above it, all from there upward; at most so many one above another. A name that is
-- none of the folder has nothing above it.
abbrev pub all_upward : List ClassFile → ℕ → List ℕ → List ClassFile
all_upward cs zero name = []
all_upward cs (suc n) name = with_above (λ c. flat_map (all_upward cs n) (names_above c)) (class_named cs name)

-- all of them, where no class is above itself
abbrev pub ancestry : List ClassFile → List ℕ → List ClassFile
ancestry cs name = all_upward cs (length cs) name

-- the classes and interfaces above a class
abbrev pub above : List ClassFile → ClassFile → List ClassFile
above cs c = flat_map (ancestry cs) (names_above c)

-- whether a class is above itself, by superclasses or interfaces
abbrev pub is_above_itself : List ClassFile → ClassFile → Bool
is_above_itself cs c = list_any (λ d. bytes_eq (own_name d) (own_name c)) (above cs c)

-- ---- fields and methods

abbrev pub has_name : MemberName → Declared → Bool
has_name n k = is_member k.class.pool n.name n.descriptor k.member

-- the fields of classes, class by class, those of each in the order of its file
abbrev pub fields_in : List ClassFile → List Declared
fields_in cs = flat_map (λ (c : ClassFile). declared_in c c.fields) cs

-- The field that a name stands for: the first in the named class, then in its interfaces and what is above these, in their order, then in its
-- superclass and what is above that (5.4.3.2).
abbrev pub resolved_field : List ClassFile → MemberName → Option Declared
resolved_field cs n = find (has_name n) (fields_in (ancestry cs n.class))

-- where a method is sought: in the class and its superclasses, then in the interfaces of each of these, with what is above them
abbrev pub method_way : List ClassFile → List ℕ → List ClassFile
method_way cs name = lineage cs name ++ flat_map (λ c. flat_map (ancestry cs) (interface_names c)) (lineage cs name)

-- The method that a name stands for (5.4.3.3, and 5.4.3.4 for an interface). The specification lets any interface give it; that it is the
-- first in this order is this project's own rule.
abbrev pub resolved_method : List ClassFile → MemberName → Option Declared
resolved_method cs n = find (has_name n) (methods_in (method_way cs n.class))

-- ---- which method runs

-- the flags 0002 and 0400
abbrev pub is_private : Member → Bool
is_private m = not (bit_and m.flags 0x2 == 0)

abbrev pub is_abstract_member : Member → Bool
is_abstract_member m = not (bit_and m.flags 0x400 == 0)

-- whether a class's own method may run for calls of another one by name: it is neither private nor static
abbrev pub is_selected_by : MemberName → Declared → Bool
is_selected_by n k = has_name n k && not (is_private k.member || is_static k.member)

-- the first of the name from a class upward that may run
abbrev pub selected_from : List ClassFile → List ℕ → MemberName → Option Declared
selected_from cs class n = find (is_selected_by n) (methods_in (lineage cs class))

-- a class of the name stands above another class, and isn't that one
abbrev pub is_properly_above : List ClassFile → ClassFile → List ℕ → Bool
is_properly_above cs c name = not (bytes_eq (own_name c) name) && list_any (λ d. bytes_eq (own_name d) name) (lineage cs (own_name c))

-- a private method runs itself; else the first from the superclass of the calling class upward
abbrev pub from_above : List ClassFile → ClassFile → MemberName → Declared → Declared
from_above cs c n k = if is_private k.member then k else unwrap_or (selected_from cs (super_name c) n) k

-- The method that invokespecial in a class runs (section 6.5). A constructor, and a method that no class above declares, is the one that the name stands
-- for. Else it is what is selected from the superclass upward; where that is nothing, it is the method that the name stands for. That the flag ACC_SUPER
-- isn't looked at is this project's own rule.
abbrev pub special_method : List ClassFile → ClassFile → MemberName → Option Declared
special_method cs c n =
    option_map (λ k. if not (bytes_eq n.name (codes "<init>")) && is_properly_above cs c (own_name k.class) then from_above cs c n k else k) (resolved_method cs n)
