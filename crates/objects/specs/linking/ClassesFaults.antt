-- What is wrong with the classes of a folder before a look at their code: names that rewriting keeps for itself, superclasses and interfaces, marks, and
-- members that are left out for good.
use Rattle.std.specs.Prelude.{ℕ, pos, List, [], ◌∷◌, map, Option, Some, None, Bool, not, ◌==◌, ◌&&◌, ◌||◌, if◌then◌else◌, codes, bytes_eq, bit_and, option_map}
use Rattle.std.specs.List.{list_any, list_all}
use Rattle.std.specs.Option.{option_or}
use Rattle.jmodel.specs.declared.refusal.Refusal.{Refusal}
use Rattle.jmodel.specs.declared.refusal.Refusal.TheVariants.{UnknownClass, BadSuper, Circular, ReservedName, Construct}
use Rattle.jmodel.specs.format.ClassFile.{Member, ClassFile}
use Rattle.jmodel.specs.format.Pool.{utf8}
use Rattle.jmodel.specs.format.ClassRules.{same_text}
use Rattle.jmodel.specs.format.Descriptor.{is_array_name}
use Rattle.objects.specs.linking.Members.{own_name, are_distinct, field_name_of}
use Rattle.objects.specs.linking.Superclasses.{class_named, super_name}
use Rattle.objects.specs.linking.Reserved.{is_unreserved}
use Rattle.objects.specs.linking.Faults.{mark_fault, first_fault}
use Rattle.objects.specs.linking.Classes.{Declared, methods_in}
use Rattle.objects.specs.linking.LibraryMethods.{is_final_library}
use Rattle.objects.specs.linking.Resolution.{is_interface, interface_names, is_known, names_interface, is_above_itself}
use Rattle.objects.specs.linking.Constructs.{first_kind}

-- ---- names that rewriting keeps for itself

abbrev pub reserved_fault : ClassFile → Option Refusal
reserved_fault c = if list_all is_unreserved c.pool then None else Some (ReservedName (own_name c))

-- the first class in the pool of which a text has such a name
abbrev pub reserved_class : List ClassFile → Option Refusal
reserved_class cs = first_fault reserved_fault cs

-- ---- superclasses and interfaces (JVM Specification, Java SE 7, sections 4.1 and 5.3.5)

-- the flag 0010
abbrev pub is_final : ClassFile → Bool
is_final c = not (bit_and c.flags 0x10 == 0)

abbrev pub has_subclasses : List ℕ → Option ClassFile → Bool
has_subclasses name (Some d) = not (is_interface d || is_final d)
has_subclasses name None = not (is_final_library name)

-- whether classes may stand under the class of a name, of the folder or of the library: it is neither an interface nor final
abbrev pub may_be_super : List ClassFile → List ℕ → Bool
may_be_super cs name = has_subclasses name (class_named cs name)

-- a class stands under Object or under such a class, an interface under Object alone
abbrev pub superclass_fault : List ClassFile → ClassFile → Option Refusal
superclass_fault cs c =
    if bytes_eq (super_name c) (codes "java/lang/Object") then None
    else if not (is_known cs (super_name c)) then Some (UnknownClass (super_name c))
    else if is_interface c || not (may_be_super cs (super_name c)) then Some (BadSuper (own_name c) (super_name c))
    else None

-- What a class of this name lists as an interface may be no array type, and no class of the folder or of the library. Any other name is accepted:
-- one that is of neither has no members and nothing above it.
abbrev pub interface_fault : List ClassFile → List ℕ → List ℕ → Option Refusal
interface_fault cs own name =
    if is_array_name name || is_known cs name && not (names_interface cs name) then Some (BadSuper own name) else None

abbrev pub super_fault : List ClassFile → ClassFile → Option Refusal
super_fault cs c = option_or (superclass_fault cs c) (first_fault (interface_fault cs (own_name c)) (interface_names c))

abbrev pub circle_fault : List ClassFile → ClassFile → Option Refusal
circle_fault cs c = if is_above_itself cs c then Some (Circular (own_name c)) else None

-- The first class that has something above it that may not be there, its superclass before its interfaces; where there is none, the first that
-- is above itself.
abbrev pub supers_fault : List ClassFile → Option Refusal
supers_fault cs = option_or (first_fault (super_fault cs) cs) (first_fault (circle_fault cs) cs)

-- ---- marks

-- the first fault of a method's annotations or its mark, of all methods
abbrev pub marks_fault : List ClassFile → Option Refusal
marks_fault cs = first_fault (λ (k : Declared). mark_fault k.class k.member) (methods_in cs)

-- ---- members that are left out

-- an interface with a method of the name of static initialisers
abbrev pub has_interface_init : ClassFile → Bool
has_interface_init c = is_interface c && list_any (λ (m : Member). same_text (utf8 c.pool m.name) (codes "<clinit>")) c.methods

-- two fields of one name, whatever their types
abbrev pub has_twin_fields : ClassFile → Bool
has_twin_fields c = not (are_distinct (map (field_name_of c.pool) c.fields))

abbrev pub member_kinds : ClassFile → List (List ℕ × Bool)
member_kinds c = (codes "InterfaceInit", has_interface_init c) ∷ (codes "TwinField", has_twin_fields c) ∷ []

-- what is left out of the members of a class is told by its name
abbrev pub member_fault : ClassFile → Option Refusal
member_fault c = option_map (λ kind. Construct kind (own_name c) (pos 0)) (first_kind (member_kinds c))

abbrev pub members_fault : List ClassFile → Option Refusal
members_fault cs = first_fault member_fault cs
