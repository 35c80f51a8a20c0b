-- What rewritten classes mean as one program, over that of their originals. Behind the methods of its original a rewritten class has its accessors, and
-- then its duplicates; the class of the helper of arrays comes last.
use Rattle.std.specs.Prelude.{ℕ, ◌-◌, ◌*◌, List, ◌++◌, length, map, filter, take, drop, Option, Some, None, Result, Ok, Err, Bool, true, false, not, bytes_eq, option_map, option_and_then}
use Rattle.std.specs.List.{list_any, flat_map}
use Rattle.jmodel.specs.declared.refusal.Refusal.{Refusal}
use Rattle.jmodel.specs.format.ClassFile.{ClassFile}
use Rattle.objects.specs.linking.Members.{own_name}
use Rattle.objects.specs.linking.Classes.{Declared as DeclaredMember, declared_in, full_name}
use Rattle.objects.specs.linking.Code.{Coded, is_root}
use Rattle.objects.specs.linking.Each.{joined, each}
use Rattle.objects.specs.semantics.Program.{Field, Method, Program}
use Rattle.objects.specs.rewriting.Rewriting.{helper_class}
use Rattle.objects.specs.linking.Decoding.{Symbols, is_method}
use Rattle.objects.specs.linking.Linking.{symbols_in, method_of, decoded_member}

-- ---- which methods

-- a method of the original's program
abbrev pub is_of : Program → DeclaredMember → Bool
is_of P k = list_any (λ (o : Method). is_method (full_name k) o.name) P.methods

abbrev pub old_members : Program → ClassFile → List DeclaredMember
old_members P c = filter (is_of P) (declared_in c c.methods)

-- a duplicate for each method of the original's program
abbrev pub duplicates_count : Program → ClassFile → ℕ
duplicates_count P c = length (filter (λ (k : Method). bytes_eq k.name.class (own_name c)) P.methods)

-- a getter and a setter for each field
abbrev pub accessors_count : Program → ClassFile → ℕ
accessors_count P c = 2 * length (filter (λ (f : Field). bytes_eq f.class (own_name c)) P.fields)

abbrev pub duplicate_members : Program → ClassFile → List DeclaredMember
duplicate_members P c = drop (length c.methods - duplicates_count P c) (declared_in c c.methods)

abbrev pub accessor_members : Program → ClassFile → List DeclaredMember
accessor_members P c = take (accessors_count P c) (drop (length c.methods - duplicates_count P c - accessors_count P c) (declared_in c c.methods))

abbrev pub is_helper : ClassFile → Bool
is_helper c = bytes_eq (own_name c) helper_class

abbrev pub helper_members : List ClassFile → List DeclaredMember
helper_members cs = flat_map (λ (c : ClassFile). declared_in c c.methods) (filter is_helper cs)

-- the rewritten classes of the originals
abbrev pub rewritten_classes : List ClassFile → List ClassFile
rewritten_classes cs = filter (λ c. not (is_helper c)) cs

abbrev pub all_old : Program → List ClassFile → List DeclaredMember
all_old P cs = flat_map (old_members P) (rewritten_classes cs)

-- accessors, and the helper's methods: their frames don't count
abbrev pub all_accessors : Program → List ClassFile → List DeclaredMember
all_accessors P cs = flat_map (accessor_members P) (rewritten_classes cs)

abbrev pub all_duplicates : Program → List ClassFile → List DeclaredMember
all_duplicates P cs = flat_map (duplicate_members P) (rewritten_classes cs)

-- in the order of their numbers
abbrev pub all_members : Program → List ClassFile → List DeclaredMember
all_members P cs = all_old P cs ++ all_accessors P cs ++ all_duplicates P cs ++ helper_members cs

-- ---- what they mean

abbrev pub rewritten_symbols : Program → (originals classes : List ClassFile) → ClassFile → Symbols
rewritten_symbols P originals cs c = symbols_in originals cs (map full_name (all_members P cs)) c

abbrev pub decoded_or_none : Result (Option Coded) Refusal → Option (Option Coded)
decoded_or_none (Ok k) = Some k
decoded_or_none (Err r) = None

-- what a method of a rewritten class means, whose frames count or don't
abbrev pub rewritten_meaning : Program → (originals classes : List ClassFile) → Bool → DeclaredMember → Option Method
rewritten_meaning P originals cs counted k =
    option_and_then (method_of (rewritten_symbols P originals cs k.class) counted k.member) (decoded_or_none (decoded_member k))

-- wrappers don't count
abbrev pub is_counted_old : DeclaredMember → Bool
is_counted_old k = not (is_root k.class.pool k.member)

abbrev pub relinked_methods : Program → (originals classes : List ClassFile) → Option (List Method)
relinked_methods P originals cs = joined
    (joined (each (λ k. rewritten_meaning P originals cs (is_counted_old k) k) (all_old P cs)) (each (rewritten_meaning P originals cs false) (all_accessors P cs)))
    (joined (each (rewritten_meaning P originals cs true) (all_duplicates P cs)) (each (rewritten_meaning P originals cs false) (helper_members cs)))

-- The program of rewritten classes, over that of the originals, whose types, texts and fields it has.
abbrev pub relinked : Program → (originals classes : List ClassFile) → Option Program
relinked P originals cs = option_map (λ ms. record P { methods = ms }) (relinked_methods P originals cs)
