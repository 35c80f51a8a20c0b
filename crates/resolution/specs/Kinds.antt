-- The kinds of constructs of the fields and methods that instructions name.
use Rattle.std.specs.Prelude.{ℕ, List, [], ◌∷◌, Bool, codes}
use Rattle.jmodel.specs.format.ClassFile.{ClassFile}
use Rattle.jmodel.specs.format.Pool.{MemberName}
use Rattle.objects.specs.linking.Resolution.{resolved_field, resolved_method}
use Rattle.objects.specs.linking.Constructs.{is_outside_field, is_library_call, is_unresolved, is_interface_field, is_bad_access, is_bad_call}

abbrev pub access_kinds : List ClassFile → ℕ → MemberName → List (List ℕ × Bool)
access_kinds cs c n = (codes "LibraryCall", is_outside_field cs n) ∷ (codes "Unresolved", is_unresolved cs (resolved_field cs) n)
    ∷ (codes "InterfaceField", is_interface_field cs n) ∷ (codes "BadCall", is_bad_access cs c n) ∷ []

abbrev pub call_kinds : List ClassFile → ClassFile → ℕ → MemberName → List (List ℕ × Bool)
call_kinds cs current c n = (codes "LibraryCall", is_library_call cs n) ∷ (codes "Unresolved", is_unresolved cs (resolved_method cs) n) ∷ (codes "BadCall", is_bad_call cs current c n) ∷ []
