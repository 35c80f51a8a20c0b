-- What a call means, and what is known of its name where it means something.
use Rattle.std.proofs.Common.{◌≡◌, ℕ, List, Option, Some, None, Bool, true, false, refl, ap, ◌∙◌}
use Rattle.std.specs.Prelude.{bytes_eq, codes, if◌then◌else◌, option_map}
use Rattle.jmodel.specs.format.Pool.{MemberName}
use Rattle.objects.specs.declared.op.ContextCall.{ContextCall}
use Rattle.objects.specs.declared.op.Op.TheVariants as op
use Rattle.objects.specs.declared.op.Binary.TheVariants.{Minimum, Maximum}
use Rattle.objects.specs.declared.op.Unary.TheVariants.{Absolute}
use Rattle.objects.specs.typing.TypeOrder.{context_class}
use Rattle.objects.specs.linking.LibraryMethods.{is_library_constructor, is_library_function}
use Rattle.objects.specs.linking.Layout.{class_read}
use Rattle.objects.specs.linking.Decoding.{Symbols, method_number, width_in, function_op, is_get_context, static_call_op, parameter_places, special_call_op, interface_call_op, context_call, virtual_call_op}
use Rattle.rewritten_names.specs.LeadsLaw.{special_number}

-- ---- from numbers

-- a static call of a numbered method
pub static_op : (s : Symbols) (n : MemberName) (m : ℕ) → is_get_context n ≡ false → is_library_function n ≡ false → method_number s n ≡ Some m → static_call_op s n ≡ Some (op.InvokeStatic m)
static_op s n m a b e =
    ap (λ (x : Bool). if x then Some op.GetContext else if is_library_function n then function_op n else option_map op.InvokeStatic (method_number s n)) a
    ∙ ap (λ (x : Bool). if x then function_op n else option_map op.InvokeStatic (method_number s n)) b ∙ ap (option_map op.InvokeStatic) e

-- a call by invokespecial
pub special_op : (s : Symbols) (n : MemberName) (m : ℕ) → is_library_constructor n ≡ false → special_number s n ≡ Some m → special_call_op s n ≡ Some (op.InvokeSpecial m)
special_op s n m a e =
    ap (λ (x : Bool). if x then option_map (λ places. op.InitLibrary n.class places) (parameter_places n.descriptor) else option_map op.InvokeSpecial (special_number s n)) a ∙ ap (option_map op.InvokeSpecial) e

-- a call by invokevirtual
pub virtual_op : (s : Symbols) (n : MemberName) (m : ℕ) → bytes_eq n.class context_class ≡ false → method_number s n ≡ Some m → virtual_call_op s n ≡ Some (op.InvokeVirtual m (class_read s.classes n.class))
virtual_op s n m a e =
    ap (λ (x : Bool). if x then option_map op.Context (context_call n) else option_map (λ m. op.InvokeVirtual m (class_read s.classes n.class)) (method_number s n)) a
    ∙ ap (option_map (λ (m : ℕ). op.InvokeVirtual m (class_read s.classes n.class))) e

-- a call by invokeinterface
pub interface_op : (s : Symbols) (n : MemberName) (m : ℕ) → method_number s n ≡ Some m → interface_call_op s n ≡ Some (op.InvokeInterface m n.class)
interface_op s n m e = ap (option_map (λ (m : ℕ). op.InvokeInterface m n.class)) e

-- ---- to numbers

-- a static call has the number that it means
pub static_number : (s : Symbols) (n : MemberName) (m : ℕ) → static_call_op s n ≡ Some (op.InvokeStatic m) → method_number s n ≡ Some m
static_number s n m e = go (is_get_context n) (is_library_function n) (method_number s n) e
  where
    function : (a b : Bool) → (if a then Some (op.Unary (width_in n.descriptor) Absolute) else if b then Some (op.Binary (width_in n.descriptor) Minimum) else Some (op.Binary (width_in n.descriptor) Maximum)) ≡ Some (op.InvokeStatic m) → ⊥
    function true b e = cc
    function false true e = cc
    function false false e = cc

    go : (a b : Bool) (o : Option ℕ) → (if a then Some op.GetContext else if b then function_op n else option_map op.InvokeStatic o) ≡ Some (op.InvokeStatic m) → o ≡ Some m
    go true b o e = cc
    go false true o e = absurd (function (bytes_eq n.name (codes "abs")) (bytes_eq n.name (codes "min")) e)
    go false false None e = cc
    go false false (Some x) e = let same : x ≡ m = cc in ap (λ (m : ℕ). Some m) same

-- so has one by invokespecial
pub special_number_of : (s : Symbols) (n : MemberName) (m : ℕ) → special_call_op s n ≡ Some (op.InvokeSpecial m) → special_number s n ≡ Some m
special_number_of s n m e = go (is_library_constructor n) (parameter_places n.descriptor) (special_number s n) e
  where
    go : (a : Bool) (p o : Option ℕ) → (if a then option_map (λ places. op.InitLibrary n.class places) p else option_map op.InvokeSpecial o) ≡ Some (op.InvokeSpecial m) → o ≡ Some m
    go true None o e = cc
    go true (Some p) o e = cc
    go false p None e = cc
    go false p (Some x) e = let same : x ≡ m = cc in ap (λ (m : ℕ). Some m) same

-- what a virtual call has
pub record IsVirtual (s : Symbols) (n : MemberName) (m : ℕ) (c : List ℕ) : Type 0 where
  pub other : bytes_eq n.class context_class ≡ false
  pub number : method_number s n ≡ Some m
  pub class : class_read s.classes n.class ≡ c

-- so has one by invokevirtual, with its class
pub virtual_of : (s : Symbols) (n : MemberName) (m : ℕ) (c : List ℕ) → virtual_call_op s n ≡ Some (op.InvokeVirtual m c) → IsVirtual s n m c
virtual_of s n m c e = go (bytes_eq n.class context_class) refl (context_call n) (method_number s n) refl e
  where
    go : (a : Bool) → bytes_eq n.class context_class ≡ a → (p : Option ContextCall) (o : Option ℕ) → method_number s n ≡ o
        → (if a then option_map op.Context p else option_map (λ m. op.InvokeVirtual m (class_read s.classes n.class)) o) ≡ Some (op.InvokeVirtual m c) → IsVirtual s n m c
    go true is None o at e = cc
    go true is (Some p) o at e = cc
    go false is p None at e = cc
    go false is p (Some x) at e =
        let same : x ≡ m = cc in
        record { other = is; number = at ∙ ap (λ (m : ℕ). Some m) same; class = cc }

-- so has one by invokeinterface
pub interface_of : (s : Symbols) (n : MemberName) (m : ℕ) (c : List ℕ) → interface_call_op s n ≡ Some (op.InvokeInterface m c) → (method_number s n ≡ Some m) × (n.class ≡ c)
interface_of s n m c e = go (method_number s n) e
  where
    go : (o : Option ℕ) → option_map (λ m. op.InvokeInterface m n.class) o ≡ Some (op.InvokeInterface m c) → (o ≡ Some m) × (n.class ≡ c)
    go None e = cc
    go (Some x) e = let same : x ≡ m = cc in (ap (λ (m : ℕ). Some m) same, cc)
