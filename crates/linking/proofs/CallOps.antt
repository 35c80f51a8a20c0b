-- What calls mean, by their kinds.
use Rattle.std.proofs.Common.{◌≡◌, ◌≢◌, ℕ, Bool, true, false, Option, None, sym, ap, arith}
use Rattle.std.specs.Prelude.{◌==◌, if◌then◌else◌, bytes_eq, option_map}
use Rattle.std.proofs.lemmas.Bool.Decides.{nat_tests}
use Rattle.jmodel.specs.format.Pool.{MemberName}
use Rattle.objects.specs.declared.op.Op.{Op}
use Rattle.objects.specs.declared.op.Op.TheVariants as op
use Rattle.objects.specs.typing.TypeOrder.{context_class}
use Rattle.objects.specs.linking.Layout.{class_read}
use Rattle.objects.specs.linking.Decoding.{Symbols, method_number, context_call, virtual_call_op, special_call_op, static_call_op, interface_call_op, call_op}

module _ (s : Symbols) (n : MemberName) where
  abbrev on_context : Option Op
  on_context = option_map op.Context (context_call n)

  abbrev on_object : Option Op
  on_object = option_map (λ m. op.InvokeVirtual m (class_read s.classes n.class)) (method_number s n)

  abbrev by_class : Bool → Option Op
  by_class b = if b then on_context else on_object

  pub of_context : bytes_eq n.class context_class ≡ true → on_context ≡ virtual_call_op s n
  of_context is = sym (ap by_class is)

  pub of_object : bytes_eq n.class context_class ≡ false → on_object ≡ virtual_call_op s n
  of_object is = sym (ap by_class is)

  pub of_virtual : (c : ℕ) → c ≡ 182 → virtual_call_op s n ≡ call_op s c n
  of_virtual c e = ap (λ (k : ℕ). call_op s k n) (sym e)

  pub of_special : (c : ℕ) → c ≡ 183 → special_call_op s n ≡ call_op s c n
  of_special c e = ap (λ (k : ℕ). call_op s k n) (sym e)

  pub of_static : (c : ℕ) → c ≡ 184 → static_call_op s n ≡ call_op s c n
  of_static c e = ap (λ (k : ℕ). call_op s k n) (sym e)

  pub of_interface : (c : ℕ) → c ≡ 185 → interface_call_op s n ≡ call_op s c n
  of_interface c e = ap (λ (k : ℕ). call_op s k n) (sym e)

  pub of_none : (c : ℕ) → c ≢ 182 → c ≢ 183 → c ≢ 184 → c ≢ 185 → None ≡ call_op s c n
  of_none c a b d e = other (virtual_call_op s n) (special_call_op s n) (static_call_op s n) (interface_call_op s n)
    where
      other : (x y z w : Option Op) → None ≡ (if c == 182 then x else if c == 183 then y else if c == 184 then z else if c == 185 then w else None)
      other x y z w = grind (arith, nat_tests)
