-- Which opcodes have which operands, and that each that isn't left out means something.
use Rattle.std.proofs.Common.{◌≡◌, ℕ, ℤ, ◌<◌, ◌≤◌, List, [], ◌∷◌, Option, Some, Bool, true, false, not, nat_le, nat_lt, refl, arith}
use Rattle.std.specs.Prelude.{pos, ◌==◌, ◌&&◌, ◌||◌, if◌then◌else◌, is_some, int_le}
use Rattle.std.specs.List.{list_all}
use Rattle.std.proofs.lemmas.Bool.Decides.{nat_tests}
use Rattle.jmodel.specs.declared.instruction.EntryKind.{EntryKind}
use Rattle.jmodel.specs.declared.instruction.EntryKind.TheVariants as kind
use Rattle.jmodel.specs.declared.instruction.Form.{Form}
use Rattle.jmodel.specs.declared.instruction.Form.TheVariants as form
use Rattle.jmodel.specs.format.Instruction.{table, row_of, form_of}
use Rattle.objects.specs.linking.Constructs.{is_float_op}
use Rattle.objects.specs.linking.Decoding.{is_among, simple_op, local_op, wide_op, jump_to}
use Rattle.objects.proofs.Flags.{all_below, passes_below}

-- ---- opcodes are few

both : (a b : Bool) → (a && b) ≡ true → (a ≡ true) × (b ≡ true)
both true b e = (refl, e)
both false b e = cc

row_few : (c : ℕ) (rs : List (ℕ × Option Form)) → list_all (λ (r : ℕ × Option Form). nat_lt r.0 202) rs ≡ true → (f : Form) → row_of c rs ≡ Some f → c < 202
row_few c [] all f e = cc
row_few c (r ∷ rs) all f e = go (nat_le c r.0) refl e (row_few c rs (both (nat_lt r.0 202) _ all).1 f)
  where
    go : (b : Bool) → nat_le c r.0 ≡ b → (if b then r.1 else row_of c rs) ≡ Some f → (row_of c rs ≡ Some f → c < 202) → c < 202
    go true is e rest =
        let a : c ≤ r.0 = grind (arith, nat_tests) in
        let small = (both (nat_lt r.0 202) (list_all (λ (r : ℕ × Option Form). nat_lt r.0 202) rs) all).0 in
        let b : r.0 < 202 = grind (arith, nat_tests) in
        omega (arith, a, b)
    go false is e rest = rest e

pub few : (c : ℕ) (f : Form) → form_of c ≡ Some f → c < 202
few c f e = row_few c table refl f e

-- what holds of each opcode
implied : (p q : ℕ → Bool) → all_below (λ c. not (p c) || q c) 202 ≡ true → (c : ℕ) → c < 202 → p c ≡ true → q c ≡ true
implied p q all c less h = go (p c) (q c) h (passes_below (λ c. not (p c) || q c) 202 all c less)
  where
    go : (a b : Bool) → a ≡ true → (not a || b) ≡ true → b ≡ true
    go true b e f = f
    go false b e f = cc

-- ---- forms

abbrev pub is_plain : Option Form → Bool
is_plain (Some form.Plain) = true
is_plain f = false

abbrev pub is_number : Option Form → Bool
is_number (Some form.Byte) = true
is_number (Some form.Short) = true
is_number (Some form.ArrayType) = true
is_number f = false

abbrev pub is_local : Option Form → Bool
is_local (Some form.Local) = true
is_local f = false

abbrev pub is_wide_local : Option Form → Bool
is_wide_local (Some form.Local) = true
is_wide_local (Some form.Increment) = true
is_wide_local f = false

abbrev pub is_interface_form : Option Form → Bool
is_interface_form (Some form.Interface) = true
is_interface_form f = false

abbrev pub is_dimensions : Option Form → Bool
is_dimensions (Some form.Dimensions) = true
is_dimensions f = false

abbrev pub is_jump : Option Form → Bool
is_jump (Some form.Jump) = true
is_jump (Some form.FarJump) = true
is_jump f = false

abbrev pub is_kind : EntryKind → EntryKind → Bool
is_kind kind.Single kind.Single = true
is_kind kind.Double kind.Double = true
is_kind kind.Field kind.Field = true
is_kind kind.Method kind.Method = true
is_kind kind.InterfaceMethod kind.InterfaceMethod = true
is_kind kind.Class kind.Class = true
is_kind k l = false

abbrev pub is_entry_form : EntryKind → Option Form → Bool
is_entry_form k (Some (form.ShortEntry l)) = is_kind k l
is_entry_form k (Some (form.Entry l)) = is_kind k l
is_entry_form k f = false

-- ---- what they mean

pub plain_means : (c : ℕ) → c < 202 → is_plain (form_of c) ≡ true → (is_float_op c || (is_among 194 195 c || is_some (simple_op c))) ≡ true
plain_means = implied (λ c. is_plain (form_of c)) (λ c. is_float_op c || (is_among 194 195 c || is_some (simple_op c))) refl

pub number_means : (c : ℕ) → c < 202 → is_number (form_of c) ≡ true → ((c == 16) || ((c == 17) || (c == 188))) ≡ true
number_means = implied (λ c. is_number (form_of c)) (λ c. (c == 16) || ((c == 17) || (c == 188))) refl

pub local_means : (n c : ℕ) → c < 202 → is_local (form_of c) ≡ true → (is_float_op c || ((c == 169) || is_some (local_op c n))) ≡ true
local_means n = implied (λ c. is_local (form_of c)) (λ c. is_float_op c || ((c == 169) || is_some (local_op c n))) refl

pub wide_means : (n : ℕ) (add : ℤ) (c : ℕ) → c < 202 → is_wide_local (form_of c) ≡ true → (is_float_op c || ((c == 169) || is_some (wide_op c n add))) ≡ true
wide_means n add = implied (λ c. is_wide_local (form_of c)) (λ c. is_float_op c || ((c == 169) || is_some (wide_op c n add))) refl

pub interface_means : (c : ℕ) → c < 202 → is_interface_form (form_of c) ≡ true → (c == 185) ≡ true
interface_means = implied (λ c. is_interface_form (form_of c)) (λ c. c == 185) refl

pub dimensions_means : (c : ℕ) → c < 202 → is_dimensions (form_of c) ≡ true → (c == 197) ≡ true
dimensions_means = implied (λ c. is_dimensions (form_of c)) (λ c. c == 197) refl

pub jump_means : (to c : ℕ) → c < 202 → is_jump (form_of c) ≡ true → ((c == 168) || ((c == 201) || is_some (jump_to c to))) ≡ true
jump_means to = implied (λ c. is_jump (form_of c)) (λ c. (c == 168) || ((c == 201) || is_some (jump_to c to))) refl

pub single_means : (c : ℕ) → c < 202 → is_entry_form kind.Single (form_of c) ≡ true → is_among 18 20 c ≡ true
single_means = implied (λ c. is_entry_form kind.Single (form_of c)) (λ c. is_among 18 20 c) refl

pub double_means : (c : ℕ) → c < 202 → is_entry_form kind.Double (form_of c) ≡ true → is_among 18 20 c ≡ true
double_means = implied (λ c. is_entry_form kind.Double (form_of c)) (λ c. is_among 18 20 c) refl

pub field_means : (c : ℕ) → c < 202 → is_entry_form kind.Field (form_of c) ≡ true → ((c == 178) || ((c == 179) || ((c == 180) || (c == 181)))) ≡ true
field_means = implied (λ c. is_entry_form kind.Field (form_of c)) (λ c. (c == 178) || ((c == 179) || ((c == 180) || (c == 181)))) refl

pub method_means : (c : ℕ) → c < 202 → is_entry_form kind.Method (form_of c) ≡ true → ((c == 182) || ((c == 183) || (c == 184))) ≡ true
method_means = implied (λ c. is_entry_form kind.Method (form_of c)) (λ c. (c == 182) || ((c == 183) || (c == 184))) refl

pub class_means : (c : ℕ) → c < 202 → is_entry_form kind.Class (form_of c) ≡ true → ((c == 187) || ((c == 189) || ((c == 192) || (c == 193)))) ≡ true
class_means = implied (λ c. is_entry_form kind.Class (form_of c)) (λ c. (c == 187) || ((c == 189) || ((c == 192) || (c == 193)))) refl

pub no_interface_entry : (c : ℕ) → c < 202 → is_entry_form kind.InterfaceMethod (form_of c) ≡ true → false ≡ true
no_interface_entry = implied (λ c. is_entry_form kind.InterfaceMethod (form_of c)) (λ c. false) refl

-- newarray of what is neither float nor double
pub array_codes : (n : ℕ) → 4 ≤ n → n ≤ 11 → ((int_le (pos 6) (pos n) && int_le (pos n) (pos 7)) || ((n == 4) || ((n == 5) || ((n == 8) || ((n == 9) || ((n == 10) || (n == 11))))))) ≡ true
array_codes n low high =
    let one : nat_le 4 n ≡ true = grind (arith, nat_tests) in
    let less : n < 12 = omega (arith, high) in
    go (nat_le 4 n) _ one (passes_below (λ n. not (nat_le 4 n) || ((int_le (pos 6) (pos n) && int_le (pos n) (pos 7)) || ((n == 4) || ((n == 5) || ((n == 8) || ((n == 9) || ((n == 10) || (n == 11)))))))) 12 refl n less)
  where
    go : (a b : Bool) → a ≡ true → (not a || b) ≡ true → b ≡ true
    go true b e f = f
    go false b e f = cc
