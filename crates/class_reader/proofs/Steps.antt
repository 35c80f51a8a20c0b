-- Steps of reading members.
use Rattle.std.proofs.Common.{◌≡◌, ℕ, Bool, true, false, List, Ok, refl, ap, sym, ◌∙◌}
use Rattle.std.specs.Prelude.{if◌then◌else◌}
use Rattle.jmodel.specs.declared.refusal.Halt.{Halt}
use Rattle.jmodel.specs.declared.refusal.Halt.TheVariants as halts
use Rattle.jmodel.specs.format.ClassFile.{Pool, Attribute}
use Rattle.jmodel.specs.format.DescriptorReading.{is_field_descriptor, is_method_descriptor}
use Rattle.jmodel.specs.format.Reading.{Fails}
use Rattle.jmodel.specs.format.PoolReading.{utf8_at, want_descriptor}
use Rattle.jmodel.specs.format.ClassReading.{attribute_at}
use Rattle.jmodel.specs.format.ClassFileReading.{descriptor_fits, Found, judge, method_attribute_at}
use Rattle.const_pool.specs.Uses.{uses_of, use_at}
use Rattle.const_pool.proofs.Uses.{read_uses}

abbrev pub wanted_kind : Bool → List ℕ → Bool
wanted_kind method = if method then is_method_descriptor else is_field_descriptor

abbrev pub kept_use : Bool → Bool × Bool → Bool
kept_use method u = if method then u.1 else u.0

kept : (pool : Pool) (i : ℕ) (text : List ℕ) (method : Bool) → utf8_at pool i ≡ Ok text → wanted_kind method text ≡ kept_use method (use_at (uses_of pool) i)
kept pool i text true h = (read_uses pool i text h).1
kept pool i text false h = (read_uses pool i text h).0

pub fits_is : (pool : Pool) (i : ℕ) (text : List ℕ) (method b : Bool) → utf8_at pool i ≡ Ok text → b ≡ kept_use method (use_at (uses_of pool) i) → descriptor_fits pool (wanted_kind method) i ≡ want_descriptor b i
unfolding descriptor_fits
fits_is pool i text method b h e = rw h (ap (λ (x : Bool). want_descriptor x i) (kept pool i text method h ∙ sym e))

module _ (pool : Pool) (none : Bool) (who bytes : List ℕ) (found : Bool) (at : ℕ) where
  abbrev pub here : Found
  here = record { found = found; at = at }

  pub attribute_ok : (a : Attribute) (after : ℕ) (now : Bool) → attribute_at pool bytes at ≡ Ok (a, after) → judge pool none who found a ≡ Ok now → method_attribute_at pool none who bytes here ≡ Ok (a, record { found = now; at = after })
  unfolding method_attribute_at
  attribute_ok a after now h j = rw (h, j) refl

  pub attribute_fails : (e : Halt) → Fails e (attribute_at pool bytes at) → Fails e (method_attribute_at pool none who bytes here)
  unfolding method_attribute_at
  attribute_fails halts.NoMemory h = tt
  attribute_fails (halts.Refused f) h = rw h refl

  pub judge_fails : (e : Halt) (a : Attribute) (after : ℕ) → attribute_at pool bytes at ≡ Ok (a, after) → Fails e (judge pool none who found a) → Fails e (method_attribute_at pool none who bytes here)
  unfolding method_attribute_at
  judge_fails halts.NoMemory a after h j = tt
  judge_fails (halts.Refused f) a after h j = rw (h, j) refl
