-- Instructions at new places with new targets: their sizes stay, and those that reach keep the rule.
use Rattle.std.proofs.Common.{◌≡◌, ℕ, ◌+◌, ◌^◌, ◌<◌, true, ◌&&◌, ℤ, pos, negsuc, List, [], ◌∷◌, length, map, Option, Some, None, refl, sym, ap, ◌∙◌, arith, length-append, FitsSigned}
use Rattle.std.specs.Prelude.{int_le, int_lt}
use Rattle.std.specs.Int.{Width, w8, w16, w32}
use Rattle.std.specs.List.{AllByRecursion}
use Rattle.std.proofs.lemmas.List.{length-map}
use Rattle.std.proofs.lemmas.List.Concat.{flat_map-cons}
use Rattle.std.proofs.lemmas.Int.{ints}
use Rattle.std.proofs.lemmas.Bool.{leb-true}
use Rattle.jmodel.specs.declared.instruction.Form.{Form}
use Rattle.jmodel.specs.declared.instruction.Form.TheVariants as form
use Rattle.jmodel.specs.declared.instruction.Operands.{Operands}
use Rattle.jmodel.specs.declared.instruction.Operands.TheVariants.{Nothing, Number, Local, LocalAdd, Pool, Interface, Dimensions, Target, Table, Lookup, Wide}
use Rattle.jmodel.specs.declared.instruction.Instr.{Instr}
use Rattle.jmodel.specs.format.Instruction.{form_of, distance, zeros, text_as, text, code_text, operands_text, number_text, local_text, increment_text, index_text, interface_text, dimensions_text, target_text, table_text, lookup_text, wide_text, ascend_after, IsNothing, IsNumber, IsArrayType, IsLocal, IsIncrement, IsIndex, IsInterface, IsDimensions, IsWide, IsTable, IsLookup, IsTarget, IsSizedAs, IsInstr}
use Rattle.jmodel.specs.format.Relocation.{put_at, size_at, behind, retarget, retargeted, laid_to, is_near, reaches_as, reaches, IsJump, IsShapedAs, IsShaped}
use Rattle.bytecode.specs.Places.{LeadsInside}
use Rattle.bytecode.proofs.SizeLaws.{table_length, lookup_length}
use Rattle.const_pool.proofs.Entries.{both_true}

module _ (place : ℕ → ℕ) where
  -- ---- sizes

  number_same : (w : Width) (o : Operands) → number_text w (retarget place o) ≡ number_text w o
  number_same w (Target t) = refl
  number_same w o = refl

  local_same : (o : Operands) → local_text (retarget place o) ≡ local_text o
  local_same (Target t) = refl
  local_same o = refl

  increment_same : (o : Operands) → increment_text (retarget place o) ≡ increment_text o
  increment_same (Target t) = refl
  increment_same o = refl

  index_same : (w : Width) (o : Operands) → index_text w (retarget place o) ≡ index_text w o
  index_same w (Target t) = refl
  index_same w o = refl

  interface_same : (o : Operands) → interface_text (retarget place o) ≡ interface_text o
  interface_same (Target t) = refl
  interface_same o = refl

  dimensions_same : (o : Operands) → dimensions_text (retarget place o) ≡ dimensions_text o
  dimensions_same (Target t) = refl
  dimensions_same o = refl

  wide_same : (o : Operands) → wide_text (retarget place o) ≡ wide_text o
  wide_same (Target t) = refl
  wide_same o = refl

  near_long : (pc : ℕ) (o : Operands) → length (target_text w16 pc (retarget place o)) ≡ length (target_text w16 pc o)
  near_long pc (Target t) = refl
  near_long pc o = refl

  far_long : (pc : ℕ) (o : Operands) → length (target_text w32 pc (retarget place o)) ≡ length (target_text w32 pc o)
  far_long pc (Target t) = refl
  far_long pc o = refl

  table_long : (pc : ℕ) (o : Operands) → length (table_text (zeros pc) pc (retarget place o)) ≡ length (table_text (zeros pc) pc o)
  table_long pc (Table other low ts) =
      table_length pc (place other) low (map place ts) ∙ rw length-map (sym (table_length pc other low ts))
  table_long pc o = refl

  lookup_long : (pc : ℕ) (o : Operands) → length (lookup_text (zeros pc) pc (retarget place o)) ≡ length (lookup_text (zeros pc) pc o)
  lookup_long pc (Lookup other ps) =
      lookup_length pc (place other) (map (λ (p : ℤ × ℕ). (p.0, place p.1)) ps) ∙ rw length-map (sym (lookup_length pc other ps))
  lookup_long pc o = refl

  operands_long : (f : Form) (pc : ℕ) (o : Operands) → length (operands_text f (zeros pc) pc (retarget place o)) ≡ length (operands_text f (zeros pc) pc o)
  operands_long form.Plain pc o = refl
  operands_long form.Byte pc o = ap length (number_same w8 o)
  operands_long form.Short pc o = ap length (number_same w16 o)
  operands_long form.ArrayType pc o = ap length (number_same w8 o)
  operands_long form.Local pc o = ap length (local_same o)
  operands_long form.Increment pc o = ap length (increment_same o)
  operands_long (form.ShortEntry k) pc o = ap length (index_same w8 o)
  operands_long (form.Entry k) pc o = ap length (index_same w16 o)
  operands_long form.Interface pc o = ap length (interface_same o)
  operands_long form.Dimensions pc o = ap length (dimensions_same o)
  operands_long form.Jump pc o = near_long pc o
  operands_long form.FarJump pc o = far_long pc o
  operands_long form.Table pc o = table_long pc o
  operands_long form.Lookup pc o = lookup_long pc o
  operands_long form.Wide pc o = ap length (wide_same o)

  text_long : (f : Option Form) (i : Instr) → length (text_as f (zeros i.pc) (retargeted place i)) ≡ length (text_as f (zeros i.pc) i)
  text_long None i = refl
  text_long (Some f) i = omega (arith, operands_long f i.pc i.operands)

  -- the size of an instruction doesn't depend on its targets
  pub size_same : (i : Instr) → length (text (retargeted place i)) ≡ length (text i)
  size_same i = text_long (form_of i.op) i

  pub code_long : (at : ℕ) (is : List Instr) → at + length (code_text (laid_to place at is)) ≡ behind at is
  code_long at [] = omega arith
  code_long at (i ∷ is) =
      let m : Instr = retargeted place (put_at at i) in
      let rest : List ℕ = code_text (laid_to place (at + size_at at i) is) in
      let parts : length (code_text (laid_to place at (i ∷ is))) ≡ length (text m) + length rest = ap length (flat_map-cons text m (laid_to place (at + size_at at i) is)) ∙ length-append (text m) rest in
      omega (arith, parts, size_same (put_at at i), code_long (at + size_at at i) is)

  -- ---- the rule

  near_fits : (z : ℤ) → is_near z ≡ true → FitsSigned w16 z
  near_fits (pos n) e =
      let b = both_true (int_le (negsuc 32767) (pos n)) (int_le (pos n) (pos 32767)) e in
      let small : n < 2 ^ 15 = omega (arith, leb-true n 32767 b.1) in
      omega (arith, small)
  near_fits (negsuc n) e =
      let b = both_true (int_le (negsuc 32767) (negsuc n)) (int_le (negsuc n) (pos 32767)) e in
      let small : n < 2 ^ 15 = omega (arith, leb-true n 32767 b.0) in
      omega (arith, small)

  far_fits : (pc t : ℕ) → pc < 2 ^ 16 → t < 2 ^ 16 → FitsSigned w32 (distance pc t)
  far_fits pc t lt lt' = by_sign (distance pc t) refl where
    by_sign : (z : ℤ) → distance pc t ≡ z → FitsSigned w32 z
    by_sign (pos k) e = let small : k < 2 ^ 31 = omega (arith, ints, e) in omega (arith, small)
    by_sign (negsuc k) e = let small : k < 2 ^ 31 = omega (arith, ints, e) in omega (arith, small)

  jump_fits : (pc : ℕ) (o : Operands) → IsJump o → reaches_as (Some form.Jump) pc (retarget place o) ≡ true → IsTarget w16 pc (retarget place o)
  jump_fits pc (Target t) h e = near_fits (distance pc (place t)) e
  jump_fits pc o h e = absurd h

  far_jump_fits : (pc : ℕ) (o : Operands) → pc < 2 ^ 16 → IsJump o → LeadsInside (retarget place o) → IsTarget w32 pc (retarget place o)
  far_jump_fits pc (Target t) lt h inside = far_fits pc (place t) lt inside
  far_jump_fits pc o lt h inside = absurd h

  table_fits : (o : Operands) → IsTable o → IsTable (retarget place o)
  table_fits (Table other low ts) h = rw length-map (h.0, h.1, h.2)
  table_fits o h = absurd h

  abbrev moved_pair : ℤ × ℕ → ℤ × ℕ
  moved_pair p = (p.0, place p.1)

  keys_ascend : (k : Option ℤ) (ps : List (ℤ × ℕ)) → ascend_after k (map moved_pair ps) ≡ ascend_after k ps
  keys_ascend k [] = refl
  keys_ascend None (p ∷ ps) = keys_ascend (Some p.0) ps
  keys_ascend (Some k) (p ∷ ps) = ap (λ b. int_lt k p.0 && b) (keys_ascend (Some p.0) ps)

  keys_fit : (ps : List (ℤ × ℕ)) → AllByRecursion (λ (p : ℤ × ℕ). FitsSigned w32 p.0) ps → AllByRecursion (λ (p : ℤ × ℕ). FitsSigned w32 p.0) (map moved_pair ps)
  keys_fit [] h = tt
  keys_fit (p ∷ ps) h = (h.0, keys_fit ps h.1)

  lookup_fits : (o : Operands) → IsLookup o → IsLookup (retarget place o)
  lookup_fits (Lookup other ps) h =
      let len : length (map moved_pair ps) ≡ length ps = length-map ps moved_pair in
      let short : length (map moved_pair ps) < 2 ^ 31 = omega (arith, len, h.0) in
      (short, keys_fit ps h.1, keys_ascend None ps ∙ h.2)
  lookup_fits o h = absurd h

  same_nothing : (o : Operands) → IsNothing o → IsNothing (retarget place o)
  same_nothing Nothing h = tt
  same_nothing o h = absurd h

  same_number : (w : Width) (o : Operands) → IsNumber w o → IsNumber w (retarget place o)
  same_number w (Number n) h = h
  same_number w o h = absurd h

  same_array_type : (o : Operands) → IsArrayType o → IsArrayType (retarget place o)
  same_array_type (Number n) h = h
  same_array_type o h = absurd h

  same_local : (o : Operands) → IsLocal o → IsLocal (retarget place o)
  same_local (Local n) h = h
  same_local o h = absurd h

  same_increment : (o : Operands) → IsIncrement o → IsIncrement (retarget place o)
  same_increment (LocalAdd n add) h = h
  same_increment o h = absurd h

  same_index : (limit : ℕ) (o : Operands) → IsIndex limit o → IsIndex limit (retarget place o)
  same_index limit (Pool i) h = h
  same_index limit o h = absurd h

  same_interface : (o : Operands) → IsInterface o → IsInterface (retarget place o)
  same_interface (Interface i count) h = h
  same_interface o h = absurd h

  same_dimensions : (o : Operands) → IsDimensions o → IsDimensions (retarget place o)
  same_dimensions (Dimensions i count) h = h
  same_dimensions o h = absurd h

  same_wide : (o : Operands) → IsWide o → IsWide (retarget place o)
  same_wide (Wide op local add) h = h
  same_wide o h = absurd h

  sized : (pc : ℕ) (f : Option Form) (o : Operands) → pc < 2 ^ 16 → IsShapedAs f o → LeadsInside (retarget place o) → reaches_as f pc (retarget place o) ≡ true → IsSizedAs pc f (retarget place o)
  sized pc None o lt h inside e = absurd h
  sized pc (Some form.Plain) o lt h inside e = same_nothing o h
  sized pc (Some form.Byte) o lt h inside e = same_number w8 o h
  sized pc (Some form.Short) o lt h inside e = same_number w16 o h
  sized pc (Some form.ArrayType) o lt h inside e = same_array_type o h
  sized pc (Some form.Local) o lt h inside e = same_local o h
  sized pc (Some form.Increment) o lt h inside e = same_increment o h
  sized pc (Some (form.ShortEntry k)) o lt h inside e = same_index (2 ^ 8) o h
  sized pc (Some (form.Entry k)) o lt h inside e = same_index (2 ^ 16) o h
  sized pc (Some form.Interface) o lt h inside e = same_interface o h
  sized pc (Some form.Dimensions) o lt h inside e = same_dimensions o h
  sized pc (Some form.Jump) o lt h inside e = jump_fits pc o h e
  sized pc (Some form.FarJump) o lt h inside e = far_jump_fits pc o lt h inside
  sized pc (Some form.Table) o lt h inside e = table_fits o h
  sized pc (Some form.Lookup) o lt h inside e = lookup_fits o h
  sized pc (Some form.Wide) o lt h inside e = same_wide o h

  -- an instruction that reaches keeps the rule
  pub moved_is_instr : (at : ℕ) (i : Instr) → at < 2 ^ 16 → IsShaped i → LeadsInside (retarget place i.operands) → reaches (retargeted place (put_at at i)) ≡ true → IsInstr (retargeted place (put_at at i))
  moved_is_instr at i lt h inside e = record { op = h.op; operands = sized at (form_of i.op) i.operands lt h.operands inside e }
