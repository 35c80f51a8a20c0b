-- The fields of a class by the address of its static base.
use Rattle.std.specs.Prelude.{ℕ, suc, List, [], ◌∷◌, Option, Some, None, if◌then◌else◌}
use Rattle.jmodel.specs.format.ClassFile.{Member, ClassFile}
use Rattle.jmodel.specs.format.Pool.{utf8, text_or_none}
use Rattle.objects.specs.linking.Members.{own_name, is_static}
use Rattle.objects.specs.semantics.Program.{Field}
use Rattle.objects.specs.linking.Constructs.{is_floating}
use Rattle.objects.specs.linking.Layout.{declared_as, field_type, if_not}

-- a field that lies at an index of a base, or of each object
abbrev pub slot_record : List ClassFile → ClassFile → Member → Option ℕ → ℕ → Field
slot_record cs c m base index = record {
  class = own_name c;
  name = text_or_none (utf8 c.pool m.name);
  descriptor = text_or_none (utf8 c.pool m.descriptor);
  base = base;
  index = index;
  declared = declared_as cs (field_type c.pool m);
}

-- it, unless it is a float or a double, before others
abbrev pub slot_before : List ClassFile → ClassFile → Member → Option ℕ → ℕ → List Field → List Field
slot_before cs c m base index fields = if_not (is_floating (field_type c.pool m)) (slot_record cs c m base index) fields

-- those of a class with this base that no float or double is, behind so many static ones, and so many words of objects
abbrev pub slots_behind : List ClassFile → ℕ → ClassFile → (statics words : ℕ) → List Member → List Field
slots_behind cs base c s w [] = []
slots_behind cs base c s w (m ∷ ms) =
    if is_static m then slot_before cs c m (Some base) s (slots_behind cs base c (suc s) w ms)
    else slot_before cs c m None w (slots_behind cs base c s (suc w) ms)
