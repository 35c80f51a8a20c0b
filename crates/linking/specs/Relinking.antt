-- What methods of rewritten classes mean.
use Rattle.std.specs.Prelude.{ℕ, List, map, Bool, Option, option_map, option_and_then}
use Rattle.jmodel.specs.format.ClassFile.{ClassFile}
use Rattle.objects.specs.linking.Classes.{Declared, full_name}
use Rattle.objects.specs.linking.Each.{each}
use Rattle.objects.specs.semantics.Program.{Row, Field, Method, Program}
use Rattle.objects.specs.linking.Layout.{rows, texts_of, text_places, fields_of}
use Rattle.objects.specs.linking.Linking.{method_of, decoded_member}
use Rattle.objects.specs.rewriting.Relinking.{decoded_or_none}
use Rattle.linking.specs.Numbering.{Numbered, symbols_among}

-- what a method means among classes and the parts of their program, over originals; its frames count or don't
abbrev pub meaning_among : List ClassFile → Numbered → List ClassFile → Bool → Declared → Option Method
meaning_among cs parts originals counted k = option_and_then (method_of (symbols_among cs parts originals k.class) counted k.member) (decoded_or_none (decoded_member k))

-- the parts of a program with these methods
abbrev pub numbered_by : List Row → List (List ℕ) → List Field → List (Declared × Bool) → Numbered
numbered_by types texts fields ms = record { types = types; texts = texts; fields = fields; methods = map full_name (map (λ (p : Declared × Bool). p.0) ms) }

-- what methods of rewritten classes mean over the originals, each with whether its frames count
abbrev pub meanings_over : (originals classes : List ClassFile) → List (Declared × Bool) → Option (List Method)
meanings_over originals cs ms = each (λ (p : Declared × Bool). meaning_among cs (numbered_by (rows originals) (texts_of originals) (fields_of originals) ms) originals p.1 p.0) ms

-- their program, over that of the originals, which has types, texts and fields
abbrev pub program_over : (originals classes : List ClassFile) → List (Declared × Bool) → Option Program
program_over originals cs ms = option_map (λ l. record { types = rows originals; texts = text_places originals; fields = fields_of originals; methods = l }) (meanings_over originals cs ms)
