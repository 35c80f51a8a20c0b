-- How many places the parameters take that the texts of a pool describe.
use Rattle.std.specs.Prelude.{◌≡◌, ℕ, List, length, take, map, Option, option_map, option_and_then}
use Rattle.jmodel.specs.declared.class_file.Constant.{Constant}
use Rattle.jmodel.specs.format.ClassFile.{Pool}
use Rattle.jmodel.specs.format.Descriptor.{Signature, places_of}
use Rattle.jmodel.specs.format.DescriptorReading.{signature_of}
use Rattle.jmodel.specs.format.Pool.{text_in, utf8}

-- those of a text, None where it is no method descriptor
abbrev pub text_places : List ℕ → Option ℕ
text_places text = option_map (λ (s : Signature). places_of s.parameters) (signature_of text)

-- those of an entry, None where it is no such text
abbrev pub entry_places : Constant → Option ℕ
entry_places c = option_and_then text_places (text_in c)

-- those of the text of an index
abbrev pub places_at : Pool → ℕ → Option ℕ
places_at pool i = option_and_then text_places (utf8 pool i)

-- what is kept is that of the entries at the front of a pool
abbrev pub IsKept : List (Option ℕ) → Pool → Type 0
IsKept kept pool = kept ≡ take (length kept) (map entry_places pool)
