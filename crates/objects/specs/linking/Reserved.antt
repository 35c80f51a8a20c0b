-- Names that rewriting keeps for itself, and those of the library.
use Rattle.std.specs.Prelude.{ℕ, List, [], ◌∷◌, Bool, true, false, not, ◌||◌, nat_eq, codes, bytes_eq}
use Rattle.std.specs.List.{list_any, starts_with}
use Rattle.jmodel.specs.declared.class_file.Constant.{Constant}
use Rattle.jmodel.specs.declared.class_file.Constant.TheVariants as constants
use Rattle.objects.specs.linking.Library.{library}

abbrev pub has_part : List ℕ → List ℕ → Bool
has_part part [] = false
has_part part (b ∷ bs) = starts_with nat_eq (b ∷ bs) part || has_part part bs

-- whether a text has a part that rewriting keeps for itself
abbrev pub is_reserved : List ℕ → Bool
is_reserved text = has_part (codes "org/deuce/transaction/") text || has_part (codes "__ADDRESS__") text || has_part (codes "__Getter$") text
    || has_part (codes "__Setter$") text || has_part (codes "__CLASS_BASE__") text || has_part (codes "__CLINIT__") text

-- an entry that isn't a text with a reserved part
abbrev pub is_unreserved : Constant → Bool
is_unreserved (constants.Utf8 text) = not (is_reserved text)
is_unreserved c = true

-- a class's name that no class of the library has
abbrev pub is_free_name : List ℕ → Bool
is_free_name name = not (list_any (bytes_eq name) library)
