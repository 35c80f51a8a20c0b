-- The types of classes, part by part.
use Rattle.std.proofs.Common.{◌≡◌, ℕ, ◌<◌, List, length, get_or, false, refl}
use Rattle.std.proofs.lemmas.List.{drop_more}
use Rattle.jmodel.specs.format.ClassFile.{ClassFile}
use Rattle.objects.specs.linking.Members.{own_name}
use Rattle.objects.specs.semantics.Program.{Declared, Words, Row}
use Rattle.objects.specs.linking.Resolution.{is_interface}
use Rattle.objects.specs.linking.Layout.{words_upward, names_upward, class_instances, class_row}

-- that of a class which isn't an interface
pub class_row_is : (cs : List ClassFile) (c : ClassFile) (name read : List ℕ) (words : List Declared) (lineage all : List (List ℕ)) → is_interface c ≡ false
    → name ≡ own_name c → read ≡ own_name c → words ≡ words_upward cs (own_name c) → lineage ≡ names_upward cs (own_name c) → all ≡ class_instances cs (own_name c)
    → ◌≡◌ {A = Row} (record { name = name; read = read; holds = Words words; lineage = lineage; instance_of = all }) (class_row cs c)
class_row_is cs c name read words lineage all test p q r s t = rw (test, p, q, r, s, t) refl

-- what stands at a place, whatever stands for it past the end
pub same_item : {A : Type 0} (xs : List A) (i : ℕ) (d e : A) → i < length xs → get_or xs i d ≡ get_or xs i e
same_item xs i d e inside = let one = drop_more xs i d inside in let two = drop_more xs i e inside in cc
