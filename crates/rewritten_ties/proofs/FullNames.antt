-- The full name of a member of which the texts are known.
use Rattle.std.proofs.Common.{◌≡◌, ℕ, List, Option, ap, ◌∙◌}
use Rattle.jmodel.specs.format.Pool.{text_or_none, utf8, MemberName}
use Rattle.objects.specs.linking.Members.{own_name}
use Rattle.objects.specs.linking.Classes.{Declared, full_name}
use Rattle.objects.proofs.DeclaredMembers.{HasName}

-- the class, and the texts of the name that it has
pub full_is : (k : Declared) (n : MemberName) (class : List ℕ) → HasName k n → own_name k.class ≡ class → full_name k ≡ record { class = class; name = n.name; descriptor = n.descriptor }
full_is k n class has same =
    ap (λ (t : List ℕ). record { class = t; name = text_or_none (utf8 k.class.pool k.member.name); descriptor = text_or_none (utf8 k.class.pool k.member.descriptor) }) same
    ∙ ap (λ (o : Option (List ℕ)). record { class = class; name = text_or_none o; descriptor = text_or_none (utf8 k.class.pool k.member.descriptor) }) has.name
    ∙ ap (λ (o : Option (List ℕ)). record { class = class; name = n.name; descriptor = text_or_none o }) has.descriptor
