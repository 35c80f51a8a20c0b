-- What the flags, the name and the attributes of a duplicate say of it.
use Rattle.std.proofs.Common.{◌≡◌, ℕ, ℤ, Bool, true, false, not, ◌&&◌, ◌||◌, List, [], Option, Some, None, refl, sym, ap, ◌∙◌}
use Rattle.std.specs.Prelude.{pos, bit_and, bytes_eq, codes, nat_eq, ◌==◌, if◌then◌else◌}
use Rattle.std.proofs.lemmas.Nat.{and_assoc, and_or_apart}
use Rattle.std.proofs.lemmas.Slice.Eq.{bytes_eq-Decides}
use Rattle.jmodel.specs.format.ClassFile.{Member, Pool, ClassFile}
use Rattle.jmodel.specs.format.Pool.{utf8, text_or_none}
use Rattle.jmodel.specs.format.ClassRules.{same_text}
use Rattle.objects.specs.linking.Members.{is_static}
use Rattle.jmodel.specs.format.Mark.{all_annotations, retries_in}
use Rattle.objects.specs.linking.Code.{mark_retries, is_initialiser, retries_of}
use Rattle.objects.specs.declared.op.Dispatch.TheVariants as dispatch
use Rattle.objects.specs.linking.Resolution.{is_private, is_abstract_member}
use Rattle.objects.specs.linking.Linking.{dispatch_of, has_no_code}
use Rattle.objects.specs.rewriting.Rewriting.{duplicate_name}
use Rattle.member_code.specs.Coding.{added_method}
use Rattle.dup_methods.specs.Duplicates.{duplicate_flags}

-- ---- flags

-- bits other than 0080 and 1000 stay
flags_stay : (k flags : ℕ) → bit_and 0x1000 k ≡ 0 → bit_and 0xff7f k ≡ k → bit_and (duplicate_flags flags) k ≡ bit_and flags k
flags_stay k flags apart inside = and_or_apart k (bit_and flags 0xff7f) 0x1000 apart ∙ and_assoc k flags 0xff7f ∙ ap (bit_and flags) inside

-- whether a number has bits
abbrev has_bits : ℕ → Bool
has_bits n = not (n == 0)

-- ---- names

-- a duplicate is named as a constructor where its method is
constructor_named : (o : Option (List ℕ)) → same_text (Some (duplicate_name (text_or_none o))) (codes "<init>") ≡ same_text o (codes "<init>")
constructor_named None = refl
constructor_named (Some t) = go (bytes_eq t (codes "<clinit>")) refl
  where
    go : (b : Bool) → bytes_eq t (codes "<clinit>") ≡ b → bytes_eq (if b then codes "__CLINIT__" else t) (codes "<init>") ≡ bytes_eq t (codes "<init>")
    go false e = refl
    go true e = let is : t ≡ codes "<clinit>" = (bytes_eq-Decides t (codes "<clinit>")).0 e in ap (λ (n : List ℕ). bytes_eq n (codes "<init>")) (sym is)

-- no duplicate is named as a static initialiser
not_initialiser : (n : List ℕ) → bytes_eq (duplicate_name n) (codes "<clinit>") ≡ false
not_initialiser n = go (bytes_eq n (codes "<clinit>")) refl
  where
    go : (b : Bool) → bytes_eq n (codes "<clinit>") ≡ b → bytes_eq (if b then codes "__CLINIT__" else n) (codes "<clinit>") ≡ false
    go true e = refl
    go false e = e

-- ---- a duplicate, by what it has of its method

module _ (m x : Member) (flags : x.flags ≡ duplicate_flags m.flags) where
  bits_stay : (k : ℕ) → bit_and 0x1000 k ≡ 0 → bit_and 0xff7f k ≡ k → has_bits (bit_and x.flags k) ≡ has_bits (bit_and m.flags k)
  bits_stay k apart inside = ap (λ (f : ℕ). has_bits (bit_and f k)) flags ∙ ap has_bits (flags_stay k m.flags apart inside)

  pub static_stays : is_static x ≡ is_static m
  static_stays = bits_stay 8 refl refl

  pub code_stays : has_no_code x ≡ has_no_code m
  code_stays = bits_stay 0x500 refl refl

module _ (c d : ClassFile) (m x : Member) (flags : x.flags ≡ duplicate_flags m.flags) (named : utf8 d.pool x.name ≡ Some (duplicate_name (text_or_none (utf8 c.pool m.name)))) where
  pub dispatch_stays : dispatch_of d x ≡ dispatch_of c m
  dispatch_stays =
      ap (λ (b : Bool). if b then dispatch.Static else (if is_private x || same_text (utf8 d.pool x.name) (codes "<init>") then dispatch.Exact else if is_abstract_member x then dispatch.Abstract else dispatch.Virtual)) (static_stays m x flags)
      ∙ ap (λ (b : Bool). if is_static m then dispatch.Static else (if b || same_text (utf8 d.pool x.name) (codes "<init>") then dispatch.Exact else if is_abstract_member x then dispatch.Abstract else dispatch.Virtual)) (bits_stay m x flags 2 refl refl)
      ∙ ap (λ (b : Bool). if is_static m then dispatch.Static else (if is_private m || b then dispatch.Exact else if is_abstract_member x then dispatch.Abstract else dispatch.Virtual))
      (ap (λ (o : Option (List ℕ)). same_text o (codes "<init>")) named ∙ constructor_named (utf8 c.pool m.name))
      ∙ ap (λ (b : Bool). if is_static m then dispatch.Static else (if is_private m || same_text (utf8 c.pool m.name) (codes "<init>") then dispatch.Exact else if b then dispatch.Abstract else dispatch.Virtual)) (bits_stay m x flags 0x400 refl refl)

  second_fails : (x y z : Bool) → y ≡ false → (x && (y && z)) ≡ false
  second_fails true true z h = cc
  second_fails true false z h = refl
  second_fails false y z h = refl

  no_initialiser : is_initialiser d.pool x ≡ false
  no_initialiser = second_fails (nat_eq (bit_and x.flags 0x408) 8) (same_text (utf8 d.pool x.name) (codes "<clinit>")) (same_text (utf8 d.pool x.descriptor) (codes "()V"))
      (ap (λ (o : Option (List ℕ)). same_text o (codes "<clinit>")) named ∙ not_initialiser (text_or_none (utf8 c.pool m.name)))

  -- of a static initialiser a number, else another's
  chosen : (b : Bool) (o : Option ℤ) → b ≡ false → o ≡ None → (if b then Some (pos 2147483647) else o) ≡ None
  chosen b o e f = rw (e, f) refl

  -- a duplicate without a mark makes no attempts
  pub retries_none : mark_retries d.pool x ≡ None → retries_of d.pool x ≡ None
  retries_none e = chosen (is_initialiser d.pool x) (mark_retries d.pool x) no_initialiser e

-- ---- marks

-- a member without attributes has no mark
pub bare_unmarked : (pool : Pool) (flags name descriptor : ℕ) → mark_retries pool (record { flags = flags; name = name; descriptor = descriptor; attributes = [] }) ≡ None
unfolding retries_in all_annotations
bare_unmarked pool flags name descriptor = refl

-- nor has one whose attribute is its Code
pub coded_unmarked : (pool : Pool) (flags name descriptor code : ℕ) (bytes : List ℕ) → utf8 pool code ≡ Some (codes "Code") → mark_retries pool (added_method flags name descriptor code bytes) ≡ None
unfolding retries_in all_annotations
coded_unmarked pool flags name descriptor code bytes c = rw c refl
