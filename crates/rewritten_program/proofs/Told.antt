-- What is known of a class's rewriting with the symbols of the rewritten classes.
use Rattle.std.proofs.Common.{◌≡◌, ℕ, ℤ, true, List, ◌++◌, length, Option, Some, None, Bool, sym, ap, ◌∙◌}
use Rattle.std.specs.Prelude.{FitsSigned, option_map, option_and_then}
use Rattle.std.specs.Int.{w32}
use Rattle.jmodel.specs.format.ClassFile.{Member, ClassFile}
use Rattle.objects.specs.linking.Classes.{Declared}
use Rattle.objects.specs.linking.Code.{Coded, retries_of}
use Rattle.jmodel.specs.format.Descriptor.{Signature}
use Rattle.objects.specs.semantics.Program.{Method, Program}
use Rattle.objects.specs.typing.Typing.{Table}
use Rattle.objects.specs.linking.Decoding.{Symbols}
use Rattle.objects.specs.linking.Linking.{Body, receiver_types, parameter_types, body_of, method_with, signature_in, shaped, method_of, decoded_member}
use Rattle.objects.specs.rewriting.Relinking.{decoded_or_none, rewritten_symbols}
use Rattle.objects.specs.rewriting.Rewriting.{duplicate}
use Rattle.objects.proofs.Links.{IsLinkedTo, method_from}
use Rattle.member_code.specs.Meaning.{meaning}
use Rattle.field_members.specs.AccessorsLaw.{AreKnown}
use Rattle.retry_wrapper.specs.WrapperLaw.{HasCode, IsRoot}
use Rattle.rewriter.specs.Part.{own_fields}
use Rattle.rewriter.specs.Rewritten.{original_of}
use Rattle.rewritten_program.specs.Keeps.{IsCopy}
use Rattle.rewritten_program.proofs.Placed.{IsPair}

-- With the symbols of a rewritten class, members of its original mean what they meant, or are the roots of wrappers; its own fields are known, and the
-- duplicates mean what these methods give.
pub record IsTold (cs news : List ClassFile) (P : Program) (copy : Method → Table → Method) (c d : ClassFile) (fields : ℕ) : Type 0 where
  pub olds : (m : Member) (k : Method) → IsPair cs P c m k → meaning (rewritten_symbols P cs news d) true m ≡ Some k
  pub roots : (m : Member) (k : Method) (p : IsPair cs P c m k) (attempts : ℤ) → retries_of c.pool m ≡ Some attempts → IsRoot (rewritten_symbols P cs news d) m k (duplicate P p.number)
  pub coded : (m : Member) (k : Method) → IsPair cs P c m k → (attempts : ℤ) → retries_of c.pool m ≡ Some attempts → HasCode c.pool m × FitsSigned w32 attempts
  pub known : AreKnown (rewritten_symbols P cs news d) fields (own_fields P c)
  pub copies : (m : Member) (k : Method) (T : Table) (x : Member) → IsPair cs P c m k → IsCopy (original_of P c (k, m) T) d.pool x → meaning (rewritten_symbols P cs news d) true x ≡ Some (copy k T)

-- a meaning has the attempts that its member makes
pub meant_retries : (s : Symbols) (counted : Bool) (m : Member) (w : Method) → meaning s counted m ≡ Some w → w.retries ≡ retries_of s.class.pool m
meant_retries s counted m w e = by_code (decoded_or_none (decoded_member (record { class = s.class; member = m }))) e
  where
    by_body : (g : Signature) (b : Option Body) → option_map (method_with s counted m g) b ≡ Some w → w.retries ≡ retries_of s.class.pool m
    by_body g None e = cc
    by_body g (Some b) e = let same : method_with s counted m g b ≡ w = cc in ap (λ (k : Method). k.retries) (sym same)

    by_signature : (o : Option Coded) (g : Option Signature) → option_and_then (shaped s counted m o) g ≡ Some w → w.retries ≡ retries_of s.class.pool m
    by_signature o None e = cc
    by_signature o (Some g) e = by_body g (body_of s (length (receiver_types s.classes s.class m ++ parameter_types s.classes g)) o) e

    by_code : (o : Option (Option Coded)) → option_and_then (method_of s counted m) o ≡ Some w → w.retries ≡ retries_of s.class.pool m
    by_code None e = cc
    by_code (Some o) e = by_signature o (signature_in (record { class = s.class; member = m })) e

-- a method of the program makes the attempts that its member makes
pub pair_retries : (cs : List ClassFile) (P : Program) (l : IsLinkedTo cs P) (c : ClassFile) (m : Member) (k : Method) → IsPair cs P c m k → k.retries ≡ retries_of c.pool m
pair_retries cs P l c m k p =
    let f = method_from cs P l p.number k p.is in
    let same : f.member ≡ record { class = c; member = m } = (let a = f.there in let b = p.taken in cc) in
    ap (λ (k : Method). k.retries) f.meant.is ∙ ap (λ (d : Declared). retries_of d.class.pool d.member) same
