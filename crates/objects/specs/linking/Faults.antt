-- The first fault of several, and the fault of a mark (JVM Specification, Java SE 7, section 4.7.16).
use Rattle.std.specs.Prelude.{ℕ, List, [], ◌∷◌, Option, Some, None, Result, Ok, Err, Bool, true, false, not, ◌&&◌, ◌||◌, nat_eq, codes, bit_and, pos}
use Rattle.std.specs.Option.{option_or}
use Rattle.jmodel.specs.declared.refusal.Refusal.{Refusal}
use Rattle.jmodel.specs.declared.refusal.Refusal.TheVariants.{BadAnnotation, BadRetries, Construct}
use Rattle.jmodel.specs.format.ClassFile.{ClassFile, Member, Pool}
use Rattle.jmodel.specs.format.Reading.{place}
use Rattle.objects.specs.linking.Members.{name_of}
use Rattle.jmodel.specs.declared.mark.Atomic.{Atomic}
use Rattle.jmodel.specs.declared.mark.AnnotationFault.{AnnotationFault}
use Rattle.jmodel.specs.declared.mark.AnnotationFault.TheVariants.{Bad, Retries}
use Rattle.jmodel.specs.format.Pool.{utf8}
use Rattle.jmodel.specs.format.ClassRules.{same_text}
use Rattle.jmodel.specs.format.Name.{printed}
use Rattle.jmodel.specs.format.Mark.{mark_of}

-- the first fault among items
abbrev pub first_fault : {A : Type 0} → (A → Option Refusal) → List A → Option Refusal
first_fault fault [] = None
first_fault fault (x ∷ xs) = option_or (fault x) (first_fault fault xs)

abbrev pub unless : {A : Type 0} → Option Refusal → Result A Refusal → Result A Refusal
unless None r = r
unless (Some fault) r = Err fault

-- a method with code, without 0100 and 0400, that is neither a constructor nor a static initialiser
abbrev pub may_be_marked : Pool → Member → Bool
may_be_marked pool m = nat_eq (bit_and m.flags 0x500) 0 && not (same_text (utf8 pool m.name) (codes "<init>") || same_text (utf8 pool m.name) (codes "<clinit>"))

-- the fault of annotations and their mark, in the method of this name, which may be marked or not
abbrev pub fault_in : List ℕ → Bool → Result (Option Atomic) AnnotationFault → Option Refusal
fault_in name may (Err (Bad at)) = Some (BadAnnotation name (place at))
fault_in name may (Err (Retries n)) = Some (BadRetries name n)
fault_in name true (Ok (Some a)) = None
fault_in name false (Ok (Some a)) = Some (Construct (codes "AtomicPlace") name (pos 0))
fault_in name may (Ok None) = None

abbrev pub mark_fault : ClassFile → Member → Option Refusal
mark_fault c m = fault_in (printed (name_of c m)) (may_be_marked c.pool m) (mark_of c.pool m)
