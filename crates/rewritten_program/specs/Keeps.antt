-- How a class and its rewriting go together: what each method of the rewriting is, and the pools in between.
use Rattle.std.specs.Prelude.{◌≡◌, ℕ, ℤ, suc, ◌+◌, ◌<◌, List, [], ◌∷◌, ◌++◌, length, take, drop, zip, Some, None, Ok, Bool, slice_get}
use Rattle.std.specs.List.{AllZip}
use Rattle.jmodel.specs.format.ClassFile.{Member, Pool, ClassFile}
use Rattle.objects.specs.linking.Code.{retries_of}
use Rattle.jmodel.specs.format.PoolAdding.{IsLonger}
use Rattle.objects.specs.semantics.Program.{Method, Program}
use Rattle.objects.specs.typing.Typing.{Table}
use Rattle.objects.specs.linking.Linking.{linking}
use Rattle.objects.specs.laws.LinkingLaw.{AreRead}
use Rattle.field_members.specs.Fields.{with_fields}
use Rattle.field_members.specs.FieldsLaw.{Begins}
use Rattle.field_members.specs.Accessors.{with_accessors}
use Rattle.dup_methods.specs.Originals.{Original}
use Rattle.dup_methods.specs.Duplicates.{duplicate_of}
use Rattle.retry_wrapper.specs.Wrappers.{with_wrapper}
use Rattle.array_helper.specs.Helper.{helper_file}
use Rattle.rewriter.specs.Part.{Share, wrapper_count, own_methods, part_of, share_of}
use Rattle.rewriter.specs.Rewritten.{originals, number_behind, id_behind}
use Rattle.rewriter.specs.RewrittenClasses.{rewritten_folder}
use Rattle.rewritten_names.specs.NamesLaw.{AreRewritten}
use Rattle.rewritten_names.specs.LeadsLaw.{AreTexts}

-- ---- old methods

-- The wrapper of a method k, numbered id, in the place of its member m of index i, and the class before and after it was put there.
pub record IsWrapped (c : ClassFile) (Z : Pool) (i id : ℕ) (attempts : ℤ) (k : Method) (m x : Member) : Type 0 where
  pub before : ClassFile
  pub after : ClassFile
  pub longer : IsLonger c.pool before.pool
  pub short : length before.pool < 65535
  pub at : slice_get before.methods i ≡ Some m
  pub made : with_wrapper id attempts k before i ≡ Ok after
  pub there : slice_get after.methods i ≡ Some x
  pub behind : IsLonger after.pool Z

-- What stands in the place of an old method, before which n are taken and id get wrappers: itself, or its wrapper where it makes attempts.
pub record IsOld (P : Program) (c : ClassFile) (Z : Pool) (i n id : ℕ) (m x : Member) : Type 0 where
  pub kept : retries_of c.pool m ≡ None → x ≡ m
  pub wrapped : (attempts : ℤ) → retries_of c.pool m ≡ Some attempts → (k : Method) → slice_get P.methods n ≡ Some k → IsWrapped c Z i id attempts k m x

-- the same of each, with whether it is taken
abbrev pub AreOlds : Program → ClassFile → Pool → (i n id : ℕ) → List (Member × Bool) → List Member → Type 0
AreOlds P c Z i n id [] [] = Unit {0}
AreOlds P c Z i n id [] (x ∷ xs) = ⊥
AreOlds P c Z i n id (m ∷ ms) [] = ⊥
AreOlds P c Z i n id (m ∷ ms) (x ∷ xs) = IsOld P c Z i n id m.0 x × AreOlds P c Z (suc i) (number_behind m.1 n) (id_behind c.pool id m.0) ms xs

-- ---- duplicates

-- the duplicate of an original, with the pools before and behind it
pub record IsCopy (O : Original) (Z : Pool) (m : Member) : Type 0 where
  pub room : ℕ
  pub pool : Pool
  pub after : Pool
  pub longer : IsLonger O.class.pool pool
  pub short : length pool < 65535
  pub made : duplicate_of room O pool ≡ Ok (m, after)
  pub behind : IsLonger after Z

abbrev pub AreCopies : List Original → Pool → List Member → Type 0
AreCopies os Z ms = AllZip (λ (O : Original) (m : Member). IsCopy O Z m) os ms

-- ---- a class

-- A class and its rewriting, which has the old methods at their indexes, then accessors, then the duplicates in their order.
pub record Keeps (P : Program) (c d : ClassFile) (share : Share) (Ts : List Table) : Type 0 where
  pub fielded : ClassFile
  pub addresses : with_fields share.fields c ≡ Ok fielded
  pub begins : Begins fielded d
  pub fielded_methods : fielded.methods ≡ c.methods
  pub fielded_short : length fielded.pool < 65535
  pub accessed : ClassFile
  pub getters : with_accessors share.fields fielded ≡ Ok accessed
  pub accessors : List Member
  pub accessed_methods : accessed.methods ≡ c.methods ++ accessors
  pub accessed_longer : IsLonger accessed.pool d.pool
  pub copies : List Member
  pub are_copies : AreCopies (originals P c (zip share.methods share.members) Ts) d.pool copies
  pub olds : List Member
  pub are_olds : AreOlds P c d.pool 0 share.first share.wrapper (zip c.methods share.flags) olds
  pub methods : d.methods ≡ olds ++ (accessors ++ copies)
  pub longer : IsLonger c.pool d.pool
  pub this_class : d.this_class ≡ c.this_class
  pub super_class : d.super_class ≡ c.super_class
  pub interfaces : d.interfaces ≡ c.interfaces
  pub flags : d.flags ≡ c.flags

-- some of the classes, before which so many methods and so many wrappers are, with the tables of their methods, and their rewritings
abbrev pub AreKept : List ClassFile → Program → (n id : ℕ) → List Table → List ClassFile → List ClassFile → Type 0
AreKept cs P n id Ts [] [] = Unit {0}
AreKept cs P n id Ts [] (d ∷ ds) = ⊥
AreKept cs P n id Ts (c ∷ xs) [] = ⊥
AreKept cs P n id Ts (c ∷ xs) (d ∷ ds) = Keeps P c d (share_of c (part_of cs P n id c)) (take (length (own_methods P c)) Ts)
    × AreKept cs P (n + length (own_methods P c)) (id + wrapper_count (own_methods P c)) (drop (length (own_methods P c)) Ts) xs ds

-- ---- a folder

-- The rewriting of a folder: of each class its rewriting, and behind these the helper of arrays.
pub record IsFolder (cs news : List ClassFile) (P : Program) (Ts : List Table) : Type 0 where
  pub classes : List ClassFile
  pub helper : ClassFile
  pub are : news ≡ classes ++ helper ∷ []
  pub helps : helper_file ≡ Ok helper
  pub kept : AreKept cs P 0 0 Ts cs classes
  pub rewritten : AreRewritten P cs classes helper
  pub texts : AreTexts helper

abbrev pub HeadsLaw : Type 0
HeadsLaw = (cs news : List ClassFile) (P : Program) (Ts : List Table) → AreRead cs → linking cs ≡ Ok (Some P) → rewritten_folder cs P Ts ≡ Ok news → IsFolder cs news P Ts
