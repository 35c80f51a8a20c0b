-- The rewriting of a class with its part of a program, step after step (Korland, Shavit, Felber, MULTIPROG 2010, in this project's form).
use Rattle.std.specs.Prelude.{ℕ, ℤ, suc, ◌+◌, ◌-◌, Bool, List, [], ◌∷◌, zip, Option, Some, None, Result, Ok, if◌then◌else◌, slice_get}
use Rattle.jmodel.specs.declared.refusal.Refusal.{Refusal}
use Rattle.jmodel.specs.format.ClassFile.{Member, Pool, ClassFile}
use Rattle.objects.specs.linking.Code.{is_root, retries_of}
use Rattle.jmodel.specs.format.Reading.{◌>>=◌}
use Rattle.objects.specs.semantics.Program.{Method, Program}
use Rattle.objects.specs.typing.Typing.{Table}
use Rattle.member_code.specs.Growing.{grow_from}
use Rattle.field_members.specs.Fields.{with_fields}
use Rattle.field_members.specs.Accessors.{room_in, and_methods, with_accessors}
use Rattle.dup_methods.specs.Originals.{Original}
use Rattle.dup_methods.specs.Duplicates.{duplicate_of}
use Rattle.retry_wrapper.specs.Wrappers.{with_wrapper}
use Rattle.rewriter.specs.Part.{Part, Share, share_of}

-- ---- duplicates

abbrev pub original_of : Program → ClassFile → (Method × Member) → Table → Original
original_of P c p T = record { program = P; class = c; member = p.1; method = p.0; table = T }

-- methods with their members and tables
abbrev pub originals : Program → ClassFile → List (Method × Member) → List Table → List Original
originals P c [] Ts = []
originals P c (p ∷ ps) [] = original_of P c p [] ∷ originals P c ps []
originals P c (p ∷ ps) (T ∷ Ts) = original_of P c p T ∷ originals P c ps Ts

-- a class with the duplicates of methods
abbrev pub with_duplicates : List Original → ClassFile → Result ClassFile Refusal
with_duplicates os c = grow_from (λ n O. duplicate_of (room_in c - n) O) 0 os c.pool >>= λ all. Ok (and_methods c all.0 all.1)

-- ---- wrappers

-- of a method of the program that may make so many attempts the class's file gets the wrapper, at the method's index
abbrev pub wrapped_if : ℕ → Option ℤ → Option Method → ClassFile → ℕ → Result ClassFile Refusal
wrapped_if id (Some attempts) (Some k) c i = with_wrapper id attempts k c i
wrapped_if id (Some attempts) None c i = Ok c
wrapped_if id None k c i = Ok c

-- the number of the next taken method, behind one that is taken or not
abbrev pub number_behind : Bool → ℕ → ℕ
number_behind taken n = if taken then n + 1 else n

-- the number of the next wrapper
abbrev pub id_behind : Pool → ℕ → Member → ℕ
id_behind pool id m = if is_root pool m then id + 1 else id

-- A class with wrappers in the places of old methods from an index on, each with whether it is taken. Before them so many are taken, and so many get wrappers.
abbrev pub wrapped_from : Program → Pool → (i n id : ℕ) → List (Member × Bool) → ClassFile → Result ClassFile Refusal
wrapped_from P pool i n id [] c = Ok c
wrapped_from P pool i n id (m ∷ ms) c =
    wrapped_if id (retries_of pool m.0) (slice_get P.methods n) c i >>= λ next. wrapped_from P pool (suc i) (number_behind m.1 n) (id_behind pool id m.0) ms next

-- ---- the class

-- The rewriting of a class, whose share of the program this is: the fields that are added for its own, accessors, duplicates by the tables of its methods,
-- and wrappers.
abbrev pub rewritten_share : Program → ClassFile → Share → List Table → Result ClassFile Refusal
rewritten_share P c share Ts = do
  fields ← with_fields share.fields c
  accessors ← with_accessors share.fields fields
  copies ← with_duplicates (originals P c (zip share.methods share.members) Ts) accessors
  wrapped_from P c.pool 0 share.first share.wrapper (zip c.methods share.flags) copies

-- the same of its part
abbrev pub rewritten_part : Program → ClassFile → Part → List Table → Result ClassFile Refusal
rewritten_part P c part Ts = rewritten_share P c (share_of c part) Ts
