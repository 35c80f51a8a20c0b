-- The wrapper that is put in the place of a method's code is that of the method.
use Rattle.std.specs.Prelude.{◌≡◌, ℕ, ℤ, ◌<◌, ◌++◌, length, Option, Some, Ok, true, false, slice_get, option_and_then, codes, FitsSigned}
use Rattle.std.specs.Int.{w32}
use Rattle.std.specs.List.{AllByRecursion, list_any}
use Rattle.jmodel.specs.format.ClassFile.{Member, Pool, ClassFile}
use Rattle.jmodel.specs.format.ClassRules.{IsAttribute, is_named}
use Rattle.jmodel.specs.format.Pool.{MemberName}
use Rattle.objects.specs.linking.Classes.{full_name}
use Rattle.objects.specs.linking.Code.{retries_of}
use Rattle.jmodel.specs.format.Descriptor.{Signature}
use Rattle.jmodel.specs.format.PoolAdding.{IsLonger}
use Rattle.objects.specs.declared.op.Dispatch.{Dispatch}
use Rattle.objects.specs.declared.op.Dispatch.TheVariants as dispatch
use Rattle.objects.specs.declared.op.Op.{Op}
use Rattle.objects.specs.semantics.Program.{Method, Program}
use Rattle.objects.specs.linking.Decoding.{Symbols, static_call_op, special_call_op}
use Rattle.objects.specs.linking.Linking.{dispatch_of, receiver_types, parameter_types, result_type, signature_in, has_no_code}
use Rattle.objects.specs.rewriting.Rewriting.{duplicate, duplicate_name, with_context, invoke, wrapper_method}
use Rattle.member_code.specs.Meaning.{meaning}
use Rattle.retry_wrapper.specs.Wrappers.{with_wrapper}

-- a method of a class file that has a Code
pub record HasCode (pool : Pool) (m : Member) : Type 0 where
  pub flags : has_no_code m ≡ false
  pub attributes : AllByRecursion (IsAttribute pool) m.attributes
  pub there : list_any (is_named pool (codes "Code")) m.attributes ≡ true

-- how code names the duplicate of a method
abbrev pub duplicate_of : Method → MemberName
duplicate_of k = record { class = k.name.class; name = duplicate_name k.name.name; descriptor = with_context k.name.descriptor }

-- what the call of it means: it is called as the method is, by its name
abbrev pub call_op : Symbols → Dispatch → MemberName → Option Op
call_op s dispatch.Static n = static_call_op s n
call_op s d n = special_call_op s n

-- What the symbols of a rewritten class say of a method of its old file: it reads as the program's method k but for its code, and the name of its duplicate
-- leads to the method with the number d.
pub record IsRoot (s : Symbols) (m : Member) (k : Method) (d : ℕ) : Type 0 where
  pub name : full_name (record { class = s.class; member = m }) ≡ k.name
  pub dispatch : dispatch_of s.class m ≡ k.dispatch
  pub signature : Signature
  pub signed : signature_in (record { class = s.class; member = m }) ≡ Some signature
  pub parameters : receiver_types s.classes s.class m ++ parameter_types s.classes signature ≡ k.parameters
  pub places : length k.parameters ≡ k.places
  pub result : result_type s.classes signature ≡ k.result
  pub retries : retries_of s.class.pool m ≡ k.retries
  pub duplicate : call_op s k.dispatch (duplicate_of k) ≡ Some (invoke k.dispatch d)

-- With the symbols of a rewritten class, whose pool is that of the class with the wrapper and perhaps more, the method of this index means the wrapper of
-- method j of a program.
abbrev pub WrapperLaw : Type 0
WrapperLaw = (P : Program) (n j i : ℕ) (attempts : ℤ) (k : Method) (m : Member) (old new : ClassFile) (s : Symbols) → length old.pool < 65535 → FitsSigned w32 attempts → slice_get old.methods i ≡ Some m → HasCode old.pool m
    → with_wrapper n attempts k old i ≡ Ok new → IsLonger new.pool s.class.pool → IsRoot s m k (duplicate P j)
    → option_and_then (meaning s false) (slice_get new.methods i) ≡ Some (wrapper_method P n j attempts k)
