-- What the typing of a whole program answers.
use Rattle.std.specs.Prelude.{◌≡◌, ℕ, List, Option, Some, None, true, take, slice_get}
use Rattle.std.specs.List.{AllByRecursion, AllZip}
use Rattle.objects.specs.semantics.Program.{Method, Program, method_at, has_code}
use Rattle.objects.specs.typing.Typing.{Table, IsUntypableAt}
use Rattle.verifier.specs.declared.inference.TypeEnd.{TypeEnd}
use Rattle.verifier.specs.declared.inference.TypeEnd.TheVariants as ends
use Rattle.program_typing.specs.declared.typed.TypeFault.{TypeFault}
use Rattle.program_typing.specs.declared.typed.TypeFault.TheVariants.{Untypable, EarlyStore, NoMemory}
use Rattle.program_typing.specs.Tables.{IsTableOf, AreTables, IsTypedOrBare}
use Rattle.program_typing.specs.Early.{early_store}

-- a method that has code has no typing, and this is the least place such that no table meets the rules up to it
abbrev pub IsUntyped : Program → ℕ → ℕ → Type 0
IsUntyped P m place = (k : Method) → method_at P m ≡ Some k → (has_code (Some k) ≡ true) × IsUntypableAt P k place

-- why a method got no table
abbrev pub EndsTable : Program → ℕ → TypeEnd → Type 0
EndsTable P m (ends.Untypable place) = IsUntyped P m place
EndsTable P m ends.NoMemory = Unit {0}

-- by its narrowest typing, no instruction of a method stores to a field of an object that another constructor has not run over
abbrev pub IsLate : Program → Method → Type 0
IsLate P k = (T : Table) → IsTableOf P k T → early_store P k T ≡ None

-- A program has tables of types, one for each method, and none of its methods makes such a store.
pub record IsTyped (P : Program) : Type 0 where
  pub tables : List Table
  pub narrowest : AreTables P tables
  pub late : AllByRecursion (IsLate P) P.methods

-- Of a program's methods those before this one have typings, or no code; it has code and no typing, from this place on.
pub record IsFirstUntyped (P : Program) (number place : ℕ) : Type 0 where
  pub method : Method
  pub there : slice_get P.methods number ≡ Some method
  pub before : AllByRecursion (IsTypedOrBare P) (take number P.methods)
  pub code : has_code (Some method) ≡ true
  pub untypable : IsUntypableAt P method place

-- Of a program's methods those before this one make no such store, and by its table this is its first instruction that does.
pub record IsEarlyAt (P : Program) (number place : ℕ) : Type 0 where
  pub method : Method
  pub there : slice_get P.methods number ≡ Some method
  pub before : AllByRecursion (IsLate P) (take number P.methods)
  pub table : Table
  pub is_table : IsTableOf P method table
  pub early : early_store P method table ≡ Some place

-- Each method has a typing, or no code, and this is the first instruction that makes such a store.
pub record IsFirstEarly (P : Program) (number place : ℕ) : Type 0 where
  pub typed : AllByRecursion (IsTypedOrBare P) P.methods
  pub at : IsEarlyAt P number place

-- the first such store among the first so many methods
abbrev pub IsEarlyAmong : Program → ℕ → Option (ℕ × ℕ) → Type 0
IsEarlyAmong P n None = AllByRecursion (IsLate P) (take n P.methods)
IsEarlyAmong P n (Some e) = IsEarlyAt P e.0 e.1

-- the first so many methods of a program have these tables, and the first such store of them is this
pub record AreTyped (P : Program) (n : ℕ) (Ts : List Table) (early : Option (ℕ × ℕ)) : Type 0 where
  pub tables : AllZip (IsTableOf P) (take n P.methods) Ts
  pub first : IsEarlyAmong P n early

-- why a program isn't typed
abbrev pub EndsTyped : Program → TypeFault → Type 0
EndsTyped P (Untypable number place) = IsFirstUntyped P number place
EndsTyped P (EarlyStore number place) = IsFirstEarly P number place
EndsTyped P NoMemory = Unit {0}
