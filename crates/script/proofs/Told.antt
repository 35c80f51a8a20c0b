-- What a refusal says of the rules behind it.
use Rattle.std.proofs.Common.{◌≡◌, Bool, Result, Ok, Err, refl}
use Rattle.jmodel.specs.declared.refusal.Refusal.{Refusal}
use Rattle.jmodel.specs.declared.refusal.Halt.{Halt}
use Rattle.jmodel.specs.declared.refusal.Halt.TheVariants as halts
use Rattle.jmodel.specs.format.Reading.{◌>>=◌, Fails, Gives}
use Rattle.script.specs.Json.{must, Tells, Tests}

-- a test that wasn't passed
pub test_fails : {A : Type 0} (b : Bool) (r : Refusal) (x : Result A Refusal) (h : Halt) → Tells b r h → Fails h (must b r x)
test_fails b r x halts.NoMemory told = tt
test_fails b r x (halts.Refused e) told = rw (told.0, told.1) refl

-- the last test
pub last_test : {X A : Type 0} (y : A) (o : Result X Halt) (b : Bool) (r : Refusal) → Tests o b r → Gives (λ _. y) o (must b r (Ok y))
last_test y (Ok x) b r passed = rw passed refl
last_test y (Err h) b r told = test_fails b r (Ok y) h told

-- what fails first fails
pub first_fails : {A B : Type 0} (x : Result A Refusal) (f : A → Result B Refusal) (h : Halt) → Fails h x → Fails h (x >>= f)
first_fails x f halts.NoMemory fails = tt
first_fails x f (halts.Refused e) fails = rw fails refl

-- what has a value gives what follows from that value
pub goes_on : {A B X : Type 0} (view : X → B) (x : Result A Refusal) (f : A → Result B Refusal) (a : A) (o : Result X Halt) → x ≡ Ok a → Gives view o (f a) → Gives view o (x >>= f)
goes_on view x f a o gives behind = rw gives behind
