-- Reading the parts of a class file that follow its pool.
use Rattle.std.specs.Prelude.{◌≡◌, ℕ, List, [], length, Option, Some, None, Result, Ok, Err, Bool, ◌||◌, ◌&&◌, ◌==◌, nat_lt, nat_le, if◌then◌else◌, is_some}
use Rattle.std.specs.Result.{result_ok}
use Rattle.jmodel.specs.declared.class_file.Handler.{Handler}
use Rattle.jmodel.specs.declared.refusal.NoMemory.{NoMemory}
use Rattle.jmodel.specs.declared.refusal.Refusal.{Refusal}
use Rattle.jmodel.specs.declared.refusal.Refusal.TheVariants.{BadCode}
use Rattle.jmodel.specs.format.ClassFile.{Pool, Attribute, Code}
use Rattle.jmodel.specs.format.Pool.{class_name}
use Rattle.jmodel.specs.format.Reading.{◌>>=◌, run_at, u2_at, u4_at, items_at}
use Rattle.jmodel.specs.format.PoolReading.{utf8_at}

unfoldable pub attribute_at : Pool → List ℕ → ℕ → Result (Attribute × ℕ) Refusal
attribute_at pool bytes at = do
  name ← u2_at bytes at
  text ← utf8_at pool name.0
  len ← u4_at bytes name.1
  run ← run_at bytes len.1 len.0
  Ok (record { name = name.0; bytes = run.0 }, run.1)

unfoldable pub attributes_at : Pool → List ℕ → ℕ → Result (List Attribute × ℕ) Refusal
attributes_at pool bytes at = do
  count ← u2_at bytes at
  items_at (attribute_at pool bytes) count.0 count.1

-- ---- Code

-- whether an entry of an exception table fits code of this length
abbrev pub handler_fits : Pool → ℕ → Handler → Bool
handler_fits pool len h = nat_lt h.start h.end && nat_le h.end len && nat_lt h.handler len && ((h.catch_type == 0) || is_some (class_name pool h.catch_type))

unfoldable pub handler_at : Pool → ℕ → List ℕ → ℕ → Result (Handler × ℕ) Refusal
handler_at pool len bytes at = do
  start ← u2_at bytes at
  end ← u2_at bytes start.1
  handler ← u2_at bytes end.1
  catch_type ← u2_at bytes handler.1
  let h : Handler = record { start = start.0; end = end.0; handler = handler.0; catch_type = catch_type.0 } in if handler_fits pool len h then Ok (h, catch_type.1) else Err (BadCode [])

unfoldable pub handlers_at : Pool → ℕ → List ℕ → ℕ → Result (List Handler × ℕ) Refusal
handlers_at pool len bytes at = do
  count ← u2_at bytes at
  items_at (handler_at pool len bytes) count.0 count.1

-- the code, of 1 to 65535 bytes
unfoldable pub body_at : List ℕ → ℕ → Result (List ℕ × ℕ) Refusal
body_at bytes at = do
  len ← u4_at bytes at
  if (len.0 == 0) || nat_lt 65535 len.0 then Err (BadCode []) else run_at bytes len.1 len.0

-- a Code attribute's bytes, all of them
unfoldable pub code_at : Pool → List ℕ → Result Code Refusal
code_at pool bytes = do
  stack ← u2_at bytes 0
  locals ← u2_at bytes stack.1
  code ← body_at bytes locals.1
  handlers ← handlers_at pool (length code.0) bytes code.1
  attributes ← attributes_at pool bytes handlers.1
  if attributes.1 == length bytes then Ok (record { max_stack = stack.0; max_locals = locals.0; code = code.0; handlers = handlers.0; attributes = attributes.0 }) else Err (BadCode [])

-- the Code that the bytes are
abbrev pub code_of : Pool → List ℕ → Option Code
code_of pool bytes = result_ok (code_at pool bytes)

-- an answer is the Code that was read, unless memory ran out
abbrev pub AnswersCode : Option (Result Code NoMemory) → Option Code → Type 0
AnswersCode None read = read ≡ None
AnswersCode (Some (Ok k)) read = read ≡ Some k
AnswersCode (Some (Err e)) read = Unit {0}

-- a Code that is answered has a property
abbrev pub AnswersCodeAs : Option (Result Code NoMemory) → (Code → Type 0) → Type 0
AnswersCodeAs None P = Unit {0}
AnswersCodeAs (Some (Ok k)) P = P k
AnswersCodeAs (Some (Err e)) P = Unit {0}
