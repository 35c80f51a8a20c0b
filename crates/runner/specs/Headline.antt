-- What a run promises: its answers are those of the original methods, called one after another.
use Rattle.std.specs.Prelude.{◌≡◌, Ok, ℕ, List, [], ◌∷◌, length, map, Option, Some, None, nat_eq, if◌then◌else◌}
use Rattle.jmodel.specs.declared.name.MethodName.{MethodName}
use Rattle.jmodel.specs.declared.value.Answer.{Answer}
use Rattle.jmodel.specs.declared.value.Answer.TheVariants.{NoMemory}
use Rattle.jmodel.specs.format.ClassFile.{ClassFile}
use Rattle.objects.specs.linking.Classes.{in_order}
use Rattle.jmodel.specs.history.Output.{Line, journal_text, answer_text}
use Rattle.jmodel.specs.history.Schedule.{Made}
use Rattle.objects.specs.semantics.Program.{Method, Program, method_at}
use Rattle.objects.specs.semantics.State.{State}
use Rattle.objects.specs.linking.Layout.{opening_state}
use Rattle.objects.specs.linking.Linking.{linking_files, program_in, initialisers_in}
use Rattle.objects.specs.semantics.Opening.{Opening}
use Rattle.objects.specs.history.Journal.{IsJournal}
use Rattle.objects.specs.typing.Typing.{Table}
use Rattle.program_typing.specs.Tables.{AreTables}
use Rattle.program_typing.specs.Typed.{IsTyped}
use Rattle.rewriter.specs.RewrittenClasses.{rewritten_folder}
use Rattle.script.specs.Script.{Script, IsScript}

abbrev pub no_name : MethodName
no_name = record { class = []; name = []; descriptor = [] }

abbrev pub name_in : Option Method → MethodName
name_in None = no_name
name_in (Some k) = k.name

-- the line of a call
abbrev pub line_of : Program → Made → Line
line_of P m = record { phase = m.call.phase; lane = m.call.lane; index = m.call.index; method = name_in (method_at P m.call.method); answer = m.answer }

-- The program that the classes of class files mean together, in the order of their names, of which no two are the same; none where they have a fault.
abbrev pub linked_files : List ClassFile → Option Program
linked_files files = program_in (linking_files files)

-- Classes are instrumented so: by the narrowest typings of the methods of their program, their rewriting passes no limit of a class file, and gives these.
abbrev pub IsInstrumented : List ClassFile → Program → List ClassFile → Type 0
IsInstrumented cs P news = (Ts : List Table) → AreTables P Ts → rewritten_folder cs P Ts ≡ Ok news

-- What class files can be run as: their classes mean a program each method of which that has code has a typing, and stores to no field of an object that
-- another constructor has not run over; and they can be instrumented.
pub record IsRunnable (files : List ClassFile) (P : Program) : Type 0 where
  pub links : linked_files files ≡ Some P
  pub typed : IsTyped P
  pub instrumented : List ClassFile
  pub rewriting : IsInstrumented (in_order files) P instrumented

-- The script can be run on the class files: their classes' static initialisers, superclasses first, each return, within the script's turns and
-- the words of a region.
pub record CanRun (files : List ClassFile) (bytes : List ℕ) : Type 0 where
  pub program : Program
  pub runnable : IsRunnable files program
  pub script : Script
  pub is_script : IsScript (in_order files) program bytes script
  pub opening : State
  pub opens : Opening program script.region script.budget (opening_state (in_order files)) (initialisers_in (in_order files) program) opening

-- A run of a script on class files, which mean a program: each call of the script once, placed in an order that keeps the phases' and each lane's, or
-- out of memory. The original methods answer so in that order, from the state that the static initialisers leave.
pub record AreCallsOfRun (files : List ClassFile) (bytes : List ℕ) (P : Program) (placed unplaced : List Made) : Type 0 where
  pub links : linked_files files ≡ Some P
  pub script : Script
  pub is_script : IsScript (in_order files) P bytes script
  pub opening : State
  pub opens : Opening P script.region script.budget (opening_state (in_order files)) (initialisers_in (in_order files) P) opening
  pub is_journal : IsJournal P script.region script.budget opening script.phases placed unplaced

-- The text is the journal of the calls of a run, and the class files are ones that can be run.
pub record IsRunOf (files : List ClassFile) (bytes text : List ℕ) : Type 0 where
  pub program : Program
  pub placed : List Made
  pub unplaced : List Made
  pub are_calls : AreCallsOfRun files bytes program placed unplaced
  pub is_text : text ≡ journal_text (map (line_of program) placed) (map (line_of program) unplaced)
  pub lawful : IsRunnable files program

-- how the first of the calls that is of this phase ended; where there is none, it ran out of memory
abbrev pub answer_in : ℕ → List Made → Answer
answer_in phase [] = NoMemory
answer_in phase (m ∷ ms) = if nat_eq m.call.phase phase then m.answer else answer_in phase ms

-- Of the calls of a run, so many are placed, and so many ran out of memory; the first placed one of this phase ended as the text says. The class files
-- are ones that can be run.
pub record AreCountsOf (files : List ClassFile) (bytes : List ℕ) (phase count shortages : ℕ) (answer : List ℕ) : Type 0 where
  pub program : Program
  pub placed : List Made
  pub unplaced : List Made
  pub are_calls : AreCallsOfRun files bytes program placed unplaced
  pub count_is : count ≡ length placed
  pub shortages_are : shortages ≡ length unplaced
  pub answer_is : answer ≡ answer_text (answer_in phase placed)
  pub lawful : IsRunnable files program
