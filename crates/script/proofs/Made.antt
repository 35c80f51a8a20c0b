-- A script is made of its head and of the lists of its calls, or the first fault is told.
use Rattle.std.proofs.Common.{◌≡◌, ◌∙◌, ℕ, List, length, map, Result, Ok, ap, sym, subst}
use Rattle.std.specs.Prelude.{unsigned_abs}
use Rattle.std.proofs.lemmas.List.{length-map}
use Rattle.jmodel.specs.declared.refusal.Refusal.{Refusal}
use Rattle.jmodel.specs.declared.refusal.Halt.{Halt}
use Rattle.jmodel.specs.format.ClassFile.{ClassFile}
use Rattle.jmodel.specs.format.Reading.{◌>>=◌, Fails, Gives}
use Rattle.jmodel.specs.history.Schedule.{ScriptPhase}
use Rattle.objects.specs.semantics.Program.{Program}
use Rattle.objects.specs.linking.Layout.{fixed_words}
use Rattle.script.specs.Json.{each_from}
use Rattle.script.specs.Script.{Script, is_within, phase_of, script_with, script_of}
use Rattle.script.specs.Scope.{Scope}
use Rattle.script.specs.Seen.{lists}
use Rattle.script.specs.declared.head.Head.{Head}
use Rattle.script.specs.declared.lists.PhaseLists.{PhaseLists}
use Rattle.script.proofs.Told.{first_fails, goes_on}

module _ (cs : List ClassFile) (P : Program) (head : Head) (ls : List PhaseLists) (fixed : ℕ) (fixed_are : fixed ≡ fixed_words cs) where
  abbrev phases_in : Head → Result (List ScriptPhase) Refusal
  phases_in h = each_from (phase_of cs P (unsigned_abs head.lanes)) 0 (map lists ls)

  abbrev behind : Head → Result Script Refusal
  behind h = phases_in h >>= λ phases. script_with h phases

  limits_are : is_within fixed head (length ls) ≡ is_within (fixed_words cs) head (length (map lists ls))
  limits_are =
      ap (λ (k : ℕ). is_within k head (length ls)) fixed_are
      ∙ ap (is_within (fixed_words cs) head) (sym (length-map ls lists))

  -- a number doesn't lie within its limits
  pub limit_passed : (h : Halt) → Fails h (is_within fixed head (length ls)) → Fails h (script_of cs P head (map lists ls))
  limit_passed h fails = first_fails (is_within (fixed_words cs) head (length (map lists ls))) behind h (subst (Fails h) limits_are fails)

  module _ (m : Scope) (lanes : ℕ) (scope : m ≡ record { classes = cs; program = P }) (lanes_are : lanes ≡ unsigned_abs head.lanes) where
    phases_are : each_from (phase_of m.classes m.program lanes) 0 (map lists ls) ≡ phases_in head
    phases_are =
        ap (λ (s : Scope). each_from (phase_of s.classes s.program lanes) 0 (map lists ls)) scope
        ∙ ap (λ (l : ℕ). each_from (phase_of cs P l) 0 (map lists ls)) lanes_are

    -- a phase has a fault
    pub phase_fails : (h : Halt) → is_within fixed head (length ls) ≡ Ok head → Fails h (each_from (phase_of m.classes m.program lanes) 0 (map lists ls)) → Fails h (script_of cs P head (map lists ls))
    phase_fails h within fails =
        subst (λ (x : Result Head Refusal). Fails h (x >>= behind)) (sym within ∙ limits_are)
        (first_fails (phases_in head) (λ phases. script_with head phases) h (subst (Fails h) phases_are fails))

    -- none has
    pub made : (phases : List ScriptPhase) (o : Result Script Halt) → is_within fixed head (length ls) ≡ Ok head → each_from (phase_of m.classes m.program lanes) 0 (map lists ls) ≡ Ok phases
        → Gives (λ s. s) o (script_with head phases) → Gives (λ s. s) o (script_of cs P head (map lists ls))
    made phases o within gives given =
        goes_on (λ s. s) (is_within (fixed_words cs) head (length (map lists ls))) behind head o (sym limits_are ∙ within)
        (goes_on (λ s. s) (phases_in head) (λ phases. script_with head phases) phases o (sym phases_are ∙ gives) given)
