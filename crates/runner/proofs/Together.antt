-- What the parts of a run make together.
use Rattle.std.proofs.Common.{◌≡◌, ◌<◌, ℕ, zero, suc, List, [], ◌∷◌, map, length, Option, Some, Ok, inl, inr, refl, sym, ap, ◌∙◌, subst, arith}
use Rattle.std.specs.Prelude.{slice_get, nat_eq, if◌then◌else◌}
use Rattle.std.specs.List.{AllByRecursion}
use Rattle.std.proofs.lemmas.List.{length-map}
use Rattle.jmodel.specs.format.ClassFile.{ClassFile}
use Rattle.objects.specs.linking.Classes.{in_order}
use Rattle.jmodel.specs.declared.value.Answer.{Answer}
use Rattle.jmodel.specs.history.History.{Told}
use Rattle.jmodel.specs.history.Schedule.{ScriptPhase}
use Rattle.jmodel.specs.history.Output.{Line, journal_text, answer_text}
use Rattle.objects.specs.semantics.Program.{Method, Program}
use Rattle.objects.specs.linking.Layout.{opening_state}
use Rattle.objects.specs.linking.Linking.{linking, initialisers_in}
use Rattle.objects.specs.laws.LinkingLaw.{AreRead}
use Rattle.objects.specs.history.Journal.{IsRootCall, IsJournal}
use Rattle.objects.specs.semantics.Opening.{Opening, Fails}
use Rattle.objects.specs.semantics.State.{State}
use Rattle.objects.proofs.Links.{links}
use Rattle.script.specs.Script.{Script, IsScript}
use Rattle.session.specs.declared.record.Record.{Record}
use Rattle.session.specs.Lane.{record_of}
use Rattle.driver.specs.declared.journal.Journal.{Journal}
use Rattle.driver.specs.declared.memory.Memory.{Memory}
use Rattle.driver.specs.Memory.{Holds}
use Rattle.driver.specs.Runs.{HasRun, made_of}
use Rattle.driver.specs.SetUp.{EndsSetUp}
use Rattle.driver.specs.declared.setting_up.SetUpEnd.{SetUpEnd}
use Rattle.driver.specs.declared.setting_up.SetUpEnd.TheVariants as set_ends
use Rattle.runner.specs.declared.outcome.RunEnd.{RunEnd}
use Rattle.runner.specs.declared.outcome.RunEnd.TheVariants as run_ends
use Rattle.runner.specs.Headline.{line_of, name_in, answer_in, AreCountsOf, IsRunOf, IsRunnable}
use Rattle.runner.specs.Kept.{AreOfRun, answer_kept}
use Rattle.runner.specs.Lines.{line_in}
use Rattle.runner.specs.Faults.{IsShut, IsNumbered, IsUnopenedAs, EndsOpening, EndsScript, EndsRun}
use Rattle.runner.proofs.Roots.{all_roots}

-- ---- what is run

-- the lines of what is kept of calls are the lines of the calls
lines_same : (P : Program) (ts : List Told) → map (line_in P) (map record_of ts) ≡ map (line_of P) (map made_of ts)
lines_same P [] = refl
lines_same P (t ∷ ts) = ap (λ (ls : List Line). line_of P (made_of t) ∷ ls) (lines_same P ts)

-- what is kept of the calls of a run is told as the calls are
pub told : (P : Program) (placed unplaced : List Told) (first second : List Record) → first ≡ map record_of placed → second ≡ map record_of unplaced
    → journal_text (map (line_in P) first) (map (line_in P) second) ≡ journal_text (map (line_of P) (map made_of placed)) (map (line_of P) (map made_of unplaced))
told P placed unplaced first second one two =
    ap (λ (rs : List Record). journal_text (map (line_in P) rs) (map (line_in P) second)) one
    ∙ ap (λ (rs : List Record). journal_text (map (line_in P) (map record_of placed)) (map (line_in P) rs)) two
    ∙ ap (λ (ls : List Line). journal_text ls (map (line_in P) (map record_of unplaced))) (lines_same P placed)
    ∙ ap (journal_text (map (line_of P) (map made_of placed))) (lines_same P unplaced)

-- the text of what is kept of a run is its journal
pub is_run_of : (files : List ClassFile) (bytes : List ℕ) (P : Program) (kept : Journal) (text : List ℕ) → AreOfRun files bytes P kept
    → text ≡ journal_text (map (line_in P) kept.placed.items) (map (line_in P) kept.unplaced.items) → IsRunOf files bytes text
is_run_of files bytes P kept text are is = record {
  program = P;
  placed = map made_of are.placed;
  unplaced = map made_of are.unplaced;
  are_calls = are.are_calls;
  is_text = is ∙ told P are.placed are.unplaced kept.placed.items kept.unplaced.items are.placed_are are.unplaced_are;
  lawful = are.lawful;
}

-- the answer of a phase is that which is kept of it
answer_same : (phase : ℕ) (ts : List Told) → answer_kept phase (map record_of ts) ≡ answer_in phase (map made_of ts)
answer_same phase [] = refl
answer_same phase (t ∷ ts) = ap (λ (x : Answer). if nat_eq t.call.phase phase then t.answer else x) (answer_same phase ts)

many : {A B C : Type 0} (f : A → B) (g : A → C) (xs : List A) (ys : List B) → ys ≡ map f xs → length ys ≡ length (map g xs)
many f g xs ys is = ap length is ∙ length-map xs f ∙ sym (length-map xs g)

-- the counts of what is kept of a run are its counts
pub are_counts : (files : List ClassFile) (bytes : List ℕ) (P : Program) (kept : Journal) (phase count shortages : ℕ) (answer : List ℕ) → AreOfRun files bytes P kept
    → count ≡ length kept.placed.items → shortages ≡ length kept.unplaced.items → answer ≡ answer_text (answer_kept phase kept.placed.items)
    → AreCountsOf files bytes phase count shortages answer
are_counts files bytes P kept phase count shortages answer are one two is = record {
  program = P;
  placed = map made_of are.placed;
  unplaced = map made_of are.unplaced;
  are_calls = are.are_calls;
  count_is = one ∙ many record_of made_of are.placed kept.placed.items are.placed_are;
  shortages_are = two ∙ many record_of made_of are.unplaced kept.unplaced.items are.unplaced_are;
  answer_is = is ∙ ap (λ (rs : List Record). answer_text (answer_kept phase rs)) are.placed_are ∙ ap answer_text (answer_same phase are.placed);
  lawful = are.lawful;
}

-- a run of a script's calls on class files that can be run
pub of_run : (bytes : List ℕ) (files : List ClassFile) (P : Program) (s : Script) (seen : List ScriptPhase) (size budget : ℕ) (memory : Memory) (kept : Journal) → IsRunnable files P
    → IsScript (in_order files) P bytes s → seen ≡ s.phases → size ≡ s.region → budget ≡ s.budget → (τ : State)
    → Opening P size budget (opening_state (in_order files)) (initialisers_in (in_order files) P) τ → HasRun P size budget seen memory kept → Holds P size memory τ
    → AreOfRun files bytes P kept
of_run bytes files P s seen size budget memory kept is is_script same room turns τ opens run stands =
    let Opens : ℕ → ℕ → Type 0 = λ n b. Opening P n b (opening_state (in_order files)) (initialisers_in (in_order files) P) τ in
    let placed = map made_of run.placed in
    let unplaced = map made_of run.unplaced in
    let first : IsJournal P size budget τ seen placed unplaced = run.is_journal τ stands in
    let second : IsJournal P s.region budget τ seen placed unplaced = subst (λ (n : ℕ). IsJournal P n budget τ seen placed unplaced) room first in
    let third : IsJournal P s.region s.budget τ seen placed unplaced = subst (λ (b : ℕ). IsJournal P s.region b τ seen placed unplaced) turns second in
    record {
      placed = run.placed;
      unplaced = run.unplaced;
      placed_are = run.placed_are;
      unplaced_are = run.unplaced_are;
      are_calls = record {
        links = is.links;
        script = s;
        is_script = is_script;
        opening = τ;
        opens = subst (Opens s.region) turns (subst (λ (n : ℕ). Opens n budget) room opens);
        is_journal = subst (λ (ks : List ScriptPhase). IsJournal P s.region s.budget τ ks placed unplaced) same third;
      };
      lawful = is;
    }

-- why a script isn't run on class files that can be
pub of_script : (P : Program) (files : List ClassFile) (bytes : List ℕ) (e : RunEnd) → IsRunnable files P → EndsScript P (in_order files) bytes e → EndsRun files bytes e
of_script P files bytes (run_ends.Refused r) is h = absurd h
of_script P files bytes (run_ends.Untyped r) is h = absurd h
of_script P files bytes (run_ends.BadScript r) is h = (P, is, h)
of_script P files bytes (run_ends.Unopened n x) is h = record { program = P; runnable = is; script = h.0; is_script = h.1; shut = h.2 }
of_script P files bytes run_ends.NoMemory is h = tt

-- ---- static initialisers that fail

-- a method by its number
at_number : (ks : List Method) (n : ℕ) → n < length ks → (k : Method) × (slice_get ks n ≡ Some k)
at_number [] n lt = absurd (omega (arith, lt))
at_number (k ∷ ks) zero lt = (k, refl)
at_number (k ∷ ks) (suc n) lt = at_number ks n (omega (arith, lt))

-- the end of a run whose static initialisers fail
pub of_failing : (cs : List ClassFile) (P : Program) (size budget : ℕ) (memory : Memory) (s : SetUpEnd) (e : RunEnd) → IsNumbered P s → EndsSetUp P size budget memory (initialisers_in cs P) s
    → Holds P size memory (opening_state cs) → IsUnopenedAs P s e → EndsOpening P cs size budget e
of_failing cs P size budget memory (set_ends.Failed n x) (run_ends.Refused r) numbered cause stands is = absurd is
of_failing cs P size budget memory (set_ends.Failed n x) (run_ends.Untyped r) numbered cause stands is = absurd is
of_failing cs P size budget memory (set_ends.Failed n x) (run_ends.BadScript r) numbered cause stands is = absurd is
of_failing cs P size budget memory (set_ends.Failed n x) (run_ends.Unopened name y) numbered cause stands is =
    let k = at_number P.methods n numbered in
    let Failing : Answer → Type 0 = λ z. Fails P size budget (opening_state cs) (initialisers_in cs P) n z in
    record {
      number = n;
      method = k.0;
      there = k.1;
      class = is.0 ∙ ap (λ (o : Option Method). (name_in o).class) k.1;
      fails = subst Failing (sym is.1) (cause (opening_state cs) stands);
    }
of_failing cs P size budget memory (set_ends.Failed n x) run_ends.NoMemory numbered cause stands is = tt
of_failing cs P size budget memory set_ends.NoMemory (run_ends.Refused r) numbered cause stands is = absurd is
of_failing cs P size budget memory set_ends.NoMemory (run_ends.Untyped r) numbered cause stands is = absurd is
of_failing cs P size budget memory set_ends.NoMemory (run_ends.BadScript r) numbered cause stands is = absurd is
of_failing cs P size budget memory set_ends.NoMemory (run_ends.Unopened name y) numbered cause stands is = absurd is
of_failing cs P size budget memory set_ends.NoMemory run_ends.NoMemory numbered cause stands is = tt

-- one that fails is one of them
failing : (P : Program) (size budget : ℕ) (Q : ℕ → Type 0) (σ : State) (ms : List ℕ) (n : ℕ) (x : Answer) → AllByRecursion Q ms → Fails P size budget σ ms n x → Q n
failing P size budget Q σ [] n x all h = absurd h
failing P size budget Q σ (m ∷ ms) n x all (inl first) = subst Q (sym first.0) all.0
failing P size budget Q σ (m ∷ ms) n x all (inr (v, ρ, calls, later)) = failing P size budget Q ρ ms n x all.1 later

inside : (ks : List Method) (n : ℕ) (k : Method) → slice_get ks n ≡ Some k → n < length ks
inside [] n k h = cc
inside (k ∷ ks) zero j h = omega arith
inside (k ∷ ks) (suc n) j h = let lt = inside ks n j h in omega (arith, lt)

-- the method of a static initialiser that failed
pub numbered : (cs : List ClassFile) (P : Program) (size budget : ℕ) (memory : Memory) (s : SetUpEnd) → AreRead cs → linking cs ≡ Ok (Some P) → EndsSetUp P size budget memory (initialisers_in cs P) s
    → Holds P size memory (opening_state cs) → IsNumbered P s
numbered cs P size budget memory (set_ends.Failed n x) read is cause stands =
    let root : IsRootCall P n [] = failing P size budget (λ m. IsRootCall P m []) (opening_state cs) (initialisers_in cs P) n x (all_roots cs P read (links cs P is)) (cause (opening_state cs) stands) in
    inside P.methods n root.method root.there
numbered cs P size budget memory set_ends.NoMemory read is cause stands = tt

-- why a script isn't run whose static initialisers fail
pub of_opening : (cs : List ClassFile) (P : Program) (bytes : List ℕ) (s : Script) (size budget : ℕ) (e : RunEnd) → IsScript cs P bytes s → size ≡ s.region → budget ≡ s.budget → EndsOpening P cs size budget e
    → EndsScript P cs bytes e
of_opening cs P bytes s size budget (run_ends.Refused r) is room same h = absurd h
of_opening cs P bytes s size budget (run_ends.Untyped r) is room same h = absurd h
of_opening cs P bytes s size budget (run_ends.BadScript r) is room same h = absurd h
of_opening cs P bytes s size budget (run_ends.Unopened name x) is room same h =
    let Sizes : ℕ → Type 0 = λ n. IsShut P cs n budget name x in
    let Ends : ℕ → Type 0 = λ b. IsShut P cs s.region b name x in
    (s, is, subst Ends same (subst Sizes room h))
of_opening cs P bytes s size budget run_ends.NoMemory is room same h = tt
