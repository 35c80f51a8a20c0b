-- What can be run isn't refused.
use Rattle.std.proofs.Common.{◌≡◌, ℕ, List, Option, Some, Result, Ok, Err, true, inl, inr, sym, ◌∙◌, subst}
use Rattle.std.specs.List.{AllByRecursion}
use Rattle.serde_json.specs.Data.{Data}
use Rattle.jmodel.specs.declared.refusal.Refusal.{Refusal}
use Rattle.jmodel.specs.declared.value.Answer.{Answer}
use Rattle.jmodel.specs.format.ClassFile.{ClassFile}
use Rattle.objects.specs.linking.Classes.{in_order}
use Rattle.objects.specs.semantics.Program.{Method, Program, has_code}
use Rattle.objects.specs.linking.Layout.{opening_state}
use Rattle.objects.specs.linking.Linking.{linking_files, program_in, initialisers_in}
use Rattle.objects.specs.semantics.Opening.{Opening}
use Rattle.objects.specs.typing.Typing.{IsTypable}
use Rattle.objects.proofs.Returns.{returns}
use Rattle.program_typing.specs.Tables.{IsTypedOrBare}
use Rattle.program_typing.proofs.Typings.{all_typed as tables_typed}
use Rattle.program_typing.specs.Typed.{IsTyped, IsLate}
use Rattle.script.specs.Script.{Script, script_in, IsScript}
use Rattle.runner.specs.Headline.{linked_files, IsRunnable, CanRun}
use Rattle.runner.specs.Faults.{IsEarlyAs, PassesLimit, IsBadProgram, IsUntypable, IsBadScript, IsUnopened}
use Rattle.runner.proofs.Lists.{all_at}

-- class files mean one program
pub one_program : (files : List ClassFile) (P Q : Program) → linked_files files ≡ Some P → linked_files files ≡ Some Q → P ≡ Q
one_program files P Q p q = let both : Some P ≡ Some Q = sym p ∙ q in cc (both)

faultless : (r : Result (Option Program) Refusal) (P : Program) (f : Refusal) → program_in r ≡ Some P → r ≡ Err f → ⊥
faultless (Ok o) P f h is = cc
faultless (Err e) P f h is = cc

-- a program has no fault that its classes aren't refused for
no_early : (P : Program) (cs : List ClassFile) (r : Refusal) → IsTyped P → IsEarlyAs P cs r → ⊥
no_early P cs r typed e =
    let late : IsLate P e.first.at.method = all_at (IsLate P) P.methods e.number e.first.at.method typed.late e.first.at.there in
    let none = late e.first.at.table e.first.at.is_table in
    let some = e.first.at.early in
    cc

no_limit : (files : List ClassFile) (P : Program) (r : Refusal) → IsRunnable files P → PassesLimit P (in_order files) r → ⊥
no_limit files P r can over =
    let fine = can.rewriting over.typed.tables over.typed.narrowest in
    let limit = over.limit over.typed.tables over.typed.narrowest in
    cc

pub no_bad_program : (files : List ClassFile) (P : Program) (r : Refusal) → IsRunnable files P → IsBadProgram r files → ⊥
no_bad_program files P r can (inl fault) = faultless (linking_files files) P r can.links fault
no_bad_program files P r can (inr (Q, is, inl early)) =
    let same = one_program files Q P is can.links in
    no_early P (in_order files) r can.typed (subst (λ (p : Program). IsEarlyAs p (in_order files) r) same early)
no_bad_program files P r can (inr (Q, is, inr limit)) =
    let same = one_program files Q P is can.links in
    no_limit files P r can (subst (λ (p : Program). PassesLimit p (in_order files) r) same limit)

typable : (P : Program) (k : Method) → has_code (Some k) ≡ true → IsTypedOrBare P k → IsTypable P k
typable P k code h = rw (code) at h

pub all_typed : (files : List ClassFile) (P : Program) (r : Refusal) → IsRunnable files P → IsUntypable r files → ⊥
all_typed files P r can (Q, is, un) =
    let same = one_program files P Q can.links is in
    let typed : AllByRecursion (IsTypedOrBare Q) Q.methods = subst (λ (p : Program). AllByRecursion (IsTypedOrBare p) p.methods) same (tables_typed P can.typed.tables P.methods can.typed.narrowest) in
    let first = un.first in
    let one : IsTypable Q first.method = typable Q first.method first.code (all_at (IsTypedOrBare Q) Q.methods un.number first.method typed first.there) in
    first.untypable.none one.table (record { first = one.typing.first; each = λ pc h le is. one.typing.each pc h is })

-- ---- scripts

-- bytes are one script
one_script : (cs : List ClassFile) (P : Program) (bytes : List ℕ) (s t : Script) → IsScript cs P bytes s → IsScript cs P bytes t → s ≡ t
one_script cs P bytes s t p q =
    let both : Some p.value ≡ Some q.value = sym p.value_is ∙ q.value_is in
    let value : p.value ≡ q.value = cc (both) in
    let done : script_in cs P p.value ≡ Ok t = subst (λ (d : Data). script_in cs P d ≡ Ok t) (sym value) q.script in
    let first = p.script in
    cc (first, done)

-- a script that can be run is none that is refused
pub good_script : (files : List ClassFile) (bytes : List ℕ) (r : Refusal) → CanRun files bytes → IsBadScript bytes r files → ⊥
good_script files bytes r run bad =
    let same = one_program files run.program bad.0 run.runnable.links bad.1.links in
    bad.2.none run.script (subst (λ (p : Program). IsScript (in_order files) p bytes run.script) same run.is_script)

-- and static initialisers that return don't fail
pub opens : (files : List ClassFile) (bytes class : List ℕ) (x : Answer) → CanRun files bytes → IsUnopened bytes class x files → ⊥
opens files bytes class x run shut =
    let cs = in_order files in
    let same = one_program files run.program shut.program run.runnable.links shut.runnable.links in
    let is : IsScript cs shut.program bytes run.script = subst (λ (p : Program). IsScript cs p bytes run.script) same run.is_script in
    let script : run.script ≡ shut.script = one_script cs shut.program bytes run.script shut.script is shut.is_script in
    let Opens : Program → Script → Type 0 = λ p s. Opening p s.region s.budget (opening_state cs) (initialisers_in cs p) run.opening in
    let opened : Opens shut.program shut.script = subst (Opens shut.program) script (subst (λ (p : Program). Opens p run.script) same run.opens) in
    returns shut.program shut.script.region shut.script.budget (opening_state cs) run.opening (initialisers_in cs shut.program) shut.shut.number x opened shut.shut.fails
