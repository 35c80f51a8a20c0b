use Rattle.std.proofs.Common.{◌≡◌, true, false, None, Some, Ok, refl, sym, subst, ◌∙◌}
use Rattle.jmodel.specs.declared.refusal.Halt.{Halt}
use Rattle.jmodel.specs.declared.refusal.Halt.TheVariants.{Refused, NoMemory}
use Rattle.jmodel.specs.format.Reading.{Fails}
use Rattle.objects.specs.linking.Classes.{Declared}
use Rattle.objects.specs.linking.Code.{Coded, decoded}
use Rattle.objects.specs.linking.Linking.{has_no_code, decoded_member}
use Rattle.linking.proofs.decoding.decoded_member.Goals as goal

-- a method that has no code
without : (k : Declared) → has_no_code k.member ≡ true → decoded_member k ≡ Ok None
without k e = rw e refl

-- one whose code is read
with_code : (k : Declared) (x : Coded) → has_no_code k.member ≡ false → decoded k.class k.member ≡ Ok x → decoded_member k ≡ Ok (Some x)
with_code k x e d = rw (e, d) refl

-- one whose code has a fault
halted : (k : Declared) (h : Halt) → has_no_code k.member ≡ false → Fails h (decoded k.class k.member) → Fails h (decoded_member k)
halted k NoMemory e f = tt
halted k (Refused r) e f = rw (e, f) refl

pub returns-then-has_no_code : goal.returns-then-has_no_code
returns-then-has_no_code c =
    subst (λ (k : Declared). decoded_member k ≡ Ok None) c.method.view_is (without (record { class = c.method.inside.class.now; member = c.method.inside.member.now }) (sym c.has_no_code.ensures ∙ c.if-has_no_code.true))

pub returns-in-Ok : goal.returns-in-Ok
returns-in-Ok c =
    subst (λ (k : Declared). decoded_member k ≡ Ok (Some c.in-Ok.coded)) c.method.view_is
    (with_code (record { class = c.method.inside.class.now; member = c.method.inside.member.now }) c.in-Ok.coded (sym c.has_no_code.ensures ∙ c.if-has_no_code.false) c.in-Ok.ensures.gives)

pub returns-in-Err : goal.returns-in-Err
returns-in-Err c =
    subst (λ (k : Declared). Fails c.in-Err.halt (decoded_member k)) c.method.view_is
    (halted (record { class = c.method.inside.class.now; member = c.method.inside.member.now }) c.in-Err.halt (sym c.has_no_code.ensures ∙ c.if-has_no_code.false) c.in-Err.ensures.gives)
