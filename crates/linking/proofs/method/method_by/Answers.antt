use Rattle.std.proofs.Common.{◌≡◌, ℕ, ◌++◌, length, Option, Some, sym, subst, ap, ◌∙◌}
use Rattle.std.specs.Prelude.{option_map}
use Rattle.std.proofs.lemmas.Result.{err_from_is_err_and}
use Rattle.objects.specs.semantics.Program.{Method}
use Rattle.objects.specs.linking.Linking.{method_with, body_of, receiver_types, parameter_types}
use Rattle.hierarchy.specs.declared.outcome.BuildEnd.{BuildEnd}
use Rattle.hierarchy.specs.declared.outcome.BuildEnd.TheVariants.{Refused, NotBuilt, NoMemory}
use Rattle.hierarchy.specs.Built.{Ends}
use Rattle.linking.proofs.method.method_by.Goals as goal

-- an end of a part is one of the whole
ends_whole : {X Y : Type 0} (f : X → Y) (e : BuildEnd) (o : Option X) → Ends e o → Ends e (option_map f o)
ends_whole f (Refused r) o h = absurd h
ends_whole f NotBuilt o h = ap (option_map f) h
ends_whole f NoMemory o h = tt

pub returns-in_err-shape : goal.returns-in_err-shape
returns-in_err-shape c = let p = err_from_is_err_and c.from_residual.result c.from_residual.ensures.1 in rw (p.1, p.2) tt

pub returns-in_err-body : goal.returns-in_err-body
returns-in_err-body c =
    let s = c.args.symbols.now in
    let means = method_with s c.args.counted c.args.method.now c.args.signature.now in
    let many : c.len.result ≡ length (receiver_types s.classes s.class c.args.method.now ++ parameter_types s.classes c.args.signature.now) = c.len.ensures ∙ c.in_ok-shape.shape.parameters.ok.0 ∙ ap length c.in_ok-shape.ensures.parameters in
    let p = err_from_is_err_and c.from_residual-in_err-body.result c.from_residual-in_err-body.ensures.1 in
    rw (p.1, p.2) (subst (λ (n : ℕ). Ends c.in_err-body.field-0.0 (option_map means (body_of s n c.args.coded.now))) many
    (ends_whole means c.in_err-body.field-0.0 (body_of s c.len.result c.args.coded.now) c.in_err-body.ensures))

pub returns-in_err-make_method : goal.returns-in_err-make_method
returns-in_err-make_method c =
    let p = err_from_is_err_and c.from_residual-in_err-make_method.result c.from_residual-in_err-make_method.ensures.1 in rw (p.1, p.2) tt

pub returns : goal.returns
returns c =
    let s = c.args.symbols.now in
    let means = method_with s c.args.counted c.args.method.now c.args.signature.now in
    let many : c.len.result ≡ length (receiver_types s.classes s.class c.args.method.now ++ parameter_types s.classes c.args.signature.now) = c.len.ensures ∙ c.in_ok-shape.shape.parameters.ok.0 ∙ ap length c.in_ok-shape.ensures.parameters in
    let made = c.in_ok-make_method.ensures c.args.signature.now c.in_ok-shape.ensures.parameters c.in_ok-shape.ensures.gives in
    ap (λ (n : ℕ). option_map means (body_of s n c.args.coded.now)) (sym many) ∙ ap (option_map means) c.in_ok-body.ensures ∙ ap (λ (m : Method). Some m) (sym made)
