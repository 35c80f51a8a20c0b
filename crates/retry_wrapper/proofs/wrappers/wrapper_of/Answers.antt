use Rattle.std.proofs.Common.{◌<◌, ◌∙◌, ℤ, length, ap, sym, subst, arith, SFits, w32}
use Rattle.std.proofs.lemmas.Int.{to_z-of_z}
use Rattle.member_code.specs.Names.{duplicate_named}
use Rattle.retry_wrapper.proofs.Fits.{same_opening, wrapper_fits}
use Rattle.retry_wrapper.proofs.wrappers.wrapper_of.Goals as goal

pub wrapper_bytes-requires-clause-blocks : goal.wrapper_bytes-requires-clause-blocks
wrapper_bytes-requires-clause-blocks c =
    let short : length c.args.pool.now < 65535 = omega (arith, ap length c.entries.ensures.value, c.entries.ensures.few) in
    let fits : SFits w32 c.in_ok-number.number = subst (λ (z : ℤ). SFits w32 z) (sym c.in_ok-number.ensures.same) (record { sfits = c.in_ok-number.ensures.few }) in
    wrapper_fits c.args.method.now c.args.number c.in_ok-number.number c.args.attempts c.in_ok-duplicate.duplicate c.args.pool.now c.opening_of.new.pool c.ending_of.new.pool c.in_ok-a.a c.in_ok-e.e short c.in_ok-number.ensures.same
    (c.in_ok-duplicate.ensures ∙ ap duplicate_named c.name.ensures) (same_opening _ _ _ _ _ _ (to_z-of_z w32 c.in_ok-number.number fits) (to_z-of_z w32 c.args.attempts c.ranges.attempts) c.in_ok-a.ensures) c.in_ok-e.ensures c.in_ok-want_arguments.ensures.few c.in_ok-want_arguments.ensures.long
