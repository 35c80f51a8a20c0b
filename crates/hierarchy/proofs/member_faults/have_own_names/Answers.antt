use Rattle.std.proofs.Common.{◌≡◌, ℕ, ◌+◌, Bool, true, false, ◌||◌, List, [], ◌∷◌, ◌++◌, map, take, drop, sym, ap, ◌∙◌}
use Rattle.std.specs.Prelude.{bytes_eq}
use Rattle.std.specs.List.{list_any}
use Rattle.std.proofs.lemmas.List.{take_all}
use Rattle.objects.specs.linking.Members.{are_distinct, field_name_of, is_name}
use Rattle.hierarchy.specs.Names.{named, has}
use Rattle.hierarchy.proofs.Bools.{is_true, is_false}
use Rattle.hierarchy.proofs.Each.{map_next}
use Rattle.hierarchy.proofs.Distinct.{repeated, one_more, by_text, any_last, split_at}
use Rattle.hierarchy.proofs.member_faults.have_own_names.Goals as goal

pub loop-field-preserved : goal.loop-field-preserved
loop-field-preserved c =
    let f = field_name_of c.args.pool.now in
    let i : ℕ = c.loop-field.field-index in
    let x = c.field-item.result in
    let own = map f (take i c.args.fields.now) in
    let inv = c.loop-field.invariant in
    let more : map f (take (i + 1) c.args.fields.now) ≡ own ++ f x ∷ [] = map_next f c.args.fields.now i x c.loop-field-test.true c.field-item.is in
    let told : c.text.result.now ≡ f x = c.text.ensures ∙ ap f c.field.view_is in
    let new : has c.loop-field.names (named [] c.text.result.now []) ≡ false = is_false _ (sym c.in_ok-insert.ensures.is_new ∙ c.if-not-branch.false) in
    let fresh : list_any (bytes_eq (f x)) own ≡ false = sym (inv.1 (f x)) ∙ ap (λ (t : List ℕ). has c.loop-field.names (named [] t [])) (sym told) ∙ new in (
      ap are_distinct more ∙ one_more own (f x) inv.0 fresh,
      λ n. c.in_ok-insert.ensures.added (named [] n []) ∙ ap (λ (b : Bool). b || is_name (named [] n []) (named [] c.text.result.now [])) (inv.1 n)
          ∙ ap (λ (b : Bool). list_any (bytes_eq n) own || b) (by_text n c.text.result.now ∙ ap (bytes_eq n) told) ∙ any_last n own (f x) ∙ ap (list_any (bytes_eq n)) (sym more),
    )

pub returns-then-not-branch : goal.returns-then-not-branch
returns-then-not-branch c =
    let f = field_name_of c.args.pool.now in
    let i : ℕ = c.loop-field.field-index in
    let x = c.field-item.result in
    let own = map f (take i c.args.fields.now) in
    let told : c.text.result.now ≡ f x = c.text.ensures ∙ ap f c.field.view_is in
    let old : has c.loop-field.names (named [] c.text.result.now []) ≡ true = is_true _ (sym c.in_ok-insert.ensures.is_new ∙ c.if-not-branch.true) in
    let there : list_any (bytes_eq (f x)) own ≡ true = sym (c.loop-field.invariant.1 (f x)) ∙ ap (λ (t : List ℕ). has c.loop-field.names (named [] t [])) (sym told) ∙ old in
    sym (ap are_distinct (split_at f c.args.fields.now i x c.loop-field-test.true c.field-item.is) ∙ repeated own (f x) (map f (drop (i + 1) c.args.fields.now)) there)

pub returns : goal.returns
returns c =
    let f = field_name_of c.args.pool.now in
    sym (ap (λ l. are_distinct (map f l)) (sym (take_all c.loop-field.field-index c.args.fields.now c.loop-field-test.false)) ∙ c.loop-field.invariant.0)
