use Rattle.std.proofs.Common.{◌≡◌, ◌∙◌, ℕ, List, Some, None, ap, sym, subst}
use Rattle.std.specs.Prelude.{is_some, option_copied}
use Rattle.std.specs.BTreeMap.{is_at}
use Rattle.std.specs.Map.{lookup}
use Rattle.jmodel.specs.format.ClassFile.{ClassFile}
use Rattle.jmodel.specs.format.ClassRules.{IsClassFile}
use Rattle.objects.specs.linking.Members.{own_name}
use Rattle.objects.specs.linking.Superclasses.{class_named}
use Rattle.deuce.specs.Rewritten.{IsNewOf}
use Rattle.deuce.proofs.Lists.{all_read, zip_more}
use Rattle.deuce.proofs.Named.{by_bytes, IsNamed, is_named, none_named, holds_of}
use Rattle.deuce.proofs.rewriting.write_each.Goals as goal

pub unreachable-requires : goal.unreachable-requires
unreachable-requires c =
    let classes = c.args.classes.now in
    let named : IsNamed classes (own_name c.file-item.result) =
    all_read (λ (f : ClassFile). IsNamed classes (own_name f)) c.args.files.now c.loop-file.file-index c.file-item.result c.requires.named c.loop-file-test.true c.file-item.is in
    let none : lookup (is_at (by_bytes c.own_name.result)) c.in_ok-named.named.entries ≡ None = sym c.get.ensures.value ∙ ap option_copied c.in_default.is in
    let lost : class_named classes (own_name c.file-item.result) ≡ None = subst (λ (n : List ℕ). class_named classes n ≡ None) c.own_name.ensures (none_named c.own_name.result c.in_ok-named.named.entries classes c.in_ok-named.ensures none) in
    let gone = ap is_some lost in
    cc

pub write_class-requires : goal.write_class-requires
write_class-requires c =
    let classes = c.args.classes.now in
    let there : lookup (is_at (by_bytes c.own_name.result)) c.in_ok-named.named.entries ≡ Some c.in-Some.class.now = sym c.get.ensures.value ∙ ap option_copied c.in-Some.is in
    holds_of IsClassFile classes c.own_name.result.now c.in-Some.class.now.now (is_named c.own_name.result c.in_ok-named.named.entries classes c.in-Some.class.now c.in_ok-named.ensures there) c.requires.rules

pub loop-file-preserved : goal.loop-file-preserved
loop-file-preserved c =
    let classes = c.args.classes.now in
    let class = c.in-Some.class.now in
    let there : lookup (is_at (by_bytes c.own_name.result)) c.in_ok-named.named.entries ≡ Some class = sym c.get.ensures.value ∙ ap option_copied c.in-Some.is in
    let named = is_named c.own_name.result c.in_ok-named.named.entries classes class c.in_ok-named.ensures there in
    let rules = holds_of IsClassFile classes c.own_name.result.now class.now named c.requires.rules in
    rw c.in_ok-push.ensures.items (zip_more (IsNewOf classes) c.args.files.now c.loop-file.written.items c.loop-file.file-index c.file-item.result c.in_ok-write_class.field-0 c.loop-file-test.true c.file-item.is c.loop-file.invariant
    (record { class = class.now; named = subst (λ (n : List ℕ). class_named classes n ≡ Some class.now) c.own_name.ensures named; spelled = record { class = rules; is = c.in_ok-write_class.ensures } }))
