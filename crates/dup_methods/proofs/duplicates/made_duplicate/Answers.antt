use Rattle.std.proofs.Common.{rules, ◌≡◌, ◌<◌, length, Some, Ok, List, sym, ap, ◌∙◌, subst, arith}
use Rattle.jmodel.specs.declared.class_file.Handler.{Handler}
use Rattle.jmodel.specs.declared.instruction.Instr.{Instr}
use Rattle.objects.specs.linking.Code.{Coded}
use Rattle.jmodel.specs.format.Relocation.{AreBlocks, Block}
use Rattle.std.proofs.lemmas.Grind.{common_steps}
use Rattle.jmodel.specs.format.ClassFile.{Member}
use Rattle.member_code.specs.Coding.{added_method}
use Rattle.dup_methods.specs.Duplicates.{stub, refs_of, texts_of, duplicate_bytes, duplicate_flags}
use Rattle.dup_methods.proofs.Stands.{refs_laid, made_is}
use Rattle.dup_methods.proofs.duplicates.made_duplicate.Goals as goal

pub duplicate_bytes-requires-clause-blocks : goal.duplicate_bytes-requires-clause-blocks
duplicate_bytes-requires-clause-blocks c =
    let conflict = c.in_ok-blocks.conflict in
    let short : length c.args.pool.now < 65535 = omega (arith, ap length c.entries.ensures.value, c.entries.ensures.few) in
    let entries : c.args.coded.now.code.handlers ≡ c.coded.inside.code.handlers = ap (λ (k : Coded). k.code.handlers) (sym c.coded.view_is) in
    let instrs : c.as_slice.result.now ≡ c.args.coded.now.instrs = c.as_slice.ensures.value ∙ ap (λ (k : Coded). k.instrs) c.coded.view_is in
    let told = ap (λ (is : List Instr). refs_of c.args.original.now is c.args.pool.now) (sym instrs) ∙ c.in_ok-blocks.ensures in
    let laid = refs_laid c.args.original.now c.args.coded.now c.args.pool.now c.refs_of.new.pool c.in_ok-blocks.blocks.items conflict short c.requires.few c.requires.ops c.requires.handlers c.requires.counts c.requires.spelled told in
    subst (λ (bs : List Block). AreBlocks bs c.coded.inside.code.handlers (Some conflict) stub) (sym c.as_slice-blocks.ensures.value)
    (subst (λ (hs : List Handler). AreBlocks c.in_ok-blocks.blocks.items hs (Some conflict) stub) entries laid)

pub returns : goal.returns
returns c =
    let O = c.args.original.now in
    let blocks = c.in_ok-blocks.blocks.items in
    let conflict = c.in_ok-blocks.conflict in
    let named = c.in_ok-named.named in
    let text = c.in_ok-named.text in
    let bytes = c.in_ok-bytes.bytes in
    let next = c.texts_of.new.pool in
    let instrs : c.as_slice.result.now ≡ c.args.coded.now.instrs = c.as_slice.ensures.value ∙ ap (λ (k : Coded). k.instrs) c.coded.view_is in
    let refs = ap (λ (is : List Instr). refs_of c.args.original.now is c.args.pool.now) (sym instrs) ∙ c.in_ok-blocks.ensures in
    let texts : texts_of c.args.original.now.method c.refs_of.new.pool ≡ Ok ((c.in_ok-named.named, c.in_ok-named.text), c.texts_of.new.pool) = first_of (search rules, grind (arith, common_steps)) in
    let laid : duplicate_bytes c.args.original.now.method c.args.coded.now.code c.in_ok-blocks.blocks.items c.in_ok-blocks.conflict ≡ Ok c.in_ok-bytes.bytes = first_of (search rules, grind (arith, common_steps)) in
    let it : added_method (duplicate_flags c.args.original.now.member.flags) c.in_ok-named.named.0 c.in_ok-named.named.1 c.in_ok-named.text c.in_ok-bytes.bytes ≡ c.in_ok-added_method.field-0 = first_of (search rules, grind (arith, common_steps)) in
    made_is c.args.original.now c.args.coded.now c.args.pool.now c.refs_of.new.pool next blocks conflict named text bytes refs texts laid ∙ ap (λ (m : Member). Ok (m, c.texts_of.new.pool)) it
