use Rattle.std.proofs.Common.{List, [], None, sym, ◌∙◌, subst}
use Rattle.jmodel.specs.declared.class_file.Handler.{Handler}
use Rattle.jmodel.specs.format.Relocation.{Block, AreBlocks}
use Rattle.retry_wrapper.specs.Wrappers.{wrapper_blocks}
use Rattle.retry_wrapper.proofs.Fits.{bytes_are}
use Rattle.retry_wrapper.proofs.wrappers.wrapper_bytes.Goals as goal

pub bytes_of_method-requires-clause-blocks : goal.bytes_of_method-requires-clause-blocks
bytes_of_method-requires-clause-blocks c =
    subst (λ (bs : List Block). AreBlocks bs c.wrapper_handlers-handlers.result None []) (sym (c.as_slice.ensures.value ∙ c.in_ok-blocks.ensures))
    (subst (λ (hs : List Handler). AreBlocks (wrapper_blocks c.args.method.now c.args.a c.args.e) hs None []) (sym c.wrapper_handlers-handlers.ensures) c.requires.blocks)

pub returns : goal.returns
returns c = bytes_are c.args.method.now c.args.a c.args.e c.bytes_of_method.result c.name.result.now c.entry-c.result.places c.height.result c.spare_locals.result c.as_slice.result.now c.wrapper_handlers-handlers.result
    c.name.ensures c.entry-c.ensures.places c.height.ensures c.spare_locals.ensures.says (c.as_slice.ensures.value ∙ c.in_ok-blocks.ensures) c.wrapper_handlers-handlers.ensures c.bytes_of_method.ensures
