-- The law of rows.
use Rattle.std.proofs.Common.{◌≡◌, ℕ, Some, arith, subst, sym}
use Rattle.jmodel.specs.declared.instruction.Form.{Form}
use Rattle.jmodel.specs.declared.instruction.Form.TheVariants as form
use Rattle.jmodel.specs.declared.instruction.Operands.{Operands}
use Rattle.jmodel.specs.declared.instruction.Operands.TheVariants as operands
use Rattle.jmodel.specs.format.ClassFile.{Pool, ClassFile}
use Rattle.jmodel.specs.format.Instruction.{form_of, IsSizedAs}
use Rattle.objects.specs.linking.Taken.{invoked}
use Rattle.jmodel.specs.format.PoolAdding.{IsLonger}
use Rattle.std.specs.Prelude.{Option, None}
use Rattle.objects.specs.linking.Constructs.{accessed}
use Rattle.objects.specs.rewriting.Rewriting.{block_of as block_in_program}
use Rattle.member_code.proofs.Grown.{Grown, grown_trans}
use Rattle.member_code.proofs.Single.{all_meant}
use Rattle.dup_methods.specs.DuplicateLaw.{RowsLaw}
use Rattle.dup_methods.proofs.BlockFacts.{adds_block}
use Rattle.dup_methods.proofs.Jumps.{IsWideOp}
use Rattle.dup_methods.proofs.Rows.{block_meant}

-- the opcode behind wide is one
pub wide_small : (pc : ℕ) (f : Option Form) (o : Operands) → IsSizedAs pc f o → IsWideOp o
wide_small pc (Some form.Wide) (operands.Wide w n a) h = omega (arith, h.0)
wide_small pc None (operands.Wide w n a) h = absurd h
wide_small pc (Some f) (operands.Wide w n a) h = absurd h
wide_small pc f o h = tt

longer : (a b : Pool) → IsLonger a b → Grown a b
longer a b h = record { more = h.0; is = h.1 }

pub rows_are : RowsLaw
rows_are O s0 s o h i before after place at pool r T same e instr source moves l short told m a =
    let q = adds_block O (Some o) h i pool r short told in
    let G0 : Grown O.class.pool s.class.pool = grown_trans O.class.pool r.1 s.class.pool (grown_trans O.class.pool pool r.1 (longer O.class.pool pool l) q.grown) (longer r.1 s.class.pool m) in
    let G : Grown s0.class.pool s.class.pool = subst (λ (c : ClassFile). Grown c.pool s.class.pool) (sym same) G0 in
    all_meant s place after a r.0 (block_in_program O.program O.method.places O.method.locals at h o)
    (block_meant O (λ n. invoked O.class.pool i ≡ Some n) (λ n. accessed O.class.pool i ≡ Some n) s0 s T G same before after place at moves i (omega (arith, instr.op)) (wide_small i.pc (form_of i.op) i.operands instr.operands) (λ n e. e) (λ n e. e) o h r.0 e source (q.facts s.class.pool (longer r.1 s.class.pool m)))
