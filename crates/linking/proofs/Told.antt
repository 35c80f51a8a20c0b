-- Each instruction of a method of a program stands somewhere in its code.
use Rattle.std.proofs.Common.{◌≡◌, ℕ, zero, suc, ◌<◌, ◌++◌, List, [], ◌∷◌, length, slice_get, Option, Some, None, Result, Ok, sym, refl, ap, ◌∙◌, subst, arith}
use Rattle.std.specs.Prelude.{zip, option_map}
use Rattle.jmodel.specs.declared.instruction.Instr.{Instr}
use Rattle.jmodel.specs.declared.refusal.Refusal.{Refusal}
use Rattle.jmodel.specs.format.ClassFile.{ClassFile}
use Rattle.objects.specs.linking.Classes.{Declared}
use Rattle.objects.specs.linking.Code.{Coded}
use Rattle.objects.specs.linking.Each.{each}
use Rattle.objects.specs.declared.op.Op.{Op}
use Rattle.objects.specs.declared.op.Catch.{Catch}
use Rattle.objects.specs.semantics.Program.{Method, Program, method_at}
use Rattle.objects.specs.linking.Decoding.{Symbols, op_of, ops_of, catch_of}
use Rattle.objects.specs.linking.Linking.{Body, no_body, with_catches, coded_body, receiver_types, parameter_types, taken_methods, original_symbols, linking}
use Rattle.objects.proofs.Items.{from_each, each_many, of_zip}
use Rattle.objects.proofs.Links.{links, IsMeant, meant, methods_are}
use Rattle.linking.specs.Pcs.{pc_at, pc_in, pc_of}

item_there : {A : Type 0} (xs : List A) (i : ℕ) → i < length xs → (x : A) × (slice_get xs i ≡ Some x)
item_there [] i h = absurd (omega (arith, h))
item_there (x ∷ xs) zero h = (x, refl)
item_there (x ∷ xs) (suc i) h = item_there xs i (omega (arith, h))

-- as many instructions mean something as there are
ops_many : (s : Symbols) (x : Coded) (b : Body) → coded_body s x ≡ Some b → length b.ops ≡ length x.instrs
ops_many s x b e = go (ops_of s x.instrs) refl (each (catch_of s.class.pool x.instrs (length x.code.code)) x.code.handlers) e
  where
    go : (o : Option (List Op)) → ops_of s x.instrs ≡ o → (c : Option (List Catch)) → with_catches x o c ≡ Some b → length b.ops ≡ length x.instrs
    go None a c e = cc
    go (Some ops) a None e = cc
    go (Some ops) a (Some catches) e =
        let same : record { locals = x.code.max_locals; max_stack = x.code.max_stack; ops = ops; catches = catches } ≡ b = cc in
        sym (ap (λ (b : Body). length b.ops) same) ∙ each_many (op_of s x.instrs) x.instrs ops a

module _ (cs : List ClassFile) (m : ℕ) (k : Method) (d : Declared) (place : ℕ) (less : place < length k.ops) where
  -- a method that means something has the instruction
  in_code : (o : Option Coded) → IsMeant cs d o k → (pc : ℕ) × (pc_at (Some o) place ≡ Some pc)
  in_code None f =
      let none : Some (no_body (length (receiver_types cs d.class d.member ++ parameter_types cs f.signature))) ≡ Some f.body = f.bodied in
      let body : no_body (length (receiver_types cs d.class d.member ++ parameter_types cs f.signature)) ≡ f.body = cc in
      let ops : k.ops ≡ [] = ap (λ (k : Method). k.ops) f.is ∙ sym (ap (λ (b : Body). b.ops) body) in
      let long : length k.ops ≡ 0 = ap length ops in
      absurd (omega (arith, less, long))
  in_code (Some x) f =
      let some : coded_body (original_symbols cs d.class) x ≡ Some f.body = f.bodied in
      let many : length f.body.ops ≡ length x.instrs = ops_many (original_symbols cs d.class) x f.body some in
      let ops : length k.ops ≡ length f.body.ops = ap (λ (k : Method). length k.ops) f.is in
      let i = item_there x.instrs place (omega (arith, less, many, ops)) in
      (i.0.pc, ap (option_map (λ (i : Instr). i.pc)) i.1)

-- Each instruction of a method of a program has a place in its code.
pub has_pc : (cs : List ClassFile) (P : Program) → linking cs ≡ Ok (Some P) → (m : ℕ) (k : Method) → method_at P m ≡ Some k → (place : ℕ) → place < length k.ops → (pc : ℕ) × (pc_of cs m place ≡ Some pc)
has_pc cs P e m k there place less =
    let l = links cs P e in
    let f = from_each _ (zip (taken_methods cs) l.codes) l.methods l.meant m k (subst (λ (ms : List Method). slice_get ms m ≡ Some k) (methods_are cs P l) there) in
    let z = of_zip (taken_methods cs) l.codes m f.0 f.1 in
    let p = in_code cs m k f.0.0 place less f.0.1 (meant cs f.0.0 f.0.1 k f.2) in
    (p.0, ap (λ (r : Result (List (Option Coded)) Refusal). pc_in m r place) l.decoded ∙ ap (λ (o : Option (Option Coded)). pc_at o place) z.1 ∙ p.1)
