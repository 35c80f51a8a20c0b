-- The code of linked methods: what it adds to locals has two bytes.
use Rattle.std.proofs.Common.{◌≡◌, inl, inr, ℕ, zero, suc, List, [], ◌∷◌, ◌++◌, length, Option, Some, None, Ok, Bool, true, false, refl, sym, ap, ◌∙◌, subst, arith}
use Rattle.std.specs.Prelude.{if◌then◌else◌, find, option_and_then, codes}
use Rattle.std.specs.List.{AllByRecursion, flat_map}
use Rattle.jmodel.specs.format.ClassFile.{u2, u4, handler, attributes, Attribute, Member, Pool, ClassFile, Code, code_spelling}
use Rattle.jmodel.specs.format.ClassRules.{is_named, IsCode, SpellsCode}
use Rattle.jmodel.specs.format.ClassReading.{code_of}
use Rattle.objects.specs.linking.Code.{Coded, code_in, decoded}
use Rattle.jmodel.specs.format.Instruction.{IsInstr}
use Rattle.objects.specs.linking.Each.{each}
use Rattle.objects.specs.declared.op.Op.{Op}
use Rattle.objects.specs.declared.op.Catch.{Catch}
use Rattle.objects.specs.semantics.Program.{Method, Program, method_at}
use Rattle.objects.specs.linking.Decoding.{Symbols, ops_of, catch_of}
use Rattle.objects.specs.linking.Linking.{Body, no_body, with_catches, body_of, original_symbols, receiver_types, parameter_types, linking}
use Rattle.objects.specs.laws.LinkingLaw.{AreRead}
use Rattle.objects.specs.typing.Typing.{Table}
use Rattle.objects.proofs.Items.{item}
use Rattle.objects.proofs.DeclaredMembers.{of_methods}
use Rattle.objects.proofs.TakenMembers.{in_methods}
use Rattle.objects.proofs.Links.{IsLinkedTo, links, method_from}
use Rattle.objects.proofs.CodeRead.{coded_parts}
use Rattle.objects.proofs.LinkedMethods.{coded_or_not}
use Rattle.objects.proofs.SourceProof.{source_law}
use Rattle.const_pool.proofs.Takes.{IsBytes}
use Rattle.const_pool.proofs.Parts.{code_is_found}
use Rattle.bytecode.proofs.CodeLaws.{code_take, over_pool}
use Rattle.dup_methods.specs.Limits.{AddsLittle}
use Rattle.dup_methods.proofs.Little.{little_is}
use Rattle.rewriter.specs.Asked.{HasBytes, AreFiled, IsReady}
use Rattle.program_typing.specs.Tables.{AreTables}
use Rattle.rewriter.proofs.Owned.{few_methods}

-- ---- bytes of code

-- parts of bytes are bytes
behind_bytes : (xs ys : List ℕ) → IsBytes (xs ++ ys) → IsBytes ys
behind_bytes [] ys h i = h i
behind_bytes (x ∷ xs) ys h i = behind_bytes xs ys (λ j. h (suc j)) i

front_bytes : (xs ys : List ℕ) → IsBytes (xs ++ ys) → IsBytes xs
front_bytes [] ys h i = omega arith
front_bytes (x ∷ xs) ys h zero = h zero
front_bytes (x ∷ xs) ys h (suc i) = front_bytes xs ys (λ j. h (suc j)) i

found_bytes : (pool : Pool) (xs : List Attribute) (k : Code) → AllByRecursion (λ (a : Attribute). IsBytes a.bytes) xs → option_and_then (λ (a : Attribute). code_of pool a.bytes) (find (is_named pool (codes "Code")) xs) ≡ Some k
    → (bytes : List ℕ) × IsBytes bytes × (code_of pool bytes ≡ Some k)
found_bytes pool [] k h e = absurd cc
found_bytes pool (a ∷ xs) k h e = go (is_named pool (codes "Code") a) refl e (λ t. found_bytes pool xs k h.1 t)
  where
    go : (b : Bool) → is_named pool (codes "Code") a ≡ b → option_and_then (λ (a : Attribute). code_of pool a.bytes) (if b then Some a else find (is_named pool (codes "Code")) xs) ≡ Some k
        → (option_and_then (λ (a : Attribute). code_of pool a.bytes) (find (is_named pool (codes "Code")) xs) ≡ Some k → (bytes : List ℕ) × IsBytes bytes × (code_of pool bytes ≡ Some k))
        → (bytes : List ℕ) × IsBytes bytes × (code_of pool bytes ≡ Some k)
    go true q t more = (a.bytes, h.0, t)
    go false q t more = more t

-- code that a method has keeps the rules of code, and is bytes
record IsKept (pool : Pool) (k : Code) : Type 0 where
  rules : IsCode pool k
  bytes : IsBytes k.code

kept : (pool : Pool) (m : Member) (k : Code) → HasBytes m → code_in pool m ≡ Some k → IsKept pool k
kept pool m k h e =
    let f = found_bytes pool m.attributes k h e in
    let s : SpellsCode pool f.0 k = code_is_found pool f.0 (Some (Ok k)) f.1 f.2 in
    let all : IsBytes (code_spelling k) = subst IsBytes s.is f.1 in
    let first : List ℕ = u2 k.max_stack ++ u2 k.max_locals ++ u4 (length k.code) in
    let a = front_bytes (first ++ k.code ++ u2 (length k.handlers) ++ flat_map handler k.handlers) (attributes k.attributes) all in
    let b = front_bytes (first ++ k.code ++ u2 (length k.handlers)) (flat_map handler k.handlers) a in
    let c = front_bytes (first ++ k.code) (u2 (length k.handlers)) b in
    record { rules = s.code; bytes = behind_bytes first k.code c }

-- decoded instructions keep their rules
instrs_fit : (c : ClassFile) (m : Member) (x : Coded) → HasBytes m → decoded c m ≡ Ok x → AllByRecursion IsInstr x.instrs
instrs_fit c m x h e =
    let p = coded_parts c m x e in
    let f = kept c.pool m x.code h p.code in
    let s = code_take c.pool x.code.handlers x.code.code f.bytes f.rules.short x.instrs p.instrs in
    over_pool c.pool x.instrs s.instrs.each

-- ---- methods

some_body : (a b : Body) → Some a ≡ Some b → a ≡ b
some_body a b e = cc

body_ops : (s : Symbols) (x : Coded) (b : Body) → body_of s 0 (Some x) ≡ Some b → ops_of s x.instrs ≡ Some b.ops
body_ops s x b e = go (ops_of s x.instrs) refl (each (catch_of s.class.pool x.instrs (length x.code.code)) x.code.handlers) e
  where
    go : (o : Option (List Op)) → ops_of s x.instrs ≡ o → (c : Option (List Catch)) → with_catches x o c ≡ Some b → ops_of s x.instrs ≡ Some b.ops
    go None a c e = cc
    go (Some ops) a None e = cc
    go (Some ops) a (Some catches) e =
        let same : record { locals = x.code.max_locals; max_stack = x.code.max_stack; ops = ops; catches = catches } ≡ b = some_body _ b e in
        a ∙ ap (λ (b : Body). Some b.ops) same

module _ (cs : List ClassFile) (P : Program) (read : AreRead cs) (filed : AllByRecursion AreFiled cs) (l : IsLinkedTo cs P) where
  adds_little : (m : ℕ) (k : Method) → method_at P m ≡ Some k → AllByRecursion AddsLittle k.ops
  adds_little m k at =
      let f = method_from cs P l m k at in
      let d = f.member in
      let e = f.meant in
      let body = e.body in
      let where_is = of_methods cs f.member (in_methods cs f.member (m, f.there)) in
      let bytes : HasBytes f.member.member = item HasBytes f.member.class.methods f.member.member (item AreFiled cs f.member.class filed where_is.0) where_is.1 in
      let places = length (receiver_types cs f.member.class f.member.member ++ parameter_types cs f.meant.signature) in
      subst (λ (k : Method). AllByRecursion AddsLittle k.ops) (sym e.is) (elim (coded_or_not f.member f.code f.decoded) [
        | inl n ↦ (
            let none : no_body places ≡ f.meant.body = some_body (no_body places) f.meant.body (ap (body_of (original_symbols cs f.member.class) places) (sym n.0) ∙ e.bodied) in
            subst (λ (b : Body). AllByRecursion AddsLittle b.ops) none tt)
        | inr x ↦ (
            let ops = body_ops (original_symbols cs f.member.class) x.0 f.meant.body (ap (body_of (original_symbols cs f.member.class) places) (sym x.1) ∙ e.bodied) in
            little_is (original_symbols cs f.member.class) x.0.instrs f.meant.body.ops (instrs_fit f.member.class f.member.member x.0 bytes x.2) ops)
      ])

-- the methods of what classes that are read from a folder are linked to can be duplicated
pub ready : (cs : List ClassFile) (P : Program) (Ts : List Table) → AreRead cs → AllByRecursion AreFiled cs → linking cs ≡ Ok (Some P) → AreTables P Ts → IsReady P Ts
ready cs P Ts read filed e tables =
    let source = source_law cs P read e in
    let l = links cs P e in
    record {
      types = source.types;
      little = adds_little cs P read filed l;
      tables = tables;
      few = (let few = few_methods cs P read l in omega (arith, few));
    }
