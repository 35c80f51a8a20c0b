-- The blocks of a wrapper can be laid, as it is made.
use Rattle.std.proofs.Common.{◌≡◌, ℕ, ℤ, ◌+◌, ◌<◌, ◌≤◌, max, List, [], length, None, Result, Ok, ap, ◌∙◌, sym, subst, arith}
use Rattle.std.specs.Prelude.{pos}
use Rattle.jmodel.specs.declared.name.MethodName.{MethodName}
use Rattle.jmodel.specs.declared.class_file.Handler.{Handler}
use Rattle.jmodel.specs.declared.refusal.Refusal.{Refusal}
use Rattle.jmodel.specs.declared.refusal.Halt.{Halt}
use Rattle.jmodel.specs.format.ClassFile.{Pool}
use Rattle.jmodel.specs.format.Name.{printed}
use Rattle.jmodel.specs.format.Reading.{Gives}
use Rattle.jmodel.specs.format.Relocation.{Block, AreBlocks}
use Rattle.objects.specs.semantics.Program.{Method}
use Rattle.objects.specs.rewriting.Rewriting.{spare_locals}
use Rattle.member_code.specs.Growing.{Growth}
use Rattle.member_code.specs.Names.{duplicate_named}
use Rattle.member_code.specs.Coding.{of_method, laid_bytes}
use Rattle.member_code.proofs.Grown.{grown_refl}
use Rattle.retry_wrapper.specs.Wrappers.{Opening, Ending, opening_of, ending_of, wrapper_blocks, wrapper_handlers, wrapper_bytes}
use Rattle.retry_wrapper.proofs.Gets.{opening_puts, ending_puts}
use Rattle.retry_wrapper.proofs.Loop.{blocks_fit}

-- what is named to open and to end an attempt
pub wrapper_fits : (k : Method) (n : ℕ) (m attempts : ℤ) (d : MethodName) (pool p1 p2 : Pool) (a : Opening) (e : Ending) → length pool < 65535 → m ≡ pos n → d ≡ duplicate_named k.name → opening_of m attempts pool ≡ Ok (a, p1) → ending_of d p1 ≡ Ok (e, p2)
    → k.places ≤ 254 → length k.parameters ≤ 254 → AreBlocks (wrapper_blocks k a e) (wrapper_handlers e.conflict) None []
wrapper_fits k n m attempts d pool p1 p2 a e short number named opens ends few long =
    let o : opening_of (pos n) attempts pool ≡ Ok (a, p1) = ap (λ (x : ℤ). opening_of x attempts pool) (sym number) ∙ opens in
    let f : ending_of (duplicate_named k.name) p1 ≡ Ok (e, p2) = ap (λ (x : MethodName). ending_of x p1) (sym named) ∙ ends in
    let p = opening_puts n attempts pool (a, p1) short o in
    let q = ending_puts (duplicate_named k.name) p1 (e, p2) p.short f in
    blocks_fit k a e p2 n attempts (p.facts p2 q.grown) (q.facts p2 (grown_refl p2)) few long

-- an opening of equal numbers
pub same_opening : (x z y u : ℤ) (pool : Pool) (r : Growth Opening) → z ≡ x → u ≡ y → opening_of z u pool ≡ r → opening_of x y pool ≡ r
same_opening x z y u pool r e f given = ap (λ (n : ℤ). opening_of n y pool) (sym e) ∙ ap (λ (n : ℤ). opening_of z n pool) (sym f) ∙ given

-- the bytes of a wrapper, of equal parts
pub bytes_are : (k : Method) (a : Opening) (e : Ending) (r : Result (List ℕ) Halt) (name : MethodName) (c most more : ℕ) (bs : List Block) (hs : List Handler) → name ≡ k.name → c ≡ k.places → most ≡ max (c + 1) 3 → more ≡ spare_locals k.result → bs ≡ wrapper_blocks k a e → hs ≡ wrapper_handlers e.conflict
    → Gives (λ (b : List ℕ). b) r (of_method (printed name) (laid_bytes most (c + more) bs hs None [])) → Gives (λ (b : List ℕ). b) r (wrapper_bytes k a e)
unfolding wrapper_bytes
bytes_are k a e r name c most more bs hs named places highest spare blocks entries given =
    let high : most ≡ max (k.places + 1) 3 = highest ∙ ap (λ (x : ℕ). max (x + 1) 3) places in
    let wide : c + more ≡ k.places + spare_locals k.result = omega (arith, places, spare) in
    subst (λ (x : Result (List ℕ) Refusal). Gives (λ (b : List ℕ). b) r x)
    (ap (λ (x : MethodName). of_method (printed x) (laid_bytes most (c + more) bs hs None [])) named
    ∙ ap (λ (x : ℕ). of_method (printed k.name) (laid_bytes x (c + more) bs hs None [])) high
    ∙ ap (λ (x : ℕ). of_method (printed k.name) (laid_bytes (max (k.places + 1) 3) x bs hs None [])) wide
    ∙ ap (λ (x : List Block). of_method (printed k.name) (laid_bytes (max (k.places + 1) 3) (k.places + spare_locals k.result) x hs None [])) blocks
    ∙ ap (λ (x : List Handler). of_method (printed k.name) (laid_bytes (max (k.places + 1) 3) (k.places + spare_locals k.result) (wrapper_blocks k a e) x None [])) entries)
    given
