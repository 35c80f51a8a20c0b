-- The rewriting of a folder: of each class its rewriting, and behind these the helper of arrays.
use Rattle.std.proofs.Common.{◌≡◌, ℕ, ◌+◌, List, [], ◌∷◌, ◌++◌, length, take, drop, Result, Ok, Err, sym, subst}
use Rattle.std.specs.List.{AllZip}
use Rattle.std.proofs.lemmas.List.{length-map}
use Rattle.jmodel.specs.declared.refusal.Refusal.{Refusal}
use Rattle.jmodel.specs.format.ClassFile.{Member, ClassFile}
use Rattle.jmodel.specs.format.ClassRules.{IsClassFile}
use Rattle.objects.specs.linking.Taken.{is_taken}
use Rattle.jmodel.specs.format.Reading.{◌>>=◌}
use Rattle.objects.specs.linking.Members.{own_name}
use Rattle.objects.specs.semantics.Program.{Program}
use Rattle.objects.specs.typing.Typing.{Table}
use Rattle.objects.specs.laws.LinkingLaw.{AreRead}
use Rattle.objects.proofs.Items.{item}
use Rattle.objects.proofs.Links.{IsLinkedTo, links}
use Rattle.const_pool.proofs.Takes.{bind_ok, ok_is}
use Rattle.array_helper.specs.Helper.{helper_file}
use Rattle.rewriter.specs.Part.{wrapper_count, own_fields, own_methods, part_of, share_of}
use Rattle.rewriter.specs.Rewritten.{rewritten_part}
use Rattle.rewriter.specs.RewrittenClasses.{of_class, rewritten_from, rewritten_classes}
use Rattle.rewritten_names.specs.Heads.{Rewrites}
use Rattle.rewritten_program.specs.Keeps.{AreKept, HeadsLaw}
use Rattle.rewritten_program.proofs.Headed.{rewrites}
use Rattle.rewritten_program.proofs.Helping.{helper_known}
use Rattle.rewritten_program.proofs.Made.{IsRewriting, rewriting}
use Rattle.rewritten_program.proofs.Placed.{IsPlaced, ArePlaced, placed}

-- a class without a refusal
class_ok : {A : Type 0} (name : List ℕ) (r : Result A Refusal) (x : A) → of_class name r ≡ Ok x → r ≡ Ok x
class_ok name (Ok y) x e = e
class_ok name (Err r) x e = cc

module _ (cs : List ClassFile) (P : Program) where
  -- classes and their rewritings, with the heads of what was added
  abbrev pub AreRewritings : (n id : ℕ) → List Table → List ClassFile → List ClassFile → Type 0
  AreRewritings n id Ts [] [] = Unit {0}
  AreRewritings n id Ts [] (d ∷ ds) = ⊥
  AreRewritings n id Ts (c ∷ xs) [] = ⊥
  AreRewritings n id Ts (c ∷ xs) (d ∷ ds) = IsRewriting P c d (share_of c (part_of cs P n id c)) (take (length (own_methods P c)) Ts)
      × AreRewritings (n + length (own_methods P c)) (id + wrapper_count (own_methods P c)) (drop (length (own_methods P c)) Ts) xs ds

  -- each keeps its class
  kept_all : (n id : ℕ) (Ts : List Table) (xs ds : List ClassFile) → AreRewritings n id Ts xs ds → AreKept cs P n id Ts xs ds
  kept_all n id Ts [] [] h = tt
  kept_all n id Ts [] (d ∷ ds) h = absurd h
  kept_all n id Ts (c ∷ xs) [] h = absurd h
  kept_all n id Ts (c ∷ xs) (d ∷ ds) h = (h.0.keeps, kept_all (n + length (own_methods P c)) (id + wrapper_count (own_methods P c)) (drop (length (own_methods P c)) Ts) xs ds h.1)

  module _ (read : AreRead cs) (l : IsLinkedTo cs P) where
    -- one class
    one_made : (c d : ClassFile) (fields n id : ℕ) (Ts : List Table) → IsPlaced cs P c fields n → rewritten_part P c (part_of cs P n id c) Ts ≡ Ok d → IsRewriting P c d (share_of c (part_of cs P n id c)) Ts
    one_made c d fields n id Ts p e =
        let file = item IsClassFile cs c read.files p.at in
        rewriting P c d (share_of c (part_of cs P n id c)) Ts file.pool.few (length-map c.methods (λ (m : Member). is_taken cs (record { class = c; member = m }))) e

    -- class after class
    pub made_from : (fields n id : ℕ) (Ts : List Table) (xs ds : List ClassFile) → ArePlaced cs P fields n xs → rewritten_from cs P n id Ts xs ≡ Ok ds → AreRewritings n id Ts xs ds
    made_from fields n id Ts [] [] p e = tt
    made_from fields n id Ts [] (d ∷ ds) p e = cc
    made_from fields n id Ts (c ∷ xs) ds p e =
        let a = bind_ok (of_class (own_name c) (rewritten_part P c (part_of cs P n id c) (take (length (own_methods P c)) Ts)))
        (λ first. rewritten_from cs P (n + length (own_methods P c)) (id + wrapper_count (own_methods P c)) (drop (length (own_methods P c)) Ts) xs >>= λ others. Ok (first ∷ others)) ds e in
        let b = bind_ok (rewritten_from cs P (n + length (own_methods P c)) (id + wrapper_count (own_methods P c)) (drop (length (own_methods P c)) Ts) xs) (λ others. Ok (a.0 ∷ others)) ds a.2 in
        let first = one_made c a.0 fields n id (take (length (own_methods P c)) Ts) p.0 (class_ok (own_name c) (rewritten_part P c (part_of cs P n id c) (take (length (own_methods P c)) Ts)) a.0 a.1) in
        let rest = made_from (fields + length (own_fields P c)) (n + length (own_methods P c)) (id + wrapper_count (own_methods P c)) (drop (length (own_methods P c)) Ts) xs b.0 p.1 b.1 in
        subst (AreRewritings n id Ts (c ∷ xs)) (ok_is (a.0 ∷ b.0) ds b.2) (first, rest)

    -- each has the heads of its class
    pub heads_from : (fields n id : ℕ) (Ts : List Table) (xs ds : List ClassFile) → ArePlaced cs P fields n xs → AreRewritings n id Ts xs ds → AllZip (Rewrites P) xs ds
    heads_from fields n id Ts [] [] p h = tt
    heads_from fields n id Ts [] (d ∷ ds) p h = absurd h
    heads_from fields n id Ts (c ∷ xs) [] p h = absurd h
    heads_from fields n id Ts (c ∷ xs) (d ∷ ds) p h = (
      rewrites cs P read l c fields n p.0 d id (take (length (own_methods P c)) Ts) h.0,
      heads_from (fields + length (own_fields P c)) (n + length (own_methods P c)) (id + wrapper_count (own_methods P c)) (drop (length (own_methods P c)) Ts) xs ds p.1 h.1,
    )

-- from the definition
pub heads_are : HeadsLaw
heads_are cs news P Ts read linked e =
    let l = links cs P linked in
    let a = bind_ok (rewritten_classes cs P Ts) (λ classes. helper_file >>= λ helper. Ok (classes ++ helper ∷ [])) news e in
    let b = bind_ok helper_file (λ helper. Ok (a.0 ++ helper ∷ [])) news a.2 in
    let p = placed cs P read l in
    let made = made_from cs P read l 0 0 0 Ts cs a.0 p a.1 in
    let helper = helper_known b.0 b.1 in
    record {
      classes = a.0;
      helper = b.0;
      are = sym (ok_is (a.0 ++ b.0 ∷ []) news b.2);
      helps = b.1;
      kept = kept_all cs P 0 0 Ts cs a.0 made;
      rewritten = record { read = read; linked = linked; each = heads_from cs P read l 0 0 0 Ts cs a.0 p made; named = helper.named };
      texts = helper.texts;
    }
