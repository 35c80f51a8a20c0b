-- Texts that name methods of classes, as loops find them, and the first method of a text.
use Rattle.std.proofs.Common.{◌≡◌, ℕ, ◌+◌, ◌<◌, Bool, true, false, ◌||◌, List, [], ◌∷◌, ◌++◌, length, map, take, drop, suc, get_or, refl, sym, ap, ◌∙◌, drop-cons, Bor}
use Rattle.std.specs.Prelude.{position}
use Rattle.std.specs.List.{list_any}
use Rattle.std.proofs.lemmas.List.{take_more, map-append, take-append-drop}
use Rattle.std.proofs.lemmas.List.Concat.{flat_map-append}
use Rattle.std.proofs.lemmas.List.Folds.{list_any-append}
use Rattle.jmodel.specs.format.ClassFile.{ClassFile}
use Rattle.jmodel.specs.format.ClassRules.{same_text}
use Rattle.objects.specs.semantics.Program.{Method}
use Rattle.objects.specs.linking.Members.{name_of}
use Rattle.objects.specs.linking.Classes.{Declared, declared_in, methods_in, full_name}
use Rattle.const_pool.specs.Firsts.{first}
use Rattle.const_pool.proofs.FirstLemmas.{position_first}
use Rattle.hierarchy.proofs.Parts.{any_map}
use Rattle.script.specs.Script.{is_called, call_text, names_method}

-- ---- classes

module _ (text : List ℕ) where
  abbrev pub of_class : ClassFile → Bool
  of_class c = list_any (λ m. is_called text (name_of c m)) c.methods

  abbrev is_named : Declared → Bool
  is_named k = is_called text (full_name k)

  behind : (xs ys : List ClassFile) → names_method (xs ++ ys) text ≡ (names_method xs text || names_method ys text)
  behind xs ys =
      ap (list_any is_named) (flat_map-append (λ (c : ClassFile). declared_in c c.methods) xs ys)
      ∙ list_any-append is_named (methods_in xs) (methods_in ys)

  in_front : (c : ClassFile) (cs : List ClassFile) → names_method (c ∷ cs) text ≡ (of_class c || names_method cs text)
  in_front c cs =
      list_any-append is_named (declared_in c c.methods) (methods_in cs)
      ∙ ap (λ (b : Bool). b || names_method cs text) (any_map is_named (λ m. record { class = c; member = m }) c.methods)

  abbrev seen : List (Bor ClassFile) → List ClassFile
  seen cs = map (λ c. c.now) cs

  -- one more class has none
  pub none_more : (cs : List (Bor ClassFile)) (i : ℕ) (c : Bor ClassFile) → i < length cs → c ≡ get_or cs i c → of_class c.now ≡ false → names_method (seen (take i cs)) text ≡ false
      → names_method (seen (take (i + 1) cs)) text ≡ false
  none_more cs i c less is none so_far =
      let more : take (i + 1) cs ≡ take i cs ++ c ∷ [] = take_more cs i c less ∙ ap (λ (d : Bor ClassFile). take i cs ++ d ∷ []) (sym is) in
      ap (λ (l : List (Bor ClassFile)). names_method (seen l) text) more
      ∙ ap (λ (l : List ClassFile). names_method l text) (map-append (λ (d : Bor ClassFile). d.now) (take i cs) (c ∷ []))
      ∙ behind (seen (take i cs)) (c.now ∷ [])
      ∙ rw (so_far, in_front c.now [], none) refl

  or_true : (b : Bool) → (b || true) ≡ true
  or_true true = refl
  or_true false = refl

  -- a class has one
  pub one_has : (cs : List (Bor ClassFile)) (i : ℕ) (c : Bor ClassFile) → i < length cs → c ≡ get_or cs i c → of_class c.now ≡ true → names_method (seen cs) text ≡ true
  one_has cs i c less is has =
      let split : cs ≡ take i cs ++ c ∷ drop (suc i) cs =
      sym (take-append-drop i cs) ∙ ap (λ (l : List (Bor ClassFile)). take i cs ++ l) (drop-cons cs i c less)
      ∙ ap (λ (d : Bor ClassFile). take i cs ++ d ∷ drop (suc i) cs) (sym is) in
      ap (λ (l : List (Bor ClassFile)). names_method (seen l) text) split
      ∙ ap (λ (l : List ClassFile). names_method l text) (map-append (λ (d : Bor ClassFile). d.now) (take i cs) (c ∷ drop (suc i) cs))
      ∙ behind (seen (take i cs)) (c.now ∷ seen (drop (suc i) cs))
      ∙ rw (in_front c.now (seen (drop (suc i) cs)), has) (or_true (names_method (seen (take i cs)) text))

-- ---- methods

first_map : {X Y : Type 0} (p : Y → Bool) (f : X → Y) (xs : List X) → first p (map f xs) ≡ first (λ x. p (f x)) xs
first_map p f [] = refl
first_map p f (x ∷ xs) = rw (first_map p f xs) refl

-- the number of a text is that of the first method which it names
pub number_is : (text : List ℕ) (ks : List Method) → first (λ k. same_text (call_text k) text) ks ≡ position (λ o. same_text o text) (map call_text ks)
number_is text ks = sym (position_first (λ o. same_text o text) (map call_text ks) ∙ first_map (λ o. same_text o text) call_text ks)
