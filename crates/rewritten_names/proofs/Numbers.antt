-- Where the names of methods stand among those of rewritten classes.
use Rattle.std.proofs.Common.{◌≡◌, ◌≢◌, ℕ, suc, ◌+◌, List, [], ◌∷◌, ◌++◌, length, map, Option, Some, None, Bool, true, false, refl, sym, ap, ◌∙◌}
use Rattle.std.specs.Prelude.{position, cond, bytes_eq, codes, option_map}
use Rattle.std.specs.List.{AllByRecursion}
use Rattle.std.proofs.lemmas.Slice.Eq.{bytes_eq-Decides}
use Rattle.jmodel.specs.declared.name.MethodName.{MethodName}
use Rattle.objects.specs.semantics.Program.{Method, Program}
use Rattle.objects.specs.linking.Decoding.{is_method}
use Rattle.objects.specs.typing.Source.{IsSource}
use Rattle.objects.specs.rewriting.Rewriting.{with_context, duplicate_name}
use Rattle.objects.proofs.Contexts.{with_context_told}
use Rattle.objects.proofs.Items.{IsAt, all_items, of_map}
use Rattle.const_pool.specs.Firsts.{first}
use Rattle.const_pool.proofs.FirstLemmas.{position_first, first_stays, first_behind}
use Rattle.rewritten_names.specs.Heads.{copy_name}
use Rattle.rewritten_names.proofs.Ordinary.{method_itself, method_same}

-- ---- places in lists

pub position_front : {A : Type 0} (p : A → Bool) (xs ys : List A) (i : ℕ) → position p xs ≡ Some i → position p (xs ++ ys) ≡ Some i
position_front p xs ys i e = position_first p (xs ++ ys) ∙ first_stays p xs ys i (sym (position_first p xs) ∙ e)

none_first : {A : Type 0} (p : A → Bool) (xs : List A) → AllByRecursion (λ x. p x ≡ false) xs → first p xs ≡ None
none_first p [] all = refl
none_first p (x ∷ xs) all = let e = all.0 in let r = none_first p xs all.1 in rw e (ap (option_map suc) r)

pub position_back : {A : Type 0} (p : A → Bool) (xs ys : List A) (i : ℕ) → AllByRecursion (λ x. p x ≡ false) xs → position p ys ≡ Some i → position p (xs ++ ys) ≡ Some (length xs + i)
position_back p xs ys i none e =
    position_first p (xs ++ ys) ∙ first_behind p xs ys (none_first p xs none) ∙ ap (option_map (λ n. length xs + n)) (sym (position_first p ys) ∙ e)

first_map : {A B : Type 0} (f : A → B) (p : A → Bool) (q : B → Bool) (xs : List A) → AllByRecursion (λ x. q (f x) ≡ p x) xs → first q (map f xs) ≡ first p xs
first_map f p q [] all = refl
first_map f p q (x ∷ xs) all = ap (λ (b : Bool). cond b (Some 0) (option_map suc (first q (map f xs)))) all.0 ∙ ap (λ (o : Option ℕ). cond (p x) (Some 0) (option_map suc o)) (first_map f p q xs all.1)

pub position_map : {A B : Type 0} (f : A → B) (p : A → Bool) (q : B → Bool) (xs : List A) → AllByRecursion (λ x. q (f x) ≡ p x) xs → position q (map f xs) ≡ position p xs
position_map f p q xs all = position_first q (map f xs) ∙ first_map f p q xs all ∙ sym (position_first p xs)

-- ---- methods

-- another name is not the method
pub differs : (n k : MethodName) → (k ≡ n → ⊥) → is_method n k ≡ false
differs n k other = go (is_method n k) refl
  where
    go : (b : Bool) → is_method n k ≡ b → b ≡ false
    go true e = absurd (other (method_same n k e))
    go false e = refl

-- ---- duplicates among duplicates

abbrev clinit : List ℕ
clinit = codes "<clinit>"

abbrev kept_clinit : List ℕ
kept_clinit = codes "__CLINIT__"

-- duplicates of names that differ differ, where none is that of static initialisers' duplicates
pub names_told : (x y : List ℕ) → x ≢ kept_clinit → y ≢ kept_clinit → duplicate_name x ≡ duplicate_name y → x ≡ y
names_told x y nx ny e = go (bytes_eq x clinit) refl (bytes_eq y clinit) refl
  where
    named : (t : List ℕ) (b : Bool) → bytes_eq t clinit ≡ b → duplicate_name t ≡ cond b kept_clinit t
    named t b f = rw f refl

    go : (a : Bool) → bytes_eq x clinit ≡ a → (b : Bool) → bytes_eq y clinit ≡ b → x ≡ y
    go true f true g = (bytes_eq-Decides x clinit).0 f ∙ sym ((bytes_eq-Decides y clinit).0 g)
    go true f false g = absurd (ny (sym (sym (named x true f) ∙ e ∙ named y false g)))
    go false f true g = absurd (nx (sym (named x false f) ∙ e ∙ named y true g))
    go false f false g = sym (named x false f) ∙ e ∙ named y false g

copy_told : (n k : MethodName) → n.name ≢ kept_clinit → k.name ≢ kept_clinit → copy_name n ≡ copy_name k → n ≡ k
copy_told n k a b e =
    let class : n.class ≡ k.class = ap (λ (m : MethodName). m.class) e in
    let name = names_told n.name k.name a b (ap (λ (m : MethodName). m.name) e) in
    let descriptor = with_context_told n.descriptor k.descriptor (ap (λ (m : MethodName). m.descriptor) e) in
    ap (λ (t : List ℕ). record { class = t; name = n.name; descriptor = n.descriptor }) class ∙ ap (λ (t : List ℕ). record { class = k.class; name = t; descriptor = n.descriptor }) name
    ∙ ap (λ (t : List ℕ). record { class = k.class; name = k.name; descriptor = t }) descriptor

pub copy_tests : (n k : MethodName) → n.name ≢ kept_clinit → k.name ≢ kept_clinit → is_method (copy_name n) (copy_name k) ≡ is_method n k
copy_tests n k a b = go (is_method n k) refl
  where
    go : (x : Bool) → is_method n k ≡ x → is_method (copy_name n) (copy_name k) ≡ is_method n k
    go true e =
        let same = method_same n k e in
        ap (λ (m : MethodName). is_method (copy_name n) (copy_name m)) same ∙ method_itself (copy_name n) ∙ sym e
    go false e = differs (copy_name n) (copy_name k) (λ s. let same = copy_told n k a b (sym s) in let fall : true ≡ false = sym (method_itself n) ∙ ap (is_method n) same ∙ e in cc) ∙ sym e

module _ (P : Program) (src : IsSource P) where
  abbrev old : List MethodName
  old = map (λ (k : Method). k.name) P.methods

  method_of : (n : MethodName) → IsAt old n → (k : Method) × IsAt P.methods k × (k.name ≡ n)
  method_of n at = of_map (λ (k : Method). k.name) P.methods n at

  not_kept : (n : MethodName) → IsAt old n → n.name ≢ kept_clinit
  not_kept n at e = let m = method_of n at in src.names.reserved m.1.0 m.0 m.1.1 (ap (λ (n : MethodName). n.name) m.2 ∙ e)

  -- a duplicate has no name of a method
  pub copy_apart : (n k : MethodName) → IsAt old n → IsAt old k → is_method (copy_name n) k ≡ false
  copy_apart n k a b = differs (copy_name n) k (λ s.
      let m = method_of n a in
      let o = method_of k b in
      src.names.apart m.1.0 o.1.0 m.0 o.0 m.1.1 o.1.1 (ap (λ (n : MethodName). with_context n.descriptor) m.2 ∙ sym (ap (λ (n : MethodName). n.descriptor) (o.2 ∙ s))))

  -- The duplicate of a method has its number among the duplicates.
  pub copy_placed : (n : MethodName) → IsAt old n → (i : ℕ) → position (is_method n) old ≡ Some i → position (is_method (copy_name n)) (map copy_name old) ≡ Some i
  copy_placed n at i e =
      position_map copy_name (is_method n) (is_method (copy_name n)) old
      (all_items (λ k. is_method (copy_name n) (copy_name k) ≡ is_method n k) old (λ k h. copy_tests n k (not_kept n at) (not_kept k h))) ∙ e
