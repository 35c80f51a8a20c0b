-- What each item of lists gives, and lists of methods that are joined.
use Rattle.std.proofs.Common.{◌≡◌, ℕ, suc, ◌+◌, List, [], ◌∷◌, ◌++◌, length, Option, Some, None, ℤ, refl, ap, ◌∙◌, arith}
use Rattle.std.specs.Prelude.{is_some}
use Rattle.jmodel.specs.format.ClassFile.{Member, ClassFile}
use Rattle.objects.specs.linking.Classes.{Declared, declared_in}
use Rattle.objects.specs.linking.Each.{in_front, each}
use Rattle.objects.specs.semantics.Program.{Field, Method, Program}
use Rattle.objects.specs.rewriting.Rewriting.{getter_method, setter_method, accessors, old_method, next_id, old_methods}
use Rattle.rewriter.specs.Part.{is_wrapped, wrapper_count}
use Rattle.rewriter.proofs.Lists.{filter_keeps, filter_drops}

-- ---- what each gives

-- of two lists
pub each_append : {A B : Type 0} (f : A → Option B) (xs ys : List A) (us vs : List B) → each f xs ≡ Some us → each f ys ≡ Some vs → each f (xs ++ ys) ≡ Some (us ++ vs)
each_append f [] ys us vs h k = let e : us ≡ [] = cc in rw e k
each_append {A} {B} f (x ∷ xs) ys us vs h k = go (f x) (each f xs) refl h (λ ws t. each_append f xs ys ws vs t k)
  where
    go : (o : Option B) (os : Option (List B)) → each f xs ≡ os → in_front o os ≡ Some us → ((ws : List B) → each f xs ≡ Some ws → each f (xs ++ ys) ≡ Some (ws ++ vs)) → in_front o (each f (xs ++ ys)) ≡ Some (us ++ vs)
    go None os e h r = cc
    go (Some y) None e h r = cc
    go (Some y) (Some ws) e h r = let t = r ws e in let u : us ≡ y ∷ ws = cc in rw (t, u) refl

-- of one more
pub each_cons : {A B : Type 0} (f : A → Option B) (x : A) (xs : List A) (y : B) (ys : List B) → f x ≡ Some y → each f xs ≡ Some ys → each f (x ∷ xs) ≡ Some (y ∷ ys)
each_cons f x xs y ys h k = rw (h, k) refl

-- of the members of a class
pub each_declared : {B : Type 0} (f : Declared → Option B) (d : ClassFile) (ms : List Member) → each f (declared_in d ms) ≡ each (λ (m : Member). f (record { class = d; member = m })) ms
each_declared f d [] = refl
each_declared {B} f d (m ∷ ms) = ap (in_front (f (record { class = d; member = m }))) (each_declared f d ms)

-- ---- old methods

module _ (P : Program) where
  -- how many wrappers there are up to behind a method
  count_step : (k : Method) (ks : List Method) (id : ℕ) → next_id k.retries id + wrapper_count ks ≡ id + wrapper_count (k ∷ ks)
  count_step k ks id = go k.retries refl
    where
      go : (o : Option ℤ) → k.retries ≡ o → next_id k.retries id + wrapper_count ks ≡ id + wrapper_count (k ∷ ks)
      go None e =
          let list = ap length (filter_drops is_wrapped k ks (ap (λ (r : Option ℤ). is_some r) e)) in
          let next = ap (λ (r : Option ℤ). next_id r id) e in
          omega (arith, list, next)
      go (Some a) e =
          let list = ap length (filter_keeps is_wrapped k ks (ap (λ (r : Option ℤ). is_some r) e)) in
          let next = ap (λ (r : Option ℤ). next_id r id) e in
          omega (arith, list, next)

  -- old methods of two lists
  pub olds_append : (ks ls : List Method) (id n : ℕ) → old_methods P id n (ks ++ ls) ≡ old_methods P id n ks ++ old_methods P (id + wrapper_count ks) (n + length ks) ls
  olds_append [] ls id n =
      let i : id ≡ id + wrapper_count [] = omega arith in
      let m : n ≡ n + length {A = Method} [] = omega arith in
      ap (λ (a : ℕ). old_methods P a n ls) i ∙ ap (λ (b : ℕ). old_methods P (id + wrapper_count []) b ls) m
  olds_append (k ∷ ks) ls id n =
      let m : suc n + length ks ≡ n + length (k ∷ ks) = omega arith in
      ap (λ (l : List Method). old_method P id n k.retries k ∷ l) (olds_append ks ls (next_id k.retries id) (suc n))
      ∙ ap (λ (a : ℕ). old_method P id n k.retries k ∷ (old_methods P (next_id k.retries id) (suc n) ks ++ old_methods P a (suc n + length ks) ls)) (count_step k ks id)
      ∙ ap (λ (b : ℕ). old_method P id n k.retries k ∷ (old_methods P (next_id k.retries id) (suc n) ks ++ old_methods P (id + wrapper_count (k ∷ ks)) b ls)) m

-- ---- accessors

-- accessors of two lists
pub accessors_append : (fs gs : List Field) (n : ℕ) → accessors n (fs ++ gs) ≡ accessors n fs ++ accessors (n + length fs) gs
accessors_append [] gs n = let m : n ≡ n + length {A = Field} [] = omega arith in ap (λ (b : ℕ). accessors b gs) m
accessors_append (f ∷ fs) gs n =
    let m : suc n + length fs ≡ n + length (f ∷ fs) = omega arith in
    ap (λ (l : List Method). getter_method n f ∷ setter_method f ∷ l) (accessors_append fs gs (suc n))
    ∙ ap (λ (b : ℕ). getter_method n f ∷ setter_method f ∷ (accessors (suc n) fs ++ accessors b gs)) m
