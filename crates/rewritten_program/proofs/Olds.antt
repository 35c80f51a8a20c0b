-- The old methods of a rewritten class mean the program's, or their wrappers.
use Rattle.std.proofs.Common.{◌≡◌, ℕ, ℤ, suc, ◌+◌, Bool, true, false, not, ◌||◌, List, [], ◌∷◌, length, map, Option, Some, None, refl, sym, ap, ◌∙◌, subst, arith}
use Rattle.std.specs.Prelude.{slice_get, filter, zip, is_some, if◌then◌else◌, codes, option_and_then}
use Rattle.std.specs.List.{AllByRecursion, AllZip, list_any}
use Rattle.jmodel.specs.format.ClassFile.{Attribute, Member, Pool, ClassFile}
use Rattle.jmodel.specs.format.ClassRules.{IsAttribute, is_named, same_text}
use Rattle.objects.specs.linking.Classes.{Declared, methods_in}
use Rattle.objects.specs.linking.Taken.{is_next, is_taken}
use Rattle.objects.specs.linking.Code.{is_root, retries_of}
use Rattle.jmodel.specs.format.Pool.{utf8}
use Rattle.jmodel.specs.format.PoolAdding.{IsLonger}
use Rattle.objects.specs.linking.Each.{each}
use Rattle.objects.proofs.TakenLaws.{taken_law}
use Rattle.objects.specs.semantics.Program.{Method, Program}
use Rattle.objects.specs.typing.Typing.{Table}
use Rattle.objects.specs.rewriting.Relinking.{is_of, is_counted_old, rewritten_symbols, rewritten_meaning}
use Rattle.objects.specs.rewriting.Rewriting.{duplicate, wrapper_method, old_method, next_id, old_methods}
use Rattle.objects.proofs.Items.{IsAt, later, item}
use Rattle.objects.proofs.Links.{IsLinkedTo}
use Rattle.member_code.specs.Meaning.{meaning}
use Rattle.member_code.proofs.Grown.{Grown, the_some, utf8_grown}
use Rattle.retry_wrapper.specs.WrapperLaw.{HasCode, IsRoot, WrapperLaw}
use Rattle.rewriter.specs.Rewritten.{number_behind, id_behind}
use Rattle.rewriter.proofs.Lists.{filter_keeps, filter_drops}
use Rattle.rewritten_program.specs.Keeps.{IsOld, AreOlds}
use Rattle.rewritten_program.proofs.Each.{each_cons}
use Rattle.rewritten_program.proofs.Placed.{IsPair}
use Rattle.rewritten_program.proofs.Told.{IsTold, meant_retries, pair_retries}

-- ---- methods that have code, over longer pools

-- a name over a longer pool
named_same : (a b : Pool) → Grown a b → (x : Attribute) → IsAttribute a x → is_named b (codes "Code") x ≡ is_named a (codes "Code") x
named_same a b G x h = let t = the_some (utf8 a x.name) h.named in ap (λ (o : Option (List ℕ)). same_text o (codes "Code")) (utf8_grown a b G x.name t.0 t.1 ∙ sym t.1)

-- an attribute over a longer pool
attribute_grown : (a b : Pool) → Grown a b → (x : Attribute) → IsAttribute a x → IsAttribute b x
attribute_grown a b G x h = let t = the_some (utf8 a x.name) h.named in let e = utf8_grown a b G x.name t.0 t.1 in record { name = h.name; named = rw e refl; short = h.short }

-- attributes over a longer pool
attributes_grown : (a b : Pool) → Grown a b → (xs : List Attribute) → AllByRecursion (IsAttribute a) xs → AllByRecursion (IsAttribute b) xs × (list_any (is_named b (codes "Code")) xs ≡ list_any (is_named a (codes "Code")) xs)
attributes_grown a b G [] h = (tt, refl)
attributes_grown a b G (x ∷ xs) h =
    let r = attributes_grown a b G xs h.1 in (
      (attribute_grown a b G x h.0, r.0),
      ap (λ (t : Bool). t || list_any (is_named b (codes "Code")) xs) (named_same a b G x h.0) ∙ ap (λ (t : Bool). is_named a (codes "Code") x || t) r.1,
    )

-- a method that has code
code_grown : (a b : Pool) → IsLonger a b → (m : Member) → HasCode a m → HasCode b m
code_grown a b L m h = let r = attributes_grown a b (record { more = L.0; is = L.1 }) m.attributes h.attributes in record { flags = h.flags; attributes = r.0; there = r.1 ∙ h.there }

-- ---- roots

-- what makes attempts is taken
root_taken : (cs : List ClassFile) (m : Declared) → IsAt (methods_in cs) m → is_taken cs m ≡ false → retries_of m.class.pool m.member ≡ None
root_taken cs m at untaken = go (retries_of m.class.pool m.member) refl
  where
    left : (a b : Bool) → a ≡ true → (a || b) ≡ true
    left true b e = refl
    left false b e = cc

    go : (o : Option ℤ) → retries_of m.class.pool m.member ≡ o → o ≡ None
    go None e = refl
    go (Some a) e =
        let root : is_root m.class.pool m.member ≡ true = ap (λ (o : Option ℤ). is_some o) e in
        let closed = item (λ (m : Declared). is_next cs (is_taken cs) m ≡ true → is_taken cs m ≡ true) (methods_in cs) m (taken_law cs).closed at in
        let fall : true ≡ false = sym (closed (left (is_root m.class.pool m.member) _ root)) ∙ untaken in
        cc

-- ---- a class

module _ (cs news : List ClassFile) (P : Program) (copy : Method → Table → Method) (l : IsLinkedTo cs P) (c d : ClassFile) (fields : ℕ) (T : IsTold cs news P copy c d fields) (wraps : WrapperLaw) where
  -- what an old member means
  abbrev meant : Declared → Option Method
  meant k = rewritten_meaning P cs news (is_counted_old k) k

  -- a member of the rewriting
  abbrev at_d : Member → Declared
  at_d m = record { class = d; member = m }

  -- one member
  one_old : (i n id : ℕ) (m x : Member) (k : Method) (p : IsPair cs P c m k) → p.number ≡ n → IsOld P c d.pool i n id m x → meant (at_d x) ≡ Some (old_method P id n k.retries k)
  one_old i n id m x k p number old = go (retries_of c.pool m) refl
    where
      go : (o : Option ℤ) → retries_of c.pool m ≡ o → meant (at_d x) ≡ Some (old_method P id n k.retries k)
      go None e =
          let kept = old.kept e in
          let same = T.olds m k p in
          let none : k.retries ≡ None = pair_retries cs P l c m k p ∙ e in
          let counted : is_counted_old (at_d x) ≡ true =
          ap (λ (y : Member). is_counted_old (at_d y)) kept ∙ ap (λ (o : Option ℤ). not (is_some o)) (sym (meant_retries (rewritten_symbols P cs news d) true m k same) ∙ none) in
          ap (λ (b : Bool). meaning (rewritten_symbols P cs news d) b x) counted ∙ ap (meaning (rewritten_symbols P cs news d) true) kept ∙ same ∙ ap (λ (r : Option ℤ). Some (old_method P id n r k)) (sym none)
      go (Some a) e =
          let there : slice_get P.methods n ≡ Some k = subst (λ (j : ℕ). slice_get P.methods j ≡ Some k) number p.is in
          let W = old.wrapped a e k there in
          let code = T.coded m k p a e in
          let root = subst (λ (j : ℕ). IsRoot (rewritten_symbols P cs news d) m k (duplicate P j)) number (T.roots m k p a e) in
          let law = wraps P id n i a k m W.before W.after (rewritten_symbols P cs news d) W.short code.1 W.at (code_grown c.pool W.before.pool W.longer m code.0) W.made W.behind root in
          let is : meaning (rewritten_symbols P cs news d) false x ≡ Some (wrapper_method P id n a k) = sym (ap (option_and_then (meaning (rewritten_symbols P cs news d) false)) W.there) ∙ law in
          let some : k.retries ≡ Some a = pair_retries cs P l c m k p ∙ e in
          let counted : is_counted_old (at_d x) ≡ false =
          ap (λ (o : Option ℤ). not (is_some o)) (sym (meant_retries (rewritten_symbols P cs news d) false x (wrapper_method P id n a k) is) ∙ some) in
          ap (λ (b : Bool). meaning (rewritten_symbols P cs news d) b x) counted ∙ is ∙ ap (λ (r : Option ℤ). Some (old_method P id n r k)) (sym some)

  -- whether a member of the original is taken, and one of the rewriting is old
  abbrev taken : Member → Bool
  taken m = is_taken cs (record { class = c; member = m })

  -- whether a member of the rewriting is a method of the program
  abbrev is_old : Member → Bool
  is_old x = is_of P (at_d x)

  -- members and methods, the first with number n
  abbrev StandPairs : ℕ → List Member → List Method → Type 0
  StandPairs n ms ks = (j : ℕ) (m : Member) (k : Method) → slice_get ms j ≡ Some m → slice_get ks j ≡ Some k → (p : IsPair cs P c m k) × (p.number ≡ n + j)

  module _ (at : IsAt cs c) (in_class : (m : Member) → IsAt c.methods m → IsAt (methods_in cs) (record { class = c; member = m })) where
    -- what is known of the members behind one
    abbrev Rest : ℕ → List Member → List Member → Type 0
    Rest i ms xs = (a b : ℕ) (ls : List Method) → AreOlds P c d.pool (suc i) a b (zip ms (map taken ms)) xs → StandPairs a (filter taken ms) ls → length ls ≡ length (filter taken ms) → each (λ (x : Member). meant (at_d x)) (filter is_old xs) ≡ Some (old_methods P b a ls)

    -- member after member
    pub olds_from : (i n id : ℕ) (ms xs : List Member) (ks : List Method) → ((m : Member) → IsAt ms m → IsAt c.methods m) → AreOlds P c d.pool i n id (zip ms (map taken ms)) xs → AllZip (λ (m x : Member). is_old x ≡ taken m) ms xs
        → StandPairs n (filter taken ms) ks → length ks ≡ length (filter taken ms) → each (λ (x : Member). meant (at_d x)) (filter is_old xs) ≡ Some (old_methods P id n ks)
    olds_from i n id [] [] [] inside h z p many = refl
    olds_from i n id [] [] (k ∷ ks) inside h z p many = absurd (omega (arith, many))
    olds_from i n id [] (x ∷ xs) ks inside h z p many = absurd h
    olds_from i n id (m ∷ ms) [] ks inside h z p many = absurd h
    olds_from i n id (m ∷ ms) (x ∷ xs) ks inside h z p many = go (taken m) refl (λ a b ls g q r. olds_from (suc i) a b ms xs ls (λ y t. inside y (later m ms y t)) g z.1 q r)
      where
        kept : taken m ≡ true → (ks : List Method) → StandPairs n (m ∷ filter taken ms) ks → length ks ≡ suc (length (filter taken ms)) → Rest i ms xs → each (λ (x : Member). meant (at_d x)) (filter is_old (x ∷ xs)) ≡ Some (old_methods P id n ks)
        kept e [] q r rest = absurd (omega (arith, r))
        kept e (k ∷ ls) q r rest =
            let here = q 0 m k refl refl in
            let number : here.0.number ≡ n = omega (arith, here.1) in
            let one = one_old i n id m x k here.0 number h.0 in
            let n_is : number_behind (taken m) n ≡ suc n = ap (λ (b : Bool). number_behind b n) e ∙ omega arith in
            let retries = pair_retries cs P l c m k here.0 in
            let id_is : id_behind c.pool id m ≡ next_id k.retries id = by_retries (retries_of c.pool m) refl ∙ ap (λ (o : Option ℤ). next_id o id) (sym retries) in
            let further : StandPairs (suc n) (filter taken ms) ls = λ j y w f g. (let t = q (suc j) y w f g in (t.0, omega (arith, t.1))) in
            let olds : AreOlds P c d.pool (suc i) (suc n) (next_id k.retries id) (zip ms (map taken ms)) xs =
            subst (λ (a : ℕ). AreOlds P c d.pool (suc i) a (next_id k.retries id) (zip ms (map taken ms)) xs) n_is (subst (λ (b : ℕ). AreOlds P c d.pool (suc i) (number_behind (taken m) n) b (zip ms (map taken ms)) xs) id_is h.1) in
            let more = rest (suc n) (next_id k.retries id) ls olds further (omega (arith, r)) in
            ap (each (λ (x : Member). meant (at_d x))) (filter_keeps is_old x xs (z.0 ∙ e))
            ∙ each_cons (λ (x : Member). meant (at_d x)) x (filter is_old xs) (old_method P id n k.retries k) (old_methods P (next_id k.retries id) (suc n) ls) one more
          where
            by_retries : (o : Option ℤ) → retries_of c.pool m ≡ o → id_behind c.pool id m ≡ next_id (retries_of c.pool m) id
            by_retries None e = rw e refl
            by_retries (Some a) e = rw e (omega arith)

        go : (b : Bool) → taken m ≡ b → Rest i ms xs → each (λ (x : Member). meant (at_d x)) (filter is_old (x ∷ xs)) ≡ Some (old_methods P id n ks)
        go true e rest =
            let list = filter_keeps taken m ms e in
            kept e ks (subst (λ (l : List Member). StandPairs n l ks) list p) (many ∙ ap length list) rest
        go false e rest =
            let list = filter_drops taken m ms e in
            let none = root_taken cs (record { class = c; member = m }) (in_class m (inside m (0, refl))) e in
            let n_is : number_behind (taken m) n ≡ n = ap (λ (b : Bool). number_behind b n) e in
            let id_is : id_behind c.pool id m ≡ id = ap (λ (o : Option ℤ). if is_some o then id + 1 else id) none in
            let olds : AreOlds P c d.pool (suc i) n id (zip ms (map taken ms)) xs =
            subst (λ (a : ℕ). AreOlds P c d.pool (suc i) a id (zip ms (map taken ms)) xs) n_is (subst (λ (b : ℕ). AreOlds P c d.pool (suc i) (number_behind (taken m) n) b (zip ms (map taken ms)) xs) id_is h.1) in
            ap (each (λ (x : Member). meant (at_d x))) (filter_drops is_old x xs (z.0 ∙ e))
            ∙ rest n id ks olds (subst (λ (l : List Member). StandPairs n l ks) list p) (many ∙ ap length list)
