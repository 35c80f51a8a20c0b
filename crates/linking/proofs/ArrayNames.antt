-- Array types by the names that anewarray has for their elements.
use Rattle.std.proofs.Common.{◌≡◌, ℕ, ◌&&◌, Bool, true, false, cond, List, [], ◌∷◌, ◌++◌, drop, refl, sym, ap, ◌∙◌, arith}
use Rattle.std.specs.Prelude.{bytes_eq, codes, ◌==◌}
use Rattle.std.proofs.lemmas.Slice.Eq.{bytes_eq-Decides}
use Rattle.std.proofs.lemmas.Bool.Decides.{nat_tests}
use Rattle.jmodel.specs.declared.name.MethodName.{MethodName}
use Rattle.objects.specs.linking.Members.{is_name}
use Rattle.objects.specs.semantics.Program.{Row}
use Rattle.objects.specs.typing.TypeOrder.{is_array, is_ended, without_last, descriptor_of}
use Rattle.objects.specs.linking.Layout.{array_over}
use Rattle.hierarchy.specs.Names.{named}
use Rattle.linking.specs.Numbering.{element_key, array_key, made_key}
use Rattle.hierarchy.proofs.Parts.{same_bytes}
use Rattle.hierarchy.proofs.SearchLaws.{same_name}

-- a thing is the same as itself
itself : (a : List ℕ) → bytes_eq a a ≡ true
itself a = (bytes_eq-Decides a a).1 refl

-- what stands before a semicolon
ends : (n : List ℕ) → without_last (n ++ 59 ∷ []) ≡ n
ends [] = refl
ends (c ∷ []) = refl
ends (c ∷ d ∷ cs) = ap (λ (l : List ℕ). c ∷ l) (ends (d ∷ cs))

-- what is behind the bracket of the array that is made of a name
pub key_of_made : (n : List ℕ) → element_key (descriptor_of n) ≡ made_key n
key_of_made n = go (is_array n) refl
  where
    bracket : (n : List ℕ) → is_array n ≡ true → element_key n ≡ named n (codes "[") []
    bracket [] e = absurd cc
    bracket (c ∷ cs) e = rw e refl

    go : (b : Bool) → is_array n ≡ b → element_key (cond b n (codes "L" ++ n ++ codes ";")) ≡ cond b (named n (codes "[") []) (named n (codes "L") [])
    go true e = bracket n e
    go false e =
        let ended : is_ended (n ++ 59 ∷ []) ≡ true = ap (λ (l : List ℕ). bytes_eq (n ++ 59 ∷ []) (l ++ 59 ∷ [])) (ends n) ∙ itself (n ++ 59 ∷ []) in
        rw ended (ap (λ (l : List ℕ). named l (codes "L") []) (ends n))

-- keys of different marks differ
other_name : (a b c d : List ℕ) {P : Type 0} → named a b [] ≡ named c d [] → bytes_eq b d ≡ false → P
other_name a b c d e differs =
    let same : b ≡ d = ap (λ (k : MethodName). k.name) e in
    absurd (let t : bytes_eq b d ≡ true = ap (λ (l : List ℕ). bytes_eq l d) same ∙ itself d in cc)

-- only that array has the key
pub made_of_key : (n d : List ℕ) → element_key d ≡ made_key n → d ≡ descriptor_of n
made_of_key n d e = by (is_array n) refl e
  where
    first : (a b x y : List ℕ) → named a x [] ≡ named b y [] → a ≡ b
    first a b x y h = ap (λ (k : MethodName). k.class) h

    array : (d : List ℕ) → element_key d ≡ named n (codes "[") [] → d ≡ n
    array [] h = other_name [] [] n (codes "[") h refl
    array (c ∷ cs) h = go (c == 91) refl ((c == 76) && is_ended cs) refl h
      where
        go : (a : Bool) → (c == 91) ≡ a → (b : Bool) → ((c == 76) && is_ended cs) ≡ b
            → cond a (named (c ∷ cs) (codes "[") []) (cond b (named (without_last cs) (codes "L") []) (named [] [] [])) ≡ named n (codes "[") [] → (c ∷ cs) ≡ n
        go true e b f h = first (c ∷ cs) n (codes "[") (codes "[") h
        go false e true f h = other_name (without_last cs) (codes "L") n (codes "[") h refl
        go false e false f h = other_name [] [] n (codes "[") h refl

    class : (d : List ℕ) → element_key d ≡ named n (codes "L") [] → d ≡ codes "L" ++ n ++ codes ";"
    class [] h = other_name [] [] n (codes "L") h refl
    class (c ∷ cs) h = go (c == 91) refl ((c == 76) && is_ended cs) refl h
      where
        left : (a b : Bool) → (a && b) ≡ true → a ≡ true
        left true b h = refl
        left false b h = absurd cc

        right : (a b : Bool) → (a && b) ≡ true → b ≡ true
        right true b h = h
        right false b h = absurd cc

        go : (a : Bool) → (c == 91) ≡ a → (b : Bool) → ((c == 76) && is_ended cs) ≡ b
            → cond a (named (c ∷ cs) (codes "[") []) (cond b (named (without_last cs) (codes "L") []) (named [] [] [])) ≡ named n (codes "L") [] → (c ∷ cs) ≡ codes "L" ++ n ++ codes ";"
        go true e b f h = other_name (c ∷ cs) (codes "[") n (codes "L") h refl
        go false e true f h =
            let letter : c ≡ 76 = let t = left (c == 76) (is_ended cs) f in grind (arith, nat_tests) in
            let name : without_last cs ≡ n = first (without_last cs) n (codes "L") (codes "L") h in
            let rest : cs ≡ n ++ 59 ∷ [] = same_bytes cs (without_last cs ++ 59 ∷ []) (right (c == 76) (is_ended cs) f) ∙ ap (λ (l : List ℕ). l ++ 59 ∷ []) name in
            ap (λ (x : ℕ). x ∷ cs) letter ∙ ap (λ (l : List ℕ). 76 ∷ l) rest
        go false e false f h = other_name [] [] n (codes "L") h refl

    by : (b : Bool) → is_array n ≡ b → element_key d ≡ cond b (named n (codes "[") []) (named n (codes "L") []) → d ≡ cond b n (codes "L" ++ n ++ codes ";")
    by true e h = array d h
    by false e h = class d h

-- a name is the same as itself
name_itself : (k : MethodName) → is_name k k ≡ true
name_itself k = rw (itself k.name, itself k.descriptor, itself k.class) refl

-- a row has the key of a name where it is the array that is made of it
pub tells : (n : List ℕ) (r : Row) → is_name (made_key n) (array_key r) ≡ bytes_eq r.name (array_over n)
tells n r = go (is_name (made_key n) (array_key r)) refl (bytes_eq r.name (array_over n)) refl
  where
    keyed : (name : List ℕ) → name ≡ array_over n → cond (is_array name) (element_key (drop 1 name)) (named [] [] []) ≡ made_key n
    keyed name e = ap (λ (l : List ℕ). cond (is_array l) (element_key (drop 1 l)) (named [] [] [])) e ∙ key_of_made n

    found : (name : List ℕ) → cond (is_array name) (element_key (drop 1 name)) (named [] [] []) ≡ made_key n → name ≡ array_over n
    found name e = by name (is_array name) refl e
      where
        nothing : (name : List ℕ) (b : Bool) → is_array n ≡ b → named [] [] [] ≡ cond b (named n (codes "[") []) (named n (codes "L") []) → name ≡ array_over n
        nothing name true e h = other_name [] [] n (codes "[") h refl
        nothing name false e h = other_name [] [] n (codes "L") h refl

        by : (name : List ℕ) (b : Bool) → is_array name ≡ b → cond b (element_key (drop 1 name)) (named [] [] []) ≡ made_key n → name ≡ array_over n
        by name false e h = nothing name (is_array n) refl h
        by [] true e h = absurd cc
        by (c ∷ cs) true e h =
            let letter : c ≡ 91 = grind (arith, nat_tests) in
            ap (λ (x : ℕ). x ∷ cs) letter ∙ ap (λ (l : List ℕ). 91 ∷ l) (made_of_key n cs h)

    go : (a : Bool) → is_name (made_key n) (array_key r) ≡ a → (b : Bool) → bytes_eq r.name (array_over n) ≡ b → a ≡ b
    go true e true f = refl
    go false e false f = refl
    go true e false f =
        let same : r.name ≡ array_over n = found r.name (sym (same_name (made_key n) (array_key r) e)) in
        absurd (let t : bytes_eq r.name (array_over n) ≡ true = ap (λ (l : List ℕ). bytes_eq l (array_over n)) same ∙ itself (array_over n) in cc)
    go false e true f =
        let key : array_key r ≡ made_key n = keyed r.name (same_bytes r.name (array_over n) f) in
        absurd (let t : is_name (made_key n) (array_key r) ≡ true = ap (is_name (made_key n)) key ∙ name_itself (made_key n) in cc)
