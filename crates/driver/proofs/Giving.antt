-- Lists of which one grows, or is replaced place by place.
use Rattle.std.proofs.Common.{◌≡◌, ℕ, zero, suc, ◌+◌, ◌<◌, List, [], ◌∷◌, ◌++◌, length, get_or, set, take, drop, map, All, refl, sym, ◌∙◌, ap, subst, arith}
use Rattle.std.specs.declared.vec.Vec.{Vec}
use Rattle.std.specs.List.{AllByRecursion}
use Rattle.std.specs.Global.{Global}
use Rattle.std.proofs.lemmas.List.{length-append, length-map, length-drop, length-take-le, get_or_default}
use Rattle.std.proofs.lemmas.List.Edits.{map_over_more}
use Rattle.session.specs.declared.record.Record.{Record}
use Rattle.driver.specs.Bags.{lists, numbered, IsOfWorker}

pub lists_at : (vs : List (Vec ℕ Global)) (i : ℕ) (v : Vec ℕ Global) → i < length vs → v ≡ get_or vs i v → get_or (lists vs) i [] ≡ v.items
lists_at [] i v less is = absurd (omega arith)
lists_at (u ∷ vs) zero v less is = ap (λ (w : Vec ℕ Global). w.items) (sym is)
lists_at (u ∷ vs) (suc i) v less is = lists_at vs i v (omega arith) is

-- a list of which the first grows
pub grown : (vs : List (Vec ℕ Global)) (rest : List ℕ) (old new : Vec ℕ Global) → 0 < length vs → old ≡ get_or vs 0 old → new.items ≡ old.items ++ rest
    → (first : List ℕ) × (others : List (List ℕ)) × (lists vs ≡ first ∷ others) × (lists (set vs 0 new) ≡ (first ++ rest) ∷ others)
grown [] rest old new some here more = absurd (omega arith)
grown (v ∷ vs) rest old new some here more =
    (v.items, lists vs, refl, ap (λ l. l ∷ lists vs) (more ∙ ap (λ (w : Vec ℕ Global). w.items ++ rest) here))

module _ (taken : List (Vec ℕ Global)) (xs ys : List Record) (i : ℕ) (d : Record) (v : Vec ℕ Global) (index : ℕ) where
  -- one record more gets its number
  pub numbered_next : All (IsOfWorker (lists taken)) xs → i < length xs → ys ≡ map (numbered (lists taken)) (take i xs) ++ drop i xs
      → v ≡ get_or taken (get_or ys i d).lane v → index ≡ get_or v.items (get_or ys i d).index index
      → set ys i (record (get_or ys i d) { index = index }) ≡ map (numbered (lists taken)) (take (i + 1) xs) ++ drop (i + 1) xs
  numbered_next all less is lane_is index_is =
      let x = get_or ys i d in
      let f = numbered (lists taken) in
      let long : length ys ≡ length xs = ap length is ∙ length-append (map f (take i xs)) (drop i xs) ∙ (let a = length-map (take i xs) f in
      let b = length-take-le i xs (omega arith) in let c = length-drop i xs in omega arith) in
      let here : x ≡ get_or ys i x = get_or_default ys i d x (omega arith) in
      let old : x ≡ get_or xs i d = ap (λ (l : List Record). get_or l i d) is ∙ behind f xs i d less in
      let inside = subst (IsOfWorker (lists taken)) (sym old) (all i d less) in
      let long' = length-map taken (λ (w : Vec ℕ Global). w.items) in
      let there = lists_at taken x.lane v (omega (arith, inside.0, long')) lane_is in
      let within : x.index < length v.items = let l = ap length there in omega (arith, inside.1, l) in
      let number : index ≡ get_or (get_or (lists taken) x.lane []) x.index 0 =
      index_is ∙ get_or_default v.items x.index index 0 within ∙ ap (λ (l : List ℕ). get_or l x.index 0) (sym there) in
      ap (λ (n : ℕ). set ys i (record x { index = n })) number ∙ map_over_more f xs ys i x less is here
    where
      behind : (f : Record → Record) (xs : List Record) (i : ℕ) (d : Record) → i < length xs → get_or (map f (take i xs) ++ drop i xs) i d ≡ get_or xs i d
      behind f [] i d less = absurd (omega arith)
      behind f (x ∷ xs) zero d less = refl
      behind f (x ∷ xs) (suc i) d less = behind f xs i d (omega arith)

-- what holds of each list holds of the one at a place
pub list_here : (P : List ℕ → Type 0) (vs : List (Vec ℕ Global)) (i : ℕ) (v : Vec ℕ Global) → AllByRecursion P (lists vs) → i < length vs → v ≡ get_or vs i v → P v.items
list_here P [] i v all less is = absurd (omega arith)
list_here P (u ∷ vs) zero v all less is = subst (λ (w : Vec ℕ Global). P w.items) (sym is) all.0
list_here P (u ∷ vs) (suc i) v all less is = list_here P vs i v all.1 (omega arith) is

-- a list, taken whole
pub take_whole : {A : Type 0} (n : ℕ) (xs ys : List A) → n ≡ length xs → take n (xs ++ ys) ≡ xs
take_whole zero [] ys e = refl
take_whole zero (x ∷ xs) ys e = absurd (omega (arith, e))
take_whole (suc n) [] ys e = absurd (omega (arith, e))
take_whole (suc n) (x ∷ xs) ys e = ap (λ l. x ∷ l) (take_whole n xs ys (omega (arith, e)))
