-- Tables of what stands above classes.
use Rattle.std.proofs.Common.{◌≡◌, ℕ, zero, suc, ◌+◌, ◌<◌, ◌≤◌, nat_lt, Vec, Bool, true, false, cond, ◌||◌, List, [], ◌∷◌, ◌++◌, length, Option, Some, None, refl, sym, ap, ◌∙◌, subst, arith}
use Rattle.std.specs.Prelude.{bytes_eq, is_some, slice_get, option_and_then}
use Rattle.std.specs.List.{find, flat_map, list_any}
use Rattle.std.proofs.lemmas.List.Folds.{list_any-append}
use Rattle.std.proofs.lemmas.List.{append-nil}
use Rattle.std.proofs.lemmas.Grind.{flat_map-append}
use Rattle.jmodel.specs.format.ClassFile.{ClassFile}
use Rattle.objects.specs.linking.Members.{own_name}
use Rattle.objects.specs.linking.Superclasses.{super_name, class_named, with_above, upward, lineage}
use Rattle.objects.specs.linking.Resolution.{interface_names, names_above, ancestry, above, method_way}
use Rattle.hierarchy.specs.Places.{place_of}
use Rattle.resolution.specs.Ways.{FindSame, entry_at, entry_of, places_of, listed, reach, AreListed, AreReached, IsWay, AreWays, AreNamedWays, classes_at, some_class, first_own}
use Rattle.resolution.proofs.Finding.{found_itself, same_front, same_flat, each_same, same_then}
use Rattle.resolution.proofs.Reaching.{flat_flat, first_found, first_same, reach_from, all_reached, all_above, placed_there}
use Rattle.hierarchy.proofs.Standing.{stands}
use Rattle.hierarchy.proofs.Upward.{same_place}
use Rattle.hierarchy.proofs.Parts.{same_bytes}
use Rattle.resolution.proofs.Tables.{lists, lists_more}
use Rattle.std.proofs.Math.ListN.{get_or-append}
use Rattle.std.proofs.Math.Seq.{get_or-append_seam}
use Rattle.std.proofs.lemmas.Bool.Decides.{nat_tests}

-- a table has what stands in another at the places that a third has
abbrev pub IsJoined : (result table lists : List (List ℕ)) → Type 0
IsJoined result table lists = (p : ℕ) → FindSame (entry_at result p) (flat_map (entry_at table) (entry_at lists p))

-- each list of a table has that of another behind it
abbrev pub IsBehind : (result first others : List (List ℕ)) → Type 0
IsBehind result first others = (p : ℕ) → FindSame (entry_at result p) (entry_at first p ++ entry_at others p)

-- a place with an item is inside the list
inside_of : {A : Type 0} (xs : List A) (p : ℕ) (x : A) → slice_get xs p ≡ Some x → p < length xs
inside_of [] p x h = absurd cc
inside_of (y ∷ xs) zero x h = omega arith
inside_of (y ∷ xs) (suc p) x h = let less : p < length xs = inside_of xs p x h in omega (arith, less)

-- functions of the same lists join to the same
flat_each : {A B : Type 0} (f g : A → List B) (xs : List A) → ((x : A) → f x ≡ g x) → flat_map f xs ≡ flat_map g xs
flat_each f g [] h = refl
flat_each {A} {B} f g (x ∷ xs) h = ap (λ (l : List B). l ++ flat_map f xs) (h x) ∙ ap (λ (l : List B). g x ++ l) (flat_each f g xs h)

module _ (cs : List ClassFile) where
  -- the ancestries of names, by what is reached
  pub to_all : (ancestries : List (List ℕ)) → AreReached cs (length cs) ancestries → AreNamedWays cs (ancestry cs) ancestries
  to_all ancestries are name p e = record {
    all = reach cs (length cs) p;
    same = are p;
    are = sym (all_reached cs (length cs) name ∙ ap (λ (o : Option ℕ). classes_at cs (reach_from cs (length cs) o)) e);
  }

  -- what stands above classes, by what is reached from right above them
  pub to_above : (ancestries direct aboves : List (List ℕ)) → AreReached cs (length cs) ancestries → AreListed cs names_above direct → IsJoined aboves ancestries direct → AreWays cs (above cs) aboves
  to_above ancestries direct aboves reached are is p c e =
      let right_above = subst (λ (o : Option ClassFile). FindSame (entry_at direct p) (listed cs names_above o)) e (are p) in
      record {
        all = flat_map (reach cs (length cs)) (places_of cs (names_above c));
        same = same_then (entry_at aboves p) (flat_map (entry_at ancestries) (entry_at direct p)) (flat_map (reach cs (length cs)) (places_of cs (names_above c))) (is p)
            (same_then (flat_map (entry_at ancestries) (entry_at direct p)) (flat_map (reach cs (length cs)) (entry_at direct p)) (flat_map (reach cs (length cs)) (places_of cs (names_above c)))
            (each_same (entry_at ancestries) (reach cs (length cs)) (entry_at direct p) reached) (same_flat (reach cs (length cs)) (entry_at direct p) (places_of cs (names_above c)) right_above));
        are = sym (all_above cs (length cs) (names_above c));
      }

  -- what the class at a place lists as interfaces
  abbrev listed_at : ℕ → List ℕ
  listed_at q = listed cs interface_names (slice_get cs q)

  -- the ancestries of the interfaces of a class, if there is one
  interfaces_of : (o : Option ClassFile) → flat_map (λ c. flat_map (ancestry cs) (interface_names c)) (some_class o) ≡ classes_at cs (flat_map (reach cs (length cs)) (listed cs interface_names o))
  interfaces_of None = refl
  interfaces_of (Some c) = append-nil (flat_map (ancestry cs) (interface_names c)) ∙ all_above cs (length cs) (interface_names c)

  -- those of the interfaces of each class at some places
  interfaces_over : (ps : List ℕ) → flat_map (λ c. flat_map (ancestry cs) (interface_names c)) (classes_at cs ps) ≡ classes_at cs (flat_map (reach cs (length cs)) (flat_map listed_at ps))
  interfaces_over ps =
      flat_flat (λ (c : ClassFile). flat_map (ancestry cs) (interface_names c)) (λ (q : ℕ). some_class (slice_get cs q)) ps
      ∙ flat_each (λ (q : ℕ). flat_map (λ c. flat_map (ancestry cs) (interface_names c)) (some_class (slice_get cs q))) (λ (q : ℕ). classes_at cs (flat_map (reach cs (length cs)) (listed_at q))) ps (λ q. interfaces_of (slice_get cs q))
      ∙ sym (flat_flat (λ (q : ℕ). some_class (slice_get cs q)) (λ (q : ℕ). flat_map (reach cs (length cs)) (listed_at q)) ps)
      ∙ sym (ap (classes_at cs) (flat_flat (reach cs (length cs)) listed_at ps))

  -- where methods are sought, by lineages and the ancestries of their interfaces
  pub to_methods : (ancestries interfaces lineages lists aboves ways : List (List ℕ)) → AreReached cs (length cs) ancestries → AreListed cs interface_names interfaces → AreNamedWays cs (lineage cs) lineages
      → IsJoined lists interfaces lineages → IsJoined aboves ancestries lists → IsBehind ways lineages aboves → AreNamedWays cs (method_way cs) ways
  to_methods ancestries interfaces lineages lists aboves ways reached are supers first second both name p e =
      let N : ℕ = length cs in
      let way = supers name p e in
      let L : List ℕ = way.all in
      let own : List ℕ = entry_at lineages p in
      let direct : FindSame (entry_at lists p) (flat_map listed_at L) =
      same_then (entry_at lists p) (flat_map (entry_at interfaces) own) (flat_map listed_at L) (first p)
      (same_then (flat_map (entry_at interfaces) own) (flat_map listed_at own) (flat_map listed_at L) (each_same (entry_at interfaces) listed_at own are) (same_flat listed_at own L way.same)) in
      let over : FindSame (entry_at aboves p) (flat_map (reach cs N) (flat_map listed_at L)) =
      same_then (entry_at aboves p) (flat_map (entry_at ancestries) (entry_at lists p)) (flat_map (reach cs N) (flat_map listed_at L)) (second p)
      (same_then (flat_map (entry_at ancestries) (entry_at lists p)) (flat_map (reach cs N) (entry_at lists p)) (flat_map (reach cs N) (flat_map listed_at L))
      (each_same (entry_at ancestries) (reach cs N) (entry_at lists p) reached) (same_flat (reach cs N) (entry_at lists p) (flat_map listed_at L) direct)) in
      record {
        all = L ++ flat_map (reach cs N) (flat_map listed_at L);
        same = same_then (entry_at ways p) (own ++ entry_at aboves p) (L ++ flat_map (reach cs N) (flat_map listed_at L)) (both p)
            (same_front own L (entry_at aboves p) (flat_map (reach cs N) (flat_map listed_at L)) way.same over);
        are = flat_map-append (λ (q : ℕ). some_class (slice_get cs q)) L (flat_map (reach cs N) (flat_map listed_at L))
            ∙ ap (λ (l : List ClassFile). classes_at cs L ++ l) (sym (interfaces_over L))
            ∙ ap (λ (l : List ClassFile). l ++ flat_map (λ c. flat_map (ancestry cs) (interface_names c)) l) way.are;
      }

  -- ---- searches

  -- what a way has by a name's place
  pub at_name : (f : List ℕ → List ClassFile) (table : List (List ℕ)) (name : List ℕ) → AreNamedWays cs f table → (place_of cs name ≡ None → f name ≡ []) → IsWay cs (entry_of table (place_of cs name)) (f name)
  at_name f table name are none = go (place_of cs name) refl
    where
      go : (o : Option ℕ) → place_of cs name ≡ o → IsWay cs (entry_of table o) (f name)
      go None e = record { all = []; same = found_itself []; are = sym (none e) }
      go (Some p) e = are name p e

  -- a search in the classes of a way goes from place to place
  pub found_on_way : {B : Type 0} (q : B → Bool) (f : ClassFile → List B) (places : List ℕ) (classes : List ClassFile) → IsWay cs places classes
      → find q (flat_map f classes) ≡ first_own (λ p. find q (flat_map f (some_class (slice_get cs p)))) places
  found_on_way {B} q f places classes way =
      sym (ap (λ (l : List ClassFile). find q (flat_map f l)) way.are) ∙ ap (find q) (flat_flat f (λ p. some_class (slice_get cs p)) way.all) ∙ first_found q (λ p. flat_map f (some_class (slice_get cs p))) way.all
      ∙ sym (first_same (λ p. find q (flat_map f (some_class (slice_get cs p)))) places way.all way.same)

  -- at the place of a name there is a class
  pub class_there : (name : List ℕ) (p : ℕ) → place_of cs name ≡ Some p → (c : ClassFile) × (slice_get cs p ≡ Some c)
  class_there name p e = placed_there (λ c. bytes_eq (own_name c) name) cs p e

  -- where no class has a name, nothing stands there
  pub no_lineage : (name : List ℕ) → place_of cs name ≡ None → lineage cs name ≡ []
  no_lineage name e = go (length cs)
    where
      unnamed : class_named cs name ≡ None
      unnamed = sym (stands cs name) ∙ ap (option_and_then (slice_get cs)) e

      go : (n : ℕ) → upward cs n name ≡ []
      go zero = refl
      go (suc n) = ap (with_above (λ c. upward cs n (super_name c))) unnamed

  -- nor above it
  pub no_ancestry : (name : List ℕ) → place_of cs name ≡ None → ancestry cs name ≡ []
  no_ancestry name e = all_reached cs (length cs) name ∙ ap (λ (o : Option ℕ). classes_at cs (reach_from cs (length cs) o)) e

  -- nor is a method sought anywhere
  pub no_method_way : (name : List ℕ) → place_of cs name ≡ None → method_way cs name ≡ []
  no_method_way name e = ap (λ (l : List ClassFile). l ++ flat_map (λ c. flat_map (ancestry cs) (interface_names c)) l) (no_lineage name e)

  -- ---- tests

  -- a test holds of an item where a search finds one
  any_is : {A : Type 0} (q : A → Bool) (xs : List A) → list_any q xs ≡ is_some (find q xs)
  any_is q [] = refl
  any_is {A} q (x ∷ xs) = go (q x) (any_is q xs)
    where
      go : (b : Bool) → list_any q xs ≡ is_some (find q xs) → (b || list_any q xs) ≡ is_some (cond b (Some x) (find q xs))
      go true h = refl
      go false h = h

  -- a test holds somewhere in lists where it does in one of them
  any_flat : {A B : Type 0} (q : B → Bool) (f : A → List B) (xs : List A) → list_any q (flat_map f xs) ≡ list_any (λ x. list_any q (f x)) xs
  any_flat q f [] = refl
  any_flat q f (x ∷ xs) = list_any-append q (f x) (flat_map f xs) ∙ ap (λ (b : Bool). list_any q (f x) || b) (any_flat q f xs)

  -- a test of the classes of a way goes from place to place
  pub any_on_way : (q : ClassFile → Bool) (places : List ℕ) (classes : List ClassFile) → IsWay cs places classes → list_any q classes ≡ list_any (λ p. list_any q (some_class (slice_get cs p))) places
  any_on_way q places classes way =
      let test = λ (p : ℕ). list_any q (some_class (slice_get cs p)) in
      sym (ap (list_any q) way.are) ∙ any_flat q (λ p. some_class (slice_get cs p)) way.all ∙ any_is test way.all ∙ sym (ap is_some (way.same test)) ∙ sym (any_is test places)

  -- ---- lineages, as a loop builds their table

  module _ {A : Type 0} where
    -- one more lineage is put behind a table
    pub lineages_more : (i : ℕ) (c : ClassFile) (vs more : List (Vec ℕ A)) (v : Vec ℕ A) → more ≡ vs ++ v ∷ [] → slice_get cs i ≡ Some c → classes_at cs v.items ≡ lineage cs (own_name c) → length (lists vs) ≡ i
        → ((name : List ℕ) (p : ℕ) → p < i → place_of cs name ≡ Some p → IsWay cs (entry_at (lists vs) p) (lineage cs name))
        → (name : List ℕ) (p : ℕ) → p < i + 1 → place_of cs name ≡ Some p → IsWay cs (entry_at (lists more) p) (lineage cs name)
    lineages_more i c vs more v put at is many so_far name p h e = subst (λ (t : List (List ℕ)). IsWay cs (entry_at t p) (lineage cs name)) (sym (ap lists put ∙ lists_more vs v)) (go (nat_lt p i) refl)
      where
        go : (b : Bool) → nat_lt p i ≡ b → IsWay cs (entry_at (lists vs ++ v.items ∷ []) p) (lineage cs name)
        go true t =
            let inside : p < i = grind (arith, nat_tests) in
            let old : entry_at (lists vs ++ v.items ∷ []) p ≡ entry_at (lists vs) p = get_or-append (lists vs) (v.items ∷ []) [] p (omega (arith, inside, many)) in
            subst (λ (l : List ℕ). IsWay cs l (lineage cs name)) (sym old) (so_far name p inside e)
        go false t =
            let last : p ≡ i = grind (arith, nat_tests) in
            let new : entry_at (lists vs ++ v.items ∷ []) p ≡ v.items = ap (entry_at (lists vs ++ v.items ∷ [])) (last ∙ sym many) ∙ get_or-append_seam (lists vs) v.items [] [] in
            let named : own_name c ≡ name = same_bytes (own_name c) name (same_place cs (Some p) c name (ap (slice_get cs) last ∙ at) (sym e)) in
            subst (λ (l : List ℕ). IsWay cs l (lineage cs name)) (sym new) (record { all = v.items; same = found_itself v.items; are = is ∙ ap (lineage cs) named })

  -- a table of as many lineages as there are classes has that of each name
  pub all_named : (i : ℕ) (table : List (List ℕ)) → length cs ≤ i → ((name : List ℕ) (p : ℕ) → p < i → place_of cs name ≡ Some p → IsWay cs (entry_at table p) (lineage cs name)) → AreNamedWays cs (lineage cs) table
  all_named i table le are name p e = are name p (let inside = inside_of cs p (class_there name p e).0 (class_there name p e).1 in omega (arith, le, inside)) e
