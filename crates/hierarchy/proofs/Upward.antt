-- The way upward from a class, as loops go it by places.
use Rattle.std.proofs.Common.{◌≡◌, ℕ, suc, Bool, true, false, cond, List, [], ◌∷◌, length, Option, Some, None, refl, sym, ap, ◌∙◌}
use Rattle.std.specs.Prelude.{bytes_eq, find, slice_get, option_and_then}
use Rattle.jmodel.specs.format.ClassFile.{ClassFile}
use Rattle.objects.specs.linking.Members.{own_name}
use Rattle.objects.specs.linking.Superclasses.{super_name, class_named, with_above, upward, lineage}
use Rattle.hierarchy.specs.Places.{place_of, place_above}
use Rattle.hierarchy.proofs.Parts.{same_bytes}
use Rattle.hierarchy.proofs.Numbering.{position_get}

passes : {A : Type 0} (p : A → Bool) (xs : List A) (x : A) → find p xs ≡ Some x → p x ≡ true
passes p [] x h = absurd cc
passes {A} p (y ∷ ys) x h = go (p y) refl (passes p ys x) h
  where
    one : (x y : A) → Some x ≡ Some y → x ≡ y
    one x y h = cc

    go : (b : Bool) → p y ≡ b → (find p ys ≡ Some x → p x ≡ true) → cond b (Some y) (find p ys) ≡ Some x → p x ≡ true
    go true e later h = ap p (sym (one y x h)) ∙ e
    go false e later h = later h

-- ---- places

module _ (cs : List ClassFile) where
  abbrev class_at : Option ℕ → Option ClassFile
  class_at place = option_and_then (slice_get cs) place

  -- the class of a name stands at the name's place
  pub stands : (name : List ℕ) → class_at (place_of cs name) ≡ class_named cs name
  stands name = position_get (λ c. bytes_eq (own_name c) name) cs

  through : (place : Option ℕ) → option_and_then (place_above cs) place ≡ option_and_then (λ c. place_of cs (super_name c)) (class_at place)
  through None = refl
  through (Some p) = refl

  -- the place of the class above
  above_is : (place : Option ℕ) (c : ClassFile) → class_at place ≡ Some c → option_and_then (place_above cs) place ≡ place_of cs (super_name c)
  above_is place c is = through place ∙ ap (option_and_then (λ c. place_of cs (super_name c))) is

  -- the class at the place of a name has that name
  pub same_place : (place : Option ℕ) (c : ClassFile) (name : List ℕ) → class_at place ≡ Some c → place ≡ place_of cs name → bytes_eq (own_name c) name ≡ true
  same_place place c name is at = passes (λ c. bytes_eq (own_name c) name) cs c (sym (stands name) ∙ ap class_at (sym at) ∙ is)

  -- at the place of another name one has another name
  pub other_place : (name other : List ℕ) (c : ClassFile) (b : Bool) → class_at (place_of cs name) ≡ Some c → (place_of cs name ≡ place_of cs other → b ≡ true) → b ≡ false → bytes_eq (own_name c) other ≡ false
  other_place name other c b is same differs = go (bytes_eq (own_name c) other) refl
    where
      go : (t : Bool) → bytes_eq (own_name c) other ≡ t → t ≡ false
      go false e = refl
      go true e =
          let own : own_name c ≡ name = same_bytes (own_name c) name (same_place (place_of cs name) c name is refl) in
          let names : name ≡ other = sym own ∙ same_bytes (own_name c) other e in
          sym (same (ap (place_of cs) names)) ∙ differs

-- ---- the way

-- the place is that of a name, from which so many steps are left
pub record IsOnTheWay {X : Type 0} (f : List ClassFile → X) (cs : List ClassFile) (place : Option ℕ) (k : ℕ) (whole : X) : Type 0 where
  pub name : List ℕ
  pub at : place ≡ place_of cs name
  pub so_far : f (upward cs k name) ≡ whole

pub starts : {X : Type 0} (f : List ClassFile → X) (cs : List ClassFile) (place : Option ℕ) (k : ℕ) (name : List ℕ) → place ≡ place_of cs name → k ≡ length cs → IsOnTheWay f cs place k (f (lineage cs name))
starts f cs place k name at all = record { name = name; at = at; so_far = ap (λ (n : ℕ). f (upward cs n name)) all }

pub is_done : {X : Type 0} (f : List ClassFile → X) (cs : List ClassFile) (place : Option ℕ) (k : ℕ) (whole : X) → k ≡ 0 → IsOnTheWay f cs place k whole → f [] ≡ whole
is_done f cs place k whole none way = sym (ap (λ (n : ℕ). f (upward cs n way.name)) none) ∙ way.so_far

module _ {X : Type 0} (f : List ClassFile → X) (cs : List ClassFile) (place : Option ℕ) (n k : ℕ) (whole : X) (one_less : k ≡ suc n) (way : IsOnTheWay f cs place k whole) where
  step : (o : Option ClassFile) → option_and_then (slice_get cs) place ≡ o → f (with_above (λ c. upward cs n (super_name c)) o) ≡ whole
  step o is =
      let named : class_named cs way.name ≡ o = sym (stands cs way.name) ∙ ap (option_and_then (slice_get cs)) (sym way.at) ∙ is in
      sym (ap (λ (m : ℕ). f (upward cs m way.name)) one_less ∙ ap (λ (o : Option ClassFile). f (with_above (λ c. upward cs n (super_name c)) o)) named) ∙ way.so_far

  -- there is no class at the place
  pub ends : option_and_then (slice_get cs) place ≡ None → f [] ≡ whole
  ends none = step None none

  -- its class, and what is above
  pub meets : (c : ClassFile) → option_and_then (slice_get cs) place ≡ Some c → f (c ∷ upward cs n (super_name c)) ≡ whole
  meets c is = step (Some c) is

  pub goes_on : (g : List ClassFile → X) (next : Option ℕ) (c : ClassFile) → option_and_then (slice_get cs) place ≡ Some c → next ≡ option_and_then (place_above cs) place
      → ((above : List ClassFile) → f (c ∷ above) ≡ g above) → IsOnTheWay g cs next n whole
  goes_on g next c is up same = record {
    name = super_name c;
    at = up ∙ above_is cs place c is;
    so_far = sym (same (upward cs n (super_name c))) ∙ meets c is;
  }
