-- Classes that are visited, each once, by their names.
use Rattle.std.proofs.Common.{◌≡◌, ℕ, Bool, true, false, ◌||◌, List, [], ◌∷◌, ◌++◌, refl, sym, ap, ◌∙◌}
use Rattle.std.specs.Prelude.{bytes_eq, if◌then◌else◌}
use Rattle.std.specs.List.{list_any}
use Rattle.std.proofs.lemmas.List.{append-nil, append_assoc}
use Rattle.jmodel.specs.declared.name.MethodName.{MethodName}
use Rattle.jmodel.specs.format.ClassFile.{ClassFile}
use Rattle.objects.specs.linking.Members.{own_name, is_name}
use Rattle.objects.specs.linking.Classes.{unseen}
use Rattle.hierarchy.specs.Names.{named, has}
use Rattle.hierarchy.specs.Places.{class_key}
use Rattle.hierarchy.proofs.Parts.{same_bytes}

-- the first classes of each name so far, whose names a set has, and those that are still to come
pub record AreVisited (set : List MethodName) (firsts rest whole : List ClassFile) : Type 0 where
  pub names : List (List ℕ)
  pub known : (q : List ℕ) → has set (named q [] []) ≡ list_any (bytes_eq q) names
  pub so_far : firsts ++ unseen names rest ≡ whole

pub starts : (set : List MethodName) (cs : List ClassFile) → set ≡ [] → AreVisited set [] cs (unseen [] cs)
starts set cs none = record { names = []; known = λ q. ap (λ (s : List MethodName). has s (named q [] [])) none; so_far = refl }

pub is_done : (set : List MethodName) (firsts whole : List ClassFile) → AreVisited set firsts [] whole → firsts ≡ whole
is_done set firsts whole v = sym (append-nil firsts) ∙ v.so_far

swap : (a b c d : Bool) → a ≡ c → b ≡ d → (a || b) ≡ (d || c)
swap true true c d p q = rw (← p, ← q) refl
swap true false c d p q = rw (← p, ← q) refl
swap false true c d p q = rw (← p, ← q) refl
swap false false c d p q = rw (← p, ← q) refl

module _ (set more : List MethodName) (firsts : List ClassFile) (c : ClassFile) (rest whole : List ClassFile) (v : AreVisited set firsts (c ∷ rest) whole)
    (put : (q : MethodName) → has more q ≡ (has set q || is_name q (class_key c))) where
  here : (b : Bool) → has set (class_key c) ≡ b → list_any (bytes_eq (own_name c)) v.names ≡ b
  here b h = sym (v.known (own_name c)) ∙ h

  -- a class of another name
  pub new_one : has set (class_key c) ≡ false → AreVisited more (firsts ++ c ∷ []) rest whole
  new_one h = record {
    names = own_name c ∷ v.names;
    known = λ q. put (named q [] []) ∙ swap (has set (named q [] [])) (bytes_eq q (own_name c)) (list_any (bytes_eq q) v.names) (bytes_eq q (own_name c)) (v.known q) refl;
    so_far = append_assoc firsts (c ∷ []) (unseen (own_name c ∷ v.names) rest)
        ∙ sym (ap (λ (b : Bool). firsts ++ (if b then unseen v.names rest else c ∷ unseen (own_name c ∷ v.names) rest)) (here false h)) ∙ v.so_far;
  }

  -- another class of a name
  pub old_one : has set (class_key c) ≡ true → AreVisited more firsts rest whole
  old_one h = record {
    names = v.names;
    known = λ q. put (named q [] []) ∙ ap (λ (b : Bool). b || bytes_eq q (own_name c)) (v.known q) ∙ among q (bytes_eq q (own_name c)) refl;
    so_far = sym (ap (λ (b : Bool). firsts ++ (if b then unseen v.names rest else c ∷ unseen (own_name c ∷ v.names) rest)) (here true h)) ∙ v.so_far;
  }
    where
      or_nothing : (a : Bool) → (a || false) ≡ a
      or_nothing true = refl
      or_nothing false = refl

      or_all : (a : Bool) → a ≡ true → (a || true) ≡ a
      or_all true e = refl
      or_all false e = absurd cc

      among : (q : List ℕ) (b : Bool) → bytes_eq q (own_name c) ≡ b → (list_any (bytes_eq q) v.names || b) ≡ list_any (bytes_eq q) v.names
      among q true e = or_all (list_any (bytes_eq q) v.names) (ap (λ (n : List ℕ). list_any (bytes_eq n) v.names) (same_bytes q (own_name c) e) ∙ here true h)
      among q false e = or_nothing (list_any (bytes_eq q) v.names)
