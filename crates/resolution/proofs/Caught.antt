-- The first unknown classes that exception entries catch, as a loop notes them by the places of their handlers.
use Rattle.std.proofs.Common.{◌≡◌, ℕ, List, [], ◌∷◌, ◌++◌, map, Bor, zero, suc, Option, Some, None, Bool, true, false, cond, nat_eq, refl, sym, ap, ◌∙◌}
use Rattle.std.specs.Prelude.{slice_index_or, slice_get, option_copied, option_map, if◌then◌else◌, ◌==◌}
use Rattle.std.specs.Option.{option_or, option_flatten}
use Rattle.jmodel.specs.declared.class_file.Handler.{Handler}
use Rattle.jmodel.specs.declared.refusal.Refusal.{Refusal}
use Rattle.jmodel.specs.declared.refusal.Refusal.TheVariants.{UnknownClass}
use Rattle.jmodel.specs.format.ClassFile.{ClassFile, Pool}
use Rattle.jmodel.specs.format.Pool.{class_name}
use Rattle.objects.specs.linking.Faults.{first_fault}
use Rattle.objects.specs.linking.Constructs.{unknown_in, catch_fault}
use Rattle.resolution.specs.Catching.{AreCaught, NotesFirst, caught_at, or_first}

-- nothing behind an answer leaves it
or_none : {A : Type 0} (o : Option A) → option_or o None ≡ o
or_none None = refl
or_none (Some x) = refl

-- the first fault of some, else of one more
first_more : {A : Type 0} (fault : A → Option Refusal) (xs : List A) (x : A) → first_fault fault (xs ++ x ∷ []) ≡ option_or (first_fault fault xs) (fault x)
first_more fault [] x = or_none (fault x)
first_more {A} fault (y ∷ ys) x = go (fault y) (first_more fault ys x)
  where
    go : (o : Option Refusal) → first_fault fault (ys ++ x ∷ []) ≡ option_or (first_fault fault ys) (fault x)
        → option_or o (first_fault fault (ys ++ x ∷ [])) ≡ option_or (option_or o (first_fault fault ys)) (fault x)
    go None h = h
    go (Some r) h = refl

-- what is seen at a place
copied : (xs : List (Option (Bor (List ℕ)))) (pc : ℕ) → slice_index_or (map option_copied xs) pc None ≡ option_copied (slice_index_or xs pc None)
copied [] pc = refl
copied (x ∷ xs) zero = refl
copied (x ∷ xs) (suc pc) = copied xs pc

-- the name that is found at a place
pub name_there : (xs : List (Option (Bor (List ℕ)))) (pc : ℕ) → option_map (λ (n : Bor (List ℕ)). UnknownClass n.now) (option_flatten (slice_get xs pc)) ≡ caught_at (map option_copied xs) pc
name_there [] pc = refl
name_there (None ∷ xs) zero = refl
name_there (Some x ∷ xs) zero = refl
name_there (x ∷ xs) (suc pc) = name_there xs pc

module _ (cs : List ClassFile) (pool : Pool) (handlers : List Handler) (h : Handler) where
  -- one more entry comes behind the others
  more : (pc : ℕ) → first_fault (catch_fault cs pool pc) (handlers ++ h ∷ []) ≡ option_or (first_fault (catch_fault cs pool pc) handlers) (catch_fault cs pool pc h)
  more pc = first_more (catch_fault cs pool pc) handlers h

  -- an entry that catches no unknown class
  pub none_caught : (names : List (Option (List ℕ))) → unknown_in cs (class_name pool h.catch_type) ≡ None → AreCaught cs pool handlers names → AreCaught cs pool (handlers ++ h ∷ []) names
  none_caught names none so_far pc =
      so_far pc ∙ sym (or_none (first_fault (catch_fault cs pool pc) handlers)) ∙ ap (option_or (first_fault (catch_fault cs pool pc) handlers)) (sym (nothing (h.handler == pc))) ∙ sym (more pc)
    where
      nothing : (b : Bool) → cond b (unknown_in cs (class_name pool h.catch_type)) None ≡ None
      nothing true = none
      nothing false = refl

  -- one that catches one
  pub one_caught : (before after : List (Option (Bor (List ℕ)))) (name : Bor (List ℕ)) → unknown_in cs (class_name pool h.catch_type) ≡ Some (UnknownClass name.now) → NotesFirst before after h.handler name
      → AreCaught cs pool handlers (map option_copied before) → AreCaught cs pool (handlers ++ h ∷ []) (map option_copied after)
  one_caught before after name one notes so_far pc =
      ap (option_map UnknownClass) (copied after pc ∙ ap option_copied (notes pc)) ∙ go (nat_eq h.handler pc) (slice_index_or before pc None)
      ∙ ap (λ (o : Option (List ℕ)). option_or (option_map UnknownClass o) (catch_fault cs pool pc h)) (sym (copied before pc))
      ∙ ap (λ (o : Option Refusal). option_or o (catch_fault cs pool pc h)) (so_far pc) ∙ sym (more pc)
    where
      both : (o : Option (Bor (List ℕ))) → option_map UnknownClass (option_copied (or_first o name)) ≡ option_or (option_map UnknownClass (option_copied o)) (Some (UnknownClass name.now))
      both None = refl
      both (Some n) = refl

      go : (b : Bool) (o : Option (Bor (List ℕ))) → option_map UnknownClass (option_copied (if b then or_first o name else o))
          ≡ option_or (option_map UnknownClass (option_copied o)) (cond b (unknown_in cs (class_name pool h.catch_type)) None)
      go true o = both o ∙ ap (option_or (option_map UnknownClass (option_copied o))) (sym one)
      go false o = sym (or_none (option_map UnknownClass (option_copied o)))
