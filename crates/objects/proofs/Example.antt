-- The example, computed: its methods run alone.
use Rattle.std.proofs.Common.{◌≡◌, ℕ, refl}
use Rattle.std.specs.Prelude.{pos, negsuc, [], ◌∷◌, Option, Some, None, true, false, nat_eq, codes, if◌then◌else◌}
use Rattle.jmodel.specs.declared.value.Value.TheVariants.{Int, Long, Ref}
use Rattle.jmodel.specs.declared.value.Answer.{Answer}
use Rattle.jmodel.specs.declared.value.Answer.TheVariants.{Returned, Threw, Budget, Heap}
use Rattle.objects.specs.semantics.Region.{Region}
use Rattle.objects.specs.semantics.State.{Object, State}
use Rattle.objects.specs.semantics.Call.{Direct, Ended, direct, call_start}
use Rattle.objects.proofs.ExampleProgram.{program}

-- the object of the static fields of A, and the text
abbrev pub base : Object
base = record { type = 24; array = false; values = Ref 64 ∷ Ref 0 ∷ [] }

abbrev pub a_text : Object
a_text = record { type = 2; array = false; values = [] }

abbrev pub an_a : Object
an_a = record { type = 21; array = false; values = Int (pos 4) ∷ Ref 0 ∷ Int (pos 0) ∷ [] }

abbrev pub a_b : Object
a_b = record { type = 22; array = false; values = Int (pos 4) ∷ Ref 0 ∷ Int (pos 0) ∷ Long (pos 9) ∷ [] }

-- s is the object, in the first region
abbrev pub state_with : Object → State
state_with o = record {
  objects = λ r. if nat_eq r 2 then Some base else (if nat_eq r 5 then Some a_text else (if nat_eq r 64 then Some o else None));
  used = λ k. if nat_eq k 0 then 6 else (if nat_eq k 1 then 10 else 0);
}

-- s is null
abbrev pub no_object : State
no_object = record {
  objects = λ r. if nat_eq r 2 then Some (record base { values = Ref 0 ∷ Ref 0 ∷ [] }) else (if nat_eq r 5 then Some a_text else None);
  used = λ k. if nat_eq k 0 then 6 else 0;
}

abbrev pub region : Region
region = record { number = 1; size = 64 }

abbrev answer_of : Direct → Option Answer
answer_of (Ended x σ) = Some x
answer_of d = None

abbrev held_after : ℕ → Direct → Option Object
held_after r (Ended x σ) = σ.objects r
held_after r d = None

-- a method over a state
abbrev alone : ℕ → State → Direct
alone m σ = direct program region 60 (call_start program m [] 9 σ)

-- two constructors run, and B's method answers
makes : answer_of (alone 7 no_object) ≡ Some (Returned (Some (Int (pos 7))))
makes = refl

makes_b : held_after 64 (alone 7 no_object) ≡ Some (record { type = 22; array = false; values = Int (pos 5) ∷ Ref 0 ∷ Int (pos 0) ∷ Long (pos 9) ∷ [] })
makes_b = refl

keeps_it : held_after 2 (alone 7 no_object) ≡ Some base
keeps_it = refl

-- by the interface
calls_b : answer_of (alone 8 (state_with a_b)) ≡ Some (Returned (Some (Int (pos 9))))
calls_b = refl

calls_a : answer_of (alone 8 (state_with an_a)) ≡ Some (Threw (codes "java/lang/ClassCastException"))
calls_a = refl

calls_null : answer_of (alone 8 no_object) ≡ Some (Threw (codes "java/lang/NullPointerException"))
calls_null = refl

-- an array of objects
elements_a : answer_of (alone 9 (state_with an_a)) ≡ Some (Returned (Some (Int (pos 6))))
elements_a = refl

elements_b : answer_of (alone 9 (state_with a_b)) ≡ Some (Returned (Some (Int (pos 9))))
elements_b = refl

array_left : held_after 74 (alone 9 (state_with an_a)) ≡ Some (record { type = 25; array = true; values = Ref 0 ∷ Ref 64 ∷ [] })
array_left = refl

elements_null : answer_of (alone 9 no_object) ≡ Some (Threw (codes "java/lang/NullPointerException"))
elements_null = refl

-- an A is no element of an array of B, and null is one
stores_a : answer_of (alone 10 (state_with an_a)) ≡ Some (Threw (codes "java/lang/ArrayStoreException"))
stores_a = refl

stores_b : answer_of (alone 10 (state_with a_b)) ≡ Some (Returned (Some (Int (pos 0))))
stores_b = refl

stores_null : answer_of (alone 10 no_object) ≡ Some (Returned (Some (Int (pos 0))))
stores_null = refl

is_text : answer_of (alone 11 no_object) ≡ Some (Returned (Some (Int (pos 1))))
is_text = refl

catches : answer_of (alone 12 no_object) ≡ Some (Returned (Some (Int (pos 3))))
catches = refl

-- a byte keeps its low eight bits
narrows : answer_of (alone 13 (state_with an_a)) ≡ Some (Returned (Some (Int (negsuc 55))))
narrows = refl

narrowed_array : held_after 74 (alone 13 (state_with an_a)) ≡ Some (record { type = 27; array = true; values = Int (negsuc 55) ∷ [] })
narrowed_array = refl

narrowed_field : held_after 64 (alone 13 (state_with an_a)) ≡ Some (record { type = 21; array = false; values = Int (pos 4) ∷ Ref 0 ∷ Int (negsuc 55) ∷ [] })
narrowed_field = refl

-- the region has no room for five words
full : answer_of (direct program (record { number = 2; size = 4 }) 60 (call_start program 7 [] 9 no_object)) ≡ Some (Heap 0 5 4)
full = refl

-- the constructors are two turns, and the method that is called a third
turns : answer_of (direct program region 60 (call_start program 7 [] 2 no_object)) ≡ Some Budget
turns = refl
