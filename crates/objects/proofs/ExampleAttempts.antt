-- The example, rewritten: its wrappers' attempts, over replies of an engine. Each step takes a reply, also where it asks for none.
use Rattle.std.proofs.Common.{◌≡◌, ℕ, ◌+◌, ◌-◌, ◌*◌, ◌^◌, refl}
use Rattle.std.specs.Prelude.{pos, negsuc, List, [], ◌∷◌, ◌++◌, Some, None, codes, replicate}
use Rattle.jmodel.specs.declared.value.Value.TheVariants.{Int}
use Rattle.jmodel.specs.declared.value.Answer.TheVariants.{Returned, Threw, Spent}
use Rattle.objects.specs.semantics.Program.{Program}
use Rattle.objects.specs.rewriting.Attempt.{Bounds, Reply, Gives, Refuses, Run, Ended, run, run_start, access}
use Rattle.objects.specs.rewriting.Rewriting.{rewritten}
use Rattle.objects.proofs.ExampleProgram.{program}
use Rattle.objects.proofs.ExampleTables.{tables}
use Rattle.objects.proofs.Example.{region, state_with, an_a}
use Rattle.objects.specs.semantics.Call.{call_start}
use Rattle.objects.specs.semantics.Traps.{traps, traps_met}

abbrev code : Program
code = rewritten program tables

abbrev bounds : Bounds
bounds = record { budget = 9; attempts = 3; region = region; used = 10 }

abbrev attempt : List Reply → ℕ → Run
attempt vs m = run code bounds vs (run_start code bounds m [])

-- the headers of an A and a B
abbrev a : ℕ
a = 21 * 2 ^ 32

abbrev b : ℕ
b = 22 * 2 ^ 32

-- it reads nothing that it hasn't written itself
makes : attempt (replicate 120 (Gives 0)) 7 ≡ Ended (Returned (Some (Int (pos 7)))) (record { turns = 5; tried = 1; used = 15; thrown = None })
    (access 75 5 ∷ access 3 74 ∷ access 78 9 ∷ access 74 b ∷ []) []
makes = refl

-- The first attempt meets a conflict where it looks at s; the duplicate's stub throws it on, a step more.
calls : attempt (replicate 13 (Gives 0) ++ Refuses ∷ replicate 22 (Gives 64) ++ replicate 18 (Gives b) ++ replicate 40 (Gives 9)) 8
    ≡ Ended (Returned (Some (Int (pos 9)))) (record { turns = 7; tried = 2; used = 10; thrown = None }) [] (access 68 9 ∷ access 64 b ∷ access 64 b ∷ access 64 b ∷ access 3 64 ∷ [])
calls = refl

-- an A has no interface
calls_a : attempt (replicate 18 (Gives 64) ++ Gives 64 ∷ replicate 60 (Gives a)) 8
    ≡ Ended (Threw (codes "java/lang/ClassCastException")) (record { turns = 8; tried = 1; used = 11; thrown = Some (record { reference = 74; type = 10 }) })
    (access 74 (10 * 2 ^ 32) ∷ []) (access 64 a ∷ access 64 a ∷ access 3 64 ∷ [])
calls_a = refl

elements : attempt (replicate 43 (Gives 64) ++ replicate 57 (Gives a) ++ replicate 60 (Gives 4)) 9
    ≡ Ended (Returned (Some (Int (pos 6)))) (record { turns = 7; tried = 1; used = 13; thrown = None })
    (access 76 64 ∷ access 4 74 ∷ access 74 (25 * 2 ^ 32 + 2) ∷ []) (access 65 4 ∷ access 64 a ∷ access 64 a ∷ access 64 a ∷ access 64 a ∷ access 3 64 ∷ [])
elements = refl

-- the header of the A is read before the store, which throws
stores : attempt (replicate 43 (Gives 64) ++ replicate 80 (Gives a)) 10
    ≡ Ended (Threw (codes "java/lang/ArrayStoreException")) (record { turns = 8; tried = 1; used = 13; thrown = Some (record { reference = 76; type = 9 }) })
    (access 76 (9 * 2 ^ 32) ∷ access 4 74 ∷ access 74 (26 * 2 ^ 32 + 1) ∷ []) (access 64 a ∷ access 64 a ∷ access 3 64 ∷ [])
stores = refl

-- alone and as an attempt it meets one trap
stores_alone : traps program region 60 (call_start program 10 [] 9 (state_with an_a)) ≡ 9 ∷ []
stores_alone = refl

stores_meets : traps_met code bounds (replicate 43 (Gives 64) ++ replicate 80 (Gives a)) (run_start code bounds 10 []) [] ≡ 9 ∷ []
stores_meets = refl

-- where each attempt meets a conflict at its first look, none meets a trap
spent_meets : traps_met code bounds (replicate 160 Refuses) (run_start code bounds 10 []) [] ≡ []
spent_meets = refl

-- the header of the text
is_text : attempt (replicate 60 (Gives (2 * 2 ^ 32))) 11
    ≡ Ended (Returned (Some (Int (pos 1)))) (record { turns = 8; tried = 1; used = 10; thrown = None }) [] (access 5 (2 * 2 ^ 32) ∷ [])
is_text = refl

-- the conflict passes the entry, and the exception of the program doesn't
catches : attempt (replicate 8 (Gives 0) ++ Refuses ∷ replicate 80 (Gives 0)) 12
    ≡ Ended (Returned (Some (Int (pos 3)))) (record { turns = 7; tried = 2; used = 11; thrown = Some (record { reference = 74; type = 23 }) }) (access 74 (23 * 2 ^ 32) ∷ []) []
catches = refl

-- words have the sign of a byte
narrows : attempt (replicate 34 (Gives 64) ++ replicate 37 (Gives a) ++ Gives 64 ∷ replicate 60 (Gives a)) 13
    ≡ Ended (Returned (Some (Int (negsuc 55)))) (record { turns = 8; tried = 1; used = 12; thrown = None })
    (access 67 (2 ^ 64 - 56) ∷ access 75 (2 ^ 64 - 56) ∷ access 74 (27 * 2 ^ 32 + 1) ∷ []) (access 64 a ∷ access 3 64 ∷ access 64 a ∷ access 3 64 ∷ [])
narrows = refl

-- each attempt meets a conflict
spent : attempt (replicate 160 Refuses) 8 ≡ Ended Spent (record { turns = 8; tried = 3; used = 10; thrown = None }) [] []
spent = refl
