-- The classes of a bank.
use Rattle.std.proofs.Common.{◌≡◌, ◌≤◌, ℕ, List, length, Ok, Err, Result, refl, ap, sym, arith}
use Rattle.std.specs.Prelude.{codes}
use Rattle.jmodel.specs.declared.refusal.Refusal.{Refusal}
use Rattle.jmodel.specs.format.ClassFile.{ClassFile}
use Rattle.jmodel.specs.format.Reading.{◌>>=◌}
use Rattle.bankgen.specs.Workload.{workload, within, classes}
use Rattle.bankgen.specs.Script.{script_text}

bound : {A B : Type 0} (x : Result A Refusal) (f : A → Result B Refusal) (y : B) → (x >>= f) ≡ Ok y → (a : A) × (x ≡ Ok a) × (f a ≡ Ok y)
bound (Ok a) f y h = (a, refl, h)
bound (Err r) f y h = cc

one_ok : {A : Type 0} (x : Result A Refusal) (p q : A) → x ≡ Ok p → x ≡ Ok q → p ≡ q
one_ok x p q a b = cc (a, b)

-- the classes of a bank are those of its accounts
pub classes_are : (seed accounts calls lanes : ℕ) (files : List ClassFile) (script : List ℕ) → workload seed accounts calls lanes ≡ Ok (files, script) → files ≡ classes accounts
unfolding workload
classes_are seed accounts calls lanes files script h =
    let done : Result (List ClassFile × List ℕ) Refusal = Ok (classes accounts, script_text seed accounts calls lanes) in
    let a = bound (within (codes "accounts") 2 1000 accounts) (λ u. within (codes "calls") 0 99999 calls >>= λ v. within (codes "lanes") 1 16 lanes >>= λ w. done) (files, script) h in
    let b = bound (within (codes "calls") 0 99999 calls) (λ v. within (codes "lanes") 1 16 lanes >>= λ w. done) (files, script) a.2 in
    let c = bound (within (codes "lanes") 1 16 lanes) (λ w. done) (files, script) b.2 in
    sym (ap (λ (t : List ClassFile × List ℕ). t.0) (one_ok done (classes accounts, script_text seed accounts calls lanes) (files, script) refl c.2))

-- of which there are two
pub few : (seed accounts calls lanes : ℕ) (files : List ClassFile) (script : List ℕ) → workload seed accounts calls lanes ≡ Ok (files, script) → length files ≤ 256
few seed accounts calls lanes files script h =
    let is = classes_are seed accounts calls lanes files script h in
    let two : length files ≡ 2 = ap length is in
    omega (arith, two)
