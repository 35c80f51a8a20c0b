-- How many folders down paths lead.
use Rattle.std.proofs.Common.{◌≡◌, ◌<◌, ◌≤◌, ◌+◌, ℕ, zero, suc, Bool, true, false, cond, eqb, List, [], ◌∷◌, get_or, ap, refl, Contains, arith}
use Rattle.std.proofs.lemmas.Bool.{eqb-true}
use Rattle.std.proofs.lemmas.List.Sums.{sum_by-cons, sum_by-append, get_or-le-sum_by}
use Rattle.deuce_io.specs.Files.{inside}
use Rattle.deuce.specs.Folder.{depth}

-- one for a slash
abbrev step : ℕ → ℕ
step c = cond (eqb c 47) 1 0

depth-cons : (c : ℕ) (cs : List ℕ) → depth (c ∷ cs) ≡ step c + depth cs
depth-cons c cs = sum_by-cons step c cs

pub depth-inside : (folder path : List ℕ) → depth (inside folder path) ≡ depth folder + (depth path + 1)
depth-inside folder path =
    let all : depth (inside folder path) ≡ depth folder + depth (47 ∷ path) = sum_by-append step folder (47 ∷ path) in
    let slash : depth (47 ∷ path) ≡ 1 + depth path = depth-cons 47 path in
    omega (arith, all, slash)

-- a name without a slash leads no folder down
pub flat : (name : List ℕ) → (Contains name 47 → ⊥) → depth name ≡ 0
flat [] whole = refl
flat (c ∷ cs) whole = go (eqb c 47) refl (flat cs (λ h. whole (suc h.0, omega (arith, h.1), h.2)))
  where
    go : (b : Bool) → eqb c 47 ≡ b → depth cs ≡ 0 → depth (c ∷ cs) ≡ 0
    go true e none = absurd (whole (0, omega arith, eqb-true c 47 e))
    go false e none =
        let no_slash : step c ≡ 0 = ap (λ (b : Bool). cond b 1 0) e in
        let all = depth-cons c cs in
        omega (arith, all, no_slash, none)

pub no_slash : (name : List ℕ) → depth name ≡ 0 → Contains name 47 → ⊥
no_slash name none h =
    let counted : step (get_or name h.0 47) ≤ depth name = get_or-le-sum_by step name h.0 47 h.1 in
    let slash : step (get_or name h.0 47) ≡ 1 = ap step h.2 in
    omega (arith, counted, slash, none)

-- a path that leads further down than so many folders goes through a folder so many down
pub record Parts (path : List ℕ) (many : ℕ) : Type 0 where
  pub folder : List ℕ
  pub rest : List ℕ
  pub are : path ≡ inside folder rest
  pub down : depth folder ≡ many

-- one byte more in front
behind : (c : ℕ) (cs : List ℕ) (some many : ℕ) → Parts cs some → step c + some ≡ many → Parts (c ∷ cs) many
behind c cs some many p more =
    let all = depth-cons c p.folder in
    let down = p.down in
    record { folder = c ∷ p.folder; rest = p.rest; are = ap (λ (l : List ℕ). c ∷ l) p.are; down = omega (arith, all, down, more) }

cut : (c : ℕ) (cs : List ℕ) (many : ℕ) (b : Bool) → eqb c 47 ≡ b → many < depth (c ∷ cs) → ((some : ℕ) → some < depth cs → Parts cs some) → Parts (c ∷ cs) many
cut c cs zero true e further again = record { folder = []; rest = cs; are = ap (λ (x : ℕ). x ∷ cs) (eqb-true c 47 e); down = refl }
cut c cs (suc some) true e further again =
    let one : step c ≡ 1 = ap (λ (b : Bool). cond b 1 0) e in
    let all = depth-cons c cs in
    behind c cs some (suc some) (again some (omega (arith, all, one, further))) (omega (arith, one))
cut c cs many false e further again =
    let none : step c ≡ 0 = ap (λ (b : Bool). cond b 1 0) e in
    let all = depth-cons c cs in
    behind c cs many many (again many (omega (arith, all, none, further))) (omega (arith, none))

pub parts : (path : List ℕ) (many : ℕ) → many < depth path → Parts path many
parts [] many further = absurd (omega (arith, further))
parts (c ∷ cs) many further = cut c cs many (eqb c 47) refl further (parts cs)
