-- Pools are grown by what is added, one thing after another.
use Rattle.std.proofs.Common.{ℕ, ℤ, List, Ok, subst}
use Rattle.jmodel.specs.format.ClassFile.{Pool}
use Rattle.jmodel.specs.format.PoolAdding.{add_integer, add_class, add_field, add_method}
use Rattle.jmodel.specs.format.Reading.{◌>>=◌}
use Rattle.const_pool.proofs.Takes.{bind_ok, ok_is}
use Rattle.member_code.specs.Growing.{Growth}
use Rattle.member_code.proofs.Grown.{grown_refl, grown_trans}
use Rattle.member_code.proofs.Puts.{Puts, Adding, adds_integer, adds_class, adds_field, adds_method}

-- nothing is said of what was added
abbrev pub Nothing : {X : Type 0} → Pool → X → Type 0
Nothing Z x = Unit {0}

-- what is added grows the pool
abbrev pub Growing : {X : Type 0} → (Pool → Growth X) → Type 0
Growing {X} add = Adding (Nothing {X = X}) add

-- whatever is known of it
pub forget : {X : Type 0} (Facts : Pool → X → Type 0) (add : Pool → Growth X) → Adding Facts add → Growing add
forget Facts add a pool r s e = let p = a pool r s e in record { grown = p.grown; short = p.short; facts = λ Z g. tt }

-- nothing more is added
pub gives : {X : Type 0} (x : X) → Growing (λ (pool : Pool). Ok (x, pool))
gives {X} x pool r s e = subst (Puts (Nothing {X = X}) pool) (ok_is (x, pool) r e) (record { grown = grown_refl pool; short = s; facts = λ Z g. tt })

-- one thing after another, with what is known of the last
pub behind : {X Y : Type 0} (Facts : Pool → Y → Type 0) (first : Pool → Growth X) (next : X → Pool → Growth Y) → Growing first → ((x : X) → Adding Facts (next x)) → Adding Facts (λ (pool : Pool). first pool >>= λ x. next x.0 x.1)
behind Facts first next a b pool r s e =
    let x = bind_ok (first pool) (λ x. next x.0 x.1) r e in
    let p = a pool x.0 s x.1 in
    let q = b x.0.0 x.0.1 r p.short x.2 in
    record { grown = grown_trans pool x.0.1 r.1 p.grown q.grown; short = q.short; facts = λ Z g. q.facts Z g }

-- one thing after another
pub then : {X Y : Type 0} (first : Pool → Growth X) (next : X → Pool → Growth Y) → Growing first → ((x : X) → Growing (next x)) → Growing (λ (pool : Pool). first pool >>= λ x. next x.0 x.1)
then {X} {Y} first next a b = behind (Nothing {X = Y}) first next a b

-- ---- entries

-- a method, a field, a class and a number
pub method_grows : (class name descriptor : List ℕ) → Growing (λ (pool : Pool). add_method pool class name descriptor)
method_grows class name descriptor = forget _ (λ (pool : Pool). add_method pool class name descriptor) (adds_method class name descriptor)

pub field_grows : (class name descriptor : List ℕ) → Growing (λ (pool : Pool). add_field pool class name descriptor)
field_grows class name descriptor = forget _ (λ (pool : Pool). add_field pool class name descriptor) (adds_field class name descriptor)

pub class_grows : (name : List ℕ) → Growing (λ (pool : Pool). add_class pool name)
class_grows name = forget _ (λ (pool : Pool). add_class pool name) (adds_class name)

pub integer_grows : (n : ℤ) → Growing (λ (pool : Pool). add_integer pool n)
integer_grows n = forget _ (λ (pool : Pool). add_integer pool n) (adds_integer n)
