-- What an index knows of a pool: the first places among the entries at its front.
use Rattle.std.specs.Prelude.{ℕ, ◌≤◌, ◌+◌, List, length, take, Option, Some, None, option_map, option_and_then}
use Rattle.jmodel.specs.format.ClassFile.{Pool}
use Rattle.jmodel.specs.format.Pool.{both}
use Rattle.const_pool.specs.declared.meanings.Kind.{Kind}
use Rattle.const_pool.specs.declared.keys.Key.TheVariants.{Class, Pair}
use Rattle.const_pool.specs.declared.index.Index.{Index}
use Rattle.const_pool.specs.Firsts.{text_known, key_known, key_of, key_for, Knows}

pub record IsIndexed (index : Index) (pool : Pool) : Type 0 where
  pub within : index.count ≤ length pool
  pub front : Knows (text_known index.texts) (key_known index.names) (key_known index.members) (take index.count pool)

-- the place that an index has for a class of this name
abbrev pub class_known : Index → List ℕ → Option ℕ
class_known index name = option_and_then (λ j. key_known index.names (Class j)) (text_known index.texts name)

-- for a pair
abbrev pub pair_known : Index → List ℕ → List ℕ → Option ℕ
pair_known index name descriptor = option_and_then (key_known index.names) (key_of Pair (both (text_known index.texts name) (text_known index.texts descriptor)))

-- for a reference
abbrev pub member_known : Index → Kind → List ℕ → List ℕ → List ℕ → Option ℕ
member_known index kind class name descriptor = option_and_then (key_known index.members) (key_of (key_for kind) (both (class_known index class) (pair_known index name descriptor)))

-- what is known, else the place in the list that begins at a place
abbrev pub in_order : ℕ → Option ℕ → Option ℕ → Option ℕ
in_order start (Some i) rest = Some i
in_order start None rest = option_map (λ n. start + n) rest
