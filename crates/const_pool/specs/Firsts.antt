-- Where the first entries stand, by text and by key. Places count from 0.
use Rattle.std.specs.Prelude.{◌≡◌, ℕ, length, slice_get, suc, List, [], ◌∷◌, Option, Some, None, Bool, true, false, ◌&&◌, if◌then◌else◌, nat_eq, nat_le, option_map, option_and_then, Vec}
use Rattle.std.specs.Ordering.{int_eq, nat_cmp}
use Rattle.std.specs.Map.{lookup}
use Rattle.std.specs.BTreeMap.{BTreeMap, get_by}
use Rattle.std.specs.Cmp.Lexicographic.{slice_cmp}
use Rattle.jmodel.specs.declared.class_file.Constant.{Constant}
use Rattle.jmodel.specs.declared.class_file.Constant.TheVariants as entries
use Rattle.jmodel.specs.format.ClassFile.{Pool}
use Rattle.jmodel.specs.format.Pool.{utf8, class_name, pair, both}
use Rattle.jmodel.specs.format.PoolAdding.{means_text, means_class, means_pair}
use Rattle.const_pool.specs.declared.meanings.Kind.{Kind}
use Rattle.const_pool.specs.declared.meanings.Kind.TheVariants as kinds
use Rattle.const_pool.specs.declared.keys.Key.{Key}
use Rattle.const_pool.specs.declared.keys.Key.TheVariants.{Integer, Long, Class, Pair, Field, Method, InterfaceMethod}

-- the place of the first that passes
abbrev pub first : {X : Type 0} → (X → Bool) → List X → Option ℕ
first p [] = None
first p (x ∷ xs) = if p x then Some 0 else option_map suc (first p xs)

-- what is known, else this place where the test passes
abbrev pub or_at : Option ℕ → Bool → ℕ → Option ℕ
or_at (Some n) b k = Some n
or_at None b k = if b then Some k else None

abbrev pub same_key : Key → Key → Bool
same_key (Integer n) (Integer m) = int_eq n m
same_key (Long n) (Long m) = int_eq n m
same_key (Class n) (Class m) = nat_eq n m
same_key (Pair n d) (Pair m e) = nat_eq n m && nat_eq d e
same_key (Field c p) (Field d q) = nat_eq c d && nat_eq p q
same_key (Method c p) (Method d q) = nat_eq c d && nat_eq p q
same_key (InterfaceMethod c p) (InterfaceMethod d q) = nat_eq c d && nat_eq p q
same_key k l = false

-- the place that a map has for a text
abbrev pub text_known : {A : Type 0} → BTreeMap (Vec ℕ A) ℕ → List ℕ → Option ℕ
text_known m text = get_by (λ k. slice_cmp nat_cmp text k.items) m

-- the place that a map has for a key
abbrev pub key_known : BTreeMap Key ℕ → Key → Option ℕ
key_known m k = lookup (same_key k) m.entries

-- whether an entry with this key has the wanted
abbrev pub has_key : Key → Option Key → Bool
has_key k None = false
has_key k (Some l) = same_key l k

-- ---- keys of entries, by the first places of what they name

abbrev pub text_place : Pool → ℕ → Option ℕ
text_place pool i = option_and_then (λ t. first (means_text t) pool) (utf8 pool i)

abbrev pub class_place : Pool → ℕ → Option ℕ
class_place pool i = option_and_then (λ t. first (means_class pool t) pool) (class_name pool i)

abbrev pub pair_place : Pool → ℕ → Option ℕ
pair_place pool i = option_and_then (λ p. first (means_pair pool p.0 p.1) pool) (pair pool i)

-- a key of two places
abbrev pub key_of : (ℕ → ℕ → Key) → Option (ℕ × ℕ) → Option Key
key_of make o = option_map (λ p. make p.0 p.1) o

abbrev pub name_key : Pool → Constant → Option Key
name_key pool (entries.Integer n) = Some (Integer n)
name_key pool (entries.Long n) = Some (Long n)
name_key pool (entries.Class n) = option_map Class (text_place pool n)
name_key pool (entries.NameAndType n d) = key_of Pair (both (text_place pool n) (text_place pool d))
name_key pool c = None

abbrev pub member_key : Pool → Constant → Option Key
member_key pool (entries.Field c p) = key_of Field (both (class_place pool c) (pair_place pool p))
member_key pool (entries.Method c p) = key_of Method (both (class_place pool c) (pair_place pool p))
member_key pool (entries.InterfaceMethod c p) = key_of InterfaceMethod (both (class_place pool c) (pair_place pool p))
member_key pool c = None

-- the key of a reference of a kind
abbrev pub key_for : Kind → ℕ → ℕ → Key
key_for kinds.Field class pair = Field class pair
key_for kinds.Method class pair = Method class pair
key_for kinds.InterfaceMethod class pair = InterfaceMethod class pair

-- ---- entries that name none behind an end

abbrev pub stays_within : ℕ → Constant → Bool
stays_within end (entries.Class n) = nat_le n end
stays_within end (entries.NameAndType n d) = nat_le n end && nat_le d end
stays_within end (entries.Field c p) = nat_le c end && nat_le p end
stays_within end (entries.Method c p) = nat_le c end && nat_le p end
stays_within end (entries.InterfaceMethod c p) = nat_le c end && nat_le p end
stays_within end c = true

-- ---- what is known of a pool

-- the first places of its texts, and of its numbers, classes and pairs
pub record KnowsNames (by_text : List ℕ → Option ℕ) (by_name : Key → Option ℕ) (pool : Pool) : Type 0 where
  pub texts : (t : List ℕ) → by_text t ≡ first (means_text t) pool
  pub names : (k : Key) → by_name k ≡ first (λ c. has_key k (name_key pool c)) pool

-- and of its references to members; and none of its entries names one behind its end
pub record Knows (by_text : List ℕ → Option ℕ) (by_name by_member : Key → Option ℕ) (pool : Pool) : Type 0 where
  pub names : KnowsNames by_text by_name pool
  pub members : (k : Key) → by_member k ≡ first (λ c. has_key k (member_key pool c)) pool
  pub closed : (i : ℕ) (c : Constant) → slice_get pool i ≡ Some c → stays_within (length pool) c ≡ true
