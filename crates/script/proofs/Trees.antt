-- Trees and their data.
use Rattle.std.proofs.Common.{◌≡◌, ◌∷◌, [], ◌++◌, List, ℕ, Bool, true, false, true≢false, ◌&&◌, cond, Option, Some, None, Vec, String, Ordering, Less, Equal, Greater, refl, sym, ap, ◌∙◌, rules}
use Rattle.std.specs.Prelude.{map, bytes_eq, string_bytes}
use Rattle.std.specs.List.{list_all, list_any}
use Rattle.std.specs.Borrow.{Bor}
use Rattle.std.specs.Ordering.{nat_cmp, match_ordering, is_eq}
use Rattle.std.specs.Cmp.Lexicographic.{slice_cmp}
use Rattle.std.specs.declared.alloc.Global.{Global}
use Rattle.std.proofs.lemmas.Map.Text.{is_eq-slice_cmp}
use Rattle.std.proofs.lemmas.Slice.Eq.{bytes_eq-Decides}
use Rattle.json.specs.Token.{Token}
use Rattle.json.specs.Json.{parse_map}
use Rattle.serde_json.specs.Data.{Data, array, object, Items, no_items, item, Members, no_members, member, put}
use Rattle.serde_json.specs.Find.{get_member}
use Rattle.serde_json.specs.View.{items_of}
use Rattle.serde_json.proofs.Views.{get_member-put, get_member-put_other}
use Rattle.hierarchy.proofs.Parts.{any_map}
use Rattle.script.specs.Json.{data_in, has_only}
use Rattle.script.specs.Seen.{seen, items_seen, members_seen}
use Rattle.script.specs.declared.tree.Tree.{Tree, List as ListOf, Object, the_lemmas}

abbrev pub Entry : Type 0
Entry = String Global × Tree

pub seen-List : (v : Vec Tree Global) → seen (ListOf v) ≡ array (items_seen v.items)
seen-List v = search (rules, the_lemmas)

pub seen-Object : (v : Vec Entry Global) → seen (Object v) ≡ object (members_seen v.items no_members)
seen-Object v = search (rules, the_lemmas)

-- ---- a list that grows at its end

abbrev pub items_before : List Tree → Items → Items
items_before [] rest = rest
items_before (v ∷ vs) rest = item (seen v) (items_before vs rest)

pub items_before-no_items : (vs : List Tree) → items_before vs no_items ≡ items_seen vs
items_before-no_items [] = refl
items_before-no_items (v ∷ vs) = ap (item (seen v)) (items_before-no_items vs)

items_push : (vs : List Tree) (v : Tree) (rest : Items) → items_before vs (item (seen v) rest) ≡ items_before (vs ++ v ∷ []) rest
items_push [] v rest = refl
items_push (w ∷ vs) v rest = ap (item (seen w)) (items_push vs v rest)

pub one_more_item : (vs : List Tree) (v : Tree) (r : Option (Items × List Token)) → parse_map (items_before vs) (parse_map (item (seen v)) r) ≡ parse_map (items_before (vs ++ v ∷ [])) r
one_more_item vs v None = refl
one_more_item vs v (Some p) = ap (λ ds. Some (ds, p.1)) (items_push vs v p.0)

pub none_before : (r : Option (Items × List Token)) → r ≡ parse_map (λ a. a) r
none_before None = refl
none_before (Some p) = refl

pub items_are : (ds : List Data) → data_in (items_of ds) ≡ ds
items_are [] = refl
items_are (d ∷ ds) = ap (λ (l : List Data). d ∷ l) (items_are ds)

-- ---- members

pub members_push : (ms : List Entry) (m : Entry) (found : Members) → members_seen (ms ++ m ∷ []) found ≡ put (string_bytes m.0) (seen m.1) (members_seen ms found)
members_push [] m found = refl
members_push (n ∷ ms) m found = members_push ms m (put (string_bytes n.0) (seen n.1) found)

differ : (xs ys : List ℕ) → bytes_eq xs ys ≡ false → xs ≡ ys → ⊥
differ xs ys e same = true≢false (sym ((bytes_eq-Decides xs ys).1 same) ∙ e)

put_found : (b : Bool) (name k : List ℕ) (d : Data) (found : Members) → bytes_eq k name ≡ b → get_member name (put k d found) ≡ cond b (Some d) (get_member name found)
put_found true name k d found e =
    let same : k ≡ name = (bytes_eq-Decides k name).0 e in
    ap (λ (n : List ℕ). get_member n (put k d found)) (sym same) ∙ get_member-put k d found
put_found false name k d found e =
    let other = λ (h : name ≡ k). differ k name e (sym h) in
    get_member-put_other name k d found other

-- the last member decides, where it has the key
pub last_first : (name : List ℕ) (ms : List Entry) (m : Entry)
    → get_member name (members_seen (ms ++ m ∷ []) no_members) ≡ cond (bytes_eq (string_bytes m.0) name) (Some (seen m.1)) (get_member name (members_seen ms no_members))
last_first name ms m =
    ap (get_member name) (members_push ms m no_members)
    ∙ put_found (bytes_eq (string_bytes m.0) name) name (string_bytes m.0) (seen m.1) (members_seen ms no_members) refl

-- ---- keys

abbrev known : List (List ℕ) → List ℕ → Bool
known keys k = list_any (bytes_eq k) keys

abbrev all_known : List (List ℕ) → List Entry → Bool
all_known keys ms = list_all (λ m. known keys (string_bytes m.0)) ms

twice : (a b : Bool) → (a && b) ≡ (a && (a && b))
twice true b = refl
twice false b = refl

swapped : (a b c : Bool) → (a && (b && c)) ≡ (b && (a && c))
swapped true true c = refl
swapped true false c = refl
swapped false true c = refl
swapped false false c = refl

turned : (a b c : Bool) → (a && (b && c)) ≡ ((b && a) && c)
turned true true c = refl
turned true false c = refl
turned false true c = refl
turned false false c = refl

and_true : (a : Bool) → (a && true) ≡ a
and_true true = refl
and_true false = refl

module _ (keys : List (List ℕ)) where
  put_known_at : (o : Ordering) (k l : List ℕ) (d e : Data) (ms : Members) → slice_cmp nat_cmp k l ≡ o → has_only keys (put k d ms) ≡ (known keys k && has_only keys ms)
      → has_only keys (match_ordering o (member k d (member l e ms)) (member l d ms) (member l e (put k d ms))) ≡ (known keys k && has_only keys (member l e ms))
  put_known_at Less k l d e ms is before = refl
  put_known_at Equal k l d e ms is before =
      let same : k ≡ l = (bytes_eq-Decides k l).0 (sym (is_eq-slice_cmp k l) ∙ ap is_eq is) in
      twice (known keys l) (has_only keys ms) ∙ ap (λ (n : List ℕ). known keys n && (known keys l && has_only keys ms)) (sym same)
  put_known_at Greater k l d e ms is before = ap (λ (b : Bool). known keys l && b) before ∙ swapped (known keys l) (known keys k) (has_only keys ms)

  put_known : (k : List ℕ) (d : Data) (ms : Members) → has_only keys (put k d ms) ≡ (known keys k && has_only keys ms)
  put_known k d no_members = refl
  put_known k d (member l e ms) = put_known_at (slice_cmp nat_cmp k l) k l d e ms refl (put_known k d ms)

  keys_known : (ms : List Entry) (found : Members) → has_only keys (members_seen ms found) ≡ (all_known keys ms && has_only keys found)
  keys_known [] found = refl
  keys_known (m ∷ ms) found =
      keys_known ms (put (string_bytes m.0) (seen m.1) found)
      ∙ ap (λ (b : Bool). all_known keys ms && b) (put_known (string_bytes m.0) (seen m.1) found)
      ∙ turned (all_known keys ms) (known keys (string_bytes m.0)) (has_only keys found)

all_listed : (keys : List (Bor (List ℕ))) (ms : List Entry)
    → all_known (map (λ k. k.now) keys) ms ≡ list_all (λ m. list_any (λ k. bytes_eq (string_bytes m.0) k.now) keys) ms
all_listed keys [] = refl
all_listed keys (m ∷ ms) =
    let one = any_map (bytes_eq (string_bytes m.0)) (λ (k : Bor (List ℕ)). k.now) keys in
    rw (one, all_listed keys ms) refl

pub only_seen : (keys : List (Bor (List ℕ))) (ms : List Entry)
    → has_only (map (λ k. k.now) keys) (members_seen ms no_members) ≡ list_all (λ m. list_any (λ k. bytes_eq (string_bytes m.0) k.now) keys) ms
only_seen keys ms =
    keys_known (map (λ k. k.now) keys) ms no_members
    ∙ and_true (all_known (map (λ k. k.now) keys) ms)
    ∙ all_listed keys ms
