-- A map of texts as files.
use Rattle.std.proofs.Common.{◌≡◌, ◌≤◌, ◌∙◌, ℕ, Some, length, min, take, arith, Bool, true, false, cond, List, refl, ap, sym, Option, String, string_bytes}
use Rattle.std.proofs.Math.Path.{fun_ext}
use Rattle.std.proofs.lemmas.List.{length-take}
use Rattle.std.specs.Option.{option_map}
use Rattle.std.specs.Ordering.{nat_cmp}
use Rattle.std.specs.Cmp.Lexicographic.{slice_cmp}
use Rattle.std.specs.String.{string_cmp}
use Rattle.std.specs.Str.{bytes_eq}
use Rattle.std.specs.declared.alloc.Global.{Global}
use Rattle.std.specs.BTreeMap.{BTreeMap, get_by_text, UpdatesBy, is_at}
use Rattle.std.specs.Map.{lookup}
use Rattle.std.proofs.lemmas.Map.Text.{btree_map_updates_text, text_cmp}
use Rattle.std.proofs.lemmas.Slice.Eq.{bytes_eq-Decides}
use Rattle.deuce_io.specs.Files.{Files, with_content}

-- after a change at one key, the map has the files with that content
pub changed : (path : List ℕ) (m n : BTreeMap (String Global) (List ℕ)) (w : Option (List ℕ))
    → UpdatesBy string_cmp (λ k. slice_cmp nat_cmp path (string_bytes k)) m n w
    → get_by_text n ≡ with_content path w (get_by_text m)
changed path m n w updates = fun_ext (λ q. btree_map_updates_text path m n w updates q)

-- maps with the same entries have the same files
pub unchanged : (m n : BTreeMap (String Global) (List ℕ)) → m.entries ≡ n.entries → get_by_text m ≡ get_by_text n
unchanged m n same = fun_ext (λ q. ap (λ (es : List (String Global × List ℕ)). lookup (is_at (text_cmp q)) es) same)

same_at : (path q : List ℕ) (files : Files) (b : Bool) → bytes_eq path q ≡ b → files q ≡ cond b (files path) (files q)
same_at path q files true e = ap files (sym ((bytes_eq-Decides path q).0 e))
same_at path q files false e = refl

-- files are themselves with the content that they have
pub with_own : (path : List ℕ) (files : Files) → files ≡ with_content path (files path) files
with_own path files = fun_ext (λ q. same_at path q files (bytes_eq path q) refl)

-- the start of a file
pub start_read : (path : List ℕ) (files : Files) (most : ℕ) (whole bytes : List ℕ) → Some whole ≡ files path → bytes ≡ take most whole
    → (told : Files) → Some files ≡ Some told → option_map (take most) (told path) ≡ Some bytes
start_read path files most whole bytes is start told same =
    let one : files ≡ told = cc in
    ap (option_map (take most)) (ap (λ (f : Files). f path) (sym one) ∙ sym is) ∙ ap Some (sym start)

pub start_within : (most : ℕ) (whole bytes : List ℕ) → bytes ≡ take most whole → length bytes ≤ most
start_within most whole bytes start = let size : length bytes ≡ min most (length whole) = ap length start ∙ length-take most whole in omega arith
