-- New files, put one after another.
use Rattle.std.proofs.Common.{◌≡◌, ◌<◌, ◌+◌, ◌∙◌, ℕ, List, [], ◌∷◌, ◌++◌, length, get_or, take, map, Option, Some, None, refl, sym, ap, subst, arith}
use Rattle.std.specs.Prelude.{option_map, string_bytes, zip}
use Rattle.std.proofs.lemmas.List.{length-map, get_or-map, take_more, take_all}
use Rattle.std.proofs.lemmas.Option.{slice_get_read}
use Rattle.deuce_io.specs.Files.{Files, inside, with_content}
use Rattle.deuce.specs.declared.inputs.ClassInput.{ClassInput}
use Rattle.deuce.specs.declared.putting.NewFile.{NewFile}
use Rattle.deuce.specs.Folder.{helper_path, with_files, placed_in, placed_with, ArePutUpTo}
use Rattle.deuce.specs.Ending.{paths_of, seen_files}

abbrev pub seen_file : NewFile → List ℕ × List ℕ
seen_file f = (string_bytes f.path, f.bytes)

-- ---- what they are

-- a class file with its new bytes, as what is put of it
abbrev pub placed : List ℕ → ClassInput × List ℕ → List ℕ × List ℕ
placed out p = (inside out (string_bytes p.0.relative), p.1)

-- each file's new bytes go to the file's own path
pub placed_each : (out : List ℕ) (inputs : List ClassInput) (news : List (List ℕ)) → placed_in out (paths_of inputs) news ≡ map (placed out) (zip inputs news)
placed_each out [] news = refl
placed_each out (i ∷ inputs) [] = refl
placed_each out (i ∷ inputs) (new ∷ news) = ap (λ (l : List (List ℕ × List ℕ)). placed out (i, new) ∷ l) (placed_each out inputs news)

pushed : (old : List NewFile) (f : NewFile) → seen_files (old ++ f ∷ []) ≡ seen_files old ++ seen_file f ∷ []
pushed [] f = refl
pushed (g ∷ old) f = ap (λ (l : List (List ℕ × List ℕ)). seen_file g ∷ l) (pushed old f)

-- one more
pub placed_more : (out : List ℕ) (inputs : List ClassInput) (news : List (List ℕ)) (k : ℕ) (p : ClassInput × List ℕ) (old more : List NewFile) (f : NewFile) → k < length (zip inputs news) → p ≡ get_or (zip inputs news) k p
    → seen_file f ≡ placed out p → more ≡ old ++ f ∷ [] → seen_files old ≡ take k (placed_in out (paths_of inputs) news) → seen_files more ≡ take (k + 1) (placed_in out (paths_of inputs) news)
placed_more out inputs news k p old more f lt is seen one so_far =
    let all = map (placed out) (zip inputs news) in
    let at : get_or all k (placed out p) ≡ placed out p = get_or-map (placed out) (zip inputs news) k p (placed out p) lt ∙ ap (placed out) (sym is) in
    let long : k < length all = omega (arith, length-map (zip inputs news) (placed out), lt) in
    let Seen : List (List ℕ × List ℕ) → Type 0 = λ l. seen_files more ≡ take (k + 1) l in
    subst Seen (sym (placed_each out inputs news))
    (ap seen_files one ∙ pushed old f ∙ ap (λ (l : List (List ℕ × List ℕ)). l ++ seen_file f ∷ []) (so_far ∙ ap (take k) (placed_each out inputs news))
    ∙ ap (λ (x : List ℕ × List ℕ). take k all ++ x ∷ []) (seen ∙ sym at) ∙ sym (take_more all k (placed out p) long))

-- all of them
pub placed_all : (out : List ℕ) (inputs : List ClassInput) (news : List (List ℕ)) (k : ℕ) (files : List NewFile) → k ≡ length (zip inputs news) → seen_files files ≡ take k (placed_in out (paths_of inputs) news)
    → seen_files files ≡ placed_in out (paths_of inputs) news
placed_all out inputs news k files all h =
    let same = ap length (placed_each out inputs news) ∙ length-map (zip inputs news) (placed out) in
    h ∙ take_all k (placed_in out (paths_of inputs) news) (omega (arith, all, same))

-- the helper behind them
pub placed_last : (out : List ℕ) (paths news : List (List ℕ)) (helper : List ℕ) (old more : List NewFile) (f : NewFile) → seen_file f ≡ (inside out helper_path, helper) → more ≡ old ++ f ∷ []
    → seen_files old ≡ placed_in out paths news → seen_files more ≡ placed_with out paths news helper
placed_last out paths news helper old more f seen one so_far =
    ap seen_files one ∙ pushed old f ∙ ap (λ (l : List (List ℕ × List ℕ)). l ++ seen_file f ∷ []) so_far ∙ ap (λ (x : List ℕ × List ℕ). placed_in out paths news ++ x ∷ []) seen

-- ---- how they are put

-- one behind others is put last
with_last : (fs : List (List ℕ × List ℕ)) (f : List ℕ × List ℕ) (told : Files) → with_files (fs ++ f ∷ []) told ≡ with_content f.0 (Some f.1) (with_files fs told)
with_last [] f told = refl
with_last (g ∷ fs) f told = with_last fs f (with_content g.0 (Some g.1) told)

module _ (files : List NewFile) (k : ℕ) (file : NewFile) (lt : k < length files) (is : file ≡ get_or files k file) where
  abbrev all : List (List ℕ × List ℕ)
  all = seen_files files

  long : k < length all
  long = omega (arith, length-map files seen_file, lt)

  at : seen_file file ≡ get_or all k (seen_file file)
  at = sym (get_or-map seen_file files k file (seen_file file) lt ∙ ap seen_file (sym is))

  -- one more was put
  pub put_more : (first between now : Option Files) → between ≡ option_map (with_files (take k all)) first → now ≡ option_map (with_content (string_bytes file.path) (Some file.bytes)) between
      → now ≡ option_map (with_files (take (k + 1) all)) first
  put_more first between now before put =
      let front : take (k + 1) all ≡ take k all ++ seen_file file ∷ [] = take_more all k (seen_file file) long ∙ ap (λ (x : List ℕ × List ℕ). take k all ++ x ∷ []) (sym at) in
      let Put : List (List ℕ × List ℕ) → Type 0 = λ l. now ≡ option_map (with_files l) first in
      subst Put (sym front) (put ∙ ap (option_map (with_content (string_bytes file.path) (Some file.bytes))) before ∙ go first)
    where
      go : (o : Option Files) → option_map (with_content (string_bytes file.path) (Some file.bytes)) (option_map (with_files (take k all)) o) ≡ option_map (with_files (take k all ++ seen_file file ∷ [])) o
      go None = refl
      go (Some told) = ap (λ (t : Files). Some t) (sym (with_last (take k all) (seen_file file) told))

  -- the put of one more ended with an error
  pub put_up_to : (first between now : Option Files) (found : Option (List ℕ)) → between ≡ option_map (with_files (take k all)) first → now ≡ option_map (with_content (string_bytes file.path) found) between
      → ArePutUpTo all first now (string_bytes file.path)
  put_up_to first between now found before put = record {
    number = k;
    bytes = file.bytes;
    file = slice_get_read all (length all) k (seen_file file) refl long at;
    found = found;
    left = put ∙ ap (option_map (with_content (string_bytes file.path) found)) before ∙ go first;
  }
    where
      go : (o : Option Files) → option_map (with_content (string_bytes file.path) found) (option_map (with_files (take k all)) o) ≡ option_map (λ told. with_content (string_bytes file.path) found (with_files (take k all) told)) o
      go None = refl
      go (Some told) = refl

-- nothing was put yet
pub put_none : (first : Option Files) → first ≡ option_map (with_files []) first
put_none None = refl
put_none (Some told) = refl
