-- What a path shows in a folder.
use Rattle.std.proofs.Common.{◌≡◌, ◌≢◌, ◌<◌, ◌∙◌, ℕ, suc, Bool, true, false, List, [], ◌∷◌, ◌++◌, length, get_or, ap, sym, refl, subst, Contains, arith, append_assoc, Option, None, Some, MatchOption, Bor}
use Rattle.std.proofs.lemmas.List.{get_or_default, append_cancel_left}
use Rattle.std.proofs.lemmas.List.Elements.{Contains-append_right}
use Rattle.std.specs.Str.Pattern.{FindsTextPrefix, StripsPrefix}
use Rattle.deuce_io.specs.Files.{inside, Shows}

-- what `strip_prefix` says of a text
pub strip_text : (n s : List ℕ) (r : Option (Bor (List ℕ)))
    → MatchOption r (FindsTextPrefix n s None) (λ x. StripsPrefix (FindsTextPrefix n) s x.now)
    → MatchOption r ((rest : List ℕ) → s ≢ n ++ rest) (λ x. s ≡ n ++ x.now)
strip_text n s None lacks = lacks
strip_text n s (Some x) (k, found, is, size) = found.1 ∙ ap (λ (l : List ℕ). n ++ l) (sym is)

-- what stands below a folder, by its path and the slash
pub below_found : (dir path rest : List ℕ) (r : Option (Bor (List ℕ))) → path ≡ dir ++ rest
    → MatchOption r ((q : List ℕ) → rest ≢ 47 ∷ q) (λ x. rest ≡ 47 ∷ x.now)
    → MatchOption r ((q : List ℕ) → path ≢ inside dir q) (λ x. path ≡ inside dir x.now)
below_found dir path rest None is lacks = λ q e. lacks q (append_cancel_left dir rest (47 ∷ q) (sym is ∙ e))
below_found dir path rest (Some x) is found = is ∙ ap (λ (l : List ℕ). dir ++ l) found

-- a number that is at no index is not in the list
pub not_in : (xs : List ℕ) (b : ℕ) → ((i : ℕ) → i < length xs → get_or xs i 0 ≢ b) → Contains xs b → ⊥
not_in xs b none (i, lt, is) = none i lt (get_or_default xs i 0 b lt ∙ is)

-- a path that ends with the name shows a file
pub file_shown : (dir path name : List ℕ) → path ≡ inside dir name → ((i : ℕ) → i < length name → get_or name i 0 ≢ 47) → Shows dir path (name, false)
file_shown dir path name is none = (not_in name 47 none, is)

-- a path that goes on after the name shows a folder
pub folder_shown : (dir path name rest : List ℕ) → path ≡ inside dir (name ++ 47 ∷ rest) → ((i : ℕ) → i < length name → get_or name i 0 ≢ 47) → Shows dir path (name, true)
folder_shown dir path name rest is none =
    (not_in name 47 none, (rest, is ∙ sym (append_assoc dir (47 ∷ name) (47 ∷ rest))))

-- a path that does not go into the folder shows nothing there
pub none_shown : (dir path : List ℕ) → ((rest : List ℕ) → path ≢ inside dir rest) → (item : List ℕ × Bool) → Shows dir path item → ⊥
none_shown dir path outside (name, true) (whole, (rest, is)) = outside (name ++ 47 ∷ rest) (is ∙ append_assoc dir (47 ∷ name) (47 ∷ rest))
none_shown dir path outside (name, false) (whole, is) = outside name is

head_same : {x y : ℕ} {xs ys : List ℕ} → x ∷ xs ≡ y ∷ ys → x ≡ y
head_same e = cc

tail_same : {x y : ℕ} {xs ys : List ℕ} → x ∷ xs ≡ y ∷ ys → xs ≡ ys
tail_same e = cc

later : (x : ℕ) (xs : List ℕ) → Contains xs 47 → Contains (x ∷ xs) 47
later x xs (k, lt, is) = (suc k, omega arith, is)

-- two names that a slash ends at the same place are the same
cut_one : (n m r s : List ℕ) → (Contains n 47 → ⊥) → (Contains m 47 → ⊥) → n ++ 47 ∷ r ≡ m ++ 47 ∷ s → n ≡ m
cut_one [] [] r s no_n no_m e = refl
cut_one [] (y ∷ m) r s no_n no_m e = absurd (no_m (0, omega arith, sym (head_same e)))
cut_one (x ∷ n) [] r s no_n no_m e = absurd (no_n (0, omega arith, head_same e))
cut_one (x ∷ n) (y ∷ m) r s no_n no_m e =
    let first : x ≡ y = head_same e in
    let rest : n ≡ m = cut_one n m r s (λ h. no_n (later x n h)) (λ h. no_m (later y m h)) (tail_same e) in
    cc

-- what stands before a slash is no whole name
cut_none : (n m r : List ℕ) → (Contains m 47 → ⊥) → n ++ 47 ∷ r ≡ m → ⊥
cut_none n m r lacks e = lacks (subst (λ (l : List ℕ). Contains l 47) e (Contains-append_right n (47 ∷ r) 47 (0, omega arith, refl)))

-- what goes into a folder goes into it behind the same slash
same_below : (dir a b : List ℕ) → inside dir a ≡ inside dir b → a ≡ b
same_below dir a b e = tail_same (append_cancel_left dir (47 ∷ a) (47 ∷ b) e)

deeper : (dir name rest : List ℕ) → inside (inside dir name) rest ≡ inside dir (name ++ 47 ∷ rest)
deeper dir name rest = append_assoc dir (47 ∷ name) (47 ∷ rest)

-- a path shows one item at most
pub shows_one : (dir path : List ℕ) (a b : List ℕ × Bool) → Shows dir path a → Shows dir path b → a ≡ b
shows_one dir path (n, true) (m, true) (no_n, (r, is)) (no_m, (s, so)) =
    ap (λ (l : List ℕ). (l, true)) (cut_one n m r s no_n no_m (same_below dir (n ++ 47 ∷ r) (m ++ 47 ∷ s) (sym (deeper dir n r) ∙ sym is ∙ so ∙ deeper dir m s)))
shows_one dir path (n, true) (m, false) (no_n, (r, is)) (no_m, so) =
    absurd (cut_none n m r no_m (same_below dir (n ++ 47 ∷ r) m (sym (deeper dir n r) ∙ sym is ∙ so)))
shows_one dir path (n, false) (m, true) (no_n, is) (no_m, (s, so)) =
    absurd (cut_none m n s no_n (same_below dir (m ++ 47 ∷ s) n (sym (deeper dir m s) ∙ sym so ∙ is)))
shows_one dir path (n, false) (m, false) (no_n, is) (no_m, so) =
    ap (λ (l : List ℕ). (l, false)) (same_below dir n m (sym is ∙ so))
