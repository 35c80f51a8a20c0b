-- Classes by their names, and how rewriting keeps these.
use Rattle.std.proofs.Common.{◌≡◌, ◌++◌, ◌∙◌, ℕ, Bor, Bool, true, false, cond, List, [], ◌∷◌, map, reverse, Option, Some, None, refl, sym, ap, subst}
use Rattle.std.specs.Prelude.{option_map, bytes_eq, if◌then◌else◌, IsSome}
use Rattle.std.specs.List.{AllByRecursion, AllZip}
use Rattle.std.specs.Map.{lookup}
use Rattle.std.specs.BTreeMap.{is_at}
use Rattle.std.specs.declared.cmp.Ordering.{Ordering}
use Rattle.std.specs.Ordering.{nat_cmp}
use Rattle.std.specs.Cmp.Lexicographic.{slice_cmp}
use Rattle.std.proofs.lemmas.List.{map-append, reverse-append}
use Rattle.std.proofs.lemmas.Slice.Eq.{bytes_eq-Decides}
use Rattle.std.proofs.lemmas.Map.Text.{is_eq-slice_cmp}
use Rattle.jmodel.specs.format.ClassFile.{ClassFile}
use Rattle.objects.specs.linking.Members.{own_name}
use Rattle.objects.specs.linking.Superclasses.{class_named}
use Rattle.objects.specs.linking.Classes.{is_before, placed, in_order}
use Rattle.objects.specs.semantics.Program.{Program}
use Rattle.rewritten_names.specs.Heads.{Rewrites}
use Rattle.deuce.specs.Ending.{AreUnderNames}
use Rattle.deuce.proofs.Lists.{all_as}

-- ---- in a tree

abbrev pub by_bytes : Bor (List ℕ) → Bor (List ℕ) → Ordering
by_bytes x y = slice_cmp nat_cmp x.now y.now

abbrev Entry : Type 0
Entry = Bor (List ℕ) × Bor ClassFile

-- what a tree finds goes by the bytes of the name
pub found : (k : Bor (List ℕ)) (es : List Entry) → lookup (is_at (by_bytes k)) es ≡ lookup (λ x. bytes_eq k.now x.now) es
found k [] = refl
found k (e ∷ es) =
    ap (λ (b : Bool). cond b (Some e.1) (lookup (is_at (by_bytes k)) es)) (is_eq-slice_cmp k.now e.0.now) ∙ ap (λ (o : Option (Bor ClassFile)). cond (bytes_eq k.now e.0.now) (Some e.1) o) (found k es)

-- a tree with one class more
pub under_more : (old new : List Entry) (cs : List ClassFile) (k : Bor (List ℕ)) (v : Bor ClassFile) → k.now ≡ own_name v.now
    → ((q : Bor (List ℕ)) → lookup (is_at (by_bytes q)) new ≡ cond (is_at (by_bytes k) q) (Some v) (lookup (is_at (by_bytes q)) old)) → AreUnderNames old cs → AreUnderNames new (v.now ∷ cs)
under_more old new cs k v named updates so_far name =
    let q : Bor (List ℕ) = record { ref_ptr = (0, 0); now = name } in
    let now : Option (Bor ClassFile) → Option ClassFile = option_map (λ c. c.now) in
    ap now (sym (found q new) ∙ updates q ∙ ap (λ (b : Bool). cond b (Some v) (lookup (is_at (by_bytes q)) old)) (is_eq-slice_cmp k.now name) ∙ ap (cond (bytes_eq k.now name) (Some v)) (found q old))
    ∙ go (bytes_eq k.now name) (lookup (λ x. bytes_eq name x.now) old) (class_named cs name) (so_far name) ∙ ap (λ (n : List ℕ). cond (bytes_eq n name) (Some v.now) (class_named cs name)) named
  where
    go : (b : Bool) (o : Option (Bor ClassFile)) (p : Option ClassFile) → option_map (λ c. c.now) o ≡ p → option_map (λ c. c.now) (cond b (Some v) o) ≡ cond b (Some v.now) p
    go true o p h = refl
    go false o p h = h

abbrev pub seen : List (Bor ClassFile) → List ClassFile
seen cs = map (λ c. c.now) cs

-- the last one comes first
pub last_first : (cs : List (Bor ClassFile)) (c : Bor ClassFile) → reverse (seen (cs ++ c ∷ [])) ≡ c.now ∷ reverse (seen cs)
last_first cs c = ap (λ (l : List ClassFile). reverse l) (map-append (λ (k : Bor ClassFile). k.now) cs (c ∷ [])) ∙ reverse-append (seen cs) (c.now ∷ [])

-- a class that a tree finds is the one of the name
pub is_named : (k : Bor (List ℕ)) (es : List Entry) (cs : List ClassFile) (c : Bor ClassFile) → AreUnderNames es cs → lookup (is_at (by_bytes k)) es ≡ Some c → class_named cs k.now ≡ Some c.now
is_named k es cs c under is = sym (under k.now) ∙ ap (option_map (λ c. c.now)) (sym (found k es) ∙ is)

pub none_named : (k : Bor (List ℕ)) (es : List Entry) (cs : List ClassFile) → AreUnderNames es cs → lookup (is_at (by_bytes k)) es ≡ None → class_named cs k.now ≡ None
none_named k es cs under is = sym (under k.now) ∙ ap (option_map (λ c. c.now)) (sym (found k es) ∙ is)

-- ---- which names there are

-- some class has the name
abbrev pub IsNamed : List ClassFile → List ℕ → Type 0
IsNamed cs name = IsSome (class_named cs name)

itself : (c : ClassFile) (cs : List ClassFile) → IsNamed (c ∷ cs) (own_name c)
itself c cs = let same : bytes_eq (own_name c) (own_name c) ≡ true = (bytes_eq-Decides (own_name c) (own_name c)).1 refl in rw same refl

-- what a list has is had with one class more
with_more : (c : ClassFile) (cs ds : List ClassFile) (name : List ℕ) → (IsNamed cs name → IsNamed ds name) → IsNamed (c ∷ cs) name → IsNamed (c ∷ ds) name
with_more c cs ds name f = go (bytes_eq (own_name c) name)
  where
    go : (b : Bool) → IsSome (cond b (Some c) (class_named cs name)) → IsSome (cond b (Some c) (class_named ds name))
    go true h = h
    go false h = f h

behind : (c : ClassFile) (cs : List ClassFile) (name : List ℕ) → IsNamed cs name → IsNamed (c ∷ cs) name
behind c cs name h = go (bytes_eq (own_name c) name)
  where
    go : (b : Bool) → IsSome (cond b (Some c) (class_named cs name))
    go true = refl
    go false = h

swapped : (c d : ClassFile) (ds : List ClassFile) (name : List ℕ) → IsNamed (c ∷ d ∷ ds) name → IsNamed (d ∷ c ∷ ds) name
swapped c d ds name h = go (bytes_eq (own_name c) name) (bytes_eq (own_name d) name) h
  where
    go : (b e : Bool) → IsSome (cond b (Some c) (cond e (Some d) (class_named ds name))) → IsSome (cond e (Some d) (cond b (Some c) (class_named ds name)))
    go b true h = refl
    go true false h = refl
    go false false h = h

named_placed : (c : ClassFile) (ds : List ClassFile) (name : List ℕ) → IsNamed (c ∷ ds) name → IsNamed (placed c ds) name
named_placed c [] name h = h
named_placed c (d ∷ ds) name h = go (is_before (own_name d) (own_name c)) (with_more d (c ∷ ds) (placed c ds) name (named_placed c ds name) (swapped c d ds name h))
  where
    go : (b : Bool) → IsNamed (d ∷ placed c ds) name → IsNamed (if b then d ∷ placed c ds else c ∷ d ∷ ds) name
    go true k = k
    go false k = h

-- each class file's class is among those in order
named_in_order : (files : List ClassFile) → AllByRecursion (λ (f : ClassFile). IsNamed (in_order files) (own_name f)) files
named_in_order [] = tt
named_in_order (c ∷ cs) = (
  named_placed c (in_order cs) (own_name c) (itself c (in_order cs)),
  all_as (λ (f : ClassFile). IsNamed (in_order cs) (own_name f)) (λ (f : ClassFile). IsNamed (placed c (in_order cs)) (own_name f))
      (λ f h. named_placed c (in_order cs) (own_name f) (behind c (in_order cs) (own_name f) h)) cs (named_in_order cs),
)

-- ---- names that are kept

abbrev KeepsName : ClassFile → ClassFile → Type 0
KeepsName c d = own_name d ≡ own_name c

named_still : (cs ds : List ClassFile) (name : List ℕ) → AllZip KeepsName cs ds → IsNamed cs name → IsNamed ds name
named_still [] [] name keeps h = h
named_still [] (d ∷ ds) name keeps h = absurd keeps
named_still (c ∷ cs) [] name keeps h = absurd keeps
named_still (c ∷ cs) (d ∷ ds) name keeps h = rw keeps.0 (go (bytes_eq (own_name c) name) (named_still cs ds name keeps.1) h)
  where
    go : (b : Bool) → (IsNamed cs name → IsNamed ds name) → IsSome (cond b (Some c) (class_named cs name)) → IsSome (cond b (Some d) (class_named ds name))
    go true f k = refl
    go false f k = f k

-- what is named is still named with more classes behind
named_before : (cs more : List ClassFile) (name : List ℕ) → IsNamed cs name → IsNamed (cs ++ more) name
named_before [] more name h = absurd (cc)
named_before (c ∷ cs) more name h = go (bytes_eq (own_name c) name) (named_before cs more name) h
  where
    go : (b : Bool) → (IsNamed cs name → IsNamed (cs ++ more) name) → IsSome (cond b (Some c) (class_named cs name)) → IsSome (cond b (Some c) (class_named (cs ++ more) name))
    go true f k = refl
    go false f k = f k

all_keep : (P : Program) (cs ds : List ClassFile) → AllZip (Rewrites P) cs ds → AllZip KeepsName cs ds
all_keep P [] [] h = tt
all_keep P [] (d ∷ ds) h = absurd h
all_keep P (c ∷ cs) [] h = absurd h
all_keep P (c ∷ cs) (d ∷ ds) h = (h.0.own, all_keep P cs ds h.1)

-- each class file's class is among the rewritten ones
pub all_named : (P : Program) (files classes more : List ClassFile) → AllZip (Rewrites P) (in_order files) classes → AllByRecursion (λ (f : ClassFile). IsNamed (classes ++ more) (own_name f)) files
all_named P files classes more each =
    all_as (λ (f : ClassFile). IsNamed (in_order files) (own_name f)) (λ (f : ClassFile). IsNamed (classes ++ more) (own_name f))
    (λ f h. named_before classes more (own_name f) (named_still (in_order files) classes (own_name f) (all_keep P (in_order files) classes each) h)) files (named_in_order files)

-- a class that has a name is one of them
pub holds_of : (Q : ClassFile → Type 0) (cs : List ClassFile) (name : List ℕ) (c : ClassFile) → class_named cs name ≡ Some c → AllByRecursion Q cs → Q c
holds_of Q [] name c is all = cc
holds_of Q (d ∷ cs) name c is all = go (bytes_eq (own_name d) name) (λ e. holds_of Q cs name c e all.1) is
  where
    go : (b : Bool) → (class_named cs name ≡ Some c → Q c) → cond b (Some d) (class_named cs name) ≡ Some c → Q c
    go true f e = let same : d ≡ c = cc (e) in subst Q same all.0
    go false f e = f e
