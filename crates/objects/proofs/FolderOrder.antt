-- Class files in the order of their classes' names keep what they kept in any other.
use Rattle.std.proofs.Common.{◌≡◌, ℕ, suc, ◌≤◌, List, [], ◌∷◌, length, Option, Some, None, Result, Ok, Bool, true, false, refl, sym, ap, ◌∙◌, arith}
use Rattle.std.specs.Prelude.{bytes_eq, ◌||◌, if◌then◌else◌}
use Rattle.std.specs.List.{AllByRecursion, list_any}
use Rattle.std.specs.Option.{option_or}
use Rattle.jmodel.specs.declared.refusal.Refusal.{Refusal}
use Rattle.jmodel.specs.declared.refusal.Refusal.TheVariants.{DoubledClass}
use Rattle.jmodel.specs.format.ClassFile.{ClassFile}
use Rattle.jmodel.specs.format.ClassRules.{IsClassFile}
use Rattle.objects.specs.linking.Library.{library}
use Rattle.objects.specs.linking.Members.{own_name}
use Rattle.objects.specs.linking.Classes.{is_before, placed, in_order, doubled_among, doubled_class}
use Rattle.objects.specs.linking.Faults.{first_fault, unless}
use Rattle.objects.specs.semantics.Program.{Program}
use Rattle.objects.specs.linking.ClassesFaults.{reserved_fault, reserved_class}
use Rattle.objects.specs.laws.LinkingLaw.{AreRead, FilesLaw}
use Rattle.objects.proofs.ClassRows.{swapped, new_head, any_later}
use Rattle.objects.proofs.ClassTypes.{each_none}
use Rattle.objects.proofs.SourceProof.{source_law}

-- ---- what holds of each

placed_all : (Rule : ClassFile → Type 0) (c : ClassFile) (ds : List ClassFile) → Rule c → AllByRecursion Rule ds → AllByRecursion Rule (placed c ds)
placed_all Rule c [] h all = (h, tt)
placed_all Rule c (d ∷ ds) h all = go (is_before (own_name d) (own_name c)) (placed_all Rule c ds h all.1)
  where
    go : (b : Bool) → AllByRecursion Rule (placed c ds) → AllByRecursion Rule (if b then d ∷ placed c ds else c ∷ d ∷ ds)
    go true rest = (all.0, rest)
    go false rest = (h, all)

ordered_all : (Rule : ClassFile → Type 0) (cs : List ClassFile) → AllByRecursion Rule cs → AllByRecursion Rule (in_order cs)
ordered_all Rule [] all = tt
ordered_all Rule (c ∷ cs) all = placed_all Rule c (in_order cs) all.0 (ordered_all Rule cs all.1)

placed_many : (c : ClassFile) (ds : List ClassFile) → length (placed c ds) ≡ suc (length ds)
placed_many c [] = refl
placed_many c (d ∷ ds) = go (is_before (own_name d) (own_name c)) (placed_many c ds)
  where
    go : (b : Bool) → length (placed c ds) ≡ suc (length ds) → length (if b then d ∷ placed c ds else c ∷ d ∷ ds) ≡ suc (suc (length ds))
    go true e = ap suc e
    go false e = refl

ordered_many : (cs : List ClassFile) → length (in_order cs) ≡ length cs
ordered_many [] = refl
ordered_many (c ∷ cs) = placed_many c (in_order cs) ∙ ap suc (ordered_many cs)

none_first : (fault : ClassFile → Option Refusal) (cs : List ClassFile) → AllByRecursion (λ c. fault c ≡ None) cs → first_fault fault cs ≡ None
none_first fault [] all = refl
none_first fault (c ∷ cs) all = ap (λ o. option_or o (first_fault fault cs)) all.0 ∙ none_first fault cs all.1

-- ---- names

abbrev AreSame : List (List ℕ) → List (List ℕ) → Type 0
AreSame ns ms = (n : List ℕ) → list_any (bytes_eq n) ns ≡ list_any (bytes_eq n) ms

-- which names there are counts, and not their order
same_among : (ns ms : List (List ℕ)) → AreSame ns ms → (cs : List ClassFile) → doubled_among ns cs ≡ doubled_among ms cs
same_among ns ms same [] = refl
same_among ns ms same (c ∷ cs) =
    ap (λ b. if b then Some (DoubledClass (own_name c)) else doubled_among (own_name c ∷ ns) cs) (same (own_name c))
    ∙ ap (λ o. if list_any (bytes_eq (own_name c)) ms then Some (DoubledClass (own_name c)) else o)
    (same_among (own_name c ∷ ns) (own_name c ∷ ms) (λ n. ap (λ b. bytes_eq n (own_name c) || b) (same n)) cs)

swapped_names : (a b : List ℕ) (ns : List (List ℕ)) → AreSame (a ∷ b ∷ ns) (b ∷ a ∷ ns)
swapped_names a b ns n = go (bytes_eq n a) (bytes_eq n b)
  where
    go : (x y : Bool) → (x || (y || list_any (bytes_eq n) ns)) ≡ (y || (x || list_any (bytes_eq n) ns))
    go true true = refl
    go true false = refl
    go false true = refl
    go false false = refl

two_false : (a b : Bool) → a ≡ false → b ≡ false → (a || b) ≡ false
two_false true b e f = cc
two_false false b e f = f

if_new : (ns : List (List ℕ)) (c : ClassFile) (cs : List ClassFile) → list_any (bytes_eq (own_name c)) ns ≡ false → doubled_among (own_name c ∷ ns) cs ≡ None → doubled_among ns (c ∷ cs) ≡ None
if_new ns c cs e rest = ap (λ b. if b then Some (DoubledClass (own_name c)) else doubled_among (own_name c ∷ ns) cs) e ∙ rest

placed_new : (ns : List (List ℕ)) (c : ClassFile) (ds : List ClassFile) → list_any (bytes_eq (own_name c)) ns ≡ false → doubled_among (own_name c ∷ ns) ds ≡ None → doubled_among ns (placed c ds) ≡ None
placed_new ns c [] new rest = if_new ns c [] new refl
placed_new ns c (d ∷ ds) new rest = go (is_before (own_name d) (own_name c)) (behind (λ ms e f. placed_new ms c ds e f))
  where
    head : (list_any (bytes_eq (own_name d)) (own_name c ∷ ns) ≡ false) × (doubled_among (own_name d ∷ own_name c ∷ ns) ds ≡ None)
    head = new_head (own_name c ∷ ns) d ds rest

    apart : (bytes_eq (own_name d) (own_name c) ≡ false) × (list_any (bytes_eq (own_name d)) ns ≡ false)
    apart = any_later (own_name d) (own_name c) ns head.0

    behind : ((ms : List (List ℕ)) → list_any (bytes_eq (own_name c)) ms ≡ false → doubled_among (own_name c ∷ ms) ds ≡ None → doubled_among ms (placed c ds) ≡ None) → doubled_among ns (d ∷ placed c ds) ≡ None
    behind step = if_new ns d (placed c ds) apart.1
        (step (own_name d ∷ ns) (two_false (bytes_eq (own_name c) (own_name d)) _ (swapped (own_name c) (own_name d) ∙ apart.0) new)
        (sym (same_among (own_name d ∷ own_name c ∷ ns) (own_name c ∷ own_name d ∷ ns) (swapped_names (own_name d) (own_name c) ns) ds) ∙ head.1))

    go : (b : Bool) → doubled_among ns (d ∷ placed c ds) ≡ None → doubled_among ns (if b then d ∷ placed c ds else c ∷ d ∷ ds) ≡ None
    go true e = e
    go false e = if_new ns c (d ∷ ds) new rest

ordered_new : (ns : List (List ℕ)) (cs : List ClassFile) → doubled_among ns cs ≡ None → doubled_among ns (in_order cs) ≡ None
ordered_new ns [] e = refl
ordered_new ns (c ∷ cs) e = let h = new_head ns c cs e in placed_new ns c (in_order cs) h.0 (ordered_new (own_name c ∷ ns) cs h.1)

-- ---- the law

pub are_read : (files : List ClassFile) → length files ≤ 256 → AllByRecursion IsClassFile files → doubled_class files ≡ None → reserved_class files ≡ None → AreRead (in_order files)
are_read files few all new free = record {
  few = (let many = ordered_many files in omega (arith, many, few));
  files = ordered_all IsClassFile files all;
  doubled = ordered_new library files new;
  reserved = none_first reserved_fault (in_order files) (ordered_all (λ c. reserved_fault c ≡ None) files (each_none reserved_fault files free));
}

unless_ok : (o : Option Refusal) (r : Result (Option Program) Refusal) (P : Program) → unless o r ≡ Ok (Some P) → (o ≡ None) × (r ≡ Ok (Some P))
unless_ok None r P e = (refl, e)
unless_ok (Some f) r P e = cc

pub files_law : FilesLaw
files_law files P few all e =
    let a = unless_ok (doubled_class files) _ P e in
    let b = unless_ok (reserved_class files) _ P a.1 in
    let read = are_read files few all a.0 b.0 in
    record { read = read; linked = b.1; source = source_law (in_order files) P read b.1 }
