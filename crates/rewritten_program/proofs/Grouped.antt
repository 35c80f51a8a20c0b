-- The members of a class's rewriting by their groups: old ones, accessors, and duplicates.
use Rattle.std.proofs.Common.{◌≡◌, ℕ, suc, ◌+◌, ◌-◌, ◌*◌, Bool, false, List, [], ◌∷◌, ◌++◌, length, map, take, drop, refl, sym, ap, ◌∙◌, subst, arith, length-append, append_assoc}
use Rattle.std.specs.Prelude.{filter, zip, bytes_eq}
use Rattle.std.specs.List.{AllByRecursion, AllZip}
use Rattle.std.proofs.lemmas.List.{length-map, map-append}
use Rattle.std.proofs.lemmas.List.Elements.{filter-append}
use Rattle.jmodel.specs.format.ClassFile.{Member, ClassFile}
use Rattle.objects.specs.linking.Classes.{Declared, declared_in}
use Rattle.objects.specs.linking.Taken.{is_taken}
use Rattle.objects.specs.linking.Members.{own_name}
use Rattle.objects.specs.semantics.Program.{Field, Method, Program}
use Rattle.objects.specs.typing.Typing.{Table}
use Rattle.objects.specs.typing.Source.{IsSource}
use Rattle.objects.specs.laws.LinkingLaw.{AreRead}
use Rattle.objects.specs.rewriting.Relinking.{is_of, old_members, duplicates_count, accessors_count, duplicate_members, accessor_members}
use Rattle.objects.proofs.Items.{IsAt, into_flat, into_map}
use Rattle.objects.proofs.Links.{IsLinkedTo}
use Rattle.dup_methods.specs.Originals.{Original}
use Rattle.rewriter.specs.Part.{own_methods, part_of, share_of}
use Rattle.rewriter.specs.Rewritten.{originals}
use Rattle.rewriter.proofs.Lists.{take_front, drop_front}
use Rattle.rewriter.proofs.Owned.{taken_of}
use Rattle.rewritten_names.specs.Heads.{Head, head_of, heads, is_numbered, copy_of, accessor_heads, own_fields}
use Rattle.rewritten_names.proofs.Free.{is_counted}
use Rattle.rewritten_names.proofs.Groups.{IsCounted}
use Rattle.rewritten_names.proofs.Lists.{filter_map, filter_none, append_none}
use Rattle.rewritten_names.proofs.Ordinary.{numbered_taken}
use Rattle.rewritten_program.specs.Keeps.{IsCopy, Keeps}
use Rattle.rewritten_program.proofs.Headed.{rewrites, old_heads, copy_heads}
use Rattle.rewritten_program.proofs.Made.{IsRewriting}
use Rattle.rewritten_program.proofs.Placed.{IsPlaced}

-- ---- lists

-- items whose heads are given
all_heads : (Q : Head → Type 0) (f : Member → Head) (ms : List Member) (hs : List Head) → map f ms ≡ hs → AllByRecursion Q hs → AllByRecursion (λ (m : Member). Q (f m)) ms
all_heads Q f [] hs e h = tt
all_heads Q f (m ∷ ms) [] e h = cc
all_heads Q f (m ∷ ms) (x ∷ hs) e h =
    let first : f m ≡ x = cc in
    let rest : map f ms ≡ hs = cc in
    (subst Q (sym first) h.0, all_heads Q f ms hs rest h.1)

-- lists with the same heads
zip_heads : (f g : Member → Head) (ms xs : List Member) → map g xs ≡ map f ms → AllZip (λ (m x : Member). g x ≡ f m) ms xs
zip_heads f g [] [] e = tt
zip_heads f g [] (x ∷ xs) e = cc
zip_heads f g (m ∷ ms) [] e = cc
zip_heads f g (m ∷ ms) (x ∷ xs) e =
    let first : g x ≡ f m = cc in
    let rest : map g xs ≡ map f ms = cc in
    (first, zip_heads f g ms xs rest)

-- what holds of pairs by what it implies
zip_as : (Q R : Member → Member → Type 0) (ms xs : List Member) → ((m x : Member) → IsAt ms m → Q m x → R m x) → AllZip Q ms xs → AllZip R ms xs
zip_as Q R [] [] f h = tt
zip_as Q R [] (x ∷ xs) f h = absurd h
zip_as Q R (m ∷ ms) [] f h = absurd h
zip_as Q R (m ∷ ms) (x ∷ xs) f h = (f m x (0, refl) h.0, zip_as Q R ms xs (λ y z at. f y z (suc at.0, at.1)) h.1)

-- two accessors for each field
two_each : (fs : List Field) → length (accessor_heads fs) ≡ 2 * length fs
two_each [] = refl
two_each (f ∷ fs) = let e = two_each fs in omega (arith, e)

-- ---- a class

module _ (cs : List ClassFile) (P : Program) (read : AreRead cs) (l : IsLinkedTo cs P) (source : IsSource P) (c : ClassFile) (fields methods : ℕ) (p : IsPlaced cs P c fields methods) (d : ClassFile) (id : ℕ) (Ts : List Table)
    (R : IsRewriting P c d (share_of c (part_of cs P methods id c)) Ts) where
  -- the steps
  abbrev K : Keeps P c d (share_of c (part_of cs P methods id c)) Ts
  K = R.keeps

  -- the class has its name
  own : own_name d ≡ own_name c
  own = (rewrites cs P read l c fields methods p d id Ts R).own

  -- nothing that is added is numbered
  counted : IsCounted P c
  counted = is_counted cs P read l source c p.at

  -- whether a member is a method of the program
  abbrev pub is_old : Member → Bool
  is_old m = is_of P (record { class = d; member = m })

  -- added heads have no numbers
  free : (ms : List Member) (hs : List Head) → heads d.pool ms ≡ hs → AllByRecursion (λ (h : Head). is_numbered P (own_name c) h ≡ false) hs → AllByRecursion (λ (m : Member). is_old m ≡ false) ms
  free ms hs e h = subst (λ (t : List ℕ). AllByRecursion (λ (m : Member). is_numbered P t (head_of d.pool m) ≡ false) ms) (sym own) (all_heads (λ (h : Head). is_numbered P (own_name c) h ≡ false) (head_of d.pool) ms hs e h)

  -- the old ones are those of the front
  pub olds_are : old_members P d ≡ declared_in d (filter is_old K.olds)
  olds_are =
      filter_map (λ (m : Member). record { class = d; member = m }) (is_of P) d.methods
      ∙ ap (declared_in d) (
      ap (filter is_old) K.methods ∙ filter-append is_old K.olds (K.accessors ++ K.copies)
      ∙ ap (λ (x : List Member). filter is_old K.olds ++ x) (
      filter-append is_old K.accessors K.copies
      ∙ ap (λ (x : List Member). x ++ filter is_old K.copies) (filter_none is_old K.accessors (free K.accessors (accessor_heads (own_fields P c)) R.accessors counted.accessors))
      ∙ filter_none is_old K.copies (free K.copies (map copy_of (filter (is_numbered P (own_name c)) (heads c.pool c.methods))) (copy_heads cs P read l c fields methods p d id Ts R) counted.copies_free))
      ∙ append_none (filter is_old K.olds))

  -- an old one is a method of the program where its original is taken
  pub olds_numbered : AllZip (λ (m x : Member). is_old x ≡ is_taken cs (record { class = c; member = m })) c.methods K.olds
  olds_numbered =
      zip_as (λ (m x : Member). head_of d.pool x ≡ head_of c.pool m) (λ (m x : Member). is_old x ≡ is_taken cs (record { class = c; member = m })) c.methods K.olds
      (λ m x at e. ap (λ (h : Head). is_numbered P (own_name d) h) e ∙ ap (λ (t : List ℕ). is_numbered P t (head_of c.pool m)) own
      ∙ numbered_taken cs P read l (record { class = c; member = m }) (into_flat (λ (c : ClassFile). declared_in c c.methods) cs c (record { class = c; member = m }) p.at (into_map (λ (m : Member). record { class = c; member = m }) c.methods m at)))
      (zip_heads (head_of c.pool) (head_of d.pool) c.methods K.olds (old_heads cs P read l c fields methods p d id Ts R))

  -- ---- lengths

  -- as many originals as pairs
  originals_long : (ps : List (Method × Member)) (Us : List Table) → length (originals P c ps Us) ≡ length ps
  originals_long [] Us = refl
  originals_long (q ∷ ps) [] = ap suc (originals_long ps [])
  originals_long (q ∷ ps) (U ∷ Us) = ap suc (originals_long ps Us)

  -- as many pairs as methods
  zip_long : (ks : List Method) (ms : List Member) → length ks ≡ length ms → length (zip ks ms) ≡ length ks
  zip_long [] ms e = refl
  zip_long (k ∷ ks) [] e = absurd (omega (arith, e))
  zip_long (k ∷ ks) (m ∷ ms) e = ap suc (zip_long ks ms (omega (arith, e)))

  -- as many duplicates as originals
  zipped_long : (os : List Original) (ms : List Member) → AllZip (λ (O : Original) (m : Member). IsCopy O d.pool m) os ms → length ms ≡ length os
  zipped_long [] [] h = refl
  zipped_long [] (m ∷ ms) h = absurd h
  zipped_long (O ∷ os) [] h = absurd h
  zipped_long (O ∷ os) (m ∷ ms) h = ap suc (zipped_long os ms h.1)

  -- the duplicates are counted
  copies_count : duplicates_count P d ≡ length K.copies
  copies_count =
      ap (λ (t : List ℕ). length (filter (λ (k : Method). bytes_eq k.name.class t) P.methods)) own
      ∙ sym (zipped_long (originals P c (zip (own_methods P c) (taken_of cs c)) Ts) K.copies K.are_copies ∙ originals_long (zip (own_methods P c) (taken_of cs c)) Ts ∙ zip_long (own_methods P c) (taken_of cs c) p.many)

  -- the accessors are counted
  accessors_are : accessors_count P d ≡ length K.accessors
  accessors_are =
      ap (λ (t : List ℕ). 2 * length (filter (λ (f : Field). bytes_eq f.class t) P.fields)) own
      ∙ sym (sym (length-map K.accessors (head_of d.pool)) ∙ ap length R.accessors ∙ two_each (own_fields P c))

  -- the methods are counted
  whole_long : length d.methods ≡ length K.olds + (length K.accessors + length K.copies)
  whole_long = ap length K.methods ∙ length-append K.olds (K.accessors ++ K.copies) ∙ ap (λ (n : ℕ). length K.olds + n) (length-append K.accessors K.copies)

  -- the methods by their groups
  all_declared : declared_in d d.methods ≡ declared_in d K.olds ++ (declared_in d K.accessors ++ declared_in d K.copies)
  all_declared =
      ap (declared_in d) K.methods ∙ map-append (λ (m : Member). record { class = d; member = m }) K.olds (K.accessors ++ K.copies)
      ∙ ap (λ (x : List Declared). declared_in d K.olds ++ x) (map-append (λ (m : Member). record { class = d; member = m }) K.accessors K.copies)

  -- members of a class are as many
  declared_long : (ms : List Member) → length (declared_in d ms) ≡ length ms
  declared_long ms = length-map ms (λ (m : Member). record { class = d; member = m })

  -- behind them stand the duplicates
  pub copies_are : duplicate_members P d ≡ declared_in d K.copies
  copies_are =
      ap (drop (length d.methods - duplicates_count P d)) (all_declared ∙ sym (append_assoc (declared_in d K.olds) (declared_in d K.accessors) (declared_in d K.copies)))
      ∙ drop_front (declared_in d K.olds ++ declared_in d K.accessors) (declared_in d K.copies) (length d.methods - duplicates_count P d) place
    where
      place : length d.methods - duplicates_count P d ≡ length (declared_in d K.olds ++ declared_in d K.accessors)
      place =
          let a = whole_long in
          let b = copies_count in
          let e = length-append (declared_in d K.olds) (declared_in d K.accessors) in
          let f = declared_long K.olds in
          let g = declared_long K.accessors in
          omega (arith, a, b, e, f, g)

  -- and between both the accessors
  pub accessors_between : accessor_members P d ≡ declared_in d K.accessors
  accessors_between =
      ap (λ (x : List Declared). take (accessors_count P d) (drop (length d.methods - duplicates_count P d - accessors_count P d) x)) all_declared
      ∙ ap (take (accessors_count P d)) (drop_front (declared_in d K.olds) (declared_in d K.accessors ++ declared_in d K.copies) (length d.methods - duplicates_count P d - accessors_count P d) place)
      ∙ take_front (declared_in d K.accessors) (declared_in d K.copies) (accessors_count P d) (accessors_are ∙ sym (declared_long K.accessors))
    where
      place : length d.methods - duplicates_count P d - accessors_count P d ≡ length (declared_in d K.olds)
      place =
          let a = whole_long in
          let b = copies_count in
          let e = accessors_are in
          let f = declared_long K.olds in
          omega (arith, a, b, e, f)
