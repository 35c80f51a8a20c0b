-- A class's rewriting has the heads of the class's members, and behind them those of what was added.
use Rattle.std.proofs.Common.{◌≡◌, ℕ, Bool, List, [], ◌∷◌, ◌++◌, length, map, Option, Some, None, refl, sym, ap, ◌∙◌, subst}
use Rattle.std.specs.Prelude.{filter, cond, zip, option_map, IsSome}
use Rattle.std.specs.List.{AllByRecursion, AllZip}
use Rattle.std.proofs.lemmas.List.{map-append, length-map}
use Rattle.jmodel.specs.format.ClassFile.{Member, Pool, ClassFile}
use Rattle.jmodel.specs.declared.name.MethodName.{MethodName}
use Rattle.jmodel.specs.format.ClassRules.{IsTwoBytes, IsMember, IsMethod, IsClassFile}
use Rattle.jmodel.specs.format.Descriptor.{IsClassName, IsFieldDescriptor, IsMethodDescriptor}
use Rattle.objects.specs.linking.Classes.{declared_in, full_name}
use Rattle.objects.specs.linking.Taken.{is_taken}
use Rattle.objects.specs.linking.Members.{is_static, own_name}
use Rattle.jmodel.specs.format.Pool.{text_or_none, utf8, class_name}
use Rattle.objects.specs.semantics.Program.{Method, Program}
use Rattle.objects.specs.typing.Typing.{Table}
use Rattle.objects.specs.laws.LinkingLaw.{AreRead}
use Rattle.objects.specs.linking.Resolution.{is_private}
use Rattle.objects.specs.rewriting.Rewriting.{with_context, duplicate_name}
use Rattle.objects.proofs.Items.{IsAt, later, item, all_items, into_flat, into_map, of_filter}
use Rattle.objects.proofs.Links.{IsLinkedTo, method_from}
use Rattle.member_code.proofs.Grown.{Grown, the_some, the_and, utf8_grown, class_grown}
use Rattle.dup_methods.specs.Originals.{Original}
use Rattle.rewriter.specs.Part.{own_methods, part_of, share_of}
use Rattle.rewriter.specs.Rewritten.{original_of, originals}
use Rattle.rewriter.proofs.Owned.{taken_of}
use Rattle.rewritten_names.specs.Heads.{Head, head_of, heads, is_numbered, copy_of, accessor_heads, own_fields, IsAdded, Rewrites}
use Rattle.rewritten_names.proofs.Lists.{filter_map}
use Rattle.rewritten_names.proofs.Ordinary.{numbered_taken}
use Rattle.rewritten_program.specs.Keeps.{Keeps}
use Rattle.rewritten_program.proofs.Addresses.{IsAddedAt}
use Rattle.rewritten_program.proofs.Copying.{IsCopied, private_stays, static_stays}
use Rattle.rewritten_program.proofs.Wrapped.{IsSameNamed, AreSameNamed}
use Rattle.rewritten_program.proofs.Made.{IsRewriting, firsts}
use Rattle.rewritten_program.proofs.Placed.{IsPair, IsPlaced, pairs}

-- ---- heads over longer pools

-- a head by its parts
abbrev head_so : Bool → Bool → Option (List ℕ) → Option (List ℕ) → Head
head_so p s n d = record { private = p; static = s; name = n; descriptor = d }

module _ (a b : Pool) (G : Grown a b) where
  -- a text, a class's name, as they were
  text_same : (i : ℕ) → IsSome (utf8 a i) → utf8 b i ≡ utf8 a i
  text_same i h = let t = the_some (utf8 a i) h in utf8_grown a b G i t.0 t.1 ∙ sym t.1

  -- a class's name
  class_same : (i : ℕ) → IsSome (class_name a i) → class_name b i ≡ class_name a i
  class_same i h = let t = the_some (class_name a i) h in class_grown a b G i t.0 t.1 ∙ sym t.1

  -- a head
  head_same : (Fits : List ℕ → Type 0) (m : Member) → IsMember a Fits m → head_of b m ≡ head_of a m
  head_same Fits m h =
      let t = the_and (utf8 a m.descriptor) Fits h.typed in
      ap (λ (o : Option (List ℕ)). head_so (is_private m) (is_static m) o (utf8 b m.descriptor)) (text_same m.name h.named)
      ∙ ap (λ (o : Option (List ℕ)). head_so (is_private m) (is_static m) (utf8 a m.name) o) (utf8_grown a b G m.descriptor t.0 t.1 ∙ sym t.1)

  -- heads
  heads_same : (Fits : List ℕ → Type 0) (ms : List Member) → AllByRecursion (IsMember a Fits) ms → heads b ms ≡ heads a ms
  heads_same Fits [] h = refl
  heads_same Fits (m ∷ ms) h = ap (λ (x : Head). x ∷ heads b ms) (head_same Fits m h.0) ∙ ap (λ (l : List Head). head_of a m ∷ l) (heads_same Fits ms h.1)

  -- names of interfaces
  names_same : (is : List ℕ) → AllByRecursion (λ (i : ℕ). IsSome (class_name a i)) is → map (λ (i : ℕ). text_or_none (class_name b i)) is ≡ map (λ (i : ℕ). text_or_none (class_name a i)) is
  names_same [] h = refl
  names_same (i ∷ is) h =
      ap (λ (o : Option (List ℕ)). text_or_none o ∷ map (λ (i : ℕ). text_or_none (class_name b i)) is) (class_same i h.0)
      ∙ ap (λ (l : List (List ℕ)). text_or_none (class_name a i) ∷ l) (names_same is h.1)

-- what holds of each by what it implies
all_as : {A : Type 0} (Q R : A → Type 0) → ((x : A) → Q x → R x) → (xs : List A) → AllByRecursion Q xs → AllByRecursion R xs
all_as Q R f [] h = tt
all_as Q R f (x ∷ xs) h = (f x h.0, all_as Q R f xs h.1)

-- ---- old methods

module _ (P : Program) (c : ClassFile) (Z : Pool) where
  -- a method with the flags, the name and the descriptor of another
  named_head : (m x : Member) → IsSameNamed m x → head_of Z x ≡ head_of Z m
  named_head m x h =
      ap (λ (f : ℕ). head_of Z (record x { flags = f })) h.flags ∙ ap (λ (n : ℕ). head_of Z (record x { flags = m.flags; name = n })) h.name
      ∙ ap (λ (n : ℕ). head_of Z (record x { flags = m.flags; name = m.name; descriptor = n })) h.descriptor

  -- the same of several
  named_heads : (ms : List (Member × Bool)) (xs : List Member) → AreSameNamed P c ms xs → heads Z xs ≡ heads Z (map (λ (m : Member × Bool). m.0) ms)
  named_heads [] [] h = refl
  named_heads [] (x ∷ xs) h = absurd h
  named_heads (m ∷ ms) [] h = absurd h
  named_heads (m ∷ ms) (x ∷ xs) h =
      ap (λ (y : Head). y ∷ heads Z xs) (named_head m.0 x h.0) ∙ ap (λ (l : List Head). head_of Z m.0 ∷ l) (named_heads ms xs h.1)

-- ---- duplicates

-- a member with the name and the descriptor of a method
abbrev IsNamedAs : ClassFile → Member → Method → Type 0
IsNamedAs c m k = (utf8 c.pool m.name ≡ Some k.name.name) × (utf8 c.pool m.descriptor ≡ Some k.name.descriptor)

module _ (P : Program) (c : ClassFile) (Z : Pool) where
  -- a duplicate has the head of one
  copied_head : (k : Method) (m x : Member) (T : Table) → IsNamedAs c m k → IsCopied (original_of P c (k, m) T) Z x → head_of Z x ≡ copy_of (head_of c.pool m)
  copied_head k m x T n h =
      ap (λ (b : Bool). head_so b (is_static x) (utf8 Z x.name) (utf8 Z x.descriptor)) (private_stays (original_of P c (k, m) T) Z x h)
      ∙ ap (λ (b : Bool). head_so (is_private m) b (utf8 Z x.name) (utf8 Z x.descriptor)) (static_stays (original_of P c (k, m) T) Z x h)
      ∙ ap (λ (o : Option (List ℕ)). head_so (is_private m) (is_static m) o (utf8 Z x.descriptor)) (h.named ∙ ap (option_map duplicate_name) (sym n.0))
      ∙ ap (λ (o : Option (List ℕ)). head_so (is_private m) (is_static m) (option_map duplicate_name (utf8 c.pool m.name)) o) (h.typed ∙ ap (option_map with_context) (sym n.1))

  -- the same of several
  copied_heads : (ks : List Method) (ms : List Member) (Ts : List Table) (xs : List Member) → AllZip (IsNamedAs c) ms ks → AllZip (λ (O : Original) (m : Member). IsCopied O Z m) (originals P c (zip ks ms) Ts) xs
      → heads Z xs ≡ map copy_of (heads c.pool ms)
  copied_heads [] [] Ts [] n h = refl
  copied_heads [] [] Ts (x ∷ xs) n h = absurd h
  copied_heads [] (m ∷ ms) Ts xs n h = absurd n
  copied_heads (k ∷ ks) [] Ts xs n h = absurd n
  copied_heads (k ∷ ks) (m ∷ ms) [] [] n h = absurd h
  copied_heads (k ∷ ks) (m ∷ ms) [] (x ∷ xs) n h =
      ap (λ (y : Head). y ∷ heads Z xs) (copied_head k m x [] n.0 h.0) ∙ ap (λ (l : List Head). copy_of (head_of c.pool m) ∷ l) (copied_heads ks ms [] xs n.1 h.1)
  copied_heads (k ∷ ks) (m ∷ ms) (T ∷ Ts) [] n h = absurd h
  copied_heads (k ∷ ks) (m ∷ ms) (T ∷ Ts) (x ∷ xs) n h =
      ap (λ (y : Head). y ∷ heads Z xs) (copied_head k m x T n.0 h.0) ∙ ap (λ (l : List Head). copy_of (head_of c.pool m) ∷ l) (copied_heads ks ms Ts xs n.1 h.1)

-- ---- numbered methods

-- tests that agree leave the same
filter_same : {A : Type 0} (p q : A → Bool) (xs : List A) → AllByRecursion (λ x. p x ≡ q x) xs → filter p xs ≡ filter q xs
filter_same p q [] all = refl
filter_same {A} p q (x ∷ xs) all = ap (λ (b : Bool). cond b (x ∷ filter p xs) (filter p xs)) all.0 ∙ ap (λ (l : List A). cond (q x) (x ∷ l) l) (filter_same p q xs all.1)

-- what holds of pairs by what it implies
zipped_as : {A B : Type 0} (Q R : A → B → Type 0) (xs : List A) (ys : List B) → ((x : A) (y : B) → IsAt xs x → Q x y → R x y) → AllZip Q xs ys → AllZip R xs ys
zipped_as Q R [] [] f h = tt
zipped_as Q R [] (y ∷ ys) f h = absurd h
zipped_as Q R (x ∷ xs) [] f h = absurd h
zipped_as Q R (x ∷ xs) (y ∷ ys) f h = (f x y (0, refl) h.0, zipped_as Q R xs ys (λ a b at. f a b (later x xs a at)) h.1)

-- a text by what it is
text_of : (o : Option (List ℕ)) (t : List ℕ) → IsSome o → t ≡ text_or_none o → o ≡ Some t
text_of None t h e = cc
text_of (Some x) t h e = ap (λ (y : List ℕ). Some y) (sym e)

-- ---- a class

module _ (cs : List ClassFile) (P : Program) (read : AreRead cs) (l : IsLinkedTo cs P) where
  -- a method has the full name of its member
  pub pair_named : (c : ClassFile) (m : Member) (k : Method) → IsPair cs P c m k → k.name ≡ full_name (record { class = c; member = m })
  pair_named c m k p =
      let f = method_from cs P l p.number k p.is in
      let same : f.member ≡ record { class = c; member = m } = (let a = f.there in let b = p.taken in cc) in
      ap (λ (k : Method). k.name) f.meant.is ∙ ap full_name same

  module _ (c : ClassFile) (fields methods : ℕ) (p : IsPlaced cs P c fields methods) where
    -- the class keeps the rules of class files
    file : IsClassFile c
    file = item IsClassFile cs c read.files p.at

    -- a taken member keeps the rules of members
    pub member_of : (m : Member) → IsAt (taken_of cs c) m → IsMember c.pool IsMethodDescriptor m
    member_of m at = (item (IsMethod c.pool) c.methods m file.methods (of_filter (λ (m : Member). is_taken cs (record { class = c; member = m })) c.methods m at).0).member

    -- members have their methods' names
    named_pairs : AllZip (IsNamedAs c) (taken_of cs c) (own_methods P c)
    named_pairs =
        zipped_as (IsPair cs P c) (IsNamedAs c) (taken_of cs c) (own_methods P c)
        (λ m k at q. let n = pair_named c m k q in let M = member_of m at in let t = the_and (utf8 c.pool m.descriptor) IsMethodDescriptor M.typed in (
          text_of (utf8 c.pool m.name) k.name.name M.named (ap (λ (n : MethodName). n.name) n),
          text_of (utf8 c.pool m.descriptor) k.name.descriptor (subst IsSome (sym t.1) refl) (ap (λ (n : MethodName). n.descriptor) n),
        ))
        (pairs cs P read l c fields methods p)

    -- the heads of numbered methods are those of the taken ones
    numbered_heads : filter (is_numbered P (own_name c)) (heads c.pool c.methods) ≡ heads c.pool (taken_of cs c)
    numbered_heads =
        filter_map (head_of c.pool) (is_numbered P (own_name c)) c.methods
        ∙ ap (heads c.pool) (filter_same (λ (m : Member). is_numbered P (own_name c) (head_of c.pool m)) (λ (m : Member). is_taken cs (record { class = c; member = m })) c.methods
        (all_items (λ (m : Member). is_numbered P (own_name c) (head_of c.pool m) ≡ is_taken cs (record { class = c; member = m })) c.methods
        (λ m at. numbered_taken cs P read l (record { class = c; member = m }) (into_flat (λ (c : ClassFile). declared_in c c.methods) cs c (record { class = c; member = m }) p.at (into_map (λ (m : Member). record { class = c; member = m }) c.methods m at)))))

    module _ (d : ClassFile) (id : ℕ) (Ts : List Table) (R : IsRewriting P c d (share_of c (part_of cs P methods id c)) Ts) where
      -- the steps
      abbrev K : Keeps P c d (share_of c (part_of cs P methods id c)) Ts
      K = R.keeps

      -- the pool is longer
      G : Grown c.pool d.pool
      G = record { more = K.longer.0; is = K.longer.1 }

      -- as many flags as methods
      flags_long : length (map (λ (m : Member). is_taken cs (record { class = c; member = m })) c.methods) ≡ length c.methods
      flags_long = length-map c.methods (λ (m : Member). is_taken cs (record { class = c; member = m }))

      -- the old methods have their heads
      pub old_heads : heads d.pool K.olds ≡ heads c.pool c.methods
      old_heads =
          named_heads P c d.pool (zip c.methods (map (λ (m : Member). is_taken cs (record { class = c; member = m })) c.methods)) K.olds R.same
          ∙ ap (heads d.pool) (firsts c.methods (map (λ (m : Member). is_taken cs (record { class = c; member = m })) c.methods) flags_long)
          ∙ heads_same c.pool d.pool G IsMethodDescriptor c.methods (all_as (IsMethod c.pool) (IsMember c.pool IsMethodDescriptor) (λ m h. h.member) c.methods file.methods)

      -- duplicates have heads of duplicates
      pub copy_heads : heads d.pool K.copies ≡ map copy_of (filter (is_numbered P (own_name c)) (heads c.pool c.methods))
      copy_heads = copied_heads P c d.pool (own_methods P c) (taken_of cs c) Ts K.copies named_pairs R.copied ∙ ap (map copy_of) (sym numbered_heads)

      -- all methods
      method_heads : heads d.pool d.methods ≡ heads c.pool c.methods ++ (accessor_heads (own_fields P c) ++ map copy_of (filter (is_numbered P (own_name c)) (heads c.pool c.methods)))
      method_heads =
          ap (heads d.pool) K.methods ∙ map-append (head_of d.pool) K.olds (K.accessors ++ K.copies)
          ∙ ap (λ (x : List Head). x ++ heads d.pool (K.accessors ++ K.copies)) old_heads
          ∙ ap (λ (x : List Head). heads c.pool c.methods ++ x) (
          map-append (head_of d.pool) K.accessors K.copies ∙ ap (λ (x : List Head). x ++ heads d.pool K.copies) R.accessors
          ∙ ap (λ (x : List Head). accessor_heads (own_fields P c) ++ x) copy_heads)

      -- all fields
      field_heads : heads d.pool d.fields ≡ heads c.pool c.fields ++ heads d.pool R.added
      field_heads =
          ap (heads d.pool) R.fields ∙ map-append (head_of d.pool) c.fields R.added
          ∙ ap (λ (x : List Head). x ++ heads d.pool R.added) (heads_same c.pool d.pool G IsFieldDescriptor c.fields file.fields)

      -- added fields have reserved names
      reserved_all : (ms : List Member) → AllByRecursion (IsAddedAt d.pool) ms → AllByRecursion IsAdded (heads d.pool ms)
      reserved_all [] h = tt
      reserved_all (m ∷ ms) h = (h.0, reserved_all ms h.1)

      -- a class's name by its index
      named_so : (x y : ℕ) → x ≡ y → IsSome (class_name c.pool y) → text_or_none (class_name d.pool x) ≡ text_or_none (class_name c.pool y)
      named_so x y e h = ap (λ (n : ℕ). text_or_none (class_name d.pool n)) e ∙ ap text_or_none (class_same c.pool d.pool G y h)

      -- the class is rewritten
      pub rewrites : Rewrites P c d
      rewrites =
          record {
            own = (let t = the_and (class_name c.pool c.this_class) IsClassName file.this_name in named_so d.this_class c.this_class K.this_class (subst IsSome (sym t.1) refl));
            above = named_so d.super_class c.super_class K.super_class file.super_name;
            interfaces = ap (map (λ (i : ℕ). text_or_none (class_name d.pool i))) K.interfaces
                ∙ names_same c.pool d.pool G c.interfaces (all_as (λ (i : ℕ). IsTwoBytes i × IsSome (class_name c.pool i)) (λ (i : ℕ). IsSome (class_name c.pool i)) (λ i h. h.1) c.interfaces file.interfaces);
            flags = K.flags;
            added = heads d.pool R.added;
            fields = field_heads;
            reserved = reserved_all R.added R.reserved;
            methods = method_heads;
          }
