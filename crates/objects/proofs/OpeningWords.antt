-- The words before the first call: the objects of static fields one after another, and then those of string constants.
use Rattle.std.proofs.Common.{◌≡◌, ◌⊎◌, inl, inr, ℕ, zero, suc, ◌+◌, ◌-◌, ◌<◌, ◌≤◌, List, [], ◌∷◌, ◌++◌, length, map, Bool, true, false, nat_eq, nat_lt, nat_le, Option, Some, None, refl, sym, ap, subst, ◌∙◌, arith, slice_index}
use Rattle.std.specs.Prelude.{if◌then◌else◌, ◌&&◌}
use Rattle.std.proofs.lemmas.Bool.Decides.{nat_tests}
use Rattle.std.proofs.lemmas.List.{length-map}
use Rattle.jmodel.specs.format.ClassFile.{ClassFile}
use Rattle.jmodel.specs.history.History.{Words}
use Rattle.jmodel.specs.declared.value.Value.{Value}
use Rattle.objects.specs.linking.Members.{statics}
use Rattle.objects.specs.linking.StaticBases.{has_base, base_words, base_of, bases_end, at_address}
use Rattle.objects.proofs.StaticBases.{IsRest, all_rest, next_rest, base_after, base_last, base_below, words_with}
use Rattle.objects.specs.semantics.Value.{word_of}
use Rattle.objects.specs.semantics.State.{Object, State, header}
use Rattle.objects.specs.linking.Layout.{statics_object, text_object, texts_of, base_at, text_at, either, fixed_words, opening_state, object_image, base_images, opening_words}
use Rattle.objects.specs.history.Meaning.{AreLaid, IsLaid}

read_behind : (xs ys : List ℕ) (i : ℕ) → slice_index (xs ++ ys) (length xs + i) ≡ slice_index ys i
read_behind [] ys i = let e : 0 + i ≡ i = omega arith in ap (slice_index ys) e
read_behind (x ∷ xs) ys i = let e : length (x ∷ xs) + i ≡ suc (length xs + i) = omega arith in ap (slice_index (x ∷ (xs ++ ys))) e ∙ read_behind xs ys i

read_front : (xs ys : List ℕ) (i : ℕ) → i < length xs → slice_index (xs ++ ys) i ≡ slice_index xs i
read_front [] ys i h = absurd (omega (arith, h))
read_front (x ∷ xs) ys zero h = refl
read_front (x ∷ xs) ys (suc i) h = read_front xs ys i (omega (arith, h))

-- values lie where the words are theirs
values_laid : (words : Words) (a : ℕ) (vs : List Value) → ((i : ℕ) → i < length vs → words (a + i) ≡ slice_index (map word_of vs) i) → AreLaid words a vs
values_laid words a [] h = tt
values_laid words a (v ∷ vs) h =
    let here : a ≡ a + 0 = omega arith in
    let first : 0 < length (v ∷ vs) = omega arith in (
      ap words here ∙ h 0 first,
      values_laid words (a + 1) vs (λ i less. let next : a + 1 + i ≡ a + suc i = omega arith in let more : suc i < length (v ∷ vs) = omega (arith, less) in ap words next ∙ h (suc i) more),
    )

both : (a b : Bool) → (a && b) ≡ true → (a ≡ true) × (b ≡ true)
both true b e = (refl, e)
both false b e = cc

module _ (cs : List ClassFile) where
  abbrev pub memory : Words
  memory = at_address (opening_words cs)

  abbrev pub state : State
  state = opening_state cs

  abbrev text_words : List ℕ
  text_words = map (λ (t : List ℕ). header text_object) (texts_of cs)

  abbrev image : ℕ → ClassFile → List ℕ
  image n d = if has_base d then object_image (statics_object cs n d) else []

  many : (n : ℕ) (d : ClassFile) → length (statics_object cs n d).values ≡ length (statics d)
  many n d = length-map _ _

  image_with : (n : ℕ) (d : ClassFile) → has_base d ≡ true → image n d ≡ object_image (statics_object cs n d)
  image_with n d h = rw h refl

  image_long : (n : ℕ) (d : ClassFile) → length (image n d) ≡ base_words d
  image_long n d = go (has_base d)
    where
      go : (b : Bool) → length (if b then object_image (statics_object cs n d) else []) ≡ (if b then length (statics d) + 1 else 0)
      go true = let words : length (map word_of (statics_object cs n d).values) ≡ length (statics_object cs n d).values = length-map _ _ in omega (arith, words, many n d)
      go false = refl

  -- from a base on memory has the images of that class and those behind it, and then the texts
  abbrev Lies : ℕ → List ClassFile → Type 0
  Lies n ds = (i : ℕ) → memory (base_of cs n + i) ≡ slice_index (base_images cs n ds ++ text_words) i

  lies_first : Lies 0 cs
  lies_first i = let at : base_of cs 0 + i ≡ suc (suc i) = omega arith in ap memory at

  split : (xs ys zs : List ℕ) → (xs ++ ys) ++ zs ≡ xs ++ (ys ++ zs)
  split [] ys zs = refl
  split (x ∷ xs) ys zs = ap (λ (l : List ℕ). x ∷ l) (split xs ys zs)

  lies_next : (n : ℕ) (d : ClassFile) (ds : List ClassFile) → IsRest cs n (d ∷ ds) → Lies n (d ∷ ds) → Lies (suc n) ds
  lies_next n d ds r h i =
      let at : base_of cs (suc n) + i ≡ base_of cs n + (length (image n d) + i) = omega (arith, base_after cs n d ds r, image_long n d) in
      ap memory at ∙ h (length (image n d) + i) ∙ ap (λ l. slice_index l (length (image n d) + i)) (split (image n d) (base_images cs (suc n) ds) text_words)
      ∙ read_behind (image n d) (base_images cs (suc n) ds ++ text_words) i

  lies_here : (n : ℕ) (d : ClassFile) (ds : List ClassFile) → Lies n (d ∷ ds) → (i : ℕ) → i < base_words d → memory (base_of cs n + i) ≡ slice_index (image n d) i
  lies_here n d ds h i less =
      h i ∙ ap (λ l. slice_index l i) (split (image n d) (base_images cs (suc n) ds) text_words) ∙ read_front (image n d) (base_images cs (suc n) ds ++ text_words) i (omega (arith, image_long n d, less))

  texts_lie_from : (n : ℕ) (ds : List ClassFile) → IsRest cs n ds → Lies n ds → (i : ℕ) → memory (bases_end cs + i) ≡ slice_index text_words i
  texts_lie_from n [] rest h i = let at : bases_end cs + i ≡ base_of cs n + i = omega (arith, base_last cs n rest) in ap memory at ∙ h i
  texts_lie_from n (d ∷ ds) rest h i = texts_lie_from (suc n) ds (next_rest cs n d ds rest) (lies_next n d ds rest h) i

  -- behind the bases lie the texts
  pub texts_lie : (i : ℕ) → memory (bases_end cs + i) ≡ slice_index text_words i
  texts_lie = texts_lie_from 0 cs (all_rest cs) lies_first

  text_word : (ts : List (List ℕ)) (i : ℕ) → i < length ts → slice_index (map (λ (t : List ℕ). header text_object) ts) i ≡ header text_object
  text_word [] i less = absurd (omega (arith, less))
  text_word (t ∷ ts) zero less = refl
  text_word (t ∷ ts) (suc i) less = text_word ts i (omega (arith, less))

  no_word : (ts : List (List ℕ)) (i : ℕ) → length ts ≤ i → slice_index (map (λ (t : List ℕ). header text_object) ts) i ≡ 0
  no_word [] i less = refl
  no_word (t ∷ ts) zero less = absurd (omega (arith, less))
  no_word (t ∷ ts) (suc i) less = no_word ts i (omega (arith, less))

  -- behind all of them memory has no words
  pub free_behind : (a : ℕ) → fixed_words cs ≤ a → memory a ≡ 0
  free_behind a less =
      let at : a ≡ bases_end cs + (a - bases_end cs) = omega (arith, less) in
      ap memory at ∙ texts_lie (a - bases_end cs) ∙ no_word (texts_of cs) (a - bases_end cs) (omega (arith, less))

  -- ---- objects of static fields

  -- an object of these classes, and where it lies
  pub record Known (n : ℕ) (ds : List ClassFile) (r : ℕ) (o : Object) : Type 0 where
    pub number : ℕ
    pub class : ClassFile
    pub behind : List ClassFile
    pub rest : IsRest cs number (class ∷ behind)
    pub some : has_base class ≡ true
    pub is_at : r ≡ base_of cs number
    pub is : o ≡ statics_object cs number class
    pub from : base_of cs n ≤ r
    pub to : r + length (statics class) + 1 ≤ bases_end cs
    pub words : (i : ℕ) → i < base_words class → memory (r + i) ≡ slice_index (image number class) i

  lower : (n m : ℕ) (ds es : List ClassFile) (r : ℕ) (o : Object) → base_of cs n ≤ base_of cs m → Known m es r o → Known n ds r o
  lower n m ds es r o h k =
      record { number = k.number; class = k.class; behind = k.behind; rest = k.rest; some = k.some; is_at = k.is_at; is = k.is; from = omega (arith, h, k.from); to = k.to; words = k.words }

  known : (n : ℕ) (ds : List ClassFile) → IsRest cs n ds → Lies n ds → (r : ℕ) (o : Object) → base_at cs n ds r ≡ Some o → Known n ds r o
  known n [] rest h r o e = cc
  known n (d ∷ ds) rest h r o e = go (has_base d && nat_eq r (base_of cs n)) refl e (λ f. known (suc n) ds (next_rest cs n d ds rest) (lies_next n d ds rest h) r o f)
    where
      go : (b : Bool) → (has_base d && nat_eq r (base_of cs n)) ≡ b → (if b then Some (statics_object cs n d) else base_at cs (suc n) ds r) ≡ Some o → (base_at cs (suc n) ds r ≡ Some o → Known (suc n) ds r o) → Known n (d ∷ ds) r o
      go true t f more =
          let p = both (has_base d) (nat_eq r (base_of cs n)) t in
          let some : has_base d ≡ true = p.0 in
          let place : r ≡ base_of cs n = let q = p.1 in grind (arith, nat_tests) in
          let end = base_below cs (suc n) ds (next_rest cs n d ds rest) in
          record {
            number = n;
            class = d;
            behind = ds;
            rest = rest;
            some = some;
            is_at = place;
            is = cc;
            from = omega (arith, place);
            to = omega (arith, place, end, base_after cs n d ds rest, words_with d some);
            words = λ i less. let at : r + i ≡ base_of cs n + i = omega (arith, place) in ap memory at ∙ lies_here n d ds h i less;
          }
      go false t f more = let up : base_of cs n ≤ base_of cs (suc n) = omega (arith, base_after cs n d ds rest) in lower n (suc n) (d ∷ ds) ds r o up (more f)

  pub known_all : (r : ℕ) (o : Object) → base_at cs 0 cs r ≡ Some o → Known 0 cs r o
  known_all r o e = known 0 cs (all_rest cs) lies_first r o e

  -- from a base on the objects of static fields are those of that class and those behind it
  abbrev pub Sees : ℕ → List ClassFile → Type 0
  Sees n ds = (r : ℕ) → base_of cs n ≤ r → base_at cs 0 cs r ≡ base_at cs n ds r

  pub sees_next : (n : ℕ) (d : ClassFile) (ds : List ClassFile) → IsRest cs n (d ∷ ds) → Sees n (d ∷ ds) → Sees (suc n) ds
  sees_next n d ds rest h r less = h r (omega (arith, less, base_after cs n d ds rest)) ∙ go (has_base d && nat_eq r (base_of cs n)) refl
    where
      go : (b : Bool) → (has_base d && nat_eq r (base_of cs n)) ≡ b → (if b then Some (statics_object cs n d) else base_at cs (suc n) ds r) ≡ base_at cs (suc n) ds r
      go true t =
          let p = both (has_base d) (nat_eq r (base_of cs n)) t in
          let place : r ≡ base_of cs n = let q = p.1 in grind (arith, nat_tests) in
          absurd (omega (arith, place, less, base_after cs n d ds rest, words_with d p.0))
      go false t = refl

  -- the object of each class with static fields is there
  pub seen_here : (n : ℕ) (d : ClassFile) (ds : List ClassFile) → Sees n (d ∷ ds) → has_base d ≡ true → state.objects (base_of cs n) ≡ Some (statics_object cs n d)
  seen_here n d ds h some =
      let own : nat_eq (base_of cs n) (base_of cs n) ≡ true = grind (arith, nat_tests) in
      let here : (has_base d && nat_eq (base_of cs n) (base_of cs n)) ≡ true = rw (some, own) refl in
      ap (λ (o : Option Object). either o (text_at cs (base_of cs n)))
      (h (base_of cs n) (omega arith) ∙ ap (λ b. if b then Some (statics_object cs n d) else base_at cs (suc n) ds (base_of cs n)) here)

  -- ---- texts

  pub record IsText (r : ℕ) (o : Object) : Type 0 where
    pub is : o ≡ text_object
    pub from : bases_end cs ≤ r
    pub to : r < fixed_words cs

  pub text_known : (r : ℕ) (o : Object) → text_at cs r ≡ Some o → IsText r o
  text_known r o e = go (nat_le (bases_end cs) r && nat_lt r (fixed_words cs)) refl e
    where
      go : (b : Bool) → (nat_le (bases_end cs) r && nat_lt r (fixed_words cs)) ≡ b → (if b then Some text_object else None) ≡ Some o → IsText r o
      go true t f =
          let p = both (nat_le (bases_end cs) r) (nat_lt r (fixed_words cs)) t in
          record { is = cc; from = (let q = p.0 in grind (arith, nat_tests)); to = (let q = p.1 in grind (arith, nat_tests)) }
      go false t f = cc

  -- an object of the state is one or the other
  pub object_known : (r : ℕ) (o : Object) → state.objects r ≡ Some o → Known 0 cs r o ⊎ IsText r o
  object_known r o e = go (base_at cs 0 cs r) refl e
    where
      go : (b : Option Object) → base_at cs 0 cs r ≡ b → either b (text_at cs r) ≡ Some o → Known 0 cs r o ⊎ IsText r o
      go (Some p) f g = inl (known_all r o (f ∙ g))
      go None f g = inr (text_known r o g)

  -- ---- they lie in memory

  pub laid : (r : ℕ) (o : Object) → state.objects r ≡ Some o → IsLaid memory r o
  laid r o e = elim (object_known r o e) [ inl k ↦ base k | inr t ↦ text t ]
    where
      base : Known 0 cs r o → IsLaid memory r o
      base k =
          let long = words_with k.class k.some in
          let with_image = image_with k.number k.class k.some in
          let first : memory (r + 0) ≡ header (statics_object cs k.number k.class) = k.words 0 (omega (arith, long)) ∙ ap (λ (l : List ℕ). slice_index l 0) with_image in
          let here : r ≡ r + 0 = omega arith in
          let others = values_laid memory (r + 1) (statics_object cs k.number k.class).values
          (λ i less. let next : r + 1 + i ≡ r + suc i = omega arith in let some = many k.number k.class in
          ap memory next ∙ k.words (suc i) (omega (arith, long, less, some)) ∙ ap (λ (l : List ℕ). slice_index l (suc i)) with_image) in
          subst (IsLaid memory r) (sym k.is) (record { header_lies = ap memory here ∙ first; values_lie = others })

      text : IsText r o → IsLaid memory r o
      text t =
          let from = t.from in
          let to = t.to in
          let at : r ≡ bases_end cs + (r - bases_end cs) = omega (arith, from) in
          let word : memory r ≡ header text_object = ap memory at ∙ texts_lie (r - bases_end cs) ∙ text_word (texts_of cs) (r - bases_end cs) (omega (arith, from, to)) in
          subst (IsLaid memory r) (sym t.is) (record { header_lies = word; values_lie = tt })

  -- ---- and apart

  apart_from : (n : ℕ) (ds : List ClassFile) → IsRest cs n ds → Lies n ds → (r q : ℕ) (o p : Object) → base_at cs n ds r ≡ Some o → base_at cs n ds q ≡ Some p → r < q → r + length o.values < q
  apart_from n [] rest h r q o p e f less = cc
  apart_from n (d ∷ ds) rest h r q o p e f less =
      go (has_base d && nat_eq r (base_of cs n)) (has_base d && nat_eq q (base_of cs n)) refl refl e f
      (λ e f. apart_from (suc n) ds (next_rest cs n d ds rest) (lies_next n d ds rest h) r q o p e f less)
      (λ x v g. (known (suc n) ds (next_rest cs n d ds rest) (lies_next n d ds rest h) x v g).from)
    where
      at : (x : ℕ) → (has_base d && nat_eq x (base_of cs n)) ≡ true → (has_base d ≡ true) × (x ≡ base_of cs n)
      at x t = let p = both (has_base d) (nat_eq x (base_of cs n)) t in (p.0, (let q = p.1 in grind (arith, nat_tests)))

      go : (s t : Bool) → (has_base d && nat_eq r (base_of cs n)) ≡ s → (has_base d && nat_eq q (base_of cs n)) ≡ t
          → (if s then Some (statics_object cs n d) else base_at cs (suc n) ds r) ≡ Some o → (if t then Some (statics_object cs n d) else base_at cs (suc n) ds q) ≡ Some p
          → (base_at cs (suc n) ds r ≡ Some o → base_at cs (suc n) ds q ≡ Some p → r + length o.values < q) → ((x : ℕ) (v : Object) → base_at cs (suc n) ds x ≡ Some v → base_of cs (suc n) ≤ x)
          → r + length o.values < q
      go true true s t e f more above = let a = (at r s).1 in let b = (at q t).1 in absurd (omega (arith, a, b, less))
      go true false s t e f more above =
          let a = at r s in
          let place = a.1 in
          let is : o ≡ statics_object cs n d = cc in
          let long : length o.values ≡ length (statics d) = ap (λ (x : Object). length x.values) is ∙ many n d in
          omega (arith, place, long, above q p f, base_after cs n d ds rest, words_with d a.0)
      go false true s t e f more above = let b = (at q t).1 in absurd (omega (arith, b, less, above r o e, base_after cs n d ds rest))
      go false false s t e f more above = more e f

  pub apart : (r q : ℕ) (o p : Object) → state.objects r ≡ Some o → state.objects q ≡ Some p → r < q → r + length o.values < q
  apart r q o p e f less = go (base_at cs 0 cs r) refl (base_at cs 0 cs q) refl e f
    where
      go : (a : Option Object) → base_at cs 0 cs r ≡ a → (b : Option Object) → base_at cs 0 cs q ≡ b → either a (text_at cs r) ≡ Some o → either b (text_at cs q) ≡ Some p → r + length o.values < q
      go (Some x) a (Some y) b e f = apart_from 0 cs (all_rest cs) lies_first r q o p (a ∙ e) (b ∙ f) less
      go (Some x) a None b e f =
          let k = known_all r o (a ∙ e) in
          let t = text_known q p f in
          let long : length o.values ≡ length (statics k.class) = ap (λ (x : Object). length x.values) k.is ∙ many k.number k.class in
          let end = k.to in
          let start = t.from in
          omega (arith, long, end, start)
      go None a (Some y) b e f =
          let t = text_known r o e in
          let k = known_all q p (b ∙ f) in
          let start = t.from in
          let end = k.to in
          absurd (omega (arith, start, end, less))
      go None a None b e f =
          let t = text_known r o e in
          let long : length o.values ≡ 0 = ap (λ (x : Object). length x.values) t.is in
          omega (arith, long, less)
