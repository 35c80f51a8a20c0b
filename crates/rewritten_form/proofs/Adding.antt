-- A pool that keeps the rules keeps them when lawful entries are added.
use Rattle.std.proofs.Common.{◌≡◌, ◌⊎◌, inl, inr, ℕ, ℤ, suc, ◌+◌, ◌<◌, ◌≤◌, Bool, true, false, List, [], ◌∷◌, ◌++◌, length, Option, Some, None, Result, Ok, refl, sym, ◌∙◌, subst, arith}
use Rattle.std.specs.Prelude.{nat_lt, position, IsSome, IsSomeAnd, FitsSigned, if◌then◌else◌}
use Rattle.std.specs.Int.{w32, w64}
use Rattle.std.specs.List.{AllByRecursion}
use Rattle.std.proofs.lemmas.Bool.Decides.{nat_tests}
use Rattle.std.proofs.lemmas.List.{length-append}
use Rattle.jmodel.specs.declared.class_file.Constant.{Constant}
use Rattle.jmodel.specs.declared.class_file.Constant.TheVariants as constants
use Rattle.jmodel.specs.declared.refusal.Refusal.{Refusal}
use Rattle.jmodel.specs.declared.refusal.Refusal.TheVariants.{PoolFull}
use Rattle.jmodel.specs.format.ClassFile.{Pool}
use Rattle.jmodel.specs.format.Pool.{utf8, class_name, pair}
use Rattle.jmodel.specs.format.Descriptor.{is_array_name, IsFieldDescriptor, IsMethodDescriptor}
use Rattle.jmodel.specs.format.ClassRules.{IsTextByte, IsNameOf, IsFieldPair, IsMethodPair, IsConstant, is_wide, is_second, ArePlaced, IsPool}
use Rattle.jmodel.specs.format.Reading.{◌>>=◌}
use Rattle.jmodel.specs.format.PoolAdding.{full, put, first_or, means_text, means_class, means_pair, field_parts, method_parts, interface_method_parts, means_member, means_integer, means_long, add_text, add_integer, add_long, add_class, new_class, add_pair, new_pair, new_member, add_field, add_method, add_interface_method}
use Rattle.const_pool.proofs.Takes.{bind_ok, guard_ok, ok_is, fine}
use Rattle.member_code.specs.Growing.{Growth, grow_from}
use Rattle.member_code.proofs.Grown.{Grown, utf8_grown, class_grown, pair_grown}
use Rattle.member_code.proofs.Added.{text_added, class_added, pair_added}

-- ---- an entry when the pool grows

-- a value that stays keeps what holds of it
and_later : {X : Type 0} (o p : Option X) (Q : X → Type 0) → ((x : X) → o ≡ Some x → p ≡ Some x) → IsSomeAnd o Q → IsSomeAnd p Q
and_later None p Q same h = absurd h
and_later (Some x) p Q same h = let e = same x refl in rw e h

-- what is there stays there
is_later : {X : Type 0} (o p : Option X) → ((x : X) → o ≡ Some x → p ≡ Some x) → IsSome o → IsSome p
is_later None p same h = absurd cc
is_later (Some x) p same h = let e = same x refl in rw e refl

module _ (a b : Pool) (g : Grown a b) where
  text_later : (n : ℕ) (Q : List ℕ → Type 0) → IsSomeAnd (utf8 a n) Q → IsSomeAnd (utf8 b n) Q
  text_later n Q h = and_later (utf8 a n) (utf8 b n) Q (utf8_grown a b g n) h

  some_text : (n : ℕ) → IsSome (utf8 a n) → IsSome (utf8 b n)
  some_text n h = is_later (utf8 a n) (utf8 b n) (utf8_grown a b g n) h

  some_class : (k : ℕ) → IsSome (class_name a k) → IsSome (class_name b k)
  some_class k h = is_later (class_name a k) (class_name b k) (class_grown a b g k) h

  pair_later : (n : ℕ) (Q : List ℕ × List ℕ → Type 0) → IsSomeAnd (pair a n) Q → IsSomeAnd (pair b n) Q
  pair_later n Q h = and_later (pair a n) (pair b n) Q (pair_grown a b g n) h

  -- a lawful entry stays lawful
  constant_later : (c : Constant) → IsConstant a c → IsConstant b c
  constant_later (constants.Utf8 bytes) h = h
  constant_later (constants.Integer n) h = h
  constant_later (constants.Float bits) h = h
  constant_later (constants.Long n) h = h
  constant_later (constants.Double bits) h = h
  constant_later (constants.Class n) h = (h.0, text_later n (λ t. IsNameOf (is_array_name t) t) h.1)
  constant_later (constants.Text n) h = (h.0, some_text n h.1)
  constant_later (constants.Field k n) h = (h.0, h.1, some_class k h.2, pair_later n IsFieldPair h.3)
  constant_later (constants.Method k n) h = (h.0, h.1, some_class k h.2, pair_later n IsMethodPair h.3)
  constant_later (constants.InterfaceMethod k n) h = (h.0, h.1, some_class k h.2, pair_later n IsMethodPair h.3)
  constant_later (constants.NameAndType n d) h = (h.0, h.1, some_text n h.2, text_later d (λ t. IsFieldDescriptor t ⊎ IsMethodDescriptor t) h.3)
  constant_later constants.Second h = tt

  -- entries, and more behind them
  entries_later : (xs ys : Pool) → AllByRecursion (IsConstant a) xs → AllByRecursion (IsConstant b) ys → AllByRecursion (IsConstant b) (xs ++ ys)
  entries_later [] ys h k = k
  entries_later (x ∷ xs) ys h k = (constant_later x h.0, entries_later xs ys h.1 k)

-- ---- places behind the end

-- an entry of one place behind the others
placed_one : (due : Bool) (xs : Pool) (c : Constant) → ArePlaced due xs → is_second c ≡ false → is_wide c ≡ false → ArePlaced due (xs ++ c ∷ [])
placed_one due [] c h s w = (s ∙ sym h, w)
placed_one due (x ∷ xs) c h s w = (h.0, placed_one (is_wide x) xs c h.1 s w)

-- an entry of two places behind the others
placed_wide : (due : Bool) (xs : Pool) (c : Constant) → ArePlaced due xs → is_second c ≡ false → is_wide c ≡ true → ArePlaced due (xs ++ c ∷ constants.Second ∷ [])
placed_wide due [] c h s w = (s ∙ sym h, (sym w, refl))
placed_wide due (x ∷ xs) c h s w = (h.0, placed_wide (is_wide x) xs c h.1 s w)

-- ---- what is put

-- the pool of an answer
pub pool_is : {X : Type 0} (y : X) (Z : Pool) (r : X × Pool) → fine (y, Z) ≡ fine r → IsPool Z → IsPool r.1
pool_is {X} y Z r e p = subst (λ (x : X × Pool). IsPool x.1) (ok_is (y, Z) r e) p

-- entries that are put, and the pool with them
put_grown : (pool cs : Pool) (r : ℕ × Pool) → put pool cs ≡ Ok r → (length pool + length cs < 65535) × (fine (suc (length pool), pool ++ cs) ≡ fine r)
put_grown pool cs r e =
    let b = guard_ok (nat_lt 65534 (length pool + length cs)) (PoolFull []) (Ok (suc (length pool), pool ++ cs)) r e in
    let t = b.0 in
    (grind (arith, nat_tests), b.1)

abbrev with_one : Pool → Constant → Pool
with_one pool c = pool ++ c ∷ []

-- a lawful entry of one place is put
put_pool : (c : Constant) (pool : Pool) (r : ℕ × Pool) → is_second c ≡ false → is_wide c ≡ false → IsConstant pool c → put pool (c ∷ []) ≡ Ok r → IsPool pool → IsPool r.1
put_pool c pool r s w k e p =
    let b = put_grown pool (c ∷ []) r e in
    let small = b.0 in
    let g : Grown pool (pool ++ c ∷ []) = record { more = c ∷ []; is = refl } in
    pool_is (suc (length pool)) (pool ++ c ∷ []) r b.1 (record {
      few = omega (arith, length-append pool (c ∷ []), small);
      placed = placed_one false pool c p.placed s w;
      entries = entries_later pool (pool ++ c ∷ []) g pool (c ∷ []) p.entries (constant_later pool (pool ++ c ∷ []) g c k, tt);
    })

-- a lawful entry of two places is put
put_wide_pool : (c : Constant) (pool : Pool) (r : ℕ × Pool) → is_second c ≡ false → is_wide c ≡ true → IsConstant pool c → put pool (c ∷ constants.Second ∷ []) ≡ Ok r → IsPool pool → IsPool r.1
put_wide_pool c pool r s w k e p =
    let b = put_grown pool (c ∷ constants.Second ∷ []) r e in
    let small = b.0 in
    let g : Grown pool (pool ++ c ∷ constants.Second ∷ []) = record { more = c ∷ constants.Second ∷ []; is = refl } in
    pool_is (suc (length pool)) (pool ++ c ∷ constants.Second ∷ []) r b.1 (record {
      few = omega (arith, length-append pool (c ∷ constants.Second ∷ []), small);
      placed = placed_wide false pool c p.placed s w;
      entries = entries_later pool (pool ++ c ∷ constants.Second ∷ []) g pool (c ∷ constants.Second ∷ []) p.entries (constant_later pool (pool ++ c ∷ constants.Second ∷ []) g c k, (tt, tt));
    })

-- an entry that was found, or new ones
either_pool : (o : Option ℕ) (pool : Pool) (new : Result (ℕ × Pool) Refusal) (r : ℕ × Pool) → (new ≡ Ok r → IsPool r.1) → first_or pool o new ≡ Ok r → IsPool pool → IsPool r.1
either_pool None pool new r f e p = f e
either_pool (Some i) pool new r f e p = pool_is (suc i) pool r e p

-- ---- what is added

-- no byte of a text is 0 or above 239
abbrev pub IsText : List ℕ → Type 0
IsText text = AllByRecursion IsTextByte text

-- what keeps the rules of a pool
abbrev pub Keeping : {X : Type 0} → (Pool → Growth X) → Type 0
Keeping {X} add = (pool : Pool) (r : X × Pool) → add pool ≡ Ok r → IsPool pool → IsPool r.1

-- a text is added
pub text_pool : (text : List ℕ) → IsText text → Keeping (λ pool. add_text pool text)
unfolding add_text
text_pool text fits pool r e p = either_pool (position (means_text text) pool) pool _ r new e p
  where
    new : (if nat_lt 65535 (length text) then full else put pool (constants.Utf8 text ∷ [])) ≡ Ok r → IsPool r.1
    new h =
        let b = guard_ok (nat_lt 65535 (length text)) (PoolFull []) (put pool (constants.Utf8 text ∷ [])) r h in
        let t = b.0 in
        let short : length text ≤ 65535 = grind (arith, nat_tests) in
        put_pool (constants.Utf8 text) pool r refl refl (omega (arith, short), fits) b.1 p

-- an int is added
pub integer_pool : (n : ℤ) → FitsSigned w32 n → Keeping (λ pool. add_integer pool n)
unfolding add_integer
integer_pool n fits pool r e p = either_pool (position (means_integer n) pool) pool _ r (λ h. put_pool (constants.Integer n) pool r refl refl fits h p) e p

-- a long is added
pub long_pool : (n : ℤ) → FitsSigned w64 n → Keeping (λ pool. add_long pool n)
unfolding add_long
long_pool n fits pool r e p = either_pool (position (means_long n) pool) pool _ r (λ h. put_wide_pool (constants.Long n) pool r refl refl fits h p) e p

-- a text that may be the name of a Class
pub record IsClassText (name : List ℕ) : Type 0 where
  pub text : IsText name
  pub named : IsNameOf (is_array_name name) name

-- a class is added
pub class_pool : (name : List ℕ) → IsClassText name → Keeping (λ pool. add_class pool name)
unfolding add_class new_class
class_pool name fits pool r e p = either_pool (position (means_class pool name) pool) pool _ r new e p
  where
    new : (add_text pool name >>= λ text. put text.1 (constants.Class text.0 ∷ [])) ≡ Ok r → IsPool r.1
    new h =
        let a = bind_ok (add_text pool name) (λ text. put text.1 (constants.Class text.0 ∷ [])) r h in
        let t = text_added name pool a.0 p.few a.1 in
        let says = t.means in
        put_pool (constants.Class a.0.0) a.0.1 r refl refl (omega (arith, t.few), rw says fits.named) a.2 (text_pool name fits.text pool a.0 a.1 p)

-- a text that may be the descriptor of a NameAndType
pub record IsTypeText (descriptor : List ℕ) : Type 0 where
  pub text : IsText descriptor
  pub typed : IsFieldDescriptor descriptor ⊎ IsMethodDescriptor descriptor

-- a name and a descriptor are added
pub pair_pool : (name descriptor : List ℕ) → IsText name → IsTypeText descriptor → Keeping (λ pool. add_pair pool name descriptor)
unfolding add_pair new_pair
pair_pool name descriptor named typed pool r e p = either_pool (position (means_pair pool name descriptor) pool) pool _ r new e p
  where
    new : (add_text pool name >>= λ first. add_text first.1 descriptor >>= λ second. put second.1 (constants.NameAndType first.0 second.0 ∷ [])) ≡ Ok r → IsPool r.1
    new h =
        let a = bind_ok (add_text pool name) (λ first. add_text first.1 descriptor >>= λ second. put second.1 (constants.NameAndType first.0 second.0 ∷ [])) r h in
        let b = bind_ok (add_text a.0.1 descriptor) (λ second. put second.1 (constants.NameAndType a.0.0 second.0 ∷ [])) r a.2 in
        let t = text_added name pool a.0 p.few a.1 in
        let u = text_added descriptor a.0.1 b.0 t.short b.1 in
        let x = utf8_grown a.0.1 b.0.1 u.grown a.0.0 name t.means in
        let y = u.means in
        let first : IsSome (utf8 b.0.1 a.0.0) = rw x refl in
        let second : IsSomeAnd (utf8 b.0.1 b.0.0) (λ d. IsFieldDescriptor d ⊎ IsMethodDescriptor d) = rw y typed.typed in
        put_pool (constants.NameAndType a.0.0 b.0.0) b.0.1 r refl refl (omega (arith, t.few), omega (arith, u.few), first, second) b.2
        (text_pool descriptor typed.text a.0.1 b.0 b.1 (text_pool name named pool a.0 a.1 p))

-- ---- members

-- the texts of a reference to a field
pub record IsFieldText (class name descriptor : List ℕ) : Type 0 where
  pub owner : IsClassText class
  pub named : IsText name
  pub text : IsText descriptor
  pub typed : IsFieldDescriptor descriptor

-- the texts of a reference to a method
pub record IsMethodText (class name descriptor : List ℕ) : Type 0 where
  pub owner : IsClassText class
  pub named : IsText name
  pub text : IsText descriptor
  pub typed : IsMethodDescriptor descriptor

module _ (class name descriptor : List ℕ) (owner : IsClassText class) (named : IsText name) (type : IsTypeText descriptor) (Q : List ℕ × List ℕ → Type 0) (fits : Q (name, descriptor)) where
  -- a reference of a kind is put behind its class and its pair
  member_pool : (make : ℕ → ℕ → Constant) → ((k n : ℕ) → is_second (make k n) ≡ false) → ((k n : ℕ) → is_wide (make k n) ≡ false)
      → ((Z : Pool) (k n : ℕ) → k < 65536 → n < 65536 → IsSome (class_name Z k) → IsSomeAnd (pair Z n) Q → IsConstant Z (make k n)) → Keeping (λ pool. new_member make pool class name descriptor)
  unfolding new_member
  member_pool make s w lawful pool r e p =
      let a = bind_ok (add_class pool class) (λ above. add_pair above.1 name descriptor >>= λ pair. put pair.1 (make above.0 pair.0 ∷ [])) r e in
      let b = bind_ok (add_pair a.0.1 name descriptor) (λ pair. put pair.1 (make a.0.0 pair.0 ∷ [])) r a.2 in
      let t = class_added class pool a.0 p.few a.1 in
      let u = pair_added name descriptor a.0.1 b.0 t.short b.1 in
      let x = class_grown a.0.1 b.0.1 u.grown a.0.0 class t.means in
      let y = u.means in
      let first : IsSome (class_name b.0.1 a.0.0) = rw x refl in
      let second : IsSomeAnd (pair b.0.1 b.0.0) Q = rw y fits in
      put_pool (make a.0.0 b.0.0) b.0.1 r (s a.0.0 b.0.0) (w a.0.0 b.0.0) (lawful b.0.1 a.0.0 b.0.0 (omega (arith, t.few)) (omega (arith, u.few)) first second) b.2
      (pair_pool name descriptor named type a.0.1 b.0 b.1 (class_pool class owner pool a.0 a.1 p))

-- a reference to a field is added
pub field_pool : (class name descriptor : List ℕ) → IsFieldText class name descriptor → Keeping (λ pool. add_field pool class name descriptor)
field_pool class name descriptor h pool r e p =
    either_pool (position (means_member field_parts pool class name descriptor) pool) pool _ r
    (λ f. member_pool class name descriptor h.owner h.named (record { text = h.text; typed = inl h.typed }) IsFieldPair h.typed (λ k n. constants.Field k n) (λ k n. refl) (λ k n. refl)
    (λ Z k n x y c d. (omega (arith, x), omega (arith, y), c, d)) pool r f p) e p

-- a reference to a method is added
pub method_pool : (class name descriptor : List ℕ) → IsMethodText class name descriptor → Keeping (λ pool. add_method pool class name descriptor)
method_pool class name descriptor h pool r e p =
    either_pool (position (means_member method_parts pool class name descriptor) pool) pool _ r
    (λ f. member_pool class name descriptor h.owner h.named (record { text = h.text; typed = inr h.typed }) IsMethodPair h.typed (λ k n. constants.Method k n) (λ k n. refl) (λ k n. refl)
    (λ Z k n x y c d. (omega (arith, x), omega (arith, y), c, d)) pool r f p) e p

-- a reference to a method of an interface is added
pub interface_method_pool : (class name descriptor : List ℕ) → IsMethodText class name descriptor → Keeping (λ pool. add_interface_method pool class name descriptor)
interface_method_pool class name descriptor h pool r e p =
    either_pool (position (means_member interface_method_parts pool class name descriptor) pool) pool _ r
    (λ f. member_pool class name descriptor h.owner h.named (record { text = h.text; typed = inr h.typed }) IsMethodPair h.typed (λ k n. constants.InterfaceMethod k n) (λ k n. refl) (λ k n. refl)
    (λ Z k n x y c d. (omega (arith, x), omega (arith, y), c, d)) pool r f p) e p

-- ---- lists of what is put

-- where each item keeps the rules, all of them do
module _ {A B : Type 0} (Good : ℕ → A → Type 0) (f : ℕ → A → Pool → Growth B) (one : (n : ℕ) (x : A) → Good n x → Keeping (f n x)) where
  abbrev pub AllGood : ℕ → List A → Type 0
  AllGood n [] = Unit {0}
  AllGood n (x ∷ xs) = Good n x × AllGood (n + 1) xs

  pub all_pool : (n : ℕ) (xs : List A) → AllGood n xs → Keeping (grow_from f n xs)
  all_pool n [] all pool r e p = pool_is [] pool r e p
  all_pool n (x ∷ xs) all pool r e p =
      let a = bind_ok _ _ r e in
      let b = bind_ok _ _ r a.2 in
      pool_is (a.0.0 ∷ b.0.0) b.0.1 r b.2 (all_pool (n + 1) xs all.1 a.0.1 b.0 b.1 (one n x all.0 pool a.0 a.1 p))
