-- A pool that is read keeps its rules, and a pool that keeps them is read.
use Rattle.std.proofs.Common.{◌≡◌, ℕ, zero, suc, ◌+◌, ◌-◌, ◌^◌, ◌<◌, Bool, true, false, not, cond, ◌&&◌, ◌||◌, List, [], ◌∷◌, ◌++◌, length, Option, Some, None, Result, Ok, Err, refl, sym, ap, subst, ◌∙◌, arith, inl, inr, ◌⊎◌, drop}
use Rattle.std.specs.Prelude.{pos, is_some, IsSome, IsSomeAnd, slice_get, option_and_then}
use Rattle.std.specs.Result.{IfOk}
use Rattle.jmodel.specs.declared.refusal.Halt.{Halt}
use Rattle.std.specs.Int.{w16}
use Rattle.std.specs.List.{AllByRecursion, flat_map}
use Rattle.std.proofs.lemmas.List.{drop_at, drop-drop, length-append, length-drop}
use Rattle.jmodel.specs.declared.class_file.Constant.{Constant}
use Rattle.jmodel.specs.declared.class_file.Constant.TheVariants.{Utf8, Integer, Float, Long, Double, Class, Text, Field, Method, InterfaceMethod, NameAndType, Second}
use Rattle.jmodel.specs.declared.class_file.FieldType.{FieldType}
use Rattle.jmodel.specs.declared.class_file.FieldType.TheVariants as types
use Rattle.jmodel.specs.declared.refusal.Refusal.TheVariants.{BadIndex, BadDescriptor}
use Rattle.jmodel.specs.format.ClassFile.{Pool, constant, constants, u2}
use Rattle.jmodel.specs.format.Pool as meaning
use Rattle.jmodel.specs.format.Pool.{entry, utf8, class_name, pair, both}
use Rattle.jmodel.specs.format.ClassRules.{IsNameOf, IsFieldPair, IsMethodPair, IsConstant, IsPool, is_second}
use Rattle.jmodel.specs.format.Descriptor.{is_array_name, IsArrayName, IsFieldDescriptor, IsMethodDescriptor, IsFieldType, IsReferenceName, field_descriptor}
use Rattle.jmodel.specs.format.DescriptorReading.{is_field_descriptor, is_method_descriptor}
use Rattle.jmodel.specs.format.Reading.{◌>>=◌, Gives, u2_at}
use Rattle.jmodel.specs.format.PoolReading.{entry_of, entry_at, text_in, utf8_at, name_in, class_at, pair_in, name_and_type_at, want_descriptor, is_text, passes, member_fits, name_fits, pair_fits, text_fits, constant_fits, all_fit, entries_at, pool_at}
use Rattle.const_pool.proofs.Takes.{bind_ok, ok_is, want_ok, IsBytes, Takes, Takes-then, Takes-first, Takes-second, wide16, number_takes, number_again}
use Rattle.const_pool.proofs.Entries.{IsPlain, either}
use Rattle.const_pool.proofs.Scans.{entries_take, entries_again}
use Rattle.const_pool.proofs.Signatures.{is_field, field_is, is_method, method_is}
use Rattle.const_pool.proofs.Uses.{text_read}

-- ---- entries by their index

entry_ok : (i : ℕ) (o : Option Constant) (c : Constant) → entry_of i o ≡ Ok c → (o ≡ Some c) × (is_second c ≡ false)
entry_ok i None c e = absurd cc
entry_ok i (Some d) c e = by_place (is_second d) refl e where
  by_place : (b : Bool) → is_second d ≡ b → cond b (Err (BadIndex (pos i))) (Ok d) ≡ Ok c → (Some d ≡ Some c) × (is_second c ≡ false)
  by_place true p h = absurd cc
  by_place false p h = let is : d ≡ c = cc in (ap (λ (x : Constant). Some x) is, ap is_second (sym is) ∙ p)

-- a Class's name, by what was read of it
class_entry : (i : ℕ) (c : Constant) (name : ℕ) → name_in i c ≡ Ok name → c ≡ Class name
class_entry i (Utf8 b) name e = absurd cc
class_entry i (Integer n) name e = absurd cc
class_entry i (Float n) name e = absurd cc
class_entry i (Long n) name e = absurd cc
class_entry i (Double n) name e = absurd cc
class_entry i (Class n) name e = cc
class_entry i (Text n) name e = absurd cc
class_entry i (Field a b) name e = absurd cc
class_entry i (Method a b) name e = absurd cc
class_entry i (InterfaceMethod a b) name e = absurd cc
class_entry i (NameAndType a b) name e = absurd cc
class_entry i Second name e = absurd cc

pair_entry : (i : ℕ) (c : Constant) (p : ℕ × ℕ) → pair_in i c ≡ Ok p → c ≡ NameAndType p.0 p.1
pair_entry i (Utf8 b) p e = absurd cc
pair_entry i (Integer n) p e = absurd cc
pair_entry i (Float n) p e = absurd cc
pair_entry i (Long n) p e = absurd cc
pair_entry i (Double n) p e = absurd cc
pair_entry i (Class n) p e = absurd cc
pair_entry i (Text n) p e = absurd cc
pair_entry i (Field a b) p e = absurd cc
pair_entry i (Method a b) p e = absurd cc
pair_entry i (InterfaceMethod a b) p e = absurd cc
pair_entry i (NameAndType a b) p e = ap (λ (q : ℕ × ℕ). NameAndType q.0 q.1) (ok_is (a, b) p e)
pair_entry i Second p e = absurd cc

pub class_read : (pool : Pool) (i name : ℕ) → class_at pool i ≡ Ok name → entry pool i ≡ Some (Class name)
unfolding class_at
class_read pool i name e =
    let a = bind_ok (entry_at pool i) (name_in i) name e in
    (entry_ok i (entry pool i) a.0 a.1).0 ∙ ap (λ (c : Constant). Some c) (class_entry i a.0 name a.2)

pub pair_read : (pool : Pool) (i : ℕ) (p : ℕ × ℕ) → name_and_type_at pool i ≡ Ok p → entry pool i ≡ Some (NameAndType p.0 p.1)
unfolding name_and_type_at
pair_read pool i p e =
    let a = bind_ok (entry_at pool i) (pair_in i) p e in
    (entry_ok i (entry pool i) a.0 a.1).0 ∙ ap (λ (c : Constant). Some c) (pair_entry i a.0 p a.2)

pub some_is : {A : Type 0} (o : Option A) (x : A) → o ≡ Some x → IsSome o
some_is o x e = ap is_some e

pub the_some : {A : Type 0} (o : Option A) → IsSome o → (x : A) × (o ≡ Some x)
the_some None h = absurd cc
the_some (Some x) h = (x, refl)

-- ---- the entries of a pool that fits

fits_at : (pool cs : List Constant) (i : ℕ) (c : Constant) → all_fit pool cs ≡ Ok tt → slice_get cs i ≡ Some c → constant_fits pool c ≡ Ok tt
unfolding all_fit
fits_at pool [] i c h e = absurd cc
fits_at pool (d ∷ ds) zero c h e = let a = bind_ok (constant_fits pool d) (λ _. all_fit pool ds) tt h in let is : d ≡ c = cc in ap (constant_fits pool) (sym is) ∙ a.1
fits_at pool (d ∷ ds) (suc i) c h e = let a = bind_ok (constant_fits pool d) (λ _. all_fit pool ds) tt h in fits_at pool ds i c a.2 e

-- a class's name that is a field descriptor and begins as an array's is an array's
array_field : (name : List ℕ) → is_array_name name ≡ true → IsFieldDescriptor name → IsArrayName name
array_field name a h = by_type h.0 h.1.type h.1.is where
  by_type : (t : FieldType) → IsFieldType t → name ≡ field_descriptor t → IsArrayName name
  by_type types.Boolean f i = let no : is_array_name name ≡ false = ap is_array_name i in absurd cc
  by_type types.Byte f i = let no : is_array_name name ≡ false = ap is_array_name i in absurd cc
  by_type types.Char f i = let no : is_array_name name ≡ false = ap is_array_name i in absurd cc
  by_type types.Short f i = let no : is_array_name name ≡ false = ap is_array_name i in absurd cc
  by_type types.Int f i = let no : is_array_name name ≡ false = ap is_array_name i in absurd cc
  by_type types.Long f i = let no : is_array_name name ≡ false = ap is_array_name i in absurd cc
  by_type types.Float f i = let no : is_array_name name ≡ false = ap is_array_name i in absurd cc
  by_type types.Double f i = let no : is_array_name name ≡ false = ap is_array_name i in absurd cc
  by_type (types.Reference n) f i = by_array (is_array_name n) refl f i where
    by_array : (b : Bool) → is_array_name n ≡ b → IsReferenceName b n → name ≡ field_descriptor (types.Reference n) → IsArrayName name
    by_array true p f i = subst IsArrayName (sym (i ∙ rw p refl)) f
    by_array false p f i = let no : is_array_name name ≡ false = ap is_array_name i ∙ rw p refl in absurd cc

array_name : (name : List ℕ) (b : Bool) → is_array_name name ≡ b → (not b || is_field_descriptor name) ≡ true → IsNameOf b name
array_name name true a h = array_field name a (is_field name h)
array_name name false a h = tt

module _ (pool : Pool) (fit : all_fit pool pool ≡ Ok tt) where
  pub entry_fits : (i : ℕ) (c : Constant) → entry pool i ≡ Some c → constant_fits pool c ≡ Ok tt
  entry_fits zero c e = absurd cc
  entry_fits (suc i) c e = fits_at pool pool i c fit e

  -- a Class has its name
  pub class_named : (i name : ℕ) → entry pool i ≡ Some (Class name) → (text : List ℕ) × (utf8 pool name ≡ Some text) × (class_name pool i ≡ Some text)
  unfolding name_fits
  class_named i name e =
      let a = bind_ok (utf8_at pool name) (λ text. want_descriptor (not (is_array_name text) || is_field_descriptor text) name) tt (entry_fits i (Class name) e) in
      let t = text_read pool name a.0 a.1 in
      (a.0, t, ap (option_and_then (meaning.name_in pool)) e ∙ t)

  -- a NameAndType has both its texts
  pub pair_named : (i name descriptor : ℕ) → entry pool i ≡ Some (NameAndType name descriptor) → (n : List ℕ) × (d : List ℕ) × (utf8 pool name ≡ Some n) × (utf8 pool descriptor ≡ Some d) × (pair pool i ≡ Some (n, d))
  unfolding pair_fits
  pair_named i name descriptor e =
      let a = bind_ok (utf8_at pool name) (λ _. utf8_at pool descriptor >>= λ second. want_descriptor (is_field_descriptor second || is_method_descriptor second) descriptor) tt (entry_fits i (NameAndType name descriptor) e) in
      let b = bind_ok (utf8_at pool descriptor) (λ second. want_descriptor (is_field_descriptor second || is_method_descriptor second) descriptor) tt a.2 in
      let n = text_read pool name a.0 a.1 in
      let d = text_read pool descriptor b.0 b.1 in
      let is : both (utf8 pool name) (utf8 pool descriptor) ≡ Some (a.0, b.0) = rw (n, d) refl in
      (a.0, b.0, n, d, ap (option_and_then (meaning.pair_in pool)) e ∙ is)

  -- what a reference to a member names
  member_named : (p : List ℕ → Bool) (class pair_index : ℕ) → member_fits pool p class pair_index ≡ Ok tt → IsSome (class_name pool class) × IsSomeAnd (pair pool pair_index) (λ q. p q.1 ≡ true)
  unfolding member_fits
  member_named p class pair_index e =
      let a = bind_ok (class_at pool class) (λ _. name_and_type_at pool pair_index >>= λ q. want_descriptor (not (is_text pool q.0 && is_text pool q.1) || passes p (utf8 pool q.1)) q.1) tt e in
      let b = bind_ok (name_and_type_at pool pair_index) (λ q. want_descriptor (not (is_text pool q.0 && is_text pool q.1) || passes p (utf8 pool q.1)) q.1) tt a.2 in
      let c = class_named class a.0 (class_read pool class a.0 a.1) in
      let q = pair_named pair_index b.0.0 b.0.1 (pair_read pool pair_index b.0 b.1) in
      let w = want_ok (not (is_text pool b.0.0 && is_text pool b.0.1) || passes p (utf8 pool b.0.1)) (BadDescriptor (pos b.0.1)) (Ok tt) tt b.2 in
      let shown : (not (is_text pool b.0.0 && is_text pool b.0.1) || passes p (utf8 pool b.0.1)) ≡ p q.1 = rw (q.2, q.3) refl in
      let yes : p q.1 ≡ true = sym shown ∙ w.0 in
      (some_is (class_name pool class) c.0 c.2, rw q.4 yes)

  weaken : (o : Option (List ℕ × List ℕ)) (P Q : List ℕ × List ℕ → Type 0) → ((q : List ℕ × List ℕ) → P q → Q q) → IsSomeAnd o P → IsSomeAnd o Q
  weaken None P Q f h = h
  weaken (Some q) P Q f h = f q h

  pub named_rightly : (c : Constant) → IsPlain c → constant_fits pool c ≡ Ok tt → IsConstant pool c
  unfolding name_fits text_fits pair_fits
  named_rightly (Utf8 b) p e = p
  named_rightly (Integer n) p e = p
  named_rightly (Float n) p e = p
  named_rightly (Long n) p e = p
  named_rightly (Double n) p e = p
  named_rightly (Class n) p e =
      let a = bind_ok (utf8_at pool n) (λ text. want_descriptor (not (is_array_name text) || is_field_descriptor text) n) tt e in
      let t = text_read pool n a.0 a.1 in
      let w = want_ok (not (is_array_name a.0) || is_field_descriptor a.0) (BadDescriptor (pos n)) (Ok tt) tt a.2 in
      (p, rw t (array_name a.0 (is_array_name a.0) refl w.0))
  named_rightly (Text n) p e = let a = bind_ok (utf8_at pool n) (λ _. Ok tt) tt e in (p, some_is (utf8 pool n) a.0 (text_read pool n a.0 a.1))
  named_rightly (Field a b) p e = let m = member_named is_field_descriptor a b e in (p.0, p.1, m.0, weaken (pair pool b) (λ q. is_field_descriptor q.1 ≡ true) IsFieldPair (λ q h. is_field q.1 h) m.1)
  named_rightly (Method a b) p e = let m = member_named is_method_descriptor a b e in (p.0, p.1, m.0, weaken (pair pool b) (λ q. is_method_descriptor q.1 ≡ true) IsMethodPair (λ q h. is_method q.1 h) m.1)
  named_rightly (InterfaceMethod a b) p e = let m = member_named is_method_descriptor a b e in (p.0, p.1, m.0, weaken (pair pool b) (λ q. is_method_descriptor q.1 ≡ true) IsMethodPair (λ q h. is_method q.1 h) m.1)
  named_rightly (NameAndType n d) p e =
      let a = bind_ok (utf8_at pool n) (λ _. utf8_at pool d >>= λ second. want_descriptor (is_field_descriptor second || is_method_descriptor second) d) tt e in
      let b = bind_ok (utf8_at pool d) (λ second. want_descriptor (is_field_descriptor second || is_method_descriptor second) d) tt a.2 in
      let w = want_ok (is_field_descriptor b.0 || is_method_descriptor b.0) (BadDescriptor (pos d)) (Ok tt) tt b.2 in
      (p.0, p.1, some_is (utf8 pool n) a.0 (text_read pool n a.0 a.1), rw (text_read pool d b.0 b.1) (elim (either (is_field_descriptor b.0) (is_method_descriptor b.0) w.0) [ inl h ↦ inl (is_field b.0 h) | inr h ↦ inr (is_method b.0 h) ]))
  named_rightly Second p e = tt

  all_rightly : (cs : List Constant) → AllByRecursion IsPlain cs → all_fit pool cs ≡ Ok tt → AllByRecursion (IsConstant pool) cs
  unfolding all_fit
  all_rightly [] p e = tt
  all_rightly (c ∷ cs) p e = let a = bind_ok (constant_fits pool c) (λ _. all_fit pool cs) tt e in (named_rightly c p.0 a.1, all_rightly cs p.1 a.2)

-- what a pool that was read is
pub record IsRead (bytes : List ℕ) (at : ℕ) (pool : Pool) (next count : ℕ) : Type 0 where
  pub takes : Takes bytes at (u2 count ++ flat_map constant pool) next
  pub counted : length pool ≡ count - 1
  pub few : count < 2 ^ 16
  pub rules : IsPool pool
  pub fit : all_fit pool pool ≡ Ok tt

pub pool_takes : (bytes : List ℕ) (at : ℕ) (x : Pool × ℕ) → IsBytes bytes → pool_at bytes at ≡ Ok x → (count : ℕ) × IsRead bytes at x.0 x.1 count
unfolding pool_at
pool_takes bytes at x fits e =
    let a = bind_ok (u2_at bytes at) (λ count. entries_at bytes (count.0 - 1) count.1 >>= λ entries. all_fit entries.0 entries.0 >>= λ _. Ok entries) x e in
    let b = bind_ok (entries_at bytes (a.0.0 - 1) a.0.1) (λ entries. all_fit entries.0 entries.0 >>= λ _. Ok entries) x a.2 in
    let c = bind_ok (all_fit b.0.0 b.0.0) (λ _. Ok b.0) x b.2 in
    let n = number_takes w16 (2 ^ 16) wide16 bytes at a.0 fits a.1 in
    let s = entries_take bytes fits (a.0.0 - 1) a.0.1 b.0 n.0.inside b.1 in
    let made : IsRead bytes at b.0.0 b.0.1 a.0.0 = record {
      takes = Takes-then bytes at (u2 a.0.0) a.0.1 (flat_map constant b.0.0) b.0.1 n.0 s.takes;
      counted = s.count;
      few = n.1;
      rules = record { few = omega (arith, s.count, n.1); placed = s.placed; entries = all_rightly b.0.0 c.1 b.0.0 s.plain c.1 };
      fit = c.1;
    } in
    (a.0.0, subst (λ (y : Pool × ℕ). IsRead bytes at y.0 y.1 a.0.0) (ok_is b.0 x c.2) made)

-- ---- a pool that keeps the rules is read

entry_yes : (i : ℕ) (o : Option Constant) (c : Constant) → o ≡ Some c → is_second c ≡ false → entry_of i o ≡ Ok c
entry_yes i o c e s = ap (entry_of i) e ∙ rw s refl

utf8_entry : (i : ℕ) (o : Option Constant) (text : List ℕ) → option_and_then meaning.text_in o ≡ Some text → (entry_of i o >>= text_in i) ≡ Ok text
utf8_entry i None text e = absurd cc
utf8_entry i (Some (Utf8 b)) text e = cc
utf8_entry i (Some (Integer n)) text e = absurd cc
utf8_entry i (Some (Float n)) text e = absurd cc
utf8_entry i (Some (Long n)) text e = absurd cc
utf8_entry i (Some (Double n)) text e = absurd cc
utf8_entry i (Some (Class n)) text e = absurd cc
utf8_entry i (Some (Text n)) text e = absurd cc
utf8_entry i (Some (Field a b)) text e = absurd cc
utf8_entry i (Some (Method a b)) text e = absurd cc
utf8_entry i (Some (InterfaceMethod a b)) text e = absurd cc
utf8_entry i (Some (NameAndType a b)) text e = absurd cc
utf8_entry i (Some Second) text e = absurd cc

class_entry_again : (i : ℕ) (pool : Pool) (o : Option Constant) (text : List ℕ) → option_and_then (meaning.name_in pool) o ≡ Some text → (name : ℕ) × ((entry_of i o >>= name_in i) ≡ Ok name)
class_entry_again i pool None text e = absurd cc
class_entry_again i pool (Some (Utf8 b)) text e = absurd cc
class_entry_again i pool (Some (Integer n)) text e = absurd cc
class_entry_again i pool (Some (Float n)) text e = absurd cc
class_entry_again i pool (Some (Long n)) text e = absurd cc
class_entry_again i pool (Some (Double n)) text e = absurd cc
class_entry_again i pool (Some (Class n)) text e = (n, refl)
class_entry_again i pool (Some (Text n)) text e = absurd cc
class_entry_again i pool (Some (Field a b)) text e = absurd cc
class_entry_again i pool (Some (Method a b)) text e = absurd cc
class_entry_again i pool (Some (InterfaceMethod a b)) text e = absurd cc
class_entry_again i pool (Some (NameAndType a b)) text e = absurd cc
class_entry_again i pool (Some Second) text e = absurd cc

both_some : (a b : Option (List ℕ)) (q : List ℕ × List ℕ) → both a b ≡ Some q → (a ≡ Some q.0) × (b ≡ Some q.1)
both_some None b q e = absurd cc
both_some (Some x) None q e = absurd cc
both_some (Some x) (Some y) q e = let is : (x, y) ≡ q = cc in (ap (λ (p : List ℕ × List ℕ). Some p.0) is, ap (λ (p : List ℕ × List ℕ). Some p.1) is)

-- a NameAndType by what it means
record PairAt (i : ℕ) (pool : Pool) (o : Option Constant) (q : List ℕ × List ℕ) : Type 0 where
  pub name : ℕ
  pub descriptor : ℕ
  pub read : (entry_of i o >>= pair_in i) ≡ Ok (name, descriptor)
  pub first : utf8 pool name ≡ Some q.0
  pub second : utf8 pool descriptor ≡ Some q.1

pair_entry_again : (i : ℕ) (pool : Pool) (o : Option Constant) (q : List ℕ × List ℕ) → option_and_then (meaning.pair_in pool) o ≡ Some q → PairAt i pool o q
pair_entry_again i pool None q e = absurd cc
pair_entry_again i pool (Some (Utf8 b)) q e = absurd cc
pair_entry_again i pool (Some (Integer n)) q e = absurd cc
pair_entry_again i pool (Some (Float n)) q e = absurd cc
pair_entry_again i pool (Some (Long n)) q e = absurd cc
pair_entry_again i pool (Some (Double n)) q e = absurd cc
pair_entry_again i pool (Some (Class n)) q e = absurd cc
pair_entry_again i pool (Some (Text n)) q e = absurd cc
pair_entry_again i pool (Some (Field a b)) q e = absurd cc
pair_entry_again i pool (Some (Method a b)) q e = absurd cc
pair_entry_again i pool (Some (InterfaceMethod a b)) q e = absurd cc
pair_entry_again i pool (Some (NameAndType a b)) q e = let h = both_some (utf8 pool a) (utf8 pool b) q e in record { name = a; descriptor = b; read = refl; first = h.0; second = h.1 }
pair_entry_again i pool (Some Second) q e = absurd cc

pub utf8_again : (pool : Pool) (i : ℕ) (text : List ℕ) → utf8 pool i ≡ Some text → utf8_at pool i ≡ Ok text
unfolding utf8_at
utf8_again pool i text e = utf8_entry i (entry pool i) text e

pub class_again : (pool : Pool) (i : ℕ) → IsSome (class_name pool i) → (name : ℕ) × (class_at pool i ≡ Ok name)
unfolding class_at
class_again pool i h = let s = the_some (class_name pool i) h in class_entry_again i pool (entry pool i) s.0 s.1

the_and : {A : Type 0} (o : Option A) (P : A → Type 0) → IsSomeAnd o P → (x : A) × (o ≡ Some x) × P x
the_and None P h = absurd h
the_and (Some x) P h = (x, refl, h)

array_yes : (name : List ℕ) (b : Bool) → is_array_name name ≡ b → IsNameOf b name → (not b || is_field_descriptor name) ≡ true
array_yes name true a h = field_is name (types.Reference name, record { type = rw a h; is = rw a refl })
array_yes name false a h = refl

module _ (pool : Pool) where
  member_again : (p : List ℕ → Bool) (class pair_index : ℕ) → IsSome (class_name pool class) → IsSomeAnd (pair pool pair_index) (λ q. p q.1 ≡ true) → member_fits pool p class pair_index ≡ Ok tt
  unfolding member_fits name_and_type_at
  member_again p class pair_index c q =
      let k = class_again pool class c in
      let w = the_and (pair pool pair_index) (λ q. p q.1 ≡ true) q in
      let r = pair_entry_again pair_index pool (entry pool pair_index) w.0 w.1 in
      rw (k.1, r.read, r.first, r.second, w.2) refl

  strengthen : (o : Option (List ℕ × List ℕ)) (P Q : List ℕ × List ℕ → Type 0) → ((q : List ℕ × List ℕ) → P q → Q q) → IsSomeAnd o P → IsSomeAnd o Q
  strengthen None P Q f h = h
  strengthen (Some q) P Q f h = f q h

  kinds : (d : List ℕ) → IsFieldDescriptor d ⊎ IsMethodDescriptor d → (is_field_descriptor d || is_method_descriptor d) ≡ true
  kinds d (inl h) = rw (field_is d h) refl
  kinds d (inr h) = by_field (is_field_descriptor d) (method_is d h) where
    by_field : (b : Bool) → is_method_descriptor d ≡ true → (b || is_method_descriptor d) ≡ true
    by_field true e = refl
    by_field false e = e

  pub fits_again : (c : Constant) → IsConstant pool c → IsPlain c × (constant_fits pool c ≡ Ok tt)
  unfolding name_fits text_fits pair_fits
  fits_again (Utf8 b) h = (h, refl)
  fits_again (Integer n) h = (h, refl)
  fits_again (Float n) h = (h, refl)
  fits_again (Long n) h = (h, refl)
  fits_again (Double n) h = (h, refl)
  fits_again (Class n) h =
      let w = the_and (utf8 pool n) (λ t. IsNameOf (is_array_name t) t) h.1 in
      (h.0, rw (utf8_again pool n w.0 w.1, array_yes w.0 (is_array_name w.0) refl w.2) refl)
  fits_again (Text n) h = let w = the_some (utf8 pool n) h.1 in (h.0, rw (utf8_again pool n w.0 w.1) refl)
  fits_again (Field a b) h = ((h.0, h.1), member_again is_field_descriptor a b h.2 (strengthen (pair pool b) IsFieldPair (λ q. is_field_descriptor q.1 ≡ true) (λ q k. field_is q.1 k) h.3))
  fits_again (Method a b) h = ((h.0, h.1), member_again is_method_descriptor a b h.2 (strengthen (pair pool b) IsMethodPair (λ q. is_method_descriptor q.1 ≡ true) (λ q k. method_is q.1 k) h.3))
  fits_again (InterfaceMethod a b) h = ((h.0, h.1), member_again is_method_descriptor a b h.2 (strengthen (pair pool b) IsMethodPair (λ q. is_method_descriptor q.1 ≡ true) (λ q k. method_is q.1 k) h.3))
  fits_again (NameAndType n d) h =
      let v = the_some (utf8 pool n) h.2 in
      let w = the_and (utf8 pool d) (λ t. IsFieldDescriptor t ⊎ IsMethodDescriptor t) h.3 in
      ((h.0, h.1), rw (utf8_again pool n v.0 v.1, utf8_again pool d w.0 w.1, kinds w.0 w.2) refl)
  fits_again Second h = (tt, refl)

  all_again : (cs : List Constant) → AllByRecursion (IsConstant pool) cs → AllByRecursion IsPlain cs × (all_fit pool cs ≡ Ok tt)
  unfolding all_fit
  all_again [] h = (tt, refl)
  all_again (c ∷ cs) h =
      let one = fits_again c h.0 in
      let others = all_again cs h.1 in
      ((one.0, others.0), rw (one.1, others.1) refl)

  pub pool_fits : IsPool pool → all_fit pool pool ≡ Ok tt
  pool_fits h = (all_again pool h.entries).1

  pub pool_again : (bytes : List ℕ) (at next : ℕ) → IsPool pool → Takes bytes at (constants pool) next → pool_at bytes at ≡ Ok (pool, next)
  unfolding pool_at
  pool_again bytes at next h t =
      let count = number_again w16 (2 ^ 16) wide16 bytes at (suc (length pool)) (at + 2) (omega (arith, h.few)) (Takes-first bytes at (u2 (suc (length pool))) (flat_map constant pool) next t) in
      let all = all_again pool h.entries in
      let entries = entries_again bytes pool (at + 2) next h.placed all.0 (Takes-second bytes at (u2 (suc (length pool))) (flat_map constant pool) next t) in
      let one_less : suc (length pool) - 1 ≡ length pool = omega arith in
      rw (count, one_less, entries, all.1) refl

pub pool_rules : (bytes : List ℕ) (at : ℕ) (r : Result (Pool × ℕ) Halt) → IsBytes bytes → Gives (λ x. x) r (pool_at bytes at) → IfOk r (λ x. IsPool x.0)
pool_rules bytes at (Ok x) fits given = (pool_takes bytes at x fits given).1.rules
pool_rules bytes at (Err e) fits given = tt

-- what is read stands in the bytes behind its count
pub pool_found : (bytes : List ℕ) (at : ℕ) (r : Result (Pool × ℕ) Halt) → IsBytes bytes → Gives (λ x. x) r (pool_at bytes at) → IfOk r (λ x. (count : ℕ) × (length x.0 ≡ count - 1) × (drop at bytes ≡ (u2 count ++ flat_map constant x.0) ++ drop x.1 bytes) × (x.1 ≡ at + length (u2 count ++ flat_map constant x.0)))
pool_found bytes at (Ok x) fits given = let p = pool_takes bytes at x fits given in (p.0, p.1.counted, p.1.takes.parts, p.1.takes.moved)
pool_found bytes at (Err e) fits given = tt

-- a pool that stands in the bytes, whatever follows it, is read
pub pool_is_read : (bytes : List ℕ) (at : ℕ) (pool : Pool) (rest : List ℕ) → IsPool pool → drop at bytes ≡ constants pool ++ rest → pool_at bytes at ≡ Ok (pool, at + length (constants pool))
pool_is_read bytes at pool rest h e =
    let text : List ℕ = constants pool in
    let after : drop (at + length text) bytes ≡ rest = sym (drop-drop (length text) at bytes) ∙ ap (drop (length text)) e ∙ drop_at text rest (length text) refl in
    let total : length bytes - at ≡ length text + length rest = sym (length-drop at bytes) ∙ ap length e ∙ length-append text rest in
    let count : length (u2 (suc (length pool))) ≡ 2 = wide16.len (suc (length pool)) in
    let some : 0 < length text = omega (arith, count, length-append (u2 (suc (length pool))) (flat_map constant pool)) in
    pool_again pool bytes at (at + length text) h (record { parts = e ∙ ap (λ (r : List ℕ). text ++ r) (sym after); moved = refl; inside = omega (arith, total, some) })
