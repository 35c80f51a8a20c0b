-- The methods that a rewriting adds: their code calls added methods alone, and a conflict in them goes to the stub of a duplicate, or past them.
use Rattle.std.proofs.Common.{◌≡◌, ℕ, zero, suc, ◌≤◌, List, [], ◌∷◌, ◌++◌, length, Option, Some, None, Bool, true, false, refl, sym, ap, subst, ◌∙◌, arith, ◌⊎◌, inl, inr, append_assoc}
use Rattle.std.specs.Prelude.{slice_get, bytes_eq, if◌then◌else◌}
use Rattle.std.specs.List.{AllByRecursion, flat_map}
use Rattle.jmodel.specs.declared.typing.VType.{VType}
use Rattle.jmodel.specs.declared.typing.VType.TheVariants as type
use Rattle.objects.specs.declared.op.WordType.{WordType}
use Rattle.objects.specs.declared.op.WordType.TheVariants as word
use Rattle.objects.specs.declared.op.Op.{Op}
use Rattle.objects.specs.declared.op.Op.TheVariants as op
use Rattle.objects.specs.semantics.Program.{Field, Method, Program, method_at, selected}
use Rattle.objects.specs.typing.TypeOrder.{object_class, element_class}
use Rattle.objects.specs.typing.Typing.{Types, Table}
use Rattle.objects.specs.typing.Source.{IsSource, IsSourceOp, IsSourceMethod}
use Rattle.objects.specs.rewriting.Rewriting.{getter, setter, duplicate, element_getter, element_setter, getter_method, setter_method, element_getter_method, element_setter_method, helper_methods, accessors, cast_to, cast_of, plain_load, Typed, typed_from, after_load, array_under, helped, block, block_of, block_at, blocks, duplicate_code, duplicate_method, abstracted, duplicates, old_methods, rewritten}
use Rattle.objects.proofs.Inner.{IsInnerOp}
use Rattle.objects.proofs.Places.{old_length, typed_length}

pub all_append : {A : Type 0} (F : A → Type 0) (xs ys : List A) → AllByRecursion F xs → AllByRecursion F ys → AllByRecursion F (xs ++ ys)
all_append F [] ys p q = q
all_append F (x ∷ xs) ys p q = (p.0, all_append F xs ys p.1 q)

pub all_at : {A : Type 0} (F : A → Type 0) (xs : List A) (i : ℕ) (x : A) → AllByRecursion F xs → slice_get xs i ≡ Some x → F x
all_at F [] i x p e = cc
all_at F (y ∷ xs) zero x p e = let s : y ≡ x = cc in subst F s p.0
all_at F (y ∷ xs) (suc i) x p e = all_at F xs i x p.1 e

-- an item behind the first list is one of the second
behind : {A : Type 0} (xs ys : List A) (i : ℕ) (x : A) → length xs ≤ i → slice_get (xs ++ ys) i ≡ Some x → (j : ℕ) × (slice_get ys j ≡ Some x)
behind [] ys i x le e = (i, e)
behind (y ∷ xs) ys zero x le e = absurd (omega (arith, le))
behind (y ∷ xs) ys (suc i) x le e = let le' : length xs ≤ i = omega (arith, le) in behind xs ys i x le' e

-- the duplicate of a method of the program
pub record IsCopy (P : Program) (k : Method) : Type 0 where
  pub source : Method
  pub code : List Typed
  pub many : length code ≡ length source.ops
  pub kept : IsSourceMethod P source
  pub is : k ≡ duplicate_code P source code

-- a method without entries, or such a one
abbrev pub HasEntries : Program → Method → Type 0
HasEntries P k = (k.catches ≡ []) ⊎ IsCopy P k

module _ (P : Program) (Ts : List Table) (S : IsSource P) (selects : (t m to : ℕ) (k : Method) → method_at P m ≡ Some k → selected (rewritten P Ts) t (duplicate P m) ≡ Some to → length P.methods ≤ to) where
  abbrev Q : Program
  Q = rewritten P Ts

  abbrev first : ℕ
  first = length P.methods

  abbrev AreInner : List Op → Type 0
  AreInner = AllByRecursion (IsInnerOp Q first)

  pub record IsAddedCode (k : Method) : Type 0 where
    pub ops : AreInner k.ops
    pub entries : HasEntries P k

  cast_inner : (n : List ℕ) (code : List Op) → AreInner code → AreInner (cast_to n code)
  cast_inner n code h = by (bytes_eq n object_class)
    where
      by : (b : Bool) → AreInner (if b then code else op.CheckCast n ∷ code)
      by true = h
      by false = (tt, h)

  casts_inner : (w : WordType) (n : List ℕ) (code : List Op) → AreInner code → AreInner (cast_of (record { word = w; class = n }) code)
  casts_inner word.Reference n code h = cast_inner n code h
  casts_inner word.Boolean n code h = h
  casts_inner word.Byte n code h = h
  casts_inner word.Char n code h = h
  casts_inner word.Short n code h = h
  casts_inner word.Int n code h = h
  casts_inner word.Long n code h = h

  getter_by : (n : ℕ) (f : Field) (b : Option ℕ) → f.base ≡ b → IsAddedCode (getter_method n f)
  getter_by n f None e = rw e (record { ops = (tt, (tt, (tt, (tt, (tt, (tt, (tt, (tt, (tt, (tt, casts_inner f.declared.word f.declared.class _ (tt, tt))))))))))); entries = inl refl })
  getter_by n f (Some o) e = rw e (record { ops = (tt, (tt, (tt, (tt, (tt, (tt, (tt, (tt, (tt, casts_inner f.declared.word f.declared.class _ (tt, tt)))))))))); entries = inl refl })

  setter_by : (f : Field) (b : Option ℕ) → f.base ≡ b → IsAddedCode (setter_method f)
  setter_by f None e = rw e (record { ops = (tt, (tt, (tt, (tt, (tt, (tt, tt)))))); entries = inl refl })
  setter_by f (Some o) e = rw e (record { ops = (tt, (tt, (tt, (tt, (tt, (tt, tt)))))); entries = inl refl })

  accessors_added : (n : ℕ) (fs : List Field) → AllByRecursion IsAddedCode (accessors n fs)
  accessors_added n [] = tt
  accessors_added n (f ∷ fs) = (getter_by n f f.base refl, (setter_by f f.base refl, accessors_added (suc n) fs))

  plain_inner : (t : WordType) → IsInnerOp Q first (plain_load t)
  plain_inner word.Boolean = tt
  plain_inner word.Byte = tt
  plain_inner word.Char = tt
  plain_inner word.Short = tt
  plain_inner word.Int = tt
  plain_inner word.Long = tt
  plain_inner word.Reference = tt

  element_gets : (t : WordType) → IsAddedCode (element_getter_method t)
  element_gets t = record { ops = (tt, (tt, (tt, (tt, (tt, (tt, (tt, (tt, (plain_inner t, (tt, (tt, (tt, tt)))))))))))); entries = inl refl }

  element_puts : (t : WordType) → IsAddedCode (element_setter_method t)
  element_puts t = record { ops = (tt, (tt, (tt, (tt, (tt, (tt, tt)))))); entries = inl refl }

  helpers_added : AllByRecursion IsAddedCode helper_methods
  helpers_added = (
    element_gets word.Byte,
    (
      element_puts word.Byte,
      (
        element_gets word.Boolean,
        (
          element_puts word.Boolean,
          (
            element_gets word.Char,
            (
              element_puts word.Char,
              (
                element_gets word.Short,
                (
                  element_puts word.Short,
                  (element_gets word.Int, (element_puts word.Int, (element_gets word.Long, (element_puts word.Long, (element_gets word.Reference, (element_puts word.Reference, tt)))))),
                ),
              ),
            ),
          ),
        ),
      ),
    ),
  )

  after_inner : (t : WordType) (u : Option VType) → AreInner (after_load t u)
  after_inner word.Reference (Some (type.Ref n)) = cast_inner (element_class n) [] tt
  after_inner word.Reference (Some type.Null) = (tt, (tt, tt))
  after_inner t u = tt

  high : (m : ℕ) → first ≤ duplicate P m
  high m = omega arith

  getter_high : (f : ℕ) → first ≤ getter P f
  getter_high f = omega arith

  setter_high : (f : ℕ) → first ≤ setter P f
  setter_high f = omega arith

  element_getter_high : (t : WordType) → first ≤ element_getter P t
  element_getter_high t = omega arith

  element_setter_high : (t : WordType) → first ≤ element_setter P t
  element_setter_high t = omega arith

  block_inner : (k : Method) (at : ℕ → ℕ) (h : Option Types) (o : Op) → IsSourceOp P k o → AreInner (block_of P k.places k.locals at h o)
  block_inner k at h (op.GetStatic f) s = (tt, (getter_high f, tt))
  block_inner k at h (op.PutStatic f) s = (tt, (setter_high f, tt))
  block_inner k at h (op.GetField f c) s = (tt, (getter_high f, tt))
  block_inner k at h (op.PutField f c) s = (tt, (setter_high f, tt))
  block_inner k at h (op.LoadElement t) s = (tt, (element_getter_high (helped (array_under 1 h) t), after_inner t (array_under 1 h)))
  block_inner k at h (op.StoreElement t) s = (tt, (element_setter_high (helped (array_under _ h) t), tt))
  block_inner k at h (op.InvokeStatic m) s = (tt, (high m, tt))
  block_inner k at h (op.InvokeSpecial m) s = (tt, (high m, tt))
  block_inner k at h (op.InvokeVirtual m c) s = (tt, ((λ t to e. selects t m to s.method s.there e), tt))
  block_inner k at h (op.InvokeInterface m c) s = (tt, ((λ t to e. selects t m to s.method s.there e), tt))
  block_inner k at h (op.Context c) s = absurd s
  block_inner k at h op.GetContext s = absurd s
  block_inner k at h o s = (tt, tt)

  blocks_inner : (k : Method) (at : ℕ → ℕ) (pc : ℕ) (T : Table) (ops : List Op) → AllByRecursion (IsSourceOp P k) ops → AreInner (flat_map (block P k.places k.locals at) (typed_from pc T ops))
  blocks_inner k at pc T [] s = tt
  blocks_inner k at pc T (o ∷ ops) s = all_append (IsInnerOp Q first) (block_of P k.places k.locals at _ o) _ (block_inner k at _ o s.0) (blocks_inner k at (suc pc) T ops s.1)

  stub_inner : AreInner (op.Throw ∷ [])
  stub_inner = (tt, tt)

  copy_added : (k : Method) (T : Table) → IsSourceMethod P k → IsAddedCode (duplicate_method P k T)
  copy_added k T src = by k.ops
    where
      xs : List Typed
      xs = typed_from 0 T k.ops

      code : IsAddedCode (duplicate_code P k xs)
      code = record {
        ops = all_append (IsInnerOp Q first) (blocks P k.places k.locals xs) (op.Throw ∷ []) (blocks_inner k (block_at xs) 0 T k.ops src.each) stub_inner;
        entries = inr (record { source = k; code = xs; many = typed_length 0 T k.ops; kept = src; is = refl });
      }

      by : (os : List Op) → IsAddedCode (abstracted os (duplicate_code P k xs))
      by [] = record { ops = tt; entries = inl refl }
      by (o ∷ os) = code

  copies_added : (ks : List Method) (Us : List Table) → AllByRecursion (IsSourceMethod P) ks → AllByRecursion IsAddedCode (duplicates P ks Us)
  copies_added [] Us s = tt
  copies_added (k ∷ ks) [] s = (copy_added k [] s.0, copies_added ks [] s.1)
  copies_added (k ∷ ks) (T ∷ Us) s = (copy_added k T s.0, copies_added ks Us s.1)

  -- so is each method behind the old ones
  pub added_at : (m : ℕ) (k : Method) → first ≤ m → slice_get Q.methods m ≡ Some k → IsAddedCode k
  added_at m k le e =
      let n = old_length P 0 0 P.methods in
      let rest = accessors 0 P.fields ++ duplicates P P.methods Ts ++ helper_methods in
      let all : AllByRecursion IsAddedCode rest = all_append IsAddedCode (accessors 0 P.fields ++ duplicates P P.methods Ts) helper_methods (all_append IsAddedCode (accessors 0 P.fields) (duplicates P P.methods Ts) (accessors_added 0 P.fields) (copies_added P.methods Ts S.methods)) helpers_added in
      let whole : Q.methods ≡ old_methods P 0 0 P.methods ++ rest = simp append_assoc in
      let b = behind (old_methods P 0 0 P.methods) rest m k (omega (arith, n, le)) (ap (λ (ms : List Method). slice_get ms m) (sym whole) ∙ e) in
      all_at IsAddedCode rest b.0 k all b.1
