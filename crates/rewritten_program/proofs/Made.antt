-- The rewriting of a class, step after step, and what it keeps of the class.
use Rattle.std.proofs.Common.{◌≡◌, ◌<◌, List, [], ◌∷◌, ◌++◌, length, map, Ok, Bool, refl, sym, ap, ◌∙◌, arith, append_assoc}
use Rattle.std.specs.Prelude.{zip}
use Rattle.std.specs.List.{AllByRecursion, AllZip}
use Rattle.jmodel.specs.format.ClassFile.{Member, ClassFile}
use Rattle.jmodel.specs.format.Reading.{◌>>=◌}
use Rattle.objects.specs.semantics.Program.{Method, Program}
use Rattle.objects.specs.typing.Typing.{Table}
use Rattle.const_pool.proofs.Takes.{bind_ok}
use Rattle.member_code.proofs.Grown.{Grown, grown_refl, grown_trans}
use Rattle.field_members.specs.Fields.{with_fields}
use Rattle.field_members.specs.Accessors.{with_accessors}
use Rattle.dup_methods.specs.Originals.{Original}
use Rattle.rewriter.specs.Part.{Share}
use Rattle.rewriter.specs.Rewritten.{originals, with_duplicates, wrapped_from, rewritten_share}
use Rattle.rewritten_names.specs.Heads.{heads, accessor_heads}
use Rattle.rewritten_program.specs.Keeps.{Keeps}
use Rattle.rewritten_program.proofs.Addresses.{IsAddedAt, IsFielded, fielded}
use Rattle.rewritten_program.proofs.Accessing.{IsAccessed, accessed}
use Rattle.rewritten_program.proofs.Copying.{IsCopied, AreOf, IsDuplicated, duplicated}
use Rattle.rewritten_program.proofs.Wrapped.{AreSameNamed, AreWrapped, first_of, all_wrapped}

-- a class's rewriting, with the heads of what was added
pub record IsRewriting (P : Program) (c d : ClassFile) (share : Share) (Ts : List Table) : Type 0 where
  pub keeps : Keeps P c d share Ts
  pub added : List Member
  pub fields : d.fields ≡ c.fields ++ added
  pub reserved : AllByRecursion (IsAddedAt d.pool) added
  pub accessors : heads d.pool keeps.accessors ≡ accessor_heads share.fields
  pub copied : AllZip (λ (O : Original) (m : Member). IsCopied O d.pool m) (originals P c (zip share.methods share.members) Ts) keeps.copies
  pub same : AreSameNamed P c (zip c.methods share.flags) keeps.olds
  pub short : length d.pool < 65535

-- originals of a class
all_of : (P : Program) (c : ClassFile) (ps : List (Method × Member)) (Ts : List Table) → AreOf c (originals P c ps Ts)
all_of P c [] Ts = tt
all_of P c (p ∷ ps) [] = (refl, all_of P c ps [])
all_of P c (p ∷ ps) (T ∷ Ts) = (refl, all_of P c ps Ts)

-- the first of pairs
pub firsts : (ms : List Member) (bs : List Bool) → length bs ≡ length ms → map (λ (m : Member × Bool). m.0) (zip ms bs) ≡ ms
firsts [] bs e = refl
firsts (m ∷ ms) [] e = absurd (omega (arith, e))
firsts (m ∷ ms) (b ∷ bs) e = ap (λ (l : List Member). m ∷ l) (firsts ms bs (omega (arith, e)))

module _ (P : Program) (c d : ClassFile) (share : Share) (Ts : List Table) (short : length c.pool < 65535) (flags : length share.flags ≡ length c.methods) where
  -- the originals of the class
  abbrev os : List Original
  os = originals P c (zip share.methods share.members) Ts

  module _ (x y z : ClassFile) (e : with_fields share.fields c ≡ Ok x) (f : with_accessors share.fields x ≡ Ok y) (g : with_duplicates os y ≡ Ok z)
      (h : wrapped_from P c.pool 0 share.first share.wrapper (zip c.methods share.flags) z ≡ Ok d) (X : IsFielded c x) (Y : IsAccessed share.fields x y) (G : Grown c.pool y.pool) (Z : IsDuplicated os y z) where
    -- added fields leave the methods
    methods_x : x.methods ≡ c.methods
    methods_x = ap (λ (c : ClassFile). c.methods) X.is

    -- accessors stand behind them
    methods_y : y.methods ≡ c.methods ++ Y.members
    methods_y = ap (λ (c : ClassFile). c.methods) Y.is ∙ ap (λ (l : List Member). l ++ Y.members) methods_x

    -- and then the duplicates
    methods_z : z.methods ≡ [] ++ (map (first_of P c) (zip c.methods share.flags) ++ (Y.members ++ Z.members))
    methods_z =
        ap (λ (c : ClassFile). c.methods) Z.is ∙ ap (λ (l : List Member). l ++ Z.members) methods_y ∙ append_assoc c.methods Y.members Z.members
        ∙ ap (λ (l : List Member). l ++ (Y.members ++ Z.members)) (sym (firsts c.methods share.flags flags))

    -- what wrapping leaves
    abbrev Rest : Type 0
    Rest = AreWrapped P c 0 share.first share.wrapper (zip c.methods share.flags) [] (Y.members ++ Z.members) z d

    -- all steps together
    finished : Grown c.pool z.pool → Rest → IsRewriting P c d share Ts
    finished Gz W =
        record {
          keeps = record {
            fielded = x;
            addresses = e;
            begins = record { pool = (to_x.more, to_x.is); fields = ([], fields_d ∙ more_none x.fields) };
            fielded_methods = methods_x;
            fielded_short = X.short;
            accessed = y;
            getters = f;
            accessors = Y.members;
            accessed_methods = methods_y;
            accessed_longer = (to_y.more, to_y.is);
            copies = Z.members;
            are_copies = Z.copies d.pool W.grown;
            olds = W.members;
            are_olds = W.olds d.pool (grown_refl d.pool);
            methods = ap (λ (c : ClassFile). c.methods) W.is;
            longer = (all.more, all.is);
            this_class = of_d (λ (c : ClassFile). c.this_class) refl refl refl refl;
            super_class = of_d (λ (c : ClassFile). c.super_class) refl refl refl refl;
            interfaces = of_d (λ (c : ClassFile). c.interfaces) refl refl refl refl;
            flags = of_d (λ (c : ClassFile). c.flags) refl refl refl refl;
          };
          added = X.members;
          fields = fields_d ∙ ap (λ (c : ClassFile). c.fields) X.is;
          reserved = X.added d.pool to_x;
          accessors = Y.heads_are d.pool to_y;
          copied = Z.facts d.pool W.grown;
          same = W.same;
          short = W.short;
        }
      where
        all : Grown c.pool d.pool
        all = grown_trans c.pool z.pool d.pool Gz W.grown

        to_y : Grown y.pool d.pool
        to_y = grown_trans y.pool z.pool d.pool Z.grown W.grown

        to_x : Grown x.pool d.pool
        to_x = grown_trans x.pool y.pool d.pool Y.grown to_y

        fields_d : d.fields ≡ x.fields
        fields_d = ap (λ (c : ClassFile). c.fields) W.is ∙ ap (λ (c : ClassFile). c.fields) Z.is ∙ ap (λ (c : ClassFile). c.fields) Y.is

        more_none : (l : List Member) → l ≡ l ++ []
        more_none [] = refl
        more_none (m ∷ l) = ap (λ (k : List Member). m ∷ k) (more_none l)

        -- what no step changes
        of_d : {A : Type 0} (get : ClassFile → A) → get (record z { pool = d.pool; methods = [] ++ (W.members ++ (Y.members ++ Z.members)) }) ≡ get z → get (record y { pool = z.pool; methods = y.methods ++ Z.members }) ≡ get y
            → get (record x { pool = y.pool; methods = x.methods ++ Y.members }) ≡ get x → get (record c { pool = x.pool; fields = c.fields ++ X.members }) ≡ get c → get d ≡ get c
        of_d get a b k l = ap get W.is ∙ a ∙ ap get Z.is ∙ b ∙ ap get Y.is ∙ k ∙ ap get X.is ∙ l

    -- the steps with their facts
    whole : IsRewriting P c d share Ts
    whole =
        let Gz = grown_trans c.pool y.pool z.pool G Z.grown in
        finished Gz (all_wrapped P c 0 share.first share.wrapper (zip c.methods share.flags) [] (Y.members ++ Z.members) z d methods_z refl Gz Z.short h)

  -- from the definition
  pub rewriting : rewritten_share P c share Ts ≡ Ok d → IsRewriting P c d share Ts
  rewriting e =
      let a = bind_ok (with_fields share.fields c) (λ fields. with_accessors share.fields fields >>= λ accessors. with_duplicates os accessors >>= λ copies. wrapped_from P c.pool 0 share.first share.wrapper (zip c.methods share.flags) copies) d e in
      let b = bind_ok (with_accessors share.fields a.0) (λ accessors. with_duplicates os accessors >>= λ copies. wrapped_from P c.pool 0 share.first share.wrapper (zip c.methods share.flags) copies) d a.2 in
      let k = bind_ok (with_duplicates os b.0) (λ copies. wrapped_from P c.pool 0 share.first share.wrapper (zip c.methods share.flags) copies) d b.2 in
      let X = fielded share.fields c a.0 short a.1 in
      let Y = accessed share.fields a.0 b.0 X.short b.1 in
      let G = grown_trans c.pool a.0.pool b.0.pool X.grown Y.grown in
      let Z = duplicated c os b.0 k.0 (all_of P c (zip share.methods share.members) Ts) G Y.short k.1 in
      whole a.0 b.0 k.0 a.1 b.1 k.1 k.2 X Y G Z
