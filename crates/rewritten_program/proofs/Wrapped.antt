-- A class with wrappers in the places of old methods: its pool is grown, and the heads of its methods stay.
use Rattle.std.proofs.Common.{◌≡◌, ℕ, ℤ, zero, suc, ◌<◌, List, [], ◌∷◌, ◌++◌, length, map, set, Option, Some, None, Ok, Bool, refl, sym, ap, ◌∙◌, subst, arith, append_assoc, length-append}
use Rattle.std.specs.Prelude.{codes, pos, slice_get}
use Rattle.jmodel.specs.declared.name.MethodName.{MethodName}
use Rattle.jmodel.specs.format.ClassFile.{Member, Pool, ClassFile}
use Rattle.objects.specs.linking.Code.{retries_of}
use Rattle.jmodel.specs.format.PoolAdding.{add_integer, add_class, add_method}
use Rattle.jmodel.specs.format.Reading.{◌>>=◌}
use Rattle.objects.specs.semantics.Program.{Method, Program}
use Rattle.objects.specs.typing.TypeOrder.{context_class, conflict_class}
use Rattle.const_pool.proofs.Takes.{bind_ok, ok_is, fine}
use Rattle.member_code.specs.Names.{duplicate_named}
use Rattle.member_code.proofs.Grown.{Grown, grown_refl, grown_trans}
use Rattle.member_code.proofs.Puts.{Puts, Adding}
use Rattle.retry_wrapper.specs.Wrappers.{few_arguments, few_wrappers, get_call, counts_of, opening_of, ending_of, wrapper_bytes, with_code, wrapper_of, and_method, with_wrapper_of, with_wrapper}
use Rattle.retry_wrapper.specs.declared.wrappers.Ending.{Ending}
use Rattle.retry_wrapper.specs.declared.wrappers.Opening.{Opening}
use Rattle.rewriter.specs.Rewritten.{wrapped_if, number_behind, id_behind, wrapped_from}
use Rattle.rewritten_program.specs.Keeps.{IsWrapped, IsOld, AreOlds}
use Rattle.rewritten_program.proofs.Grows.{Growing, gives, then, method_grows, class_grows, integer_grows}

-- ---- one wrapper

-- it has its method's flags, name and descriptor
pub record IsSameNamed (m x : Member) : Type 0 where
  pub flags : x.flags ≡ m.flags
  pub name : x.name ≡ m.name
  pub descriptor : x.descriptor ≡ m.descriptor

-- a wrapper's numbers
counts_grow : (n attempts : ℤ) → Growing (counts_of n attempts)
unfolding counts_of
counts_grow n attempts =
    then (λ pool. add_integer pool n) (λ number pool. add_integer pool attempts >>= λ retries. Ok ((number, retries.0), retries.1)) (integer_grows n)
    (λ number. then (λ pool. add_integer pool attempts) (λ retries pool. Ok ((number, retries), pool)) (integer_grows attempts) (λ retries. gives (number, retries)))

-- the call that gives the context
get_grows : Growing get_call
unfolding get_call
get_grows = method_grows (codes "org/deuce/transaction/ContextDelegator") (codes "getInstance") (codes "()Lorg/deuce/transaction/Context;")

-- what begins an attempt
opening_grows : (n attempts : ℤ) → Growing (opening_of n attempts)
unfolding opening_of
opening_grows n attempts =
    then get_call (λ get pool. counts_of n attempts pool >>= λ counts. add_method counts.1 context_class (codes "init") (codes "(II)V") >>= λ init. Ok (opening get counts.0 init.0, init.1)) get_grows
    (λ get. then (counts_of n attempts) (λ counts pool. add_method pool context_class (codes "init") (codes "(II)V") >>= λ init. Ok (opening get counts init.0, init.1)) (counts_grow n attempts)
    (λ counts. then (λ pool. add_method pool context_class (codes "init") (codes "(II)V")) (λ init pool. Ok (opening get counts init, pool)) (method_grows context_class (codes "init") (codes "(II)V"))
    (λ init. gives (opening get counts init))))
  where
    opening : ℕ → ℕ × ℕ → ℕ → Opening
    opening get counts init = record { get = get; number = counts.0; retries = counts.1; init = init }

-- what ends an attempt
ending_grows : (d : MethodName) → Growing (ending_of d)
unfolding ending_of
ending_grows d =
    then (λ pool. add_method pool d.class d.name d.descriptor)
    (λ duplicate pool. add_method pool context_class (codes "commit") (codes "()Z") >>= λ commit. add_method commit.1 context_class (codes "rollback") (codes "()V") >>= λ rollback. add_class rollback.1 conflict_class >>= λ conflict. Ok (ending duplicate commit.0 rollback.0 conflict.0, conflict.1))
    (method_grows d.class d.name d.descriptor)
    (λ duplicate. then (λ pool. add_method pool context_class (codes "commit") (codes "()Z"))
    (λ commit pool. add_method pool context_class (codes "rollback") (codes "()V") >>= λ rollback. add_class rollback.1 conflict_class >>= λ conflict. Ok (ending duplicate commit rollback.0 conflict.0, conflict.1)) (method_grows context_class (codes "commit") (codes "()Z"))
    (λ commit. then (λ pool. add_method pool context_class (codes "rollback") (codes "()V")) (λ rollback pool. add_class pool conflict_class >>= λ conflict. Ok (ending duplicate commit rollback conflict.0, conflict.1)) (method_grows context_class (codes "rollback") (codes "()V"))
    (λ rollback. then (λ pool. add_class pool conflict_class) (λ conflict pool. Ok (ending duplicate commit rollback conflict, pool)) (class_grows conflict_class) (λ conflict. gives (ending duplicate commit rollback conflict)))))
  where
    ending : ℕ → ℕ → ℕ → ℕ → Ending
    ending duplicate commit rollback conflict = record { duplicate = duplicate; commit = commit; rollback = rollback; conflict = conflict }

-- a wrapper is added
wrapper_puts : (n : ℕ) (attempts : ℤ) (k : Method) (m : Member) → Adding (λ Z x. IsSameNamed m x) (wrapper_of n attempts k m)
unfolding wrapper_of
wrapper_puts n attempts k m pool r s e =
    let x = bind_ok (few_arguments k) (λ few. few_wrappers n >>= λ fits. opening_of (pos n) attempts pool >>= λ opening. ending_of (duplicate_named k.name) opening.1 >>= λ ending. wrapper_bytes k opening.0 ending.0 >>= λ bytes. Ok (with_code ending.1 bytes m, ending.1)) r e in
    let y = bind_ok (few_wrappers n) (λ fits. opening_of (pos n) attempts pool >>= λ opening. ending_of (duplicate_named k.name) opening.1 >>= λ ending. wrapper_bytes k opening.0 ending.0 >>= λ bytes. Ok (with_code ending.1 bytes m, ending.1)) r x.2 in
    let a = bind_ok (opening_of (pos n) attempts pool) (λ opening. ending_of (duplicate_named k.name) opening.1 >>= λ ending. wrapper_bytes k opening.0 ending.0 >>= λ bytes. Ok (with_code ending.1 bytes m, ending.1)) r y.2 in
    let b = bind_ok (ending_of (duplicate_named k.name) a.0.1) (λ ending. wrapper_bytes k a.0.0 ending.0 >>= λ bytes. Ok (with_code ending.1 bytes m, ending.1)) r a.2 in
    let c = bind_ok (wrapper_bytes k a.0.0 b.0.0) (λ bytes. Ok (with_code b.0.1 bytes m, b.0.1)) r b.2 in
    let p = opening_grows (pos n) attempts pool a.0 s a.1 in
    let q = ending_grows (duplicate_named k.name) a.0.1 b.0 p.short b.1 in
    subst (Puts (λ Z x. IsSameNamed m x) pool) (ok_is (with_code b.0.1 c.0 m, b.0.1) r c.2)
    (record { grown = grown_trans pool a.0.1 b.0.1 p.grown q.grown; short = q.short; facts = λ Z g. record { flags = refl; name = refl; descriptor = refl } })

-- ---- places

-- what stands behind a front
at_front : (xs : List Member) (m : Member) (ys : List Member) (i : ℕ) → length xs ≡ i → slice_get (xs ++ m ∷ ys) i ≡ Some m
at_front [] m ys i e = let z : 0 ≡ i = e in subst (λ (i : ℕ). slice_get (m ∷ ys) i ≡ Some m) z refl
at_front (x ∷ xs) m ys zero e = absurd (omega (arith, e))
at_front (x ∷ xs) m ys (suc i) e = at_front xs m ys i (omega (arith, e))

-- what is put there
set_front : (xs : List Member) (m w : Member) (ys : List Member) (i : ℕ) → length xs ≡ i → set (xs ++ m ∷ ys) i w ≡ xs ++ w ∷ ys
set_front [] m w ys i e = let z : 0 ≡ i = e in subst (λ (i : ℕ). set (m ∷ ys) i w ≡ w ∷ ys) z refl
set_front (x ∷ xs) m w ys zero e = absurd (omega (arith, e))
set_front (x ∷ xs) m w ys (suc i) e = ap (λ (l : List Member). x ∷ l) (set_front xs m w ys i (omega (arith, e)))

-- ---- one method of a class

-- a class with its methods in other places
abbrev with_methods : ClassFile → List Member → Pool → ClassFile
with_methods c ms pool = record c { pool = pool; methods = ms }

module _ (P : Program) (c : ClassFile) where
  -- what one step leaves of a class whose methods are a front, one method, and the rest
  record IsStep (i n id : ℕ) (m : Member) (front rest : List Member) (now next : ClassFile) : Type 0 where
    member : Member
    is : next ≡ with_methods now (front ++ member ∷ rest) next.pool
    grown : Grown now.pool next.pool
    short : length next.pool < 65535
    old : (Z : Pool) → Grown next.pool Z → IsOld P c Z i n id m member
    same : IsSameNamed m member

  -- nothing is not something
  no_some : {A : Type 0} (x : A) → None ≡ Some x → ⊥
  no_some x h = absurd cc

  -- what something is
  one_some : {A : Type 0} (x y : A) → Some x ≡ Some y → x ≡ y
  one_some x y h = cc

  module _ (i n id : ℕ) (m : Member) (front rest : List Member) (now next : ClassFile) (are : now.methods ≡ front ++ m ∷ rest) (place : length front ≡ i) (G : Grown c.pool now.pool) (short : length now.pool < 65535) where
    -- the method stays
    stays : ((Z : Pool) → IsOld P c Z i n id m m) → fine now ≡ fine next → IsStep i n id m front rest now next
    stays old e =
        let same : now ≡ with_methods now (front ++ m ∷ rest) now.pool = ap (λ (l : List Member). with_methods now l now.pool) are in
        subst (IsStep i n id m front rest now) (ok_is now next e)
        (record { member = m; is = same; grown = grown_refl now.pool; short = short; old = λ Z g. old Z; same = record { flags = refl; name = refl; descriptor = refl } })

    -- the method stands at its index
    there : slice_get now.methods i ≡ Some m
    there = ap (λ (l : List Member). slice_get l i) are ∙ at_front front m rest i place

    -- it gets a wrapper
    wrapped : (attempts : ℤ) (k : Method) → retries_of c.pool m ≡ Some attempts → slice_get P.methods n ≡ Some k → with_wrapper id attempts k now i ≡ Ok next → IsStep i n id m front rest now next
    wrapped attempts k s q e =
        let made : with_wrapper_of id attempts k now i (Some m) ≡ Ok next = ap (with_wrapper_of id attempts k now i) (sym there) ∙ e in
        let a = bind_ok (wrapper_of id attempts k m now.pool) (λ wrapper. Ok (and_method now i wrapper.0 wrapper.1)) next made in
        let p = wrapper_puts id attempts k m now.pool a.0 short a.1 in
        let is = ok_is (and_method now i a.0.0 a.0.1) next a.2 in
        let pools : next.pool ≡ a.0.1 = ap (λ (c : ClassFile). c.pool) (sym is) in
        let lists : set now.methods i a.0.0 ≡ front ++ a.0.0 ∷ rest = ap (λ (l : List Member). set l i a.0.0) are ∙ set_front front m a.0.0 rest i place in
        let written : next.methods ≡ front ++ a.0.0 ∷ rest = ap (λ (c : ClassFile). c.methods) (sym is) ∙ lists in
        record {
          member = a.0.0;
          is = sym is ∙ ap (λ (l : List Member). with_methods now l a.0.1) lists ∙ ap (with_methods now (front ++ a.0.0 ∷ rest)) (sym pools);
          grown = subst (Grown now.pool) (sym pools) p.grown;
          short = subst (λ (x : Pool). length x < 65535) (sym pools) p.short;
          old = λ Z g. record {
            kept = λ f. absurd (no_some attempts (sym f ∙ s));
            wrapped = λ b t j at. subst (λ (x : ℤ). IsWrapped c Z i id x j m a.0.0) (one_some attempts b (sym s ∙ t)) (subst (λ (y : Method). IsWrapped c Z i id attempts y m a.0.0) (one_some k j (sym q ∙ at))
                (record {
                  before = now;
                  after = next;
                  longer = (G.more, G.is);
                  short = short;
                  at = there;
                  made = e;
                  there = ap (λ (l : List Member). slice_get l i) written ∙ at_front front a.0.0 rest i place;
                  behind = (g.more, g.is);
                }));
          };
          same = p.facts a.0.1 (grown_refl a.0.1);
        }

    -- one step
    step : wrapped_if id (retries_of c.pool m) (slice_get P.methods n) now i ≡ Ok next → IsStep i n id m front rest now next
    step e = go (retries_of c.pool m) refl (slice_get P.methods n) refl e
      where
        go : (a : Option ℤ) → retries_of c.pool m ≡ a → (o : Option Method) → slice_get P.methods n ≡ o → wrapped_if id a o now i ≡ Ok next → IsStep i n id m front rest now next
        go None s o q h = stays (λ Z. record { kept = λ f. refl; wrapped = λ b t k at. absurd (no_some b (sym s ∙ t)) }) h
        go (Some attempts) s None q h = stays (λ Z. record { kept = λ f. absurd (no_some attempts (sym f ∙ s)); wrapped = λ b t k at. absurd (no_some k (sym q ∙ at)) }) h
        go (Some attempts) s (Some k) q h = wrapped attempts k s q h

  -- ---- all of them

  -- members, each with the head of one of others
  abbrev pub AreSameNamed : List (Member × Bool) → List Member → Type 0
  AreSameNamed [] [] = Unit {0}
  AreSameNamed [] (x ∷ xs) = ⊥
  AreSameNamed (m ∷ ms) [] = ⊥
  AreSameNamed (m ∷ ms) (x ∷ xs) = IsSameNamed m.0 x × AreSameNamed ms xs

  -- a class with wrappers from an index on, behind a front and before the rest of its methods
  pub record AreWrapped (i n id : ℕ) (ms : List (Member × Bool)) (front rest : List Member) (now new : ClassFile) : Type 0 where
    pub members : List Member
    pub is : new ≡ with_methods now (front ++ (members ++ rest)) new.pool
    pub grown : Grown now.pool new.pool
    pub short : length new.pool < 65535
    pub olds : (Z : Pool) → Grown new.pool Z → AreOlds P c Z i n id ms members
    pub same : AreSameNamed ms members

  abbrev pub first_of : Member × Bool → Member
  first_of m = m.0

  -- step after step
  pub all_wrapped : (i n id : ℕ) (ms : List (Member × Bool)) (front rest : List Member) (now new : ClassFile) → now.methods ≡ front ++ (map first_of ms ++ rest) → length front ≡ i → Grown c.pool now.pool → length now.pool < 65535
      → wrapped_from P c.pool i n id ms now ≡ Ok new → AreWrapped i n id ms front rest now new
  all_wrapped i n id [] front rest now new are place G short e =
      let same : now ≡ with_methods now (front ++ ([] ++ rest)) now.pool = ap (λ (l : List Member). with_methods now l now.pool) are in
      subst (AreWrapped i n id [] front rest now) (ok_is now new e) (record { members = []; is = same; grown = grown_refl now.pool; short = short; olds = λ Z g. tt; same = tt })
  all_wrapped i n id (m ∷ ms) front rest now new are place G short e =
      let a = bind_ok (wrapped_if id (retries_of c.pool m.0) (slice_get P.methods n) now i) (λ next. wrapped_from P c.pool (suc i) (number_behind m.1 n) (id_behind c.pool id m.0) ms next) new e in
      let t = step i n id m.0 front (map first_of ms ++ rest) now a.0 are place G short a.1 in
      let next_are : a.0.methods ≡ (front ++ t.member ∷ []) ++ (map first_of ms ++ rest) = ap (λ (c : ClassFile). c.methods) t.is ∙ sym (append_assoc front (t.member ∷ []) (map first_of ms ++ rest)) in
      let longer : length (front ++ t.member ∷ []) ≡ suc i = omega (arith, length-append front (t.member ∷ []), place) in
      let r = all_wrapped (suc i) (number_behind m.1 n) (id_behind c.pool id m.0) ms (front ++ t.member ∷ []) rest a.0 new next_are longer (grown_trans c.pool now.pool a.0.pool G t.grown) t.short a.2 in
      record {
        members = t.member ∷ r.members;
        is = r.is ∙ ap (λ (x : ClassFile). with_methods x ((front ++ t.member ∷ []) ++ (r.members ++ rest)) new.pool) t.is
            ∙ ap (λ (l : List Member). with_methods now l new.pool) (append_assoc front (t.member ∷ []) (r.members ++ rest));
        grown = grown_trans now.pool a.0.pool new.pool t.grown r.grown;
        short = r.short;
        olds = λ Z g. (t.old Z (grown_trans a.0.pool new.pool Z r.grown g), r.olds Z g);
        same = (t.same, r.same);
      }
