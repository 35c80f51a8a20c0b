-- What wrappers name is in every pool that is grown from the one that was left.
use Rattle.std.proofs.Common.{◌≡◌, ℕ, ℤ, ◌<◌, List, length, Ok, refl, subst}
use Rattle.std.specs.Prelude.{codes, pos}
use Rattle.jmodel.specs.declared.name.MethodName.{MethodName}
use Rattle.jmodel.specs.format.ClassFile.{Pool, Member}
use Rattle.jmodel.specs.format.Reading.{◌>>=◌}
use Rattle.objects.specs.semantics.Program.{Method}
use Rattle.objects.specs.typing.TypeOrder.{context_class, conflict_class}
use Rattle.const_pool.proofs.Takes.{bind_ok, ok_is}
use Rattle.member_code.specs.Names.{duplicate_named}
use Rattle.member_code.proofs.Grown.{Grown, grown_trans}
use Rattle.member_code.proofs.Added.{member}
use Rattle.member_code.proofs.Puts.{Puts, Adding, IsCountAt, IsMethodAt, IsClassAt, adds_integer, adds_method, adds_class}
use Rattle.retry_wrapper.specs.Wrappers.{Opening, Ending, few_arguments, few_wrappers, get_call, counts_of, opening_of, ending_of, wrapper_bytes, with_code, wrapper_of}

pub record IsOpening (n : ℕ) (attempts : ℤ) (Z : Pool) (a : Opening) : Type 0 where
  pub get : IsMethodAt (member (codes "org/deuce/transaction/ContextDelegator") (codes "getInstance") (codes "()Lorg/deuce/transaction/Context;")) Z a.get
  pub number : IsCountAt (pos n) Z a.number
  pub retries : IsCountAt attempts Z a.retries
  pub init : IsMethodAt (member context_class (codes "init") (codes "(II)V")) Z a.init

abbrev CountsAt : ℤ → ℤ → Pool → ℕ × ℕ → Type 0
CountsAt n attempts Z p = IsCountAt n Z p.0 × IsCountAt attempts Z p.1

counts_put : (n attempts : ℤ) → Adding (CountsAt n attempts) (counts_of n attempts)
unfolding counts_of
counts_put n attempts pool r s e =
    let a = bind_ok _ _ r e in
    let b = bind_ok _ _ r a.2 in
    let p = adds_integer n pool a.0 s a.1 in
    let q = adds_integer attempts a.0.1 b.0 p.short b.1 in
    subst (Puts (CountsAt n attempts) pool) (ok_is ((a.0.0, b.0.0), b.0.1) r b.2)
    (record { grown = grown_trans pool a.0.1 b.0.1 p.grown q.grown; short = q.short; facts = λ Z g. (p.facts Z (grown_trans a.0.1 b.0.1 Z q.grown g), q.facts Z g) })

pub opening_puts : (n : ℕ) (attempts : ℤ) → Adding (IsOpening n attempts) (opening_of (pos n) attempts)
unfolding opening_of get_call
opening_puts n attempts pool r s e =
    let a = bind_ok _ _ r e in
    let b = bind_ok _ _ r a.2 in
    let d = bind_ok _ _ r b.2 in
    let p = adds_method (codes "org/deuce/transaction/ContextDelegator") (codes "getInstance") (codes "()Lorg/deuce/transaction/Context;") pool a.0 s a.1 in
    let q = counts_put (pos n) attempts a.0.1 b.0 p.short b.1 in
    let u = adds_method context_class (codes "init") (codes "(II)V") b.0.1 d.0 q.short d.1 in
    let qu = grown_trans a.0.1 b.0.1 d.0.1 q.grown u.grown in
    subst (Puts (IsOpening n attempts) pool) (ok_is (record { get = a.0.0; number = b.0.0.0; retries = b.0.0.1; init = d.0.0 }, d.0.1) r d.2)
    (record {
      grown = grown_trans pool a.0.1 d.0.1 p.grown qu;
      short = u.short;
      facts = λ Z g. let counts = q.facts Z (grown_trans b.0.1 d.0.1 Z u.grown g) in record {
        get = p.facts Z (grown_trans a.0.1 d.0.1 Z qu g);
        number = counts.0;
        retries = counts.1;
        init = u.facts Z g;
      };
    })

pub record IsEnding (name : MethodName) (Z : Pool) (e : Ending) : Type 0 where
  pub duplicate : IsMethodAt (member name.class name.name name.descriptor) Z e.duplicate
  pub commit : IsMethodAt (member context_class (codes "commit") (codes "()Z")) Z e.commit
  pub rollback : IsMethodAt (member context_class (codes "rollback") (codes "()V")) Z e.rollback
  pub conflict : IsClassAt conflict_class Z e.conflict

pub ending_puts : (name : MethodName) → Adding (IsEnding name) (ending_of name)
unfolding ending_of
ending_puts name pool r s e =
    let a = bind_ok _ _ r e in
    let b = bind_ok _ _ r a.2 in
    let c = bind_ok _ _ r b.2 in
    let d = bind_ok _ _ r c.2 in
    let p = adds_method name.class name.name name.descriptor pool a.0 s a.1 in
    let q = adds_method context_class (codes "commit") (codes "()Z") a.0.1 b.0 p.short b.1 in
    let t = adds_method context_class (codes "rollback") (codes "()V") b.0.1 c.0 q.short c.1 in
    let u = adds_class conflict_class c.0.1 d.0 t.short d.1 in
    let tu = grown_trans b.0.1 c.0.1 d.0.1 t.grown u.grown in
    let qtu = grown_trans a.0.1 b.0.1 d.0.1 q.grown tu in
    subst (Puts (IsEnding name) pool) (ok_is (record { duplicate = a.0.0; commit = b.0.0; rollback = c.0.0; conflict = d.0.0 }, d.0.1) r d.2)
    (record {
      grown = grown_trans pool a.0.1 d.0.1 p.grown qtu;
      short = u.short;
      facts = λ Z g. record {
        duplicate = p.facts Z (grown_trans a.0.1 d.0.1 Z qtu g);
        commit = q.facts Z (grown_trans b.0.1 d.0.1 Z tu g);
        rollback = t.facts Z (grown_trans c.0.1 d.0.1 Z u.grown g);
        conflict = u.facts Z g;
      };
    })

-- a wrapper, as it was made
pub record IsWrapper (n : ℕ) (attempts : ℤ) (k : Method) (m : Member) (pool : Pool) (r : Member × Pool) : Type 0 where
  pub opening : Opening
  pub ending : Ending
  pub bytes : List ℕ
  pub few : few_arguments k ≡ Ok tt
  pub number : few_wrappers n ≡ Ok tt
  pub laid : wrapper_bytes k opening ending ≡ Ok bytes
  pub is : r.0 ≡ with_code r.1 bytes m
  pub grown : Grown pool r.1
  pub opens : (Z : Pool) → Grown r.1 Z → IsOpening n attempts Z opening
  pub ends : (Z : Pool) → Grown r.1 Z → IsEnding (duplicate_named k.name) Z ending

pub wrapper_made : (n : ℕ) (attempts : ℤ) (k : Method) (m : Member) (pool : Pool) (r : Member × Pool) → length pool < 65535 → wrapper_of n attempts k m pool ≡ Ok r → IsWrapper n attempts k m pool r
unfolding wrapper_of
wrapper_made n attempts k m pool r s e =
    let x = bind_ok (few_arguments k) (λ few. few_wrappers n >>= λ fits. opening_of (pos n) attempts pool >>= λ opening. ending_of (duplicate_named k.name) opening.1 >>= λ ending. wrapper_bytes k opening.0 ending.0 >>= λ bytes. Ok (with_code ending.1 bytes m, ending.1)) r e in
    let y = bind_ok (few_wrappers n) (λ fits. opening_of (pos n) attempts pool >>= λ opening. ending_of (duplicate_named k.name) opening.1 >>= λ ending. wrapper_bytes k opening.0 ending.0 >>= λ bytes. Ok (with_code ending.1 bytes m, ending.1)) r x.2 in
    let a = bind_ok (opening_of (pos n) attempts pool) (λ opening. ending_of (duplicate_named k.name) opening.1 >>= λ ending. wrapper_bytes k opening.0 ending.0 >>= λ bytes. Ok (with_code ending.1 bytes m, ending.1)) r y.2 in
    let b = bind_ok (ending_of (duplicate_named k.name) a.0.1) (λ ending. wrapper_bytes k a.0.0 ending.0 >>= λ bytes. Ok (with_code ending.1 bytes m, ending.1)) r a.2 in
    let c = bind_ok (wrapper_bytes k a.0.0 b.0.0) (λ bytes. Ok (with_code b.0.1 bytes m, b.0.1)) r b.2 in
    let p = opening_puts n attempts pool a.0 s a.1 in
    let q = ending_puts (duplicate_named k.name) a.0.1 b.0 p.short b.1 in
    subst (IsWrapper n attempts k m pool) (ok_is (with_code b.0.1 c.0 m, b.0.1) r c.2)
    (record {
      opening = a.0.0;
      ending = b.0.0;
      bytes = c.0;
      few = x.1;
      number = y.1;
      laid = c.1;
      is = refl;
      grown = grown_trans pool a.0.1 b.0.1 p.grown q.grown;
      opens = λ Z g. p.facts Z (grown_trans a.0.1 b.0.1 Z q.grown g);
      ends = λ Z g. q.facts Z g;
    })
