-- Exception entries of a duplicate: they stand over the blocks of what they stood over, in the same order of places.
use Rattle.std.proofs.Common.{◌≡◌, ℕ, ◌+◌, ◌<◌, ◌≤◌, Bool, true, false, ◌||◌, List, [], ◌∷◌, ◌++◌, length, map, Option, Some, None, refl, sym, ap, ◌∙◌, arith, ◌⊎◌, inl, inr, length-append, eq-eqb}
use Rattle.std.specs.Prelude.{if◌then◌else◌, nat_eq, ◌==◌, option_map, IsSome}
use Rattle.std.specs.List.{AllByRecursion}
use Rattle.std.proofs.lemmas.Bool.{eqb-true, ne_eqb}
use Rattle.jmodel.specs.declared.class_file.Handler.{Handler}
use Rattle.jmodel.specs.declared.instruction.Instr.{Instr}
use Rattle.jmodel.specs.format.ClassFile.{Pool}
use Rattle.jmodel.specs.format.Pool.{class_name}
use Rattle.jmodel.specs.format.ClassRules.{IsHandler}
use Rattle.objects.specs.linking.Code.{number_at}
use Rattle.objects.specs.linking.Each.{in_front, each}
use Rattle.jmodel.specs.format.Relocation.{Block, all_instrs, size_at, behind, place_from, place_of, end_of, relocated, moved, moved_handlers, EachInstr, IsShaped, is_pc, IsAbove, AscendFrom, IsHandlerOver}
use Rattle.bytecode.specs.Relocated.{HaveInstrs, number_of}
use Rattle.bytecode.proofs.SizeLaws.{behind_over}
use Rattle.bytecode.proofs.LaidLaws.{some_size, place_over, place_is, place_above}
use Rattle.objects.specs.declared.op.Catch.{Catch}
use Rattle.objects.specs.declared.op.Catches.{Catches}
use Rattle.objects.specs.declared.op.Catches.TheVariants.{Conflict, Any}
use Rattle.objects.specs.typing.TypeOrder.{conflict_class}
use Rattle.objects.specs.linking.Decoding.{end_at, catches_named, catches_of, make_catch, catch_of}
use Rattle.objects.specs.rewriting.Rewriting.{moved_catch, catch}
use Rattle.member_code.proofs.Grown.{Grown, class_grown}
use Rattle.dup_methods.specs.Duplicates.{stub}

-- ---- places ascend

-- a pc of blocks is none below their first
pc_above : (n : ℕ) (bs : List Block) (t : ℕ) → AscendFrom n bs → is_pc bs t ≡ true → n ≤ t
pc_above n [] t a h = absurd cc
pc_above n (b ∷ bs) t a h = go (b.pc == t) refl h (pc_above (b.pc + 1) bs t a.1)
  where
    go : (x : Bool) → (b.pc == t) ≡ x → (x || is_pc bs t) ≡ true → (is_pc bs t ≡ true → b.pc + 1 ≤ t) → n ≤ t
    go true e h more = omega (arith, a.0, eqb-true b.pc t e)
    go false e h more = omega (arith, a.0, more h)

-- no block stands before the first place
from_over : (at : ℕ) (bs : List Block) (t : ℕ) → at ≤ place_from at bs t
from_over at [] t = omega arith
from_over at (b ∷ bs) t = go (b.pc == t) (from_over (behind at b.instrs) bs t)
  where
    go : (x : Bool) → behind at b.instrs ≤ place_from (behind at b.instrs) bs t → at ≤ (if x then at else place_from (behind at b.instrs) bs t)
    go true h = omega arith
    go false h = omega (arith, h, behind_over at b.instrs)

-- instructions take room
pub behind_some : (at : ℕ) (is : List Instr) → AllByRecursion IsShaped is → 0 < length is → at < behind at is
behind_some at [] h some = absurd (omega arith)
behind_some at (i ∷ is) h some = omega (arith, some_size at i h.0, behind_over (at + size_at at i) is)

-- what a later pc leads to stands later
place_less : (at n : ℕ) (bs : List Block) (t u : ℕ) → AscendFrom n bs → HaveInstrs bs → EachInstr IsShaped bs → is_pc bs t ≡ true → t < u → place_from at bs t < place_from at bs u
place_less at n [] t u a some shaped h less = absurd cc
place_less at n (b ∷ bs) t u a some shaped h less = go (b.pc == t) refl (b.pc == u) refl h (pc_above (b.pc + 1) bs t a.1) (place_less (behind at b.instrs) (b.pc + 1) bs t u a.1 some.1 shaped.1)
  where
    go : (x : Bool) → (b.pc == t) ≡ x → (y : Bool) → (b.pc == u) ≡ y → (x || is_pc bs t) ≡ true → (is_pc bs t ≡ true → b.pc + 1 ≤ t)
        → (is_pc bs t ≡ true → t < u → place_from (behind at b.instrs) bs t < place_from (behind at b.instrs) bs u)
        → (if x then at else place_from (behind at b.instrs) bs t) < (if y then at else place_from (behind at b.instrs) bs u)
    go true e true f h up more = absurd (omega (arith, eqb-true b.pc t e, eqb-true b.pc u f, less))
    go true e false f h up more = omega (arith, behind_some at b.instrs shaped.0 some.0, from_over (behind at b.instrs) bs u)
    go false e true f h up more = absurd (omega (arith, up h, eqb-true b.pc u f, less))
    go false e false f h up more = more h less

-- ---- the rules of entries

module _ (pool Z : Pool) (G : Grown pool Z) (bs : List Block) (ascend : AscendFrom 0 bs) (some : HaveInstrs bs) (shaped : EachInstr IsShaped bs) (len long : ℕ) (whole : long ≡ end_of bs + 1) where
  moved_rule : (h : Handler) → IsHandler pool len h → IsHandlerOver bs h → IsHandler Z long (moved (place_of bs) h)
  moved_rule h r o = record {
    some = place_less 0 0 bs h.start h.end ascend some shaped o.start r.some;
    inside = omega (arith, whole, place_over 0 bs h.end);
    target = omega (arith, whole, place_over 0 bs h.handler);
    catches = by r.catches;
    class = r.class;
  }
    where
      there : (o p : Option (List ℕ)) → ((x : List ℕ) → o ≡ Some x → p ≡ Some x) → IsSome o → IsSome p
      there None p same h = absurd cc
      there (Some x) p same h = let e = same x refl in rw e refl

      by : (h.catch_type ≡ 0) ⊎ IsSome (class_name pool h.catch_type) → (h.catch_type ≡ 0) ⊎ IsSome (class_name Z h.catch_type)
      by (inl e) = inl e
      by (inr k) = inr (there (class_name pool h.catch_type) (class_name Z h.catch_type) (class_grown pool Z G h.catch_type) k)

  pub moved_rules : (hs : List Handler) → AllByRecursion (IsHandler pool len) hs → AllByRecursion (IsHandlerOver bs) hs → AllByRecursion (IsHandler Z long) (map (moved (place_of bs)) hs)
  moved_rules [] r o = tt
  moved_rules (h ∷ hs) r o = (moved_rule h r.0 o.0, moved_rules hs r.1 o.1)

-- ---- what entries mean

-- the parts of an entry that means something
record IsCatch (pool : Pool) (is : List Instr) (len : ℕ) (h : Handler) (c : Catch) : Type 0 where
  from : number_at is h.start ≡ Some c.from
  to : end_at is len h.end ≡ Some c.to
  at : number_at is h.handler ≡ Some c.at
  catches : catches_of pool h.catch_type ≡ Some c.catches

-- the parts of the meaning of an entry
catch_parts : (pool : Pool) (is : List Instr) (len : ℕ) (h : Handler) (c : Catch) → catch_of pool is len h ≡ Some c → IsCatch pool is len h c
catch_parts pool is len h c e = go (number_at is h.start) refl (end_at is len h.end) refl (number_at is h.handler) refl (catches_of pool h.catch_type) refl e
  where
    go : (f : Option ℕ) → number_at is h.start ≡ f → (t : Option ℕ) → end_at is len h.end ≡ t → (a : Option ℕ) → number_at is h.handler ≡ a → (k : Option Catches) → catches_of pool h.catch_type ≡ k → make_catch f t a k ≡ Some c → IsCatch pool is len h c
    go (Some f) p (Some t) q (Some a) r (Some k) u e =
        let same : catch f t a k ≡ c = cc in
        record { from = p ∙ ap (λ (x : Catch). Some x.from) same; to = q ∙ ap (λ (x : Catch). Some x.to) same; at = r ∙ ap (λ (x : Catch). Some x.at) same; catches = u ∙ ap (λ (x : Catch). Some x.catches) same }
    go None p t q a r k u e = cc
    go (Some f) p None q a r k u e = cc
    go (Some f) p (Some t) q None r k u e = cc
    go (Some f) p (Some t) q (Some a) r None u e = cc

-- what an entry catches stays in a longer pool
catches_stay : (pool Z : Pool) → Grown pool Z → (i : ℕ) (k : Catches) → catches_of pool i ≡ Some k → catches_of Z i ≡ Some k
catches_stay pool Z G i k e = go (i == 0) (class_name pool i) refl e
  where
    go : (b : Bool) (o : Option (List ℕ)) → class_name pool i ≡ o → (if b then Some Any else option_map catches_named o) ≡ Some k → (if b then Some Any else option_map catches_named (class_name Z i)) ≡ Some k
    go true o q e = e
    go false None q e = cc
    go false (Some n) q e = let there = class_grown pool Z G i n q in rw there e

-- an entry of parts that are known
make_is : (f t a : Option ℕ) (k : Option Catches) (x y z : ℕ) (w : Catches) → f ≡ Some x → t ≡ Some y → a ≡ Some z → k ≡ Some w → make_catch f t a k ≡ Some (catch x y z w)
make_is f t a k x y z w p q r u = rw (p, q, r, u) refl

-- in code whose targets lead to the blocks of what they led to
module _ (pool Z : Pool) (G : Grown pool Z) (is0 : List Instr) (bs : List Block) (shaped : EachInstr IsShaped bs) (at : ℕ → ℕ) (len long : ℕ) (whole : long ≡ end_of bs + 1)
    (leads : (t n : ℕ) → number_at is0 t ≡ Some n → number_at (relocated bs stub) (place_of bs t) ≡ Some (at n)) (last : IsAbove bs len) (many : length (all_instrs bs) ≡ at (length is0)) where
  inside : (t : ℕ) → nat_eq (place_of bs t) long ≡ false
  inside t = ne_eqb (place_of bs t) long (λ e. omega (arith, e, whole, place_over 0 bs t))

  stub_shaped : AllByRecursion IsShaped stub
  stub_shaped = (record { op = omega arith; operands = tt }, tt)

  -- behind all blocks the stub stands
  end_stands : number_at (relocated bs stub) (place_of bs len) ≡ Some (at (length is0))
  end_stands =
      let p = place_above 0 bs len last in
      let small : number_of bs len < length (all_instrs bs ++ stub) = omega (arith, p.1, length-append (all_instrs bs) stub) in
      place_is bs stub len shaped stub_shaped small ∙ ap (λ (n : ℕ). Some n) (p.1 ∙ many)

  end_moved : (t n : ℕ) → end_at is0 len t ≡ Some n → end_at (relocated bs stub) long (place_of bs t) ≡ Some (at n)
  end_moved t n e = let out = inside t in rw out (go (nat_eq t len) refl e)
    where
      go : (b : Bool) → nat_eq t len ≡ b → (if b then Some (length is0) else number_at is0 t) ≡ Some n → number_at (relocated bs stub) (place_of bs t) ≡ Some (at n)
      go true q h = let n_is : length is0 ≡ n = cc in ap (λ (x : ℕ). number_at (relocated bs stub) (place_of bs x)) (eqb-true t len q) ∙ end_stands ∙ ap (λ (x : ℕ). Some (at x)) n_is
      go false q h = leads t n h

  one_moved : (h : Handler) (c : Catch) → catch_of pool is0 len h ≡ Some c → catch_of Z (relocated bs stub) long (moved (place_of bs) h) ≡ Some (moved_catch at c)
  one_moved h c e =
      let p = catch_parts pool is0 len h c e in
      make_is (number_at (relocated bs stub) (place_of bs h.start)) (end_at (relocated bs stub) long (place_of bs h.end)) (number_at (relocated bs stub) (place_of bs h.handler)) (catches_of Z h.catch_type) (at c.from) (at c.to) (at c.at) c.catches
      (leads h.start c.from p.from) (end_moved h.end c.to p.to) (leads h.handler c.at p.at) (catches_stay pool Z G h.catch_type c.catches p.catches)

  pub all_moved : (hs : List Handler) (cs : List Catch) → each (catch_of pool is0 len) hs ≡ Some cs → each (catch_of Z (relocated bs stub) long) (map (moved (place_of bs)) hs) ≡ Some (map (moved_catch at) cs)
  all_moved [] cs e = let none : cs ≡ [] = cc in rw none refl
  all_moved (h ∷ hs) cs e = go (catch_of pool is0 len h) refl (each (catch_of pool is0 len) hs) refl e (λ ds q. all_moved hs ds q)
    where
      go : (o : Option Catch) → catch_of pool is0 len h ≡ o → (r : Option (List Catch)) → each (catch_of pool is0 len) hs ≡ r → in_front o r ≡ Some cs
          → ((ds : List Catch) → each (catch_of pool is0 len) hs ≡ Some ds → each (catch_of Z (relocated bs stub) long) (map (moved (place_of bs)) hs) ≡ Some (map (moved_catch at) ds))
          → each (catch_of Z (relocated bs stub) long) (map (moved (place_of bs)) (h ∷ hs)) ≡ Some (map (moved_catch at) cs)
      go None q r t f more = cc
      go (Some c) q None t f more = cc
      go (Some c) q (Some ds) t f more =
          let list : cs ≡ c ∷ ds = cc in
          let first = one_moved h c q in
          let rest = more ds t in
          rw (list, first, rest) refl

  -- the entry of a conflict, over all blocks
  module _ (conflict : ℕ) (named : class_name Z conflict ≡ Some conflict_class) (positive : 0 < conflict) (some : 0 < length bs) where
    starts : number_at (relocated bs stub) 0 ≡ Some 0
    starts = by_first bs refl
      where
        first_place : (b : Block) (cs : List Block) → bs ≡ b ∷ cs → (place_of bs b.pc ≡ 0) × (number_of bs b.pc ≡ 0)
        first_place b cs e = let q : (b.pc == b.pc) ≡ true = eq-eqb b.pc b.pc refl in (ap (λ (l : List Block). place_of l b.pc) e ∙ rw q refl, ap (λ (l : List Block). number_of l b.pc) e ∙ rw q refl)

        by_first : (l : List Block) → bs ≡ l → number_at (relocated bs stub) 0 ≡ Some 0
        by_first [] e = absurd (omega (arith, some, ap length e))
        by_first (b ∷ cs) e =
            let p = first_place b cs e in
            let small : number_of bs b.pc < length (all_instrs bs ++ stub) = omega (arith, p.1, length-append (all_instrs bs) stub) in
            ap (number_at (relocated bs stub)) (sym p.0) ∙ place_is bs stub b.pc shaped stub_shaped small ∙ ap (λ (n : ℕ). Some n) p.1

    first_means : catch_of Z (relocated bs stub) long (record { start = 0; end = end_of bs; handler = end_of bs; catch_type = conflict }) ≡ Some (catch 0 (at (length is0)) (at (length is0)) Conflict)
    first_means =
        let p = place_above 0 bs len last in
        let here : number_at (relocated bs stub) (end_of bs) ≡ Some (at (length is0)) = ap (number_at (relocated bs stub)) (sym p.0) ∙ end_stands in
        let out : nat_eq (end_of bs) long ≡ false = ne_eqb (end_of bs) long (λ e. omega (arith, e, whole)) in
        let class : (conflict == 0) ≡ false = ne_eqb conflict 0 (λ e. omega (arith, e, positive)) in
        let end : end_at (relocated bs stub) long (end_of bs) ≡ Some (at (length is0)) = rw out here in
        let caught : catches_of Z conflict ≡ Some Conflict = rw class (ap (option_map catches_named) named) in
        make_is (number_at (relocated bs stub) 0) (end_at (relocated bs stub) long (end_of bs)) (number_at (relocated bs stub) (end_of bs)) (catches_of Z conflict) 0 (at (length is0)) (at (length is0)) Conflict starts end here caught

    -- all entries of the duplicate
    pub entries_mean : (hs : List Handler) (cs : List Catch) → each (catch_of pool is0 len) hs ≡ Some cs
        → each (catch_of Z (relocated bs stub) long) (moved_handlers bs hs (Some conflict)) ≡ Some (catch 0 (at (length is0)) (at (length is0)) Conflict ∷ map (moved_catch at) cs)
    entries_mean hs cs e = let first = first_means in let rest = all_moved hs cs e in rw first (rw rest refl)
