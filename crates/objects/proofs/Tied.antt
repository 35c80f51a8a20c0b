-- Frames of original code, and those of duplicates over the call of a wrapper.
use Rattle.std.proofs.Common.{◌≡◌, ℕ, ◌+◌, ◌<◌, ◌≤◌, List, [], ◌∷◌, length, Option, Some, None, Bool, true, false, cond, refl, sym, ap, subst, ◌∙◌, arith, ◌&&◌, nat_le}
use Rattle.std.specs.Prelude.{slice_get, nat_eq, nat_lt, option_map, if◌then◌else◌}
use Rattle.std.proofs.lemmas.List.Sums.{sum_by-cons}
use Rattle.jmodel.specs.declared.typing.VType.{VType}
use Rattle.objects.specs.declared.op.Slot.{Slot}
use Rattle.objects.specs.declared.op.Slot.TheVariants.{Ref}
use Rattle.objects.specs.declared.op.Catch.{Catch}
use Rattle.objects.specs.declared.op.Op.{Op}
use Rattle.objects.specs.declared.op.Op.TheVariants as op
use Rattle.objects.specs.declared.op.Asking.TheVariants as asking
use Rattle.objects.specs.semantics.Program.{Method, Program, method_at, has_code, is_counted, is_counted_in}
use Rattle.objects.specs.typing.Typing.{Types, Table, types_at, Flow, Leads, Wrong, is_guarded, AreCaught, flow, KeepsFlow, KeepsAt, IsTyping}
use Rattle.objects.specs.laws.TypingLaw.{IsTypedProgram}
use Rattle.objects.specs.typing.Source.{IsSourceMethod}
use Rattle.objects.specs.semantics.Step.{Frame, Frames, Asked, Asks, goes, takes, find_catch, catch_at, caught, unwinds, depth}
use Rattle.objects.specs.rewriting.Rewriting.{Typed, typed_from, block_len_of, block_at, duplicate, duplicate_code}
use Rattle.objects.proofs.Frames.{frame}
use Rattle.objects.proofs.Fields.{each_at}
use Rattle.objects.proofs.Places.{Rewrites, typed_at, typed_length, has_duplicate}
use Rattle.objects.proofs.Agreeing.{Agree, agree_within}
use Rattle.objects.proofs.Alike.{Stands, IsCallOp}
use Rattle.objects.proofs.Caught.{same_le, duplicate_finds}
use Rattle.objects.proofs.Above.{AboveCall, call, inner}
use Rattle.objects.proofs.Lost.{IsSet}

pub call_len : (h : Option Types) (o : Op) → IsCallOp o → block_len_of h o ≡ 2
call_len h (op.InvokeStatic m) c = refl
call_len h (op.InvokeSpecial m) c = refl
call_len h (op.InvokeVirtual m n) c = refl
call_len h (op.InvokeInterface m n) c = refl
call_len h o c = absurd c

module _ (P : Program) (Ts : List Table) (S : IsTypedProgram P Ts) where
  -- a method with code, its table, and its duplicate
  pub record Tied (m dn : ℕ) (k : Method) (T : Table) : Type 0 where
    pub is : method_at P m ≡ Some k
    pub code : has_code (Some k) ≡ true
    pub table : slice_get Ts m ≡ Some T
    pub typing : IsTyping P k T
    pub dup : dn ≡ duplicate P m

  abbrev pub typed_code : Method → Table → List Typed
  typed_code k T = typed_from 0 T k.ops

  pub source_of : (m : ℕ) (k : Method) → method_at P m ≡ Some k → IsSourceMethod P k
  source_of m k is = each_at (IsSourceMethod P) P.methods m k S.source.methods is

  pub counted_of : (m : ℕ) (k : Method) → method_at P m ≡ Some k → is_counted P m ≡ true
  counted_of m k is = ap is_counted_in is ∙ (source_of m k is).counted

  module _ (mn q : ℕ) (gives : Option VType) (c : ℕ) (slots : List Slot) where
    -- Callers of both: the outermost one of the duplicates is the wrapper. A caller goes on behind its call.
    pub data Callers : Option VType → Frames → Frames → Type 0 where
      bottom : (wl j : List Slot) → IsSet gives c slots wl → Callers gives [] (frame mn (q + 1) wl j ∷ [])
      caller : (g : Option VType) (m pc dn : ℕ) (k : Method) (T : Table) (l l' s : List Slot) (fs gs : Frames) → Tied m dn k T → (o : Op) → slice_get k.ops pc ≡ Some o → IsCallOp o → Stands k T pc l l' → Stands k T (pc + 1) l l' → Callers k.result fs gs
          → Callers g (frame m pc l s ∷ fs) (frame dn (block_at (typed_code k T) pc + 1) l' s ∷ gs)

    -- the running frames, before an instruction
    pub data Run : Frames → Frames → Type 0 where
      top : (m pc dn : ℕ) (k : Method) (T : Table) (l l' s : List Slot) (fs gs : Frames) → Tied m dn k T → Stands k T pc l l' → Callers k.result fs gs → Run (frame m pc l s ∷ fs) (frame dn (block_at (typed_code k T) pc) l' s ∷ gs)

    module _ (Q : Program) (R : Rewrites P Ts Q) (uncounted : is_counted Q mn ≡ false) where
      pub there_of : (m dn : ℕ) (k : Method) (T : Table) → Tied m dn k T → slice_get Q.methods dn ≡ Some (duplicate_code P k (typed_code k T))
      there_of m dn k T t = ap (slice_get Q.methods) t.dup ∙ R.duplicates_are m k T t.is t.table ∙ ap Some (has_duplicate P k T t.code)

      pub counted_dup : (m dn : ℕ) (k : Method) (T : Table) → Tied m dn k T → is_counted Q dn ≡ true
      counted_dup m dn k T t = ap is_counted_in (there_of m dn k T t)

      pub depth_more : (X : Program) (f : Frame) (fs : Frames) → depth X (f ∷ fs) ≡ cond (is_counted X f.method) 1 0 + depth X fs
      depth_more X f fs = sum_by-cons (λ (f : Frame). cond (is_counted X f.method) 1 0) f fs

      -- one frame more is one more in both
      pub depth_both : (m dn : ℕ) (k : Method) (T : Table) → Tied m dn k T → (pc a : ℕ) (l l' s s' : List Slot) (fs gs : Frames) → depth P fs ≡ depth Q gs → depth P (frame m pc l s ∷ fs) ≡ depth Q (frame dn a l' s' ∷ gs)
      depth_both m dn k T t pc a l l' s s' fs gs e =
          depth_more P (frame m pc l s) fs ∙ ap (λ (b : Bool). cond b 1 0 + depth P fs) (counted_of m k t.is ∙ sym (counted_dup m dn k T t)) ∙ ap (λ (n : ℕ). cond (is_counted Q dn) 1 0 + n) e ∙ sym (depth_more Q (frame dn a l' s') gs)

      pub depth_callers : (g : Option VType) (fs gs : Frames) → Callers g fs gs → depth P fs ≡ depth Q gs
      depth_callers g fs gs (bottom wl j h) = sym (depth_more Q (frame mn (q + 1) wl j) [] ∙ ap (λ (b : Bool). cond b 1 0 + 0) uncounted)
      depth_callers g fs gs (caller g1 m pc dn k T l l' s fs1 gs1 t o e i y z w) = depth_both m dn k T t pc (block_at (typed_code k T) pc + 1) l l' s s fs1 gs1 (depth_callers k.result fs1 gs1 w)

      -- ---- exceptions

      caught_from : (k : Method) (T : Table) (typing : IsTyping P k T) (pc : ℕ) (h : Types) → types_at T pc ≡ Some h → AreCaught P k T pc h.locals h.built k.catches
      caught_from k T typing pc h e = by (slice_get k.ops pc) (typing.each pc h e).keeps
        where
          flows : (f : Flow) → KeepsFlow P k T pc h f → AreCaught P k T pc h.locals h.built k.catches
          flows Wrong keeps = absurd keeps
          flows (Leads to g) keeps = keeps.before

          by : (o : Option Op) → KeepsAt P k T pc h o → AreCaught P k T pc h.locals h.built k.catches
          by None keeps = absurd keeps
          by (Some o) keeps = flows (flow P k pc o h) keeps

      guarded : (a b : Bool) → (a && b) ≡ true → (a ≡ true) × (b ≡ true)
      guarded true b e = (refl, e)
      guarded false b e = cc

      -- where an entry takes an exception, the place has types over which locals agree
      pub taken_at : (k : Method) (T : Table) (pc : ℕ) (h : Types) (cs : List Catch) → AreCaught P k T pc h.locals h.built cs → (t to : ℕ) → find_catch P cs pc t ≡ Some to → (l l' : List Slot) → Agree k h.locals l l' → Stands k T to l l'
      taken_at k T pc h [] all t to e l l' a = cc
      taken_at k T pc h (c ∷ cs) all t to e l l' a = by (nat_le c.from pc) (nat_lt pc c.to) (takes P c.catches t) refl refl e (λ e. taken_at k T pc h cs all.1 t to e l l' a)
        where
          by : (x y z : Bool) → nat_le c.from pc ≡ x → nat_lt pc c.to ≡ y → (if x && y && z then Some c.at else find_catch P cs pc t) ≡ Some to → (find_catch P cs pc t ≡ Some to → Stands k T to l l') → Stands k T to l l'
          by true true true d f e go =
              let same : c.at ≡ to = cc in
              let g : is_guarded c pc ≡ true = rw (d, f) refl in
              let covers = (all.0 g).1 in
              subst (λ (n : ℕ). Stands k T n l l') same (record { inside = covers.inside; types = covers.types; there = covers.there; agree = agree_within P k h.locals covers.types.locals l l' covers.fits.locals a })
          by true true false d f e go = go e
          by true false z d f e go = go e
          by false y z d f e go = go e

      -- An exception that isn't the conflict goes to places that are alike, or leaves the original, and the wrapper takes it.
      pub data Thrown (z o : ℕ) : Asked → Asked → Type 0 where
        lands : (b : Bool) (fs gs : Frames) → Run fs gs → Thrown z o (goes b fs) (goes b gs)
        leaves : (wl : List Slot) → IsSet gives c slots wl → Thrown z o (Asks (asking.Throw o) []) (Asks asking.Go (frame mn (z + 4) wl (Ref o ∷ []) ∷ []))

      module _ (z : ℕ) (catch_other : (t : ℕ) → nat_eq t 0 ≡ false → catch_at Q mn (q + 1) t ≡ Some (z + 4)) (o t : ℕ) (other : nat_eq t 0 ≡ false) where
        from_wrapper : (wl j : List Slot) → unwinds Q o t (frame mn (q + 1) wl j ∷ []) ≡ Asks asking.Go (frame mn (z + 4) wl (Ref o ∷ []) ∷ [])
        from_wrapper wl j = rw (catch_other t other, uncounted) refl

        -- from frames of a method and its duplicate, at an instruction and inside its block
        pub thrown_from : (m pc dn b : ℕ) (k : Method) (T : Table) (l l' s s' : List Slot) (fs gs : Frames) → Tied m dn k T → (x : Op) → slice_get k.ops pc ≡ Some x → block_at (typed_code k T) pc ≤ b → b < block_at (typed_code k T) pc + block_len_of (types_at T pc) x
            → Stands k T pc l l' → Callers k.result fs gs → Thrown z o (unwinds P o t fs) (unwinds Q o t gs) → Thrown z o (unwinds P o t (frame m pc l s ∷ fs)) (unwinds Q o t (frame dn b l' s' ∷ gs))
        thrown_from m pc dn b k T l l' s s' fs gs tied x e low high stands callers up =
            let xs = typed_code k T in
            let src = source_of m k tied.is in
            let is' = there_of m dn k T tied in
            let at_x : slice_get xs pc ≡ Some (record { op = x; types = types_at T (0 + pc) }) = typed_at 0 T k.ops pc x e in
            let zero_pc : 0 + pc ≡ pc = omega arith in
            let at_y : slice_get xs pc ≡ Some (record { op = x; types = types_at T pc }) = at_x ∙ ap (λ (n : ℕ). Some (record { op = x; types = types_at T n })) zero_pc in
            let many = typed_length 0 T k.ops in
            let f = duplicate_finds P Q Ts R k xs many pc b _ at_y low high t other src.entries in
            let above : catch_at P m pc t ≡ find_catch P k.catches pc t = rw tied.is refl in
            let below : catch_at Q dn b t ≡ option_map (block_at xs) (find_catch P k.catches pc t) = (let g : catch_at Q dn b t ≡ find_catch Q (duplicate_code P k xs).catches b t = rw is' refl in g) ∙ f in
            subst (λ (c : Option ℕ). Thrown z o (caught P c o (frame m pc l s) fs (unwinds P o t fs)) (unwinds Q o t (frame dn b l' s' ∷ gs))) (sym above)
            (subst (λ (c : Option ℕ). Thrown z o (caught P (find_catch P k.catches pc t) o (frame m pc l s) fs (unwinds P o t fs)) (caught Q c o (frame dn b l' s') gs (unwinds Q o t gs))) (sym below)
            (by (find_catch P k.catches pc t) refl at_y low high))
          where
            xs : List Typed
            xs = typed_code k T

            by : (r : Option ℕ) → find_catch P k.catches pc t ≡ r → slice_get xs pc ≡ Some (record { op = x; types = types_at T pc }) → block_at xs pc ≤ b → b < block_at xs pc + block_len_of (types_at T pc) x
                → Thrown z o (caught P r o (frame m pc l s) fs (unwinds P o t fs)) (caught Q (option_map (block_at xs) r) o (frame dn b l' s') gs (unwinds Q o t gs))
            by None g at_y low high = up
            by (Some to) g at_y low high =
                let st = taken_at k T pc stands.types k.catches (caught_from k T tied.typing pc stands.types stands.there) t to g l l' stands.agree in
                let inside : to ≤ length xs = let i = st.inside in let many = typed_length 0 T k.ops in omega (arith, i, many) in
                let turn : nat_le (block_at xs to) b ≡ nat_le to pc = same_le xs pc b _ at_y low high to inside in
                let cp = counted_of m k tied.is in
                let cq = counted_dup m dn k T tied in
                let same : (is_counted Q dn && nat_le (block_at xs to) b) ≡ (is_counted P m && nat_le to pc) = rw (cp, cq, turn) refl in
                subst (λ (v : Bool). Thrown z o (goes (is_counted P m && nat_le to pc) (frame m to l (Ref o ∷ []) ∷ fs)) (goes v (frame dn (block_at xs to) l' (Ref o ∷ []) ∷ gs))) (sym same)
                (lands (is_counted P m && nat_le to pc) _ _ (top m to dn k T l l' (Ref o ∷ []) fs gs tied st callers))

        pub thrown_callers : (g : Option VType) (fs gs : Frames) → Callers g fs gs → Thrown z o (unwinds P o t fs) (unwinds Q o t gs)
        thrown_callers g fs gs (bottom wl j h) = subst (λ (a : Asked). Thrown z o (Asks (asking.Throw o) []) a) (sym (from_wrapper wl j)) (leaves wl h)
        thrown_callers g fs gs (caller g1 m pc dn k T l l' s fs1 gs1 tied x e is_call stands after w) =
            let n = call_len (types_at T pc) x is_call in
            thrown_from m pc dn (block_at (typed_code k T) pc + 1) k T l l' s s fs1 gs1 tied x e (omega arith) (omega (arith, n)) stands w (thrown_callers k.result fs1 gs1 w)

      -- a conflict's way through the frames of duplicates, down to the wrapper's locals
      pub callers_above : (first : ℕ) → ((m : ℕ) → first ≤ duplicate P m) → (g : Option VType) (fs gs : Frames) → Callers g fs gs → (wl : List Slot) × IsSet gives c slots wl × AboveCall Q first mn q wl gs
      callers_above first high g fs gs (bottom wl j h) = (wl, h, call j)
      callers_above first high g fs gs (caller g1 m pc dn k T l l' s fs1 gs1 tied x e i stands after w) =
          let t = callers_above first high k.result fs1 gs1 w in (t.0, t.1, inner _ gs1 (subst (λ (n : ℕ). first ≤ n) (sym tied.dup) (high m)) t.2)
