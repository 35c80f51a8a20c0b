-- What a typed run does over a state that words stand for, where it asks for something outside the frames.
use Rattle.std.proofs.Common.{◌≡◌, ℕ, ℤ, suc, ◌^◌, ◌<◌, List, [], ◌∷◌, Option, Some, Bool, true, false, sym, ap, subst, ◌∙◌}
use Rattle.std.specs.Prelude.{nat_lt}
use Rattle.jmodel.specs.declared.value.Value.{Value}
use Rattle.jmodel.specs.declared.value.Value.TheVariants as value
use Rattle.jmodel.specs.declared.value.Answer.TheVariants.{Heap}
use Rattle.jmodel.specs.declared.typing.VType.TheVariants.{Ref}
use Rattle.objects.specs.declared.op.Place.{Place}
use Rattle.objects.specs.declared.op.WordType.{WordType}
use Rattle.objects.specs.declared.op.WordType.TheVariants as word
use Rattle.objects.specs.declared.op.Use.{Use}
use Rattle.objects.specs.declared.op.Use.TheVariants.{Indexes}
use Rattle.objects.specs.declared.op.Element.{Element}
use Rattle.objects.specs.declared.op.Made.{Made}
use Rattle.objects.specs.declared.op.Request.TheVariants as request
use Rattle.objects.specs.declared.op.Asking.{Asking as Wanted}
use Rattle.objects.specs.declared.op.Asking.TheVariants as asking
use Rattle.objects.specs.semantics.Value.{word_of, value_of, pushed}
use Rattle.objects.specs.semantics.Program.{Row, Program, row_at, is_instance}
use Rattle.objects.specs.typing.TypeOrder.{IsWithin}
use Rattle.objects.specs.semantics.Step.{Frames, Asked, Asks, step, advanced, resumed, told}
use Rattle.objects.specs.semantics.Region.{Region, next_reference, has_words}
use Rattle.objects.specs.semantics.State.{Object, State, put, length_of, header, type_in, length_in, words_of, with_object, object_of}
use Rattle.objects.specs.semantics.Call.{Direct, next_direct, on_asked, on_asking, got, set_at, headed, on_raise, throws, made, followed}
use Rattle.objects.specs.semantics.Call as call
use Rattle.objects.specs.rewriting.Attempt.{Log, address, access}
use Rattle.jmodel.specs.history.History.{Words, overlaid}
use Rattle.objects.specs.history.Meaning.{IsValueOf, IsReferenceTo, IsObjectOf, IsHeap, Represents}
use Rattle.objects.specs.typing.Typing.{Table}
use Rattle.objects.specs.laws.TypingLaw.{IsTypedProgram}
use Rattle.objects.proofs.Heap.{object_at, HasWords, has_words_there, heap_with_object, object_fits}
use Rattle.objects.proofs.Memory.{word_at, represents_write}
use Rattle.objects.proofs.Objects.{object_zero, represents_header}
use Rattle.objects.proofs.TypedFrames.{GetsFine, PutsFine, RaisesFine, Fine, Heads, AsksFine, IsIndexable}
use Rattle.objects.proofs.Standing.{value_back, header_back, place_near}
use Rattle.objects.proofs.Safety.{IsFine, step_fine}

module _ (P : Program) (Ts : List Table) (S : IsTypedProgram P Ts) (G : Region) where
  -- what a typed run asks for is fine
  pub asks_fine : (fs gs : Frames) (k : ℕ) (τ : State) (F : IsFine P Ts S G.size (call.On fs k τ)) (a : Wanted) → step P fs ≡ Asks a gs → AsksFine P Ts S G.size τ F.1 (Asks a gs)
  asks_fine fs gs k τ F a e = subst (AsksFine P Ts S G.size τ F.1) e (step_fine P Ts S G.size τ F.1 fs F.0)

  pub next_at : (fs gs : Frames) (k : ℕ) (τ : State) (a : Wanted) → step P fs ≡ Asks a gs → next_direct P G (call.On fs k τ) ≡ on_asking P G a gs k τ
  next_at fs gs k τ a e = ap (λ (a : Asked). on_asked P G a k τ) e

  module _ (gs : Frames) (k : ℕ) (τ : State) (H : IsHeap P G.size τ) (w : Log) (ws : Words) (R : Represents P G.size (overlaid w ws) τ) where
    module _ (p : Place) (F : GetsFine P Ts S G.size τ H p gs) where
      pub value_is : value_of F.declared.word (overlaid w ws (address p)) ≡ F.v
      value_is = ap (value_of F.declared.word) (word_at P G.size (overlaid w ws) τ p F.v R F.held) ∙ value_back P τ F.declared.class F.declared.word F.v F.fits

      pub gets : on_asking P G (asking.Ask (request.Get p)) gs k τ ≡ call.On (resumed (pushed (value_of F.declared.word (overlaid w ws (address p))) []) gs) k τ
      gets = ap (λ (o : Option Value). got o gs k τ) F.held ∙ ap (λ (v : Value). call.On (resumed (pushed v []) gs) k τ) (sym value_is)

      pub get_near : nat_lt (address p) (2 ^ 64) ≡ true
      get_near = place_near P G.size (overlaid w ws) τ R p F.v F.held

      -- what is read as a reference to a class is null, or an instance of each above it
      pub cast_holds : F.declared.word ≡ word.Reference → (n : List ℕ) → ((m : List ℕ) → IsWithin P (Ref m) (Ref F.declared.class) → IsWithin P (Ref m) (Ref n)) → (o : ℕ) → overlaid w ws (address p) ≡ suc o → is_instance P (type_in (overlaid w ws (suc o))) n ≡ true
      cast_holds reference n within o is = by F.v (subst (λ (t : WordType). IsValueOf P τ F.declared.class t F.v) reference F.fits) (sym is ∙ word_at P G.size (overlaid w ws) τ p F.v R F.held)
        where
          of : IsObjectOf P τ F.declared.class (suc o) → is_instance P (type_in (overlaid w ws (suc o))) n ≡ true
          of x = ap (λ (t : ℕ). is_instance P t n) (header_back P G.size (overlaid w ws) τ R (suc o) x.object x.there).0 ∙ S.source.types.within x.object.type x.row n x.is (within x.row.read x.below)

          by : (v : Value) → IsValueOf P τ F.declared.class word.Reference v → suc o ≡ word_of v → is_instance P (type_in (overlaid w ws (suc o))) n ≡ true
          by (value.Ref z) fits e = of (subst (λ (z : ℕ). IsReferenceTo P τ F.declared.class z) (sym e) fits)
          by v fits e = absurd fits

    module _ (p : Place) (y : Value) (F : PutsFine P Ts S G.size τ H p y gs) where
      pub puts : on_asking P G (asking.Ask (request.Put p y)) gs k τ ≡ call.On (advanced gs) k (put τ p y)
      puts = ap (λ (o : Option Value). set_at o p y gs k τ) F.held

      pub put_stands : Represents P G.size (overlaid (access (address p) (word_of y) ∷ w) ws) (put τ p y)
      put_stands = represents_write P G.size w ws τ p y F.old F.held F.heap R

      pub put_near : nat_lt (address p) (2 ^ 64) ≡ true
      put_near = place_near P G.size (overlaid w ws) τ R p F.old F.held

    module _ (t n : ℕ) (r : Row) (is : row_at P t ≡ Some r) (few : n < 2147483648) (m : Made) where
      abbrev pub new_object : Object
      new_object = object_of t n r

      makes_by : (b : Bool) → has_words G (τ.used G.number) (words_of new_object) ≡ b → on_asking P G (asking.Make t n m) gs k τ ≡ call.makes b m P G new_object gs k τ
      makes_by b room = ap (λ (x : Option Row). made x t n m P G gs k τ) is ∙ ap (λ (b : Bool). call.makes b m P G new_object gs k τ) room

      pub makes : HasWords G (τ.used G.number) (words_of new_object) → on_asking P G (asking.Make t n m) gs k τ ≡ call.on_made m P (next_reference G (τ.used G.number)) new_object gs k (with_object G new_object τ)
      makes room = makes_by true (has_words_there G (τ.used G.number) (words_of new_object) room)

      pub make_stands : HasWords G (τ.used G.number) (words_of new_object) → Represents P G.size (overlaid (access (next_reference G (τ.used G.number)) (header new_object) ∷ w) ws) (with_object G new_object τ)
      make_stands room = represents_header P G w ws τ new_object (object_zero t n r) room (heap_with_object P G τ new_object room H (object_fits P τ t n r is few)) R

      pub make_full : has_words G (τ.used G.number) (words_of new_object) ≡ false → on_asking P G (asking.Make t n m) gs k τ ≡ call.Ended (Heap (τ.used G.number) (words_of new_object) G.size) τ
      make_full none = makes_by false none

    -- the instruction goes on by the header that words have
    module _ (N : ℕ → Use → Frames → Type 0) (o : ℕ) (u : Use) (F : Heads P Ts S G.size τ H N o u gs) where
      abbrev pub told_by : Asked
      told_by = told P u o (type_in (overlaid w ws o)) (length_in (overlaid w ws o)) gs

      told_is : told P u o F.object.type (length_of F.object) gs ≡ told_by
      told_is = let x = header_back P G.size (overlaid w ws) τ R o F.object F.there in ap (λ (t : ℕ). told P u o t (length_of F.object) gs) (sym x.0) ∙ ap (λ (n : ℕ). told P u o (type_in (overlaid w ws o)) n gs) (sym x.1)

      pub heads : on_asking P G (asking.Head o u) gs k τ ≡ followed told_by k τ
      heads = ap (λ (x : Option Object). headed x P u o gs k τ) F.there ∙ ap (λ (a : Asked). followed a k τ) told_is

      pub told_fine : Fine P Ts S G.size τ H N told_by
      told_fine = subst (Fine P Ts S G.size τ H N) told_is F.goes

    -- an array that is indexed has elements of the type that the instruction says
    pub indexes : (N : ℕ → Use → Frames → Type 0) (o : ℕ) (i : ℤ) (e : Element) (F : Heads P Ts S G.size τ H N o (Indexes i e) gs) → IsIndexable P Ts gs (type_in (overlaid w ws o))
    indexes N o i e F = subst (IsIndexable P Ts gs) (sym (header_back P G.size (overlaid w ws) τ R o F.object F.there).0) F.about

    -- an exception is thrown by the type in its header
    pub raised : (o : ℕ) (F : RaisesFine P Ts S G.size τ H o gs) → on_asking P G (asking.Raise o) gs k τ ≡ throws (row_at P (type_in (overlaid w ws o))) P o (type_in (overlaid w ws o)) gs k τ
    raised o F =
        let x = object_at τ o F.type F.thrown.there in
        let same : type_in (overlaid w ws o) ≡ F.type = (header_back P G.size (overlaid w ws) τ R o x.0 x.1).0 ∙ x.2 in
        ap (λ (n : Option ℕ). on_raise n P o gs k τ) F.thrown.there ∙ ap (λ (n : ℕ). throws (row_at P n) P o n gs k τ) (sym same)
