-- Frames whose slots have the types of their places, and what a step over them may ask for.
use Rattle.std.proofs.Common.{◌≡◌, ℕ, zero, suc, ◌-◌, ◌<◌, List, [], ◌∷◌, Option, Some, None, Bool, true, false, refl, sym, ap, subst, ◌∙◌, ◌+◌}
use Rattle.std.specs.Prelude.{nat_le, nat_lt, ◌&&◌, replicate, if◌then◌else◌, slice_get}
use Rattle.std.specs.List.{AllByRecursion}
use Rattle.jmodel.specs.declared.value.Value.{Value}
use Rattle.jmodel.specs.declared.typing.VType.{VType}
use Rattle.jmodel.specs.declared.typing.VType.TheVariants.{Ref, Top}
use Rattle.objects.specs.declared.op.Slot.{Slot}
use Rattle.objects.specs.declared.op.Slot.TheVariants as slot
use Rattle.objects.specs.declared.op.Op.{Op}
use Rattle.objects.specs.declared.op.Op.TheVariants as op
use Rattle.objects.specs.declared.op.Place.{Place}
use Rattle.objects.specs.declared.op.Use.{Use}
use Rattle.objects.specs.declared.op.Use.TheVariants.{Indexes}
use Rattle.objects.specs.declared.op.WordType.{WordType}
use Rattle.objects.specs.declared.op.Made.{Made}
use Rattle.objects.specs.declared.op.Made.TheVariants.{Pushed, Raised}
use Rattle.objects.specs.declared.op.Request.TheVariants as request
use Rattle.objects.specs.declared.op.Asking.TheVariants as asking
use Rattle.objects.specs.declared.op.Catch.{Catch}
use Rattle.objects.specs.declared.op.Catches.{Catches}
use Rattle.objects.specs.declared.op.Catches.TheVariants.{Conflict, Any, Of}
use Rattle.objects.specs.semantics.Value.{pushed}
use Rattle.objects.specs.semantics.Program.{Declared, Elements, Row, Field, Method, Program, op_at, method_at, field_at, row_at}
use Rattle.objects.specs.typing.TypeOrder.{throwable_class, name_read, IsWithin}
use Rattle.objects.specs.semantics.State.{Object, State, value_held, type_at, put, length_of}
use Rattle.objects.specs.history.Meaning.{IsHeld, IsReferenceTo, IsHeap}
use Rattle.objects.specs.semantics.Step.{Frame, Frames, Asked, Asks, Fails, with_stack, at, next, started, received, takes, find_catch, catch_at, caught, goes, unwinds, told, advanced, resumed}
use Rattle.objects.specs.typing.Source.{IsSourceCatches, IsSourceCatch, IsSourceMethod}
use Rattle.objects.specs.typing.Typing.{Types, Table, types_at, Flow, Leads, Wrong, first_types, first_locals, is_constructor, Covers, caught_type, AreCaught, KeepsFlow}
use Rattle.objects.specs.laws.TypingLaw.{HasTyping, IsTypedProgram}
use Rattle.objects.specs.rewriting.Rewriting.{word_places, array_under}
use Rattle.objects.proofs.Fields.{each_at}
use Rattle.objects.proofs.Elements.{AreElements}
use Rattle.objects.proofs.Frames.{frame}
use Rattle.objects.proofs.Heap.{KeepsTypes, object_at}
use Rattle.objects.proofs.SlotTypes.{HasType, HaveTypes, types_kept, joined, nothing, widen_all, IsGiven}

pub keeps_same : (σ : State) → KeepsTypes σ σ
keeps_same σ r t e = e

pub keeps_both : (σ τ ρ : State) → KeepsTypes σ τ → KeepsTypes τ ρ → KeepsTypes σ ρ
keeps_both σ τ ρ f g r t e = g r t (f r t e)

-- What an instruction leaves stays within the stack, and each place where it goes on covers that.
abbrev pub Lets : Program → Method → Table → Flow → Type 0
Lets P k T Wrong = ⊥
Lets P k T (Leads to h) = AllByRecursion (Covers P k T h) to

pub lets : (P : Program) (k : Method) (T : Table) (pc : ℕ) (g : Types) (f : Flow) → KeepsFlow P k T pc g f → Lets P k T f
lets P k T pc g Wrong e = absurd e
lets P k T pc g (Leads to h) e = e.goes

-- the places of entries cover the locals before an instruction
pub caught_before : (P : Program) (k : Method) (T : Table) (pc : ℕ) (g : Types) (f : Flow) → KeepsFlow P k T pc g f → AreCaught P k T pc g.locals g.built k.catches
caught_before P k T pc g Wrong e = absurd e
caught_before P k T pc g (Leads to h) e = e.before

pub both_true : (x y z : Bool) → (x && y && z) ≡ true → ((x && y) ≡ true) × (z ≡ true)
both_true true true z e = (refl, e)
both_true true false z e = cc
both_true false y z e = cc

-- an exception of a class of the program, at a reference
pub record IsThrown (P : Program) (τ : State) (o t : ℕ) : Type 0 where
  pub there : type_at τ o ≡ Some t
  pub row : Row
  pub is : row_at P t ≡ Some row
  pub below : IsWithin P (Ref row.read) (Ref throwable_class)

-- an element of an array, by the type of the array before an instruction
pub record IsElementOf (P : Program) (u : Option VType) (t : WordType) (d : Declared) : Type 0 where
  pub name : List ℕ
  pub under : u ≡ Some (Ref name)
  pub are : AreElements P t d name

-- the type of an element that an instruction goes to
abbrev pub IsIndexedAt : Program → Op → Types → Declared → Type 0
IsIndexedAt P (op.LoadElement t) h d = IsElementOf P (array_under 1 (Some h)) t d
IsIndexedAt P (op.StoreElement t) h d = IsElementOf P (array_under (1 + word_places t) (Some h)) t d
IsIndexedAt P o h d = ⊥

-- the type of the word that an instruction reads
abbrev pub IsReadAt : Program → Op → Types → Declared → Type 0
IsReadAt P (op.GetStatic n) h d = (f : Field) × (field_at P n ≡ Some f) × (f.declared ≡ d)
IsReadAt P (op.GetField n c) h d = (f : Field) × (field_at P n ≡ Some f) × (f.declared ≡ d)
IsReadAt P (op.LoadElement t) h d = IsIndexedAt P (op.LoadElement t) h d
IsReadAt P o h d = ⊥

-- the instruction of the running frame, and the types before it
pub record IsAt (P : Program) (Ts : List Table) (f : Frame) (Q : Op → Types → Type 0) : Type 0 where
  pub table : Table
  pub table_is : slice_get Ts f.method ≡ Some table
  pub types : Types
  pub types_are : types_at table f.pc ≡ Some types
  pub op : Op
  pub op_is : op_at P f.method f.pc ≡ Some op
  pub holds : Q op types

abbrev pub IsTop : Program → List Table → Frames → (Op → Types → Type 0) → Type 0
IsTop P Ts [] Q = ⊥
IsTop P Ts (f ∷ fs) Q = IsAt P Ts f Q

-- an array whose elements are of the type that the instruction says
pub record IsIndexable (P : Program) (Ts : List Table) (fs : Frames) (type : ℕ) : Type 0 where
  pub row : Row
  pub is : row_at P type ≡ Some row
  pub declared : Declared
  pub name : List ℕ
  pub row_holds : row.holds ≡ Elements declared name
  pub at : IsTop P Ts fs (λ o h. IsIndexedAt P o h declared)

abbrev pub IsAbout : Program → List Table → Use → Frames → ℕ → Type 0
IsAbout P Ts (Indexes i e) fs type = IsIndexable P Ts fs type
IsAbout P Ts u fs type = Unit {0}

module _ (P : Program) (Ts : List Table) (S : IsTypedProgram P Ts) where
  -- a frame whose slots have the types of its place, in its method's table
  pub record IsTypedFrame (σ : State) (f : Frame) (k : Method) : Type 0 where
    pub code : method_at P f.method ≡ Some k
    pub typing : HasTyping P Ts f.method k
    pub types : Types
    pub there : types_at typing.table f.pc ≡ Some types
    pub locals : HaveTypes P k σ types.locals f.locals
    pub stack : HaveTypes P k σ types.stack f.stack

  pub frame_kept : (σ τ : State) → KeepsTypes σ τ → (f : Frame) (k : Method) → IsTypedFrame σ f k → IsTypedFrame τ f k
  frame_kept σ τ keeps f k t = record {
    code = t.code;
    typing = t.typing;
    types = t.types;
    there = t.there;
    locals = types_kept P k σ τ keeps t.types.locals f.locals t.locals;
    stack = types_kept P k σ τ keeps t.types.stack f.stack t.stack;
  }

  -- where the frame's entries take one, whatever objects there are by then
  abbrev pub Handles : State → Frame → Method → Type 0
  Handles σ f k = (τ : State) → KeepsTypes σ τ → (o t : ℕ) → IsThrown P τ o t → (to : ℕ) → find_catch P k.catches f.pc t ≡ Some to → IsTypedFrame τ (at to (with_stack f (slot.Ref o ∷ []))) k

  -- a caller that goes on with what the method gives
  abbrev pub Returns : State → Option VType → Frame → Method → Type 0
  Returns σ r f k = (τ : State) → KeepsTypes σ τ → (v : Option Value) → IsGiven P τ r v → IsTypedFrame τ (next (received v f)) k

  -- or throws
  abbrev pub Waits : State → Option VType → Frame → Method → Type 0
  Waits σ r f k = (method_at P f.method ≡ Some k) × Returns σ r f k × Handles σ f k

  abbrev pub AllWait : State → Option VType → Frames → Type 0
  AllWait σ r [] = Unit {0}
  AllWait σ r (f ∷ fs) = (k : Method) × Waits σ r f k × AllWait σ k.result fs

  abbrev pub AreTyped : State → Frames → Type 0
  AreTyped σ [] = ⊥
  AreTyped σ (f ∷ fs) = (k : Method) × IsTypedFrame σ f k × AllWait σ k.result fs

  pub all_wait_kept : (σ τ : State) → KeepsTypes σ τ → (r : Option VType) (fs : Frames) → AllWait σ r fs → AllWait τ r fs
  all_wait_kept σ τ keeps r [] w = tt
  all_wait_kept σ τ keeps r (f ∷ fs) (k, b, w) =
      (k, (b.0, λ ρ more v i. b.1 ρ (keeps_both σ τ ρ keeps more) v i, λ ρ more o t x to e. b.2 ρ (keeps_both σ τ ρ keeps more) o t x to e), all_wait_kept σ τ keeps k.result fs w)

  pub frames_kept : (σ τ : State) → KeepsTypes σ τ → (fs : Frames) → AreTyped σ fs → AreTyped τ fs
  frames_kept σ τ keeps [] h = absurd h
  frames_kept σ τ keeps (f ∷ fs) (k, t, w) = (k, frame_kept σ τ keeps f k t, all_wait_kept σ τ keeps k.result fs w)

  -- where an exception goes there are types
  abbrev pub ThrownFine : State → Asked → Type 0
  ThrownFine τ (Asks asking.Go fs) = AreTyped τ fs
  ThrownFine τ (Asks asking.Turn fs) = AreTyped τ fs
  ThrownFine τ (Asks (asking.Throw o) fs) = Unit {0}
  ThrownFine τ a = ⊥

  abbrev pub Throws : State → Frames → Type 0
  Throws σ fs = (τ : State) → KeepsTypes σ τ → (o t : ℕ) → IsThrown P τ o t → ThrownFine τ (unwinds P o t fs)

  thrown_goes : (τ : State) (b : Bool) (fs : Frames) → AreTyped τ fs → ThrownFine τ (goes b fs)
  thrown_goes τ true fs h = h
  thrown_goes τ false fs h = h

  -- an exception goes to an entry of a frame, or on to those below it
  pub passed : (σ : State) (f : Frame) (fs : Frames) (k : Method) → method_at P f.method ≡ Some k → Handles σ f k → AllWait σ k.result fs → Throws σ fs → Throws σ (f ∷ fs)
  passed σ f fs k code h w rest τ keeps o t x =
      let e : catch_at P f.method f.pc t ≡ find_catch P k.catches f.pc t = rw code refl in
      subst (λ (a : Option ℕ). ThrownFine τ (caught P a o f fs (unwinds P o t fs))) (sym e) (by (find_catch P k.catches f.pc t) refl)
    where
      by : (a : Option ℕ) → find_catch P k.catches f.pc t ≡ a → ThrownFine τ (caught P a o f fs (unwinds P o t fs))
      by None is = rest τ keeps o t x
      by (Some to) is = thrown_goes τ _ _ (k, h τ keeps o t x to is, all_wait_kept σ τ keeps k.result fs w)

  pub passes : (σ : State) (r : Option VType) (fs : Frames) → AllWait σ r fs → Throws σ fs
  passes σ r [] w = λ τ keeps o x thrown. tt
  passes σ r (f ∷ fs) (k, b, w) = passed σ f fs k b.0 b.2 w (passes σ k.result fs w)

  -- a method's first frame
  pub starts_typed : (σ : State) (m : ℕ) (k : Method) (args : List Slot) → method_at P m ≡ Some k → HasTyping P Ts m k → HaveTypes P k σ (first_locals (is_constructor k) k.parameters) args → IsTypedFrame σ (started m k args) k
  starts_typed σ m k args code t h = record {
    code = code;
    typing = t;
    types = first_types k;
    there = t.typing.first;
    locals = joined P k σ (first_locals (is_constructor k) k.parameters) (replicate (k.locals - k.places) Top) args (replicate (k.locals - k.places) slot.Empty) h (nothing P k σ (k.locals - k.places));
    stack = tt;
  }

  module _ (m : ℕ) (k : Method) (code : method_at P m ≡ Some k) (typing : HasTyping P Ts m k) where
    -- in any state with these objects, a place that covers these types
    pub covered_frame : (τ : State) (g : Types) (to : ℕ) (l s : List Slot) → Covers P k typing.table g to → HaveTypes P k τ g.locals l → HaveTypes P k τ g.stack s → IsTypedFrame τ (frame m to l s) k
    covered_frame τ g to l s c hl hs = record {
      code = code;
      typing = typing;
      types = c.types;
      there = c.there;
      locals = widen_all P S.source.types k τ g.locals c.types.locals l c.fits.locals hl;
      stack = widen_all P S.source.types k τ g.stack c.types.stack s c.fits.stack hs;
    }

    thrown_object : (τ : State) (o t : ℕ) (x : IsThrown P τ o t) (n : List ℕ) → IsWithin P (Ref x.row.read) (Ref n) → IsReferenceTo P τ n o
    thrown_object τ zero t x n below = tt
    thrown_object τ (suc o) t x n below = let b = object_at τ (suc o) t x.there in record { object = b.0; row = x.row; there = b.1; is = ap (row_at P) b.2 ∙ x.is; below = below }

    caught_fits : (τ : State) (o t : ℕ) (x : IsThrown P τ o t) → (c : Catches) → IsSourceCatches c → takes P c t ≡ true → HasType P k τ (caught_type P c) (slot.Ref o)
    caught_fits τ o t x Conflict src e = absurd src
    caught_fits τ o t x Any src e = thrown_object τ o t x throwable_class x.below
    caught_fits τ o t x (Of n) src e = thrown_object τ o t x (name_read P n) (S.source.types.instances t x.row n x.is e)

    -- where an exception is thrown over these locals, the entries' places cover them
    caught_frame : (σ τ : State) → KeepsTypes σ τ → (pc : ℕ) (h : List VType) (b : Bool) (l : List Slot) → HaveTypes P k σ h l → (o t : ℕ) → IsThrown P τ o t → (cs : List Catch) → AllByRecursion (IsSourceCatch P k) cs → AreCaught P k typing.table pc h b cs
        → (to : ℕ) → find_catch P cs pc t ≡ Some to → IsTypedFrame τ (frame m to l (slot.Ref o ∷ [])) k
    caught_frame σ τ keeps pc h b l hl o t x [] all cover to e = cc
    caught_frame σ τ keeps pc h b l hl o t x (c ∷ cs) all cover to e = by (λ e. caught_frame σ τ keeps pc h b l hl o t x cs all.1 cover.1 to e) (nat_le c.from pc && nat_lt pc c.to && takes P c.catches t) refl e
      where
        by : (find_catch P cs pc t ≡ Some to → IsTypedFrame τ (frame m to l (slot.Ref o ∷ [])) k) → (a : Bool) → (nat_le c.from pc && nat_lt pc c.to && takes P c.catches t) ≡ a → (if a then Some c.at else find_catch P cs pc t) ≡ Some to → IsTypedFrame τ (frame m to l (slot.Ref o ∷ [])) k
        by others false is e = others e
        by others true is e =
            let two = both_true (nat_le c.from pc) (nat_lt pc c.to) (takes P c.catches t) is in
            let same : c.at ≡ to = cc in
            subst (λ (to : ℕ). IsTypedFrame τ (frame m to l (slot.Ref o ∷ [])) k) same
            (covered_frame τ _ c.at l (slot.Ref o ∷ []) (cover.0 two.0).1 (types_kept P k σ τ keeps h l hl) (caught_fits τ o t x c.catches all.0.catches two.1, tt))

    pub handles_at : (σ : State) (pc : ℕ) (h : List VType) (b : Bool) (l s : List Slot) → HaveTypes P k σ h l → AreCaught P k typing.table pc h b k.catches → Handles σ (frame m pc l s) k
    handles_at σ pc h b l s hl cover τ keeps o t x to e = caught_frame σ τ keeps pc h b l hl o t x k.catches (each_at (IsSourceMethod P) P.methods m k S.source.methods code).entries cover to e

  module _ (size : ℕ) (σ : State) (H : IsHeap P size σ) where
    -- a value of a place, and the frames that go on with it
    pub record GetsFine (p : Place) (fs : Frames) : Type 0 where
      pub declared : Declared
      pub v : Value
      pub held : value_held σ p ≡ Some v
      pub fits : IsHeld P σ declared v
      pub read : IsTop P Ts fs (λ o h. IsReadAt P o h declared)
      pub goes : AreTyped σ (resumed (pushed v []) fs)

    pub record PutsFine (p : Place) (y : Value) (fs : Frames) : Type 0 where
      pub old : Value
      pub held : value_held σ p ≡ Some old
      pub heap : IsHeap P size (put σ p y)
      pub goes : AreTyped σ (advanced fs)

    abbrev pub MadeFine : Made → ℕ → Row → Frames → Type 0
    MadeFine Pushed t r fs = (τ : State) → KeepsTypes σ τ → (o : ℕ) → type_at τ o ≡ Some t → 0 < o → AreTyped τ (resumed (slot.Ref o ∷ []) fs)
    MadeFine Raised t r fs = IsWithin P (Ref r.read) (Ref throwable_class) × Throws σ fs

    pub record MakesFine (t n : ℕ) (made : Made) (fs : Frames) : Type 0 where
      pub row : Row
      pub is : row_at P t ≡ Some row
      pub few : n < 2147483648
      pub goes : MadeFine made t row fs

    pub record RaisesFine (o : ℕ) (fs : Frames) : Type 0 where
      pub type : ℕ
      pub thrown : IsThrown P σ o type
      pub throws : Throws σ fs

    -- what a step asks, and leaves, where N is what may be asked of the headers of objects
    abbrev pub Fine : (ℕ → Use → Frames → Type 0) → Asked → Type 0
    Fine N Fails = ⊥
    Fine N (Asks asking.Go fs) = AreTyped σ fs
    Fine N (Asks asking.Turn fs) = AreTyped σ fs
    Fine N (Asks (asking.Enter deep) fs) = AreTyped σ fs
    Fine N (Asks (asking.Return v) fs) = Unit {0}
    Fine N (Asks (asking.Raise o) fs) = RaisesFine o fs
    Fine N (Asks (asking.Make t n made) fs) = MakesFine t n made fs
    Fine N (Asks (asking.Head o u) fs) = N o u fs
    Fine N (Asks (asking.Ask (request.Get p)) fs) = GetsFine p fs
    Fine N (Asks (asking.Ask (request.Put p y)) fs) = PutsFine p y fs
    Fine N (Asks a fs) = ⊥

    -- the header of an object, and what its type and length lead to
    pub record Heads (N : ℕ → Use → Frames → Type 0) (o : ℕ) (u : Use) (fs : Frames) : Type 0 where
      pub object : Object
      pub there : σ.objects o ≡ Some object
      pub about : IsAbout P Ts u fs object.type
      pub goes : Fine N (told P u o object.type (length_of object) fs)

    abbrev pub NoHeads : ℕ → Use → Frames → Type 0
    NoHeads o u fs = ⊥

    -- An instruction asks for two headers at most: that of an array, and that of what it stores there.
    abbrev pub LastHeads : ℕ → Use → Frames → Type 0
    LastHeads = Heads NoHeads

    abbrev pub AsksFine : Asked → Type 0
    AsksFine = Fine (Heads LastHeads)

    pub fine_more : (M N : ℕ → Use → Frames → Type 0) → ((o : ℕ) (u : Use) (fs : Frames) → M o u fs → N o u fs) → (a : Asked) → Fine M a → Fine N a
    fine_more M N more Fails h = absurd h
    fine_more M N more (Asks asking.Go fs) h = h
    fine_more M N more (Asks asking.Turn fs) h = h
    fine_more M N more (Asks (asking.Enter deep) fs) h = h
    fine_more M N more (Asks (asking.Return v) fs) h = h
    fine_more M N more (Asks (asking.Raise o) fs) h = h
    fine_more M N more (Asks (asking.Make t n made) fs) h = h
    fine_more M N more (Asks (asking.Head o u) fs) h = more o u fs h
    fine_more M N more (Asks (asking.Ask (request.Get p)) fs) h = h
    fine_more M N more (Asks (asking.Ask (request.Put p y)) fs) h = h
    fine_more M N more (Asks a fs) h = absurd h

    pub heads_more : (M N : ℕ → Use → Frames → Type 0) → ((o : ℕ) (u : Use) (fs : Frames) → M o u fs → N o u fs) → (o : ℕ) (u : Use) (fs : Frames) → Heads M o u fs → Heads N o u fs
    heads_more M N more o u fs h = record { object = h.object; there = h.there; about = h.about; goes = fine_more M N more _ h.goes }

    pub last_fine : (a : Asked) → Fine LastHeads a → AsksFine a
    last_fine a h = fine_more LastHeads (Heads LastHeads) (heads_more NoHeads LastHeads (λ o u fs h. absurd h)) a h

    pub none_fine : (a : Asked) → Fine NoHeads a → AsksFine a
    none_fine a h = fine_more NoHeads (Heads LastHeads) (λ o u fs h. absurd h) a h
