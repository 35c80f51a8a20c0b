-- A call of rewritten code, as attempts over an engine that may refuse.
use Rattle.std.specs.Prelude.{◌≡◌, ◌≢◌, ℕ, ℤ, zero, suc, pos, negsuc, ◌+◌, List, [], ◌∷◌, Option, Some, None, Bool, true, false, nat_eq, nat_lt, min, if◌then◌else◌}
use Rattle.std.specs.List.{flat_map}
use Rattle.jmodel.specs.declared.value.Value.{Value}
use Rattle.jmodel.specs.declared.value.Answer.{Answer}
use Rattle.jmodel.specs.declared.value.Answer.TheVariants.{Returned, Threw, Budget, Depth, Heap, Spent}
pub use Rattle.jmodel.specs.history.Log.{Log, access, written, answered, recorded}
use Rattle.objects.specs.declared.op.Slot.TheVariants as slot
use Rattle.objects.specs.declared.op.Place.{Place}
use Rattle.objects.specs.declared.op.Phase.{Phase}
use Rattle.objects.specs.declared.op.Phase.TheVariants.{Ready, Open, Doomed, Closed}
use Rattle.objects.specs.declared.op.WordType.{WordType}
use Rattle.objects.specs.declared.op.Element.TheVariants as element
use Rattle.objects.specs.declared.op.Use.{Use}
use Rattle.objects.specs.declared.op.Use.TheVariants.{Indexes}
use Rattle.objects.specs.declared.op.Made.{Made}
use Rattle.objects.specs.declared.op.Made.TheVariants.{Pushed, Raised}
use Rattle.objects.specs.declared.op.Request.{Request}
use Rattle.objects.specs.declared.op.Request.TheVariants as request
use Rattle.objects.specs.declared.op.Asking.{Asking as Wanted}
use Rattle.objects.specs.declared.op.Asking.TheVariants.{Go, Turn, Enter, Return, Throw, Raise, Make, Head, Ask}
use Rattle.objects.specs.semantics.Value.{pushed, slots_of, value_of}
use Rattle.objects.specs.semantics.Program.{Row, Method, Program, method_at, row_at, name_at}
use Rattle.objects.specs.semantics.Step.{Frames, Asked, Asks, Fails, started, step, unwinds, advanced, resumed, told}
use Rattle.objects.specs.semantics.Region.{Region, next_reference, has_words}
use Rattle.objects.specs.semantics.State.{Object, header, type_in, length_in, words_of, object_of}

abbrev pub address : Place → ℕ
address p = p.object + p.index

-- what the engine answers: a word, where one is asked for, or a conflict
pub data Reply : Type 0 where
  Gives : (word : ℕ) → Reply
  Refuses : Reply

-- The limits of a call: turns of an attempt, attempts, and the region that it takes words from, of which so many were used before it.
pub record Bounds : Type 0 where
  pub budget : ℕ
  pub attempts : ℕ
  pub region : Region
  pub used : ℕ

-- an exception that was thrown, by its reference, and the type that its header has
pub record Thrown : Type 0 where
  pub reference : ℕ
  pub type : ℕ

-- what an attempt counts: the turns that are left, the attempts begun, and the used words of the region; and what it threw last
pub record Meter : Type 0 where
  pub turns : ℕ
  pub tried : ℕ
  pub used : ℕ
  pub thrown : Option Thrown

-- after an attempt that is refused, or met a conflict, the region has the used words that it had before the call
abbrev pub set_back : Bounds → Meter → Meter
set_back B m = record m { used = B.used; thrown = None }

-- A call on its way: where it stands, its frames, and what was written and read since the attempt began; an instruction of an open attempt that wants
-- something more; or stuck, after these reads.
pub data Run : Type 0 where
  On : (p : Phase) (fs : Frames) (m : Meter) (w r : Log) → Run
  Asking : (a : Wanted) (fs : Frames) (m : Meter) (w r : Log) → Run
  Ended : (x : Answer) (m : Meter) (w r : Log) → Run
  Stuck : (r : Log) → Run

-- a refused attempt writes nothing
abbrev pub refused : Bounds → Answer → Meter → Log → Run
refused B x m r = Ended x (set_back B m) [] r

abbrev pub with_turns : Bounds → ℕ → Frames → Meter → Log → Log → Run
with_turns B zero fs m w r = refused B Budget m r
with_turns B (suc k) fs m w r = On Open fs (record m { turns = k }) w r

abbrev pub turned : Bounds → Phase → Frames → Meter → Log → Log → Run
turned B Open fs m w r = with_turns B m.turns fs m w r
turned B p fs m w r = Stuck r

-- the turn is counted first
abbrev pub with_depth : Bounds → Bool → ℕ → Frames → Meter → Log → Log → Run
with_depth B deep zero fs m w r = refused B Budget m r
with_depth B true (suc k) fs m w r = refused B Depth m r
with_depth B false (suc k) fs m w r = On Open fs (record m { turns = k }) w r

abbrev pub entered : Bounds → Phase → Bool → Frames → Meter → Log → Log → Run
entered B Open deep fs m w r = with_depth B deep m.turns fs m w r
entered B p deep fs m w r = Stuck r

-- the wrapper gives its answer after the commit
abbrev pub returned : Phase → Option Value → Meter → Log → Log → Run
returned Closed v m w r = Ended (Returned v) m w r
returned p v m w r = Stuck r

-- the name of the class of an exception, which is the one that was thrown last
abbrev pub class_of : Program → Option Thrown → ℕ → Option (List ℕ)
class_of P None o = None
class_of P (Some e) o = if nat_eq e.reference o then name_at P e.type else None

abbrev pub threw_of : Option (List ℕ) → Meter → Log → Log → Run
threw_of None m w r = Stuck r
threw_of (Some class) m w r = Ended (Threw class) m w r

-- the wrapper throws on after the commit
abbrev pub threw : Program → Phase → ℕ → Meter → Log → Log → Run
threw P Closed o m w r = threw_of (class_of P m.thrown o) m w r
threw P p o m w r = Stuck r

abbrev pub count_of : ℤ → ℕ
count_of (pos n) = n
count_of (negsuc n) = 0

abbrev pub begun : Bool → Bounds → Frames → Meter → Run
begun true B fs m = On Open (advanced fs) (record m { turns = B.budget; tried = m.tried + 1 }) [] []
begun false B fs m = Ended Spent m [] []

-- the conflict is thrown where the instruction stands that met it
abbrev pub unwound : Asked → Meter → Log → Log → Run
unwound (Asks Go fs) m w r = On Doomed fs m w r
unwound a m w r = Stuck r

-- an exception goes to an entry of the attempt
abbrev pub on_thrown : Bounds → Asked → Meter → Log → Log → Run
on_thrown B (Asks Go fs) m w r = On Open fs m w r
on_thrown B (Asks Turn fs) m w r = with_turns B m.turns fs m w r
on_thrown B a m w r = Stuck r

-- the meter after an object was thrown
abbrev pub meter_thrown : ℕ → ℕ → Meter → Meter
meter_thrown o t m = record m { thrown = Some (record { reference = o; type = t }) }

-- an exception is thrown by its type, which is one of the program
abbrev pub throws : Option Row → Program → Bounds → ℕ → ℕ → Frames → Meter → Log → Log → Run
throws None P B o t fs m w r = Stuck r
throws (Some c) P B o t fs m w r = on_thrown B (unwinds P o t fs) (meter_thrown o t m) w r

-- the header of the exception is read
abbrev pub on_raise : Reply → Program → Bounds → ℕ → Frames → Meter → Log → Log → Run
on_raise (Gives v) P B o fs m w r = throws (row_at P (type_in (answered w o v))) P B o (type_in (answered w o v)) fs m w (recorded (written w o) o v r)
on_raise Refuses P B o fs m w r = unwound (unwinds P 1 0 fs) m w r

-- the conflict of an attempt is thrown on, and has no header
abbrev pub raises : Phase → Reply → Program → Bounds → ℕ → Frames → Meter → Log → Log → Run
raises Open v P B o fs m w r = on_raise v P B o fs m w r
raises Doomed v P B o fs m w r = unwound (unwinds P o 0 fs) m w r
raises p v P B o fs m w r = Stuck r

-- the meter after an object was made
abbrev pub meter_with : Object → Meter → Meter
meter_with b m = record m { used = m.used + words_of b }

-- the meter after an object was made and thrown
abbrev pub meter_after : Bounds → Object → Meter → Meter
meter_after B b m = meter_thrown (next_reference B.region m.used) b.type (meter_with b m)

-- a new object is pushed, or thrown
abbrev pub on_made : Made → Program → Bounds → Object → Frames → Meter → Log → Log → Run
on_made Pushed P B b fs m w r = On Open (resumed (slot.Ref (next_reference B.region m.used) ∷ []) fs) (meter_with b m) w r
on_made Raised P B b fs m w r = on_thrown B (unwinds P (next_reference B.region m.used) b.type fs) (meter_after B b m) w r

-- Its header is written; behind it the words are 0.
abbrev pub on_header : Reply → Made → Program → Bounds → Object → Frames → Meter → Log → Log → Run
on_header (Gives v) d P B b fs m w r = on_made d P B b fs m (access (next_reference B.region m.used) (header b) ∷ w) r
on_header Refuses d P B b fs m w r = unwound (unwinds P 1 0 fs) m w r

abbrev pub makes : Bool → Reply → Made → Program → Bounds → Object → Frames → Meter → Log → Log → Run
makes true v d P B b fs m w r = on_header v d P B b fs m w r
makes false v d P B b fs m w r = refused B (Heap m.used (words_of b) B.region.size) m r

-- a new object, where there is room for it
abbrev pub with_room : Reply → Made → Program → Bounds → Object → Frames → Meter → Log → Log → Run
with_room v d P B b fs m w r = makes (has_words B.region m.used (words_of b)) v d P B b fs m w r

abbrev pub made : Option Row → ℕ → ℕ → Made → Reply → Program → Bounds → Frames → Meter → Log → Log → Run
made None t n d v P B fs m w r = Stuck r
made (Some c) t n d v P B fs m w r = with_room v d P B (object_of t n c) fs m w r

abbrev pub making : Phase → ℕ → ℕ → Made → Reply → Program → Bounds → Frames → Meter → Log → Log → Run
making Open t n d v P B fs m w r = made (row_at P t) t n d v P B fs m w r
making p t n d v P B fs m w r = Stuck r

-- an instruction goes on, or wants something more
abbrev pub followed : Asked → Meter → Log → Log → Run
followed (Asks Go fs) m w r = On Open fs m w r
followed (Asks a fs) m w r = Asking a fs m w r
followed Fails m w r = Stuck r

-- The header of the object is read, and the instruction goes on by what it has.
abbrev pub on_head : Reply → Program → Use → ℕ → Frames → Meter → Log → Log → Run
on_head (Gives v) P u o fs m w r = followed (told P u o (type_in (answered w o v)) (length_in (answered w o v)) fs) m w (recorded (written w o) o v r)
on_head Refuses P u o fs m w r = unwound (unwinds P 1 0 fs) m w r

-- a plain load of an element reads no header
abbrev pub heads : Reply → Program → Use → ℕ → Frames → Meter → Log → Log → Run
heads v P (Indexes i element.Load) o fs m w r = On Open (resumed (slot.Loaded ∷ []) fs) m w r
heads v P u o fs m w r = on_head v P u o fs m w r

abbrev pub heading : Phase → Reply → Program → Use → ℕ → Frames → Meter → Log → Log → Run
heading Open v P u o fs m w r = heads v P u o fs m w r
heading p v P u o fs m w r = Stuck r

abbrev pub on_look : Reply → Program → Frames → Meter → Log → Log → Run
on_look (Gives v) P fs m w r = On Open (advanced fs) m w r
on_look Refuses P fs m w r = unwound (unwinds P 1 0 fs) m w r

abbrev pub on_read : Reply → Program → Place → WordType → Frames → Meter → Log → Log → Run
on_read (Gives v) P p t fs m w r =
    On Open (resumed (pushed (value_of t (answered w (address p) v)) []) fs) m w (recorded (written w (address p)) (address p) v r)
on_read Refuses P p t fs m w r = unwound (unwinds P 1 0 fs) m w r

abbrev pub on_write : Reply → Program → Place → ℕ → Frames → Meter → Log → Log → Run
on_write (Gives v) P p x fs m w r = On Open (advanced fs) m (access (address p) x ∷ w) r
on_write Refuses P p x fs m w r = unwound (unwinds P 1 0 fs) m w r

-- a commit leaves 1 on the stack, one that failed 0
abbrev pub on_commit : Bounds → Reply → Frames → Meter → Log → Log → Run
on_commit B (Gives v) fs m w r = On Closed (resumed (slot.Int (pos 1) ∷ []) fs) m w r
on_commit B Refuses fs m w r = On Ready (resumed (slot.Int (pos 0) ∷ []) fs) (set_back B m) [] []

abbrev pub on_request : Program → Bounds → Request → Phase → Reply → Frames → Meter → Log → Log → Run
on_request P B (request.Begin n) Ready v fs m w r = begun (nat_lt m.tried (min (count_of n) B.attempts)) B fs m
on_request P B (request.Get p) Open v fs m w r = On Open (resumed (slot.Loaded ∷ []) fs) m w r
on_request P B (request.Look p) Open v fs m w r = on_look v P fs m w r
on_request P B (request.Read p t) Open v fs m w r = on_read v P p t fs m w r
on_request P B (request.Write p x) Open v fs m w r = on_write v P p x fs m w r
on_request P B request.Commit Open v fs m w r = on_commit B v fs m w r
on_request P B request.Rollback Doomed v fs m w r = On Ready (advanced fs) (set_back B m) [] []
on_request P B q p v fs m w r = Stuck r

abbrev pub on_asking : Program → Bounds → Wanted → Phase → Reply → Frames → Meter → Log → Log → Run
on_asking P B Go p v fs m w r = On p fs m w r
on_asking P B Turn p v fs m w r = turned B p fs m w r
on_asking P B (Enter deep) p v fs m w r = entered B p deep fs m w r
on_asking P B (Return x) p v fs m w r = returned p x m w r
on_asking P B (Throw o) p v fs m w r = threw P p o m w r
on_asking P B (Raise o) p v fs m w r = raises p v P B o fs m w r
on_asking P B (Make t n d) p v fs m w r = making p t n d v P B fs m w r
on_asking P B (Head o u) p v fs m w r = heading p v P u o fs m w r
on_asking P B (Ask q) p v fs m w r = on_request P B q p v fs m w r

abbrev pub on_asked : Program → Bounds → Asked → Phase → Reply → Meter → Log → Log → Run
on_asked P B (Asks a fs) p v m w r = on_asking P B a p v fs m w r
on_asked P B Fails p v m w r = Stuck r

-- one step, where the engine answers v if it is asked
abbrev pub next_run : Program → Bounds → Reply → Run → Run
next_run P B v (On p fs m w r) = on_asked P B (step P fs) p v m w r
next_run P B v (Asking a fs m w r) = on_asking P B a Open v fs m w r
next_run P B v c = c

-- a step for each reply
abbrev pub run : Program → Bounds → List Reply → Run → Run
run P B [] c = c
run P B (v ∷ vs) c = run P B vs (next_run P B v c)

-- some replies lead from c to d
abbrev pub Comes : Program → Bounds → Run → Run → Type 0
Comes P B c d = (vs : List Reply) × (run P B vs c ≡ d)

abbrev pub starts : Option Method → Bounds → ℕ → List Value → Run
starts None B m args = Stuck []
starts (Some k) B m args = On Ready (started m k (flat_map slots_of args) ∷ []) (record { turns = 0; tried = 0; used = B.used; thrown = None }) [] []

-- a call of a wrapper
abbrev pub run_start : Program → Bounds → ℕ → List Value → Run
run_start P B m args = starts (method_at P m) B m args

-- The wrapper's call ends with this answer and leaves so many words of its region used; its last attempt wrote and read just this. Attempts
-- before it met a conflict.
pub record Runs (P : Program) (B : Bounds) (m : ℕ) (args : List Value) (x : Answer) (used : ℕ) (w r : Log) : Type 0 where
  pub meter : Meter
  pub comes : Comes P B (run_start P B m args) (Ended x meter w r)
  pub leaves : meter.used ≡ used
  pub made : x ≢ Spent
