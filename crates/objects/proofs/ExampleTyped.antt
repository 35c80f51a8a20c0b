-- The example is a typed program, so the rules of sources can be met.
use Rattle.std.proofs.Common.{◌≡◌, ◌≢◌, ℕ, zero, suc, ◌+◌, List, [], ◌∷◌, ◌++◌, length, Option, Some, None, true, false, refl, sym, ap, subst, ◌∙◌, arith, inl, inr}
use Rattle.std.specs.Prelude.{pos, slice_get, bytes_eq, codes, nat_lt, if◌then◌else◌}
use Rattle.std.specs.List.{AllByRecursion}
use Rattle.std.proofs.lemmas.Slice.Eq.{bytes_eq-Decides}
use Rattle.jmodel.specs.declared.value.Value.TheVariants.{Int}
use Rattle.jmodel.specs.declared.typing.VType.{VType}
use Rattle.jmodel.specs.declared.typing.VType.TheVariants as type
use Rattle.objects.specs.declared.op.Dispatch.{Dispatch}
use Rattle.objects.specs.declared.op.Dispatch.TheVariants as dispatch
use Rattle.objects.specs.declared.op.Op.TheVariants.{Constant, ReturnValue}
use Rattle.objects.specs.declared.op.Sort.TheVariants as sort
use Rattle.objects.specs.semantics.Program.{Field, Row, Method, Program, has_code, method_at, row_at}
use Rattle.objects.specs.linking.LibraryClasses.{object, runtime_exception, library_rows}
use Rattle.objects.specs.typing.TypeOrder.{object_class}
use Rattle.objects.specs.typing.Typing.{Table, IsTyping, arguments}
use Rattle.objects.specs.laws.TypingLaw.{IsTypedProgram}
use Rattle.objects.specs.rewriting.Rewriting.{with_context}
use Rattle.objects.specs.typing.Source.{IsReadName, IsClass, IsDeclared, AreTypes, IsSourceMethod, AreNamed, IsSource}
use Rattle.objects.proofs.LibraryRows.{IsRow, AreRows, row_of, class_row, for_any, IsReadIn, library, traps, conflict, context, string}
use Rattle.objects.proofs.ArrayRows.{references_within, primitives_within}
use Rattle.objects.proofs.Checking.{checked}
use Rattle.objects.proofs.ExampleProgram.{ints, longs, bytes, of_class, class_a, class_b, class_e, static_base, array_a, array_b, array_bytes, fields, program}
use Rattle.objects.proofs.ExampleProgram as methods
use Rattle.objects.proofs.ExampleTables as tables

-- ---- types of objects

abbrev own_rows : List Row
own_rows = class_a ∷ class_b ∷ class_e ∷ static_base ∷ array_a ∷ array_b ∷ array_bytes ∷ []

a_is : IsClass program class_a (ints ∷ of_class (codes "A") ∷ bytes ∷ [])
a_is = record {
  named = refl;
  read = refl;
  found = refl;
  placed = inr (record { number = 1; upper = object; upper_words = []; own = ints ∷ of_class (codes "A") ∷ bytes ∷ []; is = refl; class = λ e. cc; lineage = refl; holds = refl; words_are = refl });
}

b_is : IsClass program class_b (ints ∷ of_class (codes "A") ∷ bytes ∷ longs ∷ [])
b_is = record {
  named = refl;
  read = refl;
  found = refl;
  placed = inr (record { number = 21; upper = class_a; upper_words = ints ∷ of_class (codes "A") ∷ bytes ∷ []; own = longs ∷ []; is = refl; class = λ e. cc; lineage = refl; holds = refl; words_are = refl });
}

row_a : IsRow program 21 class_a
row_a = class_row program 21 class_a [] refl (inr a_is) (refl, (refl, tt)) (λ n. refl) refl

row_b : IsRow program 22 class_b
row_b = class_row program 22 class_b (codes "I" ∷ []) refl (inr b_is) (refl, (refl, (refl, (refl, tt)))) (λ n. refl) refl

row_e : IsRow program 23 class_e
row_e =
    class_row program 23 class_e [] refl
    (inr (record { named = refl; read = refl; found = refl; placed = inr (record { number = 7; upper = runtime_exception; upper_words = []; own = []; is = refl; class = λ e. cc; lineage = refl; holds = refl; words_are = refl }) }))
    (refl, (refl, (refl, (refl, (refl, tt))))) (λ n. refl) refl

row_base : IsRow program 24 static_base
row_base = record { row = inl (refl, refl); instances = λ n e. cc; within = λ n e. cc }

row_array_a : IsRow program 25 array_a
row_array_a = record {
  row = record { read = refl; element = λ e. refl; apart = refl };
  instances = λ n e. for_any (IsReadIn program array_a) n array_a.instance_of (refl, (refl, (refl, tt))) e;
  within = references_within program 25 (codes "A") refl refl (refl, (refl, tt));
}

row_array_b : IsRow program 26 array_b
row_array_b = record {
  row = record { read = refl; element = λ e. refl; apart = refl };
  instances = λ n e. for_any (IsReadIn program array_b) n array_b.instance_of (refl, (refl, (refl, (refl, (refl, tt))))) e;
  within = references_within program 26 (codes "B") refl refl (refl, (refl, (refl, tt)));
}

row_array_bytes : IsRow program 27 array_bytes
row_array_bytes = record {
  row = record { read = refl; element = λ e. cc; apart = refl };
  instances = λ n e. for_any (IsReadIn program array_bytes) n array_bytes.instance_of (refl, (refl, tt)) e;
  within = primitives_within program 27 66 refl refl refl refl;
}

joined : (P : Program) (t : ℕ) (rs qs : List Row) → AreRows P t rs → AreRows P (t + length rs) qs → AreRows P t (rs ++ qs)
joined P t [] qs all rest = let z : t + 0 ≡ t = omega arith in subst (λ n. AreRows P n qs) z rest
joined P t (r ∷ rs) qs all rest = let z : t + suc (length rs) ≡ suc t + length rs = omega arith in (all.0, joined P (suc t) rs qs all.1 (subst (λ n. AreRows P n qs) z rest))

all_rows : AreRows program 1 program.types
all_rows = joined program 1 library_rows own_rows (library own_rows program.texts program.fields program.methods) (row_a, (row_b, (row_e, (row_base, (row_array_a, (row_array_b, (row_array_bytes, tt)))))))

each_row : (t : ℕ) (r : Row) → row_at program t ≡ Some r → IsRow program t r
each_row zero r e = cc
each_row (suc t) r e = let s : 1 + t ≡ suc t = omega arith in subst (λ n. IsRow program n r) s (row_of program 1 program.types all_rows t r e)

-- what holds of each item of a list
item : {A : Type 0} (Rule : A → Type 0) (xs : List A) (i : ℕ) (x : A) → AllByRecursion Rule xs → slice_get xs i ≡ Some x → Rule x
item Rule [] i x all e = cc
item Rule (y ∷ ys) zero x all e = let s : y ≡ x = cc in subst Rule s all.0
item Rule (y ∷ ys) (suc i) x all e = item Rule ys i x all.1 e

abbrev IsPlaced : Field → Type 0
IsPlaced f = f.base ≡ None → IsDeclared program f

of_a : (f : Field) → f.class ≡ codes "A" → slice_get (ints ∷ of_class (codes "A") ∷ bytes ∷ []) f.index ≡ Some f.declared → IsDeclared program f
of_a f class place = record { below = λ e. let fall : codes "A" ≡ object_class = sym class ∙ e in cc; number = 21; row = class_a; words = ints ∷ of_class (codes "A") ∷ bytes ∷ []; is = refl; name = sym class; class = a_is; holds = refl; place = place }

of_b : (f : Field) → f.class ≡ codes "B" → slice_get (ints ∷ of_class (codes "A") ∷ bytes ∷ longs ∷ []) f.index ≡ Some f.declared → IsDeclared program f
of_b f class place = record { below = λ e. let fall : codes "B" ≡ object_class = sym class ∙ e in cc; number = 22; row = class_b; words = ints ∷ of_class (codes "A") ∷ bytes ∷ longs ∷ []; is = refl; name = sym class; class = b_is; holds = refl; place = place }

declared : AllByRecursion IsPlaced fields
declared = (λ e. of_a _ refl refl, (λ e. of_a _ refl refl, (λ e. of_a _ refl refl, (λ e. cc, (λ e. cc, (λ e. of_b _ refl refl, tt))))))

types : AreTypes program
types = record {
  rows = λ t r e. (each_row t r e).row;
  instances = λ t r n e. (each_row t r e).instances n;
  within = λ t r n e. (each_row t r e).within n;
  fields = λ i f e. item IsPlaced fields i f declared e;
  traps = traps own_rows program.texts program.fields program.methods;
  conflict = conflict own_rows program.texts program.fields program.methods refl;
  context = context own_rows program.texts program.fields program.methods refl;
  string = string own_rows program.texts program.fields program.methods;
}

-- ---- names

abbrev arguments_by : List ℕ → List VType
arguments_by d = if bytes_eq d (codes "(J)V") then type.Long ∷ type.Second ∷ [] else []

abbrev result_by : List ℕ → Option VType
result_by d = if bytes_eq d (codes "()I") then Some type.Int else None

-- a method's descriptor says what it takes and gives, and is short, and its name is none of an initialiser
pub record IsNamed (k : Method) : Type 0 where
  pub takes : k.dispatch ≢ dispatch.Static → arguments k ≡ arguments_by k.name.descriptor
  pub gives : k.dispatch ≢ dispatch.Static → k.result ≡ result_by k.name.descriptor
  pub short : nat_lt (length k.name.descriptor) 9 ≡ true
  pub long : nat_lt (length (with_context k.name.descriptor)) 9 ≡ false
  pub no_initialiser : bytes_eq k.name.name (codes "<clinit>") ≡ false
  pub unreserved : bytes_eq k.name.name (codes "__CLINIT__") ≡ false

all_named : AllByRecursion IsNamed program.methods
all_named = (
  record { takes = λ e. refl; gives = λ e. refl; short = refl; long = refl; no_initialiser = refl; unreserved = refl },
  (
    record { takes = λ e. refl; gives = λ e. refl; short = refl; long = refl; no_initialiser = refl; unreserved = refl },
    (
      record { takes = λ e. refl; gives = λ e. refl; short = refl; long = refl; no_initialiser = refl; unreserved = refl },
      (
        record { takes = λ e. refl; gives = λ e. refl; short = refl; long = refl; no_initialiser = refl; unreserved = refl },
        (
          record { takes = λ e. refl; gives = λ e. refl; short = refl; long = refl; no_initialiser = refl; unreserved = refl },
          (
            record { takes = λ e. refl; gives = λ e. refl; short = refl; long = refl; no_initialiser = refl; unreserved = refl },
            (
              record { takes = λ e. refl; gives = λ e. refl; short = refl; long = refl; no_initialiser = refl; unreserved = refl },
              (
                record { takes = λ e. refl; gives = λ e. refl; short = refl; long = refl; no_initialiser = refl; unreserved = refl },
                (
                  record { takes = λ e. refl; gives = λ e. refl; short = refl; long = refl; no_initialiser = refl; unreserved = refl },
                  (
                    record { takes = λ e. refl; gives = λ e. refl; short = refl; long = refl; no_initialiser = refl; unreserved = refl },
                    (
                      record { takes = λ e. refl; gives = λ e. refl; short = refl; long = refl; no_initialiser = refl; unreserved = refl },
                      (
                        record { takes = λ e. refl; gives = λ e. refl; short = refl; long = refl; no_initialiser = refl; unreserved = refl },
                        (
                          record { takes = λ e. refl; gives = λ e. refl; short = refl; long = refl; no_initialiser = refl; unreserved = refl },
                          (
                            record { takes = λ e. refl; gives = λ e. refl; short = refl; long = refl; no_initialiser = refl; unreserved = refl },
                            tt,
                          ),
                        ),
                      ),
                    ),
                  ),
                ),
              ),
            ),
          ),
        ),
      ),
    ),
  ),
)

named : (i : ℕ) (k : Method) → method_at program i ≡ Some k → IsNamed k
named i k e = item IsNamed program.methods i k all_named e

names : AreNamed program
names = record {
  described = λ i j k o e h not_k not_o same.
      let a = named i k e in
      let b = named j o h in
      (a.takes not_k ∙ ap arguments_by same ∙ sym (b.takes not_o), a.gives not_k ∙ ap result_by same ∙ sym (b.gives not_o));
  apart = λ i j k o e h same.
      let short = (named j o h).short in
      let long = (named i k e).long in
      let fall : false ≡ true = sym long ∙ ap (λ d. nat_lt (length d) 9) same ∙ short in
      cc;
  initialisers = λ i k e same. let fall : false ≡ true = sym (named i k e).no_initialiser ∙ (bytes_eq-Decides k.name.name (codes "<clinit>")).1 same in cc;
  reserved = λ i k e same. let fall : false ≡ true = sym (named i k e).unreserved ∙ (bytes_eq-Decides k.name.name (codes "__CLINIT__")).1 same in cc;
}

-- ---- names as typing reads them

read_a : IsReadName program (codes "A")
read_a = record { itself = refl; top = refl; read = refl }

read_b : IsReadName program (codes "B")
read_b = record { itself = refl; top = refl; read = refl }

read_e : IsReadName program (codes "E")
read_e = record { itself = refl; top = refl; read = refl }

read_as : IsReadName program (codes "[LA;")
read_as = record { itself = refl; top = refl; read = refl }

read_object : IsReadName program object_class
read_object = record { itself = refl; top = refl; read = refl }

-- ---- methods

source_init_a : IsSourceMethod program methods.init_a
source_init_a = record { counted = refl; class = record { itself = refl; array = λ e. cc }; parameters = tt; many = refl; object = refl; code = λ e. cc; result = tt; takes = (read_a, tt); gives = tt; unmarked = λ e. refl; entries = tt; each = (tt, (tt, (tt, tt))) }

source_get_a : IsSourceMethod program methods.get_a
source_get_a = record { counted = refl; class = record { itself = refl; array = λ e. cc }; parameters = tt; many = refl; object = refl; code = λ e. cc; result = tt; takes = (read_a, tt); gives = (tt, tt); unmarked = λ e. refl; entries = tt; each = (tt, (record { field = _; there = refl; base_is = refl }, (tt, tt))) }

source_get_b : IsSourceMethod program methods.get_b
source_get_b = record { counted = refl; class = record { itself = refl; array = λ e. cc }; parameters = tt; many = refl; object = refl; code = λ e. cc; result = tt; takes = (read_b, tt); gives = (tt, tt); unmarked = λ e. refl; entries = tt; each = (tt, (omega arith, (record { field = _; there = refl; base_is = refl }, (tt, (record { field = _; there = refl; base_is = refl }, (omega arith, (tt, (tt, tt)))))))) }

source_init_b : IsSourceMethod program methods.init_b
source_init_b = record { counted = refl; class = record { itself = refl; array = λ e. cc }; parameters = tt; many = refl; object = refl; code = λ e. cc; result = tt; takes = (read_b, (tt, (tt, tt))); gives = tt; unmarked = λ e. refl; entries = tt; each = (tt, (record { method = _; there = refl; over_object = λ e. cc }, (tt, (tt, (record { field = _; there = refl; base_is = refl }, (tt, tt)))))) }

source_f_i : IsSourceMethod program methods.f_i
source_f_i = record { counted = refl; class = record { itself = refl; array = λ e. cc }; parameters = tt; many = refl; object = (codes "java/lang/Object", refl); code = (refl, refl); result = tt; takes = (read_object, tt); gives = (tt, tt); unmarked = λ e. refl; entries = tt; each = tt }

source_f_b : IsSourceMethod program methods.f_b
source_f_b = record { counted = refl; class = record { itself = refl; array = λ e. cc }; parameters = tt; many = refl; object = refl; code = λ e. cc; result = tt; takes = (read_b, tt); gives = (tt, tt); unmarked = λ e. refl; entries = tt; each = (tt, (record { field = _; there = refl; base_is = refl }, (tt, (tt, tt)))) }

source_init_e : IsSourceMethod program methods.init_e
source_init_e = record { counted = refl; class = record { itself = refl; array = λ e. cc }; parameters = tt; many = refl; object = refl; code = λ e. cc; result = tt; takes = (read_e, tt); gives = tt; unmarked = λ e. refl; entries = tt; each = (tt, (tt, (tt, tt))) }

source_make : IsSourceMethod program methods.make
source_make = record { counted = refl; class = record { itself = refl; array = λ e. cc }; parameters = tt; many = refl; object = refl; code = λ e. cc; result = tt; takes = tt; gives = (tt, tt); unmarked = λ e. cc; entries = tt; each = (record { row = _; there = refl; known = record { itself = refl; array = λ e. cc }; holds = refl }, (tt, (omega arith, (record { method = _; there = refl; over_object = λ e. cc }, ((2, record { field = _; there = refl; base_is = refl }), ((2, record { field = _; there = refl; base_is = refl }), (record { method = _; there = refl; over_object = λ e. cc; constructor = λ e. cc }, (tt, tt)))))))) }

source_call : IsSourceMethod program methods.call
source_call = record { counted = refl; class = record { itself = refl; array = λ e. cc }; parameters = tt; many = refl; object = refl; code = λ e. cc; result = tt; takes = tt; gives = (tt, tt); unmarked = λ e. cc; entries = tt; each = ((2, record { field = _; there = refl; base_is = refl }), (record { itself = refl; array = λ e. cc }, (record { method = _; there = refl; over_object = λ e. cc; constructor = λ e. cc }, (tt, tt)))) }

source_elements : IsSourceMethod program methods.elements
source_elements = record { counted = refl; class = record { itself = refl; array = λ e. cc }; parameters = tt; many = refl; object = refl; code = λ e. cc; result = tt; takes = tt; gives = (tt, tt); unmarked = λ e. cc; entries = tt; each = (omega arith, (record { row = _; there = refl; known = record { itself = refl; array = λ e. refl }; holds = tt }, ((2, record { field = _; there = refl; base_is = refl }), ((2, record { field = _; there = refl; base_is = refl }), (omega arith, ((2, record { field = _; there = refl; base_is = refl }), (tt, ((2, record { field = _; there = refl; base_is = refl }), (omega arith, (tt, (record { method = _; there = refl; over_object = λ e. cc; constructor = λ e. cc }, ((2, record { field = _; there = refl; base_is = refl }), (tt, (tt, (tt, tt))))))))))))))) }

source_store : IsSourceMethod program methods.store
source_store = record { counted = refl; class = record { itself = refl; array = λ e. cc }; parameters = tt; many = refl; object = refl; code = λ e. cc; result = tt; takes = tt; gives = (tt, tt); unmarked = λ e. cc; entries = tt; each = (omega arith, (record { row = _; there = refl; known = record { itself = refl; array = λ e. refl }; holds = tt }, ((2, record { field = _; there = refl; base_is = refl }), ((2, record { field = _; there = refl; base_is = refl }), (omega arith, ((2, record { field = _; there = refl; base_is = refl }), (tt, (omega arith, (tt, tt))))))))) }

source_text : IsSourceMethod program methods.text
source_text = record { counted = refl; class = record { itself = refl; array = λ e. cc }; parameters = tt; many = refl; object = refl; code = λ e. cc; result = tt; takes = tt; gives = (tt, tt); unmarked = λ e. cc; entries = tt; each = (omega arith, (tt, (tt, tt))) }

source_caught : IsSourceMethod program methods.caught
source_caught = record { counted = refl; class = record { itself = refl; array = λ e. cc }; parameters = tt; many = refl; object = refl; code = λ e. cc; result = tt; takes = tt; gives = (tt, tt); unmarked = λ e. cc; entries = (record { from = omega arith; to = omega arith; catches = tt }, tt); each = (record { row = _; there = refl; known = record { itself = refl; array = λ e. cc }; holds = refl }, (tt, (record { method = _; there = refl; over_object = λ e. cc }, (tt, (tt, (omega arith, (tt, tt))))))) }

source_narrow : IsSourceMethod program methods.narrow
source_narrow = record { counted = refl; class = record { itself = refl; array = λ e. cc }; parameters = tt; many = refl; object = refl; code = λ e. cc; result = tt; takes = tt; gives = (tt, tt); unmarked = λ e. cc; entries = tt; each = (omega arith, (record { row = _; there = refl; known = record { itself = refl; array = λ e. refl }; holds = tt }, (tt, (tt, (omega arith, (omega arith, (tt, ((2, record { field = _; there = refl; base_is = refl }), (tt, (omega arith, (tt, (record { field = _; there = refl; base_is = refl }, ((2, record { field = _; there = refl; base_is = refl }), (record { field = _; there = refl; base_is = refl }, (tt, tt))))))))))))))) }

-- a method of an interface may have code: its object is any
abbrev coded_f_i : Method
coded_f_i = record methods.f_i { dispatch = dispatch.Virtual; max_stack = 1; ops = Constant (Int (pos 1)) ∷ ReturnValue sort.Int ∷ [] }

source_coded_f_i : IsSourceMethod program coded_f_i
source_coded_f_i = record { counted = refl; class = record { itself = refl; array = λ e. cc }; parameters = tt; many = refl; object = refl; code = λ e. cc; result = tt; takes = (read_object, tt); gives = (tt, tt); unmarked = λ e. refl; entries = tt; each = (omega arith, (tt, tt)) }

-- a static method may have none, and one over objects of a class
abbrev codeless : Dispatch → Method → Method
codeless d k = record k { dispatch = d; retries = None; ops = [] }

source_codeless_make : IsSourceMethod program (codeless dispatch.Static methods.make)
source_codeless_make = record { counted = refl; class = record { itself = refl; array = λ e. cc }; parameters = tt; many = refl; object = refl; code = (refl, refl); result = tt; takes = tt; gives = (tt, tt); unmarked = λ e. refl; entries = tt; each = tt }

source_codeless_get : IsSourceMethod program (codeless dispatch.Exact methods.get_a)
source_codeless_get = record { counted = refl; class = record { itself = refl; array = λ e. cc }; parameters = tt; many = refl; object = refl; code = (refl, refl); result = tt; takes = (read_a, tt); gives = (tt, tt); unmarked = λ e. refl; entries = tt; each = tt }

pub source : IsSource program
source = record {
  types = types;
  fields = (
    record { based = omega arith; read = tt },
    (
      record { based = omega arith; read = read_a },
      (
        record { based = omega arith; read = tt },
        (record { based = record { object = omega arith; address = omega arith }; read = read_a }, (record { based = record { object = omega arith; address = omega arith }; read = read_as }, (record { based = omega arith; read = tt }, tt))),
      ),
    ),
  );
  methods = (source_init_a, (source_get_a, (source_get_b, (source_init_b, (source_f_i, (source_f_b, (source_init_e, (source_make, (source_call, (source_elements, (source_store, (source_text, (source_caught, (source_narrow, tt))))))))))))));
  names = names;
}

-- ---- tables

abbrev AreTyped : List Method → List Table → Type 0
AreTyped [] Ts = Unit {0}
AreTyped (k ∷ ks) [] = ⊥
AreTyped (k ∷ ks) (T ∷ Ts) = (has_code (Some k) ≡ true → IsTyping program k T) × AreTyped ks Ts

typed_item : (ks : List Method) (Ts : List Table) → AreTyped ks Ts → (m : ℕ) (k : Method) → slice_get ks m ≡ Some k → has_code (Some k) ≡ true → (T : Table) × (slice_get Ts m ≡ Some T) × IsTyping program k T
typed_item [] Ts all m k e h = cc
typed_item (x ∷ ks) [] all m k e h = absurd all
typed_item (x ∷ ks) (T ∷ Ts) all zero k e h = let s : x ≡ k = cc in (T, refl, subst (λ k. IsTyping program k T) s (all.0 (subst (λ (k : Method). has_code (Some k) ≡ true) (sym s) h)))
typed_item (x ∷ ks) (T ∷ Ts) all (suc m) k e h = typed_item ks Ts all.1 m k e h

all_typed : AreTyped program.methods tables.tables
all_typed = (
  λ h. checked program methods.init_a tables.init_a refl refl,
  (
    λ h. checked program methods.get_a tables.get_a refl refl,
    (
      λ h. checked program methods.get_b tables.get_b refl refl,
      (
        λ h. checked program methods.init_b tables.init_b refl refl,
        (
          λ h. cc,
          (
            λ h. checked program methods.f_b tables.f_b refl refl,
            (
              λ h. checked program methods.init_e tables.init_e refl refl,
              (
                λ h. checked program methods.make tables.make refl refl,
                (
                  λ h. checked program methods.call tables.call refl refl,
                  (
                    λ h. checked program methods.elements tables.elements refl refl,
                    (
                      λ h. checked program methods.store tables.store refl refl,
                      (
                        λ h. checked program methods.text tables.text refl refl,
                        (
                          λ h. checked program methods.caught tables.caught refl refl,
                          (
                            λ h. checked program methods.narrow tables.narrow refl refl,
                            tt,
                          ),
                        ),
                      ),
                    ),
                  ),
                ),
              ),
            ),
          ),
        ),
      ),
    ),
  ),
)

pub typed_program : IsTypedProgram program tables.tables
typed_program = record {
  source = source;
  typed = λ m k e h. let t = typed_item program.methods tables.tables all_typed m k e h in record { table = t.0; there = t.1; typing = t.2 };
}
