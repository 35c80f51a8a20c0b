-- The shares of several classes of their program, one after another.
use Rattle.std.proofs.Common.{◌≡◌, ℕ, zero, suc, ◌+◌, ◌≤◌, Bool, List, [], ◌∷◌, ◌++◌, length, map, take, drop, Some, Result, Ok, Err, refl, sym, ap, ◌∙◌, subst, arith, append_assoc, length-append}
use Rattle.std.specs.Prelude.{slice_get}
use Rattle.std.specs.List.{flat_map, AllZip, prefix_len}
use Rattle.std.proofs.lemmas.List.{append-nil, drop-drop, length-map, map-append}
use Rattle.std.proofs.lemmas.List.Concat.{flat_map-cons}
use Rattle.jmodel.specs.declared.refusal.Refusal.{Refusal}
use Rattle.jmodel.specs.declared.refusal.Halt.{Halt}
use Rattle.jmodel.specs.declared.refusal.Halt.TheVariants as halts
use Rattle.jmodel.specs.format.ClassFile.{Member, ClassFile}
use Rattle.jmodel.specs.format.Reading.{◌>>=◌, Fails}
use Rattle.objects.specs.linking.Members.{own_name}
use Rattle.objects.specs.linking.Classes.{declared_in, methods_in}
use Rattle.objects.specs.linking.Taken.{is_taken}
use Rattle.objects.specs.semantics.Program.{Field, Method, Program, method_at}
use Rattle.objects.specs.typing.Typing.{Table}
use Rattle.objects.specs.linking.Linking.{linking}
use Rattle.objects.specs.laws.LinkingLaw.{AreRead}
use Rattle.objects.proofs.Links.{IsLinkedTo, links}
use Rattle.program_typing.specs.Tables.{IsTableOf, AreTables}
use Rattle.rewriter.specs.Part.{Part, Rest, StandsFirst, HasNext, is_of_class, wrapper_count, own_fields, own_methods, part_of, share_of}
use Rattle.rewriter.specs.Asked.{IsShare}
use Rattle.rewriter.specs.Rewritten.{rewritten_share}
use Rattle.rewriter.specs.RewrittenClasses.{of_class, rewritten_from, rewritten_classes}
use Rattle.rewriter.proofs.Lists.{drop-none, of_rest, zipped_parts, front_at, behind_front}
use Rattle.rewriter.proofs.Grouped.{AreOthers, AreOther}
use Rattle.rewriter.proofs.Owned.{is_taken_of, AreAsMany, other, methods_are, fields_are, own_first}
use Rattle.rewriter.proofs.Splits.{wrappers_few}

-- ---- a class's share stands first

flags_of : (cs : List ClassFile) (c : ClassFile) (ms : List Member) → map (is_taken cs) (declared_in c ms) ≡ map (is_taken_of cs c) ms
flags_of cs c [] = refl
flags_of cs c (m ∷ ms) = ap (λ (l : List Bool). is_taken_of cs c m ∷ l) (flags_of cs c ms)

-- what is left for some of the classes
abbrev pub rest_of : List ClassFile → Program → ℕ → ℕ → List ClassFile → Rest
rest_of cs P n id ds = record { flags = map (is_taken cs) (methods_in ds); fields = flat_map (own_fields P) ds; methods = flat_map (own_methods P) ds; first = n; wrapper = id }

-- what is left behind a class
abbrev pub behind_of : List ClassFile → Program → ℕ → ℕ → ClassFile → List ClassFile → Rest
behind_of cs P n id c ds = rest_of cs P (n + length (own_methods P c)) (id + wrapper_count (own_methods P c)) ds

stands_first : (cs : List ClassFile) (P : Program) (n id : ℕ) (c : ClassFile) (ds : List ClassFile) → AreAsMany cs c (own_methods P c) → AreOthers (own_name c) ds
    → StandsFirst c (part_of cs P n id c) (rest_of cs P n id (c ∷ ds)) (behind_of cs P n id c ds)
stands_first cs P n id c ds many others = record {
  flags = ap (map (is_taken cs)) (flat_map-cons (λ (d : ClassFile). declared_in d d.methods) c ds) ∙ map-append (is_taken cs) (declared_in c c.methods) (methods_in ds)
      ∙ ap (λ (l : List Bool). l ++ map (is_taken cs) (methods_in ds)) (flags_of cs c c.methods);
  fields = flat_map-cons (own_fields P) c ds;
  own = ap (prefix_len (is_of_class (own_name c))) (flat_map-cons (own_fields P) c ds) ∙ own_first cs P c ds others;
  methods = flat_map-cons (own_methods P) c ds;
  members = many;
  first = refl;
  first_behind = refl;
  wrapper = refl;
  wrapper_behind = refl;
}

-- ---- one class after another

-- what was rewritten before, and what is still
abbrev pub with_classes : List ClassFile → Result (List ClassFile) Refusal → Result (List ClassFile) Refusal
with_classes front read = read >>= λ x. Ok (front ++ x)

front_none : (r : Result (List ClassFile) Refusal) → with_classes [] r ≡ r
front_none (Ok x) = refl
front_none (Err e) = refl

regroup : (front : List ClassFile) (y : ClassFile) (read : Result (List ClassFile) Refusal) → with_classes front (read >>= λ x. Ok (y ∷ x)) ≡ with_classes (front ++ y ∷ []) read
regroup front y (Ok x) = ap (λ (ys : List ClassFile). Ok ys) (simp append_assoc)
regroup front y (Err f) = refl

-- So many classes are rewritten as these, and this is left: its methods are the program's from its first on, with whatever tables.
pub record IsUnderWay (cs : List ClassFile) (P : Program) (i : ℕ) (rest : Rest) (done : List ClassFile) : Type 0 where
  pub left : rest ≡ rest_of cs P rest.first rest.wrapper (drop i cs)
  pub total : (Ts : List Table) → AreTables P Ts → with_classes done (rewritten_from cs P rest.first rest.wrapper (drop rest.first Ts) (drop i cs)) ≡ rewritten_classes cs P Ts
  pub typed : (Ts : List Table) → AreTables P Ts → AllZip (IsTableOf P) rest.methods (drop rest.first Ts)
  pub stands : (j : ℕ) (k : Method) → slice_get rest.methods j ≡ Some k → method_at P (rest.first + j) ≡ Some k
  pub count : rest.first + length rest.methods ≡ length P.methods
  pub wrapper : rest.wrapper ≤ rest.first

other_at : (i : ℕ) (cs rest : List ClassFile) (c : ClassFile) → AreOther cs → drop i cs ≡ c ∷ rest → AreOthers (own_name c) rest
other_at zero [] rest c o e = absurd cc
other_at zero (d ∷ ds) rest c o e =
    let s : d ≡ c = cc in
    let t : ds ≡ rest = cc in
    subst (λ (x : ClassFile). AreOthers (own_name x) rest) s (subst (AreOthers (own_name d)) t o.0)
other_at (suc i) [] rest c o e = absurd cc
other_at (suc i) (d ∷ ds) rest c o e = other_at i ds rest c o.1 e

module _ (cs : List ClassFile) (P : Program) (read : AreRead cs) (linked : linking cs ≡ Ok (Some P)) where
  abbrev l : IsLinkedTo cs P
  l = links cs P linked

  many_at : (i : ℕ) (c : ClassFile) → drop i cs ≡ c ∷ drop (i + 1) cs → AreAsMany cs c (own_methods P c)
  many_at i c item = of_rest (λ (d : ClassFile). AreAsMany cs d (own_methods P d)) i cs (drop (i + 1) cs) c (methods_are cs P read l).0 item

  pub starts : (rest : Rest) → rest ≡ record { flags = map (is_taken cs) (methods_in cs); fields = P.fields; methods = P.methods; first = 0; wrapper = 0 } → IsUnderWay cs P 0 rest []
  starts rest e = subst (λ (r : Rest). IsUnderWay cs P 0 r []) (sym e) (record {
    left = ap (λ (fs : List Field). record { flags = map (is_taken cs) (methods_in cs); fields = fs; methods = P.methods; first = 0; wrapper = 0 }) (fields_are cs P read l)
        ∙ ap (λ (ks : List Method). record { flags = map (is_taken cs) (methods_in cs); fields = flat_map (own_fields P) cs; methods = ks; first = 0; wrapper = 0 }) (methods_are cs P read l).1;
    total = λ Ts are. ap (λ (Us : List Table). with_classes [] (rewritten_from cs P 0 0 Us cs)) (drop-none Ts) ∙ front_none (rewritten_from cs P 0 0 Ts cs);
    typed = λ Ts are. subst (AllZip (IsTableOf P) P.methods) (sym (drop-none Ts)) are;
    stands = λ j k at. let z : 0 + j ≡ j = omega arith in ap (method_at P) z ∙ at;
    count = omega arith;
    wrapper = omega arith;
  })

  -- behind the last class all are rewritten
  pub ends : (i : ℕ) (rest : Rest) (done : List ClassFile) → IsUnderWay cs P i rest done → drop i cs ≡ [] → (Ts : List Table) → AreTables P Ts → rewritten_classes cs P Ts ≡ Ok done
  ends i rest done U none Ts are =
      let last : with_classes done (rewritten_from cs P rest.first rest.wrapper (drop rest.first Ts) (drop i cs)) ≡ Ok (done ++ []) = ap (λ (ds : List ClassFile). with_classes done (rewritten_from cs P rest.first rest.wrapper (drop rest.first Ts) ds)) none in
      sym (U.total Ts are) ∙ last ∙ ap (λ (ds : List ClassFile). Ok ds) (append-nil done)

  module _ (i : ℕ) (c : ClassFile) (item : drop i cs ≡ c ∷ drop (i + 1) cs) (rest : Rest) (done : List ClassFile) (U : IsUnderWay cs P i rest done) where
    abbrev pub part : Part
    part = part_of cs P rest.first rest.wrapper c

    abbrev pub behind : Rest
    behind = behind_of cs P rest.first rest.wrapper c (drop (i + 1) cs)

    pub stands : StandsFirst c part rest behind
    stands =
        let e : rest ≡ rest_of cs P rest.first rest.wrapper (c ∷ drop (i + 1) cs) = U.left ∙ ap (rest_of cs P rest.first rest.wrapper) item in
        let o = other_at i cs (drop (i + 1) cs) c (other cs P read l) item in
        subst (λ (r : Rest). StandsFirst c part r behind) (sym e) (stands_first cs P rest.first rest.wrapper c (drop (i + 1) cs) (many_at i c item) o)

    pub has_next : HasNext c rest
    has_next = (part, behind, stands)

    pub is_share : IsShare P c (share_of c part)
    is_share =
        let s = stands in
        let sum = ap (λ (ks : List Method). length ks) s.methods in
        let long = length-append part.methods behind.methods in
        record {
          stands = λ j k at. U.stands j k (ap (λ (ks : List Method). slice_get ks j) s.methods ∙ front_at part.methods behind.methods j k at);
          members = sym s.members;
          flags = length-map _ _;
          inside = (let count = U.count in omega (arith, count, sum, long));
          wrapper = U.wrapper;
        }

    abbrev own : List Method
    own = own_methods P c

    abbrev gives : List Table → Result ClassFile Refusal
    gives Ts = of_class (own_name c) (rewritten_share P c (share_of c part) Ts)

    module _ (Ts : List Table) (are : AreTables P Ts) where
      abbrev pub here : List Table
      here = take (length own) (drop rest.first Ts)

      abbrev others : List Table
      others = drop (length own) (drop rest.first Ts)

      parts : AllZip (IsTableOf P) own here × AllZip (IsTableOf P) behind.methods others
      parts = zipped_parts (IsTableOf P) own behind.methods (drop rest.first Ts) (subst (λ (ks : List Method). AllZip (IsTableOf P) ks (drop rest.first Ts)) (stands.methods) (U.typed Ts are))

      -- the next tables are those of the class's methods
      pub next_typed : AllZip (IsTableOf P) own here
      next_typed = parts.0

      on : others ≡ drop (rest.first + length own) Ts
      on = drop-drop (length own) rest.first Ts

      next : with_classes done (gives here >>= λ first. rewritten_from cs P behind.first behind.wrapper others (drop (i + 1) cs) >>= λ others. Ok (first ∷ others)) ≡ rewritten_classes cs P Ts
      next = sym (ap (λ (ds : List ClassFile). with_classes done (rewritten_from cs P rest.first rest.wrapper (drop rest.first Ts) ds)) item) ∙ U.total Ts are

      pub fails : (e : Halt) → Fails e (gives here) → Fails e (rewritten_classes cs P Ts)
      fails halts.NoMemory h = tt
      fails (halts.Refused r) h =
          sym next ∙ ap (λ (x : Result ClassFile Refusal). with_classes done (x >>= λ first. rewritten_from cs P behind.first behind.wrapper others (drop (i + 1) cs) >>= λ others. Ok (first ∷ others))) h

      total_on : (d : ClassFile) → gives here ≡ Ok d → with_classes (done ++ d ∷ []) (rewritten_from cs P behind.first behind.wrapper (drop behind.first Ts) (drop (i + 1) cs)) ≡ rewritten_classes cs P Ts
      total_on d is =
          ap (λ (Us : List Table). with_classes (done ++ d ∷ []) (rewritten_from cs P behind.first behind.wrapper Us (drop (i + 1) cs))) (sym on)
          ∙ sym (regroup done d (rewritten_from cs P behind.first behind.wrapper others (drop (i + 1) cs)))
          ∙ sym (ap (λ (r : Result ClassFile Refusal). with_classes done (r >>= λ first. rewritten_from cs P behind.first behind.wrapper others (drop (i + 1) cs) >>= λ others. Ok (first ∷ others))) is)
          ∙ next

    pub goes_on : (d : ClassFile) → ((Ts : List Table) (are : AreTables P Ts) → gives (here Ts are) ≡ Ok d) → IsUnderWay cs P (i + 1) behind (done ++ d ∷ [])
    goes_on d is =
        let s = stands in
        let list = ap (λ (ks : List Method). length ks) s.methods in
        let sum = length-append own behind.methods in
        record {
          left = refl;
          total = λ Ts are. total_on Ts are d (is Ts are);
          typed = λ Ts are. subst (AllZip (IsTableOf P) behind.methods) (on Ts are) (parts Ts are).1;
          stands = λ j k at.
              let z : rest.first + length own + j ≡ rest.first + (length own + j) = omega arith in
              ap (method_at P) z ∙ U.stands (length own + j) k (ap (λ (ks : List Method). slice_get ks (length own + j)) s.methods ∙ behind_front own behind.methods j ∙ at);
          count = (let a = U.count in omega (arith, a, list, sum));
          wrapper = (let a = U.wrapper in omega (arith, a, wrappers_few own));
        }
