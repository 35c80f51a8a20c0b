-- The helper of arrays has its name, and its methods have names and descriptors.
use Rattle.std.proofs.Common.{◌≡◌, ℕ, ◌+◌, List, [], ◌∷◌, Option, Some, None, Ok, refl, sym, ap, ◌∙◌, subst, arith}
use Rattle.std.specs.Prelude.{codes}
use Rattle.std.specs.List.{flat_map, AllByRecursion}
use Rattle.std.proofs.lemmas.List.Concat.{flat_map-cons}
use Rattle.jmodel.specs.declared.name.MethodName.{MethodName}
use Rattle.jmodel.specs.format.ClassFile.{Member, Pool, ClassFile}
use Rattle.jmodel.specs.format.Pool.{text_or_none, utf8, class_name}
use Rattle.jmodel.specs.format.Reading.{◌>>=◌}
use Rattle.objects.specs.linking.Members.{own_name}
use Rattle.objects.specs.declared.op.WordType.{WordType}
use Rattle.objects.specs.rewriting.Rewriting.{word_places, helper_class}
use Rattle.objects.specs.typing.TypeOrder.{context_class, object_class}
use Rattle.objects.specs.linking.Decoding.{read_descriptor, write_descriptor}
use Rattle.objects.proofs.Items.{item}
use Rattle.const_pool.proofs.Takes.{bind_ok, ok_is}
use Rattle.member_code.specs.Coding.{straight_method}
use Rattle.member_code.proofs.Grown.{Grown, grown_refl, grown_trans}
use Rattle.member_code.proofs.Puts.{Puts, Adding, AllPut, adds_all, adds_class}
use Rattle.array_helper.specs.Names.{load_named, store_named}
use Rattle.array_helper.specs.declared.helper.ElementMethods.{ElementMethods}
use Rattle.array_helper.specs.Helper.{look_call, read_call, write_call, load_instrs, load_method, store_instrs, store_method, element_methods, both_of, element_types, every_method, helper_parts, file_of, helper_file}
use Rattle.rewritten_names.specs.Heads.{Head}
use Rattle.rewritten_names.specs.LeadsLaw.{AreTexts}
use Rattle.rewritten_program.proofs.Accessing.{IsHeaded, straight_headed}
use Rattle.rewritten_program.proofs.Grows.{Growing, behind, method_grows}

-- a method with a name and a descriptor
record HasTexts (Z : Pool) (m : Member) : Type 0 where
  name : utf8 Z m.name ≡ Some (text_or_none (utf8 Z m.name))
  descriptor : utf8 Z m.descriptor ≡ Some (text_or_none (utf8 Z m.descriptor))

-- a text that is there
text_is : (o : Option (List ℕ)) (t : List ℕ) → o ≡ Some t → o ≡ Some (text_or_none o)
text_is None t e = cc
text_is (Some x) t e = refl

-- a method with the head of an added one
headed_texts : (name : MethodName) (Z : Pool) (m : Member) → IsHeaded name Z m → HasTexts Z m
headed_texts name Z m h =
    record { name = text_is (utf8 Z m.name) name.name (ap (λ (x : Head). x.name) h); descriptor = text_is (utf8 Z m.descriptor) name.descriptor (ap (λ (x : Head). x.descriptor) h) }

-- the call before a read
look_grows : Growing look_call
unfolding look_call
look_grows = method_grows context_class (codes "beforeReadAccess") (codes "(Ljava/lang/Object;I)V")

-- the call of a read
read_grows : (t : WordType) → Growing (read_call t)
unfolding read_call
read_grows t = method_grows context_class (codes "onReadAccess") (read_descriptor (codes "I") t)

-- the call of a write
write_grows : (t : WordType) → Growing (write_call t)
unfolding write_call
write_grows t = method_grows context_class (codes "onWriteAccess") (write_descriptor (codes "I") t)

-- a method that reads an element
load_headed : (t : WordType) → Adding (IsHeaded (load_named t)) (load_method t)
unfolding load_method
load_headed t =
    behind (IsHeaded (load_named t)) look_call (λ before pool. read_call t pool >>= λ after. straight_method (3 + word_places t) 3 (load_instrs t before after.0) (load_named t) after.1) look_grows
    (λ before. behind (IsHeaded (load_named t)) (read_call t) (λ after pool. straight_method (3 + word_places t) 3 (load_instrs t before after) (load_named t) pool) (read_grows t)
    (λ after. straight_headed (3 + word_places t) 3 (load_instrs t before after) (load_named t)))

-- a method that writes one
store_headed : (t : WordType) → Adding (IsHeaded (store_named t)) (store_method t)
unfolding store_method
store_headed t =
    behind (IsHeaded (store_named t)) (write_call t) (λ write pool. straight_method (3 + word_places t) (3 + word_places t) (store_instrs t write) (store_named t) pool) (write_grows t)
    (λ write. straight_headed (3 + word_places t) (3 + word_places t) (store_instrs t write) (store_named t))

-- the methods of a type of elements
record AreElements (t : WordType) (Z : Pool) (m : ElementMethods) : Type 0 where
  load : HasTexts Z m.load
  store : HasTexts Z m.store

-- both are added
elements_put : (t : WordType) → Adding (AreElements t) (element_methods t)
unfolding element_methods
elements_put t pool r s e =
    let a = bind_ok _ _ r e in
    let b = bind_ok _ _ r a.2 in
    let p = load_headed t pool a.0 s a.1 in
    let q = store_headed t a.0.1 b.0 p.short b.1 in
    subst (Puts (AreElements t) pool) (ok_is (record { load = a.0.0; store = b.0.0 }, b.0.1) r b.2)
    (record {
      grown = grown_trans pool a.0.1 b.0.1 p.grown q.grown;
      short = q.short;
      facts = λ Z g. record { load = headed_texts (load_named t) Z a.0.0 (p.facts Z (grown_trans a.0.1 b.0.1 Z q.grown g)); store = headed_texts (store_named t) Z b.0.0 (q.facts Z g) };
    })

-- all methods have texts
all_texts : (n : ℕ) (ts : List WordType) (Z : Pool) (ms : List ElementMethods) → AllPut (λ (n : ℕ) (t : WordType). AreElements t) n ts Z ms → AllByRecursion (HasTexts Z) (flat_map both_of ms)
all_texts n [] Z [] h = tt
all_texts n [] Z (m ∷ ms) h = absurd h
all_texts n (t ∷ ts) Z [] h = absurd h
all_texts n (t ∷ ts) Z (m ∷ ms) h =
    subst (AllByRecursion (HasTexts Z)) (sym (flat_map-cons both_of m ms)) (
      h.0.load,
      (h.0.store, all_texts (n + 1) ts Z ms h.1),
    )

-- the helper's class
pub record IsHelper (d : ClassFile) : Type 0 where
  pub named : own_name d ≡ helper_class
  pub texts : AreTexts d

-- from the definition
pub helper_known : (d : ClassFile) → helper_file ≡ Ok d → IsHelper d
unfolding helper_file helper_parts every_method
helper_known d e =
    let x = bind_ok (helper_parts []) (λ made. Ok (file_of made.0 made.1)) d e in
    let a = bind_ok _ _ x.0 x.1 in
    let b = bind_ok _ _ x.0 a.2 in
    let c = bind_ok _ _ x.0 b.2 in
    let done = ok_is _ x.0 c.2 in
    let is : file_of (a.0.0, b.0.0, flat_map both_of c.0.0) c.0.1 ≡ d = ap (λ (y : (ℕ × ℕ × List Member) × Pool). file_of y.0 y.1) done ∙ ok_is _ d x.2 in
    let p = adds_class helper_class [] a.0 (omega arith) a.1 in
    let q = adds_class object_class a.0.1 b.0 p.short b.1 in
    let u = adds_all (λ i t. AreElements t) (λ i t. element_methods t) (λ i t. elements_put t) 0 element_types b.0.1 c.0 q.short c.1 in
    let here : Grown c.0.1 d.pool = subst (λ (d : ClassFile). Grown c.0.1 d.pool) is (grown_refl c.0.1) in
    let named : class_name c.0.1 a.0.0 ≡ Some helper_class = (p.facts c.0.1 (grown_trans a.0.1 b.0.1 c.0.1 q.grown u.grown)).0 in
    let all : AllByRecursion (HasTexts d.pool) d.methods = subst (λ (ms : List Member). AllByRecursion (HasTexts d.pool) ms) (ap (λ (d : ClassFile). d.methods) is) (all_texts 0 element_types d.pool c.0.0 (u.facts d.pool here)) in
    record {
      named = ap own_name (sym is) ∙ ap text_or_none named;
      texts = record { name = λ m at. (item (HasTexts d.pool) d.methods m all at).name; descriptor = λ m at. (item (HasTexts d.pool) d.methods m all at).descriptor };
    }
