-- A duplicate as a whole member means the rewriting's.
use Rattle.std.proofs.Common.{◌≡◌, ℕ, ◌+◌, ◌<◌, true, List, [], ◌∷◌, ◌++◌, length, Option, Some, None, Result, Ok, refl, sym, ap, ◌∙◌, arith}
use Rattle.std.specs.Prelude.{ℤ, option_map, option_and_then}
use Rattle.std.specs.List.{list_any}
use Rattle.jmodel.specs.declared.name.MethodName.{MethodName}
use Rattle.jmodel.specs.declared.refusal.Refusal.{Refusal}
use Rattle.jmodel.specs.declared.typing.VType.{VType}
use Rattle.jmodel.specs.format.ClassFile.{Member}
use Rattle.jmodel.specs.format.Descriptor.{Signature}
use Rattle.objects.specs.linking.Code.{Coded, retries_of}
use Rattle.objects.specs.linking.Each.{each}
use Rattle.objects.specs.declared.op.Dispatch.{Dispatch}
use Rattle.objects.specs.declared.op.Op.{Op}
use Rattle.objects.specs.declared.op.Catch.{Catch}
use Rattle.objects.specs.semantics.Program.{Method, Program}
use Rattle.objects.specs.typing.Typing.{Table}
use Rattle.objects.specs.linking.Decoding.{Symbols, ops_of, catch_of}
use Rattle.objects.specs.linking.Linking.{receiver_types, parameter_types, result_type, dispatch_of, signature_in, Body, with_catches, coded_body, body_of, method_with, shaped, method_of, decoded_member}
use Rattle.objects.specs.rewriting.Relinking.{decoded_or_none}
use Rattle.objects.specs.rewriting.Rewriting.{typed_from, abstracted, duplicate_code, duplicate_method, context, is_stray, more_locals}
use Rattle.member_code.specs.Names.{duplicate_named}
use Rattle.member_code.specs.Meaning.{meaning}
use Rattle.dup_methods.proofs.Widened.{wider}
use Rattle.dup_methods.proofs.Heads.{IsHeadOf}

-- ---- what a method that is meant has

-- its signature and its body
pub record IsMeantAs (s : Symbols) (m : Member) (o : Option Coded) (k : Method) : Type 0 where
  pub signature : Signature
  pub body : Body
  pub signed : signature_in (record { class = s.class; member = m }) ≡ Some signature
  pub bodied : body_of s (length (receiver_types s.classes s.class m ++ parameter_types s.classes signature)) o ≡ Some body
  pub is : k ≡ method_with s true m signature body

-- a method that is meant has both
pub meant_as : (s : Symbols) (m : Member) (o : Option Coded) (k : Method) → method_of s true m o ≡ Some k → IsMeantAs s m o k
meant_as s m o k e = by_signature (signature_in (record { class = s.class; member = m })) refl e
  where
    by_body : (g : Signature) → signature_in (record { class = s.class; member = m }) ≡ Some g → (b : Option Body) → body_of s (length (receiver_types s.classes s.class m ++ parameter_types s.classes g)) o ≡ b → option_map (method_with s true m g) b ≡ Some k → IsMeantAs s m o k
    by_body g p None q e = cc
    by_body g p (Some b) q e = let is : method_with s true m g b ≡ k = cc in record { signature = g; body = b; signed = p; bodied = q; is = sym is }

    by_signature : (g : Option Signature) → signature_in (record { class = s.class; member = m }) ≡ g → option_and_then (shaped s true m o) g ≡ Some k → IsMeantAs s m o k
    by_signature None p e = cc
    by_signature (Some g) p e = by_body g p (body_of s (length (receiver_types s.classes s.class m ++ parameter_types s.classes g)) o) refl e

-- the parts of the body of a method that has code
pub record IsBodyOf (s : Symbols) (x : Coded) (b : Body) : Type 0 where
  pub locals : b.locals ≡ x.code.max_locals
  pub stack : b.max_stack ≡ x.code.max_stack
  pub ops : ops_of s x.instrs ≡ Some b.ops
  pub catches : each (catch_of s.class.pool x.instrs (length x.code.code)) x.code.handlers ≡ Some b.catches

-- a body that is meant has these parts
pub body_parts : (s : Symbols) (x : Coded) (b : Body) → coded_body s x ≡ Some b → IsBodyOf s x b
body_parts s x b e = go (ops_of s x.instrs) refl (each (catch_of s.class.pool x.instrs (length x.code.code)) x.code.handlers) refl e
  where
    go : (o : Option (List Op)) → ops_of s x.instrs ≡ o → (c : Option (List Catch)) → each (catch_of s.class.pool x.instrs (length x.code.code)) x.code.handlers ≡ c → with_catches x o c ≡ Some b → IsBodyOf s x b
    go None a c d e = cc
    go (Some ops) a None d e = cc
    go (Some ops) a (Some catches) d e =
        let same : record { locals = x.code.max_locals; max_stack = x.code.max_stack; ops = ops; catches = catches } ≡ b = cc in
        record { locals = sym (ap (λ (b : Body). b.locals) same); stack = sym (ap (λ (b : Body). b.max_stack) same); ops = a ∙ ap (λ (b : Body). Some b.ops) same; catches = d ∙ ap (λ (b : Body). Some b.catches) same }

-- ---- what a member means whose head is known

-- a method of these parts, whose frames count
abbrev pub made_as : MethodName → Dispatch → List VType → ℕ → ℕ → ℕ → Option VType → Option ℤ → List Op → List Catch → Method
made_as name found takes places locals most gives retries ops catches = record {
  name = name;
  dispatch = found;
  parameters = takes;
  places = places;
  locals = locals;
  max_stack = most;
  result = gives;
  counted = true;
  retries = retries;
  ops = ops;
  catches = catches;
}

module _ (s : Symbols) (y : Member) (k : Method) (g : Signature) (H : IsHeadOf s y k g) (o : Option Coded) (decodes : decoded_member (record { class = s.class; member = y }) ≡ Ok o) (b : Body)
    (bodied : body_of s (length (receiver_types s.classes s.class y ++ parameter_types s.classes (wider g))) o ≡ Some b) where
  abbrev takes : List VType
  takes = receiver_types s.classes s.class y ++ parameter_types s.classes (wider g)

  -- the head of the duplicate, and this body
  pub head_means : meaning s true y ≡ Some (made_as (duplicate_named k.name) k.dispatch (k.parameters ++ context ∷ []) (k.places + 1) b.locals b.max_stack k.result None b.ops b.catches)
  head_means =
      ap (λ (r : Result (Option Coded) Refusal). option_and_then (λ x. option_and_then (shaped s true y x) (signature_in (record { class = s.class; member = y }))) (decoded_or_none r)) decodes
      ∙ ap (option_and_then (shaped s true y o)) H.signed
      ∙ ap (option_map (method_with s true y (wider g))) bodied
      ∙ ap (λ (n : MethodName). Some (made_as n (dispatch_of s.class y) takes (length takes) b.locals b.max_stack (result_type s.classes (wider g)) (retries_of s.class.pool y) b.ops b.catches)) H.name
      ∙ ap (λ (d : Dispatch). Some (made_as (duplicate_named k.name) d takes (length takes) b.locals b.max_stack (result_type s.classes (wider g)) (retries_of s.class.pool y) b.ops b.catches)) H.dispatch
      ∙ ap (λ (n : ℕ). Some (made_as (duplicate_named k.name) k.dispatch takes n b.locals b.max_stack (result_type s.classes (wider g)) (retries_of s.class.pool y) b.ops b.catches)) H.places
      ∙ ap (λ (ts : List VType). Some (made_as (duplicate_named k.name) k.dispatch ts (k.places + 1) b.locals b.max_stack (result_type s.classes (wider g)) (retries_of s.class.pool y) b.ops b.catches)) H.parameters
      ∙ ap (λ (t : Option VType). Some (made_as (duplicate_named k.name) k.dispatch (k.parameters ++ context ∷ []) (k.places + 1) b.locals b.max_stack t (retries_of s.class.pool y) b.ops b.catches)) H.result
      ∙ ap (λ (a : Option ℤ). Some (made_as (duplicate_named k.name) k.dispatch (k.parameters ++ context ∷ []) (k.places + 1) b.locals b.max_stack k.result a b.ops b.catches)) H.retries

-- ---- the rewriting's duplicate

-- of a method that has instructions
pub full_duplicate : (P : Program) (k : Method) (T : Table) → 0 < length k.ops → duplicate_method P k T ≡ duplicate_code P k (typed_from 0 T k.ops)
full_duplicate P k T some = by k.ops some
  where
    by : (os : List Op) → 0 < length os → abstracted os (duplicate_code P k (typed_from 0 T k.ops)) ≡ duplicate_code P k (typed_from 0 T k.ops)
    by [] some = absurd (omega arith)
    by (o ∷ os) some = refl

-- of a method that has none, whose frame is its parameters
pub bare_duplicate : (P : Program) (k : Method) (T : Table) → k.ops ≡ [] → k.locals ≡ k.places
    → duplicate_method P k T ≡ made_as (duplicate_named k.name) k.dispatch (k.parameters ++ context ∷ []) (k.places + 1) (k.places + 1) 0 k.result None [] []
bare_duplicate P k T none locals =
    ap (λ (os : List Op). abstracted os (duplicate_code P k (typed_from 0 T k.ops))) none
    ∙ ap (λ (n : ℕ). made_as (duplicate_named k.name) k.dispatch (k.parameters ++ context ∷ []) (k.places + 1) n 0 k.result None [] []) (ap (λ (os : List Op). k.locals + more_locals (list_any (is_stray k.places) os)) none ∙ ap (λ (n : ℕ). n + 1) locals)
