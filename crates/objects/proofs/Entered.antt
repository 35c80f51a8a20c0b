-- A method and its duplicate are entered with the same arguments, the duplicate with the context behind them.
use Rattle.std.proofs.Common.{◌≡◌, ℕ, suc, ◌+◌, ◌-◌, ◌<◌, List, [], ◌∷◌, ◌++◌, length, Option, Some, None, refl, sym, ap, ◌∙◌, arith, length-append}
use Rattle.std.specs.Prelude.{slice_get, replicate}
use Rattle.std.specs.List.{flat_map, list_any}
use Rattle.std.proofs.lemmas.List.{append-nil}
use Rattle.std.proofs.lemmas.Option.{slice_get_within}
use Rattle.jmodel.specs.declared.value.Value.{Value}
use Rattle.jmodel.specs.declared.value.Value.TheVariants as value
use Rattle.jmodel.specs.declared.typing.VType.{VType}
use Rattle.jmodel.specs.declared.typing.VType.TheVariants as type
use Rattle.objects.specs.declared.op.Slot.{Slot}
use Rattle.objects.specs.declared.op.Slot.TheVariants.{Context, Empty}
use Rattle.objects.specs.declared.op.Op.{Op}
use Rattle.objects.specs.semantics.Value.{slots_of}
use Rattle.objects.specs.semantics.Program.{Method, Program}
use Rattle.objects.specs.semantics.Step.{Took, take_args}
use Rattle.objects.specs.typing.Typing.{Types, Table, types_at, first_types, first_locals, is_constructor, KeepsAt, IsTyping}
use Rattle.objects.specs.typing.Source.{IsSourceMethod, AreArguments}
use Rattle.objects.specs.rewriting.Rewriting.{is_stray, more_locals}
use Rattle.objects.proofs.Agreeing.{agree_start}
use Rattle.objects.proofs.Alike.{Stands}
use Rattle.objects.proofs.Moved.{pushed_on, takes_back}
use Rattle.objects.proofs.LocalRoom.{first_many, has_room}

-- a place that has types has an instruction
pub has_op : (P : Program) (k : Method) (T : Table) → IsTyping P k T → (pc : ℕ) (h : Types) → types_at T pc ≡ Some h → pc < length k.ops
has_op P k T typing pc h there = by (slice_get k.ops pc) refl (typing.each pc h there).keeps
  where
    by : (o : Option Op) → slice_get k.ops pc ≡ o → KeepsAt P k T pc h o → pc < length k.ops
    by None e keeps = absurd keeps
    by (Some o) e keeps = slice_get_within k.ops pc o e

-- the first places of both
pub stands_first : (P : Program) (k : Method) (T : Table) → IsTyping P k T → IsSourceMethod P k → (args : List Slot) → length args ≡ k.places
    → Stands k T 0 (args ++ replicate (k.locals - k.places) Empty) ((args ++ Context ∷ []) ++ replicate (k.locals + more_locals (list_any (is_stray k.places) k.ops) - (k.places + 1)) Empty)
stands_first P k T typing source args len = record {
  inside = has_op P k T typing 0 (first_types k) typing.first;
  types = first_types k;
  there = typing.first;
  agree = agree_start k (first_locals (is_constructor k) k.parameters) (first_many (is_constructor k) k.parameters ∙ source.many) (has_room P k T typing source.many) args len;
}

-- how many places arguments have
pub arguments_many : (ts : List VType) (vs : List Value) → AreArguments ts vs → length (flat_map slots_of vs) ≡ length ts
arguments_many [] [] a = refl
arguments_many (type.Int ∷ ts) (value.Int x ∷ vs) a = ap suc (arguments_many ts vs a.1)
arguments_many (type.Long ∷ type.Second ∷ ts) (value.Long x ∷ vs) a = ap (λ (n : ℕ). suc (suc n)) (arguments_many ts vs a.1)
arguments_many (type.Ref n ∷ ts) (value.Ref o ∷ vs) a = ap suc (arguments_many ts vs a.1)
arguments_many ts vs a = absurd a

pub pushed_last : (vs : List Slot) (v : Slot) (s : List Slot) → pushed_on (vs ++ v ∷ []) s ≡ v ∷ pushed_on vs s
pushed_last [] v s = refl
pushed_last (x ∷ vs) v s = pushed_last vs v (x ∷ s)

-- the duplicate takes them, and the context
pub takes_context : (args s : List Slot) (n : ℕ) → length args ≡ n → take_args (n + 1) [] (Context ∷ pushed_on args s) ≡ Took (args ++ Context ∷ []) s
takes_context args s n len =
    let many : length (args ++ Context ∷ []) + 0 ≡ n + 1 = let e = length-append args (Context ∷ []) in omega (arith, e, len) in
    let e = takes_back (args ++ Context ∷ []) 0 [] s in
    let f : take_args (n + 1) [] (Context ∷ pushed_on args s) ≡ Took ((args ++ Context ∷ []) ++ []) s = ap (take_args (n + 1) []) (sym (pushed_last args Context s)) ∙ ap (λ (i : ℕ). take_args i [] (pushed_on (args ++ Context ∷ []) s)) (sym many) ∙ e in
    f ∙ ap (λ (xs : List Slot). Took xs s) (append-nil (args ++ Context ∷ []))
