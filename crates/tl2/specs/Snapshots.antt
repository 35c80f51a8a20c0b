-- That what a pass has learnt is the snapshot of its engine's attempt, which the engine's `impl` cites.
use Rattle.std.proofs.Common.{◌≡◌, ◌≢◌, ℕ, List, [], ◌∷◌, refl, sym, ◌∙◌, inl, inr, subst}
use Rattle.std.specs.List.{AllByRecursion}
use Rattle.atomic_table.specs.Seated.{TableId}
use Rattle.jmodel.specs.declared.access.Access.{Access}
use Rattle.jmodel.specs.history.Log.{Log}
use Rattle.jmodel.specs.history.History.{Call, Entry, Words, Agrees, memory_after}
use Rattle.tx_core.specs.Engine.{IsSnapshot}
use Rattle.tx_table.specs.Book.{Book, In, pairs}
use Rattle.tx_table.specs.Rule.{Story, Snapshot, start, used_at}
use Rattle.tx_table.specs.declared.shared.Pass.{Pass}
use Rattle.tx_table.specs.Passes.{book}
use Rattle.tl2.specs.declared.attempt.At.{At}
use Rattle.tl2.specs.declared.attempt.At.TheVariants.{Outside}
use Rattle.tl2.specs.Standing.{IsAt, IsOpen, Awaits, Stands}

-- where each of some reads is what words have, they agree
reads_agree : (σ : Words) (r : Log) → ((a x : ℕ) → In (a, x) (pairs r) → σ a ≡ x) → Agrees σ r
reads_agree σ [] f = tt
reads_agree σ (l ∷ r) f = (f l.address l.word (inl refl), reads_agree σ r (λ a x i. f a x (inr i)))

all_members : {A : Type 0} (P : A → Type 0) (xs : List A) → ((x : A) → In x xs → P x) → AllByRecursion P xs
all_members P [] f = tt
all_members P (x ∷ xs) f = (f x (inl refl), all_members P xs (λ y i. f y (inr i)))

-- where a pass stands in an attempt, so does the engine
within_attempt : (words : ℕ) (at : At) (v : Book) → IsAt words at v → at ≢ Outside
within_attempt words at v is e = subst (λ (k : At). IsAt words k v) e is

pub stands_snapshot : (S : Story) (rule : Entry → Type 0) (begins : Words → (ℕ → ℕ) → Type 0) (began : TableId → Book → Type 0) (words : ℕ) (at : At) (kept : List Access) (p : Pass)
    (named : Call) (h : List Entry) (n : ℕ) (r w : Log) (c : Call) (used : ℕ)
    → ((e : Entry) → S.runs e → rule e) → begins (start S) (used_at S)
    → Stands began words at kept p h n r w → IsOpen words at named (book p) × Snapshot S (book p) → Awaits named (book p) c used
    → IsSnapshot begins rule c used r
stands_snapshot S rule begins began words at kept p named h n r w c used ruled begun stands opens awaits =
    let within = within_attempt words at (book p) opens.0.2 in
    let s = opens.1 in
    record {
      first = start S;
      opened = used_at S;
      begun = begun;
      history = s.history;
      entries = s.legal.entries;
      allowed = all_members rule s.history (λ e i. ruled e (s.runs e i));
      reads = reads_agree (memory_after s.history (start S)) r (λ a x i. s.reads a x (subst (In (a, x)) (sym (stands.reads within)) i));
      left = s.regions c.region awaits.2.0 awaits.2.1 ∙ awaits.2.2;
    }
