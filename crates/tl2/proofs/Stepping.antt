-- What an engine stands for after a step of an attempt.
use Rattle.std.proofs.Common.{◌≡◌, ◌≢◌, ◌<◌, ◌≤◌, ◌+◌, ◌*◌, ◌%◌, ℕ, true, List, [], ◌∷◌, ◌++◌, length, reverse, refl, sym, ap, ◌∙◌, subst, arith}
use Rattle.std.specs.Prelude.{Option, None, unwrap_or}
use Rattle.std.proofs.lemmas.List.Elements.{All-nil, All-cons}
use Rattle.std.proofs.lemmas.List.{reverse-append}
use Rattle.atomic_table.specs.Seated.{TableId}
use Rattle.jmodel.specs.declared.access.Access.{Access}
use Rattle.jmodel.specs.history.Log.{Log, access, answered, recorded, written}
use Rattle.jmodel.specs.history.History.{Call, Entry}
use Rattle.tx_core.specs.declared.engine.Conflict.{Conflict}
use Rattle.tx_table.specs.Book.{Book, Look, Away, Saw, Had, Map, Region, lookup, pairs}
use Rattle.tx_table.specs.Rule.{Story, Snapshot}
use Rattle.tx_table.specs.Plays.{begun, lost_at, loaded_at, logged, value_in}
use Rattle.tx_table.specs.declared.shared.Pass.{Pass}
use Rattle.tx_table.specs.Passes.{book, IsKin, IsSame}
use Rattle.tx_table.specs.Steps.{IsPast}
use Rattle.tl2.specs.declared.attempt.At.{At}
use Rattle.tl2.specs.declared.attempt.At.TheVariants.{Outside, Inside, Looked, Loaded}
use Rattle.tl2.specs.Conflicts.{Meets}
use Rattle.tl2.specs.Standing.{Awaits, IsAt, IsOpen, Stands}
use Rattle.tl2.proofs.Keeping.{keeps_still}
use Rattle.tl2.proofs.Entries.{inside}
use Rattle.tl2.proofs.Rests.{lost_is}

-- a step that leaves the reads and the regions keeps what was learnt of them
snapshot_still : (S : Story) (v w : Book) → w.reads ≡ v.reads → w.regions ≡ v.regions → Snapshot S v → Snapshot S w
snapshot_still S v w reads regions s = record {
  history = s.history;
  legal = s.legal;
  runs = s.runs;
  reads = λ a x i. s.reads a x (rw reads at i);
  regions = λ r g e. s.regions r g (rw regions at e);
}

-- as a look does
pub snapshot_looking : (S : Story) (v w : Book) (look : Look) → w ≡ record v { look = look } → Snapshot S v → Snapshot S w
snapshot_looking S v w look e = snapshot_still S v w (ap (λ (b : Book). b.reads) e) (ap (λ (b : Book). b.regions) e)

-- and a conflict
pub snapshot_lost : (S : Story) (v w : Book) (a n : ℕ) → w ≡ lost_at v a n → Snapshot S v → Snapshot S w
snapshot_lost S v w a n e = snapshot_still S v w (ap (λ (b : Book). b.reads) e) (ap (λ (b : Book). b.regions) e)

-- and the load of a word
pub snapshot_loaded : (S : Story) (l : Look) (v w : Book) (a n : ℕ) → w ≡ loaded_at l v a n → Snapshot S v → Snapshot S w
snapshot_loaded S Away v w a n e s = rw e s
snapshot_loaded S (Saw k u) v w a n e s = snapshot_still S v w (ap (λ (b : Book). b.reads) e) (ap (λ (b : Book). b.regions) e) s
snapshot_loaded S (Had k u b x) v w a n e s = snapshot_still S v w (ap (λ (b : Book). b.reads) e) (ap (λ (b : Book). b.regions) e) s

-- the same regions await the same call
pub awaits_still : (named : Call) (v w : Book) → w.regions ≡ v.regions → (c : Call) (used : ℕ) → Awaits named v c used → Awaits named w c used
awaits_still named v w e c used a = (a.0, a.1, (a.2.0, ap (λ (m : Map Region). lookup m c.region) e ∙ a.2.1, a.2.2, a.2.3))

-- a read that is logged leaves the attempt open
pub open_logged : (words : ℕ) (named : Call) (v w : Book) (a x : ℕ) → w ≡ logged v a x → v.live ≡ true → v.call ≡ named → IsOpen words Inside named w
open_logged words named v w a x e live call = (ap (λ (b : Book). b.live) e ∙ live, ap (λ (b : Book). b.call) e ∙ call, tt)

-- what a pass may hand on stays, as a read is logged
pub kin_logged : (v w : Book) (a x : ℕ) → w ≡ logged v a x → IsKin v w
kin_logged v w a x e = (ap (λ (b : Book). b.face) e, ap (λ (b : Book). b.numbers) e, ap (λ (b : Book). b.fresh) e, ap (λ (b : Book). b.ticks) e, ap (λ (b : Book). b.regions) e)

-- at a conflict
pub kin_lost : (v w : Book) (a x : ℕ) → w ≡ lost_at v a x → IsKin v w
kin_lost v w a x e = (ap (λ (b : Book). b.face) e, ap (λ (b : Book). b.numbers) e, ap (λ (b : Book). b.fresh) e, ap (λ (b : Book). b.ticks) e, ap (λ (b : Book). b.regions) e)

-- and at a look
pub kin_looking : (v w : Book) (look : Look) → w ≡ record v { look = look } → IsKin v w
kin_looking v w look e = (ap (λ (b : Book). b.face) e, ap (λ (b : Book). b.numbers) e, ap (λ (b : Book). b.fresh) e, ap (λ (b : Book). b.ticks) e, ap (λ (b : Book). b.regions) e)

-- where a look came before, a load changes the look alone
pub loaded_is : (words : ℕ) (at : At) (v w : Book) (a b x : ℕ) → IsAt words at v → at ≡ Looked b → w ≡ loaded_at v.look v a x → (k : ℕ) × (w ≡ record v { look = Had (b % 4096) k a x })
loaded_is words at v w a b x is looked e =
    let here = subst (λ (k : At). IsAt words k v) looked is in
    (here.1.0, e ∙ ap (λ (l : Look). loaded_at l v a x) here.1.1)

-- and leaves the attempt open
pub open_loaded : (words : ℕ) (at : At) (named : Call) (v w : Book) (a b x : ℕ) → IsAt words at v → at ≡ Looked b → b ≡ a → w ≡ loaded_at v.look v a x → v.live ≡ true → v.call ≡ named
    → IsOpen words (Loaded (access a x)) named w
unfolding loaded_is
open_loaded words at named v w a b x is looked same e live call =
    let here = subst (λ (k : At). IsAt words k v) looked is in
    let step = (loaded_is words at v w a b x is looked e).1 in
    let bound = ap (λ (k : Book). k.bound) step in
    let low = here.1.2 in (
      ap (λ (k : Book). k.live) step ∙ live,
      ap (λ (k : Book). k.call) step ∙ call,
      (subst (λ (k : ℕ). k < words) same here.0, (here.1.0, ap (λ (k : Book). k.look) step ∙ ap (λ (k : ℕ). Had (k % 4096) here.1.0 a x) same, omega arith)),
    )

-- the conflict that a step met is the one that the book then has
pub meets_lost : (v w : Book) (e : Conflict) (a : ℕ) → e.address ≡ a → e.upto ≡ v.bound → IsPast v.bound e.word → e.word ≢ 2 * v.face.number + 1 → w ≡ lost_at v a e.word → Meets v w e
meets_lost v w e a address upto past other is = subst (λ (b : Book). Meets v b e) (sym (is ∙ ap (λ (k : ℕ). lost_at v k e.word) (sym address))) (record {
  upto = upto;
  past = past;
  other = other;
  kept = lost_is v v e upto refl refl refl refl;
  bound = refl;
  reads = refl;
})

-- a step that leaves all but the look and the reads
record IsQuiet (v w : Book) : Type 0 where
  numbers : w.numbers ≡ v.numbers
  fresh : w.fresh ≡ v.fresh
  regions : w.regions ≡ v.regions
  entries : w.entries ≡ v.entries
  lost : w.lost ≡ v.lost
  seen : w.seen ≡ v.seen
  bound : w.bound ≡ v.bound

module _ (began : TableId → Book → Type 0) (words : ℕ) (at : At) (kept : List Access) (p q : Pass) (h : List Entry) (n : ℕ) (r w : Log) (same : IsSame p q)
    (s : Stands began words at kept p h n r w) where
  quiet : (then : At) (reads : Log) → at ≢ Outside → IsQuiet (book p) (book q) → (book q).reads ≡ pairs reads → Stands began words then kept q h n reads w
  quiet then reads within k logs = record {
    entries = k.entries ∙ s.entries;
    lost = ap length k.lost ∙ s.lost;
    reads = λ _. logs;
    writes = s.writes;
    within = s.within;
    bound = λ _. k.bound ∙ s.bound within ∙ sym k.seen;
    keeps = let clock = k.seen in keeps_still began p q same k.numbers k.fresh k.regions k.entries (omega arith) (λ _. k.lost) s.keeps;
  }

  -- a look
  pub stands_looking : (then : At) (look : Look) → at ≢ Outside → book q ≡ record (book p) { look = look } → Stands began words then kept q h n r w
  stands_looking then look within e =
      quiet then r within (subst (IsQuiet (book p)) (sym e) (record {
        numbers = refl;
        fresh = refl;
        regions = refl;
        entries = refl;
        lost = refl;
        seen = refl;
        bound = refl;
      })) (ap (λ (b : Book). b.reads) e ∙ s.reads within)

  -- the load of a word after it
  pub stands_loaded : (then : At) (a b x : ℕ) → IsAt words at (book p) → at ≡ Looked b → book q ≡ loaded_at (book p).look (book p) a x → Stands began words then kept q h n r w
  stands_loaded then a b x is looked e =
      let here = subst (λ (k : At). IsAt words k (book p)) looked is in
      stands_looking then (Had (b % 4096) here.1.0 a x) (inside words at (book p) is)
      (e ∙ ap (λ (l : Look). loaded_at l (book p) a x) here.1.1)

  -- and the look that logs the read
  pub stands_logged : (l : Access) (a : ℕ) → IsAt words at (book p) → at ≡ Loaded l → l.address ≡ a → written (reverse kept) a ≡ None
      → book q ≡ logged (book p) a (value_in (book p).look)
      → (l.word ≡ answered w a l.word) × Stands began words Inside kept q h n (recorded (written w a) a l.word r) w
  stands_logged l a is loaded address none e =
      let here = subst (λ (k : At). IsAt words k (book p)) loaded is in
      let within = inside words at (book p) is in
      let fresh : written w a ≡ None = ap (λ (k : Log). written k a) (sym s.writes) ∙ none in
      let value : value_in (book p).look ≡ l.word = ap value_in here.1.1 in
      let reads : (book q).reads ≡ pairs (access a l.word ∷ r) =
      ap (λ (b : Book). b.reads) e ∙ (λ i. (a, value i) ∷ s.reads within i) in (
        sym (ap (λ (o : Option ℕ). unwrap_or o l.word) fresh),
        subst (λ (o : Option ℕ). Stands began words Inside kept q h n (recorded o a l.word r) w) (sym fresh)
            (quiet Inside (access a l.word ∷ r) within (subst (IsQuiet (book p)) (sym e) (record {
              numbers = refl;
              fresh = refl;
              regions = refl;
              entries = refl;
              lost = refl;
              seen = refl;
              bound = refl;
            })) reads),
      )

  -- a conflict, where the pass doesn't hold every number
  pub stands_lost : (a x : ℕ) → (book p).numbers ≢ 1048576 → book q ≡ lost_at (book p) a x → Stands began words Outside kept q h (n + 1) r w
  stands_lost a x others e = record {
    entries = ap (λ (b : Book). b.entries) e ∙ s.entries;
    lost = let more = ap (λ (b : Book). length b.lost) e in let was = s.lost in omega arith;
    reads = λ z. absurd (z refl);
    writes = s.writes;
    within = s.within;
    bound = λ z. absurd (z refl);
    keeps =
        let clock = ap (λ (b : Book). b.seen) e in
        keeps_still began p q same (ap (λ (b : Book). b.numbers) e) (ap (λ (b : Book). b.fresh) e) (ap (λ (b : Book). b.regions) e)
        (ap (λ (b : Book). b.entries) e) (omega arith) (λ whole. absurd (others whole)) s.keeps;
  }

-- one write more
pub stands_wrote : (began : TableId → Book → Type 0) (words : ℕ) (at : At) (kept log : List Access) (p : Pass) (h : List Entry) (n : ℕ) (r w : Log) (l : Access)
    → l.address < words → log ≡ kept ++ l ∷ [] → Stands began words at kept p h n r w → Stands began words at log p h n r (l ∷ w)
stands_wrote began words at kept log p h n r w l low more s = subst (λ (k : List Access). Stands began words at k p h n r (l ∷ w)) (sym more) (record {
  entries = s.entries;
  lost = s.lost;
  reads = s.reads;
  writes = reverse-append kept (l ∷ []) ∙ ap (λ (k : Log). l ∷ k) s.writes;
  within = All-cons (λ (k : Access). k.address < words) l w low s.within;
  bound = s.bound;
  keeps = s.keeps;
})

-- the beginning of an attempt
pub stands_begun : (began : TableId → Book → Type 0) (words : ℕ) (at : At) (kept : List Access) (p q : Pass) (h : List Entry) (n m : ℕ) (call : Call) → IsSame p q
    → (book p).seen ≤ m → book q ≡ begun (book p) call m → Stands began words at kept p h n [] [] → Stands began words Inside [] q h n [] []
stands_begun began words at kept p q h n m call same later e s = record {
  entries = ap (λ (b : Book). b.entries) e ∙ s.entries;
  lost = ap (λ (b : Book). length b.lost) e ∙ s.lost;
  reads = λ _. ap (λ (b : Book). b.reads) e;
  writes = refl;
  within = All-nil (λ (l : Access). l.address < words);
  bound = λ _. ap (λ (b : Book). b.bound) e ∙ sym (ap (λ (b : Book). b.seen) e);
  keeps =
      let clock = ap (λ (b : Book). b.seen) e in
      keeps_still began p q same (ap (λ (b : Book). b.numbers) e) (ap (λ (b : Book). b.fresh) e) (ap (λ (b : Book). b.regions) e)
      (ap (λ (b : Book). b.entries) e) (omega arith) (λ _. ap (λ (b : Book). b.lost) e) s.keeps;
}
