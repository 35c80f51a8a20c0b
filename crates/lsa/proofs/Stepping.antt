-- What an engine stands for after a step of an attempt.
use Rattle.std.proofs.Common.{◌≡◌, ◌≢◌, ◌<◌, ◌≤◌, ◌+◌, ◌%◌, ℕ, true, List, [], ◌∷◌, ◌++◌, length, reverse, refl, sym, ap, ◌∙◌, subst, arith}
use Rattle.std.specs.Prelude.{Option, None, unwrap_or}
use Rattle.std.proofs.lemmas.List.Elements.{All-nil, All-cons}
use Rattle.std.proofs.lemmas.List.{reverse-append}
use Rattle.atomic_table.specs.Seated.{TableId}
use Rattle.jmodel.specs.declared.access.Access.{Access}
use Rattle.jmodel.specs.history.Log.{Log, access, answered, recorded, written}
use Rattle.jmodel.specs.history.History.{Call, Entry}
use Rattle.tx_core.specs.declared.engine.Conflict.{Conflict}
use Rattle.tx_table.specs.Book.{Book, Face, Region, Map, pairs, lookup}
use Rattle.tx_table.specs.Rule.{Story, Snapshot, Succeeds}
use Rattle.tx_table.specs.Plays.{begun, logged}
use Rattle.tx_table.specs.declared.shared.Pass.{Pass}
use Rattle.tx_table.specs.Passes.{book, IsSame}
use Rattle.tl2.specs.declared.attempt.At.{At}
use Rattle.tl2.specs.declared.attempt.At.TheVariants.{Outside, Inside}
use Rattle.tl2.specs.Commits.{IsRest}
use Rattle.tl2.specs.Standing.{Awaits, IsOpen, Keeps, Stands}
use Rattle.tl2.proofs.Keeping.{keeps_still}
use Rattle.tl2.proofs.Stepping.{stands_begun}
use Rattle.lsa.specs.Conflicts.{IsLost}
use Rattle.lsa.specs.Owning.{IsAkin, IsOn, IsTaken}
use Rattle.lsa.specs.Standing.{StandsFor}

-- the writes that count are those of the log
pub standing : {began : TableId → Book → Type 0} {words : ℕ} {at : At} {log kept : List Access} {p : Pass} {h : List Entry} {n : ℕ} {r w : Log}
    → kept ≡ log → Stands began words at kept p h n r w → StandsFor began words at log p h n r w
standing {kept = kept} same s = record { kept = kept; same = λ _. same; stands = s }

-- inside an attempt
pub inside_stands : {began : TableId → Book → Type 0} {words : ℕ} {at : At} {log : List Access} {p : Pass} {h : List Entry} {n : ℕ} {r w : Log}
    → at ≢ Outside → StandsFor began words at log p h n r w → Stands began words at log p h n r w
inside_stands {began} {words} {at} {log} {p} {h} {n} {r} {w} within s = subst (λ (k : List Access). Stands began words at k p h n r w) (s.same within) s.stands

-- outside one
pub outside_stands : {began : TableId → Book → Type 0} {words : ℕ} {log kept : List Access} {p : Pass} {h : List Entry} {n : ℕ} {r w : Log}
    → Stands began words Outside kept p h n r w → StandsFor began words Outside log p h n r w
outside_stands {kept = kept} s = record { kept = kept; same = λ z. absurd (z refl); stands = s }

-- what was learnt of the reads and the regions stays
pub snapshot_still : (S : Story) (v w : Book) → w.reads ≡ v.reads → w.regions ≡ v.regions → Snapshot S v → Snapshot S w
snapshot_still S v w reads regions s = record {
  history = s.history;
  legal = s.legal;
  runs = s.runs;
  reads = λ a x i. s.reads a x (rw reads at i);
  regions = λ r g e. s.regions r g (rw regions at e);
}

-- a read that is logged leaves what the pass may hand on
pub akin_logged : (v w : Book) (a x : ℕ) → w ≡ logged v a x → IsAkin v w
akin_logged v w a x e = (ap (λ (b : Book). b.numbers) e, ap (λ (b : Book). b.fresh) e, ap (λ (b : Book). b.ticks) e, ap (λ (b : Book). b.regions) e)

-- as a conflict does
pub akin_lost : (v w : Book) (e : Conflict) → IsLost v w e → IsAkin v w
akin_lost v w e l = (l.numbers, l.fresh, l.ticks, l.regions)

module _ (began : TableId → Book → Type 0) (words : ℕ) (at : At) (kept : List Access) (p q : Pass) (h : List Entry) (n : ℕ) (r w : Log) (same : IsSame p q)
    (s : Stands began words at kept p h n r w) where
  -- a step that leaves the attempt as it was, but for its bound
  pub stands_on : (then : At) → at ≢ Outside → IsOn (book p) (book q) → Stands began words then kept q h n r w
  stands_on then within o = record {
    entries = o.entries ∙ s.entries;
    lost = ap length o.lost ∙ s.lost;
    reads = λ _. o.reads ∙ s.reads within;
    writes = s.writes;
    within = s.within;
    bound = λ _. o.even (s.bound within);
    keeps = keeps_still began p q same o.numbers o.fresh o.regions o.entries o.seen (λ _. o.lost) s.keeps;
  }

  -- and one that also takes a stripe
  pub stands_taken : (then : At) (a x : ℕ) → at ≢ Outside → IsTaken a x (book p) (book q) → Stands began words then kept q h n r w
  stands_taken then a x within t = record {
    entries = ap (λ (b : Book). b.entries) t.took ∙ t.on.entries ∙ s.entries;
    lost = ap (λ (b : Book). length b.lost) t.took ∙ ap length t.on.lost ∙ s.lost;
    reads = λ _. ap (λ (b : Book). b.reads) t.took ∙ t.on.reads ∙ s.reads within;
    writes = s.writes;
    within = s.within;
    bound = λ _. ap (λ (b : Book). b.bound) t.took ∙ t.on.even (s.bound within) ∙ sym (ap (λ (b : Book). b.seen) t.took);
    keeps =
        let seen = ap (λ (b : Book). b.seen) t.took in
        let more = t.on.seen in
        keeps_still began p q same (ap (λ (b : Book). b.numbers) t.took ∙ t.on.numbers) (ap (λ (b : Book). b.fresh) t.took ∙ t.on.fresh) (ap (λ (b : Book). b.regions) t.took ∙ t.on.regions)
        (ap (λ (b : Book). b.entries) t.took ∙ t.on.entries) (omega arith) (λ _. ap (λ (b : Book). b.lost) t.took ∙ t.on.lost) s.keeps;
  }

  -- the load that logs the read
  pub stands_own : (a x : ℕ) → at ≢ Outside → written (reverse kept) a ≡ None → book q ≡ logged (book p) a x
      → (x ≡ answered w a x) × Stands began words Inside kept q h n (recorded (written w a) a x r) w
  stands_own a x within none e =
      let fresh : written w a ≡ None = ap (λ (k : Log). written k a) (sym s.writes) ∙ none in
      let log : (book q).reads ≡ pairs (access a x ∷ r) = ap (λ (b : Book). b.reads) e ∙ (λ i. (a, x) ∷ s.reads within i) in (
        sym (ap (λ (o : Option ℕ). unwrap_or o x) fresh),
        subst (λ (o : Option ℕ). Stands began words Inside kept q h n (recorded o a x r) w) (sym fresh) (record {
          entries = ap (λ (b : Book). b.entries) e ∙ s.entries;
          lost = ap (λ (b : Book). length b.lost) e ∙ s.lost;
          reads = λ _. log;
          writes = s.writes;
          within = s.within;
          bound = λ _. ap (λ (b : Book). b.bound) e ∙ s.bound within ∙ sym (ap (λ (b : Book). b.seen) e);
          keeps =
              let seen = ap (λ (b : Book). b.seen) e in
              keeps_still began p q same (ap (λ (b : Book). b.numbers) e) (ap (λ (b : Book). b.fresh) e) (ap (λ (b : Book). b.regions) e)
              (ap (λ (b : Book). b.entries) e) (omega arith) (λ _. ap (λ (b : Book). b.lost) e) s.keeps;
        }),
      )

  -- a conflict, where the pass doesn't hold every number
  pub stands_lost : (e : Conflict) → (book p).numbers ≢ 1048576 → IsLost (book p) (book q) e → Stands began words Outside kept q h (n + 1) r w
  stands_lost e others l = record {
    entries = l.entries ∙ s.entries;
    lost = let more = ap length l.meets.kept in let was = s.lost in omega arith;
    reads = λ z. absurd (z refl);
    writes = s.writes;
    within = s.within;
    bound = λ z. absurd (z refl);
    keeps = keeps_still began p q same l.numbers l.fresh l.regions l.entries l.seen (λ whole. absurd (others whole)) s.keeps;
  }

  -- stripes that are given back
  pub stands_rest : IsRest [] 0 (book p) (book q) → Stands began words Outside kept q h n r w
  stands_rest k = record {
    entries = k.entries ∙ s.entries;
    lost = ap length k.lost ∙ s.lost;
    reads = λ z. absurd (z refl);
    writes = s.writes;
    within = s.within;
    bound = λ z. absurd (z refl);
    keeps = keeps_still began p q same k.numbers k.fresh k.regions k.entries k.seen (λ _. k.lost) s.keeps;
  }

  -- and the reads are kept
  pub stands_resting : at ≢ Outside → (book q).seen ≡ (book p).seen → IsRest [] 0 (book p) (book q) → Stands began words at kept q h n r w
  stands_resting within seen k = record {
    entries = k.entries ∙ s.entries;
    lost = ap length k.lost ∙ s.lost;
    reads = λ _. k.reads ∙ s.reads within;
    writes = s.writes;
    within = s.within;
    bound = λ _. k.bound ∙ s.bound within ∙ sym seen;
    keeps = keeps_still began p q same k.numbers k.fresh k.regions k.entries k.seen (λ _. k.lost) s.keeps;
  }

-- an attempt that is over has written nothing
pub stands_over : (began : TableId → Book → Type 0) (words : ℕ) (at : At) (kept : List Access) (p : Pass) (h : List Entry) (n : ℕ) (r w : Log)
    → Stands began words at kept p h n r w → Stands began words Outside [] p h n [] []
stands_over began words at kept p h n r w s = record {
  entries = s.entries;
  lost = s.lost;
  reads = λ z. absurd (z refl);
  writes = refl;
  within = All-nil (λ (l : Access). l.address < words);
  bound = λ z. absurd (z refl);
  keeps = s.keeps;
}

-- the same outside an attempt
pub stands_out : (began : TableId → Book → Type 0) (words : ℕ) (at : At) (kept : List Access) (p : Pass) (h : List Entry) (n : ℕ) (r w : Log)
    → Stands began words at kept p h n r w → Stands began words Outside kept p h n r w
stands_out began words at kept p h n r w s = record {
  entries = s.entries;
  lost = s.lost;
  reads = λ z. absurd (z refl);
  writes = s.writes;
  within = s.within;
  bound = λ z. absurd (z refl);
  keeps = s.keeps;
}

-- before the first attempt
pub stands_first : (began : TableId → Book → Type 0) (words : ℕ) (p : Pass) (h : List Entry) → (book p).entries ≡ reverse h → Keeps began p
    → Stands began words Outside [] p h (length (book p).lost) [] []
stands_first began words p h entries keeps = record {
  entries = entries;
  lost = refl;
  reads = λ z. absurd (z refl);
  writes = refl;
  within = All-nil (λ (l : Access). l.address < words);
  bound = λ z. absurd (z refl);
  keeps = keeps;
}

-- what a pass keeps while stripes are given back
pub keeps_rest : (began : TableId → Book → Type 0) (p q : Pass) → IsSame p q → IsRest [] 0 (book p) (book q) → Keeps began p → Keeps began q
keeps_rest began p q same k = keeps_still began p q same k.numbers k.fresh k.regions k.entries k.seen (λ _. k.lost)
