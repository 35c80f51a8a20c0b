-- The entries of attempts.
use Rattle.std.proofs.Common.{◌≡◌, ◌≢◌, ◌⊎◌, inl, ◌<◌, ◌+◌, ℕ, false, true, arith, List, [], ◌∷◌, ◌++◌, length, refl, sym, ap, ◌∙◌, subst}
use Rattle.std.proofs.lemmas.List.{reverse-append}
use Rattle.std.proofs.lemmas.List.Elements.{All-nil}
use mathlib.Core.Option.{some}
use Rattle.atomic_table.specs.Seated.{TableId}
use Rattle.jmodel.specs.declared.access.Access.{Access}
use Rattle.jmodel.specs.declared.value.Answer.{Answer}
use Rattle.jmodel.specs.declared.value.Stamp.{Stamp}
use Rattle.jmodel.specs.history.Log.{Log}
use Rattle.jmodel.specs.history.History.{Call, Entry, leaves_words, made}
use Rattle.tx_table.specs.Book.{Map, Book, Lost, Region, lookup, pairs}
use Rattle.tx_table.specs.Rule.{Story, Succeeds}
use Rattle.tx_table.specs.Plays.{accesses, reader_entry, used_in, finished, region_of, Fits, Reads}
use Rattle.tx_core.specs.Engine.{IsAllowed, Adds}
use Rattle.tx_table.specs.declared.shared.Pass.{Pass}
use Rattle.tx_table.specs.Passes.{book, IsSame}
use Rattle.tl2.specs.declared.attempt.At.{At}
use Rattle.tl2.specs.declared.attempt.At.TheVariants.{Outside}
use Rattle.tl2.specs.Commits.{IsAdded, IsRest, update_of}
use Rattle.tl2.specs.Standing.{IsAt, Awaits, Stands}
use Rattle.tl2.proofs.Keeping.{keeps_still, keeps_more}

-- where a pass stands in an attempt, so does the engine
pub inside : (words : ℕ) (at : At) (v : Book) → IsAt words at v → at ≢ Outside
inside words at v is e = subst (λ (k : At). IsAt words k v) e is

pub accesses_pairs : (r : Log) → accesses (pairs r) ≡ r
accesses_pairs [] = refl
accesses_pairs (l ∷ r) = ap (λ (t : Log). l ∷ t) (accesses_pairs r)

pub pairs_accesses : (m : Map ℕ) → pairs (accesses m) ≡ m
pairs_accesses [] = refl
pairs_accesses (x ∷ m) = ap (λ (t : Map ℕ). x ∷ t) (pairs_accesses m)

-- the entry of the awaited call is the one that the pass adds
pub reader_made : (named : Call) (v : Book) (c : Call) (used : ℕ) (r : Log) (x : Answer) → v.call ≡ named → Awaits named v c used → v.reads ≡ pairs r
    → reader_entry v x ≡ made c x used used (record { at = v.bound; update = false }) r []
reader_made named v c used r x on aw reads =
    let same : v.call ≡ c = on ∙ sym aw.0 in
    let held : used_in (lookup v.regions v.call.region) ≡ used = ap (λ (k : Call). used_in (lookup v.regions k.region)) same ∙ ap used_in aw.2.1 ∙ aw.2.2 in
    let log : accesses v.reads ≡ r = ap accesses reads ∙ accesses_pairs r in
    λ i. record {
      stamp = record { at = v.bound; update = false };
      call = same i;
      answer = x;
      reads = log i;
      writes = [];
      used_before = held i;
      used_after = held i;
    }

-- it owes nothing to the attempt
pub reader_fits : (S : Story) (named : Call) (v : Book) (c : Call) (used : ℕ) (r : Log) (x : Answer) → v.call ≡ named → Awaits named v c used → v.reads ≡ pairs r
    → S.runs (made c x used used (record { at = v.bound; update = false }) r []) → Reads S v (reader_entry v x)
reader_fits S named v c used r x on aw reads runs =
    let same : v.call ≡ c = on ∙ sym aw.0 in
    record {
      fits = record {
        call = refl;
        reads = pairs_accesses v.reads;
        region = subst (λ (k : Call). (g : Region) × (lookup v.regions k.region ≡ some g) × (g.used ≡ used_in (lookup v.regions k.region)) × Succeeds k g.last) (sym same)
            (aw.2.0, aw.2.1, sym (ap used_in aw.2.1), aw.2.3);
        lane = rw same aw.1;
        runs = subst S.runs (sym (reader_made named v c used r x on aw reads)) runs;
        stays = λ q. refl;
      };
      stamp = refl;
      update = refl;
      writes = refl;
    }

-- the engine stands for one entry more
pub adds_reader : (began : TableId → Book → Type 0) (words : ℕ) (named : Call) (rule : Entry → Type 0) (at : At) (kept : List Access)
    (p q : Pass) (h : List Entry) (n : ℕ) (r w : Log) (x : Answer)
    → (book p).call ≡ named → at ≢ Outside → IsSame p q → book q ≡ finished (book p) (reader_entry (book p) x)
    → Stands began words at kept p h n r w
    → Adds (Awaits named (book p)) rule (Stands began words Outside [] q) h n x (λ used. used) (record { at = (book p).bound; update = false }) r []
adds_reader began words named rule at kept p q h n r w x on inside same e s c used aw may =
    let entries : (book q).entries ≡ reader_entry (book p) x ∷ (book p).entries = ap (λ (b : Book). b.entries) e in
    let numbers = ap (λ (b : Book). b.numbers) e in
    let fresh = ap (λ (b : Book). b.fresh) e in
    let regions = ap (λ (b : Book). b.regions) e in
    record {
      entries = entries
          ∙ ap (λ (d : Entry). d ∷ (book p).entries) (reader_made named (book p) c used r x on aw (s.reads inside))
          ∙ ap (λ (t : List Entry). made c x used used (record { at = (book p).bound; update = false }) r [] ∷ t) s.entries
          ∙ sym (reverse-append h (made c x used used (record { at = (book p).bound; update = false }) r [] ∷ []));
      lost = ap (λ (b : Book). length b.lost) e ∙ s.lost;
      reads = λ z. absurd (z refl);
      writes = refl;
      within = All-nil (λ (l : Access). l.address < words);
      bound = λ z. absurd (z refl);
      keeps =
          let bound = s.bound inside in
          let seen = ap (λ (b : Book). b.seen) e in
          keeps_more began p q same numbers fresh (reader_entry (book p) x) regions entries (omega arith) (ap (λ (b : Book). b.lost) e)
          (omega arith, λ u. let z : false ≡ true = u in cc z) (omega arith) s.keeps;
    }

-- the region has the awaited call as its last one
pub reader_region : (named : Call) (v : Book) (x : Answer) (c : Call) (used : ℕ) → v.call ≡ named → Awaits named v c used
    → (finished v (reader_entry v x)).regions ≡ (c.region, record { used = used; last = some c }) ∷ v.regions
reader_region named v x c used on aw =
    let same : v.call ≡ c = on ∙ sym aw.0 in
    let held : used_in (lookup v.regions v.call.region) ≡ used = ap (λ (k : Call). used_in (lookup v.regions k.region)) same ∙ ap used_in aw.2.1 ∙ aw.2.2 in
    λ i. ((same i).region, record { used = held i; last = some (same i) }) ∷ v.regions

-- the used words of the awaited call's region are those that the book has
pub awaits_used : (named : Call) (v : Book) (c : Call) (used : ℕ) → Awaits named v c used → used_in (lookup v.regions named.region) ≡ used
awaits_used named v c used aw = ap (λ (k : Call). used_in (lookup v.regions k.region)) (sym aw.0) ∙ ap used_in aw.2.1 ∙ aw.2.2

-- an entry that wrote nothing leaves the used words as they were
pub adds_nothing : (A : Call → ℕ → Type 0) (allows : Entry → Type 0) (S : List Entry → ℕ → Log → Log → Type 0) (h : List Entry) (n : ℕ) (x : Answer) (after : ℕ) (s : Stamp) (r : Log)
    → Adds A allows S h n x (λ used. used) s r [] → Adds A allows S h n x (λ _. after) s r []
adds_nothing A allows S h n x after s r adds c used aw may =
    subst (λ (k : ℕ). IsAllowed allows x c used k r [] → S (h ++ made c x used k s r [] ∷ []) n [] []) (sym (may.stays (inl refl))) (adds c used aw) may

-- the update of the awaited call is the one that the pass adds
pub update_made : (named : Call) (v : Book) (c : Call) (used after : ℕ) (r w : Log) (x : Answer) (s : Stamp) → s.update ≡ true → v.call ≡ named → Awaits named v c used → v.reads ≡ pairs r
    → update_of v s.at w x after ≡ made c x used after s r w
update_made named v c used after r w x s u on aw reads =
    let same : v.call ≡ c = on ∙ sym aw.0 in
    let held : used_in (lookup v.regions v.call.region) ≡ used = ap (λ (k : Call). used_in (lookup v.regions k.region)) same ∙ ap used_in aw.2.1 ∙ aw.2.2 in
    let log : accesses v.reads ≡ r = ap accesses reads ∙ accesses_pairs r in
    λ i. record {
      stamp = record { at = s.at; update = (sym u) i };
      call = same i;
      answer = x;
      reads = log i;
      writes = w;
      used_before = held i;
      used_after = after;
    }

-- it owes nothing to the attempt
pub update_fits : (S : Story) (named : Call) (v : Book) (c : Call) (used after : ℕ) (r w : Log) (x : Answer) (t : ℕ) → v.call ≡ named → Awaits named v c used → v.reads ≡ pairs r
    → S.runs (made c x used after (record { at = t; update = true }) r w) → ((w ≡ []) ⊎ (leaves_words x ≡ false) → after ≡ used) → Fits S v (update_of v t w x after)
update_fits S named v c used after r w x t on aw reads runs stays =
    let same : v.call ≡ c = on ∙ sym aw.0 in
    let held : used_in (lookup v.regions v.call.region) ≡ used = ap (λ (k : Call). used_in (lookup v.regions k.region)) same ∙ ap used_in aw.2.1 ∙ aw.2.2 in
    record {
      call = refl;
      reads = pairs_accesses v.reads;
      region = subst (λ (k : Call). (g : Region) × (lookup v.regions k.region ≡ some g) × (g.used ≡ used_in (lookup v.regions k.region)) × Succeeds k g.last) (sym same)
          (aw.2.0, aw.2.1, sym (ap used_in aw.2.1), aw.2.3);
      lane = rw same aw.1;
      runs = subst S.runs (sym (update_made named v c used after r w x (record { at = t; update = true }) refl on aw reads)) runs;
      stays = λ q. stays q ∙ sym held;
    }

-- the engine stands for one update more
pub adds_update : (began : TableId → Book → Type 0) (words : ℕ) (named : Call) (rule : Entry → Type 0) (at : At) (kept : List Access)
    (p q : Pass) (h : List Entry) (n : ℕ) (r w : Log) (x : Answer) (after : ℕ) (s : Stamp)
    → (book p).call ≡ named → at ≢ Outside → s.update ≡ true → (book p).seen < s.at → IsSame p q → IsAdded (update_of (book p) s.at w x after) (book p) (book q)
    → Stands began words at kept p h n r w
    → Adds (Awaits named (book p)) rule (Stands began words Outside [] q) h n x (λ _. after) s r w
adds_update began words named rule at kept p q h n r w x after s on inside u over same a st c used aw may = record {
  entries = a.entries
      ∙ ap (λ (e : Entry). e ∷ (book p).entries) (update_made named (book p) c used after r w x s u on aw (st.reads inside))
      ∙ ap (λ (t : List Entry). made c x used after s r w ∷ t) st.entries
      ∙ sym (reverse-append h (made c x used after s r w ∷ []));
  lost = ap length a.lost ∙ st.lost;
  reads = λ q. absurd (q refl);
  writes = refl;
  within = All-nil (λ (l : Access). l.address < words);
  bound = λ q. absurd (q refl);
  keeps =
      let known = a.seen in
      keeps_more began p q same a.numbers a.fresh (update_of (book p) s.at w x after) a.regions a.entries (omega arith) a.lost (omega arith, λ t. omega arith) a.seen st.keeps;
}

pub update_region : (named : Call) (v v' : Book) (t : ℕ) (w : Log) (x : Answer) (c : Call) (used after : ℕ) → v.call ≡ named → IsAdded (update_of v t w x after) v v' → Awaits named v c used
    → v'.regions ≡ (c.region, record { used = after; last = some c }) ∷ v.regions
update_region named v v' t w x c used after on a aw =
    let same : v.call ≡ c = on ∙ sym aw.0 in
    let it : region_of (update_of v t w x after) ∷ v.regions ≡ (c.region, record { used = after; last = some c }) ∷ v.regions = λ i. ((same i).region, record { used = after; last = some (same i) }) ∷ v.regions in
    a.regions ∙ it

-- a conflict in a commit is counted, and the attempt leaves nothing
pub lost_stands : (began : TableId → Book → Type 0) (words moved n : ℕ) (at : At) (kept : List Access)
    (p q : Pass) (h : List Entry) (r w : Log) (l : Lost)
    → IsSame p q → ((book p).numbers ≢ 1048576) → IsRest (l ∷ []) moved (book p) (book q) → Stands began words at kept p h n r w
    → Stands began words Outside [] q h (n + 1) [] []
lost_stands began words moved n at kept p q h r w l same others k s = record {
  entries = k.entries ∙ s.entries;
  lost = let d : length (book q).lost ≡ length (l ∷ (book p).lost) = ap length k.lost in let was = s.lost in omega arith;
  reads = λ z. absurd (z refl);
  writes = refl;
  within = All-nil (λ (l : Access). l.address < words);
  bound = λ z. absurd (z refl);
  keeps = keeps_still began p q same k.numbers k.fresh k.regions k.entries k.seen (λ whole. absurd (others whole)) s.keeps;
}
