-- What holds of a run after each list of replies.
use Rattle.std.proofs.Common.{◌≡◌, ℕ, zero, suc, ◌≤◌, List, [], ◌∷◌, length, refl, subst, sym, arith}
use Rattle.objects.specs.semantics.Program.{Program}
use Rattle.objects.specs.rewriting.Attempt.{Log, Reply, Bounds, Meter, Run, On, Asking, Ended, Stuck, next_run, run}

-- a run that goes on has written and read what another has
abbrev pub SameLogs : Run → Run → Type 0
SameLogs (On p fs m w r) (On q gs n x s) = (w ≡ x) × (r ≡ s)
SameLogs (On p fs m w r) (Ended a n x s) = (w ≡ x) × (r ≡ s)
SameLogs (On p fs m w r) (Stuck s) = r ≡ s
SameLogs (Asking a fs m w r) (On q gs n x s) = (w ≡ x) × (r ≡ s)
SameLogs c d = ⊥

-- steps that no reply changes, and that write and read nothing
abbrev pub Leads : Program → Bounds → ℕ → Run → Run → Type 0
Leads Q B zero c d = c ≡ d
Leads Q B (suc j) c d = SameLogs c d × ((v : Reply) → Leads Q B j (next_run Q B v c) d)

-- a property of runs, which says of one that goes on no more than its logs tell
pub record IsOfEnds (Q : Program) (B : Bounds) (F : Run → Type 0) : Type 0 where
  pub same : (j : ℕ) (c d : Run) → SameLogs c d → ((v : Reply) → Leads Q B j (next_run Q B v c) d) → F d → F c

module _ (Q : Program) (B : Bounds) (F : Run → Type 0) where
  -- it holds after up to n replies
  abbrev pub Holds : ℕ → Run → Type 0
  Holds n c = (vs : List Reply) → length vs ≤ n → F (run Q B vs c)

pub none_le : (n : ℕ) → length {A = Reply} [] ≤ n
none_le n = omega arith

module _ (Q : Program) (B : Bounds) (F : Run → Type 0) (fine : IsOfEnds Q B F) where
  pub on_leads : (j n : ℕ) (c d : Run) → Leads Q B j c d → Holds Q B F n d → Holds Q B F n c
  on_leads zero n c d l h vs le = subst (Holds Q B F n) (sym l) h vs le
  on_leads (suc j) n c d l h [] le = fine.same j c d l.0 l.1 (h [] le)
  on_leads (suc j) n c d l h (v ∷ vs) le = let le' : length vs ≤ n = omega arith in on_leads j n (next_run Q B v c) d (l.1 v) h vs le'

  -- a step at least
  pub on_more : (j n : ℕ) (c d : Run) → Leads Q B (suc j) c d → Holds Q B F n d → Holds Q B F (suc n) c
  on_more j n c d l h [] le = fine.same j c d l.0 l.1 (h [] (none_le n))
  on_more j n c d l h (v ∷ vs) le = let le' : length vs ≤ n = omega arith in on_leads j n (next_run Q B v c) d (l.1 v) h vs le'

  -- a step by its reply
  pub on_reply : (n : ℕ) (c : Run) → F c → ((v : Reply) → Holds Q B F n (next_run Q B v c)) → Holds Q B F n c
  on_reply n c now h [] le = now
  on_reply n c now h (v ∷ vs) le = let le' : length vs ≤ n = omega arith in h v vs le'

  -- a step at least, by its reply
  pub on_reply_more : (n : ℕ) (c : Run) → F c → ((v : Reply) → Holds Q B F n (next_run Q B v c)) → Holds Q B F (suc n) c
  on_reply_more n c now h [] le = now
  on_reply_more n c now h (v ∷ vs) le = let le' : length vs ≤ n = omega arith in h v vs le'

  -- at first
  pub at_none : (c : Run) → F c → Holds Q B F 0 c
  at_none c now [] le = now
  at_none c now (v ∷ vs) le = let no : suc (length vs) ≤ 0 = omega arith in elim (fall vs no) [ ]
    where
      fall : (us : List Reply) → suc (length us) ≤ 0 → ⊥
      fall us h = omega arith

  -- runs that are over
  ended_stays : (vs : List Reply) (x : _) (m : Meter) (w r : Log) → run Q B vs (Ended x m w r) ≡ Ended x m w r
  ended_stays [] x m w r = refl
  ended_stays (v ∷ vs) x m w r = ended_stays vs x m w r

  stuck_stays : (vs : List Reply) (r : Log) → run Q B vs (Stuck r) ≡ Stuck r
  stuck_stays [] r = refl
  stuck_stays (v ∷ vs) r = stuck_stays vs r

  pub at_end : (n : ℕ) (x : _) (m : Meter) (w r : Log) → F (Ended x m w r) → Holds Q B F n (Ended x m w r)
  at_end n x m w r h vs le = subst F (sym (ended_stays vs x m w r)) h

  pub at_stuck : (n : ℕ) (r : Log) → F (Stuck r) → Holds Q B F n (Stuck r)
  at_stuck n r h vs le = subst F (sym (stuck_stays vs r)) h
