-- What an engine for one thread does keeps its history serial.
use Rattle.std.proofs.Common.{◌≡◌, ◌≢◌, ◌⊎◌, inl, inr, ℕ, ◌+◌, ◌<◌, ◌≤◌, Bool, true, false, List, [], ◌∷◌, ◌++◌, All, reverse, length, nat_eq, if◌then◌else◌, refl, sym, ap, ◌∙◌, Some, find, option_map, unwrap_or, slice_index, arith}
use Rattle.std.specs.List.{AllByRecursion}
use Rattle.std.proofs.lemmas.Bool.Decides.{nat_tests}
use Rattle.std.proofs.lemmas.Bool.{cases_lt}
use Rattle.std.proofs.lemmas.List.{get_or_past}
use Rattle.std.proofs.lemmas.List.Elements.{All-nil, All-head, All-tail}
use Rattle.jmodel.specs.declared.access.Access.{Access}
use Rattle.jmodel.specs.declared.value.Answer.{Answer}
use Rattle.jmodel.specs.history.Log.{Log, answered}
use Rattle.jmodel.specs.history.History.{Entry, Words, Agrees, overlaid, memory_after, made}
use Rattle.tx_core.specs.Engine.{Adds, IsOfWrites}
use Rattle.tx_core.specs.Serial.{word_in, stamped, IsSerial, Stays, clock_after, StandsFor}

-- a history with one entry more
pub serial_more : (rule : Entry → Type 0) (h : List Entry) (e : Entry) (clock : ℕ) (σ : Words) → IsSerial rule clock σ h → rule e → IsOfWrites e.stamp e.writes
    → e.stamp.at ≡ stamped (clock_after clock h) e.stamp.update → Agrees (memory_after h σ) e.reads → IsSerial rule clock σ (h ++ e ∷ [])
serial_more rule [] e clock σ s p o a r = (p, o, a, r, tt)
serial_more rule (d ∷ h) e clock σ s p o a r = (s.0, s.1, s.2, s.3, serial_more rule h e d.stamp.at (overlaid d.writes σ) s.4 p o a r)

pub memory_more : (h : List Entry) (e : Entry) (σ : Words) → memory_after (h ++ e ∷ []) σ ≡ overlaid e.writes (memory_after h σ)
memory_more [] e σ = refl
memory_more (d ∷ h) e σ = memory_more h e (overlaid d.writes σ)

pub clock_more : (h : List Entry) (e : Entry) (clock : ℕ) → clock_after clock (h ++ e ∷ []) ≡ e.stamp.at
clock_more [] e clock = refl
clock_more (d ∷ h) e clock = clock_more h e d.stamp.at

pub stays_more : (h : List Entry) (e : Entry) → AllByRecursion Stays h → Stays e → AllByRecursion Stays (h ++ e ∷ [])
stays_more [] e all s = (s, tt)
stays_more (d ∷ h) e all s = (all.0, stays_more h e all.1 s)

-- an attempt that wrote nothing
pub adds_reader : (rule : Entry → Type 0) (first words : List ℕ) (clock : ℕ) (kept : List Access) (h : List Entry) (n : ℕ) (r w : Log) → StandsFor rule first words clock kept h n r w
    → (x : Answer) (after : ℕ → ℕ) → Adds (λ c used. Unit {0}) rule (λ h n r w. StandsFor rule first words clock [] h n r w) h n x after (record { at = clock; update = false }) r []
adds_reader rule first words clock kept h n r w s x after c used a may =
    let e : Entry = made c x used (after used) (record { at = clock; update = false }) r [] in
    let p = may.anywhere (record { at = clock; update = false }) in
    record {
      no_conflict = s.no_conflict;
      serial = serial_more rule h e 0 (word_in first) s.serial p ((λ q. cc), (λ q. absurd (q refl))) s.last_stamp (rw s.memory at s.reads);
      stays = stays_more h e s.stays may.stays;
      memory = s.memory ∙ sym (memory_more h e (word_in first));
      size = s.size;
      last_stamp = sym (clock_more h e 0);
      reads = tt;
      writes = refl;
      within = All-nil (λ (l : Access). l.address < length words);
    }

-- an address past those that were written
unwritten : (w : Log) (n a x : ℕ) → All (λ (l : Access). l.address < n) w → n ≤ a → answered w a x ≡ x
unwritten [] n a x h past = refl
unwritten (l ∷ w) n a x h past = go (nat_eq l.address a) refl (unwritten w n a x (All-tail (λ (k : Access). k.address < n) l w h) past)
  where
    below : l.address < n
    below = All-head (λ (k : Access). k.address < n) l w h

    go : (b : Bool) → nat_eq l.address a ≡ b → answered w a x ≡ x → unwrap_or (option_map (λ (k : Access). k.word) (if b then Some l else find (λ (k : Access). nat_eq k.address a) w)) x ≡ x
    go true e rest =
        let b : l.address < n = below in
        let no : ⊥ = grind (arith, nat_tests) in
        absurd no
    go false e rest = rest

-- the words after writes within them
words_after : (words words' : List ℕ) (w : Log) → All (λ (l : Access). l.address < length words) w → length words' ≡ length words
    → ((a : ℕ) → a < length words → slice_index words' a ≡ answered w a (slice_index words a)) → word_in words' ≡ overlaid w (word_in words)
words_after words words' w within size at = λ i. λ a. each a (cases_lt a (length words)) i
  where
    each : (a : ℕ) → (a < length words) ⊎ (length words ≤ a) → slice_index words' a ≡ answered w a (slice_index words a)
    each a (inl below) = at a below
    each a (inr past) =
        let gone : slice_index words' a ≡ 0 = get_or_past words' a 0 (rw size past) in
        gone ∙ sym (get_or_past words a 0 past) ∙ sym (unwritten w (length words) a (slice_index words a) within past)

-- an attempt that wrote
pub adds_update : (rule : Entry → Type 0) (first words words' : List ℕ) (clock : ℕ) (kept : List Access) (h : List Entry) (n : ℕ) (r w : Log) → StandsFor rule first words clock kept h n r w
    → length words' ≡ length words → ((a : ℕ) → a < length words → slice_index words' a ≡ answered (reverse kept) a (slice_index words a)) → w ≢ []
    → (x : Answer) (after : ℕ → ℕ) → Adds (λ c used. Unit {0}) rule (λ h n r w. StandsFor rule first words' (clock + 1) [] h n r w) h n x after (record { at = clock + 1; update = true }) r w
adds_update rule first words words' clock kept h n r w s size at wrote x after c used a may =
    let e : Entry = made c x used (after used) (record { at = clock + 1; update = true }) r w in
    let p = may.anywhere (record { at = clock + 1; update = true }) in
    let written = rw s.writes at at in
    record {
      no_conflict = s.no_conflict;
      serial = serial_more rule h e 0 (word_in first) s.serial p ((λ t. wrote), (λ t. refl)) (ap (λ (m : ℕ). m + 1) s.last_stamp) (rw s.memory at s.reads);
      stays = stays_more h e s.stays may.stays;
      memory = words_after words words' w s.within size written ∙ ap (overlaid w) s.memory ∙ sym (memory_more h e (word_in first));
      size = size ∙ s.size;
      last_stamp = sym (clock_more h e 0);
      reads = tt;
      writes = refl;
      within = All-nil (λ (l : Access). l.address < length words');
    }
