-- The commit of an attempt that wrote, from step to step.
use Rattle.std.proofs.Common.{◌≡◌, ◌≢◌, ◌⊎◌, ◌<◌, ◌+◌, ◌%◌, ◌==◌, ℕ, Bool, true, false, cond, not, List, [], ◌∷◌, ◌++◌, All, reverse, refl, sym, ap, ◌∙◌, inl, inr, ⊎_elim, eq-eqb, subst, arith}
use mathlib.Core.Option.{none, some, some-ne-none}
use Rattle.std.proofs.lemmas.Bool.{not-true}
use Rattle.std.proofs.lemmas.List.Elements.{All-weaker}
use Rattle.jmodel.specs.declared.access.Access.{Access}
use Rattle.jmodel.specs.declared.value.Answer.{Answer}
use Rattle.jmodel.specs.history.Log.{Log}
use Rattle.jmodel.specs.history.History.{Call, Entry}
use Rattle.tx_core.specs.declared.engine.Conflict.{Conflict}
use Rattle.tx_table.specs.Book.{Map, Book, Region, Unticked, Ticked, Has, In, lookup, pairs}
use Rattle.tx_table.specs.Rule.{Story}
use Rattle.tx_table.specs.Plays.{accesses, keys, ticked_up, lost_at, update_entry, used_in, region_of, Fits, Updates}
use Rattle.tx_table.proofs.MapLaws.{lookup_here}
use Rattle.tl2.specs.declared.plan.Stripe.{Stripe}
use Rattle.tl2.specs.Commits.{Holds, IsChecked, IsRest, IsTaking, IsAdded, MeansOnly, stored, update_of}
use Rattle.tl2.specs.Conflicts.{lost_to}
use Rattle.tl2.specs.Plans.{addresses_of, number_of, touches, IsHolding, IsPlan}
use Rattle.tl2.proofs.Keys.{by_bool}
pub use Rattle.tl2.proofs.Members.{all_in, all_reversed}
use Rattle.tl2.proofs.Members.{all_from, in_reversed, in_turned, in_keys, in_filter, filter_in, in_touches}
use Rattle.tl2.proofs.Stripes.{touched, untouched, touching}
use Rattle.tl2.proofs.Listed.{has_in}
use Rattle.tl2.proofs.Rests.{lost_is}
use Rattle.tl2.proofs.Entries.{accesses_pairs, pairs_accesses}

pub bounded : (words : ℕ) (w : Log) → All (λ (l : Access). l.address < words) w → (a : ℕ) → Has (pairs w) a → a < words
bounded words w all a h = let t = has_in w a h in subst (λ (k : ℕ). k < words) t.2 (all_in (λ (l : Access). l.address < words) w t.0 all t.1)

pub holding : {due : Map ℕ} {reads : List ℕ} {stripes : List Stripe} {elsewhere : List ℕ} → IsPlan due reads stripes elsewhere → IsHolding due reads stripes elsewhere
holding p = record { each = p.each; only = p.only; elsewhere = p.elsewhere }

module _ {due : Map ℕ} (m : Map ℕ) {stripes : List Stripe} {elsewhere : List ℕ} (p : IsPlan due (reverse (keys m)) stripes elsewhere) where
  -- a stripe of which an address was read tells so
  pub read_tells : (b x : ℕ) → In (b, x) m → All (λ s. b % 4096 ≡ number_of s → s.was_read ≡ true) stripes
  read_tells b x i = All-weaker (λ (s : Stripe). s.was_read ≡ touches (reverse (keys m)) (number_of s)) (λ (s : Stripe). b % 4096 ≡ number_of s → s.was_read ≡ true)
      (λ s r e. r ∙ ap (touches (reverse (keys m))) (sym e) ∙ in_touches (reverse (keys m)) b (in_turned (keys m) b (in_keys m b x i))) stripes p.read

-- What a plan says of the stripes that are held, once they are taken, and of what the book has as read.
module _ {due : Map ℕ} (m : Map ℕ) {stripes : List Stripe} {elsewhere : List ℕ} (p : IsHolding due (reverse (keys m)) stripes elsewhere) where
  pub elsewhere_read : (b : ℕ) → In b elsewhere → In b (keys m) × (touches (addresses_of stripes) (b % 4096) ≡ false)
  elsewhere_read b i =
      let t = in_filter (λ a. not (touches (addresses_of stripes) (a % 4096))) (reverse (keys m)) b (subst (In b) p.elsewhere i) in
      (in_reversed (keys m) b t.0, not-true _ t.1)

  pub elsewhere_fits : (words : ℕ) → All (λ a. a < words) (keys m) → All (λ a. a < words) elsewhere
  elsewhere_fits words all = all_from (λ a. a < words) elsewhere (λ a i. all_in (λ a. a < words) (keys m) a all (elsewhere_read a i).0)

  pub stripes_fit : (words : ℕ) → ((a : ℕ) → Has due a → a < words) → All (λ a. a < words) (addresses_of stripes)
  stripes_fit words f = All-weaker (Has due) (λ a. a < words) f (addresses_of stripes) p.only

  module _ (taken : List Stripe) (same : addresses_of taken ≡ addresses_of stripes) (v : Book) (holds : Holds taken v) where
    pub due_held : (b : ℕ) → Has due b → Has v.face.held (b % 4096)
    due_held b h = let t = touched taken (b % 4096) (ap (λ (xs : List ℕ). touches xs (b % 4096)) same ∙ p.each b h) in (t.0, holds.same (b % 4096) ∙ t.1)

    pub held_due : (i y : ℕ) → lookup v.face.held i ≡ some y → (b : ℕ) × (b % 4096 ≡ i) × Has due b
    held_due i y e =
        let t = touching taken i y (sym (holds.same i) ∙ e) in
        (t.0, t.2, all_in (Has due) (addresses_of stripes) t.0 p.only (subst (In t.0) same t.1))

    pub elsewhere_free : All (λ a. lookup v.face.held (a % 4096) ≡ none) elsewhere
    elsewhere_free = all_from (λ a. lookup v.face.held (a % 4096) ≡ none) elsewhere
        (λ a i. holds.same (a % 4096) ∙ untouched taken (a % 4096) (ap (λ (xs : List ℕ). touches xs (a % 4096)) same ∙ (elsewhere_read a i).1))

    -- each read is on a stripe that was checked or is held
    pub all_safe : (u : Book) → IsChecked elsewhere u v → (b y : ℕ) → In (b, y) m → In (b % 4096) v.checked ⊎ Has v.face.held (b % 4096)
    all_safe u c b y i = by_bool (touches (addresses_of stripes) (b % 4096))
        (λ t. let h = touched taken (b % 4096) (ap (λ (xs : List ℕ). touches xs (b % 4096)) same ∙ t) in inr (h.0, holds.same (b % 4096) ∙ h.1))
        (λ f. let there : In b elsewhere = subst (In b) (sym p.elsewhere) (filter_in (λ a. not (touches (addresses_of stripes) (a % 4096))) (reverse (keys m)) b (in_turned (keys m) b (in_keys m b y i)) (ap not f)) in
        inl (subst (In (b % 4096)) (sym (ap (λ (w : Book). w.checked) c.1)) (all_in (λ a. In (a % 4096) c.0) elsewhere b c.2 there)))

-- an address of a word of a map has one
keyed : (m : Map ℕ) (a : ℕ) → In a (keys m) → Has m a
keyed [] a i = absurd i
keyed (x ∷ m) a i = by (x.0 == a) refl i (keyed m a)
  where
    by : (b : Bool) → x.0 == a ≡ b → (a ≡ x.0) ⊎ In a (keys m) → (In a (keys m) → Has m a) → (y : ℕ) × (cond b (some x.1) (lookup m a) ≡ some y)
    by true e j rest = (x.1, refl)
    by false e (inl q) rest = let no : false ≡ true = sym e ∙ eq-eqb x.0 a (sym q) in cc no
    by false e (inr j) rest = rest j

in_parts : (xs ys : List ℕ) (a : ℕ) → In a (xs ++ ys) → In a xs ⊎ In a ys
in_parts [] ys a i = inr i
in_parts (x ∷ xs) ys a (inl e) = inl (inl e)
in_parts (x ∷ xs) ys a (inr i) = ⊎_elim (λ (j : In a xs). inl (inr j)) (λ (j : In a ys). inr j) (in_parts xs ys a i)

-- An attempt that took the stripes of a plan and ticked means to write what it wrote.
module _ {due : Map ℕ} (m : Map ℕ) {stripes : List Stripe} {elsewhere : List ℕ} (p : IsHolding due (reverse (keys m)) stripes elsewhere)
    (v v1 : Book) (means : MeansOnly (λ a. In a (addresses_of stripes)) v v1) where
  means_ticked : (u : Book) → u.wants ≡ keys due ++ v1.wants → MeansOnly (Has due) v u
  means_ticked u e a i =
      ⊎_elim (λ (j : In a (keys due)). inr (keyed due a j))
      (λ (j : In a v1.wants). ⊎_elim (λ (k : In a v.wants). inl k) (λ (k : In a (addresses_of stripes)). inr (all_in (Has due) (addresses_of stripes) a p.only k)) (means a j))
      (in_parts (keys due) v1.wants a (subst (In a) e i))

  pub means_stored : (t : ℕ) (checked : List ℕ) (e : Entry) (left : Map ℕ) (v3 v4 u : Book) → v3 ≡ record (ticked_up v1 t due) { checked = checked } → v4 ≡ stored v3 e left → u.wants ≡ v4.wants
      → MeansOnly (Has due) v u
  means_stored t checked e left v3 v4 u ticked stores same =
      let first : v3.wants ≡ keys due ++ v1.wants = ap (λ (b : Book). b.wants) ticked in
      let then : v4.wants ≡ v3.wants = ap (λ (b : Book). b.wants) stores in
      means_ticked u (same ∙ then ∙ first)

  pub means_lost : (t : ℕ) (checked : List ℕ) (a n : ℕ) (v3 u : Book) → v3 ≡ lost_at (record (ticked_up v1 t due) { checked = checked }) a n → u.wants ≡ v3.wants → MeansOnly (Has due) v u
  means_lost t checked a n v3 u lost same =
      let first : v3.wants ≡ keys due ++ v1.wants = ap (λ (b : Book). b.wants) lost in
      means_ticked u (same ∙ first)

-- what was written has a stripe
pub some_held : (w : Log) (held : Map ℕ) → w ≢ [] → ((b : ℕ) → Has (pairs w) b → Has held (b % 4096)) → held ≢ []
some_held [] held some_writes f = absurd (some_writes refl)
some_held (p ∷ w) held some_writes f = λ e.
    let h = f p.address (p.word, lookup_here (pairs w) p.address p.word) in
    some-ne-none h.0 (sym h.1 ∙ ap (λ (m : Map ℕ). lookup m (p.address % 4096)) e)

-- The attempt has ticked at t, to write this, and its reads stand.
pub record IsTicked (t : ℕ) (m : Map ℕ) (v w : Book) : Type 0 where
  pub stage : w.face.stage ≡ Ticked
  pub live : w.live ≡ true
  pub tick : w.face.tick ≡ t
  pub due : w.face.due ≡ m
  pub number : w.face.number ≡ v.face.number
  pub numbers : w.numbers ≡ v.numbers
  pub fresh : w.fresh ≡ v.fresh
  pub begins : w.begins ≡ v.begins
  pub ticks : w.ticks ≡ v.ticks + 1
  pub regions : w.regions ≡ v.regions
  pub entries : w.entries ≡ v.entries
  pub lost : w.lost ≡ v.lost
  pub call : w.call ≡ v.call
  pub reads : w.reads ≡ v.reads
  pub seen : (v.seen < t) × (w.seen ≡ t)

pub ticked_then : (t : ℕ) (due : Map ℕ) (checked : List ℕ) (v v1 w : Book) → v1.seen < t → IsTaking v v1 → w ≡ record (ticked_up v1 t due) { checked = checked } → IsTicked t due v w
ticked_then t due checked v v1 w later k e = subst (IsTicked t due v) (sym e) (record {
  stage = refl;
  live = k.live;
  tick = refl;
  due = refl;
  number = k.rest.number;
  numbers = k.rest.numbers;
  fresh = k.rest.fresh;
  begins = k.rest.begins;
  ticks = let p = k.rest.ticks in omega arith;
  regions = k.rest.regions;
  entries = k.rest.entries;
  lost = k.rest.lost;
  call = k.rest.call;
  reads = k.rest.reads;
  seen = (let p = k.rest.seen in omega arith, refl);
})

-- a conflict after the tick, and the stripes given back
pub ticked_lost : (t : ℕ) (due : Map ℕ) (checked : List ℕ) (x : Conflict) (v v1 w u : Book) → v1.seen < t → x.upto ≡ v1.bound → IsTaking v v1 → w ≡ lost_at (record (ticked_up v1 t due) { checked = checked }) x.address x.word → IsRest [] 0 w u
    → u.face.stage ≡ Unticked → IsRest (lost_to v x ∷ []) 1 v u
ticked_lost t due checked x v v1 w u later upto k e r stage = record {
  number = r.number ∙ ap (λ (b : Book). b.face.number) e ∙ k.rest.number;
  stage = inl stage;
  numbers = r.numbers ∙ ap (λ (b : Book). b.numbers) e ∙ k.rest.numbers;
  fresh = r.fresh ∙ ap (λ (b : Book). b.fresh) e ∙ k.rest.fresh;
  begins = r.begins ∙ ap (λ (b : Book). b.begins) e ∙ k.rest.begins;
  ticks = let p = r.ticks in let q = ap (λ (b : Book). b.ticks) e in let o = k.rest.ticks in omega arith;
  regions = r.regions ∙ ap (λ (b : Book). b.regions) e ∙ k.rest.regions;
  entries = r.entries ∙ ap (λ (b : Book). b.entries) e ∙ k.rest.entries;
  lost = r.lost ∙ ap (λ (b : Book). b.lost) e ∙ lost_is v v1 x upto k.rest.call k.rest.regions k.rest.reads k.rest.lost;
  call = r.call ∙ ap (λ (b : Book). b.call) e ∙ k.rest.call;
  bound = r.bound ∙ ap (λ (b : Book). b.bound) e ∙ k.rest.bound;
  reads = r.reads ∙ ap (λ (b : Book). b.reads) e ∙ k.rest.reads;
  seen = let p = r.seen in let q = ap (λ (b : Book). b.seen) e in let o = k.rest.seen in omega arith;
}

module _ (t : ℕ) (wr : Log) (v w : Book) (x : Answer) (after : ℕ) (k : IsTicked t (pairs wr) v w) where
  abbrev used : Book → ℕ
  used b = used_in (lookup b.regions b.call.region)

  same_used : used w ≡ used v
  same_used = ap (λ (m : Map Region). used_in (lookup m w.call.region)) k.regions ∙ ap (λ (c : Call). used_in (lookup v.regions c.region)) k.call

  pub entry_is : update_entry w x after ≡ update_of v t wr x after
  entry_is = λ i. record {
    stamp = record { at = k.tick i; update = true };
    call = k.call i;
    answer = x;
    reads = accesses (k.reads i);
    writes = (ap accesses k.due ∙ accesses_pairs wr) i;
    used_before = same_used i;
    used_after = after;
  }

  pub updates : (S : Story) → Fits S v (update_of v t wr x after) → Updates S w (update_entry w x after)
  updates S f = record {
    fits = subst (Fits S w) (sym entry_is) (record {
      call = f.call ∙ sym k.call;
      reads = f.reads ∙ sym k.reads;
      region = (f.region.0, ap (λ (m : Map Region). lookup m v.call.region) k.regions ∙ f.region.1, f.region.2, f.region.3);
      lane = f.lane;
      runs = f.runs;
      stays = f.stays;
    });
    stamp = refl;
    update = refl;
    writes = pairs_accesses w.face.due;
  }

  pub added : (left : Map ℕ) (w4 w5 : Book) → w4 ≡ stored w (update_entry w x after) left → IsRest [] 0 w4 w5 → IsAdded (update_of v t wr x after) v w5
  added left w4 w5 e r = record {
    number = r.number ∙ ap (λ (b : Book). b.face.number) e ∙ k.number;
    numbers = r.numbers ∙ ap (λ (b : Book). b.numbers) e ∙ k.numbers;
    fresh = r.fresh ∙ ap (λ (b : Book). b.fresh) e ∙ k.fresh;
    begins = r.begins ∙ ap (λ (b : Book). b.begins) e ∙ k.begins;
    ticks = let p = r.ticks in let q = ap (λ (b : Book). b.ticks) e in let o = k.ticks in omega arith;
    regions = r.regions ∙ ap (λ (b : Book). b.regions) e ∙ ap (λ (d : Entry). region_of d ∷ w.regions) entry_is ∙ ap (λ (m : Map Region). region_of (update_of v t wr x after) ∷ m) k.regions;
    entries = r.entries ∙ ap (λ (b : Book). b.entries) e ∙ ap (λ (d : Entry). d ∷ w.entries) entry_is ∙ ap (λ (es : List Entry). update_of v t wr x after ∷ es) k.entries;
    lost = r.lost ∙ ap (λ (b : Book). b.lost) e ∙ k.lost;
    seen = let p = r.seen in let q = ap (λ (b : Book). b.seen) e in let o = k.seen.1 in omega arith;
  }
