-- One attempt of the tests: its book from step to step.
use Rattle.std.specs.Prelude.{nat_lt}
use Rattle.std.proofs.Common.{◌≡◌, ◌⊎◌, ℕ, suc, ◌+◌, ◌%◌, ◌^◌, ◌<◌, true, [], ◌∷◌, sym, refl, ap, ◌∙◌, subst, inr, ⊎_elim, arith}
use mathlib.Core.Option.{Option, none, some, some-ne-none}
use Rattle.jmodel.specs.history.History.{Call, Entry, round, first_by}
use Rattle.tx_table.specs.Book.{Map, lookup, without, Has, In, pairs, Ticked, Decided, Book, rises}
use Rattle.tx_table.specs.Rule.{Story, Succeeds}
use Rattle.tx_table.specs.Plays.{took, ticked_up, decided_up, released, accesses, update_entry, used_in, region_of, Fits, Updates}
use Rattle.tx_table.specs.Trials.{the_call, Before, Ready, plus_one, adding}
use Rattle.tx_table.proofs.MapLaws.{lookup_put, lookup_here}
use Rattle.tx_table.proofs.Order.{first_same}
use Rattle.std.proofs.lemmas.Bool.{lt-ltb}

pub pairs_back : (m : Map ℕ) → pairs (accesses m) ≡ m
pairs_back [] = refl
pairs_back (x ∷ xs) = ap (λ z. (x.0, x.1) ∷ z) (pairs_back xs)

only_key : {A : Type 0} (k a : ℕ) (v x : A) → lookup ((k, v) ∷ []) a ≡ some x → k ≡ a
only_key k a v x e = ⊎_elim (λ t. t.0) (λ t. absurd (some-ne-none x (sym t.1))) (lookup_put [] k v a x e)

calls_rise : (lane m n : ℕ) → m < n → rises (the_call lane m) (the_call lane n) ≡ true
calls_rise lane m n l = first_same (round (the_call lane m)) (round (the_call lane n)) (first_by lane lane (nat_lt m n)) refl ∙ (first_same lane lane (nat_lt m n) refl ∙ lt-ltb m n l)

pub comes_after : (lane n : ℕ) (z : Option Call) → Before lane n z → Succeeds (the_call lane n) z
comes_after lane n none b = tt
comes_after lane n (some c) b = subst (λ (d : Call). rises d (the_call lane n) ≡ true) (sym b.2) (calls_rise lane b.0 n b.1)

module _ (key : Story) (runs : (e : Entry) → key.runs e) (v : Book) (lane index word value : ℕ) (ready : Ready lane index v) (reads : v.reads ≡ (3, value) ∷ []) (call : v.call ≡ the_call lane index) where
  abbrev due : Map ℕ
  due = (3, (value + 1) % 2 ^ 64) ∷ []

  taken_held : (v1 : Book) → v1 ≡ took v 3 word 3 → v1.face.held ≡ (3, word) ∷ []
  taken_held v1 e = ap (λ (b : Book). b.face.held) e ∙ ap (λ m. (3, word) ∷ m) ready.0

  taken_due : (v1 : Book) → v1 ≡ took v 3 word 3 → plus_one v1.reads ≡ due
  taken_due v1 e = ap (λ (b : Book). plus_one b.reads) e ∙ ap plus_one reads

  pub tick_held : (v1 : Book) → v1 ≡ took v 3 word 3 → (b : ℕ) → Has (plus_one v1.reads) b → Has v1.face.held (b % 4096)
  tick_held v1 e b h = let k : 3 ≡ b = only_key 3 b ((value + 1) % 2 ^ 64) h.0 (ap (λ m. lookup m b) (sym (taken_due v1 e)) ∙ h.1) in
      (word, ap (λ m. lookup m (b % 4096)) (taken_held v1 e) ∙ ap (λ (c : ℕ). lookup ((3, word) ∷ []) (c % 4096)) (sym k))

  pub tick_due : (v1 : Book) → v1 ≡ took v 3 word 3 → (i y : ℕ) → lookup v1.face.held i ≡ some y → (b : ℕ) × (b % 4096 ≡ i) × Has (plus_one v1.reads) b
  tick_due v1 e i y h = let k : 3 ≡ i = only_key 3 i word y (ap (λ m. lookup m i) (sym (taken_held v1 e)) ∙ h) in
      (3, k, ((value + 1) % 2 ^ 64, ap (λ m. lookup m 3) (taken_due v1 e)))

  module _ (n : ℕ) (v2 : Book) (is : v2 ≡ ticked_up (took v 3 word 3) n (plus_one v.reads)) where
    pub due_is : v2.face.due ≡ due
    due_is = ap (λ (b : Book). b.face.due) is ∙ ap plus_one reads

    held_is : v2.face.held ≡ (3, word) ∷ []
    held_is = ap (λ (b : Book). b.face.held) is ∙ ap (λ m. (3, word) ∷ m) ready.0

    reads_are : v2.reads ≡ (3, value) ∷ []
    reads_are = ap (λ (b : Book). b.reads) is ∙ reads

    call_is : v2.call ≡ the_call lane index
    call_is = ap (λ (b : Book). b.call) is ∙ call

    regions_are : v2.regions ≡ v.regions
    regions_are = ap (λ (b : Book). b.regions) is

    pub stage_is : v2.face.stage ≡ Ticked
    stage_is = ap (λ (b : Book). b.face.stage) is

    pub safe : (b y : ℕ) → In (b, y) v2.reads → In (b % 4096) v2.checked ⊎ Has v2.face.held (b % 4096)
    safe b y i = let j = subst (In (b, y)) reads_are i in ⊎_elim (λ (t : Same b y). let k : b ≡ 3 = ap (λ (p : ℕ × ℕ). p.0) t in
        inr (word, ap (λ m. lookup m (b % 4096)) held_is ∙ ap (λ (c : ℕ). lookup ((3, word) ∷ []) (c % 4096)) k)) (λ t. absurd t) j
      where
        Same : ℕ → ℕ → Type 0
        Same b y = ◌≡◌ {A = ℕ × ℕ} (b, y) (3, value)

    pub updates : Updates key v2 (adding v2)
    updates = let g = ready.2 in let at : lookup v2.regions v2.call.region ≡ some g.0 = ap (λ m. lookup m v2.call.region) regions_are ∙ (ap (λ (c : Call). lookup v.regions c.region) call_is ∙ g.1) in record {
      fits = record {
        call = refl;
        reads = pairs_back v2.reads;
        region = (g.0, at, sym (ap used_in at), subst (λ (c : Call). Succeeds c g.0.last) (sym call_is) (comes_after lane index g.0.last g.2));
        lane = inr (ap (λ (c : Call). c.region) call_is ∙ sym (ap (λ (c : Call). suc c.lane) call_is));
        runs = runs (adding v2);
        stays = λ s. refl;
      };
      stamp = refl;
      update = refl;
      writes = pairs_back v2.face.due;
    }

    module _ (v3 : Book) (decided : v3 ≡ decided_up v2 (adding v2) 3) where
      pub left_is : (b y : ℕ) → lookup v3.face.left b ≡ some y → ⊥
      left_is b y e = some-ne-none y (sym (ap (λ m. lookup m b) (sym (ap (λ (c : Book). c.face.left) decided ∙ ap (λ m. without m 3) due_is)) ∙ e))

      pub still_held : Has v3.face.held 3
      still_held = (word, ap (λ (c : Book). lookup c.face.held 3) decided ∙ ap (λ m. lookup m 3) held_is)

      pub decided_is : v3.face.stage ≡ Decided
      decided_is = ap (λ (b : Book). b.face.stage) decided

      pub done : (v4 : Book) → v4 ≡ released v3 3 → Ready lane (index + 1) v4
      done v4 e = let all : v4 ≡ released (decided_up v2 (adding v2) 3) 3 = e ∙ ap (λ b. released b 3) decided in subst (Ready lane (index + 1)) (sym all) (
        ap (λ m. without m 3) held_is,
        ap (λ m. Rattle.tx_table.specs.Plays.stage_of (without m 3)) held_is,
        ((region_of (adding v2)).1, here, (index, omega arith, call_is)),
      )
        where
          here : lookup (region_of (adding v2) ∷ v2.regions) (suc lane) ≡ some (region_of (adding v2)).1
          here = ap (λ (k : ℕ). lookup (region_of (adding v2) ∷ v2.regions) k) (sym (ap (λ (c : Call). c.region) call_is)) ∙ lookup_here v2.regions v2.call.region (region_of (adding v2)).1
