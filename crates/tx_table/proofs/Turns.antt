-- What every other book, and every entry, sees of a step of the seat `me`.
use Rattle.std.proofs.Common.{◌≡◌, ◌≢◌, ◌⊎◌, ℕ, suc, ◌-◌, ◌*◌, ◌<◌, ◌≤◌, Bool, true, false, cond, List, sym, ap, ◌∙◌, subst, inl, inr, ⊎_elim, arith}
use mathlib.Core.Option.{some}
use mathlib.Core.Logic.{dite}
use native.Mathlib.Decide.{ℕ_discrete}
use Rattle.jmodel.specs.history.History.{Entry}
use Rattle.tx_table.specs.Book.{Has, Unticked, Ticked, Decided, Look, Away, Saw, Had, Face, Book}
use Rattle.tx_table.specs.Rule.{stripe, value, base, region_after, top_of, World, Clear, Sees, Watch, Catch, Looks, Knows, Grip, Annals}

module _ (o : ℕ → ℕ) (op : ℕ → ℕ) (W W' : World) (me : ℕ) where
  pub record Turn : Type 0 where
    pub later : W.clock ≤ W'.clock
    pub others : (k : ℕ) → k ≢ me → W'.faces k ≡ W.faces k
    pub clear : (t a : ℕ) → t ≤ W.clock → (W'.faces me).stage ≡ Ticked → Has (W'.faces me).due a → ((W.faces me).stage ≡ Ticked → Has (W.faces me).due a → t < (W.faces me).tick) → t < (W'.faces me).tick
    pub values : (c t a : ℕ) → suc me ≢ c → t ≤ W.clock → Clear W.faces c t a → value o W'.log t a ≡ value o W.log t a
    pub gained : (s k : ℕ) → k ≢ me → W'.holder s ≡ suc k → (W.holder s ≡ suc k) × (W'.ver s ≡ W.ver s)
    pub kept : (s k : ℕ) → k ≢ me → W.holder s ≡ suc k → W'.holder s ≡ suc k
    pub moved : (s : ℕ) → (W'.ver s ≡ W.ver s) ⊎ ((W.holder s ≡ suc me) × ((W.faces me).stage ≢ Unticked) × ((W.faces me).tick ≡ W'.ver s) × (W.ver s ≤ W'.ver s))
    pub busy : (s : ℕ) → W'.holder s ≡ suc me → (W'.faces me).stage ≢ Unticked → (W.clock < (W'.faces me).tick) ⊎ ((W.holder s ≡ suc me) × ((W.faces me).stage ≢ Unticked) × ((W'.faces me).tick ≡ (W.faces me).tick))
    pub caught : (s : ℕ) → W.holder s ≡ suc me → (W.faces me).stage ≡ Decided → ((W'.holder s ≡ suc me) × ((W'.faces me).stage ≡ Decided)) ⊎ ((W.faces me).tick ≤ W'.ver s)
    pub signed : (t k : ℕ) → k ≢ me → t ≤ W.clock → W.whose t ≡ k → (W'.whose t ≡ k) × ((a : ℕ) → W'.log t a ≡ W.log t a)

  module _ (T : Turn) where
    pub clear_turns : (c t a : ℕ) → t ≤ W.clock → Clear W.faces c t a → Clear W'.faces c t a
    clear_turns c t a l h k n = dite (ℕ_discrete k me)
        (λ e. subst (λ (j : ℕ). suc j ≢ c → (W'.faces j).stage ≡ Ticked → Has (W'.faces j).due a → t < (W'.faces j).tick) (sym e)
        (λ m ticked due. T.clear t a l ticked due (h me m)) n)
        (λ m. subst (λ (f : Face). f.stage ≡ Ticked → Has f.due a → t < f.tick) (sym (T.others k m)) (h k n))

    pub sees_turns : (c t a x : ℕ) → suc me ≢ c → t ≤ W.clock → Sees o op W c t a x → Sees o op W' c t a x
    sees_turns c t a x n l h = (T.values c t a n l h.1 ∙ h.0, clear_turns c t a l h.1)

    pub watch_turns : (b s v : ℕ) → b ≤ W.clock → Watch o op W b s v → Watch o op W' b s v
    watch_turns b s v l h = (
      ⊎_elim (λ same. ⊎_elim (λ e. inl (same ∙ e)) (λ m. inr (omega arith)) h.0)
          (λ (t : (W.holder s ≡ suc me) × ((W.faces me).stage ≢ Unticked) × ((W.faces me).tick ≡ W'.ver s) × (W.ver s ≤ W'.ver s)).
          let p = h.1 me t.0 t.1 in inr (omega (arith, p, t.2))) (T.moved s),
      λ k held. dite (ℕ_discrete k me)
          (λ e. subst (λ (j : ℕ). W'.holder s ≡ suc j → (W'.faces j).stage ≢ Unticked → b < (W'.faces j).tick) (sym e)
          (λ mine calm. ⊎_elim (λ p. omega arith) (λ (t : (W.holder s ≡ suc me) × ((W.faces me).stage ≢ Unticked) × ((W'.faces me).tick ≡ (W.faces me).tick)). let p = h.1 me t.0 t.1 in omega (arith, p, t.2)) (T.busy s mine calm)) held)
          (λ m. subst (λ (f : Face). f.stage ≢ Unticked → b < f.tick) (sym (T.others k m)) (h.1 k (T.gained s k m held).0)),
    )

    late_turns : (b s : ℕ) → b < W.ver s → b < W'.ver s
    late_turns b s l = ⊎_elim (λ e. omega arith) (λ (t : (W.holder s ≡ suc me) × ((W.faces me).stage ≢ Unticked) × ((W.faces me).tick ≡ W'.ver s) × (W.ver s ≤ W'.ver s)). let p = t.3 in omega arith) (T.moved s)

    pub catch_turns : (c b v a x : ℕ) → suc me ≢ c → b ≤ W.clock → Watch o op W b (stripe a) v → Catch o op W c b a x → Catch o op W' c b a x
    catch_turns c b v a x n l w h = ⊎_elim (λ s. inl (sees_turns c b a x n l s)) (λ g. ⊎_elim (λ p. inr (inl (late_turns b (stripe a) p)))
        (λ (t : (k : ℕ) × (W.holder (stripe a) ≡ suc k) × ((W.faces k).stage ≡ Decided)). dite (ℕ_discrete t.0 me)
        (λ e. let held : W.holder (stripe a) ≡ suc me = t.1 ∙ ap suc e in let done : (W.faces me).stage ≡ Decided = ap (λ k. (W.faces k).stage) (sym e) ∙ t.2 in
        ⊎_elim (λ (u : (W'.holder (stripe a) ≡ suc me) × ((W'.faces me).stage ≡ Decided)). inr (inr (me, u.0, u.1)))
        (λ p. let q = w.1 me held (λ calm. let z : Decided ≡ Unticked = sym done ∙ calm in cc z) in inr (inl (omega arith))) (T.caught (stripe a) held done))
        (λ m. inr (inr (t.0, T.kept (stripe a) t.0 m t.1, ap (λ (f : Face). f.stage) (T.others t.0 m) ∙ t.2)))) g) h

    pub looks_turns : (c b : ℕ) (z : Look) → suc me ≢ c → b ≤ W.clock → Looks o op W c b z → Looks o op W' c b z
    looks_turns c b Away n l h = tt
    looks_turns c b (Saw s v) n l h = watch_turns b s v l h
    looks_turns c b (Had s v a x) n l h = let w : Watch o op W b (stripe a) v = rw h.0 h.1 in (h.0, watch_turns b s v l h.1, catch_turns c b v a x n l w h.2)

    pub knows_turns : (k : ℕ) (b : Book) → k ≢ me → ((r : ℕ) → Has b.regions r → W.keeper r ≡ k → (W'.keeper r ≡ k) × (W'.ends r ≡ W.ends r)) → Knows o op W k b → Knows o op W' k b
    knows_turns k b n stay h = let m : suc me ≢ suc k = λ e. n (omega arith) in let low : b.bound ≤ W.clock = omega (arith, h.known, h.bounded) in record {
      known = omega (arith, h.known, T.later);
      bounded = h.bounded;
      stamps = h.stamps;
      ticked = h.ticked;
      decided = h.decided;
      aim = λ s e. h.aim s (T.gained s k n e).0;
      own_reads = λ a x live e held. let g = T.gained (stripe a) k n held in let p = h.own_reads a x live e g.0 in omega (arith, p, g.1);
      reads = λ a x live e. sees_turns (suc k) b.bound a x m low (h.reads a x live e);
      checked = λ a x live had e. sees_turns (suc k) b.goal a x m (h.goal live).1 (h.checked a x live had e);
      goal = λ live. let g = h.goal live in (g.0, omega (arith, g.1, T.later));
      ahead = h.ahead;
      look = λ live. looks_turns (suc k) b.bound b.look m low (h.look live);
      regions = λ r u e. let g = h.regions r u e in let p = stay r (u, e) g.0 in
          (p.0, ap (region_after (op r)) p.1 ∙ g.1, omega (arith, ap top_of p.1, g.2), λ live. let q = g.3 live in omega (arith, q, ap top_of p.1));
    }

    pub grip_turns : ((W.faces me).stage ≢ Unticked → W.whose (W.faces me).tick ≡ me) → (k : ℕ) → k ≢ me → Grip o op W k (W.faces k) → Grip o op W' k (W'.faces k)
    grip_turns whose_me k n h = subst (λ (f : Face). Grip o op W' k f) (sym (T.others k n)) record {
      listed = λ s e. let g = T.gained s k n e in h.listed s g.0 ∙ ap (λ v. some (2 * v)) (sym g.1);
      only = λ s w e. T.kept s k n (h.only s w e);
      over = λ s e calm. let g = T.gained s k n e in let p = h.over s g.0 calm in omega (arith, p, g.1);
      owns = λ a ticked due. T.kept (stripe a) k n (h.owns a ticked due);
      left = λ a x e. let g = h.left a x e in (g.0, g.1, T.kept (stripe a) k n g.2);
      ticks = λ calm. let g = h.ticks calm in (omega (arith, g.0, T.later), (T.signed (W.faces k).tick k n g.0 g.1).0);
      apart = λ s ticked e. ⊎_elim (λ m. h.apart s ticked (sym m ∙ e)) (λ (t : (W.holder s ≡ suc me) × ((W.faces me).stage ≢ Unticked) × ((W.faces me).tick ≡ W'.ver s) × (W.ver s ≤ W'.ver s)).
          n (sym (h.ticks (λ calm. let z : Ticked ≡ Unticked = sym ticked ∙ calm in cc z)).1 ∙ (ap W.whose (sym (t.2 ∙ e)) ∙ whose_me t.1))) (T.moved s);
      unused = λ a ticked. let g = h.ticks (λ calm. let z : Ticked ≡ Unticked = sym ticked ∙ calm in cc z) in (T.signed (W.faces k).tick k n g.0 g.1).1 a ∙ h.unused a ticked;
      placed = λ a done. let g = h.ticks (λ calm. let z : Decided ≡ Unticked = sym done ∙ calm in cc z) in (T.signed (W.faces k).tick k n g.0 g.1).1 a ∙ h.placed a done;
    }

    base_le : (e : Entry) → base e ≤ e.stamp.at
    base_le e = at e.stamp.update
      where
        at : (u : Bool) → cond u (e.stamp.at - 1) e.stamp.at ≤ e.stamp.at
        at true = omega arith
        at false = omega arith

    pub annals_turn : (H : List Entry) → Annals o op W H → Annals o op W' H
    annals_turn H h = record {
      agree = λ e i a x f. let g = h.agree e i a x f in let l = h.stamps e i in let low : base e ≤ W.clock = omega (arith, base_le e, l) in
          (T.values 0 (base e) a (λ z. absurd (omega arith)) low (λ k n t d. let p = g.1 k n t d in omega (arith, p, base_le e)) ∙ g.0, clear_turns 0 e.stamp.at a l g.1);
      stamps = λ e i. omega (arith, h.stamps e i, T.later);
    }
