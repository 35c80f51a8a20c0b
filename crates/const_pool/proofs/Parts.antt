-- Attributes and Code: what is read is spelled so, and what is spelled so is read.
use Rattle.std.proofs.Common.{◌≡◌, ℕ, ◌+◌, ◌^◌, ◌<◌, ◌≤◌, Bool, true, false, cond, eqb, ltb, leb, ◌&&◌, ◌||◌, List, [], ◌++◌, length, Option, Some, None, Result, Ok, Err, refl, sym, ap, subst, ◌∙◌, append_assoc, arith, inl, inr, ◌⊎◌}
use Rattle.std.specs.Prelude.{is_some, IsSome, IsNone}
use Rattle.std.specs.Result.{result_ok}
use Rattle.jmodel.specs.declared.refusal.NoMemory.{NoMemory}
use Rattle.std.specs.Int.{w16, w32}
use Rattle.std.specs.List.{flat_map}
use Rattle.std.proofs.lemmas.Bool.{eqb-true, eqb-false, ltb-true, ltb-false, leb-true, lt-ltb, le-ltb, le-leb, eq-eqb, ne_eqb}
use Rattle.std.proofs.lemmas.List.{append-nil, drop_all}
use Rattle.jmodel.specs.declared.class_file.Handler.{Handler}
use Rattle.jmodel.specs.declared.refusal.Refusal.{Refusal}
use Rattle.jmodel.specs.declared.refusal.Refusal.TheVariants.{BadCode}
use Rattle.jmodel.specs.format.ClassFile.{Pool, Attribute, Code, u2, u4, attribute, attributes, handler, code_spelling}
use Rattle.jmodel.specs.format.Pool.{utf8, class_name}
use Rattle.jmodel.specs.format.ClassRules.{IsAttribute, AreAttributes, IsHandler, IsCode, SpellsCode}
use Rattle.jmodel.specs.format.Reading.{◌>>=◌, run_at, u2_at, u4_at}
use Rattle.jmodel.specs.format.PoolReading.{utf8_at}
use Rattle.jmodel.specs.format.ClassReading.{attribute_at, attributes_at, handler_fits, handler_at, handlers_at, body_at, code_at, code_of, AnswersCode, AnswersCodeAs}
use Rattle.const_pool.proofs.Takes.{bind_ok, ok_is, guard_ok, want_ok, IsBytes, Takes, Takes-then, Takes-first, Takes-second, run_takes, run_again, wide16, wide32, number_takes, number_again, counted_take, counted_again}
use Rattle.const_pool.proofs.Entries.{either, both_true}
use Rattle.const_pool.proofs.Uses.{text_read}
use Rattle.const_pool.proofs.Named.{some_is, the_some, utf8_again}

-- the same text, in other brackets
pub regrouped : (bytes : List ℕ) (at next : ℕ) (x y : List ℕ) → x ≡ y → Takes bytes at x next → Takes bytes at y next
regrouped bytes at next x y e t = subst (λ (z : List ℕ). Takes bytes at z next) e t

-- all of the bytes
pub Takes-all : (bytes text : List ℕ) → bytes ≡ text → Takes bytes 0 text (length bytes)
Takes-all bytes text e = record { parts = e ∙ sym (append-nil text) ∙ ap (λ (r : List ℕ). text ++ r) (sym (drop_all (length bytes) bytes (omega arith))); moved = ap length e ∙ omega arith; inside = omega arith }

pub all-Takes : (bytes text : List ℕ) → Takes bytes 0 text (length bytes) → bytes ≡ text
all-Takes bytes text t = t.parts ∙ ap (λ (r : List ℕ). text ++ r) (drop_all (length bytes) bytes (omega arith)) ∙ append-nil text

module _ (pool : Pool) (bytes : List ℕ) where
  pub attribute_takes : IsBytes bytes → (at : ℕ) (a : Attribute) (next : ℕ) → attribute_at pool bytes at ≡ Ok (a, next) → Takes bytes at (attribute a) next × IsAttribute pool a
  unfolding attribute_at
  attribute_takes fits at x next e =
      let a = bind_ok (u2_at bytes at) (λ name. utf8_at pool name.0 >>= λ _. u4_at bytes name.1 >>= λ len. run_at bytes len.1 len.0 >>= λ run. Ok (record { name = name.0; bytes = run.0 }, run.1)) (x, next) e in
      let b = bind_ok (utf8_at pool a.0.0) (λ _. u4_at bytes a.0.1 >>= λ len. run_at bytes len.1 len.0 >>= λ run. Ok (record { name = a.0.0; bytes = run.0 }, run.1)) (x, next) a.2 in
      let c = bind_ok (u4_at bytes a.0.1) (λ len. run_at bytes len.1 len.0 >>= λ run. Ok (record { name = a.0.0; bytes = run.0 }, run.1)) (x, next) b.2 in
      let d = bind_ok (run_at bytes c.0.1 c.0.0) (λ run. Ok (record { name = a.0.0; bytes = run.0 }, run.1)) (x, next) c.2 in
      let t0 = number_takes w16 (2 ^ 16) wide16 bytes at a.0 fits a.1 in
      let t1 = number_takes w32 (2 ^ 32) wide32 bytes a.0.1 c.0 fits c.1 in
      let t2 = run_takes bytes c.0.1 c.0.0 d.0 d.1 in
      let len : Takes bytes a.0.1 (u4 (length d.0.0)) c.0.1 = subst (λ (k : ℕ). Takes bytes a.0.1 (u4 k) c.0.1) (sym t2.1) t1.0 in
      let both = Takes-then bytes at (u2 a.0.0) a.0.1 (u4 (length d.0.0)) c.0.1 t0.0 len in
      let all = Takes-then bytes at (u2 a.0.0 ++ u4 (length d.0.0)) c.0.1 d.0.0 d.0.1 both t2.0 in
      let made : Attribute × ℕ = (record { name = a.0.0; bytes = d.0.0 }, d.0.1) in
      subst (λ (y : Attribute × ℕ). Takes bytes at (attribute y.0) y.1 × IsAttribute pool y.0) (ok_is made (x, next) d.2) (all, record { name = t0.1; named = some_is (utf8 pool a.0.0) b.0 (text_read pool a.0.0 b.0 b.1); short = omega (arith, t2.1, t1.1) })

  pub attribute_again : (at : ℕ) (a : Attribute) (next : ℕ) → IsAttribute pool a → Takes bytes at (attribute a) next → attribute_at pool bytes at ≡ Ok (a, next)
  unfolding attribute_at
  attribute_again at a next h t =
      let front = Takes-first bytes at (u2 a.name ++ u4 (length a.bytes)) a.bytes next t in
      let run = Takes-second bytes at (u2 a.name ++ u4 (length a.bytes)) a.bytes next t in
      let name = number_again w16 (2 ^ 16) wide16 bytes at a.name (at + 2) h.name (Takes-first bytes at (u2 a.name) (u4 (length a.bytes)) (at + 6) front) in
      let len = number_again w32 (2 ^ 32) wide32 bytes (at + 2) (length a.bytes) (at + 6) h.short (Takes-second bytes at (u2 a.name) (u4 (length a.bytes)) (at + 6) front) in
      let s = the_some (utf8 pool a.name) h.named in
      rw (name, utf8_again pool a.name s.0 s.1, len, run_again bytes (at + 6) (length a.bytes) a.bytes next refl run) refl

  pub attributes_take : IsBytes bytes → (at : ℕ) (x : List Attribute × ℕ) → attributes_at pool bytes at ≡ Ok x → Takes bytes at (attributes x.0) x.1 × AreAttributes pool x.0
  unfolding attributes_at
  attributes_take fits at x e =
      let t = counted_take bytes (attribute_at pool bytes) attribute (IsAttribute pool) fits (λ at a next e. attribute_takes fits at a next e) at x e in
      (t.0, record { few = t.1; each = t.2 })

  pub attributes_again : (xs : List Attribute) (at next : ℕ) → AreAttributes pool xs → Takes bytes at (attributes xs) next → attributes_at pool bytes at ≡ Ok (xs, next)
  unfolding attributes_at
  attributes_again xs at next h t = counted_again bytes (attribute_at pool bytes) attribute (IsAttribute pool) (λ at a next h t. attribute_again at a next h t) xs at next h.few h.each t

  -- ---- exception tables

  fits_rules : (len : ℕ) (h : Handler) → handler_fits pool len h ≡ true → h.catch_type < 2 ^ 16 → IsHandler pool len h
  fits_rules len h e c =
      let a = both_true ((ltb h.start h.end && leb h.end len) && ltb h.handler len) (eqb h.catch_type 0 || is_some (class_name pool h.catch_type)) e in
      let b = both_true (ltb h.start h.end && leb h.end len) (ltb h.handler len) a.0 in
      let d = both_true (ltb h.start h.end) (leb h.end len) b.0 in
      record { some = ltb-true _ _ d.0; inside = leb-true _ _ d.1; target = ltb-true _ _ b.1; catches = elim (either (eqb h.catch_type 0) (is_some (class_name pool h.catch_type)) a.1) [ inl p ↦ inl (eqb-true _ _ p) | inr p ↦ inr p ]; class = c }

  catches_yes : (h : Handler) → (h.catch_type ≡ 0) ⊎ IsSome (class_name pool h.catch_type) → (eqb h.catch_type 0 || is_some (class_name pool h.catch_type)) ≡ true
  catches_yes h (inl e) = rw (eq-eqb h.catch_type 0 e) refl
  catches_yes h (inr e) = by_zero (eqb h.catch_type 0) where
    by_zero : (b : Bool) → (b || is_some (class_name pool h.catch_type)) ≡ true
    by_zero true = refl
    by_zero false = e

  rules_fit : (len : ℕ) (h : Handler) → IsHandler pool len h → handler_fits pool len h ≡ true
  rules_fit len h r = rw (lt-ltb _ _ r.some, le-leb _ _ r.inside, lt-ltb _ _ r.target, catches_yes h r.catches) refl

  handler_takes : (len : ℕ) → IsBytes bytes → (at : ℕ) (h : Handler) (next : ℕ) → handler_at pool len bytes at ≡ Ok (h, next) → Takes bytes at (handler h) next × IsHandler pool len h
  unfolding handler_at
  handler_takes len fits at h next e =
      let a = bind_ok (u2_at bytes at) (λ start. u2_at bytes start.1 >>= λ end. u2_at bytes end.1 >>= λ target. u2_at bytes target.1 >>= λ kind. last start end target kind) (h, next) e in
      let b = bind_ok (u2_at bytes a.0.1) (λ end. u2_at bytes end.1 >>= λ target. u2_at bytes target.1 >>= λ kind. last a.0 end target kind) (h, next) a.2 in
      let c = bind_ok (u2_at bytes b.0.1) (λ target. u2_at bytes target.1 >>= λ kind. last a.0 b.0 target kind) (h, next) b.2 in
      let d = bind_ok (u2_at bytes c.0.1) (λ kind. last a.0 b.0 c.0 kind) (h, next) c.2 in
      let t0 = number_takes w16 (2 ^ 16) wide16 bytes at a.0 fits a.1 in
      let t1 = number_takes w16 (2 ^ 16) wide16 bytes a.0.1 b.0 fits b.1 in
      let t2 = number_takes w16 (2 ^ 16) wide16 bytes b.0.1 c.0 fits c.1 in
      let t3 = number_takes w16 (2 ^ 16) wide16 bytes c.0.1 d.0 fits d.1 in
      let e1 = Takes-then bytes at (u2 a.0.0) a.0.1 (u2 b.0.0) b.0.1 t0.0 t1.0 in
      let e2 = Takes-then bytes at (u2 a.0.0 ++ u2 b.0.0) b.0.1 (u2 c.0.0) c.0.1 e1 t2.0 in
      let e3 = Takes-then bytes at (u2 a.0.0 ++ u2 b.0.0 ++ u2 c.0.0) c.0.1 (u2 d.0.0) d.0.1 e2 t3.0 in
      let made : Handler = record { start = a.0.0; end = b.0.0; handler = c.0.0; catch_type = d.0.0 } in
      let w = want_ok (handler_fits pool len made) (BadCode []) (Ok (made, d.0.1)) (h, next) d.2 in
      subst (λ (y : Handler × ℕ). Takes bytes at (handler y.0) y.1 × IsHandler pool len y.0) (ok_is (made, d.0.1) (h, next) w.1) (e3, fits_rules len made w.0 t3.1) where
        last : ℕ × ℕ → ℕ × ℕ → ℕ × ℕ → ℕ × ℕ → Result (Handler × ℕ) Refusal
        last start end target kind = let h : Handler = record { start = start.0; end = end.0; handler = target.0; catch_type = kind.0 } in cond (handler_fits pool len h) (Ok (h, kind.1)) (Err (BadCode []))

  handler_again : (len : ℕ) → len ≤ 65535 → (at : ℕ) (h : Handler) (next : ℕ) → IsHandler pool len h → Takes bytes at (handler h) next → handler_at pool len bytes at ≡ Ok (h, next)
  unfolding handler_at
  handler_again len short at h next r t =
      let f3 = Takes-first bytes at (u2 h.start ++ u2 h.end ++ u2 h.handler) (u2 h.catch_type) next t in
      let f2 = Takes-first bytes at (u2 h.start ++ u2 h.end) (u2 h.handler) (at + 6) f3 in
      let start = number_again w16 (2 ^ 16) wide16 bytes at h.start (at + 2) (omega (arith, r.some, r.inside)) (Takes-first bytes at (u2 h.start) (u2 h.end) (at + 4) f2) in
      let end = number_again w16 (2 ^ 16) wide16 bytes (at + 2) h.end (at + 4) (omega (arith, r.inside)) (Takes-second bytes at (u2 h.start) (u2 h.end) (at + 4) f2) in
      let target = number_again w16 (2 ^ 16) wide16 bytes (at + 4) h.handler (at + 6) (omega (arith, r.target)) (Takes-second bytes at (u2 h.start ++ u2 h.end) (u2 h.handler) (at + 6) f3) in
      let kind = number_again w16 (2 ^ 16) wide16 bytes (at + 6) h.catch_type next r.class (Takes-second bytes at (u2 h.start ++ u2 h.end ++ u2 h.handler) (u2 h.catch_type) next t) in
      rw (start, end, target, kind, rules_fit len h r) refl

  -- ---- Code

  body_takes : IsBytes bytes → (at : ℕ) (x : List ℕ × ℕ) → body_at bytes at ≡ Ok x → Takes bytes at (u4 (length x.0) ++ x.0) x.1 × (0 < length x.0) × (length x.0 ≤ 65535)
  unfolding body_at
  body_takes fits at x e =
      let a = bind_ok (u4_at bytes at) (λ len. cond (eqb len.0 0 || ltb 65535 len.0) (Err (BadCode [])) (run_at bytes len.1 len.0)) x e in
      let g = guard_ok (eqb a.0.0 0 || ltb 65535 a.0.0) (BadCode []) (run_at bytes a.0.1 a.0.0) x a.2 in
      let t = number_takes w32 (2 ^ 32) wide32 bytes at a.0 fits a.1 in
      let r = run_takes bytes a.0.1 a.0.0 x g.1 in
      let n = neither (eqb a.0.0 0) (ltb 65535 a.0.0) g.0 in
      let len : Takes bytes at (u4 (length x.0)) a.0.1 = subst (λ (k : ℕ). Takes bytes at (u4 k) a.0.1) (sym r.1) t.0 in
      (Takes-then bytes at (u4 (length x.0)) a.0.1 x.0 x.1 len r.0, omega (arith, eqb-false _ _ n.0, r.1), omega (arith, ltb-false _ _ n.1, r.1)) where
        neither : (p q : Bool) → (p || q) ≡ false → (p ≡ false) × (q ≡ false)
        neither true q h = absurd cc
        neither false q h = (refl, h)

  body_again : (at : ℕ) (text : List ℕ) (next : ℕ) → 0 < length text → length text ≤ 65535 → Takes bytes at (u4 (length text) ++ text) next → body_at bytes at ≡ Ok (text, next)
  unfolding body_at
  body_again at text next some short t =
      let len = number_again w32 (2 ^ 32) wide32 bytes at (length text) (at + 4) (omega arith) (Takes-first bytes at (u4 (length text)) text next t) in
      let run = run_again bytes (at + 4) (length text) text next refl (Takes-second bytes at (u4 (length text)) text next t) in
      let there : eqb (length text) 0 ≡ false = ne_eqb _ _ (λ e. omega arith) in
      rw (len, there, le-ltb 65535 (length text) short, run) refl

  pub code_takes : IsBytes bytes → (k : Code) → code_at pool bytes ≡ Ok k → SpellsCode pool bytes k
  unfolding code_at handlers_at
  code_takes fits k e =
      let a = bind_ok (u2_at bytes 0) (λ stack. u2_at bytes stack.1 >>= λ locals. body_at bytes locals.1 >>= λ body. handlers_at pool (length body.0) bytes body.1 >>= λ hs. attributes_at pool bytes hs.1 >>= λ xs. whole stack.0 locals.0 body.0 hs.0 xs) k e in
      let b = bind_ok (u2_at bytes a.0.1) (λ locals. body_at bytes locals.1 >>= λ body. handlers_at pool (length body.0) bytes body.1 >>= λ hs. attributes_at pool bytes hs.1 >>= λ xs. whole a.0.0 locals.0 body.0 hs.0 xs) k a.2 in
      let c = bind_ok (body_at bytes b.0.1) (λ body. handlers_at pool (length body.0) bytes body.1 >>= λ hs. attributes_at pool bytes hs.1 >>= λ xs. whole a.0.0 b.0.0 body.0 hs.0 xs) k b.2 in
      let d = bind_ok (handlers_at pool (length c.0.0) bytes c.0.1) (λ hs. attributes_at pool bytes hs.1 >>= λ xs. whole a.0.0 b.0.0 c.0.0 hs.0 xs) k c.2 in
      let f = bind_ok (attributes_at pool bytes d.0.1) (λ xs. whole a.0.0 b.0.0 c.0.0 d.0.0 xs) k d.2 in
      let made : Code = record { max_stack = a.0.0; max_locals = b.0.0; code = c.0.0; handlers = d.0.0; attributes = f.0.0 } in
      let w = want_ok (eqb f.0.1 (length bytes)) (BadCode []) (Ok made) k f.2 in
      let t0 = number_takes w16 (2 ^ 16) wide16 bytes 0 a.0 fits a.1 in
      let t1 = number_takes w16 (2 ^ 16) wide16 bytes a.0.1 b.0 fits b.1 in
      let t2 = body_takes fits b.0.1 c.0 c.1 in
      let t3 = counted_take bytes (handler_at pool (length c.0.0) bytes) handler (IsHandler pool (length c.0.0)) fits (λ at h next e. handler_takes (length c.0.0) fits at h next e) c.0.1 d.0 d.1 in
      let t4 = attributes_take fits d.0.1 f.0 f.1 in
      let hs : List ℕ = u2 (length d.0.0) ++ flat_map handler d.0.0 in
      let e1 = Takes-then bytes 0 (u2 a.0.0) a.0.1 (u2 b.0.0) b.0.1 t0.0 t1.0 in
      let e2 = Takes-then bytes 0 (u2 a.0.0 ++ u2 b.0.0) b.0.1 (u4 (length c.0.0) ++ c.0.0) c.0.1 e1 t2.0 in
      let e3 = Takes-then bytes 0 (u2 a.0.0 ++ u2 b.0.0 ++ (u4 (length c.0.0) ++ c.0.0)) c.0.1 hs d.0.1 e2 t3.0 in
      let e4 = Takes-then bytes 0 (u2 a.0.0 ++ u2 b.0.0 ++ (u4 (length c.0.0) ++ c.0.0) ++ hs) d.0.1 (attributes f.0.0) f.0.1 e3 t4.0 in
      let brackets : u2 a.0.0 ++ u2 b.0.0 ++ (u4 (length c.0.0) ++ c.0.0) ++ hs ++ attributes f.0.0 ≡ code_spelling made = simp append_assoc in
      let all = subst (λ (n : ℕ). Takes bytes 0 (code_spelling made) n) (eqb-true f.0.1 (length bytes) w.0) (regrouped bytes 0 f.0.1 (u2 a.0.0 ++ u2 b.0.0 ++ (u4 (length c.0.0) ++ c.0.0) ++ hs ++ attributes f.0.0) (code_spelling made) brackets e4) in
      let rules : IsCode pool made = record { stack = t0.1; locals = t1.1; some = t2.1; short = t2.2; few = t3.1; handlers = t3.2; attributes = t4.1 } in
      subst (SpellsCode pool bytes) (ok_is made k w.1) (record { code = rules; is = all-Takes bytes (code_spelling made) all }) where
        whole : ℕ → ℕ → List ℕ → List Handler → List Attribute × ℕ → Result Code Refusal
        whole stack locals body hs xs = cond (eqb xs.1 (length bytes)) (Ok (record { max_stack = stack; max_locals = locals; code = body; handlers = hs; attributes = xs.0 })) (Err (BadCode []))

  pub code_again : (k : Code) → SpellsCode pool bytes k → code_at pool bytes ≡ Ok k
  unfolding code_at handlers_at
  code_again k h =
      let hs : List ℕ = u2 (length k.handlers) ++ flat_map handler k.handlers in
      let body : List ℕ = u4 (length k.code) ++ k.code in
      let brackets : code_spelling k ≡ u2 k.max_stack ++ (u2 k.max_locals ++ (body ++ (hs ++ attributes k.attributes))) = simp append_assoc in
      let all = regrouped bytes 0 (length bytes) (code_spelling k) (u2 k.max_stack ++ (u2 k.max_locals ++ (body ++ (hs ++ attributes k.attributes)))) brackets (Takes-all bytes (code_spelling k) h.is) in
      let r0 = Takes-second bytes 0 (u2 k.max_stack) (u2 k.max_locals ++ (body ++ (hs ++ attributes k.attributes))) (length bytes) all in
      let r1 = Takes-second bytes 2 (u2 k.max_locals) (body ++ (hs ++ attributes k.attributes)) (length bytes) r0 in
      let r2 = Takes-second bytes 4 body (hs ++ attributes k.attributes) (length bytes) r1 in
      let r3 = Takes-second bytes (4 + length body) hs (attributes k.attributes) (length bytes) r2 in
      let stack = number_again w16 (2 ^ 16) wide16 bytes 0 k.max_stack 2 h.code.stack (Takes-first bytes 0 (u2 k.max_stack) (u2 k.max_locals ++ (body ++ (hs ++ attributes k.attributes))) (length bytes) all) in
      let locals = number_again w16 (2 ^ 16) wide16 bytes 2 k.max_locals 4 h.code.locals (Takes-first bytes 2 (u2 k.max_locals) (body ++ (hs ++ attributes k.attributes)) (length bytes) r0) in
      let code = body_again 4 k.code (4 + length body) h.code.some h.code.short (Takes-first bytes 4 body (hs ++ attributes k.attributes) (length bytes) r1) in
      let table = counted_again bytes (handler_at pool (length k.code) bytes) handler (IsHandler pool (length k.code)) (λ at x next r t. handler_again (length k.code) h.code.short at x next r t) k.handlers (4 + length body) (4 + length body + length hs) h.code.few h.code.handlers (Takes-first bytes (4 + length body) hs (attributes k.attributes) (length bytes) r2) in
      let rest = attributes_again k.attributes (4 + length body + length hs) (length bytes) h.code.attributes r3 in
      let end : eqb (length bytes) (length bytes) ≡ true = eq-eqb _ _ refl in
      rw (stack, locals, code, table, rest, end) refl

-- ---- answers

pub code_is_found : (pool : Pool) (bytes : List ℕ) (r : Option (Result Code NoMemory)) → IsBytes bytes → AnswersCode r (code_of pool bytes) → AnswersCodeAs r (λ k. SpellsCode pool bytes k)
code_is_found pool bytes None fits a = tt
code_is_found pool bytes (Some (Err e)) fits a = tt
code_is_found pool bytes (Some (Ok k)) fits a = by_read (code_at pool bytes) refl a where
  by_read : (r : Result Code Refusal) → code_at pool bytes ≡ r → result_ok r ≡ Some k → SpellsCode pool bytes k
  by_read (Ok j) p h = let is : j ≡ k = cc in subst (SpellsCode pool bytes) is (code_takes pool bytes fits j p)
  by_read (Err d) p h = absurd cc

pub code_is_read : (pool : Pool) (bytes : List ℕ) (k : Code) → SpellsCode pool bytes k → code_of pool bytes ≡ Some k
code_is_read pool bytes k h = ap result_ok (code_again pool bytes k h)

pub code_is_none : (pool : Pool) (bytes : List ℕ) (r : Option (Result Code NoMemory)) → AnswersCode r (code_of pool bytes) → IsNone r → (k : Code) → SpellsCode pool bytes k → ⊥
code_is_none pool bytes None a n k h = let yes = code_is_read pool bytes k h in let no : code_of pool bytes ≡ None = a in absurd cc
code_is_none pool bytes (Some x) a n k h = absurd cc
