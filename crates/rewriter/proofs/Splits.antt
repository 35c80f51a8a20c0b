-- A class's share, split off what is left of a program.
use Rattle.std.proofs.Common.{◌≡◌, ℕ, ◌+◌, ◌<◌, ◌≤◌, Bool, true, false, List, [], ◌∷◌, length, take, cond, get_or, sym, ap, ◌∙◌, arith, length-append}
use Rattle.std.specs.Prelude.{filter}
use Rattle.std.specs.Int.{from_bool}
use Rattle.std.proofs.lemmas.List.Elements.{filter_more}
use Rattle.jmodel.specs.format.ClassFile.{Member}
use Rattle.objects.specs.semantics.Program.{Field, Method}
use Rattle.rewriter.specs.Part.{Share, Rest, is_wrapped, wrapper_count}
use Rattle.rewriter.proofs.Lists.{fewer}

-- no more wrappers than methods
pub wrappers_few : (ks : List Method) → wrapper_count ks ≤ length ks
wrappers_few ks = fewer is_wrapped ks

-- so many get wrappers as one more method is looked at
pub wrappers_more : (ks : List Method) (i n m : ℕ) (k : Method) → i < length ks → k ≡ get_or ks i k → n ≡ wrapper_count (take i ks) → m ≡ from_bool (is_wrapped k) → n + m ≡ wrapper_count (take (i + 1) ks)
wrappers_more ks i n m k inside is so_far one =
    let more = ap (λ (l : List Method). length l) (filter_more is_wrapped ks i k inside) in
    let same : is_wrapped (get_or ks i k) ≡ is_wrapped k = ap is_wrapped (sym is) in
    let parts = length-append (filter is_wrapped (take i ks)) (cond (is_wrapped (get_or ks i k)) (get_or ks i k ∷ []) []) in
    let last = by (is_wrapped (get_or ks i k)) (get_or ks i k) in
    let m_is : m ≡ from_bool (is_wrapped (get_or ks i k)) = one ∙ ap from_bool (sym same) in
    omega (arith, more, parts, last, m_is, so_far)
  where
    by : (b : Bool) (x : Method) → length (cond b (x ∷ []) []) ≡ from_bool b
    by true x = omega arith
    by false x = omega arith

abbrev share : List Member → List Bool → List Field → List Method → ℕ → ℕ → Share
share ms bs fs ks n id = record { members = ms; flags = bs; fields = fs; methods = ks; first = n; wrapper = id }

abbrev rest : List Bool → List Field → List Method → ℕ → ℕ → Rest
rest bs fs ks n id = record { flags = bs; fields = fs; methods = ks; first = n; wrapper = id }

pub same_share : (a b : Share) → a.members ≡ b.members → a.flags ≡ b.flags → a.fields ≡ b.fields → a.methods ≡ b.methods → a.first ≡ b.first → a.wrapper ≡ b.wrapper → a ≡ b
same_share a b m f g k n w =
    ap (λ (x : List Member). share x a.flags a.fields a.methods a.first a.wrapper) m ∙ ap (λ (x : List Bool). share b.members x a.fields a.methods a.first a.wrapper) f
    ∙ ap (λ (x : List Field). share b.members b.flags x a.methods a.first a.wrapper) g ∙ ap (λ (x : List Method). share b.members b.flags b.fields x a.first a.wrapper) k
    ∙ ap (λ (x : ℕ). share b.members b.flags b.fields b.methods x a.wrapper) n ∙ ap (λ (x : ℕ). share b.members b.flags b.fields b.methods b.first x) w

pub same_rest : (a b : Rest) → a.flags ≡ b.flags → a.fields ≡ b.fields → a.methods ≡ b.methods → a.first ≡ b.first → a.wrapper ≡ b.wrapper → a ≡ b
same_rest a b f g k n w =
    ap (λ (x : List Bool). rest x a.fields a.methods a.first a.wrapper) f ∙ ap (λ (x : List Field). rest b.flags x a.methods a.first a.wrapper) g
    ∙ ap (λ (x : List Method). rest b.flags b.fields x a.first a.wrapper) k ∙ ap (λ (x : ℕ). rest b.flags b.fields b.methods x a.wrapper) n ∙ ap (λ (x : ℕ). rest b.flags b.fields b.methods b.first x) w
