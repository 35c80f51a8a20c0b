-- Reading without the data: the place after each part, and what the first mark grants.
use Rattle.std.specs.Prelude.{ℕ, zero, suc, ℤ, pos, List, [], ◌∷◌, length, Option, Some, None, Result, Ok, Err, ◌&&◌, ◌==◌, if◌then◌else◌, is_none, unwrap_or, codes}
use Rattle.jmodel.specs.format.ClassFile.{Pool, Attribute}
use Rattle.jmodel.specs.format.ClassRules.{is_named}
use Rattle.jmodel.specs.format.AnnotationRules.{is_single, is_text, integer}
use Rattle.jmodel.specs.format.AnnotationReading.{◌>>=◌, u1_at, u2_at, text_at}

-- as many steps as are counted
unfoldable pub steps : {S : Type 0} → (S → Result S ℕ) → ℕ → S → Result S ℕ
steps step zero s = Ok s
steps step (suc n) s = step s >>= steps step n

unfoldable pub pair_end : Pool → (ℕ → Result ℕ ℕ) → List ℕ → ℕ → Result ℕ ℕ
pair_end pool value bytes at = text_at pool bytes at >>= λ name. value name.1

unfoldable pub pairs_end : Pool → (ℕ → Result ℕ ℕ) → List ℕ → ℕ → Result ℕ ℕ
pairs_end pool value bytes at = u2_at bytes at >>= λ count. steps (pair_end pool value bytes) count.0 count.1

unfoldable pub annotation_end : Pool → (ℕ → Result ℕ ℕ) → List ℕ → ℕ → Result ℕ ℕ
annotation_end pool value bytes at = text_at pool bytes at >>= λ class. pairs_end pool value bytes class.1

unfoldable pub values_end : (ℕ → Result ℕ ℕ) → List ℕ → ℕ → Result ℕ ℕ
values_end part bytes at = u2_at bytes at >>= λ count. steps part count.0 count.1

unfoldable pub single_end : List ℕ → ℕ → Result ℕ ℕ
single_end bytes at = u2_at bytes at >>= λ index. Ok index.1

unfoldable pub enum_end : List ℕ → ℕ → Result ℕ ℕ
enum_end bytes at = u2_at bytes at >>= λ class. u2_at bytes class.1 >>= λ name. Ok name.1

unfoldable pub tagged_end : Pool → (ℕ → Result ℕ ℕ) → List ℕ → ℕ → ℕ → ℕ → Result ℕ ℕ
tagged_end pool part bytes start tag at =
    if is_single tag then single_end bytes at
    else if tag == 101 then enum_end bytes at
    else if tag == 64 then annotation_end pool part bytes at
    else if tag == 91 then values_end part bytes at
    else Err start

unfoldable pub shape_end : Pool → (ℕ → Result ℕ ℕ) → List ℕ → ℕ → Result ℕ ℕ
shape_end pool part bytes at = u1_at bytes at >>= λ tag. tagged_end pool part bytes at tag.0 tag.1

unfoldable pub value_end : ℕ → Pool → List ℕ → ℕ → Result ℕ ℕ
value_end zero pool bytes at = Err at
value_end (suc n) pool bytes at = shape_end pool (value_end n pool bytes) bytes at

-- ---- the mark

abbrev pub integer_or : ℕ → Option ℤ → ℕ → Result (ℤ × ℕ) ℕ
integer_or start None next = Err start
integer_or start (Some n) next = Ok (n, next)

unfoldable pub int_end : Pool → List ℕ → ℕ → Result (ℤ × ℕ) ℕ
int_end pool bytes at = u1_at bytes at >>= λ tag. if tag.0 == 73 then (u2_at bytes tag.1 >>= λ index. integer_or tag.1 (integer pool index.0) index.1) else Err at

-- a number that was found
abbrev pub now_found : ℤ × ℕ → Result (Option ℤ × ℕ) ℕ
now_found n = Ok (Some n.0, n.1)

-- the next pair of the mark, with the number of the first that is named retries
unfoldable pub mark_pair_end : Pool → (ℕ → Result ℕ ℕ) → List ℕ → Option ℤ × ℕ → Result (Option ℤ × ℕ) ℕ
mark_pair_end pool value bytes s = text_at pool bytes s.1 >>= λ name. if is_none s.0 && is_text pool (codes "retries") name.0
    then (int_end pool bytes name.1 >>= now_found)
    else (value name.1 >>= λ next. Ok (s.0, next))

unfoldable pub mark_pairs_end : Pool → (ℕ → Result ℕ ℕ) → List ℕ → ℕ → Result (Option ℤ × ℕ) ℕ
mark_pairs_end pool value bytes at = u2_at bytes at >>= λ count. steps (mark_pair_end pool value bytes) count.0 (None, count.1)

-- the pairs of the mark: what it grants
unfoldable pub mark_end : Pool → (ℕ → Result ℕ ℕ) → List ℕ → ℕ → Result (ℤ × ℕ) ℕ
mark_end pool value bytes at = mark_pairs_end pool value bytes at >>= λ s. Ok (unwrap_or s.0 (pos 2147483647), s.1)

-- the next annotation at the top, with what the first mark grants
unfoldable pub top_end : Pool → (ℕ → Result ℕ ℕ) → List ℕ → Option ℤ × ℕ → Result (Option ℤ × ℕ) ℕ
top_end pool value bytes s = text_at pool bytes s.1 >>= λ class. if is_none s.0 && is_text pool (codes "Lorg/deuce/Atomic;") class.0
    then (mark_end pool value bytes class.1 >>= now_found)
    else (pairs_end pool value bytes class.1 >>= λ next. Ok (s.0, next))

unfoldable pub tops_end : Pool → (ℕ → Result ℕ ℕ) → List ℕ → Option ℤ → Result (Option ℤ × ℕ) ℕ
tops_end pool value bytes found = u2_at bytes 0 >>= λ count. steps (top_end pool value bytes) count.0 (found, count.1)

-- what the first mark grants, over that found before
unfoldable pub attribute_end : Pool → (ℕ → Result ℕ ℕ) → List ℕ → Option ℤ → Result (Option ℤ) ℕ
attribute_end pool value bytes found = tops_end pool value bytes found >>= λ s. if s.1 == length bytes then Ok s.0 else Err s.1

-- an attribute that counts where it has this name
abbrev pub next_end : Pool → (List ℕ → ℕ → Result ℕ ℕ) → List ℕ → Attribute → Option ℤ → Result (Option ℤ) ℕ
next_end pool value name x found = if is_named pool name x then attribute_end pool (value x.bytes) x.bytes found else Ok found

-- one attribute after another
unfoldable pub attributes_end : Pool → (List ℕ → ℕ → Result ℕ ℕ) → List Attribute → Option ℤ → Result (Option ℤ) ℕ
attributes_end pool value [] found = Ok found
attributes_end pool value (x ∷ xs) found = attribute_end pool (value x.bytes) x.bytes found >>= attributes_end pool value xs
