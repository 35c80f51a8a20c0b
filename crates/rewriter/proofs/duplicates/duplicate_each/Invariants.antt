use Rattle.std.proofs.Common.{◌≡◌, ◌-◌, List, drop}
use Rattle.std.specs.Prelude.{zip}
use Rattle.std.specs.List.{AllZip}
use Rattle.objects.specs.typing.Typing.{Table}
use Rattle.member_code.specs.Growing.{grow_from}
use Rattle.member_code.proofs.Grow.{with_front}
use Rattle.dup_methods.specs.Duplicates.{duplicate_of}
use Rattle.program_typing.specs.Tables.{IsTableOf}
use Rattle.rewriter.specs.Rewritten.{originals}
use Rattle.rewriter.proofs.duplicates.duplicate_each.Given as goal

-- what was put so far, and what is still put, whichever tables are taken
abbrev pub invariant-loop-i : goal.invariant-loop-i
invariant-loop-i l = (Ts : List Table) → AllZip (IsTableOf l.typed.program.now) l.share.methods Ts
    → with_front l.copies.items (grow_from (λ n O. duplicate_of (l.room - n) O) l.i (drop l.i (originals l.typed.program.now l.class (zip l.share.methods l.share.members) Ts)) l.pool)
    ≡ grow_from (λ n O. duplicate_of (l.room - n) O) 0 (originals l.typed.program.now l.class (zip l.share.methods l.share.members) Ts) l.initial.pool
