-- Descriptors of the reads and writes of a transaction's context, whole.
use Rattle.std.specs.Prelude.{ℕ, List, Option, Some, None, codes, bytes_eq, if◌then◌else◌}
use Rattle.jmodel.specs.format.Pool.{MemberName}
use Rattle.objects.specs.declared.op.WordType.{WordType}
use Rattle.objects.specs.declared.op.ContextCall.{ContextCall}
use Rattle.objects.specs.declared.op.ContextCall.TheVariants as context
use Rattle.objects.specs.linking.Decoding.{read_descriptor, write_descriptor, read_call, write_call, is_called}

unfoldable pub read_text : WordType → List ℕ
read_text t = read_descriptor (codes "J") t

unfoldable pub read_element_text : WordType → List ℕ
read_element_text t = read_descriptor (codes "I") t

unfoldable pub write_text : WordType → List ℕ
write_text t = write_descriptor (codes "J") t

unfoldable pub write_element_text : WordType → List ℕ
write_element_text t = write_descriptor (codes "I") t

-- what a descriptor of onReadAccess says
unfoldable pub read_of : List ℕ → Option ContextCall
read_of d = read_call d

-- what a descriptor of onWriteAccess says
unfoldable pub write_of : List ℕ → Option ContextCall
write_of d = write_call d

-- ---- calls by their order

-- what ends an attempt
abbrev pub ending_call : MemberName → Option ContextCall
ending_call n =
    if is_called (codes "commit") (codes "()Z") n then Some context.Commit
    else if is_called (codes "rollback") (codes "()V") n then Some context.Rollback
    else None

-- what reads or writes, or ends an attempt
abbrev pub accessing_call : MemberName → Option ContextCall
accessing_call n =
    if bytes_eq n.name (codes "onReadAccess") then read_of n.descriptor
    else if bytes_eq n.name (codes "onWriteAccess") then write_of n.descriptor
    else ending_call n

-- what begins an attempt or stands before a read, or one of the others
abbrev pub first_call : MemberName → Option ContextCall
first_call n =
    if is_called (codes "init") (codes "(II)V") n then Some context.Init
    else if is_called (codes "beforeReadAccess") (codes "(Ljava/lang/Object;J)V") n then Some context.BeforeRead
    else if is_called (codes "beforeReadAccess") (codes "(Ljava/lang/Object;I)V") n then Some context.BeforeReadElement
    else accessing_call n
