-- Duplicates, computed: those of a class are as they stand in the class that rewriting makes of it, whose pool has all that they name.
use Rattle.std.proofs.Common.{◌≡◌, ℕ, [], Option, Some, None, Ok, refl}
use Rattle.std.specs.Prelude.{slice_get}
use Rattle.jmodel.specs.format.ClassFile.{Member}
use Rattle.jmodel.specs.format.PoolAdding.{add_text, new_class, add_class, new_pair, add_pair, new_member}
use Rattle.jmodel.specs.format.Reading.{number_at, run_at, items_at}
use Rattle.jmodel.specs.format.ClassReading.{attributes_at, handlers_at, handler_at, body_at, code_at}
use Rattle.jmodel.specs.format.InstructionReading.{signed_at, target_at, jump_at, local_at, entry_operand_at, signed_operand_at, parts_at, instrs_at, targets_fit, instrs_of}
use Rattle.objects.specs.semantics.Program.{Method}
use Rattle.objects.proofs.ExampleLinking.{program}
use Rattle.objects.proofs.ExampleLinking as original
use Rattle.objects.proofs.ExampleRewritten.{class_a, initialiser_copy, constructor_copy}
use Rattle.member_code.specs.Growing.{Growth}
use Rattle.member_code.specs.Coding.{room_for, typed_name}
use Rattle.dup_methods.specs.Originals.{Original}
use Rattle.dup_methods.specs.Limits.{few_arguments, few_places}
use Rattle.dup_methods.specs.Duplicates.{call_of, refs_of, texts_of, made_duplicate, coded_duplicate, duplicate_of}

abbrev with_both : (Member → Method → Growth Member) → Option Member → Option Method → Option (Growth Member)
with_both f (Some m) (Some k) = Some (f m k)
with_both f m k = None

abbrev original_of : Member → Method → Original
original_of m k = record { program = program; class = original.class_a; member = m; method = k; table = [] }

-- the duplicate of the method with a number, where one more has room
abbrev duplicated : ℕ → Option (Growth Member)
duplicated n = with_both (λ m k. duplicate_of 1 (original_of m k) class_a.pool) (slice_get original.class_a.methods n) (slice_get program.methods n)

initialiser : duplicated 0 ≡ Some (Ok (initialiser_copy, class_a.pool))
unfolding duplicate_of coded_duplicate made_duplicate refs_of texts_of call_of few_arguments few_places room_for typed_name add_text add_class new_class add_pair new_pair new_member number_at run_at items_at attributes_at handlers_at handler_at body_at code_at signed_at target_at jump_at local_at entry_operand_at signed_operand_at parts_at instrs_at targets_fit instrs_of
initialiser = refl

constructor : duplicated 1 ≡ Some (Ok (constructor_copy, class_a.pool))
unfolding duplicate_of coded_duplicate made_duplicate refs_of texts_of call_of few_arguments few_places room_for typed_name add_text add_class new_class add_pair new_pair new_member number_at run_at items_at attributes_at handlers_at handler_at body_at code_at signed_at target_at jump_at local_at entry_operand_at signed_operand_at parts_at instrs_at targets_fit instrs_of
constructor = refl
