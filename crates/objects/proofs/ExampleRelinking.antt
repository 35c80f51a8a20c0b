-- The rewritten class and the helper, linked, are what the rewriting makes of the program: method by method.
use Rattle.std.proofs.Common.{◌≡◌, ℕ, List, [], ◌∷◌, Option, refl}
use Rattle.std.specs.Prelude.{Bool, true, false, map}
use Rattle.jmodel.specs.format.ClassFile.{Member, ClassFile}
use Rattle.objects.specs.linking.Classes.{full_name}
use Rattle.jmodel.specs.format.DescriptorReading.{element_rest, type_rest, type_of, types_at, result_of, signature_of, is_field_descriptor}
use Rattle.jmodel.specs.format.Reading.{number_at, run_at, items_at}
use Rattle.jmodel.specs.format.ClassReading.{attributes_at, handlers_at, handler_at, body_at, code_at}
use Rattle.jmodel.specs.format.InstructionReading.{signed_at, target_at, jump_at, local_at, entry_operand_at, signed_operand_at, parts_at, instrs_at, targets_fit, instrs_of}
use Rattle.jmodel.specs.format.Mark.{retries_in, all_annotations}
use Rattle.objects.specs.semantics.Program.{Method, method_at}
use Rattle.objects.specs.rewriting.Rewriting.{rewritten}
use Rattle.objects.specs.rewriting.Relinking.{all_members, rewritten_meaning}
use Rattle.objects.proofs.ExampleLinking.{program}
use Rattle.objects.proofs.ExampleLinking as original
use Rattle.objects.proofs.ExampleRewritten.{class_a, helper}
use Rattle.objects.proofs.ExampleRewritten as members

abbrev classes : List ClassFile
classes = class_a ∷ helper ∷ []

-- what a method of a class means among them
abbrev means : Bool → ClassFile → Member → Option Method
means counted c m = rewritten_meaning program (original.class_a ∷ []) classes counted (record { class = c; member = m })

abbrev made : ℕ → Option Method
made n = method_at (rewritten program []) n

-- the methods have the same numbers
names_are : map full_name (all_members program classes) ≡ map (λ (k : Method). k.name) (rewritten program []).methods
names_are = refl

wrapper_is : means false class_a members.wrapper ≡ made 0
unfolding code_at attributes_at handlers_at handler_at body_at number_at run_at items_at element_rest type_rest type_of types_at result_of signature_of is_field_descriptor signed_at target_at jump_at local_at entry_operand_at signed_operand_at parts_at instrs_at targets_fit instrs_of retries_in all_annotations
wrapper_is = refl

constructor_is : means true class_a members.constructor ≡ made 1
unfolding code_at attributes_at handlers_at handler_at body_at number_at run_at items_at element_rest type_rest type_of types_at result_of signature_of is_field_descriptor signed_at target_at jump_at local_at entry_operand_at signed_operand_at parts_at instrs_at targets_fit instrs_of retries_in all_annotations
constructor_is = refl

s_getter_is : means false class_a members.s_getter ≡ made 2
unfolding code_at attributes_at handlers_at handler_at body_at number_at run_at items_at element_rest type_rest type_of types_at result_of signature_of is_field_descriptor signed_at target_at jump_at local_at entry_operand_at signed_operand_at parts_at instrs_at targets_fit instrs_of retries_in all_annotations
s_getter_is = refl

s_setter_is : means false class_a members.s_setter ≡ made 3
unfolding code_at attributes_at handlers_at handler_at body_at number_at run_at items_at element_rest type_rest type_of types_at result_of signature_of is_field_descriptor signed_at target_at jump_at local_at entry_operand_at signed_operand_at parts_at instrs_at targets_fit instrs_of retries_in all_annotations
s_setter_is = refl

x_getter_is : means false class_a members.x_getter ≡ made 4
unfolding code_at attributes_at handlers_at handler_at body_at number_at run_at items_at element_rest type_rest type_of types_at result_of signature_of is_field_descriptor signed_at target_at jump_at local_at entry_operand_at signed_operand_at parts_at instrs_at targets_fit instrs_of retries_in all_annotations
x_getter_is = refl

x_setter_is : means false class_a members.x_setter ≡ made 5
unfolding code_at attributes_at handlers_at handler_at body_at number_at run_at items_at element_rest type_rest type_of types_at result_of signature_of is_field_descriptor signed_at target_at jump_at local_at entry_operand_at signed_operand_at parts_at instrs_at targets_fit instrs_of retries_in all_annotations
x_setter_is = refl

initialiser_copy_is : means true class_a members.initialiser_copy ≡ made 6
unfolding code_at attributes_at handlers_at handler_at body_at number_at run_at items_at element_rest type_rest type_of types_at result_of signature_of is_field_descriptor signed_at target_at jump_at local_at entry_operand_at signed_operand_at parts_at instrs_at targets_fit instrs_of retries_in all_annotations
initialiser_copy_is = refl

constructor_copy_is : means true class_a members.constructor_copy ≡ made 7
unfolding code_at attributes_at handlers_at handler_at body_at number_at run_at items_at element_rest type_rest type_of types_at result_of signature_of is_field_descriptor signed_at target_at jump_at local_at entry_operand_at signed_operand_at parts_at instrs_at targets_fit instrs_of retries_in all_annotations
constructor_copy_is = refl

b_load_is : means false helper members.b_load ≡ made 8
unfolding code_at attributes_at handlers_at handler_at body_at number_at run_at items_at element_rest type_rest type_of types_at result_of signature_of is_field_descriptor signed_at target_at jump_at local_at entry_operand_at signed_operand_at parts_at instrs_at targets_fit instrs_of retries_in all_annotations
b_load_is = refl

b_store_is : means false helper members.b_store ≡ made 9
unfolding code_at attributes_at handlers_at handler_at body_at number_at run_at items_at element_rest type_rest type_of types_at result_of signature_of is_field_descriptor signed_at target_at jump_at local_at entry_operand_at signed_operand_at parts_at instrs_at targets_fit instrs_of retries_in all_annotations
b_store_is = refl

z_load_is : means false helper members.z_load ≡ made 10
unfolding code_at attributes_at handlers_at handler_at body_at number_at run_at items_at element_rest type_rest type_of types_at result_of signature_of is_field_descriptor signed_at target_at jump_at local_at entry_operand_at signed_operand_at parts_at instrs_at targets_fit instrs_of retries_in all_annotations
z_load_is = refl

z_store_is : means false helper members.z_store ≡ made 11
unfolding code_at attributes_at handlers_at handler_at body_at number_at run_at items_at element_rest type_rest type_of types_at result_of signature_of is_field_descriptor signed_at target_at jump_at local_at entry_operand_at signed_operand_at parts_at instrs_at targets_fit instrs_of retries_in all_annotations
z_store_is = refl

c_load_is : means false helper members.c_load ≡ made 12
unfolding code_at attributes_at handlers_at handler_at body_at number_at run_at items_at element_rest type_rest type_of types_at result_of signature_of is_field_descriptor signed_at target_at jump_at local_at entry_operand_at signed_operand_at parts_at instrs_at targets_fit instrs_of retries_in all_annotations
c_load_is = refl

c_store_is : means false helper members.c_store ≡ made 13
unfolding code_at attributes_at handlers_at handler_at body_at number_at run_at items_at element_rest type_rest type_of types_at result_of signature_of is_field_descriptor signed_at target_at jump_at local_at entry_operand_at signed_operand_at parts_at instrs_at targets_fit instrs_of retries_in all_annotations
c_store_is = refl

s_load_is : means false helper members.s_load ≡ made 14
unfolding code_at attributes_at handlers_at handler_at body_at number_at run_at items_at element_rest type_rest type_of types_at result_of signature_of is_field_descriptor signed_at target_at jump_at local_at entry_operand_at signed_operand_at parts_at instrs_at targets_fit instrs_of retries_in all_annotations
s_load_is = refl

s_store_is : means false helper members.s_store ≡ made 15
unfolding code_at attributes_at handlers_at handler_at body_at number_at run_at items_at element_rest type_rest type_of types_at result_of signature_of is_field_descriptor signed_at target_at jump_at local_at entry_operand_at signed_operand_at parts_at instrs_at targets_fit instrs_of retries_in all_annotations
s_store_is = refl

i_load_is : means false helper members.i_load ≡ made 16
unfolding code_at attributes_at handlers_at handler_at body_at number_at run_at items_at element_rest type_rest type_of types_at result_of signature_of is_field_descriptor signed_at target_at jump_at local_at entry_operand_at signed_operand_at parts_at instrs_at targets_fit instrs_of retries_in all_annotations
i_load_is = refl

i_store_is : means false helper members.i_store ≡ made 17
unfolding code_at attributes_at handlers_at handler_at body_at number_at run_at items_at element_rest type_rest type_of types_at result_of signature_of is_field_descriptor signed_at target_at jump_at local_at entry_operand_at signed_operand_at parts_at instrs_at targets_fit instrs_of retries_in all_annotations
i_store_is = refl

l_load_is : means false helper members.l_load ≡ made 18
unfolding code_at attributes_at handlers_at handler_at body_at number_at run_at items_at element_rest type_rest type_of types_at result_of signature_of is_field_descriptor signed_at target_at jump_at local_at entry_operand_at signed_operand_at parts_at instrs_at targets_fit instrs_of retries_in all_annotations
l_load_is = refl

l_store_is : means false helper members.l_store ≡ made 19
unfolding code_at attributes_at handlers_at handler_at body_at number_at run_at items_at element_rest type_rest type_of types_at result_of signature_of is_field_descriptor signed_at target_at jump_at local_at entry_operand_at signed_operand_at parts_at instrs_at targets_fit instrs_of retries_in all_annotations
l_store_is = refl

a_load_is : means false helper members.a_load ≡ made 20
unfolding code_at attributes_at handlers_at handler_at body_at number_at run_at items_at element_rest type_rest type_of types_at result_of signature_of is_field_descriptor signed_at target_at jump_at local_at entry_operand_at signed_operand_at parts_at instrs_at targets_fit instrs_of retries_in all_annotations
a_load_is = refl

a_store_is : means false helper members.a_store ≡ made 21
unfolding code_at attributes_at handlers_at handler_at body_at number_at run_at items_at element_rest type_rest type_of types_at result_of signature_of is_field_descriptor signed_at target_at jump_at local_at entry_operand_at signed_operand_at parts_at instrs_at targets_fit instrs_of retries_in all_annotations
a_store_is = refl
