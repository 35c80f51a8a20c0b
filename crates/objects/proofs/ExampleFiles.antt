-- What class files mean, from their bytes to their answers, computed.
use Rattle.std.proofs.Common.{◌≡◌, ℕ, List, [], ◌∷◌, Option, Some, None, Result, Ok, Err, refl}
use Rattle.std.specs.Prelude.{pos, negsuc, codes}
use Rattle.jmodel.specs.declared.refusal.Refusal.{Refusal}
use Rattle.jmodel.specs.declared.value.Value.{Value}
use Rattle.jmodel.specs.declared.value.Value.TheVariants.{Int, Long}
use Rattle.jmodel.specs.declared.value.Answer.{Answer}
use Rattle.jmodel.specs.declared.value.Answer.TheVariants.{Returned, Threw, Heap}
use Rattle.jmodel.specs.format.ClassFile.{ClassFile}
use Rattle.jmodel.specs.format.AnnotationReading.{run_at as annotation_run_at, u1_at, u2_at, text_at as annotation_text_at, items_at as annotation_items_at, counted_at, items_until, counted_until, pair_at as annotation_pair_at, annotation_at, mark_pair_at, top_annotation_at, annotations_of}
use Rattle.jmodel.specs.format.ClassFileReading.{magic_at, version_at, class_index_at, this_at, interfaces_at, head_at, descriptor_fits, member_head_at, field_at, method_attribute_at, method_attributes_at, method_at, members_at, parts_at as file_parts_at, distinct, distinct_members, class_file_of}
use Rattle.jmodel.specs.format.ClassReading.{attribute_at, attributes_at, handler_at, handlers_at, body_at, code_at}
use Rattle.jmodel.specs.format.DescriptorReading.{element_rest, type_rest, is_field_descriptor, type_of, types_at, result_of, signature_of}
use Rattle.jmodel.specs.format.InstructionReading.{signed_at, target_at, signed_operand_at, array_type_at, local_at, increment_at, entry_operand_at, interface_at, dimensions_at, jump_at, wide_at as instr_wide_at, parts_at as instr_parts_at, instrs_at, targets_fit, instrs_of}
use Rattle.jmodel.specs.format.Mark.{all_annotations, retries_in}
use Rattle.jmodel.specs.format.PoolReading.{text_at as pool_text_at, word_at, wide_at as pool_wide_at, index_at, pair_at as pool_pair_at, tagged_at, constant_at, scan_at, entries_at, utf8_at, class_at, name_and_type_at, member_fits, name_fits, pair_fits, text_fits, all_fit, pool_at}
use Rattle.jmodel.specs.format.Reading.{run_at, number_at, items_at}
use Rattle.objects.specs.semantics.Program.{Program}
use Rattle.objects.specs.semantics.Call.{Direct, Ended, direct, call_start}
use Rattle.objects.specs.linking.Layout.{opening_state}
use Rattle.objects.specs.linking.Linking.{linking}

abbrev read : List (List ℕ) → Result (List ClassFile) Refusal
read [] = Ok []
read (b ∷ bs) = with_first (class_file_of b) (read bs)
  where
    with_first : Result ClassFile Refusal → Result (List ClassFile) Refusal → Result (List ClassFile) Refusal
    with_first (Ok c) (Ok cs) = Ok (c ∷ cs)
    with_first (Err r) cs = Err r
    with_first c (Err r) = Err r

abbrev answered : Direct → Option Answer
answered (Ended x σ) = Some x
answered d = None

abbrev called : ℕ → ℕ → List Value → List ClassFile → Result (Option Program) Refusal → Option Answer
called size m args cs (Ok (Some P)) = answered (direct P (record { number = 1; size = size }) 100 (call_start P m args 50 (opening_state cs)))
called size m args cs p = None

abbrev answer : ℕ → ℕ → List Value → Result (List ClassFile) Refusal → Option Answer
answer size m args (Ok cs) = called size m args cs (linking cs)
answer size m args (Err r) = None

abbrev interface : List (List ℕ)
interface = (202 ∷ 254 ∷ 186 ∷ 190 ∷ 0 ∷ 0 ∷ 0 ∷ 49 ∷ 0 ∷ 7 ∷ 7 ∷ 0 ∷ 2 ∷ 1 ∷ 0 ∷ 1 ∷ 73 ∷ 7 ∷ 0 ∷ 4 ∷ 1 ∷ 0 ∷ 16 ∷ 106 ∷ 97 ∷ 118 ∷ 97 ∷ 47 ∷ 108 ∷ 97 ∷ 110 ∷ 103 ∷ 47 ∷ 79 ∷ 98 ∷ 106 ∷ 101 ∷ 99 ∷ 116 ∷ 1 ∷ 0 ∷ 1 ∷ 102 ∷ 1 ∷ 0 ∷ 3 ∷ 40 ∷ 41 ∷ 86 ∷ 6 ∷ 1 ∷ 0 ∷ 1 ∷ 0 ∷ 3 ∷ 0 ∷ 0 ∷ 0 ∷ 0 ∷ 0 ∷ 1 ∷ 4 ∷ 1 ∷ 0 ∷ 5 ∷ 0 ∷ 6 ∷ 0 ∷ 0 ∷ 0 ∷ 0 ∷ []) ∷ (202 ∷ 254 ∷ 186 ∷ 190 ∷ 0 ∷ 0 ∷ 0 ∷ 49 ∷ 0 ∷ 20 ∷ 7 ∷ 0 ∷ 2 ∷ 1 ∷ 0 ∷ 1 ∷ 85 ∷ 7 ∷ 0 ∷ 4 ∷ 1 ∷ 0 ∷ 16 ∷ 106 ∷ 97 ∷ 118 ∷ 97 ∷ 47 ∷ 108 ∷ 97 ∷ 110 ∷ 103 ∷ 47 ∷ 79 ∷ 98 ∷ 106 ∷ 101 ∷ 99 ∷ 116 ∷ 1 ∷ 0 ∷ 1 ∷ 117 ∷ 1 ∷ 0 ∷ 3 ∷ 40 ∷ 41 ∷ 86 ∷ 1 ∷ 0 ∷ 4 ∷ 67 ∷ 111 ∷ 100 ∷ 101 ∷ 7 ∷ 0 ∷ 9 ∷ 1 ∷ 0 ∷ 1 ∷ 88 ∷ 10 ∷ 0 ∷ 8 ∷ 0 ∷ 11 ∷ 12 ∷ 0 ∷ 12 ∷ 0 ∷ 6 ∷ 1 ∷ 0 ∷ 6 ∷ 60 ∷ 105 ∷ 110 ∷ 105 ∷ 116 ∷ 62 ∷ 11 ∷ 0 ∷ 14 ∷ 0 ∷ 16 ∷ 7 ∷ 0 ∷ 15 ∷ 1 ∷ 0 ∷ 1 ∷ 73 ∷ 12 ∷ 0 ∷ 17 ∷ 0 ∷ 6 ∷ 1 ∷ 0 ∷ 1 ∷ 102 ∷ 1 ∷ 0 ∷ 25 ∷ 82 ∷ 117 ∷ 110 ∷ 116 ∷ 105 ∷ 109 ∷ 101 ∷ 86 ∷ 105 ∷ 115 ∷ 105 ∷ 98 ∷ 108 ∷ 101 ∷ 65 ∷ 110 ∷ 110 ∷ 111 ∷ 116 ∷ 97 ∷ 116 ∷ 105 ∷ 111 ∷ 110 ∷ 115 ∷ 1 ∷ 0 ∷ 18 ∷ 76 ∷ 111 ∷ 114 ∷ 103 ∷ 47 ∷ 100 ∷ 101 ∷ 117 ∷ 99 ∷ 101 ∷ 47 ∷ 65 ∷ 116 ∷ 111 ∷ 109 ∷ 105 ∷ 99 ∷ 59 ∷ 0 ∷ 33 ∷ 0 ∷ 1 ∷ 0 ∷ 3 ∷ 0 ∷ 0 ∷ 0 ∷ 0 ∷ 0 ∷ 1 ∷ 0 ∷ 9 ∷ 0 ∷ 5 ∷ 0 ∷ 6 ∷ 0 ∷ 2 ∷ 0 ∷ 7 ∷ 0 ∷ 0 ∷ 0 ∷ 25 ∷ 0 ∷ 2 ∷ 0 ∷ 0 ∷ 0 ∷ 0 ∷ 0 ∷ 13 ∷ 187 ∷ 0 ∷ 8 ∷ 89 ∷ 183 ∷ 0 ∷ 10 ∷ 185 ∷ 0 ∷ 13 ∷ 1 ∷ 0 ∷ 177 ∷ 0 ∷ 0 ∷ 0 ∷ 0 ∷ 0 ∷ 18 ∷ 0 ∷ 0 ∷ 0 ∷ 6 ∷ 0 ∷ 1 ∷ 0 ∷ 19 ∷ 0 ∷ 0 ∷ 0 ∷ 0 ∷ []) ∷ (202 ∷ 254 ∷ 186 ∷ 190 ∷ 0 ∷ 0 ∷ 0 ∷ 49 ∷ 0 ∷ 10 ∷ 7 ∷ 0 ∷ 2 ∷ 1 ∷ 0 ∷ 1 ∷ 88 ∷ 7 ∷ 0 ∷ 4 ∷ 1 ∷ 0 ∷ 16 ∷ 106 ∷ 97 ∷ 118 ∷ 97 ∷ 47 ∷ 108 ∷ 97 ∷ 110 ∷ 103 ∷ 47 ∷ 79 ∷ 98 ∷ 106 ∷ 101 ∷ 99 ∷ 116 ∷ 1 ∷ 0 ∷ 6 ∷ 60 ∷ 105 ∷ 110 ∷ 105 ∷ 116 ∷ 62 ∷ 1 ∷ 0 ∷ 3 ∷ 40 ∷ 41 ∷ 86 ∷ 1 ∷ 0 ∷ 4 ∷ 67 ∷ 111 ∷ 100 ∷ 101 ∷ 10 ∷ 0 ∷ 3 ∷ 0 ∷ 9 ∷ 12 ∷ 0 ∷ 5 ∷ 0 ∷ 6 ∷ 0 ∷ 33 ∷ 0 ∷ 1 ∷ 0 ∷ 3 ∷ 0 ∷ 0 ∷ 0 ∷ 0 ∷ 0 ∷ 1 ∷ 0 ∷ 1 ∷ 0 ∷ 5 ∷ 0 ∷ 6 ∷ 0 ∷ 1 ∷ 0 ∷ 7 ∷ 0 ∷ 0 ∷ 0 ∷ 17 ∷ 0 ∷ 1 ∷ 0 ∷ 1 ∷ 0 ∷ 0 ∷ 0 ∷ 5 ∷ 42 ∷ 183 ∷ 0 ∷ 8 ∷ 177 ∷ 0 ∷ 0 ∷ 0 ∷ 0 ∷ 0 ∷ 0 ∷ []) ∷ []

interface_misses : answer 64 1 ([]) (read interface) ≡ Some (Threw (codes "java/lang/IncompatibleClassChangeError"))
unfolding annotation_run_at u1_at u2_at annotation_text_at annotation_items_at counted_at items_until counted_until annotation_pair_at annotation_at mark_pair_at top_annotation_at annotations_of magic_at version_at class_index_at this_at interfaces_at head_at descriptor_fits member_head_at field_at method_attribute_at method_attributes_at method_at members_at file_parts_at distinct distinct_members class_file_of attribute_at attributes_at handler_at handlers_at body_at code_at element_rest type_rest is_field_descriptor type_of types_at result_of signature_of signed_at target_at signed_operand_at array_type_at local_at increment_at entry_operand_at interface_at dimensions_at jump_at instr_wide_at instr_parts_at instrs_at targets_fit instrs_of all_annotations retries_in pool_text_at word_at pool_wide_at index_at pool_pair_at tagged_at constant_at scan_at entries_at utf8_at class_at name_and_type_at member_fits name_fits pair_fits text_fits all_fit pool_at run_at number_at items_at
interface_misses = refl

abbrev operations : List (List ℕ)
operations = (202 ∷ 254 ∷ 186 ∷ 190 ∷ 0 ∷ 0 ∷ 0 ∷ 49 ∷ 0 ∷ 14 ∷ 7 ∷ 0 ∷ 2 ∷ 1 ∷ 0 ∷ 1 ∷ 81 ∷ 7 ∷ 0 ∷ 4 ∷ 1 ∷ 0 ∷ 16 ∷ 106 ∷ 97 ∷ 118 ∷ 97 ∷ 47 ∷ 108 ∷ 97 ∷ 110 ∷ 103 ∷ 47 ∷ 79 ∷ 98 ∷ 106 ∷ 101 ∷ 99 ∷ 116 ∷ 1 ∷ 0 ∷ 3 ∷ 100 ∷ 105 ∷ 118 ∷ 1 ∷ 0 ∷ 5 ∷ 40 ∷ 73 ∷ 73 ∷ 41 ∷ 73 ∷ 1 ∷ 0 ∷ 4 ∷ 67 ∷ 111 ∷ 100 ∷ 101 ∷ 1 ∷ 0 ∷ 25 ∷ 82 ∷ 117 ∷ 110 ∷ 116 ∷ 105 ∷ 109 ∷ 101 ∷ 86 ∷ 105 ∷ 115 ∷ 105 ∷ 98 ∷ 108 ∷ 101 ∷ 65 ∷ 110 ∷ 110 ∷ 111 ∷ 116 ∷ 97 ∷ 116 ∷ 105 ∷ 111 ∷ 110 ∷ 115 ∷ 1 ∷ 0 ∷ 18 ∷ 76 ∷ 111 ∷ 114 ∷ 103 ∷ 47 ∷ 100 ∷ 101 ∷ 117 ∷ 99 ∷ 101 ∷ 47 ∷ 65 ∷ 116 ∷ 111 ∷ 109 ∷ 105 ∷ 99 ∷ 59 ∷ 1 ∷ 0 ∷ 3 ∷ 114 ∷ 101 ∷ 109 ∷ 1 ∷ 0 ∷ 3 ∷ 115 ∷ 104 ∷ 108 ∷ 1 ∷ 0 ∷ 4 ∷ 108 ∷ 115 ∷ 104 ∷ 108 ∷ 1 ∷ 0 ∷ 5 ∷ 40 ∷ 74 ∷ 73 ∷ 41 ∷ 74 ∷ 0 ∷ 33 ∷ 0 ∷ 1 ∷ 0 ∷ 3 ∷ 0 ∷ 0 ∷ 0 ∷ 0 ∷ 0 ∷ 4 ∷ 0 ∷ 9 ∷ 0 ∷ 5 ∷ 0 ∷ 6 ∷ 0 ∷ 2 ∷ 0 ∷ 7 ∷ 0 ∷ 0 ∷ 0 ∷ 16 ∷ 0 ∷ 2 ∷ 0 ∷ 2 ∷ 0 ∷ 0 ∷ 0 ∷ 4 ∷ 26 ∷ 27 ∷ 108 ∷ 172 ∷ 0 ∷ 0 ∷ 0 ∷ 0 ∷ 0 ∷ 8 ∷ 0 ∷ 0 ∷ 0 ∷ 6 ∷ 0 ∷ 1 ∷ 0 ∷ 9 ∷ 0 ∷ 0 ∷ 0 ∷ 9 ∷ 0 ∷ 10 ∷ 0 ∷ 6 ∷ 0 ∷ 2 ∷ 0 ∷ 7 ∷ 0 ∷ 0 ∷ 0 ∷ 16 ∷ 0 ∷ 2 ∷ 0 ∷ 2 ∷ 0 ∷ 0 ∷ 0 ∷ 4 ∷ 26 ∷ 27 ∷ 112 ∷ 172 ∷ 0 ∷ 0 ∷ 0 ∷ 0 ∷ 0 ∷ 8 ∷ 0 ∷ 0 ∷ 0 ∷ 6 ∷ 0 ∷ 1 ∷ 0 ∷ 9 ∷ 0 ∷ 0 ∷ 0 ∷ 9 ∷ 0 ∷ 11 ∷ 0 ∷ 6 ∷ 0 ∷ 2 ∷ 0 ∷ 7 ∷ 0 ∷ 0 ∷ 0 ∷ 16 ∷ 0 ∷ 2 ∷ 0 ∷ 2 ∷ 0 ∷ 0 ∷ 0 ∷ 4 ∷ 26 ∷ 27 ∷ 120 ∷ 172 ∷ 0 ∷ 0 ∷ 0 ∷ 0 ∷ 0 ∷ 8 ∷ 0 ∷ 0 ∷ 0 ∷ 6 ∷ 0 ∷ 1 ∷ 0 ∷ 9 ∷ 0 ∷ 0 ∷ 0 ∷ 9 ∷ 0 ∷ 12 ∷ 0 ∷ 13 ∷ 0 ∷ 2 ∷ 0 ∷ 7 ∷ 0 ∷ 0 ∷ 0 ∷ 16 ∷ 0 ∷ 3 ∷ 0 ∷ 3 ∷ 0 ∷ 0 ∷ 0 ∷ 4 ∷ 30 ∷ 28 ∷ 121 ∷ 173 ∷ 0 ∷ 0 ∷ 0 ∷ 0 ∷ 0 ∷ 8 ∷ 0 ∷ 0 ∷ 0 ∷ 6 ∷ 0 ∷ 1 ∷ 0 ∷ 9 ∷ 0 ∷ 0 ∷ 0 ∷ 0 ∷ []) ∷ []

operations_least : answer 64 0 (Int (negsuc 2147483647) ∷ Int (negsuc 0) ∷ []) (read operations) ≡ Some (Returned (Some (Int (negsuc 2147483647))))
unfolding annotation_run_at u1_at u2_at annotation_text_at annotation_items_at counted_at items_until counted_until annotation_pair_at annotation_at mark_pair_at top_annotation_at annotations_of magic_at version_at class_index_at this_at interfaces_at head_at descriptor_fits member_head_at field_at method_attribute_at method_attributes_at method_at members_at file_parts_at distinct distinct_members class_file_of attribute_at attributes_at handler_at handlers_at body_at code_at element_rest type_rest is_field_descriptor type_of types_at result_of signature_of signed_at target_at signed_operand_at array_type_at local_at increment_at entry_operand_at interface_at dimensions_at jump_at instr_wide_at instr_parts_at instrs_at targets_fit instrs_of all_annotations retries_in pool_text_at word_at pool_wide_at index_at pool_pair_at tagged_at constant_at scan_at entries_at utf8_at class_at name_and_type_at member_fits name_fits pair_fits text_fits all_fit pool_at run_at number_at items_at
operations_least = refl

operations_left : answer 64 3 (Long (pos 1) ∷ Int (pos 65) ∷ []) (read operations) ≡ Some (Returned (Some (Long (pos 2))))
unfolding annotation_run_at u1_at u2_at annotation_text_at annotation_items_at counted_at items_until counted_until annotation_pair_at annotation_at mark_pair_at top_annotation_at annotations_of magic_at version_at class_index_at this_at interfaces_at head_at descriptor_fits member_head_at field_at method_attribute_at method_attributes_at method_at members_at file_parts_at distinct distinct_members class_file_of attribute_at attributes_at handler_at handlers_at body_at code_at element_rest type_rest is_field_descriptor type_of types_at result_of signature_of signed_at target_at signed_operand_at array_type_at local_at increment_at entry_operand_at interface_at dimensions_at jump_at instr_wide_at instr_parts_at instrs_at targets_fit instrs_of all_annotations retries_in pool_text_at word_at pool_wide_at index_at pool_pair_at tagged_at constant_at scan_at entries_at utf8_at class_at name_and_type_at member_fits name_fits pair_fits text_fits all_fit pool_at run_at number_at items_at
operations_left = refl

operations_by_zero : answer 64 0 (Int (pos 1) ∷ Int (pos 0) ∷ []) (read operations) ≡ Some (Threw (codes "java/lang/ArithmeticException"))
unfolding annotation_run_at u1_at u2_at annotation_text_at annotation_items_at counted_at items_until counted_until annotation_pair_at annotation_at mark_pair_at top_annotation_at annotations_of magic_at version_at class_index_at this_at interfaces_at head_at descriptor_fits member_head_at field_at method_attribute_at method_attributes_at method_at members_at file_parts_at distinct distinct_members class_file_of attribute_at attributes_at handler_at handlers_at body_at code_at element_rest type_rest is_field_descriptor type_of types_at result_of signature_of signed_at target_at signed_operand_at array_type_at local_at increment_at entry_operand_at interface_at dimensions_at jump_at instr_wide_at instr_parts_at instrs_at targets_fit instrs_of all_annotations retries_in pool_text_at word_at pool_wide_at index_at pool_pair_at tagged_at constant_at scan_at entries_at utf8_at class_at name_and_type_at member_fits name_fits pair_fits text_fits all_fit pool_at run_at number_at items_at
operations_by_zero = refl

abbrev arrays : List (List ℕ)
arrays = (202 ∷ 254 ∷ 186 ∷ 190 ∷ 0 ∷ 0 ∷ 0 ∷ 49 ∷ 0 ∷ 10 ∷ 7 ∷ 0 ∷ 2 ∷ 1 ∷ 0 ∷ 1 ∷ 71 ∷ 7 ∷ 0 ∷ 4 ∷ 1 ∷ 0 ∷ 16 ∷ 106 ∷ 97 ∷ 118 ∷ 97 ∷ 47 ∷ 108 ∷ 97 ∷ 110 ∷ 103 ∷ 47 ∷ 79 ∷ 98 ∷ 106 ∷ 101 ∷ 99 ∷ 116 ∷ 1 ∷ 0 ∷ 1 ∷ 103 ∷ 1 ∷ 0 ∷ 4 ∷ 40 ∷ 73 ∷ 41 ∷ 86 ∷ 1 ∷ 0 ∷ 4 ∷ 67 ∷ 111 ∷ 100 ∷ 101 ∷ 1 ∷ 0 ∷ 25 ∷ 82 ∷ 117 ∷ 110 ∷ 116 ∷ 105 ∷ 109 ∷ 101 ∷ 86 ∷ 105 ∷ 115 ∷ 105 ∷ 98 ∷ 108 ∷ 101 ∷ 65 ∷ 110 ∷ 110 ∷ 111 ∷ 116 ∷ 97 ∷ 116 ∷ 105 ∷ 111 ∷ 110 ∷ 115 ∷ 1 ∷ 0 ∷ 18 ∷ 76 ∷ 111 ∷ 114 ∷ 103 ∷ 47 ∷ 100 ∷ 101 ∷ 117 ∷ 99 ∷ 101 ∷ 47 ∷ 65 ∷ 116 ∷ 111 ∷ 109 ∷ 105 ∷ 99 ∷ 59 ∷ 0 ∷ 33 ∷ 0 ∷ 1 ∷ 0 ∷ 3 ∷ 0 ∷ 0 ∷ 0 ∷ 0 ∷ 0 ∷ 1 ∷ 0 ∷ 9 ∷ 0 ∷ 5 ∷ 0 ∷ 6 ∷ 0 ∷ 2 ∷ 0 ∷ 7 ∷ 0 ∷ 0 ∷ 0 ∷ 17 ∷ 0 ∷ 1 ∷ 0 ∷ 1 ∷ 0 ∷ 0 ∷ 0 ∷ 5 ∷ 26 ∷ 188 ∷ 10 ∷ 87 ∷ 177 ∷ 0 ∷ 0 ∷ 0 ∷ 0 ∷ 0 ∷ 8 ∷ 0 ∷ 0 ∷ 0 ∷ 6 ∷ 0 ∷ 1 ∷ 0 ∷ 9 ∷ 0 ∷ 0 ∷ 0 ∷ 0 ∷ []) ∷ []

arrays_made : answer 16 0 (Int (pos 15) ∷ []) (read arrays) ≡ Some (Returned None)
unfolding annotation_run_at u1_at u2_at annotation_text_at annotation_items_at counted_at items_until counted_until annotation_pair_at annotation_at mark_pair_at top_annotation_at annotations_of magic_at version_at class_index_at this_at interfaces_at head_at descriptor_fits member_head_at field_at method_attribute_at method_attributes_at method_at members_at file_parts_at distinct distinct_members class_file_of attribute_at attributes_at handler_at handlers_at body_at code_at element_rest type_rest is_field_descriptor type_of types_at result_of signature_of signed_at target_at signed_operand_at array_type_at local_at increment_at entry_operand_at interface_at dimensions_at jump_at instr_wide_at instr_parts_at instrs_at targets_fit instrs_of all_annotations retries_in pool_text_at word_at pool_wide_at index_at pool_pair_at tagged_at constant_at scan_at entries_at utf8_at class_at name_and_type_at member_fits name_fits pair_fits text_fits all_fit pool_at run_at number_at items_at
arrays_made = refl

arrays_full : answer 16 0 (Int (pos 16) ∷ []) (read arrays) ≡ Some (Heap 0 17 16)
unfolding annotation_run_at u1_at u2_at annotation_text_at annotation_items_at counted_at items_until counted_until annotation_pair_at annotation_at mark_pair_at top_annotation_at annotations_of magic_at version_at class_index_at this_at interfaces_at head_at descriptor_fits member_head_at field_at method_attribute_at method_attributes_at method_at members_at file_parts_at distinct distinct_members class_file_of attribute_at attributes_at handler_at handlers_at body_at code_at element_rest type_rest is_field_descriptor type_of types_at result_of signature_of signed_at target_at signed_operand_at array_type_at local_at increment_at entry_operand_at interface_at dimensions_at jump_at instr_wide_at instr_parts_at instrs_at targets_fit instrs_of all_annotations retries_in pool_text_at word_at pool_wide_at index_at pool_pair_at tagged_at constant_at scan_at entries_at utf8_at class_at name_and_type_at member_fits name_fits pair_fits text_fits all_fit pool_at run_at number_at items_at
arrays_full = refl
