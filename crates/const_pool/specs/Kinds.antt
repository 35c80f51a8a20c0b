-- Kinds of references to members.
use Rattle.std.specs.Prelude.{ℕ, Option}
use Rattle.jmodel.specs.declared.class_file.Constant.{Constant}
use Rattle.jmodel.specs.declared.class_file.Constant.TheVariants as entries
use Rattle.jmodel.specs.format.PoolAdding.{field_parts, method_parts, interface_method_parts}
use Rattle.const_pool.specs.declared.meanings.Kind.{Kind}
use Rattle.const_pool.specs.declared.meanings.Kind.TheVariants.{Field, Method, InterfaceMethod}

abbrev pub make_of : Kind → ℕ → ℕ → Constant
make_of Field class pair = entries.Field class pair
make_of Method class pair = entries.Method class pair
make_of InterfaceMethod class pair = entries.InterfaceMethod class pair

abbrev pub parts_of : Kind → Constant → Option (ℕ × ℕ)
parts_of Field c = field_parts c
parts_of Method c = method_parts c
parts_of InterfaceMethod c = interface_method_parts c
