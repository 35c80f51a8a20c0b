-- How the code keeps the entries of a pool.
use Rattle.jmodel.specs.declared.class_file.Constant.{Constant}
use Rattle.jmodel.specs.declared.class_file.Constant.TheVariants as constants
use Rattle.bankgen.specs.declared.entries.Entry.{Entry}
use Rattle.bankgen.specs.declared.entries.Entry.TheVariants.{Text, Class, NameAndType, Field, Method}

abbrev pub constant_of : Entry → Constant
constant_of (Text text) = constants.Utf8 text.now
constant_of (Class name) = constants.Class name
constant_of (NameAndType name descriptor) = constants.NameAndType name descriptor
constant_of (Field class pair) = constants.Field class pair
constant_of (Method class pair) = constants.Method class pair
