-- What a method of a rewritten class means.
use Rattle.std.specs.Prelude.{Bool, Option, option_and_then}
use Rattle.jmodel.specs.format.ClassFile.{Member}
use Rattle.objects.specs.semantics.Program.{Method}
use Rattle.objects.specs.linking.Decoding.{Symbols}
use Rattle.objects.specs.linking.Linking.{method_of, decoded_member}
use Rattle.objects.specs.rewriting.Relinking.{decoded_or_none}

-- A method of a class, decoded, with the symbols of that class, its frames counted or not. With the symbols of rewritten classes it is what linking these reads.
abbrev pub meaning : Symbols → Bool → Member → Option Method
meaning s counted m = option_and_then (method_of s counted m) (decoded_or_none (decoded_member (record { class = s.class; member = m })))
