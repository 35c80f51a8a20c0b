-- The attributes of a class that bytes spell hold bytes.
use Rattle.std.proofs.Common.{ℕ, zero, suc, List, [], ◌∷◌, ◌++◌, length, subst, arith}
use Rattle.std.specs.List.{flat_map, AllByRecursion}
use Rattle.jmodel.specs.format.ClassFile.{u2, u4, magic, constants, indexes, attribute, attributes, member, members, Attribute, Member, ClassFile}
use Rattle.jmodel.specs.format.ClassRules.{Spells}
use Rattle.rewriter.specs.Asked.{AreBytes, HasBytes, AreFiled}

behind : (xs ys : List ℕ) → AreBytes (xs ++ ys) → AreBytes ys
behind [] ys h i = h i
behind (x ∷ xs) ys h i = behind xs ys (λ j. h (suc j)) i

front : (xs ys : List ℕ) → AreBytes (xs ++ ys) → AreBytes xs
front [] ys h i = omega arith
front (x ∷ xs) ys h zero = h zero
front (x ∷ xs) ys h (suc i) = front xs ys (λ j. h (suc j)) i

of_attributes : (xs : List Attribute) → AreBytes (flat_map attribute xs) → AllByRecursion (λ (a : Attribute). AreBytes a.bytes) xs
of_attributes [] h = tt
of_attributes (a ∷ xs) h =
    (behind (u2 a.name ++ u4 (length a.bytes)) a.bytes (front (attribute a) (flat_map attribute xs) h), of_attributes xs (behind (attribute a) (flat_map attribute xs) h))

of_member : (m : Member) → AreBytes (member m) → HasBytes m
of_member m h =
    let xs = m.attributes in
    of_attributes xs (behind (u2 (length xs)) (flat_map attribute xs) (behind (u2 m.flags ++ u2 m.name ++ u2 m.descriptor) (attributes xs) h))

of_members : (ms : List Member) → AreBytes (flat_map member ms) → AllByRecursion HasBytes ms
of_members [] h = tt
of_members (m ∷ ms) h = (of_member m (front (member m) (flat_map member ms) h), of_members ms (behind (member m) (flat_map member ms) h))

-- what stands before the methods
abbrev before_methods : ClassFile → List ℕ
before_methods c = magic ++ u2 c.minor ++ u2 c.major ++ constants c.pool ++ u2 c.flags ++ u2 c.this_class ++ u2 c.super_class ++ indexes c.interfaces ++ members c.fields

pub filed : (bytes : List ℕ) (c : ClassFile) → AreBytes bytes → Spells bytes c → AreFiled c
filed bytes c h spells =
    let whole : AreBytes (before_methods c ++ members c.methods ++ attributes c.attributes) = subst AreBytes spells.is h in
    let methods = behind (before_methods c) (members c.methods) (front (before_methods c ++ members c.methods) (attributes c.attributes) whole) in
    of_members c.methods (behind (u2 (length c.methods)) (flat_map member c.methods) methods)
