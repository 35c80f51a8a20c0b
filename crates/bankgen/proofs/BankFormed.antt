-- Bank keeps the rules of class files.
use Rattle.std.proofs.Common.{◌≡◌, ℕ, ◌<◌, ◌^◌, List, [], ◌∷◌, ◌++◌, Some, inl, inr, refl, ap, arith}
use Rattle.std.specs.Prelude.{codes}
use Rattle.std.specs.List.{AllByRecursion}
use Rattle.jmodel.specs.declared.class_file.FieldType.TheVariants as field
use Rattle.jmodel.specs.format.ClassFile.{u2}
use Rattle.jmodel.specs.format.Descriptor.{IsClassName, IsArrayName, IsFieldDescriptor, IsMethodDescriptor}
use Rattle.jmodel.specs.format.ClassRules.{IsConstant, IsPool, IsAttribute, IsField, IsMethod, IsSameMember, IsClassFile}
use Rattle.bankgen.specs.Classes.{field as field_of, code_attribute, atomic_attribute, bank_pool, bank_clinit, bank_transfer, bank_total, clinit_method, transfer_method, total_method, bank}
use Rattle.bankgen.specs.Formed.{HoldsBytes}
use Rattle.bankgen.proofs.Rules.{below, small, text, account_named, of_nothing, takes_int, gives_int, code_of, no_attributes, one_differs, three_differ, sum_of, all_bytes, byte_at_each, bytes_in}

bank_named : IsClassName (codes "Bank")
bank_named = record { is_there = λ e. cc; no_end = (λ e. omega (arith, e), (λ e. omega (arith, e), (λ e. omega (arith, e), (λ e. omega (arith, e), tt)))); no_array = refl }

accounts_named : IsArrayName (codes "[LAccount;")
accounts_named = record { dimensions = 1; element = field.Reference (codes "Account"); some = omega (arith); few = omega (arith); is_element = account_named; is = refl }

of_accounts : IsFieldDescriptor (codes "[LAccount;")
of_accounts = (field.Reference (codes "[LAccount;"), record { type = accounts_named; is = refl })

transfers : IsMethodDescriptor (codes "(III)I")
transfers = (record { parameters = field.Int ∷ field.Int ∷ field.Int ∷ []; result = Some field.Int }, record { signature = record { parameters = (tt, (tt, (tt, tt))); result = tt; few = omega (arith) }; is = refl })

entries : AllByRecursion (IsConstant bank_pool) bank_pool
entries = (
  (small 2 refl, tt),
  (
    text bank_pool (codes "Bank") refl refl,
    (
      (small 4 refl, tt),
      (
        text bank_pool (codes "java/lang/Object") refl refl,
        (
          text bank_pool (codes "all") refl refl,
          (
            text bank_pool (codes "[LAccount;") refl refl,
            (
              text bank_pool (codes "<clinit>") refl refl,
              (
                text bank_pool (codes "()V") refl refl,
                (
                  text bank_pool (codes "Code") refl refl,
                  (
                    (small 11 refl, tt),
                    (
                      text bank_pool (codes "Account") refl refl,
                      (
                        (small 1 refl, small 13 refl, refl, of_accounts),
                        (
                          (small 5 refl, small 6 refl, refl, inl of_accounts),
                          (
                            (small 10 refl, small 15 refl, refl, takes_int),
                            (
                              (small 16 refl, small 17 refl, refl, inr takes_int),
                              (
                                text bank_pool (codes "<init>") refl refl,
                                (
                                  text bank_pool (codes "(I)V") refl refl,
                                  (
                                    text bank_pool (codes "transfer") refl refl,
                                    (
                                      text bank_pool (codes "(III)I") refl refl,
                                      (
                                        (small 10 refl, small 21 refl, refl, gives_int),
                                        (
                                          (small 22 refl, small 23 refl, refl, inr gives_int),
                                          (
                                            text bank_pool (codes "get") refl refl,
                                            (
                                              text bank_pool (codes "()I") refl refl,
                                              (
                                                (small 10 refl, small 25 refl, refl, takes_int),
                                                (
                                                  (small 26 refl, small 17 refl, refl, inr takes_int),
                                                  (
                                                    text bank_pool (codes "add") refl refl,
                                                    (
                                                      text bank_pool (codes "RuntimeVisibleAnnotations") refl refl,
                                                      (
                                                        text bank_pool (codes "Lorg/deuce/Atomic;") refl refl,
                                                        (text bank_pool (codes "total") refl refl, tt),
                                                      ),
                                                    ),
                                                  ),
                                                ),
                                              ),
                                            ),
                                          ),
                                        ),
                                      ),
                                    ),
                                  ),
                                ),
                              ),
                            ),
                          ),
                        ),
                      ),
                    ),
                  ),
                ),
              ),
            ),
          ),
        ),
      ),
    ),
  ),
)

is_pool : IsPool bank_pool
is_pool = record {
  few = below 29 65535 refl;
  placed = (refl, (refl, (refl, (refl, (refl, (refl, (refl, (refl, (refl, (refl, (refl, (refl, (refl, (refl, (refl, (refl, (refl, (refl, (refl, (refl, (refl, (refl, (refl, (refl, (refl, (refl, (refl, (refl, (refl, refl)))))))))))))))))))))))))))));
  entries = entries;
}

field_all : IsField bank_pool (field_of 8 5 6)
field_all = record { flags = small 8 refl; name = small 5 refl; descriptor = small 6 refl; named = refl; typed = of_accounts; attributes = no_attributes bank_pool }

mark : IsAttribute bank_pool atomic_attribute
mark = record { name = small 27 refl; named = refl; short = below 6 (2 ^ 32) refl }

method_clinit : (accounts : ℕ) → IsMethod bank_pool (clinit_method accounts)
method_clinit accounts = record {
  member = record { flags = small 8 refl; name = small 7 refl; descriptor = small 8 refl; named = refl; typed = of_nothing; attributes = record { few = small 1 refl; each = (record { name = small 9 refl; named = refl; short = below 51 (2 ^ 32) refl }, tt) } };
  codes_fit = (_, code_of 5 1 (bank_clinit accounts), refl, record { code = record { stack = small 5 refl; locals = small 1 refl; some = below 0 39 refl; short = omega (arith); few = small 0 refl; handlers = tt; attributes = no_attributes bank_pool }; is = refl });
}

method_transfer : IsMethod bank_pool transfer_method
method_transfer = record {
  member = record { flags = small 9 refl; name = small 18 refl; descriptor = small 19 refl; named = refl; typed = transfers; attributes = record { few = small 2 refl; each = (record { name = small 9 refl; named = refl; short = below 47 (2 ^ 32) refl }, (mark, tt)) } };
  codes_fit = (_, code_of 2 3 bank_transfer, refl, record { code = record { stack = small 2 refl; locals = small 3 refl; some = below 0 35 refl; short = omega (arith); few = small 0 refl; handlers = tt; attributes = no_attributes bank_pool }; is = refl });
}

method_total : IsMethod bank_pool total_method
method_total = record {
  member = record { flags = small 9 refl; name = small 29 refl; descriptor = small 23 refl; named = refl; typed = gives_int; attributes = record { few = small 2 refl; each = (record { name = small 9 refl; named = refl; short = below 43 (2 ^ 32) refl }, (mark, tt)) } };
  codes_fit = (_, code_of 3 2 bank_total, refl, record { code = record { stack = small 3 refl; locals = small 2 refl; some = below 0 31 refl; short = omega (arith); few = small 0 refl; handlers = tt; attributes = no_attributes bank_pool }; is = refl });
}

pub is_class_file : (accounts : ℕ) → IsClassFile (bank accounts)
is_class_file accounts = record {
  minor = small 0 refl;
  major = refl;
  pool = is_pool;
  flags = small 33 refl;
  this_class = small 1 refl;
  this_name = bank_named;
  super_class = small 3 refl;
  super_name = refl;
  few_interfaces = small 0 refl;
  interfaces = tt;
  few_fields = small 1 refl;
  fields = (field_all, tt);
  few_methods = small 3 refl;
  methods = (method_clinit accounts, (method_transfer, (method_total, tt)));
  attributes = no_attributes bank_pool;
  distinct_fields = one_differs (λ a b. ¬ IsSameMember bank_pool a b) _;
  distinct_methods = three_differ (λ a b. ¬ IsSameMember bank_pool a b) _ _ _
      (λ e. let n : 765 ≡ 869 = ap sum_of e.0 in omega (arith, n))
      (λ e. let n : 765 ≡ 548 = ap sum_of e.0 in omega (arith, n))
      (λ e. let n : 869 ≡ 548 = ap sum_of e.0 in omega (arith, n));
}

-- ---- bytes

append_bytes : (xs ys : List ℕ) → AllByRecursion (λ b. b < 256) xs → AllByRecursion (λ b. b < 256) ys → AllByRecursion (λ b. b < 256) (xs ++ ys)
append_bytes [] ys h k = k
append_bytes (x ∷ xs) ys h k = (h.0, append_bytes xs ys h.1 k)

two_bytes : (n : ℕ) → AllByRecursion (λ b. b < 256) (u2 n)
two_bytes n = (omega arith, (omega arith, tt))

-- the initialiser's Code up to the first number of accounts, up to the second, and to its end
abbrev front : List ℕ
front = 0 ∷ 5 ∷ 0 ∷ 1 ∷ 0 ∷ 0 ∷ 0 ∷ 39 ∷ 17 ∷ []

abbrev middle : List ℕ
middle = 189 ∷ 0 ∷ 10 ∷ 179 ∷ 0 ∷ 12 ∷ 3 ∷ 59 ∷ 26 ∷ 17 ∷ []

abbrev end : List ℕ
end = 162 ∷ 0 ∷ 23 ∷ 178 ∷ 0 ∷ 12 ∷ 26 ∷ 187 ∷ 0 ∷ 10 ∷ 89 ∷ 16 ∷ 100 ∷ 183 ∷ 0 ∷ 14 ∷ 83 ∷ 132 ∷ 0 ∷ 1 ∷ 167 ∷ 255 ∷ 232 ∷ 177 ∷ 0 ∷ 0 ∷ 0 ∷ 0 ∷ []

clinit_bytes : (accounts : ℕ) → AllByRecursion (λ b. b < 256) (front ++ (u2 accounts ++ (middle ++ (u2 accounts ++ end))))
clinit_bytes accounts =
    let n = u2 accounts in
    append_bytes front (n ++ (middle ++ (n ++ end))) (all_bytes front refl)
    (append_bytes n (middle ++ (n ++ end)) (two_bytes accounts) (append_bytes middle (n ++ end) (all_bytes middle refl) (append_bytes n end (two_bytes accounts) (all_bytes end refl))))

pub holds_bytes : (accounts : ℕ) → HoldsBytes (bank accounts)
holds_bytes accounts = (
  (byte_at_each (front ++ (u2 accounts ++ (middle ++ (u2 accounts ++ end)))) (clinit_bytes accounts), tt),
  (
    (bytes_in (code_attribute 2 3 bank_transfer) refl, (bytes_in atomic_attribute refl, tt)),
    ((bytes_in (code_attribute 3 2 bank_total) refl, (bytes_in atomic_attribute refl, tt)), tt),
  ),
)
