-- Account keeps the rules of class files.
use Rattle.std.proofs.Common.{◌≡◌, ◌^◌, inl, inr, refl, ap, arith}
use Rattle.std.specs.Prelude.{codes}
use Rattle.std.specs.List.{AllByRecursion}
use Rattle.jmodel.specs.format.ClassRules.{IsConstant, IsPool, IsField, IsMethod, IsSameMember, IsClassFile}
use Rattle.bankgen.specs.Classes.{field as field_of, code_attribute, account_pool, account_init, account_get, account_add, init_method, get_method, add_method, account}
use Rattle.bankgen.specs.Formed.{HoldsBytes}
use Rattle.bankgen.proofs.Rules.{below, small, text, account_named, of_int, of_nothing, takes_int, gives_int, code_of, no_attributes, one_differs, three_differ, sum_of, bytes_in}

entries : AllByRecursion (IsConstant account_pool) account_pool
entries = (
  (small 2 refl, tt),
  (
    text account_pool (codes "Account") refl refl,
    (
      (small 4 refl, tt),
      (
        text account_pool (codes "java/lang/Object") refl refl,
        (
          text account_pool (codes "b") refl refl,
          (
            text account_pool (codes "I") refl refl,
            (
              text account_pool (codes "<init>") refl refl,
              (
                text account_pool (codes "(I)V") refl refl,
                (
                  text account_pool (codes "Code") refl refl,
                  (
                    (small 3 refl, small 11 refl, refl, of_nothing),
                    (
                      (small 7 refl, small 12 refl, refl, inr of_nothing),
                      (
                        text account_pool (codes "()V") refl refl,
                        (
                          (small 1 refl, small 14 refl, refl, of_int),
                          (
                            (small 5 refl, small 6 refl, refl, inl of_int),
                            (
                              text account_pool (codes "get") refl refl,
                              (
                                text account_pool (codes "()I") refl refl,
                                (text account_pool (codes "add") refl refl, tt),
                              ),
                            ),
                          ),
                        ),
                      ),
                    ),
                  ),
                ),
              ),
            ),
          ),
        ),
      ),
    ),
  ),
)

is_pool : IsPool account_pool
is_pool = record { few = below 17 65535 refl; placed = (refl, (refl, (refl, (refl, (refl, (refl, (refl, (refl, (refl, (refl, (refl, (refl, (refl, (refl, (refl, (refl, (refl, refl))))))))))))))))); entries = entries }

field_b : IsField account_pool (field_of 0 5 6)
field_b = record { flags = small 0 refl; name = small 5 refl; descriptor = small 6 refl; named = refl; typed = of_int; attributes = no_attributes account_pool }

method_init : IsMethod account_pool init_method
method_init = record {
  member = record { flags = small 1 refl; name = small 7 refl; descriptor = small 8 refl; named = refl; typed = takes_int; attributes = record { few = small 1 refl; each = (record { name = small 9 refl; named = refl; short = below 22 (2 ^ 32) refl }, tt) } };
  codes_fit = (_, code_of 2 2 account_init, refl, record { code = record { stack = small 2 refl; locals = small 2 refl; some = below 0 10 refl; short = omega (arith); few = small 0 refl; handlers = tt; attributes = no_attributes account_pool }; is = refl });
}

method_get : IsMethod account_pool get_method
method_get = record {
  member = record { flags = small 1 refl; name = small 15 refl; descriptor = small 16 refl; named = refl; typed = gives_int; attributes = record { few = small 1 refl; each = (record { name = small 9 refl; named = refl; short = below 17 (2 ^ 32) refl }, tt) } };
  codes_fit = (_, code_of 1 1 account_get, refl, record { code = record { stack = small 1 refl; locals = small 1 refl; some = below 0 5 refl; short = omega (arith); few = small 0 refl; handlers = tt; attributes = no_attributes account_pool }; is = refl });
}

method_add : IsMethod account_pool add_method
method_add = record {
  member = record { flags = small 1 refl; name = small 17 refl; descriptor = small 8 refl; named = refl; typed = takes_int; attributes = record { few = small 1 refl; each = (record { name = small 9 refl; named = refl; short = below 23 (2 ^ 32) refl }, tt) } };
  codes_fit = (_, code_of 3 2 account_add, refl, record { code = record { stack = small 3 refl; locals = small 2 refl; some = below 0 11 refl; short = omega (arith); few = small 0 refl; handlers = tt; attributes = no_attributes account_pool }; is = refl });
}

pub is_class_file : IsClassFile account
is_class_file = record {
  minor = small 0 refl;
  major = refl;
  pool = is_pool;
  flags = small 33 refl;
  this_class = small 1 refl;
  this_name = account_named;
  super_class = small 3 refl;
  super_name = refl;
  few_interfaces = small 0 refl;
  interfaces = tt;
  few_fields = small 1 refl;
  fields = (field_b, tt);
  few_methods = small 3 refl;
  methods = (method_init, (method_get, (method_add, tt)));
  attributes = no_attributes account_pool;
  distinct_fields = one_differs (λ a b. ¬ IsSameMember account_pool a b) _;
  distinct_methods = three_differ (λ a b. ¬ IsSameMember account_pool a b) _ _ _
      (λ e. let n : 558 ≡ 320 = ap sum_of e.0 in omega (arith, n))
      (λ e. let n : 558 ≡ 297 = ap sum_of e.0 in omega (arith, n))
      (λ e. let n : 320 ≡ 297 = ap sum_of e.0 in omega (arith, n));
}

pub holds_bytes : HoldsBytes account
holds_bytes = ((bytes_in (code_attribute 2 2 account_init) refl, tt), ((bytes_in (code_attribute 1 1 account_get) refl, tt), ((bytes_in (code_attribute 3 2 account_add) refl, tt), tt)))
