use Rattle.std.proofs.Common.{refl, rules}
use Rattle.hm_types_prelude.proofs.Tabled.{rows_by_test, is_interface}
use Rattle.hm_types_prelude.proofs.standard_prelude.prelude.Goals as goal

pub constructors-requires : goal.constructors-requires
constructors-requires c = rows_by_test _ refl refl

pub values-requires : goal.values-requires
values-requires c = rows_by_test _ refl refl

pub new-requires-2 : goal.new-requires-2
new-requires-2 c = is_interface _ _ _ _ _ (search rules) c.in_ok-types.ensures c.in_ok-synonyms.ensures c.in_ok-constructors.ensures c.in_ok-values.ensures
