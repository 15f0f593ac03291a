use Rattle.hm_typing.specs.Assumptions.{empty}
use Rattle.hm_typing.proofs.WorkedSources.{polymorphic_lambda_untyped, self_application_untyped, too_general_signature_untyped, escaping_signature_untyped, misuse_untyped, one_group_untyped}
use Rattle.hm_typing.proofs.FormsOfSources.{unsigned_recursion_untyped}
use Rattle.hm_typing.proofs.PatternsOfSources.{one_unit_untyped, letter_as_guard_untyped}
use Rattle.hm_typing.proofs.sources.sources_without_types.Goals as goal

pub returns : goal.returns
returns c = record {
  lambda_is_monomorphic = polymorphic_lambda_untyped empty;
  no_infinite_type = self_application_untyped empty;
  signature_too_general = too_general_signature_untyped empty;
  signature_escapes = escaping_signature_untyped;
  signature_is_used = misuse_untyped;
  not_one_group = one_group_untyped;
  recursion_is_monomorphic = unsigned_recursion_untyped empty;
  pattern_is_one_unit = one_unit_untyped;
  letter_as_guard = letter_as_guard_untyped;
}
