use Rattle.hm_typing.proofs.WorkedSources.{polymorphic_let_typed, narrow_signature_typed, through_signature_typed, mutual_recursion_typed, partly_polymorphic_typed}
use Rattle.hm_typing.proofs.FormsOfSources.{typed_body_typed, case_of_text_typed, guarded_clause_typed, polymorphic_recursion_typed}
use Rattle.hm_typing.proofs.PatternsOfSources.{pattern_generalises_typed, matched_constructors_typed, guarded_pattern_typed}
use Rattle.hm_typing.proofs.sources.sources_with_types.Goals as goal

pub returns : goal.returns
returns c = record {
  polymorphic_let = polymorphic_let_typed;
  narrow_signature = narrow_signature_typed;
  through_signature = through_signature_typed;
  mutual_recursion_first = mutual_recursion_typed.0;
  mutual_recursion_second = mutual_recursion_typed.1;
  partly_polymorphic = partly_polymorphic_typed;
  typed_body = typed_body_typed;
  case_of_text = case_of_text_typed;
  guarded_clause = guarded_clause_typed;
  polymorphic_recursion = polymorphic_recursion_typed;
  pattern_generalises = pattern_generalises_typed;
  matched_constructors_first = matched_constructors_typed.0;
  matched_constructors_rest = matched_constructors_typed.1.0;
  matched_constructors_any = matched_constructors_typed.1.1;
  guarded_pattern_first = guarded_pattern_typed.0;
  guarded_pattern_second = guarded_pattern_typed.1;
}
