use Rattle.hm_names.proofs.WorkedRows as rows
use Rattle.hm_names.proofs.laws.worked_modules.Goals as goal

pub returns : goal.returns
returns c = record {
  not_exported = rows.not_exported;
  duplicate = rows.duplicate;
  no_duplicate = rows.no_duplicate;
  no_binding = rows.no_binding;
  unbound = rows.unbound;
  hidden = rows.hidden;
  ambiguous = rows.ambiguous;
  clash = rows.clash;
  whole = rows.whole;
  not_imported = rows.not_imported;
  non_linear = rows.non_linear;
  arity = rows.arity;
  clause_length = rows.clause_length;
  recursive = rows.recursive;
  expansion = rows.expansion;
  kept = rows.kept;
  left_out = rows.left_out;
  pattern = rows.pattern;
  binder = rows.binder;
  no_capture = rows.no_capture;
}
