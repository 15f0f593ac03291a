use Rattle.serde_json.specs.View.{view}
use Rattle.hm_lsp_results.specs.Asked.{subject_of}
use Rattle.hm_lsp_results.proofs.DeclaredValues.{symbols_held}
use Rattle.hm_lsp_results.proofs.declared.symbols.Goals as goal

pub returns : goal.returns
returns c =
    symbols_held (subject_of c.args.asked.now) c.args.source c.in-Some.held.now c.as_slice-text.result.now c.in_ok-found.found.items c.as_slice.result.now (view c.in_ok-symbol_values.field-0) c.in-Some.ensures.lookup.3.0 c.in-Some.ensures.lookup.1
    c.as_slice-text.ensures.value c.in_ok-found.ensures c.as_slice.ensures.value c.in_ok-symbol_values.ensures
