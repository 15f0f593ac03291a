use Rattle.hm_names.specs.Variables.{pattern_variables}
use Rattle.hm_uses_symbols.proofs.Listed.{matched}
use Rattle.hm_uses_symbols.proofs.declared.add_matched.Goals as goal

pub returns : goal.returns
returns c =
    matched c.args.found.now.items c.add_names.new.found.items c.as_slice.result.now c.add_variables.new.names c.new-names.result (pattern_variables c.args.pat.now) c.in_ok-add_names.ensures c.as_slice.ensures
    c.in_ok-add_variables.ensures c.new-names.ensures
