use Rattle.std.proofs.Common.{◌≡◌, List, ◌∙◌, sym, ap}
use Rattle.hm_syntax.specs.Names.{Identifier}
use Rattle.hm_names.specs.Variables.{pattern_variables}
use Rattle.hm_names.proofs.DeclaredPairs.{lent_adds}
use Rattle.hm_scope_imports.proofs.in_scope.add_variables.Goals as goal

pub returns : goal.returns
returns c =
    let all = c.as_slice.ensures ∙ (c.in_ok-add_pattern.ensures ∙ ap (λ (l : List Identifier). Rattle.std.proofs.Common.◌++◌ l (pattern_variables c.args.pat.now)) c.new-names.ensures) in
    lent_adds c.args.module_name.now c.args.pairs.now.items c.add_names.new.pairs.items c.as_slice.result.now (pattern_variables c.args.pat.now) all c.in_ok-add_names.ensures
