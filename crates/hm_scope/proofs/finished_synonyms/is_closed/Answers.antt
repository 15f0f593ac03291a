use Rattle.std.proofs.Common.{◌∙◌, ap, ◌++◌, List}
use Rattle.std.proofs.lemmas.List.{take_all}
use Rattle.hm_syntax.specs.Names.{Identifier}
use Rattle.hm_names.specs.Variables.{type_variables}
use Rattle.hm_names.proofs.ClosedTypes.{among_more, not_among, all_among}
use Rattle.hm_scope.proofs.finished_synonyms.is_closed.Goals as goal

pub returns-then-not-contains : goal.returns-then-not-contains
returns-then-not-contains c =
    let used = c.as_slice-name-items.ensures ∙ (c.in_ok-add_type.ensures ∙ ap (λ (l : List Identifier). l ++ type_variables c.args.ty.now) c.new-used.ensures) in
    not_among c.args.variables.now c.as_slice-name-items.result.now (type_variables c.args.ty.now) c.used.name-index c.name-item.result c.as_str.result.now c.contains.result used c.used-test.true c.name-item.is c.as_str.ensures c.contains.ensures c.if-not-contains.true

pub used-preserved : goal.used-preserved
used-preserved c = among_more c.args.variables.now c.as_slice-name-items.result.now c.used.name-index c.name-item.result c.as_str.result.now c.contains.result c.used-test.true c.name-item.is c.as_str.ensures c.contains.ensures c.if-not-contains.false c.used.invariant

pub returns : goal.returns
returns c =
    let used = c.as_slice-name-items.ensures ∙ (c.in_ok-add_type.ensures ∙ ap (λ (l : List Identifier). l ++ type_variables c.args.ty.now) c.new-used.ensures) in
    all_among c.args.variables.now c.as_slice-name-items.result.now (type_variables c.args.ty.now) c.used.name-index used (take_all c.used.name-index c.as_slice-name-items.result.now c.used-test.false) c.used.invariant
