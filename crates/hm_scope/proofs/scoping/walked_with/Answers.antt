use Rattle.hm_scope.proofs.ModuleAnswers.{are_walked}
use Rattle.hm_scope.proofs.scoping.walked_with.Goals as goal

pub returns : goal.returns
returns c = λ fs scope tables edges own_types.
    are_walked c.args.program.now fs c.args.scope.now c.args.tables.now c.add_synonyms.new.tables c.args.synonyms.now.exported.now _ _ _ scope tables
    c.in_ok-add_synonyms.ensures.types c.in_ok-add_synonyms.ensures.constructors own_types (λ w. c.in_ok-add_synonyms.ensures.synonyms fs scope tables edges w)
    c.in_ok-decls.ensures.faults c.in_ok-decls.ensures.trees c.in_ok-kept.ensures
