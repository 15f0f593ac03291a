use Rattle.std.proofs.Common.{List, ◌++◌, ap, ◌∙◌, subst}
use Rattle.hm_syntax.specs.Names.{Identifier}
use Rattle.hm_scope.specs.NeededSynonyms.{MarksNames}
use Rattle.hm_scope.specs.UsedTypes.{all_types_outside}
use Rattle.hm_scope.proofs.needed_synonyms.mark_used.Goals as goal

pub returns-clause-marked : goal.returns-clause-marked
returns-clause-marked c = λ m fs scope home once.
    let all = c.as_slice.ensures ∙ (c.in_ok-add_all_outside.ensures ∙ ap (λ (l : List Identifier). l ++ all_types_outside c.args.decls.now) c.new-used.ensures) in
    subst (λ (os : List Identifier). MarksNames m fs c.args.scoped.now.names.now c.mark_names.new.marks os) all (c.mark_names.ensures.marked m fs scope home once)
