use Rattle.std.proofs.Common.{◌∙◌, refl, Contains, subst}
use Rattle.hm_scope.proofs.SynonymReferences.{marked_at, none_marked, position_found, position_none}
use Rattle.hm_scope.proofs.recursive_synonyms.is_marked.Goals as goal

pub returns-in-None : goal.returns-in-None
returns-in-None c = λ once.
    let none = position_none c.as_str.result.now c.args.names.now c.in-None.ensures in
    none_marked c.args.names.now c.args.marks.now c.args.name.now.text (subst (λ x. ¬ Contains c.args.names.now x) c.as_str.ensures none)

pub returns-then-place-marks : goal.returns-then-place-marks
returns-then-place-marks c = λ once.
    let found = position_found c.as_str.result.now c.args.names.now c.in-Some.place c.in-Some.ensures in
    marked_at c.args.names.now c.args.marks.now c.args.name.now.text c.in-Some.place _ once c.requires found.0 (found.1 ∙ c.as_str.ensures) refl
