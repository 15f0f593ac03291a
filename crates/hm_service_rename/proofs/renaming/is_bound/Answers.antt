use Rattle.std.proofs.Common.{◌≡◌, All, false, rules, subst}
use Rattle.std.proofs.lemmas.List.{take_all}
use Rattle.std.proofs.lemmas.List.Elements.{All-more}
use Rattle.hm_uses_references.specs.declared.finding.Reference.{Reference}
use Rattle.hm_service_rename.proofs.renaming.is_bound.Goals as goal

pub references-preserved : goal.references-preserved
references-preserved c =
    let none : Reference = record { source = 0; line = 0; column = 0; length = 0; binds = false } in
    All-more (λ (r : Reference). r.binds ≡ false) c.args.references.now c.references.reference-index none c.references-test.true c.references.invariant (search rules)

pub returns-clause-no : goal.returns-clause-no
returns-clause-no c = λ e. subst (All (λ (r : Reference). r.binds ≡ false)) (take_all c.references.reference-index c.args.references.now c.references-test.false) c.references.invariant
