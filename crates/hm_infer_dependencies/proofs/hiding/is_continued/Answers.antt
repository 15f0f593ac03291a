use Rattle.std.proofs.Common.{◌≡◌, ◌∙◌, sym, ap, true, not, subst, arith, ◌==◌}
use Rattle.hm_syntax.specs.Lists.{patterns}
use Rattle.hm_syntax.specs.Views.OfExpressions.{declaration_of}
use Rattle.hm_names.specs.Faults.Lists.{has_patterns}
use Rattle.hm_names.specs.Texts.{same_text}
use Rattle.hm_infer_dependencies.proofs.Rows.{has_patterns-is, continued_at, both_given}
use Rattle.hm_infer_dependencies.proofs.hiding.is_continued.Goals as goal

pub returns-then-not-is_empty : goal.returns-then-not-is_empty
returns-then-not-is_empty c =
    let same : same_text c.args.name.now.text c.in-Clause.other.text ≡ true =
    subst (λ y. same_text c.args.name.now.text y ≡ true) c.as_str-in-Clause.ensures (subst (λ x. same_text x c.as_str-in-Clause.result.now ≡ true) c.as_str.ensures (sym c.if-eq.ensures)) in
    let some : has_patterns (patterns c.args.pats.now) ≡ true = has_patterns-is c.args.pats.now ∙ ap not (sym c.if-not-is_empty.ensures) in
    let others : not c.is_empty-then-not-is_empty.result ≡ has_patterns (patterns c.in-Clause.others.items) =
    ap not (c.is_empty-then-not-is_empty.ensures ∙ ap (λ n. n == 0) (omega (arith, c.in-Clause.others.ok.0))) ∙ sym (has_patterns-is c.in-Clause.others.items) in
    others
    ∙ (sym (both_given (same_text c.args.name.now.text c.in-Clause.other.text) (has_patterns (patterns c.args.pats.now)) (has_patterns (patterns c.in-Clause.others.items)) same some)
    ∙ sym (continued_at c.args.name.now.text (patterns c.args.pats.now) c.args.rest.now c.in-Some.decl.now c.in-Clause.other (patterns c.in-Clause.others.items) c.in-Clause.rhs (sym c.in-Some.ensures.value) (sym c.decl.view_is ∙ ap declaration_of c.in-Clause.is)))
