use Rattle.std.proofs.Common.{◌≡◌, ap, refl, ◌∙◌}
use Rattle.hm_syntax.specs.Lists.{expressions, alternatives, declarations}
use Rattle.hm_uses.specs.Found.{expression_uses, expressions_uses, alternatives_uses, declaration_uses, declarations_uses}
use Rattle.hm_uses_declarations.specs.Walking.{Walking, all_of, home_of, alternative_uses, part_uses, parts_uses}
use Rattle.hm_uses_declarations.proofs.Steps.{row_more, alternatives_open}
use Rattle.hm_uses_declarations.proofs.walking.Walk.+exprs.Goals as goal

pub expr_row-row-preserved : goal.expr_row-row-preserved
expr_row-row-preserved t c = record {
  state = row_more (λ k gs. expression_uses k (all_of gs)) (λ k gs es. expressions_uses k (all_of gs) (expressions es)) (λ k gs x rest. refl) c.args.row.now c.row.expr-index c.expr-item.result c.row.self c.expr.new.self c.args.self.now c.row-test.true c.expr-item.is c.in_ok-expr.ensures c.row.invariant.known c.row.invariant.groups c.row.invariant.state;
  known = ap (λ (w : Walking). w.known) c.in_ok-expr.ensures ∙ c.row.invariant.known;
  groups = ap (λ (w : Walking). w.groups) c.in_ok-expr.ensures ∙ c.row.invariant.groups;
}

pub alt_row-row-preserved : goal.alt_row-row-preserved
alt_row-row-preserved t c = record {
  state = row_more (λ k gs. alternative_uses k (all_of gs)) (λ k gs bs. alternatives_uses k (all_of gs) (alternatives bs)) (alternatives_open) c.args.row.now c.row.alt-index c.alt-item.result c.row.self c.alt.new.self c.args.self.now c.row-test.true c.alt-item.is c.in_ok-alt.ensures c.row.invariant.known c.row.invariant.groups c.row.invariant.state;
  known = ap (λ (w : Walking). w.known) c.in_ok-alt.ensures ∙ c.row.invariant.known;
  groups = ap (λ (w : Walking). w.groups) c.in_ok-alt.ensures ∙ c.row.invariant.groups;
}

pub part_row-row-preserved : goal.part_row-row-preserved
part_row-row-preserved t c = record {
  state = row_more (λ k gs. part_uses k (all_of gs)) (λ k gs ps. parts_uses k (all_of gs) ps) (λ k gs x rest. refl) c.args.row.now c.row.part-index c.part-item.result c.row.self c.part.new.self c.args.self.now c.row-test.true c.part-item.is c.in_ok-part.ensures c.row.invariant.known c.row.invariant.groups c.row.invariant.state;
  known = ap (λ (w : Walking). w.known) c.in_ok-part.ensures ∙ c.row.invariant.known;
  groups = ap (λ (w : Walking). w.groups) c.in_ok-part.ensures ∙ c.row.invariant.groups;
}

pub decl_row-row-preserved : goal.decl_row-row-preserved
decl_row-row-preserved t c = record {
  state = row_more (λ k gs. declaration_uses k (all_of gs) (home_of gs)) (λ k gs ds. declarations_uses k (all_of gs) (home_of gs) (declarations ds)) (λ k gs x rest. refl) c.args.row.now c.row.decl-index c.decl-item.result c.row.self c.decl.new.self c.args.self.now c.row-test.true c.decl-item.is c.in_ok-decl.ensures c.row.invariant.known c.row.invariant.groups c.row.invariant.state;
  known = ap (λ (w : Walking). w.known) c.in_ok-decl.ensures ∙ c.row.invariant.known;
  groups = ap (λ (w : Walking). w.groups) c.in_ok-decl.ensures ∙ c.row.invariant.groups;
}
