use Rattle.std.proofs.Common.{◌≡◌, ◌∙◌, ◌++◌, ◌+◌, ap, append_assoc, drop, map, refl, subst, sym}
use Rattle.hm_syntax.specs.Lists.{alternatives, bodies, declarations, expressions}
use Rattle.hm_syntax.specs.Views.OfExpressions.{expression_of}
use Rattle.hm_names.proofs.Rows.{past, unrolled}
use Rattle.hm_messages_arguments.specs.Applied.{alternative_applied, alternatives_applied, applied_of, applied_to, bodies_applied, bodies_of_applied, declaration_applied, declarations_applied, expressions_applied, guard_applied, list_applied, right_side_applied}
use Rattle.hm_messages_arguments.proofs.AppliedLists.{bodies_are, both_added, both_of, row_end, row_more}
use Rattle.hm_messages_arguments.proofs.applied.+exprs.Goals as goal

pub add_rhs-returns : goal.add_rhs-returns
add_rhs-returns t c =
    let gs = c.rhs.inside.parts.items in
    let ds = c.rhs.inside.local.items in
    let old = map applied_of c.args.out.now.items in
    let middle = map applied_of c.add_bodies.new.out.items in
    let new = map applied_of c.add_list.new.out.items in
    let first : middle ≡ old ++ bodies_applied (bodies gs) =
    subst (λ l. middle ≡ old ++ bodies_of_applied l) c.deref.ensures.value c.in_ok-add_bodies.ensures ∙ ap (λ l. old ++ l) (bodies_are gs) in
    let second : new ≡ middle ++ list_applied ds = subst (λ l. new ≡ middle ++ list_applied l) c.deref-2.ensures.value c.in_ok-add_list.ensures in
    subst (λ r. new ≡ old ++ right_side_applied r) c.rhs.view_is
    (second ∙ (ap (λ l. l ++ list_applied ds) first ∙ append_assoc old (bodies_applied (bodies gs)) (list_applied ds)))

pub add_exprs-row-preserved : goal.add_exprs-row-preserved
add_exprs-row-preserved t c =
    let row = c.args.row.now in
    let i = c.row.expr-index in
    row_more (map applied_of c.row.out.items) (map applied_of c.add_expr.new.out.items) (applied_to 0 c.expr-item.result) (expressions_applied (expressions (drop (i + 1) row))) (expressions_applied (expressions (drop i row))) _
    (ap (λ l. expressions_applied (expressions l)) (unrolled row i c.expr-item.result c.row-test.true c.expr-item.is)) c.row.invariant c.in_ok-add_expr.ensures

pub add_exprs-returns : goal.add_exprs-returns
add_exprs-returns t c = row_end (map applied_of c.row.out.items) _ _ (ap (λ l. expressions_applied (expressions l)) (past c.args.row.now c.row.expr-index c.row-test.false)) c.row.invariant

pub add_bodies-row-preserved : goal.add_bodies-row-preserved
add_bodies-row-preserved t c =
    let row = c.args.row.now in
    let i = c.row.part-index in
    let part = c.part-item.result in
    let old = map applied_of c.row.out.items in
    let new = map applied_of c.add_expr.new.out.items in
    row_more old new (guard_applied part.0 ++ applied_to 0 part.1) (bodies_of_applied (drop (i + 1) row)) (bodies_of_applied (drop i row)) _ (ap bodies_of_applied (unrolled row i part c.row-test.true c.part-item.is)) c.row.invariant
    (both_added old (map applied_of c.add_guard.new.out.items) new (guard_applied part.0) (applied_to 0 part.1) c.in_ok-add_guard.ensures c.in_ok-add_expr.ensures)

pub add_bodies-returns : goal.add_bodies-returns
add_bodies-returns t c = row_end (map applied_of c.row.out.items) _ _ (ap bodies_of_applied (past c.args.row.now c.row.part-index c.row-test.false)) c.row.invariant

pub add_list-row-preserved : goal.add_list-row-preserved
add_list-row-preserved t c =
    let row = c.args.decls.now in
    let i = c.row.decl-index in
    row_more (map applied_of c.row.out.items) (map applied_of c.add_decl.new.out.items) (declaration_applied c.decl-item.result) (declarations_applied (declarations (drop (i + 1) row))) (declarations_applied (declarations (drop i row))) _
    (ap (λ l. declarations_applied (declarations l)) (unrolled row i c.decl-item.result c.row-test.true c.decl-item.is)) c.row.invariant c.in_ok-add_decl.ensures

pub add_list-returns : goal.add_list-returns
add_list-returns t c = row_end (map applied_of c.row.out.items) _ _ (ap (λ l. declarations_applied (declarations l)) (past c.args.decls.now c.row.decl-index c.row-test.false)) c.row.invariant

pub add_expr-returns-in_ok-add_expr-in-Apply-2 : goal.add_expr-returns-in_ok-add_expr-in-Apply-2
add_expr-returns-in_ok-add_expr-in-Apply-2 t c =
    let old = map applied_of c.args.out.now.items in
    let new = map applied_of c.add_expr-in-Apply.new.out.items in
    subst (λ d. new ≡ old ++ applied_to c.args.arguments d) (ap expression_of (sym c.in-Apply.is) ∙ c.expr.view_is)
    (subst (λ k. new ≡ old ++ (applied_to k c.in-Apply.function.value ++ applied_to 0 c.in-Apply.argument.value)) c.in_ok-one_more-in-Apply.ensures
    (both_of (λ x. applied_to c.in_ok-one_more-in-Apply.field-0 x) (λ x. applied_to 0 x) old (map applied_of c.add_expr.new.out.items) new _ c.in-Apply.function.value _ c.in-Apply.argument.value c.deref.ensures c.deref-in-Apply.ensures c.in_ok-add_expr-in-Apply.ensures c.in_ok-add_expr-in-Apply-2.ensures))

pub add_expr-returns-in_ok-add_expr-in-Let : goal.add_expr-returns-in_ok-add_expr-in-Let
add_expr-returns-in_ok-add_expr-in-Let t c =
    let old = map applied_of c.args.out.now.items in
    let new = map applied_of c.add_expr-in-Let.new.out.items in
    subst (λ d. new ≡ old ++ applied_to c.args.arguments d) (ap expression_of (sym c.in-Let.is) ∙ c.expr.view_is)
    (both_of list_applied (λ x. applied_to 0 x) old (map applied_of c.add_list.new.out.items) new _ c.in-Let.decls.items _ c.in-Let.body.value c.deref-in-Let.ensures.value c.deref-in-Let-2.ensures c.in_ok-add_list-in-Let.ensures c.in_ok-add_expr-in-Let.ensures)

pub add_expr-returns-in_ok-add_expr-in-If-3 : goal.add_expr-returns-in_ok-add_expr-in-If-3
add_expr-returns-in_ok-add_expr-in-If-3 t c =
    let old = map applied_of c.args.out.now.items in
    let new = map applied_of c.add_expr-in-If-3.new.out.items in
    subst (λ d. new ≡ old ++ applied_to c.args.arguments d) (ap expression_of (sym c.in-If.is) ∙ c.expr.view_is)
    (both_of (λ x. applied_to 0 x) (λ l. l) old (map applied_of c.add_expr-in-If.new.out.items) new _ c.in-If.condition.value _ (applied_to 0 c.in-If.yes.value ++ applied_to 0 c.in-If.no.value) c.deref-in-If.ensures refl c.in_ok-add_expr-in-If.ensures
    (both_of (λ x. applied_to 0 x) (λ x. applied_to 0 x) (map applied_of c.add_expr-in-If.new.out.items) (map applied_of c.add_expr-in-If-2.new.out.items) new _ c.in-If.yes.value _ c.in-If.no.value c.deref-in-If-2.ensures c.deref-in-If-3.ensures c.in_ok-add_expr-in-If-2.ensures c.in_ok-add_expr-in-If-3.ensures))

pub add_expr-returns-in_ok-add_alts-in-Case : goal.add_expr-returns-in_ok-add_alts-in-Case
add_expr-returns-in_ok-add_alts-in-Case t c =
    let old = map applied_of c.args.out.now.items in
    let new = map applied_of c.add_alts.new.out.items in
    subst (λ d. new ≡ old ++ applied_to c.args.arguments d) (ap expression_of (sym c.in-Case.is) ∙ c.expr.view_is)
    (both_of (λ x. applied_to 0 x) (λ l. alternatives_applied (alternatives l)) old (map applied_of c.add_expr-in-Case.new.out.items) new _ c.in-Case.scrutinee.value _ c.in-Case.alts.items c.deref-in-Case.ensures c.deref-in-Case-2.ensures.value c.in_ok-add_expr-in-Case.ensures c.in_ok-add_alts-in-Case.ensures)

pub add_alts-returns : goal.add_alts-returns
add_alts-returns t c = row_end (map applied_of c.row.out.items) _ _ (ap (λ l. alternatives_applied (alternatives l)) (past c.args.row.now c.row.alt-index c.row-test.false)) c.row.invariant

pub add_alts-row-preserved : goal.add_alts-row-preserved
add_alts-row-preserved t c =
    let row = c.args.row.now in
    let i = c.row.alt-index in
    let old = map applied_of c.row.out.items in
    let new = map applied_of c.add_rhs.new.out.items in
    row_more old new (alternative_applied c.alt-item.result) (alternatives_applied (alternatives (drop (i + 1) row))) (alternatives_applied (alternatives (drop i row))) _
    (ap (λ l. alternatives_applied (alternatives l)) (unrolled row i c.alt-item.result c.row-test.true c.alt-item.is)) c.row.invariant
    (subst (λ a. new ≡ old ++ alternative_applied a) c.alt.view_is c.in_ok-add_rhs.ensures)
