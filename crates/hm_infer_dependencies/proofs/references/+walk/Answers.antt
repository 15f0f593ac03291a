use Rattle.std.proofs.Common.{◌≡◌, ◌⊎◌, ⊎_elim, inl, inr, Some, None, ◌+◌, ◌∷◌, drop, sym, ap, ◌∙◌, subst, rules}
use Rattle.hm_syntax.specs.Lists.{patterns, expressions, declarations, alternatives, body, bodies}
use Rattle.hm_syntax.specs.Trees.{no_bodies}
use Rattle.hm_syntax.specs.Views.OfExpressions.{expression_of, declaration_of}
use Rattle.hm_infer_dependencies.specs.References.{pattern_variables, patterns_variables, list_variables, Refers, ExpressionsRefer, DeclarationRefers, DeclarationsRefer, RightSideRefers, BodiesRefer, AlternativeRefers, AlternativesRefer}
use Rattle.hm_infer_dependencies.specs.Walks.{Hides, Walks}
use Rattle.hm_infer_dependencies.proofs.Rows.{unrolled, past, expression_falls, declaration_falls, alternative_falls, part_falls, bodies_cons, bodies_parts}
use Rattle.hm_infer_dependencies.proofs.Walking.{Walks-both, Walks-same, Walks-scope, noted_below, StillWalks-step, StillWalks-end}
use Rattle.hm_infer_dependencies.proofs.references.+walk.Goals as goal

pub find_in_alts-returns : goal.find_in_alts-returns
find_in_alts-returns t c =
    StillWalks-end c.args.numbers.now _ _ _ _ _ _ (λ v h. subst (λ rest. AlternativesRefer v (alternatives rest)) (past _ _ c.loop-alt-test.false) h) c.loop-alt.invariant

pub find_in_decl-show-requires : goal.find_in_decl-show-requires
find_in_decl-show-requires t c =
    noted_below c.args.numbers.now _ _ _ c.find_in_rhs.new.shown c.new-noted.result.items _ c.deref-in-Clause.result.now c.new-noted.ensures.items c.deref-in-Clause.ensures.value c.in_ok-hide_patterns-in-Clause.ensures c.in_ok-find_in_rhs-in-Clause.ensures.same

pub find_in_decl-returns-in_ok-find_in_rhs-in-Clause :
    goal.find_in_decl-returns-in_ok-find_in_rhs-in-Clause
find_in_decl-returns-in_ok-find_in_rhs-in-Clause t c =
    let nodes = c.args.numbers.now in
    let h : Hides nodes (patterns_variables (patterns c.in-Clause.pats.items)) c.args.shown.now c.hide_patterns.new.shown c.new-noted.result.items c.hide_patterns.new.noted.items =
    subst (λ ps. Hides nodes (patterns_variables (patterns ps)) c.args.shown.now c.hide_patterns.new.shown c.new-noted.result.items c.hide_patterns.new.noted.items) c.deref.ensures.value c.in_ok-hide_patterns-in-Clause.ensures in
    subst (λ d. Walks nodes (λ y. DeclarationRefers y d) c.args.shown.now c.show.new.shown c.args.found.now.items c.find_in_rhs.new.found.items) (ap declaration_of (sym c.in-Clause.is) ∙ c.decl.view_is)
    (Walks-scope nodes (patterns_variables (patterns c.in-Clause.pats.items)) (λ y. RightSideRefers y c.in-Clause.rhs) c.args.shown.now c.hide_patterns.new.shown c.find_in_rhs.new.shown c.show.new.shown c.new-noted.result.items c.hide_patterns.new.noted.items c.deref-in-Clause.result.now _ _
    c.new-noted.ensures.items c.deref-in-Clause.ensures.value h c.in_ok-find_in_rhs-in-Clause.ensures c.show.ensures)

pub find_in_decl-returns-in_ok-find_in_rhs-in-Pattern :
    goal.find_in_decl-returns-in_ok-find_in_rhs-in-Pattern
find_in_decl-returns-in_ok-find_in_rhs-in-Pattern t c =
    subst (λ d. Walks c.args.numbers.now (λ y. DeclarationRefers y d) c.args.shown.now c.find_in_rhs-in-Pattern.new.shown c.args.found.now.items c.find_in_rhs-in-Pattern.new.found.items) (ap declaration_of (sym c.in-Pattern.is) ∙ c.decl.view_is)
    c.in_ok-find_in_rhs-in-Pattern.ensures

pub find_in_decls-find_in_decl-requires : goal.find_in_decls-find_in_decl-requires
find_in_decls-find_in_decl-requires t c = search (rules, declaration_falls _ _ _ c.loop-decl-test.true c.decl-item.is)

pub find_in_decls-loop-decl-preserved : goal.find_in_decls-loop-decl-preserved
find_in_decls-loop-decl-preserved t c =
    let e : drop c.loop-decl.decl-index c.args.decls.now ≡ c.decl-item.result ∷ drop (c.loop-decl.decl-index + 1) c.args.decls.now = unrolled c.args.decls.now c.loop-decl.decl-index c.decl-item.result c.loop-decl-test.true c.decl-item.is in
    StillWalks-step c.args.numbers.now (λ y. DeclarationsRefer y (declarations (drop c.loop-decl.decl-index c.args.decls.now))) (λ y. DeclarationRefers y c.decl-item.result) (λ y. DeclarationsRefer y (declarations (drop (c.loop-decl.decl-index + 1) c.args.decls.now))) (λ y. DeclarationsRefer y (declarations c.args.decls.now)) _ c.loop-decl.shown _ _ c.loop-decl.found.items _
    (λ v h. subst (λ ds. DeclarationsRefer v (declarations ds)) (sym e) h) (λ v h. subst (λ ds. DeclarationsRefer v (declarations ds)) e h) c.in_ok-find_in_decl.ensures c.loop-decl.invariant

pub find_in_decls-returns : goal.find_in_decls-returns
find_in_decls-returns t c =
    StillWalks-end c.args.numbers.now _ _ _ _ _ _ (λ v h. subst (λ rest. DeclarationsRefer v (declarations rest)) (past _ _ c.loop-decl-test.false) h) c.loop-decl.invariant

pub find_in_expr-show-requires : goal.find_in_expr-show-requires
find_in_expr-show-requires t c =
    noted_below c.args.numbers.now _ _ _ c.find_in_expr-in-Lambda.new.shown c.new-noted.result.items _ c.deref-in-Lambda-3.result.now c.new-noted.ensures.items c.deref-in-Lambda-3.ensures.value c.in_ok-hide_patterns-in-Lambda.ensures c.in_ok-find_in_expr-in-Lambda.ensures.same

pub find_in_expr-show-requires-in-Let : goal.find_in_expr-show-requires-in-Let
find_in_expr-show-requires-in-Let t c =
    noted_below c.args.numbers.now _ _ _ c.find_in_expr-in-Let.new.shown c.new-noted-in-Let.result.items _ c.deref-in-Let-4.result.now c.new-noted-in-Let.ensures.items c.deref-in-Let-4.ensures.value c.in_ok-hide_list-in-Let.ensures (c.in_ok-find_in_expr-in-Let.ensures.same ∙ c.in_ok-find_in_decls-in-Let.ensures.same)

pub find_in_expr-returns-in_ok-find_name-in-Var : goal.find_in_expr-returns-in_ok-find_name-in-Var
find_in_expr-returns-in_ok-find_name-in-Var t c =
    subst (λ e. Walks c.args.numbers.now (λ y. Refers y e) c.args.shown.now c.args.shown.now c.args.found.now.items c.find_name.new.found.items) (ap expression_of (sym c.in-Var.is) ∙ c.expr.view_is)
    (c.in_ok-find_name-in-Var.ensures)

pub find_in_expr-returns-in_ok-find_in_expr-in-Apply-2 : goal.find_in_expr-returns-in_ok-find_in_expr-in-Apply-2
find_in_expr-returns-in_ok-find_in_expr-in-Apply-2 t c =
    subst (λ e. Walks c.args.numbers.now (λ y. Refers y e) c.args.shown.now c.find_in_expr-in-Apply.new.shown c.args.found.now.items c.find_in_expr-in-Apply.new.found.items) (ap expression_of (sym c.in-Apply.is) ∙ c.expr.view_is)
    (Walks-both c.args.numbers.now (λ y. Refers y c.in-Apply.function.value) (λ y. Refers y c.in-Apply.argument.value) _ c.find_in_expr.new.shown _ _ c.find_in_expr.new.found.items _
    (subst (λ e. Walks c.args.numbers.now (λ y. Refers y e) c.args.shown.now c.find_in_expr.new.shown c.args.found.now.items c.find_in_expr.new.found.items) c.deref.ensures c.in_ok-find_in_expr-in-Apply.ensures)
    (subst (λ e. Walks c.args.numbers.now (λ y. Refers y e) c.find_in_expr.new.shown c.find_in_expr-in-Apply.new.shown c.find_in_expr.new.found.items c.find_in_expr-in-Apply.new.found.items) c.deref-in-Apply.ensures c.in_ok-find_in_expr-in-Apply-2.ensures))

pub find_in_expr-returns-in_ok-find_in_expr-in-Lambda : goal.find_in_expr-returns-in_ok-find_in_expr-in-Lambda
find_in_expr-returns-in_ok-find_in_expr-in-Lambda t c =
    let h : Hides c.args.numbers.now (patterns_variables (patterns c.in-Lambda.pats.items)) c.args.shown.now c.hide_patterns.new.shown c.new-noted.result.items c.hide_patterns.new.noted.items =
    subst (λ ps. Hides c.args.numbers.now (patterns_variables (patterns ps)) c.args.shown.now c.hide_patterns.new.shown c.new-noted.result.items c.hide_patterns.new.noted.items) c.deref-in-Lambda.ensures.value c.in_ok-hide_patterns-in-Lambda.ensures in
    subst (λ e. Walks c.args.numbers.now (λ y. Refers y e) c.args.shown.now c.show.new.shown c.args.found.now.items c.find_in_expr-in-Lambda.new.found.items) (ap expression_of (sym c.in-Lambda.is) ∙ c.expr.view_is)
    (Walks-scope c.args.numbers.now (patterns_variables (patterns c.in-Lambda.pats.items)) (λ y. Refers y c.in-Lambda.body.value) c.args.shown.now c.hide_patterns.new.shown c.find_in_expr-in-Lambda.new.shown c.show.new.shown c.new-noted.result.items c.hide_patterns.new.noted.items c.deref-in-Lambda-3.result.now _ _
    c.new-noted.ensures.items c.deref-in-Lambda-3.ensures.value h (subst (λ e. Walks c.args.numbers.now (λ y. Refers y e) c.hide_patterns.new.shown c.find_in_expr-in-Lambda.new.shown c.args.found.now.items c.find_in_expr-in-Lambda.new.found.items) c.deref-in-Lambda-2.ensures c.in_ok-find_in_expr-in-Lambda.ensures) c.show.ensures)

pub find_in_expr-returns-in_ok-find_in_expr-in-Let : goal.find_in_expr-returns-in_ok-find_in_expr-in-Let
find_in_expr-returns-in_ok-find_in_expr-in-Let t c =
    let h : Hides c.args.numbers.now (list_variables (declarations c.in-Let.decls.items)) c.args.shown.now c.hide_list.new.shown c.new-noted-in-Let.result.items c.hide_list.new.noted.items =
    subst (λ ds. Hides c.args.numbers.now (list_variables (declarations ds)) c.args.shown.now c.hide_list.new.shown c.new-noted-in-Let.result.items c.hide_list.new.noted.items) c.deref-in-Let.ensures.value c.in_ok-hide_list-in-Let.ensures in
    let w : Walks c.args.numbers.now (λ y. DeclarationsRefer y (declarations c.in-Let.decls.items)) c.hide_list.new.shown c.find_in_decls.new.shown c.args.found.now.items c.find_in_decls.new.found.items =
    subst (λ ds. Walks c.args.numbers.now (λ y. DeclarationsRefer y (declarations ds)) c.hide_list.new.shown c.find_in_decls.new.shown c.args.found.now.items c.find_in_decls.new.found.items) c.deref-in-Let-2.ensures.value c.in_ok-find_in_decls-in-Let.ensures in
    subst (λ e. Walks c.args.numbers.now (λ y. Refers y e) c.args.shown.now c.show-in-Let.new.shown c.args.found.now.items c.find_in_expr-in-Let.new.found.items) (ap expression_of (sym c.in-Let.is) ∙ c.expr.view_is)
    (Walks-scope c.args.numbers.now (list_variables (declarations c.in-Let.decls.items)) (λ y. DeclarationsRefer y (declarations c.in-Let.decls.items) ⊎ Refers y c.in-Let.body.value) c.args.shown.now c.hide_list.new.shown c.find_in_expr-in-Let.new.shown c.show-in-Let.new.shown c.new-noted-in-Let.result.items c.hide_list.new.noted.items c.deref-in-Let-4.result.now _ _
    c.new-noted-in-Let.ensures.items c.deref-in-Let-4.ensures.value h
    (Walks-both c.args.numbers.now (λ y. DeclarationsRefer y (declarations c.in-Let.decls.items)) (λ y. Refers y c.in-Let.body.value) _ c.find_in_decls.new.shown _ _ c.find_in_decls.new.found.items _ w (subst (λ e. Walks c.args.numbers.now (λ y. Refers y e) c.find_in_decls.new.shown c.find_in_expr-in-Let.new.shown c.find_in_decls.new.found.items c.find_in_expr-in-Let.new.found.items) c.deref-in-Let-3.ensures c.in_ok-find_in_expr-in-Let.ensures)) c.show-in-Let.ensures)

pub find_in_expr-returns-in_ok-find_in_expr-in-If-3 : goal.find_in_expr-returns-in_ok-find_in_expr-in-If-3
find_in_expr-returns-in_ok-find_in_expr-in-If-3 t c =
    subst (λ e. Walks c.args.numbers.now (λ y. Refers y e) c.args.shown.now c.find_in_expr-in-If-3.new.shown c.args.found.now.items c.find_in_expr-in-If-3.new.found.items) (ap expression_of (sym c.in-If.is) ∙ c.expr.view_is)
    (Walks-both c.args.numbers.now (λ y. Refers y c.in-If.condition.value) (λ y. Refers y c.in-If.yes.value ⊎ Refers y c.in-If.no.value) _ c.find_in_expr-in-If.new.shown _ _ c.find_in_expr-in-If.new.found.items _
    (subst (λ e. Walks c.args.numbers.now (λ y. Refers y e) c.args.shown.now c.find_in_expr-in-If.new.shown c.args.found.now.items c.find_in_expr-in-If.new.found.items) c.deref-in-If.ensures c.in_ok-find_in_expr-in-If.ensures)
    (Walks-both c.args.numbers.now (λ y. Refers y c.in-If.yes.value) (λ y. Refers y c.in-If.no.value) _ c.find_in_expr-in-If-2.new.shown _ _ c.find_in_expr-in-If-2.new.found.items _
    (subst (λ e. Walks c.args.numbers.now (λ y. Refers y e) c.find_in_expr-in-If.new.shown c.find_in_expr-in-If-2.new.shown c.find_in_expr-in-If.new.found.items c.find_in_expr-in-If-2.new.found.items) c.deref-in-If-2.ensures c.in_ok-find_in_expr-in-If-2.ensures)
    (subst (λ e. Walks c.args.numbers.now (λ y. Refers y e) c.find_in_expr-in-If-2.new.shown c.find_in_expr-in-If-3.new.shown c.find_in_expr-in-If-2.new.found.items c.find_in_expr-in-If-3.new.found.items) c.deref-in-If-3.ensures c.in_ok-find_in_expr-in-If-3.ensures)))

pub find_in_expr-returns-in_ok-find_in_alts-in-Case : goal.find_in_expr-returns-in_ok-find_in_alts-in-Case
find_in_expr-returns-in_ok-find_in_alts-in-Case t c =
    subst (λ e. Walks c.args.numbers.now (λ y. Refers y e) c.args.shown.now c.find_in_alts.new.shown c.args.found.now.items c.find_in_alts.new.found.items) (ap expression_of (sym c.in-Case.is) ∙ c.expr.view_is)
    (Walks-both c.args.numbers.now (λ y. Refers y c.in-Case.scrutinee.value) (λ y. AlternativesRefer y (alternatives c.in-Case.alts.items)) _ c.find_in_expr-in-Case.new.shown _ _ c.find_in_expr-in-Case.new.found.items _
    (subst (λ e. Walks c.args.numbers.now (λ y. Refers y e) c.args.shown.now c.find_in_expr-in-Case.new.shown c.args.found.now.items c.find_in_expr-in-Case.new.found.items) c.deref-in-Case.ensures c.in_ok-find_in_expr-in-Case.ensures)
    (subst (λ es. Walks c.args.numbers.now (λ y. AlternativesRefer y (alternatives es)) c.find_in_expr-in-Case.new.shown c.find_in_alts.new.shown c.find_in_expr-in-Case.new.found.items c.find_in_alts.new.found.items) c.deref-in-Case-2.ensures.value c.in_ok-find_in_alts-in-Case.ensures))

pub find_in_expr-returns-in_ok-find_in_exprs-in-Tuple : goal.find_in_expr-returns-in_ok-find_in_exprs-in-Tuple
find_in_expr-returns-in_ok-find_in_exprs-in-Tuple t c =
    subst (λ e. Walks c.args.numbers.now (λ y. Refers y e) c.args.shown.now c.find_in_exprs.new.shown c.args.found.now.items c.find_in_exprs.new.found.items) (ap expression_of (sym c.in-Tuple.is) ∙ c.expr.view_is)
    (subst (λ es. Walks c.args.numbers.now (λ y. ExpressionsRefer y (expressions es)) c.args.shown.now c.find_in_exprs.new.shown c.args.found.now.items c.find_in_exprs.new.found.items) c.deref-in-Tuple.ensures.value c.in_ok-find_in_exprs-in-Tuple.ensures)

pub find_in_expr-returns-in_ok-find_in_exprs-in-List : goal.find_in_expr-returns-in_ok-find_in_exprs-in-List
find_in_expr-returns-in_ok-find_in_exprs-in-List t c =
    subst (λ e. Walks c.args.numbers.now (λ y. Refers y e) c.args.shown.now c.find_in_exprs-in-List.new.shown c.args.found.now.items c.find_in_exprs-in-List.new.found.items) (ap expression_of (sym c.in-List.is) ∙ c.expr.view_is)
    (subst (λ es. Walks c.args.numbers.now (λ y. ExpressionsRefer y (expressions es)) c.args.shown.now c.find_in_exprs-in-List.new.shown c.args.found.now.items c.find_in_exprs-in-List.new.found.items) c.deref-in-List.ensures.value c.in_ok-find_in_exprs-in-List.ensures)

pub find_in_expr-returns-in_ok-find_in_expr-in-Typed : goal.find_in_expr-returns-in_ok-find_in_expr-in-Typed
find_in_expr-returns-in_ok-find_in_expr-in-Typed t c =
    subst (λ e. Walks c.args.numbers.now (λ y. Refers y e) c.args.shown.now c.find_in_expr-in-Typed.new.shown c.args.found.now.items c.find_in_expr-in-Typed.new.found.items) (ap expression_of (sym c.in-Typed.is) ∙ c.expr.view_is)
    ((subst (λ e. Walks c.args.numbers.now (λ y. Refers y e) c.args.shown.now c.find_in_expr-in-Typed.new.shown c.args.found.now.items c.find_in_expr-in-Typed.new.found.items) c.deref-in-Typed.ensures c.in_ok-find_in_expr-in-Typed.ensures))

pub find_in_exprs-find_in_expr-requires : goal.find_in_exprs-find_in_expr-requires
find_in_exprs-find_in_expr-requires t c = search (rules, expression_falls _ _ _ c.loop-expr-test.true c.expr-item.is)

pub find_in_exprs-loop-expr-preserved : goal.find_in_exprs-loop-expr-preserved
find_in_exprs-loop-expr-preserved t c =
    let e : drop c.loop-expr.expr-index c.args.exprs.now ≡ c.expr-item.result ∷ drop (c.loop-expr.expr-index + 1) c.args.exprs.now = unrolled c.args.exprs.now c.loop-expr.expr-index c.expr-item.result c.loop-expr-test.true c.expr-item.is in
    StillWalks-step c.args.numbers.now (λ y. ExpressionsRefer y (expressions (drop c.loop-expr.expr-index c.args.exprs.now))) (λ y. Refers y c.expr-item.result) (λ y. ExpressionsRefer y (expressions (drop (c.loop-expr.expr-index + 1) c.args.exprs.now))) (λ y. ExpressionsRefer y (expressions c.args.exprs.now)) _ c.loop-expr.shown _ _ c.loop-expr.found.items _
    (λ v h. subst (λ es. ExpressionsRefer v (expressions es)) (sym e) h) (λ v h. subst (λ es. ExpressionsRefer v (expressions es)) e h) c.in_ok-find_in_expr.ensures c.loop-expr.invariant

pub find_in_exprs-returns : goal.find_in_exprs-returns
find_in_exprs-returns t c =
    StillWalks-end c.args.numbers.now _ _ _ _ _ _ (λ v h. subst (λ rest. ExpressionsRefer v (expressions rest)) (past _ _ c.loop-expr-test.false) h) c.loop-expr.invariant

pub find_in_rhs-show-requires : goal.find_in_rhs-show-requires
find_in_rhs-show-requires t c =
    noted_below c.args.numbers.now _ _ _ c.find_in_decls.new.shown c.new-noted.result.items _ c.deref-4.result.now c.new-noted.ensures.items c.deref-4.ensures.value c.in_ok-hide_list.ensures (c.in_ok-find_in_decls.ensures.same ∙ c.in_ok-find_in_parts.ensures.same)

pub find_in_rhs-returns : goal.find_in_rhs-returns
find_in_rhs-returns t c =
    let h : Hides c.args.numbers.now (list_variables (declarations c.rhs.inside.local.items)) c.args.shown.now c.hide_list.new.shown c.new-noted.result.items c.hide_list.new.noted.items =
    subst (λ ds. Hides c.args.numbers.now (list_variables (declarations ds)) c.args.shown.now c.hide_list.new.shown c.new-noted.result.items c.hide_list.new.noted.items) c.deref.ensures.value c.in_ok-hide_list.ensures in
    let v : Walks c.args.numbers.now (λ y. BodiesRefer y (bodies c.rhs.inside.parts.items)) c.hide_list.new.shown c.find_in_parts.new.shown c.args.found.now.items c.find_in_parts.new.found.items =
    subst (λ gs. Walks c.args.numbers.now (λ y. BodiesRefer y (bodies gs)) c.hide_list.new.shown c.find_in_parts.new.shown c.args.found.now.items c.find_in_parts.new.found.items) c.deref-2.ensures.value c.in_ok-find_in_parts.ensures in
    let w : Walks c.args.numbers.now (λ y. DeclarationsRefer y (declarations c.rhs.inside.local.items)) c.find_in_parts.new.shown c.find_in_decls.new.shown c.find_in_parts.new.found.items c.find_in_decls.new.found.items =
    subst (λ ds. Walks c.args.numbers.now (λ y. DeclarationsRefer y (declarations ds)) c.find_in_parts.new.shown c.find_in_decls.new.shown c.find_in_parts.new.found.items c.find_in_decls.new.found.items) c.deref-3.ensures.value c.in_ok-find_in_decls.ensures in
    subst (λ r. Walks c.args.numbers.now (λ y. RightSideRefers y r) c.args.shown.now c.show.new.shown c.args.found.now.items c.find_in_decls.new.found.items) c.rhs.view_is
    (Walks-scope c.args.numbers.now (list_variables (declarations c.rhs.inside.local.items)) (λ y. BodiesRefer y (bodies c.rhs.inside.parts.items) ⊎ DeclarationsRefer y (declarations c.rhs.inside.local.items)) c.args.shown.now c.hide_list.new.shown c.find_in_decls.new.shown c.show.new.shown c.new-noted.result.items c.hide_list.new.noted.items c.deref-4.result.now _ _
    c.new-noted.ensures.items c.deref-4.ensures.value h
    (Walks-both c.args.numbers.now (λ y. BodiesRefer y (bodies c.rhs.inside.parts.items)) (λ y. DeclarationsRefer y (declarations c.rhs.inside.local.items)) _ c.find_in_parts.new.shown _ _ c.find_in_parts.new.found.items _ v w) c.show.ensures)

pub find_in_alts-find_in_alt-requires : goal.find_in_alts-find_in_alt-requires
find_in_alts-find_in_alt-requires t c =
    search (rules, alternative_falls _ _ _ c.loop-alt-test.true c.alt-item.is)

pub find_in_alts-loop-alt-preserved : goal.find_in_alts-loop-alt-preserved
find_in_alts-loop-alt-preserved t c =
    let e : drop c.loop-alt.alt-index c.args.alts.now ≡ c.alt-item.result ∷ drop (c.loop-alt.alt-index + 1) c.args.alts.now = unrolled c.args.alts.now c.loop-alt.alt-index c.alt-item.result c.loop-alt-test.true c.alt-item.is in
    StillWalks-step c.args.numbers.now (λ y. AlternativesRefer y (alternatives (drop c.loop-alt.alt-index c.args.alts.now))) (λ y. AlternativeRefers y c.alt-item.result) (λ y. AlternativesRefer y (alternatives (drop (c.loop-alt.alt-index + 1) c.args.alts.now))) (λ y. AlternativesRefer y (alternatives c.args.alts.now)) _ c.loop-alt.shown _ _ c.loop-alt.found.items _
    (λ v h. subst (λ ds. AlternativesRefer v (alternatives ds)) (sym e) h) (λ v h. subst (λ ds. AlternativesRefer v (alternatives ds)) e h) c.in_ok-find_in_alt.ensures c.loop-alt.invariant

pub find_in_parts-find_in_part-requires : goal.find_in_parts-find_in_part-requires
find_in_parts-find_in_part-requires t c =
    search (rules, part_falls _ _ _ c.loop-part-test.true c.part-item.is)

pub find_in_parts-loop-part-preserved : goal.find_in_parts-loop-part-preserved
find_in_parts-loop-part-preserved t c =
    let e : drop c.loop-part.part-index c.args.parts.now ≡ c.part-item.result ∷ drop (c.loop-part.part-index + 1) c.args.parts.now = unrolled c.args.parts.now c.loop-part.part-index c.part-item.result c.loop-part-test.true c.part-item.is in
    StillWalks-step c.args.numbers.now (λ y. BodiesRefer y (bodies (drop c.loop-part.part-index c.args.parts.now))) (λ y. BodiesRefer y (body c.part-item.result.0 c.part-item.result.1 no_bodies)) (λ y. BodiesRefer y (bodies (drop (c.loop-part.part-index + 1) c.args.parts.now))) (λ y. BodiesRefer y (bodies c.args.parts.now)) _ c.loop-part.shown _ _ c.loop-part.found.items _
    (λ v h. subst (λ ds. BodiesRefer v (bodies ds)) (sym e) (bodies_cons _ _ v h)) (λ v h. bodies_parts _ _ v (subst (λ ds. BodiesRefer v (bodies ds)) e h)) c.in_ok-find_in_part.ensures c.loop-part.invariant

pub find_in_parts-returns : goal.find_in_parts-returns
find_in_parts-returns t c =
    StillWalks-end c.args.numbers.now _ _ _ _ _ _ (λ v h. subst (λ rest. BodiesRefer v (bodies rest)) (past _ _ c.loop-part-test.false) h) c.loop-part.invariant

pub find_in_alt-show-requires : goal.find_in_alt-show-requires
find_in_alt-show-requires t c =
    noted_below c.args.numbers.now _ _ _ c.find_in_rhs.new.shown c.new-noted.result.items _ c.deref.result.now c.new-noted.ensures.items c.deref.ensures.value c.in_ok-hide_pattern.ensures c.in_ok-find_in_rhs.ensures.same

pub find_in_alt-returns : goal.find_in_alt-returns
find_in_alt-returns t c =
    subst (λ a. Walks c.args.numbers.now (λ y. AlternativeRefers y a) c.args.shown.now c.show.new.shown c.args.found.now.items c.find_in_rhs.new.found.items) c.alt.view_is
    (Walks-scope c.args.numbers.now (pattern_variables c.alt.inside.pat) (λ y. RightSideRefers y c.alt.inside.rhs) c.args.shown.now c.hide_pattern.new.shown c.find_in_rhs.new.shown c.show.new.shown c.new-noted.result.items c.hide_pattern.new.noted.items c.deref.result.now _ _
    c.new-noted.ensures.items c.deref.ensures.value c.in_ok-hide_pattern.ensures c.in_ok-find_in_rhs.ensures c.show.ensures)

pub find_in_part-returns-in_ok-find_in_expr-in-Some-2 : goal.find_in_part-returns-in_ok-find_in_expr-in-Some-2
find_in_part-returns-in_ok-find_in_expr-in-Some-2 t c =
    subst (λ g. Walks c.args.numbers.now (λ y. BodiesRefer y (body g c.args.part.now.1 no_bodies)) c.args.shown.now c.find_in_expr-in-Some.new.shown c.args.found.now.items c.find_in_expr-in-Some.new.found.items) (sym c.in-Some.is)
    (Walks-same c.args.numbers.now (λ y. Refers y c.in-Some.guard ⊎ Refers y c.args.part.now.1) (λ y. BodiesRefer y (body (Some c.in-Some.guard) c.args.part.now.1 no_bodies)) _ _ _ _ (λ v h. ⊎_elim inl (λ k. inr (inl k)) h) (λ v h. ⊎_elim inl (λ k. inr (⊎_elim (λ q. q) (λ z. absurd z) k)) h)
    (Walks-both c.args.numbers.now (λ y. Refers y c.in-Some.guard) (λ y. Refers y c.args.part.now.1) _ c.find_in_expr.new.shown _ _ c.find_in_expr.new.found.items _ c.in_ok-find_in_expr-in-Some.ensures c.in_ok-find_in_expr-in-Some-2.ensures))

pub find_in_part-returns-in_ok-find_in_expr-in-None : goal.find_in_part-returns-in_ok-find_in_expr-in-None
find_in_part-returns-in_ok-find_in_expr-in-None t c =
    subst (λ g. Walks c.args.numbers.now (λ y. BodiesRefer y (body g c.args.part.now.1 no_bodies)) c.args.shown.now c.find_in_expr-in-None.new.shown c.args.found.now.items c.find_in_expr-in-None.new.found.items) (sym c.in-None.is)
    (Walks-same c.args.numbers.now (λ y. Refers y c.args.part.now.1) (λ y. BodiesRefer y (body None c.args.part.now.1 no_bodies)) _ _ _ _ (λ v h. inl h) (λ v h. ⊎_elim (λ k. k) (λ z. absurd z) h) c.in_ok-find_in_expr-in-None.ensures)
