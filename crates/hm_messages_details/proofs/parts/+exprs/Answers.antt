use Rattle.std.proofs.Common.{◌≡◌, List, [], ◌∷◌, ◌∙◌, ◌++◌, ◌+◌, ap, append_assoc, drop, map, refl, subst, sym}
use Rattle.hm_syntax.specs.Lists.{alternatives, bodies, constructors, declarations, expressions, patterns}
use Rattle.hm_syntax.specs.Trees.{more_patterns, no_patterns}
use Rattle.hm_syntax.specs.Views.OfExpressions.{declaration_of, expression_of}
use Rattle.hm_names.proofs.Rows.{past, unrolled}
use Rattle.hm_messages_details.specs.Parts.{ModulePart, a_list, a_row, an_end, ended, alternative_parts, alternatives_parts, constructors_parts, bodies_of_parts, bodies_parts, declaration_parts, declarations_parts, expression_parts, expressions_parts, guard_parts, head_parts, module_parts, part_of, right_side_parts, type_parts}
use Rattle.hm_messages_details.proofs.PartLists.{bodies_are, both_added, both_of, in_scope, row_end, row_more}
use Rattle.hm_messages_details.proofs.parts.+exprs.Goals as goal

pub add_rhs-returns : goal.add_rhs-returns
add_rhs-returns t c =
    let gs = c.rhs.inside.parts.items in
    let ds = c.rhs.inside.local.items in
    let old = map part_of c.args.out.now.items in
    let listed = map part_of c.add_list.new.out.items in
    let middle = map part_of c.add_bodies.new.out.items in
    let new = map part_of c.add_part.new.out.items in
    let first : listed ≡ old ++ module_parts ds = subst (λ l. listed ≡ old ++ module_parts l) c.deref.ensures.value c.in_ok-add_list.ensures in
    let second : middle ≡ listed ++ bodies_parts (bodies gs) =
    subst (λ l. middle ≡ listed ++ bodies_of_parts l) c.deref-2.ensures.value c.in_ok-add_bodies.ensures ∙ ap (λ l. listed ++ l) (bodies_are gs) in
    subst (λ r. new ≡ old ++ right_side_parts r) c.rhs.view_is
    (both_added old listed new (module_parts ds) (ended (bodies_parts (bodies gs))) first (both_added listed middle new (bodies_parts (bodies gs)) (an_end ∷ []) second c.in_ok-add_part.ensures))

pub add_exprs-row-preserved : goal.add_exprs-row-preserved
add_exprs-row-preserved t c =
    let row = c.args.row.now in
    let i = c.row.expr-index in
    row_more (map part_of c.row.out.items) (map part_of c.add_expr.new.out.items) (expression_parts c.expr-item.result) (expressions_parts (expressions (drop (i + 1) row))) (expressions_parts (expressions (drop i row))) _
    (ap (λ l. expressions_parts (expressions l)) (unrolled row i c.expr-item.result c.row-test.true c.expr-item.is)) c.row.invariant c.in_ok-add_expr.ensures

pub add_exprs-returns : goal.add_exprs-returns
add_exprs-returns t c = row_end (map part_of c.row.out.items) _ _ (ap (λ l. expressions_parts (expressions l)) (past c.args.row.now c.row.expr-index c.row-test.false)) c.row.invariant

pub add_bodies-row-preserved : goal.add_bodies-row-preserved
add_bodies-row-preserved t c =
    let row = c.args.row.now in
    let i = c.row.part-index in
    let part = c.part-item.result in
    let old = map part_of c.row.out.items in
    let new = map part_of c.add_expr.new.out.items in
    row_more old new (guard_parts part.0 ++ expression_parts part.1) (bodies_of_parts (drop (i + 1) row)) (bodies_of_parts (drop i row)) _ (ap bodies_of_parts (unrolled row i part c.row-test.true c.part-item.is)) c.row.invariant
    (both_added old (map part_of c.add_guard.new.out.items) new (guard_parts part.0) (expression_parts part.1) c.in_ok-add_guard.ensures c.in_ok-add_expr.ensures)

pub add_bodies-returns : goal.add_bodies-returns
add_bodies-returns t c = row_end (map part_of c.row.out.items) _ _ (ap bodies_of_parts (past c.args.row.now c.row.part-index c.row-test.false)) c.row.invariant

pub add_list-row-preserved : goal.add_list-row-preserved
add_list-row-preserved t c =
    let row = c.args.decls.now in
    let i = c.row.decl-index in
    row_more (map part_of c.row.out.items) (map part_of c.add_decl.new.out.items) (declaration_parts c.decl-item.result) (declarations_parts (declarations (drop (i + 1) row))) (declarations_parts (declarations (drop i row))) _
    (ap (λ l. declarations_parts (declarations l)) (unrolled row i c.decl-item.result c.row-test.true c.decl-item.is)) c.row.invariant c.in_ok-add_decl.ensures

pub add_list-returns : goal.add_list-returns
add_list-returns t c = row_end (map part_of c.row.out.items) _ _ (ap (λ l. declarations_parts (declarations l)) (past c.args.decls.now c.row.decl-index c.row-test.false)) c.row.invariant

pub add_expr-returns-in_ok-add_expr-in-Apply-2 : goal.add_expr-returns-in_ok-add_expr-in-Apply-2
add_expr-returns-in_ok-add_expr-in-Apply-2 t c =
    let old = map part_of c.args.out.now.items in
    let new = map part_of c.add_expr-in-Apply.new.out.items in
    subst (λ d. new ≡ old ++ expression_parts d) (ap expression_of (sym c.in-Apply.is) ∙ c.expr.view_is)
    (both_of expression_parts expression_parts old (map part_of c.add_expr.new.out.items) new _ c.in-Apply.function.value _ c.in-Apply.argument.value c.deref.ensures c.deref-in-Apply.ensures c.in_ok-add_expr-in-Apply.ensures c.in_ok-add_expr-in-Apply-2.ensures)

pub add_expr-returns-in_ok-add_part-in-Lambda : goal.add_expr-returns-in_ok-add_part-in-Lambda
add_expr-returns-in_ok-add_part-in-Lambda t c =
    let old = map part_of c.args.out.now.items in
    let new = map part_of c.add_part-in-Lambda.new.out.items in
    subst (λ d. new ≡ old ++ expression_parts d) (ap expression_of (sym c.in-Lambda.is) ∙ c.expr.view_is)
    (in_scope (λ l. head_parts (patterns l)) expression_parts old (map part_of c.add_head.new.out.items) (map part_of c.add_expr-in-Lambda.new.out.items) new _ c.in-Lambda.pats.items _ c.in-Lambda.body.value c.deref-in-Lambda.ensures.value c.deref-in-Lambda-2.ensures c.in_ok-add_head-in-Lambda.ensures c.in_ok-add_expr-in-Lambda.ensures c.in_ok-add_part-in-Lambda.ensures)

pub add_expr-returns-in_ok-add_part-in-Let : goal.add_expr-returns-in_ok-add_part-in-Let
add_expr-returns-in_ok-add_part-in-Let t c =
    let old = map part_of c.args.out.now.items in
    let new = map part_of c.add_part-in-Let.new.out.items in
    subst (λ d. new ≡ old ++ expression_parts d) (ap expression_of (sym c.in-Let.is) ∙ c.expr.view_is)
    (in_scope module_parts expression_parts old (map part_of c.add_list.new.out.items) (map part_of c.add_expr-in-Let.new.out.items) new _ c.in-Let.decls.items _ c.in-Let.body.value c.deref-in-Let.ensures.value c.deref-in-Let-2.ensures c.in_ok-add_list-in-Let.ensures c.in_ok-add_expr-in-Let.ensures c.in_ok-add_part-in-Let.ensures)

pub add_expr-returns-in_ok-add_expr-in-If-3 : goal.add_expr-returns-in_ok-add_expr-in-If-3
add_expr-returns-in_ok-add_expr-in-If-3 t c =
    let old = map part_of c.args.out.now.items in
    let new = map part_of c.add_expr-in-If-3.new.out.items in
    subst (λ d. new ≡ old ++ expression_parts d) (ap expression_of (sym c.in-If.is) ∙ c.expr.view_is)
    (both_of expression_parts (λ l. l) old (map part_of c.add_expr-in-If.new.out.items) new _ c.in-If.condition.value _ (expression_parts c.in-If.yes.value ++ expression_parts c.in-If.no.value) c.deref-in-If.ensures refl c.in_ok-add_expr-in-If.ensures
    (both_of expression_parts expression_parts (map part_of c.add_expr-in-If.new.out.items) (map part_of c.add_expr-in-If-2.new.out.items) new _ c.in-If.yes.value _ c.in-If.no.value c.deref-in-If-2.ensures c.deref-in-If-3.ensures c.in_ok-add_expr-in-If-2.ensures c.in_ok-add_expr-in-If-3.ensures))

pub add_expr-returns-in_ok-add_alts-in-Case : goal.add_expr-returns-in_ok-add_alts-in-Case
add_expr-returns-in_ok-add_alts-in-Case t c =
    let old = map part_of c.args.out.now.items in
    let new = map part_of c.add_alts.new.out.items in
    subst (λ d. new ≡ old ++ expression_parts d) (ap expression_of (sym c.in-Case.is) ∙ c.expr.view_is)
    (both_of expression_parts (λ l. alternatives_parts (alternatives l)) old (map part_of c.add_expr-in-Case.new.out.items) new _ c.in-Case.scrutinee.value _ c.in-Case.alts.items c.deref-in-Case.ensures c.deref-in-Case-2.ensures.value c.in_ok-add_expr-in-Case.ensures c.in_ok-add_alts-in-Case.ensures)

pub add_expr-returns-in_ok-add_type-in-Typed : goal.add_expr-returns-in_ok-add_type-in-Typed
add_expr-returns-in_ok-add_type-in-Typed t c =
    let old = map part_of c.args.out.now.items in
    let new = map part_of c.add_type.new.out.items in
    subst (λ d. new ≡ old ++ expression_parts d) (ap expression_of (sym c.in-Typed.is) ∙ c.expr.view_is)
    (both_of expression_parts type_parts old (map part_of c.add_expr-in-Typed.new.out.items) new _ c.in-Typed.inner.value c.in-Typed.ty c.in-Typed.ty c.deref-in-Typed.ensures refl c.in_ok-add_expr-in-Typed.ensures c.in_ok-add_type-in-Typed.ensures)

pub add_decl-returns-in_ok-add_constructors-in-DataType : goal.add_decl-returns-in_ok-add_constructors-in-DataType
add_decl-returns-in_ok-add_constructors-in-DataType t c =
    let old = map part_of c.args.out.now.items in
    let new = map part_of c.add_constructors.new.out.items in
    subst (λ d. new ≡ old ++ declaration_parts d) (ap declaration_of (sym c.in-DataType.is) ∙ c.decl.view_is)
    (both_of (λ l. a_row l ∷ []) (λ l. constructors_parts (constructors l)) old (map part_of c.add_part.new.out.items) new _ c.in-DataType.params.items _ c.in-DataType.constrs.items c.deref.ensures.value c.deref-in-DataType.ensures.value c.in_ok-add_part-in-DataType.ensures c.in_ok-add_constructors-in-DataType.ensures)

pub add_decl-returns-in_ok-add_rhs-in-Pattern : goal.add_decl-returns-in_ok-add_rhs-in-Pattern
add_decl-returns-in_ok-add_rhs-in-Pattern t c =
    let old = map part_of c.args.out.now.items in
    let alone = map part_of c.add_alone.new.out.items in
    let middle = map part_of c.add_part-in-Pattern.new.out.items in
    let new = map part_of c.add_rhs-in-Pattern.new.out.items in
    subst (λ d. new ≡ old ++ declaration_parts d) (ap declaration_of (sym c.in-Pattern.is) ∙ c.decl.view_is)
    (both_added old middle new (ended (head_parts (more_patterns c.in-Pattern.pat no_patterns))) (right_side_parts c.in-Pattern.rhs)
    (both_added old alone middle (head_parts (more_patterns c.in-Pattern.pat no_patterns)) (an_end ∷ []) c.in_ok-add_alone-in-Pattern.ensures c.in_ok-add_part-in-Pattern.ensures) c.in_ok-add_rhs-in-Pattern.ensures)

pub add_decl-returns-in_ok-add_part-in-Clause : goal.add_decl-returns-in_ok-add_part-in-Clause
add_decl-returns-in_ok-add_part-in-Clause t c =
    let old = map part_of c.args.out.now.items in
    let new = map part_of c.add_part-in-Clause.new.out.items in
    subst (λ d. new ≡ old ++ declaration_parts d) (ap declaration_of (sym c.in-Clause.is) ∙ c.decl.view_is)
    (in_scope (λ l. head_parts (patterns l)) right_side_parts old (map part_of c.add_head.new.out.items) (map part_of c.add_rhs.new.out.items) new _ c.in-Clause.pats.items c.in-Clause.rhs c.in-Clause.rhs c.deref-in-Clause.ensures.value refl c.in_ok-add_head-in-Clause.ensures c.in_ok-add_rhs-in-Clause.ensures c.in_ok-add_part-in-Clause.ensures)

pub add_list-row-init : goal.add_list-row-init
add_list-row-init t c =
    let parts = declarations_parts (declarations c.args.decls.now) in
    ap (λ (l : List ModulePart). l ++ parts) c.in_ok-add_part.ensures ∙ append_assoc (map part_of c.args.out.now.items) (a_list (declarations c.args.decls.now) ∷ []) parts

pub add_alts-row-preserved : goal.add_alts-row-preserved
add_alts-row-preserved t c =
    let row = c.args.row.now in
    let i = c.row.alt-index in
    let old = map part_of c.row.out.items in
    let new = map part_of c.add_part.new.out.items in
    let head = head_parts (more_patterns c.alt.inside.pat no_patterns) in
    let side = right_side_parts c.alt.inside.rhs in
    row_more old new (alternative_parts c.alt-item.result) (alternatives_parts (alternatives (drop (i + 1) row))) (alternatives_parts (alternatives (drop i row))) _
    (ap (λ l. alternatives_parts (alternatives l)) (unrolled row i c.alt-item.result c.row-test.true c.alt-item.is)) c.row.invariant
    (subst (λ a. new ≡ old ++ alternative_parts a) c.alt.view_is
    (both_added old (map part_of c.add_alone.new.out.items) new head (ended side) c.in_ok-add_alone.ensures
    (both_added (map part_of c.add_alone.new.out.items) (map part_of c.add_rhs.new.out.items) new side (an_end ∷ []) c.in_ok-add_rhs.ensures c.in_ok-add_part.ensures)))

pub add_alts-returns : goal.add_alts-returns
add_alts-returns t c = row_end (map part_of c.row.out.items) _ _ (ap (λ l. alternatives_parts (alternatives l)) (past c.args.row.now c.row.alt-index c.row-test.false)) c.row.invariant
