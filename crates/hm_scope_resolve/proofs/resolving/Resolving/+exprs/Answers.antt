use Rattle.std.proofs.Common.{refl, sym, ap, ◌∙◌}
use Rattle.hm_syntax.specs.Lists.{declarations}
use Rattle.hm_names.specs.Resolved.{declaration_with}
use Rattle.hm_names.specs.Found.{Walking, locals_of, resolver_of, binder_of, declaration_faults, declarations_faults}
use Rattle.hm_names.proofs.Rows.{trees_on, state_on, listed}
use Rattle.hm_scope_resolve.proofs.Walks.{none_local, side_resolved, side_noted}
use Rattle.hm_scope_resolve.proofs.resolving.Resolving.+exprs.Goals as goal

pub decl_row-row-preserved : goal.decl_row-row-preserved
decl_row-row-preserved t c = record {
  trees = trees_on (λ k. declaration_with (resolver_of k) (binder_of c.args.home.now)) declaration_faults (λ k xs ds. declarations_faults k xs (declarations ds)) c.args.row.now c.row.decl-index c.decl-item.result c.in_ok-decl.field-0 c.row.self c.args.self.now c.row.resolved.items c.push.new.self.items c.row-test.true c.decl-item.is c.in_ok-decl.ensures.tree c.in_ok-push.ensures.items c.row.invariant.known c.row.invariant.groups c.row.invariant.trees;
  state = state_on (λ k. declaration_with (resolver_of k) (binder_of c.args.home.now)) declaration_faults (λ k xs ds. declarations_faults k xs (declarations ds)) (λ k xs x rest. refl) c.args.row.now c.row.decl-index c.decl-item.result c.row.self c.decl.new.self c.args.self.now c.row-test.true c.decl-item.is c.in_ok-decl.ensures.state c.row.invariant.known c.row.invariant.groups c.row.invariant.state;
  known = ap (λ (w : Walking). w.known) c.in_ok-decl.ensures.state ∙ c.row.invariant.known;
  groups = ap (λ (w : Walking). w.groups) c.in_ok-decl.ensures.state ∙ c.row.invariant.groups;
}

pub decl_list-returns-clause-trees : goal.decl_list-returns-clause-trees
decl_list-returns-clause-trees t c = listed c.args.self.now c.note_list.new.self _ c.args.decls.now _ c.in_ok-note_list.ensures c.in_ok-decl_row.ensures.trees

pub rhs-returns-then-is_empty-clause-tree : goal.rhs-returns-then-is_empty-clause-tree
rhs-returns-then-is_empty-clause-tree t c =
    let empty = none_local c.rhs.inside.local.items c.as_slice.result.now c.is_empty.result c.as_slice.ensures.value c.is_empty.ensures c.if-is_empty.true in
    side_resolved c.args.self.now.known (locals_of c.args.self.now) c.args.rhs.now c.rhs.inside.parts.items c.deref.result.now c.rhs.inside.local.items (sym c.rhs.view_is) c.deref.ensures.value empty c.in_ok-parts.parts.items c.new-local.result.items c.in_ok-parts.ensures.trees c.new-local.ensures.items

pub rhs-returns-then-is_empty-clause-state : goal.rhs-returns-then-is_empty-clause-state
rhs-returns-then-is_empty-clause-state t c =
    let empty = none_local c.rhs.inside.local.items c.as_slice.result.now c.is_empty.result c.as_slice.ensures.value c.is_empty.ensures c.if-is_empty.true in
    side_noted c.args.self.now.known (locals_of c.args.self.now) c.args.rhs.now c.rhs.inside.parts.items c.deref.result.now c.rhs.inside.local.items (sym c.rhs.view_is) c.deref.ensures.value empty c.args.self.now c.part_row.new.self c.in_ok-parts.ensures.state
