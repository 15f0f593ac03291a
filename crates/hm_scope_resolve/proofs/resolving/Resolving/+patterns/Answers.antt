use Rattle.std.proofs.Common.{◌≡◌, refl, ap, ◌∙◌}
use Rattle.hm_syntax.specs.Lists.{patterns}
use Rattle.hm_names.specs.Resolved.{pattern_with}
use Rattle.hm_names.specs.Found.{Walking, resolver_of, binder_of, pattern_faults, patterns_faults}
use Rattle.hm_names.proofs.Rows.{trees_on, state_on}
use Rattle.hm_scope_resolve.proofs.resolving.Resolving.+patterns.Goals as goal

pub pat_row-row-preserved : goal.pat_row-row-preserved
pat_row-row-preserved t c =
    let groups_kept : c.row.self.groups ≡ c.args.self.now.groups = c.row.invariant.groups in
    record {
      trees = trees_on (λ k xs. pattern_with (resolver_of k) (binder_of c.args.home.now)) (λ k xs. pattern_faults k) (λ k xs ps. patterns_faults k (patterns ps)) c.args.row.now c.row.pat-index c.pat-item.result c.in_ok-pat.field-0 c.row.self c.args.self.now c.row.resolved.items c.push.new.self.items c.row-test.true c.pat-item.is c.in_ok-pat.ensures.tree c.in_ok-push.ensures.items c.row.invariant.known groups_kept c.row.invariant.trees;
      state = state_on (λ k xs. pattern_with (resolver_of k) (binder_of c.args.home.now)) (λ k xs. pattern_faults k) (λ k xs ps. patterns_faults k (patterns ps)) (λ k xs x rest. refl) c.args.row.now c.row.pat-index c.pat-item.result c.row.self c.pat.new.self c.args.self.now c.row-test.true c.pat-item.is c.in_ok-pat.ensures.state c.row.invariant.known groups_kept c.row.invariant.state;
      known = ap (λ (w : Walking). w.known) c.in_ok-pat.ensures.state ∙ c.row.invariant.known;
      groups = ap (λ (w : Walking). w.groups) c.in_ok-pat.ensures.state ∙ c.row.invariant.groups;
    }
