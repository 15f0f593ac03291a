use Rattle.std.proofs.Common.{◌≡◌, ap, refl, ◌∙◌}
use Rattle.hm_syntax.specs.Lists.{patterns}
use Rattle.hm_uses.specs.Found.{pattern_uses, patterns_uses}
use Rattle.hm_uses_declarations.specs.Walking.{Walking, home_of}
use Rattle.hm_uses_declarations.proofs.Steps.{row_more}
use Rattle.hm_uses_declarations.proofs.walking.Walk.+patterns.Goals as goal

pub pat_row-row-preserved : goal.pat_row-row-preserved
pat_row-row-preserved t c = record {
  state = row_more (λ k gs. pattern_uses k (home_of gs)) (λ k gs ps. patterns_uses k (home_of gs) (patterns ps)) (λ k gs x rest. refl) c.args.row.now c.row.pat-index c.pat-item.result c.row.self c.pat.new.self c.args.self.now c.row-test.true c.pat-item.is c.in_ok-pat.ensures c.row.invariant.known c.row.invariant.groups c.row.invariant.state;
  known = ap (λ (w : Walking). w.known) c.in_ok-pat.ensures ∙ c.row.invariant.known;
  groups = ap (λ (w : Walking). w.groups) c.in_ok-pat.ensures ∙ c.row.invariant.groups;
}
