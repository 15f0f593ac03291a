use Rattle.std.proofs.Common.{◌≡◌, ◌+◌, ◌∷◌, [], drop, sym, ap, ◌∙◌, subst, rules}
use Rattle.hm_syntax.specs.Lists.{patterns}
use Rattle.hm_syntax.specs.Views.OfPatterns.{pattern_of}
use Rattle.hm_names_keys.specs.Variables.{variable_of}
use Rattle.hm_infer_dependencies.specs.References.{pattern_variables, patterns_variables}
use Rattle.hm_infer_dependencies.specs.Walks.{Hides}
use Rattle.hm_infer_dependencies.proofs.Rows.{unrolled, past, pattern_falls}
use Rattle.hm_infer_dependencies.proofs.Walking.{Hides-both, StillHides-step, StillHides-end}
use Rattle.hm_infer_dependencies.proofs.hiding.+hidden.Goals as goal

pub hide_pattern-returns-in_ok-hide_pattern-in-Bound :
    goal.hide_pattern-returns-in_ok-hide_pattern-in-Bound
hide_pattern-returns-in_ok-hide_pattern-in-Bound t c =
    let nodes = c.args.numbers.now in
    let g : Hides nodes (pattern_variables c.in-Bound.pat.value) c.hide-in-Bound.new.shown c.hide_pattern.new.shown c.hide-in-Bound.new.noted.items c.hide_pattern.new.noted.items =
    subst (λ q. Hides nodes (pattern_variables q) c.hide-in-Bound.new.shown c.hide_pattern.new.shown c.hide-in-Bound.new.noted.items c.hide_pattern.new.noted.items) c.deref.ensures c.in_ok-hide_pattern-in-Bound.ensures in
    subst (λ q. Hides nodes (pattern_variables q) c.args.shown.now c.hide_pattern.new.shown c.args.noted.now.items c.hide_pattern.new.noted.items) (ap pattern_of (sym c.in-Bound.is) ∙ c.pat.view_is)
    (Hides-both nodes (variable_of c.in-Bound.name ∷ []) (pattern_variables c.in-Bound.pat.value) _ c.hide-in-Bound.new.shown _ _ c.hide-in-Bound.new.noted.items _ c.in_ok-hide-in-Bound.ensures g)

pub hide_patterns-hide_pattern-requires : goal.hide_patterns-hide_pattern-requires
hide_patterns-hide_pattern-requires t c = search (rules, pattern_falls _ _ _ c.loop-pat-test.true c.pat-item.is)

pub hide_patterns-loop-pat-preserved : goal.hide_patterns-loop-pat-preserved
hide_patterns-loop-pat-preserved t c =
    let e : drop c.loop-pat.pat-index c.args.pats.now ≡ c.pat-item.result ∷ drop (c.loop-pat.pat-index + 1) c.args.pats.now = unrolled c.args.pats.now c.loop-pat.pat-index c.pat-item.result c.loop-pat-test.true c.pat-item.is in
    StillHides-step c.args.numbers.now _ (pattern_variables c.pat-item.result) (patterns_variables (patterns (drop (c.loop-pat.pat-index + 1) c.args.pats.now))) _ _ c.loop-pat.shown _ _ c.loop-pat.noted.items _
    (ap (λ ps. patterns_variables (patterns ps)) e) c.in_ok-hide_pattern.ensures c.loop-pat.invariant

pub hide_patterns-returns : goal.hide_patterns-returns
hide_patterns-returns t c =
    StillHides-end c.args.numbers.now _ _ _ _ _ _ (ap (λ ps. patterns_variables (patterns ps)) (past _ _ c.loop-pat-test.false)) c.loop-pat.invariant
