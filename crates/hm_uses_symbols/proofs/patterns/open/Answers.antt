use Rattle.std.proofs.Common.{rules, ◌≡◌}
use Rattle.hm_syntax.specs.Trees.{bound_pattern, lazy_pattern}
use Rattle.hm_uses_symbols.proofs.Opened.{bound_size, bound_variables, lazy_size, lazy_variables}
use Rattle.hm_uses_symbols.proofs.patterns.open.Goals as goal

pub returns-in_ok-push-in-Bound-2-clause-variables : goal.returns-in_ok-push-in-Bound-2-clause-variables
returns-in_ok-push-in-Bound-2-clause-variables c =
    let opened : c.args.pat.now ≡ bound_pattern c.in-Bound.name c.in-Bound.inner.value = search rules in
    bound_variables c.args.pat.now c.in-Bound.inner.value _ c.args.pending.now.items c.push-in-Bound-2.new.self.items c.args.names.now (search rules) c.in_ok-push-in-Bound-2.ensures.items c.in-Bound.name c.push-in-Bound.new.self opened c.in_ok-push-in-Bound.ensures

pub returns-in_ok-push-in-Bound-2-clause-size : goal.returns-in_ok-push-in-Bound-2-clause-size
returns-in_ok-push-in-Bound-2-clause-size c =
    let opened : c.args.pat.now ≡ bound_pattern c.in-Bound.name c.in-Bound.inner.value = search rules in
    bound_size c.args.pat.now c.in-Bound.inner.value _ c.args.pending.now.items c.push-in-Bound-2.new.self.items c.args.names.now (search rules) c.in_ok-push-in-Bound-2.ensures.items c.in-Bound.name opened

pub returns-in_ok-push-in-Lazy-clause-variables : goal.returns-in_ok-push-in-Lazy-clause-variables
returns-in_ok-push-in-Lazy-clause-variables c =
    let opened : c.args.pat.now ≡ lazy_pattern c.in-Lazy.inner.value = search rules in
    lazy_variables c.args.pat.now c.in-Lazy.inner.value _ c.args.pending.now.items c.push-in-Lazy.new.self.items c.args.names.now (search rules) c.in_ok-push-in-Lazy.ensures.items opened

pub returns-in_ok-push-in-Lazy-clause-size : goal.returns-in_ok-push-in-Lazy-clause-size
returns-in_ok-push-in-Lazy-clause-size c =
    let opened : c.args.pat.now ≡ lazy_pattern c.in-Lazy.inner.value = search rules in
    lazy_size c.args.pat.now c.in-Lazy.inner.value _ c.args.pending.now.items c.push-in-Lazy.new.self.items c.args.names.now (search rules) c.in_ok-push-in-Lazy.ensures.items opened
