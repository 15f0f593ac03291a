use Rattle.std.proofs.Common.{refl, sym, subst, map}
use Rattle.hm_names.specs.Bindings.{IsScopeOf}
use Rattle.hm_uses_header.specs.Adding.{header_mentions}
use Rattle.hm_uses_header.proofs.Whole.{all_names, none_yet}
use Rattle.hm_uses_header.proofs.module_uses.header_uses.Goals as goal

pub returns-clause-names : goal.returns-clause-names
returns-clause-names c = all_names c.new-found.result.items c.add_header.new.found.items (header_mentions c.args.program.now.header) c.new-found.ensures.items c.in_ok-add_header.ensures.names

pub returns-clause-meanings : goal.returns-clause-meanings
returns-clause-meanings c = λ scope.
    c.in_ok-add_header.ensures.meanings c.args.program.now (map (λ f. f.now) c.args.interfaces.now)
    (record { scope = scope; modules = c.in_ok-modules.ensures; groups = c.in_ok-groups.ensures (subst (IsScopeOf c.args.program.now (map (λ f. f.now) c.args.interfaces.now)) (sym c.pairs.ensures) scope) }, (c.in_ok-named.ensures, refl))
    (none_yet c.args.program.now (map (λ f. f.now) c.args.interfaces.now) c.new-found.result.items c.new-found.ensures.items)
