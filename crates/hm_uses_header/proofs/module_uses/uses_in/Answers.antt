use Rattle.std.proofs.Common.{map}
use Rattle.hm_uses_header.proofs.Whole.{whole_names, whole_meanings}
use Rattle.hm_uses_header.proofs.module_uses.uses_in.Goals as goal

pub returns-clause-names : goal.returns-clause-names
returns-clause-names c = whole_names c.args.program.now c.in_ok-uses.uses.items c.in_ok-declared.declared.items c.append.new.self.items c.in_ok-append.ensures.items c.in_ok-uses.ensures.names c.in_ok-declared.ensures.names

pub returns-clause-meanings : goal.returns-clause-meanings
returns-clause-meanings c = λ scope.
    whole_meanings c.args.program.now c.in_ok-uses.uses.items c.in_ok-declared.declared.items c.append.new.self.items c.in_ok-append.ensures.items (map (λ f. f.now) c.args.interfaces.now)
    (c.in_ok-uses.ensures.meanings scope) (c.in_ok-declared.ensures.meanings (map (λ f. f.now) c.args.interfaces.now) scope)
