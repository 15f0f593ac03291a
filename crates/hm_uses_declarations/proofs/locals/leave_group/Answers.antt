use Rattle.std.proofs.Common.{◌≡◌, ◌∙◌, ◌++◌, ◌∷◌, [], ap, sym, rules}
use Rattle.hm_uses_declarations.specs.Bindings.{bound_in}
use Rattle.hm_uses_declarations.proofs.Tables.{left}
use Rattle.hm_uses_declarations.proofs.locals.leave_group.Goals as goal

pub returns-clause-table : goal.returns-clause-table
returns-clause-table c = λ known.
    let parted : c.args.groups.now.items ≡ c.pop.new.self.items ++ c.in-Some.names ∷ [] = search rules in
    left c.args.table.now c.remove_bindings.new.table c.pop.new.self.items c.args.groups.now.items c.in-Some.names
    (λ x bs d e. c.remove_bindings.ensures x bs d (e ∙ ap (λ g. bs ++ bound_in d x.now g) (sym c.as_slice.ensures))) parted known
