use Rattle.std.proofs.Common.{◌∷◌, List, map, subst, sym}
use Rattle.std.specs.Arc.{arc_value}
use Rattle.hm_names.specs.Bindings.{IsScopeOf, Pair}
use Rattle.hm_scope_names.proofs.meant.meant_names.Goals as goal

pub returns-clause-exact : goal.returns-clause-exact
returns-clause-exact c =
    let fs = c.args.prelude.now ∷ map arc_value c.args.imports.now in
    c.in_ok-meant_in.ensures.exact c.args.program.now fs (subst (λ (l : List Pair). IsScopeOf c.args.program.now fs l) (sym c.pairs.ensures) c.in_ok-scope.ensures)
