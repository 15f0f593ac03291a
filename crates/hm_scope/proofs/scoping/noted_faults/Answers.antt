use Rattle.std.proofs.Common.{map, Bor}
use Rattle.hm_types.specs.Interfaces.{Exports as Interface}
use Rattle.hm_scope.proofs.ModuleAnswers.{are_lookups}
use Rattle.hm_scope.proofs.scoping.noted_faults.Goals as goal

pub returns : goal.returns
returns c =
    let m = c.args.scoped.now.program.now in
    let fs = map (λ (f : Bor Interface). f.now) c.args.scoped.now.interfaces.now in
    c.in_ok-_decls.ensures.faults fs (are_lookups m fs c.args.scoped.now.scope.now c.in_ok-known.known c.without_synonyms-tables.result c.requires c.in_ok-known.ensures c.without_synonyms-tables.ensures.types c.without_synonyms-tables.ensures.constructors)
