use Rattle.std.proofs.Common.{◌≡◌, List, take}
use Rattle.hm_types.specs.Interfaces.{Exports as Interface}
use Rattle.hm_syntax.specs.declared.ast.Module.{Module}
use Rattle.hm_names.specs.Bindings.{IsScopeOf}
use Rattle.hm_names.specs.Resolved.{Resolver}
use Rattle.hm_scope.specs.Synonyms.{IsExpandable, Finishes}
use Rattle.hm_scope.proofs.finished_synonyms.add_in_order.Given as goal

abbrev pub invariant-order : goal.invariant-order
invariant-order l = record {
  types : l.tables.types ≡ l.initial.tables.types;
  constructors : l.tables.constructors ≡ l.initial.tables.constructors;
  finished : (m : Module) (fs : List Interface) (r : Resolver) → IsScopeOf m fs l.unfinished.scope.now → l.unfinished.home.now ≡ m.header.name.text → IsExpandable m fs r l.unfinished.declared.now l.order l.initial.tables.synonyms
      → Finishes r l.unfinished.home.now l.unfinished.declared.now (take l.number-index l.order) l.initial.tables.synonyms l.tables.synonyms;
}
