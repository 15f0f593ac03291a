use Rattle.std.proofs.Common.{◌≡◌, List, length, map, take}
use Rattle.hm_types.specs.Interfaces.{Exports as Interface}
use Rattle.hm_syntax.specs.declared.ast.Module.{Module}
use Rattle.hm_names.specs.Bindings.{IsScopeOf}
use Rattle.hm_scope.specs.Synonyms.{IsOnce, NamesOwn, AddsReferences}
use Rattle.hm_scope.proofs.declared_synonyms.add_references.Given as goal

abbrev pub invariant-used : goal.invariant-used
invariant-used l = record {
  nodes : length l.graph ≡ length l.initial.graph;
  edges : (m : Module) (fs : List Interface) → IsScopeOf m fs l.scoped.scope.now → l.scoped.home.now ≡ m.header.name.text → IsOnce l.scoped.names.now →
      AddsReferences l.scoped.names.now l.initial.graph l.graph (λ i y. (i ≡ l.from) × NamesOwn m fs (map (λ n. n.now) (take l.name-index l.used)) y);
}
