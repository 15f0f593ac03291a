use Rattle.std.proofs.Common.{◌≡◌, List, [], length, take}
use Rattle.std.specs.Prelude.{slice_index_or}
use Rattle.hm_types.specs.Interfaces.{Exports as Interface}
use Rattle.hm_names.specs.Bindings.{IsScopeOf}
use Rattle.hm_scope.specs.Synonyms.{IsOnce, RefersIn, AddsReferences}
use Rattle.hm_scope.proofs.declared_synonyms.reference_graph.Given as goal

abbrev pub invariant-decls : goal.invariant-decls
invariant-decls l = record {
  nodes : length l.graph ≡ length l.initial.graph;
  edges : (fs : List Interface) → IsScopeOf l.program fs l.scoped.scope.now → IsOnce l.scoped.names.now →
      AddsReferences l.scoped.names.now l.initial.graph l.graph (λ i y. RefersIn l.program fs (take l.decl-index l.program.decls) (slice_index_or l.scoped.names.now i []) y);
}
