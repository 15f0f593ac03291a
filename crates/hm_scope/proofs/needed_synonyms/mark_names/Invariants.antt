use Rattle.std.proofs.Common.{◌≡◌, List, map, take}
use Rattle.hm_types.specs.Interfaces.{Exports as Interface}
use Rattle.hm_syntax.specs.declared.ast.Module.{Module}
use Rattle.hm_names.specs.Bindings.{IsScopeOf}
use Rattle.hm_scope.specs.Synonyms.{IsOnce}
use Rattle.hm_scope.specs.NeededSynonyms.{AddsMarks, MarksNames}
use Rattle.hm_scope.proofs.needed_synonyms.mark_names.Given as goal

abbrev pub invariant-used : goal.invariant-used
invariant-used l = record {
  added : AddsMarks l.initial.marks l.marks;
  marked : (m : Module) (fs : List Interface) → IsScopeOf m fs l.scoped.scope.now → l.scoped.home.now ≡ m.header.name.text → IsOnce l.scoped.names.now → MarksNames m fs l.scoped.names.now l.marks (map (λ n. n.now) (take l.name-index l.used));
}
