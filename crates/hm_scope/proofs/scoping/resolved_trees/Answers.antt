use Rattle.std.proofs.Common.{List, Bor, map, subst, ◌↔◌, ℕ, Contains}
use Rattle.hm_types.specs.Interfaces.{Exports as Interface}
use Rattle.hm_syntax.specs.Trees.{Declaration}
use Rattle.hm_names.specs.Bindings.{Pair}
use Rattle.hm_scope.specs.NeededSynonyms.{Exports}
use Rattle.hm_scope.specs.Synonyms.{AreOwnSynonyms}
use Rattle.hm_scope.proofs.ModuleAnswers.{own_exported}
use Rattle.hm_scope.proofs.scoping.resolved_trees.Goals as goal

pub trees_over-requires-clause-synonyms : goal.trees_over-requires-clause-synonyms
trees_over-requires-clause-synonyms c = subst (λ (ds : List Declaration). AreOwnSynonyms ds c.in_ok-own.own) c.as_slice.ensures c.in_ok-own.ensures

pub trees_over-requires-clause-exported : goal.trees_over-requires-clause-exported
trees_over-requires-clause-exported c =
    own_exported c.args.scoped.now.program.now (map (λ (f : Bor Interface). f.now) c.args.scoped.now.interfaces.now) c.args.exports.now c.as_str.result.now c.in_ok-exported.exported c.requires.exports c.as_str.ensures
    (subst (λ (ps : List Pair). (x : List ℕ) → Contains c.in_ok-exported.exported x ↔ Exports c.as_str.result.now ps x) c.deref.ensures.value c.in_ok-exported.ensures)
