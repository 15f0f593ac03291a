use Rattle.std.proofs.Common.{◌≡◌, map}
use Rattle.hm_scope.specs.NeededSynonyms.{kept_by}
use Rattle.hm_scope.proofs.needed_synonyms.kept_decls.Given as goal

abbrev pub invariant-loop-decl : goal.invariant-loop-decl
invariant-loop-decl l = l.all.items ≡ map (kept_by l.exported) l.yielded
