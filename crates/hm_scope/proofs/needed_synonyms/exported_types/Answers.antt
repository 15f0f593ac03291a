use Rattle.std.proofs.Common.{ℕ, List, ◌↔◌, Contains}
use Rattle.hm_names.specs.Bindings.{Pair}
use Rattle.hm_scope.specs.NeededSynonyms.{Exports}
use Rattle.hm_scope.proofs.NeededMarks.{exports_more}
use Rattle.hm_scope.proofs.SynonymReferences.{all_of}
use Rattle.hm_scope.proofs.needed_synonyms.exported_types.Goals as goal

pub given-preserved : goal.given-preserved
given-preserved c = exports_more c.args.home.now c.args.given.now c.given.binding-index c.binding-item.result c.given.names c.add_exported.new.names c.given-test.true c.binding-item.is c.given.invariant c.in_ok-add_exported.ensures

pub returns : goal.returns
returns c = all_of (λ (l : List Pair). (x : List ℕ) → Contains c.given.names x ↔ Exports c.args.home.now l x) c.args.given.now c.given.binding-index c.given-test.false c.given.invariant
