use Rattle.std.proofs.Common.{◌∙◌, refl, get_or}
use Rattle.hm_scope.proofs.SettledSynonyms.{finishes_more}
use Rattle.hm_scope.proofs.finished_synonyms.add_in_order.Goals as goal

pub order-preserved : goal.order-preserved
order-preserved c = record {
  types = c.in_ok-add_numbered.ensures.types ∙ c.order.invariant.types;
  constructors = c.in_ok-add_numbered.ensures.constructors ∙ c.order.invariant.constructors;
  finished = λ m fs r scope home expands. finishes_more m fs r c.args.unfinished.now.scope.now c.args.unfinished.now.home.now c.args.unfinished.now.declared.now c.args.order.now c.order.number-index (get_or c.args.order.now c.order.number-index 0) c.args.tables.now c.order.tables c.add_numbered.new.tables
      scope home expands c.order-test.true refl c.in_ok-add_numbered.ensures.none c.in_ok-add_numbered.ensures.others c.in_ok-add_numbered.ensures.synonym (c.order.invariant.finished m fs r scope home expands);
}
