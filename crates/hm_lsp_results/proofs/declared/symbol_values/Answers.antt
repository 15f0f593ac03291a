use Rattle.std.proofs.Common.{◌∙◌, map, rules, subst}
use Rattle.serde_json.specs.View.{view}
use Rattle.serde_json.proofs.Views.{view-Array}
use Rattle.hm_lsp_positions.specs.Cursors.{Walk}
use Rattle.hm_lsp_values.specs.Symbols.{IsSymbol}
use Rattle.hm_lsp_results.proofs.DeclaredValues.{all_valued, value_more}
use Rattle.hm_lsp_results.proofs.declared.symbol_values.Goals as goal

pub symbols-preserved : goal.symbols-preserved
symbols-preserved c = (
  c.in_ok-symbol_value.ensures.same ∙ c.symbols.invariant.0,
  value_more (IsSymbol c.args.asked.now.encoding c.args.text.now) c.args.symbols.now c.symbols.symbol-index c.symbol-item.result c.in_ok-symbol_value.field-0 c.symbols.values.items c.push.new.self.items c.symbols-test.true c.symbol-item.is
      c.symbols.invariant.1 (subst (λ (w : Walk). IsSymbol w.encoding w.text c.symbol-item.result (view c.in_ok-symbol_value.field-0)) c.symbols.invariant.0 c.in_ok-symbol_value.ensures.value) c.in_ok-push.ensures.items,
)

pub returns : goal.returns
returns c = record {
  values = map view c.symbols.values.items;
  each = all_valued (IsSymbol c.args.asked.now.encoding c.args.text.now) c.args.symbols.now c.symbols.symbol-index (map view c.symbols.values.items) (search rules) c.symbols.invariant.1;
  whole = view-Array c.symbols.values;
}
