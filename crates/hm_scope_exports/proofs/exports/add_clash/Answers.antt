use Rattle.std.proofs.Common.{◌∙◌}
use Rattle.hm_names.specs.declared.faults.Kind.TheVariants.{ExportClash}
use Rattle.hm_scope_exports.proofs.ExportClashes.{no_clash, one_clash}
use Rattle.hm_scope_exports.proofs.exports.add_clash.Goals as goal

pub returns-in_default : goal.returns-in_default
returns-in_default c = λ all table. no_clash c.args.faults.now.items all c.args.given.now c.args.item.now (c.in_default.ensures all table)

pub returns : goal.returns
returns c = λ all table.
    one_clash c.args.faults.now.items c.push.new.self.items all c.args.given.now c.args.item.now c.in-Some.text.now (record { place = c.item_place.result; kind = ExportClash; name = c.in_ok-name.name }) (c.in-Some.ensures all table)
    (λ i. record { place = record { line = c.item_place.ensures.line i; column = c.item_place.ensures.column i }; kind = ExportClash; name = (c.in_ok-name.ensures ∙ c.in_ok-from_str.ensures.ok) i }) c.in_ok-push.ensures.items
