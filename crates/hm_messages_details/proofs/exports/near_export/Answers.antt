use Rattle.std.proofs.Common.{rules, ◌≡◌, map, option_map}
use Rattle.hm_messages_details.proofs.Exporting.{near_export_is}
use Rattle.hm_messages_details.proofs.Found.{at_index}
use Rattle.hm_messages_details.specs.NearExports.{IsNearIn}
use Rattle.hm_messages_details.proofs.exports.near_export.Goals as goal

pub returns-in-Some : goal.returns-in-Some
returns-in-Some c =
    let item = c.interface-item.result in
    let owner = option_map (λ t. t.now) c.args.owner in
    let called : c.name.result.now ≡ item.now.name = search rules in
    let named : c.name.result.now ≡ c.args.module.now = search rules in
    let text : c.as_str.result.now ≡ c.args.fault.now.name = search rules in
    let near : IsNearIn item.now c.as_str.result.now owner c.in-Some.name.now = search rules in
    near_export_is (map (λ f. f.now) c.args.interfaces.now) c.args.fault.now c.args.module.now owner c.in-Some.name.now c.as_str.result.now c.name.result.now item.now
    (at_index (λ f. f.now) c.args.interfaces.now c.interfaces.interface-index item c.interfaces-test.true c.interface-item.is) called named text near
