use Rattle.std.proofs.Common.{rules, ◌≡◌, refl, sym}
use Rattle.hm_messages_details.proofs.Exporting.{among_at}
use Rattle.hm_messages_details.proofs.exports.near_among.Goals as goal

pub returns-then-branch : goal.returns-then-branch
returns-then-branch g c =
    let entry = c.entry-item.result in
    let named : c.name-name.result.now ≡ g.E.Named.name_of entry = search rules in
    (entry, among_at _ _ c.entries.entry-index entry c.entries-test.true c.entry-item.is refl, sym named, c.in_ok-is_near.ensures c.if-branch.true)
