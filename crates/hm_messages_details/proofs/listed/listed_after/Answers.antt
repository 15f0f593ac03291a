use Rattle.hm_messages_details.proofs.Listing.{listed_constructor}
use Rattle.hm_messages_details.proofs.listed.listed_after.Goals as goal

pub returns-else-not-is_at_one : goal.returns-else-not-is_at_one
returns-else-not-is_at_one c =
    let found = rw c.as_slice.ensures at (c.is_at_one.ensures c.if-not-is_at_one.false) in
    rw c.in-Some.is (listed_constructor c.args.fault.now c.args.name.now c.in-Some.names c.as_str.result.now found c.as_str.ensures)
