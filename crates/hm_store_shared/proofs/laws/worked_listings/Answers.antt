use Rattle.hm_store_shared.proofs.WorkedEntries as entries
use Rattle.hm_store_shared.proofs.WorkedListings as rows
use Rattle.hm_store_shared.proofs.laws.worked_listings.Goals as goal

pub returns : goal.returns
returns c = record { listings = rows.listings; claims = rows.claims; publishes = rows.publishes; seen = rows.seen; held = entries.held; begins = entries.begins; calls = entries.calls }
