-- The steps by which a set is changed. No public clause names these.
use Rattle.std.specs.Prelude.{◌≡◌, List, ◌++◌}
use Rattle.std.specs.List.{AllZip}
use Rattle.hm_service_offers.specs.Changed.{IsSameSource}
use Rattle.hm_service_sources.specs.declared.held.HeldSource.{HeldSource}

-- copies of sources come after others
pub record AreAppended (more old new : List HeldSource) : Type 0 where
  pub copies : List HeldSource
  pub same : AllZip IsSameSource more copies
  pub whole : new ≡ old ++ copies
