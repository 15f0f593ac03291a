-- Worked examples of what a server says that it does, by computing.
use Rattle.std.proofs.Common.{◌≡◌, ℕ, List, Bool, None, Some, codes, refl, true}
use Rattle.serde_json.proofs.OnLiterals.{serde_json_on_literals}
use Rattle.serde_json.specs.Data.{Data, boolean, member, no_members, null, object}
use Rattle.serde_json.specs.Find.{get}
use Rattle.hm_lsp_session.specs.Units.{capabilities_data}
use Rattle.hm_lsp_session.specs.Watching.{IsWatching, OffersToWatch, no, yes}
use Rattle.hm_lsp_session.specs.Worked.{AreProvided, CapabilitiesRow, WatchingRow}

each_is : (units : List ℕ) (completions renames : Data) → AreProvided (capabilities_data units completions renames)
unfolding serde_json_on_literals
each_is units completions renames = record {
  actions = record { provider = boolean true; listed = refl; served = refl };
  completions = record { provider = completions; listed = refl; served = refl };
  definitions = record { provider = boolean true; listed = refl; served = refl };
  highlights = record { provider = boolean true; listed = refl; served = refl };
  symbols = record { provider = boolean true; listed = refl; served = refl };
  hovers = record { provider = boolean true; listed = refl; served = refl };
  references = record { provider = boolean true; listed = refl; served = refl };
  renames = record { provider = renames; listed = refl; served = refl };
  of_all = record { provider = boolean true; listed = refl; served = refl };
}

not_listed_is : (units : List ℕ) (completions renames : Data) → get (codes "documentFormattingProvider") (capabilities_data units completions renames) ≡ None
unfolding serde_json_on_literals
not_listed_is units completions renames = refl

pub worked_capabilities : CapabilitiesRow
worked_capabilities = record { each = each_is; not_listed = not_listed_is; no_requests = refl }

offers :
    OffersToWatch
    (object (member (codes "capabilities") (object (member (codes "workspace") (object (member (codes "didChangeWatchedFiles") (object (member (codes "dynamicRegistration") (boolean true) no_members)) no_members)) no_members)) no_members))
unfolding serde_json_on_literals
offers = refl

is_none : (b : Bool) → None ≡ Some b → ⊥
is_none b h = cc

nothing_offered : OffersToWatch null → ⊥
unfolding serde_json_on_literals
nothing_offered h = is_none true h

not_without : IsWatching null true → ⊥
not_without (yes h) = nothing_offered h

pub worked_watching : WatchingRow
worked_watching = record { offered = yes offers; not_offered = no nothing_offered; not_without = not_without }
