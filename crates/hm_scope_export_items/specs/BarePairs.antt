-- Sets of bare names with their entities. No public clause names these.
use Rattle.std.specs.Prelude.{List, None, map, Bool, ◌&&◌}
use Rattle.std.specs.Str.{bytes_eq}
use denote.Enum.Bare.{sameb}
use Rattle.hm_names.specs.contracts.namespace.Namespace.{the_type}
use Rattle.hm_scope_export_items.specs.declared.bare_pairs.BareKey.{BareKey}
use Rattle.hm_names.specs.Bindings.{Pair}

-- the result of `==` for two keys
abbrev pub same_bare : BareKey → BareKey → Bool
same_bare j k = sameb the_type j.space k.space && (bytes_eq j.text.now k.text.now && (bytes_eq j.«module».now k.«module».now && bytes_eq j.name.now k.name.now))

-- the pair of a key
abbrev pub pair_at : BareKey → Pair
pair_at k = record { space = k.space; qualifier = None; text = k.text.now; entity = record { «module» = k.«module».now; name = k.name.now } }

abbrev pub pairs_at : List BareKey → List Pair
pairs_at ks = map pair_at ks

-- the entity of a pair with its bare name
abbrev pub bare_of : Pair → Pair
bare_of p = record { space = p.space; qualifier = None; text = p.text; entity = p.entity }
