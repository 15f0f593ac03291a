use Rattle.hm_infer_context.specs.Constructors.{known_of}
use Rattle.hm_infer.proofs.untyped_units.fault_starts.Goals as goal

pub starts_of_groups-requires-clause-list : goal.starts_of_groups-requires-clause-list
starts_of_groups-requires-clause-list c = record { nodes_are = c.in_ok-found.ensures.nodes; rows_are = c.in_ok-found.ensures.rows; apart = (c.in_ok-found.ensures.groups (known_of c.args.constructors.now)).one_number }

pub starts_of_groups-requires-clause-groups : goal.starts_of_groups-requires-clause-groups
starts_of_groups-requires-clause-groups c = c.in_ok-found.ensures.groups (known_of c.args.constructors.now)
