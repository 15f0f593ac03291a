use Rattle.hm_graph_components.proofs.groups.groups_by_search.Goals as goal

pub candidate_groups-requires-clause-back_closed : goal.candidate_groups-requires-clause-back_closed
candidate_groups-requires-clause-back_closed c = rw c.deref.ensures.value c.in_ok-back.ensures.closed

pub are_groups-requires-clause-back_closed : goal.are_groups-requires-clause-back_closed
are_groups-requires-clause-back_closed c = rw c.deref-2.ensures.value c.in_ok-back.ensures.closed
