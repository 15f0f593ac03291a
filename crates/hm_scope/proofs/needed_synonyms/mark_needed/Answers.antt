use Rattle.hm_scope.proofs.needed_synonyms.mark_needed.Goals as goal

pub returns : goal.returns
returns c = λ m fs scope home once. record {
  used = c.mark_used.new.marks;
  added = c.in_ok-mark_used.ensures.added;
  marked = c.in_ok-mark_used.ensures.marked m fs scope home once;
  spread = record { nodes = c.in_ok-spread.ensures.nodes; marks = c.in_ok-spread.ensures.marks };
}
