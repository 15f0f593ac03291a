use Rattle.hm_store.proofs.WorkedBuilds as rows
use Rattle.hm_store.proofs.WorkedLegal.{legal}
use Rattle.hm_store.proofs.WorkedSteps as next
use Rattle.hm_store.proofs.laws.worked_builds.Goals as goal

pub returns : goal.returns
returns c = record {
  dependents = rows.dependents;
  replies = rows.replies;
  least = rows.least;
  stop = rows.stop;
  skip = rows.skip;
  not_allowed = rows.not_allowed;
  refusal = rows.refusal;
  stranger = next.stranger;
  steps = next.steps;
  places = next.places;
  one_record = rows.one_record;
  two_records = rows.two_records;
  legal = legal;
}
