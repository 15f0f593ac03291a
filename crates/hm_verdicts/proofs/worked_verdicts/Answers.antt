use Rattle.hm_verdicts.proofs.WorkedVerdicts as rows
use Rattle.hm_verdicts.proofs.worked_verdicts.Goals as goal

pub returns : goal.returns
returns c = record {
  plan = rows.plan;
  skeleton = rows.skeleton;
  circular = rows.circle;
  first_entry = rows.first_entry;
  verdict = rows.verdict;
  canonical = rows.canonical;
  general = rows.general;
  set = rows.set;
  settled = rows.settled_table;
  accepted = rows.accepted;
}
