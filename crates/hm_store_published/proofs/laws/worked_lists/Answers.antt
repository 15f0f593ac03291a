use Rattle.hm_store_published.proofs.WorkedLists.{lists, numbers}
use Rattle.hm_store_published.proofs.laws.worked_lists.Goals as goal

pub returns : goal.returns
returns c = record { lists = lists; numbers = numbers }
