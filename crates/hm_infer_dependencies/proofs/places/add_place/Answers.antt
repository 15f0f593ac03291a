use Rattle.hm_infer_dependencies.proofs.Belonging.{added_place}
use Rattle.hm_infer_dependencies.proofs.places.add_place.Goals as goal

pub returns-clause-added : goal.returns-clause-added
returns-clause-added c = added_place c.args.rows.now.items c.args.owner c.in-Some.own c.args.place c.index_mut-row.result.now c.push.new.self c.in-Some.is (c.requires c.in-Some.own c.in-Some.is) c.index_mut-row.ensures.value c.in_ok-push.ensures.items
