use Rattle.std.proofs.Common.{◌≡◌, ◌≤◌, take}
use Rattle.hm_typing.specs.Names.{IsOneOf}
use Rattle.hm_infer_dependencies.specs.declared.members.Member.{Member}
use Rattle.hm_infer_results.proofs.finding_faults.first_place.Given as goal

abbrev pub invariant-members : goal.invariant-members
invariant-members l = record {
  of_member : (m : Member) × (IsOneOf m l.members × (m.place ≡ l.place));
  least : (o : Member) → IsOneOf o (take l.member-index l.members) → l.place ≤ o.place;
}
