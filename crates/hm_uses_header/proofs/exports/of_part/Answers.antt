use Rattle.hm_uses_header.proofs.Exported.{part_of_none, part_of_several, part_found, part_missing}
use Rattle.hm_uses_header.proofs.exports.of_part.Goals as goal

pub returns-in-Unbound : goal.returns-in-Unbound
returns-in-Unbound c = λ m fs a l. part_of_none m fs c.args.of.now c.args.part.now (c.in-Unbound.ensures.means m fs a.scope)

pub returns-in-Ambiguous : goal.returns-in-Ambiguous
returns-in-Ambiguous c = λ m fs a l. part_of_several m fs c.args.of.now c.args.part.now (c.in-Ambiguous.ensures.means m fs a.scope)

pub returns-in-Some : goal.returns-in-Some
returns-in-Some c = λ m fs a l. part_found m fs c.args.of.now c.args.part.now c.in-Entity.owner c.in-Some.entity c.as_str.result.now c.as_str.ensures (c.in-Entity.ensures.means m fs a.scope) (c.in-Some.ensures m fs (a.groups l))

pub returns-in-None : goal.returns-in-None
returns-in-None c = λ m fs a l. part_missing m fs c.args.of.now c.args.part.now c.in-Entity.owner c.as_str.result.now c.as_str.ensures (c.in-Entity.ensures.means m fs a.scope) (c.in-None.ensures m fs (a.groups l))
