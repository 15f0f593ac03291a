use Rattle.hm_uses.specs.Uses.{no_entity, several, one}
use Rattle.hm_uses_header.proofs.exports.by_scope.Goals as goal

pub returns-in-Unbound : goal.returns-in-Unbound
returns-in-Unbound c = λ m fs scope. let k = rw c.in-Unbound.is at c.meaning.ensures.means m fs scope in no_entity k

pub returns-in-Ambiguous : goal.returns-in-Ambiguous
returns-in-Ambiguous c = λ m fs scope. let k = rw c.in-Ambiguous.is at c.meaning.ensures.means m fs scope in several k

pub returns-in-Entity : goal.returns-in-Entity
returns-in-Entity c = λ m fs scope. let k = rw c.in-Entity.is at c.meaning.ensures.means m fs scope in one k
