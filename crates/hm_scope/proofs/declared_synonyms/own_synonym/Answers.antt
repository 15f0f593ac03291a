use Rattle.std.proofs.Common.{sym, ◌∙◌, get_or, []}
use Rattle.std.proofs.lemmas.Slice.Eq.{bytes_eq-Decides}
use Rattle.hm_scope.proofs.SynonymReferences.{not_unbound, not_ambiguous, some_place, none_place, is_own, names_differ, modules_differ}
use Rattle.hm_names.specs.Entities.{own}
use Rattle.hm_scope.proofs.declared_synonyms.own_synonym.Goals as goal

pub returns-in-Unbound-clause-none : goal.returns-in-Unbound-clause-none
returns-in-Unbound-clause-none c = λ m fs scope home x has. not_unbound m fs c.args.name.now (own m x) (c.in-Unbound.ensures.means m fs scope)

pub returns-in-Ambiguous-clause-none : goal.returns-in-Ambiguous-clause-none
returns-in-Ambiguous-clause-none c = λ m fs scope home x has. not_ambiguous m fs c.args.name.now (own m x) (c.in-Ambiguous.ensures.means m fs scope)

pub returns-then-eq-clause-own : goal.returns-then-eq-clause-own
returns-then-eq-clause-own c = some_place c.place_of.result c.name.result.now c.args.names.now _ c.place_of.ensures (λ j inside is m fs scope home.
    is_own m fs c.args.name.now c.in-Entity.entity c.args.home.now c.name.result.now (get_or c.args.names.now j []) (c.in-Entity.ensures.means m fs scope) home
    (sym c.module.ensures ∙ (bytes_eq-Decides c.module.result.now c.args.home.now).0 (sym c.eq.ensures ∙ c.if-eq.true)) c.name.ensures is)

pub returns-then-eq-clause-none : goal.returns-then-eq-clause-none
returns-then-eq-clause-none c = none_place c.place_of.result c.name.result.now c.args.names.now _ c.place_of.ensures (λ none m fs scope home x has.
    names_differ m fs c.args.name.now c.in-Entity.entity c.args.names.now c.name.result.now x (c.in-Entity.ensures.means m fs scope) c.name.ensures none has)

pub returns-else-eq-clause-none : goal.returns-else-eq-clause-none
returns-else-eq-clause-none c = λ m fs scope home x has.
    modules_differ m fs c.args.name.now c.in-Entity.entity c.args.home.now c.module.result.now x (c.in-Entity.ensures.means m fs scope) home c.module.ensures (sym c.eq.ensures ∙ c.if-eq.false)
