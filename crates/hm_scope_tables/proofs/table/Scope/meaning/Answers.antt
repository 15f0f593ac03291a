use Rattle.std.proofs.Common.{List, refl, sym, subst, None}
use Rattle.hm_scope_tables.specs.declared.keys.Key.{Key}
use Rattle.hm_names.specs.Bindings.{Pair}
use Rattle.hm_scope_tables.specs.Tables.{IsTold, Tells}
use Rattle.hm_scope_tables.proofs.MeaningsTold.{unbound_meaning, ambiguous_meaning, entity_meaning}
use Rattle.hm_scope_tables.proofs.NameMeanings.{unbound, ambiguous, means}
use Rattle.hm_scope_tables.proofs.table.Scope.meaning.Goals as goal

pub returns-in-None-clause-means : goal.returns-in-None-clause-means
returns-in-None-clause-means c = λ m fs scope.
    let key : Key = record { space = c.args.space; qualifier = c.qualifier_of.result; text = c.as_str.result } in
    let pairs : List Pair = c.self.inside.pairs.items in
    let told : IsTold pairs key None = subst (λ o. IsTold pairs key o) (sym c.in-None.ensures.value) (c.self.invariant key) in
    unbound m fs pairs c.args.space c.args.name.now key (rw (← c.self.view_is) at scope)
    (record { space = refl; qualifier = c.qualifier_of.ensures; text = c.as_str.ensures }) told

pub returns-in-One-clause-means : goal.returns-in-One-clause-means
returns-in-One-clause-means c = λ m fs scope.
    let key : Key = record { space = c.args.space; qualifier = c.qualifier_of.result; text = c.as_str.result } in
    let pairs : List Pair = c.self.inside.pairs.items in
    let slot : Tells pairs key c.in-Some.slot.now = subst (λ o. IsTold pairs key o) (sym c.in-Some.ensures.value) (c.self.invariant key) in
    let told = subst (λ s. Tells pairs key s) c.in-One.is slot in
    rw c.copy.ensures (means m fs pairs c.args.space c.args.name.now key (rw (← c.self.view_is) at scope)
    (record { space = refl; qualifier = c.qualifier_of.ensures; text = c.as_str.ensures }) c.in-One.entity told)

pub returns-in-Several-clause-means : goal.returns-in-Several-clause-means
returns-in-Several-clause-means c = λ m fs scope.
    let key : Key = record { space = c.args.space; qualifier = c.qualifier_of.result; text = c.as_str.result } in
    let pairs : List Pair = c.self.inside.pairs.items in
    let slot : Tells pairs key c.in-Some.slot.now = subst (λ o. IsTold pairs key o) (sym c.in-Some.ensures.value) (c.self.invariant key) in
    let told = subst (λ s. Tells pairs key s) c.in-Several.is slot in
    ambiguous m fs pairs c.args.space c.args.name.now key (rw (← c.self.view_is) at scope)
    (record { space = refl; qualifier = c.qualifier_of.ensures; text = c.as_str.ensures }) told

pub returns-in-None-clause-meaning : goal.returns-in-None-clause-meaning
returns-in-None-clause-meaning c =
    let key : Key = record { space = c.args.space; qualifier = c.qualifier_of.result; text = c.as_str.result } in
    let pairs : List Pair = c.self.inside.pairs.items in
    let told : IsTold pairs key None = subst (λ o. IsTold pairs key o) (sym c.in-None.ensures.value) (c.self.invariant key) in
    rw (← c.self.view_is) (unbound_meaning pairs c.args.space c.args.name.now key (record { space = refl; qualifier = c.qualifier_of.ensures; text = c.as_str.ensures }) told)

pub returns-in-One-clause-meaning : goal.returns-in-One-clause-meaning
returns-in-One-clause-meaning c =
    let key : Key = record { space = c.args.space; qualifier = c.qualifier_of.result; text = c.as_str.result } in
    let pairs : List Pair = c.self.inside.pairs.items in
    let slot : Tells pairs key c.in-Some.slot.now = subst (λ o. IsTold pairs key o) (sym c.in-Some.ensures.value) (c.self.invariant key) in
    let told = subst (λ s. Tells pairs key s) c.in-One.is slot in
    rw c.copy.ensures (rw (← c.self.view_is) (entity_meaning pairs c.args.space c.args.name.now key (record { space = refl; qualifier = c.qualifier_of.ensures; text = c.as_str.ensures }) c.in-One.entity told))

pub returns-in-Several-clause-meaning : goal.returns-in-Several-clause-meaning
returns-in-Several-clause-meaning c =
    let key : Key = record { space = c.args.space; qualifier = c.qualifier_of.result; text = c.as_str.result } in
    let pairs : List Pair = c.self.inside.pairs.items in
    let slot : Tells pairs key c.in-Some.slot.now = subst (λ o. IsTold pairs key o) (sym c.in-Some.ensures.value) (c.self.invariant key) in
    let told = subst (λ s. Tells pairs key s) c.in-Several.is slot in
    rw (← c.self.view_is) (ambiguous_meaning pairs c.args.space c.args.name.now key (record { space = refl; qualifier = c.qualifier_of.ensures; text = c.as_str.ensures }) told)
