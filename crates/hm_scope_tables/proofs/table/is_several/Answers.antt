use Rattle.std.proofs.Common.{sym, subst}
use Rattle.hm_scope_tables.specs.declared.keys.Key.{Key}
use Rattle.hm_scope_tables.specs.Tables.{IsTold, Tells}
use Rattle.hm_scope_tables.proofs.SeveralLemmas.{none_several, one_several, all_several}
use Rattle.hm_scope_tables.proofs.table.is_several.Goals as goal

pub returns-in-None : goal.returns-in-None
returns-in-None c = λ pairs table.
    let key : Key = record { space = c.space.result; qualifier = c.qualifier.result; text = c.text.result } in
    none_several pairs c.args.pair.now key (record { space = c.space.ensures; qualifier = c.qualifier.ensures; text = c.text.ensures })
    (subst (λ o. IsTold pairs key o) (sym c.in-None.ensures.value) (table key))

pub returns-in-One : goal.returns-in-One
returns-in-One c = λ pairs table.
    let key : Key = record { space = c.space.result; qualifier = c.qualifier.result; text = c.text.result } in
    let told = subst (λ o. IsTold pairs key o) (sym c.in-Some.ensures.value) (table key) in
    one_several pairs c.args.pair.now key c.in-One.field-0 (record { space = c.space.ensures; qualifier = c.qualifier.ensures; text = c.text.ensures })
    (subst (λ s. Tells pairs key s) c.in-One.is told)

pub returns-in-Several : goal.returns-in-Several
returns-in-Several c = λ pairs table.
    let key : Key = record { space = c.space.result; qualifier = c.qualifier.result; text = c.text.result } in
    let told = subst (λ o. IsTold pairs key o) (sym c.in-Some.ensures.value) (table key) in
    all_several pairs c.args.pair.now key (record { space = c.space.ensures; qualifier = c.qualifier.ensures; text = c.text.ensures })
    (subst (λ s. Tells pairs key s) c.in-Several.is told)
