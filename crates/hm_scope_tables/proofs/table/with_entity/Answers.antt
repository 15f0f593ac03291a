use Rattle.std.proofs.Common.{◌∙◌, sym, subst}
use Rattle.std.proofs.lemmas.Bool.{both_ways}
use Rattle.hm_scope_tables.specs.Tables.{Tells}
use Rattle.hm_scope_tables.proofs.NameTables.{tells_same, tells_other, tells_several}
use Rattle.hm_scope_tables.proofs.table.with_entity.Goals as goal

pub returns-in-Several : goal.returns-in-Several
returns-in-Several c = λ pairs p k named is tells. tells_several pairs p k (subst (λ s. Tells pairs k s) c.in-Several.is tells)

pub returns-then-not-is_same : goal.returns-then-not-is_same
returns-then-not-is_same c = λ pairs p k named is tells.
    tells_other pairs p k c.in-One.known named (λ same. both_ways c.is_same.result c.if-not-is_same.true (c.is_same.ensures.1 (sym is ∙ same)))
    (subst (λ s. Tells pairs k s) c.in-One.is tells)

pub returns-else-not-is_same : goal.returns-else-not-is_same
returns-else-not-is_same c = λ pairs p k named is tells.
    let known = subst (λ s. Tells pairs k s) c.in-One.is tells in
    rw c.copy.ensures (tells_same pairs p k c.in-One.known (is ∙ c.is_same.ensures.0 c.if-not-is_same.false) known)
