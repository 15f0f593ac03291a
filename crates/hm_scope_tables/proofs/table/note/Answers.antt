use Rattle.std.proofs.Common.{◌++◌, [], ◌∷◌, None, sym, ◌∙◌, subst}
use Rattle.hm_scope_tables.specs.declared.keys.Key.{Key}
use Rattle.hm_scope_tables.specs.declared.table.Slot.TheVariants.{One}
use Rattle.hm_names.specs.Bindings.{Pair}
use Rattle.hm_scope_tables.specs.Tables.{IsTold, IsNamed, Tells}
use Rattle.hm_scope_tables.proofs.NameTables.{noted, noted_twice, tells_first}
use Rattle.hm_scope_tables.proofs.table.note.Goals as goal

pub returns-in-None : goal.returns-in-None
returns-in-None c = λ pairs table.
    let key : Key = record { space = c.space.result; qualifier = c.qualifier.result; text = c.text.result } in
    let p : Pair = c.args.binding.now in
    let named : IsNamed key p = record { space = sym c.space.ensures; qualifier = sym c.qualifier.ensures; text = sym c.text.ensures } in
    let told : IsTold pairs key None = subst (λ o. IsTold pairs key o) (sym c.in_ok-insert.ensures.old ∙ c.in-None.is) (table key) in
    noted pairs p c.args.table.now c.insert.new.self key (One c.copy.result) named table (tells_first pairs p key c.copy.result named told (sym (c.copy.ensures ∙ c.entity.ensures))) c.in_ok-insert.ensures.updates.0

pub returns-in_ok-insert-in-Some : goal.returns-in_ok-insert-in-Some
returns-in_ok-insert-in-Some c = λ pairs table.
    let key : Key = record { space = c.space.result; qualifier = c.qualifier.result; text = c.text.result } in
    let p : Pair = c.args.binding.now in
    let named : IsNamed key p = record { space = sym c.space.ensures; qualifier = sym c.qualifier.ensures; text = sym c.text.ensures } in
    let told : Tells pairs key c.in-Some.known = subst (λ o. IsTold pairs key o) (sym c.in_ok-insert.ensures.old ∙ c.in-Some.is) (table key) in
    let tells : Tells (pairs ++ p ∷ []) key c.with_entity-slot.result = c.with_entity-slot.ensures pairs p key named (sym c.entity-in-Some.ensures) told in
    noted pairs p c.args.table.now c.insert-in-Some.new.self key c.with_entity-slot.result named table tells
    (noted_twice c.args.table.now c.insert.new.self c.insert-in-Some.new.self key (One c.copy.result) c.with_entity-slot.result c.in_ok-insert.ensures.updates.0 c.in_ok-insert-in-Some.ensures.updates.0)
