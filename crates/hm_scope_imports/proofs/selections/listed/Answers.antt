use Rattle.std.proofs.Common.{◌≡◌, [], sym, ◌∙◌}
use Rattle.hm_scope_imports.proofs.GatheredLemmas.{listed_is, all_named, no_keys}
use Rattle.hm_scope_imports.proofs.selections.listed.Goals as goal

pub returns-then-is_empty : goal.returns-then-is_empty
returns-then-is_empty c =
    let f = c.args.interface.now in
    let is = c.args.items.now in
    let opened = c.gather_all_opened.new.opened in
    let names = c.gather_all_names.new.names in
    let none : opened ≡ [] = sym c.keys.ensures ∙ no_keys c.keys.result.now (sym c.is_empty.ensures ∙ c.if-is_empty.true) in
    listed_is f is c.args.list_use opened names names
    (rw c.new-names.ensures at c.in_ok-gather_all_names.ensures)
    (rw c.new-opened.ensures at c.in_ok-gather_all_opened.ensures)
    (all_named f is names opened none)

pub returns : goal.returns
returns c =
    let f = c.args.interface.now in
    let is = c.args.items.now in
    listed_is f is c.args.list_use c.gather_all_opened.new.opened c.gather_all_names.new.names c.gather_constructors.new.names
    (rw c.new-names.ensures at c.in_ok-gather_all_names.ensures)
    (rw c.new-opened.ensures at c.in_ok-gather_all_opened.ensures)
    (rw c.constructors.ensures.value at c.in_ok-gather_constructors.ensures)
