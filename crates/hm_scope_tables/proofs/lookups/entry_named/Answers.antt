use Rattle.std.proofs.Common.{sym, rules, Ok, Err}
use Rattle.std.specs.Ordering.{nat_cmp}
use Rattle.std.specs.Cmp.Lexicographic.{slice_cmp}
use Rattle.std.proofs.lemmas.Fn.{always_returns_same}
use Rattle.hm_scope_tables.proofs.SortedNames.{searched_by_name}
use Rattle.hm_scope_tables.proofs.lookups.entry_named.Goals as goal

pub returns-in-Ok : goal.returns-in-Ok
returns-in-Ok g c =
    let xs = c.args.entries.now in
    let found = c.in-Ok.ensures.position (λ y. slice_cmp nat_cmp (g.E.Named.name_of y) c.args.name.now) (always_returns_same _ _ _ (λ a r g q. (search rules, search rules))) in
    let at = searched_by_name g.E.Named.name_of xs c.args.name.now (Ok c.in-Ok.place) c.requires c.in-Ok.ensures.bound found in
    let entry = c.index-entries-place.result in
    ((c.in-Ok.place, at.0, sym c.index-entries-place.is), rw (← c.index-entries-place.is) at (at.1 entry))

pub returns-in-Err : goal.returns-in-Err
returns-in-Err g c =
    let xs = c.args.entries.now in
    let found = c.in-Err.ensures.position (λ y. slice_cmp nat_cmp (g.E.Named.name_of y) c.args.name.now) (always_returns_same _ _ _ (λ a r g q. (search rules, search rules))) in
    searched_by_name g.E.Named.name_of xs c.args.name.now (Err c.in-Err.field-0) c.requires c.in-Err.ensures.bound found
