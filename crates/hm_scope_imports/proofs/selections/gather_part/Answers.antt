use Rattle.std.proofs.Common.{◌≡◌}
use Rattle.std.proofs.lemmas.Bool.{both_ways}
use Rattle.hm_scope_tables.specs.NameSets.{FullName}
use Rattle.hm_scope_imports.specs.Gathered.{bare, IsOwned}
use Rattle.hm_names.specs.declared.namespace.Namespace.TheVariants.{Constructors}
use Rattle.hm_names.proofs.AddedPairs.{adds_where, adds_where_not}
use Rattle.hm_scope_imports.proofs.GatheredLemmas.{not_owned, none_owned}
use Rattle.hm_scope_imports.proofs.selections.gather_part.Goals as goal

pub returns-in_default : goal.returns-in_default
returns-in_default c =
    let f = c.args.interface.now in
    let x = c.args.part.now.text in
    adds_where_not c.args.names.now (IsOwned f c.args.owner.now x) (λ (n : FullName). n ≡ bare Constructors x) (none_owned f c.args.owner.now x (rw (c.constructors.ensures.value, c.as_str.ensures) at c.in_default.ensures))

pub returns-then-not-is_same : goal.returns-then-not-is_same
returns-then-not-is_same c =
    let f = c.args.interface.now in
    let x = c.args.part.now.text in
    let k = c.in-Some.constructor.now in
    let found = rw (c.constructors.ensures.value, c.as_str.ensures) at c.in-Some.ensures in
    adds_where_not c.args.names.now (IsOwned f c.args.owner.now x) (λ (n : FullName). n ≡ bare Constructors x)
    (not_owned f c.args.owner.now x k c.constructors.ensures.valid.constructors found.0 found.1 (λ e. both_ways c.is_same.result c.if-not-is_same.true (c.is_same.ensures.1 e)))

pub returns : goal.returns
returns c =
    let f = c.args.interface.now in
    let x = c.args.part.now.text in
    let k = c.in-Some.constructor.now in
    let found = rw (c.constructors.ensures.value, c.as_str.ensures) at c.in-Some.ensures in
    adds_where c.args.names.now c.insert.new.self (IsOwned f c.args.owner.now x) (λ (n : FullName). n ≡ bare Constructors x)
    (k, (found.0, (found.1, c.is_same.ensures.0 c.if-not-is_same.false))) (rw c.as_str-2.ensures at c.in_ok-insert.ensures)
