use Rattle.std.proofs.Common.{List, map, subst, sym}
use Rattle.hm_syntax.specs.declared.ast.Export.{Export}
use Rattle.hm_scope_exports.specs.declared.exports.ModuleExports.{ModuleExports}
use Rattle.hm_names.specs.Bindings.{Pair, IsScopeOf}
use Rattle.hm_scope_exports.specs.ModuleExports.{AreListedExports}
use Rattle.hm_scope_exports.proofs.ListedExports.{listed_exports_are, declared_exports_are}
use Rattle.hm_scope_exports.proofs.exports.module_exports.Goals as goal

pub returns-in_default : goal.returns-in_default
returns-in_default c =
    let e : ModuleExports = record { given = c.in_ok-given.given; faults = c.new.result } in
    declared_exports_are c.args.program.now (map (λ i. i.now) c.args.interfaces.now) e c.in_default.is c.in_ok-given.ensures c.new.ensures.items

pub returns : goal.returns
returns c =
    let m = c.args.program.now in
    let fs = map (λ i. i.now) c.args.interfaces.now in
    let scope = subst (λ (l : List Pair). IsScopeOf c.args.program.now (map (λ i. i.now) c.args.interfaces.now) l) (sym c.pairs.ensures) c.requires in
    let listed = c.in_ok-listed_exports.ensures m fs (record { scope = c.requires; modules = c.in_ok-module_names.ensures; groups = c.in_ok-groups_of.ensures scope }) in
    listed_exports_are m fs c.in-Some.items c.in_ok-listed_exports.field-0 c.in-Some.is (subst (λ (l : List Export). AreListedExports c.args.program.now (map (λ i. i.now) c.args.interfaces.now) l c.in_ok-listed_exports.field-0) c.as_slice.ensures listed)
