use Rattle.std.proofs.Common.{◌∷◌, ◌∙◌, List, map, sym, subst}
use Rattle.std.specs.Arc.{arc_value}
use Rattle.hm_types.specs.Interfaces.{Exports as Interface}
use Rattle.hm_scope.specs.declared.scoping.Answer.{Answer}
use Rattle.hm_names.specs.Bindings.{Pair}
use Rattle.hm_scope_exports.specs.ExportedRows.{HaveOneEntity}
use Rattle.hm_scope.specs.Answers.{IsAnswer, AreExportedRows, rows_in}
use Rattle.hm_scope.proofs.ModuleAnswers.{core_is}
use Rattle.hm_scope.proofs.scoping.outcome_of.Goals as goal

pub returns-in-Faulty : goal.returns-in-Faulty
returns-in-Faulty c = subst (λ (a : Answer). IsAnswer c.args.module.now (arc_value c.args.prelude.now ∷ map arc_value c.args.imports.now) a) c.in-Faulty.is c.requires

pub exported_rows-requires : goal.exported_rows-requires
exported_rows-requires c =
    let answer = subst (λ (a : Answer). IsAnswer c.args.module.now (arc_value c.args.prelude.now ∷ map arc_value c.args.imports.now) a) c.in-Resolved.is c.requires in
    subst (λ (ps : List Pair). HaveOneEntity ps) (sym c.deref.ensures.value) answer.one_entity

pub returns-in_ok-core_of-in-Resolved : goal.returns-in_ok-core_of-in-Resolved
returns-in_ok-core_of-in-Resolved c =
    let m = c.args.module.now in
    let fs : List Interface = arc_value c.args.prelude.now ∷ map arc_value c.args.imports.now in
    let answer = subst (λ (a : Answer). IsAnswer m fs a) c.in-Resolved.is c.requires in
    let core = c.in_ok-core_of-in-Resolved in
    core_is m fs c.in-Resolved.decls.items c.in-Resolved.given.items c.in_ok-exports-in-Resolved.exports core.field-0 answer
    (subst (λ (ps : List Pair). AreExportedRows ps (rows_in c.in_ok-exports-in-Resolved.exports)) c.deref.ensures.value c.in_ok-exports-in-Resolved.ensures)
    core.ensures.name core.ensures.decls (core.ensures.interfaces ∙ c.in_ok-interfaces-in-Resolved.ensures) core.ensures.types core.ensures.constructors core.ensures.values
