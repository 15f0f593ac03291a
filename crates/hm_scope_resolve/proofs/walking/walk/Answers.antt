use Rattle.std.proofs.Common.{◌↔◌, List, subst, ap, ◌∙◌}
use Rattle.hm_syntax.specs.declared.ast.Module.{Module}
use Rattle.std.specs.List.{Contains}
use Rattle.hm_names.specs.declared.faults.Fault.{Fault}
use Rattle.hm_names.specs.Walk.{Somewhere}
use Rattle.hm_names.specs.Found.{lookups_in}
use Rattle.hm_names.specs.NodeFaults.{NodeFault}
use Rattle.hm_names.proofs.Standing.{noted_somewhere}
use Rattle.hm_scope_resolve.proofs.Walks.{all_noted}
use Rattle.hm_scope_resolve.proofs.walking.walk.Goals as goal

pub returns-clause-faults : goal.returns-clause-faults
returns-clause-faults c = λ fs known f.
    let m = c.args.«module».now in
    let k = lookups_in c.args.scope.now c.args.tables.now.synonyms c.args.tables.now.types c.args.tables.now.constructors in
    subst (λ (l : List Fault). Contains l f ↔ Somewhere m (NodeFault m fs f))
    (all_noted k m.decls _ _ c.new-walk.result c.note_list.new.self c.decl_row.new.self c.into_faults.result.items c.new-walk.ensures (c.as_slice.ensures ∙ ap (λ (x : Module). x.decls) c.module.view_is) (c.as_slice-2.ensures ∙ ap (λ (x : Module). x.decls) c.module.view_is) c.in_ok-note_list.ensures c.in_ok-decls.ensures.state c.into_faults.ensures)
    (noted_somewhere m fs k known f)
