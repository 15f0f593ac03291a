use Rattle.std.proofs.Common.{◌≡◌, ℕ, List, subst, arith, cond, Some, None}
use Rattle.std.specs.HashMap.{get_by_text}
use Rattle.hm_syntax.specs.Names.{Identifier}
use Rattle.hm_names.specs.Variables.{texts}
use Rattle.hm_names.specs.Texts.{is_text_among}
use Rattle.hm_scope_resolve.specs.Depths.{or_else}
use Rattle.hm_scope_resolve.proofs.DepthTables.{entered}
use Rattle.hm_scope_resolve.proofs.locals.enter_group.Goals as goal

pub returns-clause-depths : goal.returns-clause-depths
returns-clause-depths c = λ known.
    let noted = subst (λ (ns : List Identifier). (x : List ℕ) → get_by_text c.note_all.new.depths x ≡ or_else (get_by_text c.args.depths.now x) (cond (is_text_among x (texts ns)) (Some c.len.result) None)) c.deref.ensures.value c.in_ok-note_all.ensures in
    entered (get_by_text c.args.depths.now) (get_by_text c.note_all.new.depths) c.args.groups.now.items c.push.new.self.items (texts c.args.names.items) c.len.result noted (omega (arith, c.len.ensures, c.args.groups.now.ok.0)) c.in_ok-push.ensures.items known
