use Rattle.std.proofs.Common.{sym, ap, ◌∙◌, cond, None, ℕ, List, bytes_eq}
use Rattle.std.specs.HashMap.{get_by_text}
use Rattle.std.proofs.lemmas.Map.Text.{hash_map_updates_text}
use Rattle.hm_scope_resolve.proofs.DepthTables.{forgotten}
use Rattle.hm_scope_resolve.proofs.locals.forget.Goals as goal

pub returns-then-known-depth : goal.returns-then-known-depth
returns-then-known-depth c = λ x.
    let removed = hash_map_updates_text c.as_str-then-known-depth.result.now c.args.depths.now c.remove.new.self _ c.remove.ensures.updates x in
    forgotten (get_by_text c.args.depths.now) (get_by_text c.remove.new.self) c.args.name.now.text x c.in-Some.known.now c.args.depth
    (removed ∙ ap (λ (k : List ℕ). cond (bytes_eq k x) None (get_by_text c.args.depths.now x)) c.as_str-then-known-depth.ensures)
    (ap (get_by_text c.args.depths.now) (sym c.as_str.ensures) ∙ sym c.in-Some.ensures.value) c.if-known-depth.true
