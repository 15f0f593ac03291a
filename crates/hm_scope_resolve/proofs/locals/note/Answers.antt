use Rattle.std.proofs.Common.{◌≡◌, sym, ap, ◌∙◌, string_bytes, rules}
use Rattle.std.specs.HashMap.{get_by_text}
use Rattle.std.proofs.lemmas.Map.Text.{hash_map_updates_text}
use Rattle.hm_scope_resolve.proofs.DepthTables.{noted}
use Rattle.hm_scope_resolve.proofs.locals.note.Goals as goal

pub returns-in_ok-insert-in-None : goal.returns-in_ok-insert-in-None
returns-in_ok-insert-in-None c = λ x.
    let key : string_bytes c.in_ok-key-in-None.key ≡ c.args.name.now.text = search rules in
    noted (get_by_text c.args.depths.now) (get_by_text c.insert.new.self) c.args.name.now.text (string_bytes c.in_ok-key-in-None.key) x c.args.depth
    (hash_map_updates_text (string_bytes c.in_ok-key-in-None.key) c.args.depths.now c.insert.new.self _ c.in_ok-insert-in-None.ensures.updates x) key
    (ap (get_by_text c.args.depths.now) (sym c.as_str.ensures) ∙ sym c.in-None.ensures.value)
