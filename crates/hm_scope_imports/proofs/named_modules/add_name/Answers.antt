use Rattle.hm_scope_tables.proofs.AddedTexts.{text_added}
use Rattle.hm_scope_imports.proofs.named_modules.add_name.Goals as goal

pub returns : goal.returns
returns c = text_added c.args.name.now c.args.names.now c.insert.new.self c.in_ok-insert.ensures.texts
