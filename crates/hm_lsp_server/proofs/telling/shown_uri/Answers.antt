use Rattle.std.proofs.Common.{rules, string_bytes}
use Rattle.hm_lsp_server.proofs.Told.{shown_at, shown_past}
use Rattle.hm_lsp_server.proofs.telling.shown_uri.Goals as goal

pub returns-in_default : goal.returns-in_default
returns-in_default c = shown_past string_bytes c.args.shown.now c.args.number (search rules)
