use Rattle.hm_uses.proofs.Clashes as clashes
use Rattle.hm_uses.proofs.Others as others
use Rattle.hm_uses.proofs.Rows as rows
use Rattle.hm_uses.proofs.laws.worked_modules.Goals as goal

pub returns : goal.returns
returns c = record { inner = rows.inner; guard = rows.guards; scrutinee = rows.scrutinised; first_clause = rows.first_clause; parameter = rows.of_parameter; item = rows.item_named; hiding = rows.hidden_named; outer = others.outer; not_guard = others.not_guard; not_scrutinee = others.not_scrutinised; last_clause = others.last_clause; no_parameter = others.no_parameter; not_matched = others.not_matched; matched = rows.matched_entity; not_own = clashes.not_own; ambiguous = clashes.two_entities; not_first = clashes.not_first }
