use Rattle.hm_names.proofs.Agreement.{one_resolution}
use Rattle.hm_names.proofs.Elaboration.{is_elaborated, one_syntax}
use Rattle.hm_names.proofs.Existence.{has_resolver, has_meaning}
use Rattle.hm_names.proofs.KeptDeclarations.{keeps_exports}
use Rattle.hm_names.proofs.ListedScope.{has_scope}
use Rattle.hm_names.proofs.OneCore.{one_core, one_interface}
use Rattle.hm_names.proofs.laws.one_meaning.Goals as goal

pub returns : goal.returns
returns c = record { scope = has_scope; meaning = has_meaning; resolution = has_resolver; no_other = one_resolution; elaboration = is_elaborated; syntax = one_syntax; core = one_core; interface = one_interface; exports = keeps_exports }
