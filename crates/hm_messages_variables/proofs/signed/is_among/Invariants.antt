use Rattle.std.proofs.Common.{◌≡◌, take, false}
use Rattle.hm_names.specs.Texts.{is_text_among}
use Rattle.hm_names.specs.Variables.{texts}
use Rattle.hm_messages_variables.proofs.signed.is_among.Given as goal

abbrev pub invariant-names : goal.invariant-names
invariant-names l = is_text_among l.text (texts (take l.name-index l.names)) ≡ false
