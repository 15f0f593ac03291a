use Rattle.std.proofs.Common.{rules, ◌≡◌, map, string_bytes}
use Rattle.hm_messages_types.specs.Aliases.{alias_of}
use Rattle.hm_messages_types.proofs.Folding.{unfolded}
use Rattle.hm_messages_types.proofs.shown.folded.Goals as goal

-- the text as it is
pub returns-in_default : goal.returns-in_default
returns-in_default c =
    let same : string_bytes c.in_ok-from_str.field-0 ≡ c.args.text.now = search rules in
    unfolded (map alias_of c.args.aliases.now) c.args.text.now (string_bytes c.in_ok-from_str.field-0) same

pub returns : goal.returns
returns c =
    let same : string_bytes c.in_ok-from_str-in-Err.field-0 ≡ c.args.text.now = search rules in
    unfolded (map alias_of c.args.aliases.now) c.args.text.now (string_bytes c.in_ok-from_str-in-Err.field-0) same
