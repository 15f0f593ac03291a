use Rattle.std.proofs.Common.{◌≡◌, take, false}
use Rattle.hm_names.specs.Found.{all_of}
use Rattle.hm_names.specs.Texts.{is_text_among}
use Rattle.hm_scope_resolve.proofs.locals.is_in_any.Given as goal

abbrev pub invariant-groups : goal.invariant-groups
invariant-groups l = is_text_among l.text (all_of (take l.group-index l.groups)) ≡ false
