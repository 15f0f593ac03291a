use Rattle.std.proofs.Common.{◌++◌, ◌∙◌, ap}
use Rattle.std.specs.Prelude.{true}
use Rattle.hm_uses.specs.declared.name_kind.NameKind.TheVariants.{ModuleName}
use Rattle.hm_uses.specs.Uses.{a_prefix}
use Rattle.hm_uses.specs.Found.{use_as}
use Rattle.hm_uses_header.proofs.Listed.{alias_added}
use Rattle.hm_uses_header.proofs.imports.add_alias.Goals as goal

pub returns : goal.returns
returns c = alias_added c.args.found.now.items c.add.new.found.items c.args.import.now c.in-Some.alias c.in-Some.is
    (c.in_ok-add.ensures ∙ ap (λ x. c.args.found.now.items ++ use_as ModuleName true c.in-Some.alias (a_prefix x)) c.as_text.ensures)
