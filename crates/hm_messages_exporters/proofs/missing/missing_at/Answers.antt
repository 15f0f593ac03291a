use Rattle.std.proofs.Common.{rules, ◌≡◌, Some}
use Rattle.hm_syntax.specs.Names.{Identifier}
use Rattle.hm_uses.specs.Uses.{UseOf}
use Rattle.hm_messages_exporters.specs.Missing.{name_at, space_of}
use Rattle.hm_messages_exporters.proofs.Exporting.{missing_is}
use Rattle.hm_messages_exporters.proofs.missing.missing_at.Goals as goal

pub returns-then-is_unbound-clause-missing : goal.returns-then-is_unbound-clause-missing
returns-then-is_unbound-clause-missing c = λ m fs among scope.
    let u : UseOf = c.one-item.result in
    let n : Identifier = c.name-name.result.now in
    let kind : space_of u.mention.kind ≡ Some c.in-Some.space = search rules in
    let bare : n ≡ name_at c.args.place n.text = search rules in
    missing_is m fs c.args.uses.now c.uses.one-index u c.args.place n c.in-Some.space c.as_str-name.result.now c.uses-test.true c.one-item.is among c.name-name.ensures kind bare c.as_str-name.ensures
    (c.is_unbound.ensures c.if-is_unbound.true m fs scope)
