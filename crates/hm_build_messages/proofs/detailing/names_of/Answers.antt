use Rattle.hm_syntax.specs.Lists.{declarations}
use Rattle.hm_uses.specs.Mentions.{declarations_mentions}
use Rattle.hm_build_messages.proofs.Followed.{named_all}
use Rattle.hm_build_messages.proofs.detailing.names_of.Goals as goal

pub returns : goal.returns
returns c =
    named_all c.in_ok-declaration_uses.field-0.items (declarations_mentions (declarations c.args.scoped.now.program.now.decls)) c.in_ok-declaration_uses.ensures.names
