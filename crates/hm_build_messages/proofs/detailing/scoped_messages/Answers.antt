use Rattle.std.proofs.Common.{rules, All, Contains, List, subst, sym}
use Rattle.hm_syntax.specs.Lists.{declarations}
use Rattle.hm_uses.specs.Mentions.{declarations_mentions}
use Rattle.hm_uses.specs.Uses.{UseOf}
use Rattle.hm_build_messages.proofs.detailing.scoped_messages.Goals as goal

pub detailed_messages-requires : goal.detailed_messages-requires
detailed_messages-requires c = record {
  complete = c.requires.complete;
  program = c.requires.program;
  scope = c.requires.scope;
  tables = search rules;
  names = subst (λ (l : List UseOf). All (λ (u : UseOf). Contains (declarations_mentions (declarations c.args.scoped.now.program.now.decls)) u.mention) l) (sym c.as_slice.ensures.value) c.in_ok-uses.ensures;
}
