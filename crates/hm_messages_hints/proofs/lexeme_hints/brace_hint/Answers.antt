use Rattle.std.proofs.Common.{inl}
use Rattle.hm_messages_hints.proofs.lexeme_hints.brace_hint.Goals as goal

pub returns : goal.returns
returns c = (c.args._inner.now, inl c.requires)
