use Rattle.std.proofs.Common.{◌≡◌, take, map}
use Rattle.hm_messages_outline.specs.Tokens.{symbol_in}
use Rattle.hm_messages_outline.proofs.tokens.symbols_of.Given as goal

abbrev pub invariant-loop-token : goal.invariant-loop-token
invariant-loop-token l = l.symbols.items ≡ map (symbol_in l.source) (take l.token-index l.tokens)
