use Rattle.hm_messages_hints.proofs.SymbolRuns.{run_utf8}
use Rattle.hm_messages_hints.proofs.lexeme_hints.symbols_in.Goals as goal

pub unreachable-requires : goal.unreachable-requires
unreachable-requires c = c.in-Err.ensures.cases.0 (run_utf8 c.args.text.now c.symbols_len.result c.symbols_len.ensures.within c.symbols_len.ensures.ascii)
