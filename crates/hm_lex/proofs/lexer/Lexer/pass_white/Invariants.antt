use Rattle.std.proofs.Common.{◌≡◌, ◌-◌, ◌≤◌, length}
use Rattle.hm_lex.specs.Scan.{IsScanned}
use Rattle.hm_lex.proofs.lexer.Lexer.pass_white.Given as goal

abbrev pub invariant-loop-self : goal.invariant-loop-self
invariant-loop-self l = record {
  scanned : IsScanned l.self.source.now l.self.start l.self.place l.self.depth l.self.tokens.items;
  on : l.fn.self.start ≤ l.self.start;
  source : l.self.source.now ≡ l.fn.self.source.now;
}

abbrev pub decreases-loop-self : goal.decreases-loop-self
decreases-loop-self l = length l.self.source.now - l.self.start
