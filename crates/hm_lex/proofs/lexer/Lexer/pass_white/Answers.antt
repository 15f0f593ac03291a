use Rattle.std.proofs.Common.{◌+◌, subst, sym, ◌∙◌, arith}
use Rattle.hm_lex.specs.declared.token.Place.{Place}
use Rattle.hm_lex.specs.Scan.{IsScanned}
use Rattle.hm_lex.proofs.Scanning.{scan_white}
use Rattle.hm_lex.proofs.lexer.Lexer.pass_white.Goals as goal

pub loop-self-preserved : goal.loop-self-preserved
loop-self-preserved c =
    let x = c.loop-self.self in
    let i = c.loop-self.invariant in
    record {
      scanned = subst (λ (p : Place). IsScanned x.source.now (x.start + 1) p x.depth x.tokens.items) (sym c.past-self.ensures)
          (scan_white x.source.now x.start x.place x.depth x.tokens.items i.scanned c.loop-self-test.true (sym c.is_white.ensures ∙ c.if-is_white.true));
      on = omega (arith, i.on);
      source = i.source;
    }
