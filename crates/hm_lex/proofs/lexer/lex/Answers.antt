use Rattle.std.proofs.Common.{ℕ, List, All, length, refl, subst, sym, ap, ◌∙◌, arith}
use Rattle.hm_lex.specs.declared.token.Token.{Token}
use Rattle.hm_lex.specs.Faults.{AreTokensOf}
use Rattle.hm_lex.specs.Scan.{IsScanned}
use Rattle.hm_lex.specs.Cut.{IsCut, tokens_of}
use Rattle.hm_lex.proofs.Cuts.{one_cut}
use Rattle.hm_lex.proofs.Scanning.{scan_nothing, scan_end}
use Rattle.hm_lex.specs.Texts.{LiesIn}
use Rattle.hm_lex.proofs.TokenTexts.{token_texts}
use Rattle.hm_lex.proofs.lexer.lex.Goals as goal

pub loop-lexer-init : goal.loop-lexer-init
loop-lexer-init c = record {
  scanned = subst (λ (ts : List Token). IsScanned c.args.source.now 0 (record { line = 1; column = 1 }) 0 ts) (sym c.new.ensures.items) (scan_nothing c.args.source.now);
  source = refl;
  short = omega (arith, c.if-source-gt-MAX_SOURCE_LEN.false);
}

pub returns-clause-tokens : goal.returns-clause-tokens
returns-clause-tokens c =
    let i = c.loop-lexer.invariant in
    let l = c.loop-lexer.lexer in
    subst (λ (s : List ℕ). AreTokensOf s l.tokens.items) i.source
    (scan_end l.source.now l.start l.place l.depth l.tokens.items i.scanned (omega (arith, ap length i.source, c.loop-lexer-test.false)) (omega (arith, ap length i.source, i.short)))

pub returns-clause-only : goal.returns-clause-only
returns-clause-only c = λ pieces cut.
    let i = c.loop-lexer.invariant in
    let l = c.loop-lexer.lexer in
    let a = scan_end l.source.now l.start l.place l.depth l.tokens.items i.scanned (omega (arith, ap length i.source, c.loop-lexer-test.false)) (omega (arith, ap length i.source, i.short)) in
    a.tokens_are ∙ ap tokens_of (one_cut a.pieces pieces l.source.now a.cut (subst (λ (s : List ℕ). IsCut pieces s) (sym i.source) cut))

pub returns-clause-texts : goal.returns-clause-texts
returns-clause-texts c =
    let i = c.loop-lexer.invariant in
    let l = c.loop-lexer.lexer in
    let a = scan_end l.source.now l.start l.place l.depth l.tokens.items i.scanned (omega (arith, ap length i.source, c.loop-lexer-test.false)) (omega (arith, ap length i.source, i.short)) in
    subst (λ (s : List ℕ). All (LiesIn s) l.tokens.items) i.source (token_texts l.source.now l.tokens.items a)
