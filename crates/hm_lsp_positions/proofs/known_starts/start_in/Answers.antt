use Rattle.std.proofs.Common.{rules, ◌≡◌, ◌∙◌, ◌-◌, ap, arith, get_or, length, ℕ}
use Rattle.std.proofs.lemmas.List.{get_or_default}
use Rattle.hm_lsp_positions.proofs.KnownStarts.{no_such_line, starts_more}
use Rattle.hm_lsp_positions.proofs.known_starts.start_in.Goals as goal

pub lines-preserved : goal.lines-preserved
lines-preserved c =
    let old = c.lines.starts.items in
    let some = c.lines.invariant.some in
    let size : c.len-in-lines.result ≡ length old = search rules in
    let top : c.index-last.result.now ≡ get_or old (length old - 1) 0 =
    c.index-last.ensures ∙ (ap (λ (n : ℕ). get_or old (n - 1) c.index-last.result.now) size ∙ get_or_default old (length old - 1) c.index-last.result.now 0 (omega (arith, some))) in
    starts_more c.args.text.now old c.push.new.self.items c.index-last.result.now c.in-Some.next c.lines.invariant top c.in-Some.ensures.value c.in-Some.ensures.within (search rules)

pub returns-in-None-clause-value : goal.returns-in-None-clause-value
returns-in-None-clause-value c =
    let old = c.lines.starts.items in
    let some = c.lines.invariant.some in
    let size : c.len-in-lines.result ≡ length old = search rules in
    let top : c.index-last.result.now ≡ get_or old (length old - 1) 0 =
    c.index-last.ensures ∙ (ap (λ (n : ℕ). get_or old (n - 1) c.index-last.result.now) size ∙ get_or_default old (length old - 1) c.index-last.result.now 0 (omega (arith, some))) in
    no_such_line c.args.text.now old c.index-last.result.now c.args.line c.lines.invariant top (search rules) c.in-None.ensures.value
