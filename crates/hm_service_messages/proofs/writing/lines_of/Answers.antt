use Rattle.std.proofs.Common.{rules, ◌≡◌, ◌++◌, get_or, string_bytes, subst}
use Rattle.hm_service_messages.specs.Lines.{IsLineOf}
use Rattle.hm_service_messages.proofs.LinesInTurn.{lines_more}
use Rattle.hm_service_messages.proofs.writing.lines_of.Goals as goal

pub loop-diagnostic-preserved : goal.loop-diagnostic-preserved
loop-diagnostic-preserved c =
    let d = c.diagnostic-item.result in
    let last = string_bytes c.in_ok-line.line in
    let line : IsLineOf d last = search rules in
    let at : d ≡ get_or c.args.diagnostics.now c.loop-diagnostic.diagnostic-index d = search rules in
    let pushed : string_bytes c.push_str.new.self ≡ string_bytes c.loop-diagnostic.text ++ last = search rules in
    lines_more c.args.diagnostics.now c.loop-diagnostic.diagnostic-index d (string_bytes c.loop-diagnostic.text) last (string_bytes c.push_str.new.self) c.loop-diagnostic-test.true c.loop-diagnostic.invariant (subst (λ x. IsLineOf x last) at line) pushed
