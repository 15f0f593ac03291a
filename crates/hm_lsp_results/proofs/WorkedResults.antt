-- Worked examples, by computing.
use Rattle.std.proofs.Common.{◌≡◌, ◌&&◌, ◌||◌, nat_lt, not, true, false, length, refl, sym, ap, ◌∙◌}
use Rattle.std.proofs.lemmas.Bool.{false≢true}
use Rattle.hm_lsp_results.specs.Asked.{Subject}
use Rattle.hm_lsp_results.specs.References.{is_located}
use Rattle.hm_lsp_results.specs.Worked.{LocatedRow, MatchesRow}
use Rattle.hm_uses_references.specs.declared.finding.Reference.{Reference}

pub worked_matches : MatchesRow
worked_matches = record { some = refl; not_order = λ e. false≢true e }

left_out : (asked : Subject) (r : Reference) → r.binds ≡ true → is_located asked false r ≡ false
left_out asked r binds = ap (λ b. (false || not b) && (nat_lt r.source (length asked.sources) && nat_lt r.source (length asked.held))) binds

pub worked_located : LocatedRow
worked_located = record { not_declaration = λ asked r binds e. false≢true (sym (left_out asked r binds) ∙ e) }
