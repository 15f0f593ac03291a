-- Worked examples, by computing.
use Rattle.std.proofs.Common.{◌≡◌, ◌+◌, ℕ, ap, arith, refl}
use Rattle.hm_lsp_session.specs.Worked.{DecisionsRow}
use Rattle.hm_lsp_session.specs.declared.stages.Decision.{Decision}
use Rattle.hm_lsp_session.specs.declared.stages.Decision.TheVariants.{End, Go, Ignore, Refuse}
use Rattle.hm_lsp_session.specs.declared.stages.Method.TheVariants.{Question, Unknown}
use Rattle.hm_lsp_session.specs.declared.stages.Question.TheVariants.{Hover}

status_of : Decision → ℕ
status_of Go = 0
status_of (Refuse why) = 0
status_of Ignore = 0
status_of (End status) = status

never : (a b : ℕ) → End a ≡ End b → a ≡ b + 1 → ⊥
unfolding status_of
never a b same more = omega (arith, ap status_of same, more)

no_hover : Unknown ≡ Question Hover → ⊥
no_hover e = cc

pub worked_decisions : DecisionsRow
worked_decisions = record { first = refl; early = refl; twice = refl; late = refl; early_text = refl; orderly = refl; named = refl; not_named = no_hover; not_orderly = λ e. never 1 0 e refl }
