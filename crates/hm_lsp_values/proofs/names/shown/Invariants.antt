use Rattle.std.proofs.Common.{ℕ, List, ◌++◌, length}
use denote.Shadow.{shadow}
use denote.Text.{Utf8}
use Rattle.std.specs.Prelude.{string_bytes}
use Rattle.hm_lsp_values.specs.Names.{IsShown}
use Rattle.hm_lsp_values.proofs.names.shown.Given as goal

abbrev pub invariant-lines : goal.invariant-lines
invariant-lines l = ((end : List ℕ) → IsShown l.rest end → IsShown l.text (string_bytes l.shown ++ end)) × shadow (Utf8 l.rest)

abbrev pub decreases-lines : goal.decreases-lines
decreases-lines l = length l.rest
