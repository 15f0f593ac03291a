use Rattle.std.proofs.Common.{◌≡◌, ℕ, List, ◌||◌, drop}
use Rattle.hm_syntax.specs.Lists.{declarations}
use Rattle.hm_infer_dependencies.specs.Nodes.{has_text, is_signed}
use Rattle.hm_infer_dependencies.proofs.signed.signed_texts.Given as goal

abbrev pub invariant-loop-place : goal.invariant-loop-place
invariant-loop-place l = (x : List ℕ) → (is_signed (declarations (drop l.place l.decls)) x || has_text l.texts x) ≡ is_signed (declarations l.decls) x
