use Rattle.std.proofs.Common.{◌≡◌, ℕ, List, ◌||◌, drop}
use Rattle.hm_names.specs.Syntax.{is_signed_among}
use Rattle.hm_infer_dependencies.specs.Nodes.{has_text}
use Rattle.hm_infer_dependencies.proofs.signed.add_texts.Given as goal

abbrev pub invariant-loop-place : goal.invariant-loop-place
invariant-loop-place l = (x : List ℕ) → (is_signed_among x (drop l.place l.names) || has_text l.texts x) ≡ (is_signed_among x l.names || has_text l.initial.texts x)
