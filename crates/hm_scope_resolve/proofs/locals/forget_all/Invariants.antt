use Rattle.std.proofs.Common.{◌≡◌, ℕ, List, cond, take}
use Rattle.std.specs.HashMap.{get_by_text}
use Rattle.hm_names.specs.Variables.{texts}
use Rattle.hm_names.specs.Texts.{is_text_among}
use Rattle.hm_scope_resolve.specs.Depths.{unless_at}
use Rattle.hm_scope_resolve.proofs.locals.forget_all.Given as goal

abbrev pub invariant-names : goal.invariant-names
invariant-names l = (x : List ℕ) → get_by_text l.depths x ≡ cond (is_text_among x (texts (take l.name-index l.names))) (unless_at l.depth (get_by_text l.initial.depths x)) (get_by_text l.initial.depths x)
