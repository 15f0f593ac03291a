use Rattle.std.proofs.Common.{◌≡◌, ℕ, List, ◌||◌, drop, map}
use Rattle.hm_names.specs.Texts.{is_text_among}
use Rattle.hm_names.specs.Variables.{texts}
use Rattle.hm_uses_declarations.proofs.module_walk.texts_of.Given as goal

abbrev pub invariant-names : goal.invariant-names
invariant-names l = (x : List ℕ) → (is_text_among x l.set || is_text_among x (texts (map (λ n. n.now) (drop l.name-index l.names)))) ≡ is_text_among x (texts (map (λ n. n.now) l.names))
