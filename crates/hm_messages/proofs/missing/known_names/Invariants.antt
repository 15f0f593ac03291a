use Rattle.std.proofs.Common.{◌≡◌, ℕ, List, ◌∷◌, map, take}
use Rattle.hm_names.specs.Scope.{prelude_name}
use Rattle.hm_names.specs.Texts.{is_text_among}
use Rattle.hm_run_sources.specs.declared.located.Located.{Located}
use Rattle.hm_messages.proofs.missing.known_names.Given as goal

abbrev pub invariant-loop-here : goal.invariant-loop-here
invariant-loop-here l = (x : List ℕ) → is_text_among x l.names ≡ is_text_among x (prelude_name ∷ map (λ (h : Located). h.header.name.text) (take l.here-index l.located))
