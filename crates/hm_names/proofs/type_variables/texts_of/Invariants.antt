use Rattle.std.proofs.Common.{◌≡◌, ◌++◌, drop, map}
use Rattle.hm_names.proofs.type_variables.texts_of.Given as goal

abbrev pub invariant-names : goal.invariant-names
invariant-names l = map (λ t. t.now) l.texts.items ++ map (λ n. n.now.text) (drop l.name-index l.names) ≡ map (λ n. n.now.text) l.names
