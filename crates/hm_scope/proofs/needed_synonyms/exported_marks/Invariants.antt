use Rattle.std.proofs.Common.{◌≡◌, ◌++◌, map, drop}
use Rattle.hm_names.specs.Texts.{is_text_among}
use Rattle.hm_scope.proofs.needed_synonyms.exported_marks.Given as goal

abbrev pub invariant-declared : goal.invariant-declared
invariant-declared l = l.marks.items ++ map (λ s. is_text_among s.name.now.text l.exported) (drop l.synonym-index l.declared) ≡ map (λ s. is_text_among s.name.now.text l.exported) l.declared
