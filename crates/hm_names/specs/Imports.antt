-- The interfaces that a module requires: those of the imported modules without Prelude, each once, in order of first import.
use Rattle.std.specs.Prelude.{◌≡◌, ℕ, cond, List, [], ◌∷◌, map}
use Rattle.hm_types.specs.Interfaces.{Exports as Interface}
use Rattle.hm_syntax.specs.declared.ast.Module.{Module}
use Rattle.hm_syntax.specs.declared.ast.Import.{Import}
use Rattle.hm_names.specs.Texts.{is_text_among}
use Rattle.hm_names.specs.Scope.{prelude_name}

-- the names of the imported modules that weren't seen before
abbrev pub imported_after : List (List ℕ) → List Import → List (List ℕ)
imported_after seen [] = []
imported_after seen (i ∷ is) = cond (is_text_among i.name.text seen) (imported_after seen is) (i.name.text ∷ imported_after (i.name.text ∷ seen) is)

abbrev pub imported : Module → List (List ℕ)
imported m = imported_after (prelude_name ∷ []) m.header.imports

abbrev pub AreImportsOf : Module → List Interface → Type 0
AreImportsOf m fs = map (λ f. f.name) fs ≡ imported m
