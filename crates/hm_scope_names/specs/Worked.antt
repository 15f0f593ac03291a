-- Worked examples: what means something in a module that imports another one, and pairs whose names are apart.
use Rattle.std.specs.Prelude.{ℕ, List, [], ◌∷◌, Option, None, Some, codes, false}
use Rattle.hm_names.specs.Bindings.{Pair}
use Rattle.hm_names.specs.Entities.{named}
use Rattle.hm_names.specs.Worked.{a_module, imports, module_of, with_x, x}
use Rattle.hm_names.specs.declared.namespace.Namespace.TheVariants.{Values}
use Rattle.hm_scope_names.specs.Meant.{AreApart, IsMeant}
use Rattle.hm_syntax.specs.declared.ast.ImportList.TheVariants as list
use Rattle.hm_syntax.specs.declared.ast.Module.{Module}
use Rattle.hm_types.specs.Interfaces.{Exports as Interface}

-- module A where { import B }, and B exports the variable x
abbrev pub importing : Module
importing = module_of (codes "A") None (imports false (codes "B") list.Every ∷ []) []

abbrev pub only_x : List Interface
only_x = with_x (codes "B") ∷ []

-- the variable x of B, with a qualifier or without
abbrev pub x_of_b : Option (List ℕ) → Pair
x_of_b q = record { space = Values; qualifier = q; text = x; entity = named (codes "B") x }

-- x and B.x mean the variable of B. The qualifier A isn't that of an import, and a module without imports has no such name
pub record MeantRow : Type 0 where
  pub bare : IsMeant importing only_x (x_of_b None)
  pub qualified : IsMeant importing only_x (x_of_b (Some (codes "B")))
  pub not_of_a : ¬ (IsMeant importing only_x (x_of_b (Some (codes "A"))))
  pub not_without : ¬ (IsMeant (a_module []) only_x (x_of_b None))

-- x and B.x are two names, and x twice is one
pub record ApartRow : Type 0 where
  pub apart : AreApart (x_of_b None ∷ x_of_b (Some (codes "B")) ∷ [])
  pub not_twice : ¬ (AreApart (x_of_b None ∷ x_of_b None ∷ []))
