-- Worked examples of sets, as trees.
use Rattle.std.specs.Prelude.{ℕ, false, List, [], ◌∷◌, ◌++◌, Option, None, Some, codes}
use Rattle.hm_syntax.specs.Names.{Identifier, character}
use Rattle.hm_syntax.specs.Trees.{literal_expression, no_patterns, right_side, no_bodies, plain_body, Declaration, clause, no_declarations}
use Rattle.hm_syntax.specs.declared.ast.Module.{Module}
use Rattle.hm_syntax.specs.declared.ast.Import.{Import}
use Rattle.hm_syntax.specs.declared.ast.Export.{Export}
use Rattle.hm_syntax.specs.declared.ast.Export.TheVariants as export
use Rattle.hm_syntax.specs.declared.ast.ImportList.TheVariants as list
use Rattle.hm_verdicts.specs.Sets.{ModuleSet}

abbrev pub no_modules : ModuleSet
no_modules = record { modules = []; plan = [] }

-- a bare name
abbrev pub at : ℕ → ℕ → List ℕ → Identifier
at line column x = record { qualifier = None; text = x; line = line; column = column }

abbrev pub module_of : List ℕ → Option (List Export) → List Import → List Declaration → Module
module_of name exports imports decls = record { header = record { name = at 1 8 name; exports = exports; imports = imports }; decls = decls }

-- module A where { x = 'c' }
abbrev pub letter : Declaration
letter = clause (at 1 18 (codes "x")) no_patterns (right_side (plain_body (literal_expression (character (codes "'c'"))) no_bodies) no_declarations)

abbrev pub module_A : Module
module_A = module_of (codes "A") None [] (letter ∷ [])

-- module B
-- (module Z) where { }
abbrev pub Z : Identifier
Z = at 2 9 (codes "Z")

abbrev pub module_B : Module
module_B = module_of (codes "B") (Some (export.Whole Z ∷ [])) [] []

-- module C where { import B }
abbrev pub import_B : Import
import_B = record { qualified = false; name = at 1 25 (codes "B"); alias = None; list = list.Every }

abbrev pub module_C : Module
module_C = module_of (codes "C") None (import_B ∷ []) []

-- A is good, B exports a module that it doesn't import, and C imports B
abbrev pub three_modules : ModuleSet
three_modules = record { modules = module_A ∷ module_B ∷ module_C ∷ []; plan = [] ∷ [] ∷ (1 ∷ []) ∷ [] }

abbrev pub three_texts : List ℕ
three_texts =
    codes "module A\n  val x = A.x :: Char\n" ++
    codes "faulty B\n  2:9 not-imported Z\n" ++
    codes "skipped C\n  by B\n" ++
    codes "3 modules: 1 good, 1 faulty, 1 skipped\n"
