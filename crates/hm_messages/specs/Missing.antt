-- The imports of a set that name no module (Haskell 98 Report, section 5.3).
use Rattle.std.specs.Prelude.{◌≡◌, ◌⊎◌, ℕ, All, Bool, not, List, [], ◌∷◌, ◌++◌, Contains, None, Option, Some, filter, map, ⊤}
use Rattle.hm_lex.specs.declared.token.Place.{Place}
use Rattle.hm_syntax.specs.declared.ast.Import.{Import}
use Rattle.hm_names.specs.Scope.{prelude_name}
use Rattle.hm_names.specs.Texts.{is_text_among}
use Rattle.hm_run_sources.specs.Origins.{AreLocated}
use Rattle.hm_run_sources.specs.declared.located.Located.{Located}
use Rattle.hm_messages_details.specs.Nearness.{AreNear}
use Rattle.hm_messages.specs.declared.missing.MissingImport.{MissingImport}

-- an import of a set: the source that it is in, counted from 0, its place there, and the module that it names
pub record SetImport : Type 0 where
  pub number : ℕ
  pub place : Place
  pub name : List ℕ

abbrev pub set_import : ℕ → Import → SetImport
set_import k i = record { number = k; place = record { line = i.name.line; column = i.name.column }; name = i.name.text }

-- all imports of these modules, in order
abbrev pub set_imports : List Located → List SetImport
set_imports [] = []
set_imports (l ∷ ls) = map (set_import l.source) l.header.imports ++ set_imports ls

abbrev pub module_names : List Located → List (List ℕ)
module_names ls = map (λ l. l.header.name.text) ls

-- the import names neither Prelude nor one of these modules
abbrev pub names_none : List (List ℕ) → SetImport → Bool
names_none names i = not (is_text_among i.name names)

abbrev pub missing_imports : List Located → List SetImport
missing_imports ls = filter (names_none (prelude_name ∷ module_names ls)) (set_imports ls)

-- none of the module's imports has this name
abbrev pub HasNoImport : Located → List ℕ → Type 0
HasNoImport l name = All (λ i. ¬ (i.name.text ≡ name)) l.header.imports

-- Prelude has the near name, or one of these modules that doesn't have the import itself: a module that has it can't be meant, because it would import itself
abbrev pub IsImportable : List Located → List ℕ → List ℕ → Type 0
IsImportable ls name near = (near ≡ prelude_name) ⊎ ((l : Located) × Contains ls l × (near ≡ l.header.name.text) × HasNoImport l name)

-- if there is a near name, one edit makes it of this one, and an import of a module of these sources can have it
abbrev pub HasNearModule : List (List ℕ) → List ℕ → Option (List ℕ) → Type 0
HasNearModule sources name None = ⊤
HasNearModule sources name (Some near) = (ls : List Located) × AreLocated sources ls × IsImportable ls name near × AreNear name near

abbrev pub import_of : MissingImport → SetImport
import_of m = record { number = m.source; place = m.place; name = m.name.now }
