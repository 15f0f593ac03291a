-- A module whose faults of names are searched, as the code has it. No public clause names these.
use Rattle.std.specs.Prelude.{◌≡◌, ℕ, ◌<◌, All, Contains, List, length, map}
use Rattle.hm_types.specs.Interfaces.{Exports as Interface}
use Rattle.hm_syntax.specs.Lists.{declarations}
use Rattle.hm_syntax.specs.declared.ast.Module.{Module}
use Rattle.hm_names.specs.Bindings.{IsScopeOf}
use Rattle.hm_verdicts.specs.Sets.{IsLawfulSet, ModuleSet, module_at}
use Rattle.hm_verdicts.specs.Verdicts.{Status}
use Rattle.hm_run_sources.specs.Origins.{HaveOrigins}
use Rattle.hm_scope_tables.specs.KnownTables.{AreTablesOf}
use Rattle.hm_uses.specs.Mentions.{declarations_mentions}
use Rattle.hm_messages.specs.Pages.{files_in, texts_in}
use Rattle.hm_messages.specs.declared.heading.MessageFormat.{MessageFormat}
use Rattle.hm_build_reports.specs.Settling.{module_set, statuses_of}
use Rattle.hm_build_messages.specs.declared.view.BuildView.{BuildView}
use Rattle.hm_build_messages.specs.declared.view.Searched.{Searched}

-- the build: its modules, their statuses, and its sources
abbrev pub set_of : BuildView → ModuleSet
set_of v = module_set v.modules.now v.plan.now

abbrev pub status_in : BuildView → ℕ → Status
status_in v = statuses_of v.settled.now

abbrev pub all_files : BuildView → List (List ℕ)
all_files v = files_in v.pages.now.items.items

abbrev pub all_texts : BuildView → List (List ℕ)
all_texts v = texts_in v.pages.now.items.items

-- there is a status and a source for each module, and a module has this number
pub record IsComplete (v : BuildView) (i : ℕ) : Type 0 where
  pub lawful : IsLawfulSet (set_of v)
  pub len : length v.settled.now ≡ length v.modules.now
  pub number : i < length v.modules.now
  pub origins : HaveOrigins (all_texts v) (length v.modules.now) v.origins.now

-- the module that is searched: its build, its number, and the page and the source of its messages
abbrev pub view_of : Searched → BuildView
view_of s = s.named.now.view.now

abbrev pub number_of : Searched → ℕ
number_of s = s.named.now.faulty.number

abbrev pub format_of : Searched → MessageFormat
format_of s = (view_of s).pages.now.format

abbrev pub file_of : Searched → List ℕ
file_of s = s.named.now.page.now.file.now

abbrev pub source_of : Searched → List ℕ
source_of s = s.named.now.page.now.lines

abbrev pub program_of : Searched → Module
program_of s = s.site.now.program.now

abbrev pub interfaces_of : Searched → List Interface
interfaces_of s = map (λ f. f.now) s.site.now.interfaces.now

-- its scope and its tables are those of the module with this number, and the names are in its declarations
pub record IsSearched (s : Searched) : Type 0 where
  pub complete : IsComplete (view_of s) (number_of s)
  pub program : program_of s ≡ module_at (set_of (view_of s)) (number_of s)
  pub scope : IsScopeOf (program_of s) (interfaces_of s) s.site.now.scope.now
  pub tables : AreTablesOf (program_of s) (interfaces_of s) s.site.now.tables.now
  pub names : All (λ u. Contains (declarations_mentions (declarations (program_of s).decls)) u.mention) s.uses.now
