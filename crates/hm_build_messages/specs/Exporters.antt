-- The notes about modules that have a name which isn't in scope (Report 5.1, 5.2, 5.3).
use Rattle.std.specs.Prelude.{◌≡◌, ◌⊎◌, ℕ, Bool, true, List, [], ◌++◌, ◌∷◌, slice_index_or}
use Rattle.hm_lex.specs.declared.token.Place.{Place}
use Rattle.hm_types.specs.Interfaces.{Exports as Interface}
use Rattle.hm_types.specs.StandardPrelude.{prelude_interface}
use Rattle.hm_syntax.specs.declared.ast.Import.{Import}
use Rattle.hm_syntax.specs.declared.ast.Module.{Module}
use Rattle.hm_names.specs.declared.faults.Fault.{Fault}
use Rattle.hm_names.specs.declared.namespace.Namespace.{Namespace}
use Rattle.hm_verdicts.specs.Sets.{ModuleSet, imports_of, module_at}
use Rattle.hm_verdicts.specs.Verdicts.{ArePublished, Status}
use Rattle.hm_run_sources.specs.Origins.{IsSpelledBy}
use Rattle.hm_build_exporters.specs.Having.{IsImportable, IsPrivate}
use Rattle.hm_messages_json.specs.Edits.{Changed}
use Rattle.hm_messages.specs.Messages.{AreEach, IsMessage, IsMessageWith, changes_alone}
use Rattle.hm_messages.specs.Subjects.{importable, left_out, private}
use Rattle.hm_messages.specs.declared.heading.MessageFormat.{MessageFormat}
use Rattle.hm_messages_exporters.specs.Changes.{IsImportPut, import_text}
use Rattle.hm_messages_exporters.specs.Exported.{IsItem}
use Rattle.hm_messages_exporters.specs.LeftOut.{CanBring}
use Rattle.hm_messages_exporters.specs.Missing.{IsMissing}

abbrev pub place_of : Import → Place
place_of i = record { line = i.name.line; column = i.name.column }

abbrev pub name_in : ModuleSet → ℕ → List ℕ
name_in p i = (module_at p i).header.name.text

-- the note of an import whose module exports the name x, at the name of that module
pub record IsLeftOutNote (format : MessageFormat) (file source : List ℕ) (m : Module) (fs : List Interface) (s : Namespace) (x text : List ℕ) : Type 0 where
  pub import : Import
  pub can_bring : CanBring m fs s x import
  pub stated : IsMessage format file source (place_of import) (left_out import.name.text x) text

-- the note of an imported module that declares the name x and doesn't export it, at that place of the source that spells it
pub record IsPrivateNote (format : MessageFormat) (files texts : List (List ℕ)) (p : ModuleSet) (status : ℕ → Status) (i : ℕ) (s : Namespace) (x text : List ℕ) : Type 0 where
  pub number : ℕ
  pub place : Place
  pub is_private : IsPrivate p status i s x number place
  pub source : ℕ
  pub spelled : IsSpelledBy texts number source
  pub stated : IsMessage format (slice_index_or files source []) (slice_index_or texts source []) place (private (name_in p number) x) text

-- the note of module number k, which is good, exports the name x and isn't imported, at the place of the name. A program gets the edit that imports the name, or
-- none. No good module imports module number i, which isn't good: so such an import makes no cycle
pub record IsImportableNote (format : MessageFormat) (file source : List ℕ) (p : ModuleSet) (status : ℕ → Status) (i : ℕ) (s : Namespace) (x : List ℕ) (place : Place) (k : ℕ) (text : List ℕ) : Type 0 where
  pub interface : Interface
  pub is_importable : IsImportable p status i s x k interface
  pub item : List ℕ
  pub listed : IsItem interface x s item
  pub changes : List Changed
  pub put : IsImportPut source (import_text (name_in p k) item) changes
  pub stated : IsMessageWith format file source place (importable (name_in p k) x) (changes_alone changes) text

-- the notes of modules that have the name x: of an import and of an imported module, or only of modules that aren't imported
pub data AreNotesOf (format : MessageFormat) (file source : List ℕ) (files texts : List (List ℕ)) (p : ModuleSet) (status : ℕ → Status) (i : ℕ) (fs : List Interface) (s : Namespace) (x : List ℕ) (place : Place) (text : List ℕ) : Type 0 where
  of_imports : (one other : List ℕ) → (one ≡ []) ⊎ IsLeftOutNote format file source (module_at p i) fs s x one → (other ≡ []) ⊎ IsPrivateNote format files texts p status i s x other
      → text ≡ one ++ other → AreNotesOf format file source files texts p status i fs s x place text
  of_others : (found : List ℕ) → AreEach (IsImportableNote format file source p status i s x place) found text → AreNotesOf format file source files texts p status i fs s x place text

-- the notes after a fault of module number i, which is in this source: nothing in the scope of the module has the name at the fault's place, and other modules have it
pub record AreExporterNotes (format : MessageFormat) (file source : List ℕ) (files texts : List (List ℕ)) (p : ModuleSet) (status : ℕ → Status) (i : ℕ) (fs : List Interface) (f : Fault) (text : List ℕ) : Type 0 where
  pub space : Namespace
  pub name : List ℕ
  pub missing : IsMissing (module_at p i) fs f.place space name
  pub noted : AreNotesOf format file source files texts p status i fs space name f.place text

-- the same for the interfaces of what the module imports
abbrev pub AreExporterNotesIn : MessageFormat → List ℕ → List ℕ → List (List ℕ) → List (List ℕ) → ModuleSet → (ℕ → Status) → ℕ → Fault → List ℕ → Type 0
AreExporterNotesIn format file source files texts p status i f text =
    (fs : List Interface) × ArePublished status (imports_of p i) fs × AreExporterNotes format file source files texts p status i (prelude_interface ∷ fs) f text

-- a message of a fault, and after it the notes of other modules, or none. There are none if `quiet` holds
pub record IsFollowed (Says : Fault → List ℕ → Type 0) (Notes : Fault → List ℕ → Type 0) (quiet : Bool) (f : Fault) (text : List ℕ) : Type 0 where
  pub message : List ℕ
  pub notes : List ℕ
  pub says : Says f message
  pub noted : (notes ≡ []) ⊎ Notes f notes
  pub silent : quiet ≡ true → notes ≡ []
  pub whole : text ≡ message ++ notes
