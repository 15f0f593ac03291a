-- Messages of faults with notes of other modules after them, as the code has them. No public clause names these.
use Rattle.std.specs.Prelude.{ℕ, List}
use Rattle.hm_types.specs.Interfaces.{Exports as Interface}
use Rattle.hm_syntax.specs.declared.ast.Module.{Module}
use Rattle.hm_names.specs.declared.faults.Fault.{Fault}
use Rattle.hm_messages_details.specs.Details.{IsKnown}
use Rattle.hm_build_messages.specs.Explanations.{IsDetailed}
use Rattle.hm_build_messages.specs.Exporters.{AreExporterNotes, IsFollowed}
use Rattle.hm_build_messages.specs.Searching.{all_files, all_texts, interfaces_of, program_of, set_of, status_in}
use Rattle.hm_build_messages.specs.declared.view.NameFaults.{NameFaults}
use Rattle.hm_build_messages.specs.declared.view.Searched.{Searched}

-- the message of a fault of this module with these interfaces, and after it its notes, or none
abbrev pub IsFollowedFor : NameFaults → Module → List Interface → Fault → List ℕ → Type 0
IsFollowedFor n m fs f text =
    IsFollowed (IsDetailed n.view.now.pages.now.format n.page.now.file.now n.page.now.lines (IsKnown m fs))
    (AreExporterNotes n.view.now.pages.now.format n.page.now.file.now n.page.now.lines (all_files n.view.now) (all_texts n.view.now) (set_of n.view.now) (status_in n.view.now) n.faulty.number fs)
    n.is_quiet f text

-- the same of a module that is searched
abbrev pub IsFollowedIn : Searched → Fault → List ℕ → Type 0
IsFollowedIn s f text = IsFollowedFor s.named.now (program_of s) (interfaces_of s) f text
