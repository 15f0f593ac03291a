-- Laws of the text of a journal.
use Rattle.std.specs.Prelude.{◌≡◌, ◌+◌, ◌<◌, ℕ, List, ◌++◌, length, take, slice_index_or}
use Rattle.hm_verdicts.specs.Sets.{ModuleSet}
use Rattle.hm_store.specs.Objects.{publications}
use Rattle.hm_store.specs.declared.object.Entry.{Entry}
use Rattle.hm_build_reports.specs.Journals.{entry_line, entry_lines}

-- law: the line of entry number i has the number of publications among the entries before it, as `Store::publications` counts them
abbrev pub AreLinesNumbered : Type 0
AreLinesNumbered = (p : ModuleSet) (es : List Entry) (i : ℕ) (d : Entry) → i < length es → entry_lines p 0 (take (i + 1) es) ≡ entry_lines p 0 (take i es) ++ entry_line p (publications es i) (slice_index_or es i d)
