use Rattle.hm_uses_renames.specs.Cursors.{IsCursor}
use Rattle.hm_uses_renames.proofs.Replaced.{IsBegun}
use Rattle.hm_uses_renames.proofs.texts.renamed_text.Given as goal

abbrev pub invariant-references : goal.invariant-references
invariant-references l = IsCursor l.text l.cursor × IsBegun l.text l.name l.references l.reference-index l.cursor.at l.made.items
