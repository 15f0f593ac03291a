use Rattle.std.proofs.Common.{rules, ◌≡◌, ◌++◌, List, ℕ}
use Rattle.hm_messages.specs.Missing.{import_of}
use Rattle.hm_messages.specs.Pages.{files_in, texts_in}
use Rattle.hm_messages.specs.Refused.{IsMissingStated}
use Rattle.hm_messages.specs.declared.missing.MissingImport.{MissingImport}
use Rattle.hm_messages.proofs.InOrder.{taken_more}
use Rattle.hm_messages.proofs.refusals.further_messages.Goals as goal

pub loop-import-preserved : goal.loop-import-preserved
loop-import-preserved c =
    let pages = c.args.pages.now in
    let message = c.in_ok-message.message.items in
    let pushed : c.extend_from_slice.new.self.items ≡ c.loop-import.text.items ++ message = search rules in
    taken_more (λ (i : MissingImport) (t : List ℕ). IsMissingStated pages.format (files_in pages.items.items) (texts_in pages.items.items) (import_of i) t) c.args.imports.now c.loop-import.import-index _ c.loop-import.text.items c.extend_from_slice.new.self.items message (search rules) c.loop-import.invariant c.in_ok-message.ensures pushed
