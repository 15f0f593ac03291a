use Rattle.std.proofs.Common.{take}
use Rattle.hm_messages.specs.Messages.{AreEach}
use Rattle.hm_messages.specs.Missing.{import_of}
use Rattle.hm_messages.specs.Pages.{files_in, texts_in}
use Rattle.hm_messages.specs.Refused.{IsMissingStated}
use Rattle.hm_messages.proofs.refusals.further_messages.Given as goal

abbrev pub invariant-loop-import : goal.invariant-loop-import
invariant-loop-import l = AreEach (λ i t. IsMissingStated l.pages.format (files_in l.pages.items.items) (texts_in l.pages.items.items) (import_of i) t) (take l.import-index l.imports) l.text.items
