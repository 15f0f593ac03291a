use Rattle.hm_messages.specs.Pages.{files_in, texts_in}
use Rattle.hm_build_output.proofs.Further.{AreStated}
use Rattle.hm_build_output.proofs.refused.further_messages.Given as goal

abbrev pub invariant-loop-source : goal.invariant-loop-source
invariant-loop-source l = AreStated l.pages.format (files_in l.pages.items.items) (texts_in l.pages.items.items) l.from l.source l.all.errors l.all.text.items
