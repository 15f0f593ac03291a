use Rattle.std.proofs.Common.{take}
use Rattle.hm_lex.specs.declared.token.LexFault.TheVariants.{Lexeme}
use Rattle.hm_run_sources.specs.Refusals.{lex}
use Rattle.hm_messages.specs.Messages.{AreEach}
use Rattle.hm_messages.specs.Pages.{files_in, texts_in}
use Rattle.hm_messages.specs.Refused.{AreRefusalMessages}
use Rattle.hm_build_output.proofs.later.lexeme_messages.Given as goal

abbrev pub invariant-places : goal.invariant-places
invariant-places l = AreEach (λ p t. AreRefusalMessages l.pages.format (files_in l.pages.items.items) (texts_in l.pages.items.items) (lex l.number (Lexeme p)) 1 t) (take l.at l.places) l.text.items
