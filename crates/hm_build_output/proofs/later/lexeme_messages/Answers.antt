use Rattle.std.proofs.Common.{rules, ◌≡◌, ◌++◌, List, ℕ}
use Rattle.hm_lex.specs.declared.token.LexFault.TheVariants.{Lexeme}
use Rattle.hm_lex.specs.declared.token.Place.{Place}
use Rattle.hm_messages.proofs.InOrder.{taken_more}
use Rattle.hm_messages.specs.Pages.{files_in, texts_in}
use Rattle.hm_messages.specs.Refused.{AreRefusalMessages}
use Rattle.hm_run_sources.specs.Refusals.{lex}
use Rattle.hm_build_output.proofs.later.lexeme_messages.Goals as goal

pub places-preserved : goal.places-preserved
places-preserved c =
    let pages = c.args.pages.now in
    let says : Place → List ℕ → Type 0 = λ p t. AreRefusalMessages pages.format (files_in pages.items.items) (texts_in pages.items.items) (lex c.args.number (Lexeme p)) 1 t in
    let next : c.extend_from_slice.new.self.items ≡ c.places.text.items ++ c.in_ok-message.message.items = search rules in
    taken_more says c.args.places.now c.places.at _ c.places.text.items c.extend_from_slice.new.self.items c.in_ok-message.message.items c.places-test.true c.places.invariant c.in_ok-message.ensures next
