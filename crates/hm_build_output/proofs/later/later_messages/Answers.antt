use Rattle.std.proofs.Common.{rules, ◌≡◌, ◌∙◌, ◌-◌, ◌<◌, ◌≤◌, List, [], ℕ, ap, arith, get_or, length, subst, sym}
use Rattle.std.proofs.lemmas.List.{get_or-map}
use Rattle.hm_lex.specs.declared.token.LexFault.TheVariants.{Lexeme}
use Rattle.hm_lex.specs.declared.token.Place.{Place}
use Rattle.hm_messages.specs.Messages.{AreEach}
use Rattle.hm_messages.specs.Pages.{files_in, texts_in}
use Rattle.hm_messages.specs.Refused.{AreRefusalMessages}
use Rattle.hm_messages.specs.declared.pages.Page.{Page}
use Rattle.hm_messages_lexemes.specs.Lexemes.{AreLaterLexemes}
use Rattle.hm_run_sources.specs.Refusals.{Refusal, lex}
use Rattle.hm_build_output.specs.FurtherStated.{IsLaterStated}
use Rattle.hm_build_output.proofs.Further.{told_later}
use Rattle.hm_build_output.proofs.later.later_messages.Goals as goal

pub returns : goal.returns
returns c =
    let format = c.args.pages.now.format in
    let pages : List Page = c.args.pages.now.items.items in
    let number = c.in-Lex.source in
    let place = c.in-Lexeme.place in
    let k : ℕ = number - 1 in
    let page : Page = c.index.result.now in
    let some : 0 < number = search rules in
    let many : number ≤ length pages = search rules in
    let within : k < length pages = omega (arith, some, many) in
    let page_is : page ≡ get_or pages k page = search rules in
    let source_is : c.source-source.result.now ≡ get_or (texts_in pages) k [] =
    c.source-source.ensures ∙ (ap (λ (p : Page). p.lines) page_is ∙ sym (get_or-map (λ p. p.lines) pages k page [] within)) in
    let places = c.in_ok-places.places.items in
    let later : AreLaterLexemes (get_or (texts_in pages) k []) place places = subst (λ (s : List ℕ). AreLaterLexemes s place places) source_is c.in_ok-places.ensures in
    let errors : c.len-2.result ≡ length places = search rules in
    let each = subst (λ (l : List Place). AreEach (λ p t. AreRefusalMessages format (files_in pages) (texts_in pages) (lex number (Lexeme p)) 1 t) l c.in_ok-text.text.items) c.as_slice.ensures.value c.in_ok-text.ensures in
    let fault : c.args.fault.now ≡ lex number (Lexeme place) = search rules in
    subst (λ (r : Refusal). IsLaterStated format (files_in pages) (texts_in pages) r c.len-2.result c.in_ok-text.text.items) (sym fault)
    (told_later format (files_in pages) (texts_in pages) number c.len-2.result place places c.in_ok-text.text.items later each errors)
