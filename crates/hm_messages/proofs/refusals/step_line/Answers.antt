use Rattle.std.proofs.Common.{rules, ◌≡◌, ◌<◌, arith, length, get_or}
use Rattle.hm_messages.specs.Pages.{files_in, texts_in}
use Rattle.hm_messages.specs.Refused.{Way}
use Rattle.hm_messages.specs.Subjects.{step}
use Rattle.hm_messages.specs.declared.pages.Page.{Page}
use Rattle.hm_messages.proofs.AtPage.{as_many, inside, heading_in}
use Rattle.hm_messages.proofs.Ways.{one_way}
use Rattle.hm_messages.proofs.refusals.step_line.Goals as goal

pub returns : goal.returns
returns c =
    let spot = c.in-Some.spot in
    let pages = c.args.pages.now.items.items in
    let format = c.args.pages.now.format in
    let page : Page = c.index-page.result.now in
    let low : spot.source < length pages = omega (arith, c.in-Some.ensures.inside (texts_in pages) c.requires, as_many pages) in
    let is : page ≡ get_or pages spot.source page = search rules in
    let way : Way = record { number = spot.source; place = spot.place; name = c.as_str.result.now; import = c.as_str-2.result.now } in
    let text = c.in_ok-heading_at.field-0.items in
    one_way format (files_in pages) (texts_in pages) way text
    (inside pages spot.source page low is, heading_in pages spot.source page low is format spot.place (step way.name way.import) text c.in_ok-heading_at.ensures)
