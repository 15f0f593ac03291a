use Rattle.std.proofs.Common.{rules, ◌≡◌, ◌∙◌, ap, map, string_bytes}
use Rattle.hm_build_place_texts.specs.Facts.{item_of}
use Rattle.hm_build_place_texts.specs.Formats.{text_in}
use Rattle.hm_build_places.specs.Answers.{status_of}
use Rattle.hm_build_places.specs.Known.{file_text}
use Rattle.hm_build_places.specs.Views.{known_of}
use Rattle.hm_build_places.proofs.answers.viewed_answer.Goals as goal

pub returns : goal.returns
returns c =
    let q = c.args.question.now in
    let items = map item_of c.in_ok-items.items.items in
    let file : string_bytes c.in_ok-file_text.field-0 ≡ file_text (known_of c.args.view.now) q.source = search rules in
    let status : c.status_of-status.result ≡ status_of items = search rules in
    record {
      items = items;
      found = c.in_ok-items.ensures;
      status_is = status;
      text_is = c.in_ok-text.ensures ∙ ap (λ f. text_in q.format (record { file = f; line = q.line; column = q.column; items = items })) file;
    }
