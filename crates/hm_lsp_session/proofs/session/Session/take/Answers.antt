use Rattle.std.proofs.Common.{◌∙◌, ap, sym}
use Rattle.serde_json.specs.Read.{read}
use Rattle.serde_json.specs.View.{view}
use Rattle.hm_lsp_session.specs.Units.{understood}
use Rattle.hm_lsp_session.specs.Watching as watching
use Rattle.hm_lsp_session.proofs.Taking.{begun_of_body, files_of_body, left_of, taken, texts_of_body}
use Rattle.hm_lsp_session.proofs.session.Session.take.Goals as goal

pub returns-in_ok-take_message-in-Ok-from_str-clause-takes : goal.returns-in_ok-take_message-in-Ok-from_str-clause-takes
returns-in_ok-take_message-in-Ok-from_str-clause-takes c =
    taken c.args.body.now c.in-Ok.text.now (view c.in-Ok-from_str.message) c.in_ok-take_message-in-Ok-from_str.field-0 c.in-Ok.ensures.cases.0 c.in-Ok-from_str.ensures.ok c.in_ok-take_message-in-Ok-from_str.ensures.takes

pub returns-in_ok-take_message-in-Ok-from_str-clause-left : goal.returns-in_ok-take_message-in-Ok-from_str-clause-left
returns-in_ok-take_message-in-Ok-from_str-clause-left c =
    left_of c.args.body.now c.in-Ok.text.now (view c.in-Ok-from_str.message) c.args.self.now.stage c.in_ok-take_message-in-Ok-from_str.field-0 c.in-Ok.ensures.cases.0 c.in-Ok-from_str.ensures.ok c.in_ok-take_message-in-Ok-from_str.ensures.left

pub returns-in_ok-take_message-in-Ok-from_str-clause-texts : goal.returns-in_ok-take_message-in-Ok-from_str-clause-texts
returns-in_ok-take_message-in-Ok-from_str-clause-texts c =
    texts_of_body c.args.body.now c.in-Ok.text.now (view c.in-Ok-from_str.message) c.args.self.now.encoding c.args.self.now.documents c.take_message.new.self.documents c.in_ok-take_message-in-Ok-from_str.field-0
    c.in-Ok.ensures.cases.0 c.in-Ok-from_str.ensures.ok c.in_ok-take_message-in-Ok-from_str.ensures.texts

pub returns-in_ok-take_message-in-Ok-from_str-clause-begun : goal.returns-in_ok-take_message-in-Ok-from_str-clause-begun
returns-in_ok-take_message-in-Ok-from_str-clause-begun c =
    begun_of_body c.args.body.now c.in-Ok.text.now (view c.in-Ok-from_str.message) c.in_ok-take_message-in-Ok-from_str.field-0 c.in-Ok.ensures.cases.0 c.in-Ok-from_str.ensures.ok
    c.in_ok-take_message-in-Ok-from_str.ensures.begun

pub returns-in_ok-take_message-in-Ok-from_str-clause-files : goal.returns-in_ok-take_message-in-Ok-from_str-clause-files
returns-in_ok-take_message-in-Ok-from_str-clause-files c =
    files_of_body c.args.body.now c.in-Ok.text.now (view c.in-Ok-from_str.message) c.in_ok-take_message-in-Ok-from_str.field-0 c.in-Ok.ensures.cases.0 c.in-Ok-from_str.ensures.ok
    c.in_ok-take_message-in-Ok-from_str.ensures.files

pub returns-in_ok-take_message-in-Ok-from_str-clause-units : goal.returns-in_ok-take_message-in-Ok-from_str-clause-units
returns-in_ok-take_message-in-Ok-from_str-clause-units c = understood (ap read (sym c.in-Ok.ensures.cases.0) ∙ c.in-Ok-from_str.ensures.ok) c.in_ok-take_message-in-Ok-from_str.ensures.units

pub returns-in_ok-take_message-in-Ok-from_str-clause-watches : goal.returns-in_ok-take_message-in-Ok-from_str-clause-watches
returns-in_ok-take_message-in-Ok-from_str-clause-watches c =
    watching.understood (ap read (sym c.in-Ok.ensures.cases.0) ∙ c.in-Ok-from_str.ensures.ok) c.in_ok-take_message-in-Ok-from_str.ensures.watches
