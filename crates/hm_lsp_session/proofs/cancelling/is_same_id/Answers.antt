use Rattle.std.proofs.Common.{rules, ◌≡◌, IsTrue, Some, None}
use Rattle.std.proofs.lemmas.Bool.{false≢true}
use Rattle.serde_json.specs.Find.{as_str}
use Rattle.serde_json.specs.View.{view}
use Rattle.hm_lsp_session.specs.Cancelled.{number_of, numbers, texts}
use Rattle.hm_lsp_session.proofs.Identifiers.{by_number, by_text, neither}
use Rattle.hm_lsp_session.proofs.cancelling.is_same_id.Goals as goal

pub returns-in-Some : goal.returns-in-Some
returns-in-Some c =
    let is : number_of (view c.args.one.now) ≡ Some c.in-Some.number = search rules in
    let told : IsTrue c.is_number.result → number_of (view c.args.other.now) ≡ Some c.in-Some.number = search rules in
    let back : number_of (view c.args.other.now) ≡ Some c.in-Some.number → IsTrue c.is_number.result = search rules in
    (λ t. numbers is (told t), λ h. back (by_number (view c.args.one.now) (view c.args.other.now) c.in-Some.number is h))

pub returns-in-Some-as_str : goal.returns-in-Some-as_str
returns-in-Some-as_str c =
    let is : as_str (view c.args.one.now) ≡ Some c.in-Some-as_str.text.now = search rules in
    (λ t. texts is (c.is_text.ensures.0 t), λ h. c.is_text.ensures.1 (by_text (view c.args.one.now) (view c.args.other.now) c.in-Some-as_str.text.now is h))

pub returns-in-None-as_str : goal.returns-in-None-as_str
returns-in-None-as_str c =
    let one : number_of (view c.args.one.now) ≡ None = search rules in
    let two : as_str (view c.args.one.now) ≡ None = search rules in
    (λ t. absurd (false≢true t), λ h. absurd (neither (view c.args.one.now) (view c.args.other.now) one two h))
