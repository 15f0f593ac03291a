use Rattle.std.proofs.Common.{subst}
use Rattle.std.specs.List.{filter}
use Rattle.serde_json.specs.View.{view}
use Rattle.hm_lsp_values.specs.References.{IsHighlight}
use Rattle.hm_lsp_results.specs.Asked.{subject_of}
use Rattle.hm_lsp_results.specs.References.{AreReferencesOf, AreValues, HasNoReferences, found, is_in, not_found}
use Rattle.hm_lsp_results.proofs.Referred.{none_in, some_in}
use Rattle.hm_lsp_results.proofs.Requests.{null_is}
use Rattle.hm_lsp_results.proofs.referring.highlights.Goals as goal

pub returns-in_default : goal.returns-in_default
returns-in_default g c = not_found (none_in (HasNoReferences (subject_of c.args.asked.now) c.args.source c.args.position) c.in_ok-found.field-0 c.in_default.is c.in_ok-found.ensures.none) null_is

pub returns : goal.returns
returns g c =
    let a = subject_of c.args.asked.now in
    found (some_in (λ v. AreReferencesOf a c.args.source c.args.position v.items) c.in_ok-found.field-0 c.in-Some.found c.in-Some.is c.in_ok-found.ensures.some) c.in-Some-read_text.ensures.some
    (subst (λ l. AreValues (IsHighlight c.args.asked.now.encoding c.in-Some-read_text.text.now) (filter (is_in c.args.source) l) (view c.in_ok-highlight_values-in-Some-read_text.field-0)) c.as_slice.ensures.value
    c.in_ok-highlight_values-in-Some-read_text.ensures)
