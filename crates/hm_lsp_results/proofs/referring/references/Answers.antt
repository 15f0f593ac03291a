use Rattle.std.proofs.Common.{subst}
use Rattle.hm_lsp_results.specs.Asked.{subject_of}
use Rattle.hm_lsp_results.specs.References.{AreReferencesOf, AreValues, HasNoReferences, IsLocated, found, is_located, not_found}
use Rattle.hm_lsp_results.proofs.Referred.{none_in, some_in}
use Rattle.hm_lsp_results.proofs.Requests.{null_is}
use Rattle.serde_json.specs.View.{view}
use Rattle.std.specs.List.{filter}
use Rattle.hm_lsp_results.proofs.referring.references.Goals as goal

pub returns-in-None : goal.returns-in-None
returns-in-None g c =
    not_found (none_in (HasNoReferences (subject_of c.args.asked.now) c.args.source c.args.position) c.in_ok-references_at.field-0 c.in-None.is c.in_ok-references_at.ensures.none) null_is

pub returns-in_ok-located_values-in-Some : goal.returns-in_ok-located_values-in-Some
returns-in_ok-located_values-in-Some g c =
    let a = subject_of c.args.asked.now in
    found (some_in (λ v. AreReferencesOf a c.args.source c.args.position v.items) c.in_ok-references_at.field-0 c.in-Some.found c.in-Some.is c.in_ok-references_at.ensures.some)
    (subst (λ l. AreValues (IsLocated a) (filter (is_located a c.args.declarations) l) (view c.in_ok-located_values-in-Some.field-0)) c.as_slice.ensures.value c.in_ok-located_values-in-Some.ensures)
