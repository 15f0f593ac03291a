use Rattle.std.proofs.Common.{ℕ, List, [], Some, subst}
use Rattle.hm_lsp_sources.specs.Held.{named_in}
use Rattle.hm_lsp_sources.specs.Names.{IsNumberOf}
use Rattle.hm_lsp_sources.specs.Steps.{IsPushed}
use Rattle.hm_lsp_sources.proofs.Grown.{grown, not_missing}
use Rattle.hm_lsp_sources.proofs.following.Sources.add_missing.Goals as goal

pub returns-in-Some : goal.returns-in-Some
returns-in-Some g c =
    let name : List ℕ = c.in_ok-name.name.items in
    let found : IsNumberOf (named_in c.args.self.now) name (Some c.in-Some.field-0) =
    subst (λ l. IsNumberOf l name (Some c.in-Some.field-0)) c.as_slice.ensures.value (subst (λ m. IsNumberOf c.as_slice.result.now m (Some c.in-Some.field-0)) c.as_slice-2.ensures.value c.in-Some.ensures) in
    not_missing c.args.document.now c.as_str-uri.result.now name c.in-Some.field-0 c.args.self.now c.as_str-uri.ensures.value c.in_ok-name.ensures found

pub returns : goal.returns
returns g c =
    let pushed : IsPushed c.as_str-uri.result.now [] c.args.self.now c.push.new.self =
    subst (λ f. IsPushed c.as_str-uri.result.now f c.args.self.now c.push.new.self) c.new.ensures.items (subst (λ u. IsPushed u c.new.result.items c.args.self.now c.push.new.self) c.in_ok-uri.ensures.ok c.in_ok-push.ensures) in
    grown c.args.document.now c.as_str-uri.result.now c.args.self.now c.push.new.self c.as_str-uri.ensures.value pushed
