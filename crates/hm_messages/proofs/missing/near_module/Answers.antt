use Rattle.std.proofs.Common.{rules, ◌≡◌, ℕ, List, Some, subst, sym}
use Rattle.hm_messages_details.specs.Nearness.{AreNear}
use Rattle.hm_messages.specs.Missing.{HasNearModule, HasNoImport}
use Rattle.hm_messages.proofs.NearModules.{near_own}
use Rattle.hm_messages.proofs.missing.near_module.Goals as goal

-- a module is near
pub returns-then-not-has_import : goal.returns-then-not-has_import
returns-then-not-has_import c = λ sources are.
    let name = c.args.name.now in
    let l = c.here-item.result in
    let text : c.as_str-other.result.now ≡ l.header.name.text = search rules in
    let near : AreNear name c.as_str-other.result.now = search rules in
    let free : HasNoImport l name = search rules in
    subst (λ (t : List ℕ). HasNearModule sources name (Some t)) (sym text)
    (near_own sources c.args.located.now name c.modules.here-index l are c.modules-test.true (sym c.here-item.is) free (subst (AreNear name) text near))
