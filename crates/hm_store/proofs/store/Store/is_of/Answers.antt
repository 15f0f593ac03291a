use Rattle.std.proofs.Common.{◌≡◌, map, Some, sym, ap, ◌∙◌}
use Rattle.std.specs.Arc.{arc_value}
use Rattle.hm_store.specs.Plans.{imports_of}
use Rattle.hm_store.specs.Builds.{Build, interface_at}
use Rattle.hm_store.proofs.Lists.{held_values}
use Rattle.hm_store.proofs.store.Store.is_of.Goals as goal

pub returns-then-is_module : goal.returns-then-is_module
returns-then-is_module c =
    let published = map (interface_at c.args.self.now.kept) in
    let held = c.imports-then-is_module.result.now in
    let is_given : map (λ f. Some f) c.args.outcome.now.imports ≡ map (λ f. Some (arc_value f)) held = ap (map (λ f. Some f)) (sym c.imports-then-is_module.ensures) ∙ sym (held_values held) in
    let asked : published c.imports.result.now ≡ published (imports_of c.args.self.now.given c.args.number) = ap published (c.imports.ensures ∙ ap (λ (b : Build). imports_of b.given c.args.number) c.self.view_is) in (
      (λ same. record {
        subject = c.is_module.ensures.0 c.if-is_module.true ∙ ap (λ x. Some x) (c.deref.ensures ∙ c.module.ensures);
        imports = is_given ∙ (c.are_published.ensures.0 same ∙ asked);
      }),
      (λ of. c.are_published.ensures.1 (sym is_given ∙ (of.imports ∙ sym asked))),
    )
