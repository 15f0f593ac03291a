use Rattle.std.proofs.Common.{ap, ◌∙◌, option_map}
use Rattle.hm_uses_declarations.specs.Bindings.{bound_around, last_of}
use Rattle.hm_uses_declarations.specs.declared.locals.Binding.{Binding}
use Rattle.hm_uses_declarations.proofs.Tables.{last_place}
use Rattle.hm_uses_declarations.proofs.locals.Locals.place_of.Goals as goal

pub returns-in_default : goal.returns-in_default
returns-in_default c =
    let is = ap last_of (c.self.invariant c.args.text) ∙ ap (λ gs. last_of (bound_around gs c.args.text.now)) c.self.view_is in
    ap (option_map (λ (b : Binding). b.place)) (c.in_default.ensures ∙ is) ∙ last_place c.args.self.now c.args.text.now

pub returns : goal.returns
returns c =
    let is = ap last_of (c.self.invariant c.args.text) ∙ ap (λ gs. last_of (bound_around gs c.args.text.now)) c.self.view_is in
    ap (option_map (λ (b : Binding). b.place)) (c.in-Some.ensures ∙ is) ∙ last_place c.args.self.now c.args.text.now
