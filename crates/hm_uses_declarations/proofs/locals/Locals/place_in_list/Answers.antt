use Rattle.std.proofs.Common.{◌≡◌, ap, sym, ◌∙◌, length, arith}
use Rattle.std.proofs.lemmas.List.{length-reverse}
use Rattle.hm_uses_declarations.specs.Bindings.{bound_around, last_of}
use Rattle.hm_uses_declarations.proofs.Tables.{nowhere, further_out, in_list}
use Rattle.hm_uses_declarations.proofs.locals.Locals.place_in_list.Goals as goal

pub returns-in_default : goal.returns-in_default
returns-in_default c =
    let is = ap last_of (c.self.invariant c.args.text) ∙ ap (λ gs. last_of (bound_around gs c.args.text.now)) c.self.view_is in
    nowhere c.args.self.now c.args.text.now (sym (c.in_default.ensures ∙ is))

pub returns-then-binding-saturating_sub : goal.returns-then-binding-saturating_sub
returns-then-binding-saturating_sub c =
    let is = ap last_of (c.self.invariant c.args.text) ∙ ap (λ gs. last_of (bound_around gs c.args.text.now)) c.self.view_is in
    let long : length c.args.self.now ≡ length c.self.inside.groups.items = ap length (sym c.self.view_is) ∙ length-reverse c.self.inside.groups.items in
    further_out c.args.self.now c.args.text.now c.in-Some.binding (sym (c.in-Some.ensures ∙ is)) (omega (arith, c.if-binding-saturating_sub.true, c.saturating_sub.ensures, c.len.ensures, c.self.inside.groups.ok.0, long))

pub returns : goal.returns
returns c =
    let is = ap last_of (c.self.invariant c.args.text) ∙ ap (λ gs. last_of (bound_around gs c.args.text.now)) c.self.view_is in
    let long : length c.args.self.now ≡ length c.self.inside.groups.items = ap length (sym c.self.view_is) ∙ length-reverse c.self.inside.groups.items in
    in_list c.args.self.now c.args.text.now c.in-Some.binding (sym (c.in-Some.ensures ∙ is)) (omega (arith, c.if-binding-saturating_sub.false, c.saturating_sub.ensures, c.len.ensures, c.self.inside.groups.ok.0, long))
