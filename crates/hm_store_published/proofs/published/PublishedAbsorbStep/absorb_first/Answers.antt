use Rattle.std.proofs.Common.{rules, ◌≡◌, ◌+◌, suc, ◌∷◌, [], length, ap, ◌∙◌, subst, arith, length-append, List}
use Rattle.std.specs.Arc.{arc_value}
use mathlib.Core.List.{IsPrefix}
use Rattle.hm_store_published.specs.declared.publication.Publication.{Publication}
use Rattle.hm_store_published.specs.Publications.{IsLawful}
use Rattle.hm_store_published.proofs.Showing.{shows_absorbed}
use Rattle.hm_store_published.proofs.published.PublishedAbsorbStep.absorb_first.Goals as goal

pub invariant_of-self : goal.invariant_of-self
invariant_of-self g c =
    let ps = c.self.inside.front in
    let qs = c.operation.inside.front in
    let ends = c.operation.invariant in
    let some : length qs ≡ length ends.before + 1 = ap length ends.is ∙ length-append ends.before (ends.last ∷ []) in
    let longer : length qs ≡ suc (length ps) = omega (arith, c.len-else-operation-len.ensures.length, c.len-else-operation-len-2.ensures.length, c.if-len.false, some) in
    let out : c.longer.result ≡ qs = c.longer.ensures.that (omega (arith, longer)) in
    let begun : IsPrefix ps qs = subst (λ (w : List Publication). IsPrefix ps w) out c.longer.ensures.begun in
    let lawful : IsLawful _ _ qs = subst (IsLawful _ _) out c.longer.ensures.lawful in
    rw out (shows_absorbed _ _ arc_value c.self.inside.interfaces.items c.in_ok-interface.interface ps qs c.operation.inside.number c.self.inside.entries c.operation.inside.entries (arc_value c.operation.inside.interface) c.self.invariant ends lawful begun longer (search rules) (search rules))
