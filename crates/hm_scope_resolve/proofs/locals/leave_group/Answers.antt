use Rattle.std.proofs.Common.{◌≡◌, ℕ, List, ap, ◌∙◌, subst, arith, cond, sym, rules, ◌++◌, ◌∷◌, []}
use Rattle.std.specs.HashMap.{get_by_text}
use Rattle.hm_syntax.specs.Names.{Identifier}
use Rattle.hm_names.specs.Variables.{texts}
use Rattle.hm_names.specs.Texts.{is_text_among}
use Rattle.hm_scope_resolve.specs.Depths.{unless_at}
use Rattle.hm_scope_resolve.proofs.DepthTables.{left}
use Rattle.hm_scope_resolve.proofs.locals.leave_group.Goals as goal

pub returns-clause-depths : goal.returns-clause-depths
returns-clause-depths c = λ known.
    let gone = subst (λ (ns : List Identifier). (x : List ℕ) → get_by_text c.forget_all.new.depths x ≡ cond (is_text_among x (texts ns)) (unless_at c.len.result (get_by_text c.args.depths.now x)) (get_by_text c.args.depths.now x)) c.deref.ensures.value c.forget_all.ensures in
    let parted : c.args.groups.now.items ≡ c.pop.new.self.items ++ c.in-Some.group ∷ [] = search rules in
    left (get_by_text c.args.depths.now) (get_by_text c.forget_all.new.depths) c.pop.new.self.items c.args.groups.now.items (texts c.group.inside.names.items) c.len.result gone (omega (arith, c.len.ensures, c.pop.new.self.ok.0)) (parted ∙ ap (λ (g : List (List ℕ)). c.pop.new.self.items ++ g ∷ []) (sym c.group.view_is)) known
