use Rattle.std.proofs.Common.{◌≡◌, ◌∙◌, not, sym, ap, option_map, true, false}
use Rattle.hm_uses_declarations.proofs.Selected.{other_space, other_text, other_qualifier, this_one}
use Rattle.hm_uses_declarations.proofs.candidates.add_candidate.Goals as goal

pub returns-then-ne : goal.returns-then-ne
returns-then-ne c = other_space c.args.space c.args.name.now c.args.pair.now c.args.found.now.items c.ne.result c.space.result c.space.ensures c.ne.ensures c.if-ne.true

pub returns-then-ne-2 : goal.returns-then-ne-2
returns-then-ne-2 c = other_text c.args.space c.args.name.now c.args.pair.now c.args.found.now.items c.ne-2.result c.text.result.now c.as_str.result.now c.text.ensures c.as_str.ensures c.ne-2.ensures c.if-ne-2.true

pub returns-then-not-has_qualifier : goal.returns-then-not-has_qualifier
returns-then-not-has_qualifier c = other_qualifier c.args.space c.args.name.now c.args.pair.now c.args.found.now.items (option_map (λ q. q.now) c.qualifier.result) c.qualifier.ensures (λ e. let f = c.has_qualifier.ensures.1 e in let h : true ≡ false = sym f ∙ c.if-not-has_qualifier.true in cc)

pub returns : goal.returns
returns c = this_one c.args.space c.args.name.now c.args.pair.now c.args.found.now.items c.push.new.self.items c.space.result c.ne.result c.text.result.now c.as_str.result.now c.ne-2.result (option_map (λ q. q.now) c.qualifier.result) c.copy.result
    c.space.ensures c.ne.ensures c.if-ne.false c.text.ensures c.as_str.ensures c.ne-2.ensures c.if-ne-2.false c.qualifier.ensures (c.has_qualifier.ensures.0 c.if-not-has_qualifier.false) (c.copy.ensures ∙ c.entity.ensures) c.in_ok-push.ensures.items
