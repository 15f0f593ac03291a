use Rattle.std.proofs.Common.{◌∙◌, ◌++◌, ◌∷◌, [], sym, ap, List, ℕ, cond}
use Rattle.hm_names.specs.Bindings.{Pair}
use Rattle.hm_names.specs.Texts.{is_text_among}
use Rattle.hm_scope_exports.proofs.NamesOnce.{once_other, once_before, once_more, is_space, isnt_space, is_new, isnt_new}
use Rattle.hm_scope_exports.proofs.exported.add_once.Goals as goal

pub returns-then-ne : goal.returns-then-ne
returns-then-ne c = λ seen once. once_other c.args.space seen c.args.names.now c.args.out.now.items c.args.binding.now once (λ e. isnt_space c.space.result c.args.space c.ne.result c.ne.ensures c.if-ne.true (c.space.ensures ∙ e))

pub returns-then-not-branch : goal.returns-then-not-branch
returns-then-not-branch c = λ seen once. once_before c.args.space seen c.args.names.now c.args.out.now.items c.args.binding.now once c.insert.new.self
    (c.in_ok-insert.ensures.texts ∙ ap (λ (x : List ℕ). cond (is_text_among x c.args.names.now) c.args.names.now (c.args.names.now ++ x ∷ [])) c.text.ensures)
    (isnt_new c.args.names.now c.text.result.now c.args.binding.now.text c.in_ok-insert.field-0 c.in_ok-insert.ensures.added c.text.ensures c.if-not-branch.true)

pub returns : goal.returns
returns c = λ seen once. once_more c.args.space seen c.args.names.now c.args.out.now.items c.args.binding.now once c.insert.new.self c.push.new.self.items
    (sym c.space.ensures ∙ is_space c.space.result c.args.space c.ne.result c.ne.ensures c.if-ne.false)
    (c.in_ok-insert.ensures.texts ∙ ap (λ (x : List ℕ). cond (is_text_among x c.args.names.now) c.args.names.now (c.args.names.now ++ x ∷ [])) c.text.ensures)
    (is_new c.args.names.now c.text.result.now c.args.binding.now.text c.in_ok-insert.field-0 c.in_ok-insert.ensures.added c.text.ensures c.if-not-branch.false)
    (c.in_ok-push.ensures.items ∙ ap (λ (x : Pair). c.args.out.now.items ++ x ∷ []) c.copy_of.ensures)
