use Rattle.std.proofs.Common.{◌≡◌, ◌==◌, ◌∙◌, List, ℕ, ap, map, sym, true}
use Rattle.std.specs.List.{starts_with}
use Rattle.hm_scope_typed_names.specs.Typed.{IsTypedName, begins}
use Rattle.hm_scope_typed_names.proofs.Growing.{passed}
use Rattle.hm_scope_typed_names.proofs.typed.add_typed.Goals as goal

pub returns : goal.returns
returns c = λ done before.
    let passes : begins c.args.prefix.now c.args.binding.now ≡ true =
    sym (ap (λ (t : List ℕ). starts_with (λ a b. a == b) t c.args.prefix.now) (c.as_str.ensures.value ∙ c.in_ok-text.ensures)) ∙ (sym c.begins.ensures ∙ c.if-not-begins.false) in
    passed (IsTypedName (map (λ f. f.now) c.args.interfaces.now)) (begins c.args.prefix.now) done c.args.binding.now c.args.names.now.items c.push.new.self.items
    (record { space = c.space-space.result; text = c.in_ok-text.text; scheme = c.in_ok-scheme.scheme }) passes
    (record { space_is = c.space-space.ensures; text_is = c.in_ok-text.ensures; has_type = c.in_ok-scheme.ensures }) c.in_ok-push.ensures.items before
