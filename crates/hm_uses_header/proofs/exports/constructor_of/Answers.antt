use Rattle.std.proofs.Common.{◌∙◌, ap, sym, subst, option_map, Bor, List, ℕ, Contains}
use Rattle.hm_scope_export_items.specs.ExportGroups.{grouped}
use Rattle.hm_names.specs.Exports.{HasConstructor}
use Rattle.hm_uses_header.proofs.Exported.{none_there, one_there, none_first, some_first}
use Rattle.hm_uses_header.proofs.exports.constructor_of.Goals as goal

pub returns-in_default : goal.returns-in_default
returns-in_default c = λ m fs are. none_there m fs c.args.groups.now c.constructor-selector.result c.args.owner.now c.args.text.now are c.constructor-selector.ensures.module c.constructor-selector.ensures.owner (ap (option_map (λ (t : Bor (List ℕ)). t.now)) c.constructor-selector.ensures.part)
    (sym (ap grouped c.in_default.ensures.value))

pub returns-in_default-first : goal.returns-in_default-first
returns-in_default-first c = λ m fs are. none_there m fs c.args.groups.now c.constructor-selector.result c.args.owner.now c.args.text.now are c.constructor-selector.ensures.module c.constructor-selector.ensures.owner (ap (option_map (λ (t : Bor (List ℕ)). t.now)) c.constructor-selector.ensures.part)
    (sym (ap grouped c.in-Some.ensures.value) ∙ (sym c.deref.ensures.value ∙ none_first c.deref.result.now c.in_default-first.ensures.value))

pub returns : goal.returns
returns c = λ m fs are.
    subst (λ e. HasConstructor m fs c.args.owner.now c.args.text.now e) (sym (c.copy.ensures ∙ c.entity.ensures))
    (one_there m fs c.args.groups.now c.constructor-selector.result c.args.owner.now c.args.text.now are c.constructor-selector.ensures.module c.constructor-selector.ensures.owner (ap (option_map (λ (t : Bor (List ℕ)). t.now)) c.constructor-selector.ensures.part)
    c.in-Some-first.binding.now (subst (λ l. Contains l c.in-Some-first.binding.now) (c.deref.ensures.value ∙ ap grouped c.in-Some.ensures.value) (some_first c.deref.result.now c.in-Some-first.binding.now c.in-Some-first.ensures.value)))
