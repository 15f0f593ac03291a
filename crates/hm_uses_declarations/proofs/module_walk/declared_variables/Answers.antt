use Rattle.std.proofs.Common.{◌≡◌, ◌++◌, ◌∙◌, ap, sym, subst, IsTrue, ◌↔◌}
use Rattle.hm_syntax.specs.Lists.{declarations}
use Rattle.hm_names.specs.declared.namespace.Namespace.TheVariants.{Values}
use Rattle.hm_names.specs.Entities.{Declares}
use Rattle.hm_names.specs.Texts.{is_text_among}
use Rattle.hm_names.specs.Variables.{texts, bound_names}
use Rattle.hm_uses.proofs.Existence.{top_decides}
use Rattle.hm_uses_declarations.proofs.module_walk.declared_variables.Goals as goal

pub returns : goal.returns
returns c = λ x.
    let bound = c.in_ok-add_all_bound.ensures ∙ (ap (λ l. l ++ bound_names (declarations c.as_slice.result.now)) c.new-names.ensures ∙ ap (λ ds. bound_names (declarations ds)) c.as_slice.ensures) in
    let all = c.in_ok-texts_of.ensures x ∙ ap (λ l. is_text_among x (texts l)) (c.as_slice-2.ensures ∙ bound) in
    subst (λ b. IsTrue b ↔ Declares c.args.program.now x Values) (sym all) (top_decides c.args.program.now x)
