use Rattle.std.proofs.Common.{◌≡◌, ◌∙◌, ap, sym, subst, arith}
use Rattle.hm_types.specs.declared.Head.TheVariants as head
use Rattle.hm_types.specs.Types.{App}
use Rattle.hm_types.specs.Monotypes.{arguments_of}
use Rattle.hm_syntax.specs.Trees.{TypeTree}
use Rattle.hm_syntax.specs.Views.OfTypes.{type_of as tree_of}
use Rattle.hm_names.specs.Types.{type_in, program_of}
use Rattle.hm_names.proofs.TypesOfTrees.{constructor_is, tuple_is}
use Rattle.hm_names.proofs.monotypes.+types.Goals as goal

pub monotype-returns-in_ok-args-in-Con : goal.monotype-returns-in_ok-args-in-Con
monotype-returns-in_ok-args-in-Con t c =
    let seen = ap tree_of (sym c.in-Con.is) ∙ c.ty.view_is in
    subst (λ (u : TypeTree). App (head.Named c.in_ok-entity-in-Con.entity) (arguments_of c.new.result) ≡ program_of (type_in c.args.variables.now u)) seen
    (constructor_is c.args.variables.now c.in-Con.name c.in-Con.args.items c.in_ok-entity-in-Con.entity c.new.result c.in_ok-entity-in-Con.ensures (c.new.ensures ∙ (rw c.deref.ensures.value at c.in_ok-args-in-Con.ensures)))

pub monotype-returns-in_ok-args-in-Tuple : goal.monotype-returns-in_ok-args-in-Tuple
monotype-returns-in_ok-args-in-Tuple t c =
    let seen = ap tree_of (sym c.in-Tuple.is) ∙ c.ty.view_is in
    subst (λ (u : TypeTree). App (head.Tuple c.len.result) (arguments_of c.new-in-Tuple.result) ≡ program_of (type_in c.args.variables.now u)) seen
    (tuple_is c.args.variables.now c.in-Tuple.parts.items c.len.result c.new-in-Tuple.result (omega (arith, c.len.ensures, c.in-Tuple.parts.ok.0)) (c.new-in-Tuple.ensures ∙ (rw c.deref-in-Tuple.ensures.value at c.in_ok-args-in-Tuple.ensures)))
