use Rattle.std.proofs.Common.{◌≡◌, ◌∙◌, ap, subst, ◌++◌, ◌∷◌, [], ℕ, List}
use Rattle.hm_syntax.specs.Lists.{types}
use Rattle.hm_syntax.specs.Trees.{DataConstructor, data_constructor}
use Rattle.hm_names.specs.Described.{ConstructorDescription, described}
use Rattle.hm_names.specs.Entities.{named}
use Rattle.hm_scope_entities.specs.Owners.{IsOwners}
use Rattle.hm_names.specs.Variables.{type_count}
use Rattle.hm_scope_entities.proofs.constructors.note_constructor.Goals as goal

pub returns : goal.returns
returns c = λ ds table.
    let m : List ℕ = c.args.module.now in
    let count = type_count (types c.constr.inside.args.items) in
    let told = c.in_ok-note_owner.ensures ds count table in
    let is : record { entity = c.new-constructor.result; owner = c.new.result; arguments = count } ≡ described m c.args.name.now (data_constructor c.constr.inside.name (types c.constr.inside.args.items)) =
    (λ i. record { entity = (c.new-constructor.ensures ∙ ap (λ (x : List ℕ). named m x) c.as_text.ensures) i; owner = (c.new.ensures ∙ ap (λ (x : List ℕ). named m x) c.as_text-2.ensures) i; arguments = count }) in
    subst (λ (d : ConstructorDescription). IsOwners (ds ++ d ∷ []) c.note_owner.new.owners) (is ∙ ap (λ (k : DataConstructor). described m c.args.name.now k) c.constr.view_is) told
