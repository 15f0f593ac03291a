use Rattle.std.proofs.Common.{◌≡◌, List, ℕ, ◌++◌, ◌∷◌, [], cond, ap, ◌∙◌, rules}
use Rattle.hm_types.specs.declared.Entity.{Entity}
use Rattle.hm_names.specs.Texts.{is_text_among}
use Rattle.hm_names.specs.declared.namespace.Namespace.TheVariants.{Types}
use Rattle.hm_scope.proofs.NeededMarks.{adds_one}
use Rattle.hm_scope.proofs.needed_synonyms.add_exported.Goals as goal

pub returns : goal.returns
returns c =
    let old = c.args.names.now in
    let entity = c.args.binding.now.entity in
    let space : c.args.binding.now.space ≡ Types = search rules in
    let home : entity.«module» ≡ c.args.home.now = search rules in
    let texts = c.in_ok-insert.ensures.texts ∙ ap (λ (x : List ℕ). cond (is_text_among x old) old (old ++ x ∷ [])) (c.name.ensures ∙ ap (λ (e : Entity). e.name) c.entity-entity.ensures) in
    adds_one c.args.home.now c.args.binding.now entity.name old c.insert.new.self space (λ i. record { «module» = home i; name = entity.name }) texts
