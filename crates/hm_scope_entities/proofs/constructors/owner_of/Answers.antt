use Rattle.std.proofs.Common.{◌≡◌, ◌∙◌, ap, refl, Bor, Option, None, Some, option_map, option_copied}
use Rattle.hm_types.specs.declared.Entity.{Entity}
use Rattle.hm_scope_tables.specs.declared.keys.EntityKey.{EntityKey}
use Rattle.hm_names.specs.Described.{first_of}
use Rattle.hm_scope_entities.proofs.constructors.owner_of.Goals as goal

copied : (o : Option (Bor Entity)) → option_map (λ e. e.now) o ≡ option_copied o
copied None = refl
copied (Some x) = refl

pub returns : goal.returns
returns c = λ ds table.
    let key : EntityKey = record { «module» = c.module.result; name = c.name.result } in
    copied c.get.result ∙ (c.get.ensures.value ∙ (table key ∙ ap (λ (e : Entity). option_map (λ d. d.owner) (first_of (λ d. d.entity) e ds)) (λ i. record { «module» = c.module.ensures i; name = c.name.ensures i })))
