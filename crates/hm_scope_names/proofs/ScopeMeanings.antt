-- What is found among the pairs of a scope is what means one entity there.
use Rattle.std.proofs.Common.{◌≡◌, List, ◌↔◌, Contains, refl, sym, subst, ◌∙◌}
use Rattle.hm_names.specs.Bindings.{IsScopeOf, IsSeveral, Pair}
use Rattle.hm_names.specs.Scope.{InScope}
use Rattle.hm_names.proofs.Members.{entity_discrete}
use Rattle.hm_scope_names.specs.Meant.{AreMeantIn, IsMeant}
use Rattle.hm_scope_tables.specs.NameSets.{FullName}
use Rattle.hm_syntax.specs.declared.ast.Module.{Module}
use Rattle.hm_types.specs.declared.Entity.{Entity}
use Rattle.hm_types.specs.Interfaces.{Exports as Interface}

module _ (m : Module) (fs : List Interface) (pairs : List Pair) (scope : IsScopeOf m fs pairs) (p : Pair) where
  abbrev with_entity : Entity → Pair
  with_entity d = record { space = p.space; qualifier = p.qualifier; text = p.text; entity = d }

  several : (d : Entity) → Contains pairs p → Contains pairs (with_entity d) → ¬ (d ≡ p.entity) → IsSeveral pairs p
  several d here there apart = record { one = with_entity d; other = p; has_one = there; has_other = here; one_name = (refl, refl, refl); other_name = (refl, refl, refl); differ = apart }

  means : Contains pairs p → ¬ (IsSeveral pairs p) → IsMeant m fs p
  means here alone = record {
    in_scope = (scope p).0 here;
    alone = λ d h. elim (entity_discrete d p.entity) [ yes e ↦ e | no n ↦ absurd (alone (several d here ((scope (with_entity d)).1 h) n)) ];
  }

  named : (q : Pair) → Contains pairs q → (q.space ≡ p.space) × (q.qualifier ≡ p.qualifier) × (q.text ≡ p.text) → InScope m fs p.space p.qualifier p.text q.entity
  named q c (space, qualifier, text) =
      subst (λ s. InScope m fs s p.qualifier p.text q.entity) space
      (subst (λ x. InScope m fs q.space x p.text q.entity) qualifier
      (subst (λ t. InScope m fs q.space q.qualifier t q.entity) text ((scope q).0 c)))

  not_several : IsMeant m fs p → ¬ (IsSeveral pairs p)
  not_several meant s = s.differ (meant.alone s.one.entity (named s.one s.has_one s.one_name) ∙ sym (meant.alone s.other.entity (named s.other s.has_other s.other_name)))

  pub meant_exactly : (seen : List FullName) (names : List Pair) → AreMeantIn pairs pairs seen names → Contains names p ↔ IsMeant m fs p
  meant_exactly seen names are = (
    λ c. let h = are.sound p c in means h.0 h.1,
    λ meant. are.complete p ((scope p).1 meant.in_scope) (not_several meant),
  )
