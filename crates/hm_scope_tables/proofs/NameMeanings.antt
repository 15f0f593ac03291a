-- What a table tells of a name is what the name means in the scope.
use Rattle.std.proofs.Common.{◌≡◌, List, None, sym, ◌∙◌, subst, option_map, Contains}
use Rattle.hm_types.specs.declared.Entity.{Entity}
use Rattle.hm_types.specs.Interfaces.{Exports as Interface}
use Rattle.hm_syntax.specs.Names.{Identifier}
use Rattle.hm_syntax.specs.declared.ast.Module.{Module}
use Rattle.hm_names.specs.declared.namespace.Namespace.{Namespace}
use Rattle.hm_scope_tables.specs.declared.keys.Key.{Key}
use Rattle.hm_scope_tables.specs.declared.table.Slot.TheVariants.{One, Several}
use Rattle.hm_names.specs.Bindings.{Pair, IsScopeOf}
use Rattle.hm_names.specs.Scope.{InScope, IsUnbound, IsAmbiguous, Means}
use Rattle.hm_scope_tables.specs.Tables.{IsNamed, Tells, IsTold}

-- the key is that of a name in a namespace
pub record IsKeyOf (s : Namespace) (n : Identifier) (k : Key) : Type 0 where
  pub space : k.space ≡ s
  pub qualifier : option_map (λ q. q.now) k.qualifier ≡ n.qualifier
  pub text : k.text.now ≡ n.text

module _ (m : Module) (fs : List Interface) (pairs : List Pair) (s : Namespace) (n : Identifier) (k : Key) where
  in_scope : IsScopeOf m fs pairs → IsKeyOf s n k → (p : Pair) → Contains pairs p → IsNamed k p → InScope m fs s n.qualifier n.text p.entity
  in_scope scope key p h named =
      subst (λ x. InScope m fs x n.qualifier n.text p.entity) (named.space ∙ key.space)
      (subst (λ x. InScope m fs p.space x n.text p.entity) (named.qualifier ∙ key.qualifier)
      (subst (λ x. InScope m fs p.space p.qualifier x p.entity) (named.text ∙ key.text) ((scope p).0 h)))

  abbrev pair_for : Entity → Pair
  pair_for e = record { space = s; qualifier = n.qualifier; text = n.text; entity = e }

  named_for : IsKeyOf s n k → (e : Entity) → IsNamed k (pair_for e)
  named_for key e = record { space = sym key.space; qualifier = sym key.qualifier; text = sym key.text }

  pub unbound : IsScopeOf m fs pairs → IsKeyOf s n k → IsTold pairs k None → IsUnbound m fs s n
  unbound scope key told e h = told (pair_for e) ((scope (pair_for e)).1 h) (named_for key e)

  pub ambiguous : IsScopeOf m fs pairs → IsKeyOf s n k → Tells pairs k Several → IsAmbiguous m fs s n
  ambiguous scope key t = (t.one.entity, (t.other.entity, (in_scope scope key t.one t.has_one t.one_named, in_scope scope key t.other t.has_other t.other_named, t.differ)))

  pub means : IsScopeOf m fs pairs → IsKeyOf s n k → (e : Entity) → Tells pairs k (One e) → Means m fs s n e
  means scope key e t =
      let one = t.member in
      record {
        in_scope = subst (λ d. InScope m fs s n.qualifier n.text d) (t.all one.0 one.1.0 one.1.1) (in_scope scope key one.0 one.1.0 one.1.1);
        alone = λ d h. t.all (pair_for d) ((scope (pair_for d)).1 h) (named_for key d);
      }
