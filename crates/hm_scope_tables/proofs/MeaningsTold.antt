-- What a table tells of a name is what the pairs give it.
use Rattle.std.proofs.Common.{◌≡◌, List, None, refl, sym, ap, ◌∙◌, subst, Contains}
use Rattle.hm_types.specs.declared.Entity.{Entity}
use Rattle.hm_syntax.specs.Names.{Identifier}
use Rattle.hm_names.specs.declared.namespace.Namespace.{Namespace}
use Rattle.hm_scope_tables.specs.declared.keys.Key.{Key}
use Rattle.hm_scope_tables.specs.declared.table.Slot.TheVariants.{One, Several}
use Rattle.hm_names.specs.Bindings.{Pair, MeaningOf, unbound, ambiguous, entity, meaning_of, meaning_in}
use Rattle.hm_scope_tables.specs.Tables.{IsNamed, Tells, IsTold}
use Rattle.hm_names.proofs.Meant.{pair_for, Told, told}
use Rattle.hm_scope_tables.proofs.NameMeanings.{IsKeyOf}

one_told : (ps : List Pair) (s : Namespace) (n : Identifier) (j k : MeaningOf) → Told ps s n j → Told ps s n k → j ≡ k
one_told ps s n unbound unbound a b = refl
one_told ps s n unbound ambiguous a b = absurd (a b.0 b.1.1.0)
one_told ps s n unbound (entity e) a b = absurd (a e b.0)
one_told ps s n ambiguous unbound a b = absurd (b a.0 a.1.1.0)
one_told ps s n ambiguous ambiguous a b = refl
one_told ps s n ambiguous (entity e) a b = absurd (a.1.1.1.1 (b.1 a.0 a.1.1.0 ∙ sym (b.1 a.1.0 a.1.1.1.0)))
one_told ps s n (entity d) unbound a b = absurd (b d a.0)
one_told ps s n (entity d) ambiguous a b = absurd (b.1.1.1.1 (a.1 b.0 b.1.1.0 ∙ sym (a.1 b.1.0 b.1.1.1.0)))
one_told ps s n (entity d) (entity e) a b = ap entity (b.1 d a.0)

is_meaning : (ps : List Pair) (s : Namespace) (n : Identifier) (k : MeaningOf) → Told ps s n k → meaning_in ps s n ≡ k
unfolding meaning_in
is_meaning ps s n k t = one_told ps s n (meaning_of ps s n) k (told s n ps) t

module _ (ps : List Pair) (s : Namespace) (n : Identifier) (k : Key) where
  is_pair : IsKeyOf s n k → (p : Pair) → IsNamed k p → p ≡ pair_for s n p.entity
  is_pair key p named = λ i. record { space = (named.space ∙ key.space) i; qualifier = (named.qualifier ∙ key.qualifier) i; text = (named.text ∙ key.text) i; entity = p.entity }

  has_pair : IsKeyOf s n k → (p : Pair) → Contains ps p → IsNamed k p → Contains ps (pair_for s n p.entity)
  has_pair key p c named = subst (λ z. Contains ps z) (is_pair key p named) c

  named_for : IsKeyOf s n k → (e : Entity) → IsNamed k (pair_for s n e)
  named_for key e = record { space = sym key.space; qualifier = sym key.qualifier; text = sym key.text }

  pub unbound_meaning : IsKeyOf s n k → IsTold ps k None → meaning_in ps s n ≡ unbound
  unbound_meaning key tells = is_meaning ps s n unbound (λ e c. tells (pair_for s n e) c (named_for key e))

  pub ambiguous_meaning : IsKeyOf s n k → Tells ps k Several → meaning_in ps s n ≡ ambiguous
  ambiguous_meaning key t = is_meaning ps s n ambiguous (t.one.entity, (t.other.entity, (has_pair key t.one t.has_one t.one_named, (has_pair key t.other t.has_other t.other_named, t.differ))))

  pub entity_meaning : IsKeyOf s n k → (e : Entity) → Tells ps k (One e) → meaning_in ps s n ≡ entity e
  entity_meaning key e t =
      let one = t.member in
      is_meaning ps s n (entity e) (subst (λ d. Contains ps (pair_for s n d)) (t.all one.0 one.1.0 one.1.1) (has_pair key one.0 one.1.0 one.1.1), λ d c. t.all (pair_for s n d) c (named_for key d))
