-- Whether a name means several entities.
use Rattle.std.proofs.Common.{◌≡◌, true, false, List, None, refl, sym, ◌∙◌, option_map, IsTrue}
use Rattle.std.specs.Prelude.{◌↔◌}
use Rattle.hm_scope_tables.specs.declared.keys.Key.{Key}
use Rattle.hm_scope_tables.specs.declared.table.Slot.TheVariants.{One, Several}
use Rattle.hm_types.specs.declared.Entity.{Entity}
use Rattle.hm_names.specs.Bindings.{Pair, IsSeveral}
use Rattle.hm_scope_tables.specs.Tables.{IsNamed, Tells, IsTold}

-- the key is the name of the pair
pub record IsKeyOfPair (k : Key) (p : Pair) : Type 0 where
  pub space : k.space ≡ p.space
  pub qualifier : option_map (λ q. q.now) k.qualifier ≡ p.qualifier
  pub text : k.text.now ≡ p.text

named : (k : Key) (p q : Pair) → IsKeyOfPair k p → (q.space ≡ p.space) × (q.qualifier ≡ p.qualifier) × (q.text ≡ p.text) → IsNamed k q
named k p q h (a, b, c) = record { space = a ∙ sym h.space; qualifier = b ∙ sym h.qualifier; text = c ∙ sym h.text }

same_name : (k : Key) (p q : Pair) → IsKeyOfPair k p → IsNamed k q → (q.space ≡ p.space) × (q.qualifier ≡ p.qualifier) × (q.text ≡ p.text)
same_name k p q h n = (n.space ∙ h.space, n.qualifier ∙ h.qualifier, n.text ∙ h.text)

pub none_several : (pairs : List Pair) (p : Pair) (k : Key) → IsKeyOfPair k p → IsTold pairs k None → IsTrue false ↔ IsSeveral pairs p
none_several pairs p k h none = (λ t. let f : false ≡ true = t in cc, λ s. absurd (none s.one s.has_one (named k p s.one h s.one_name)))

pub one_several : (pairs : List Pair) (p : Pair) (k : Key) (e : Entity) → IsKeyOfPair k p → Tells pairs k (One e) → IsTrue false ↔ IsSeveral pairs p
one_several pairs p k e h t = (
  λ f. let g : false ≡ true = f in cc,
  λ s. absurd (s.differ (t.all s.one s.has_one (named k p s.one h s.one_name) ∙ sym (t.all s.other s.has_other (named k p s.other h s.other_name)))),
)

pub all_several : (pairs : List Pair) (p : Pair) (k : Key) → IsKeyOfPair k p → Tells pairs k Several → IsTrue true ↔ IsSeveral pairs p
all_several pairs p k h t = (
  λ _. record {
    one = t.one;
    other = t.other;
    has_one = t.has_one;
    has_other = t.has_other;
    one_name = same_name k p t.one h t.one_named;
    other_name = same_name k p t.other h t.other_named;
    differ = t.differ;
  },
  λ _. refl,
)
