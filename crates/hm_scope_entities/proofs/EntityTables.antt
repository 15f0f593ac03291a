-- What a table of entities has is the first of its entries for the entity.
use Rattle.std.proofs.Common.{◌≡◌, ℕ, Bool, true, false, cond, ◌&&◌, List, [], ◌∷◌, ◌++◌, map, None, Some, option_map, refl, Bor, bytes_eq}
use Rattle.std.specs.Map.{lookup}
use Rattle.hm_types.specs.declared.Entity.{Entity}
use Rattle.hm_types.specs.Synonyms.{TypeSynonym}
use Rattle.hm_scope_tables.specs.declared.keys.EntityKey.{EntityKey}
use Rattle.hm_names.specs.Found.{KnownSynonym, arity_of, arity_among, known_synonym, synonym_among}
use Rattle.hm_names.specs.Described.{first_of}
use Rattle.hm_scope_tables.specs.KnownTables.{entity_at, known_arity, known_own, known_imported}

abbrev pub same_entity_key : EntityKey → EntityKey → Bool
same_entity_key j k = bytes_eq j.«module».now k.«module».now && bytes_eq j.name.now k.name.now

pub arity_found : (k : EntityKey) (es : List (EntityKey × ℕ)) → lookup (same_entity_key k) es ≡ arity_among (map known_arity es) (entity_at k)
unfolding arity_among
arity_found k [] = refl
arity_found k (x ∷ es) = go (same_entity_key k x.0) (arity_found k es)
  where
    go : (b : Bool) → lookup (same_entity_key k) es ≡ arity_of (first_of (λ d. d.entity) (entity_at k) (map known_arity es))
        → cond b (Some x.1) (lookup (same_entity_key k) es) ≡ arity_of (cond b (Some (known_arity x)) (first_of (λ d. d.entity) (entity_at k) (map known_arity es)))
    go true h = refl
    go false h = h

pub own_found : (k : EntityKey) (es : List (EntityKey × TypeSynonym)) → lookup (same_entity_key k) es ≡ synonym_among (map known_own es) (entity_at k)
unfolding synonym_among
own_found k [] = refl
own_found k (x ∷ es) = go (same_entity_key k x.0) (own_found k es)
  where
    go : (b : Bool) → lookup (same_entity_key k) es ≡ known_synonym (first_of (λ s. s.entity) (entity_at k) (map known_own es))
        → cond b (Some x.1) (lookup (same_entity_key k) es) ≡ known_synonym (cond b (Some (known_own x)) (first_of (λ s. s.entity) (entity_at k) (map known_own es)))
    go true h = refl
    go false h = h

pub imported_found : (k : EntityKey) (es : List (EntityKey × Bor TypeSynonym)) → option_map (λ b. b.now) (lookup (same_entity_key k) es) ≡ synonym_among (map known_imported es) (entity_at k)
unfolding synonym_among
imported_found k [] = refl
imported_found k (x ∷ es) = go (same_entity_key k x.0) (imported_found k es)
  where
    go : (b : Bool) → option_map (λ b. b.now) (lookup (same_entity_key k) es) ≡ known_synonym (first_of (λ s. s.entity) (entity_at k) (map known_imported es))
        → option_map (λ b. b.now) (cond b (Some x.1) (lookup (same_entity_key k) es)) ≡ known_synonym (cond b (Some (known_imported x)) (first_of (λ s. s.entity) (entity_at k) (map known_imported es)))
    go true h = refl
    go false h = h

-- own synonyms come first
pub own_first : (ss ts : List KnownSynonym) (e : Entity) (s : TypeSynonym) → synonym_among ss e ≡ Some s → synonym_among (ss ++ ts) e ≡ Some s
unfolding synonym_among
own_first [] ts e s h = absurd (let z : None ≡ Some s = h in cc)
own_first (x ∷ ss) ts e s h = go (Rattle.hm_names.specs.Texts.same_entity e x.entity) h (own_first ss ts e s)
  where
    go : (b : Bool) → known_synonym (cond b (Some x) (first_of (λ s. s.entity) e ss)) ≡ Some s
        → (known_synonym (first_of (λ s. s.entity) e ss) ≡ Some s → known_synonym (first_of (λ s. s.entity) e (ss ++ ts)) ≡ Some s)
        → known_synonym (cond b (Some x) (first_of (λ s. s.entity) e (ss ++ ts))) ≡ Some s
    go true h again = h
    go false h again = again h

pub then_imported : (ss ts : List KnownSynonym) (e : Entity) → synonym_among ss e ≡ None → synonym_among (ss ++ ts) e ≡ synonym_among ts e
unfolding synonym_among
then_imported [] ts e h = refl
then_imported (x ∷ ss) ts e h = go (Rattle.hm_names.specs.Texts.same_entity e x.entity) h (then_imported ss ts e)
  where
    go : (b : Bool) → known_synonym (cond b (Some x) (first_of (λ s. s.entity) e ss)) ≡ None
        → (known_synonym (first_of (λ s. s.entity) e ss) ≡ None → known_synonym (first_of (λ s. s.entity) e (ss ++ ts)) ≡ known_synonym (first_of (λ s. s.entity) e ts))
        → known_synonym (cond b (Some x) (first_of (λ s. s.entity) e (ss ++ ts))) ≡ known_synonym (first_of (λ s. s.entity) e ts)
    go true h again = absurd (let z : Some x.synonym ≡ None = h in cc)
    go false h again = again h
