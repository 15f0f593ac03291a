-- What is known of type constructors in scope, and that no synonym of a well-formed module reaches itself.
use Rattle.std.proofs.Common.{◌≡◌, ℕ, List, [], ◌∷◌, ◌++◌, length, map, Option, Some, inl, inr, refl, sym, ap, ◌∙◌, subst, Contains}
use Rattle.std.proofs.lemmas.List.Elements.{Contains-append_left, Contains-append_right, Contains-append_cases}
use Rattle.hm_types.specs.declared.Entity.{Entity}
use Rattle.hm_types.specs.Interfaces.{Exports as Interface}
use Rattle.hm_types.specs.declared.entries.TypeEntry.{TypeEntry}
use Rattle.hm_types.specs.declared.entries.SynonymEntry.{SynonymEntry}
use Rattle.hm_syntax.specs.Names.{Identifier}
use Rattle.hm_syntax.specs.Trees.{TypeTree, Declaration, data_declaration, newtype_declaration, synonym_declaration, signature, clause, pattern_binding}
use Rattle.hm_syntax.specs.declared.ast.Module.{Module}
use Rattle.hm_names.specs.declared.namespace.Namespace.TheVariants.{Types}
use Rattle.hm_names.specs.Entities.{Exports, a_type, a_synonym, DeclaredBy, Declares, named, own}
use Rattle.hm_names.specs.Entities as entity
use Rattle.hm_names.specs.Scope.{InScope, declared, imported, Brings, every, only, hiding}
use Rattle.hm_names.specs.Described.{algebraic, declared_synonym, imported_synonym, TypeDescription, declared_types, imported_types, type_meant}
use Rattle.hm_names.specs.Faults.Arities.{RefersTo, Reaches, directly, through, recursive}
use Rattle.hm_names.specs.Faults.Phases.{IsWellFormed, Counting, fault}
use Rattle.hm_names.specs.declared.faults.Kind.TheVariants.{Recursive}
use Rattle.hm_names.proofs.Members.{none_in, cases, first, rest, first_of-is, first_of-there}

pub exported_of : (f : Interface) (i : _) (s : _) (x : List ℕ) (e : Entity) → Brings f i s x e → Exports f x e s
exported_of f i s x e (every l h) = h
exported_of f i s x e (only l c m h) = h
exported_of f i s x e (hiding l c h) = h

-- Each type constructor in scope is described

described_here : (m : List ℕ) (ds : List Declaration) (x : List ℕ) (d : Declaration) → Contains ds d → DeclaredBy x d Types → (k : TypeDescription) × (Contains (declared_types m ds) k × (named m x ≡ k.entity))
described_here m [] x d c h = absurd (none_in d c)
described_here m (e ∷ ds) x d c h = elim (cases e ds d c) [ inl s ↦ here e (subst (λ z. DeclaredBy x z Types) s h) | inr o ↦ there e (described_here m ds x d o h) ]
  where
    here : (e : Declaration) → DeclaredBy x e Types → (k : TypeDescription) × (Contains (declared_types m (e ∷ ds)) k × (named m x ≡ k.entity))
    here (data_declaration n ps cs) (entity.a_data_type h) = (_, (first _ _, ap (named m) (sym h)))
    here (newtype_declaration n ps c) (entity.a_newtype h) = (_, (first _ _, ap (named m) (sym h)))
    here (synonym_declaration n ps t) (entity.a_synonym h) = (_, (first _ _, ap (named m) (sym h)))
    here (signature ns t) h = elim h [ ]
    here (clause n ps g) h = elim h [ ]
    here (pattern_binding l c p g) h = elim h [ ]

    there : (e : Declaration) → (k : TypeDescription) × (Contains (declared_types m ds) k × (named m x ≡ k.entity)) → (k : TypeDescription) × (Contains (declared_types m (e ∷ ds)) k × (named m x ≡ k.entity))
    there (data_declaration n ps cs) r = (r.0, (rest _ _ _ r.1.0, r.1.1))
    there (newtype_declaration n ps c) r = (r.0, (rest _ _ _ r.1.0, r.1.1))
    there (synonym_declaration n ps t) r = (r.0, (rest _ _ _ r.1.0, r.1.1))
    there (signature ns t) r = r
    there (clause n ps g) r = r
    there (pattern_binding l c p g) r = r

mapped : {X Y : Type 0} (f : X → Y) (xs : List X) (x : X) → Contains xs x → Contains (map f xs) (f x)
mapped f [] x c = absurd (none_in x c)
mapped f (y ∷ ys) x c = elim (cases y ys x c) [ inl s ↦ subst (λ z. Contains (f y ∷ map f ys) (f z)) (sym s) (first (f y) (map f ys)) | inr o ↦ rest (f y) (map f ys) (f x) (mapped f ys x o) ]

described_there : (fs : List Interface) (f : Interface) (x : List ℕ) (e : Entity) → Contains fs f → Exports f x e Types → (k : TypeDescription) × (Contains (imported_types fs) k × (e ≡ k.entity))
described_there [] f x e c h = absurd (none_in f c)
described_there (g ∷ fs) f x e c h = elim (cases g fs f c) [ inl s ↦ here (subst (λ z. Exports z x e Types) s h) | inr o ↦ there (described_there fs f x e o h) ]
  where
    here : Exports g x e Types → (k : TypeDescription) × (Contains (imported_types (g ∷ fs)) k × (e ≡ k.entity))
    here (a_type {r} c n q) = (
      record { entity = r.entity; meaning = algebraic r.arity },
      (Contains-append_left _ _ _ (mapped (λ (r : TypeEntry). record { entity = r.entity; meaning = algebraic r.arity }) g.types r c), sym q),
    )
    here (a_synonym {r} c n q) = (
      record { entity = r.entity; meaning = imported_synonym r.synonym },
      (
        Contains-append_right _ _ _ (Contains-append_left _ _ _ (mapped (λ (r : SynonymEntry). record { entity = r.entity; meaning = imported_synonym r.synonym }) g.synonyms r c)),
        sym q,
      ),
    )

    there : (k : TypeDescription) × (Contains (imported_types fs) k × (e ≡ k.entity)) → (k : TypeDescription) × (Contains (imported_types (g ∷ fs)) k × (e ≡ k.entity))
    there r = (
      r.0,
      (
        Contains-append_right (map (λ (r : TypeEntry). record { entity = r.entity; meaning = algebraic r.arity }) g.types) (map (λ (r : SynonymEntry). record { entity = r.entity; meaning = imported_synonym r.synonym }) g.synonyms ++ imported_types fs) r.0
            (Contains-append_right (map (λ (r : SynonymEntry). record { entity = r.entity; meaning = imported_synonym r.synonym }) g.synonyms) (imported_types fs) r.0 r.1.0),
        r.1.1,
      ),
    )

pub is_described : (m : Module) (fs : List Interface) (q : Option (List ℕ)) (x : List ℕ) (e : Entity) → InScope m fs Types q x e → (d : TypeDescription) × (type_meant m.header.name.text m.decls fs e ≡ Some d)
is_described m fs q x e (declared d o s) =
    let r = described_here m.header.name.text m.decls x d.declaration d.stands d.declares in
    first_of-there (λ d. d.entity) e (declared_types m.header.name.text m.decls ++ imported_types fs) r.0 (Contains-append_left _ _ _ r.1.0) (s ∙ r.1.1)
is_described m fs q x e (imported {i} {f} w c n b o) =
    let r = described_there fs f x e c (exported_of f i Types x e b) in
    first_of-there (λ d. d.entity) e (declared_types m.header.name.text m.decls ++ imported_types fs) r.0 (Contains-append_right _ _ _ r.1.0) r.1.1

-- One that is described as a declared synonym is declared

pub record IsDeclared (m : List ℕ) (ds : List Declaration) (e : Entity) (ps : List Identifier) (t : TypeTree) : Type 0 where
  pub name : Identifier
  pub stands : Contains ds (synonym_declaration name ps t)
  pub is : e ≡ named m name.text

not_imported : (fs : List Interface) (k : TypeDescription) (ps : List Identifier) (t : TypeTree) → Contains (imported_types fs) k → k.meaning ≡ declared_synonym ps t → ⊥
not_imported [] k ps t c h = none_in k c
not_imported (f ∷ fs) k ps t c h =
    elim (Contains-append_cases _ _ _ c) [
      | inl a ↦ from_types f.types a
      | inr b ↦ elim (Contains-append_cases _ _ _ b) [ inl a ↦ from_synonyms f.synonyms a | inr a ↦ not_imported fs k ps t a h ]
    ]
  where
    from_types : (rs : List TypeEntry) → Contains (map (λ r. record { entity = r.entity; meaning = algebraic r.arity }) rs) k → ⊥
    from_types [] a = none_in k a
    from_types (r ∷ rs) a = elim (cases _ _ k a) [ inl s ↦ absurd (let z : algebraic r.arity ≡ declared_synonym ps t = sym (ap (λ d. d.meaning) s) ∙ h in cc) | inr o ↦ from_types rs o ]

    from_synonyms : (rs : List SynonymEntry) → Contains (map (λ r. record { entity = r.entity; meaning = imported_synonym r.synonym }) rs) k → ⊥
    from_synonyms [] a = none_in k a
    from_synonyms (r ∷ rs) a = elim (cases _ _ k a) [ inl s ↦ absurd (let z : imported_synonym r.synonym ≡ declared_synonym ps t = sym (ap (λ d. d.meaning) s) ∙ h in cc) | inr o ↦ from_synonyms rs o ]

from_declared : (m : List ℕ) (ds : List Declaration) (k : TypeDescription) (ps : List Identifier) (t : TypeTree) → Contains (declared_types m ds) k → k.meaning ≡ declared_synonym ps t → IsDeclared m ds k.entity ps t
from_declared m [] k ps t c h = absurd (none_in k c)
from_declared m (data_declaration n qs cs ∷ ds) k ps t c h =
    elim (cases _ _ k c) [ inl s ↦ absurd (let z : algebraic (length qs) ≡ declared_synonym ps t = sym (ap (λ d. d.meaning) s) ∙ h in cc) | inr o ↦ more (from_declared m ds k ps t o h) ]
  where
    more : IsDeclared m ds k.entity ps t → IsDeclared m (data_declaration n qs cs ∷ ds) k.entity ps t
    more r = record { name = r.name; stands = rest _ _ _ r.stands; is = r.is }
from_declared m (newtype_declaration n qs b ∷ ds) k ps t c h =
    elim (cases _ _ k c) [ inl s ↦ absurd (let z : algebraic (length qs) ≡ declared_synonym ps t = sym (ap (λ d. d.meaning) s) ∙ h in cc) | inr o ↦ more (from_declared m ds k ps t o h) ]
  where
    more : IsDeclared m ds k.entity ps t → IsDeclared m (newtype_declaration n qs b ∷ ds) k.entity ps t
    more r = record { name = r.name; stands = rest _ _ _ r.stands; is = r.is }
from_declared m (synonym_declaration n qs u ∷ ds) k ps t c h =
    elim (cases _ _ k c) [ inl s ↦ here s | inr o ↦ more (from_declared m ds k ps t o h) ]
  where
    more : IsDeclared m ds k.entity ps t → IsDeclared m (synonym_declaration n qs u ∷ ds) k.entity ps t
    more r = record { name = r.name; stands = rest _ _ _ r.stands; is = r.is }

    here : k ≡ record { entity = named m n.text; meaning = declared_synonym qs u } → IsDeclared m (synonym_declaration n qs u ∷ ds) k.entity ps t
    here s =
        let z : declared_synonym qs u ≡ declared_synonym ps t = sym (ap (λ d. d.meaning) s) ∙ h in
        let same : synonym_declaration n ps t ≡ synonym_declaration n qs u = cc in
        record { name = n; stands = subst (λ d. Contains (synonym_declaration n qs u ∷ ds) d) (sym same) (first _ ds); is = ap (λ d. d.entity) s }
from_declared m (signature ns u ∷ ds) k ps t c h = let r = from_declared m ds k ps t c h in record { name = r.name; stands = rest _ _ _ r.stands; is = r.is }
from_declared m (clause n qs g ∷ ds) k ps t c h = let r = from_declared m ds k ps t c h in record { name = r.name; stands = rest _ _ _ r.stands; is = r.is }
from_declared m (pattern_binding a b p g ∷ ds) k ps t c h = let r = from_declared m ds k ps t c h in record { name = r.name; stands = rest _ _ _ r.stands; is = r.is }

pub is_declared : (m : Module) (fs : List Interface) (e : Entity) (d : TypeDescription) (ps : List Identifier) (t : TypeTree) →
    type_meant m.header.name.text m.decls fs e ≡ Some d → d.meaning ≡ declared_synonym ps t → IsDeclared m.header.name.text m.decls e ps t
is_declared m fs e d ps t g h =
    let f = first_of-is (λ d. d.entity) e (declared_types m.header.name.text m.decls ++ imported_types fs) d g in
    elim (Contains-append_cases _ _ _ f.0) [
      | inl c ↦ let r = from_declared m.header.name.text m.decls d ps t c h in record { name = r.name; stands = r.stands; is = f.1 ∙ r.is }
      | inr c ↦ absurd (not_imported fs d ps t c h)
    ]

-- Reaching

pub one_more : (m : Module) (fs : List Interface) (x y z : List ℕ) → Reaches m fs x y → RefersTo m fs y z → Reaches m fs x z
one_more m fs x y z (directly a) b = through a (directly b)
one_more m fs x y z (through {y = w} a r) b = through a (one_more m fs w y z r b)

-- no synonym reaches itself
pub not_recursive : (m : Module) (fs : List Interface) → IsWellFormed m fs → (n : Identifier) (ps : List Identifier) (t : TypeTree) → Contains m.decls (synonym_declaration n ps t) → ¬ (Reaches m fs n.text n.text)
not_recursive m fs w n ps t c r = w Counting (fault Recursive n) (record { kind = Recursive; name = n; stands = inr (recursive c r); is = refl })
