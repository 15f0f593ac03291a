-- The variables that declarations bind, declaration by declaration.
use Rattle.std.proofs.Common.{◌≡◌, ℕ, List, [], ◌∷◌, ◌++◌, map, inr, ⊎_elim, refl, sym, ap, ◌∙◌, subst, Contains, Bor, append-nil}
use Rattle.std.specs.Prelude.{◌↔◌}
use Rattle.std.proofs.lemmas.List.{map-append}
use Rattle.std.proofs.lemmas.List.Elements.{Contains-append_left, Contains-append_right, Contains-append_cases}
use Rattle.hm_syntax.specs.Lists.{declarations}
use Rattle.hm_syntax.specs.Names.{Identifier}
use Rattle.hm_syntax.specs.Trees.{Pattern, Patterns, RightSide, Declaration, data_declaration, newtype_declaration, synonym_declaration, signature, clause, pattern_binding}
use Rattle.hm_names.specs.Bindings.{Adds}
use Rattle.hm_names.specs.Variables.{bound_names, texts, pattern_variables}
use Rattle.hm_names.proofs.AddedPairs.{adds_like, ForEach}
use Rattle.hm_names.proofs.Members.{none_in, cases, first, rest, mapped}

abbrev pub BoundBy : Declaration → List ℕ → Type 0
BoundBy d x = Contains (texts (bound_names (declarations (d ∷ [])))) x

-- a list binds what its first declaration binds, and then what the others do
parts : (d : Declaration) (ds : List Declaration) → texts (bound_names (declarations (d ∷ ds))) ≡ texts (bound_names (declarations (d ∷ []))) ++ texts (bound_names (declarations ds))
parts (data_declaration n ps cs) ds = refl
parts (newtype_declaration n ps c) ds = refl
parts (synonym_declaration n ps t) ds = refl
parts (signature ns t) ds = refl
parts (clause n ps r) ds = refl
parts (pattern_binding line column p r) ds =
    map-append (λ (n : Identifier). n.text) (pattern_variables p) (bound_names (declarations ds))
    ∙ ap (λ l. map (λ (n : Identifier). n.text) l ++ texts (bound_names (declarations ds))) (sym (append-nil (pattern_variables p)))

pub bound_in : (ds : List Declaration) (x : List ℕ) → Contains (texts (bound_names (declarations ds))) x ↔ ((d : Declaration) × (Contains ds d × BoundBy d x))
bound_in [] x = (λ h. absurd (none_in x h), λ (d, (c, _)). absurd (none_in d c))
bound_in (d ∷ ds) x = (
  (λ h. ⊎_elim (λ l. (d, (first d ds, l))) (λ r. let (e, (c, b)) = (bound_in ds x).0 r in (e, (rest d ds e c, b))) (Contains-append_cases (texts (bound_names (declarations (d ∷ [])))) (texts (bound_names (declarations ds))) x (subst (λ l. Contains l x) (parts d ds) h))),
  (λ (e, (c, b)). subst (λ l. Contains l x) (sym (parts d ds)) (⊎_elim
      (λ s. Contains-append_left (texts (bound_names (declarations (d ∷ [])))) (texts (bound_names (declarations ds))) x (subst (λ z. BoundBy z x) s b))
      (λ o. Contains-append_right (texts (bound_names (declarations (d ∷ [])))) (texts (bound_names (declarations ds))) x ((bound_in ds x).1 (e, (o, b)))) (cases d ds e c))),
)

pub bound_exact : (old new : List (List ℕ)) (ds : List Declaration) → old ≡ [] → Adds old new (ForEach BoundBy ds) → (x : List ℕ) → Contains new x ↔ Contains (texts (bound_names (declarations ds))) x
bound_exact old new ds nothing a x = (
  (λ h. ⊎_elim (λ o. absurd (none_in x (subst (λ l. Contains l x) nothing o))) (λ f. (bound_in ds x).1 f) ((a x).0 h)),
  (λ h. (a x).1 (inr ((bound_in ds x).0 h))),
)

-- one clause
pub bound_clause : (n : Identifier) (ps : Patterns) (r : RightSide) (old new : List (List ℕ)) → Adds old new (λ x. n.text ≡ x) → Adds old new (BoundBy (clause n ps r))
bound_clause n ps r old new a = adds_like old new (λ x. n.text ≡ x) (BoundBy (clause n ps r)) (λ x e. subst (λ z. Contains (n.text ∷ []) z) e (first n.text [])) (λ x c. ⊎_elim (λ e. sym e) (λ o. absurd (none_in x o)) (cases n.text [] x c)) a

-- the variables of a pattern, lent
pub bound_pattern : (line column : ℕ) (p : Pattern) (r : RightSide) (ns : List (Bor Identifier)) (old new : List (List ℕ)) → map (λ n. n.now) ns ≡ pattern_variables p → Adds old new (λ x. (n : Bor Identifier) × (Contains ns n × (n.now.text ≡ x))) → Adds old new (BoundBy (pattern_binding line column p r))
bound_pattern line column p r ns old new are a = adds_like old new (λ x. (n : Bor Identifier) × (Contains ns n × (n.now.text ≡ x))) (BoundBy (pattern_binding line column p r)) there back a
  where
    all : texts (bound_names (declarations (pattern_binding line column p r ∷ []))) ≡ map (λ (n : Identifier). n.text) (map (λ (b : Bor Identifier). b.now) ns)
    all = ap (λ l. map (λ (n : Identifier). n.text) l) (append-nil (pattern_variables p) ∙ sym are)

    there : (x : List ℕ) → (n : Bor Identifier) × (Contains ns n × (n.now.text ≡ x)) → BoundBy (pattern_binding line column p r) x
    there x (n, (c, e)) = subst (λ l. Contains l x) (sym all) ((mapped (λ (k : Identifier). k.text) (map (λ (b : Bor Identifier). b.now) ns) x).1 (n.now, ((mapped (λ (b : Bor Identifier). b.now) ns n.now).1 (n, (c, refl)), sym e)))

    back : (x : List ℕ) → BoundBy (pattern_binding line column p r) x → (n : Bor Identifier) × (Contains ns n × (n.now.text ≡ x))
    back x h = let (k, (c, e)) = (mapped (λ (k : Identifier). k.text) (map (λ (b : Bor Identifier). b.now) ns) x).0 (subst (λ l. Contains l x) all h) in
        let (n, (d, f)) = (mapped (λ (b : Bor Identifier). b.now) ns k).0 c in (n, (d, sym (e ∙ ap (λ (z : Identifier). z.text) f)))

pub binds_clause : (n : Identifier) {ps : Patterns} {r : RightSide} (d : Declaration) (old new : List (List ℕ)) → clause n ps r ≡ d → Adds old new (λ x. n.text ≡ x) → Adds old new (BoundBy d)
binds_clause n {ps = ps} {r = r} d old new is a = subst (λ (z : Declaration). Adds old new (BoundBy z)) is (bound_clause n ps r old new a)

pub binds_pattern : {line column : ℕ} (p : Pattern) {r : RightSide} (d : Declaration) (ns : List (Bor Identifier)) (old new : List (List ℕ)) → pattern_binding line column p r ≡ d → map (λ n. n.now) ns ≡ pattern_variables p → Adds old new (λ x. (n : Bor Identifier) × (Contains ns n × (n.now.text ≡ x))) → Adds old new (BoundBy d)
binds_pattern {line = line} {column = column} p {r = r} d ns old new is are a = subst (λ (z : Declaration). Adds old new (BoundBy z)) is (bound_pattern line column p r ns old new are a)
