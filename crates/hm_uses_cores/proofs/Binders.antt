-- Local binders of a core are those of its module, without qualifiers.
use Rattle.std.proofs.Common.{◌≡◌, ℕ, List, [], ◌∷◌, ◌++◌, map, ◌⊎◌, inl, inr, refl, sym, ap, ap₂, ◌∙◌}
use Rattle.std.proofs.lemmas.List.{map-append}
use Rattle.hm_syntax.specs.Names.{Identifier}
use Rattle.hm_syntax.specs.Trees.{Pattern, variable_pattern, bound_pattern, constructor_pattern, literal_pattern, wildcard_pattern, tuple_pattern, list_pattern, lazy_pattern, Patterns, no_patterns, more_patterns, data_declaration, newtype_declaration, synonym_declaration, signature, clause, pattern_binding, Declarations, no_declarations, more_declarations}
use Rattle.hm_names.specs.Resolved.{Resolver, bare, pattern_with, patterns_with, declarations_with}
use Rattle.hm_names.specs.Variables.{texts, pattern_variables, patterns_variables, bound_names}
use Rattle.hm_names.specs.Walk.{Locals}
use Rattle.hm_names.proofs.Members.{none_in, cases, first_by, rest, text_discrete}
use Rattle.hm_uses.specs.Uses.{IsBoundIn, IsFirst, further, here}

abbrev pub bares : List Identifier → List Identifier
bares ns = map bare ns

pub joined : (ms ns us vs : List Identifier) → ms ≡ bares us → ns ≡ bares vs → ms ++ ns ≡ bares (us ++ vs)
joined ms ns us vs e f = ap₂ (λ (x y : List Identifier). x ++ y) e f ∙ sym (map-append bare us vs)

module _ (r : Resolver) where
  mutual
    pub pattern_bare : (p : Pattern) → pattern_variables (pattern_with r bare p) ≡ bares (pattern_variables p)
    pattern_bare (variable_pattern n) = refl
    pattern_bare (bound_pattern n p) = ap (λ (l : List Identifier). bare n ∷ l) (pattern_bare p)
    pattern_bare (constructor_pattern n ps) = patterns_bare ps
    pattern_bare (literal_pattern l) = refl
    pattern_bare wildcard_pattern = refl
    pattern_bare (tuple_pattern ps) = patterns_bare ps
    pattern_bare (list_pattern ps) = patterns_bare ps
    pattern_bare (lazy_pattern p) = pattern_bare p

    pub patterns_bare : (ps : Patterns) → patterns_variables (patterns_with r bare ps) ≡ bares (patterns_variables ps)
    patterns_bare no_patterns = refl
    patterns_bare (more_patterns p ps) = joined _ _ (pattern_variables p) (patterns_variables ps) (pattern_bare p) (patterns_bare ps)

  pub bound_bare : (ys : Locals) (ds : Declarations) → bound_names (declarations_with r bare ys ds) ≡ bares (bound_names ds)
  bound_bare ys no_declarations = refl
  bound_bare ys (more_declarations (data_declaration n ps cs) ds) = bound_bare ys ds
  bound_bare ys (more_declarations (newtype_declaration n ps c) ds) = bound_bare ys ds
  bound_bare ys (more_declarations (synonym_declaration n ps t) ds) = bound_bare ys ds
  bound_bare ys (more_declarations (signature ns t) ds) = bound_bare ys ds
  bound_bare ys (more_declarations (clause n ps g) ds) = ap (λ (l : List Identifier). bare n ∷ l) (bound_bare ys ds)
  bound_bare ys (more_declarations (pattern_binding l c p g) ds) = joined _ _ (pattern_variables p) (bound_names ds) (pattern_bare p) (bound_bare ys ds)

-- The first binder of a text is the same one

pub first_bare : (x : List ℕ) (b : Identifier) {bs : List Identifier} → IsFirst x b bs → IsFirst x (bare b) (bares bs)
first_bare x b (here e) = here e
first_bare x b (further n f) = further n (first_bare x b f)

pub first_of : (x : List ℕ) (bs : List Identifier) → IsBoundIn x bs → (b : Identifier) × IsFirst x b bs
first_of x [] c = absurd (none_in x c)
first_of x (b ∷ bs) c = go (λ o. first_of x bs o) (text_discrete b.text x) (cases b.text _ x c)
  where
    go : (IsBoundIn x bs → (d : Identifier) × IsFirst x d bs) → Dec (b.text ≡ x) → ((x ≡ b.text) ⊎ IsBoundIn x bs) → (d : Identifier) × IsFirst x d (b ∷ bs)
    go more (yes e) o = (b, here e)
    go more (no n) (inl e) = absurd (n (sym e))
    go more (no n) (inr o) = let h = more o in (h.0, further n h.1)

pub among : (x : List ℕ) (b : Identifier) {bs : List Identifier} → IsFirst x b bs → IsBoundIn x bs
among x b (here {bs} e) = first_by b.text (texts bs) x (sym e)
among x b (further {c} {bs} n f) = rest c.text (texts bs) x (among x b f)
