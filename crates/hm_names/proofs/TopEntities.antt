-- The top-level variables of a core, as its own declarations have them.
use Rattle.std.proofs.Common.{◌≡◌, ℕ, Bool, true, false, cond, List, [], ◌∷◌, ◌++◌, map, length, ◌⊎◌, inl, inr, refl, sym, ap, ap₂, ◌∙◌, subst}
use Rattle.std.specs.Prelude.{◌↔◌}
use Rattle.hm_types.specs.declared.Entity.{Entity}
use Rattle.hm_types.specs.Interfaces.{Exports as Interface}
use Rattle.hm_typing.specs.Names.{Identifier as Name, global, binding, IsOneOf}
use Rattle.hm_typing.specs.Syntax as typed
use Rattle.hm_syntax.specs.Names.{Identifier}
use Rattle.hm_syntax.specs.Trees.{Pattern, variable_pattern, bound_pattern, constructor_pattern, literal_pattern, wildcard_pattern, tuple_pattern, list_pattern, lazy_pattern, Patterns, no_patterns, more_patterns, Declaration, data_declaration, newtype_declaration, synonym_declaration, signature, clause, pattern_binding}
use Rattle.hm_syntax.specs.Lists.{declarations}
use Rattle.hm_syntax.specs.declared.ast.Module.{Module}
use Rattle.hm_names.specs.ModuleCores.{ModuleCore}
use Rattle.hm_names.specs.Variables.{texts, pattern_variables, patterns_variables, bound_names}
use Rattle.hm_names.specs.Entities.{named, own}
use Rattle.hm_names.specs.Syntax.{is_continued}
use Rattle.hm_names.specs.Resolved.{Resolver, top, pattern_with, patterns_with, declaration_with, resolved}
use Rattle.hm_names.specs.Cores.{IsCore, IsTop, syntax_of}
use Rattle.hm_names.proofs.KeptDeclarations.{same_bound}
use Rattle.hm_names.proofs.TopNames.{heads, map-++}
use Rattle.hm_names.proofs.TopVariables.{names_of_core, continued_by, clause_there}

texts-++ : (ns ks : List Identifier) → texts (ns ++ ks) ≡ texts ns ++ texts ks
texts-++ ns ks = map-++ (λ n. n.text) ns ks

mutual
  kept_pattern : (r : Resolver) (m : Module) (p : Pattern) → texts (pattern_variables (pattern_with r (top m) p)) ≡ texts (pattern_variables p)
  kept_pattern r m (variable_pattern n) = refl
  kept_pattern r m (bound_pattern n p) = ap (λ z. n.text ∷ z) (kept_pattern r m p)
  kept_pattern r m (constructor_pattern n ps) = kept_patterns r m ps
  kept_pattern r m (literal_pattern l) = refl
  kept_pattern r m wildcard_pattern = refl
  kept_pattern r m (tuple_pattern ps) = kept_patterns r m ps
  kept_pattern r m (list_pattern ps) = kept_patterns r m ps
  kept_pattern r m (lazy_pattern p) = kept_pattern r m p

  kept_patterns : (r : Resolver) (m : Module) (ps : Patterns) → texts (patterns_variables (patterns_with r (top m) ps)) ≡ texts (patterns_variables ps)
  kept_patterns r m no_patterns = refl
  kept_patterns r m (more_patterns p ps) =
      texts-++ (pattern_variables (pattern_with r (top m) p)) (patterns_variables (patterns_with r (top m) ps))
      ∙ (ap₂ (λ a b. a ++ b) (kept_pattern r m p) (kept_patterns r m ps) ∙ sym (texts-++ (pattern_variables p) (patterns_variables ps)))

-- resolving keeps the texts of what a list binds
kept_names : (r : Resolver) (m : Module) (ds : List Declaration) → texts (bound_names (declarations (map (declaration_with r (top m) []) ds))) ≡ texts (bound_names (declarations ds))
kept_names r m [] = refl
kept_names r m (data_declaration n ps cs ∷ ds) = kept_names r m ds
kept_names r m (newtype_declaration n ps c ∷ ds) = kept_names r m ds
kept_names r m (synonym_declaration n ps t ∷ ds) = kept_names r m ds
kept_names r m (signature ns t ∷ ds) = kept_names r m ds
kept_names r m (clause n ps q ∷ ds) = ap (λ z. n.text ∷ z) (kept_names r m ds)
kept_names r m (pattern_binding l c p q ∷ ds) =
    texts-++ (pattern_variables (pattern_with r (top m) p)) (bound_names (declarations (map (declaration_with r (top m) []) ds)))
    ∙ (ap₂ (λ a b. a ++ b) (kept_pattern r m p) (kept_names r m ds) ∙ sym (texts-++ (pattern_variables p) (bound_names (declarations ds))))

-- The entities among the heads

one_either : (x : List ℕ) (xs ys : List (List ℕ)) → IsOneOf x (xs ++ ys) → IsOneOf x xs ⊎ IsOneOf x ys
one_either x [] ys h = inr h
one_either x (z ∷ xs) ys h = elim h [ inl s ↦ inl (inl s) | inr o ↦ elim (one_either x xs ys o) [ inl p ↦ inl (inr p) | inr q ↦ inr q ] ]

in_texts : (n : Identifier) (x : List ℕ) (e : Entity) (m : Module) → global e ≡ global (own m n.text) → e ≡ own m n.text
in_texts n x e m h = cc

from_either : (m : Module) (i : Bool) (n : Identifier) (ns : List Name) (e : Entity) (xs : List (List ℕ)) → (IsOneOf (global e) ns → (e ≡ own m e.name) × IsOneOf e.name xs) → IsOneOf (global e) (cond i ns (global (own m n.text) ∷ ns)) → (e ≡ own m e.name) × IsOneOf e.name (n.text ∷ xs)
from_either m true n ns e xs f h = let r = f h in (r.0, inr r.1)
from_either m false n ns e xs f h = elim h [ inl s ↦ let k = in_texts n e.name e m s in (k ∙ ap (own m) (sym (ap (λ d. d.name) k)), inl (ap (λ d. d.name) k)) | inr o ↦ let r = f o in (r.0, inr r.1) ]

from_block : (m : Module) (b : Name) (vs : List Identifier) (ns : List Name) (e : Entity) (xs : List (List ℕ)) → ¬ (global e ≡ b) → (IsOneOf (global e) ns → (e ≡ own m e.name) × IsOneOf e.name xs) →
    IsOneOf (global e) ((map (λ v. global (own m v.text)) vs ++ (b ∷ [])) ++ ns) → (e ≡ own m e.name) × IsOneOf e.name (texts vs ++ xs)
from_block m b [] ns e xs d f h = elim h [ inl s ↦ absurd (d s) | inr o ↦ f o ]
from_block m b (v ∷ vs) ns e xs d f h = elim h [ inl s ↦ let k = in_texts v e.name e m s in (k ∙ ap (own m) (sym (ap (λ d. d.name) k)), inl (ap (λ d. d.name) k)) | inr o ↦ let r = from_block m b vs ns e xs d f o in (r.0, inr r.1) ]

from_heads : (m : Module) (ds : List Declaration) (e : Entity) → IsOneOf (global e) (heads m ds) → (e ≡ own m e.name) × IsOneOf e.name (texts (bound_names (declarations ds)))
from_heads m [] e h = absurd h
from_heads m (data_declaration n ps cs ∷ ds) e h = from_heads m ds e h
from_heads m (newtype_declaration n ps c ∷ ds) e h = from_heads m ds e h
from_heads m (synonym_declaration n ps t ∷ ds) e h = from_heads m ds e h
from_heads m (signature ns t ∷ ds) e h = from_heads m ds e h
from_heads m (clause n ps q ∷ ds) e h = from_either m (is_continued n.text ps (declarations ds)) n (heads m ds) e (texts (bound_names (declarations ds))) (λ o. from_heads m ds e o) h
from_heads m (pattern_binding l c p q ∷ ds) e h =
    let r = from_block m (binding m.header.name.text (length ds)) (pattern_variables p) (heads m ds) e (texts (bound_names (declarations ds))) (λ s. let z : global e ≡ binding m.header.name.text (length ds) = s in cc) (λ o. from_heads m ds e o) h in
    (r.0, subst (IsOneOf e.name) (sym (texts-++ (pattern_variables p) (bound_names (declarations ds)))) r.1)

to_either : (m : Module) (i : Bool) (y x : List ℕ) (ns : List Name) → (i ≡ true → x ≡ y → IsOneOf (global (own m x)) ns) → (x ≡ y) ⊎ IsOneOf (global (own m x)) ns → IsOneOf (global (own m x)) (cond i ns (global (own m y) ∷ ns))
to_either m true y x ns f (inl s) = f refl s
to_either m true y x ns f (inr o) = o
to_either m false y x ns f (inl s) = inl (ap (λ z. global (own m z)) s)
to_either m false y x ns f (inr o) = inr o

to_block : (m : Module) (b : Name) (vs : List Identifier) (ns : List Name) (x : List ℕ) → IsOneOf x (texts vs) ⊎ IsOneOf (global (own m x)) ns → IsOneOf (global (own m x)) ((map (λ v. global (own m v.text)) vs ++ (b ∷ [])) ++ ns)
to_block m b [] ns x (inl h) = absurd h
to_block m b [] ns x (inr o) = inr o
to_block m b (v ∷ vs) ns x (inl h) = elim h [ inl s ↦ inl (ap (λ z. global (own m z)) s) | inr o ↦ inr (to_block m b vs ns x (inl o)) ]
to_block m b (v ∷ vs) ns x (inr o) = inr (to_block m b vs ns x (inr o))

to_heads : (m : Module) (ds : List Declaration) (x : List ℕ) → IsOneOf x (texts (bound_names (declarations ds))) → IsOneOf (global (own m x)) (heads m ds)
to_heads m [] x h = absurd h
to_heads m (data_declaration n ps cs ∷ ds) x h = to_heads m ds x h
to_heads m (newtype_declaration n ps c ∷ ds) x h = to_heads m ds x h
to_heads m (synonym_declaration n ps t ∷ ds) x h = to_heads m ds x h
to_heads m (signature ns t ∷ ds) x h = to_heads m ds x h
to_heads m (clause n ps q ∷ ds) x h =
    to_either m (is_continued n.text ps (declarations ds)) n.text x (heads m ds) (λ t s. subst (λ z. IsOneOf (global (own m z)) (heads m ds)) (sym s) (continued_by m n.text ps ds (λ o rs u w. clause_there m ds o rs u w) t))
    (elim h [ inl s ↦ inl s | inr o ↦ inr (to_heads m ds x o) ])
to_heads m (pattern_binding l c p q ∷ ds) x h =
    to_block m (binding m.header.name.text (length ds)) (pattern_variables p) (heads m ds) x
    (elim (one_either x (texts (pattern_variables p)) (texts (bound_names (declarations ds))) (subst (IsOneOf x) (texts-++ (pattern_variables p) (bound_names (declarations ds))) h)) [ inl o ↦ inl o | inr o ↦ inr (to_heads m ds x o) ])

-- a top-level variable is of the core's module, and one that its declarations bind
pub top_is_bound : (m : Module) (fs : List Interface) (c : ModuleCore) → IsCore m fs c → (e : Entity) → IsTop c e ↔ ((e.«module» ≡ c.name) × IsOneOf e.name (texts (bound_names (declarations c.decls))))
top_is_bound m fs c a e =
    let same : texts (bound_names (declarations c.decls)) ≡ texts (bound_names (declarations m.decls)) = ap (λ ds. texts (bound_names (declarations ds))) a.trees ∙ (ap texts (same_bound c.exported_types (resolved m a.resolver)) ∙ kept_names a.resolver m m.decls) in (
      (λ h. let r = from_heads m m.decls e (subst (IsOneOf (global e)) (names_of_core m fs c a) h) in (ap (λ d. d.«module») r.0 ∙ sym a.name, subst (IsOneOf e.name) (sym same) r.1)),
      (λ h. let here : own m e.name ≡ e = ap (λ z. named z e.name) (sym (h.0 ∙ a.name)) in
          subst (λ d. IsOneOf (global d) (typed.names (syntax_of c))) here (subst (IsOneOf (global (own m e.name))) (sym (names_of_core m fs c a)) (to_heads m m.decls e.name (subst (IsOneOf e.name) same h.1)))),
    )
