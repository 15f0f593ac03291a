-- There is what the walk has to know of each module.
use Rattle.std.proofs.Common.{◌≡◌, ℕ, List, [], ◌∷◌, ◌++◌, ⊎_elim, refl, sym, subst, IsTrue, ◌↔◌}
use Rattle.std.specs.List.{Contains}
use Rattle.std.proofs.lemmas.List.{map-append}
use Rattle.std.proofs.lemmas.List.Elements.{Contains-append_left as left, Contains-append_right as right, Contains-append_cases}
use Rattle.hm_types.specs.Interfaces.{Exports as Interface}
use Rattle.hm_syntax.specs.Names.{Identifier}
use Rattle.hm_syntax.specs.Trees.{Declaration, data_declaration, newtype_declaration, synonym_declaration, signature, clause, pattern_binding, Pattern}
use Rattle.hm_syntax.specs.Lists.{declarations}
use Rattle.hm_syntax.specs.declared.ast.Module.{Module}
use Rattle.hm_names.specs.declared.namespace.Namespace.TheVariants.{Values}
use Rattle.hm_names.specs.Entities.{DeclaredBy, a_variable, a_matched_variable, Declares}
use Rattle.hm_names.specs.Texts.{is_text_among}
use Rattle.hm_names.specs.Variables.{texts, pattern_variables, bound_names}
use Rattle.hm_names.proofs.DeclaredPairs.{contains_map, map_contains}
use Rattle.hm_names.proofs.ListedScope.{has_scope}
use Rattle.hm_names.proofs.Members.{none_in, cases, first, first_by, rest}
use Rattle.hm_names.proofs.Standing.{among_decides}
use Rattle.hm_uses.specs.Found.{Known, Knows}

abbrev Declared : List Declaration → List ℕ → Type 0
Declared ds x = (d : Declaration) × (Contains ds d × DeclaredBy x d Values)

later : (d : Declaration) (ds : List Declaration) (x : List ℕ) → Declared ds x → Declared (d ∷ ds) x
later d ds x h = (h.0, (rest d ds h.0 h.1.0, h.1.1))

split : (p : Pattern) (ns : List Identifier) → texts (pattern_variables p ++ ns) ≡ texts (pattern_variables p) ++ texts ns
split p ns = map-append (λ (n : Identifier). n.text) (pattern_variables p) ns

declares : (ds : List Declaration) (x : List ℕ) → Contains (texts (bound_names (declarations ds))) x → Declared ds x
declares [] x c = absurd (none_in x c)
declares (data_declaration n ps cs ∷ ds) x c = later (data_declaration n ps cs) ds x (declares ds x c)
declares (newtype_declaration n ps k ∷ ds) x c = later (newtype_declaration n ps k) ds x (declares ds x c)
declares (synonym_declaration n ps t ∷ ds) x c = later (synonym_declaration n ps t) ds x (declares ds x c)
declares (signature ns t ∷ ds) x c = later (signature ns t) ds x (declares ds x c)
declares (clause n ps r ∷ ds) x c = ⊎_elim (λ e. (clause n ps r, (first (clause n ps r) ds, a_variable (sym e)))) (λ o. later (clause n ps r) ds x (declares ds x o)) (cases n.text (texts (bound_names (declarations ds))) x c)
declares (pattern_binding l k p r ∷ ds) x c = ⊎_elim
    (λ o. let v = contains_map (λ (n : Identifier). n.text) (pattern_variables p) x o in (pattern_binding l k p r, (first (pattern_binding l k p r) ds, a_matched_variable v.1.0 v.1.1)))
    (λ o. later (pattern_binding l k p r) ds x (declares ds x o))
    (Contains-append_cases (texts (pattern_variables p)) (texts (bound_names (declarations ds))) x (subst (λ l. Contains l x) (split p (bound_names (declarations ds))) c))

-- an element of the list binds it
of_one : {d : Declaration} (ds : List Declaration) (x : List ℕ) → DeclaredBy x d Values → Contains (texts (bound_names (declarations (d ∷ ds)))) x
of_one ds x (a_variable {n} e) = first_by n.text (texts (bound_names (declarations ds))) x (sym e)
of_one ds x (a_matched_variable {p = p} {n = n} c e) =
    subst (λ l. Contains l x) (sym (split p (bound_names (declarations ds)))) (left (texts (pattern_variables p)) (texts (bound_names (declarations ds))) x (subst (λ y. Contains (texts (pattern_variables p)) y) e (map_contains (λ (n : Identifier). n.text) (pattern_variables p) n c)))

of_rest : (d : Declaration) (ds : List Declaration) (x : List ℕ) → Contains (texts (bound_names (declarations ds))) x → Contains (texts (bound_names (declarations (d ∷ ds)))) x
of_rest (data_declaration n ps cs) ds x c = c
of_rest (newtype_declaration n ps k) ds x c = c
of_rest (synonym_declaration n ps t) ds x c = c
of_rest (signature ns t) ds x c = c
of_rest (clause n ps r) ds x c = rest n.text (texts (bound_names (declarations ds))) x c
of_rest (pattern_binding l k p r) ds x c = subst (λ l. Contains l x) (sym (split p (bound_names (declarations ds)))) (right (texts (pattern_variables p)) (texts (bound_names (declarations ds))) x c)

bound_by : (ds : List Declaration) (x : List ℕ) (d : Declaration) → Contains ds d → DeclaredBy x d Values → Contains (texts (bound_names (declarations ds))) x
bound_by [] x d c h = absurd (none_in d c)
bound_by (e ∷ ds) x d c h = ⊎_elim (λ s. of_one {d = e} ds x (subst (λ z. DeclaredBy x z Values) s h)) (λ o. of_rest e ds x (bound_by ds x d o h)) (cases e ds d c)

pub top_decides : (m : Module) (x : List ℕ) → IsTrue (is_text_among x (texts (bound_names (declarations m.decls)))) ↔ Declares m x Values
top_decides m x = (
  λ t. let h = declares m.decls x ((among_decides x (texts (bound_names (declarations m.decls)))).0 t) in record { declaration = h.0; stands = h.1.0; declares = h.1.1 },
  λ d. (among_decides x (texts (bound_names (declarations m.decls)))).1 (bound_by m.decls x d.declaration d.stands d.declares),
)

unfoldable pub knows : (m : Module) (fs : List Interface) → (k : Known) × Knows m fs k
knows m fs =
    let scope = has_scope m fs in
    (record { home = m.header.name.text; top = texts (bound_names (declarations m.decls)); pairs = scope.0 }, record { home = refl; top = top_decides m; scope = scope.1 })
