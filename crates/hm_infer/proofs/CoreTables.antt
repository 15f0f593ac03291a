-- The constructors and variables that a core declares and imports, one after the other.
use Rattle.std.proofs.Common.{◌≡◌, ℕ, ◌+◌, ◌-◌, ◌<◌, List, [], ◌∷◌, ◌++◌, length, drop, get_or, map, refl, sym, ap, ap₂, ◌∙◌, subst, arith, append_assoc, Contains}
use Rattle.hm_types.specs.declared.entries.ValueEntry.{ValueEntry}
use Rattle.hm_types.specs.Interfaces.{Exports as Interface}
use Rattle.hm_typing.specs.Assumptions.{Assumptions, bind}
use Rattle.hm_typing.specs.Names.{global}
use Rattle.hm_typing.specs.Programs.{scheme_of}
use Rattle.hm_syntax.specs.Lists.{constructors}
use Rattle.hm_syntax.specs.Names.{Identifier}
use Rattle.hm_syntax.specs.Trees.{DataConstructor, Declaration, data_declaration, newtype_declaration, synonym_declaration, signature, clause, pattern_binding}
use Rattle.hm_syntax.specs.declared.ast.Module.{Module}
use Rattle.hm_names.specs.Cores.{ConstructorScheme, IsCore, assumed, declared_schemes, imported_values, scheme_in}
use Rattle.hm_names.specs.Entities.{constructor_list}
use Rattle.hm_names.specs.ModuleCores.{ModuleCore}
use Rattle.hm_names.proofs.SoundDeclarations.{distinct_there}
use Rattle.hm_infer_context.specs.Constructors.{HasDistinctParameters}
use Rattle.hm_infer_context.specs.Kept.{scheme_of as entry_scheme, schemes_of}
use Rattle.hm_infer_context.specs.declared.constructors.Entry.{Entry}
use Rattle.std.proofs.lemmas.List.{map-append}
use Rattle.hm_infer.specs.Imported.{assumed_inside}

-- Constructors

listed : (cs : List DataConstructor) → constructor_list (constructors cs) ≡ cs
listed [] = refl
listed (c ∷ cs) = ap (λ z. c ∷ z) (listed cs)

append_none : {X : Type 0} (xs : List X) → xs ++ [] ≡ xs
append_none [] = refl
append_none (x ∷ xs) = ap (λ z. x ∷ z) (append_none xs)

pub data_schemes : (m : List ℕ) (n : Identifier) (ps qs : List Identifier) (cs ds : List DataConstructor) (d : Declaration) (old new : List ConstructorScheme) → data_declaration n ps (constructors cs) ≡ d → qs ≡ ps → ds ≡ cs → new ≡ old ++ map (scheme_in m n qs) ds → new ≡ old ++ declared_schemes m (d ∷ [])
data_schemes m n ps qs cs ds d old new e f g h =
    h ∙ ap (λ z. old ++ z)
    (ap (λ k. map (scheme_in m n k) ds) f ∙ (ap (map (scheme_in m n ps)) (g ∙ sym (listed cs)) ∙ (sym (append_none (map (scheme_in m n ps) (constructor_list (constructors cs)))) ∙ ap (λ z. declared_schemes m (z ∷ [])) e)))

declared_more : (m : List ℕ) (d : Declaration) (ds : List Declaration) → declared_schemes m (d ∷ ds) ≡ declared_schemes m (d ∷ []) ++ declared_schemes m ds
declared_more m (data_declaration n ps cs) ds = ap (λ z. z ++ declared_schemes m ds) (sym (append_none (map (scheme_in m n ps) (constructor_list cs))))
declared_more m (newtype_declaration n ps c) ds = refl
declared_more m (synonym_declaration n ps t) ds = refl
declared_more m (signature ns t) ds = refl
declared_more m (clause n ps r) ds = refl
declared_more m (pattern_binding l c p r) ds = refl

drop_here : {X : Type 0} (xs : List X) (i : ℕ) (x : X) → i < length xs → x ≡ get_or xs i x → drop i xs ≡ x ∷ drop (i + 1) xs
drop_here xs i x l e = Rattle.hm_infer_context.proofs.Suffixes.drop_more xs i x l e

pub declared_step : (m : List ℕ) (ds : List Declaration) (i : ℕ) (d : Declaration) (old new whole : List ConstructorScheme) → i < length ds → d ≡ get_or ds i d → old ++ declared_schemes m (drop i ds) ≡ whole → new ≡ old ++ declared_schemes m (d ∷ []) → new ++ declared_schemes m (drop (i + 1) ds) ≡ whole
declared_step m ds i d old new whole l e h f =
    ap (λ z. z ++ declared_schemes m (drop (i + 1) ds)) f
    ∙ (append_assoc old (declared_schemes m (d ∷ [])) (declared_schemes m (drop (i + 1) ds))
    ∙ (ap (λ z. old ++ z) (sym (declared_more m d (drop (i + 1) ds)) ∙ ap (declared_schemes m) (sym (drop_here ds i d l e))) ∙ h))

pub pushed_step : {X : Type 0} (f : X → ConstructorScheme) (xs : List X) (i : ℕ) (x : X) (s : ConstructorScheme) (old new whole : List ConstructorScheme) → i < length xs → x ≡ get_or xs i x → s ≡ f x → old ++ map f (drop i xs) ≡ whole → new ≡ old ++ s ∷ [] → new ++ map f (drop (i + 1) xs) ≡ whole
pushed_step f xs i x s old new whole l e g h k =
    ap (λ z. z ++ map f (drop (i + 1) xs)) k
    ∙ (append_assoc old (s ∷ []) (map f (drop (i + 1) xs)) ∙ (ap (λ z. old ++ z) (ap (λ z. z ∷ map f (drop (i + 1) xs)) g ∙ ap (map f) (sym (drop_here xs i x l e))) ∙ h))

pub schemes_pushed : (xs ys : List Entry) (x : Entry) → ys ≡ xs ++ x ∷ [] → schemes_of ys ≡ schemes_of xs ++ entry_scheme x ∷ []
schemes_pushed xs ys x e = ap schemes_of e ∙ map-append entry_scheme xs (x ∷ [])

-- the parameters of what a core declares are distinct
pub distinct : (m : Module) (fs : List Interface) (c : ModuleCore) → IsCore m fs c → (ds : List Declaration) → ds ≡ c.decls → (d : Declaration) → Contains ds d → HasDistinctParameters d
distinct m fs c core ds e d h = at d (subst (λ z. Contains z d) e h)
  where
    at : (d : Declaration) → Contains c.decls d → HasDistinctParameters d
    at (data_declaration n ps cs) h = distinct_there m fs c core (data_declaration n ps cs) h
    at (newtype_declaration n ps c1) h = distinct_there m fs c core (newtype_declaration n ps c1) h
    at (synonym_declaration n ps t) h = tt
    at (signature ns t) h = tt
    at (clause n ps r) h = tt
    at (pattern_binding l c1 p r) h = tt

-- Variables

pub assumed_append : (xs ys : List ValueEntry) → assumed (xs ++ ys) ≡ assumed_inside xs (assumed ys)
assumed_append [] ys = refl
assumed_append (r ∷ rs) ys = ap (bind (global r.entity) (scheme_of r.scheme)) (assumed_append rs ys)

-- one step back in a list
pub drop_back : {X : Type 0} (xs : List X) (behind place : ℕ) (x : X) → behind < length xs → place ≡ length xs - 1 - behind → x ≡ get_or xs place x → drop (length xs - (behind + 1)) xs ≡ x ∷ drop (length xs - behind) xs
drop_back xs behind place x l p e =
    let a : length xs - (behind + 1) ≡ place = omega arith in
    let b : place + 1 ≡ length xs - behind = omega arith in
    ap (λ i. drop i xs) a ∙ (drop_here xs place x (omega arith) e ∙ ap (λ i. x ∷ drop i xs) b)

pub interface_step : {X : Type 0} (f : X → Interface) (xs : List X) (behind place : ℕ) (x : X) (vs : List ValueEntry) (A B : Assumptions) → behind < length xs → x ≡ get_or xs place x → place ≡ length xs - 1 - behind → vs ≡ (f x).values → A ≡ assumed (imported_values (map f (drop (length xs - behind) xs))) →
    B ≡ assumed_inside vs A → B ≡ assumed (imported_values (map f (drop (length xs - (behind + 1)) xs)))
interface_step f xs behind place x vs A B l e p v h g =
    g ∙ (ap₂ assumed_inside v h ∙ (sym (assumed_append (f x).values (imported_values (map f (drop (length xs - behind) xs)))) ∙ ap (λ ys. assumed (imported_values (map f ys))) (sym (drop_back xs behind place x l p e))))
