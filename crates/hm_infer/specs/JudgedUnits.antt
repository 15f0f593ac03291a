-- How the units of a list are judged one by one. No public clause names these.
use Rattle.std.specs.Prelude.{◌≡◌, ℕ, ◌<◌, ◌||◌, Bool, true, false, cond, List, drop, map, slice_index_or}
use Rattle.hm_typing.specs.Names.{Identifier}
use Rattle.hm_typing.specs.Schemes.{Monotype, Scheme}
use Rattle.hm_typing.specs.Assumptions.{Assumptions}
use Rattle.hm_typing.specs.Syntax.{Bindings, names}
use Rattle.hm_typing.specs.Units.{BindingMentions, IsUnsigned}
use Rattle.hm_typing.specs.Orders.{AreTestsOf, IsNext, IsOrder, Layout}
use Rattle.hm_typing.proofs.Groups.{GroupHas}
use Rattle.hm_typing.proofs.Units.{Unit_typed}
use Rattle.hm_syntax.specs.Trees.{Declaration}
use Rattle.hm_syntax.specs.Lists.{declarations}
use Rattle.hm_names.specs.Syntax.{Known}
use Rattle.hm_infer_dependencies.specs.Groups.{node_name}
use Rattle.hm_infer_expressions.specs.BoundNames.{Sees}
use Rattle.hm_infer_context.specs.Environments.{Assumed, assumptions}
use Rattle.hm_infer_expressions.specs.Stages.{list_of}

-- all names that the unit g uses from outside are typed
abbrev pub IsFreeToJudge : Bindings → (Identifier → Bool) → (Identifier → Bool) → Type 0
IsFreeToJudge ds g status = (x y : Identifier) → g x ≡ true → BindingMentions x y ds → IsUnsigned y ds → g y ≡ false → status y ≡ true

-- a name that the unit g uses from outside isn't typed
pub record IsBlocked (ds : Bindings) (g status : Identifier → Bool) : Type 0 where
  pub name : Identifier
  pub member : g name ≡ true
  pub other : Identifier
  pub mentioned : BindingMentions name other ds
  pub without_signature : IsUnsigned other ds
  pub outside : g other ≡ false
  pub untyped : status other ≡ false

-- the units so far, the names that have types, and schemes for these. A unit is typed, or free to be judged without types, or blocked
pub data Units (ds : Bindings) (A : Assumptions) (L : Layout ds) : (Identifier → Bool) → (Identifier → Bool) → (Identifier → Scheme) → Type 0 where
  no_units : {finished status : Identifier → Bool} {B : Identifier → Scheme} → finished ≡ (λ x. false) → status ≡ (λ x. false) → B ≡ L.declared → Units ds A L finished status B
  typed_unit : {finished1 status1 : Identifier → Bool} {B1 : Identifier → Scheme} (g finished status : Identifier → Bool) (B : Identifier → Scheme) → Units ds A L finished status B → IsNext ds L.own finished g → IsFreeToJudge ds g status → (t : Unit_typed ds A g B) →
      finished1 ≡ (λ y. finished y || g y) → status1 ≡ (λ y. status y || g y) → B1 ≡ (λ y. cond (g y) (t.schemes y) (B y)) → Units ds A L finished1 status1 B1
  untyped_unit : {finished1 status : Identifier → Bool} {B : Identifier → Scheme} (g finished : Identifier → Bool) → Units ds A L finished status B → IsNext ds L.own finished g → IsFreeToJudge ds g status → ((τ : Identifier → Monotype) → ¬ (GroupHas g (names ds) A B τ ds)) →
      finished1 ≡ (λ y. finished y || g y) → Units ds A L finished1 status B
  blocked_unit : {finished1 status : Identifier → Bool} {B : Identifier → Scheme} (g finished : Identifier → Bool) → Units ds A L finished status B → IsNext ds L.own finished g → IsBlocked ds g status → finished1 ≡ (λ y. finished y || g y) → Units ds A L finished1 status B

-- the groups from i on aren't judged yet; `typed` says which nodes are in units with types
pub record UnitsJudged (k : Known) (decls : List Declaration) (gs : List (List ℕ)) (n i : ℕ) (base es : List Assumed) (typed : List Bool) : Type 0 where
  pub layout : Layout (list_of k decls)
  pub finished : Identifier → Bool
  pub status : Identifier → Bool
  pub schemes : Identifier → Scheme
  pub tests : List (Identifier → Bool)
  pub tests_are : AreTestsOf tests (map (map (node_name k (declarations decls))) (drop i gs))
  pub order : IsOrder (list_of k decls) layout.own finished tests
  pub units : Units (list_of k decls) (assumptions base) layout finished status schemes
  pub sees : Sees (list_of k decls) (assumptions base) status schemes es
  pub table : (j : ℕ) → j < n → slice_index_or typed j false ≡ status (node_name k (declarations decls) j)
