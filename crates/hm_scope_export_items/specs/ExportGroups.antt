-- The bindings that items of an export list select. No public clause names these.
use Rattle.std.specs.Prelude.{◌≡◌, ◌↔◌, ◌⊎◌, ℕ, List, [], Option, Some, None, option_map, Contains, Bool, ◌&&◌, Vec}
use Rattle.std.specs.Str.{bytes_eq}
use Rattle.std.specs.Option.{option_eq}
use Rattle.std.specs.declared.alloc.Global.{Global}
use Rattle.std.specs.declared.hash.FoldHasher.{FoldHasher}
use Rattle.std.specs.declared.hash.BuildHasherDefault.{BuildHasherDefault}
use Rattle.indexmap.specs.IndexMap.{IndexMap, get_by}
use Rattle.hm_scope_export_items.specs.declared.export_groups.Selector.{Selector}
use Rattle.hm_types.specs.declared.Entity.{Entity}
use Rattle.hm_types.specs.Interfaces.{Exports as Interface}
use Rattle.hm_syntax.specs.declared.ast.Module.{Module}
use Rattle.hm_names.specs.declared.namespace.Namespace.TheVariants.{Constructors}
use Rattle.hm_scope_export_items.specs.BarePairs.{bare_of}
use Rattle.hm_names.specs.Bindings.{Pair}
use Rattle.hm_names.specs.Described.{ConstructorDescription, first_of}
use Rattle.hm_names.specs.Entities.{named}
use Rattle.hm_names.specs.Exports.{HasConstructor}
use Rattle.hm_names.specs.Scope.{InScope}

-- the result of `==` for two selectors
abbrev pub same_selector : Selector → Selector → Bool
same_selector j k = bytes_eq j.«module».now k.«module».now && (option_eq (λ a b. bytes_eq a.now b.now) j.owner k.owner && option_eq (λ a b. bytes_eq a.now b.now) j.part k.part)

abbrev pub Groups : Type 0
Groups = IndexMap Selector (Vec Pair Global) (BuildHasherDefault FoldHasher)

abbrev pub grouped : Option (Vec Pair Global) → List Pair
grouped None = []
grouped (Some v) = v.items

-- the group of a selector
abbrev pub group_of : Groups → Selector → List Pair
group_of groups k = grouped (get_by (same_selector k) groups)

-- the pair is bare, and in scope under the qualifier too
abbrev pub IsBoth : Module → List Interface → List ℕ → Pair → Type 0
IsBoth m fs q p = (p.qualifier ≡ None) × (InScope m fs p.space None p.text p.entity × InScope m fs p.space (Some q) p.text p.entity)

-- the pair has a constructor of the type that is in scope
abbrev pub IsOwned : Module → List Interface → Entity → Pair → Type 0
IsOwned m fs t p = (p.qualifier ≡ None) × ((p.space ≡ Constructors) × HasConstructor m fs t p.text p.entity)

-- the selection of a selector, by its parts
abbrev pub IsSelected : Module → List Interface → List ℕ → Option (List ℕ) → Option (List ℕ) → Pair → Type 0
IsSelected m fs q None None p = IsBoth m fs q p
IsSelected m fs q None (Some c) p = ⊥
IsSelected m fs q (Some t) None p = IsOwned m fs (named q t) p
IsSelected m fs q (Some t) (Some c) p = IsOwned m fs (named q t) p × (p.text ≡ c)

-- each group has the selection of its selector
abbrev pub AreGroupsOf : Module → List Interface → Groups → Type 0
AreGroupsOf m fs groups = (k : Selector) (p : Pair) → Contains (group_of groups k) p ↔ IsSelected m fs k.«module».now (option_map (λ t. t.now) k.owner) (option_map (λ t. t.now) k.part) p

-- if the set has the bare name of q: p is this bare pair, in the group of q's qualifier
abbrev pub IsOfWhole : List Pair → Pair → Selector → Pair → Type 0
IsOfWhole bare q k p = (q.qualifier ≡ Some k.«module».now) × ((option_map (λ t. t.now) k.owner ≡ None) × ((option_map (λ t. t.now) k.part ≡ None) × (Contains bare (bare_of q) × (bare_of q ≡ p))))

-- if q has a described constructor: p is its bare pair, in the groups of its type, for all names or for its own
abbrev pub IsOfOwner : List ConstructorDescription → Pair → Selector → Pair → Type 0
IsOfOwner ds q k p =
    (q.space ≡ Constructors) × ((t : Entity) × ((option_map (λ d. d.owner) (first_of (λ d. d.entity) q.entity ds) ≡ Some t)
    × ((k.«module».now ≡ t.«module») × ((option_map (λ t. t.now) k.owner ≡ Some t.name) × (((option_map (λ t. t.now) k.part ≡ None) ⊎ (option_map (λ t. t.now) k.part ≡ Some q.text)) × (bare_of q ≡ p))))))
