-- Entries of a core's own variables.
use Rattle.std.proofs.Common.{◌≡◌, ℕ, Bool, true, List, Option, Some, sym, ◌∙◌, subst, All, Contains, bytes_eq}
use Rattle.std.specs.Prelude.{◌↔◌}
use Rattle.std.proofs.lemmas.List.Elements.{All-weaker}
use Rattle.std.proofs.lemmas.Slice.Eq.{bytes_eq-Decides}
use Rattle.hm_types.specs.declared.Entity.{Entity}
use Rattle.hm_types.specs.Interfaces.{Exports as Interface}
use Rattle.hm_types.specs.Schemes.{TypeScheme}
use Rattle.hm_syntax.specs.Lists.{declarations}
use Rattle.hm_syntax.specs.declared.ast.Module.{Module}
use Rattle.hm_names.specs.declared.cores.Exported.{Exported}
use Rattle.hm_names.specs.Cores.{IsCore, IsTop, HasScheme, own, other}
use Rattle.hm_names.specs.ModuleCores.{ModuleCore}
use Rattle.hm_names.specs.Texts.{is_text_among}
use Rattle.hm_names.specs.Variables.{texts, bound_names}
use Rattle.hm_names.proofs.OrderedLists.{one_of_contained}
use Rattle.hm_names.proofs.Standing.{among_decides}
use Rattle.hm_names.proofs.TopEntities.{top_is_bound}

-- an entity of this module whose name is bound
pub own_entity : (e : Entity) (home : List ℕ) (bound : List (List ℕ)) (a b : List ℕ) (p q : Bool) → p ≡ bytes_eq a home → p ≡ true → q ≡ is_text_among b bound → q ≡ true → a ≡ e.«module» → b ≡ e.name
    → (e.«module» ≡ home) × Contains bound e.name
own_entity e home bound a b p q pe pt qe qt am bn = (sym am ∙ (bytes_eq-Decides a home).0 (sym pe ∙ pt), subst (λ x. Contains bound x) bn ((among_decides b bound).0 (sym qe ∙ qt)))

-- the core's own variables have the given schemes
pub own_only : (c : ModuleCore) (given : List ℕ → Option TypeScheme) (e : Entity) {t : TypeScheme} → IsTop c e → HasScheme c given e t → given e.name ≡ Some t
own_only c given e top (own is g) = g
own_only c given e top (other away f s) = absurd (away top)

-- exports whose names are bound are the core's own
pub all_own : (m : Module) (fs : List Interface) (c : ModuleCore) → IsCore m fs c → (bound : List (List ℕ)) → ((x : List ℕ) → Contains bound x ↔ Contains (texts (bound_names (declarations c.decls))) x) → (home : List ℕ) → home ≡ c.name → (xs : List Exported)
    → All (λ (x : Exported). (x.entity.«module» ≡ home) × Contains bound x.entity.name) xs → All (λ (x : Exported). IsTop c x.entity) xs
all_own m fs c core bound same home is xs = All-weaker (λ (x : Exported). (x.entity.«module» ≡ home) × Contains bound x.entity.name) (λ (x : Exported). IsTop c x.entity)
    (λ x h. (top_is_bound m fs c core x.entity).1 (h.0 ∙ is, one_of_contained (texts (bound_names (declarations c.decls))) x.entity.name ((same x.entity.name).0 h.1))) xs
