-- Which entities are selected from the pairs of a scope.
use Rattle.std.proofs.Common.{◌≡◌, ℕ, Bool, true, false, not, List, [], ◌++◌, ◌∷◌, ◌↔◌, Option, None, Some, Contains, IsTrue, Decides, inl, inr, ⊎_elim, refl, sym, ap, ◌∙◌, subst, bytes_eq, Bor, option_map}
use Rattle.std.proofs.lemmas.Slice.Eq.{bytes_eq-Decides}
use denote.Enum.Bare.{sameb}
use Rattle.hm_types.specs.declared.Entity.{Entity}
use Rattle.hm_types.specs.Interfaces.{Exports as Interface}
use Rattle.hm_syntax.specs.Names.{Identifier}
use Rattle.hm_syntax.specs.declared.ast.Module.{Module}
use Rattle.hm_names.specs.contracts.namespace.Namespace.{the_type}
use Rattle.hm_names.specs.declared.namespace.Namespace.{Namespace}
use Rattle.hm_names.specs.declared.namespace.Namespace.TheVariants.{Types, Constructors, Values}
use Rattle.hm_names.specs.Bindings.{Adds, IsScopeOf, Pair}
use Rattle.hm_names.specs.Scope.{InScope}
use Rattle.hm_names.proofs.AddedPairs.{adds_none, adds_like, adds_push, ForEach}
use Rattle.hm_names.proofs.Members.{none_in}
use Rattle.hm_uses_declarations.specs.Candidates.{IsCandidate}

same_space : (a b : Namespace) → Decides (sameb the_type a b) (a ≡ b)
same_space Types Types = (λ _. refl, λ _. refl)
same_space Types Constructors = (λ e. let f : false ≡ true = e in cc, λ e. cc)
same_space Types Values = (λ e. let f : false ≡ true = e in cc, λ e. cc)
same_space Constructors Types = (λ e. let f : false ≡ true = e in cc, λ e. cc)
same_space Constructors Constructors = (λ _. refl, λ _. refl)
same_space Constructors Values = (λ e. let f : false ≡ true = e in cc, λ e. cc)
same_space Values Types = (λ e. let f : false ≡ true = e in cc, λ e. cc)
same_space Values Constructors = (λ e. let f : false ≡ true = e in cc, λ e. cc)
same_space Values Values = (λ _. refl, λ _. refl)

unequal : (b : Bool) → not b ≡ false → b ≡ true
unequal true e = refl
unequal false e = absurd (let h : true ≡ false = e in cc)

-- the three tests of a pair
pub other_space : (s : Namespace) (n : Identifier) (p : Pair) (found : List Entity) (r : Bool) (space : Namespace) → space ≡ p.space → r ≡ not (sameb the_type space s) → r ≡ true → Adds found found (IsCandidate s n p)
other_space s n p found r space at is t = adds_none found (IsCandidate s n p) (λ e k. let h : true ≡ false = sym t ∙ is ∙ ap not ((same_space space s).1 (at ∙ k.space)) in cc)

pub other_text : (s : Namespace) (n : Identifier) (p : Pair) (found : List Entity) (r : Bool) (x y : List ℕ) → x ≡ p.text → y ≡ n.text → r ≡ not (bytes_eq x y) → r ≡ true → Adds found found (IsCandidate s n p)
other_text s n p found r x y at as_written is t = adds_none found (IsCandidate s n p) (λ e k. let h : true ≡ false = sym t ∙ is ∙ ap not ((bytes_eq-Decides x y).1 (at ∙ (k.text ∙ sym as_written))) in cc)

pub other_qualifier : (s : Namespace) (n : Identifier) (p : Pair) (found : List Entity) (q : Option (List ℕ)) → q ≡ p.qualifier → ¬ (q ≡ n.qualifier) → Adds found found (IsCandidate s n p)
other_qualifier s n p found q at apart = adds_none found (IsCandidate s n p) (λ e k. apart (at ∙ k.qualifier))

pub this_one : (s : Namespace) (n : Identifier) (p : Pair) (old new : List Entity) (space : Namespace) (r : Bool) (x y : List ℕ) (b : Bool) (q : Option (List ℕ)) (entity : Entity) → space ≡ p.space → r ≡ not (sameb the_type space s) → r ≡ false
    → x ≡ p.text → y ≡ n.text → b ≡ not (bytes_eq x y) → b ≡ false → q ≡ p.qualifier → q ≡ n.qualifier → entity ≡ p.entity → new ≡ old ++ entity ∷ [] → Adds old new (IsCandidate s n p)
this_one s n p old new space r x y b q entity at is f at_text as_written is_text g at_q is_q at_e pushed = adds_like old new (λ e. entity ≡ e) (IsCandidate s n p)
    (λ e h. record {
      space = sym at ∙ (same_space space s).0 (unequal (sameb the_type space s) (sym is ∙ f));
      qualifier = sym at_q ∙ is_q;
      text = sym at_text ∙ ((bytes_eq-Decides x y).0 (unequal (bytes_eq x y) (sym is_text ∙ g)) ∙ as_written);
      entity = sym at_e ∙ h;
    })
    (λ e k. at_e ∙ k.entity)
    (adds_push old new entity pushed)

-- all of a scope
pub exactly : (m : Module) (fs : List Interface) (pairs : List Pair) (s : Namespace) (n : Identifier) (old new : List Entity) → old ≡ [] → Adds old new (ForEach (IsCandidate s n) pairs) → IsScopeOf m fs pairs → (e : Entity) → Contains new e ↔ InScope m fs s n.qualifier n.text e
exactly m fs pairs s n old new none added scope e = (
  λ c. ⊎_elim (λ o. absurd (none_in e (subst (λ l. Contains l e) none o))) (λ h. there h.0 h.1.0 h.1.1) ((added e).0 c),
  λ i. let p : Pair = record { space = s; qualifier = n.qualifier; text = n.text; entity = e } in (added e).1 (inr (p, ((scope p).1 i, record { space = refl; qualifier = refl; text = refl; entity = refl }))),
)
  where
    there : (p : Pair) → Contains pairs p → IsCandidate s n p e → InScope m fs s n.qualifier n.text e
    there p c k =
        subst (λ d. InScope m fs s n.qualifier n.text d) k.entity (subst (λ x. InScope m fs s n.qualifier x p.entity) k.text (subst (λ q. InScope m fs s q p.text p.entity) k.qualifier (subst (λ z. InScope m fs z p.qualifier p.text p.entity) k.space ((scope p).0 c))))
