-- Where the export list has no fault, each exported name is of one entity; and what a row of exports then has.
use Rattle.std.proofs.Common.{◌≡◌, ℕ, List, [], ◌∷◌, ◌++◌, None, Some, ◌⊎◌, inl, inr, ⊎_elim, refl, sym, ap, ◌∙◌, subst, Contains}
use Rattle.std.specs.Prelude.{◌↔◌}
use Rattle.std.proofs.lemmas.List.Elements.{Contains-append_right}
use Rattle.hm_types.specs.declared.Entity.{Entity}
use Rattle.hm_types.specs.Interfaces.{Exports as Interface}
use Rattle.hm_syntax.specs.declared.ast.Module.{Module}
use Rattle.hm_syntax.specs.declared.ast.Export.{Export}
use Rattle.hm_scope_exports.specs.declared.exports.ModuleExports.{ModuleExports}
use Rattle.hm_names.specs.declared.faults.Fault.{Fault}
use Rattle.hm_names.specs.declared.faults.Kind.TheVariants.{ExportClash}
use Rattle.hm_names.specs.declared.namespace.Namespace.{Namespace}
use Rattle.hm_names.specs.Bindings.{Pair}
use Rattle.hm_scope_exports.specs.ExportedRows.{HaveOneEntity, IsBound}
use Rattle.hm_names.specs.Exports.{IsExported, all, listed, Gives}
use Rattle.hm_names.specs.Faults.Exports.{Clashes, IsAtMost, clash, item_name, bare_at}
use Rattle.hm_names.specs.Faults.Phases.{HasFault, Exporting, fault}
use Rattle.hm_scope_exports.specs.ModuleExports.{AreExportsOf}
use Rattle.hm_scope_exports.proofs.ExportClashes.{at_most_itself, at_most_then, at_most_or}
use Rattle.hm_names.proofs.DeclaredPairs.{map_contains}
use Rattle.hm_names.proofs.Members.{none_in, cases, first, rest, entity_discrete}

-- a list in front of an element
pub parted : {X : Type 0} (xs : List X) (x : X) → Contains xs x → (before : List X) × ((after : List X) × (xs ≡ before ++ (x ∷ after)))
parted [] x c = absurd (none_in x c)
parted (y ∷ ys) x c = ⊎_elim (λ e. ([], (ys, ap (λ z. z ∷ ys) (sym e)))) (λ o. let (before, (after, is)) = parted ys x o in (y ∷ before, (after, ap (λ l. y ∷ l) is))) (cases y ys x c)

-- of the names of a list that meet Q there is, as far as ⊥ goes, a least one or none
module _ (Q : List ℕ → Type 0) where
  abbrev IsLeast : List (List ℕ) → List ℕ → Type 0
  IsLeast xs x = Q x × ((y : List ℕ) → Contains xs y → Q y → IsAtMost x y)

  least : (xs : List (List ℕ)) → (((y : List ℕ) → Contains xs y → ¬ Q y) ⊎ ((x : List ℕ) × IsLeast xs x) → ⊥) → ⊥
  least [] k = k (inl (λ y c. absurd (none_in y c)))
  least (x ∷ xs) k = least xs (λ found. ⊎_elim (λ none. no_earlier none) (λ (z, h). earlier z h) found)
    where
      no_earlier : ((y : List ℕ) → Contains xs y → ¬ Q y) → ⊥
      no_earlier none = k (inl (λ y c q. ⊎_elim
          (λ e. k (inr (x, (subst Q e q, λ w d r. ⊎_elim (λ f. subst (λ v. IsAtMost x v) (sym f) (at_most_itself x)) (λ o. absurd (none w o r)) (cases x xs w d)))))
          (λ o. none y o q) (cases x xs y c)))

      earlier : (z : List ℕ) → IsLeast xs z → ⊥
      earlier z (q, below) = k (inr (
        z,
        (
          q,
          λ w d r. ⊎_elim
              (λ e. ⊎_elim (λ l. subst (λ v. IsAtMost z v) (sym e) l) (λ l. absurd (k (inr (x, (subst Q e r, λ v f s. ⊎_elim (λ g. subst (λ u. IsAtMost x u) (sym g) (at_most_itself x)) (λ o. at_most_then x z v l (below v o s)) (cases x xs v f)))))) (at_most_or z x))
              (λ o. below w o r) (cases x xs w d),
        ),
      ))

-- the names of a list of bindings
abbrev texts : List Pair → List (List ℕ)
texts ps = Rattle.std.proofs.Common.map (λ (p : Pair). p.text) ps

module _ (m : Module) (fs : List Interface) (e : ModuleExports) (are : AreExportsOf m fs e) where
  given_name : (s : Namespace) (x : List ℕ) (k : Entity) → IsExported m fs s x k → Contains (texts e.given.items) x
  given_name s x k h = map_contains (λ (p : Pair). p.text) e.given.items (record { space = s; qualifier = None; text = x; entity = k }) ((are.given_names s x k).1 h)

  module _ (fine : (f : Fault) → ¬ (HasFault m fs Exporting f)) where
    no_clash : (es before after : List Export) (i : Export) (x : List ℕ) → m.header.exports ≡ Some es → es ≡ before ++ (i ∷ after) → ¬ (Clashes m fs before i x)
    no_clash es before after i x stand is h = least (Clashes m fs before i) (texts e.given.items) (λ found. ⊎_elim (λ none. none x (its_name x h) h) (λ (z, (c, below)). fault_there z c (λ y d. below y (its_name y d) d)) found)
      where
        its_name : (y : List ℕ) → Clashes m fs before i y → Contains (texts e.given.items) y
        its_name y c = given_name c.space y c.one (listed stand (subst (λ l. Contains l i) (sym is) (Contains-append_right before (i ∷ after) i (first i after))) c.given)

        fault_there : (z : List ℕ) → Clashes m fs before i z → ((y : List ℕ) → Clashes m fs before i y → IsAtMost z y) → ⊥
        fault_there z c below = fine (fault ExportClash (bare_at (item_name i) z)) (record { kind = ExportClash; name = bare_at (item_name i) z; stands = (es, (stand, clash before after is c below)); is = refl })

    -- where one item stands before or at the other
    apart_items : (es before after : List Export) (i j : Export) (s : Namespace) (x : List ℕ) (d k : Entity) → m.header.exports ≡ Some es → es ≡ before ++ (i ∷ after) → Gives m fs x d i s → Contains before j ⊎ (j ≡ i) → Gives m fs x k j s → ¬ (¬ (d ≡ k))
    apart_items es before after i j s x d k stand is one place other differ = no_clash es before after i x stand is (record { space = s; one = d; given = one; item = j; stands = place; other = k; given_too = other; differ = differ })

    -- of two items of a list, one stands at or before the other
    two_places : (es : List Export) (i j : Export) → Contains es i → Contains es j
        → ((before : List Export) × ((after : List Export) × ((es ≡ before ++ (i ∷ after)) × (Contains before j ⊎ (j ≡ i))))) ⊎ ((before : List Export) × ((after : List Export) × ((es ≡ before ++ (j ∷ after)) × (Contains before i ⊎ (i ≡ j)))))
    two_places [] i j c d = absurd (none_in i c)
    two_places (y ∷ ys) i j c d = ⊎_elim
        (λ a. inr (later y ys i j a d))
        (λ a. ⊎_elim (λ b. inl (later y ys j i b c)) (λ b. ⊎_elim (λ (before, (after, (is, place))). inl (y ∷ before, (after, (ap (λ l. y ∷ l) is, wider y before i j place)))) (λ (before, (after, (is, place))). inr (y ∷ before, (after, (ap (λ l. y ∷ l) is, wider y before j i place)))) (two_places ys i j a b)) (cases y ys j d))
        (cases y ys i c)
      where
        wider : (y : Export) (before : List Export) (i j : Export) → Contains before j ⊎ (j ≡ i) → Contains (y ∷ before) j ⊎ (j ≡ i)
        wider y before i j place = ⊎_elim (λ b. inl (rest y before j b)) (λ f. inr f) place

        later : (y : Export) (ys : List Export) (i j : Export) → i ≡ y → Contains (y ∷ ys) j → (before : List Export) × ((after : List Export) × (((y ∷ ys) ≡ before ++ (j ∷ after)) × (Contains before i ⊎ (i ≡ j))))
        later y ys i j a d = ⊎_elim (λ b. ([], (ys, (ap (λ z. z ∷ ys) (sym b), inr (a ∙ sym b))))) (λ b. let (before, (after, is)) = parted ys j b in (y ∷ before, (after, (ap (λ l. y ∷ l) is, inl (subst (λ z. Contains (y ∷ before) z) (sym a) (first y before)))))) (cases y ys j d)

    one_exported : (s : Namespace) (x : List ℕ) (d k : Entity) → IsExported m fs s x d → IsExported m fs s x k → d ≡ k
    one_exported s x d k (all _ _ is) (all _ _ so) = is ∙ sym so
    one_exported s x d k (all none _ is) (listed {es = es} stand _ _) = absurd (let h : None ≡ Some es = sym none ∙ stand in cc)
    one_exported s x d k (listed {es = es} stand _ _) (all none _ is) = absurd (let h : None ≡ Some es = sym none ∙ stand in cc)
    one_exported s x d k (listed {es = es} {i = i} stand c g) (listed {es = es'} {i = j} stand' c' g') = elim (entity_discrete d k) [
      | yes same ↦ same
      | no differ ↦
          let one : es' ≡ es = (let h : Some es' ≡ Some es = sym stand' ∙ stand in cc) in
          absurd (⊎_elim
          (λ (before, (after, (is, place))). apart_items es before after i j s x d k stand is g place g' differ)
          (λ (before, (after, (is, place))). apart_items es before after j i s x k d stand is g' place g (λ f. differ (sym f)))
          (two_places es i j c (subst (λ l. Contains l j) one c')))
    ]

    pub one_entity : HaveOneEntity e.given.items
    one_entity p q c d space text = one_exported p.space p.text p.entity q.entity (exported p c)
        (subst (λ z. IsExported m fs z p.text q.entity) (sym space) (subst (λ z. IsExported m fs q.space z q.entity) (sym text) (exported q d)))
      where
        exported : (r : Pair) → Contains e.given.items r → IsExported m fs r.space r.text r.entity
        exported r k = (are.given_names r.space r.text r.entity).0 (subst (λ z. Contains e.given.items z) (λ i. record { space = r.space; qualifier = are.bare r k i; text = r.text; entity = r.entity }) k)

  -- the names of a namespace are bound to what is exported
  pub bound_is_exported : (s : Namespace) (x : List ℕ) (k : Entity) → IsBound e.given.items s x k ↔ IsExported m fs s x k
  bound_is_exported s x k = (
    (λ (p, (c, (space, (text, entity)))). (are.given_names s x k).0 (subst (λ z. Contains e.given.items z) (λ i. record { space = space i; qualifier = are.bare p c i; text = text i; entity = entity i }) c)),
    (λ h. (record { space = s; qualifier = None; text = x; entity = k }, ((are.given_names s x k).1 h, (refl, (refl, refl))))),
  )
