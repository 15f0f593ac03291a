-- The assignment that a settled table gives: to each variable of a good module the body of its scheme there.
use Rattle.std.proofs.Common.{◌≡◌, ℕ, zero, suc, ◌<◌, List, [], ◌∷◌, map, length, Option, Some, None, inl, inr, refl, sym, ap, ◌∙◌, subst, subst₂, arith}
use Rattle.std.proofs.lemmas.Bool.{cases_order}
use Rattle.hm_types.specs.declared.Entity.{Entity}
use Rattle.hm_types.specs.declared.entries.ValueEntry.{ValueEntry}
use Rattle.hm_types.specs.Interfaces.{Exports as Interface}
use Rattle.hm_types.specs.Schemes.{TypeScheme}
use Rattle.hm_types.specs.StandardPrelude.{prelude_interface}
use Rattle.hm_types.specs.Types.{Var}
use Rattle.hm_typing.specs.Assignments.{Module as TypingModule, Assignment, outer}
use Rattle.hm_typing.specs.Assumptions.{Assumptions, AreAtMostAsGeneral, empty, bind_all}
use Rattle.hm_typing.specs.BindingLists.{HasPrincipalSchemes}
use Rattle.hm_typing.specs.Names.{Identifier, global, IsOneOf}
use Rattle.hm_typing.specs.Programs.{scheme_of}
use Rattle.hm_typing.specs.Schemes.{Monotype, Scheme, IsInstance, instance, closed}
use Rattle.hm_typing.specs.Syntax.{Bindings, names}
use Rattle.hm_typing.proofs.Bind.{is_one_of, instance_closed}
use Rattle.hm_typing.proofs.ModuleSets.{body_of, body_in, outer_closed, HasSchemes-agree}
use Rattle.hm_typing.proofs.Types.{put-Var}
use Rattle.hm_names.proofs.Elaboration.{assumes_closed}
use Rattle.hm_names.proofs.Members.{first_of-is}
use Rattle.hm_names.specs.ModuleCores.{ModuleCore}
use Rattle.hm_names.specs.Cores.{IsTop, HasScheme, own, other, assumed, assumptions, imported_values, syntax_of}
use Rattle.hm_verdicts.specs.ModuleVerdicts.{Good, IsCanonical, AreEquallyGeneral}
use Rattle.hm_verdicts.specs.Readings.{Reading, variables, prelude_variables, prelude_table}
use Rattle.hm_verdicts.specs.Sets.{ModuleSet, imports_of, IsLawfulSet}
use Rattle.hm_verdicts.specs.Skeletons.{skeleton, without_scheme, with_prelude}
use Rattle.hm_verdicts.specs.Verdicts.{Status, Published, IsJudged, IsSettled}
use Rattle.hm_verdicts.proofs.Entries.{publisher, Entry, good, faulty, left, entry, set_of, schemes_of, IsGoodAs, published_entry, table_reading, bare_core}
use Rattle.hm_verdicts.proofs.EquallyGeneral.{AssumeAlike, equally, still_principal}
use Rattle.hm_verdicts.proofs.ImportOrder.{by_imports, import_in}
use Rattle.hm_verdicts.proofs.LawfulReading.{value_among, lawful_reading, not_prelude_name}
use Rattle.hm_verdicts.proofs.Lists.{one_of_contained, contained, one_of_map}
use Rattle.hm_verdicts.proofs.Moved.{moved_syntax}
use Rattle.hm_verdicts.proofs.PreludeFacts.{prelude_told, prelude_canonical}
use Rattle.hm_verdicts.proofs.SkeletonOfInterface.{skeletons_twice, values_of_skeletons}

pub of_closed : (t : Monotype) → instance (closed t) Var ≡ t
of_closed t = instance_closed t Var ∙ put-Var t

pub closed_inj : (t u : Monotype) → closed t ≡ closed u → t ≡ u
closed_inj t u e = sym (of_closed t) ∙ (ap (λ σ. instance σ Var) e ∙ of_closed u)

-- the schemes of one module, before those that are chosen already
abbrev pub chosen_from : Option (Identifier → Scheme) → Bindings → Assignment → Assignment
chosen_from None ds S x = S x
chosen_from (Some B) ds S x = elim (is_one_of x (names ds)) [ yes o ↦ instance (B x) Var | no m ↦ S x ]

chosen_out : (o : Option (Identifier → Scheme)) (ds : Bindings) (S : Assignment) (x : Identifier) → ¬ (IsOneOf x (names ds)) → chosen_from o ds S x ≡ S x
chosen_out None ds S x n = refl
chosen_out (Some B) ds S x n = at (is_one_of x (names ds))
  where
    at : (d : Dec (IsOneOf x (names ds))) → elim d [ yes o ↦ instance (B x) Var | no m ↦ S x ] ≡ S x
    at (yes o) = absurd (n o)
    at (no m) = refl

chosen_in : (B : Identifier → Scheme) (ds : Bindings) (S : Assignment) (x : Identifier) → IsOneOf x (names ds) → chosen_from (Some B) ds S x ≡ instance (B x) Var
chosen_in B ds S x o = at (is_one_of x (names ds))
  where
    at : (d : Dec (IsOneOf x (names ds))) → elim d [ yes q ↦ instance (B x) Var | no m ↦ S x ] ≡ instance (B x) Var
    at (yes q) = refl
    at (no m) = absurd (m o)

principal_agree : (A : Assumptions) (ds : Bindings) (B B' : Identifier → Scheme) → ((x : Identifier) → IsOneOf x (names ds) → B x ≡ B' x) → HasPrincipalSchemes A ds B → HasPrincipalSchemes A ds B'
principal_agree A ds B B' f p = record {
  typed = HasSchemes-agree A A ds B B' refl f p.typed;
  most = λ C l x o t i. subst (IsInstance t) (f x o) (p.most C l x o t i);
}

scheme_or : TypeScheme → Option TypeScheme → TypeScheme
scheme_or d None = d
scheme_or d (Some x) = x

pub same_given : (s t : TypeScheme) → Some s ≡ Some t → s ≡ t
unfolding scheme_or
same_given s t e = ap (scheme_or s) e

module _ (p : ModuleSet) (law : IsLawfulSet p) (status : ℕ → Status) (settled : IsSettled p status) where
  abbrev pub reading : Reading p
  reading = table_reading p law status settled

  abbrev pub chosen : ℕ → Assignment
  chosen zero = prelude_table
  chosen (suc k) = chosen_from (schemes_of p law status settled k (entry p law status settled k)) (reading.set k).bindings (chosen k)

  -- the assignment
  abbrev pub S : Assignment
  S = chosen (length p.modules)

  unchosen : (k : ℕ) (x : Identifier) → ((h : ℕ) → h < k → ¬ (IsOneOf x (names (reading.set h).bindings))) → chosen k x ≡ prelude_table x
  unchosen zero x n = refl
  unchosen (suc k) x n = chosen_out (schemes_of p law status settled k (entry p law status settled k)) (reading.set k).bindings (chosen k) x (n k (omega arith)) ∙ unchosen k x (λ h l. n h (omega (arith, l)))

  chosen_at : (k h : ℕ) (x : Identifier) (B : Identifier → Scheme) → h < k → schemes_of p law status settled h (entry p law status settled h) ≡ Some B → IsOneOf x (names (reading.set h).bindings) → chosen k x ≡ instance (B x) Var
  chosen_at zero h x B l e o = absurd (omega (arith, l))
  chosen_at (suc k) h x B l e o = elim (cases_order h k) [
    | inl same ↦
        subst (λ z. chosen_from (schemes_of p law status settled z (entry p law status settled z)) (reading.set z).bindings (chosen k) x ≡ instance (B x) Var) same
        (ap (λ z. chosen_from z (reading.set h).bindings (chosen k) x) e ∙ chosen_in B (reading.set h).bindings (chosen k) x o)
    | inr (inl less) ↦
        chosen_out (schemes_of p law status settled k (entry p law status settled k)) (reading.set k).bindings (chosen k) x (λ q. apart less ((lawful_reading p law reading).apart h k x o q)) ∙ chosen_at k h x B less e o
    | inr (inr more) ↦ absurd (omega (arith, l, more))
  ]
    where
      apart : h < k → h ≡ k → ⊥
      apart a b = absurd (omega (arith, a, b))

  -- Good modules

  -- what is known of a good module
  pub record GoodAt (i : ℕ) (f : Interface) : Type 0 where
    pub inside : i < length p.modules
    pub judged : IsJudged p status i (Good f)
    pub schemes : schemes_of p law status settled i (entry p law status settled i) ≡ Some judged.verdict.principal.schemes
    pub bindings : (reading.set i).bindings ≡ syntax_of judged.verdict.core
    pub scope : (reading.set i).scope ≡ variables (imported_values (with_prelude (map skeleton judged.interfaces)))

  good_from : (i : ℕ) (f : Interface) (d : Entry p law status settled i) → IsGoodAs p law status settled i f d →
      (l : i < length p.modules) × ((j : IsJudged p status i (Good f)) × ((schemes_of p law status settled i d ≡ Some j.verdict.principal.schemes) × (((set_of p law status settled i d).bindings ≡ syntax_of j.verdict.core)
      × ((set_of p law status settled i d).scope ≡ variables (imported_values (with_prelude (map skeleton j.interfaces)))))))
  good_from i f (good g l e j) h = subst (λ z. (l : i < length p.modules) × ((k : IsJudged p status i (Good z)) × ((Some j.verdict.principal.schemes ≡ Some k.verdict.principal.schemes) × ((syntax_of (bare_core p law status settled j.interfaces j.verdict.core) ≡ syntax_of k.verdict.core)
      × (variables (imported_values (with_prelude (map skeleton j.interfaces))) ≡ variables (imported_values (with_prelude (map skeleton k.interfaces)))))))) h
      (l, (j, (refl, (sym (moved_syntax j.verdict.core (with_prelude (map skeleton j.interfaces)) (ap (map skeleton) j.verdict.is_core.interfaces ∙ skeletons_twice (prelude_interface ∷ j.interfaces))), refl))))
  good_from i f (faulty found fs c l e h is u) k = absurd k
  good_from i f left h = absurd h

  pub good_at : (i : ℕ) (f : Interface) → i < length p.modules → status i ≡ Published f → GoodAt i f
  good_at i f l e =
      let q = good_from i f (entry p law status settled i) (published_entry p law status settled i l f e) in
      record { inside = q.0; judged = q.1.0; schemes = q.1.1.0; bindings = q.1.1.1.0; scope = q.1.1.1.1 }

  -- a variable's scheme in a good module is the one that is chosen
  own_scheme : (i : ℕ) (f : Interface) (g : GoodAt i f) (x : Identifier) → IsOneOf x (names (reading.set i).bindings) → S x ≡ instance (g.judged.verdict.principal.schemes x) Var
  own_scheme i f g x o = chosen_at (length p.modules) i x g.judged.verdict.principal.schemes g.inside g.schemes o

  prelude_scheme : (x : Identifier) → IsOneOf x prelude_variables → S x ≡ prelude_table x
  prelude_scheme x o = unchosen (length p.modules) x (λ h l q. not_prelude_name p law reading h x q o)

  pub prelude_given : (x : Identifier) → IsOneOf x prelude_variables → S x ≡ prelude_table x
  prelude_given x o = prelude_scheme x o

  -- a good module's own schemes are those that are chosen
  own_bound : (i : ℕ) (f : Interface) (g : GoodAt i f) (x : Identifier) → IsOneOf x (names (reading.set i).bindings) → g.judged.verdict.principal.schemes x ≡ closed (S x)
  own_bound i f g x o =
      let c = g.judged.verdict.core in
      let q = g.judged.verdict.principal.principal.typed in
      let b = body_in (assumptions c) (assumes_closed c) _ q.types g.judged.verdict.principal.schemes S (syntax_of c) q.bindings x (subst (λ ds. IsOneOf x (names ds)) g.bindings o) in
      b ∙ ap closed (sym (own_scheme i f g x o ∙ (ap (λ σ. instance σ Var) b ∙ of_closed (body_of (syntax_of c) q.types S x))))

  -- the entry of a value tells the scheme that is chosen, in its canonical form
  pub record Tells (v : ValueEntry) : Type 0 where
    pub general : AreEquallyGeneral (scheme_of v.scheme) (closed (S (global v.entity)))
    pub canonical : IsCanonical v.scheme

  prelude_tells : (v : ValueEntry) → IsOneOf v prelude_interface.values → Tells v
  prelude_tells v o = record {
    general = equally (scheme_of v.scheme) (closed (S (global v.entity))) (ap closed (sym (prelude_scheme (global v.entity) (one_of_map (λ z. global z.entity) v prelude_interface.values o) ∙ prelude_told v o)));
    canonical = prelude_canonical v o;
  }

  tells_as : (v w : ValueEntry) → v.entity ≡ w.entity → v.scheme ≡ w.scheme → Tells w → Tells v
  tells_as v w e s t = record {
    general = subst₂ (λ z y. AreEquallyGeneral (scheme_of z) (closed (S (global y)))) (sym s) (sym e) t.general;
    canonical = subst IsCanonical (sym s) t.canonical;
  }

  all_tell : (i : ℕ) (f : Interface) (g : GoodAt i f) → ((w : ValueEntry) (k : Interface) → IsOneOf k g.judged.interfaces → IsOneOf w k.values → Tells w) → (w : ValueEntry) → IsOneOf w (imported_values g.judged.verdict.core.interfaces) → Tells w
  all_tell i f g below w o =
      let k = value_among w g.judged.verdict.core.interfaces o in
      at k.0 (subst (λ fs. IsOneOf k.0 fs) g.judged.verdict.is_core.interfaces k.1.0) k.1.1
    where
      at : (k : Interface) → IsOneOf k (prelude_interface ∷ g.judged.interfaces) → IsOneOf w k.values → Tells w
      at k (inl e) q = prelude_tells w (subst (λ z. IsOneOf w z.values) e q)
      at k (inr r) q = below w k r q

  own_tells : (i : ℕ) (f : Interface) (g : GoodAt i f) (e : Entity) → IsTop g.judged.verdict.core e → (s : TypeScheme) × ((g.judged.verdict.given e.name ≡ Some s) × (AreEquallyGeneral (scheme_of s) (closed (S (global e))) × IsCanonical s))
  own_tells i f g e top =
      let q = g.judged.verdict.principal.each e top in
      let o : IsOneOf (global e) (names (reading.set i).bindings) = subst (λ ds. IsOneOf (global e) (names ds)) (sym g.bindings) top in
      let h : AreEquallyGeneral (closed (S (global e))) (scheme_of q.0) = subst (λ z. AreEquallyGeneral z (scheme_of q.0)) (own_bound i f g (global e) o) q.1.2 in
      (q.0, (q.1.0, ((h.1, h.0), q.1.1)))

  value_tells : (i : ℕ) (f : Interface) (g : GoodAt i f) → ((w : ValueEntry) → IsOneOf w (imported_values g.judged.verdict.core.interfaces) → Tells w) → (v : ValueEntry) → HasScheme g.judged.verdict.core g.judged.verdict.given v.entity v.scheme → Tells v
  value_tells i f g below v (own top e) =
      let q = own_tells i f g v.entity top in
      let s : v.scheme ≡ q.0 = same_given v.scheme q.0 (sym e ∙ q.1.0) in
      record { general = subst (λ z. AreEquallyGeneral (scheme_of z) (closed (S (global v.entity)))) (sym s) q.1.1.0; canonical = subst IsCanonical (sym s) q.1.1.1 }
  value_tells i f g below v (other {r = r} n e s) =
      let q = first_of-is (λ w. w.entity) v.entity (imported_values g.judged.verdict.core.interfaces) r e in
      tells_as v r q.1 s (below r (one_of_contained (imported_values g.judged.verdict.core.interfaces) r q.0))

  -- each published value tells it
  pub published_tells : (i : ℕ) → i < length p.modules → (f : Interface) → status i ≡ Published f → (v : ValueEntry) → IsOneOf v f.values → Tells v
  published_tells = by_imports p law (λ i. (f : Interface) → status i ≡ Published f → (v : ValueEntry) → IsOneOf v f.values → Tells v) (λ i l below f e v o.
      let g = good_at i f l e in
      value_tells i f g
      (all_tell i f g (λ w k r q. let j = publisher status (imports_of p i) g.judged.interfaces g.judged.published k r in below j.0 j.1.0 k j.1.1 w q))
      v ((g.judged.verdict.interface.values v).0 (contained f.values v o)).1)

  -- What is assumed

  assumed_outer : (vs : List ValueEntry) → ((v : ValueEntry) → IsOneOf v vs → Tells v) → AreAtMostAsGeneral (assumed vs) (bind_all (variables (map without_scheme vs)) (λ x. closed (S x)) empty)
  assumed_outer [] tell x t h = h
  assumed_outer (v ∷ vs) tell x t (inl q) = inl (q.0, (tell v (inl refl)).general.0 t q.1)
  assumed_outer (v ∷ vs) tell x t (inr q) = inr (q.0, assumed_outer vs (λ w o. tell w (inr o)) x t q.1)

  outer_assumed : (vs : List ValueEntry) → ((v : ValueEntry) → IsOneOf v vs → Tells v) → AreAtMostAsGeneral (bind_all (variables (map without_scheme vs)) (λ x. closed (S x)) empty) (assumed vs)
  outer_assumed [] tell x t h = h
  outer_assumed (v ∷ vs) tell x t (inl q) = inl (q.0, (tell v (inl refl)).general.1 t q.1)
  outer_assumed (v ∷ vs) tell x t (inr q) = inr (q.0, outer_assumed vs (λ w o. tell w (inr o)) x t q.1)

  -- under interfaces that tell it, what a module assumes is equally general as what the set assumes
  pub alike_assumptions : (i : ℕ) (fs : List Interface) (c : ModuleCore) → c.interfaces ≡ (prelude_interface ∷ fs) → ((k : Interface) → IsOneOf k fs → (w : ValueEntry) → IsOneOf w k.values → Tells w) →
      (t : TypingModule) → t.scope ≡ variables (imported_values (with_prelude (map skeleton fs))) → AssumeAlike (assumptions c) (outer t S)
  alike_assumptions i fs c e tell t s =
      let all = imported_values (prelude_interface ∷ fs) in
      let a : assumed all ≡ assumptions c = ap (λ z. assumed (imported_values z)) (sym e) in
      let b : bind_all (variables (map without_scheme all)) (λ x. closed (S x)) empty ≡ outer t S = ap (λ z. bind_all z (λ x. closed (S x)) empty) (ap variables (sym (values_of_skeletons (prelude_interface ∷ fs))) ∙ sym s) in
      subst₂ (λ y z. AssumeAlike y z) a b (assumed_outer all each, outer_assumed all each)
    where
      at : (w : ValueEntry) (k : Interface) → IsOneOf k (prelude_interface ∷ fs) → IsOneOf w k.values → Tells w
      at w k (inl e) q = prelude_tells w (subst (λ z. IsOneOf w z.values) e q)
      at w k (inr r) q = tell k r w q

      each : (w : ValueEntry) → IsOneOf w (imported_values (prelude_interface ∷ fs)) → Tells w
      each w o = let k = value_among w (prelude_interface ∷ fs) o in at w k.0 k.1.0 k.1.1

  pub interfaces_tell : (i : ℕ) → i < length p.modules → (fs : List Interface) → Rattle.hm_verdicts.specs.Verdicts.ArePublished status (imports_of p i) fs → (k : Interface) → IsOneOf k fs → (w : ValueEntry) → IsOneOf w k.values → Tells w
  interfaces_tell i l fs h k r w q = let j = publisher status (imports_of p i) fs h k r in published_tells j.0 (import_in p law i j.0 l j.1.0) k j.1.1 w q

  -- the schemes of a good module are principal under it
  pub principal_at : (i : ℕ) (f : Interface) → GoodAt i f → HasPrincipalSchemes (outer (reading.set i) S) (reading.set i).bindings (λ x. closed (S x))
  principal_at i f g =
      let c = g.judged.verdict.core in
      let B = g.judged.verdict.principal.schemes in
      let A = outer (reading.set i) S in
      let a : AssumeAlike (assumptions c) A = alike_assumptions i g.judged.interfaces c g.judged.verdict.is_core.interfaces (interfaces_tell i g.inside g.judged.interfaces g.judged.published) (reading.set i) g.scope in
      let q : HasPrincipalSchemes A (syntax_of c) B = still_principal (assumptions c) A (assumes_closed c) (outer_closed (reading.set i) S) a (syntax_of c) B g.judged.verdict.principal.principal in
      principal_agree A (reading.set i).bindings B (λ x. closed (S x)) (own_bound i f g) (subst (λ ds. HasPrincipalSchemes A ds B) (sym g.bindings) q)
