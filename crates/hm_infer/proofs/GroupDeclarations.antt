-- Each group of a list has a declaration.
use Rattle.std.proofs.Common.{◌≡◌, ℕ, zero, suc, ◌<◌, Bool, true, false, cond, List, [], ◌∷◌, ◌++◌, map, drop, length, Option, Some, None, inl, inr, ◌⊎◌, ⊎_elim, refl, sym, ap, ◌∙◌, subst, subst₂, arith}
use Rattle.std.specs.List.{slice_get}
use Rattle.std.proofs.lemmas.Option.{slice_get_within}
use Rattle.hm_typing.specs.Names.{Identifier as Name, binding, IsOneOf}
use Rattle.hm_typing.specs.Schemes.{Monotype}
use Rattle.hm_typing.specs.Syntax as typed
use Rattle.hm_typing.specs.Orders.{AreNumberedGroups}
use Rattle.hm_typing.proofs.Bridge.{unsigned_name}
use Rattle.hm_typing.proofs.FaultLists.{same_own}
use Rattle.hm_typing.proofs.Judge.{opposite}
use Rattle.hm_typing.proofs.Matching.{together}
use Rattle.hm_syntax.specs.Names.{Identifier}
use Rattle.hm_syntax.specs.Trees.{Declaration, data_declaration, newtype_declaration, synonym_declaration, signature, clause, pattern_binding, Declarations}
use Rattle.hm_syntax.specs.Lists.{declarations}
use Rattle.hm_names.specs.Cores.{IsSomeCore, known}
use Rattle.hm_names.specs.ModuleCores.{ModuleCore}
use Rattle.hm_names.specs.Syntax.{Known, name_of, bindings_of, is_continued, add_clause, bound_by}
use Rattle.hm_names.specs.Variables.{pattern_variables}
use Rattle.hm_infer_dependencies.specs.Groups.{node_name}
use Rattle.hm_infer_dependencies.specs.Nodes.{owner}
use Rattle.hm_names_keys.specs.Variables.{Variable}
use Rattle.hm_infer_dependencies.proofs.Reached.{names_long}
use Rattle.hm_infer_context.specs.Environments.{Assumed, AreAssumed}
use Rattle.hm_infer.specs.JudgedUnits.{UnitsJudged}
use Rattle.hm_infer_expressions.specs.Stages.{IsListFound, list_of}
use Rattle.hm_infer.specs.UnitStarts.{HasMember}
use Rattle.hm_infer.proofs.FirstTold.{AreByText, IsAside, core_by_text, names-add_clause, names-bound_by, names_of_pattern, own_number}
use Rattle.hm_infer.proofs.GroupFirst.{is_aside}
use Rattle.hm_infer.proofs.UnitFaults.{last_next, tests}
use Rattle.hm_infer_results.proofs.FaultyGroups.{is_in}

-- Where no declaration begins a binding of the unit, no name of the list is of it

run_names : (b : Bool) (f : typed.Clauses → typed.Clauses) (x z : Name) (s : Option Monotype) (cs : typed.Clauses) (bs : typed.Bindings) → IsOneOf z (typed.names (cond b (add_clause f bs) (bound_by x s cs bs))) → (z ≡ x) ⊎ IsOneOf z (typed.names bs)
run_names true f x z s cs bs o = inr (subst (IsOneOf z) (names-add_clause f bs) o)
run_names false f x z s cs bs o = subst (IsOneOf z) (names-bound_by x s cs bs) o

module _ (c : ModuleCore) (k : Known) (home : k.home ≡ c.name) (all : Declarations) (text : List ℕ → Name) (U : Name → Bool) where
  not_of : (ns : List Identifier) (b : Name) (ys : List Name) (z : Name) → ((n : Identifier) → IsOneOf n ns → U (name_of n) ≡ false) → U b ≡ false → U z ≡ true → IsOneOf z ((map name_of ns ++ (b ∷ [])) ++ ys) → IsOneOf z ys
  not_of [] b ys z f g u (inl e) = absurd (opposite u (subst (λ w. U w ≡ false) (sym e) g))
  not_of [] b ys z f g u (inr o) = o
  not_of (v ∷ vs) b ys z f g u (inl e) = absurd (opposite u (subst (λ w. U w ≡ false) (sym e) (f v (inl refl))))
  not_of (v ∷ vs) b ys z f g u (inr o) = not_of vs b ys z (λ n i. f n (inr i)) g u o

  none_aside : (ds : List Declaration) → ((j : ℕ) (e : Declaration) → slice_get ds j ≡ Some e → IsAside c k home all text U e (length (drop (suc j) ds))) → (z : Name) → U z ≡ true → ¬ (IsOneOf z (typed.names (bindings_of k all (declarations ds))))
  none_aside [] f z u o = o
  none_aside (data_declaration n ps cs ∷ ds) f z u o = none_aside ds (λ j e g. f (suc j) e g) z u o
  none_aside (newtype_declaration n ps b ∷ ds) f z u o = none_aside ds (λ j e g. f (suc j) e g) z u o
  none_aside (synonym_declaration n ps b ∷ ds) f z u o = none_aside ds (λ j e g. f (suc j) e g) z u o
  none_aside (signature ns b ∷ ds) f z u o = none_aside ds (λ j e g. f (suc j) e g) z u o
  none_aside (clause n ps r ∷ ds) f z u o = ⊎_elim
      (λ e. opposite u (subst (λ w. U w ≡ false) (sym e) (f zero (clause n ps r) refl)))
      (λ p. none_aside ds (λ j e g. f (suc j) e g) z u p)
      (run_names (is_continued n.text ps (declarations ds)) _ (name_of n) z _ _ (bindings_of k all (declarations ds)) o)
  none_aside (pattern_binding line column p r ∷ ds) f z u o =
      let a = f zero (pattern_binding line column p r) refl in
      none_aside ds (λ j e g. f (suc j) e g) z u
      (not_of (pattern_variables p) (binding c.name (length ds)) (typed.names (bindings_of k all (declarations ds))) z a.0 a.1 u
      (subst₂ (λ zs b. IsOneOf z ((zs ++ (b ∷ [])) ++ typed.names (bindings_of k all (declarations ds)))) (names_of_pattern k p) (own_number c k home all text U ds) o))

-- A declaration of a group is found, or there is none

module _ (group : List ℕ) where
  of_group : (w : Option ℕ) → ((o : ℕ) × ((w ≡ Some o) × IsOneOf o group)) ⊎ ((o : ℕ) → w ≡ Some o → ¬ (IsOneOf o group))
  of_group None = inr (λ o e i. none o e)
    where
      none : (o : ℕ) → None ≡ Some o → ⊥
      none o e = cc
  of_group (Some q) = at (is_in q group)
    where
      one : (o : ℕ) → Some q ≡ Some o → q ≡ o
      one o e = cc

      at : Dec (IsOneOf q group) → ((o : ℕ) × ((Some q ≡ Some o) × IsOneOf o group)) ⊎ ((o : ℕ) → Some q ≡ Some o → ¬ (IsOneOf o group))
      at (yes i) = inl (q, (refl, i))
      at (no n) = inr (λ o e i. n (subst (λ z. IsOneOf z group) (sym (one o e)) i))

  owned_below : (f : ℕ → Option ℕ) (n : ℕ) → ((p : ℕ) × ((p < n) × ((o : ℕ) × ((f p ≡ Some o) × IsOneOf o group)))) ⊎ ((p : ℕ) → p < n → (o : ℕ) → f p ≡ Some o → ¬ (IsOneOf o group))
  owned_below f zero = inr (λ p l. absurd (omega (arith, l)))
  owned_below f (suc n) = at (of_group (f zero)) (owned_below (λ p. f (suc p)) n)
    where
      at : ((o : ℕ) × ((f zero ≡ Some o) × IsOneOf o group)) ⊎ ((o : ℕ) → f zero ≡ Some o → ¬ (IsOneOf o group)) → ((p : ℕ) × ((p < n) × ((o : ℕ) × ((f (suc p) ≡ Some o) × IsOneOf o group)))) ⊎ ((p : ℕ) → p < n → (o : ℕ) → f (suc p) ≡ Some o → ¬ (IsOneOf o group)) →
          ((p : ℕ) × ((p < suc n) × ((o : ℕ) × ((f p ≡ Some o) × IsOneOf o group)))) ⊎ ((p : ℕ) → p < suc n → (o : ℕ) → f p ≡ Some o → ¬ (IsOneOf o group))
      at (inl h) g = inl (zero, (omega arith, h))
      at (inr h) (inl g) = inl (suc g.0, (let l = g.1.0 in omega (arith, l), g.1.1))
      at (inr h) (inr g) = inr each
        where
          each : (p : ℕ) → p < suc n → (o : ℕ) → f p ≡ Some o → ¬ (IsOneOf o group)
          each zero l = h
          each (suc p) l = g p (omega (arith, l))

module _ (c : ModuleCore) (s : IsSomeCore c) (nodes : List (Option Variable)) (rows : List (List ℕ)) (found : IsListFound (known c) c.decls nodes rows) (gs : List (List ℕ)) (groups : AreNumberedGroups (list_of (known c) c.decls) (node_name (known c) (declarations c.decls)) (length nodes) gs)
    (base es : List Assumed) (closed : AreAssumed 0 base) (table : List Bool) (u : UnitsJudged (known c) c.decls gs (length nodes) (length gs) base es table) (group : List ℕ) (one : IsOneOf group gs) (numbers : (j : ℕ) → IsOneOf j group → j < length nodes) (j : ℕ) (member : IsOneOf j group) where
  texts : (own : List ℕ → Name) × AreByText own c.decls
  texts = core_by_text c s

  aside : ((p : ℕ) → p < length c.decls → (o : ℕ) → owner (declarations c.decls) (declarations (drop p c.decls)) ≡ Some o → ¬ (IsOneOf o group)) → (p : ℕ) (d : Declaration) → slice_get c.decls p ≡ Some d →
      IsAside c (known c) refl (declarations c.decls) texts.0 (u.layout.own (node_name (known c) (declarations c.decls) j)) d (length (drop (suc p) c.decls))
  aside f p d e = is_aside c (known c) refl c.decls texts.0 texts.1 u.layout.units.0 u.layout.own (together (list_of (known c) c.decls) u.layout.own u.layout.units) (length nodes) (ap length found.nodes_are ∙ names_long (known c) (declarations c.decls) (declarations c.decls)) found.apart
      group numbers (u.layout.own (node_name (known c) (declarations c.decls) j)) (tests (known c) c.decls nodes rows found gs groups base es closed table u group one numbers j member) (last_next (list_of (known c) c.decls) u.layout (node_name (known c) (declarations c.decls) j)).whole groups.unsigned_names
      p d e (f p (slice_get_within c.decls p d e))

  pub has_member : HasMember rows group
  has_member = ⊎_elim
      (λ h. (record { place = h.0; node = h.1.1.0 }, (h.1.1.1.1, (found.rows_are.each h.1.1.0 h.0).1 (h.1.0, h.1.1.1.0))))
      (λ f. absurd (none_aside c (known c) refl (declarations c.decls) texts.0 (u.layout.own (node_name (known c) (declarations c.decls) j)) c.decls (aside f) (node_name (known c) (declarations c.decls) j)
      (same_own (list_of (known c) c.decls) u.layout.own u.layout.units (node_name (known c) (declarations c.decls) j) (node_name (known c) (declarations c.decls) j) (groups.unsigned_names j (numbers j member)) (inl refl))
      (unsigned_name (list_of (known c) c.decls) (node_name (known c) (declarations c.decls) j) (groups.unsigned_names j (numbers j member)))))
      (owned_below group (λ p. owner (declarations c.decls) (declarations (drop p c.decls))) (length c.decls))
