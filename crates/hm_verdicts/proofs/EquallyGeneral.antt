-- Closed assumptions that are equally general type the same lists by the same schemes, and have the same faults.
use Rattle.std.proofs.Common.{◌≡◌, List, [], ◌∷◌, sym, ◌∙◌, subst}
use Rattle.hm_types.specs.Types.{Var, put}
use Rattle.hm_typing.specs.Assumptions.{Assumptions, IsClosed, AreAtMostAsGeneral}
use Rattle.hm_typing.specs.BindingLists.{HasSchemes, HasPrincipalSchemes}
use Rattle.hm_typing.specs.Generalisation.{quantify}
use Rattle.hm_typing.specs.Names.{Identifier, IsDistinct}
use Rattle.hm_typing.specs.Schemes.{Monotype, Scheme}
use Rattle.hm_typing.specs.Syntax.{Bindings, no_binding, unsigned, signed, matched, Clauses, names}
use Rattle.hm_typing.specs.Typing.{HasClauses, HasBindings}
use Rattle.hm_typing.specs.Units.{seen}
use Rattle.hm_typing.specs.Verdicts.{Faulty as faulty_list, IsVerdict as IsListVerdict}
use Rattle.hm_typing.proofs.Bridge.{more-all, HasClauses-Derives, DeriveClauses-Has}
use Rattle.hm_typing.proofs.FaultLists.{faults_under}
use Rattle.hm_typing.proofs.ModuleSets.{quantify_closed}
use Rattle.hm_typing.proofs.Ordering.{layout}
use Rattle.hm_verdicts.specs.ModuleVerdicts.{AreEquallyGeneral}

-- each name has under the one what it has under the other
abbrev pub AssumeAlike : Assumptions → Assumptions → Type 0
AssumeAlike A A' = AreAtMostAsGeneral A A' × AreAtMostAsGeneral A' A

pub equally : (s t : Scheme) → s ≡ t → AreEquallyGeneral s t
equally s t e = subst (λ z. AreEquallyGeneral s z) e ((λ u i. i), (λ u i. i))

clauses_under : (cs : Clauses) (A A' : Assumptions) (v : Monotype) → AreAtMostAsGeneral A A' → HasClauses A cs v → HasClauses A' cs v
clauses_under cs A A' v m h = HasClauses-Derives cs A A' v m (DeriveClauses-Has cs A v h)

-- all variables are quantified under either
quantify_under : (A A' : Assumptions) → IsClosed A → IsClosed A' → (t : Monotype) → quantify A t ≡ quantify A' t
quantify_under A A' shut shut' t = quantify_closed A shut t ∙ sym (quantify_closed A' shut' t)

module _ (A A' : Assumptions) (shut : IsClosed A) (shut' : IsClosed A') where
  bindings_under : (sees sees' : Identifier → Assumptions) (ts : Identifier → Monotype) (B : Identifier → Scheme) (D : Bindings) → ((x : Identifier) → AreAtMostAsGeneral (sees x) (sees' x)) → HasBindings A sees ts B D → HasBindings A' sees' ts B D
  bindings_under sees sees' ts B no_binding m h = tt
  bindings_under sees sees' ts B (unsigned x cs D) m h = (
    (h.0.0 ∙ quantify_under A A' shut shut' (ts x), clauses_under cs (sees x) (sees' x) (ts x) (m x) h.0.1),
    bindings_under sees sees' ts B D m h.1,
  )
  bindings_under sees sees' ts B (signed x s cs D) m h = (
    (
      h.0.0,
      record {
        variables = h.0.1.variables;
        are_new = record { distinct = h.0.1.are_new.distinct; new = λ i o f. shut' (h.0.1.variables i) f };
        typed = clauses_under cs (sees x) (sees' x) (put (λ i. Var (h.0.1.variables i)) s) (m x) h.0.1.typed;
      },
    ),
    bindings_under sees sees' ts B D m h.1,
  )
  bindings_under sees sees' ts B (matched k p cs D) m h = (
    record {
      fits = h.0.fits;
      right_sides = clauses_under cs (sees k) (sees' k) (ts k) (m k) h.0.right_sides;
      quantified = λ x o. h.0.quantified x o ∙ quantify_under A A' shut shut' (ts x);
    },
    bindings_under sees sees' ts B D m h.1,
  )

  -- more general assumptions type the list by the same schemes
  pub schemes_under : AreAtMostAsGeneral A A' → (ds : Bindings) (B : Identifier → Scheme) → HasSchemes A ds B → HasSchemes A' ds B
  schemes_under m ds B l = record {
    own = l.own;
    units = l.units;
    types = l.types;
    bindings = bindings_under _ _ l.types B ds (λ x. more-all (names ds) (seen l.own l.types B x) (seen l.own l.types B x) A A' (λ y o t k. k) m) l.bindings;
  }

  -- and the same faults
  pub still_faulty : AssumeAlike A A' → (ds : Bindings) → IsDistinct (names ds) → (xs : List Identifier) → IsListVerdict A ds (faulty_list xs) → IsListVerdict A' ds (faulty_list xs)
  still_faulty m ds distinct [] f = f
  still_faulty m ds distinct (x ∷ xs) f = let order = layout ds distinct in faults_under ds order.own order.units A A' shut shut' m.0 m.1 (x ∷ xs) f

pub still_principal : (A A' : Assumptions) → IsClosed A → IsClosed A' → AssumeAlike A A' → (ds : Bindings) (B : Identifier → Scheme) → HasPrincipalSchemes A ds B → HasPrincipalSchemes A' ds B
still_principal A A' shut shut' m ds B p = record { typed = schemes_under A A' shut shut' m.0 ds B p.typed; most = λ C l. p.most C (schemes_under A' A shut' shut m.1 ds C l) }
