-- The units of a core's list that are faults.
use Rattle.std.proofs.Common.{◌≡◌, ℕ, ◌<◌, suc, All, Bool, List, [], ◌∷◌, length, get_or, Option, refl, sym, ap, subst, subst₂}
use Rattle.hm_typing.specs.Names.{IsOneOf}
use Rattle.hm_typing.specs.Orders.{AreNumberedGroups}
use Rattle.hm_typing.specs.Units.{IsUnsigned}
use Rattle.hm_syntax.specs.Trees.{Declaration}
use Rattle.hm_syntax.specs.Lists.{declarations}
use Rattle.hm_names.specs.Cores.{known, syntax_of}
use Rattle.hm_names.specs.Syntax.{Known}
use Rattle.hm_infer_dependencies.specs.Groups.{node_name}
use Rattle.hm_names_keys.specs.Variables.{Variable}
use Rattle.hm_infer_context.specs.Environments.{Assumed, AreAssumed, assumptions}
use Rattle.hm_infer.specs.JudgedUnits.{UnitsJudged}
use Rattle.hm_infer_expressions.specs.Stages.{IsListFound, list_of}
use Rattle.hm_infer_results.specs.UnitFaults.{AreGroupsTold}
use Rattle.hm_infer.specs.UnitStarts.{AreGroupStarts, AreStartsOfKind, HasMember, IsCoreList}
use Rattle.hm_infer.proofs.GroupDeclarations.{has_member}
use Rattle.hm_infer.proofs.KindStarts.{unsigned_kind}
use Rattle.hm_infer_results.proofs.FaultyGroups.{below_all, first_in}
use Rattle.hm_infer.proofs.UnitFaults.{plain_groups}

pub record ListJudged (nodes : List (Option Variable)) (rows gs : List (List ℕ)) (base es : List Assumed) (table : List Bool) (k : Known) (ds : List Declaration) : Type 0 where
  pub found : IsListFound k ds nodes rows
  pub groups : AreNumberedGroups (list_of k ds) (node_name k (declarations ds)) (length nodes) gs
  pub judged : UnitsJudged k ds gs (length nodes) (length gs) base es table

module _ (nodes : List (Option Variable)) (rows gs : List (List ℕ)) (base es : List Assumed) (closed : AreAssumed 0 base) (table : List Bool) (k : Known) (ds : List Declaration) (j : ListJudged nodes rows gs base es table k ds) where
  pub groups_below : (g : List ℕ) → IsOneOf g gs → All (λ i. i < length nodes) g
  groups_below g o = below_all (length nodes) g ((plain_groups k ds nodes rows j.found gs j.groups base es closed table j.judged).below g o)

  module _ (o : IsCoreList k ds) where
    at_core : ListJudged nodes rows gs base es table (known o.core) o.core.decls
    at_core = subst₂ (ListJudged nodes rows gs base es table) (sym o.known_is) (sym o.decls_are) j

    pub groups_declared : (g : List ℕ) → IsOneOf g gs → HasMember rows g
    groups_declared g i =
        let a = at_core in
        let p = plain_groups (known o.core) o.core.decls nodes rows a.found gs a.groups base es closed table a.judged in
        has_member o.core o.is_core nodes rows a.found gs a.groups base es closed table a.judged g i (p.below g i) (get_or g 0 0) (first_in g 0 (p.some g i))

    pub unsigned_list : (flags : List Bool) → AreGroupsTold ds nodes rows gs table flags → (starts : List ℕ) → AreGroupStarts rows gs flags (length gs) starts → AreStartsOfKind o.core (assumptions base) (λ x. IsUnsigned x (syntax_of o.core)) starts
    unsigned_list flags told starts a =
        let b = at_core in
        unsigned_kind o.core o.is_core nodes rows b.found gs b.groups base es closed table b.judged flags (subst (λ z. AreGroupsTold z nodes rows gs table flags) (sym o.decls_are) told) starts a

pub told_long : (ds : List Declaration) (nodes : List (Option Variable)) (rows gs : List (List ℕ)) (table flags : List Bool) → AreGroupsTold ds nodes rows gs table flags → length flags ≡ length gs
told_long ds nodes rows [] table [] h = refl
told_long ds nodes rows [] table (b ∷ flags) h = absurd h
told_long ds nodes rows (g ∷ gs) table [] h = absurd h
told_long ds nodes rows (g ∷ gs) table (b ∷ flags) h = ap suc (told_long ds nodes rows gs table flags h.1)
