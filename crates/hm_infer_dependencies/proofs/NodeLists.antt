-- Nodes of a list, from its end.
use Rattle.std.proofs.Common.{◌≡◌, ℕ, ◌+◌, ◌-◌, ◌<◌, ◌≤◌, List, [], ◌∷◌, ◌++◌, take, drop, length, get_or, Option, sym, ap, ◌∙◌, arith}
use Rattle.hm_syntax.specs.Trees.{Declaration, Declarations}
use Rattle.hm_syntax.specs.Lists.{declarations}
use Rattle.hm_names_keys.specs.Variables.{Variable}
use Rattle.hm_infer_dependencies.specs.Nodes.{new_nodes, list_nodes, owner, owner_of, owners}
use Rattle.hm_infer_dependencies.proofs.Rows.{unrolled, take_rest}

-- the declaration at a place and those behind it
pub record IsStep (decls : List Declaration) (behind : ℕ) (d : Declaration) (rest : List Declaration) : Type 0 where
  pub here : drop (length decls - (behind + 1)) decls ≡ d ∷ drop (length decls - behind) decls
  pub behind_it : rest ≡ drop (length decls - behind) decls

pub is_step : (decls : List Declaration) (behind : ℕ) (d : Declaration) (rest : List Declaration) → behind < length decls → d ≡ get_or decls (length decls - 1 - behind) d →
    rest ≡ take (length decls - (length decls - 1 - behind + 1)) (drop (length decls - 1 - behind + 1) decls) → IsStep decls behind d rest
is_step decls behind d rest l e f =
    let p : length decls - (behind + 1) ≡ length decls - 1 - behind = omega arith in
    let q : length decls - 1 - behind + 1 ≡ length decls - behind = omega arith in
    let b : length decls - 1 - behind < length decls = omega arith in record {
      here = ap (λ i. drop i decls) p ∙ (unrolled decls (length decls - 1 - behind) d b e ∙ ap (λ i. d ∷ drop i decls) q);
      behind_it = f ∙ (take_rest decls (length decls - 1 - behind + 1) ∙ ap (λ i. drop i decls) q);
    }

pub nodes_step : (all : Declarations) (decls : List Declaration) (behind : ℕ) (d : Declaration) (rest : List Declaration) (old new : List (Option Variable)) → IsStep decls behind d rest →
    new ≡ old ++ new_nodes all d (declarations rest) → old ≡ list_nodes all (declarations (drop (length decls - behind) decls)) → new ≡ list_nodes all (declarations (drop (length decls - (behind + 1)) decls))
nodes_step all decls behind d rest old new s e f =
    e ∙ (ap (λ r. old ++ new_nodes all d (declarations r)) s.behind_it ∙ (ap (λ ns. ns ++ new_nodes all d (declarations (drop (length decls - behind) decls))) f ∙ sym (ap (λ ds. list_nodes all (declarations ds)) s.here)))

pub owner_step : (all : Declarations) (decls : List Declaration) (behind : ℕ) (d : Declaration) (rest : List Declaration) (o o' : Option ℕ) → IsStep decls behind d rest →
    o' ≡ owner_of all d (declarations rest) o → o ≡ owner all (declarations (drop (length decls - behind) decls)) → o' ≡ owner all (declarations (drop (length decls - (behind + 1)) decls))
owner_step all decls behind d rest o o' s e f =
    e ∙ (ap (λ r. owner_of all d (declarations r) o) s.behind_it ∙ (ap (owner_of all d (declarations (drop (length decls - behind) decls))) f ∙ sym (ap (λ ds. owner all (declarations ds)) s.here)))

pub old_nodes : (all : Declarations) (decls : List Declaration) (behind : ℕ) (d : Declaration) (rest : List Declaration) (old : List (Option Variable)) → IsStep decls behind d rest →
    old ≡ list_nodes all (declarations (drop (length decls - behind) decls)) → old ≡ list_nodes all (declarations rest)
old_nodes all decls behind d rest old s e = e ∙ ap (λ r. list_nodes all (declarations r)) (sym s.behind_it)

pub owners_step : (all : Declarations) (decls : List Declaration) (behind : ℕ) (d : Declaration) (rest : List Declaration) (o : Option ℕ) (os os' : List (Option ℕ)) → IsStep decls behind d rest →
    os' ≡ os ++ o ∷ [] → os ≡ owners all (declarations (drop (length decls - behind) decls)) → o ≡ owner all (declarations (drop (length decls - (behind + 1)) decls)) → os' ≡ owners all (declarations (drop (length decls - (behind + 1)) decls))
owners_step all decls behind d rest o os os' s e f g =
    e ∙ (ap (λ z. z ++ o ∷ []) f ∙ (ap (λ z. owners all (declarations (drop (length decls - behind) decls)) ++ z ∷ []) (g ∙ ap (λ ds. owner all (declarations ds)) s.here) ∙ sym (ap (λ ds. owners all (declarations ds)) s.here)))

pub none_left : (decls : List Declaration) (behind : ℕ) → length decls ≤ behind → drop (length decls - behind) decls ≡ decls
none_left decls behind l = let z : length decls - behind ≡ 0 = omega arith in ap (λ i. drop i decls) z
