-- relations between nodes
use Rattle.std.proofs.Common.{ℕ, ◌<◌, [], length, inl, inr}
use Rattle.std.proofs.lemmas.Bool.{cases_lt}
use Rattle.std.proofs.lemmas.List.{get_or_past}
use Rattle.hm_graph_components.specs.Closure.{Closure, one, more}
use Rattle.hm_graph_components.specs.Digraph.{Graph, Reaches}
use Rattle.hm_graph_components.proofs.Members.{Contains-nil}

-- a relation that holds wherever another does has its closure
pub Closure-map : {R S : ℕ → ℕ → Type 0} {a b : ℕ} → ((x y : ℕ) → R x y → S x y) → Closure R a b → Closure S a b
Closure-map f (one r) = one (f _ _ r)
Closure-map f (more p r) = more (Closure-map f p) (f _ _ r)

-- what reaches has an edge, so it is a node
pub Reaches-within : (graph : Graph) (a b : ℕ) → Reaches graph a b → a < length graph
Reaches-within graph a b (one edge) =
    elim (cases_lt a (length graph)) [ inl less ↦ less | inr past ↦ absurd (Contains-nil b (rw (get_or_past graph a [] past) at edge)) ]
Reaches-within graph a b (more {b = c} p edge) = Reaches-within graph a c p
