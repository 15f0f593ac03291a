-- The marks of the sources that are left out.
use Rattle.std.proofs.Common.{◌≡◌, ℕ, ◌+◌, ◌<◌, ◌≤◌, Bool, true, List, [], length, get_or, take, Contains, ◌⊎◌, ◌↔◌, inl, inr, refl, ap, sym, ◌∙◌, subst, arith, Vec, Global}
use Rattle.std.proofs.lemmas.Bool.{cases_lt, cases_eq}
use Rattle.std.proofs.lemmas.List.{get_or_default, get_or_past, length-map}
use Rattle.hm_graph_components.proofs.Rows.{row_at}
use Rattle.hm_graph_components.proofs.Members.{Contains-nil, Contains-take_cases, Contains-take_old, Contains-take_new}
use Rattle.hm_graph_components.specs.Closure.{Closure, one, more}
use Rattle.hm_graph_components.specs.Digraph.{AddsEdge, Edge, Graph, Reaches, lists}
use Rattle.hm_graph_components.specs.Marks.{IsClosed, IsMarked}
use Rattle.hm_graph_components.proofs.Graphs.{Closure-map}
use Rattle.hm_graph.specs.Imports.{IsMissing, IsTaken, IsTooMany, Modules, imports_at, name_at}
use Rattle.hm_graph.specs.Outline.{outline}
use Rattle.hm_run_sources.specs.declared.located.Located.{Located}
use Rattle.hm_service_sources.specs.LeftOut.{ImportsFirst, IsInTheWay, IsLeftOut, by_import, cycle, missing, own, taken, too_many, outlines_of, source_at}
use Rattle.hm_service_sources.specs.Steps.{AddsRow, AreEdgesBelow, AreImportRows, AreOwnMarks, AreSourceEdges, AreWayMarks}

-- The graph of the modules

pub rows_closed : (modules : Modules) (n : ℕ) (rows : Graph) → n ≡ length modules → AreImportRows modules n rows → IsClosed rows
rows_closed modules n rows size are x y edge = elim (cases_lt x n) [
  | inl inside ↦ let h = (are.each x y inside).0 edge in let below = h.0.0 in omega (arith, below, size, are.as_many)
  | inr past ↦ absurd (Contains-nil y (rw (get_or_past rows x [] (omega (arith, past, are.as_many))) at edge))
]

module _ (modules : Modules) (n : ℕ) (rows : Graph) (size : n ≡ length modules) (are : AreImportRows modules n rows) where
  edge_forth : (x y : ℕ) → Edge rows x y → ImportsFirst modules x y
  edge_forth x y e = elim (cases_lt x n) [
    | inl inside ↦ (are.each x y inside).0 e
    | inr past ↦ absurd (Contains-nil y (rw (get_or_past rows x [] (omega (arith, past, are.as_many))) at e))
  ]

  no_imports : (x : ℕ) → n ≤ x → imports_at modules x ≡ []
  no_imports x past = ap (λ o. o.imports) (get_or_past modules x (record { name = []; imports = [] }) (omega (arith, past, size)))

  edge_back : (x y : ℕ) → ImportsFirst modules x y → Edge rows x y
  edge_back x y h = elim (cases_lt x n) [
    | inl inside ↦ (are.each x y inside).1 h
    | inr past ↦ absurd (Contains-nil (name_at modules y) (subst (λ (names : List (List ℕ)). Contains names (name_at modules y)) (no_imports x past) h.0.1))
  ]

  pub recursive_is : (marks : List Bool) (m : ℕ) → IsMarked marks m ↔ Reaches rows m m → IsMarked marks m ↔ Closure (ImportsFirst modules) m m
  recursive_is marks m e = (λ h. Closure-map edge_forth (e.0 h), λ c. e.1 (Closure-map edge_back c))

-- whether a module is in the way, if an import of it that names nothing is all that may be wrong with it
pub way_rest : (modules : Modules) (m : ℕ) (found : Bool) → ¬ (IsTooMany modules) → ¬ (Closure (ImportsFirst modules) m m) → ¬ (IsTaken modules m) → (found ≡ true → (i : ℕ) × IsMissing modules m i) → ((i : ℕ) → IsMissing modules m i → found ≡ true) → (found ≡ true) ↔ IsInTheWay modules m
way_rest modules m found few straight free some all = (λ h. missing (some h).1, back)
  where
    back : IsInTheWay modules m → found ≡ true
    back (taken t) = absurd (free t)
    back (missing {i = i} h) = all i h
    back (cycle c) = absurd (straight c)
    back (too_many t) = absurd (few t)

-- The graph of the sources

pub adds_begin : (located : List Located) (number : ℕ) (graph : Graph) → AddsRow located [] number graph graph
adds_begin located number graph = record {
  nodes = refl;
  edges = λ t s. (λ e. inl e, λ h. elim h [ inl e ↦ e | inr w ↦ absurd (Contains-nil w.0 w.1.0) ]);
}

pub adds_more : (located : List Located) (row : List ℕ) (number i k : ℕ) (old mid new : Graph) (from to : ℕ) → i < length row → k ≡ get_or row i 0 → source_at located k ≡ from → source_at located number ≡ to → AddsRow located (take i row) number old mid → AddsEdge mid new from to → AddsRow located (take (i + 1) row) number old new
adds_more located row number i k old mid new from to below is of_k of_number so_far add = record {
  nodes = add.nodes ∙ so_far.nodes;
  edges = λ t s. (
    λ e. elim ((add.edges t s).0 e) [
      | inl before ↦ elim ((so_far.edges t s).0 before) [ inl o ↦ inl o | inr h ↦ inr (h.0, (Contains-take_old row i 0 h.0 below h.1.0, h.1.1)) ]
      | inr both ↦ inr (k, (Contains-take_new row i 0 k below is, (of_k ∙ sym both.0, of_number ∙ sym both.1)))
    ],
    λ h. elim h [
      | inl o ↦ (add.edges t s).1 (inl ((so_far.edges t s).1 (inl o)))
      | inr w ↦ elim (Contains-take_cases row i 0 w.0 below w.1.0) [
        | inl before ↦ (add.edges t s).1 (inl ((so_far.edges t s).1 (inr (w.0, (before, w.1.1)))))
        | inr same ↦ (add.edges t s).1 (inr (sym w.1.1.0 ∙ (ap (λ x. source_at located x) (same ∙ sym is) ∙ of_k), sym w.1.1.1 ∙ of_number))
      ]
    ],
  );
}

pub edges_begin : (located : List Located) (sources : ℕ) (graph : Graph) → length graph ≡ sources → ((x y : ℕ) → ¬ (Edge graph x y)) → AreEdgesBelow located sources 0 graph
edges_begin located sources graph size none = record {
  nodes = size;
  edges = λ t s. (λ e. absurd (none t s e), λ h. let below = h.1.1.0 in absurd (omega (arith, below)));
}

pub edges_more : (located : List Located) (sources n : ℕ) (row : List ℕ) (old new : Graph) → ((k : ℕ) → Contains row k ↔ ImportsFirst (outlines_of located) n k) → AreEdgesBelow located sources n old → AddsRow located row n old new → AreEdgesBelow located sources (n + 1) new
edges_more located sources n row old new here so_far adds = record {
  nodes = adds.nodes ∙ so_far.nodes;
  edges = λ t s. (
    λ e. elim ((adds.edges t s).0 e) [
      | inl before ↦ let h = (so_far.edges t s).0 before in let below = h.1.1.0 in (h.0, (h.1.0, (omega (arith, below), h.1.1.1)))
      | inr h ↦ (n, (h.0, (omega arith, ((here h.0).0 h.1.0, h.1.1))))
    ],
    λ h. elim (cases_eq h.0 n) [
      | inl same ↦ (adds.edges t s).1 (inr (h.1.0, ((here h.1.0).1 (subst (λ a. ImportsFirst (outlines_of located) a h.1.0) same h.1.1.1.0), (h.1.1.1.1.0, subst (λ a. source_at located a ≡ s) same h.1.1.1.1.1))))
      | inr apart ↦ let below = h.1.1.0 in (adds.edges t s).1 (inl ((so_far.edges t s).1 (h.0, (h.1.0, (omega (arith, below, apart), h.1.1.1)))))
    ],
  );
}

-- The marks

module _ (located : List Located) (ways marks : List Bool) (sources : ℕ) (graph : Graph) (w : AreWayMarks (outlines_of located) (length located) ways) (o : AreOwnMarks located ways sources marks) (g : AreSourceEdges located sources graph) where
  edge_out : (t s : ℕ) → Edge graph t s → IsLeftOut located t → IsLeftOut located s
  edge_out t s e out = let h = (g.edges t s).0 e in by_import h.1.1.0 h.1.1.1.1.1 h.1.1.1.0 (subst (IsLeftOut located) (sym h.1.1.1.1.0) out)

  own_out : (s : ℕ) → IsMarked marks s → IsLeftOut located s
  own_out s mark = let h = (o.each s).0 mark in own h.1.0 h.1.1.0 ((w.each h.0 h.1.0).0 h.1.1.1)

  path_out : {j k : ℕ} → IsLeftOut located j → Reaches graph j k → IsLeftOut located k
  path_out out (one e) = edge_out _ _ e out
  path_out out (more p e) = edge_out _ _ e (path_out out p)

  out_marked : {s : ℕ} → IsLeftOut located s → IsMarked marks s ⊎ ((j : ℕ) × (IsMarked marks j × Reaches graph j s))
  out_marked (own {s = s} {m = m} below at way) = inl ((o.each s).1 (m, (below, (at, (w.each m below).1 way))))
  out_marked (by_import {s = s} {a = a} {b = b} below at imports out) =
      let e : Edge graph (source_at located b) s = (g.edges (source_at located b) s).1 (a, (b, (below, (imports, (refl, at))))) in
      elim (out_marked out) [ inl here ↦ inr (source_at located b, (here, one e)) | inr h ↦ inr (h.0, (h.1.0, more h.1.1 e)) ]

  pub marks_are : (new : List Bool) → ((k : ℕ) → IsMarked new k ↔ (IsMarked marks k ⊎ ((j : ℕ) × (IsMarked marks j × Reaches graph j k)))) → (s : ℕ) → IsMarked new s ↔ IsLeftOut located s
  marks_are new spread s = (
    λ mark. elim ((spread s).0 mark) [ inl here ↦ own_out s here | inr h ↦ path_out (own_out h.0 h.1.0) h.1.1 ],
    λ out. (spread s).1 (out_marked out),
  )

-- the row of a module, as the code reads it
pub row_is : (located : List Located) (rows : List (Vec ℕ Global)) (n : ℕ) (row : Vec ℕ Global) (slice : List ℕ) → AreImportRows (outlines_of located) (length located) (lists rows) → n < length located → row ≡ get_or rows n row → slice ≡ row.items → (k : ℕ) → Contains slice k ↔ ImportsFirst (outlines_of located) n k
row_is located rows n row slice are below is same k =
    let inside : n < length rows = omega (arith, below, are.as_many, length-map rows (λ (r : Vec ℕ Global). r.items)) in
    let here : get_or (lists rows) n [] ≡ slice = row_at rows n row inside is ∙ sym same in
    subst (λ (l : List ℕ). Contains l k ↔ ImportsFirst (outlines_of located) n k) here (are.each n k below)

pub row_within : (located : List Located) (n : ℕ) (slice : List ℕ) → ((k : ℕ) → Contains slice k ↔ ImportsFirst (outlines_of located) n k) → (k d : ℕ) → k < length slice → get_or slice k d < length located
row_within located n slice are k d inside =
    let there : Contains slice (get_or slice k d) = (k, inside, get_or_default slice k (get_or slice k d) d inside) in
    let below = ((are (get_or slice k d)).0 there).0.0 in
    omega (arith, below, length-map located (λ (l : Located). outline l.header))
