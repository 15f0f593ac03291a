-- Going over a row: what is done at each element, and what is left.
use Rattle.std.proofs.Common.{◌≡◌, ℕ, ◌+◌, ◌<◌, ◌≤◌, List, [], ◌∷◌, ◌++◌, drop, length, map, get_or, refl, sym, ap, ◌∙◌, subst, arith, append_assoc, Option, None, Some}
use Rattle.std.proofs.Math.Seq.{drop-cons}
use Rattle.hm_syntax.specs.Trees.{TypeTree, Pattern, DataConstructor, Expression, Declaration, Alternative}
use Rattle.hm_syntax.specs.Lists.{types, patterns, constructors, expressions, declarations, alternatives, bodies}
use Rattle.hm_syntax.specs.Sizes.{type_size, types_size, pattern_size, patterns_size, expression_size, expressions_size, declaration_size, declarations_size, alternative_size, alternatives_size, bodies_size}
use Rattle.hm_names.specs.declared.faults.Fault.{Fault}
use Rattle.hm_names.specs.Resolved.{Resolver, type_with, types_with, pattern_with, patterns_with, constructor_with, constructors_with, expression_with, expressions_with, alternatives_with, Binders, bare, bodies_with, declaration_with, declarations_with}
use Rattle.hm_names.specs.Walk.{Locals}
use Rattle.hm_names.specs.Variables.{type_count, pattern_count}
use Rattle.hm_names.specs.Found.{Walking, Lookups, noting, locals_of, resolver_of, binder_of, alternative_with, part_with, parts_faults, bodies_faults, expression_faults, guard_size}

pub unrolled : {X : Type 0} (ts : List X) (i : ℕ) (d : X) → i < length ts → d ≡ get_or ts i d → drop i ts ≡ d ∷ drop (i + 1) ts
unrolled ts i d h e =
    let k : Rattle.std.proofs.Common.suc i ≡ i + 1 = omega arith in
    drop-cons ts i d h ∙ (ap (λ z. z ∷ drop (Rattle.std.proofs.Common.suc i) ts) (sym e) ∙ ap (λ n. d ∷ drop n ts) k)

pub past : {X : Type 0} (ts : List X) (i : ℕ) → length ts ≤ i → drop i ts ≡ []
past [] Rattle.std.proofs.Common.zero h = refl
past [] (Rattle.std.proofs.Common.suc i) h = refl
past (t ∷ ts) Rattle.std.proofs.Common.zero h = absurd (omega (arith, h))
past (t ∷ ts) (Rattle.std.proofs.Common.suc i) h = past ts i (omega (arith, h))

pub noting_more : (fs gs : List Fault) (w : Walking) → noting gs (noting fs w) ≡ noting (fs ++ gs) w
noting_more fs gs w = ap (λ (l : List Fault). record w { faults = l }) (append_assoc w.faults fs gs)

-- an element is smaller than its row
pub falls : {X : Type 0} (size : X → ℕ) (sizes : List X → ℕ) (opens : (x : X) (xs : List X) → (size x < sizes (x ∷ xs)) × (sizes xs ≤ sizes (x ∷ xs)))
    (row : List X) (i : ℕ) (d : X) → i < length row → d ≡ get_or row i d → size d < sizes row
falls size sizes opens [] i d h e = absurd (omega arith)
falls size sizes opens (x ∷ xs) Rattle.std.proofs.Common.zero d h e = subst (λ z. size z < sizes (x ∷ xs)) (sym e) (opens x xs).0
falls size sizes opens (x ∷ xs) (Rattle.std.proofs.Common.suc i) d h e = let smaller : size d < sizes xs = falls size sizes opens xs i d (omega arith) e in omega (arith, (opens x xs).1)

pub type_falls : (row : List TypeTree) (i : ℕ) (d : TypeTree) → i < length row → d ≡ get_or row i d → type_size d < types_size (types row)
type_falls = falls type_size (λ ts. types_size (types ts)) (λ x xs. (omega arith, omega arith))

pub types_map : (ρ : Resolver) (ts : List TypeTree) → types (map (type_with ρ) ts) ≡ types_with ρ (types ts)
types_map ρ [] = refl
types_map ρ (t ∷ ts) = ap (λ z. Rattle.hm_syntax.specs.Trees.more_types (type_with ρ t) z) (types_map ρ ts)

pub pattern_falls : (row : List Pattern) (i : ℕ) (d : Pattern) → i < length row → d ≡ get_or row i d → pattern_size d < patterns_size (patterns row)
pattern_falls = falls pattern_size (λ ps. patterns_size (patterns ps)) (λ x xs. (omega arith, omega arith))

pub patterns_map : (ρ : Resolver) (b : Binders) (ps : List Pattern) → patterns (map (pattern_with ρ b) ps) ≡ patterns_with ρ b (patterns ps)
patterns_map ρ b [] = refl
patterns_map ρ b (p ∷ ps) = ap (λ z. Rattle.hm_syntax.specs.Trees.more_patterns (pattern_with ρ b p) z) (patterns_map ρ b ps)

pub constructors_map : (ρ : Resolver) (b : Binders) (cs : List DataConstructor) → constructors (map (constructor_with ρ b) cs) ≡ constructors_with ρ b (constructors cs)
constructors_map ρ b [] = refl
constructors_map ρ b (c ∷ cs) = ap (λ z. Rattle.hm_syntax.specs.Trees.more_constructors (constructor_with ρ b c) z) (constructors_map ρ b cs)

pub expression_falls : (row : List Expression) (i : ℕ) (d : Expression) → i < length row → d ≡ get_or row i d → expression_size d < expressions_size (expressions row)
expression_falls = falls expression_size (λ es. expressions_size (expressions es)) (λ x xs. (omega arith, omega arith))

pub expressions_map : (ρ : Resolver) (xs : Locals) (es : List Expression) → expressions (map (expression_with ρ xs) es) ≡ expressions_with ρ xs (expressions es)
expressions_map ρ xs [] = refl
expressions_map ρ xs (e ∷ es) = ap (λ z. Rattle.hm_syntax.specs.Trees.more_expressions (expression_with ρ xs e) z) (expressions_map ρ xs es)

pub alternative_falls : (row : List Alternative) (i : ℕ) (d : Alternative) → i < length row → d ≡ get_or row i d → alternative_size d < alternatives_size (alternatives row)
alternative_falls = falls alternative_size (λ rest. alternatives_size (alternatives rest)) (λ x xs. (omega arith, omega arith))

pub alternatives_map : (ρ : Resolver) (xs : Locals) (rest : List Alternative) → alternatives (map (alternative_with ρ xs) rest) ≡ alternatives_with ρ xs (alternatives rest)
unfolding alternative_with
alternatives_map ρ xs [] = refl
alternatives_map ρ xs (Rattle.hm_syntax.specs.Trees.alternative p g ∷ rest) = ap (λ z. Rattle.hm_syntax.specs.Trees.more_alternatives (alternative_with ρ xs (Rattle.hm_syntax.specs.Trees.alternative p g)) z) (alternatives_map ρ xs rest)

pub declaration_falls : (row : List Declaration) (i : ℕ) (d : Declaration) → i < length row → d ≡ get_or row i d → declaration_size d < declarations_size (declarations row)
declaration_falls = falls declaration_size (λ ds. declarations_size (declarations ds)) (λ x xs. (omega arith, omega arith))

pub declarations_map : (ρ : Resolver) (b : Binders) (xs : Locals) (ds : List Declaration) → declarations (map (declaration_with ρ b xs) ds) ≡ declarations_with ρ b xs (declarations ds)
declarations_map ρ b xs [] = refl
declarations_map ρ b xs (d ∷ ds) = ap (λ z. Rattle.hm_syntax.specs.Trees.more_declarations (declaration_with ρ b xs d) z) (declarations_map ρ b xs ds)

part_opens : (p : Option Expression × Expression) (ps : List (Option Expression × Expression)) → (guard_size p.0 + expression_size p.1 < bodies_size (bodies (p ∷ ps))) × (bodies_size (bodies ps) ≤ bodies_size (bodies (p ∷ ps)))
part_opens (None, e) ps = (omega arith, omega arith)
part_opens (Some g, e) ps = (omega arith, omega arith)

pub part_falls : (row : List (Option Expression × Expression)) (i : ℕ) (d : Option Expression × Expression) → i < length row → d ≡ get_or row i d → guard_size d.0 + expression_size d.1 < bodies_size (bodies row)
part_falls = falls (λ p. guard_size p.0 + expression_size p.1) (λ ps. bodies_size (bodies ps)) part_opens

pub parts_map : (ρ : Resolver) (xs : Locals) (ps : List (Option Expression × Expression)) → bodies (map (part_with ρ xs) ps) ≡ bodies_with ρ xs (bodies ps)
parts_map ρ xs [] = refl
parts_map ρ xs ((None, e) ∷ ps) = ap (λ z. Rattle.hm_syntax.specs.Trees.plain_body (expression_with ρ xs e) z) (parts_map ρ xs ps)
parts_map ρ xs ((Some g, e) ∷ ps) = ap (λ z. Rattle.hm_syntax.specs.Trees.guarded_body (expression_with ρ xs g) (expression_with ρ xs e) z) (parts_map ρ xs ps)

pub parts_are : (bs : Lookups) (xs : Locals) (ps : List (Option Expression × Expression)) → parts_faults bs xs ps ≡ bodies_faults bs xs (bodies ps)
parts_are bs xs [] = refl
parts_are bs xs ((None, e) ∷ ps) = ap (λ z. expression_faults bs xs e ++ z) (parts_are bs xs ps)
parts_are bs xs ((Some g, e) ∷ ps) = append_assoc (expression_faults bs xs g) (expression_faults bs xs e) (parts_faults bs xs ps) ∙ ap (λ z. expression_faults bs xs g ++ (expression_faults bs xs e ++ z)) (parts_are bs xs ps)

pub types_counted : (ts : List TypeTree) → type_count (types ts) ≡ length ts
types_counted [] = refl
types_counted (t ∷ ts) = ap Rattle.std.proofs.Common.suc (types_counted ts)

pub patterns_counted : (ps : List Pattern) → pattern_count (patterns ps) ≡ length ps
patterns_counted [] = refl
patterns_counted (p ∷ ps) = ap Rattle.std.proofs.Common.suc (patterns_counted ps)

-- What one turn over a row keeps: what is resolved, and the state.

module _ {X : Type 0} (f : Lookups → Locals → X → X) (g : Lookups → Locals → X → List Fault) (gs : Lookups → Locals → List X → List Fault) where
  pub trees_on : (row : List X) (i : ℕ) (d y : X) (w start : Walking) (before done : List X) → i < length row → d ≡ get_or row i d
      → y ≡ f w.known (locals_of w) d → done ≡ before ++ y ∷ [] → w.known ≡ start.known → w.groups ≡ start.groups
      → before ++ map (f start.known (locals_of start)) (drop i row) ≡ map (f start.known (locals_of start)) row
      → done ++ map (f start.known (locals_of start)) (drop (i + 1) row) ≡ map (f start.known (locals_of start)) row
  trees_on row i d y w start before done h e tree pushed kn gr l =
      let F : X → X = f start.known (locals_of start) in
      let rest : List X = drop (i + 1) row in
      let y_is : y ≡ F d = tree ∙ (ap (λ k. f k (locals_of w) d) kn ∙ ap (λ gs. f start.known (Rattle.hm_names.specs.Found.all_of gs) d) gr) in
      ap (λ z. z ++ map F rest) (pushed ∙ ap (λ z. before ++ z ∷ []) y_is) ∙ (append_assoc before (F d ∷ []) (map F rest) ∙ (ap (λ z. before ++ map F z) (sym (unrolled row i d h e)) ∙ l))

  pub state_on : (opens : (k : Lookups) (xs : Locals) (x : X) (rest : List X) → gs k xs (x ∷ rest) ≡ g k xs x ++ gs k xs rest)
      → (row : List X) (i : ℕ) (d : X) (w after start : Walking) → i < length row → d ≡ get_or row i d
      → after ≡ noting (g w.known (locals_of w) d) w → w.known ≡ start.known → w.groups ≡ start.groups
      → noting (gs start.known (locals_of start) (drop i row)) w ≡ noting (gs start.known (locals_of start) row) start
      → noting (gs start.known (locals_of start) (drop (i + 1) row)) after ≡ noting (gs start.known (locals_of start) row) start
  state_on opens row i d w after start h e state kn gr l =
      let G : List X → List Fault = gs start.known (locals_of start) in
      let rest : List X = drop (i + 1) row in
      let noted : g w.known (locals_of w) d ≡ g start.known (locals_of start) d = ap (λ k. g k (locals_of w) d) kn ∙ ap (λ gs. g start.known (Rattle.hm_names.specs.Found.all_of gs) d) gr in
      ap (noting (G rest)) (state ∙ ap (λ fs. noting fs w) noted) ∙ (noting_more (g start.known (locals_of start) d) (G rest) w ∙ (ap (λ fs. noting fs w) (sym (ap G (unrolled row i d h e) ∙ opens start.known (locals_of start) d rest)) ∙ l))

pub listed : (w after : Walking) (fs : List Fault) (ds done : List Declaration) → after ≡ noting fs w
    → done ≡ map (declaration_with (resolver_of after.known) (binder_of None) (locals_of after)) ds → done ≡ map (declaration_with (resolver_of w.known) bare (locals_of w)) ds
listed w after fs ds done e q = q ∙ ap (λ (v : Walking). map (declaration_with (resolver_of v.known) bare (locals_of v)) ds) e
