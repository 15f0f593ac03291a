-- An element is smaller than its row.
use Rattle.std.proofs.Common.{◌≡◌, ℕ, zero, suc, ◌+◌, ◌<◌, ◌≤◌, List, [], ◌∷◌, length, get_or, sym, subst, arith, Option, None, Some}
use Rattle.hm_syntax.specs.Trees.{TypeTree, Pattern, Expression, Declaration, Alternative}
use Rattle.hm_syntax.specs.Lists.{types, patterns, expressions, declarations, alternatives, bodies}
use Rattle.hm_syntax.specs.Sizes.{type_size, types_size, pattern_size, patterns_size, expression_size, expressions_size, declaration_size, declarations_size, alternative_size, alternatives_size, bodies_size}

falls : {X : Type 0} (size : X → ℕ) (sizes : List X → ℕ) (opens : (x : X) (xs : List X) → (size x < sizes (x ∷ xs)) × (sizes xs ≤ sizes (x ∷ xs)))
    (row : List X) (i : ℕ) (d : X) → i < length row → d ≡ get_or row i d → size d < sizes row
falls size sizes opens [] i d h e = absurd (omega arith)
falls size sizes opens (x ∷ xs) zero d h e = subst (λ z. size z < sizes (x ∷ xs)) (sym e) (opens x xs).0
falls size sizes opens (x ∷ xs) (suc i) d h e = let smaller : size d < sizes xs = falls size sizes opens xs i d (omega arith) e in omega (arith, (opens x xs).1)

pub type_falls : (row : List TypeTree) (i : ℕ) (d : TypeTree) → i < length row → d ≡ get_or row i d → type_size d < types_size (types row)
type_falls = falls type_size (λ ts. types_size (types ts)) (λ x xs. (omega arith, omega arith))

pub pattern_falls : (row : List Pattern) (i : ℕ) (d : Pattern) → i < length row → d ≡ get_or row i d → pattern_size d < patterns_size (patterns row)
pattern_falls = falls pattern_size (λ ps. patterns_size (patterns ps)) (λ x xs. (omega arith, omega arith))

pub expression_falls : (row : List Expression) (i : ℕ) (d : Expression) → i < length row → d ≡ get_or row i d → expression_size d < expressions_size (expressions row)
expression_falls = falls expression_size (λ es. expressions_size (expressions es)) (λ x xs. (omega arith, omega arith))

pub alternative_falls : (row : List Alternative) (i : ℕ) (d : Alternative) → i < length row → d ≡ get_or row i d → alternative_size d < alternatives_size (alternatives row)
alternative_falls = falls alternative_size (λ rest. alternatives_size (alternatives rest)) (λ x xs. (omega arith, omega arith))

pub declaration_falls : (row : List Declaration) (i : ℕ) (d : Declaration) → i < length row → d ≡ get_or row i d → declaration_size d < declarations_size (declarations row)
declaration_falls = falls declaration_size (λ ds. declarations_size (declarations ds)) (λ x xs. (omega arith, omega arith))

abbrev pub guard_size : Option Expression → ℕ
guard_size None = 0
guard_size (Some g) = expression_size g

-- an expression and its guard
abbrev pub part_size : Option Expression × Expression → ℕ
part_size p = guard_size p.0 + expression_size p.1

part_opens : (p : Option Expression × Expression) (ps : List (Option Expression × Expression)) → (part_size p < bodies_size (bodies (p ∷ ps))) × (bodies_size (bodies ps) ≤ bodies_size (bodies (p ∷ ps)))
part_opens (None, e) ps = (omega arith, omega arith)
part_opens (Some g, e) ps = (omega arith, omega arith)

pub part_falls : (row : List (Option Expression × Expression)) (i : ℕ) (d : Option Expression × Expression) → i < length row → d ≡ get_or row i d → part_size d < bodies_size (bodies row)
part_falls = falls part_size (λ ps. bodies_size (bodies ps)) part_opens
