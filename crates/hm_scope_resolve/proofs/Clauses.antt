-- Clauses that go on a binding, and constructors in rows.
use Rattle.std.proofs.Common.{◌≡◌, ℕ, Bool, true, false, ◌==◌, not, List, [], ◌∷◌, ◌++◌, Some, Option, suc, refl, sym, ap, ◌∙◌, subst, map, bytes_eq, Bor, length, append_assoc}
use Rattle.std.proofs.Math.Dec.{eqb-suc-zero}
use Rattle.hm_syntax.specs.Names.{Identifier}
use Rattle.hm_syntax.specs.Trees.{Pattern, DataConstructor, Declarations, more_declarations, data_declaration}
use Rattle.hm_syntax.specs.Lists.{patterns, constructors}
use Rattle.hm_names.specs.Entities.{constructor_list, constructor_name}
use Rattle.hm_names.specs.Faults.Lists.{OpenBinding, opened, goes_on, has_other_length, has_patterns, constructor_names}
use Rattle.hm_scope_resolve.specs.OpenBindings.{open_binding}
use Rattle.hm_names.specs.Variables.{pattern_count}

pub counted : (row : List Pattern) → pattern_count (patterns row) ≡ length row
counted [] = refl
counted (p ∷ ps) = ap suc (counted ps)

has_some : (row : List Pattern) → has_patterns (patterns row) ≡ not (length row == 0)
has_some [] = refl
has_some (p ∷ ps) = sym (ap not (eqb-suc-zero (length ps)))

true_of_not : (b : Bool) → false ≡ not b → b ≡ true
true_of_not true e = refl
true_of_not false e = let f : false ≡ true = e in cc

pub goes_on_case : (b : Option (Bor (List ℕ) × ℕ)) (now : OpenBinding) (t : Bor (List ℕ)) (k : ℕ) (n : Identifier) (row : List Pattern) (r : Bool)
    → open_binding b ≡ now → b ≡ Some (t, k) → false ≡ not (bytes_eq t.now n.text) → r ≡ (length row == 0) → not r ≡ goes_on now n (patterns row)
goes_on_case b now t k n row r seen is same empty =
    let now_is : Some (t.now, k) ≡ now = sym (ap open_binding is) ∙ seen in
    subst (λ o. not r ≡ goes_on o n (patterns row)) now_is (rw (true_of_not (bytes_eq t.now n.text) same) (ap not empty ∙ sym (has_some row)))

pub other_length_case : (b : Option (Bor (List ℕ) × ℕ)) (now : OpenBinding) (t : Bor (List ℕ)) (k : ℕ) (row : List Pattern)
    → open_binding b ≡ now → b ≡ Some (t, k) → not (k == length row) ≡ has_other_length now (patterns row)
other_length_case b now t k row seen is =
    let now_is : Some (t.now, k) ≡ now = sym (ap open_binding is) ∙ seen in
    subst (λ o. not (k == length row) ≡ has_other_length o (patterns row)) now_is (ap (λ c. not (k == c)) (sym (counted row)))

pub opened_case : (t : List ℕ) (n : Identifier) (row : List Pattern) (r : Bool) → r ≡ (length row == 0) → r ≡ false → t ≡ n.text → Some (t, length row) ≡ opened n (patterns row)
opened_case t n [] r is some same = let f : true ≡ false = sym is ∙ some in cc
opened_case t n (p ∷ ps) r is some same = rw same (rw (counted ps) refl)

listed : (cs : List DataConstructor) → constructor_list (constructors cs) ≡ cs
listed [] = refl
listed (c ∷ cs) = ap (λ l. c ∷ l) (listed cs)

pub data_more : (new old : List Identifier) (n : Identifier) (ps : List Identifier) (cs : List DataConstructor) → new ≡ old ++ map constructor_name cs
    → (ds : Declarations) → new ++ constructor_names ds ≡ old ++ constructor_names (more_declarations (data_declaration n ps (constructors cs)) ds)
data_more new old n ps cs is ds = rw (listed cs) (rw is (append_assoc old (map constructor_name cs) (constructor_names ds)))
