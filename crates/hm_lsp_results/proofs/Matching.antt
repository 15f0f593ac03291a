-- Whether a query finds a name, where some letters are gone through.
use Rattle.std.proofs.Common.{◌≡◌, ℕ, suc, ◌<◌, ◌≤◌, Bool, true, false, List, ◌∷◌, drop, length, get_or, sym, ap, ◌∙◌}
use Rattle.std.proofs.lemmas.List.{drop_all}
use Rattle.std.proofs.Math.Seq.{drop-cons}
use Rattle.hm_lsp_results.specs.Matches.{is_match}

-- all letters of the query are found
pub all_found : (query name : List ℕ) (k : ℕ) (found : Bool) → length query ≤ k → is_match (drop k query) name ≡ found → true ≡ found
all_found query name k found past so_far = sym (ap (λ (q : List ℕ). is_match q name) (drop_all k query past)) ∙ so_far

-- the name ends, and a letter of the query isn't found
pub not_found : (query name : List ℕ) (k i : ℕ) (found : Bool) → k < length query → length name ≤ i → is_match (drop k query) (drop i name) ≡ found → false ≡ found
not_found query name k i found here past so_far =
    sym (ap (λ (q : List ℕ). is_match q (drop i name)) (drop-cons query k 0 here) ∙ ap (λ (n : List ℕ). is_match (get_or query k 0 ∷ drop (suc k) query) n) (drop_all i name past)) ∙ so_far
