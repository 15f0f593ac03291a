-- Clauses that continue a binding.
use Rattle.std.proofs.Common.{◌≡◌, ◌∙◌, ℕ, List, [], ◌∷◌, ◌++◌, Option, Some, Bor, append_assoc, map, sym, ap, Bool, cond, true}
use Rattle.std.proofs.lemmas.List.{map-append}
use Rattle.hm_syntax.specs.Names.{Identifier}
use Rattle.hm_syntax.specs.Trees.{Patterns, RightSide, Declarations, more_declarations, clause}
use Rattle.hm_names.specs.Faults.Lists.{OpenBinding, goes_on, opened}
use Rattle.hm_names.specs.Variables.{pattern_count}
use Rattle.hm_scope_resolve.specs.OpenBindings.{open_binding}
use Rattle.hm_messages_details.specs.Counts.{first_length, later_clauses}
use Rattle.hm_messages_details.specs.Parts.{later_of}
use Rattle.hm_messages_details.specs.declared.lengths.Later.{Later}

-- the number of patterns of the first clause of a binding
pub first_length_case : (b : Option (Bor (List ℕ) × ℕ)) (now : OpenBinding) (t : Bor (List ℕ)) (k : ℕ) → open_binding b ≡ now → b ≡ Some (t, k) → k ≡ first_length now
first_length_case b now t k seen is = ap first_length (sym (ap open_binding is) ∙ seen)

-- a clause that continues a binding
pub later_more : (b : OpenBinding) (n : Identifier) (ps : Patterns) (r : RightSide) (ds : Declarations) (old new : List Later) (l : Later) → new ≡ old ++ l ∷ []
    → goes_on b n ps ≡ true → l.name.now ≡ n → l.here ≡ pattern_count ps → l.first ≡ first_length b
    → map later_of new ++ later_clauses b ds ≡ map later_of old ++ later_clauses b (more_declarations (clause n ps r) ds)
later_more b n ps r ds old new l pushed goes name here first =
    let rest = later_clauses b ds in
    let same : later_of l ≡ record { name = n; here = pattern_count ps; first = first_length b } = λ i. record { name = name i; here = here i; first = first i } in
    let whole : later_clauses b (more_declarations (clause n ps r) ds) ≡ record { name = n; here = pattern_count ps; first = first_length b } ∷ rest = ap (λ (z : Bool). cond z (record { name = n; here = pattern_count ps; first = first_length b } ∷ rest) (later_clauses (opened n ps) ds)) goes in
    ap (λ z. map later_of z ++ rest) pushed
    ∙ (ap (λ z. z ++ rest) (map-append later_of old (l ∷ []))
    ∙ (append_assoc (map later_of old) (later_of l ∷ []) rest ∙ ap (λ z. map later_of old ++ z) (ap (λ y. y ∷ rest) same ∙ sym whole)))
