-- The last of the types in the text of a function from two or three values.
use Rattle.std.proofs.Common.{rules, ◌≡◌, ◌∙◌, ℕ, List, [], ◌++◌, append_assoc, append-nil, sym, ap}
use Rattle.std.specs.Prelude.{codes}
use Rattle.std.proofs.lemmas.List.{append_cancel_left, append_cancel_right}

-- the text of a function from a pair to (), as the texts of types are made of parts
abbrev pub pair_text : List ℕ → List ℕ → List ℕ
pair_text t u = (codes "(" ++ (t ++ (codes ", " ++ u ++ [])) ++ codes ")") ++ (codes " -> " ++ codes "()" ++ [])

in_parts : (t u : List ℕ) → pair_text t u ≡ (codes "(" ++ t ++ codes ", ") ++ (u ++ codes ") -> ()")
in_parts t u = simp (append_assoc, append-nil) (search rules)

-- what stands between the first type and the end is the second one
pub second_text : (t u x whole front : List ℕ) → whole ≡ pair_text t u → whole ≡ front ++ (x ++ codes ") -> ()") → front ≡ codes "(" ++ t ++ codes ", " → x ≡ u
second_text t u x whole front is parts start =
    append_cancel_right x u (codes ") -> ()")
    (append_cancel_left (codes "(" ++ t ++ codes ", ") (x ++ codes ") -> ()") (u ++ codes ") -> ()")
    (ap (λ l. l ++ (x ++ codes ") -> ()")) (sym start) ∙ (sym parts ∙ (is ∙ in_parts t u))))

-- the text of a function from three values to ()
abbrev pub three_text : List ℕ → List ℕ → List ℕ → List ℕ
three_text t u v = (codes "(" ++ (t ++ (codes ", " ++ u ++ (codes ", " ++ v ++ []))) ++ codes ")") ++ (codes " -> " ++ codes "()" ++ [])

regrouped : (t c u n : List ℕ) → t ++ ((c ++ u) ++ n) ≡ ((t ++ c) ++ u) ++ n
regrouped t c u n = ap (λ z. t ++ z) (append_assoc c u n) ∙ sym (append_assoc (t ++ c) u n ∙ append_assoc t c (u ++ n))

three_in_parts : (t u v : List ℕ) → three_text t u v ≡ (codes "(" ++ t ++ codes ", " ++ u ++ codes ", ") ++ (v ++ codes ") -> ()")
three_in_parts t u v =
    ap (λ m. (codes "(" ++ m ++ codes ")") ++ (codes " -> " ++ codes "()" ++ [])) (regrouped t (codes ", ") u (codes ", " ++ v ++ [])) ∙ in_parts (t ++ codes ", " ++ u) v

-- what stands between the first two types and the end is the third one
pub third_text : (t u v x whole front : List ℕ) → whole ≡ three_text t u v → whole ≡ front ++ (x ++ codes ") -> ()") → front ≡ codes "(" ++ t ++ codes ", " ++ u ++ codes ", " → x ≡ v
third_text t u v x whole front is parts start =
    append_cancel_right x v (codes ") -> ()")
    (append_cancel_left (codes "(" ++ t ++ codes ", " ++ u ++ codes ", ") (x ++ codes ") -> ()") (v ++ codes ") -> ()")
    (ap (λ l. l ++ (x ++ codes ") -> ()")) (sym start) ∙ (sym parts ∙ (is ∙ three_in_parts t u v))))
