-- The text that has each variable of a pattern binding.
use Rattle.std.proofs.Common.{◌≡◌, ◌∙◌, ℕ, ◌+◌, ◌<◌, ◌≤◌, List, [], ◌∷◌, ◌++◌, append_assoc, ap, drop, get_or, length, map, sym, Bor}
use Rattle.std.proofs.lemmas.List.{append-nil}
use Rattle.std.specs.Prelude.{flat_map}
use Rattle.hm_syntax.specs.Names.{Identifier}
use Rattle.hm_names.proofs.Rows.{past, unrolled}
use Rattle.hm_names.specs.Variables.{texts}
use Rattle.hm_messages_here.specs.Patterns.{shared}

abbrev pub shares : List ℕ → List (Bor Identifier) → List ℕ
shares name ns = flat_map (shared name) (texts (map (λ n. n.now) ns))

-- one variable more: the step of a loop
pub shared_more : (name : List ℕ) (ns : List (Bor Identifier)) (i : ℕ) (n : Bor Identifier) (old new one whole : List ℕ) → i < length ns → n ≡ get_or ns i n → one ≡ shared name n.now.text → new ≡ old ++ one
    → old ++ shares name (drop i ns) ≡ whole → new ++ shares name (drop (i + 1) ns) ≡ whole
shared_more name ns i n old new one whole l is of_one put before =
    let rest = shares name (drop (i + 1) ns) in
    ap (λ t. t ++ rest) (put ∙ ap (λ t. old ++ t) of_one) ∙ (append_assoc old (shared name n.now.text) rest ∙ (ap (λ xs. old ++ shares name xs) (sym (unrolled ns i n l is)) ∙ before))

-- its end: no variable is left
pub shared_all : (name : List ℕ) (ns : List (Bor Identifier)) (i : ℕ) (all whole : List ℕ) → length ns ≤ i → all ++ shares name (drop i ns) ≡ whole → all ≡ whole
shared_all name ns i all whole l before = sym (append-nil all) ∙ (ap (λ xs. all ++ shares name xs) (sym (past ns i l)) ∙ before)
