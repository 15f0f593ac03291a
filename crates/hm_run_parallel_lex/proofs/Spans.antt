-- A part of a source, between the bytes before it and the rest.
use Rattle.std.proofs.Common.{◌≡◌, ℕ, ◌+◌, ◌<◌, ◌≤◌, List, ◌++◌, length, take, drop, true, Option, Some, None, IfSome, sym, ap, ◌∙◌, subst, arith, take-append-drop, length-drop}
use Rattle.std.specs.Prelude.{Vec}
use Rattle.std.specs.Global.{Global}
use Rattle.std.proofs.lemmas.List.{drop-drop}
use Rattle.hm_lex.specs.declared.token.Token.{Token}
use Rattle.hm_lex.specs.Faults.{AreTokensOf, max_source_len}
use Rattle.hm_lex.proofs.NameRuns.{take_on}
use Rattle.hm_run_tokens.specs.Parts.{AreTokensAfter, EndsLine, IsClosed}
use Rattle.hm_run_tokens.proofs.Joins.{nothing_before}
use Rattle.hm_run_tokens.specs.declared.parts.PartTokens.{PartTokens}

-- what is known of the tokens of a part, if there are some
abbrev pub IsFront : List ℕ → List ℕ → Option PartTokens → Type 0
IsFront before text front = IfSome front (λ found. AreTokensAfter before text found.tokens.items × (found.is_closed ≡ true → IsClosed text))

abbrev pub IsLater : List ℕ → List ℕ → Option (Vec Token Global) → Type 0
IsLater before text later = IfSome later (λ more. AreTokensAfter before text more.items)

-- the tokens of a part and of the rest are those of both
pub joined_rest : (source before text part : List ℕ) (from len : ℕ) (front : Option PartTokens) (later result : Option (Vec Token Global))
    → before ≡ take from source → text ≡ drop from source → part ≡ take len text → len < length text → length source ≤ max_source_len → (len < length text → EndsLine (take len text))
    → IfSome result (λ tokens. (b t e : List ℕ) → EndsLine t → length (t ++ e) ≤ max_source_len → IsFront b t front → IsLater (b ++ t) e later → AreTokensAfter b (t ++ e) tokens.items)
    → IsFront before part front → IsLater (take (from + len) source) (drop (from + len) source) later → IsLater (take from source) (drop from source) result
joined_rest source before text part from len front later None b t p lt short line h f l = tt
joined_rest source before text part from len front later (Some tokens) b t p lt short line h f l =
    let whole : take len (drop from source) ++ drop (from + len) source ≡ drop from source =
    ap (λ (u : List ℕ). take len (drop from source) ++ u) (sym (drop-drop len from source)) ∙ take-append-drop len (drop from source) in
    let part_is : part ≡ take len (drop from source) = p ∙ ap (take len) t in
    let ends : EndsLine (take len (drop from source)) = subst (λ (u : List ℕ). EndsLine (take len u)) t (line lt) in
    let size : length (take len (drop from source) ++ drop (from + len) source) ≤ max_source_len = omega (arith, short, ap length whole, length-drop from source) in
    let one : IsFront (take from source) (take len (drop from source)) front = subst (λ (u : List ℕ). IsFront u (take len (drop from source)) front) b (subst (λ (u : List ℕ). IsFront before u front) part_is f) in
    let two : IsLater (take from source ++ take len (drop from source)) (drop (from + len) source) later = subst (λ (u : List ℕ). IsLater u (drop (from + len) source) later) (take_on from len source) l in
    subst (λ (u : List ℕ). AreTokensAfter (take from source) u tokens.items) whole (h (take from source) (take len (drop from source)) (drop (from + len) source) ends size one two)

-- the rest of a source from its first byte on
pub whole_source : (source : List ℕ) (result : Option (Vec Token Global)) → IsLater (take 0 source) (drop 0 source) result → IfSome result (λ tokens. AreTokensOf source tokens.items)
whole_source source None h = tt
whole_source source (Some tokens) h = nothing_before source tokens.items h
