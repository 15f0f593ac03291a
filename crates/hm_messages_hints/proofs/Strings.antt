-- A string's bytes, one after the other.
use Rattle.std.proofs.Common.{arith, ◌≡◌, ◌∙◌, ℕ, ◌+◌, ◌<◌, Bool, true, false, List, [], ◌∷◌, drop, get_or, length, if◌then◌else◌, refl, ap}
use Rattle.std.proofs.lemmas.List.{at_drop_more, drop_all}
use Rattle.hm_messages_hints.specs.LexemeHints.{goes_on, is_end, is_text, next_in}
use Rattle.hm_messages_hints.specs.declared.lexeme_hints.StringPart.{StringPart}

goes_by : (part : StringPart) (b : ℕ) (bs : List ℕ) → goes_on part (b ∷ bs) ≡ (if is_end part b then false else goes_on (next_in part b) bs)
unfolding goes_on
goes_by part b bs = refl

-- a quote at its end closes a string
pub goes_end : (part : StringPart) (line : List ℕ) (n : ℕ) → n < length line → is_end part (get_or line n 0) ≡ true → goes_on part (drop n line) ≡ false
goes_end part line n within e =
    at_drop_more (goes_on part) line n 0 within ∙ (goes_by part (get_or line n 0) (drop (n + 1) line)
    ∙ ap (λ (c : Bool). if c then false else goes_on (next_in part (get_or line n 0)) (drop (n + 1) line)) e)

-- any other byte goes on with it
pub goes_step : (part : StringPart) (line : List ℕ) (n : ℕ) → n < length line → is_end part (get_or line n 0) ≡ false → goes_on part (drop n line) ≡ goes_on (next_in part (get_or line n 0)) (drop (n + 1) line)
goes_step part line n within e =
    at_drop_more (goes_on part) line n 0 within ∙ (goes_by part (get_or line n 0) (drop (n + 1) line)
    ∙ ap (λ (c : Bool). if c then false else goes_on (next_in part (get_or line n 0)) (drop (n + 1) line)) e)

nothing : (part : StringPart) → goes_on part [] ≡ is_text part
unfolding goes_on
nothing part = refl

-- at the end of the line
pub goes_all : (part : StringPart) (line : List ℕ) → goes_on part (drop (length line) line) ≡ is_text part
goes_all part line = ap (goes_on part) (drop_all (length line) line (omega arith)) ∙ nothing part
