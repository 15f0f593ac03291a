-- Texts that are one name, and others.
use Rattle.std.proofs.Common.{◌≡◌, ◌∙◌, ℕ, List, [], ◌∷◌, ap, arith, get_or, length, refl, subst, sym}
use Rattle.hm_lex.specs.Cut.{IsCut, Piece, tokens_of}
use Rattle.hm_lex.specs.Faults.{AreTokensOf, IsRefusal}
use Rattle.hm_lex.specs.declared.token.LexFault.{LexFault}
use Rattle.hm_lex.specs.declared.token.LexFault.TheVariants.{TooLong, Lexeme, OpenComment, TooDeep, Memory}
use Rattle.hm_lex.specs.declared.token.Token.{Token}
use Rattle.hm_service_rename.specs.Spelling.{IsName, IsNameToken, IsOneName}

-- a refused text has no tokens
never_tokens : (text : List ℕ) (fault : LexFault) (tokens : List Token) → ¬ (fault ≡ Memory) → IsRefusal text fault → AreTokensOf text tokens → ⊥
never_tokens text TooLong tokens other refused are = let short = are.short in omega (arith, short, refused)
never_tokens text (Lexeme place) tokens other refused are = are.faultless (Lexeme place) refused.1.before refused.1.stands
never_tokens text (OpenComment place) tokens other refused are = are.faultless (OpenComment place) refused.1.before refused.1.stands
never_tokens text (TooDeep place) tokens other refused are = are.faultless (TooDeep place) refused.1.before refused.1.stands
never_tokens text Memory tokens other refused are = absurd (other refl)

pub no_name_refused : (text : List ℕ) (fault : LexFault) → ¬ (fault ≡ Memory) → IsRefusal text fault → ¬ (IsName text)
no_name_refused text fault other refused (tokens, (are, one)) = never_tokens text fault tokens other refused are

-- a text has one list of tokens
pub no_name_spelled : (text : List ℕ) (tokens : List Token) (size : ℕ) → ((pieces : List Piece) → IsCut pieces text → tokens ≡ tokens_of pieces) → size ≡ length text → ¬ (IsOneName size tokens) → ¬ (IsName text)
no_name_spelled text tokens size only is none (others, (are, one)) =
    let same : others ≡ tokens = are.tokens_are ∙ sym (only are.pieces are.cut) in
    none (subst (λ (n : ℕ). IsOneName n tokens) (sym is) (subst (λ (l : List Token). IsOneName (length text) l) same one))

pub is_spelled : (text : List ℕ) (tokens : List Token) (size : ℕ) → AreTokensOf text tokens → size ≡ length text → IsOneName size tokens → IsName text
is_spelled text tokens size are is one = (tokens, (are, subst (λ (n : ℕ). IsOneName n tokens) is one))

-- the first token is the one
first_is : (size : ℕ) (tokens : List Token) (d : Token) (h : IsOneName size tokens) → get_or tokens 0 d ≡ h.token
first_is size tokens d h = ap (λ (l : List Token). get_or l 0 d) h.one

pub one_long : (size : ℕ) (tokens : List Token) → IsOneName size tokens → length tokens ≡ 1
one_long size tokens h = ap (λ (l : List Token). length l) h.one

pub first_name : (size : ℕ) (tokens : List Token) (d : Token) → IsOneName size tokens → IsNameToken size (get_or tokens 0 d)
first_name size tokens d h = subst (IsNameToken size) (sym (first_is size tokens d h)) h.is

one_token : (tokens : List Token) (d : Token) → length tokens ≡ 1 → tokens ≡ get_or tokens 0 d ∷ []
one_token [] d is = absurd (omega (arith, is))
one_token (t ∷ []) d is = refl
one_token (t ∷ (u ∷ tokens)) d is = absurd (omega (arith, is))

pub is_one : (size : ℕ) (tokens : List Token) (d : Token) → length tokens ≡ 1 → IsNameToken size (get_or tokens 0 d) → IsOneName size tokens
is_one size tokens d long is = record { token = get_or tokens 0 d; one = one_token tokens d long; is = is }
