-- The worked contexts of symbols.
use Rattle.std.proofs.Common.{arith, ◌≡◌, ◌<◌, ◌+◌, ℕ, zero, suc, List, [], ◌∷◌, All, drop, get_or, inl, true, false, refl, ap, subst, sym, ⊎_elim}
use Rattle.std.proofs.lemmas.Bool.{false≢true}
use Rattle.hm_parse_grammar.specs.Symbols.{same}
use Rattle.hm_parse_grammar.specs.declared.symbol.Symbol.{Symbol}
use Rattle.hm_parse_grammar.specs.declared.symbol.Symbol.TheVariants.{Then, Else, Let, Of, LeftBrace, RightBrace, Semicolon, Where, Equals, Arrow, Var, Con, Integer}
use Rattle.hm_messages_hints.specs.SyntaxHints.{at, begins_type, is_of_pattern, is_of_type}
use Rattle.hm_messages_outline.specs.Brackets.{IsInnermost, IsOpen}
use Rattle.hm_messages_hints.specs.Worked.{AlternativeRow, ClosedRow, ElseRow, TypeRow, ended}

declared_rest : (k : ℕ) (d : Symbol) → k < 4 → is_of_type (get_or (Con ∷ Equals ∷ Con ∷ Var ∷ []) k d) ≡ true
declared_rest zero d l = refl
declared_rest (suc zero) d l = refl
declared_rest (suc (suc zero)) d l = refl
declared_rest (suc (suc (suc zero))) d l = refl
declared_rest (suc (suc (suc (suc k)))) d l = absurd (omega (arith, l))

not_ended : (n : ℕ) → n < 5 → begins_type (at ended n) ≡ true → n ≡ 1
not_ended zero l e = absurd (false≢true e)
not_ended (suc zero) l e = refl
not_ended (suc (suc zero)) l e = absurd (false≢true e)
not_ended (suc (suc (suc zero))) l e = absurd (false≢true e)
not_ended (suc (suc (suc (suc zero)))) l e = absurd (false≢true e)
not_ended (suc (suc (suc (suc (suc n))))) l e = absurd (omega (arith, l))

pub worked_types : TypeRow
worked_types = record {
  within = record { start = 0; within = omega arith; begun = refl; rest = declared_rest };
  after = λ h.
      let first : h.start ≡ 1 = not_ended h.start h.within h.begun in
      let rest : is_of_type Semicolon ≡ true = subst (λ n. All (λ s. is_of_type s ≡ true) (drop (n + 1) ended)) first h.rest 1 Semicolon (omega arith) in
      false≢true rest;
}

no_else : (k : ℕ) (d : Symbol) → k < 3 → same (get_or (Var ∷ Then ∷ Integer ∷ []) k d) Else ≡ false
no_else zero d l = refl
no_else (suc zero) d l = refl
no_else (suc (suc zero)) d l = refl
no_else (suc (suc (suc k))) d l = absurd (omega (arith, l))

pub worked_elses : ElseRow
worked_elses = record {
  without = record { begun = refl; rest = no_else };
  with_else = λ h. false≢true (sym (h.rest 3 Else (omega arith)));
}

in_pattern : (k : ℕ) (d : Symbol) → k < 2 → is_of_pattern (get_or (Con ∷ Var ∷ []) k d) ≡ true
in_pattern zero d l = refl
in_pattern (suc zero) d l = refl
in_pattern (suc (suc k)) d l = absurd (omega (arith, l))

kind : Symbol → ℕ
kind Semicolon = 1
kind _ = 0

no_semicolon : (n : ℕ) → at (Of ∷ LeftBrace ∷ Var ∷ Arrow ∷ Var ∷ []) n ≡ Semicolon → ⊥
unfolding kind
no_semicolon zero e = let numbers : 0 ≡ 1 = ap kind e in omega (arith, numbers)
no_semicolon (suc zero) e = let numbers : 0 ≡ 1 = ap kind e in omega (arith, numbers)
no_semicolon (suc (suc zero)) e = let numbers : 0 ≡ 1 = ap kind e in omega (arith, numbers)
no_semicolon (suc (suc (suc zero))) e = let numbers : 0 ≡ 1 = ap kind e in omega (arith, numbers)
no_semicolon (suc (suc (suc (suc zero)))) e = let numbers : 0 ≡ 1 = ap kind e in omega (arith, numbers)
no_semicolon (suc (suc (suc (suc (suc n))))) e = let numbers : 0 ≡ 1 = ap kind e in omega (arith, numbers)

abbrev after_arrow : List Symbol
after_arrow = Of ∷ LeftBrace ∷ Var ∷ Arrow ∷ Var ∷ []

arrow : (n : ℕ) → n ≡ 1 → All (λ s. is_of_pattern s ≡ true) (drop (n + 1) after_arrow) → false ≡ true
arrow n first h = subst (λ m. All (λ s. is_of_pattern s ≡ true) (drop (m + 1) after_arrow)) first h 1 Arrow (omega arith)

pub worked_alternatives : AlternativeRow
worked_alternatives = record {
  within = record { of_case = refl; brace = refl; start = 1; within = omega arith; begun = inl refl; rest = in_pattern };
  after = λ h. ⊎_elim (λ first. false≢true (arrow h.start first h.rest)) (λ e. no_semicolon h.start e) h.begun;
}

no_bracket : (j : ℕ) → 1 < j → IsOpen (Let ∷ LeftBrace ∷ []) j → ⊥
no_bracket zero h o = omega (arith, h)
no_bracket (suc zero) h o = omega (arith, h)
no_bracket (suc (suc j)) h o = omega (arith, o.within)

in_brace : IsInnermost (Let ∷ LeftBrace ∷ []) 1
in_brace = record { opened = record { within = omega arith; opening = refl; free = refl }; last = no_bracket }

pub worked_closed : ClosedRow
worked_closed = record {
  closed = record { closing = refl; closed = in_brace; opened = refl; after = refl };
  other_word = λ h. false≢true (ap (λ s. same s Where) h.after);
  unclosed = λ h. false≢true (ap (λ s. same s RightBrace) h.closing);
}
