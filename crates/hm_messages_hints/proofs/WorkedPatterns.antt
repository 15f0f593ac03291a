-- The worked patterns and guards.
use Rattle.std.proofs.Common.{arith, ◌≡◌, ◌<◌, ◌+◌, ℕ, zero, suc, [], ◌∷◌, All, drop, get_or, true, false, refl, ap, subst, sym}
use Rattle.std.proofs.lemmas.Bool.{false≢true}
use Rattle.hm_parse_grammar.specs.Symbols.{same}
use Rattle.hm_parse_grammar.specs.declared.symbol.Symbol.{Symbol}
use Rattle.hm_parse_grammar.specs.declared.symbol.Symbol.TheVariants.{Backslash, Bar, Data, Import, Module, Then, Open, LeftBrace, Semicolon, Equals, Var, Con}
use Rattle.hm_lex.specs.Bytes.{class_of}
use Rattle.hm_messages_hints.specs.LexemeHints.{goes_on}
use Rattle.hm_messages_hints.specs.SyntaxHints.{IsInPatterns, at, begins_declaration, begins_patterns, begins_right, begins_type, ends_guard, is_of_pattern, is_of_type}
use Rattle.hm_messages_hints.specs.Worked.{DeclarationRow, GuardRow, PatternsRow, PlaceRow, RightRow, StringRow, ThenRow, defined, guarded_before}

no_then : (k : ℕ) (d : Symbol) → k < 1 → same (get_or (Var ∷ []) k d) Then ≡ false
no_then zero d l = refl
no_then (suc k) d l = absurd (omega (arith, l))

pub worked_thens : ThenRow
worked_thens = record {
  without = record { begun = refl; rest = no_then };
  with_then = λ h. false≢true (sym (h.rest 1 Then (omega arith)));
}

applied_rest : (k : ℕ) (d : Symbol) → k < 3 → is_of_pattern (get_or (Var ∷ Open ∷ Var ∷ []) k d) ≡ true
applied_rest zero d l = refl
applied_rest (suc zero) d l = refl
applied_rest (suc (suc zero)) d l = refl
applied_rest (suc (suc (suc k))) d l = absurd (omega (arith, l))

at_brace : (n : ℕ) → n < 4 → begins_patterns (at defined n) ≡ true → n ≡ 0
at_brace zero l e = refl
at_brace (suc zero) l e = absurd (false≢true e)
at_brace (suc (suc zero)) l e = absurd (false≢true e)
at_brace (suc (suc (suc zero))) l e = absurd (false≢true e)
at_brace (suc (suc (suc (suc n)))) l e = absurd (omega (arith, l))

pub worked_patterns : PatternsRow
worked_patterns = record {
  within = record { start = 0; within = omega arith; begun = refl; rest = applied_rest };
  after = λ h.
      let first : h.start ≡ 0 = at_brace h.start h.within h.begun in
      let rest : is_of_pattern Equals ≡ true = subst (λ n. All (λ s. is_of_pattern s ≡ true) (drop (n + 1) defined)) first h.rest 1 Equals (omega arith) in
      false≢true rest;
}

one_pattern : (k : ℕ) (d : Symbol) → k < 1 → is_of_pattern (get_or (Var ∷ []) k d) ≡ true
one_pattern zero d l = refl
one_pattern (suc k) d l = absurd (omega (arith, l))

one_guard : (k : ℕ) (d : Symbol) → k < 1 → ends_guard (get_or (Var ∷ []) k d) ≡ false
one_guard zero d l = refl
one_guard (suc k) d l = absurd (omega (arith, l))

head_is : IsInPatterns (LeftBrace ∷ Var ∷ [])
head_is = record { start = 0; within = omega arith; begun = refl; rest = one_pattern }

kind : Symbol → ℕ
kind Bar = 1
kind _ = 0

at_bar : (n : ℕ) → n < 5 → at guarded_before n ≡ Bar → n ≡ 2
unfolding kind
at_bar zero l e = let numbers : 0 ≡ 1 = ap kind e in absurd (omega (arith, numbers))
at_bar (suc zero) l e = let numbers : 0 ≡ 1 = ap kind e in absurd (omega (arith, numbers))
at_bar (suc (suc zero)) l e = refl
at_bar (suc (suc (suc zero))) l e = let numbers : 0 ≡ 1 = ap kind e in absurd (omega (arith, numbers))
at_bar (suc (suc (suc (suc zero)))) l e = let numbers : 0 ≡ 1 = ap kind e in absurd (omega (arith, numbers))
at_bar (suc (suc (suc (suc (suc n))))) l e = absurd (omega (arith, l))

pub worked_guards : GuardRow
worked_guards = record {
  within = record { bar = 2; after = omega arith; within = omega arith; begun = refl; patterns = head_is; rest = one_guard };
  after = λ h.
      let second : h.bar ≡ 2 = at_bar h.bar h.within h.begun in
      let rest : ends_guard Equals ≡ false = subst (λ n. All (λ s. ends_guard s ≡ false) (drop (n + 1) guarded_before)) second h.rest 1 Equals (omega arith) in
      false≢true (sym rest);
  inside = λ h. omega (arith, h.after, h.within);
}

no_right : (n : ℕ) → n < 3 → begins_right (at (Data ∷ Con ∷ Var ∷ []) n) ≡ true → ⊥
no_right zero l e = false≢true e
no_right (suc zero) l e = false≢true e
no_right (suc (suc zero)) l e = false≢true e
no_right (suc (suc (suc n))) l e = omega (arith, l)

pub worked_rights : RightRow
worked_rights = record {
  within = record { mark = 2; after = omega arith; within = omega arith; begun = refl };
  before = λ h. no_right h.mark h.within h.begun;
}

after_equals : (k : ℕ) (d : Symbol) → k < 2 → same (get_or (Var ∷ Semicolon ∷ []) k d) Module ≡ false
after_equals zero d l = refl
after_equals (suc zero) d l = refl
after_equals (suc (suc k)) d l = absurd (omega (arith, l))

no_declaration : (n : ℕ) → n < 4 → begins_declaration (at (LeftBrace ∷ Import ∷ Con ∷ Semicolon ∷ []) n) ≡ true → ⊥
no_declaration zero l e = false≢true e
no_declaration (suc zero) l e = false≢true e
no_declaration (suc (suc zero)) l e = false≢true e
no_declaration (suc (suc (suc zero))) l e = false≢true e
no_declaration (suc (suc (suc (suc n)))) l e = omega (arith, l)

pub worked_declarations : DeclarationRow
worked_declarations = record {
  after = record { start = 2; within = omega arith; begun = refl; rest = after_equals };
  imports = λ h. no_declaration h.start h.within h.begun;
}

signed_rest : (k : ℕ) (d : Symbol) → k < 2 → is_of_type (get_or (Con ∷ Var ∷ []) k d) ≡ true
signed_rest zero d l = refl
signed_rest (suc zero) d l = refl
signed_rest (suc (suc k)) d l = absurd (omega (arith, l))

no_type : (n : ℕ) → n < 2 → begins_type (at (Backslash ∷ Var ∷ []) n) ≡ true → ⊥
no_type zero l e = false≢true e
no_type (suc zero) l e = false≢true e
no_type (suc (suc n)) l e = omega (arith, l)

pub worked_places : PlaceRow
worked_places = record {
  signed = record { start = 1; within = omega arith; begun = refl; rest = signed_rest };
  bound = λ h. no_type h.start h.within h.begun;
}

pub worked_strings : StringRow
unfolding goes_on class_of
worked_strings = record { escaped = refl; closed = refl; gap = refl; goes_on = refl }
