-- The worked hints and changes.
use Rattle.std.proofs.Common.{◌≡◌, ℕ, zero, suc, ◌<◌, ◌≤◌, List, [], ◌∷◌, length, get_or, inl, true, refl, sym, ap, arith, append-nil}
use Rattle.std.specs.Prelude.{codes}
use Rattle.std.proofs.lemmas.Bool.{false≢true}
use Rattle.hm_syntax.specs.declared.ast.Module.{Module as Tree}
use Rattle.hm_parse_grammar.specs.Grammar.Modules.{Module', Source, source_none, source_more, «module»}
use Rattle.hm_parse_grammar.specs.Tokens.{Terminal}
use Rattle.hm_parse_grammar.specs.Symbols.{same}
use Rattle.hm_parse_grammar.specs.declared.symbol.Symbol.{Symbol}
use Rattle.hm_parse_grammar.specs.declared.symbol.Symbol.TheVariants.{Equals, Import, Integer, Open, Semicolon, Var}
use Rattle.hm_messages_outline.specs.Brackets.{IsInnermost, IsOpen}
use Rattle.hm_messages_hints.specs.SyntaxHints.{IsInPatterns, is_of_pattern}
use Rattle.hm_messages_hints.specs.Worked.{applied}
use Rattle.hm_messages_repairs.specs.Worked.{BracketsRow, ChangesRow, FactsRow, NeighboursRow, brackets}

square : IsOpen brackets 3
square = record { within = omega arith; opening = refl; free = refl }

none_after : (j : ℕ) → 3 < j → IsOpen brackets j → ⊥
none_after zero h o = omega (arith, h)
none_after (suc zero) h o = omega (arith, h)
none_after (suc (suc zero)) h o = omega (arith, h)
none_after (suc (suc (suc zero))) h o = omega (arith, h)
none_after (suc (suc (suc (suc zero)))) h o = false≢true o.opening
none_after (suc (suc (suc (suc (suc j))))) h o = omega (arith, o.within)

innermost : IsInnermost brackets 3
innermost = record { opened = square; last = none_after }

pub worked_brackets : BracketsRow
worked_brackets = record {
  innermost = innermost;
  around = λ h. h.last 3 (omega arith) square;
  closed = λ h. let e : suc zero ≡ zero = h.free in omega (arith, e);
}

pub worked_facts : FactsRow
worked_facts = record {
  layout = (refl, refl);
  brace = λ h. false≢true (sym h.1);
  update = (refl, refl);
  no_update = λ h. false≢true h.0;
  left_open = (innermost, refl, refl);
  shut = λ h. false≢true (sym h.2);
}

applied_rest : (k : ℕ) (d : Symbol) → k < 3 → is_of_pattern (get_or (Var ∷ Open ∷ Var ∷ []) k d) ≡ true
applied_rest zero d l = refl
applied_rest (suc zero) d l = refl
applied_rest (suc (suc zero)) d l = refl
applied_rest (suc (suc (suc k))) d l = absurd (omega (arith, l))

in_patterns : IsInPatterns applied
in_patterns = record { start = 0; within = omega arith; begun = refl; rest = applied_rest }

one_pattern : (k : ℕ) (d : Symbol) → k < 1 → is_of_pattern (get_or (Var ∷ []) k d) ≡ true
one_pattern zero d l = refl
one_pattern (suc k) d l = absurd (omega (arith, l))

no_bracket : (j : ℕ) → 2 < j → IsOpen applied j → ⊥
no_bracket zero h o = omega (arith, h)
no_bracket (suc zero) h o = omega (arith, h)
no_bracket (suc (suc zero)) h o = omega (arith, h)
no_bracket (suc (suc (suc zero))) h o = false≢true o.opening
no_bracket (suc (suc (suc (suc j)))) h o = omega (arith, o.within)

in_bracket : IsInnermost applied 2
in_bracket = record { opened = record { within = omega arith; opening = refl; free = refl }; last = no_bracket }

pub worked_neighbours : NeighboursRow
worked_neighbours = record {
  argument = (in_bracket, inl refl, in_patterns, refl, refl);
  no_argument = λ h. false≢true h.4;
  guard = (refl, refl, record { start = 0; within = omega arith; begun = refl; rest = one_pattern });
  no_guard = λ h. false≢true (ap (λ s. same s Equals) h.0);
  apart = (refl, refl);
  joined = λ h. false≢true (ap (λ s. same s Semicolon) h.0);
  number = (refl, refl);
  no_number = λ h. false≢true (ap (λ s. same s Integer) h.0);
  late = (refl, inl refl, refl);
  no_import = λ h. false≢true (ap (λ s. same s Import) h.0);
}

-- a module has more than one token
short : (m : Tree) (ks us : List Terminal) → Module' m ks us → length ks ≤ 1 → ⊥
short m ks us («module» e n x w o b c) h = absurd (omega (arith, h))

no_module : (ms : List Tree) (ks : List Terminal) → Source ms ks → length ks ≡ 1 → ⊥
no_module ms ks source_none e = absurd (omega (arith, e))
no_module ms ks (source_more {m = m} {us = us} a b) e = short m ks us a (omega (arith, e))

pub worked_changes : ChangesRow
worked_changes = record {
  lone = λ t h. record { rest = []; text = codes "}"; extends = sym (append-nil (codes "}")); mark = t; close = t; mark_is = tt; close_is = h; modules = []; spelled = source_none; unread = λ others s. no_module others _ s refl };
  two = λ t h r. no_module r.modules _ r.spelled refl;
  empty = λ r. r.unread [] source_none;
}
