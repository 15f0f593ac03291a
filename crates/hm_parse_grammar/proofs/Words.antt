-- Variables that mean something in imports.
use Rattle.std.proofs.Common.{◌≡◌, ℕ, List, ◌∷◌, Bool, true, false, ◌&&◌, refl}
use Rattle.std.specs.Str.{bytes_eq}
use Rattle.std.proofs.lemmas.Slice.Eq.{bytes_eq-Decides}
use Rattle.hm_parse_grammar.specs.declared.symbol.Symbol.TheVariants.{Var}
use Rattle.hm_parse_grammar.specs.Symbols.{same}
use Rattle.hm_parse_grammar.specs.Tokens.{Terminal}
use Rattle.hm_parse_grammar.specs.Grammar.Marks.{IsWord}
use Rattle.hm_parse_grammar.specs.Reading.Basics.{is_at_word}
use Rattle.hm_parse_grammar.proofs.Holds.{same_true}

both_true : (a b : Bool) → a && b ≡ true → (a ≡ true) × (b ≡ true)
both_true true true e = (refl, refl)
both_true true false e = cc
both_true false b e = cc

pub word_is : (word : List ℕ) (k : Terminal) (ts : List Terminal) → is_at_word word (k ∷ ts) ≡ true → IsWord word k
word_is word k ts e =
    let both = both_true (same k.symbol Var) (bytes_eq k.text word) e in
    record { variable = same_true _ _ both.0; text = bytes_same k.text word both.1 }
  where
    bytes_same : (a b : List ℕ) → bytes_eq a b ≡ true → a ≡ b
    bytes_same a b e = (bytes_eq-Decides a b).0 e

pub at_word : (word : List ℕ) (k : Terminal) (ts : List Terminal) → IsWord word k → is_at_word word (k ∷ ts) ≡ true
at_word word k ts w = rw (w.variable, w.text) (same_bytes word)
  where
    same_bytes : (a : List ℕ) → bytes_eq a a ≡ true
    same_bytes a = (bytes_eq-Decides a a).1 refl
