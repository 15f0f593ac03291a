-- What is so of a slice that goes on to the end of a list.
use Rattle.std.proofs.Common.{arith, ◌-◌, ℕ, List, length, drop, take, All, subst, length-drop}
use Rattle.std.proofs.lemmas.List.{take_all}
use Rattle.hm_parse_grammar.specs.declared.symbol.Symbol.{Symbol}

pub in_rest : (P : Symbol → Type 0) (n : ℕ) (ss : List Symbol) → All P (take (length ss - n) (drop n ss)) → All P (drop n ss)
in_rest P n ss h = subst (All P) (take_all (length ss - n) (drop n ss) (omega (arith, length-drop n ss))) h
