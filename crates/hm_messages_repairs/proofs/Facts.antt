-- What is so of the tokens at a fault is so as a hint.
use Rattle.std.proofs.Common.{ℕ, List, map, take}
use Rattle.hm_lex.specs.declared.token.Token.{Token}
use Rattle.hm_messages_hints.specs.Advice.{IsSo, symbol_at, text_at}
use Rattle.hm_messages_outline.specs.Tokens.{symbol_in}
use Rattle.hm_messages_hints.specs.SyntaxHints.{IsSyntaxHint}
use Rattle.hm_messages_hints.specs.declared.syntax_hints.SyntaxHint.{SyntaxHint}
use Rattle.hm_messages_hints.specs.declared.syntax_hints.SyntaxHint.TheVariants.{NoHeader, ModuleEnded, NoBrace, LeftOut, Comprehension, Range, SmallName, AppliedVariable, Repaired, WherePart, NoElse, NotClosed, InPattern, Record, Update, NoAlternative, Unexpected, AppliedName, TypedPattern, ConsPattern, GuardAfterEquals, GuardArrow, ConstructorComma, NumberComma, WhereAfterSemicolon, NoThen, NewtypeArguments, LateQualified, AtSign, GuardAfterSemicolon, LateImport, ExtraComma, ElseGuard, Hole, EqualsInCondition, NoIn, SecondWhere, BraceGroup, GuardEquals}

pub so_of_fact : (source : List ℕ) (ts : List Token) (k : ℕ) (hint : SyntaxHint) → IsSyntaxHint (map (symbol_in source) (take k ts)) (symbol_at source ts k) (text_at source ts k) hint → IsSo source ts k hint
so_of_fact source ts k NoHeader h = h
so_of_fact source ts k ModuleEnded h = h
so_of_fact source ts k NoBrace h = h
so_of_fact source ts k (LeftOut f) h = h
so_of_fact source ts k (Comprehension j) h = h
so_of_fact source ts k (Range j) h = h
so_of_fact source ts k SmallName h = h
so_of_fact source ts k AppliedVariable h = h
so_of_fact source ts k (WherePart j) h = h
so_of_fact source ts k (NoElse j) h = h
so_of_fact source ts k (InPattern j) h = h
so_of_fact source ts k (NotClosed j) h = h
so_of_fact source ts k Record h = h
so_of_fact source ts k Update h = h
so_of_fact source ts k NoAlternative h = h
so_of_fact source ts k Unexpected h = h
so_of_fact source ts k (AppliedName j) h = h
so_of_fact source ts k TypedPattern h = h
so_of_fact source ts k ConsPattern h = h
so_of_fact source ts k GuardAfterEquals h = h
so_of_fact source ts k (GuardArrow j) h = h
so_of_fact source ts k (ConstructorComma j) h = h
so_of_fact source ts k NumberComma h = h
so_of_fact source ts k WhereAfterSemicolon h = h
so_of_fact source ts k (NoThen j) h = h
so_of_fact source ts k (NewtypeArguments j) h = h
so_of_fact source ts k LateQualified h = h
so_of_fact source ts k AtSign h = h
so_of_fact source ts k GuardAfterSemicolon h = h
so_of_fact source ts k LateImport h = h
so_of_fact source ts k ExtraComma h = h
so_of_fact source ts k ElseGuard h = h
so_of_fact source ts k Hole h = h
so_of_fact source ts k (EqualsInCondition j) h = h
so_of_fact source ts k (NoIn j) h = h
so_of_fact source ts k (SecondWhere j) h = h
so_of_fact source ts k BraceGroup h = h
so_of_fact source ts k (GuardEquals j) h = h
so_of_fact source ts k (Repaired r) h = absurd h
