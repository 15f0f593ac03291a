-- Reading expressions and declarations (Haskell 98 Report, sections 3 and 4.4). No public clause names these.
use Rattle.std.specs.Prelude.{ℕ, zero, suc, List, [], ◌∷◌, Bool, true, false, Option, Some, None, if◌then◌else◌, length, codes}
use Rattle.hm_syntax.specs.Names.{Identifier}
use Rattle.hm_syntax.specs.Trees.{Pattern, variable_pattern, no_patterns, Expression, variable_expression, constructor_expression, literal_expression, application, lambda, let_expression, if_expression, case_expression, tuple_expression, list_expression, typed_expression, Declaration, signature, clause, pattern_binding, RightSide, right_side, Alternative, alternative}
use Rattle.hm_syntax.specs.Lists.{patterns, expressions, declarations, alternatives, bodies}
use Rattle.hm_parse_grammar.specs.declared.symbol.Symbol.{Symbol}
use Rattle.hm_parse_grammar.specs.declared.symbol.Symbol.TheVariants.{Case, Else, If, In, Let, Of, Then, Where, Colon, OfType, Equals, Backslash, Bar, Arrow, Open, OpenSquare, LeftBrace, RightBrace, Comma, Semicolon, At, Var, Con, QVar, QCon, Integer, Character, Text}
use Rattle.hm_parse_grammar.specs.Tokens.{Terminal}
use Rattle.hm_parse_grammar.specs.Reading.Basics.{◌>>=◌, Reader, peek, is_at, tail, expect, name_at, item_end, past_semicolons, loop, behind, next_of, closing, list_in}
use Rattle.hm_parse_grammar.specs.Reading.Constructors.{begins_gcon, line_at, column_at, special_at, gcon_at, literal_at}
use Rattle.hm_parse_grammar.specs.Reading.Types.{type_at}
use Rattle.hm_parse_grammar.specs.Reading.Patterns.{apat_step, apats_with, all_patterns}

abbrev pub begins_aexp : Symbol → Bool
begins_aexp Var = true
begins_aexp QVar = true
begins_aexp Con = true
begins_aexp QCon = true
begins_aexp Integer = true
begins_aexp Character = true
begins_aexp Text = true
begins_aexp Open = true
begins_aexp OpenSquare = true
begins_aexp _ = false

abbrev pub tuple_of_expressions : List Expression → Expression
tuple_of_expressions es = tuple_expression (expressions es)

abbrev pub list_of_expressions : List Expression → Expression
list_of_expressions es = list_expression (expressions es)

-- `a : b`, where colon is the name of the colon
abbrev pub cons_expression : Identifier → Expression → Expression → Expression
cons_expression colon a b = application (application (constructor_expression colon) a) b

-- operands, each with the colon after it, before the last: colons associate to the right
abbrev pub consed : List (Expression × Identifier) → Expression → Expression
consed [] e = e
consed (p ∷ ps) e = cons_expression p.1 p.0 (consed ps e)

-- a chain of the operands read so far, and the rest
abbrev pub behind_operands : List (Expression × Identifier) → Option ((Expression × Bool) × List Terminal) → Option ((Expression × Bool) × List Terminal)
behind_operands ps None = None
behind_operands ps (Some r) = Some ((consed ps r.0.0, r.0.1), r.1)

-- the first, applied to the others one by one
abbrev pub applied : Expression → List Expression → Expression
applied f [] = f
applied f (a ∷ rest) = applied (application f a) rest

-- one more item, or the brace that ends them
abbrev pub item_from : {A : Type 0} → Reader A → Reader (Option A)
item_from one ts = if is_at RightBrace ts then Some (None, tail ts)
    else (do
      x ← one ts
      us ← item_end Semicolon RightBrace x.1
      Some (Some x.0, us))

unfoldable pub next_item_of : {A : Type 0} → Reader A → Reader (Option A)
next_item_of one ts = item_from one (past_semicolons ts)

unfoldable pub var_at : Reader Identifier
var_at ts = if is_at Var ts then name_at ts else None

-- symbols that begin an expression that extends as far right as it can
abbrev pub begins_open : Symbol → Bool
begins_open Backslash = true
begins_open Let = true
begins_open If = true
begins_open _ = false

-- symbols after the first variable of a signature
abbrev pub begins_signature : Symbol → Bool
begins_signature Comma = true
begins_signature OfType = true
begins_signature _ = false

-- symbols after the variable with which a pattern begins, at the start of a declaration
abbrev pub continues_pattern : Symbol → Bool
continues_pattern At = true
continues_pattern Colon = true
continues_pattern _ = false

-- the first two symbols of a pattern binding
abbrev pub begin_binding : Symbol → Symbol → Bool
begin_binding Var second = continues_pattern second
begin_binding _ second = true

unfoldable pub begins_binding : List Terminal → Bool
begins_binding ts = begin_binding (peek ts) (peek (tail ts))

-- the tree of a pattern binding that begins at this place
abbrev pub binding_of : ℕ → ℕ → Pattern → RightSide → Declaration
binding_of line column (variable_pattern n) b = clause n no_patterns b
binding_of line column p b = pattern_binding line column p b

-- the mutually recursive readers: of operands with colons between them, true if they are open, and of declarations
pub record ExpressionReaders : Type 0 where
  pub chain : Reader (Expression × Bool)
  pub decls : Reader (List Declaration)

-- the type after `::` of an expression
abbrev pub typed_behind : Expression → Reader Expression
typed_behind e ts = do
  t ← type_at ts
  Some (typed_expression e t.0, t.1)

-- a type after `::`, if the expression is closed
abbrev pub typed : Expression → Bool → Reader Expression
typed e true ts = Some (e, ts)
typed e false ts = if is_at OfType ts then typed_behind e (tail ts) else Some (e, ts)

module _ (r : ExpressionReaders) where
  unfoldable pub exp_with : Reader Expression
  exp_with ts = do
    c ← r.chain ts
    typed c.0.0 c.0.1 c.1

  abbrev pub aexp_by : Symbol → Reader Expression
  aexp_by Var ts = do
    n ← name_at ts
    Some (variable_expression n.0, n.1)
  aexp_by QVar ts = do
    n ← name_at ts
    Some (variable_expression n.0, n.1)
  aexp_by Integer ts = do
    l ← literal_at ts
    Some (literal_expression l.0, l.1)
  aexp_by Character ts = do
    l ← literal_at ts
    Some (literal_expression l.0, l.1)
  aexp_by Text ts = do
    l ← literal_at ts
    Some (literal_expression l.0, l.1)
  aexp_by Open ts = do
    e ← exp_with (tail ts)
    closing exp_with tuple_of_expressions e.0 e.1
  aexp_by OpenSquare ts = list_in exp_with list_of_expressions (tail ts)
  aexp_by _ ts = None

  unfoldable pub aexp_step : Reader Expression
  aexp_step ts = if begins_gcon ts
      then (do
        n ← gcon_at ts
        Some (constructor_expression n.0, n.1))
      else aexp_by (peek ts) ts

  unfoldable pub next_aexp : Reader (Option Expression)
  next_aexp ts = if begins_aexp (peek ts)
      then (do
        e ← aexp_step ts
        Some (Some e.0, e.1))
      else Some (None, ts)

  -- the arguments of f
  unfoldable pub args_from : Expression → Reader Expression
  args_from f ts = do
    rest ← loop next_aexp ts
    Some (applied f rest.0, rest.1)

  -- ---- right sides, where s is before each

  -- the rest after `|`
  unfoldable pub guarded_in : Symbol → Reader (Option Expression × Expression)
  guarded_in s ts = do
    g ← r.chain ts
    us ← expect s g.1
    e ← exp_with us
    Some ((Some g.0.0, e.0), e.1)

  unfoldable pub next_guarded : Symbol → Reader (Option (Option Expression × Expression))
  next_guarded s ts = if is_at Bar ts
      then (do
        b ← guarded_in s (tail ts)
        Some (Some b.0, b.1))
      else Some (None, ts)

  unfoldable pub bodies_with : Symbol → Reader (List (Option Expression × Expression))
  bodies_with s ts = if is_at s ts
      then (do
        e ← exp_with (tail ts)
        Some ((None, e.0) ∷ [], e.1))
      else if is_at Bar ts
      then (do
        b ← guarded_in s (tail ts)
        behind (b.0 ∷ []) (loop (next_guarded s) b.1))
      else None

  unfoldable pub where_with : Reader (List Declaration)
  where_with ts = if is_at Where ts then r.decls (tail ts) else Some ([], ts)

  unfoldable pub rhs_with : Symbol → Reader RightSide
  rhs_with s ts = do
    bs ← bodies_with s ts
    ds ← where_with bs.1
    Some (right_side (bodies bs.0) (declarations ds.0), ds.1)

  -- ---- operands

  unfoldable pub alt_with : Reader Alternative
  alt_with ts = do
    p ← all_patterns.whole ts
    b ← rhs_with Arrow p.1
    Some (alternative p.0 b.0, b.1)

  -- one or more alternatives, and the brace that ends them
  unfoldable pub alts_with : Reader (List Alternative)
  alts_with ts = if is_at RightBrace (past_semicolons ts) then None else loop (next_item_of alt_with) (past_semicolons ts)

  -- the rest after `case`
  unfoldable pub case_with : Reader Expression
  case_with ts = do
    e ← exp_with ts
    us ← expect Of e.1
    vs ← expect LeftBrace us
    rest ← alts_with vs
    Some (case_expression e.0 (alternatives rest.0), rest.1)

  unfoldable pub opd_with : Reader Expression
  opd_with ts = if is_at Case ts then case_with (tail ts)
      else (do
        f ← aexp_step ts
        args_from f.0 f.1)

  -- the rest after an operand
  unfoldable pub link : Expression → Reader (Expression × Bool)
  link a ts = if is_at Colon ts
      then (do
        b ← r.chain (tail ts)
        Some ((cons_expression (special_at (codes ":") ts) a b.0.0, b.0.1), b.1))
      else Some ((a, false), ts)

  -- ---- expressions that extend as far right as they can

  -- the rest after a backslash
  unfoldable pub lambda_with : Reader Expression
  lambda_with ts = do
    p ← apat_step all_patterns ts
    ps ← apats_with all_patterns p.1
    us ← expect Arrow ps.1
    e ← exp_with us
    Some (lambda (patterns (p.0 ∷ ps.0)) e.0, e.1)

  -- the rest after `let`
  unfoldable pub let_with : Reader Expression
  let_with ts = do
    ds ← r.decls ts
    us ← expect In ds.1
    e ← exp_with us
    Some (let_expression (declarations ds.0) e.0, e.1)

  -- the rest after `if`
  unfoldable pub if_with : Reader Expression
  if_with ts = do
    a ← exp_with ts
    us ← expect Then a.1
    b ← exp_with us
    vs ← expect Else b.1
    c ← exp_with vs
    Some (if_expression a.0 b.0 c.0, c.1)

  abbrev pub open_by : Symbol → Reader Expression
  open_by Backslash ts = lambda_with (tail ts)
  open_by Let ts = let_with (tail ts)
  open_by If ts = if_with (tail ts)
  open_by _ ts = None

  unfoldable pub chain_step : Reader (Expression × Bool)
  chain_step ts = if begins_open (peek ts)
      then (do
        e ← open_by (peek ts) ts
        Some ((e.0, true), e.1))
      else (do
        a ← opd_with ts
        link a.0 a.1)

  -- ---- declarations

  -- a signature after its first variable
  unfoldable pub signature_with : Identifier → Reader Declaration
  signature_with n ts = do
    ns ← behind (n ∷ []) (loop (next_of var_at) ts)
    us ← expect OfType ns.1
    t ← type_at us
    Some (signature ns.0 t.0, t.1)

  -- a clause after its variable
  unfoldable pub clause_with : Identifier → Reader Declaration
  clause_with n ts = do
    ps ← apats_with all_patterns ts
    b ← rhs_with Equals ps.1
    Some (clause n (patterns ps.0) b.0, b.1)

  -- a signature or a clause
  unfoldable pub named_with : Reader Declaration
  named_with ts = do
    n ← var_at ts
    if begins_signature (peek n.1) then signature_with n.0 n.1 else clause_with n.0 n.1

  unfoldable pub binding_with : Reader Declaration
  binding_with ts = do
    p ← all_patterns.whole ts
    b ← rhs_with Equals p.1
    Some (binding_of (line_at ts) (column_at ts) p.0 b.0, b.1)

  unfoldable pub decl_with : Reader Declaration
  decl_with ts = if begins_binding ts then binding_with ts else named_with ts

  unfoldable pub decls_step : Reader (List Declaration)
  decls_step ts = do
    us ← expect LeftBrace ts
    loop (next_item_of decl_with) us

  abbrev pub expression_step : ExpressionReaders
  expression_step = record { chain = chain_step; decls = decls_step }

-- readers that give up after n nested calls
abbrev pub expression_readers : ℕ → ExpressionReaders
expression_readers zero = record { chain = λ _. None; decls = λ _. None }
expression_readers (suc n) = expression_step (expression_readers n)

-- each call takes a token, so as many calls as there are tokens are enough
unfoldable pub all_expressions : ExpressionReaders
all_expressions = record {
  chain = λ ts. (expression_readers (suc (length ts))).chain ts;
  decls = λ ts. (expression_readers (suc (length ts))).decls ts;
}
