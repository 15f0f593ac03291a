-- The grammar of expressions and declarations.
use Rattle.std.specs.Prelude.{◌≡◌, ℕ, ◌+◌, ◌≤◌, List, [], ◌∷◌, false, codes}
use Rattle.hm_syntax.specs.Names.{Identifier, LiteralTree}
use Rattle.hm_syntax.specs.Trees.{TypeTree, Pattern, variable_pattern, Patterns, no_patterns, more_patterns, Expression, variable_expression, constructor_expression, literal_expression, application, lambda, let_expression, if_expression, case_expression, tuple_expression, list_expression, typed_expression, Expressions, no_expressions, more_expressions, Declaration, signature, clause, pattern_binding, Declarations, no_declarations, more_declarations, RightSide, right_side, Bodies, no_bodies, plain_body, guarded_body, Alternative, alternative, Alternatives, no_alternatives, more_alternatives}
use Rattle.hm_parse_grammar.specs.declared.symbol.Symbol.{Symbol}
use Rattle.hm_parse_grammar.specs.declared.symbol.Symbol.TheVariants.{Case, Else, If, In, Let, Of, Then, Where, Colon, OfType, Equals, Backslash, Bar, Arrow, Open, Close, OpenSquare, CloseSquare, LeftBrace, RightBrace, Comma, Semicolon, Var}
use Rattle.hm_parse_grammar.specs.Tokens.{Terminal, name_of}
use Rattle.hm_parse_grammar.specs.Grammar.Marks.{IsQvar}
use Rattle.hm_parse_grammar.specs.Grammar.Types.{Type', Data', Newtype', Synonym'}
use Rattle.hm_parse_grammar.specs.Grammar.Patterns.{special, Gcon, Literal', is_variable, Pat', Apat, Apats}

-- `a : b`, where k is the colon
abbrev pub cons : Terminal → Expression → Expression → Expression
cons k a b = application (application (constructor_expression (special (codes ":") k)) a) b

abbrev pub count_exprs : Expressions → ℕ
count_exprs no_expressions = 0
count_exprs (more_expressions e es) = 1 + count_exprs es

-- {',' var}*
pub data VarCommas : List Identifier → List Terminal → List Terminal → Type 0 where
  vars_none : {ts : List Terminal} → VarCommas [] ts ts
  vars_more : {ns : List Identifier} {k n : Terminal} {us rest : List Terminal} → k.symbol ≡ Comma → n.symbol ≡ Var → VarCommas ns us rest → VarCommas (name_of n ∷ ns) (k ∷ n ∷ us) rest

mutual
  -- exp = open | closed | closed '::' type
  pub data Exp : Expression → List Terminal → List Terminal → Type 0 where
    exp_open : {e : Expression} {ts rest : List Terminal} → OpenExp e ts rest → Exp e ts rest
    exp_closed : {e : Expression} {ts rest : List Terminal} → ClosedExp e ts rest → Exp e ts rest
    exp_typed : {e : Expression} {t : TypeTree} {k : Terminal} {ts us rest : List Terminal} → ClosedExp e ts (k ∷ us) → k.symbol ≡ OfType → Type' t us rest → Exp (typed_expression e t) ts rest

  -- closed = opd | opd ':' closed
  pub data ClosedExp : Expression → List Terminal → List Terminal → Type 0 where
    closed_one : {e : Expression} {ts rest : List Terminal} → Opd e ts rest → ClosedExp e ts rest
    closed_cons : {a b : Expression} {k : Terminal} {ts us rest : List Terminal} → Opd a ts (k ∷ us) → k.symbol ≡ Colon → ClosedExp b us rest → ClosedExp (cons k a b) ts rest

  -- open = lam | opd ':' open
  pub data OpenExp : Expression → List Terminal → List Terminal → Type 0 where
    open_lam : {e : Expression} {ts rest : List Terminal} → Lam e ts rest → OpenExp e ts rest
    open_cons : {a b : Expression} {k : Terminal} {ts us rest : List Terminal} → Opd a ts (k ∷ us) → k.symbol ≡ Colon → OpenExp b us rest → OpenExp (cons k a b) ts rest

  -- lam = '\' apat+ '->' exp | 'let' decls 'in' exp | 'if' exp 'then' exp 'else' exp
  pub data Lam : Expression → List Terminal → List Terminal → Type 0 where
    lam_fun : {p : Pattern} {ps : Patterns} {e : Expression} {k m : Terminal} {us vs ws rest : List Terminal} →
        k.symbol ≡ Backslash → Apat p us vs → Apats ps vs (m ∷ ws) → m.symbol ≡ Arrow → Exp e ws rest → Lam (lambda (more_patterns p ps) e) (k ∷ us) rest
    lam_let : {ds : Declarations} {e : Expression} {k m : Terminal} {us vs rest : List Terminal} →
        k.symbol ≡ Let → Decls ds us (m ∷ vs) → m.symbol ≡ In → Exp e vs rest → Lam (let_expression ds e) (k ∷ us) rest
    lam_if : {a b c : Expression} {k m n : Terminal} {us vs ws rest : List Terminal} →
        k.symbol ≡ If → Exp a us (m ∷ vs) → m.symbol ≡ Then → Exp b vs (n ∷ ws) → n.symbol ≡ Else → Exp c ws rest → Lam (if_expression a b c) (k ∷ us) rest

  -- opd = aexp+ | 'case' exp 'of' '{' alternative ; .. '}', and at least one alternative isn't empty
  pub data Opd : Expression → List Terminal → List Terminal → Type 0 where
    opd_apply : {f e : Expression} {ts us rest : List Terminal} → Aexp f ts us → Args f e us rest → Opd e ts rest
    opd_case : {e : Expression} {a : Alternative} {as_ : Alternatives} {k m o c : Terminal} {us vs rest : List Terminal} →
        k.symbol ≡ Case → Exp e us (m ∷ o ∷ vs) → m.symbol ≡ Of → o.symbol ≡ LeftBrace → Alts (more_alternatives a as_) vs (c ∷ rest) → c.symbol ≡ RightBrace →
        Opd (case_expression e (more_alternatives a as_)) (k ∷ us) rest

  -- aexp*, each an argument of the application before it
  pub data Args : Expression → Expression → List Terminal → List Terminal → Type 0 where
    args_none : {f : Expression} {ts : List Terminal} → Args f f ts ts
    args_more : {f a e : Expression} {ts us rest : List Terminal} → Aexp a ts us → Args (application f a) e us rest → Args f e ts rest

  -- guard = open | closed
  pub data Guard : Expression → List Terminal → List Terminal → Type 0 where
    guard_open : {e : Expression} {ts rest : List Terminal} → OpenExp e ts rest → Guard e ts rest
    guard_closed : {e : Expression} {ts rest : List Terminal} → ClosedExp e ts rest → Guard e ts rest

  -- {'|' guard s exp}*, where s is '=' or '->'
  pub data Guards : Symbol → Bodies → List Terminal → List Terminal → Type 0 where
    guards_none : {s : Symbol} {ts : List Terminal} → Guards s no_bodies ts ts
    guards_more : {s : Symbol} {g e : Expression} {gs : Bodies} {k m : Terminal} {us vs ws rest : List Terminal} →
        k.symbol ≡ Bar → Guard g us (m ∷ vs) → m.symbol ≡ s → Exp e vs ws → Guards s gs ws rest → Guards s (guarded_body g e gs) (k ∷ us) rest

  -- (s exp | {'|' guard s exp}+) ['where' decls]
  pub data Rhs' : Symbol → RightSide → List Terminal → List Terminal → Type 0 where
    rhs_plain : {s : Symbol} {e : Expression} {ds : Declarations} {k : Terminal} {us vs rest : List Terminal} → k.symbol ≡ s → Exp e us vs → MayWhere ds vs rest → Rhs' s (right_side (plain_body e no_bodies) ds) (k ∷ us) rest
    rhs_guards : {s : Symbol} {g e : Expression} {gs : Bodies} {ds : Declarations} {ts us rest : List Terminal} → Guards s (guarded_body g e gs) ts us → MayWhere ds us rest → Rhs' s (right_side (guarded_body g e gs) ds) ts rest

  -- ['where' decls]
  pub data MayWhere : Declarations → List Terminal → List Terminal → Type 0 where
    no_where : {ts : List Terminal} → MayWhere no_declarations ts ts
    some_where : {ds : Declarations} {k : Terminal} {us rest : List Terminal} → k.symbol ≡ Where → Decls ds us rest → MayWhere ds (k ∷ us) rest

  -- alternative = pat ('->' exp | {'|' guard '->' exp}+) ['where' decls]
  pub data Alt' : Alternative → List Terminal → List Terminal → Type 0 where
    alt' : {p : Pattern} {r : RightSide} {ts us rest : List Terminal} → Pat' p ts us → Rhs' Arrow r us rest → Alt' (alternative p r) ts rest

  -- alternative ; .. where any item may be empty
  pub data Alts : Alternatives → List Terminal → List Terminal → Type 0 where
    alts_none : {ts : List Terminal} → Alts no_alternatives ts ts
    alts_last : {a : Alternative} {ts rest : List Terminal} → Alt' a ts rest → Alts (more_alternatives a no_alternatives) ts rest
    alts_empty : {as_ : Alternatives} {k : Terminal} {us rest : List Terminal} → k.symbol ≡ Semicolon → Alts as_ us rest → Alts as_ (k ∷ us) rest
    alts_more : {a : Alternative} {as_ : Alternatives} {k : Terminal} {ts us rest : List Terminal} → Alt' a ts (k ∷ us) → k.symbol ≡ Semicolon → Alts as_ us rest → Alts (more_alternatives a as_) ts rest

  -- aexp = qvar | gcon | literal | '(' exp ')' | tuple of exps | '[' exp {',' exp}* ']'
  pub data Aexp : Expression → List Terminal → List Terminal → Type 0 where
    aexp_var : {k : Terminal} {rest : List Terminal} → IsQvar k → Aexp (variable_expression (name_of k)) (k ∷ rest) rest
    aexp_con : {n : Identifier} {ts rest : List Terminal} → Gcon n ts rest → Aexp (constructor_expression n) ts rest
    aexp_literal : {l : LiteralTree} {ts rest : List Terminal} → Literal' l ts rest → Aexp (literal_expression l) ts rest
    aexp_paren : {e : Expression} {k m : Terminal} {us rest : List Terminal} → k.symbol ≡ Open → Exp e us (m ∷ rest) → m.symbol ≡ Close → Aexp e (k ∷ us) rest
    aexp_tuple : {e f : Expression} {es : Expressions} {k m : Terminal} {us vs rest : List Terminal} →
        k.symbol ≡ Open → Exp e us vs → ExpCommas (more_expressions f es) vs (m ∷ rest) → m.symbol ≡ Close → count_exprs (more_expressions e (more_expressions f es)) ≤ 15 →
        Aexp (tuple_expression (more_expressions e (more_expressions f es))) (k ∷ us) rest
    aexp_list : {e : Expression} {es : Expressions} {k m : Terminal} {us vs rest : List Terminal} →
        k.symbol ≡ OpenSquare → Exp e us vs → ExpCommas es vs (m ∷ rest) → m.symbol ≡ CloseSquare → Aexp (list_expression (more_expressions e es)) (k ∷ us) rest

  -- {',' exp}*
  pub data ExpCommas : Expressions → List Terminal → List Terminal → Type 0 where
    exps_none : {ts : List Terminal} → ExpCommas no_expressions ts ts
    exps_more : {e : Expression} {es : Expressions} {k : Terminal} {us vs rest : List Terminal} → k.symbol ≡ Comma → Exp e us vs → ExpCommas es vs rest → ExpCommas (more_expressions e es) (k ∷ us) rest

  -- decls = '{' decl ; .. '}'
  pub data Decls : Declarations → List Terminal → List Terminal → Type 0 where
    decls : {ds : Declarations} {k m : Terminal} {us rest : List Terminal} → k.symbol ≡ LeftBrace → DeclItems ds us (m ∷ rest) → m.symbol ≡ RightBrace → Decls ds (k ∷ us) rest

  -- decl ; .. where any item may be empty
  pub data DeclItems : Declarations → List Terminal → List Terminal → Type 0 where
    decls_none : {ts : List Terminal} → DeclItems no_declarations ts ts
    decls_last : {d : Declaration} {ts rest : List Terminal} → Decl d ts rest → DeclItems (more_declarations d no_declarations) ts rest
    decls_empty : {ds : Declarations} {k : Terminal} {us rest : List Terminal} → k.symbol ≡ Semicolon → DeclItems ds us rest → DeclItems ds (k ∷ us) rest
    decls_more : {d : Declaration} {ds : Declarations} {k : Terminal} {ts us rest : List Terminal} → Decl d ts (k ∷ us) → k.symbol ≡ Semicolon → DeclItems ds us rest → DeclItems (more_declarations d ds) ts rest

  -- decl = var {',' var}* '::' type | clause | binding
  -- clause = var apat* ('=' exp | {'|' guard '=' exp}+) ['where' decls]
  -- binding = pat ('=' exp | {'|' guard '=' exp}+) ['where' decls]
  -- A binding of a single variable, as in `(x) = e`, has the tree of the clause `x = e`.
  pub data Decl : Declaration → List Terminal → List Terminal → Type 0 where
    decl_signature : {ns : List Identifier} {t : TypeTree} {k m : Terminal} {us vs rest : List Terminal} →
        k.symbol ≡ Var → VarCommas ns us (m ∷ vs) → m.symbol ≡ OfType → Type' t vs rest → Decl (signature (name_of k ∷ ns) t) (k ∷ us) rest
    decl_clause : {ps : Patterns} {r : RightSide} {k : Terminal} {us vs rest : List Terminal} → k.symbol ≡ Var → Apats ps us vs → Rhs' Equals r vs rest → Decl (clause (name_of k) ps r) (k ∷ us) rest
    decl_pattern : {p : Pattern} {r : RightSide} {k : Terminal} {us vs rest : List Terminal} →
        Pat' p (k ∷ us) vs → is_variable p ≡ false → Rhs' Equals r vs rest → Decl (pattern_binding k.line k.column p r) (k ∷ us) rest
    decl_variable : {n : Identifier} {r : RightSide} {ts us rest : List Terminal} → Pat' (variable_pattern n) ts us → Rhs' Equals r us rest → Decl (clause n no_patterns r) ts rest

-- topdecl = 'data' tycon tyvar* '=' data_constructor {'|' data_constructor}* | 'newtype' tycon tyvar* '=' con atype
--         | 'type' tycon tyvar* '=' type | decl
pub data Topdecl : Declaration → List Terminal → List Terminal → Type 0 where
  topdecl_data : {d : Declaration} {ts rest : List Terminal} → Data' d ts rest → Topdecl d ts rest
  topdecl_newtype : {d : Declaration} {ts rest : List Terminal} → Newtype' d ts rest → Topdecl d ts rest
  topdecl_synonym : {d : Declaration} {ts rest : List Terminal} → Synonym' d ts rest → Topdecl d ts rest
  topdecl_decl : {d : Declaration} {ts rest : List Terminal} → Decl d ts rest → Topdecl d ts rest
