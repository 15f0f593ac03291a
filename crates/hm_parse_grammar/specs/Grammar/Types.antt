-- The grammar of types.
use Rattle.std.specs.Prelude.{◌≡◌, ℕ, ◌+◌, ◌≤◌, List, [], ◌∷◌}
use Rattle.hm_syntax.specs.Names.{Identifier}
use Rattle.hm_syntax.specs.Trees.{TypeTree, variable_type, constructor_type, function_type, tuple_type, list_type, unit_type, TypeTrees, no_types, more_types, DataConstructor, data_constructor, DataConstructors, no_constructors, more_constructors, Declaration, data_declaration, newtype_declaration, synonym_declaration}
use Rattle.hm_parse_grammar.specs.declared.symbol.Symbol.TheVariants.{Open, Close, OpenSquare, CloseSquare, Comma, Arrow, Bar, Data, Newtype, TypeWord, Equals, Var, Con}
use Rattle.hm_parse_grammar.specs.Tokens.{Terminal, name_of}
use Rattle.hm_parse_grammar.specs.Grammar.Marks.{IsQcon, NoArrow}

abbrev pub count_types : TypeTrees → ℕ
count_types no_types = 0
count_types (more_types t ts) = 1 + count_types ts

mutual
  -- type = btype ['->' type]
  -- No whole type is directly followed by '->'.
  pub data Type' : TypeTree → List Terminal → List Terminal → Type 0 where
    type_one : {t : TypeTree} {ts rest : List Terminal} → Btype t ts rest → NoArrow rest → Type' t ts rest
    type_arrow : {t u : TypeTree} {k : Terminal} {ts us rest : List Terminal} → Btype t ts (k ∷ us) → k.symbol ≡ Arrow → Type' u us rest → Type' (function_type t u) ts rest

  -- btype = atype | qtycon atype+
  pub data Btype : TypeTree → List Terminal → List Terminal → Type 0 where
    btype_one : {t : TypeTree} {ts rest : List Terminal} → Atype t ts rest → Btype t ts rest
    btype_apply : {t : TypeTree} {ts : TypeTrees} {k : Terminal} {us vs rest : List Terminal} → IsQcon k → Atype t us vs → Atypes ts vs rest → Btype (constructor_type (name_of k) (more_types t ts)) (k ∷ us) rest

  -- atype = qtycon | tyvar | '(' ')' | '(' type ')' | tuple of types | '[' type ']'
  pub data Atype : TypeTree → List Terminal → List Terminal → Type 0 where
    atype_con : {k : Terminal} {rest : List Terminal} → IsQcon k → Atype (constructor_type (name_of k) no_types) (k ∷ rest) rest
    atype_var : {k : Terminal} {rest : List Terminal} → k.symbol ≡ Var → Atype (variable_type (name_of k)) (k ∷ rest) rest
    atype_unit : {k m : Terminal} {rest : List Terminal} → k.symbol ≡ Open → m.symbol ≡ Close → Atype unit_type (k ∷ m ∷ rest) rest
    atype_paren : {t : TypeTree} {k m : Terminal} {us rest : List Terminal} → k.symbol ≡ Open → Type' t us (m ∷ rest) → m.symbol ≡ Close → Atype t (k ∷ us) rest
    atype_tuple : {t u : TypeTree} {ts : TypeTrees} {k m : Terminal} {us vs rest : List Terminal} →
        k.symbol ≡ Open → Type' t us vs → TypeCommas (more_types u ts) vs (m ∷ rest) → m.symbol ≡ Close → count_types (more_types t (more_types u ts)) ≤ 15 →
        Atype (tuple_type (more_types t (more_types u ts))) (k ∷ us) rest
    atype_list : {t : TypeTree} {k m : Terminal} {us rest : List Terminal} → k.symbol ≡ OpenSquare → Type' t us (m ∷ rest) → m.symbol ≡ CloseSquare → Atype (list_type t) (k ∷ us) rest

  -- atype*
  pub data Atypes : TypeTrees → List Terminal → List Terminal → Type 0 where
    atypes_none : {ts : List Terminal} → Atypes no_types ts ts
    atypes_more : {t : TypeTree} {ts : TypeTrees} {us vs rest : List Terminal} → Atype t us vs → Atypes ts vs rest → Atypes (more_types t ts) us rest

  -- {',' type}*
  pub data TypeCommas : TypeTrees → List Terminal → List Terminal → Type 0 where
    types_none : {ts : List Terminal} → TypeCommas no_types ts ts
    types_more : {t : TypeTree} {ts : TypeTrees} {k : Terminal} {us vs rest : List Terminal} → k.symbol ≡ Comma → Type' t us vs → TypeCommas ts vs rest → TypeCommas (more_types t ts) (k ∷ us) rest

-- data_constructor = con atype*
pub data Constr' : DataConstructor → List Terminal → List Terminal → Type 0 where
  constr' : {ts : TypeTrees} {k : Terminal} {us rest : List Terminal} → k.symbol ≡ Con → Atypes ts us rest → Constr' (data_constructor (name_of k) ts) (k ∷ us) rest

-- {'|' data_constructor}*
pub data Bars : DataConstructors → List Terminal → List Terminal → Type 0 where
  bars_none : {ts : List Terminal} → Bars no_constructors ts ts
  bars_more : {c : DataConstructor} {cs : DataConstructors} {k : Terminal} {us vs rest : List Terminal} → k.symbol ≡ Bar → Constr' c us vs → Bars cs vs rest → Bars (more_constructors c cs) (k ∷ us) rest

-- tyvar*
pub data Tyvars : List Identifier → List Terminal → List Terminal → Type 0 where
  tyvars_none : {ts : List Terminal} → Tyvars [] ts ts
  tyvars_more : {ns : List Identifier} {k : Terminal} {us rest : List Terminal} → k.symbol ≡ Var → Tyvars ns us rest → Tyvars (name_of k ∷ ns) (k ∷ us) rest

-- 'data' tycon tyvar* '=' data_constructor {'|' data_constructor}*
pub data Data' : Declaration → List Terminal → List Terminal → Type 0 where
  data' : {ps : List Identifier} {c : DataConstructor} {cs : DataConstructors} {k n m : Terminal} {us vs ws rest : List Terminal} →
      k.symbol ≡ Data → n.symbol ≡ Con → Tyvars ps us (m ∷ vs) → m.symbol ≡ Equals → Constr' c vs ws → Bars cs ws rest →
      Data' (data_declaration (name_of n) ps (more_constructors c cs)) (k ∷ n ∷ us) rest

-- 'newtype' tycon tyvar* '=' con atype
pub data Newtype' : Declaration → List Terminal → List Terminal → Type 0 where
  newtype' : {ps : List Identifier} {t : TypeTree} {k n m c : Terminal} {us vs rest : List Terminal} →
      k.symbol ≡ Newtype → n.symbol ≡ Con → Tyvars ps us (m ∷ c ∷ vs) → m.symbol ≡ Equals → c.symbol ≡ Con → Atype t vs rest →
      Newtype' (newtype_declaration (name_of n) ps (data_constructor (name_of c) (more_types t no_types))) (k ∷ n ∷ us) rest

-- 'type' tycon tyvar* '=' type
pub data Synonym' : Declaration → List Terminal → List Terminal → Type 0 where
  synonym' : {ps : List Identifier} {t : TypeTree} {k n m : Terminal} {us vs rest : List Terminal} →
      k.symbol ≡ TypeWord → n.symbol ≡ Con → Tyvars ps us (m ∷ vs) → m.symbol ≡ Equals → Type' t vs rest → Synonym' (synonym_declaration (name_of n) ps t) (k ∷ n ∷ us) rest
