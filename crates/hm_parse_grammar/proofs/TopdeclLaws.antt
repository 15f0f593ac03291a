-- The declarations of a module are read as they are spelled.
use Rattle.std.proofs.Common.{◌≡◌, ◌<◌, ◌+◌, List, [], ◌∷◌, length, Bool, true, false, Some, refl, sym, ap, arith}
use Rattle.hm_syntax.specs.Trees.{Declaration}
use Rattle.hm_parse_grammar.specs.declared.symbol.Symbol.{Symbol}
use Rattle.hm_parse_grammar.specs.declared.symbol.Symbol.TheVariants.{Data, Newtype, TypeWord, Bar, Comma, Close, Semicolon, RightBrace}
use Rattle.hm_parse_grammar.specs.Symbols.{same}
use Rattle.hm_parse_grammar.specs.Tokens.{Terminal}
use Rattle.hm_parse_grammar.specs.Grammar.Expressions.{Decl, Topdecl, topdecl_data, topdecl_newtype, topdecl_synonym, topdecl_decl}
use Rattle.hm_parse_grammar.specs.Reading.Basics.{peek}
use Rattle.hm_parse_grammar.specs.Reading.Types.{begins_atype}
use Rattle.hm_parse_grammar.specs.Reading.Patterns.{begins_apat}
use Rattle.hm_parse_grammar.specs.Reading.Expressions.{decl_with, all_expressions}
use Rattle.hm_parse_grammar.specs.Reading.Topdecls.{topdecl_at}
use Rattle.hm_parse_grammar.proofs.Holds.{Holds, holds_if, holds_more, same_true}
use Rattle.hm_parse_grammar.proofs.Lists.{ends_item, Reads}
use Rattle.hm_parse_grammar.proofs.TypeDeclarationLaws.{data_found, data_short, data_begins, only_data, newtype_found, newtype_short, newtype_begins, only_newtype, synonym_found, synonym_short, synonym_begins, only_synonym}
use Rattle.hm_parse_grammar.proofs.ExpressionLaws.{decl_found, decl_short, expressions_agree}
use Rattle.hm_parse_grammar.proofs.OnlyExpressions.{only_decl, decl_begins}

decl_reads : (ts : List Terminal) → Holds (λ (x : Declaration × List Terminal). Decl x.0 ts x.1) (decl_with all_expressions ts)
decl_reads ts = record { holds = (decl_found (length ts + 1) all_expressions all_expressions (expressions_agree (length ts + 1)) ts (omega arith)).holds }

topdecl_found : (ts : List Terminal) → Holds (λ (x : Declaration × List Terminal). Topdecl x.0 ts x.1) (topdecl_at ts)
unfolding topdecl_at
topdecl_found [] = holds_more (decl_reads []) (λ x d. topdecl_decl d)
topdecl_found (k ∷ ts) =
    holds_if _ _ _
    (λ q. holds_more (data_found k ts (same_true _ _ q)) (λ x d. topdecl_data d))
    (λ _. holds_if _ _ _
    (λ q. holds_more (newtype_found k ts (same_true _ _ q)) (λ x d. topdecl_newtype d))
    (λ _. holds_if _ _ _
    (λ q. holds_more (synonym_found k ts (same_true _ _ q)) (λ x d. topdecl_synonym d))
    (λ _. holds_more (decl_reads (k ∷ ts)) (λ x d. topdecl_decl d))))

topdecl_short : (d : Declaration) (ts rest : List Terminal) → Topdecl d ts rest → length rest < length ts
topdecl_short _ _ _ (topdecl_data d) = data_short d
topdecl_short _ _ _ (topdecl_newtype d) = newtype_short d
topdecl_short _ _ _ (topdecl_synonym d) = synonym_short d
topdecl_short _ _ _ (topdecl_decl d) = decl_short d

-- what a declaration begins with
abbrev pub begins_topdecl : Symbol → Bool
begins_topdecl Data = true
begins_topdecl Newtype = true
begins_topdecl TypeWord = true
begins_topdecl s = begins_apat s

apat_topdecl : (s : Symbol) → begins_apat s ≡ true → begins_topdecl s ≡ true
apat_topdecl Data h = refl
apat_topdecl Newtype h = refl
apat_topdecl TypeWord h = refl
apat_topdecl _ h = h

pub topdecl_begins : {d : Declaration} {ts rest : List Terminal} → Topdecl d ts rest → begins_topdecl (peek ts) ≡ true
topdecl_begins (topdecl_data d) = ap begins_topdecl (data_begins d)
topdecl_begins (topdecl_newtype d) = ap begins_topdecl (newtype_begins d)
topdecl_begins (topdecl_synonym d) = ap begins_topdecl (synonym_begins d)
topdecl_begins {ts = ts} (topdecl_decl d) = apat_topdecl (peek ts) (decl_begins d)

apat_no_data : (s : Symbol) → begins_apat s ≡ true → same s Data ≡ false
apat_no_data Data h = cc
apat_no_data _ h = refl

apat_no_newtype : (s : Symbol) → begins_apat s ≡ true → same s Newtype ≡ false
apat_no_newtype Newtype h = cc
apat_no_newtype _ h = refl

apat_no_synonym : (s : Symbol) → begins_apat s ≡ true → same s TypeWord ≡ false
apat_no_synonym TypeWord h = cc
apat_no_synonym _ h = refl

item_atype : (s : Symbol) → ends_item s ≡ true → begins_atype s ≡ false
item_atype Comma h = refl
item_atype Close h = refl
item_atype Semicolon h = refl
item_atype RightBrace h = refl
item_atype _ h = cc

item_bar : (s : Symbol) → ends_item s ≡ true → same s Bar ≡ false
item_bar Bar h = sym h
item_bar _ h = refl

topdecl_only : (d : Declaration) (ts rest : List Terminal) → Topdecl d ts rest → ends_item (peek rest) ≡ true → topdecl_at ts ≡ Some (d, rest)
unfolding topdecl_at
topdecl_only _ ts rest (topdecl_data d) h = rw (ap (λ z. same z Data) (data_begins d)) (only_data d (item_bar (peek rest) h) (item_atype (peek rest) h))
topdecl_only _ ts rest (topdecl_newtype d) h = rw (ap (λ z. same z Data) (newtype_begins d)) (rw (ap (λ z. same z Newtype) (newtype_begins d)) (only_newtype d))
topdecl_only _ ts rest (topdecl_synonym d) h =
    rw (ap (λ z. same z Data) (synonym_begins d)) (rw (ap (λ z. same z Newtype) (synonym_begins d)) (rw (ap (λ z. same z TypeWord) (synonym_begins d)) (only_synonym d (item_atype (peek rest) h))))
topdecl_only _ ts rest (topdecl_decl d) h = rw (apat_no_data (peek ts) (decl_begins d)) (rw (apat_no_newtype (peek ts) (decl_begins d)) (rw (apat_no_synonym (peek ts) (decl_begins d)) (only_decl d h)))

begins_no_item : (s : Symbol) → begins_topdecl s ≡ true → ends_item s ≡ false
begins_no_item Comma h = sym h
begins_no_item Close h = sym h
begins_no_item Semicolon h = sym h
begins_no_item RightBrace h = sym h
begins_no_item _ h = refl

pub topdecl_reads : Reads Topdecl topdecl_at
topdecl_reads = record { found = topdecl_found; only = topdecl_only; short = topdecl_short; begins = λ d ts rest a. begins_no_item (peek ts) (topdecl_begins a) }
