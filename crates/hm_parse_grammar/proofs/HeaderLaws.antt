-- What stands before a module's declarations is read as it is spelled.
use Rattle.std.proofs.Common.{◌≡◌, inl, inr, ℕ, ◌<◌, ◌≤◌, List, [], ◌∷◌, length, Bool, true, false, Option, Some, None, refl, sym, ap, ◌∙◌, subst, cond, arith, codes}
use Rattle.hm_syntax.specs.Names.{Identifier}
use Rattle.hm_syntax.specs.declared.ast.Export.{Export}
use Rattle.hm_syntax.specs.declared.ast.Export.TheVariants as exports
use Rattle.hm_syntax.specs.declared.ast.SubItems.{SubItems}
use Rattle.hm_syntax.specs.declared.ast.SubItems.TheVariants as subs
use Rattle.hm_syntax.specs.declared.ast.Import.{Import}
use Rattle.hm_syntax.specs.declared.ast.ImportList.{ImportList}
use Rattle.hm_syntax.specs.declared.ast.ImportList.TheVariants as lists
use Rattle.hm_syntax.specs.declared.ast.ImportItem.{ImportItem}
use Rattle.hm_parse_grammar.specs.declared.symbol.Symbol.{Symbol}
use Rattle.hm_parse_grammar.specs.declared.symbol.Symbol.TheVariants.{Open, Close, Comma, Import as ImportWord, Module as ModuleWord, Var, Con, QVar, QCon}
use Rattle.hm_parse_grammar.specs.Symbols.{same}
use Rattle.hm_parse_grammar.specs.Tokens.{Terminal, modid_of}
use Rattle.hm_parse_grammar.specs.Grammar.Marks.{IsQcon, Commas, commas_none, commas_more, Row, row_none, row_some, MayComma, no_comma, one_comma, Listed, listed}
use Rattle.hm_parse_grammar.specs.Grammar.Headers.{ConName, con_name, MaySubs, no_subs, subs_all, subs_some, Export', export_var, export_con, export_whole, MayExports, no_exports, some_exports, Item', item_var, item_con, MayQualified, not_qualified, qualified, MayAlias, no_alias, alias, MayList, every, only, hiding, Import', import}
use Rattle.hm_parse_grammar.specs.Reading.Basics.{Reader, peek, tail, is_at_word, modid_at, loop, behind}
use Rattle.hm_parse_grammar.specs.Reading.Headers.{con_at, next_con, con_row, subs_in, subs_at, export_by, export_at, item_by, item_at, next_listed, next_export, next_item, listed_in, exports_in, items_in, exports_at, qualified_at, alias_at, list_at, import_in, import_at}
use Rattle.hm_parse_grammar.proofs.Holds.{Holds, holds_none, holds_some, holds_if, holds_then, holds_expect, holds_modid, same_true}
use Rattle.hm_parse_grammar.proofs.Rows.{Step, Steps, loop_stops, loop_takes, loop_found}
use Rattle.hm_parse_grammar.proofs.Lists.{ends_item, Reads, listed_found, listed_only}
use Rattle.hm_parse_grammar.proofs.Words.{word_is, at_word}

-- ---- constructors

pub con_found : (ts : List Terminal) → Holds (λ (x : Identifier × List Terminal). ConName x.0 ts x.1) (con_at ts)
unfolding con_at
con_found [] = holds_none
con_found (k ∷ ts) = holds_if _ _ _ (λ q. holds_some _ (con_name (same_true _ _ q))) (λ _. holds_none)

con_short : {n : Identifier} {ts rest : List Terminal} → ConName n ts rest → length rest < length ts
con_short (con_name c) = omega arith

con_only : {n : Identifier} {ts rest : List Terminal} → ConName n ts rest → con_at ts ≡ Some (n, rest)
unfolding con_at
con_only (con_name c) = rw c refl

con_step : (ts : List Terminal) → Holds (Step (Commas ConName) ts) (next_con ts)
unfolding next_con
con_step [] = holds_some _ commas_none
con_step (k ∷ ts) =
    holds_if _ _ _
    (λ q. holds_then _ _ (con_found ts) (λ (n : Identifier × List Terminal) d. holds_some (Some n.0, n.1) (omega (arith, con_short d), λ ns us ds. commas_more (same_true _ _ q) d ds)))
    (λ _. holds_some _ commas_none)

pub con_steps : Steps (Commas ConName) next_con
con_steps = record { step = con_step }

cons_only : {ns : List Identifier} {ts rest : List Terminal} → Commas ConName ns ts rest → same (peek rest) Comma ≡ false → loop next_con ts ≡ Some (ns, rest)
unfolding next_con
cons_only (commas_none {ts = ts}) h = loop_stops con_steps ts ts (rw h refl)
cons_only (commas_more {x = n} {k = k} {us = us} {vs = vs} q d ds) h =
    loop_takes con_steps (k ∷ us) vs n (rw (q, con_only d) refl) ∙ rw (cons_only ds h) refl

cons_short : {ns : List Identifier} {ts rest : List Terminal} → Commas ConName ns ts rest → length rest ≤ length ts
cons_short commas_none = omega arith
cons_short (commas_more q d ds) = omega (arith, con_short d, cons_short ds)

con_row_found : (ts : List Terminal) → Holds (λ (x : List Identifier × List Terminal). Row ConName x.0 ts x.1) (con_row ts)
unfolding con_row
con_row_found ts = holds_then _ _ (con_found ts) (λ n dn. behind_found n.0 n.1 dn (loop next_con n.1) (loop_found con_steps n.1))
  where
    behind_found : (n : Identifier) (us : List Terminal) → ConName n ts us → (r : Option (List Identifier × List Terminal)) → Holds (λ (x : List Identifier × List Terminal). Commas ConName x.0 us x.1) r →
        Holds (λ (x : List Identifier × List Terminal). Row ConName x.0 ts x.1) (behind (n ∷ []) r)
    behind_found n us d None h = holds_none
    behind_found n us d (Some x) h = holds_some _ (row_some d (h.holds x refl))

-- ---- subs

subs_in_found : (k : Terminal) (ts : List Terminal) → k.symbol ≡ Open → Holds (λ (x : SubItems × List Terminal). MaySubs x.0 (k ∷ ts) x.1) (subs_in ts)
unfolding subs_in con_row con_at
subs_in_found k [] o = holds_none
subs_in_found k (d ∷ ts) o =
    holds_if _ _ _
    (λ q. holds_expect Close ts _ (λ m us eq c. holds_some _ (subst (λ z. MaySubs subs.All (k ∷ d ∷ z) us) (sym eq) (subs_all o (same_true _ _ q) c))))
    (λ _. holds_if _ _ _
    (λ c. holds_some _ (subs_some o row_none (same_true _ _ c)))
    (λ _. holds_then _ _ (con_row_found (d ∷ ts)) (λ (ns : List Identifier × List Terminal) dns.
    holds_expect Close ns.1 _ (λ m us eq c. holds_some _ (subs_some o (subst (λ z. Row ConName ns.0 (d ∷ ts) z) eq dns) c)))))

subs_found : (ts : List Terminal) → Holds (λ (x : SubItems × List Terminal). MaySubs x.0 ts x.1) (subs_at ts)
unfolding subs_at
subs_found [] = holds_some _ no_subs
subs_found (k ∷ ts) = holds_if _ _ _ (λ q. subs_in_found k ts (same_true _ _ q)) (λ _. holds_some _ no_subs)

subs_short : {s : SubItems} {ts rest : List Terminal} → MaySubs s ts rest → length rest ≤ length ts
subs_short no_subs = omega arith
subs_short (subs_all o d c) = omega arith
subs_short (subs_some o row_none c) = omega arith
subs_short (subs_some o (row_some d ds) c) = omega (arith, con_short d, cons_short ds)

subs_only : {s : SubItems} {ts rest : List Terminal} → MaySubs s ts rest → same (peek rest) Open ≡ false → subs_at ts ≡ Some (s, rest)
unfolding subs_at subs_in con_row con_at
subs_only no_subs h = rw h refl
subs_only (subs_all o d c) h = rw (o, d, c) refl
subs_only (subs_some o row_none c) h = rw (o, c) refl
subs_only (subs_some o (row_some (con_name q) ds) c) h = rw o (rw q (rw (cons_only ds (ap (λ z. same z Comma) c)) (rw c refl)))

-- ---- exports

follows_subs : (s : Symbol) → ends_item s ≡ true → same s Open ≡ false
follows_subs Open h = sym h
follows_subs _ h = refl

export_found : (ts : List Terminal) → Holds (λ (x : Export × List Terminal). Export' x.0 ts x.1) (export_at ts)
unfolding export_at
export_found [] = holds_none
export_found (k ∷ ts) = by_symbol k.symbol refl
  where
    by_symbol : (s : Symbol) → k.symbol ≡ s → Holds (λ (x : Export × List Terminal). Export' x.0 (k ∷ ts) x.1) (export_by s (k ∷ ts))
    by_symbol Var e = holds_some _ (export_var (inl e))
    by_symbol QVar e = holds_some _ (export_var (inr e))
    by_symbol Con e = holds_then _ _ (subs_found ts) (λ s d. holds_some _ (export_con (inl e) d))
    by_symbol QCon e = holds_then _ _ (subs_found ts) (λ s d. holds_some _ (export_con (inr e) d))
    by_symbol ModuleWord e = holds_modid ts _ (λ n us eq c. holds_some _ (subst (λ z. Export' (exports.Whole (modid_of n)) (k ∷ z) us) (sym eq) (export_whole e c)))
    by_symbol _ e = holds_none

export_short : (x : Export) (ts rest : List Terminal) → Export' x ts rest → length rest < length ts
export_short _ _ _ (export_var q) = omega arith
export_short _ _ _ (export_con q d) = omega (arith, subs_short d)
export_short _ _ _ (export_whole q n) = omega arith

export_begins : (x : Export) (ts rest : List Terminal) → Export' x ts rest → ends_item (peek ts) ≡ false
export_begins _ _ _ (export_var (inl q)) = ap ends_item q
export_begins _ _ _ (export_var (inr q)) = ap ends_item q
export_begins _ _ _ (export_con (inl q) d) = ap ends_item q
export_begins _ _ _ (export_con (inr q) d) = ap ends_item q
export_begins _ _ _ (export_whole q n) = ap ends_item q

pub modid_only : (m : Terminal) (us : List Terminal) → IsQcon m → modid_at (m ∷ us) ≡ Some (modid_of m, us)
unfolding modid_at
modid_only m us (inl q) = rw q refl
modid_only m us (inr q) = rw q refl

export_only : (x : Export) (ts rest : List Terminal) → Export' x ts rest → ends_item (peek rest) ≡ true → export_at ts ≡ Some (x, rest)
unfolding export_at
export_only _ _ rest (export_var (inl q)) h = rw q refl
export_only _ _ rest (export_var (inr q)) h = rw q refl
export_only _ _ rest (export_con (inl q) d) h = rw q (rw (subs_only d (follows_subs (peek rest) h)) refl)
export_only _ _ rest (export_con (inr q) d) h = rw q (rw (subs_only d (follows_subs (peek rest) h)) refl)
export_only _ _ rest (export_whole {n = n} q c) h = rw q (rw (modid_only n rest c) refl)

pub export_reads : Reads Export' export_at
export_reads = record { found = export_found; only = export_only; short = export_short; begins = export_begins }

-- ---- items

item_found : (ts : List Terminal) → Holds (λ (x : ImportItem × List Terminal). Item' x.0 ts x.1) (item_at ts)
unfolding item_at
item_found [] = holds_none
item_found (k ∷ ts) = by_symbol k.symbol refl
  where
    by_symbol : (s : Symbol) → k.symbol ≡ s → Holds (λ (x : ImportItem × List Terminal). Item' x.0 (k ∷ ts) x.1) (item_by s (k ∷ ts))
    by_symbol Var e = holds_some _ (item_var e)
    by_symbol Con e = holds_then _ _ (subs_found ts) (λ s d. holds_some _ (item_con e d))
    by_symbol _ e = holds_none

item_short : (x : ImportItem) (ts rest : List Terminal) → Item' x ts rest → length rest < length ts
item_short _ _ _ (item_var q) = omega arith
item_short _ _ _ (item_con q d) = omega (arith, subs_short d)

item_begins : (x : ImportItem) (ts rest : List Terminal) → Item' x ts rest → ends_item (peek ts) ≡ false
item_begins _ _ _ (item_var q) = ap ends_item q
item_begins _ _ _ (item_con q d) = ap ends_item q

item_only : (x : ImportItem) (ts rest : List Terminal) → Item' x ts rest → ends_item (peek rest) ≡ true → item_at ts ≡ Some (x, rest)
unfolding item_at
item_only _ _ rest (item_var q) h = rw q refl
item_only _ _ rest (item_con q d) h = rw q (rw (subs_only d (follows_subs (peek rest) h)) refl)

pub item_reads : Reads Item' item_at
item_reads = record { found = item_found; only = item_only; short = item_short; begins = item_begins }

-- ---- lists

module _ {A : Type 0} {X : _} {one : Reader A} (r : Reads X one) where
  listed_at_found : (k : Terminal) (ts : List Terminal) → k.symbol ≡ Open → Holds (λ (x : List A × List Terminal). Listed X x.0 (k ∷ ts) x.1) (listed_in (next_listed one) ts)
  listed_at_found k ts o = record { holds = λ x e. let c = (listed_found X one r ts).holds x e in listed o c.front c.comma c.close }

pub exports_found : (ts : List Terminal) → Holds (λ (x : Option (List Export) × List Terminal). MayExports x.0 ts x.1) (exports_at ts)
unfolding exports_at exports_in next_export
exports_found [] = holds_some _ no_exports
exports_found (k ∷ ts) =
    holds_if _ _ _
    (λ q. holds_then _ _ (listed_at_found export_reads k ts (same_true _ _ q)) (λ es d. holds_some _ (some_exports d)))
    (λ _. holds_some _ no_exports)

pub exports_only : {es : Option (List Export)} {ts rest : List Terminal} → MayExports es ts rest → same (peek rest) Open ≡ false → exports_at ts ≡ Some (es, rest)
unfolding exports_at exports_in next_export
exports_only no_exports h = rw h refl
exports_only (some_exports (listed o row comma c)) h = rw o (rw (listed_only Export' export_at export_reads row comma c) refl)

-- ---- imports

alias_found : (ts : List Terminal) → Holds (λ (x : Option Identifier × List Terminal). MayAlias x.0 ts x.1) (alias_at ts)
unfolding alias_at
alias_found [] = holds_some _ no_alias
alias_found (k ∷ ts) =
    holds_if _ _ _
    (λ q. holds_modid ts _ (λ n us eq c. holds_some _ (subst (λ z. MayAlias (Some (modid_of n)) (k ∷ z) us) (sym eq) (alias (word_is _ k ts q) c))))
    (λ _. holds_some _ no_alias)

list_found : (ts : List Terminal) → Holds (λ (x : ImportList × List Terminal). MayList x.0 ts x.1) (list_at ts)
unfolding list_at items_in next_item
list_found [] = holds_some _ every
list_found (k ∷ ts) =
    holds_if _ _ _
    (λ q. holds_expect Open ts _ (λ m us eq o.
    holds_then _ _ (listed_at_found item_reads m us o) (λ is d.
    holds_some _ (subst (λ z. MayList (lists.Hiding is.0) (k ∷ z) is.1) (sym eq) (hiding (word_is _ k ts q) d)))))
    (λ _. holds_if _ _ _
    (λ q. holds_then _ _ (listed_at_found item_reads k ts (same_true _ _ q)) (λ is d. holds_some _ (only d)))
    (λ _. holds_some _ every))

import_in_found : (k : Terminal) (ts us : List Terminal) (q : Bool) → k.symbol ≡ ImportWord → MayQualified q ts us → Holds (λ (x : Import × List Terminal). Import' x.0 (k ∷ ts) x.1) (import_in q us)
unfolding import_in
import_in_found k ts us q i d =
    holds_modid us _ (λ n vs eq c.
    holds_then _ _ (alias_found vs) (λ a da.
    holds_then _ _ (list_found a.1) (λ l dl.
    holds_some _ (import i (subst (λ z. MayQualified q ts z) eq d) c da dl))))

-- what follows `import`
pub import_found : (k : Terminal) (ts : List Terminal) → k.symbol ≡ ImportWord → Holds (λ (x : Import × List Terminal). Import' x.0 (k ∷ ts) x.1) (import_at ts)
unfolding import_at
import_found k ts i = chosen (is_at_word (codes "qualified") ts) refl
  where
    word : (us : List Terminal) → is_at_word (codes "qualified") us ≡ true → MayQualified true us (tail us)
    word [] e = cc
    word (m ∷ us) e = qualified (word_is _ m us e)

    chosen : (c : Bool) → is_at_word (codes "qualified") ts ≡ c →
        Holds (λ (x : Import × List Terminal). Import' x.0 (k ∷ ts) x.1) (import_in (cond {A = Bool × List Terminal} c (true, tail ts) (false, ts)).0 (cond {A = Bool × List Terminal} c (true, tail ts) (false, ts)).1)
    chosen true e = import_in_found k ts (tail ts) true i (word ts e)
    chosen false e = import_in_found k ts ts false i not_qualified

comma_short : {ts rest : List Terminal} → MayComma ts rest → length rest ≤ length ts
comma_short no_comma = omega arith
comma_short (one_comma q) = omega arith

module _ {A : Type 0} {X : _} {one : Reader A} (r : Reads X one) where
  commas_short : {xs : List A} {ts rest : List Terminal} → Commas X xs ts rest → length rest ≤ length ts
  commas_short commas_none = omega arith
  commas_short (commas_more q d ds) = omega (arith, r.short _ _ _ d, commas_short ds)

  row_short : {xs : List A} {ts rest : List Terminal} → Row X xs ts rest → length rest ≤ length ts
  row_short row_none = omega arith
  row_short (row_some d ds) = omega (arith, r.short _ _ _ d, commas_short ds)

  listed_short : {xs : List A} {ts rest : List Terminal} → Listed X xs ts rest → length rest < length ts
  listed_short (listed o row comma c) = omega (arith, row_short row, comma_short comma)

pub exports_short : {es : Option (List Export)} {ts rest : List Terminal} → MayExports es ts rest → length rest ≤ length ts
exports_short no_exports = omega arith
exports_short (some_exports d) = omega (arith, listed_short export_reads d)

alias_short : {a : Option Identifier} {ts rest : List Terminal} → MayAlias a ts rest → length rest ≤ length ts
alias_short no_alias = omega arith
alias_short (alias w c) = omega arith

qualified_short : {q : Bool} {ts rest : List Terminal} → MayQualified q ts rest → length rest ≤ length ts
qualified_short not_qualified = omega arith
qualified_short (qualified w) = omega arith

list_short : {l : ImportList} {ts rest : List Terminal} → MayList l ts rest → length rest ≤ length ts
list_short every = omega arith
list_short (only d) = omega (arith, listed_short item_reads d)
list_short (hiding w d) = omega (arith, listed_short item_reads d)

pub import_short : {i : Import} {ts rest : List Terminal} → Import' i ts rest → length rest < length ts
import_short (import i q c a l) = omega (arith, qualified_short q, alias_short a, list_short l)

pub import_begins : {i : Import} {ts rest : List Terminal} → Import' i ts rest → peek ts ≡ ImportWord
import_begins (import i q c a l) = i

-- ---- only

no_variable : (s : Symbol) → ends_item s ≡ true → same s Var ≡ false
no_variable Var h = sym h
no_variable _ h = refl

no_word : (word : List ℕ) (ts : List Terminal) → same (peek ts) Var ≡ false → is_at_word word ts ≡ false
no_word word [] h = refl
no_word word (k ∷ ts) h = rw h refl

alias_only : {a : Option Identifier} {ts rest : List Terminal} → MayAlias a ts rest → is_at_word (codes "as") rest ≡ false → alias_at ts ≡ Some (a, rest)
unfolding alias_at
alias_only no_alias h = rw h refl
alias_only (alias {k = k} {n = n} {rest = rest} w c) h = rw (at_word _ k (n ∷ rest) w) (rw (modid_only n rest c) refl)

list_only : {l : ImportList} {ts rest : List Terminal} → MayList l ts rest → ends_item (peek rest) ≡ true → list_at ts ≡ Some (l, rest)
unfolding list_at items_in next_item
list_only (every {ts = ts}) h = rw (no_word (codes "hiding") ts (no_variable (peek ts) h), follows_subs (peek ts) h) refl
list_only (only (listed o row comma c)) h = rw o (rw (listed_only Item' item_at item_reads row comma c) refl)
list_only (hiding {k = k} {us = us} w (listed o row comma c)) h = rw (at_word _ k us w) (rw o (rw (listed_only Item' item_at item_reads row comma c) refl))

list_no_alias : {l : ImportList} {ts rest : List Terminal} → MayList l ts rest → ends_item (peek rest) ≡ true → is_at_word (codes "as") ts ≡ false
list_no_alias (every {ts = ts}) h = no_word (codes "as") ts (no_variable (peek ts) h)
list_no_alias (only (listed o row comma c)) h = rw o refl
list_no_alias (hiding w d) h = rw (w.variable, w.text) refl

qualified_only : {q : Bool} {ts us : List Terminal} {n : Terminal} → MayQualified q ts (n ∷ us) → IsQcon n → qualified_at ts ≡ (q, n ∷ us)
qualified_only {us = us} {n = n} not_qualified c = rw (no_word (codes "qualified") (n ∷ us) (no_variable' c)) refl
  where
    no_variable' : IsQcon n → same n.symbol Var ≡ false
    no_variable' (inl e) = ap (λ z. same z Var) e
    no_variable' (inr e) = ap (λ z. same z Var) e
qualified_only {us = us} {n = n} (qualified {k = k} w) c = rw (at_word _ k (n ∷ us) w) refl

pub import_only : {i : Import} {ts rest : List Terminal} → Import' i ts rest → ends_item (peek rest) ≡ true → import_at (tail ts) ≡ Some (i, rest)
unfolding import_at import_in
import_only (import {n = n} {vs = vs} i q c a l) h =
    rw (qualified_only q c) (rw (modid_only n vs c) (rw (alias_only a (list_no_alias l h)) (rw (list_only l h) refl)))
