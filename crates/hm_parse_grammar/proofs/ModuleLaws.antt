-- A source is read as it is spelled.
use Rattle.std.proofs.Common.{◌≡◌, List, [], ◌∷◌, length, Bool, true, false, Option, Some, None, refl, sym, ap, ◌∙◌, subst, cond, arith}
use Rattle.hm_syntax.specs.Trees.{Declaration}
use Rattle.hm_syntax.specs.declared.ast.Export.{Export}
use Rattle.hm_syntax.specs.declared.ast.Import.{Import}
use Rattle.hm_syntax.specs.declared.ast.Module.{Module}
use Rattle.hm_parse_grammar.specs.declared.symbol.Symbol.{Symbol}
use Rattle.hm_parse_grammar.specs.declared.symbol.Symbol.TheVariants.{Open, Semicolon, LeftBrace, RightBrace, Import as ImportWord, Module as ModuleWord, Where}
use Rattle.hm_parse_grammar.specs.Symbols.{same}
use Rattle.hm_parse_grammar.specs.Tokens.{Terminal, modid_of}
use Rattle.hm_parse_grammar.specs.Grammar.Marks.{Items, items_none, items_last, items_empty, items_more}
use Rattle.hm_parse_grammar.specs.Grammar.Headers.{MayExports, Import'}
use Rattle.hm_parse_grammar.specs.Grammar.Expressions.{Topdecl}
use Rattle.hm_parse_grammar.specs.Grammar.Modules.{module_of, Body, body_decls, body_import, body_empty, body_more, Module', «module»}
use Rattle.hm_parse_grammar.specs.Reading.Basics.{peek, is_at, item_end, past_semicolons, loop_with, loop}
use Rattle.hm_parse_grammar.specs.Reading.Headers.{import_from, next_import}
use Rattle.hm_parse_grammar.specs.Reading.Modules.{topdecl_from, next_topdecl, module_at}
use Rattle.hm_parse_grammar.proofs.Holds.{Holds, holds_some, holds_if, holds_then, holds_more, holds_expect, holds_modid, holds_end, same_true}
use Rattle.hm_parse_grammar.proofs.Rows.{Step, Steps, loop_is, loop_stops, loop_takes, loop_found}
use Rattle.hm_parse_grammar.proofs.Lists.{ends_item, end_here, end_before}
use Rattle.hm_parse_grammar.proofs.HeaderLaws.{exports_found, exports_only, modid_only, import_found, import_only, import_short, import_begins}
use Rattle.hm_parse_grammar.proofs.Semicolons.{past_go, past_stay, past_short, past_twice}
use Rattle.hm_parse_grammar.proofs.TopdeclLaws.{topdecl_reads, begins_topdecl, topdecl_begins}

-- ---- semicolons

items_past : {ds : List Declaration} (ts rest : List Terminal) → Items Topdecl ds (past_semicolons ts) rest → Items Topdecl ds ts rest
unfolding past_semicolons
items_past [] rest d = d
items_past {ds = ds} (k ∷ ts) rest d = chosen (same k.symbol Semicolon) refl d (λ t. items_past ts rest t)
  where
    chosen : (c : Bool) → same k.symbol Semicolon ≡ c → Items Topdecl ds (cond c (past_semicolons ts) (k ∷ ts)) rest →
        (Items Topdecl ds (past_semicolons ts) rest → Items Topdecl ds ts rest) → Items Topdecl ds (k ∷ ts) rest
    chosen true e t h = items_empty (same_true _ _ e) (h t)
    chosen false e t h = t

body_past : {is : List Import} {ds : List Declaration} (ts rest : List Terminal) → Body is ds (past_semicolons ts) rest → Body is ds ts rest
unfolding past_semicolons
body_past [] rest d = d
body_past {is = is} {ds = ds} (k ∷ ts) rest d = chosen (same k.symbol Semicolon) refl d (λ t. body_past ts rest t)
  where
    chosen : (c : Bool) → same k.symbol Semicolon ≡ c → Body is ds (cond c (past_semicolons ts) (k ∷ ts)) rest →
        (Body is ds (past_semicolons ts) rest → Body is ds ts rest) → Body is ds (k ∷ ts) rest
    chosen true e t h = body_empty (same_true _ _ e) (h t)
    chosen false e t h = t

clash : {A : Type 0} (s t : Symbol) → same s t ≡ true → same s t ≡ false → A
clash s t e h = let z : true ≡ false = sym e ∙ h in cc

-- ---- declarations

-- declarations, through the brace that ends them
pub record DeclsTo (ds : List Declaration) (ts rest : List Terminal) : Type 0 where
  pub mark : Terminal
  pub items : Items Topdecl ds ts (mark ∷ rest)
  pub close : mark.symbol ≡ RightBrace

no_topdecl : {d : Declaration} {ts rest : List Terminal} (s : Symbol) → Topdecl d ts rest → begins_topdecl s ≡ false → is_at s ts ≡ false
no_topdecl {ts = ts} s d h = chosen (same (peek ts) s) refl
  where
    chosen : (c : Bool) → same (peek ts) s ≡ c → c ≡ false
    chosen true e = let other : true ≡ false = sym (topdecl_begins d) ∙ (ap begins_topdecl (same_true (peek ts) s e) ∙ h) in cc
    chosen false e = refl

decls_at_brace : {ds : List Declaration} {us rest : List Terminal} → Items Topdecl ds us rest → (d : Declaration) (ts : List Terminal) → Topdecl d ts us → is_at RightBrace us ≡ true → Items Topdecl (d ∷ ds) ts rest
decls_at_brace items_none d ts t e = items_last t
decls_at_brace (items_last {ts = us} t') d ts t e = clash (peek us) RightBrace e (no_topdecl RightBrace t' refl)
decls_at_brace (items_empty {k = k} q t') d ts t e = clash k.symbol RightBrace e (ap (λ z. same z RightBrace) q)
decls_at_brace (items_more {ts = us} t' q t'') d ts t e = clash (peek us) RightBrace e (no_topdecl RightBrace t' refl)

from_step : (ts : List Terminal) → Holds (Step DeclsTo ts) (topdecl_from ts)
unfolding topdecl_from
from_step [] = holds_then _ _ (topdecl_reads.found []) (λ x d. absurd (omega (arith, topdecl_reads.short _ _ _ d)))
from_step (k ∷ ts) =
    holds_if _ _ _
    (λ q. holds_some (None, ts) (record { mark = k; items = items_none; close = same_true _ _ q }))
    (λ _. holds_then _ _ (topdecl_reads.found (k ∷ ts)) (λ (x : Declaration × List Terminal) d.
    holds_end Semicolon RightBrace x.1 (λ us. Some (Some x.0, us)) refl
    (λ m us eq c. holds_some (Some x.0, us) (
      omega (arith, topdecl_reads.short _ _ _ d, ap length eq),
      λ ds vs t. record { mark = t.mark; items = items_more (subst (λ z. Topdecl x.0 (k ∷ ts) z) eq d) c t.items; close = t.close },
    ))
    (λ c. holds_some (Some x.0, x.1) (
      topdecl_reads.short _ _ _ d,
      λ ds vs t. record { mark = t.mark; items = decls_at_brace t.items x.0 (k ∷ ts) d c; close = t.close },
    ))))

topdecl_step : (ts : List Terminal) → Holds (Step DeclsTo ts) (next_topdecl ts)
unfolding next_topdecl
topdecl_step ts = holds_more (from_step (past_semicolons ts)) by_case
  where
    by_case : (x : Option Declaration × List Terminal) → Step DeclsTo (past_semicolons ts) x → Step DeclsTo ts x
    by_case (None, us) d = record { mark = d.mark; items = items_past ts _ d.items; close = d.close }
    by_case (Some a, us) d = (omega (arith, d.0, past_short ts), λ ds vs t. let back = d.1 ds vs t in record { mark = back.mark; items = items_past ts _ back.items; close = back.close })

pub topdecl_steps : Steps DeclsTo next_topdecl
topdecl_steps = record { step = topdecl_step }

next_past : (ts : List Terminal) → next_topdecl (past_semicolons ts) ≡ next_topdecl ts
unfolding next_topdecl
next_past ts = ap topdecl_from (past_twice ts)

topdecl_past : (ts : List Terminal) → loop next_topdecl (past_semicolons ts) ≡ loop next_topdecl ts
topdecl_past ts = loop_is topdecl_steps (past_semicolons ts) ∙ (ap (loop_with (loop next_topdecl)) (next_past ts) ∙ sym (loop_is topdecl_steps ts))

topdecl_go : (k : Terminal) (ts : List Terminal) → k.symbol ≡ Semicolon → loop next_topdecl (k ∷ ts) ≡ loop next_topdecl ts
topdecl_go k ts q = sym (topdecl_past (k ∷ ts)) ∙ (ap (loop next_topdecl) (past_go k ts q) ∙ topdecl_past ts)

next_topdecl_is : {d : Declaration} {ts us vs : List Terminal} → Topdecl d ts us → ends_item (peek us) ≡ true → item_end Semicolon RightBrace us ≡ Some vs → next_topdecl ts ≡ Some (Some d, vs)
unfolding next_topdecl topdecl_from
next_topdecl_is {ts = ts} {us = us} d h e =
    rw (past_stay ts (no_topdecl Semicolon d refl)) (rw (no_topdecl RightBrace d refl, topdecl_reads.only _ ts us d h, e) refl)

decls_end : (m : Terminal) (rest : List Terminal) → m.symbol ≡ RightBrace → loop next_topdecl (m ∷ rest) ≡ Some ([], rest)
unfolding next_topdecl topdecl_from past_semicolons
decls_end m rest c = loop_stops topdecl_steps (m ∷ rest) rest (rw c refl)

pub decls_only : {ds : List Declaration} {ts rest : List Terminal} {m : Terminal} → Items Topdecl ds ts (m ∷ rest) → m.symbol ≡ RightBrace → loop next_topdecl ts ≡ Some (ds, rest)
decls_only {rest = rest} {m = m} items_none c = decls_end m rest c
decls_only {rest = rest} {m = m} (items_last {x = d} {ts = ts} t) c =
    loop_takes topdecl_steps ts (m ∷ rest) d (next_topdecl_is t (ap ends_item c) (end_before Semicolon RightBrace m rest c refl refl)) ∙ rw (decls_end m rest c) refl
decls_only (items_empty {k = k} {us = us} q t) c = topdecl_go k us q ∙ decls_only t c
decls_only (items_more {x = d} {k = k} {ts = ts} {us = us} t q t') c =
    loop_takes topdecl_steps ts us d (next_topdecl_is t (ap ends_item q) (end_here Semicolon RightBrace k us q refl)) ∙ rw (decls_only t' c) refl

-- ---- imports and declarations

-- imports, and behind them declarations
abbrev pub ImportsTo : List Import → List Terminal → List Terminal → Type 0
ImportsTo is ts us = (ds : List Declaration) (rest : List Terminal) → Items Topdecl ds us rest → Body is ds ts rest

no_import : {i : Import} {ts rest : List Terminal} (s : Symbol) → Import' i ts rest → same ImportWord s ≡ false → is_at s ts ≡ false
no_import s d h = rw (import_begins d) h

body_at_brace : {is : List Import} {ds : List Declaration} {us rest : List Terminal} → Body is ds us rest → (i : Import) (ts : List Terminal) → Import' i ts us → is_at RightBrace us ≡ true → Body (i ∷ is) ds ts rest
body_at_brace (body_decls items_none) i ts t e = body_import t
body_at_brace (body_decls (items_last {ts = us} t')) i ts t e = clash (peek us) RightBrace e (no_topdecl RightBrace t' refl)
body_at_brace (body_decls (items_empty {k = k} q t')) i ts t e = clash k.symbol RightBrace e (ap (λ z. same z RightBrace) q)
body_at_brace (body_decls (items_more {ts = us} t' q t'')) i ts t e = clash (peek us) RightBrace e (no_topdecl RightBrace t' refl)
body_at_brace (body_import {ts = us} d) i ts t e = clash (peek us) RightBrace e (no_import RightBrace d refl)
body_at_brace (body_empty {k = k} q t') i ts t e = clash k.symbol RightBrace e (ap (λ z. same z RightBrace) q)
body_at_brace (body_more {ts = us} d q t') i ts t e = clash (peek us) RightBrace e (no_import RightBrace d refl)

import_from_step : (ts : List Terminal) → Holds (Step ImportsTo ts) (import_from ts)
unfolding import_from
import_from_step [] = holds_some (None, []) (λ ds rest t. body_decls t)
import_from_step (k ∷ ts) =
    holds_if _ _ _
    (λ q. holds_then _ _ (import_found k ts (same_true _ _ q)) (λ (x : Import × List Terminal) d.
    holds_end Semicolon RightBrace x.1 (λ us. Some (Some x.0, us)) refl
    (λ m us eq c. holds_some (Some x.0, us) (
      omega (arith, import_short d, ap length eq),
      λ is vs t ds rest t'. body_more (subst (λ z. Import' x.0 (k ∷ ts) z) eq d) c (t ds rest t'),
    ))
    (λ c. holds_some (Some x.0, x.1) (import_short d, λ is vs t ds rest t'. body_at_brace (t ds rest t') x.0 (k ∷ ts) d c))))
    (λ _. holds_some (None, k ∷ ts) (λ ds rest t. body_decls t))

import_step : (ts : List Terminal) → Holds (Step ImportsTo ts) (next_import ts)
unfolding next_import
import_step ts = holds_more (import_from_step (past_semicolons ts)) by_case
  where
    by_case : (x : Option Import × List Terminal) → Step ImportsTo (past_semicolons ts) x → Step ImportsTo ts x
    by_case (None, us) d = λ ds rest t. body_past ts rest (d ds rest t)
    by_case (Some a, us) d = (omega (arith, d.0, past_short ts), λ is vs t ds rest t'. body_past ts rest (d.1 is vs t ds rest t'))

pub import_steps : Steps ImportsTo next_import
import_steps = record { step = import_step }

next_import_past : (ts : List Terminal) → next_import (past_semicolons ts) ≡ next_import ts
unfolding next_import
next_import_past ts = ap import_from (past_twice ts)

import_past : (ts : List Terminal) → loop next_import (past_semicolons ts) ≡ loop next_import ts
import_past ts = loop_is import_steps (past_semicolons ts) ∙ (ap (loop_with (loop next_import)) (next_import_past ts) ∙ sym (loop_is import_steps ts))

import_go : (k : Terminal) (ts : List Terminal) → k.symbol ≡ Semicolon → loop next_import (k ∷ ts) ≡ loop next_import ts
import_go k ts q = sym (import_past (k ∷ ts)) ∙ (ap (loop next_import) (past_go k ts q) ∙ import_past ts)

next_import_is : {i : Import} {ts us vs : List Terminal} → Import' i ts us → ends_item (peek us) ≡ true → item_end Semicolon RightBrace us ≡ Some vs → next_import ts ≡ Some (Some i, vs)
unfolding next_import import_from
next_import_is {ts = ts} {us = us} d h e =
    rw (past_stay ts (no_import Semicolon d refl)) (rw (ap (λ z. same z ImportWord) (import_begins d), import_only d h, e) refl)

imports_stop : (ts : List Terminal) → is_at ImportWord (past_semicolons ts) ≡ false → loop next_import ts ≡ Some ([], past_semicolons ts)
unfolding next_import import_from
imports_stop ts h = loop_stops import_steps ts (past_semicolons ts) (rw h refl)

not_import : {ds : List Declaration} {ts rest : List Terminal} {m : Terminal} → Items Topdecl ds ts (m ∷ rest) → m.symbol ≡ RightBrace → is_at ImportWord (past_semicolons ts) ≡ false
not_import {rest = rest} {m = m} items_none c = rw (past_stay (m ∷ rest) (ap (λ z. same z Semicolon) c)) (ap (λ z. same z ImportWord) c)
not_import (items_last {ts = ts} t) c = rw (past_stay ts (no_topdecl Semicolon t refl)) (no_topdecl ImportWord t refl)
not_import (items_empty {k = k} {us = us} q t) c = rw (past_go k us q) (not_import t c)
not_import (items_more {ts = ts} t q t') c = rw (past_stay ts (no_topdecl Semicolon t refl)) (no_topdecl ImportWord t refl)

-- imports are read up to some place, and declarations from there
pub record BodyRead (is : List Import) (ds : List Declaration) (ts rest : List Terminal) : Type 0 where
  pub between : List Terminal
  pub imports : loop next_import ts ≡ Some (is, between)
  pub decls : loop next_topdecl between ≡ Some (ds, rest)

pub body_only : {is : List Import} {ds : List Declaration} {ts rest : List Terminal} {m : Terminal} → Body is ds ts (m ∷ rest) → m.symbol ≡ RightBrace → BodyRead is ds ts rest
body_only (body_decls {ts = ts} t) c = record {
  between = past_semicolons ts;
  imports = imports_stop ts (not_import t c);
  decls = topdecl_past ts ∙ decls_only t c;
}
body_only {rest = rest} {m = m} (body_import {i = i} {ts = ts} d) c = record {
  between = past_semicolons (m ∷ rest);
  imports =
      loop_takes import_steps ts (m ∷ rest) i (next_import_is d (ap ends_item c) (end_before Semicolon RightBrace m rest c refl refl))
      ∙ rw (imports_stop (m ∷ rest) (not_import {ds = []} {rest = rest} items_none c)) refl;
  decls = topdecl_past (m ∷ rest) ∙ decls_end m rest c;
}
body_only (body_empty {k = k} {us = us} q t) c =
    let later = body_only t c in
    record { between = later.between; imports = import_go k us q ∙ later.imports; decls = later.decls }
body_only (body_more {i = i} {k = k} {ts = ts} {us = us} d q t) c =
    let later = body_only t c in
    record {
      between = later.between;
      imports = loop_takes import_steps ts us i (next_import_is d (ap ends_item q) (end_here Semicolon RightBrace k us q refl)) ∙ rw later.imports refl;
      decls = later.decls;
    }

-- ---- modules

pub module_found : (ts : List Terminal) → Holds (λ (x : Module × List Terminal). Module' x.0 ts x.1) (module_at ts)
unfolding module_at
module_found ts =
    holds_expect ModuleWord ts _ (λ k us eq q.
    holds_modid us _ (λ n vs eq2 c.
    holds_then _ _ (exports_found vs) (λ (es : Option (List Export) × List Terminal) des.
    holds_expect Where es.1 _ (λ w ws eq3 qw.
    holds_expect LeftBrace ws _ (λ o xs eq4 qo.
    holds_then _ _ (loop_found import_steps xs) (λ (is : List Import × List Terminal) dis.
    holds_then _ _ (loop_found topdecl_steps is.1) (λ (ds : List Declaration × List Terminal) dds.
    holds_some (module_of (modid_of n) es.0 is.0 ds.0, ds.1)
    (subst (λ z. Module' (module_of (modid_of n) es.0 is.0 ds.0) z ds.1) (sym (eq ∙ ap (λ z. k ∷ z) eq2))
    («module» q c (subst (λ z. MayExports es.0 vs z) (eq3 ∙ ap (λ z. w ∷ z) eq4) des) qw qo (dis ds.0 _ dds.items) dds.close)))))))))

pub module_only : {m : Module} {ts rest : List Terminal} → Module' m ts rest → module_at ts ≡ Some (m, rest)
unfolding module_at
module_only («module» {n = n} {us = us} k c es w o b r) =
    let body = body_only b r in
    rw k (rw (modid_only n us c) (rw (exports_only es (ap (λ z. same z Open) w)) (rw w (rw o (rw body.imports (rw body.decls refl))))))
