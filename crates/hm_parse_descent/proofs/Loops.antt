-- The loops over the parts of headers, and the first steps of others.
use Rattle.std.proofs.Common.{◌≡◌, ◌<◌, List, [], ◌∷◌, ◌++◌, length, true, false, Some, None, refl, sym, arith}
use Rattle.hm_syntax.specs.Names.{Identifier}
use Rattle.hm_syntax.specs.declared.ast.Export.{Export}
use Rattle.hm_syntax.specs.declared.ast.ImportItem.{ImportItem}
use Rattle.hm_parse_grammar.specs.declared.symbol.Symbol.TheVariants.{Open, Close, Comma, Semicolon}
use Rattle.hm_parse_grammar.specs.Tokens.{Terminal}
use Rattle.hm_parse_grammar.specs.Grammar.Headers.{Export', Item'}
use Rattle.hm_parse_grammar.specs.Reading.Basics.{Reader, peek, is_at, tail, item_end, past_semicolons, loop, behind}
use Rattle.hm_parse_grammar.specs.Reading.Headers.{con_at, export_at, item_at, next_con, next_listed, next_export, next_item}
use Rattle.hm_parse_grammar.proofs.Holds.{same_true}
use Rattle.hm_parse_grammar.proofs.Rows.{Steps, falls, goes_on, ends, fails, starts}
use Rattle.hm_parse_grammar.proofs.Lists.{Ends, listed_steps}
use Rattle.hm_parse_grammar.proofs.HeaderLaws.{con_steps, export_reads, item_reads}
use Rattle.hm_parse_grammar.proofs.Semicolons.{past_go, past_stay}

pub open_shorter : (ts : List Terminal) → peek ts ≡ Open → length (tail ts) < length ts
open_shorter [] h = cc
open_shorter (k ∷ ts) h = omega arith

pub semicolon_shorter : (ts : List Terminal) → is_at Semicolon ts ≡ true → length (tail ts) < length ts
semicolon_shorter [] h = cc
semicolon_shorter (k ∷ ts) h = omega arith

pub semicolons_go_on : (ts : List Terminal) → is_at Semicolon ts ≡ true → past_semicolons (tail ts) ≡ past_semicolons ts
semicolons_go_on [] h = cc
semicolons_go_on (k ∷ ts) h = sym (past_go k ts (same_true _ _ h))

pub semicolons_end : (ts : List Terminal) → is_at Semicolon ts ≡ false → past_semicolons ts ≡ ts
semicolons_end ts h = past_stay ts h

export_steps : Steps (Ends Export' export_at export_reads) next_export
unfolding next_export
export_steps = listed_steps Export' export_at export_reads

item_steps : Steps (Ends Item' item_at item_reads) next_item
unfolding next_item
item_steps = listed_steps Item' item_at item_reads

con_taken : (x : Identifier) (ts us : List Terminal) → is_at Comma ts ≡ true → con_at (tail ts) ≡ Some (x, us) → next_con ts ≡ Some (Some x, us)
unfolding next_con
con_taken x ts us h e = rw (h, e) refl

con_refused : (ts : List Terminal) → is_at Comma ts ≡ true → con_at (tail ts) ≡ None → next_con ts ≡ None
unfolding next_con
con_refused ts h e = rw (h, e) refl

no_con : (ts : List Terminal) → is_at Comma ts ≡ false → next_con ts ≡ Some (None, ts)
unfolding next_con
no_con ts h = rw h refl

pub cons_go_on : (xs : List Identifier) (x : Identifier) (ts us : List Terminal) → is_at Comma ts ≡ true → con_at (tail ts) ≡ Some (x, us) → behind (xs ++ x ∷ []) (loop next_con us) ≡ behind xs (loop next_con ts)
cons_go_on xs x ts us h e = goes_on con_steps xs x ts us (con_taken x ts us h e)

pub cons_end : (xs : List Identifier) (ts : List Terminal) → is_at Comma ts ≡ false → behind xs (loop next_con ts) ≡ Some (xs, ts)
cons_end xs ts h = ends con_steps xs ts ts (no_con ts h)

pub cons_fail : (xs : List Identifier) (ts : List Terminal) → is_at Comma ts ≡ true → con_at (tail ts) ≡ None → behind xs (loop next_con ts) ≡ None
cons_fail xs ts h e = fails con_steps xs ts (con_refused ts h e)

pub cons_shorter : (ts us : List Terminal) (x : Identifier) → is_at Comma ts ≡ true → con_at (tail ts) ≡ Some (x, us) → length us < length ts
cons_shorter ts us x h e = falls con_steps ts us x (con_taken x ts us h e)

listed_taken : {A : Type 0} (one : Reader A) (x : A) (ts us vs : List Terminal) → is_at Close ts ≡ false → one ts ≡ Some (x, us) → item_end Comma Close us ≡ Some vs → next_listed one ts ≡ Some (Some x, vs)
listed_taken one x ts us vs h e k = rw h (rw e (rw k refl))

listed_open : {A : Type 0} (one : Reader A) (x : A) (ts us : List Terminal) → is_at Close ts ≡ false → one ts ≡ Some (x, us) → item_end Comma Close us ≡ None → next_listed one ts ≡ None
listed_open one x ts us h e k = rw h (rw e (rw k refl))

listed_fails : {A : Type 0} (one : Reader A) (ts : List Terminal) → is_at Close ts ≡ false → one ts ≡ None → next_listed one ts ≡ None
listed_fails one ts h e = rw h (rw e refl)

none_listed : {A : Type 0} (one : Reader A) (ts : List Terminal) → is_at Close ts ≡ true → next_listed one ts ≡ Some (None, tail ts)
none_listed one ts h = rw h refl

export_taken : (x : Export) (ts us vs : List Terminal) → is_at Close ts ≡ false → export_at ts ≡ Some (x, us) → item_end Comma Close us ≡ Some vs → next_export ts ≡ Some (Some x, vs)
unfolding next_export
export_taken x ts us vs h e k = listed_taken export_at x ts us vs h e k

export_open : (x : Export) (ts us : List Terminal) → is_at Close ts ≡ false → export_at ts ≡ Some (x, us) → item_end Comma Close us ≡ None → next_export ts ≡ None
unfolding next_export
export_open x ts us h e k = listed_open export_at x ts us h e k

export_refused : (ts : List Terminal) → is_at Close ts ≡ false → export_at ts ≡ None → next_export ts ≡ None
unfolding next_export
export_refused ts h e = listed_fails export_at ts h e

no_export : (ts : List Terminal) → is_at Close ts ≡ true → next_export ts ≡ Some (None, tail ts)
unfolding next_export
no_export ts h = none_listed export_at ts h

pub exports_go_on : (xs : List Export) (x : Export) (ts us vs : List Terminal) → is_at Close ts ≡ false → export_at ts ≡ Some (x, us) → item_end Comma Close us ≡ Some vs → behind (xs ++ x ∷ []) (loop next_export vs) ≡ behind xs (loop next_export ts)
exports_go_on xs x ts us vs h e k = goes_on export_steps xs x ts vs (export_taken x ts us vs h e k)

pub exports_end : (xs : List Export) (ts : List Terminal) → is_at Close ts ≡ true → behind xs (loop next_export ts) ≡ Some (xs, tail ts)
exports_end xs ts h = ends export_steps xs ts (tail ts) (no_export ts h)

pub exports_fail : (xs : List Export) (ts : List Terminal) → is_at Close ts ≡ false → export_at ts ≡ None → behind xs (loop next_export ts) ≡ None
exports_fail xs ts h e = fails export_steps xs ts (export_refused ts h e)

pub exports_open : (xs : List Export) (x : Export) (ts us : List Terminal) → is_at Close ts ≡ false → export_at ts ≡ Some (x, us) → item_end Comma Close us ≡ None → behind xs (loop next_export ts) ≡ None
exports_open xs x ts us h e k = fails export_steps xs ts (export_open x ts us h e k)

pub exports_start : (ts : List Terminal) → behind [] (loop next_export ts) ≡ loop next_export ts
exports_start ts = starts (loop next_export ts)

pub exports_shorter : (x : Export) (ts us vs : List Terminal) → is_at Close ts ≡ false → export_at ts ≡ Some (x, us) → item_end Comma Close us ≡ Some vs → length vs < length ts
exports_shorter x ts us vs h e k = falls export_steps ts vs x (export_taken x ts us vs h e k)

item_taken : (x : ImportItem) (ts us vs : List Terminal) → is_at Close ts ≡ false → item_at ts ≡ Some (x, us) → item_end Comma Close us ≡ Some vs → next_item ts ≡ Some (Some x, vs)
unfolding next_item
item_taken x ts us vs h e k = listed_taken item_at x ts us vs h e k

item_open : (x : ImportItem) (ts us : List Terminal) → is_at Close ts ≡ false → item_at ts ≡ Some (x, us) → item_end Comma Close us ≡ None → next_item ts ≡ None
unfolding next_item
item_open x ts us h e k = listed_open item_at x ts us h e k

item_refused : (ts : List Terminal) → is_at Close ts ≡ false → item_at ts ≡ None → next_item ts ≡ None
unfolding next_item
item_refused ts h e = listed_fails item_at ts h e

no_item : (ts : List Terminal) → is_at Close ts ≡ true → next_item ts ≡ Some (None, tail ts)
unfolding next_item
no_item ts h = none_listed item_at ts h

pub items_go_on : (xs : List ImportItem) (x : ImportItem) (ts us vs : List Terminal) → is_at Close ts ≡ false → item_at ts ≡ Some (x, us) → item_end Comma Close us ≡ Some vs → behind (xs ++ x ∷ []) (loop next_item vs) ≡ behind xs (loop next_item ts)
items_go_on xs x ts us vs h e k = goes_on item_steps xs x ts vs (item_taken x ts us vs h e k)

pub items_end : (xs : List ImportItem) (ts : List Terminal) → is_at Close ts ≡ true → behind xs (loop next_item ts) ≡ Some (xs, tail ts)
items_end xs ts h = ends item_steps xs ts (tail ts) (no_item ts h)

pub items_fail : (xs : List ImportItem) (ts : List Terminal) → is_at Close ts ≡ false → item_at ts ≡ None → behind xs (loop next_item ts) ≡ None
items_fail xs ts h e = fails item_steps xs ts (item_refused ts h e)

pub items_open : (xs : List ImportItem) (x : ImportItem) (ts us : List Terminal) → is_at Close ts ≡ false → item_at ts ≡ Some (x, us) → item_end Comma Close us ≡ None → behind xs (loop next_item ts) ≡ None
items_open xs x ts us h e k = fails item_steps xs ts (item_open x ts us h e k)

pub items_start : (ts : List Terminal) → behind [] (loop next_item ts) ≡ loop next_item ts
items_start ts = starts (loop next_item ts)

pub items_shorter : (x : ImportItem) (ts us vs : List Terminal) → is_at Close ts ≡ false → item_at ts ≡ Some (x, us) → item_end Comma Close us ≡ Some vs → length vs < length ts
items_shorter x ts us vs h e k = falls item_steps ts vs x (item_taken x ts us vs h e k)
