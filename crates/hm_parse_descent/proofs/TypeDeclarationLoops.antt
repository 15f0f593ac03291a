-- The loops of the parser of data declarations.
use Rattle.std.proofs.Common.{◌≡◌, ◌<◌, List, [], ◌∷◌, ◌++◌, length, true, false, Some, None, refl}
use Rattle.hm_syntax.specs.Names.{Identifier}
use Rattle.hm_syntax.specs.Trees.{DataConstructor}
use Rattle.hm_parse_grammar.specs.declared.symbol.Symbol.TheVariants.{Var, Bar}
use Rattle.hm_parse_grammar.specs.Tokens.{Terminal}
use Rattle.hm_parse_grammar.specs.Reading.Basics.{is_at, tail, name_at, loop, behind}
use Rattle.hm_parse_grammar.specs.Reading.TypeDeclarations.{next_tyvar, constr_at, next_constr}
use Rattle.hm_parse_grammar.proofs.Rows.{falls, goes_on, ends, fails, starts}
use Rattle.hm_parse_grammar.proofs.TypeDeclarationLaws.{tyvar_steps, constr_steps}

tyvar_taken : (x : Identifier) (ts us : List Terminal) → is_at Var ts ≡ true → name_at ts ≡ Some (x, us) → next_tyvar ts ≡ Some (Some x, us)
unfolding next_tyvar
tyvar_taken x ts us h e = rw (h, e) refl

tyvar_refused : (ts : List Terminal) → is_at Var ts ≡ true → name_at ts ≡ None → next_tyvar ts ≡ None
unfolding next_tyvar
tyvar_refused ts h e = rw (h, e) refl

no_tyvar : (ts : List Terminal) → is_at Var ts ≡ false → next_tyvar ts ≡ Some (None, ts)
unfolding next_tyvar
no_tyvar ts h = rw h refl

pub tyvars_go_on : (xs : List Identifier) (x : Identifier) (ts us : List Terminal) → is_at Var ts ≡ true → name_at ts ≡ Some (x, us) → behind (xs ++ x ∷ []) (loop next_tyvar us) ≡ behind xs (loop next_tyvar ts)
tyvars_go_on xs x ts us h e = goes_on tyvar_steps xs x ts us (tyvar_taken x ts us h e)

pub tyvars_end : (xs : List Identifier) (ts : List Terminal) → is_at Var ts ≡ false → behind xs (loop next_tyvar ts) ≡ Some (xs, ts)
tyvars_end xs ts h = ends tyvar_steps xs ts ts (no_tyvar ts h)

pub tyvars_fail : (xs : List Identifier) (ts : List Terminal) → is_at Var ts ≡ true → name_at ts ≡ None → behind xs (loop next_tyvar ts) ≡ None
tyvars_fail xs ts h e = fails tyvar_steps xs ts (tyvar_refused ts h e)

pub tyvars_start : (ts : List Terminal) → behind [] (loop next_tyvar ts) ≡ loop next_tyvar ts
tyvars_start ts = starts (loop next_tyvar ts)

pub tyvars_shorter : (ts us : List Terminal) (x : Identifier) → is_at Var ts ≡ true → name_at ts ≡ Some (x, us) → length us < length ts
tyvars_shorter ts us x h e = falls tyvar_steps ts us x (tyvar_taken x ts us h e)

constr_taken : (x : DataConstructor) (ts us : List Terminal) → is_at Bar ts ≡ true → constr_at (tail ts) ≡ Some (x, us) → next_constr ts ≡ Some (Some x, us)
unfolding next_constr
constr_taken x ts us h e = rw (h, e) refl

constr_refused : (ts : List Terminal) → is_at Bar ts ≡ true → constr_at (tail ts) ≡ None → next_constr ts ≡ None
unfolding next_constr
constr_refused ts h e = rw (h, e) refl

no_constr : (ts : List Terminal) → is_at Bar ts ≡ false → next_constr ts ≡ Some (None, ts)
unfolding next_constr
no_constr ts h = rw h refl

pub constrs_go_on : (xs : List DataConstructor) (x : DataConstructor) (ts us : List Terminal) → is_at Bar ts ≡ true → constr_at (tail ts) ≡ Some (x, us) → behind (xs ++ x ∷ []) (loop next_constr us) ≡ behind xs (loop next_constr ts)
constrs_go_on xs x ts us h e = goes_on constr_steps xs x ts us (constr_taken x ts us h e)

pub constrs_end : (xs : List DataConstructor) (ts : List Terminal) → is_at Bar ts ≡ false → behind xs (loop next_constr ts) ≡ Some (xs, ts)
constrs_end xs ts h = ends constr_steps xs ts ts (no_constr ts h)

pub constrs_fail : (xs : List DataConstructor) (ts : List Terminal) → is_at Bar ts ≡ true → constr_at (tail ts) ≡ None → behind xs (loop next_constr ts) ≡ None
constrs_fail xs ts h e = fails constr_steps xs ts (constr_refused ts h e)

pub constrs_shorter : (ts us : List Terminal) (x : DataConstructor) → is_at Bar ts ≡ true → constr_at (tail ts) ≡ Some (x, us) → length us < length ts
constrs_shorter ts us x h e = falls constr_steps ts us x (constr_taken x ts us h e)
