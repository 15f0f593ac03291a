-- What a look-up of a local variable says of the sense of a name.
use Rattle.std.proofs.Common.{◌≡◌, ℕ, true, false, cond, is_some, List, [], ◌∷◌, length, Option, None, Some, option_map, refl, sym, ap, ◌∙◌, arith}
use Rattle.hm_lex.specs.declared.token.Place.{Place}
use Rattle.hm_syntax.specs.Names.{Identifier}
use Rattle.hm_names.specs.declared.namespace.Namespace.TheVariants.{Values}
use Rattle.hm_names.specs.Entities.{named}
use Rattle.hm_names.specs.Found.{no_qualifier}
use Rattle.hm_names.specs.Texts.{is_text_among}
use Rattle.hm_uses.specs.Uses.{Sense, local_variable, type_variable, an_entity, unbound}
use Rattle.hm_uses.specs.Found.{Known, scope_sense, first_named, local_or, parameter_or, variable_sense, binder_sense, parameter_sense}
use Rattle.hm_uses_declarations.specs.Walking.{innermost, home_of}
use Rattle.hm_uses_declarations.specs.Bindings.{place_of}

is_local : (t : Sense) (o : Option Identifier) (p : Place) → Some p ≡ option_map place_of o → local_variable p.line p.column ≡ local_or t o
is_local t None p e = absurd (let z : Some p ≡ None = e in cc)
is_local t (Some b) p e = let f : Some p ≡ Some (place_of b) = e in let z : p ≡ place_of b = cc in ap (λ (q : Place). local_variable q.line q.column) z

isnt_local : (t : Sense) (o : Option Identifier) → None ≡ option_map place_of o → t ≡ local_or t o
isnt_local t None e = refl
isnt_local t (Some b) e = absurd (let z : None ≡ Some (place_of b) = e in cc)

-- Variables of expressions

pub innermost_one : (k : Known) (xs : List Identifier) (n : Identifier) (p : Place) → is_some n.qualifier ≡ false → Some p ≡ option_map place_of (first_named n.text xs) → local_variable p.line p.column ≡ variable_sense k xs n
innermost_one k xs n p bare e = go n.qualifier bare
  where
    go : (q : Option (List ℕ)) → is_some q ≡ false → local_variable p.line p.column ≡ cond (no_qualifier q) (local_or (scope_sense k Values n) (first_named n.text xs)) (scope_sense k Values n)
    go None b = is_local (scope_sense k Values n) (first_named n.text xs) p e
    go (Some y) b = absurd (let z : true ≡ false = b in cc)

pub no_local_one : (k : Known) (xs : List Identifier) (n : Identifier) → None ≡ option_map place_of (first_named n.text xs) → scope_sense k Values n ≡ variable_sense k xs n
no_local_one k xs n e = go n.qualifier
  where
    go : (q : Option (List ℕ)) → scope_sense k Values n ≡ cond (no_qualifier q) (local_or (scope_sense k Values n) (first_named n.text xs)) (scope_sense k Values n)
    go None = isnt_local (scope_sense k Values n) (first_named n.text xs) e
    go (Some y) = refl

pub qualified_one : (k : Known) (xs : List Identifier) (n : Identifier) → is_some n.qualifier ≡ true → scope_sense k Values n ≡ variable_sense k xs n
qualified_one k xs n q = go n.qualifier q
  where
    go : (o : Option (List ℕ)) → is_some o ≡ true → scope_sense k Values n ≡ cond (no_qualifier o) (local_or (scope_sense k Values n) (first_named n.text xs)) (scope_sense k Values n)
    go None b = absurd (let z : false ≡ true = b in cc)
    go (Some y) b = refl

-- Variables where their list binds or signs them

pub own_binder : (k : Known) (x : List ℕ) (gs : List (List Identifier)) → length gs ≡ 0 → is_text_among x k.top ≡ true → an_entity (named k.home x) ≡ binder_sense k x (home_of gs)
own_binder k x [] l t = sym (ap (λ b. cond b (an_entity (named k.home x)) unbound) t)
own_binder k x (g ∷ gs) l t = absurd (omega (arith, l))

pub no_own_binder : (k : Known) (x : List ℕ) (gs : List (List Identifier)) → length gs ≡ 0 → is_text_among x k.top ≡ false → unbound ≡ binder_sense k x (home_of gs)
no_own_binder k x [] l t = sym (ap (λ b. cond b (an_entity (named k.home x)) unbound) t)
no_own_binder k x (g ∷ gs) l t = absurd (omega (arith, l))

pub local_binder : (k : Known) (x : List ℕ) (gs : List (List Identifier)) (p : Place) → ¬ (length gs ≡ 0) → Some p ≡ option_map place_of (first_named x (innermost gs)) → local_variable p.line p.column ≡ binder_sense k x (home_of gs)
local_binder k x [] p l e = absurd (l refl)
local_binder k x (g ∷ gs) p l e = is_local unbound (first_named x g) p e

pub no_binder : (k : Known) (x : List ℕ) (gs : List (List Identifier)) → ¬ (length gs ≡ 0) → None ≡ option_map place_of (first_named x (innermost gs)) → unbound ≡ binder_sense k x (home_of gs)
no_binder k x [] l e = absurd (l refl)
no_binder k x (g ∷ gs) l e = isnt_local unbound (first_named x g) e

-- Type variables

pub is_parameter : (x : List ℕ) (vs : List Identifier) (p : Place) → Some p ≡ option_map place_of (first_named x vs) → type_variable p.line p.column ≡ parameter_sense x vs
is_parameter x vs p e = go (first_named x vs) e
  where
    go : (o : Option Identifier) → Some p ≡ option_map place_of o → type_variable p.line p.column ≡ parameter_or unbound o
    go None e = absurd (let z : Some p ≡ None = e in cc)
    go (Some b) e = let f : Some p ≡ Some (place_of b) = e in let z : p ≡ place_of b = cc in ap (λ (q : Place). type_variable q.line q.column) z

pub isnt_parameter : (x : List ℕ) (vs : List Identifier) → None ≡ option_map place_of (first_named x vs) → unbound ≡ parameter_sense x vs
isnt_parameter x vs e = go (first_named x vs) e
  where
    go : (o : Option Identifier) → None ≡ option_map place_of o → unbound ≡ parameter_or unbound o
    go None e = refl
    go (Some b) e = absurd (let z : None ≡ Some (place_of b) = e in cc)
