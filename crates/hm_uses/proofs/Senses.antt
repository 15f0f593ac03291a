-- What the walk says that a name means is what it means.
use Rattle.std.proofs.Common.{◌≡◌, ℕ, Bool, true, false, cond, List, [], ◌∷◌, Option, None, Some, ⊎_elim, refl, sym, ap, ◌∙◌, subst, Decides, ◌↔◌, IsTrue}
use Rattle.hm_types.specs.Interfaces.{Exports as Interface}
use Rattle.hm_syntax.specs.Names.{Identifier}
use Rattle.hm_syntax.specs.declared.ast.Module.{Module}
use Rattle.hm_names.specs.declared.namespace.Namespace.{Namespace}
use Rattle.hm_names.specs.declared.namespace.Namespace.TheVariants.{Values}
use Rattle.hm_names.specs.Bindings.{IsScopeOf, MeaningOf, meaning_in, meaning_of}
use Rattle.hm_names.specs.Bindings as meaning
use Rattle.hm_names.specs.Entities.{Declares, named}
use Rattle.hm_names.specs.Found.{no_qualifier}
use Rattle.hm_names.specs.Texts.{same_text, is_text_among}
use Rattle.hm_names.specs.Variables.{texts}
use Rattle.hm_names.proofs.Meant.{Meant, meant, one_meaning, text_decides}
use Rattle.hm_names.proofs.Members.{none_in, cases, first_by, rest}
use Rattle.hm_uses.specs.Scopes.{Around, Home, at_top, local_to}
use Rattle.hm_uses.specs.Uses.{Sense, IsFirst, here, further, IsBoundIn, ByScope, no_entity, several, one, OfVariable, innermost, global, OfBinder, own_variable, no_variable, local, no_local, OfTypeVariable, parameter, no_parameter}
use Rattle.hm_uses.specs.Found.{Known, Knows, sense_in, scope_sense, first_named, local_or, parameter_or, variable_sense, binder_sense, parameter_sense}

abbrev FirstOf : List ℕ → List Identifier → Option Identifier → Type 0
FirstOf x bs None = ¬ (IsBoundIn x bs)
FirstOf x bs (Some b) = IsFirst x b bs

widen : (x : List ℕ) (b : Identifier) (bs : List Identifier) (o : Option Identifier) → ¬ (b.text ≡ x) → FirstOf x bs o → FirstOf x (b ∷ bs) o
widen x b bs None n h = λ c. ⊎_elim (λ e. n (sym e)) h (cases b.text (texts bs) x c)
widen x b bs (Some d) n h = further n h

first_is : (x : List ℕ) (bs : List Identifier) → FirstOf x bs (first_named x bs)
first_is x [] = λ c. none_in x c
first_is x (b ∷ bs) = go (same_text b.text x) (text_decides b.text x) (first_is x bs)
  where
    go : (t : Bool) → Decides t (b.text ≡ x) → FirstOf x bs (first_named x bs) → FirstOf x (b ∷ bs) (cond t (Some b) (first_named x bs))
    go true d h = here (d.0 refl)
    go false d h = widen x b bs (first_named x bs) (λ e. let z : false ≡ true = d.1 e in cc) h

-- and no other is

first_one : (x : List ℕ) (b : Identifier) {bs : List Identifier} → IsFirst x b bs → first_named x bs ≡ Some b
first_one x b (here {bs} e) = ap (λ t. cond t (Some b) (first_named x bs)) ((text_decides b.text x).1 e)
first_one x b (further {c} {bs} n f) = go (same_text c.text x) (text_decides c.text x) (first_one x b f)
  where
    go : (t : Bool) → Decides t (c.text ≡ x) → first_named x bs ≡ Some b → cond t (Some c) (first_named x bs) ≡ Some b
    go true d h = absurd (n (d.0 refl))
    go false d h = h

pub among : (x : List ℕ) (b : Identifier) {bs : List Identifier} → IsFirst x b bs → IsBoundIn x bs
among x b (here {bs} e) = first_by b.text (texts bs) x (sym e)
among x b (further {c} {bs} n f) = rest c.text (texts bs) x (among x b f)

none_one : (x : List ℕ) (bs : List Identifier) → ¬ (IsBoundIn x bs) → first_named x bs ≡ None
none_one x bs n = go (first_named x bs) (first_is x bs)
  where
    go : (o : Option Identifier) → FirstOf x bs o → o ≡ None
    go None h = refl
    go (Some b) h = absurd (n (among x b h))

pub one_type_variable : (x : List ℕ) (vs : List Identifier) (t : Sense) → OfTypeVariable x vs t → t ≡ parameter_sense x vs
one_type_variable x vs t (parameter {b} f) = sym (ap (λ o. parameter_or Rattle.hm_uses.specs.Uses.unbound o) (first_one x b f))
one_type_variable x vs t (no_parameter n) = sym (ap (λ o. parameter_or Rattle.hm_uses.specs.Uses.unbound o) (none_one x vs n))

pub of_type_variable : (x : List ℕ) (vs : List Identifier) → OfTypeVariable x vs (parameter_sense x vs)
of_type_variable x vs = go (first_named x vs) (first_is x vs)
  where
    go : (o : Option Identifier) → FirstOf x vs o → OfTypeVariable x vs (parameter_or Rattle.hm_uses.specs.Uses.unbound o)
    go None h = no_parameter h
    go (Some b) h = parameter h

module _ (m : Module) (fs : List Interface) (k : Known) (a : Knows m fs k) where
  pub by_scope : (s : Namespace) (n : Identifier) → ByScope m fs s n (scope_sense k s n)
  unfolding meaning_in
  by_scope s n = go (meaning_of k.pairs s n) (meant m fs k.pairs a.scope s n)
    where
      go : (j : MeaningOf) → Meant m fs s n j → ByScope m fs s n (sense_in j)
      go meaning.unbound h = no_entity h
      go meaning.ambiguous h = several h
      go (meaning.entity e) h = one h

  pub of_variable : (xs : Around) (n : Identifier) → OfVariable m fs xs n (variable_sense k xs n)
  of_variable xs n = go n.qualifier refl
    where
      pick : n.qualifier ≡ None → (o : Option Identifier) → FirstOf n.text xs o → OfVariable m fs xs n (local_or (scope_sense k Values n) o)
      pick e None h = global (λ l. h l.1) (by_scope Values n)
      pick e (Some b) h = innermost e h

      go : (q : Option (List ℕ)) → n.qualifier ≡ q → OfVariable m fs xs n (cond (no_qualifier q) (local_or (scope_sense k Values n) (first_named n.text xs)) (scope_sense k Values n))
      go None e = pick e (first_named n.text xs) (first_is n.text xs)
      go (Some y) e = global (λ l. let z : Some y ≡ None = sym e ∙ l.0 in cc) (by_scope Values n)

  pub of_binder : (x : List ℕ) (h : Home) → OfBinder m x h (binder_sense k x h)
  of_binder x at_top = go (is_text_among x k.top) (a.top x)
    where
      go : (b : Bool) → Decides b (Declares m x Values) → OfBinder m x at_top (cond b (Rattle.hm_uses.specs.Uses.an_entity (named k.home x)) Rattle.hm_uses.specs.Uses.unbound)
      go true d = subst (λ y. OfBinder m x at_top (Rattle.hm_uses.specs.Uses.an_entity (named y x))) (sym a.home) (own_variable (d.0 refl))
      go false d = no_variable (λ w. let z : false ≡ true = d.1 w in cc)
  of_binder x (local_to bs) = go (first_named x bs) (first_is x bs)
    where
      go : (o : Option Identifier) → FirstOf x bs o → OfBinder m x (local_to bs) (local_or Rattle.hm_uses.specs.Uses.unbound o)
      go None h = no_local h
      go (Some b) h = local h

  -- It means nothing else

  pub one_scope : (s : Namespace) (n : Identifier) (t : Sense) → ByScope m fs s n t → t ≡ scope_sense k s n
  unfolding meaning_in
  one_scope s n t (no_entity h) = ap sense_in (one_meaning m fs s n meaning.unbound (meaning_of k.pairs s n) h (meant m fs k.pairs a.scope s n))
  one_scope s n t (several h) = ap sense_in (one_meaning m fs s n meaning.ambiguous (meaning_of k.pairs s n) h (meant m fs k.pairs a.scope s n))
  one_scope s n t (one {e} h) = ap sense_in (one_meaning m fs s n (meaning.entity e) (meaning_of k.pairs s n) h (meant m fs k.pairs a.scope s n))

  pub one_variable : (xs : Around) (n : Identifier) (t : Sense) → OfVariable m fs xs n t → t ≡ variable_sense k xs n
  one_variable xs n t (innermost {b} e f) =
      sym (ap (λ q. cond (no_qualifier q) (local_or (scope_sense k Values n) (first_named n.text xs)) (scope_sense k Values n)) e ∙ ap (λ o. local_or (scope_sense k Values n) o) (first_one n.text b f))
  one_variable xs n t (global h g) = one_scope Values n t g ∙ sym (go n.qualifier refl)
    where
      go : (q : Option (List ℕ)) → n.qualifier ≡ q → cond (no_qualifier q) (local_or (scope_sense k Values n) (first_named n.text xs)) (scope_sense k Values n) ≡ scope_sense k Values n
      go None e = ap (λ o. local_or (scope_sense k Values n) o) (none_one n.text xs (λ c. h (e, c)))
      go (Some y) e = refl

  pub one_binder : (x : List ℕ) (h : Home) (t : Sense) → OfBinder m x h t → t ≡ binder_sense k x h
  one_binder x at_top t (own_variable d) = sym (ap (λ b. cond b (Rattle.hm_uses.specs.Uses.an_entity (named k.home x)) Rattle.hm_uses.specs.Uses.unbound) ((a.top x).1 d) ∙ ap (λ y. Rattle.hm_uses.specs.Uses.an_entity (named y x)) a.home)
  one_binder x at_top t (no_variable n) = go (is_text_among x k.top) (a.top x)
    where
      go : (b : Bool) → IsTrue b ↔ Declares m x Values → Rattle.hm_uses.specs.Uses.unbound ≡ cond b (Rattle.hm_uses.specs.Uses.an_entity (named k.home x)) Rattle.hm_uses.specs.Uses.unbound
      go true d = absurd (n (d.0 refl))
      go false d = refl
  one_binder x (local_to bs) t (local {b} f) = sym (ap (λ o. local_or Rattle.hm_uses.specs.Uses.unbound o) (first_one x b f))
  one_binder x (local_to bs) t (no_local n) = sym (ap (λ o. local_or Rattle.hm_uses.specs.Uses.unbound o) (none_one x bs n))
