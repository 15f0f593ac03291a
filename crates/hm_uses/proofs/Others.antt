-- Meanings that names of worked modules haven't.
use Rattle.std.proofs.Common.{◌≡◌, ℕ, List, [], ◌∷◌, false, true, refl, sym, ap, ap₂, ◌∙◌, ◌==◌, ◌&&◌, ◌||◌, ⊎_elim, subst}
use Rattle.std.specs.List.{Contains}
use Rattle.std.proofs.lemmas.Bool.{eq-eqb}
use Rattle.std.specs.Prelude.{codes, Bool}
use Rattle.hm_syntax.specs.Names.{Identifier}
use Rattle.hm_syntax.specs.Lists.{declarations}
use Rattle.hm_syntax.specs.declared.ast.Module.{Module}
use Rattle.hm_names.specs.Worked.{at, x, prelude_alone}
use Rattle.hm_names.proofs.Members.{none_in, cases}
use Rattle.hm_uses.specs.declared.name_kind.NameKind.{NameKind}
use Rattle.hm_uses.specs.declared.name_kind.NameKind.TheVariants.{Variable, TypeVariable}
use Rattle.hm_uses.specs.Found.{declarations_uses}
use Rattle.hm_uses.specs.Scopes.{at_top}
use Rattle.hm_uses.specs.Uses.{Sense, local_variable, type_variable, an_entity, a_module, a_prefix, unbound, ambiguous, UseOf, InDeclarations}
use Rattle.hm_uses.specs.Worked
use Rattle.hm_uses.proofs.AllFound.{all_found}
use Rattle.hm_uses.proofs.Existence.{knows}

abbrev binder_column : Sense → ℕ
binder_column (local_variable l c) = c
binder_column (type_variable l c) = c
binder_column (an_entity e) = 0
binder_column (a_module x) = 0
binder_column (a_prefix x) = 0
binder_column unbound = 0
binder_column ambiguous = 0

abbrev column : UseOf → ℕ
column u = u.mention.name.column

abbrev bound_at : UseOf → ℕ
bound_at u = binder_column u.sense

abbrev same : UseOf → UseOf → Bool
same u v = (column u == column v) && (bound_at u == bound_at v)

is_same : (u : UseOf) → same u u ≡ true
is_same u = ap₂ (λ (a b : Bool). a && b) (eq-eqb (column u) (column u) refl) (eq-eqb (bound_at u) (bound_at u) refl)

-- a use of these columns is among the uses
abbrev listed : UseOf → List UseOf → Bool
listed u [] = false
listed u (v ∷ us) = same u v || listed u us

is_listed : (u : UseOf) (us : List UseOf) → Contains us u → listed u us ≡ true
is_listed u [] c = absurd (none_in u c)
is_listed u (v ∷ us) c = ⊎_elim (λ e. ap (λ b. b || listed u us) (subst (λ w. same u w ≡ true) e (is_same u))) (λ o. go (same u v) (is_listed u us o)) (cases v us u c)
  where
    go : (b : Bool) → listed u us ≡ true → b || listed u us ≡ true
    go true h = refl
    go false h = h

-- what isn't found isn't so
hasnt : (m : Module) (n : Identifier) (s : NameKind) (b : Bool) (t : Sense) →
    listed (record { mention = record { name = n; kind = s; binds = b }; sense = t }) (declarations_uses (knows m prelude_alone).0 [] at_top (declarations m.decls)) ≡ false → ¬ (InDeclarations m prelude_alone n s b t)
hasnt m n s b t e d =
    let k = knows m prelude_alone in
    let u : UseOf = record { mention = record { name = n; kind = s; binds = b }; sense = t } in
    let us = declarations_uses k.0 [] at_top (declarations m.decls) in
    let z : true ≡ false = sym (is_listed u us (all_found m prelude_alone k.0 k.1 n s b t d)) ∙ e in
    cc

pub outer : Worked.OuterRow
outer = hasnt Worked.shadowing (at 30 x) Variable false (local_variable 1 20) refl

pub not_guard : Worked.NotGuardRow
not_guard = hasnt Worked.over_guards (at 24 x) Variable false (local_variable 1 20) refl

pub not_scrutinised : Worked.NotScrutineeRow
not_scrutinised = hasnt Worked.matched (at 29 x) Variable false (local_variable 1 36) refl

pub last_clause : Worked.LastClauseRow
last_clause = hasnt Worked.clauses (at 51 (codes "g")) Variable false (local_variable 1 38) refl

pub not_matched : Worked.NotMatchedRow
unfolding knows
not_matched = hasnt Worked.pattern_at_top (at 19 x) Variable true (local_variable 1 19) refl

pub no_parameter : Worked.NoParameterRow
no_parameter = hasnt Worked.synonym_of_two (at 34 (codes "b")) TypeVariable false (type_variable 1 34) refl
