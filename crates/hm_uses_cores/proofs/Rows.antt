-- The worked examples.
use Rattle.std.proofs.Common.{◌≡◌, ℕ, Bool, true, false, ◌==◌, ◌&&◌, ◌||◌, List, [], ◌∷◌, None, inl, ⊎_elim, refl, sym, ap, ◌∙◌, subst, arith, codes}
use Rattle.std.specs.List.{Contains}
use Rattle.std.proofs.lemmas.Bool.{eq-eqb}
use Rattle.hm_types.specs.Interfaces.{Exports as Interface}
use Rattle.hm_syntax.specs.Lists.{declarations}
use Rattle.hm_syntax.specs.Names.{Identifier}
use Rattle.hm_syntax.specs.Trees.{Declaration, clause, lambda, more_patterns, no_patterns, variable_expression, variable_pattern}
use Rattle.hm_syntax.specs.declared.ast.Module.{Module}
use Rattle.hm_names.specs.declared.namespace.Namespace.TheVariants.{Values}
use Rattle.hm_names.specs.Entities.{a_variable, named, own}
use Rattle.hm_names.specs.Expansion.{as_entity}
use Rattle.hm_names.specs.Scope.{Means, declared, imported}
use Rattle.hm_names.specs.Worked.{at, is, one, prelude_alone, x}
use Rattle.hm_names.proofs.Members.{cases, first, none_in}
use Rattle.hm_uses.specs.declared.name_kind.NameKind.TheVariants.{Variable}
use Rattle.hm_uses.specs.Found.{declarations_uses}
use Rattle.hm_uses.specs.Laws.{FindsAll, HasKnown}
use Rattle.hm_uses.specs.Scopes.{at_top, clause_side, first_declaration, guarded, lambda_body, later_declarations, plain, top}
use Rattle.hm_uses.specs.Uses.{InDeclarations, Sense, UseOf, a_module as module_sense, a_prefix, ambiguous, an_entity, global, here, innermost, local_variable, type_variable, unbound, variable}
use Rattle.hm_uses.specs.Uses as uses
use Rattle.hm_uses.specs.Worked.{f, shadowing}
use Rattle.hm_uses_cores.specs.CoreNames.{InCore, a_local, core_module}
use Rattle.hm_uses_cores.specs.CoreNames as cores
use Rattle.hm_uses_cores.specs.Worked
use Rattle.hm_uses_cores.specs.Worked.{names_x}
use Rattle.hm_uses_cores.proofs.Each.{cores_have_uses}

pub inner_row : Worked.InnerRow
inner_row c k = cores_have_uses shadowing prelude_alone c k (at 30 x) Variable false (local_variable 1 25) refl (variable (lambda_body (plain (guarded (clause_side (first_declaration top))))) (innermost refl (here refl)))

-- A name of the module means nothing else

means_x : Means names_x [] Values (at 30 x) (named (codes "A") x)
means_x = record {
  in_scope = declared (record { declaration = clause (at 18 x) no_patterns one; stands = (0, omega arith, refl); declares = a_variable {n = at 18 x} refl }) (inl refl) refl;
  alone = only;
}
  where
    only : (d : _) → Rattle.hm_names.specs.Scope.InScope names_x [] Values None x d → d ≡ named (codes "A") x
    only d (declared w q e) = e
    only d (imported w c n b q) = absurd (none_in _ c)

pub entity_row : Worked.EntityRow
entity_row c k = cores_have_uses names_x [] c k (at 30 x) Variable false (an_entity (named (codes "A") x)) refl
    (variable (plain (guarded (clause_side (first_declaration (later_declarations top))))) (global (λ l. none_in x l.1) (uses.one means_x)))

-- A local variable of a core is one of its trees, read as a module

read_local : {p : Module} {v : Identifier} {line column : ℕ} (fs : List Interface) → InCore p v Variable false (local_variable line column) → InDeclarations p fs v Variable false (local_variable line column)
read_local fs (cores.variable i (a_local q h)) = variable i (innermost q h)
read_local fs (cores.signed {h = at_top} i o (a_local q e)) = elim e [ ]
read_local fs (cores.signed {h = Rattle.hm_uses.specs.Scopes.local_to bs} i o (a_local q h)) = uses.signed i o (uses.local h)

-- a use at column 30 of the variable that is bound at column 20
abbrev binder_column : Sense → ℕ
binder_column (local_variable l c) = c
binder_column (type_variable l c) = c
binder_column (an_entity e) = 0
binder_column (module_sense y) = 0
binder_column (a_prefix y) = 0
binder_column unbound = 0
binder_column ambiguous = 0

abbrev is_outer : UseOf → Bool
is_outer u = (u.mention.name.column == 30) && (binder_column u.sense == 20)

abbrev has_outer : List UseOf → Bool
has_outer [] = false
has_outer (u ∷ us) = is_outer u || has_outer us

found_outer : (u : UseOf) (us : List UseOf) → is_outer u ≡ true → Contains us u → has_outer us ≡ true
found_outer u [] e c = absurd (none_in u c)
found_outer u (v ∷ us) e c = ⊎_elim (λ s. ap (λ b. b || has_outer us) (subst (λ w. is_outer w ≡ true) s e)) (λ o. go (is_outer v) (found_outer u us e o)) (cases v us u c)
  where
    go : (b : Bool) → has_outer us ≡ true → b || has_outer us ≡ true
    go true h = refl
    go false h = h

-- the trees of a core of the first example, with the name that the resolver has for the last x
abbrev trees_with : Identifier → List Declaration
trees_with v = clause (as_entity (at 18 f) (own shadowing f)) (more_patterns (variable_pattern (at 20 x)) no_patterns) (is (lambda (more_patterns (variable_pattern (at 25 x)) no_patterns) (variable_expression v))) ∷ []

pub outer_row : FindsAll → HasKnown → Worked.OuterRow
outer_row finds known c k h =
    let p = core_module shadowing c in
    let kept_x : k.resolver.name Values (x ∷ x ∷ []) (at 30 x) ≡ at 30 x = k.resolves.local (x ∷ x ∷ []) (at 30 x) (refl, first x (x ∷ [])) in
    let trees : c.decls ≡ trees_with (at 30 x) = k.trees ∙ ap trees_with kept_x in
    let is_known = known p prelude_alone in
    let u : UseOf = record { mention = record { name = h.name; kind = Variable; binds = false }; sense = local_variable 1 20 } in
    let found = finds p prelude_alone is_known.0 is_known.1 h.name Variable false (local_variable 1 20) (read_local prelude_alone h.means) in
    let here_too : Contains (declarations_uses is_known.0 [] at_top (declarations (trees_with (at 30 x)))) u = subst (λ l. Contains (declarations_uses is_known.0 [] at_top (declarations l)) u) trees found in
    let column : is_outer u ≡ true = ap (λ b. b && true) (eq-eqb h.name.column 30 h.column) in
    let z : true ≡ false = sym (found_outer u (declarations_uses is_known.0 [] at_top (declarations (trees_with (at 30 x)))) column here_too) in
    cc
