-- What a well-formed module and its core keep of declarations: parameters are distinct, and synonyms have no other variables.
use Rattle.hm_names.proofs.ClosedTypes.{of_type}
use Rattle.hm_names.proofs.Members.{none_in, cases, contains_dec, mapped}
use Rattle.hm_names.specs.Cores.{IsCore, kept, is_exported}
use Rattle.hm_names.specs.DeclaredSynonyms.{IsSound}
use Rattle.hm_names.specs.Faults.Lists.{Repeats, second_parameter}
use Rattle.hm_names.specs.Faults.Names.{no_parameter}
use Rattle.hm_names.specs.Faults.Phases.{Declaring, fault, IsWellFormed, Naming}
use Rattle.hm_names.specs.ModuleCores.{ModuleCore}
use Rattle.hm_names.specs.Resolved.{type_with, declaration_with, top, resolved}
use Rattle.hm_names.specs.Types.{entity_of}
use Rattle.hm_names.specs.Variables.{texts, type_variables}
use Rattle.hm_names.specs.Walk.{Rule, InDeclaration, InDeclarations}
use Rattle.hm_names.specs.declared.faults.Kind.TheVariants.{Duplicate, Unbound}
use Rattle.hm_syntax.specs.Lists.{declarations}
use Rattle.hm_syntax.specs.Names.{Identifier}
use Rattle.hm_syntax.specs.Trees.{TypeTree, unit_type, Declaration, data_declaration, newtype_declaration, synonym_declaration, signature, clause, pattern_binding}
use Rattle.hm_syntax.specs.declared.ast.Module.{Module}
use Rattle.hm_types.specs.Interfaces.{Exports as Interface}
use Rattle.std.proofs.Common.{◌≡◌, List, [], ◌∷◌, inl, inr, refl, sym, ap, ◌∙◌, subst, Contains, Bool, true, false, cond, ◌⊎◌}

-- What a well-formed module says of its synonyms

pub stands_in : (Q : Rule) (ds : List Declaration) (d : Declaration) → Contains ds d → InDeclaration Q [] d → InDeclarations Q [] (declarations ds)
stands_in Q [] d c h = absurd (none_in d c)
stands_in Q (e ∷ ds) d c h = elim (cases e ds d c) [ inl s ↦ inl (subst (λ z. InDeclaration Q [] z) s h) | inr o ↦ inr (stands_in Q ds d o h) ]

pub sound : (m : Module) (fs : List Interface) → IsWellFormed m fs → (n : Identifier) (ps : List Identifier) (t : TypeTree) → Contains m.decls (synonym_declaration n ps t) → IsSound ps t
sound m fs w n ps t c = record {
  distinct = λ k r. w Declaring (fault Duplicate k) (record { kind = Duplicate; name = k; stands = inr (stands_in _ m.decls (synonym_declaration n ps t) c (inl (second_parameter r))); is = refl });
  closed = λ k h. elim (contains_dec (texts ps) k.text) [
    | yes i ↦ i
    | no o ↦ absurd (w Naming (fault Unbound k) (record { kind = Unbound; name = k; stands = inr (stands_in _ m.decls (synonym_declaration n ps t) c (inl (no_parameter h o))); is = refl }))
  ];
}

-- the parameters of a type's declaration
abbrev pub parameters_in : Declaration → List Identifier
parameters_in (data_declaration n ps cs) = ps
parameters_in (newtype_declaration n ps c) = ps
parameters_in (synonym_declaration n ps t) = ps
parameters_in (signature ns t) = []
parameters_in (clause n ps r) = []
parameters_in (pattern_binding line column p r) = []

-- a right side that is kept or left out
kept_side : (b : Bool) (t u : TypeTree) → t ≡ cond b u unit_type → (t ≡ u) ⊎ (t ≡ unit_type)
kept_side true t u h = inl h
kept_side false t u h = inr h

module _ (m : Module) (fs : List Interface) (c : ModuleCore) (core : IsCore m fs c) where
  was : (d : Declaration) → Contains c.decls d → (o : Declaration) × (Contains m.decls o × (d ≡ kept c.exported_types (declaration_with core.resolver (top m) [] o)))
  was d h =
      let k = (mapped (kept c.exported_types) (resolved m core.resolver) d).0 (subst (λ l. Contains l d) core.trees h) in
      let o = (mapped (declaration_with core.resolver (top m) []) m.decls k.0).0 k.1.0 in
      (o.0, (o.1.0, k.1.1 ∙ ap (kept c.exported_types) o.1.1))

  none_repeated : (o : Declaration) → Contains m.decls o → (k : Identifier) → ¬ (Repeats (parameters_in o) k)
  none_repeated (data_declaration n ps cs) h k r = core.well_formed Declaring (fault Duplicate k) (record { kind = Duplicate; name = k; stands = inr (stands_in _ m.decls (data_declaration n ps cs) h (inl (second_parameter r))); is = refl })
  none_repeated (newtype_declaration n ps d) h k r = core.well_formed Declaring (fault Duplicate k) (record { kind = Duplicate; name = k; stands = inr (stands_in _ m.decls (newtype_declaration n ps d) h (inl (second_parameter r))); is = refl })
  none_repeated (synonym_declaration n ps t) h k r = core.well_formed Declaring (fault Duplicate k) (record { kind = Duplicate; name = k; stands = inr (stands_in _ m.decls (synonym_declaration n ps t) h (inl (second_parameter r))); is = refl })
  none_repeated (signature ns t) h k r = r
  none_repeated (clause n ps g) h k r = r
  none_repeated (pattern_binding a b p g) h k r = r

  parameters_kept : (o : Declaration) → parameters_in (kept c.exported_types (declaration_with core.resolver (top m) [] o)) ≡ parameters_in o
  parameters_kept (data_declaration n ps cs) = refl
  parameters_kept (newtype_declaration n ps d) = refl
  parameters_kept (synonym_declaration n ps t) = refl
  parameters_kept (signature ns t) = refl
  parameters_kept (clause n ps g) = refl
  parameters_kept (pattern_binding a b p g) = refl

  pub distinct_there : (d : Declaration) → Contains c.decls d → (k : Identifier) → ¬ (Repeats (parameters_in d) k)
  distinct_there d h k r = let o = was d h in none_repeated o.0 o.1.0 k (subst (λ ps. Repeats ps k) (ap parameters_in o.1.1 ∙ parameters_kept o.0) r)

  pub sound_there : (n : Identifier) (ps : List Identifier) (t : TypeTree) → Contains c.decls (synonym_declaration n ps t) → IsSound ps t
  sound_there n ps t h = let o = was (synonym_declaration n ps t) h in from o.0 o.1.0 o.1.1
    where
      from : (o : Declaration) → Contains m.decls o → synonym_declaration n ps t ≡ kept c.exported_types (declaration_with core.resolver (top m) [] o) → IsSound ps t
      from (synonym_declaration k qs u) stands e =
          let params : ps ≡ qs = cc in
          let side : t ≡ cond (is_exported c.exported_types (entity_of (top m k))) (type_with core.resolver u) unit_type = cc in
          let s = sound m fs core.well_formed k qs u stands in
          record {
            distinct = λ j r. s.distinct j (subst (λ l. Repeats l j) params r);
            closed = λ j i. elim (kept_side (is_exported c.exported_types (entity_of (top m k))) t (type_with core.resolver u) side) [
              | inl h ↦ subst (λ l. Contains (texts l) j.text) (sym params) (s.closed j (of_type core.resolver u j (subst (λ z. Contains (type_variables z) j) h i)))
              | inr h ↦ absurd (none_in j (subst (λ z. Contains (type_variables z) j) h i))
            ];
          }
      from (data_declaration k qs cs) stands e = absurd (cc)
      from (newtype_declaration k qs d) stands e = absurd (cc)
      from (signature ns u) stands e = absurd (cc)
      from (clause k qs g) stands e = absurd (cc)
      from (pattern_binding a b p g) stands e = absurd (cc)
