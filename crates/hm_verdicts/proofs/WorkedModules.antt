-- Verdicts of the worked modules.
use Rattle.std.proofs.Common.{◌≡◌, ℕ, ◌<◌, List, [], ◌∷◌, ◌++◌, map, Option, None, Some, Contains, ◌↔◌, inl, ⊎_elim, refl, sym, ap, ap₂, ◌∙◌, subst, arith, codes}
use Rattle.std.specs.List.Sorted.{IsStrictlySortedBy}
use Rattle.std.proofs.lemmas.List.Elements.{Contains-append_right}
use Rattle.hm_types.specs.declared.Entity.{Entity}
use Rattle.hm_types.specs.declared.Head.TheVariants as head
use Rattle.hm_types.specs.declared.entries.ValueEntry.{ValueEntry}
use Rattle.hm_types.specs.Interfaces.{Exports as Interface, IsInterface}
use Rattle.hm_types.specs.Schemes.{TypeScheme}
use Rattle.hm_types.specs.StandardPrelude.{prelude_interface}
use Rattle.hm_types.specs.Types.{App, done}
use Rattle.hm_typing.specs.Assumptions.{Assumptions}
use Rattle.hm_typing.specs.BindingLists.{HasSchemes, HasPrincipalSchemes}
use Rattle.hm_typing.specs.Names.{Identifier as Name, global, IsDistinct}
use Rattle.hm_typing.specs.Schemes.{Monotype, Scheme, closed, IsAtMostAsGeneral}
use Rattle.hm_typing.specs.Syntax.{Bindings, no_binding, prelude_type, names}
use Rattle.hm_typing.proofs.Ordering.{layout}
use Rattle.hm_syntax.specs.Names.{Identifier, character}
use Rattle.hm_syntax.specs.Trees.{no_patterns, Declarations, no_declarations, Declaration, clause, literal_expression, right_side, plain_body, no_bodies, synonym_declaration}
use Rattle.hm_syntax.specs.Lists.{declarations}
use Rattle.hm_syntax.specs.declared.ast.Module.{Module}
use Rattle.hm_syntax.specs.declared.ast.Export.{Export}
use Rattle.hm_syntax.specs.declared.ast.Export.TheVariants as export
use Rattle.hm_syntax.specs.declared.ast.ImportItem.{ImportItem}
use Rattle.hm_syntax.specs.declared.ast.ImportList.TheVariants as list
use Rattle.hm_names.specs.declared.faults.Fault.{Fault}
use Rattle.hm_names.specs.declared.faults.Kind.{Kind}
use Rattle.hm_names.specs.declared.faults.Kind.TheVariants.{NotImported}
use Rattle.hm_names.specs.declared.namespace.Namespace.{Namespace}
use Rattle.hm_names.specs.declared.namespace.Namespace.TheVariants.{Types, Constructors, Values}
use Rattle.hm_names.specs.Cores.{IsCore, IsTop, IsInterfaceOf, HasScheme, own, other, assumptions, syntax_of, exports_in}
use Rattle.hm_names.specs.Entities.{DeclaredBy, a_variable, Declares, named}
use Rattle.hm_names.specs.Exports as exports
use Rattle.hm_names.specs.Expansion.{as_entity}
use Rattle.hm_names.specs.Faults.Arities as counting
use Rattle.hm_names.specs.Faults.Exports as exporting
use Rattle.hm_names.specs.Faults.Imports as importing
use Rattle.hm_names.specs.Faults.Lists as lists
use Rattle.hm_names.specs.Faults.Names as naming
use Rattle.hm_names.specs.Faults.Phases.{Phase, Importing, Declaring, Exporting, Naming, Counting, phase_number, HasFault, IsWellFormed, fault}
use Rattle.hm_names.specs.ModuleCores.{ModuleCore}
use Rattle.hm_names.specs.Scope.{written, added, known_as}
use Rattle.hm_names.specs.Walk.{Rule, Locals, Somewhere, at_list, at_head}
use Rattle.hm_names.proofs.Existence.{has_resolver}
use Rattle.hm_names.proofs.Members.{none_in, cases, first}
use Rattle.hm_verdicts.specs.ModuleVerdicts.{ArePrincipal, IsCanonical, IsGoodFor, IsFaultyFor}
use Rattle.hm_verdicts.specs.Worked.{at, module_of, letter, module_A, Z, module_B}
use Rattle.hm_verdicts.specs.WorkedVerdicts.{character as character_scheme, entry_x as entry_of, interface_A, fault_Z}
use Rattle.hm_verdicts.proofs.WorkedPlan.{head_of}

abbrev pub prelude_alone : List Interface
prelude_alone = prelude_interface ∷ []

abbrev pub char_scheme : TypeScheme
char_scheme = character_scheme

abbrev pub entry_x : ValueEntry
entry_x = entry_of char_scheme

-- the one element of a list
only : {X : Type 0} (a y : X) → Contains (a ∷ []) y → y ≡ a
only a y c = ⊎_elim (λ e. e) (λ o. absurd (none_in y o)) (cases a [] y c)

-- Faults of imports: there is no list

no_item : (x : List ℕ) (es : Option (List Export)) (ds : List Declaration) {f : Interface} {j : ImportItem} → ¬ (importing.ListsItem (module_of x es [] ds) prelude_alone f j)
no_item x es ds (importing.lists {i = i} {is = is} (written c) k n e o) = none_in i c
no_item x es ds (importing.lists {i = i} {is = is} (added s q) k n e o) = let z : list.Every ≡ list.Only is = sym (ap (λ y. y.list) q) ∙ e in absurd (cc)

no_import_fault : (x : List ℕ) (es : Option (List Export)) (ds : List Declaration) (k : Kind) (n : Identifier) → ¬ (importing.ImportFault (module_of x es [] ds) prelude_alone k n)
no_import_fault x es ds k n (importing.a_value l m) = no_item x es ds l
no_import_fault x es ds k n (importing.a_type l m) = no_item x es ds l
no_import_fault x es ds k n (importing.a_constructor l a b c) = no_item x es ds l

-- Faults of trees

abbrev letters : Declarations
letters = declarations (letter ∷ [])

somewhere_A : (Q : Rule) → ((xs : Locals) → ¬ (Q xs (at_list letters))) → ((xs : Locals) → ¬ (Q xs (at_head no_patterns))) → ((xs : Locals) → ¬ (Q xs (at_list no_declarations))) → ¬ (Somewhere module_A Q)
somewhere_A Q a b c h = ⊎_elim (λ t. a [] t)
    (λ d. ⊎_elim (λ p. ⊎_elim (λ q. ⊎_elim (λ t. b [] t) (λ t. t) q) (λ q. ⊎_elim (λ t. ⊎_elim (λ u. u) (λ u. u) t) (λ t. ⊎_elim (λ u. c [] u) (λ u. u) t) q) p) (λ p. p) d) h

no_list_fault : (k : Kind) (n : Identifier) → ¬ (lists.ListFault (at_list no_declarations) k n)
no_list_fault k n (lists.second_type r) = r
no_list_fault k n (lists.second_constructor r) = r
no_list_fault k n (lists.second_binding r) = r
no_list_fault k n (lists.second_signature r) = r
no_list_fault k n (lists.no_binding c o) = none_in n c

no_top_fault : (k : Kind) (n : Identifier) → ¬ (lists.ListFault (at_list letters) k n)
no_top_fault k n (lists.second_type r) = r
no_top_fault k n (lists.second_constructor r) = r
no_top_fault k n (lists.second_binding r) = ⊎_elim (λ h. none_in n h.0) (λ h. h) r
no_top_fault k n (lists.second_signature r) = r
no_top_fault k n (lists.no_binding c o) = none_in n c

no_head_fault : (k : Kind) (n : Identifier) → ¬ (lists.ListFault (at_head no_patterns) k n)
no_head_fault k n h = elim h [ ]

no_name_in_list : (m : Module) (xs : Locals) (ds : Declarations) (k : Kind) (n : Identifier) → ¬ (naming.NameFault m prelude_alone xs (at_list ds) k n)
no_name_in_list m xs ds k n (naming.unbound u i) = elim u [ ]
no_name_in_list m xs ds k n (naming.ambiguous u i) = elim u [ ]

no_name_in_head : (m : Module) (xs : Locals) (k : Kind) (n : Identifier) → ¬ (naming.NameFault m prelude_alone xs (at_head no_patterns) k n)
no_name_in_head m xs k n (naming.unbound u i) = elim u [ ]
no_name_in_head m xs k n (naming.ambiguous u i) = elim u [ ]
no_name_in_head m xs k n (naming.non_linear r) = r

no_count : (m : Module) (k : Kind) (n : Identifier) → ¬ (counting.ArityFault m prelude_alone (at_list letters) k n)
no_count m k n (counting.another_length c) = none_in n c

no_count_below : (m : Module) (k : Kind) (n : Identifier) → ¬ (counting.ArityFault m prelude_alone (at_list no_declarations) k n)
no_count_below m k n (counting.another_length c) = none_in n c

no_count_in_head : (m : Module) (k : Kind) (n : Identifier) → ¬ (counting.ArityFault m prelude_alone (at_head no_patterns) k n)
no_count_in_head m k n h = elim h [ ]

no_synonym : (k : Kind) (n : Identifier) → ¬ (counting.SynonymFault module_A prelude_alone k n)
no_synonym k n (counting.recursive {n = x} {ps = ps} {t = t} c r) = let z : synonym_declaration x ps t ≡ letter = only letter _ c in absurd (cc)

pub well_formed_A : IsWellFormed module_A prelude_alone
well_formed_A Importing f h = no_import_fault (codes "A") None (letter ∷ []) h.kind h.name h.stands
well_formed_A Declaring f h = somewhere_A (λ xs t. lists.ListFault t h.kind h.name) (λ xs. no_top_fault h.kind h.name) (λ xs. no_head_fault h.kind h.name) (λ xs. no_list_fault h.kind h.name) h.stands
well_formed_A Exporting f h = let z : None ≡ Some h.stands.0 = h.stands.1.0 in absurd (cc)
well_formed_A Naming f h = somewhere_A (λ xs t. naming.NameFault module_A prelude_alone xs t h.kind h.name) (λ xs. no_name_in_list module_A xs letters h.kind h.name) (λ xs. no_name_in_head module_A xs h.kind h.name) (λ xs. no_name_in_list module_A xs no_declarations h.kind h.name) h.stands
well_formed_A Counting f h = ⊎_elim (λ s. somewhere_A (λ xs t. counting.ArityFault module_A prelude_alone t h.kind h.name) (λ xs. no_count module_A h.kind h.name) (λ xs. no_count_in_head module_A h.kind h.name) (λ xs. no_count_below module_A h.kind h.name) s) (λ s. no_synonym h.kind h.name s) h.stands

-- The core of A

abbrev x_of_A : Entity
x_of_A = named (codes "A") (codes "x")

abbrev core_A : ModuleCore
core_A = record {
  name = codes "A";
  decls = clause (as_entity (at 1 18 (codes "x")) x_of_A) no_patterns (right_side (plain_body (literal_expression (character (codes "'c'"))) no_bodies) no_declarations) ∷ [];
  interfaces = prelude_alone;
  exported_types = [];
  exported_constructors = [];
  exported_values = record { name = codes "x"; entity = x_of_A } ∷ [];
}

abbrev Exported : Namespace → List ℕ → Entity → Type 0
Exported s x e = Contains (exports_in core_A s) (record { name = x; entity = e }) ↔ exports.IsExported module_A prelude_alone s x e

declared_A : (x : List ℕ) (s : Namespace) → Declares module_A x s → DeclaredBy x letter s
declared_A x s d = subst (λ z. DeclaredBy x z s) (only letter d.declaration d.stands) d.declares

no_type : (x : List ℕ) → ¬ (DeclaredBy x letter Types)
no_type x h = elim h [ ]

no_constructor : (x : List ℕ) → ¬ (DeclaredBy x letter Constructors)
no_constructor x h = elim h [ ]

declared_x : (x : List ℕ) → DeclaredBy x letter Values → codes "x" ≡ x
declared_x x (a_variable e) = e

exported_by : (s : Namespace) (x : List ℕ) (e : Entity) → exports.IsExported module_A prelude_alone s x e → DeclaredBy x letter s × (e ≡ named (codes "A") x)
exported_by s x e (exports.all n d q) = (declared_A x s d, q)
exported_by s x e (exports.listed {es = es} n c g) = let z : None ≡ Some es = n in absurd (cc)

x_is_exported : (x : List ℕ) (e : Entity) → codes "x" ≡ x → e ≡ named (codes "A") x → exports.IsExported module_A prelude_alone Values x e
x_is_exported x e q r = exports.all refl (record { declaration = letter; stands = first letter []; declares = a_variable q }) r

exports_of_A : (s : Namespace) (x : List ℕ) (e : Entity) → Exported s x e
exports_of_A Types x e = ((λ c. absurd (none_in _ c)), (λ h. absurd (no_type x (exported_by Types x e h).0)))
exports_of_A Constructors x e = ((λ c. absurd (none_in _ c)), (λ h. absurd (no_constructor x (exported_by Constructors x e h).0)))
exports_of_A Values x e = (
  (λ c. let q = only (record { name = codes "x"; entity = x_of_A }) (record { name = x; entity = e }) c in
      x_is_exported x e (sym (ap (λ r. r.name) q)) (ap (λ r. r.entity) q ∙ ap (λ y. named (codes "A") y) (sym (ap (λ r. r.name) q)))),
  (λ h. let q = exported_by Values x e h in let y = declared_x x q.0 in subst (λ r. Contains core_A.exported_values r) (ap₂ (λ n d. record { name = n; entity = d }) y (ap (λ n. named (codes "A") n) y ∙ sym q.1)) (first _ [])),
)

ordered_A : (s : Namespace) → Rattle.hm_types.specs.Interfaces.AreOrdered (map (λ r. r.name) (exports_in core_A s))
unfolding IsStrictlySortedBy
ordered_A Types = tt
ordered_A Constructors = tt
ordered_A Values = (tt, tt)

pub is_core_A : IsCore module_A prelude_alone core_A
is_core_A = let r = has_resolver module_A prelude_alone well_formed_A in record {
  well_formed = well_formed_A;
  name = refl;
  interfaces = refl;
  resolver = r.0;
  resolves = r.1;
  trees = refl;
  exports = exports_of_A;
  ordered = ordered_A;
}

-- Its typing: x is a character

abbrev x_of : Name
x_of = global x_of_A

abbrev char : Monotype
char = prelude_type (codes "Char")

abbrev A_assumes : Assumptions
A_assumes = assumptions core_A

abbrev typed_A : Bindings
typed_A = syntax_of core_A

distinct_A : IsDistinct (names typed_A)
distinct_A = ((λ o. o), tt)

has_char : HasSchemes A_assumes typed_A (λ y. closed char)
has_char = let l = layout typed_A distinct_A in let m = layout no_binding tt in record {
  own = l.own;
  units = l.units;
  types = λ y. char;
  bindings = (
    (
      refl,
      (
        record {
          variables = λ y. char;
          parameters = λ i. char;
          result = char;
          function = refl;
          matched = tt;
          body = record {
            schemes = λ y. closed char;
            listed = record { own = m.own; units = m.units; types = λ y. char; bindings = tt };
            body = (refl, tt);
          };
        },
        tt,
      ),
    ),
    tt,
  );
}

-- each scheme that types it is that of a character
only_char : (B : Name → Scheme) → HasSchemes A_assumes typed_A B → B x_of ≡ closed char
only_char B l =
    let b = l.bindings.0 in
    let c = b.1.0 in
    let e : l.types x_of ≡ char = c.function ∙ c.body.body.0 in
    b.0 ∙ ap (λ t. Rattle.hm_typing.specs.Generalisation.quantify A_assumes t) e

principal_A : HasPrincipalSchemes A_assumes typed_A (λ y. closed char)
principal_A = record { typed = has_char; most = λ B l y o t i. ⊎_elim (λ e. subst (λ σ. Rattle.hm_typing.specs.Schemes.IsInstance t σ) (ap B e ∙ only_char B l) i) (λ z. absurd z) o }

abbrev pub given_A : List ℕ → Option TypeScheme
given_A x = Some char_scheme

canonical_A : IsCanonical char_scheme
canonical_A = record { not_rigid = tt; numbered = refl }

pub are_principal_A : ArePrincipal core_A given_A
are_principal_A = record { schemes = λ y. closed char; principal = principal_A; each = λ e o. (char_scheme, (refl, canonical_A, ((λ t i. i), (λ t i. i)))) }

-- Its interface

scheme_or : TypeScheme → Option TypeScheme → TypeScheme
scheme_or d None = d
scheme_or d (Some s) = s

scheme_of_x : (e : Entity) (s : TypeScheme) → IsTop core_A e → HasScheme core_A given_A e s → s ≡ char_scheme
unfolding scheme_or
scheme_of_x e s t (own top k) = sym (ap (scheme_or s) k)
scheme_of_x e s t (other n k q) = absurd (n t)

values_of_A : (r : ValueEntry) → Contains interface_A.values r ↔ (Contains core_A.exported_values (record { name = r.name; entity = r.entity }) × HasScheme core_A given_A r.entity r.scheme)
values_of_A r = (
  (λ c. subst (λ v. Contains core_A.exported_values (record { name = v.name; entity = v.entity }) × HasScheme core_A given_A v.entity v.scheme) (sym (only entry_x r c)) (first _ [], own (inl refl) refl)),
  (λ h.
      let q = only (record { name = codes "x"; entity = x_of_A }) (record { name = r.name; entity = r.entity }) h.0 in
      let n : r.name ≡ codes "x" = ap (λ y. y.name) q in
      let e : r.entity ≡ x_of_A = ap (λ y. y.entity) q in
      let s : r.scheme ≡ char_scheme = scheme_of_x r.entity r.scheme (inl (ap global e)) h.1 in
      let same : r ≡ entry_x = ap (λ z. record { name = z; entity = r.entity; scheme = r.scheme }) n ∙ (ap (λ z. record { name = codes "x"; entity = z; scheme = r.scheme }) e ∙ ap (λ z. record { name = codes "x"; entity = x_of_A; scheme = z }) s) in
      subst (λ v. Contains interface_A.values v) (sym same) (first entry_x [])),
)

is_interface_A : IsInterfaceOf core_A given_A interface_A
is_interface_A = record {
  name = refl;
  types = λ r. ((λ c. absurd (none_in _ c)), (λ h. absurd (none_in _ h.0)));
  synonyms = λ r. ((λ c. absurd (none_in _ c)), (λ h. absurd (none_in _ h.0)));
  constructors = λ r. ((λ c. absurd (none_in _ c)), (λ h. absurd (none_in _ h.0)));
  values = values_of_A;
}

interface_ordered : IsInterface interface_A
unfolding IsStrictlySortedBy
interface_ordered = record { types = tt; synonyms = tt; apart = λ x c. absurd (none_in x c); constructors = tt; values = (tt, tt) }

pub good_A : IsGoodFor module_A prelude_alone interface_A
good_A = record { core = core_A; is_core = is_core_A; given = given_A; principal = are_principal_A; interface = is_interface_A; ordered = interface_ordered }

-- B exports the module Z, which it doesn't import

abbrev whole_Z : Export
whole_Z = export.Whole Z

not_a_name : ¬ (exports.IsModuleName module_B (codes "Z"))
not_a_name (exports.this e) = let q : 66 ≡ 90 = ap head_of e in absurd (omega (arith, q))
not_a_name (exports.an_import {i = i} (written c) e) = none_in i c
not_a_name (exports.an_import {i = i} (added o s) e) = let q : 80 ≡ 90 = ap head_of (sym (ap known_as s) ∙ e) in absurd (omega (arith, q))

gives_nothing : (x : List ℕ) (e : Entity) (s : Namespace) → ¬ (exports.Gives module_B prelude_alone x e whole_Z s)
gives_nothing x e s (exports.whole n b q) = not_a_name n

name_or : Identifier → Export → Identifier
name_or d (export.Whole n) = n
name_or d i = d

no_clash : (before after : List Export) (i : Export) (x : List ℕ) → (whole_Z ∷ []) ≡ before ++ (i ∷ after) → ¬ (exporting.Clashes module_B prelude_alone before i x)
no_clash before after i x e c =
    let q : i ≡ whole_Z = only whole_Z i (subst (λ is. Contains is i) (sym e) (Contains-append_right before (i ∷ after) i (first i after))) in
    gives_nothing x c.one c.space (subst (λ j. exports.Gives module_B prelude_alone x c.one j c.space) q c.given)

export_fault : (k : Kind) (n : Identifier) → exporting.ExportFault module_B prelude_alone (whole_Z ∷ []) k n → (k ≡ NotImported) × (n ≡ Z)
unfolding name_or
export_fault k n (exporting.unbound_value c u) = let q : export.Var n ≡ whole_Z = only whole_Z _ c in absurd (cc)
export_fault k n (exporting.unbound_type {s = s} c u) = let q : export.Con n s ≡ whole_Z = only whole_Z _ c in absurd (cc)
export_fault k n (exporting.ambiguous_value c u) = let q : export.Var n ≡ whole_Z = only whole_Z _ c in absurd (cc)
export_fault k n (exporting.ambiguous_type {s = s} c u) = let q : export.Con n s ≡ whole_Z = only whole_Z _ c in absurd (cc)
export_fault k n (exporting.unbound_constructor {n = t} {cs = cs} c m o u) = let q : export.Con t (Rattle.hm_syntax.specs.declared.ast.SubItems.TheVariants.Some cs) ≡ whole_Z = only whole_Z _ c in absurd (cc)
export_fault k n (exporting.clash before after {i = i} {x = x} e c l) = absurd (no_clash before after i x e c)
export_fault k n (exporting.not_imported c m) = (refl, ap (name_or n) (only whole_Z (export.Whole n) c))

first_export : (es : List Export) → Some (whole_Z ∷ []) ≡ Some es → es ≡ whole_Z ∷ []
first_export es e = cc

found_in_B : (f : Fault) → HasFault module_B prelude_alone Exporting f → f ≡ fault_Z
found_in_B f h =
    let s = h.stands in
    let e : s.0 ≡ whole_Z ∷ [] = first_export s.0 s.1.0 in
    let q = export_fault h.kind h.name (subst (λ es. exporting.ExportFault module_B prelude_alone es h.kind h.name) e s.1.1) in
    h.is ∙ ap₂ fault q.0 q.1

fault_in_B : HasFault module_B prelude_alone Exporting fault_Z
fault_in_B = record { kind = NotImported; name = Z; stands = (whole_Z ∷ [], (refl, exporting.not_imported (first whole_Z []) not_a_name)); is = refl }

none_before : (p : Phase) → phase_number p < 3 → (f : Fault) → ¬ (HasFault module_B prelude_alone p f)
none_before Importing l f h = no_import_fault (codes "B") (Some (whole_Z ∷ [])) [] h.kind h.name h.stands
none_before Declaring l f h = ⊎_elim (λ t. no_list_fault h.kind h.name t) (λ t. t) h.stands
none_before Exporting l f h = absurd (omega (arith, l))
none_before Naming l f h = absurd (omega (arith, l))
none_before Counting l f h = absurd (omega (arith, l))

pub faulty_B : IsFaultyFor module_B prelude_alone (fault_Z ∷ [])
faulty_B = inl (record {
  phase = Exporting;
  some = λ e. cc;
  exact = λ f. ((λ c. subst (λ g. HasFault module_B prelude_alone Exporting g) (sym (only fault_Z f c)) fault_in_B), (λ h. subst (λ g. Contains (fault_Z ∷ []) g) (sym (found_in_B f h)) (first fault_Z [])));
  first = none_before;
  ordered = tt;
})
