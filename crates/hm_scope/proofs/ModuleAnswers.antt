-- The answers of the phases, one after another.
use Rattle.std.proofs.Common.{◌≡◌, ℕ, ◌++◌, ◌∷◌, [], Bool, true, false, cond, List, map, filter, None, inl, inr, ⊎_elim, ◌↔◌, refl, sym, ap, ◌∙◌, subst, Contains}
use Rattle.std.proofs.lemmas.List.Elements.{Contains-append_left, Contains-append_right, Contains-append_cases}
use Rattle.hm_types.specs.declared.Entity.{Entity}
use Rattle.hm_types.specs.Interfaces.{Exports as Interface, AreOrdered}
use Rattle.hm_syntax.specs.Trees.{Declaration}
use Rattle.hm_syntax.specs.declared.ast.Module.{Module}
use Rattle.hm_names.specs.declared.faults.Fault.{Fault}
use Rattle.hm_names.specs.declared.cores.Exported.{Exported}
use Rattle.hm_names.specs.declared.namespace.Namespace.{Namespace}
use Rattle.hm_names.specs.declared.namespace.Namespace.TheVariants.{Types, Constructors, Values}
use Rattle.hm_scope_exports.specs.declared.exports.ModuleExports.{ModuleExports}
use Rattle.hm_scope.specs.declared.scoping.ExportedRows.{ExportedRows}
use Rattle.hm_scope.specs.declared.scoping.Trees.{Trees}
use Rattle.hm_names.specs.ModuleCores.{ModuleCore}
use Rattle.hm_names.specs.Cores.{IsCore, exports_in}
use Rattle.hm_names.specs.Exports.{IsExported}
use Rattle.hm_names.specs.Bindings.{Pair, IsScopeOf}
use Rattle.hm_scope_exports.specs.ExportedRows.{IsBound}
use Rattle.hm_scope_exports.specs.ModuleExports.{AreExportsOf}
use Rattle.hm_names.specs.Walk.{Somewhere}
use Rattle.hm_names.specs.Resolved.{top, declaration_with}
use Rattle.hm_names.specs.Found.{Lookups, resolver_of}
use Rattle.hm_scope_tables.specs.KnownTables.{KnownTables, AreTablesOf, lookups_of}
use Rattle.hm_names.specs.NodeFaults.{NodeFault, AreLookupsOf}
use Rattle.hm_names.specs.Entities.{named, own}
use Rattle.hm_scope.specs.Synonyms.{HasSynonymFault}
use Rattle.hm_scope.specs.NeededSynonyms.{Exports, AreExportedTypes, kept_by, ResolvesNeeded}
use Rattle.hm_names.specs.Faults.Phases.{Exporting, IsWellFormed}
use Rattle.hm_scope.specs.PhaseAnswers.{is_of_lists, is_of_names, is_of_numbers}
use Rattle.hm_scope.specs.declared.phases.TreeFaults.{TreeFaults}
use Rattle.hm_scope.specs.Answers.{AreNoted, AreTreeFaults, AreTrees, AreWalked, IsResolvedModule, AreExportedRows, rows_in}
use Rattle.hm_names.proofs.Members.{none_in, cases, first, rest}
use Rattle.hm_scope.proofs.OneEntity.{one_entity, bound_is_exported}
use Rattle.hm_scope.proofs.KeptTrees.{kept_trees}
use Rattle.hm_scope.proofs.TreePhases.{declaring, naming, counting}

-- The rows of a core

pub rows_of : (given : List Pair) (r : ExportedRows) → ((x : List ℕ) (e : Entity) → Contains r.types (record { name = x; entity = e }) ↔ IsBound given Types x e) → AreOrdered (map (λ k. k.name) r.types)
    → ((x : List ℕ) (e : Entity) → Contains r.constructors (record { name = x; entity = e }) ↔ IsBound given Constructors x e) → AreOrdered (map (λ k. k.name) r.constructors)
    → ((x : List ℕ) (e : Entity) → Contains r.values (record { name = x; entity = e }) ↔ IsBound given Values x e) → AreOrdered (map (λ k. k.name) r.values) → AreExportedRows given (rows_in r)
rows_of given r t to k ko v vo = record { exact = exact; ordered = ordered }
  where
    exact : (s : Namespace) (x : List ℕ) (e : Entity) → Contains (rows_in r s) (record { name = x; entity = e }) ↔ IsBound given s x e
    exact Types x e = t x e
    exact Constructors x e = k x e
    exact Values x e = v x e

    ordered : (s : Namespace) → AreOrdered (map (λ (k : Exported). k.name) (rows_in r s))
    ordered Types = to
    ordered Constructors = ko
    ordered Values = vo

-- a core with these rows
same_rows : (r : ExportedRows) (c : ModuleCore) → c.exported_types ≡ r.types → c.exported_constructors ≡ r.constructors → c.exported_values ≡ r.values → (s : Namespace) → exports_in c s ≡ rows_in r s
same_rows r c types constructors values Types = types
same_rows r c types constructors values Constructors = constructors
same_rows r c types constructors values Values = values

pub core_is : (m : Module) (fs : List Interface) (ds : List Declaration) (given : List Pair) (r : ExportedRows) (c : ModuleCore) → IsResolvedModule m fs ds given → AreExportedRows given (rows_in r)
    → c.name ≡ m.header.name.text → c.decls ≡ ds → c.interfaces ≡ fs → c.exported_types ≡ r.types → c.exported_constructors ≡ r.constructors → c.exported_values ≡ r.values → IsCore m fs c
core_is m fs ds given r c is rows name decls interfaces types constructors values = record {
  well_formed = is.well_formed;
  name = name;
  interfaces = interfaces;
  resolver = is.are_resolved.resolver;
  resolves = is.are_resolved.resolves;
  trees = decls ∙ is.are_resolved.trees c.exported_types (exports Types);
  exports = exports;
  ordered = λ s. subst (λ (l : List Exported). AreOrdered (map (λ (k : Exported). k.name) l)) (sym (same s)) (rows.ordered s);
}
  where
    same : (s : Namespace) → exports_in c s ≡ rows_in r s
    same = same_rows r c types constructors values

    exports : (s : Namespace) (x : List ℕ) (e : Entity) → Contains (exports_in c s) (record { name = x; entity = e }) ↔ IsExported m fs s x e
    exports s x e = (
      λ h. (is.exact s x e).0 ((rows.exact s x e).0 (subst (λ (l : List Exported). Contains l (record { name = x; entity = e })) (same s) h)),
      λ h. subst (λ (l : List Exported). Contains l (record { name = x; entity = e })) (sym (same s)) ((rows.exact s x e).1 ((is.exact s x e).1 h)),
    )

-- The faults of the trees

filtered : (p : Fault → Bool) (fs : List Fault) (f : Fault) → Contains (filter p fs) f ↔ (Contains fs f × (p f ≡ true))
filtered p [] f = (λ c. absurd (none_in f c), λ h. absurd (none_in f h.0))
filtered p (g ∷ gs) f = go (p g) refl (filtered p gs f)
  where
    go : (b : Bool) → p g ≡ b → (Contains (filter p gs) f ↔ (Contains gs f × (p f ≡ true))) → Contains (cond b (g ∷ filter p gs) (filter p gs)) f ↔ (Contains (g ∷ gs) f × (p f ≡ true))
    go true e h = (
      λ c. ⊎_elim (λ q. (subst (λ z. Contains (g ∷ gs) z) (sym q) (first g gs), ap p q ∙ e)) (λ o. let k = h.0 o in (rest g gs f k.0, k.1)) (cases g (filter p gs) f c),
      λ k. ⊎_elim (λ q. subst (λ z. Contains (g ∷ filter p gs) z) (sym q) (first g (filter p gs))) (λ o. rest g (filter p gs) f (h.1 (o, k.1))) (cases g gs f k.0),
    )
    go false e h = (
      λ c. let k = h.0 c in (rest g gs f k.0, k.1),
      λ k. ⊎_elim (λ q. absurd (let z : true ≡ false = sym k.1 ∙ (ap p q ∙ e) in cc)) (λ o. h.1 (o, k.1)) (cases g gs f k.0),
    )

-- lookups whose tables are those of the module for types and constructors, whatever synonyms are known
pub are_lookups : (m : Module) (fs : List Interface) (pairs : List Pair) (start tables : KnownTables) → IsScopeOf m fs pairs → AreTablesOf m fs start → tables.types ≡ start.types → tables.constructors ≡ start.constructors
    → AreLookupsOf m fs (lookups_of pairs tables)
are_lookups m fs pairs start tables scope known types constructors = record {
  scope = scope;
  types = λ e. ap (λ l. Rattle.hm_names.specs.Found.arity_among l e) types ∙ known.types.arities e;
  constructors = λ e. ap (λ l. Rattle.hm_names.specs.Found.arity_among l e) constructors ∙ known.constructors.arities e;
}

-- the exported types that the module defines, by its exports
pub own_exported : (m : Module) (fs : List Interface) (e : ModuleExports) (home : List ℕ) (xs : List (List ℕ)) → AreExportsOf m fs e → home ≡ m.header.name.text → ((x : List ℕ) → Contains xs x ↔ Exports home e.given.items x) → AreExportedTypes m fs xs
own_exported m fs e home xs are here names x = (
  λ c. let q = (names x).0 c in (q.0.text, (are.given_names Types q.0.text (own m x)).0 (subst (λ (z : Pair). Contains e.given.items z) (same q.0 q.1.1.0 (are.bare q.0 q.1.0) q.1.1.1) q.1.0)),
  λ h. (names x).1 (record { space = Types; qualifier = None; text = h.0; entity = own m x }, ((are.given_names Types h.0 (own m x)).1 h.1, (refl, ap (λ z. named z x) (sym here)))),
)
  where
    same : (p : Pair) → p.space ≡ Types → p.qualifier ≡ None → p.entity ≡ named home x → p ≡ record { space = Types; qualifier = None; text = p.text; entity = own m x }
    same p s q t = λ i. record { space = s i; qualifier = q i; text = p.text; entity = (t ∙ ap (λ z. named z x) here) i }

pub are_walked : (m : Module) (fs : List Interface) (pairs : List Pair) (start tables : KnownTables) (exported : List (List ℕ)) (decls ds : List Declaration) (walked : List Fault) → IsScopeOf m fs pairs → AreTablesOf m fs start → tables.types ≡ start.types → tables.constructors ≡ start.constructors
    → AreExportedTypes m fs exported → (IsWellFormed m fs → ResolvesNeeded m fs exported tables.synonyms)
    → ((gs : List Interface) → AreLookupsOf m gs (lookups_of pairs tables) → (f : Fault) → Contains walked f ↔ Somewhere m (NodeFault m gs f))
    → decls ≡ map (declaration_with (resolver_of (lookups_of pairs tables)) (top m) []) m.decls → ds ≡ map (kept_by exported) decls → AreWalked m fs ds walked
are_walked m fs pairs start tables exported decls ds walked scope known types constructors own_types finished noted resolved kept = record {
  faults = noted fs looked;
  are_resolved = λ w. record {
    resolver = (finished w).resolver;
    resolves = (finished w).resolves;
    trees = λ es is. kept ∙ (ap (map (kept_by exported)) resolved ∙ kept_trees m fs w k looked exported (finished w) own_types es is);
  };
}
  where
    k : Lookups
    k = lookups_of pairs tables

    looked : AreLookupsOf m fs (lookups_of pairs tables)
    looked = are_lookups m fs pairs start tables scope known types constructors

-- the faults of a walk by phases, with those of synonyms
pub are_tree_faults : (m : Module) (fs : List Interface) (trees : TreeFaults) (walked recursive : List Fault) → AreNoted m fs walked
    → trees.lists.items ≡ filter is_of_lists walked → trees.names.items ≡ filter is_of_names walked → trees.numbers.items ≡ recursive ++ filter is_of_numbers walked
    → ((f : Fault) → Contains recursive f ↔ HasSynonymFault m fs f) → AreTreeFaults m fs trees
are_tree_faults m fs trees walked recursive noted lists names numbers cycles = record {
  lists = λ f. part is_of_lists trees.lists.items lists f (declaring m fs f);
  names = λ f. part is_of_names trees.names.items names f (naming m fs f);
  numbers = λ f. (
    λ c. (counting m fs f).0 (⊎_elim (λ r. inr ((cycles f).0 r)) (λ l. let k = (filtered is_of_numbers walked f).0 l in inl ((noted f).0 k.0, k.1)) (Contains-append_cases recursive (filter is_of_numbers walked) f (subst (λ l. Contains l f) numbers c))),
    λ h. subst (λ l. Contains l f) (sym numbers) (⊎_elim (λ l. Contains-append_right recursive (filter is_of_numbers walked) f ((filtered is_of_numbers walked f).1 ((noted f).1 l.0, l.1))) (λ r. Contains-append_left recursive (filter is_of_numbers walked) f ((cycles f).1 r)) ((counting m fs f).1 h)),
  );
}
  where
    part : (p : Fault → Bool) (l : List Fault) → l ≡ filter p walked → (f : Fault) → {H : Type 0} → (Somewhere m (NodeFault m fs f) × (p f ≡ true)) ↔ H → Contains l f ↔ H
    part p l is f says = (
      λ c. let k = (filtered p walked f).0 (subst (λ z. Contains z f) is c) in says.0 ((noted f).0 k.0, k.1),
      λ h. let k = says.1 h in subst (λ z. Contains z f) (sym is) ((filtered p walked f).1 ((noted f).1 k.0, k.1)),
    )

pub are_trees : (m : Module) (fs : List Interface) (trees : Trees) (walked recursive : List Fault) → AreWalked m fs trees.decls.items walked
    → trees.lists.items ≡ filter is_of_lists walked → trees.names.items ≡ filter is_of_names walked → trees.numbers.items ≡ recursive ++ filter is_of_numbers walked
    → ((f : Fault) → Contains recursive f ↔ HasSynonymFault m fs f) → AreTrees m fs trees
are_trees m fs trees walked recursive are lists names numbers cycles =
    let parts = are_tree_faults m fs (record { lists = trees.lists; names = trees.names; numbers = trees.numbers }) walked recursive are.faults lists names numbers cycles in
    record { lists = parts.lists; names = parts.names; numbers = parts.numbers; are_resolved = are.are_resolved }

pub resolved_module : (m : Module) (fs : List Interface) (trees : Trees) (exports : ModuleExports) → AreTrees m fs trees → AreExportsOf m fs exports → IsWellFormed m fs → IsResolvedModule m fs trees.decls.items exports.given.items
resolved_module m fs trees exports are given w = record {
  well_formed = w;
  are_resolved = are.are_resolved w;
  one_entity = one_entity m fs exports given (w Exporting);
  exact = bound_is_exported m fs exports given;
}
