-- Names of an export list.
use Rattle.std.proofs.Common.{◌≡◌, ℕ, ◌<◌, ◌+◌, All, take, Bool, true, false, cond, List, [], ◌∷◌, ◌++◌, get_or, length, Contains, None, Some, option_map, Bor, slice_get, ◌↔◌, inr, refl, sym, ap, ◌∙◌, subst}
use Rattle.std.proofs.lemmas.List.Elements.{All-more}
use Rattle.hm_types.specs.declared.Entity.{Entity}
use Rattle.hm_types.specs.Interfaces.{Exports as Interface}
use Rattle.hm_syntax.specs.Names.{Identifier}
use Rattle.hm_syntax.specs.declared.ast.Module.{Module}
use Rattle.hm_syntax.specs.declared.ast.Header.{Header}
use Rattle.hm_syntax.specs.declared.ast.Export.{Export}
use Rattle.hm_syntax.specs.declared.ast.Export.TheVariants as export
use Rattle.hm_syntax.specs.declared.ast.SubItems.{SubItems}
use Rattle.hm_syntax.specs.declared.ast.SubItems.TheVariants as subs
use Rattle.hm_names.specs.declared.namespace.Namespace.TheVariants.{Types, Constructors, Values}
use Rattle.hm_names.specs.Bindings.{IsScopeOf, Pair}
use Rattle.hm_names.proofs.Members.{none_in, first}
use Rattle.hm_scope_export_items.specs.ExportGroups.{AreGroupsOf, Groups, group_of, IsOwned, IsSelected}
use Rattle.hm_scope_export_items.specs.declared.export_groups.Selector.{Selector}
use Rattle.hm_names.specs.Exports.{HasConstructor}
use Rattle.hm_names.specs.Scope.{IsAmbiguous, IsUnbound, Means}
use Rattle.hm_names.specs.Texts.{is_text_among}
use Rattle.hm_names.proofs.Standing.{among_decides}
use Rattle.hm_uses.specs.declared.name_kind.NameKind.TheVariants.{Variable, Constructor, TypeConstructor, ModuleName}
use Rattle.hm_uses.specs.Mentions.{mention, sub_mentions, export_mentions, exports_mentions, export_list_mentions}
use Rattle.hm_uses.specs.Uses.{ByScope, HasExport, OfExported, InHeader, exported_variable, exported_type, exported_constructor, exported_prefix, no_prefix, constructor_of, no_constructor, an_entity, Sense, UseOf, a_prefix, unbound}
use Rattle.hm_uses.specs.Found.{use_as}
use Rattle.hm_uses_header.specs.Adding.{Adds}
use Rattle.hm_uses_header.specs.Lookups.{AreTablesOf, NamesParts, names_parts}
use Rattle.hm_uses_header.specs.declared.exports.ExportTables.{ExportTables}
use Rattle.hm_uses_header.proofs.Steps.{adds_one, adds_both, adds_under}

-- what must hold for the names of an item
abbrev pub Item : ExportTables → Export → Module → List Interface → Type 0
Item tables i m fs = AreTablesOf m fs tables × HasExport m i

module _ (tables : ExportTables) (us vs : List UseOf) (n : Identifier) (t : Sense) where
  pub variable_added : vs ≡ us ++ use_as Variable false n t → ((m : Module) (fs : List Interface) → IsScopeOf m fs tables.scope.now → ByScope m fs Values n t) → Adds us vs (export_mentions (export.Var n)) (Item tables (export.Var n))
  variable_added is by = adds_one (Item tables (export.Var n)) us vs Variable false n t is (λ m fs (a, h). inr (exported_variable h (by m fs a.scope)))

  pub type_added : (s : SubItems) (ws : List UseOf) → vs ≡ us ++ use_as TypeConstructor false n t → ((m : Module) (fs : List Interface) → IsScopeOf m fs tables.scope.now → ByScope m fs Types n t)
      → Adds vs ws (sub_mentions s) (Item tables (export.Con n s)) → Adds us ws (export_mentions (export.Con n s)) (Item tables (export.Con n s))
  type_added s ws is by behind = adds_both (Item tables (export.Con n s)) us vs ws (mention TypeConstructor false n) (sub_mentions s)
      (adds_one (Item tables (export.Con n s)) us vs TypeConstructor false n t is (λ m fs (a, h). inr (exported_type h (by m fs a.scope)))) behind

  -- the meaning of the name in `module N`
  prefix_stands : (b : Bool) → is_text_among n.text tables.modules ≡ b → t ≡ cond b (a_prefix n.text) unbound → (m : Module) (fs : List Interface) → Item tables (export.Whole n) m fs → InHeader m fs n ModuleName false t
  prefix_stands true e is m fs (a, h) = subst (InHeader m fs n ModuleName false) (sym is) (exported_prefix h ((a.modules n.text).0 ((among_decides n.text tables.modules).0 e)))
  prefix_stands false e is m fs (a, h) = subst (InHeader m fs n ModuleName false) (sym is) (no_prefix h (λ k. let f : false ≡ true = sym e ∙ (among_decides n.text tables.modules).1 ((a.modules n.text).1 k) in cc))

  pub whole_added : vs ≡ us ++ use_as ModuleName false n t → t ≡ cond (is_text_among n.text tables.modules) (a_prefix n.text) unbound → Adds us vs (export_mentions (export.Whole n)) (Item tables (export.Whole n))
  whole_added is told = adds_one (Item tables (export.Whole n)) us vs ModuleName false n t is (λ m fs k. inr (prefix_stands (is_text_among n.text tables.modules) refl told m fs k))

-- what must hold for the names of a list
abbrev pub Listed : ExportTables → List Export → Module → List Interface → Type 0
Listed tables is m fs = AreTablesOf m fs tables × (m.header.exports ≡ Some is)

module _ (tables : ExportTables) (us vs : List UseOf) where
  pub part_added : (n : Identifier) (parts : List Identifier) (i : ℕ) (c : Identifier) (t : Sense) → i < length parts → c ≡ get_or parts i c → vs ≡ us ++ use_as Constructor false c t
      → ((m : Module) (fs : List Interface) → AreTablesOf m fs tables → NamesParts m → OfExported m fs n c t) → Adds us vs (mention Constructor false c) (Item tables (export.Con n (subs.Some parts)))
  part_added n parts i c t inside e is by = adds_one (Item tables (export.Con n (subs.Some parts))) us vs Constructor false c t is (λ m fs (a, h). inr (exported_constructor h (i, inside, sym e) (by m fs a (n, (parts, h)))))

  pub item_added : (is : List Export) (i : ℕ) (x : Export) → i < length is → x ≡ get_or is i x → Adds us vs (export_mentions x) (Item tables x) → Adds us vs (export_mentions x) (Listed tables is)
  item_added is i x inside e one = adds_under (Listed tables is) (Item tables x) us vs (export_mentions x) (λ m fs (a, h). (a, (is, (h, (i, inside, sym e))))) one

  -- the list of a header
  pub list_added : (h : Header) (is : List Export) → h.exports ≡ Some is → Adds us vs (exports_mentions is) (Listed tables is) → Adds us vs (export_list_mentions h.exports) (λ m fs. AreTablesOf m fs tables × (m.header ≡ h))
  list_added h is e all = subst (λ l. Adds us vs (export_list_mentions l) (λ m fs. AreTablesOf m fs tables × (m.header ≡ h))) (sym e)
      (adds_under (λ m fs. AreTablesOf m fs tables × (m.header ≡ h)) (Listed tables is) us vs (exports_mentions is) (λ m fs (a, k). (a, ap (λ (g : Header). g.exports) k ∙ e)) all)

-- constructors of a type
module _ (m : Module) (fs : List Interface) (n c : Identifier) where
  pub part_of_none : IsUnbound m fs Types n → OfExported m fs n c unbound
  part_of_none u = no_constructor (λ t e means has. u t means.in_scope)

  pub part_of_several : IsAmbiguous m fs Types n → OfExported m fs n c unbound
  part_of_several (d, (e, (p, q, apart))) = no_constructor (λ t k means has. apart (means.alone d p ∙ sym (means.alone e q)))

  pub part_found : (t e : Entity) (x : List ℕ) → x ≡ c.text → Means m fs Types n t → HasConstructor m fs t x e → OfExported m fs n c (an_entity e)
  part_found t e x is means has = constructor_of means (subst (λ y. HasConstructor m fs t y e) is has)

  pub part_missing : (t : Entity) (x : List ℕ) → x ≡ c.text → Means m fs Types n t → ((e : Entity) → ¬ HasConstructor m fs t x e) → OfExported m fs n c unbound
  part_missing t x is means none = no_constructor (λ s e other has. none e (subst (λ y. HasConstructor m fs t y e) (sym is) (subst (λ z. HasConstructor m fs z c.text e) (means.alone s other.in_scope) has)))

module _ (m : Module) (fs : List Interface) (groups : Groups) (k : Selector) (owner : Entity) (x : List ℕ) (are : AreGroupsOf m fs groups)
    (of : k.«module».now ≡ owner.«module») (named_so : option_map (λ (t : Bor (List ℕ)). t.now) k.owner ≡ Some owner.name) (under : option_map (λ (t : Bor (List ℕ)). t.now) k.part ≡ Some x) where
  its : (p : Pair) → Contains (group_of groups k) p ↔ IsSelected m fs owner.«module» (Some owner.name) (Some x) p
  its p = subst (λ z. Contains (group_of groups k) p ↔ IsSelected m fs owner.«module» (Some owner.name) z p) under
      (subst (λ z. Contains (group_of groups k) p ↔ IsSelected m fs owner.«module» z (option_map (λ (t : Bor (List ℕ)). t.now) k.part) p) named_so
      (subst (λ z. Contains (group_of groups k) p ↔ IsSelected m fs z (option_map (λ (t : Bor (List ℕ)). t.now) k.owner) (option_map (λ (t : Bor (List ℕ)). t.now) k.part) p) of (are k p)))

  pub none_there : group_of groups k ≡ [] → (e : Entity) → ¬ HasConstructor m fs owner x e
  none_there none e has =
      let p : Pair = record { space = Constructors; qualifier = None; text = x; entity = e } in
      none_in p (subst (λ l. Contains l p) none ((its p).1 ((refl, (refl, has)), refl)))

  pub one_there : (p : Pair) → Contains (group_of groups k) p → HasConstructor m fs owner x p.entity
  one_there p there = at ((its p).0 there)
    where
      at : IsOwned m fs owner p × (p.text ≡ x) → HasConstructor m fs owner x p.entity
      at ((q, (s, has)), e) = subst (λ y. HasConstructor m fs owner y p.entity) e has

-- the first pair of a group
pub none_first : (ps : List Pair) → None ≡ slice_get ps 0 → ps ≡ []
none_first [] e = refl
none_first (p ∷ ps) e = absurd (let z : None ≡ Some p = e in cc)

pub some_first : (ps : List Pair) (p : Pair) → Some p ≡ slice_get ps 0 → Contains ps p
some_first [] p e = absurd (let z : Some p ≡ None = e in cc)
some_first (q ∷ ps) p e = let z : Some p ≡ Some q = e in let same : p ≡ q = cc in subst (λ (y : Pair). Contains (q ∷ ps) y) (sym same) (first q ps)

-- lists whose items name no constructors
abbrev pub NoneNamed : List Export → Type 0
NoneNamed is = All (λ (i : Export). names_parts i ≡ false) is

pub one_more : (is : List Export) (i : ℕ) (x : Export) → i < length is → x ≡ get_or is i x → names_parts x ≡ false → NoneNamed (take i is) → NoneNamed (take (i + 1) is)
one_more is i x inside e none before = All-more (λ (j : Export). names_parts j ≡ false) is i x inside before (subst (λ (j : Export). names_parts j ≡ false) e none)
