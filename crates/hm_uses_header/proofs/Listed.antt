-- Names of imports and of their lists.
use Rattle.std.proofs.Common.{◌≡◌, ℕ, ◌<◌, true, false, List, ◌++◌, get_or, length, Contains, Option, None, Some, inr, refl, sym, ap, subst}
use Rattle.hm_types.specs.declared.Entity.{Entity}
use Rattle.hm_types.specs.Interfaces.{Exports as Interface}
use Rattle.hm_syntax.specs.Names.{Identifier}
use Rattle.hm_syntax.specs.declared.ast.Module.{Module}
use Rattle.hm_syntax.specs.declared.ast.Header.{Header}
use Rattle.hm_syntax.specs.declared.ast.Import.{Import}
use Rattle.hm_syntax.specs.declared.ast.ImportItem.{ImportItem}
use Rattle.hm_syntax.specs.declared.ast.ImportItem.TheVariants as item
use Rattle.hm_syntax.specs.declared.ast.ImportList.{ImportList}
use Rattle.hm_syntax.specs.declared.ast.ImportList.TheVariants as list
use Rattle.hm_syntax.specs.declared.ast.SubItems.{SubItems}
use Rattle.hm_syntax.specs.declared.ast.SubItems.TheVariants as subs
use Rattle.hm_names.specs.declared.namespace.Namespace.TheVariants.{Types, Constructors, Values}
use Rattle.hm_names.specs.Entities.{Exports}
use Rattle.hm_uses.specs.declared.name_kind.NameKind.TheVariants.{Variable, Constructor, TypeConstructor, ModuleName}
use Rattle.hm_uses.specs.Mentions.{Mention, mention, sub_mentions, item_mentions, hidden_mentions, export_list_mentions, alias_mentions, list_mentions, import_mentions, imports_mentions}
use Rattle.hm_uses.specs.Uses as told
use Rattle.hm_uses.specs.Uses.{HasItem, OfItem, OfSubItem, Owns, imported_module, alias, listed_variable, listed_type, listed_constructor, hidden_constructor, this_module, Sense, UseOf, a_module, a_prefix, an_entity, unbound}
use Rattle.hm_uses.specs.Found.{use_as}
use Rattle.hm_uses_header.specs.Adding.{Adds, header_mentions}
use Rattle.hm_uses_header.specs.Lookups.{AreTablesOf, ByName, IsInterfaceOf, IsTableOf, IsImported, HidesItem}
use Rattle.hm_uses_header.specs.declared.exports.ExportTables.{ExportTables}
use Rattle.hm_uses_header.proofs.Steps.{adds_one, adds_both, adds_under}

-- the meaning of a name in a list, for the interface of the import
module _ (fs : List Interface) (i : Import) (f : Interface) (only : IsInterfaceOf fs i.name.text (Some f)) where
  pub item_found : (s : Rattle.hm_names.specs.declared.namespace.Namespace.Namespace) (x : List ℕ) (e : Entity) → Exports f x e s → OfItem fs i s x (an_entity e)
  item_found s x e has = told.exported only.stands only.named has

  pub item_missing : (s : Rattle.hm_names.specs.declared.namespace.Namespace.Namespace) (x : List ℕ) → ((e : Entity) → ¬ Exports f x e s) → OfItem fs i s x unbound
  item_missing s x none = told.not_exported (λ g e there named has. none e (subst (λ h. Exports h x e s) (only.alone g there named) has))

  pub sub_item_found : (t c : List ℕ) (e : Entity) → Owns f t c e → OfSubItem fs i t c (an_entity e)
  sub_item_found t c e has = told.exported only.stands only.named has

  pub sub_item_missing : (t c : List ℕ) → ((e : Entity) → ¬ Owns f t c e) → OfSubItem fs i t c unbound
  sub_item_missing t c none = told.not_exported (λ g e there named has. none e (subst (λ h. Owns h t c e) (only.alone g there named) has))

module _ (fs : List Interface) (i : Import) (none : IsInterfaceOf fs i.name.text None) where
  pub item_of_none : (s : Rattle.hm_names.specs.declared.namespace.Namespace.Namespace) (x : List ℕ) → OfItem fs i s x unbound
  item_of_none s x = told.not_exported (λ g e there named has. none g there named)

  pub sub_item_of_none : (t c : List ℕ) → OfSubItem fs i t c unbound
  sub_item_of_none t c = told.not_exported (λ g e there named has. none g there named)

-- what must hold for an item of a list, and after `hiding`
abbrev pub Item : Option Interface → ImportItem → Module → List Interface → Type 0
Item f j m fs = IsImported m fs f (λ i. HasItem i j)

abbrev pub Hidden : Option Interface → ImportItem → Module → List Interface → Type 0
Hidden f j m fs = IsImported m fs f (λ i. HidesItem i j)

abbrev pub InList : Option Interface → ImportList → Module → List Interface → Type 0
InList f l m fs = IsImported m fs f (λ i. i.list ≡ l)

module _ (f : Option Interface) (us vs : List UseOf) (n : Identifier) (t : Sense) where
  pub variable_added : vs ≡ us ++ use_as Variable false n t → ((fs : List Interface) (i : Import) → IsInterfaceOf fs i.name.text f → OfItem fs i Values n.text t) → Adds us vs (item_mentions (item.Var n)) (Item f (item.Var n))
  variable_added is by = adds_one (Item f (item.Var n)) us vs Variable false n t is (λ m fs (i, (c, (k, h))). inr (listed_variable c h (by fs i k)))

  pub type_added : (s : SubItems) (ws : List UseOf) → vs ≡ us ++ use_as TypeConstructor false n t → ((fs : List Interface) (i : Import) → IsInterfaceOf fs i.name.text f → OfItem fs i Types n.text t)
      → Adds vs ws (sub_mentions s) (Item f (item.Con n s)) → Adds us ws (item_mentions (item.Con n s)) (Item f (item.Con n s))
  type_added s ws is by behind = adds_both (Item f (item.Con n s)) us vs ws (mention TypeConstructor false n) (sub_mentions s)
      (adds_one (Item f (item.Con n s)) us vs TypeConstructor false n t is (λ m fs (i, (c, (k, h))). inr (listed_type c h (by fs i k)))) behind

  pub constructor_added : vs ≡ us ++ use_as Constructor false n t → ((fs : List Interface) (i : Import) → IsInterfaceOf fs i.name.text f → OfItem fs i Constructors n.text t) → Adds us vs (mention Constructor false n) (Hidden f (item.Con n subs.None))
  constructor_added is by = adds_one (Hidden f (item.Con n subs.None)) us vs Constructor false n t is (λ m fs (i, (c, (k, (js, (l, h))))). inr (hidden_constructor c l h (by fs i k)))

module _ (f : Option Interface) (us vs : List UseOf) where
  pub part_added : (n : Identifier) (parts : List Identifier) (p : ℕ) (c : Identifier) (t : Sense) → p < length parts → c ≡ get_or parts p c → vs ≡ us ++ use_as Constructor false c t
      → ((fs : List Interface) (i : Import) → IsInterfaceOf fs i.name.text f → OfSubItem fs i n.text c.text t) → Adds us vs (mention Constructor false c) (Item f (item.Con n (subs.Some parts)))
  part_added n parts p c t inside e is by =
      adds_one (Item f (item.Con n (subs.Some parts))) us vs Constructor false c t is (λ m fs (i, (d, (k, h))). inr (listed_constructor d h (p, inside, sym e) (by fs i k)))

  pub item_added : (js : List ImportItem) (p : ℕ) (j : ImportItem) → p < length js → j ≡ get_or js p j → Adds us vs (item_mentions j) (Item f j) → Adds us vs (item_mentions j) (InList f (list.Only js))
  item_added js p j inside e one = adds_under (InList f (list.Only js)) (Item f j) us vs (item_mentions j) (λ m fs (i, (c, (k, h))). (i, (c, (k, told.listed h (p, inside, sym e))))) one

  pub hidden_added : (js : List ImportItem) (p : ℕ) (j : ImportItem) → p < length js → j ≡ get_or js p j → Adds us vs (hidden_mentions j) (Hidden f j) → Adds us vs (hidden_mentions j) (InList f (list.Hiding js))
  hidden_added js p j inside e one = adds_under (InList f (list.Hiding js)) (Hidden f j) us vs (hidden_mentions j) (λ m fs (i, (c, (k, h))). (i, (c, (k, (js, (h, (p, inside, sym e))))))) one

  -- a hidden item is an item
  as_item : (j : ImportItem) (xs : List Mention) → Adds us vs xs (Item f j) → Adds us vs xs (Hidden f j)
  as_item j xs one = adds_under (Hidden f j) (Item f j) us vs xs (λ m fs (i, (c, (k, (js, (l, h))))). (i, (c, (k, told.hidden l h)))) one

  pub hidden_variable : (n : Identifier) → Adds us vs (item_mentions (item.Var n)) (Item f (item.Var n)) → Adds us vs (hidden_mentions (item.Var n)) (Hidden f (item.Var n))
  hidden_variable n one = as_item (item.Var n) (item_mentions (item.Var n)) one

  pub hidden_all : (n : Identifier) → Adds us vs (item_mentions (item.Con n subs.All)) (Item f (item.Con n subs.All)) → Adds us vs (hidden_mentions (item.Con n subs.All)) (Hidden f (item.Con n subs.All))
  hidden_all n one = as_item (item.Con n subs.All) (item_mentions (item.Con n subs.All)) one

  pub hidden_some : (n : Identifier) (cs : List Identifier) → Adds us vs (item_mentions (item.Con n (subs.Some cs))) (Item f (item.Con n (subs.Some cs))) → Adds us vs (hidden_mentions (item.Con n (subs.Some cs))) (Hidden f (item.Con n (subs.Some cs)))
  hidden_some n cs one = as_item (item.Con n (subs.Some cs)) (item_mentions (item.Con n (subs.Some cs))) one

  pub hidden_both : (n : Identifier) (ws : List UseOf) → Adds us vs (item_mentions (item.Con n subs.None)) (Item f (item.Con n subs.None)) → Adds vs ws (mention Constructor false n) (Hidden f (item.Con n subs.None)) → Adds us ws (hidden_mentions (item.Con n subs.None)) (Hidden f (item.Con n subs.None))
  hidden_both n ws one two = adds_both (Hidden f (item.Con n subs.None)) us vs ws (mention TypeConstructor false n) (mention Constructor false n) (as_item (item.Con n subs.None) (item_mentions (item.Con n subs.None)) one) two

-- imports
abbrev pub InHeading : Import → Module → List Interface → Type 0
InHeading i m fs = Contains m.header.imports i

abbrev pub Known : ByName → Import → Module → List Interface → Type 0
Known table i m fs = IsTableOf fs table × Contains m.header.imports i

abbrev pub AllKnown : ByName → List Import → Module → List Interface → Type 0
AllKnown table is m fs = IsTableOf fs table × (m.header.imports ≡ is)

module _ (us vs : List UseOf) (i : Import) where
  pub alias_added : (n : Identifier) → i.alias ≡ Some n → vs ≡ us ++ use_as ModuleName true n (a_prefix n.text) → Adds us vs (alias_mentions i.alias) (InHeading i)
  alias_added n e is = subst (λ a. Adds us vs (alias_mentions a) (InHeading i)) (sym e) (adds_one (InHeading i) us vs ModuleName true n (a_prefix n.text) is (λ m fs c. inr (told.alias c e)))

  pub import_added : (table : ByName) (ws xs : List UseOf) (f : Option Interface) → ((fs : List Interface) → IsTableOf fs table → IsInterfaceOf fs i.name.text f) → vs ≡ us ++ use_as ModuleName false i.name (a_module i.name.text)
      → Adds vs ws (alias_mentions i.alias) (InHeading i) → Adds ws xs (list_mentions i.list) (InList f i.list) → Adds us xs (import_mentions i) (Known table i)
  import_added table ws xs f by is a l =
      let P : Module → List Interface → Type 0 = Known table i in
      adds_both P us vs xs (mention ModuleName false i.name) (alias_mentions i.alias ++ list_mentions i.list)
      (adds_one P us vs ModuleName false i.name (a_module i.name.text) is (λ m fs (t, c). inr (imported_module c refl)))
      (adds_both P vs ws xs (alias_mentions i.alias) (list_mentions i.list)
      (adds_under P (InHeading i) vs ws (alias_mentions i.alias) (λ m fs (t, c). c) a)
      (adds_under P (InList f i.list) ws xs (list_mentions i.list) (λ m fs (t, c). (i, (c, (by fs t, refl)))) l))

  pub one_of_imports : (table : ByName) (is : List Import) (p : ℕ) → p < length is → i ≡ get_or is p i → Adds us vs (import_mentions i) (Known table i) → Adds us vs (import_mentions i) (AllKnown table is)
  one_of_imports table is p inside e one = adds_under (AllKnown table is) (Known table i) us vs (import_mentions i) (λ m fs (t, all). (t, subst (λ l. Contains l i) (sym all) (p, inside, sym e))) one

-- the whole header
abbrev pub OfHeader : ExportTables → ByName → Header → Module → List Interface → Type 0
OfHeader tables table h m fs = AreTablesOf m fs tables × (IsTableOf fs table × (m.header ≡ h))

pub header_added : (tables : ExportTables) (table : ByName) (h : Header) (us vs ws xs : List UseOf) → vs ≡ us ++ use_as ModuleName true h.name (a_module h.name.text)
    → Adds vs ws (export_list_mentions h.exports) (λ m fs. AreTablesOf m fs tables × (m.header ≡ h)) → Adds ws xs (imports_mentions h.imports) (AllKnown table h.imports) → Adds us xs (header_mentions h) (OfHeader tables table h)
header_added tables table h us vs ws xs is e l =
    let P : Module → List Interface → Type 0 = OfHeader tables table h in
    adds_both P us vs xs (mention ModuleName true h.name) (export_list_mentions h.exports ++ imports_mentions h.imports)
    (adds_one P us vs ModuleName true h.name (a_module h.name.text) is (λ m fs (a, (t, k)). inr (this_module (ap (λ (g : Header). g.name) k))))
    (adds_both P vs ws xs (export_list_mentions h.exports) (imports_mentions h.imports)
    (adds_under P (λ m fs. AreTablesOf m fs tables × (m.header ≡ h)) vs ws (export_list_mentions h.exports) (λ m fs (a, (t, k)). (a, k)) e)
    (adds_under P (AllKnown table h.imports) ws xs (imports_mentions h.imports) (λ m fs (a, (t, k)). (t, ap (λ (g : Header). g.imports) k)) l))
