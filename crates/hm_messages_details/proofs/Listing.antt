-- How items of import lists have names.
use Rattle.std.proofs.Common.{◌≡◌, ℕ, List, Option, Some, subst, sym}
use Rattle.std.specs.Prelude.{Contains}
use Rattle.hm_syntax.specs.Names.{Identifier}
use Rattle.hm_syntax.specs.declared.ast.Import.{Import}
use Rattle.hm_syntax.specs.declared.ast.ImportItem.{ImportItem}
use Rattle.hm_syntax.specs.declared.ast.ImportItem.TheVariants as item
use Rattle.hm_syntax.specs.declared.ast.ImportList.{ImportList}
use Rattle.hm_syntax.specs.declared.ast.ImportList.TheVariants as list
use Rattle.hm_syntax.specs.declared.ast.Module.{Module}
use Rattle.hm_syntax.specs.declared.ast.SubItems.TheVariants as subs
use Rattle.hm_names.specs.declared.faults.Fault.{Fault}
use Rattle.hm_messages_details.specs.Firsts.{IsAt}
use Rattle.hm_types.specs.Interfaces.{Exports as Interface}
use Rattle.hm_names.specs.declared.faults.Kind.TheVariants.{NotExported}
use Rattle.hm_messages_details.specs.Details.{IsKnown, not_from}
use Rattle.hm_messages_details.specs.Listed.{IsListedAs, IsListedBy, IsListedFrom, a_constructor}
use Rattle.hm_messages_details.specs.NearExports.{IsNearExportOf}

-- a constructor after the type n, whose text is x
pub listed_constructor : (f : Fault) (n : Identifier) (cs : List Identifier) (x : List ℕ) → (c : Identifier) × Contains cs c × IsAt f c → x ≡ n.text → IsListedAs f (item.Con n (subs.Some cs)) (Some x)
listed_constructor f n cs x found is = subst (λ t. IsListedAs f (item.Con n (subs.Some cs)) (Some t)) (sym is) (a_constructor found.1 found.2)

pub listed_items : (f : Fault) (l : ImportList) (is : List ImportItem) (owner : Option (List ℕ)) → l ≡ list.Only is → (i : ImportItem) × Contains is i × IsListedAs f i owner → IsListedBy f l owner
listed_items f l is owner only found = record { items = is; only = only; item = found.0; among = found.1; listed = found.2 }

pub listed_from : (m : Module) (f : Fault) (x : List ℕ) (owner : Option (List ℕ)) (i : Import) → Contains m.header.imports i → x ≡ i.name.text → IsListedBy f i.list owner → IsListedFrom m f x owner
listed_from m f x owner i written name by = record { import = i; written = written; name_is = sym name; by = by }

pub listed_near : (m : Module) (fs : List Interface) (f : Fault) (x : List ℕ) (owner near : Option (List ℕ)) (i : Import) → f.kind ≡ NotExported → Contains m.header.imports i → x ≡ i.name.text
    → IsListedBy f i.list owner → IsNearExportOf fs f x owner near → IsKnown m fs f (not_from x owner near)
listed_near m fs f x owner near i kind written name by is_near = (kind, (listed_from m f x owner i written name by, is_near))
