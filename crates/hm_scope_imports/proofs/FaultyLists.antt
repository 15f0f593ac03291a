-- Faults of import lists, and of all imports of a module.
use Rattle.std.proofs.Common.{◌≡◌, List, [], inr, ⊎_elim, refl, sym, ap, ◌∙◌, subst, Contains, Bor, map}
use Rattle.std.specs.Prelude.{◌↔◌}
use Rattle.hm_types.specs.Interfaces.{Exports as Interface}
use Rattle.hm_syntax.specs.Names.{Identifier}
use Rattle.hm_syntax.specs.declared.ast.Import.{Import}
use Rattle.hm_syntax.specs.declared.ast.ImportItem.{ImportItem}
use Rattle.hm_syntax.specs.declared.ast.ImportList.{ImportList}
use Rattle.hm_syntax.specs.declared.ast.ImportList.TheVariants as list
use Rattle.hm_syntax.specs.declared.ast.Module.{Module}
use Rattle.hm_names.specs.declared.faults.Fault.{Fault}
use Rattle.hm_names.specs.declared.faults.Kind.{Kind}
use Rattle.hm_names.specs.declared.faults.Kind.TheVariants.{NotExported}
use Rattle.hm_names.specs.Bindings.{Adds}
use Rattle.hm_names.specs.Scope.{Imports, written, added}
use Rattle.hm_names.specs.Faults.Imports as imported
use Rattle.hm_names.specs.Faults.Imports.{ListsItem, lists, ImportFault}
use Rattle.hm_scope_imports.specs.FaultyItems as faulty
use Rattle.hm_scope_imports.specs.FaultyItems.{IsItemFault, IsListFault}
use Rattle.hm_names.specs.Faults.Phases.{fault, HasFault, Importing}
use Rattle.hm_names.proofs.AddedPairs.{adds_like, adds_none, ForEach}
use Rattle.hm_names.proofs.DeclaredPairs.{contains_map, map_contains, none_in}

module _ (f : Interface) where
  abbrev pub ListFault : ImportList → Fault → Type 0
  ListFault l g = (k : Identifier) × (IsListFault f k l × (fault NotExported k ≡ g))

  pub every_fine : (old : List Fault) → Adds old old (ListFault list.Every)
  every_fine old = adds_none old (ListFault list.Every) (λ g (k, (h, e)). elim h [ ])

  pub hiding_fine : (old : List Fault) (is : List ImportItem) → Adds old old (ListFault (list.Hiding is))
  hiding_fine old is = adds_none old (ListFault (list.Hiding is)) (λ g (k, (h, e)). elim h [ ])

  pub only_faults : (old new : List Fault) (is : List ImportItem) → Adds old new (ForEach (λ (j : ImportItem) (g : Fault). (k : Identifier) × (IsItemFault f k j × (fault NotExported k ≡ g))) is) → Adds old new (ListFault (list.Only is))
  only_faults old new is a = adds_like old new (ForEach (λ (j : ImportItem) (g : Fault). (k : Identifier) × (IsItemFault f k j × (fault NotExported k ≡ g))) is) (ListFault (list.Only is))
      (λ g (j, (c, (k, (h, e)))). (k, (faulty.an_item c h, e))) (λ g (k, (h, e)). at k h e) a
    where
      at : {g : Fault} (k : Identifier) → IsListFault f k (list.Only is) → fault NotExported k ≡ g → (j : ImportItem) × (Contains is j × ((k : Identifier) × (IsItemFault f k j × (fault NotExported k ≡ g))))
      at k (faulty.an_item {j = j} c h) e = (j, (c, (k, (h, e))))

-- a fault of one import
abbrev pub FaultOf : List (Bor Interface) → Import → Fault → Type 0
FaultOf interfaces i g = (f : Bor Interface) × (Contains interfaces f × ((f.now.name ≡ i.name.text) × ((k : Identifier) × (IsListFault f.now k i.list × (fault NotExported k ≡ g)))))

module _ (m : Module) (interfaces : List (Bor Interface)) where
  abbrev lent : List Interface
  lent = map (λ f. f.now) interfaces

  item_there : (f : Interface) (j : ImportItem) (k : Identifier) → ListsItem m lent f j → IsItemFault f k j → ImportFault m lent NotExported k
  item_there f j k l (faulty.a_value n) = imported.a_value l n
  item_there f j k l (faulty.a_type n) = imported.a_type l n
  item_there f j k l (faulty.a_constructor h c b) = imported.a_constructor l h c b

  list_there : (f : Interface) (i : Import) (k : Identifier) (l : ImportList) → i.list ≡ l → Imports m i → Contains lent f → f.name ≡ i.name.text → IsListFault f k l → ImportFault m lent NotExported k
  list_there f i k list.Every e w c n h = elim h [ ]
  list_there f i k (list.Hiding is) e w c n h = elim h [ ]
  list_there f i k (list.Only is) e w c n (faulty.an_item {j = j} d h) = item_there f j k (lists w c n e d) h

  there : (g : Fault) → ForEach (λ (i : Import). FaultOf interfaces i) m.header.imports g → HasFault m lent Importing g
  there g (i, (c, (f, (d, (n, (k, (h, e))))))) = record { kind = NotExported; name = k; stands = list_there f.now i k i.list refl (written c) (map_contains (λ (b : Bor Interface). b.now) interfaces f d) n h; is = sym e }

  item_back : (f : Interface) (j : ImportItem) (k : Identifier) (g : Fault) → ListsItem m lent f j → IsItemFault f k j → fault NotExported k ≡ g → ForEach (λ (i : Import). FaultOf interfaces i) m.header.imports g
  item_back f j k g (lists {i = i} (written w) c n e d) h s =
      let b = contains_map (λ (b : Bor Interface). b.now) interfaces f c in
      (i, (w, (b.0, (b.1.0, (ap (λ (y : Interface). y.name) b.1.1 ∙ n, (k, (subst (λ l. IsListFault b.0.now k l) (sym e) (faulty.an_item d (subst (λ (y : Interface). IsItemFault y k j) (sym b.1.1) h)), s)))))))
  item_back f j k g (lists {is = is} (added w x) c n e d) h s = let q : list.Every ≡ list.Only is = sym (ap (λ (y : Import). y.list) x) ∙ e in cc

  back : (g : Fault) (kd : Kind) (k : Identifier) → ImportFault m lent kd k → g ≡ fault kd k → ForEach (λ (i : Import). FaultOf interfaces i) m.header.imports g
  back g kd k (imported.a_value {f = f} l n) s = item_back f (Rattle.hm_syntax.specs.declared.ast.ImportItem.TheVariants.Var k) k g l (faulty.a_value n) (sym s)
  back g kd k (imported.a_type {f = f} {s = u} l n) s = item_back f (Rattle.hm_syntax.specs.declared.ast.ImportItem.TheVariants.Con k u) k g l (faulty.a_type n) (sym s)
  back g kd k (imported.a_constructor {f = f} {n = v} {cs = cs} l h c b) s = item_back f (Rattle.hm_syntax.specs.declared.ast.ImportItem.TheVariants.Con v (Rattle.hm_syntax.specs.declared.ast.SubItems.TheVariants.Some cs)) k g l (faulty.a_constructor h c b) (sym s)

  pub faults_are : (new : List Fault) → Adds [] new (ForEach (λ (i : Import). FaultOf interfaces i) m.header.imports) → (g : Fault) → Contains new g ↔ HasFault m lent Importing g
  faults_are new a g = (
    (λ h. ⊎_elim (λ e. absurd (none_in g e)) (λ q. there g q) ((a g).0 h)),
    (λ h. (a g).1 (inr (back g h.kind h.name h.stands h.is))),
  )
