-- A module has one core for given interfaces, and a core one interface for given schemes.
use Rattle.std.proofs.Common.{◌≡◌, ℕ, List, map, Option, Contains, ◌↔◌, sym, ap, ap₂, ◌∙◌}
use Rattle.hm_types.specs.Interfaces.{Exports as Interface, AreOrdered, IsInterface}
use Rattle.hm_types.specs.Schemes.{TypeScheme}
use Rattle.hm_syntax.specs.Trees.{Declaration}
use Rattle.hm_syntax.specs.declared.ast.Module.{Module}
use Rattle.hm_names.specs.ModuleCores.{ModuleCore}
use Rattle.hm_names.specs.Cores.{IsCore, kept, exports_in, IsInterfaceOf, HasArity, HasSynonym, IsDescribed, HasScheme}
use Rattle.hm_names.specs.declared.cores.Exported.{Exported}
use Rattle.hm_names.specs.declared.namespace.Namespace.{Namespace}
use Rattle.hm_names.specs.declared.namespace.Namespace.TheVariants.{Types, Constructors, Values}
use Rattle.hm_names.proofs.Agreement.{one_resolution}
use Rattle.hm_names.proofs.OrderedLists.{one_of_contained, contained, same_ordered}

abbrev made : List ℕ → List Declaration → List Interface → List Exported → List Exported → List Exported → ModuleCore
made n ds fs ts cs vs = record { name = n; decls = ds; interfaces = fs; exported_types = ts; exported_constructors = cs; exported_values = vs }

made_same : (c d : ModuleCore) → c.name ≡ d.name → c.decls ≡ d.decls → c.interfaces ≡ d.interfaces → ((s : Namespace) → exports_in c s ≡ exports_in d s) → c ≡ d
made_same c d n ds fs es =
    ap (λ x. made x c.decls c.interfaces c.exported_types c.exported_constructors c.exported_values) n ∙
    (ap (λ x. made d.name x c.interfaces c.exported_types c.exported_constructors c.exported_values) ds ∙
    (ap (λ x. made d.name d.decls x c.exported_types c.exported_constructors c.exported_values) fs ∙
    (ap (λ x. made d.name d.decls d.interfaces x c.exported_constructors c.exported_values) (es Types) ∙
    (ap (λ x. made d.name d.decls d.interfaces d.exported_types x c.exported_values) (es Constructors) ∙
    ap (λ x. made d.name d.decls d.interfaces d.exported_types d.exported_constructors x) (es Values)))))

same_exports : (m : Module) (fs : List Interface) (c d : ModuleCore) → IsCore m fs c → IsCore m fs d → (s : Namespace) → exports_in c s ≡ exports_in d s
same_exports m fs c d a b s = same_ordered (λ r. r.name) (exports_in c s) (exports_in d s) (a.ordered s) (b.ordered s)
    (λ r o. one_of_contained (exports_in d s) r ((b.exports s r.name r.entity).1 ((a.exports s r.name r.entity).0 (contained (exports_in c s) r o))))
    (λ r o. one_of_contained (exports_in c s) r ((a.exports s r.name r.entity).1 ((b.exports s r.name r.entity).0 (contained (exports_in d s) r o))))

pub one_core : (m : Module) (fs : List Interface) (c d : ModuleCore) → IsCore m fs c → IsCore m fs d → c ≡ d
one_core m fs c d a b = made_same c d (a.name ∙ sym b.name)
    (a.trees ∙ (ap₂ (λ es ds. map (kept es) ds) (same_exports m fs c d a b Types) (one_resolution m fs a.resolver b.resolver a.well_formed a.resolves b.resolves) ∙ sym b.trees))
    (a.interfaces ∙ sym b.interfaces) (same_exports m fs c d a b)

-- Interfaces

same_members : {X : Type 0} (key : X → List ℕ) (P : X → Type 0) (xs ys : List X) → AreOrdered (map key xs) → AreOrdered (map key ys) → ((x : X) → Contains xs x ↔ P x) → ((x : X) → Contains ys x ↔ P x) → xs ≡ ys
same_members key P xs ys a b f g = same_ordered key xs ys a b (λ x o. one_of_contained ys x ((g x).1 ((f x).0 (contained xs x o)))) (λ x o. one_of_contained xs x ((f x).1 ((g x).0 (contained ys x o))))

pub one_interface : (c : ModuleCore) (given : List ℕ → Option TypeScheme) (f g : Interface) → IsInterface f → IsInterface g → IsInterfaceOf c given f → IsInterfaceOf c given g → f ≡ g
one_interface c given f g p q a b =
    let n : f.name ≡ g.name = a.name ∙ sym b.name in
    let t : f.types ≡ g.types = same_members (λ r. r.name) (λ r. Contains c.exported_types (record { name = r.name; entity = r.entity }) × HasArity c r.entity r.arity) f.types g.types p.types q.types a.types b.types in
    let s : f.synonyms ≡ g.synonyms =
    same_members (λ r. r.name) (λ r. Contains c.exported_types (record { name = r.name; entity = r.entity }) × HasSynonym c r.entity r.synonym) f.synonyms g.synonyms p.synonyms q.synonyms a.synonyms b.synonyms in
    let k : f.constructors ≡ g.constructors =
    same_members (λ r. r.name) (λ r. Contains c.exported_constructors (record { name = r.name; entity = r.entity }) × IsDescribed c r.entity r.owner r.arguments r.scheme) f.constructors g.constructors p.constructors q.constructors a.constructors b.constructors in
    let v : f.values ≡ g.values = same_members (λ r. r.name) (λ r. Contains c.exported_values (record { name = r.name; entity = r.entity }) × HasScheme c given r.entity r.scheme) f.values g.values p.values q.values a.values b.values in
    λ i. record { name = n i; types = t i; synonyms = s i; constructors = k i; values = v i }
