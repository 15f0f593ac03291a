-- The laws of the crate, as statements.
use Rattle.std.specs.Prelude.{◌≡◌, ℕ, ◌<◌, true, List, map, length, ◌↔◌, codes, None, Some, Option}
use Rattle.hm_types.specs.declared.Entity.{Entity}
use Rattle.hm_types.specs.Interfaces.{Exports as Interface}
use Rattle.hm_types.specs.Schemes.{TypeScheme}
use Rattle.hm_typing.specs.BindingLists.{HasSchemes}
use Rattle.hm_typing.specs.Names.{Identifier}
use Rattle.hm_typing.specs.Schemes.{Scheme}
use Rattle.hm_syntax.specs.declared.ast.Module.{Module}
use Rattle.hm_names.specs.ModuleCores.{ModuleCore}
use Rattle.hm_names.specs.Cores.{IsCore, assumptions, syntax_of}
use Rattle.hm_names.specs.Exports.{IsExported}
use Rattle.hm_names.specs.Imports.{AreImportsOf}
use Rattle.hm_names.specs.Faults.Phases.{IsWellFormed, AreFaults}
use Rattle.hm_names.specs.declared.faults.Fault.{Fault}
use Rattle.hm_names.specs.declared.namespace.Namespace.{Namespace}
use Rattle.hm_verdicts.specs.Progress.{Progress, ArePublishedIn, IsSettledIn, IsSettledSoFar, Continues}
use Rattle.hm_verdicts.specs.Reports.{IsReport, IsReported, IsAllGood}
use Rattle.hm_verdicts.specs.ModuleVerdicts.{Verdict, IsVerdict, ArePrincipal}
use Rattle.hm_verdicts.specs.Readings.{Reading}
use Rattle.hm_verdicts.specs.Sets.{ModuleSet, module_at, imports_of, IsLawfulSet}
use Rattle.hm_verdicts.specs.Skeletons.{skeleton}
use Rattle.hm_verdicts.specs.Worked.{no_modules, three_modules, three_texts}
use Rattle.hm_verdicts.specs.Verdicts.{Status, IsGoodIn, IsVerdictIn, IsSettled, IsAccepted, Accepted}

-- Names and arities

-- interfaces that differ only in the schemes of variables
abbrev pub AreAlike : List Interface → List Interface → Type 0
AreAlike fs gs = map skeleton fs ≡ map skeleton gs

-- well-formedness, faults and exports don't depend on the schemes of variables
abbrev pub NamesIgnoreSchemes : Type 0
NamesIgnoreSchemes =
    (m : Module) (fs gs : List Interface) → AreAlike fs gs →
    (IsWellFormed m fs → IsWellFormed m gs) × ((found : List Fault) → AreFaults m fs found → AreFaults m gs found) × ((s : Namespace) (x : List ℕ) (e : Entity) → IsExported m fs s x e → IsExported m gs s x e)

-- the binding list doesn't depend on the schemes of variables
abbrev pub SyntaxIgnoresSchemes : Type 0
SyntaxIgnoresSchemes = (m : Module) (fs gs : List Interface) (c d : ModuleCore) → AreAlike fs gs → IsCore m fs c → IsCore m gs d → syntax_of c ≡ syntax_of d

-- Sets

-- two readings of a lawful set agree on each module that both read
abbrev pub HasOneReading : Type 0
HasOneReading = (p : ModuleSet) → IsLawfulSet p → (r s : Reading p) (i : ℕ) → r.read i ≡ true → s.read i ≡ true → r.set i ≡ s.set i

-- if each module of a lawful set is settled by the published interfaces of its imports, its status is its verdict in the set
abbrev pub SettledIsVerdict : Type 0
SettledIsVerdict = (p : ModuleSet) (status : ℕ → Status) → IsLawfulSet p → IsSettled p status → (i : ℕ) → i < length p.modules → IsVerdictIn p i (status i)

-- exactly the good modules are accepted
abbrev pub AcceptedAreGood : Type 0
AcceptedAreGood = (p : ModuleSet) (status : ℕ → Status) → IsLawfulSet p → IsSettled p status → (i : ℕ) → i < length p.modules → IsAccepted p status i ↔ IsGoodIn p i

-- the accepted modules have one principal assignment, which has their printed schemes
abbrev pub AcceptedHavePrincipal : Type 0
AcceptedHavePrincipal = (p : ModuleSet) (status : ℕ → Status) → IsLawfulSet p → IsSettled p status → Accepted p status

-- a module has one verdict for given interfaces, Prelude's first
abbrev pub HasOneModuleVerdict : Type 0
HasOneModuleVerdict = (m : Module) (fs : List Interface) (v w : Verdict) → IsVerdict m fs v → IsVerdict m fs w → v ≡ w

-- a module has one verdict in a lawful set
abbrev pub HasOneVerdict : Type 0
HasOneVerdict = (p : ModuleSet) (i : ℕ) (s t : Status) → IsLawfulSet p → IsVerdictIn p i s → IsVerdictIn p i t → s ≡ t

-- a core with a typed list has canonical schemes that are as general as the principal ones
abbrev pub TypedHavePrincipal : Type 0
TypedHavePrincipal = (m : Module) (fs : List Interface) (c : ModuleCore) (B : Identifier → Scheme) → IsCore m fs c → HasSchemes (assumptions c) (syntax_of c) B → (given : List ℕ → Option TypeScheme) × ArePrincipal c given

-- Progress

-- settled modules stay settled if further modules are settled rightly: a published or failed one, or several that are skipped at once
abbrev pub StepsAreSettled : Type 0
StepsAreSettled =
    (p : ModuleSet) (old new : Progress) → IsSettledSoFar p old → Continues old new → ((i : ℕ) (s : Status) → old i ≡ None → new i ≡ Some s → IsSettledIn p new i s) → IsSettledSoFar p new

-- the published interfaces of a module's imports are those that it requires
abbrev pub PublishedAreAskedFor : Type 0
PublishedAreAskedFor =
    (p : ModuleSet) (now : Progress) (i : ℕ) (fs : List Interface) → IsLawfulSet p → IsSettledSoFar p now → i < length p.modules → ArePublishedIn now (imports_of p i) fs → AreImportsOf (module_at p i) fs

-- if each module is settled, the set is settled
abbrev pub EndIsSettled : Type 0
EndIsSettled = (p : ModuleSet) (now : Progress) (status : ℕ → Status) → IsLawfulSet p → IsSettledSoFar p now → ((i : ℕ) → i < length p.modules → now i ≡ Some (status i)) → IsSettled p status

-- Texts

-- the report of a settled set is the text of the set
abbrev pub SettledIsReported : Type 0
SettledIsReported = (p : ModuleSet) (status : ℕ → Status) (text : List ℕ) → IsLawfulSet p → IsSettled p status → IsReport p status text → IsReported p text

-- a lawful set has one text, so two builds agree
abbrev pub HasOneText : Type 0
HasOneText = (p : ModuleSet) (text other : List ℕ) → IsLawfulSet p → IsReported p text → IsReported p other → text ≡ other

-- if two texts are of one lawful set, all modules are good in one if and only if they are in the other
abbrev pub HasOneStatus : Type 0
HasOneStatus = (p : ModuleSet) (text other : List ℕ) → IsLawfulSet p → (a : IsReported p text) (b : IsReported p other) → IsAllGood p a.verdicts ↔ IsAllGood p b.verdicts

-- Worked sets

-- the set without modules is lawful, and this is its text
abbrev pub NoModulesHaveText : Type 0
NoModulesHaveText = IsLawfulSet no_modules × IsReported no_modules (codes "0 modules: 0 good, 0 faulty, 0 skipped\n")

-- a set with a good module, a faulty one and one that imports it is lawful, and this is its text
abbrev pub ThreeModulesHaveText : Type 0
ThreeModulesHaveText = IsLawfulSet three_modules × IsReported three_modules three_texts
