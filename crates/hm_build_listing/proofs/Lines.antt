-- The line of a module, by its status; and the listing of a build.
use Rattle.std.proofs.Common.{◌≡◌, ◌<◌, ◌≤◌, ℕ, List, [], get_or, length, map, sym, ap, ap₂, ◌∙◌, subst, string_bytes}
use Rattle.std.specs.Prelude.{codes}
use Rattle.std.specs.declared.string.String.{String}
use Rattle.std.proofs.lemmas.List.{get_or-map, get_or_past, length-map}
use Rattle.std.specs.Arc.{arc_value}
use Rattle.std.specs.declared.alloc.Global.{Global}
use Rattle.std.specs.declared.sync.Arc.{Arc}
use Rattle.hm_syntax.specs.declared.ast.Module.{Module}
use Rattle.hm_types.specs.Interfaces.{Exports as Interface}
use Rattle.hm_names.specs.declared.faults.Fault.{Fault}
use Rattle.hm_verdicts.specs.Reports.{AreBlamed}
use Rattle.hm_verdicts.specs.Sets.{ModuleSet, module_at, no_module}
use Rattle.hm_verdicts.specs.Verdicts.{Status, Published, Failed, Skipped}
use Rattle.hm_store.specs.Builds.{Build, set_of}
use Rattle.hm_store.specs.Settlements.{settlement}
use Rattle.hm_build_objects.specs.Objects.{module_text}
use Rattle.hm_build_reports.specs.Settling.{module_set}
use Rattle.hm_build_reports.proofs.Reporting.{same_set}
use Rattle.hm_build_listing.specs.Listings.{IsListing, IsObjectText, file_at, file_of}

module _ (file : List ℕ) (p : ModuleSet) (status : ℕ → Status) (i : ℕ) (here text : List ℕ) (m : Module) (at : here ≡ file) (is : m ≡ module_at p i) where
  moved : (s : Status) (names : List (List ℕ)) → text ≡ module_text here m s names → text ≡ module_text file (module_at p i) s names
  moved s names e = e ∙ ap₂ (λ f n. module_text f n s names) at is

  pub published : (f : Interface) → Published f ≡ status i → text ≡ module_text here m (Published f) [] → IsObjectText file p status i text (status i)
  published f s e = subst (λ t. IsObjectText file p status i text t) s (moved (Published f) [] e)

  pub failed : (found : List Fault) → Failed found ≡ status i → text ≡ module_text here m (Failed found) [] → IsObjectText file p status i text (status i)
  failed found s e = subst (λ t. IsObjectText file p status i text t) s (moved (Failed found) [] e)

  pub skipped : (names : List (List ℕ)) → Skipped ≡ status i → AreBlamed p status i names → text ≡ module_text here m Skipped names → IsObjectText file p status i text (status i)
  skipped names s blamed e = subst (λ t. IsObjectText file p status i text t) s (names, (blamed, moved Skipped names e))

-- a listing of the modules of a build is the listing of the build
pub listing_of : (names : List (List ℕ)) (origins there : List ℕ) (b : Build) (modules : List (Arc Module Global)) (plan : List (List ℕ)) (status : ℕ → Status) (text : List ℕ) → there ≡ origins → map arc_value modules ≡ b.modules → plan ≡ b.given.imports → status ≡ settlement b
    → IsListing (file_of names there) (module_set modules plan) status text → IsListing (file_of names origins) (set_of b) (settlement b) text
listing_of names origins there b modules plan status text at same planned says l =
    subst (λ o. IsListing (file_of names o) (set_of b) (settlement b) text) at
    (subst (λ s. IsListing (file_of names there) (set_of b) s text) says
    (subst (λ p. IsListing (file_of names there) p status text) (same_set modules plan b same planned) l))

-- the name of the file of a source
pub named_at : (names : List (String Global)) (i : ℕ) (s : String Global) → i < length names → s ≡ get_or names i s → string_bytes s ≡ file_at (map string_bytes names) i
named_at names i s l is = ap string_bytes is ∙ sym (get_or-map string_bytes names i s (codes "<stdin>") l)

pub unnamed_at : (names : List (String Global)) (i : ℕ) → length names ≤ i → codes "<stdin>" ≡ file_at (map string_bytes names) i
unnamed_at names i l = sym (get_or_past (map string_bytes names) i (codes "<stdin>") (subst (λ n. n ≤ i) (sym (length-map names string_bytes)) l))

-- a module by its number
pub module_is : (modules : List (Arc Module Global)) (i : ℕ) (x : Arc Module Global) (m : Module) → i < length modules → x ≡ get_or modules i x → m ≡ arc_value x → m ≡ get_or (map arc_value modules) i no_module
module_is modules i x m l is e = e ∙ (ap arc_value is ∙ sym (get_or-map arc_value modules i x no_module l))
