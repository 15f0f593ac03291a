-- The headers of modules with their sources, by the number of modules of each source; and the worked examples.
use Rattle.std.proofs.Common.{◌≡◌, ℕ, zero, suc, ◌+◌, ◌<◌, List, [], ◌∷◌, length, map, get_or, refl, sym, ap, subst, ◌∙◌, arith}
use Rattle.std.proofs.lemmas.List.{get_or-map, length-append, length-map}
use Rattle.hm_syntax.specs.declared.ast.Module.{Module}
use Rattle.hm_run_sources.specs.ModuleCounts.{AreCountedModules, AreOrigins, IsCountedTo}
use Rattle.hm_run_sources.specs.Origins.{AreLocated, IsModuleOf, IsSpelledBy}
use Rattle.hm_run_sources.specs.SourceModules.{AreModulesOf, HasModules}
use Rattle.hm_run_sources.specs.Worked.{HeadersRow, ModuleRow}
use Rattle.hm_run_sources.specs.declared.located.Located.{Located}
use Rattle.hm_run_sources.specs.declared.located.SourceModule.{SourceModule}
use Rattle.hm_run_sources.proofs.ModuleCounts.{have_origins, source_modules_once, spelled_by_counts}
use Rattle.hm_run_sources.proofs.Reading.{counted_modules}

pub same_length : (ls : List Located) (ms : List Module) → map (λ (r : Located). r.header) ls ≡ map (λ (m : Module). m.header) ms → length ls ≡ length ms
same_length ls ms e = sym (length-map ls (λ (r : Located). r.header)) ∙ (ap length e ∙ length-map ms (λ (m : Module). m.header))

-- the headers of the modules with the sources that the counts give them
pub located_by_counts : (sources : List (List ℕ)) (modules : List Module) (counts origins : List ℕ) (located : List Located) → AreOrigins counts origins
    → map (λ (l : Located). l.header) located ≡ map (λ (m : Module). m.header) modules → map (λ (l : Located). l.source) located ≡ origins → AreCountedModules sources modules counts → AreLocated sources located
located_by_counts sources modules counts origins located o headers numbers counted =
    let many : length located ≡ length origins = sym (length-map located (λ (l : Located). l.source)) ∙ ap length numbers in
    record {
      modules = modules;
      read = counted_modules sources modules counts counted;
      as_many = same_length located modules headers;
      headers = headers;
      each = λ m d h.
          let at : get_or origins m d.source ≡ (get_or located m d).source = ap (λ (l : List ℕ). get_or l m d.source) (sym numbers) ∙ get_or-map (λ (l : Located). l.source) located m d d.source h in
          subst (IsSpelledBy sources m) at ((have_origins sources modules counts origins counted o).each m d.source (omega (arith, h, many)));
    }

-- a module with the source that the counts give it, and its name
pub module_by_counts : (sources : List (List ℕ)) (modules : List Module) (counts : List ℕ) (m : SourceModule) → m.number < length modules → IsCountedTo counts m.number m.source
    → ((d : Module) → m.name ≡ (get_or modules m.number d).header.name) → AreCountedModules sources modules counts → IsModuleOf sources m
module_by_counts sources modules counts m within at named counted = record {
  modules = modules;
  read = counted_modules sources modules counts counted;
  within = within;
  spelled = spelled_by_counts sources modules counts m.number m.source counted at;
  named = named;
}

-- ---- the worked examples

only : (s : List ℕ) (a : Module) → HasModules s (a ∷ []) → AreModulesOf (s ∷ []) (a ∷ [])
only s a h = (a ∷ [], [], h, refl, refl)

only_at : (s : List ℕ) (a : Module) (m : ℕ) → HasModules s (a ∷ []) → m < 1 → IsSpelledBy (s ∷ []) m 0
only_at s a m h low = record { inside = omega arith; earlier = []; own = a ∷ []; before = refl; spelled = h; low = omega arith; high = low }

one_at : (s : List ℕ) (a : Module) (l : Located) (m : ℕ) (d : Located) → HasModules s (a ∷ []) → l.source ≡ 0 → m < 1 → IsSpelledBy (s ∷ []) m (get_or (l ∷ []) m d).source
one_at s a l zero d h is low = subst (IsSpelledBy (s ∷ []) 0) (sym is) (only_at s a 0 h low)
one_at s a l (suc m) d h is low = absurd (omega (arith, low))

-- a source with one module has no other
one_module : (s : List ℕ) (a : Module) (modules : List Module) → HasModules s (a ∷ []) → AreModulesOf (s ∷ []) modules → length modules ≡ 1
one_module s a modules h read =
    let one : length read.0 ≡ 1 = ap length (source_modules_once s read.0 (a ∷ []) read.2 h) in
    let none : length read.1 ≡ 0 = ap length read.3 in
    let size : length modules ≡ length read.0 + length read.1 = ap length read.4 ∙ length-append read.0 read.1 in
    omega (arith, one, none, size)

no_module : (s : List ℕ) (a : Module) → HasModules s (a ∷ []) → ¬ (AreLocated (s ∷ []) [])
no_module s a h are =
    let none : 0 ≡ length are.modules = are.as_many in
    omega (arith, none, one_module s a are.modules h are.read)

pub worked_headers : HeadersRow
worked_headers = record {
  cycle = λ s name a h. record {
    modules = a ∷ [];
    read = only s a h;
    as_many = refl;
    headers = refl;
    each = λ m d low. one_at s a (record { header = a.header; source = 0 }) m d h refl low;
  };
  not_none = λ s name a h are. no_module s a h are;
  not_elsewhere = λ s name l are. let at = (are.each 0 l (omega arith)).inside in omega (arith, at);
  lexical = λ s. refl;
  not_lexical = λ s l e. cc;
}

pub worked_module : ModuleRow
worked_module = record {
  only = λ s a h. record { modules = a ∷ []; read = only s a h; within = omega arith; spelled = only_at s a 0 h (omega arith); named = λ d. refl };
  not_second = λ s a m h is of. omega (arith, is, of.within, one_module s a of.modules h of.read);
}
