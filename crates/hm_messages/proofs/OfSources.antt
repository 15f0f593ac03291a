-- Why sources are refused is one of their faults.
use Rattle.std.proofs.Common.{◌≡◌, ℕ, zero, suc, ◌+◌, ◌<◌, Bool, true, false, cond, not, true≢false, List, [], ◌∷◌, ◌++◌, Contains, filter, get_or, inl, inr, length, length-append, map, ⊎_elim, refl, sym, ap, subst, ◌∙◌, arith}
use Rattle.std.proofs.lemmas.Bool.{cases_Bool}
use Rattle.std.proofs.lemmas.List.{length-map}
use Rattle.hm_graph.specs.Imports.{Modules, ImportReaches, IsMissing, imports_at, name_at}
use Rattle.hm_graph.specs.Outline.{Outline, outline}
use Rattle.hm_graph.specs.Refusal.{IsFirstMissing}
use Rattle.hm_graph.specs.declared.faults.PlanFault.{PlanFault}
use Rattle.hm_graph.specs.declared.faults.PlanFault.TheVariants as planning
use Rattle.hm_graph_components.specs.Closure.{one, more}
use Rattle.hm_names.proofs.Members.{cases, first, rest}
use Rattle.hm_names.proofs.Standing.{among_decides}
use Rattle.hm_names.specs.Scope.{prelude_name}
use Rattle.hm_names.specs.Texts.{is_text_among}
use Rattle.hm_run_sources.proofs.OneText.{outlines_once}
use Rattle.hm_run_sources.proofs.Reading.{outlines_there}
use Rattle.hm_run_sources.specs.Names.{import_at, module_outlines}
use Rattle.hm_run_sources.specs.Origins.{AreLocated}
use Rattle.hm_run_sources.specs.Refusals.{Refusal, lex, parse, plan, IsLasting}
use Rattle.hm_run_sources.specs.Runs.{AreOutlinesOf, FailsAtPlan, FailsAtSource, IsRefusalOf}
use Rattle.hm_run_sources.specs.declared.located.Located.{Located}
use Rattle.hm_syntax.specs.declared.ast.Import.{Import}
use Rattle.hm_syntax.specs.declared.ast.Module.{Module}
use Rattle.hm_messages.specs.Foreign.{HasNoModule, HasSource, IsForeign, IsForeignPlan, IsNotFirst}
use Rattle.hm_messages.specs.Missing.{SetImport, missing_imports, module_names, names_none, set_import, set_imports}

-- ---- the outlines of located modules

abbrev outlines_of : List Located → List Outline
outlines_of ls = map (λ (l : Located). outline l.header) ls

by_headers : (ls : List Located) → map outline (map (λ (l : Located). l.header) ls) ≡ outlines_of ls
by_headers [] = refl
by_headers (l ∷ ls) = ap (λ os. outline l.header ∷ os) (by_headers ls)

of_modules : (ms : List Module) → map outline (map (λ (m : Module). m.header) ms) ≡ module_outlines ms
of_modules [] = refl
of_modules (m ∷ ms) = ap (λ os. outline m.header ∷ os) (of_modules ms)

same_outlines : (sources : List (List ℕ)) (os : List Outline) (ls : List Located) → AreOutlinesOf sources os → AreLocated sources ls → os ≡ outlines_of ls
same_outlines sources os ls read are =
    outlines_once sources os (module_outlines are.modules) read (outlines_there sources are.modules are.read)
    ∙ (sym (of_modules are.modules) ∙ (sym (ap (map outline) are.headers) ∙ by_headers ls))

has_module : (sources : List (List ℕ)) (os : List Outline) (k : ℕ) → AreOutlinesOf sources os → k < length os → ¬ (HasNoModule sources k)
has_module sources os k read within h =
    let same : length os ≡ length (outlines_of h.0) = ap length (same_outlines sources os h.0 read h.1) in
    omega (arith, within, h.2, same, length-map h.0 (λ (l : Located). outline l.header))

-- ---- the first import that names no module

abbrev texts : List Import → List (List ℕ)
texts is = map (λ (i : Import). i.name.text) is

-- the names that module number m imports
abbrev at : List Located → ℕ → List (List ℕ)
at ls m = imports_at (outlines_of ls) m

abbrev isnt_among : List (List ℕ) → List ℕ → Bool
isnt_among known x = not (is_text_among x known)

module _ (known : List (List ℕ)) where
  abbrev kept : List SetImport → List SetImport
  kept is = filter (names_none known) is

  first_in : (k : ℕ) (is : List Import) (j : ℕ) (later : List SetImport) → j < length (texts is) → ((i : ℕ) → i < j → isnt_among known (get_or (texts is) i []) ≡ false) → isnt_among known (get_or (texts is) j []) ≡ true
      → ¬ (IsNotFirst (kept (map (set_import k) is ++ later)) (get_or (texts is) j []))
  first_in k [] j later within before passes = absurd (omega (arith, within))
  first_in k (x ∷ xs) zero later within before passes =
      subst (λ (b : Bool). ¬ (IsNotFirst (cond b (set_import k x ∷ kept (map (set_import k) xs ++ later)) (kept (map (set_import k) xs ++ later))) x.name.text)) (sym passes) (λ n. n refl)
  first_in k (x ∷ xs) (suc j) later within before passes =
      subst (λ (b : Bool). ¬ (IsNotFirst (cond b (set_import k x ∷ kept (map (set_import k) xs ++ later)) (kept (map (set_import k) xs ++ later))) (get_or (texts xs) j []))) (sym (before 0 (omega arith)))
      (first_in k xs j later (omega (arith, within)) (λ i low. before (suc i) (omega (arith, low))) passes)

  none_in : (k : ℕ) (is : List Import) (later : List SetImport) → ((i : ℕ) → i < length (texts is) → isnt_among known (get_or (texts is) i []) ≡ false) → kept (map (set_import k) is ++ later) ≡ kept later
  none_in k [] later all = refl
  none_in k (x ∷ xs) later all =
      ap (λ b. cond b (set_import k x ∷ kept (map (set_import k) xs ++ later)) (kept (map (set_import k) xs ++ later))) (all 0 (omega arith))
      ∙ none_in k xs later (λ i low. all (suc i) (omega (arith, low)))

  first_at : (ls : List Located) (m j : ℕ) → m < length (outlines_of ls) → j < length (at ls m)
      → ((k i : ℕ) → k < m → i < length (at ls k) → isnt_among known (get_or (at ls k) i []) ≡ false)
      → ((i : ℕ) → i < j → isnt_among known (get_or (at ls m) i []) ≡ false) → isnt_among known (get_or (at ls m) j []) ≡ true
      → ¬ (IsNotFirst (kept (set_imports ls)) (get_or (at ls m) j []))
  first_at [] m j low within earlier before passes = absurd (omega (arith, low))
  first_at (l ∷ ls) zero j low within earlier before passes = first_in l.source l.header.imports j (set_imports ls) within before passes
  first_at (l ∷ ls) (suc m) j low within earlier before passes = λ n.
      first_at ls m j (omega (arith, low)) within (λ k i h. earlier (suc k) i (omega (arith, h))) before passes
      (subst (λ (is : List SetImport). IsNotFirst is (get_or (at ls m) j [])) (none_in l.source l.header.imports (set_imports ls) (λ i h. earlier 0 i (omega arith) h)) n)

abbrev known_in : List Located → List (List ℕ)
known_in ls = prelude_name ∷ module_names ls

name_of : (ls : List Located) (k : ℕ) (x : List ℕ) → k < length (module_names ls) → get_or (module_names ls) k x ≡ name_at (outlines_of ls) k
name_of [] k x within = absurd (omega (arith, within))
name_of (l ∷ ls) zero x within = refl
name_of (l ∷ ls) (suc k) x within = name_of ls k x (omega (arith, within))

as_many_names : (ls : List Located) → length (module_names ls) ≡ length (outlines_of ls)
as_many_names ls = length-map ls (λ (l : Located). l.header.name.text) ∙ sym (length-map ls (λ (l : Located). outline l.header))

module _ (ls : List Located) (m i : ℕ) where
  abbrev name : List ℕ
  name = get_or (at ls m) i []

  missing_isnt_among : IsMissing (outlines_of ls) m i → isnt_among (known_in ls) name ≡ true
  missing_isnt_among h = elim (cases_Bool (is_text_among name (known_in ls))) [
    | inl there ↦ absurd (⊎_elim h.not_prelude (λ n. among n) (cases prelude_name (module_names ls) name ((among_decides name (known_in ls)).0 there)))
    | inr gone ↦ ap not gone
  ]
    where
      among : ¬ (Contains (module_names ls) name)
      among n = h.no_module n.0 (omega (arith, n.1, as_many_names ls)) (sym (name_of ls n.0 name n.1) ∙ n.2)

  other_is_among : i < length (at ls m) → ¬ (IsMissing (outlines_of ls) m i) → isnt_among (known_in ls) name ≡ false
  other_is_among within other = elim (cases_Bool (is_text_among name (known_in ls))) [
    | inl there ↦ ap not there
    | inr gone ↦ absurd (other (record {
      place = within;
      not_prelude = λ e. isnt gone (subst (Contains (known_in ls)) (sym e) (first prelude_name (module_names ls)));
      no_module = λ k low e. isnt gone (rest prelude_name (module_names ls) name (k, omega (arith, low, as_many_names ls), name_of ls k name (omega (arith, low, as_many_names ls)) ∙ e));
    }))
  ]
    where
      isnt : is_text_among name (known_in ls) ≡ false → ¬ (Contains (known_in ls) name)
      isnt gone n = true≢false (sym ((among_decides name (known_in ls)).1 n) ∙ gone)

first_missing : (ls : List Located) (m j : ℕ) → IsFirstMissing (outlines_of ls) m j → ¬ (IsNotFirst (missing_imports ls) (import_at (outlines_of ls) m j))
first_missing ls m j h =
    first_at (known_in ls) ls m j h.module_number h.missing.place
    (λ k i low within. other_is_among ls k i within (h.first_module k i low))
    (λ i low. other_is_among ls m i (omega (arith, low, h.missing.place)) (h.first i low))
    (missing_isnt_among ls m j h.missing)

-- ---- the refusal

reached : (modules : Modules) (a b : ℕ) → ImportReaches modules a b → b < length modules
reached modules a b (one r) = r.0
reached modules a b (more h r) = r.0

of_plan : (sources : List (List ℕ)) (fault : PlanFault) (m i : List ℕ) → IsLasting (plan fault m i) → FailsAtPlan sources (plan fault m i) → ¬ (IsForeignPlan sources fault i)
of_plan sources planning.TooMany m i lasting f none = has_module sources f.modules 4096 f.read f.fault.0 none
of_plan sources (planning.Duplicate k) m i lasting f none = has_module sources f.modules k f.read f.fault.0.1.module_number none
of_plan sources (planning.Missing k j) m i lasting f none =
    let same = same_outlines sources f.modules none.0 f.read none.1 in
    first_missing none.0 k j (subst (λ (os : List Outline). IsFirstMissing os k j) same f.fault.0.2)
    (subst (λ (x : List ℕ). IsNotFirst (missing_imports none.0) x) (f.fault.1.1 ∙ ap (λ (os : List Outline). import_at os k j) same) none.2)
of_plan sources (planning.Cycle k) m i lasting f none = has_module sources f.modules k f.read (reached f.modules k k f.fault.0.3.cycle) none
of_plan sources planning.Memory m i lasting f none = lasting

numbered : (sources before after : List (List ℕ)) (source : List ℕ) (n : ℕ) → sources ≡ before ++ source ∷ after → n ≡ length before + 1 → HasSource sources n
numbered sources before after source n whole number = (omega (arith, number), omega (arith, number, ap length whole, length-append before (source ∷ after)))

at_source : (sources : List (List ℕ)) (r : Refusal) → FailsAtSource sources r → ¬ (IsForeign sources r)
at_source sources (lex n fault) f h = h (numbered sources f.before f.after f.source n f.whole f.fault.0)
at_source sources (parse n fault) f h = h (numbered sources f.before f.after f.source n f.whole f.fault.0)
at_source sources (plan fault m i) f h = f.fault

at_plan : (sources : List (List ℕ)) (r : Refusal) → IsLasting r → FailsAtPlan sources r → ¬ (IsForeign sources r)
at_plan sources (lex n fault) lasting f h = f.fault
at_plan sources (parse n fault) lasting f h = f.fault
at_plan sources (plan fault m i) lasting f h = of_plan sources fault m i lasting f h

pub refusals_are_theirs : (sources : List (List ℕ)) (fault : Refusal) → IsRefusalOf sources fault → ¬ (IsForeign sources fault)
refusals_are_theirs sources fault r h = ⊎_elim (λ f. at_source sources fault f h) (λ f. at_plan sources fault r.lasting f h) r.first
