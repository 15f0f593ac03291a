-- Modules of sources, and what they import, are in these sources.
use Rattle.std.proofs.Common.{◌≡◌, ℕ, ◌<◌, List, [], ◌∷◌, All, Contains, get_or, inr, length, map, refl, sym, subst}
use Rattle.std.proofs.lemmas.List.{get_or-map, get_or_default, length-map}
use Rattle.std.proofs.lemmas.List.Elements.{All-append, All-filter, All-head, All-map, All-nil, All-tail}
use Rattle.hm_names.specs.Scope.{prelude_name}
use Rattle.hm_run_sources.specs.Origins.{AreLocated}
use Rattle.hm_run_sources.specs.declared.located.Located.{Located}
use Rattle.hm_syntax.specs.declared.ast.Import.{Import}
use Rattle.hm_messages.specs.Missing.{SetImport, import_of, missing_imports, module_names, names_none, set_import, set_imports}
use Rattle.hm_messages.specs.Refused.{IsNamedAt, place_of}
use Rattle.hm_messages.specs.declared.missing.MissingImport.{MissingImport}

pub modules_inside : (sources : List (List ℕ)) (located : List Located) → AreLocated sources located → All (λ (l : Located). l.source < length sources) located
modules_inside sources located are = λ m d within. (are.each m d within).inside

module _ (n : ℕ) where
  abbrev IsInside : SetImport → Type 0
  IsInside i = i.number < n

  imports_inside : (ls : List Located) → All (λ (l : Located). l.source < n) ls → All IsInside (set_imports ls)
  imports_inside [] all = All-nil IsInside
  imports_inside (l ∷ ls) all =
      All-append IsInside (map (set_import l.source) l.header.imports) (set_imports ls)
      (All-map IsInside (set_import l.source) l.header.imports (λ k d within. All-head (λ (h : Located). h.source < n) l ls all))
      (imports_inside ls (All-tail (λ (h : Located). h.source < n) l ls all))

  missing_inside : (ls : List Located) → All (λ (l : Located). l.source < n) ls → All IsInside (missing_imports ls)
  missing_inside ls all = All-filter (names_none (prelude_name ∷ module_names ls)) IsInside (set_imports ls) (imports_inside ls all)

unmapped : {X Y : Type 0} (P : Y → Type 0) (f : X → Y) (xs : List X) → All P (map f xs) → All (λ x. P (f x)) xs
unmapped P f xs h = λ k d within. subst P (get_or-map f xs k d (f d) within) (h k (f d) (subst (λ n. k < n) (sym (length-map xs f)) within))

pub found_inside : (sources : List (List ℕ)) (located : List Located) (found : List MissingImport) → AreLocated sources located → map import_of found ≡ missing_imports located
    → All (λ (m : MissingImport). m.source < length sources) found
found_inside sources located found are e =
    unmapped (IsInside (length sources)) import_of found (subst (All (IsInside (length sources))) (sym e) (missing_inside (length sources) located (modules_inside sources located are)))

-- ---- each import is one of a module among these

record IsImportOf (all : List Located) (i : SetImport) : Type 0 where
  from : Located
  among : Contains all from
  in_source : from.source ≡ i.number
  import : Import
  one_of : Contains from.header.imports import
  at : i.place ≡ place_of import.name

itself : {X : Type 0} (xs : List X) (k : ℕ) (d : X) → k < length xs → Contains xs (get_or xs k d)
itself xs k d within = (k, within, get_or_default xs k (get_or xs k d) d within)

imports_of : (all ls : List Located) → All (Contains all) ls → All (IsImportOf all) (set_imports ls)
imports_of all [] among = All-nil (IsImportOf all)
imports_of all (l ∷ ls) among =
    All-append (IsImportOf all) (map (set_import l.source) l.header.imports) (set_imports ls)
    (All-map (IsImportOf all) (set_import l.source) l.header.imports (λ k d within. record {
      from = l;
      among = All-head (Contains all) l ls among;
      in_source = refl;
      import = get_or l.header.imports k d;
      one_of = itself l.header.imports k d within;
      at = refl;
    }))
    (imports_of all ls (All-tail (Contains all) l ls among))

-- the first import that names no module is at the name of an import
pub first_named : (sources : List (List ℕ)) (located : List Located) (first : SetImport) (more : List SetImport) → AreLocated sources located → missing_imports located ≡ first ∷ more → IsNamedAt sources first.number first.place
first_named sources located first more are all =
    let missing : All (IsImportOf located) (missing_imports located) =
    All-filter (names_none (prelude_name ∷ module_names located)) (IsImportOf located) (set_imports located) (imports_of located located (λ k d within. itself located k d within)) in
    let i = All-head (IsImportOf located) first more (subst (All (IsImportOf located)) all missing) in
    record {
      located = located;
      of_sources = are;
      here = i.from;
      among = i.among;
      within = i.in_source;
      at = inr (i.import, i.one_of, i.at);
    }
