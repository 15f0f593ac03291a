-- Blocks of a report, and their names.
use Rattle.std.proofs.Common.{◌≡◌, ℕ, ◌<◌, List, [], ◌++◌, length, map, get_or, Contains, refl, sym, ap, ap₂, ◌∙◌, subst, arith, bytes_eq}
use Rattle.std.specs.Arc.{arc_value}
use Rattle.std.specs.List.{flat_map, IsDistinct}
use Rattle.std.specs.List.Sorted.{IsPermutation, IsSortedBy}
use Rattle.std.proofs.lemmas.List.Sorted.{Contains-permutation, IsPermutation-map, IsPermutation-sym}
use Rattle.std.proofs.lemmas.Map.Keys.{IsDistinct-from_apart}
use Rattle.std.specs.declared.alloc.Global.{Global}
use Rattle.std.specs.declared.sync.Arc.{Arc}
use Rattle.std.proofs.lemmas.List.{get_or-map, length-map}
use Rattle.hm_syntax.specs.declared.ast.Module.{Module}
use Rattle.hm_verdicts.specs.Reports.{name_of_module, Block, IsBlockOf, IsReport, count_line}
use Rattle.hm_verdicts.specs.Sets.{ModuleSet, no_module, IsLawfulSet}
use Rattle.hm_verdicts.specs.Verdicts.{Status}
use Rattle.hm_verdicts.proofs.OneReport.{one_block_text}
use Rattle.hm_store.specs.Builds.{Build, set_of}
use Rattle.hm_store.specs.Settlements.{settlement}
use Rattle.hm_run_sources.specs.Names.{name_below}
use Rattle.hm_build_reports.specs.ReportBlocks.{AreBlocksOf}
use Rattle.hm_build_reports.proofs.Blame.{names_apart}
use Rattle.hm_run_sources.proofs.Ordering.{sorted_map}
use Rattle.hm_build_reports.proofs.Strict.{strict, unlike}
use Rattle.hm_build_reports.specs.Settling.{module_set}

-- the name of a module by its place
pub name_by_place : (modules : List (Arc Module Global)) (plan : List (List ℕ)) (i : ℕ) (m : Arc Module Global) → i < length modules → m ≡ get_or modules i m → name_of_module (module_set modules plan) i ≡ (arc_value m).header.name.text
name_by_place modules plan i m l is = ap (λ x. x.header.name.text) (get_or-map arc_value modules i m no_module l ∙ ap arc_value (sym is))

pub inside_set : (modules : List (Arc Module Global)) (plan : List (List ℕ)) (i : ℕ) → i < length modules → i < length (module_set modules plan).modules
inside_set modules plan i l = subst (λ n. i < n) (sym (length-map modules arc_value)) l

same_block : (x y : Block) → x.name ≡ y.name → x.text ≡ y.text → x ≡ y
same_block x y e f = ap₂ (λ n t. made n t) e f
  where
    made : List ℕ → List ℕ → Block
    made n t = record { name = n; text = t }

module _ (p : ModuleSet) (law : IsLawfulSet p) (status : ℕ → Status) (blocks : List Block) (made : AreBlocksOf p status blocks) where
  name_here : (i : ℕ) (d : List ℕ) → i < length blocks → get_or (map (λ b. b.name) blocks) i d ≡ name_of_module p i
  name_here i d l = let b : Block = record { name = []; text = [] } in get_or-map (λ b. b.name) blocks i b d l ∙ (made.each i b l).name

  distinct : IsDistinct bytes_eq (map (λ b. b.name) blocks)
  distinct = IsDistinct-from_apart bytes_eq (map (λ b. b.name) blocks) (λ i j d a b.
      let inside : j < length blocks = subst (λ n. j < n) (length-map blocks (λ b. b.name)) b in
      let before : i < length blocks = omega (arith, a, inside) in
      unlike (get_or (map (λ b. b.name) blocks) i d) (get_or (map (λ b. b.name) blocks) j d) (λ e.
      names_apart p law i j (subst (λ n. i < n) made.long before) (subst (λ n. j < n) made.long inside) (λ s. omega (arith, s, a))
      (sym (name_here i d before) ∙ (e ∙ name_here j d inside))))

  block_number : (b : Block) → Contains blocks b → (i : ℕ) × IsBlockOf p status i b
  block_number b (k, l, e) = (k, subst (λ z. IsBlockOf p status k z) e (made.each k b l))

  is_there : (b : Block) → (i : ℕ) × IsBlockOf p status i b → Contains blocks b
  is_there b (i, h) =
      let l : i < length blocks = subst (λ n. i < n) (sym made.long) h.inside in
      let k = made.each i b l in
      (i, l, same_block (get_or blocks i b) b (k.name ∙ sym h.name) (one_block_text p law status status (λ j m. refl) i h.inside (get_or blocks i b).text b.text (status i) k.text h.text))

  -- the blocks in order, and the counts, are the report
  pub is_report : (ordered : List Block) (text : List ℕ) → IsPermutation blocks ordered → IsSortedBy (λ x y. name_below x.name y.name) ordered → text ≡ flat_map (λ b. b.text) ordered ++ count_line status (length p.modules) → IsReport p status text
  is_report ordered text same sorted whole = record {
    blocks = ordered;
    each = λ b. (
      (λ c. block_number b (Contains-permutation ordered blocks b (IsPermutation-sym blocks ordered same) c)),
      (λ q. Contains-permutation blocks ordered b same (is_there b q)),
    );
    ordered = strict (map (λ b. b.name) blocks) (map (λ b. b.name) ordered) distinct (IsPermutation-map (λ b. b.name) blocks ordered same) (sorted_map (λ b. b.name) name_below ordered sorted);
    whole = whole;
  }

pub same_set : (modules : List (Arc Module Global)) (plan : List (List ℕ)) (b : Build) → map arc_value modules ≡ b.modules → plan ≡ b.given.imports → module_set modules plan ≡ set_of b
same_set modules plan b same planned = ap₂ (λ ms rows. made ms rows) same planned
  where
    made : List Module → List (List ℕ) → ModuleSet
    made ms rows = record { modules = ms; plan = rows }

-- a report of the modules of a build is the report of the build
pub report_of : (b : Build) (modules : List (Arc Module Global)) (plan : List (List ℕ)) (status : ℕ → Status) (text : List ℕ) → map arc_value modules ≡ b.modules → plan ≡ b.given.imports → status ≡ settlement b → IsReport (module_set modules plan) status text → IsReport (set_of b) (settlement b) text
report_of b modules plan status text same planned says r =
    let set : module_set modules plan ≡ set_of b = same_set modules plan b same planned in
    subst (λ s. IsReport (set_of b) s text) says (subst (λ p. IsReport p status text) set r)

-- and the set is lawful
pub lawful_of : (b : Build) (modules : List (Arc Module Global)) (plan : List (List ℕ)) → map arc_value modules ≡ b.modules → plan ≡ b.given.imports → IsLawfulSet (set_of b) → IsLawfulSet (module_set modules plan)
lawful_of b modules plan same planned law = subst IsLawfulSet (sym (same_set modules plan b same planned)) law
