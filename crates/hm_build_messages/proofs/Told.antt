-- Messages of modules, in order.
use Rattle.std.proofs.Common.{◌≡◌, Bool, false, true, ℕ, ◌+◌, ◌-◌, ◌^◌, ◌<◌, List, [], ◌∷◌, ◌++◌, cond, filter, length, map, take, get_or, min, refl, sym, ap, ap₂, subst, ◌∙◌, arith}
use Rattle.std.specs.List.Sorted.{IsPermutation, IsSortedBy}
use Rattle.std.proofs.lemmas.List.{map_more, length-map, get_or-map, take-map}
use Rattle.std.proofs.lemmas.List.Elements.{Contains-get_or, filter_more}
use Rattle.std.proofs.lemmas.List.Sorted.{Contains-permutation, IsPermutation-map, IsPermutation-sym}
use Rattle.std.specs.Arc.{arc_value}
use Rattle.std.specs.declared.alloc.Global.{Global}
use Rattle.std.specs.declared.sync.Arc.{Arc}
use Rattle.hm_messages.specs.Headings.{count_text, further_text}
use Rattle.hm_messages.specs.Messages.{AreEach}
use Rattle.hm_messages.specs.declared.heading.MessageFormat.{MessageFormat}
use Rattle.hm_messages.proofs.InOrder.{each_mapped, each_more}
use Rattle.hm_run_sources.specs.Names.{name_below}
use Rattle.hm_run_sources.proofs.Ordering.{sorted_map}
use Rattle.hm_store.specs.Builds.{Build, set_of}
use Rattle.hm_store.specs.Settlements.{settlement}
use Rattle.hm_syntax.specs.declared.ast.Module.{Module}
use Rattle.hm_verdicts.specs.Reports.{is_skipped, tally}
use Rattle.hm_verdicts.specs.Sets.{ModuleSet}
use Rattle.hm_verdicts.specs.Verdicts.{Status}
use Rattle.hm_build_messages.specs.Explanations.{AreErrorsStated, AreInTurn, AreNumbered, AreSkipsStated, IsSkippedStated, IsSetStated, Numbered, fault_count, named_of, noted_of, skipped_among}
use Rattle.hm_build_reports.specs.Settling.{module_set, status_of, statuses_of}
use Rattle.hm_build_reports.specs.declared.statuses.Settled.{Settled}
use Rattle.hm_build_reports.specs.declared.statuses.Settled.TheVariants.{Skipped}
use Rattle.hm_build_messages.specs.declared.explaining.NumberedName.{NumberedName}
use Rattle.hm_build_messages.proofs.Blamed.{same_read}
use Rattle.hm_build_messages.proofs.Turns.{viewed_turn}
use Rattle.hm_build_reports.proofs.Reporting.{same_set}

-- the step of a loop whose elements are seen through a view
pub viewed_more : {X Y : Type 0} (view : X → Y) (tells : Y → List ℕ → Type 0) (xs : List X) (i : ℕ) (d : X) (text next message : List ℕ) → i < length xs
    → AreEach tells (map view (take i xs)) text → tells (view (get_or xs i d)) message → next ≡ text ++ message → AreEach tells (map view (take (i + 1) xs)) next
viewed_more view tells xs i d text next message within each h e =
    subst (AreEach tells (map view (take (i + 1) xs))) (sym e) (subst (λ l. AreEach tells l (text ++ message)) (sym (map_more view xs i d within)) (each_more tells (map view (take i xs)) (view (get_or xs i d)) text message each h))

-- each row of a sorted list has the number of a module
pub number_inside : (modules : List Module) (rows sorted : List NumberedName) → AreNumbered modules (map named_of rows) → IsPermutation rows sorted → (i : ℕ) (d : NumberedName) → i < length sorted → (get_or sorted i d).number < length modules
number_inside modules rows sorted numbered same i d within =
    let row : NumberedName = get_or sorted i d in
    let there = Contains-permutation sorted rows row (IsPermutation-sym rows sorted same) (Contains-get_or sorted i d within) in
    let long : length (map named_of rows) ≡ length rows = length-map rows named_of in
    let low : there.0 < length (map named_of rows) = omega (arith, there.1, long) in
    let is = numbered.each there.0 (named_of row) low in
    let at : get_or (map named_of rows) there.0 (named_of row) ≡ named_of row = get_or-map named_of rows there.0 row (named_of row) there.1 ∙ ap named_of there.2 in
    let number : row.number ≡ there.0 = ap (λ (r : Numbered). r.number) (sym at) ∙ is.number in
    omega (arith, number, low, numbered.many)

pub number_here : (modules : List (Arc Module Global)) (rows sorted items : List NumberedName) → AreNumbered (map arc_value modules) (map named_of rows) → IsPermutation rows sorted → items ≡ sorted → (i : ℕ) (d : NumberedName) → i < length items → (get_or items i d).number < length modules
number_here modules rows sorted items numbered same is i d within =
    subst (λ n. (get_or items i d).number < n) (length-map modules arc_value)
    (subst (λ l. (get_or l i d).number < length (map arc_value modules)) (sym is) (number_inside (map arc_value modules) rows sorted numbered same i d (subst (λ l. i < length l) is within)))

-- one more row, if its module is skipped
pub skipped_more : (settled : List Settled) (rows : List NumberedName) (i : ℕ) (d : NumberedName) (s : Settled) (old new : List NumberedName) → i < length rows → (get_or rows i d).number < length settled
    → s ≡ get_or settled (get_or rows i d).number s → old ≡ filter (λ r. is_skipped (statuses_of settled r.number)) (take i rows) → new ≡ old ++ cond (is_skipped (status_of s)) (get_or rows i d ∷ []) []
    → new ≡ filter (λ r. is_skipped (statuses_of settled r.number)) (take (i + 1) rows)
skipped_more settled rows i d s old new within inside is before after =
    let row : NumberedName = get_or rows i d in
    let same : s ≡ get_or settled row.number Skipped = is ∙ same_read settled row.number s Skipped inside in
    after ∙ (ap₂ (λ (l : List NumberedName) (w : Settled). l ++ cond (is_skipped (status_of w)) (row ∷ []) []) before same ∙ sym (filter_more (λ r. is_skipped (statuses_of settled r.number)) rows i d within))

onto : (b : Bool) (r : NumberedName) (us : List NumberedName) (vs : List Numbered) → vs ≡ map named_of us → cond b (named_of r ∷ vs) vs ≡ map named_of (cond b (r ∷ us) us)
onto true r us vs e = ap (λ l. named_of r ∷ l) e
onto false r us vs e = e

-- the skipped modules are the same, seen through the view
pub skipped_through : (status : ℕ → Status) (rows : List NumberedName) → skipped_among status (map named_of rows) ≡ map named_of (filter (λ r. is_skipped (status r.number)) rows)
skipped_through status [] = refl
skipped_through status (r ∷ rs) = onto (is_skipped (status r.number)) r (filter (λ r. is_skipped (status r.number)) rs) (skipped_among status (map named_of rs)) (skipped_through status rs)

-- the first few, seen through a view
pub first_viewed : {X Y : Type 0} (view : X → Y) (format : MessageFormat) (xs first : List X) (shown : ℕ) → first ≡ take shown xs → shown ≡ noted_of format (length xs)
    → map view first ≡ take (noted_of format (length (map view xs))) (map view xs)
first_viewed view format xs first shown is many =
    ap (map view) (is ∙ ap (λ n. take n xs) (many ∙ ap (noted_of format) (sym (length-map xs view)))) ∙ sym (take-map view (noted_of format (length (map view xs))) xs)

-- the notes of the first few skipped modules, and how many others there are
pub skips_stated : (format : MessageFormat) (files texts : List (List ℕ)) (p : ModuleSet) (status : ℕ → Status) (rows kept first : List NumberedName) (shown : ℕ) (notes further text : List ℕ)
    → kept ≡ filter (λ r. is_skipped (status r.number)) rows → first ≡ take shown kept → shown ≡ noted_of format (length kept)
    → AreEach (λ r m. IsSkippedStated format files texts p status r.number m) first notes → further ≡ further_text format (length kept - shown) → text ≡ notes ++ further
    → AreSkipsStated format files texts p status (skipped_among status (map named_of rows)) text
skips_stated format files texts p status rows kept first shown notes further text all some many each other whole =
    let seen : skipped_among status (map named_of rows) ≡ map named_of kept = skipped_through status rows ∙ ap (map named_of) (sym all) in
    let long : length kept ≡ length (map named_of kept) = sym (length-map kept named_of) in
    let tells = λ (r : Numbered) (m : List ℕ). IsSkippedStated format files texts p status r.number m in
    subst (λ l. AreSkipsStated format files texts p status l text) (sym seen) (record {
      notes = notes;
      noted = subst (λ l. AreEach tells l notes) (first_viewed named_of format kept first shown some many) (each_mapped named_of tells first notes each);
      whole = whole ∙ ap (λ l. notes ++ l) (other ∙ ap₂ (λ (m n : ℕ). further_text format (m - n)) long (many ∙ ap (noted_of format) long));
    })

-- what is told of modules is told of the set that they are
pub stated_set : (format : MessageFormat) (files texts : List (List ℕ)) (modules : List (Arc Module Global)) (plan : List (List ℕ)) (status : ℕ → Status) (rows sorted : List NumberedName) (count : ℕ) (limited : Bool) (errors notes text : List ℕ)
    → AreNumbered (map arc_value modules) (map named_of rows) → IsPermutation rows sorted → IsSortedBy (λ x y. name_below x.name.now y.name.now) sorted
    → AreInTurn (λ r before after m. AreErrorsStated format files texts (module_set modules plan) status r.number before after m) sorted false limited errors
    → AreSkipsStated format files texts (module_set modules plan) status (skipped_among status (map named_of sorted)) notes → count ≡ length modules
    → text ≡ errors ++ notes ++ count_text format (min (fault_count status count) (2 ^ 64 - 1)) (tally is_skipped status count) → IsSetStated format files texts (module_set modules plan) status text
stated_set format files texts modules plan status rows sorted count limited errors notes text numbered same ordered told noted long whole =
    let size : count ≡ length (map arc_value modules) = long ∙ sym (length-map modules arc_value) in
    record {
      rows = map named_of rows;
      all = numbered;
      order = map named_of sorted;
      same = IsPermutation-map named_of rows sorted same;
      ordered = sorted_map named_of (λ x y. name_below x.name y.name) sorted ordered;
      errors = errors;
      limited = limited;
      stated = viewed_turn named_of (λ r before after m. AreErrorsStated format files texts (module_set modules plan) status r.number before after m) sorted false limited errors told;
      notes = notes;
      noted = noted;
      whole = whole ∙ ap (λ n. errors ++ notes ++ count_text format (min (fault_count status n) (2 ^ 64 - 1)) (tally is_skipped status n)) size;
    }

-- and of the build that has these modules
pub told_of : (format : MessageFormat) (files texts : List (List ℕ)) (b : Build) (modules : List (Arc Module Global)) (plan : List (List ℕ)) (status : ℕ → Status) (text : List ℕ) → map arc_value modules ≡ b.modules → plan ≡ b.given.imports → status ≡ settlement b
    → IsSetStated format files texts (module_set modules plan) status text → IsSetStated format files texts (set_of b) (settlement b) text
told_of format files texts b modules plan status text same planned says told =
    subst (λ s. IsSetStated format files texts (set_of b) s text) says (subst (λ p. IsSetStated format files texts p status text) (same_set modules plan b same planned) told)
