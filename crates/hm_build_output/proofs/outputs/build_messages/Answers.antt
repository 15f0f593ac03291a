use Rattle.std.proofs.Common.{◌≡◌, ℕ, List, inr, length, map, ap, subst, sym, ◌∙◌}
use Rattle.std.specs.Arc.{arc_value}
use Rattle.std.proofs.lemmas.List.{length-map}
use Rattle.hm_run_sources.specs.Origins.{HaveOrigins}
use Rattle.hm_run_sources.proofs.ModuleCounts.{have_origins}
use Rattle.hm_messages.specs.ModuleStarts.{AreStartsOf, module_start, start_of}
use Rattle.hm_messages.specs.declared.starts.ModuleStart.{ModuleStart}
use Rattle.hm_build_messages.proofs.Starting.{counted_starts, map_twice}
use Rattle.hm_build_output.proofs.outputs.build_messages.Goals as goal

pub starts_of-requires : goal.starts_of-requires
starts_of-requires c =
    let modules = c.modules-modules.result.now in
    let have = have_origins (map (λ s. s.items) c.args.sources.now) c.args.store.now.modules c.args.counts.now c.in_ok-origins.origins.items c.requires c.in_ok-origins.ensures in
    ap length c.as_slice.ensures.value ∙ (have.as_many ∙ (sym (ap length c.modules-modules.ensures) ∙ length-map modules arc_value))

pub pages_of-requires : goal.pages_of-requires
pages_of-requires c =
    let sources : List (List ℕ) = map (λ s. s.items) c.args.sources.now in
    let modules = c.modules-modules.result.now in
    let starts : List ModuleStart = c.in_ok-starts.starts.items in
    let origins : List ℕ = c.in_ok-origins.origins.items in
    let named : map start_of starts ≡ map module_start c.args.store.now.modules =
    c.in_ok-starts.ensures.named ∙ (sym (map_twice module_start arc_value modules) ∙ ap (map module_start) c.modules-modules.ensures) in
    let numbered : map (λ (s : ModuleStart). s.source) starts ≡ origins = c.in_ok-starts.ensures.sources ∙ c.as_slice.ensures.value in
    inr (subst (AreStartsOf sources) (sym c.as_slice-2.ensures.value) (counted_starts sources starts c.args.store.now.modules c.args.counts.now origins c.requires c.in_ok-origins.ensures named numbered))

pub explanation-requires-clause-origins : goal.explanation-requires-clause-origins
explanation-requires-clause-origins c =
    let sources : List (List ℕ) = map (λ s. s.items) c.args.sources.now in
    let modules = c.modules-modules.result.now in
    let origins = c.as_slice-3.result.now in
    let have = have_origins sources c.args.store.now.modules c.args.counts.now c.in_ok-origins.origins.items c.requires c.in_ok-origins.ensures in
    let many : length c.args.store.now.modules ≡ length modules = sym (ap length c.modules-modules.ensures) ∙ length-map modules arc_value in
    subst (λ (s : List (List ℕ)). HaveOrigins s (length modules) origins) (sym c.in_ok-pages.ensures.texts)
    (subst (λ (n : ℕ). HaveOrigins sources n origins) many (subst (HaveOrigins sources (length c.args.store.now.modules)) (sym c.as_slice-3.ensures.value) have))
