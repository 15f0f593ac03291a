use Rattle.std.proofs.Common.{rules, ◌≡◌, ◌+◌, [], ◌∷◌, ◌++◌, map, drop}
use Rattle.std.proofs.lemmas.List.Elements.{All-push, All-same}
use Rattle.std.specs.Arc.{arc_value}
use Rattle.hm_run_sources.specs.ModuleCounts.{AreCountedModules}
use Rattle.hm_build_earlier.specs.Known.{IsKnown}
use Rattle.hm_build_earlier.specs.declared.known.KnownSource.{KnownSource}
use Rattle.hm_build_earlier.proofs.CountedParts.{part_at}
use Rattle.hm_build_earlier.proofs.known.add_sources.Goals as goal

pub split_at-requires : goal.split_at-requires
split_at-requires c =
    (part_at (λ s. s.items) arc_value c.args.earlier.texts.now c.loop-index.rest.now c.as_slice-counts.result.now c.loop-index.index c.index-earlier-index.result (search rules) c.loop-index.invariant.1).fits

pub loop-index-preserved : goal.loop-index-preserved
loop-index-preserved c =
    let texts = c.args.earlier.texts.now in
    let counts = c.as_slice-counts.result.now in
    let i = c.loop-index.index in
    let part = part_at (λ s. s.items) arc_value texts c.loop-index.rest.now counts i c.index-earlier-index.result (search rules) c.loop-index.invariant.1 in
    let source : KnownSource = record { text = c.as_slice-text.result; modules = c.split_at.result.0; before = c.in_ok-before.before } in
    let pushed : c.push.new.self.items ≡ c.loop-index.known.items ++ source ∷ [] = search rules in
    let text = c.as_slice-text.ensures.value in
    let known : IsKnown source = rw (text, c.split_at.ensures.front) part.here in
    let rest : AreCountedModules (map (λ s. s.items) (drop (i + 1) texts)) (map arc_value c.split_at.result.1.now) (drop (i + 1) counts) = rw c.split_at.ensures.back part.later in
    (All-same IsKnown _ _ pushed (All-push IsKnown _ source c.loop-index.invariant.0 known), rest)
