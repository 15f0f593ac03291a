use Rattle.std.proofs.Common.{◌≡◌, ◌≤◌, ◌<◌, length, arith, sym, ◌∙◌, rules}
use Rattle.std.proofs.lemmas.Bool.{both_ways}
use Rattle.std.proofs.lemmas.List.{length-map}
use Rattle.hm_graph.specs.Imports.{imports_at}
use Rattle.hm_graph.specs.Outline.{outline}
use Rattle.hm_service_sources.specs.LeftOut.{outlines_of}
use Rattle.hm_service_sources.proofs.Targets.{Reads, as_many, names_nothing, none_more, reads}
use Rattle.hm_service_sources.proofs.imports.has_missing.Goals as goal

pub imports-init : goal.imports-init
imports-init c = λ j below missing. absurd (omega (arith, below))

pub imports-preserved : goal.imports-preserved
imports-preserved c =
    let located = c.args.located.now in
    let name = c.as_str-name.result.now in
    let i = c.imports.import in
    let read : Reads (outlines_of located) c.args.number i name =
    reads located c.args.number i c.index-located-number.result c.index-imports-import.result c.as_slice-imports.result.now name c.requires.number c.as_slice-imports.ensures c.imports-test.true c.as_str-name.ensures in
    none_more (outlines_of located) c.args.number i c.imports.invariant
    (λ missing. both_ways c.is_missing.result c.if-is_missing.false (c.is_missing.ensures.1 (names_nothing (outlines_of located) c.args.number i (length located) name (sym (length-map located (λ l. outline l.header))) read missing)))

pub returns-clause-none : goal.returns-clause-none
returns-clause-none c = λ i missing.
    let located = c.args.located.now in
    let place = missing.place in
    absurd (c.imports.invariant i (omega (arith, place, c.imports-test.false, as_many located c.args.number c.index-located-number.result c.as_slice-imports.result.now c.requires.number c.as_slice-imports.ensures)) missing)
