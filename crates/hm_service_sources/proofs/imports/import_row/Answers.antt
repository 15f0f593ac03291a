use Rattle.std.proofs.Common.{◌≡◌, ◌≤◌, ◌<◌, ℕ, List, length, arith, sym, subst}
use Rattle.std.proofs.lemmas.List.{length-map}
use Rattle.hm_graph.specs.Imports.{imports_at}
use Rattle.hm_graph.specs.Outline.{outline}
use Rattle.hm_service_sources.specs.LeftOut.{outlines_of}
use Rattle.hm_service_sources.proofs.Targets.{IsRowBelow, Reads, as_many, reads, row_begin, row_end, row_more}
use Rattle.hm_service_sources.proofs.imports.import_row.Goals as goal

pub imports-init : goal.imports-init
imports-init c = subst (λ (l : List ℕ). IsRowBelow (outlines_of c.args.located.now) c.args.number 0 l) (sym c.new-row.ensures.items) (row_begin (outlines_of c.args.located.now) c.args.number)

pub imports-preserved : goal.imports-preserved
imports-preserved c =
    let located = c.args.located.now in
    let name = c.as_str-name.result.now in
    let i = c.imports.import in
    let read : Reads (outlines_of located) c.args.number i name =
    reads located c.args.number i c.index-located-number.result c.index-imports-import.result c.as_slice-imports.result.now name c.requires.number c.as_slice-imports.ensures c.imports-test.true c.as_str-name.ensures in
    row_more (outlines_of located) c.args.number i (length located) c.imports.row.items name (sym (length-map located (λ l. outline l.header))) read c.imports.invariant
    c.target_of-target.result c.add_target.new.row.items c.target_of-target.ensures.some c.target_of-target.ensures.none c.in_ok-add_target.ensures

pub returns : goal.returns
returns c =
    let located = c.args.located.now in
    let past : length (imports_at (outlines_of located) c.args.number) ≤ c.imports.import =
    omega (arith, c.imports-test.false, as_many located c.args.number c.index-located-number.result c.as_slice-imports.result.now c.requires.number c.as_slice-imports.ensures) in
    row_end (outlines_of located) c.args.number c.imports.import c.imports.row.items past c.imports.invariant
