use Rattle.std.proofs.Common.{rules, ◌≡◌, ◌∙◌, ◌++◌, All, Contains, IfSome, List, ℕ, ap, ap₂, get_or, map, subst, sym}
use Rattle.std.specs.Arc.{arc_value}
use Rattle.std.specs.Prelude.{option_to_list}
use Rattle.std.proofs.lemmas.List.{get_or-map, map-append}
use Rattle.hm_build_reports.specs.ReportBlocks.{blamed}
use Rattle.hm_build_reports.specs.Settling.{status_of, statuses_of}
use Rattle.hm_build_reports.specs.declared.statuses.Settled.TheVariants.{Skipped}
use Rattle.hm_syntax.specs.declared.ast.Import.{Import}
use Rattle.hm_syntax.specs.declared.ast.Module.{Module}
use Rattle.hm_verdicts.specs.Sets.{no_module}
use Rattle.hm_build_messages.specs.Explanations.{IsBlamedBy, IsStatedBy, blamed_of}
use Rattle.hm_build_messages.specs.declared.explaining.Blame.{Blame}
use Rattle.hm_build_messages.proofs.Blamed.{all_more, blamed_here, row_more, same_read}
use Rattle.hm_build_messages.proofs.explaining.blames_of.Goals as goal

pub import_of-index-requires : goal.import_of-index-requires
import_of-index-requires c =
    let modules = c.args.modules.now in
    let row = c.args.row.now in
    let imports = c.args.imports.now in
    let j = get_or row c.loop-number.number-index 0 in
    let name = c.as_str-name.result.now in
    let low = c.requires.modules c.loop-number.number-index 0 c.loop-number-test.true in
    let same : get_or modules j c.index-modules-number.result ≡ c.index-modules-number.result = search rules in
    let named : (get_or (map arc_value modules) j no_module).header.name.text ≡ name =
    ap (λ (m : Module). m.header.name.text) (get_or-map arc_value modules j c.index-modules-number.result no_module low ∙ (ap arc_value same ∙ sym c.deref.ensures)) ∙ sym c.as_str-name.ensures in
    subst (Contains (map (λ (i : Import). i.name.text) imports)) named (c.requires.imported c.loop-number.number-index 0 c.loop-number-test.true)

pub loop-number-preserved : goal.loop-number-preserved
loop-number-preserved c =
    let modules = c.args.modules.now in
    let row = c.args.row.now in
    let imports = c.args.imports.now in
    let status = statuses_of c.args.settled.now in
    let j = get_or row c.loop-number.number-index 0 in
    let name = c.as_str-name.result.now in
    let old = c.loop-number.blames.items in
    let new = c.add_blame.new.blames.items in
    let one = c.blame_of.result in
    let item : Import = c.index-imports-index.result in
    let more : map (λ (b : Blame). b.name.now) new ≡ map (λ (b : Blame). b.name.now) old ++ blamed (status_of c.index-settled-number.result) name =
    ap (map (λ (b : Blame). b.name.now)) c.in_ok-add_blame.ensures ∙ (map-append (λ (b : Blame). b.name.now) old (option_to_list one) ∙ ap (λ l. map (λ (b : Blame). b.name.now) old ++ l) c.blame_of.ensures.names) in
    let is : get_or imports c.import_of-index.result item ≡ item = search rules in
    let called : item.name.text ≡ name = ap (λ (i : Import). i.name.text) (sym is) ∙ c.import_of-index.ensures.named item in
    let low = c.requires.modules c.loop-number.number-index 0 c.loop-number-test.true in
    let same : get_or modules j c.index-modules-number.result ≡ c.index-modules-number.result = search rules in
    let named : (get_or (map arc_value modules) j no_module).header.name.text ≡ name =
    ap (λ (m : Module). m.header.name.text) (get_or-map arc_value modules j c.index-modules-number.result no_module low ∙ (ap arc_value same ∙ sym c.deref.ensures)) ∙ sym c.as_str-name.ensures in
    let inside = c.requires.settled c.loop-number.number-index 0 c.loop-number-test.true in
    let read : c.index-settled-number.result ≡ get_or c.args.settled.now j c.index-settled-number.result = search rules in
    let way : status_of c.index-settled-number.result ≡ status j = ap status_of (read ∙ same_read c.args.settled.now j c.index-settled-number.result Skipped inside) in
    let told = blamed_here (map arc_value modules) status row imports one item j name _ (c.import_of-index.result, c.import_of-index.ensures.within, is) called (search rules)
    (c.loop-number.number-index, c.loop-number-test.true, search rules) named c.blame_of.ensures.name c.blame_of.ensures.place (subst (λ w. IfSome one (λ b. IsStatedBy w name (blamed_of b).subject)) way c.blame_of.ensures.stated) in
    record {
      names = more ∙ (ap₂ (λ (l s : List (List ℕ)). l ++ s) c.loop-number.invariant.names (ap₂ blamed way (sym named)) ∙ sym (row_more (map arc_value modules) status row c.loop-number.number-index 0 c.loop-number-test.true));
      right = subst (All (λ b. IsBlamedBy (map arc_value modules) status row imports (blamed_of b))) (sym c.in_ok-add_blame.ensures)
          (all_more (λ b. IsBlamedBy (map arc_value modules) status row imports (blamed_of b)) old one c.loop-number.invariant.right told);
    }
