use Rattle.std.proofs.Common.{◌≡◌, List, Bool, length, map, ap, sym, ◌∙◌, subst}
use Rattle.std.specs.Vec.{with_items}
use Rattle.std.proofs.lemmas.List.{with_items_is}
use Rattle.hm_syntax.specs.Trees.{Declaration}
use Rattle.hm_names.specs.Texts.{is_text_among}
use Rattle.hm_scope.specs.declared.declared_synonyms.OwnSynonym.{OwnSynonym}
use Rattle.hm_scope.specs.NeededSynonyms.{MarksNeeded, AreNeeded}
use Rattle.hm_scope.proofs.NeededMarks.{needed}
use Rattle.hm_scope.proofs.needed_synonyms.needed_marks.Goals as goal

pub returns : goal.returns
returns c = λ fs scope.
    let m = c.args.program.now in
    let own = c.args.synonyms.now.own.now in
    let graph = c.args.synonyms.now.graph.now in
    let exported = c.args.synonyms.now.exported.now in
    let start = c.in_ok-marks.marks.items in
    let final = c.mark_needed.new.marks in
    let marks = c.in_ok-mark_needed.ensures m fs scope c.as_str.ensures c.requires.synonyms.names.once in
    let from_start = subst (λ (l : List Bool). MarksNeeded m fs own.names c.as_slice-decls.result.now graph l final) c.deref_mut.ensures.value marks in
    let done = subst (λ (ds : List Declaration). MarksNeeded m fs own.names ds graph start final) c.as_slice-decls.ensures from_start in
    let long : length final ≡ c.in_ok-marks.marks.len = done.spread.nodes ∙ (done.added.nodes ∙ sym c.in_ok-marks.marks.ok.0) in
    let back : (with_items c.in_ok-marks.marks final).items ≡ final = with_items_is c.in_ok-marks.marks final long in
    let starts = c.in_ok-marks.ensures ∙ ap (map (λ (s : OwnSynonym). is_text_among s.name.now.text exported)) c.deref.ensures.value in
    subst (λ (l : List Bool). AreNeeded m fs own.names exported graph l) (sym back) (needed m fs own exported graph start done.used final c.requires.synonyms starts done.added done.marked done.spread)
