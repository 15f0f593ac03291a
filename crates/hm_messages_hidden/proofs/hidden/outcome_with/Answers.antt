use Rattle.std.proofs.Common.{rules, ◌≡◌, ◌∷◌, All, List, ℕ, map, subst}
use Rattle.std.specs.Arc.{arc_value}
use Rattle.std.proofs.lemmas.List.Elements.{All-map}
use Rattle.hm_lex.specs.declared.token.Place.{Place}
use Rattle.hm_types.specs.Interfaces.{Exports as Interface}
use Rattle.hm_types.specs.StandardPrelude.{prelude_interface}
use Rattle.hm_names.specs.Imports.{AreImportsOf}
use Rattle.hm_verdicts.specs.ModuleVerdicts.{Verdict, IsVerdict}
use Rattle.hm_verdicts.specs.Outcomes.{verdict_of}
use Rattle.hm_messages_hidden.specs.Hidden.{AreLater, IsOutOfScope, IsReplaced}
use Rattle.hm_messages_changes.specs.Blanks.{replaced}
use Rattle.hm_messages_trials.specs.TypedSources.{IsModuleIn}
use Rattle.hm_messages_hidden.proofs.hidden.outcome_with.Goals as goal

pub returns : goal.returns
returns c =
    let source = c.args.question.now.source.now in
    let name = c.args.question.now.name.now in
    let fs = map arc_value c.args.question.now.imports.now in
    let change = c.args.change.now in
    let faults = c.args.faults.now in
    let names = map (λ n. n.now) change.names.now in
    let o = c.in-Some-2.outcome in
    let text : c.as_slice.result.now ≡ replaced source change.at names change.replaced.now = search rules in
    let removed : All (IsReplaced source faults) change.replaced.now = search rules in
    let spelled : IsModuleIn c.as_slice.result.now name o.«module» = search rules in
    let imports : o.imports ≡ fs = search rules in
    let of_imports : AreImportsOf o.«module» fs = search rules in
    let right : IsVerdict o.«module» (prelude_interface ∷ o.imports) o.verdict = search rules in
    let later : AreLater c.place_of_byte-end.result (verdict_of c.verdict.result.now) = search rules in
    record {
      at = change.at;
      within = search rules;
      names = names;
      unbound = All-map (IsOutOfScope faults) (λ n. n.now) change.names.now c.requires;
      definitions = change.replaced.now;
      removed = removed;
      «module» = o.«module»;
      spelled = subst (λ (s : List ℕ). IsModuleIn s name o.«module») text spelled;
      of_imports = of_imports;
      right = subst (λ (l : List Interface). IsVerdict o.«module» (prelude_interface ∷ l) o.verdict) imports right;
      later = subst (λ (p : Place). AreLater p o.verdict) c.place_of_byte-end.ensures (subst (λ (v : Verdict). AreLater c.place_of_byte-end.result v) c.verdict.ensures.value later);
    }
