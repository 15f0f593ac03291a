use Rattle.std.proofs.Common.{rules, ◌≡◌, ◌∙◌, ◌++◌, ◌⊎◌, [], List, ℕ, ap, map, subst}
use Rattle.std.specs.Prelude.{cond}
use Rattle.std.specs.Arc.{arc_value}
use Rattle.hm_build_messages.specs.Explanations.{IsNote}
use Rattle.hm_build_messages.specs.Jointly.{AreJointNotes}
use Rattle.hm_build_messages.specs.Variables.{AreVariableNotes}
use Rattle.hm_build_messages.proofs.Jointly.{IsKept, kept_alone, kept_noted}
use Rattle.hm_build_messages.proofs.faulty.own_notes.Goals as goal

pub returns : goal.returns
returns c =
    let format = c.args.«module».now.format in
    let page = c.args.«module».now.page.now in
    let name = c.args.«module».now.question.now.name.now in
    let imports = map arc_value c.args.«module».now.question.now.imports.now in
    let fault = c.args.found.now.fault.now in
    let note = c.in_ok-note.note.text.items in
    let kept = c.kept-note.result.items in
    let signed = c.in_ok-signed.signed.text.items in
    let leads = c.in_ok-signed.signed.leads in
    let both = c.in_ok-both.both.items in
    let is_kept : IsKept note kept both = subst (λ (others : List ℕ). IsKept note kept others) c.as_slice.ensures.value c.kept-note.ensures in
    let ordered : c.in_ok-text.text.items ≡ cond leads (signed ++ kept) (kept ++ signed) = search rules in
    let variables = c.in_ok-variables.variables.items in
    let middle : c.extend_from_slice.new.self.items ≡ c.in_ok-text.text.items ++ both = search rules in
    let last : c.extend_from_slice-2.new.self.items ≡ c.extend_from_slice.new.self.items ++ variables = search rules in
    record {
      note = kept;
      signed = signed;
      both = both;
      variables = variables;
      leads = leads;
      noted = kept_noted note kept both (IsNote format page.file.now page.lines name imports fault) is_kept c.in_ok-note.ensures;
      signature = c.in_ok-signed.ensures;
      jointly = kept_alone note kept both (AreJointNotes format page.file.now page.lines name imports fault both) is_kept c.in_ok-both.ensures;
      alike = subst (λ (s : List ℕ). (variables ≡ []) ⊎ ((¬ (s ≡ [])) × AreVariableNotes format page.file.now page.lines name imports fault.name variables)) c.as_slice-2.ensures.value
          c.in_ok-variables.ensures;
      whole = last ∙ ap (λ (l : List ℕ). l ++ variables) (middle ∙ ap (λ (l : List ℕ). l ++ both) ordered);
    }
