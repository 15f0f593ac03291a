use Rattle.std.proofs.Common.{List, Option, IfNone, IfSome, ℕ, [], inl, subst}
use Rattle.std.specs.Prelude.{slice_index_or}
use Rattle.hm_service.specs.Checks.{IsHeldCheck}
use Rattle.hm_service_candidates.specs.Edited.{HasNoEdited, IsEditedText}
use Rattle.hm_service_candidates.specs.Ranges.{tried_of}
use Rattle.hm_service_candidates.specs.declared.edited.EditedText.{EditedText}
use Rattle.hm_service_messages.specs.declared.diagnostic.Edit.{Edit}
use Rattle.hm_service_offers.specs.Changed.{IsChangedSet}
use Rattle.hm_service_offers.specs.Judged.{IsShown}
use Rattle.hm_service_offers.proofs.Shown.{tried_as}
use Rattle.hm_service_sources.specs.HeldSets.{texts_of}
use Rattle.hm_service_sources.specs.declared.held.HeldSource.{HeldSource}
use Rattle.hm_service_offers.proofs.trying.is_fix.Goals as goal

pub returns-in_default : goal.returns-in_default
returns-in_default g c =
    let text = c.held_text-text.result.now in
    let edits = c.as_slice.result.now in
    let none : HasNoEdited text edits = subst (λ (o : Option EditedText). IfNone o (HasNoEdited text edits)) c.in_default.is c.in_ok-made.ensures.none in
    inl (inl (subst (λ (l : List ℕ). HasNoEdited l c.args.candidate.now.change.now.edits.items) c.held_text-text.ensures (subst (λ (l : List Edit). HasNoEdited text l) c.as_slice.ensures.value none)))

pub returns : goal.returns
returns g c =
    let set = c.args.set.now in
    let n = c.args.source in
    let text = c.held_text-text.result.now in
    let edits = c.args.candidate.now.change.now.edits.items in
    let made = c.in-Some.made in
    let held = c.in_ok-held.held.items in
    let checked = c.in_ok-checked.checked in
    let change = c.change_for-change.result in
    let first : IsEditedText text c.as_slice.result.now made = subst (λ (o : Option EditedText). IfSome o (λ e. IsEditedText text c.as_slice.result.now e)) c.in-Some.is c.in_ok-made.ensures.some in
    let second : IsEditedText text edits made = subst (λ (l : List Edit). IsEditedText text l made) c.as_slice.ensures.value first in
    tried_as set n (tried_of c.args.candidate.now) c.in_ok-is_shown.field-0
    (record {
      made = made;
      edited = subst (λ (l : List ℕ). IsEditedText l edits made) c.held_text-text.ensures second;
      held = held;
      changed = subst (λ (l : List ℕ). IsChangedSet set.held.now n l held) c.as_slice-2.ensures.value c.in_ok-held.ensures;
      check = checked;
      checked = subst (λ (l : List HeldSource). IsHeldCheck set.workers l checked) c.as_slice-3.ensures.value c.in_ok-checked.ensures.ok;
      change = change;
      change_is = c.change_for-change.ensures;
      shown = subst (λ (l : List HeldSource). IsShown set l checked change c.in_ok-is_shown.field-0) c.as_slice-4.ensures.value c.in_ok-is_shown.ensures;
    })
