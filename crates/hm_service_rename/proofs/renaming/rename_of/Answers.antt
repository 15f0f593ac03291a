use Rattle.std.proofs.Common.{◌≡◌, ◌∙◌, List, Vec, Global, ℕ, ap, map, subst}
use Rattle.hm_service_rename.proofs.Refusing.{refused_after, refused_before}
use Rattle.hm_service_rename.specs.Made.{AreReferencesTo, IsMade}
use Rattle.hm_service_rename.specs.Renames.{IsAccepted}
use Rattle.hm_service_rename.specs.Sets.{IsWhole}
use Rattle.hm_service_rename.specs.declared.renaming.Made.{Made}
use Rattle.hm_service_rename.specs.declared.renaming.Made.TheVariants.{Held}
use Rattle.hm_service_rename.specs.declared.renaming.Made.TheVariants as made_as
use Rattle.hm_service_rename.specs.declared.results.Renamed.{Renamed}
use Rattle.hm_service_rename.specs.declared.results.Renamed.TheVariants.{Edits, Refused}
use Rattle.hm_service_sources.specs.HeldSets.{texts_of}
use Rattle.hm_service_sources.specs.declared.held.HeldSource.{HeldSource}
use Rattle.hm_uses_references.specs.declared.finding.Reference.{Reference}
use Rattle.hm_service_rename.proofs.renaming.rename_of.Goals as goal

pub returns-then-not-is_whole : goal.returns-then-not-is_whole
returns-then-not-is_whole g c =
    let items : List (Vec ℕ Global) → List (List ℕ) = λ xs. map (λ (s : Vec ℕ Global). s.items) xs in
    let same : items c.as_slice.result.now ≡ texts_of c.args.set.now.held.now = ap items c.as_slice.ensures.value ∙ c.in_ok-texts.ensures in
    subst (λ (l : List (List ℕ)). ¬ (IsWhole l c.args.set.now.checked.now)) same (c.is_whole.ensures.no c.if-not-is_whole.true)

pub returns-in-Refused : goal.returns-in-Refused
returns-in-Refused g c =
    let set = c.args.set.now in
    let r = c.args.rename.now in
    let items : List (Vec ℕ Global) → List (List ℕ) = λ xs. map (λ (s : Vec ℕ Global). s.items) xs in
    let same : items c.as_slice.result.now ≡ texts_of set.held.now = ap items c.as_slice.ensures.value ∙ c.in_ok-texts.ensures in
    let whole : IsWhole (texts_of set.held.now) set.checked.now = subst (λ (l : List (List ℕ)). IsWhole l set.checked.now) same (c.is_whole.ensures.yes c.if-not-is_whole.false) in
    refused_before set r c.in-Refused.refusal whole (subst (λ (x : Renamed). AreReferencesTo set.checked.now r x) c.in-Refused.is c.in_ok-references.ensures)

pub returns-in-Refused-made : goal.returns-in-Refused-made
returns-in-Refused-made g c =
    let set = c.args.set.now in
    let r = c.args.rename.now in
    let references = c.in-Edits.references in
    let items : List (Vec ℕ Global) → List (List ℕ) = λ xs. map (λ (s : Vec ℕ Global). s.items) xs in
    let again : items c.as_slice-2.result.now ≡ texts_of set.held.now = ap items c.as_slice-2.ensures.value ∙ c.in_ok-texts.ensures in
    let found : AreReferencesTo set.checked.now r (Edits references) = subst (λ (x : Renamed). AreReferencesTo set.checked.now r x) c.in-Edits.is c.in_ok-references.ensures in
    let first : IsMade (items c.as_slice-2.result.now) r.name.now c.as_slice-3.result.now (made_as.Refused c.in-Refused-made.refusal) = subst (λ (x : Made). IsMade (items c.as_slice-2.result.now) r.name.now c.as_slice-3.result.now x) c.in-Refused-made.is c.in_ok-made.ensures in
    refused_after set r references.items c.in-Refused-made.refusal found.0
    (subst (λ (l : List (List ℕ)). IsMade l r.name.now references.items (made_as.Refused c.in-Refused-made.refusal)) again
    (subst (λ (l : List Reference). IsMade (items c.as_slice-2.result.now) r.name.now l (made_as.Refused c.in-Refused-made.refusal)) c.as_slice-3.ensures.value first))

pub returns : goal.returns
returns g c =
    let set = c.args.set.now in
    let r = c.args.rename.now in
    let references = c.in-Edits.references in
    let held = c.in-Held.held in
    let items : List (Vec ℕ Global) → List (List ℕ) = λ xs. map (λ (s : Vec ℕ Global). s.items) xs in
    let same : items c.as_slice.result.now ≡ texts_of set.held.now = ap items c.as_slice.ensures.value ∙ c.in_ok-texts.ensures in
    let again : items c.as_slice-2.result.now ≡ texts_of set.held.now = ap items c.as_slice-2.ensures.value ∙ c.in_ok-texts.ensures in
    let found : AreReferencesTo set.checked.now r (Edits references) = subst (λ (x : Renamed). AreReferencesTo set.checked.now r x) c.in-Edits.is c.in_ok-references.ensures in
    let first : IsMade (items c.as_slice-2.result.now) r.name.now c.as_slice-3.result.now (Held held) = subst (λ (x : Made). IsMade (items c.as_slice-2.result.now) r.name.now c.as_slice-3.result.now x) c.in-Held.is c.in_ok-made.ensures in
    let made : IsMade (texts_of set.held.now) r.name.now references.items (Held held) =
    subst (λ (l : List (List ℕ)). IsMade l r.name.now references.items (Held held)) again (subst (λ (l : List Reference). IsMade (items c.as_slice-2.result.now) r.name.now l (Held held)) c.as_slice-3.ensures.value first) in
    record {
      whole = subst (λ (l : List (List ℕ)). IsWhole l set.checked.now) same (c.is_whole.ensures.yes c.if-not-is_whole.false);
      referring = found.0;
      bound = found.1;
      texts = made.0;
      replaced = made.1.0;
      held = held.items;
      held_as = made.1.1;
      accepted = subst (λ (l : List HeldSource). IsAccepted set l r) c.as_slice-4.ensures.value (c.in_ok-is_accepted.ensures c.if-not-branch.false);
    }
