-- In a settled set a module has no uses exactly if it is skipped.
use Rattle.std.proofs.Common.{◌≡◌, ℕ, ◌<◌, cond, List, [], ◌∷◌, length, Option, Some, None, inl, inr, refl, sym, ap, subst, ◌∙◌}
use lib.Dec.{ltb}
use Rattle.std.proofs.lemmas.Bool.{cases_Bool, lt-ltb, ltb-true}
use Rattle.hm_names.specs.Imports.{AreImportsOf}
use Rattle.hm_types.specs.Interfaces.{Exports as Interface}
use Rattle.hm_typing.specs.Names.{IsOneOf}
use Rattle.hm_verdicts.proofs.AskedInterfaces.{asked_for}
use Rattle.hm_verdicts.proofs.Entries.{published_at}
use Rattle.hm_verdicts.proofs.ImportOrder.{import_in}
use Rattle.hm_verdicts.specs.Progress.{ArePublishedIn, IsLost, IsSettledIn, IsSettledSoFar, Progress}
use Rattle.hm_verdicts.specs.Sets.{IsLawfulSet, ModuleSet, imports_of, module_at}
use Rattle.hm_verdicts.specs.Verdicts.{ArePublished, Failed, IsSettled, IsSettledAt, Published, Skipped, Status}
use Rattle.hm_build_places.specs.Laws.{SkippedHaveNoUses}

status_or : Status → Option Status → Status
status_or d None = d
status_or d (Some s) = s

lost : (s : Status) → ((f : Interface) → ¬ (s ≡ Published f)) → IsLost (Some s)
lost (Published f) none = absurd (none f refl)
lost (Failed found) none = tt
lost Skipped none = tt

module _ (p : ModuleSet) (law : IsLawfulSet p) (status : ℕ → Status) (settled : IsSettled p status) where
  -- all modules of the set are settled
  now : Progress
  now i = cond (ltb i (length p.modules)) (Some (status i)) None

  now_at : (i : ℕ) → i < length p.modules → now i ≡ Some (status i)
  unfolding now
  now_at i l = ap (λ b. cond b (Some (status i)) None) (lt-ltb i (length p.modules) l)

  published_now : (js : List ℕ) (fs : List Interface) → ((j : ℕ) → IsOneOf j js → j < length p.modules) → ArePublished status js fs → ArePublishedIn now js fs
  published_now [] [] b h = tt
  published_now [] (f ∷ fs) b h = absurd h
  published_now (j ∷ js) [] b h = absurd h
  published_now (j ∷ js) (f ∷ fs) b h = (now_at j (b j (inl refl)) ∙ ap Some h.0, published_now js fs (λ k o. b k (inr o)) h.1)

  imports_now : (i : ℕ) → i < length p.modules → (fs : List Interface) → ArePublished status (imports_of p i) fs → ArePublishedIn now (imports_of p i) fs
  imports_now i l fs h = published_now (imports_of p i) fs (λ j o. import_in p law i j l o) h

  settled_in : (i : ℕ) → i < length p.modules → (s : Status) → IsSettledAt p status i s → IsSettledIn p now i s
  settled_in i l (Published f) h = record { interfaces = h.interfaces; published = imports_now i l h.interfaces h.published; verdict = h.verdict }
  settled_in i l (Failed found) h = record { interfaces = h.interfaces; published = imports_now i l h.interfaces h.published; verdict = h.verdict }
  settled_in i l Skipped h = (h.0, (h.1.0, subst IsLost (sym (now_at h.0 (import_in p law i h.0 l h.1.0))) (lost (status h.0) h.1.1)))

  so_far : IsSettledSoFar p now
  unfolding now status_or
  so_far i s e = elim (cases_Bool (ltb i (length p.modules))) [
    | inl within ↦
        let l = ltb-true i (length p.modules) within in
        let same : status i ≡ s = ap (status_or s) (sym (now_at i l) ∙ e) in
        settled_in i l s (subst (IsSettledAt p status i) same (settled i l))
    | inr past ↦ let z : None ≡ Some s = sym (ap (λ b. cond b (Some (status i)) None) past) ∙ e in absurd (cc)
  ]

  -- the published interfaces of a module's imports are those that it imports
  imported : (i : ℕ) → i < length p.modules → (fs : List Interface) → ArePublished status (imports_of p i) fs → AreImportsOf (module_at p i) fs
  imported i l fs h = asked_for p law now so_far i l fs (imports_now i l fs h)

  skipped : (i : ℕ) → i < length p.modules → ((fs : List Interface) → ArePublished status (imports_of p i) fs → ¬ (AreImportsOf (module_at p i) fs)) → (s : Status) → status i ≡ s → IsSettledAt p status i s → status i ≡ Skipped
  skipped i l none (Published f) e h = absurd (none h.interfaces h.published (imported i l h.interfaces h.published))
  skipped i l none (Failed found) e h = absurd (none h.interfaces h.published (imported i l h.interfaces h.published))
  skipped i l none Skipped e h = e

  without : (i : ℕ) → i < length p.modules → status i ≡ Skipped → (fs : List Interface) → ¬ (ArePublished status (imports_of p i) fs)
  without i l e fs h =
      let at : IsSettledAt p status i Skipped = subst (IsSettledAt p status i) e (settled i l) in
      let one = published_at status (imports_of p i) fs h at.0 at.1.0 in
      at.1.1 one.0 one.1.0

pub skipped_have_no_uses : SkippedHaveNoUses
skipped_have_no_uses k law settled i l = (
  (λ none. skipped k.set law k.status settled i l none (k.status i) refl (settled i l)),
  (λ e fs h are. without k.set law k.status settled i l e fs h),
)
