-- Steps of a set that is being judged, and its end.
use Rattle.std.proofs.Common.{◌≡◌, ℕ, ◌<◌, List, [], ◌∷◌, length, Option, None, Some, inl, inr, refl, sym, ap, ◌∙◌, subst}
use Rattle.hm_types.specs.Interfaces.{Exports as Interface}
use Rattle.hm_typing.specs.Names.{IsOneOf}
use Rattle.hm_verdicts.specs.Progress.{Progress, ArePublishedIn, IsLost, IsSettledIn, IsSettledSoFar, Continues}
use Rattle.hm_verdicts.specs.Sets.{ModuleSet, imports_of, IsLawfulSet}
use Rattle.hm_verdicts.specs.Verdicts.{Status, Published, Failed, Skipped, ArePublished, IsSettledAt, IsSettled}
use Rattle.hm_verdicts.proofs.ImportOrder.{import_in}

status_or : Status → Option Status → Status
status_or d None = d
status_or d (Some s) = s

some_once : (s t : Status) → Some s ≡ Some t → s ≡ t
unfolding status_or
some_once s t e = ap (status_or s) e

still_published : (old new : Progress) → Continues old new → (js : List ℕ) (fs : List Interface) → ArePublishedIn old js fs → ArePublishedIn new js fs
still_published old new c [] [] h = tt
still_published old new c [] (f ∷ fs) h = absurd h
still_published old new c (j ∷ js) [] h = absurd h
still_published old new c (j ∷ js) (f ∷ fs) h = (c j (Published f) h.0, still_published old new c js fs h.1)

lost_as : (now : Option Status) → IsLost now → (s : Status) × ((now ≡ Some s) × IsLost (Some s))
lost_as None h = absurd h
lost_as (Some (Published f)) h = absurd h
lost_as (Some (Failed found)) h = (Failed found, (refl, tt))
lost_as (Some Skipped) h = (Skipped, (refl, tt))

still_lost : (old new : Progress) → Continues old new → (j : ℕ) → IsLost (old j) → IsLost (new j)
still_lost old new c j h = let q = lost_as (old j) h in subst IsLost (sym (c j q.0 q.1.0)) q.1.1

pub still_settled : (p : ModuleSet) (old new : Progress) → Continues old new → (i : ℕ) (s : Status) → IsSettledIn p old i s → IsSettledIn p new i s
still_settled p old new c i (Published f) h = record { interfaces = h.interfaces; published = still_published old new c (imports_of p i) h.interfaces h.published; verdict = h.verdict }
still_settled p old new c i (Failed found) h = record { interfaces = h.interfaces; published = still_published old new c (imports_of p i) h.interfaces h.published; verdict = h.verdict }
still_settled p old new c i Skipped h = (h.0, (h.1.0, still_lost old new c h.0 h.1.1))

pub one_step : (p : ModuleSet) (old new : Progress) → IsSettledSoFar p old → Continues old new → ((i : ℕ) (s : Status) → old i ≡ None → new i ≡ Some s → IsSettledIn p new i s) → IsSettledSoFar p new
one_step p old new h c added i s e = at (old i) refl
  where
    at : (o : Option Status) → old i ≡ o → IsSettledIn p new i s
    at None q = added i s q e
    at (Some t) q = subst (λ z. IsSettledIn p new i z) (some_once t s (sym (c i t q) ∙ e)) (still_settled p old new c i t (h i t q))

module _ (p : ModuleSet) (law : IsLawfulSet p) (now : Progress) (status : ℕ → Status) (all : (i : ℕ) → i < length p.modules → now i ≡ Some (status i)) where
  published_end : (js : List ℕ) (fs : List Interface) → ((j : ℕ) → IsOneOf j js → j < length p.modules) → ArePublishedIn now js fs → ArePublished status js fs
  published_end [] [] b h = tt
  published_end [] (f ∷ fs) b h = absurd h
  published_end (j ∷ js) [] b h = absurd h
  published_end (j ∷ js) (f ∷ fs) b h = (some_once (status j) (Published f) (sym (all j (b j (inl refl))) ∙ h.0), published_end js fs (λ k o. b k (inr o)) h.1)

  settled_end : (i : ℕ) → i < length p.modules → (s : Status) → IsSettledIn p now i s → IsSettledAt p status i s
  settled_end i l (Published f) h = record { interfaces = h.interfaces; published = published_end (imports_of p i) h.interfaces (λ j o. import_in p law i j l o) h.published; verdict = h.verdict }
  settled_end i l (Failed found) h = record { interfaces = h.interfaces; published = published_end (imports_of p i) h.interfaces (λ j o. import_in p law i j l o) h.published; verdict = h.verdict }
  settled_end i l Skipped h = (h.0, (h.1.0, λ f e. subst IsLost (all h.0 (import_in p law i h.0 l h.1.0) ∙ ap Some e) h.1.1))

  pub settled_at_end : IsSettledSoFar p now → IsSettled p status
  settled_at_end h i l = settled_end i l (status i) (h i (status i) (all i l))
