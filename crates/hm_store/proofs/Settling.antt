-- A build whose modules are all settled, in the words of the verdicts of sets.
use Rattle.std.proofs.Common.{◌≡◌, ℕ, ◌<◌, Bool, true, false, List, [], ◌∷◌, length, map, Option, Some, None, refl, sym, ap, subst, ◌∙◌}
use Rattle.std.proofs.lemmas.Bool.{false≢true}
use Rattle.std.proofs.lemmas.Option.{get_or_from_slice_get}
use Rattle.hm_types.specs.Interfaces.{Exports as Interface}
use Rattle.hm_types.specs.StandardPrelude.{prelude_interface}
use Rattle.hm_verdicts.specs.ModuleVerdicts.{Verdict, Good, Faulty, IsVerdict}
use Rattle.hm_verdicts.specs.Sets.{module_at, imports_of, no_module}
use Rattle.hm_verdicts.specs.Verdicts as verdicts
use Rattle.hm_verdicts.proofs.Lists.{one_of_contained}
use Rattle.hm_verdicts.specs.Outcomes.{Checked}
use Rattle.hm_store.specs.Objects.{status_at, is_settled}
use Rattle.hm_store.specs.Builds.{Build, IsLegal, IsAllSettled, AgreesWith, set_of, state_of, kept_at, interface_of, interface_in, interface_at}
use Rattle.hm_store.specs.Settlements.{settlement, settlement_by, settlement_with, SettledBuildIsSettled}
use Rattle.hm_store.specs.declared.object.Status.{Status}
use Rattle.hm_store.specs.declared.object.Status.TheVariants.{Waiting, Claimed, Published, Failed, Skipped}
use Rattle.hm_store.proofs.Following.{is_lost}
use Rattle.hm_store.proofs.Finishing.{build_follows, statuses_length}

is_published_one : verdicts.Status → Bool
is_published_one (verdicts.Published f) = true
is_published_one (verdicts.Failed found) = false
is_published_one verdicts.Skipped = false

interface_or : Interface → Option Interface → Interface
interface_or d None = d
interface_or d (Some f) = f

same_interface : (f g : Interface) → Some f ≡ Some g → f ≡ g
unfolding interface_or
same_interface f g e = ap (interface_or f) e

settled_with_interface : (v : Verdict) (f : Interface) → interface_of v ≡ Some f → settlement_by v ≡ verdicts.Published f
settled_with_interface (Good g) f e = ap (λ x. verdicts.Published x) (same_interface g f e)
settled_with_interface (Faulty found) f e = absurd (cc)

published_with_interface : (o : Option Checked) (f : Interface) → interface_in o ≡ Some f → settlement_with o ≡ verdicts.Published f
published_with_interface (Some c) f e = settled_with_interface c.verdict f e
published_with_interface None f e = absurd (cc)

module _ (b : Build) (h : IsLegal b) (all : IsAllSettled b) where
  published_imports : (js : List ℕ) (fs : List Interface) → map (λ f. Some f) fs ≡ map (interface_at b.kept) js → verdicts.ArePublished (settlement b) js fs
  published_imports [] [] e = tt
  published_imports [] (f ∷ fs) e = absurd (cc)
  published_imports (j ∷ js) [] e = absurd (cc)
  published_imports (j ∷ js) (f ∷ fs) e =
      let here : Some f ≡ interface_at b.kept j = cc in
      let rest : map (λ g. Some g) fs ≡ map (interface_at b.kept) js = cc in
      (published_with_interface (kept_at b.kept j) f (sym here), published_imports js fs rest)

  judged : (i : ℕ) (c : Checked) (v : Verdict) → kept_at b.kept i ≡ Some c → c.verdict ≡ v → verdicts.IsJudged (set_of b) (settlement b) i v
  judged i c v kept is = let s = h.sound i c kept in
      let m : module_at (set_of b) i ≡ c.«module» = get_or_from_slice_get b.modules i c.«module» no_module s.0.subject in
      record {
        interfaces = c.imports;
        published = published_imports (imports_of (set_of b) i) c.imports s.0.imports;
        verdict = subst (λ x. IsVerdict x (prelude_interface ∷ c.imports) v) (sym m) (subst (λ x. IsVerdict c.«module» (prelude_interface ∷ c.imports) x) is s.1);
      }

  settlement_at : (i : ℕ) (c : Checked) (v : Verdict) → kept_at b.kept i ≡ Some c → c.verdict ≡ v → settlement b i ≡ settlement_by v
  settlement_at i c v kept is = ap settlement_with kept ∙ ap settlement_by is

  -- a module that failed or was skipped isn't published
  not_published : (k : ℕ) → (s : Status) → is_lost s ≡ true → AgreesWith s (kept_at b.kept k) → (f : Interface) → ¬ (settlement b k ≡ verdicts.Published f)
  unfolding is_published_one
  not_published k Waiting l a f e = absurd (false≢true l)
  not_published k (Claimed w) l a f e = absurd (false≢true l)
  not_published k Published l a f e = absurd (false≢true l)
  not_published k Failed l a f e = let r = a.2 in false≢true (ap is_published_one (sym (settlement_at k a.0 (Faulty r.0) a.1 r.1) ∙ e))
  not_published k Skipped l a f e = false≢true (ap is_published_one (sym (ap settlement_with a) ∙ e))

  settled_at : (i : ℕ) → i < length b.modules → (s : Status) → status_at (state_of b).statuses i ≡ s → AgreesWith s (kept_at b.kept i) → verdicts.IsSettledAt (set_of b) (settlement b) i (settlement b i)
  settled_at i lt Waiting e a = absurd (false≢true (ap is_settled (sym e) ∙ all i lt))
  settled_at i lt (Claimed w) e a = absurd (false≢true (ap is_settled (sym e) ∙ all i lt))
  settled_at i lt Published e a = let r = a.2 in
      subst (verdicts.IsSettledAt (set_of b) (settlement b) i) (sym (settlement_at i a.0 (Good r.0) a.1 r.1)) (judged i a.0 (Good r.0) a.1 r.1)
  settled_at i lt Failed e a = let r = a.2 in
      subst (verdicts.IsSettledAt (set_of b) (settlement b) i) (sym (settlement_at i a.0 (Faulty r.0) a.1 r.1)) (judged i a.0 (Faulty r.0) a.1 r.1)
  settled_at i lt Skipped e a = let l = (build_follows b h).lost i (subst (λ n. i < n) (sym (statuses_length b h)) lt) e in
      let skipped : verdicts.IsSettledAt (set_of b) (settlement b) i verdicts.Skipped =
      (l.0, (one_of_contained (imports_of (set_of b) i) l.0 l.1.0, not_published l.0 (status_at (state_of b).statuses l.0) l.1.1 (h.agrees l.0))) in
      subst (verdicts.IsSettledAt (set_of b) (settlement b) i) (sym (ap settlement_with a)) skipped

pub settled_build : SettledBuildIsSettled
settled_build b h all i lt = settled_at b h all i lt (status_at (state_of b).statuses i) refl (h.agrees i)
