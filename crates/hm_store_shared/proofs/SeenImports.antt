-- The interfaces that a lawful list has of a module's imports.
use Rattle.std.proofs.Common.{◌≡◌, ◌==◌, ℕ, zero, suc, Bool, true, false, cond, List, [], ◌∷◌, map, take, Option, Some, None, slice_get, slice_index_or, refl, ap, sym, subst, arith}
use Rattle.std.specs.Option.{option_map}
use Rattle.std.proofs.lemmas.Bool.Decides.{nat_tests}
use Rattle.std.proofs.lemmas.Option.{get_or_from_slice_get}
use Rattle.hm_types.specs.Interfaces.{Exports as Interface}
use Rattle.hm_types.specs.StandardPrelude.{prelude_interface}
use Rattle.hm_syntax.specs.declared.ast.Module.{Module}
use Rattle.hm_verdicts.specs.ModuleVerdicts.{Good, Faulty, Verdict, IsVerdict}
use Rattle.hm_verdicts.specs.Laws.{PublishedAreAskedFor}
use Rattle.hm_verdicts.specs.Progress.{Progress, ArePublishedIn, IsJudgedIn, IsSettledIn, IsSettledSoFar}
use Rattle.hm_verdicts.specs.Sets.{ModuleSet, module_at, imports_of, no_module}
use Rattle.hm_verdicts.specs.Verdicts as verdicts
use Rattle.hm_store_published.specs.declared.publication.Publication.{Publication}
use Rattle.hm_store_published.specs.Publications.{IsLawful, MayFollow, interface_in, interface_of, published_interface}
use Rattle.hm_store_shared.specs.Laws.{SeenAreAskedFor}
use Rattle.hm_store_shared.proofs.Listing.{found_behind}

-- where an interface of a module is found there is a publication of it
pub record Stands (ps : List Publication) (m : ℕ) (f : Interface) : Type 0 where
  pub place : ℕ
  pub is : Publication
  pub there : slice_get ps place ≡ Some is
  pub number : is.number ≡ m
  pub interface : published_interface is ≡ Some f

stands : (ps : List Publication) (m : ℕ) (f : Interface) → interface_in ps m ≡ Some f → Stands ps m f
stands [] m f found = absurd (cc found)
stands (p ∷ ps) m f found = by (λ e. stands ps m f e) (p.number == m) refl
  where
    by : (interface_in ps m ≡ Some f → Stands ps m f) → (b : Bool) → (p.number == m) ≡ b → Stands (p ∷ ps) m f
    by later true e = record {
      place = 0;
      is = p;
      there = refl;
      number = grind (arith, nat_tests);
      interface = subst (λ (x : Bool). cond x (published_interface p) (interface_in ps m) ≡ Some f) e found;
    }
    by later false e =
        let rest = later (subst (λ (x : Bool). cond x (published_interface p) (interface_in ps m) ≡ Some f) e found) in
        record { place = suc rest.place; is = rest.is; there = rest.there; number = rest.number; interface = rest.interface }

-- what is found in a beginning is found in the list
found_in_all : (k : ℕ) (ps : List Publication) (m : ℕ) (f : Interface) → interface_in (take k ps) m ≡ Some f → interface_in ps m ≡ Some f
found_in_all zero ps m f e = absurd (cc e)
found_in_all (suc k) [] m f e = absurd (cc e)
found_in_all (suc k) (p ∷ ps) m f e = found_behind f (p.number == m) (published_interface p) (interface_in (take k ps) m) (interface_in ps m) (λ h. found_in_all k ps m f h) e

-- what is settled where just these are published
abbrev so_far : List Publication → Progress
so_far ps i = option_map (λ f. verdicts.Published f) (interface_in ps i)

all_published : (before ps : List Publication) → ((m : ℕ) (f : Interface) → interface_in before m ≡ Some f → interface_in ps m ≡ Some f) → (ks : List ℕ) (fs : List Interface) → map (λ f. Some f) fs ≡ map (interface_in before) ks
    → ArePublishedIn (so_far ps) ks fs
all_published before ps more [] [] e = tt
all_published before ps more [] (f ∷ fs) e = absurd (cc e)
all_published before ps more (k ∷ ks) [] e = absurd (cc e)
all_published before ps more (k ∷ ks) (f ∷ fs) e =
    let here : interface_in before k ≡ Some f = cc e in
    let rest : map (λ g. Some g) fs ≡ map (interface_in before) ks = cc e in
    (ap (option_map (λ g. verdicts.Published g)) (more k f here), all_published before ps more ks fs rest)

module _ (modules : List Module) (plan : List (List ℕ)) (ps : List Publication) (lawful : IsLawful modules plan ps) where
  abbrev set : ModuleSet
  set = record { modules = modules; plan = plan }

  good_verdict : (v : Verdict) (f : Interface) → interface_of v ≡ Some f → v ≡ Good f
  good_verdict (Good g) f e = let same : g ≡ f = cc e in ap (λ x. Good x) same
  good_verdict (Faulty found) f e = absurd (cc e)

  judged : (i : ℕ) (f : Interface) → interface_in ps i ≡ Some f → IsJudgedIn set (so_far ps) i (Good f)
  judged i f found =
      let s = stands ps i f found in
      let may : MayFollow modules plan (take s.place ps) s.is = lawful.each s.place s.is s.there in
      let subject : slice_get modules i ≡ Some s.is.outcome.«module» = subst (λ n. slice_get modules n ≡ Some s.is.outcome.«module») s.number may.subject in
      let here : module_at set i ≡ s.is.outcome.«module» = get_or_from_slice_get modules i s.is.outcome.«module» no_module subject in
      let imports : map (λ g. Some g) s.is.outcome.imports ≡ map (interface_in (take s.place ps)) (imports_of set i) = subst (λ n. map (λ g. Some g) s.is.outcome.imports ≡ map (interface_in (take s.place ps)) (slice_index_or plan n [])) s.number may.imports in
      let verdict : s.is.outcome.verdict ≡ Good f = good_verdict s.is.outcome.verdict f s.interface in
      record {
        interfaces = s.is.outcome.imports;
        published = all_published (take s.place ps) ps (λ m g e. found_in_all s.place ps m g e) (imports_of set i) s.is.outcome.imports imports;
        verdict = subst (λ x. IsVerdict x (prelude_interface ∷ s.is.outcome.imports) (Good f)) (sym here) (subst (λ v. IsVerdict s.is.outcome.«module» (prelude_interface ∷ s.is.outcome.imports) v) verdict may.right);
      }

  settled_by : (i : ℕ) (o : Option Interface) → interface_in ps i ≡ o → (s : verdicts.Status) → option_map (λ f. verdicts.Published f) o ≡ Some s → IsSettledIn set (so_far ps) i s
  settled_by i None none s e = absurd (cc e)
  settled_by i (Some f) found s e = let same : verdicts.Published f ≡ s = cc e in subst (IsSettledIn set (so_far ps) i) same (judged i f found)

  settled : IsSettledSoFar set (so_far ps)
  settled i s e = settled_by i (interface_in ps i) refl s e

pub seen_are_asked_for : PublishedAreAskedFor → SeenAreAskedFor
seen_are_asked_for law modules plan ps m fs set lawful lt imports =
    law (record { modules = modules; plan = plan }) (so_far ps) m fs set (settled modules plan ps lawful) lt (all_published ps ps (λ k f e. e) (slice_index_or plan m []) fs imports)
