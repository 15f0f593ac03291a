-- The list of the publications of a build, and its next one.
use Rattle.std.proofs.Common.{◌≡◌, ◌≢◌, ◌==◌, ℕ, zero, suc, ◌+◌, ◌<◌, Bool, true, false, cond, ◌⊎◌, inl, inr, ⊎_elim, replicate, List, [], ◌∷◌, ◌++◌, length, map, get_or, set, Option, Some, None, Result, Ok, Err, slice_get, slice_index_or, refl, sym, ap, ap₂, subst, ◌∙◌, arith, length-append}
use Rattle.std.specs.Prelude.{All, Contains}
use Rattle.std.specs.Option.{option_map}
use Rattle.std.proofs.lemmas.Bool.Decides.{nat_tests}
use Rattle.std.proofs.lemmas.Bool.{cases_eq}
use Rattle.std.proofs.lemmas.List.{append-nil, get_or-set_same, get_or-set_other, map-append}
use Rattle.std.proofs.lemmas.List.Elements.{All-append, Contains-append_left, Contains-append_right}
use Rattle.std.proofs.lemmas.Option.{get_or_from_slice_get}
use mathlib.Core.List.{IsPrefix}
use Rattle.hm_types.specs.Interfaces.{Exports as Interface}
use Rattle.hm_syntax.specs.declared.ast.Module.{Module}
use Rattle.hm_types.specs.StandardPrelude.{prelude_interface}
use Rattle.hm_names.specs.Imports.{AreImportsOf}
use Rattle.hm_verdicts.specs.ModuleVerdicts.{Verdict, Good, Faulty, IsVerdict}
use Rattle.hm_verdicts.specs.Laws.{PublishedAreAskedFor}
use Rattle.hm_verdicts.specs.Progress.{Progress, ArePublishedIn, IsJudgedIn, IsSettledIn, IsSettledSoFar}
use Rattle.hm_verdicts.specs.Sets.{module_at, imports_of, no_module}
use Rattle.hm_verdicts.specs.Verdicts as verdicts
use Rattle.hm_verdicts.specs.Outcomes.{Checked, IsGood}
use Rattle.hm_store_published.specs.declared.publication.Publication.{Publication}
use Rattle.hm_store_published.specs.Publications.{IsPublishedIn, MayFollow, published_interface, interface_in, interface_of}
use Rattle.hm_store_published.proofs.Showing.{interface_in_more, entries_more}
use Rattle.hm_store.specs.Objects.{status_at, state_after}
use Rattle.hm_store.specs.Builds.{Build, IsLegal, IsOf, Refuses, Settles, AgreesWith, set_of, state_of, kept_at, interface_in as interface_of_kept, interface_at, with_entry, with_kept, after_claim, after_stop}
use Rattle.hm_store.specs.Settlements.{settlement_by}
use Rattle.hm_store_shared.specs.Listings.{FailsIn, IsBuildOf, IsListed, Listing, publications_in}
use Rattle.hm_store.specs.declared.object.Entry.{Entry}
use Rattle.hm_store.specs.declared.object.Entry.TheVariants.{Claim, Publish, Fail, Stop}
use Rattle.hm_store.specs.declared.object.Claimed.{Claimed as Reply}
use Rattle.hm_store.specs.declared.object.Claimed.TheVariants.{Job, Later, Done}
use Rattle.hm_store.specs.declared.object.Refusal.{Refusal}
use Rattle.hm_store.specs.declared.object.Refusal.TheVariants.{NotYours, Stranger, Memory}
use Rattle.hm_store.specs.declared.object.Status.TheVariants.{Waiting, Claimed, Skipped}
use Rattle.hm_store.proofs.Finishing.{statuses_length}
use Rattle.hm_store.proofs.Skipping.{within}

abbrev pub publication : ℕ → ℕ → Checked → Publication
publication m place c = record { number = m; place = place; outcome = c }

good_interface : (v : Verdict) → IsGood v → (f : Interface) × (v ≡ Good f)
good_interface (Good f) g = (f, refl)
good_interface (Faulty found) g = absurd g

-- a module of which nothing is kept isn't in the list
apart : (kept : List (Option Checked)) (m : ℕ) (ps : List Publication) → All (λ p. kept_at kept p.number ≡ Some p.outcome) ps → kept_at kept m ≡ None → ¬ (Contains (map (λ p. p.number) ps) m)
apart kept m [] all none (k, lt, is) = absurd (omega (arith, lt))
apart kept m (p ∷ ps) all none (zero, lt, is) = let one : kept_at kept p.number ≡ Some p.outcome = all 0 p (omega arith) in let other : kept_at kept p.number ≡ None = ap (kept_at kept) is ∙ none in absurd (cc)
apart kept m (p ∷ ps) all none (suc k, lt, is) = apart kept m ps (λ j d l. all (suc j) d (omega (arith, l))) none (k, omega (arith, lt), is)

-- the interfaces in the list are those that are kept
pub same_found : (b : Build) (ps : List Publication) (listed : IsListed b ps) (ks : List ℕ) → map (interface_at b.kept) ks ≡ map (interface_in ps) ks
same_found b ps listed [] = refl
same_found b ps listed (k ∷ ks) = ap₂ (λ x xs. x ∷ xs) (sym (listed.same k)) (same_found b ps listed ks)

-- what is settled so far in a legal build, but for skips: what is kept
module _ (b : Build) (h : IsLegal b) where
  abbrev judged_so_far : Progress
  judged_so_far i = option_map (λ c. settlement_by c.verdict) (kept_at b.kept i)

  published_by : (o : Option Checked) (f : Interface) → interface_of_kept o ≡ Some f → option_map (λ c. settlement_by c.verdict) o ≡ Some (verdicts.Published f)
  published_by None f is = absurd (cc)
  published_by (Some c) f is = by c.verdict is
    where
      by : (v : Verdict) → interface_of v ≡ Some f → Some (settlement_by v) ≡ Some (verdicts.Published f)
      by (Good g) e = let same : g ≡ f = cc in ap (λ x. Some (verdicts.Published x)) same
      by (Faulty found) e = absurd (cc)

  published_imports : (ks : List ℕ) (fs : List Interface) → map (λ f. Some f) fs ≡ map (interface_at b.kept) ks → ArePublishedIn judged_so_far ks fs
  published_imports [] [] e = tt
  published_imports [] (f ∷ fs) e = absurd (cc)
  published_imports (j ∷ js) [] e = absurd (cc)
  published_imports (j ∷ js) (f ∷ fs) e =
      let here : interface_at b.kept j ≡ Some f = cc in
      let rest : map (λ g. Some g) fs ≡ map (interface_at b.kept) js = cc in
      (published_by (kept_at b.kept j) f here, published_imports js fs rest)

  judged : (i : ℕ) (c : Checked) (v : Verdict) → kept_at b.kept i ≡ Some c → c.verdict ≡ v → IsJudgedIn (set_of b) judged_so_far i v
  judged i c v kept is = let s = h.sound i c kept in
      let m : module_at (set_of b) i ≡ c.«module» = get_or_from_slice_get b.modules i c.«module» no_module s.0.subject in
      record {
        interfaces = c.imports;
        published = published_imports (imports_of (set_of b) i) c.imports s.0.imports;
        verdict = subst (λ x. IsVerdict x (prelude_interface ∷ c.imports) v) (sym m) (subst (λ x. IsVerdict c.«module» (prelude_interface ∷ c.imports) x) is s.1);
      }

  settled_by : (i : ℕ) (c : Checked) → kept_at b.kept i ≡ Some c → (v : Verdict) → c.verdict ≡ v → IsSettledIn (set_of b) judged_so_far i (settlement_by v)
  settled_by i c kept (Good f) is = judged i c (Good f) kept is
  settled_by i c kept (Faulty found) is = judged i c (Faulty found) kept is

  settled_with : (i : ℕ) (o : Option Checked) → kept_at b.kept i ≡ o → (s : verdicts.Status) → option_map (λ c. settlement_by c.verdict) o ≡ Some s → IsSettledIn (set_of b) judged_so_far i s
  settled_with i None kept s is = absurd (cc)
  settled_with i (Some c) kept s is = let same : settlement_by c.verdict ≡ s = cc in subst (IsSettledIn (set_of b) judged_so_far i) same (settled_by i c kept c.verdict refl)

  so_far : IsSettledSoFar (set_of b) judged_so_far
  so_far i s is = settled_with i (kept_at b.kept i) refl s is

  -- the interfaces of a module's outcome are those that it asks for
  asked : PublishedAreAskedFor → (m : ℕ) (c : Checked) → m < length b.modules → IsOf b m c → AreImportsOf c.«module» c.imports
  asked law m c lt of =
      let subject : module_at (set_of b) m ≡ c.«module» = get_or_from_slice_get b.modules m c.«module» no_module of.subject in
      subst (λ x. AreImportsOf x c.imports) subject (law (set_of b) judged_so_far m c.imports h.lawful so_far lt (published_imports (imports_of (set_of b) m) c.imports of.imports))

none_kept : (b : Build) (w m : ℕ) → IsLegal b → status_at (state_of b).statuses m ≡ Claimed w → kept_at b.kept m ≡ None
none_kept b w m h claimed = rw claimed at (h.agrees m)

claimed_within : (b : Build) (w m : ℕ) → IsLegal b → status_at (state_of b).statuses m ≡ Claimed w → m < length b.modules
claimed_within b w m h claimed = subst (λ n. m < n) (statuses_length b h) (within (state_of b).statuses m (λ e. let f : Claimed w ≡ Skipped = sym claimed ∙ e in cc))

-- what may be published may follow the publications so far
pub may_follow : (modules : List Module) (plan : List (List ℕ)) (b : Build) (ps : List Publication) (w m : ℕ) (c : Checked) → PublishedAreAskedFor → IsLegal b → IsListed b ps → IsBuildOf modules plan b
    → Refuses b w m c None → IsVerdict c.«module» (prelude_interface ∷ c.imports) c.verdict → IsGood c.verdict → MayFollow modules plan ps (publication m (length b.journal) c)
may_follow modules plan b ps w m c law h listed build accepted right good = record {
  distinct = apart b.kept m ps listed.are.outcomes (none_kept b w m h accepted.0);
  later = listed.within;
  subject = subst (λ ms. slice_get ms m ≡ Some c.«module») build.modules accepted.1.subject;
  imports = accepted.1.imports ∙ (same_found b ps listed (imports_of (set_of b) m) ∙ ap (λ g. map (interface_in ps) (slice_index_or g m [])) build.imports);
  good = good_interface c.verdict good;
  asked = asked b h law m c (claimed_within b w m h accepted.0) accepted.1;
  right = right;
}

-- Each step keeps the list

more_entries : (at : ℕ) (es : List Entry) (e : Entry) → publications_in at (es ++ e ∷ []) ≡ publications_in at es ++ publications_in (at + length es) (e ∷ [])
more_entries at [] e = ap (λ n. publications_in n (e ∷ [])) (omega arith)
more_entries at (Claim w m ∷ es) e = more_entries (suc at) es e ∙ ap (λ n. publications_in (suc at) es ++ publications_in n (e ∷ [])) (omega arith)
more_entries at (Publish w m ∷ es) e = ap (λ xs. (m, at) ∷ xs) (more_entries (suc at) es e ∙ ap (λ n. publications_in (suc at) es ++ publications_in n (e ∷ [])) (omega arith))
more_entries at (Fail w m ∷ es) e = more_entries (suc at) es e ∙ ap (λ n. publications_in (suc at) es ++ publications_in n (e ∷ [])) (omega arith)
more_entries at (Stop w ∷ es) e = more_entries (suc at) es e ∙ ap (λ n. publications_in (suc at) es ++ publications_in n (e ∷ [])) (omega arith)

one_more : (es : List Entry) (e : Entry) → publications_in 0 (es ++ e ∷ []) ≡ publications_in 0 es ++ publications_in (length es) (e ∷ [])
one_more es e = let same : 0 + length es ≡ length es = omega arith in more_entries 0 es e ∙ ap (λ n. publications_in 0 es ++ publications_in n (e ∷ [])) same

abbrev pub IsSilent : Entry → Type 0
IsSilent e = (at : ℕ) → publications_in at (e ∷ []) ≡ []

-- an entry that publishes nothing
pub listed_more : (b : Build) (ps : List Publication) (e : Entry) → IsSilent e → IsListed b ps → IsListed (with_entry b e) ps
listed_more b ps e silent h = record {
  are = record {
    entries = h.are.entries ∙ sym (one_more b.journal e ∙ ap (λ xs. publications_in 0 b.journal ++ xs) (silent (length b.journal)) ∙ append-nil (publications_in 0 b.journal));
    outcomes = h.are.outcomes;
  };
  same = h.same;
  within = let w = h.within in omega (arith, w, length-append b.journal (e ∷ []));
}

still_kept : (kept : List (Option Checked)) (m : ℕ) (c : Checked) → kept_at kept m ≡ None → (ps : List Publication) → All (λ p. kept_at kept p.number ≡ Some p.outcome) ps → All (λ p. kept_at (set kept m (Some c)) p.number ≡ Some p.outcome) ps
still_kept kept m c none ps all k d lt =
    let p = get_or ps k d in
    let one : kept_at kept p.number ≡ Some p.outcome = all k d lt in
    let ne : p.number ≢ m = λ (e : p.number ≡ m). let other : kept_at kept p.number ≡ None = ap (kept_at kept) e ∙ none in cc in
    get_or-set_other kept m p.number (Some c) None ne ∙ one

no_interface : (v : Verdict) → ¬ IsGood v → interface_of v ≡ None
no_interface (Good f) n = absurd (n tt)
no_interface (Faulty found) n = refl

unfound : (kept : List (Option Checked)) (m : ℕ) (c : Checked) → m < length kept → kept_at kept m ≡ None → ¬ IsGood c.verdict → (k : ℕ) → interface_at kept k ≡ interface_at (set kept m (Some c)) k
unfound kept m c lt none faulty k = ⊎_elim
    (λ (e : k ≡ m). ap (interface_at kept) e ∙ (ap interface_of_kept none ∙ sym (ap (interface_at (set kept m (Some c))) e ∙ (ap interface_of_kept (get_or-set_same kept m (Some c) None lt) ∙ no_interface c.verdict faulty))))
    (λ (ne : k ≢ m). ap interface_of_kept (sym (get_or-set_other kept m k (Some c) None ne)))
    (cases_eq k m)

kept_within : (b : Build) (w m : ℕ) → IsLegal b → status_at (state_of b).statuses m ≡ Claimed w → m < length b.kept
kept_within b w m h claimed = subst (λ n. m < n) (sym h.count) (claimed_within b w m h claimed)

-- a failure
pub listed_fail : (b : Build) (ps : List Publication) (w m : ℕ) (c : Checked) → IsLegal b → status_at (state_of b).statuses m ≡ Claimed w → ¬ IsGood c.verdict → IsListed b ps → IsListed (with_kept b m c (Fail w m)) ps
listed_fail b ps w m c legal claimed faulty h =
    let none = none_kept b w m legal claimed in
    let more = listed_more b ps (Fail w m) (λ at. refl) h in
    record {
      are = record { entries = more.are.entries; outcomes = still_kept b.kept m c none ps h.are.outcomes };
      same = λ k. h.same k ∙ unfound b.kept m c (kept_within b w m legal claimed) none faulty k;
      within = more.within;
    }

newly : (kept : List (Option Checked)) (m k : ℕ) (c : Checked) (x : Option Interface) → m < length kept → x ≡ interface_at kept k → (b : Bool) → (m == k) ≡ b
    → cond b (interface_of c.verdict) x ≡ interface_at (set kept m (Some c)) k
newly kept m k c x lt is true e = let same : k ≡ m = grind (arith, nat_tests) in sym (ap (interface_at (set kept m (Some c))) same ∙ ap interface_of_kept (get_or-set_same kept m (Some c) None lt))
newly kept m k c x lt is false e = let ne : k ≢ m = grind (arith, nat_tests) in is ∙ ap interface_of_kept (sym (get_or-set_other kept m k (Some c) None ne))

one_of_one : (P : Publication → Type 0) (p : Publication) → P p → All P (p ∷ [])
one_of_one P p h zero d lt = h
one_of_one P p h (suc k) d lt = absurd (omega (arith, lt))

-- a publication
pub listed_publish : (b : Build) (ps : List Publication) (w m : ℕ) (c : Checked) → IsLegal b → status_at (state_of b).statuses m ≡ Claimed w → IsListed b ps
    → IsListed (with_kept b m c (Publish w m)) (ps ++ publication m (length b.journal) c ∷ [])
listed_publish b ps w m c legal claimed h =
    let p = publication m (length b.journal) c in
    let none = none_kept b w m legal claimed in
    let lt = kept_within b w m legal claimed in
    let fresh = apart b.kept m ps h.are.outcomes none in
    record {
      are = record {
        entries = map-append (λ q. (q.number, q.place)) ps (p ∷ []) ∙ (ap (λ xs. xs ++ (m, length b.journal) ∷ []) h.are.entries ∙ sym (one_more b.journal (Publish w m)));
        outcomes = All-append (λ q. kept_at (set b.kept m (Some c)) q.number ≡ Some q.outcome) ps (p ∷ []) (still_kept b.kept m c none ps h.are.outcomes)
            (one_of_one (λ q. kept_at (set b.kept m (Some c)) q.number ≡ Some q.outcome) p (get_or-set_same b.kept m (Some c) None lt));
      };
      same = λ k. interface_in_more ps p k fresh ∙ newly b.kept m k c (interface_in ps k) lt (h.same k) (m == k) refl;
      within = omega (arith, entries_more ps p, length-append b.journal (Publish w m ∷ []));
    }

-- an outcome that isn't refused isn't refused
pub one_answer : (b : Build) (w m : ℕ) (c : Checked) → Refuses b w m c None → (r : Refusal) → Refuses b w m c (Some r) → ⊥
one_answer b w m c accepted NotYours refused = refused accepted.0
one_answer b w m c accepted Stranger refused = refused.1 accepted.1
one_answer b w m c accepted Memory refused = refused

-- Nothing is published in a build without entries

opened_status : (n m : ℕ) → (status_at (replicate n Waiting) m ≡ Waiting) ⊎ (status_at (replicate n Waiting) m ≡ Skipped)
opened_status zero m = inr refl
opened_status (suc n) zero = inl refl
opened_status (suc n) (suc m) = opened_status n m

pub listed_none : (b : Build) → IsLegal b → b.journal ≡ [] → IsListed b []
listed_none b h none =
    let opened : (m : ℕ) → AgreesWith (status_at (replicate (length b.given.imports) Waiting) m) (kept_at b.kept m) = λ m. subst (λ (es : List Entry). AgreesWith (status_at (state_after b.given es).statuses m) (kept_at b.kept m)) none (h.agrees m) in
    let nothing : (m : ℕ) → kept_at b.kept m ≡ None = λ m. ⊎_elim
    (λ (e : status_at (replicate (length b.given.imports) Waiting) m ≡ Waiting). subst (λ s. AgreesWith s (kept_at b.kept m)) e (opened m))
    (λ (e : status_at (replicate (length b.given.imports) Waiting) m ≡ Skipped). subst (λ s. AgreesWith s (kept_at b.kept m)) e (opened m))
    (opened_status (length b.given.imports) m) in
    record {
      are = record { entries = sym (ap (publications_in 0) none); outcomes = λ k d lt. absurd (omega (arith, lt)) };
      same = λ m. sym (ap interface_of_kept (nothing m));
      within = omega arith;
    }

-- the store takes what wasn't refused
pub listed_settled : (b : Build) (ps : List Publication) (w m : ℕ) (c : Checked) → IsLegal b → Refuses b w m c None → IsListed b ps → (after : Build) (r : Result (Unit {0}) (Refusal × Checked)) → Settles b w m c (Publish w m) after r
    → IsListed after (ps ++ publication m (length b.journal) c ∷ [])
listed_settled b ps w m c legal accepted h after (Ok u) s = subst (λ x. IsListed x (ps ++ publication m (length b.journal) c ∷ [])) (sym s.1) (listed_publish b ps w m c legal accepted.0 h)
listed_settled b ps w m c legal accepted h after (Err r) s = absurd (one_answer b w m c accepted r.0 s.0)

-- what a publication shows of its module
pub published_shown : (b : Build) (ps : List Publication) (w m : ℕ) (c : Checked) → IsLegal b → status_at (state_of b).statuses m ≡ Claimed w → IsListed b ps
    → interface_in (ps ++ publication m (length b.journal) c ∷ []) m ≡ interface_of c.verdict
published_shown b ps w m c legal claimed h = (listed_publish b ps w m c legal claimed h).same m ∙ ap interface_of_kept (get_or-set_same b.kept m (Some c) None (kept_within b w m legal claimed))

pub found_behind : (f : Interface) (b : Bool) (x y z : Option Interface) → (y ≡ Some f → z ≡ Some f) → cond b x y ≡ Some f → cond b x z ≡ Some f
found_behind f true x y z later is = is
found_behind f false x y z later is = later is

pub found_in_more : (ps qs : List Publication) (m : ℕ) (f : Interface) → interface_in ps m ≡ Some f → interface_in (ps ++ qs) m ≡ Some f
found_in_more [] qs m f is = absurd (cc)
found_in_more (p ∷ ps) qs m f is = found_behind f (p.number == m) (published_interface p) (interface_in ps m) (interface_in (ps ++ qs) m) (λ e. found_in_more ps qs m f e) is

-- an interface that is shown is shown from then on
pub still_shown : (ps qs : List Publication) (m : ℕ) (v : Verdict) → IsGood v → IsPrefix ps qs → interface_in ps m ≡ interface_of v → interface_in qs m ≡ interface_of v
still_shown ps qs m v good more is =
    let g = good_interface v good in
    let shown = found_in_more ps more.0 m g.0 (is ∙ ap interface_of g.1) ∙ sym (ap interface_of g.1) in
    subst (λ xs. interface_in xs m ≡ interface_of v) more.1 shown

-- Each answer of the store keeps the list

pub listed_claimed : (b : Build) (ps : List Publication) (w : ℕ) (r : Reply) → IsListed b ps → IsListed (after_claim b w r) ps
listed_claimed b ps w (Job m) h = listed_more b ps (Claim w m) (λ at. refl) h
listed_claimed b ps w Later h = h
listed_claimed b ps w Done h = h

pub listed_stopped : (b : Build) (ps : List Publication) (w : ℕ) (first : Bool) → IsListed b ps → IsListed (after_stop b w first) ps
listed_stopped b ps w true h = listed_more b ps (Stop w) (λ at. refl) h
listed_stopped b ps w false h = h

pub listed_failed : (b : Build) (ps : List Publication) (w m : ℕ) (c : Checked) → IsLegal b → ¬ IsGood c.verdict → IsListed b ps → (after : Build) (r : Result (Unit {0}) (Refusal × Checked)) → Settles b w m c (Fail w m) after r
    → IsListed after ps
listed_failed b ps w m c legal faulty h after (Ok u) s = subst (λ x. IsListed x ps) (sym s.1) (listed_fail b ps w m c legal s.0.0 faulty h)
listed_failed b ps w m c legal faulty h after (Err r) s = subst (λ x. IsListed x ps) (sym s.1) h

-- a module that is published in what was seen is found in what is seen later
pub found_if_published : (ps qs : List Publication) (m : ℕ) → IsPublishedIn ps m → IsPrefix ps qs → None ≡ interface_in qs m → ⊥
found_if_published ps qs m h more is =
    let found : interface_in qs m ≡ Some h.0 = subst (λ w. interface_in w m ≡ Some h.0) more.1 (found_in_more ps more.0 m h.0 h.1) in
    let both : None ≡ Some h.0 = is ∙ found in absurd (cc both)

-- and is the one that was published
pub same_if_published : (ps qs : List Publication) (m : ℕ) (f : Interface) → IsPublishedIn ps m → IsPrefix ps qs → Some f ≡ interface_in qs m → interface_in ps m ≡ Some f
same_if_published ps qs m f h more is =
    let found : interface_in qs m ≡ Some h.0 = subst (λ w. interface_in w m ≡ Some h.0) more.1 (found_in_more ps more.0 m h.0 h.1) in
    h.1 ∙ (sym found ∙ sym is)

-- what is published in a list is published in each that it begins
pub still_published : (ps qs : List Publication) (m : ℕ) → IsPublishedIn ps m → IsPrefix ps qs → IsPublishedIn qs m
still_published ps qs m h more = (h.0, subst (λ w. interface_in w m ≡ Some h.0) more.1 (found_in_more ps more.0 m h.0 h.1))

-- a failure isn't refused for memory
pub fails_without_memory : (l : Listing) (w m : ℕ) (c : Checked) (l' : Listing) (r : Refusal × Checked) → FailsIn l w m c l' (Err r) → r.0 ≢ Memory
fails_without_memory l w m c l' (NotYours, d) h e = absurd (cc e)
fails_without_memory l w m c l' (Stranger, d) h e = absurd (cc e)
fails_without_memory l w m c l' (Memory, d) h e = h.0

-- the last publication of a beginning is in the list
pub has_last : (ps qs : List Publication) (p : Publication) → IsPrefix (ps ++ p ∷ []) qs → Contains qs p
has_last ps qs p more = subst (λ l. Contains l p) more.1 (Contains-append_left (ps ++ p ∷ []) more.0 p (Contains-append_right ps (p ∷ []) p (0, omega arith, refl)))
