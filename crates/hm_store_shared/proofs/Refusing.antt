-- Why an outcome is refused, as far as its worker can know.
use Rattle.std.proofs.Common.{◌≡◌, ◌≢◌, ℕ, suc, false, List, [], ◌∷◌, map, fold, ◌⊎◌, inl, inr, Some, None, Result, Ok, Err, refl, ap, sym, ◌∙◌, subst, arith}
use Rattle.std.specs.Prelude.{All, Contains, IfErr, slice_get, slice_index_or}
use mathlib.Core.List.{IsPrefix}
use Rattle.hm_types.specs.Interfaces.{Exports as Interface}
use Rattle.hm_syntax.specs.declared.ast.Module.{Module}
use Rattle.hm_graph_components.specs.Digraph.{Edge}
use Rattle.hm_verdicts.specs.Outcomes.{Checked}
use Rattle.hm_store_published.specs.declared.publication.Publication.{Publication}
use Rattle.hm_store_published.specs.Publications.{IsPublishedIn, interface_in}
use Rattle.hm_store.specs.Objects.{status_at}
use Rattle.hm_store.specs.Builds.{AgreesWith, Build, IsLegal, IsOf, Refuses, interface_at, interface_of, kept_at, state_of}
use Rattle.hm_store.specs.Builds as builds
use Rattle.hm_store.specs.declared.object.Entry.{Entry}
use Rattle.hm_store.specs.declared.object.Refusal.{Refusal}
use Rattle.hm_store.specs.declared.object.Refusal.TheVariants.{NotYours, Stranger, Memory}
use Rattle.hm_store.specs.declared.object.Status.TheVariants.{Claimed, Published}
use Rattle.hm_store.proofs.Finishing.{build_follows}
use Rattle.hm_store_shared.specs.Knowing.{Begins, HasClaimed, has_after}
use Rattle.hm_store_shared.specs.Listings.{FailsIn, IsBuildOf, IsListed, IsOfSeen, Listing, Settled}
use Rattle.hm_store_shared.proofs.Listing.{found_in_more, same_found}
use Rattle.hm_store_shared.proofs.Owning.{claimed_by_own}

-- the imports of a claimed module are published
claimed_imports : (b : Build) (ps : List Publication) (w m k : ℕ) → IsLegal b → IsListed b ps → status_at (state_of b).statuses m ≡ Claimed w → Edge b.given.imports m k → IsPublishedIn ps k
claimed_imports b ps w m k legal listed claimed edge =
    let ready : status_at (state_of b).statuses k ≡ Published = (build_follows b legal).ready m k (rw claimed refl) edge in
    let kept : AgreesWith Published (kept_at b.kept k) = subst (λ s. AgreesWith s (kept_at b.kept k)) ready (legal.agrees k) in
    let f = kept.2.0 in
    (f, listed.same k ∙ (ap builds.interface_in kept.1 ∙ ap interface_of kept.2.1))

found_through : (ps qs : List Publication) (k : ℕ) (f : Interface) → IsPrefix ps qs → interface_in ps k ≡ Some f → interface_in qs k ≡ Some f
found_through ps qs k f more found = subst (λ xs. interface_in xs k ≡ Some f) more.1 (found_in_more ps more.0 k f found)

-- what is found of published modules is found from then on
pub rows_through : (ps qs : List Publication) → IsPrefix ps qs → (ks : List ℕ) → All (IsPublishedIn ps) ks → map (interface_in ps) ks ≡ map (interface_in qs) ks
rows_through ps qs more [] published = refl
rows_through ps qs more (k ∷ ks) published =
    let first : IsPublishedIn ps k = published 0 k (omega arith) in
    let same : interface_in ps k ≡ interface_in qs k = first.1 ∙ sym (found_through ps qs k first.0 more first.1) in
    let others : map (interface_in ps) ks ≡ map (interface_in qs) ks = rows_through ps qs more ks (λ j d lt. published (suc j) d (omega (arith, lt))) in
    cc (same, others)

-- two lists of which one begins the other have one interface of a module of which both have one
same_interface : (ps qs : List Publication) (k : ℕ) (f g : Interface) → IsPrefix qs ps ⊎ IsPrefix ps qs → interface_in ps k ≡ Some f → interface_in qs k ≡ Some g → interface_in qs k ≡ interface_in ps k
same_interface ps qs k f g (inl more) here there = there ∙ sym (found_through qs ps k g more there)
same_interface ps qs k f g (inr more) here there = found_through ps qs k f more here ∙ sym here

same_row : (ps qs : List Publication) → IsPrefix qs ps ⊎ IsPrefix ps qs → (ks : List ℕ) (fs : List Interface) → ((k : ℕ) → Contains ks k → IsPublishedIn ps k) → map (λ f. Some f) fs ≡ map (interface_in qs) ks
    → map (interface_in qs) ks ≡ map (interface_in ps) ks
same_row ps qs beside [] fs published e = refl
same_row ps qs beside (k ∷ ks) [] published e = absurd (cc e)
same_row ps qs beside (k ∷ ks) (f ∷ fs) published e =
    let here : interface_in qs k ≡ Some f = cc e in
    let rest : map (λ g. Some g) fs ≡ map (interface_in qs) ks = cc e in
    let first = published k (0, omega arith, refl) in
    let same : interface_in qs k ≡ interface_in ps k = same_interface ps qs k first.0 f beside first.1 here in
    let others : map (interface_in qs) ks ≡ map (interface_in ps) ks = same_row ps qs beside ks fs (λ j c. published j (suc c.0, omega (arith, c.1), c.2)) rest in
    cc (same, others)

-- an outcome of the claimed module, for the interfaces that its worker has seen, is the module's for the published interfaces
is_of_seen : (subjects : List Module) (plan : List (List ℕ)) (b : Build) (ps qs : List Publication) (w m : ℕ) (c : Checked) → IsLegal b → IsListed b ps → IsBuildOf subjects plan b → IsPrefix qs ps ⊎ IsPrefix ps qs
    → IsOfSeen subjects plan qs m c → status_at (state_of b).statuses m ≡ Claimed w → IsOf b m c
is_of_seen subjects plan b ps qs w m c legal listed build beside of claimed =
    let row : slice_index_or b.given.imports m [] ≡ slice_index_or plan m [] = ap (λ g. slice_index_or g m []) build.imports in
    let seen : map (λ f. Some f) c.imports ≡ map (interface_in qs) (slice_index_or b.given.imports m []) = of.imports ∙ sym (ap (map (interface_in qs)) row) in
    let same = same_row ps qs beside (slice_index_or b.given.imports m []) c.imports (λ k edge. claimed_imports b ps w m k legal listed claimed edge) seen in
    record {
      subject = subst (λ ms. slice_get ms m ≡ Some c.«module») (sym build.modules) of.subject;
      imports = seen ∙ (same ∙ sym (same_found b ps listed (slice_index_or b.given.imports m [])));
    }

-- so it is no stranger
no_stranger : (subjects : List Module) (plan : List (List ℕ)) (b : Build) (ps qs : List Publication) (w m : ℕ) (c : Checked) → IsLegal b → IsListed b ps → IsBuildOf subjects plan b → IsPrefix qs ps ⊎ IsPrefix ps qs
    → IsOfSeen subjects plan qs m c → Refuses b w m c (Some Stranger) → ⊥
no_stranger subjects plan b ps qs w m c legal listed build beside of refused = refused.1 (is_of_seen subjects plan b ps qs w m c legal listed build beside of refused.0)

-- the build object has nothing against the outcome of a module that its worker has claimed, for the interfaces that it has seen
pub claimed_fits : (subjects : List Module) (plan : List (List ℕ)) (b : Build) (ps qs : List Publication) (known : List Entry) (w m : ℕ) (c : Checked) → IsLegal b → IsListed b ps → IsBuildOf subjects plan b → IsPrefix qs ps ⊎ IsPrefix ps qs
    → Begins w known b.journal → IsOfSeen subjects plan qs m c → HasClaimed w known m → Refuses b w m c None
claimed_fits subjects plan b ps qs known w m c legal listed build beside begins of has =
    let claimed : status_at (state_of b).statuses m ≡ Claimed w = claimed_by_own b w m legal (ap (fold (has_after m) false) begins.own ∙ has) in
    (claimed, is_of_seen subjects plan b ps qs w m c legal listed build beside of claimed)

-- so only memory can be missing
pub only_memory : (l l' : Listing) (w m : ℕ) (c : Checked) (r : Result (Unit {0}) (Refusal × Checked)) → Refuses l.build w m c None → Settled l w m c l' r → IfErr r (λ x. x.0 ≡ Memory)
only_memory l l' w m c (Ok u) fits settled = tt
only_memory l l' w m c (Err (NotYours, d)) fits settled = absurd (settled.0 fits.0)
only_memory l l' w m c (Err (Stranger, d)) fits settled = absurd (settled.0.1 fits.1)
only_memory l l' w m c (Err (Memory, d)) fits settled = refl

pub publishes_no_stranger : (subjects : List Module) (plan : List (List ℕ)) (l l' : Listing) (qs : List Publication) (w m : ℕ) (c : Checked) (r : Refusal × Checked) → IsLegal l.build → IsListed l.build l.published → IsBuildOf subjects plan l.build
    → IsPrefix qs l.published ⊎ IsPrefix l.published qs → Settled l w m c l' (Err r) → IsOfSeen subjects plan qs m c → r.0 ≢ Stranger
publishes_no_stranger subjects plan l l' qs w m c (NotYours, d) legal listed build beside settled of e = absurd (cc e)
publishes_no_stranger subjects plan l l' qs w m c (Stranger, d) legal listed build beside settled of e = no_stranger subjects plan l.build l.published qs w m c legal listed build beside of settled.0
publishes_no_stranger subjects plan l l' qs w m c (Memory, d) legal listed build beside settled of e = absurd (cc e)

pub fails_no_stranger : (subjects : List Module) (plan : List (List ℕ)) (l l' : Listing) (qs : List Publication) (w m : ℕ) (c : Checked) (r : Refusal × Checked) → IsLegal l.build → IsListed l.build l.published → IsBuildOf subjects plan l.build
    → IsPrefix qs l.published ⊎ IsPrefix l.published qs → FailsIn l w m c l' (Err r) → IsOfSeen subjects plan qs m c → r.0 ≢ Stranger
fails_no_stranger subjects plan l l' qs w m c (NotYours, d) legal listed build beside settled of e = absurd (cc e)
fails_no_stranger subjects plan l l' qs w m c (Stranger, d) legal listed build beside settled of e = no_stranger subjects plan l.build l.published qs w m c legal listed build beside of settled.0
fails_no_stranger subjects plan l l' qs w m c (Memory, d) legal listed build beside settled of e = absurd (cc e)

pub publish_fits : (subjects : List Module) (plan : List (List ℕ)) (l l' : Listing) (qs : List Publication) (w m : ℕ) (c : Checked) (r : Result (Unit {0}) (Refusal × Checked)) → IsLegal l.build → IsListed l.build l.published → IsBuildOf subjects plan l.build
    → IsPrefix qs l.published ⊎ IsPrefix l.published qs → Settled l w m c l' r → IsOfSeen subjects plan qs m c → IfErr r (λ x. x.0 ≢ Stranger)
publish_fits subjects plan l l' qs w m c (Ok u) legal listed build beside settled of = tt
publish_fits subjects plan l l' qs w m c (Err r) legal listed build beside settled of = publishes_no_stranger subjects plan l l' qs w m c r legal listed build beside settled of

pub fail_fits : (subjects : List Module) (plan : List (List ℕ)) (l l' : Listing) (qs : List Publication) (w m : ℕ) (c : Checked) (r : Result (Unit {0}) (Refusal × Checked)) → IsLegal l.build → IsListed l.build l.published → IsBuildOf subjects plan l.build
    → IsPrefix qs l.published ⊎ IsPrefix l.published qs → FailsIn l w m c l' r → IsOfSeen subjects plan qs m c → IfErr r (λ x. x.0 ≢ Stranger)
fail_fits subjects plan l l' qs w m c (Ok u) legal listed build beside settled of = tt
fail_fits subjects plan l l' qs w m c (Err r) legal listed build beside settled of = fails_no_stranger subjects plan l l' qs w m c r legal listed build beside settled of
