-- The publications of a build as a list, which look-ups read.
use Rattle.std.specs.Prelude.{◌≡◌, ℕ, suc, ◌<◌, ◌≤◌, List, [], ◌∷◌, ◌++◌, length, map, Option, Some, None, Result, Ok, Err, All, Contains, slice_get, slice_index_or}
use base.Stored.{Coded, Coded-set}
use Rattle.std.specs.Coded.{codes}
use Rattle.hm_syntax.specs.Codes.{coded_declaration}
use Rattle.hm_types.specs.Interfaces.{coded_exports}
use Rattle.hm_syntax.specs.declared.ast.Module.{Module}
use Rattle.hm_graph_components.specs.Digraph.{Edge}
use Rattle.hm_verdicts.specs.Outcomes.{Checked}
use Rattle.hm_store_published.specs.declared.publication.Publication.{Publication}
use Rattle.hm_store_published.specs.Publications.{IsPublishedIn, interface_in, entries_of}
use Rattle.hm_store.specs.Builds.{Build, IsLegal, Refuses, kept_at, interface_at, with_kept}
use Rattle.hm_store.specs.declared.object.Turn.{Turn}
use Rattle.hm_store.specs.declared.object.Turn.TheVariants as turn
use Rattle.hm_store.specs.declared.object.Refusal.{Refusal}
use Rattle.hm_store.specs.declared.object.Refusal.TheVariants.{NotYours, Stranger, Memory}
use Rattle.hm_store.specs.declared.object.Entry.{Entry}
use Rattle.hm_store.specs.declared.object.Entry.TheVariants.{Claim, Publish, Fail, Stop}

-- a build, with its publications
pub record Listing : Type 0 where
  pub build : Build
  pub published : List Publication

-- the publications among these entries, of which the first has the number `n`: of each its module and its place
abbrev pub publications_in : ℕ → List Entry → List (ℕ × ℕ)
publications_in at [] = []
publications_in at (Claim w m ∷ es) = publications_in (suc at) es
publications_in at (Publish w m ∷ es) = (m, at) ∷ publications_in (suc at) es
publications_in at (Fail w m ∷ es) = publications_in (suc at) es
publications_in at (Stop w ∷ es) = publications_in (suc at) es

-- these are the publications of the journal, in order, each with the outcome of its module
pub record ArePublications (b : Build) (ps : List Publication) : Type 0 where
  pub entries : map (λ p. (p.number, p.place)) ps ≡ publications_in 0 b.journal
  pub outcomes : All (λ p. kept_at b.kept p.number ≡ Some p.outcome) ps

-- the list has the publications of the journal. So its interfaces are the published ones, and no publication is after the journal's end
pub record IsListed (b : Build) (ps : List Publication) : Type 0 where
  pub are : ArePublications b ps
  pub same : (m : ℕ) → interface_in ps m ≡ interface_at b.kept m
  pub within : entries_of ps ≤ length b.journal

-- the build is of these modules, with this plan
pub record IsBuildOf (subjects : List Module) (plan : List (List ℕ)) (b : Build) : Type 0 where
  pub modules : b.modules ≡ subjects
  pub imports : b.given.imports ≡ plan

-- the list has a publication for each import of the claimed module
abbrev pub HasImports : List (List ℕ) → Turn → List Publication → Type 0
HasImports plan (turn.Job m) ps = (k : ℕ) → Edge plan m k → IsPublishedIn ps k
HasImports plan turn.Done ps = Unit {0}

-- the number of the claimed module is below n
abbrev pub IsWithin : ℕ → Turn → Type 0
IsWithin n (turn.Job m) = m < n
IsWithin n turn.Done = Unit {0}

-- the list has this publication
abbrev pub HasPublication : List Publication → ℕ → ℕ → Checked → Type 0
HasPublication ps m place c = Contains ps (record { number = m; place = place; outcome = c })

-- the outcome is that of module m, for the interfaces that the list has of the modules that it imports by the plan
pub record IsOfSeen (subjects : List Module) (plan : List (List ℕ)) (ps : List Publication) (m : ℕ) (c : Checked) : Type 0 where
  pub subject : slice_get subjects m ≡ Some c.«module»
  pub imports : map (λ f. Some f) c.imports ≡ map (interface_in ps) (slice_index_or plan m [])

-- the build object's reason for this reply; it has none for `Memory`
abbrev pub reason_of : Result (Unit {0}) (Refusal × Checked) → Option Refusal
reason_of (Ok _) = None
reason_of (Err (NotYours, d)) = Some NotYours
reason_of (Err (Stranger, d)) = Some Stranger
reason_of (Err (Memory, d)) = None

-- the listing after a publication
abbrev pub published_after : Listing → ℕ → ℕ → Checked → Listing
published_after l w m c = record { build = with_kept l.build m c (Publish w m); published = l.published ++ record { number = m; place = length l.build.journal; outcome = c } ∷ [] }

-- the module is published in the list and in the build; or nothing changes and the outcome is returned, also if memory ran out
abbrev pub Settled : Listing → ℕ → ℕ → Checked → Listing → Result (Unit {0}) (Refusal × Checked) → Type 0
Settled l w m c l' (Ok _) = Refuses l.build w m c None × (l' ≡ published_after l w m c)
Settled l w m c l' (Err (Memory, d)) = Refuses l.build w m c None × (l' ≡ l) × (d ≡ c)
Settled l w m c l' (Err (NotYours, d)) = Refuses l.build w m c (Some NotYours) × (l' ≡ l) × (d ≡ c)
Settled l w m c l' (Err (Stranger, d)) = Refuses l.build w m c (Some Stranger) × (l' ≡ l) × (d ≡ c)

-- the module fails in the build, and the publications stay the same; or nothing changes and the outcome is returned
abbrev pub FailsIn : Listing → ℕ → ℕ → Checked → Listing → Result (Unit {0}) (Refusal × Checked) → Type 0
FailsIn l w m c l' (Ok _) = Refuses l.build w m c None × (l' ≡ record { build = with_kept l.build m c (Fail w m); published = l.published })
FailsIn l w m c l' (Err r) = Refuses l.build w m c (Some r.0) × (l' ≡ l) × (r.1 ≡ c)

-- two lists are equal in at most one way
pub one_way : (ps qs : List Publication) → IsProp (ps ≡ qs)
one_way ps qs = let code : Coded (List Publication) = Prim.hlevel (codes, coded_declaration, coded_exports) in Coded-set code ps qs
