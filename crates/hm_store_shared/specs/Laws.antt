-- Laws of lists of publications in a build.
use Rattle.std.specs.Prelude.{◌≡◌, ◌≢◌, ◌≤◌, ◌<◌, ◌+◌, ◌*◌, ◌⊎◌, ℕ, List, [], length, map, sum_by, Some, Result, IfErr, slice_index_or}
use Rattle.hm_types.specs.Interfaces.{Exports as Interface}
use Rattle.hm_syntax.specs.declared.ast.Module.{Module}
use Rattle.hm_names.specs.Imports.{AreImportsOf}
use Rattle.hm_verdicts.specs.Sets.{IsLawfulSet, no_module}
use Rattle.hm_store_published.specs.declared.publication.Publication.{Publication}
use Rattle.hm_store_published.specs.Publications.{IsLawful, interface_in}
use Rattle.hm_verdicts.specs.Outcomes.{Checked}
use Rattle.hm_store.specs.declared.object.Entry.{Entry}
use Rattle.hm_store.specs.declared.object.Refusal.{Refusal}
use Rattle.hm_store.specs.declared.object.Refusal.TheVariants.{NotYours}
use Rattle.hm_store.specs.declared.object.Turn.{Turn}
use Rattle.hm_store.specs.declared.object.Turn.TheVariants as turn
use Rattle.hm_store_journal.specs.Entries.{by, writer_of}
use Rattle.hm_store_shared.specs.Spending.{calls_by, calls_for, calls_in}
use Rattle.hm_store_shared.specs.Knowing.{Answers, Claims, HasClaimed, HasJob, IsEnded, IsStopped}

-- law: in a lawful set, the interfaces that a lawful list has of a module's imports are those that the module requires
abbrev pub SeenAreAskedFor : Type 0
SeenAreAskedFor =
    (modules : List Module) (plan : List (List ℕ)) (ps : List Publication) (m : ℕ) (fs : List Interface) → IsLawfulSet (record { modules = modules; plan = plan }) → IsLawful modules plan ps → m < length modules
    → map (λ f. Some f) fs ≡ map (interface_in ps) (slice_index_or plan m []) → AreImportsOf (slice_index_or modules m no_module) fs

-- law: after a claim that got a module, the worker has claimed it by its own entries
abbrev pub ClaimsAreHeld : Type 0
ClaimsAreHeld = (subjects : List Module) (plan : List (List ℕ)) (w : ℕ) (old new : List Entry) (t : Turn) → Claims subjects plan w old new t → HasJob w new t

-- law: an outcome of a module that the worker has claimed by its own entries is never refused as `NotYours`
abbrev pub HeldAreTheirs : Type 0
HeldAreTheirs =
    (subjects : List Module) (plan : List (List ℕ)) (w m : ℕ) (c : Checked) (e : Entry) (old new : List Entry) (r : Result (Unit {0}) (Refusal × Checked)) → Answers subjects plan w m c e old new r → HasClaimed w old m
    → IfErr r (λ x. x.0 ≢ NotYours)

-- law: if the reply to a claim is that nothing is left, the journal that the worker has then seen has a stop, or settles each module
abbrev pub DoneIsTheEnd : Type 0
DoneIsTheEnd = (subjects : List Module) (plan : List (List ℕ)) (w : ℕ) (old new : List Entry) → Claims subjects plan w old new turn.Done → IsStopped subjects plan new ⊎ IsEnded subjects plan new

-- law: a claim adds the calls for its module to those for the worker's claims
abbrev pub ClaimsTakeTheirCalls : Type 0
ClaimsTakeTheirCalls = (subjects : List Module) (plan : List (List ℕ)) (w : ℕ) (old new : List Entry) (t : Turn) → Claims subjects plan w old new t → calls_in plan (by w new) ≡ calls_in plan (by w old) + calls_by plan t

-- law: the calls for a worker's claims are at most those for all modules
abbrev pub ClaimsFit : Type 0
ClaimsFit = (subjects : List Module) (plan : List (List ℕ)) (w : ℕ) (old new : List Entry) (t : Turn) → Claims subjects plan w old new t → calls_in plan (by w new) ≤ 2 * length plan + sum_by length plan

-- law: a publication or a failure adds none
abbrev pub AnswersTakeNoCalls : Type 0
AnswersTakeNoCalls =
    (subjects : List Module) (plan : List (List ℕ)) (w m : ℕ) (c : Checked) (e : Entry) (old new : List Entry) (r : Result (Unit {0}) (Refusal × Checked)) → Answers subjects plan w m c e old new r → writer_of e ≡ w → calls_for plan e ≡ 0
    → calls_in plan (by w new) ≡ calls_in plan (by w old)
