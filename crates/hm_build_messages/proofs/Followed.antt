-- Messages of faults, with notes of other modules after them.
use Rattle.std.proofs.Common.{◌≡◌, ◌⊎◌, ◌<◌, All, Bool, Contains, true, List, [], ◌∷◌, ◌++◌, append-nil, get_or, inl, inr, map, refl, subst, sym, ℕ}
use Rattle.std.proofs.lemmas.List.{get_or-map, length-map}
use Rattle.hm_uses.specs.Mentions.{Mention}
use Rattle.hm_uses.specs.Uses.{UseOf}
use Rattle.hm_types.specs.Interfaces.{Exports as Interface}
use Rattle.hm_types.specs.StandardPrelude.{prelude_interface}
use Rattle.hm_syntax.specs.declared.ast.Module.{Module}
use Rattle.hm_names.specs.declared.faults.Fault.{Fault}
use Rattle.hm_messages_details.specs.Details.{IsKnown, nothing}
use Rattle.hm_messages.specs.declared.heading.MessageFormat.{MessageFormat}
use Rattle.hm_verdicts.specs.Sets.{ModuleSet, imports_of, module_at}
use Rattle.hm_verdicts.specs.Verdicts.{ArePublished, Status}
use Rattle.hm_build_messages.specs.Explanations.{IsDetailed, IsFaultStated, IsKnownIn}
use Rattle.hm_build_messages.specs.Exporters.{AreExporterNotes, AreExporterNotesIn, IsFollowed}

-- a message alone
pub alone_is : (Says Notes : Fault → List ℕ → Type 0) (quiet : Bool) (f : Fault) (text : List ℕ) → Says f text → IsFollowed Says Notes quiet f text
alone_is Says Notes quiet f text h = record { message = text; notes = []; says = h; noted = inl refl; silent = λ e. refl; whole = sym (append-nil text) }

-- nothing is known of the fault
pub plain_is : (format : MessageFormat) (file source : List ℕ) (IsSo : Fault → Rattle.hm_messages_details.specs.Details.Known → Type 0) (Notes : Fault → List ℕ → Type 0) (quiet : Bool) → ((f : Fault) → IsSo f nothing)
    → (f : Fault) (text : List ℕ) → IsDetailed format file source (λ g known. known ≡ nothing) f text → IsFollowed (IsDetailed format file source IsSo) Notes quiet f text
plain_is format file source IsSo Notes quiet so f text h =
    alone_is (IsDetailed format file source IsSo) Notes quiet f text (record { known = h.known; so = subst (λ k. IsSo f k) (sym h.so) (so f); stated = h.stated })

-- what is known for the interfaces of the imports is known in the set
pub followed_in : (format : MessageFormat) (file source : List ℕ) (files texts : List (List ℕ)) (p : ModuleSet) (status : ℕ → Status) (i : ℕ) (fs : List Interface) (quiet : Bool) → ArePublished status (imports_of p i) fs
    → (f : Fault) (text : List ℕ) → IsFollowed (IsDetailed format file source (IsKnown (module_at p i) (prelude_interface ∷ fs))) (AreExporterNotes format file source files texts p status i (prelude_interface ∷ fs)) quiet f text
    → IsFaultStated format file source files texts p status i f quiet quiet text
followed_in format file source files texts p status i fs quiet published f text h =
    inl (
      refl,
      record {
        message = h.message;
        notes = h.notes;
        says = record { known = h.says.known; so = inr (fs, published, h.says.so); stated = h.says.stated };
        noted = either_in h.noted;
        silent = h.silent;
        whole = h.whole;
      },
    )
  where
    either_in : (h.notes ≡ []) ⊎ AreExporterNotes format file source files texts p status i (prelude_interface ∷ fs) f h.notes → (h.notes ≡ []) ⊎ AreExporterNotesIn format file source files texts p status i f h.notes
    either_in (inl e) = inl e
    either_in (inr notes) = inr (fs, published, notes)

pub plain_in : (format : MessageFormat) (file source : List ℕ) (files texts : List (List ℕ)) (p : ModuleSet) (status : ℕ → Status) (i : ℕ) (quiet : Bool)
    → (f : Fault) (text : List ℕ) → IsDetailed format file source (λ g known. known ≡ nothing) f text → IsFaultStated format file source files texts p status i f quiet quiet text
plain_in format file source files texts p status i quiet f text h =
    inl (refl, plain_is format file source (IsKnownIn p status i) (AreExporterNotesIn format file source files texts p status i) quiet (λ g. inl refl) f text h)

-- the names of uses are those of a row
pub named_all : (uses : List UseOf) (ms : List Mention) → map (λ (u : UseOf). u.mention) uses ≡ ms → All (λ (u : UseOf). Contains ms u.mention) uses
named_all uses ms e = λ k d within.
    subst (λ (l : List Mention). Contains l (get_or uses k d).mention) e
    (k, subst (λ n. k < n) (sym (length-map uses (λ (u : UseOf). u.mention))) within, get_or-map (λ (u : UseOf). u.mention) uses k d (get_or uses k d).mention within)
