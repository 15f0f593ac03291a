-- The name that a rename is of.
use Rattle.std.proofs.Common.{◌≡◌, ◌<◌, ℕ, All, Contains, List, false, get_or, length, string_bytes, subst, sym, true}
use Rattle.std.specs.List.{Any}
use Rattle.std.proofs.lemmas.List.Elements.{Contains-get_or}
use Rattle.hm_lex.specs.declared.token.Place.{Place}
use Rattle.hm_service_places.specs.declared.checked.Checked.{Checked}
use Rattle.hm_service_rename.specs.Prepared.{IsFoundAt, IsPrepared, IsTarget, place_in}
use Rattle.hm_service_rename.specs.Sets.{IsWhole}
use Rattle.hm_service_places.specs.declared.checked.CheckedSet.{CheckedSet}
use Rattle.hm_service_rename.specs.declared.results.Prepared.{Prepared}
use Rattle.hm_service_rename.specs.declared.results.Prepared.TheVariants.{Refused, Renamable}
use Rattle.hm_service_rename.specs.declared.results.RenameRefusal.TheVariants.{NotAName, NotBound, NoName, NotRead, NotSame, NotWhole}
use Rattle.hm_service_rename.specs.declared.results.SourcePlace.{SourcePlace}
use Rattle.hm_service_rename.specs.declared.results.Target.{Target}
use Rattle.hm_service_sources.specs.HeldSets.{texts_of}
use Rattle.hm_uses_references.specs.References.{AreReferences, names_at, reference_of}
use Rattle.hm_uses_references.specs.SetNames.{SetName}
use Rattle.hm_uses_references.specs.declared.finding.Reference.{Reference}

-- the first name at the place
pub target_found : (names on : List SetName) (source : ℕ) (place : Place) (one : SetName) (t : Target) (references : List Reference) → on ≡ names_at source place names → 0 < length on → one ≡ get_or on 0 one → t.reference ≡ reference_of one
    → string_bytes t.name ≡ one.used.mention.name.text → AreReferences names source place references → Any (λ x. x.binds ≡ true) references → IsTarget names source place t
target_found names on source place one t references are some first reference text referring bound = record {
  one = one;
  at = subst (λ (l : List SetName). Contains l one) are (subst (Contains on) (sym first) (Contains-get_or on 0 one some));
  reference = reference;
  text = text;
  references = references;
  referring = referring;
  bound = bound;
}

-- in a set that is whole
pub prepared_in : (set : CheckedSet) (p : SourcePlace) (found : Prepared) → IsWhole (texts_of set.held.now) set.checked.now → IsFoundAt set.checked.now p found → IsPrepared set p found
prepared_in set p (Renamable t) whole h = (whole, (h.0, (h.1.0, h.1.1)))
prepared_in set p (Refused NotWhole) whole h = absurd h.1.1
prepared_in set p (Refused NoName) whole h = (whole, (h.0, (h.1.0, h.1.1)))
prepared_in set p (Refused NotBound) whole h = (whole, (h.1.1.0, ((h.0, (h.1.0, h.1.1.1.0)), h.1.1.1.1)))
prepared_in set p (Refused NotAName) whole h = absurd h.1.1
prepared_in set p (Refused NotRead) whole h = absurd h.1.1
prepared_in set p (Refused NotSame) whole h = absurd h.1.1
