-- What refusals say.
use Rattle.hm_service_places.specs.declared.checked.Checked.{Checked}
use Rattle.hm_service_references.specs.Names.{AreReferencesAt}
use Rattle.hm_service_rename.specs.Made.{HasNoReferencesTo, IsNotMade}
use Rattle.hm_service_rename.specs.Renames.{IsRefused, place_of}
use Rattle.hm_service_rename.specs.Sets.{IsWhole}
use Rattle.hm_service_places.specs.declared.checked.CheckedSet.{CheckedSet}
use Rattle.hm_service_rename.specs.declared.results.Rename.{Rename}
use Rattle.hm_service_rename.specs.declared.results.RenameRefusal.{RenameRefusal}
use Rattle.hm_service_rename.specs.declared.results.RenameRefusal.TheVariants.{NotWhole, NoName, NotBound, NotAName, NotRead, NotSame}
use Rattle.hm_service_sources.specs.HeldSets.{texts_of}
use Rattle.hm_uses_references.specs.declared.finding.Reference.{Reference}
use Rattle.std.proofs.Common.{List}

pub refused_before : (set : CheckedSet) (r : Rename) (refusal : RenameRefusal) → IsWhole (texts_of set.held.now) set.checked.now → HasNoReferencesTo set.checked.now r refusal → IsRefused set r refusal
refused_before set r NotWhole whole h = absurd h
refused_before set r NoName whole h = (whole, h)
refused_before set r NotBound whole h = (whole, h)
refused_before set r NotAName whole h = h
refused_before set r NotRead whole h = absurd h
refused_before set r NotSame whole h = absurd h

pub refused_after : (set : CheckedSet) (r : Rename) (references : List Reference) (refusal : RenameRefusal) → AreReferencesAt set.checked.now r.source (place_of r) references → IsNotMade (texts_of set.held.now) r.name.now references refusal
    → IsRefused set r refusal
refused_after set r references NotWhole are h = absurd h
refused_after set r references NoName are h = absurd h
refused_after set r references NotBound are h = absurd h
refused_after set r references NotAName are h = absurd h
refused_after set r references NotRead are h = (references, (are, h))
refused_after set r references NotSame are h = tt
