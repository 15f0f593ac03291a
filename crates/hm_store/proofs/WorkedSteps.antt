-- The worked refusals, steps and places.
use Rattle.std.proofs.Common.{◌≡◌, ◌≢◌, ℕ, ◌≤◌, List, [], ◌∷◌, ◌++◌, length, map, Option, None, Some, Ok, refl, sym, ap, ◌∙◌, arith}
use Rattle.std.specs.Prelude.{slice_get}
use Rattle.hm_types.specs.Interfaces.{Exports as Interface}
use Rattle.hm_syntax.specs.declared.ast.Module.{Module}
use Rattle.hm_verdicts.specs.Outcomes.{Checked}
use Rattle.hm_store.specs.Builds.{Build, IsNew, IsOf, Refuses, Settles, interface_at}
use Rattle.hm_store.specs.Records.{Adds, AddsAt}
use Rattle.hm_store.specs.declared.object.Entry.TheVariants.{Publish}
use Rattle.hm_store.specs.declared.object.Refusal.TheVariants.{Stranger}
use Rattle.hm_store.specs.declared.record.Act.TheVariants as act
use Rattle.hm_store.specs.declared.record.Call.{Call}
use Rattle.hm_store.proofs.WorkedBuilds.{not_by_one}
use Rattle.hm_store.specs.Worked.{two, begun, behind_import, call, one_calls, StrangerRow, StepsRow, PlacesRow}

abbrev some_of : List Interface → List (Option Interface)
some_of fs = map (λ f. Some f) fs

accepted : (modules : List Module) (kept : List (Option Checked)) (c : Checked) → slice_get modules 1 ≡ Some c.«module» → c.imports ≡ [] → Refuses (begun modules kept) 0 1 c None
accepted modules kept c subject none = (refl, record { subject = subject; imports = ap some_of none })

for_others : (modules : List Module) (kept : List (Option Checked)) (c : Checked) (f : Interface) → c.imports ≡ f ∷ [] → Refuses (begun modules kept) 0 1 c (Some Stranger)
for_others modules kept c f is = (refl, λ (of : IsOf (begun modules kept) 1 c). let e : Some f ∷ [] ≡ [] = sym (ap some_of is) ∙ of.imports in absurd (cc e))

with_import : (modules : List Module) (kept : List (Option Checked)) (c : Checked) (g : Interface) → interface_at kept 1 ≡ Some g → slice_get modules 0 ≡ Some c.«module» → c.imports ≡ g ∷ []
    → Refuses (behind_import modules kept) 0 0 c None
with_import modules kept c g here subject is = (refl, record { subject = subject; imports = ap some_of is ∙ ap (λ (x : Option Interface). x ∷ []) (sym here) })

with_another : (modules : List Module) (kept : List (Option Checked)) (c : Checked) (g h : Interface) → interface_at kept 1 ≡ Some g → g ≢ h → c.imports ≡ h ∷ [] → Refuses (behind_import modules kept) 0 0 c (Some Stranger)
with_another modules kept c g h here ne is = (
  refl,
  λ (of : IsOf (behind_import modules kept) 0 c).
      let e : Some h ∷ [] ≡ Some g ∷ [] = sym (ap some_of is) ∙ (of.imports ∙ ap (λ (x : Option Interface). x ∷ []) here) in
      let same : g ≡ h = cc e in ne same,
)

pub stranger : StrangerRow
stranger = record {
  accepted = accepted;
  of_another = λ modules kept c ne. (refl, λ (of : IsOf (begun modules kept) 1 c). ne of.subject);
  for_others = for_others;
  with_import = with_import;
  with_another = with_another;
}

pub steps : StepsRow
steps = record {
  first = λ a b. record { modules = refl; imports = refl; journal = refl; kept = refl };
  later = λ modules kept h. let e : 1 ≡ 0 = ap length h.journal in absurd (omega (arith, e));
  kept = λ modules kept c subject none. (accepted modules kept c subject none, refl);
  refused = λ modules kept c. (not_by_one, refl, refl);
  unclaimed = λ modules kept c after h. not_by_one h.0.0;
}

-- where the third call stands
third : List Call → ℕ
third [] = 0
third (a ∷ []) = 0
third (a ∷ b ∷ []) = 0
third (a ∷ b ∷ c ∷ cs) = c.at

pub places : PlacesRow
unfolding third
places = record {
  none_before = refl;
  one_before = refl;
  both_before = refl;
  known = refl;
  at_known = refl;
  at_seen = refl;
  not_at_seen = λ (h : AddsAt 1 one_calls act.Done (one_calls ++ call 1 act.Done ∷ [])). let e : 1 ≡ 2 = ap third h in absurd (omega (arith, e));
  behind = (3, (let l : 2 ≤ 3 = omega arith in l), refl);
  not_before = λ (h : Adds one_calls act.Done (one_calls ++ call 1 act.Done ∷ [])). let e : 1 ≡ h.0 = ap third h.2 in let l : 2 ≤ h.0 = h.1 in absurd (omega (arith, e, l));
}
