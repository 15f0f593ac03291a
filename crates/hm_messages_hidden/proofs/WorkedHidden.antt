-- The worked faults that the report leaves out.
use Rattle.std.proofs.Common.{◌≡◌, ◌∙◌, ◌≤◌, ℕ, List, [], ◌∷◌, ◌++◌, All, length, map, take, drop, get_or, inl, inr, refl, sym, subst, ap, arith}
use Rattle.std.specs.Prelude.{codes, slice_range}
use Rattle.std.proofs.lemmas.List.Elements.{All-contains, All-cons}
use Rattle.hm_types.specs.Interfaces.{Exports as Interface}
use Rattle.hm_run_sources.specs.SourceModules.{HasModules}
use Rattle.hm_names.specs.declared.faults.Fault.{Fault}
use Rattle.hm_names.specs.declared.faults.Kind.TheVariants.{Unbound, Untyped}
use Rattle.hm_verdicts.specs.ModuleVerdicts.{Good, Faulty}
use Rattle.hm_verdicts.specs.Worked.{module_A}
use Rattle.hm_verdicts.specs.WorkedVerdicts.{interface_A}
use Rattle.hm_verdicts.proofs.WorkedModules.{good_A}
use Rattle.hm_lex.specs.Cut.{place_after}
use Rattle.hm_lex.specs.Places.{IsBefore}
use Rattle.hm_lex.specs.declared.token.Place.{Place}
use Rattle.hm_messages_hidden.specs.Hidden.{HaveUnbound, IsOutOfScope, IsReplaced, IsVerdictBeyond}
use Rattle.hm_messages_changes.specs.Blanks.{blank, replaced, with_definitions}
use Rattle.hm_messages_trials.specs.Worked.{at_column, reported_by}
use Rattle.hm_messages_hidden.specs.WorkedHidden.{BeyondRow, DefinitionsRow, HeldRow, LaterRow, ReplacedRow}
use Rattle.hm_messages_changes.specs.declared.data.Other.{Other}

pub worked_definitions : DefinitionsRow
worked_definitions = record {
  defined = refl;
  undefined = λ e. absurd (omega (arith, ap length e));
}

not_itself : ¬ (IsBefore (at_column 18) (at_column 18))
not_itself (inl l) = absurd (omega (arith, l))
not_itself (inr e) = absurd (omega (arith, e.1))

after_14 : ¬ (IsBefore (at_column 18) (at_column 14))
after_14 (inl l) = absurd (omega (arith, l))
after_14 (inr e) = absurd (omega (arith, e.1))

none : {X : Type 0} (P : X → Type 0) → All P []
none P i d l = absurd (omega (arith, l))

only : {X : Type 0} (P : X → Type 0) (x : X) → P x → All P (x ∷ [])
only P x h = All-cons P x [] h (none P)

not_unbound : ¬ (Untyped ≡ Unbound)
not_unbound e = cc

y_out : IsOutOfScope (reported_by Unbound (codes "y") ∷ []) (codes "y")
y_out = record { fault = reported_by Unbound (codes "y"); among = (0, omega arith, refl); unbound = refl; named = refl }

y_in : ¬ (IsOutOfScope (reported_by Untyped (codes "y") ∷ []) (codes "y"))
y_in h = All-contains (λ (f : Fault). ¬ (f.kind ≡ Unbound)) (reported_by Untyped (codes "y") ∷ []) h.fault (only (λ (f : Fault). ¬ (f.kind ≡ Unbound)) (reported_by Untyped (codes "y")) not_unbound) h.among h.unbound

replaced_f : (f : Other) → f.name.now ≡ codes "f" → f.from ≡ 0 → f.to ≡ 5 → replaced (codes "f = Y }") 6 [] (f ∷ []) ≡ codes "       ; f = (let { h = h } in h)}"
replaced_f f name from to =
    let source : List ℕ = codes "f = Y }" in
    let text : List ℕ → ℕ → ℕ → List ℕ = λ n i j. with_definitions (take i source ++ (map blank (slice_range source i j) ++ drop j source)) 6 (n ∷ []) in
    ap (λ (n : List ℕ). text n f.from f.to) name ∙ (ap (λ (i : ℕ). text (codes "f") i f.to) from ∙ ap (λ (j : ℕ). text (codes "f") 0 j) to)

pub worked_replaced : ReplacedRow
worked_replaced = record { replaced = replaced_f; letter = refl; line_end = refl }

Y_at : (start end : Place) → ¬ (IsBefore (at_column 18) start) → IsBefore (at_column 18) end → HaveUnbound (reported_by Unbound (codes "Y") ∷ []) start end
Y_at start end after ahead = record { fault = reported_by Unbound (codes "Y"); among = (0, omega arith, refl); unbound = refl; after = after; ahead = ahead }

not_at_18 : HaveUnbound (reported_by Unbound (codes "Y") ∷ []) (at_column 17) (at_column 18) → ⊥
not_at_18 h =
    All-contains (λ (f : Fault). ¬ (IsBefore f.place (at_column 18))) (reported_by Unbound (codes "Y") ∷ []) h.fault (only (λ (f : Fault). ¬ (IsBefore f.place (at_column 18))) (reported_by Unbound (codes "Y")) not_itself) h.among h.ahead

not_of_types : HaveUnbound (reported_by Untyped (codes "Y") ∷ []) (at_column 18) (at_column 19) → ⊥
not_of_types h =
    All-contains (λ (f : Fault). ¬ (f.kind ≡ Unbound)) (reported_by Untyped (codes "Y") ∷ []) h.fault (only (λ (f : Fault). ¬ (f.kind ≡ Unbound)) (reported_by Untyped (codes "Y")) not_unbound) h.among h.unbound

abbrev with_f : List ℕ
with_f = codes "module M{x=1;f = Y}"

own_f : (f : Other) → f.name.now ≡ codes "f" → f.from ≡ 13 → f.to ≡ 18 → IsReplaced with_f (reported_by Unbound (codes "Y") ∷ []) f
own_f f name from to = record {
  ordered = subst (λ (i : ℕ). i ≤ f.to) (sym from) (subst (λ (j : ℕ). 13 ≤ j) (sym to) (omega arith));
  named = record {
    rest = codes " = Y";
    whole = ap (λ (i : ℕ). slice_range with_f i f.to) from ∙ (ap (λ (j : ℕ). slice_range with_f 13 j) to ∙ ap (λ (n : List ℕ). n ++ codes " = Y") (sym name));
  };
  unbound = subst (λ (i : ℕ). HaveUnbound (reported_by Unbound (codes "Y") ∷ []) (place_after (take i with_f)) (place_after (take f.to with_f))) (sym from)
      (subst (λ (j : ℕ). HaveUnbound (reported_by Unbound (codes "Y") ∷ []) (place_after (take 13 with_f)) (place_after (take j with_f))) (sym to)
      (Y_at (at_column 14) (at_column 19) after_14 (inr (refl, omega arith))));
}

another_g : (g : Other) → g.name.now ≡ codes "g" → g.from ≡ 13 → g.to ≡ 18 → ¬ (IsReplaced with_f (reported_by Unbound (codes "Y") ∷ []) g)
another_g g name from to h =
    let begins : codes "f = Y" ≡ codes "g" ++ h.named.rest
    = ap (λ (j : ℕ). slice_range with_f 13 j) (sym to) ∙ (ap (λ (i : ℕ). slice_range with_f i g.to) (sym from) ∙ (h.named.whole ∙ ap (λ (n : List ℕ). n ++ h.named.rest) name)) in
    let letters : 102 ≡ 103 = ap (λ (l : List ℕ). get_or l 0 0) begins in
    absurd (omega (arith, letters))

pub worked_held : HeldRow
worked_held = record {
  here = Y_at (at_column 18) (at_column 19) not_itself (inr (refl, omega arith));
  in_front = not_at_18;
  of_types = not_of_types;
  own = own_f;
  another = another_g;
}

pub worked_later : LaterRow
worked_later = record {
  types = (tt, inr (refl, omega arith));
  after = λ h. not_itself h.1;
  of_names = λ h. h.0;
  out = y_out;
  in_scope = y_in;
}

good_here : (source : List ℕ) (at : ℕ) → at ≤ length source → HasModules (with_definitions source at (codes "y" ∷ [])) (module_A ∷ [])
    → IsVerdictBeyond source (codes "A") [] (reported_by Unbound (codes "y") ∷ []) (Good interface_A)
good_here source at within h = record {
  at = at;
  within = within;
  names = codes "y" ∷ [];
  unbound = only (IsOutOfScope (reported_by Unbound (codes "y") ∷ [])) (codes "y") y_out;
  definitions = [];
  removed = none (IsReplaced source (reported_by Unbound (codes "y") ∷ []));
  «module» = module_A;
  spelled = record { modules = module_A ∷ []; read = h; among = (0, omega arith, refl); named = refl };
  of_imports = refl;
  right = good_A;
  later = tt;
}

again : (source name : List ℕ) (fs : List Interface) (faults : List Fault) → ¬ (IsVerdictBeyond source name fs faults (Faulty (reported_by Unbound (codes "y") ∷ [])))
again source name fs faults h = (h.later 0 (reported_by Unbound (codes "y")) (omega arith)).0

pub worked_beyond : BeyondRow
worked_beyond = record { good = good_here; again = again }
