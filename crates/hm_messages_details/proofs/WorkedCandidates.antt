-- The worked candidates of an ambiguous name, and the local variables near to a name.
use Rattle.std.proofs.Common.{◌≡◌, ◌∷◌, ◌∙◌, [], ℕ, List, All, Some, ⊎_elim, ap, arith, refl, subst, sym}
use Rattle.std.proofs.lemmas.Bool.{false≢true}
use Rattle.std.proofs.lemmas.List.Elements.{All-cons, All-nil}
use Rattle.std.specs.Prelude.{Contains, codes}
use Rattle.hm_syntax.specs.Trees.{variable_expression}
use Rattle.hm_syntax.specs.declared.ast.Import.{Import}
use Rattle.hm_syntax.specs.declared.ast.Module.{Module}
use Rattle.hm_types.specs.Interfaces.{Exports as Interface}
use Rattle.hm_names.specs.Entities.{Exports}
use Rattle.hm_names.specs.Faults.Phases.{fault}
use Rattle.hm_names.specs.Scope.{every, prelude_name}
use Rattle.hm_names.specs.Walk.{at_expression}
use Rattle.hm_names.specs.declared.faults.Kind.TheVariants.{Unbound}
use Rattle.hm_names.specs.declared.namespace.Namespace.TheVariants.{Values}
use Rattle.hm_names.proofs.Members.{cases, none_in}
use Rattle.hm_messages_details.specs.Candidates.{IsImportLine, IsInLine, IsOther}
use Rattle.hm_messages_details.specs.NearLocals.{IsNearLocal, is_near_local}
use Rattle.hm_messages_details.specs.Worked.{CandidateRow, NearLocalRow, hidden_filter, import_on, list_use, of_prelude, one_import, preludes_filter}
use Rattle.hm_messages_details.proofs.Meant.{without_qualifier}
use Rattle.hm_messages_details.proofs.WorkedNames.{exported}

import_a : Import
import_a = import_on (codes "A") (codes "L") 1

import_p : Import
import_p = import_on prelude_name (codes "P") 1

first_letter : List ℕ → ℕ
first_letter [] = 0
first_letter (x ∷ xs) = x

other : IsOther import_a
unfolding import_a first_letter
other = record {
  name = λ e. let letters : 65 ≡ 80 = ap first_letter e in omega (arith, letters);
  known = λ e. let letters : 76 ≡ 80 = ap first_letter e in omega (arith, letters);
}

others : All IsOther one_import
unfolding import_a
others = All-cons IsOther import_a [] other (All-nil IsOther)

-- the one import is that of A
of_a : (i : Import) → Contains one_import i → i.name.text ≡ codes "A"
unfolding import_a
of_a i c = ⊎_elim (λ e. ap (λ (j : Import). j.name.text) e) (λ z. absurd (none_in i z)) (cases import_a [] i c)

the_line : (m : Module) (fs : List Interface) (f : Interface) → m.header.imports ≡ of_prelude → Contains fs f → f.name ≡ prelude_name → Exports f preludes_filter.name preludes_filter Values
    → IsImportLine m fs Values preludes_filter (codes "P") 1
unfolding import_p
the_line m fs f is among from exports = record {
  import = import_p;
  interface = f;
  written = subst (λ l. Contains l import_p) (sym is) (0, omega arith, refl);
  among = among;
  from = from;
  brings = every refl exports;
  known = refl;
  each = subst (All (IsInLine (codes "P") 1)) (sym is) (All-cons (IsInLine (codes "P") 1) import_p [] (λ e. refl) (All-nil (IsInLine (codes "P") 1)));
}

some_is : (q r : List ℕ) → Some q ≡ Some r → q ≡ r
some_is q r e = cc

line_is : (k l : ℕ) → Some k ≡ Some l → k ≡ l
line_is k l e = cc

no_word : ¬ (Contains (codes "word" ∷ []) (codes "list"))
unfolding first_letter
no_word c = ⊎_elim (λ e. let letters : 108 ≡ 119 = ap first_letter e in omega (arith, letters)) (λ o. none_in (codes "list") o) (cases (codes "word") [] (codes "list") c)

not_local : ¬ (IsNearLocal (fault Unbound list_use) (codes "list") (codes "word" ∷ []) (at_expression (variable_expression list_use)))
not_local (is_near_local at bare among near) = no_word among

pub worked_locals : NearLocalRow
worked_locals = record {
  inside = λ near. is_near_local (record { place_is = refl; name_is = refl }) refl (0, omega arith, refl) near;
  outside = λ h. not_local h;
}

pub worked_candidates : CandidateRow
unfolding import_a import_p
worked_candidates = record {
  implicit = λ m fs is none. without_qualifier m fs Values preludes_filter hidden_filter refl refl (λ _. record {
    defined = refl;
    others = subst (All IsOther) (sym is) others;
    alone = λ i f there among from brings.
        none f (among, from ∙ of_a i (subst (λ l. Contains l i) is there), exported f i Values preludes_filter.name preludes_filter brings);
  });
  brought = λ m fs f is of h.
      (h.implicit refl).alone import_a f (subst (λ l. Contains l import_a) (sym is) (0, omega arith, refl)) of.0 of.1 (every refl of.2);
  explicit = λ m fs is h.
      let each : All IsOther of_prelude = subst (All IsOther) is (h.implicit refl).others in
      (each 0 import_p (omega arith)).name refl;
  line = λ m fs f is among from exports means. record {
    entity_is = refl;
    means = λ n q has written text. means n (written ∙ sym has) text;
    line = λ q l has at.
        subst (λ x. IsImportLine m fs Values preludes_filter x l) (some_is (codes "P") q has)
        (subst (λ k. IsImportLine m fs Values preludes_filter (codes "P") k) (line_is 1 l at) (the_line m fs f is among from exports));
    implicit = λ e. absurd (false≢true e);
  };
  other_line = λ m fs is h.
      let at : IsImportLine m fs Values preludes_filter (codes "P") 2 = h.line (codes "P") 2 refl refl in
      let each : All (IsInLine (codes "P") 2) of_prelude = subst (All (IsInLine (codes "P") 2)) is at.each in
      let lines : 1 ≡ 2 = each 0 import_p (omega arith) refl in
      omega (arith, lines);
}
