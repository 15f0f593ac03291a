-- The worked names.
use Rattle.std.proofs.Common.{◌≡◌, ℕ, ◌∙◌, ◌∷◌, [], List, Option, Some, None, ⊎_elim, false, true, refl, sym, ap, arith}
use Rattle.std.proofs.lemmas.Bool.{false≢true}
use Rattle.std.specs.Prelude.{Contains, codes}
use Rattle.hm_names.specs.declared.faults.Kind.{Kind}
use Rattle.hm_names.specs.declared.faults.Kind.TheVariants.{Ambiguous, Arity, Unbound}
use Rattle.hm_names.proofs.Standing.{among_decides}
use Rattle.hm_lex.specs.declared.token.Place.{Place}
use Rattle.hm_syntax.specs.Names.{Identifier}
use Rattle.hm_syntax.specs.Trees.{constructor_pattern}
use Rattle.hm_syntax.specs.declared.ast.Module.{Module}
use Rattle.hm_types.specs.Interfaces.{Exports as Interface}
use Rattle.hm_names.specs.Faults.Phases.{fault}
use Rattle.hm_names.specs.Walk.{at_pattern}
use Rattle.hm_names.proofs.Members.{cases, none_in}
use Rattle.hm_messages_details.specs.Counts.{HasArguments, LaterClause, a_special, later_clauses, of_constructor}
use Rattle.hm_messages_details.specs.Firsts.{place_of}
use Rattle.hm_messages_details.specs.LeftOut.{left_out_variables}
use Rattle.hm_messages_details.specs.Worked.{ArgumentsRow, FirstRow, LeftOutRow, LengthsRow, name_on, one_pattern, three_clauses}

is_ambiguous : Kind → ℕ
is_ambiguous Ambiguous = 1
is_ambiguous Unbound = 0
is_ambiguous _ = 2

differ : Ambiguous ≡ Unbound → ⊥
unfolding is_ambiguous
differ e = let numbers : 1 ≡ 0 = ap is_ambiguous e in omega (arith, numbers)

pub worked_left_out : LeftOutRow
worked_left_out = record {
  missing = (71, omega arith, refl);
  there = λ h. let found : false ≡ true = (among_decides (codes "map") left_out_variables).1 h in false≢true found;
  a_type = (0, omega arith, refl);
  no_variable = λ h. let found : false ≡ true = (among_decides (codes "Double") left_out_variables).1 h in false≢true found;
  type_variable = λ h. h;
  ambiguous = λ m fs f kind known. differ (sym kind ∙ known.0);
}

line_of : Option Identifier → ℕ
line_of None = 0
line_of (Some n) = n.line

pub worked_firsts : FirstRow
unfolding line_of
worked_firsts = record {
  first = record {
    second = name_on (codes "f") 4;
    among = (3, omega arith, refl);
    at_second = record { place_is = refl; name_is = refl };
    first = name_on (codes "f") 1;
    is_first = refl;
    place_is = refl;
    apart = λ e. let lines : 1 ≡ 4 = ap (λ (p : Place). p.line) e in omega (arith, lines);
  };
  second = λ h.
      let first : 1 ≡ h.first.line = ap line_of h.is_first in
      let lines : 3 ≡ h.first.line = ap (λ (p : Place). p.line) h.place_is in
      omega (arith, first, lines);
  itself = λ p h.
      let first : Some (name_on (codes "f") 1) ≡ Some h.first = h.is_first in
      let same : name_on (codes "f") 1 ≡ h.first = cc in
      h.apart (h.place_is ∙ ap place_of (sym same));
}

pub worked_arguments : ArgumentsRow
worked_arguments = record {
  counted = λ m fs. of_constructor (record { place_is = refl; name_is = refl }) refl (a_special refl refl);
  other = λ m fs takes h. not_two m fs takes h;
}
  where
    not_two : (m : Module) (fs : List Interface) (takes : ℕ) → ¬ (HasArguments m fs (fault Arity (name_on (codes ":") 1)) 2 takes (at_pattern (constructor_pattern (name_on (codes ":") 1) one_pattern)))
    not_two m fs takes (of_constructor at here right) = let counts : 2 ≡ 1 = here in omega (arith, counts)

pub worked_lengths : LengthsRow
worked_lengths = record {
  counted = record {
    later = record { name = name_on (codes "f") 3; here = 1; first = 2 };
    among = (1, omega arith, refl);
    at_name = record { place_is = refl; name_is = refl };
    here_is = refl;
    first_is = refl;
  };
  other = λ here h. not_one h.later h.among h.first_is;
}
  where
    not_one : (l : LaterClause) → Contains (later_clauses None three_clauses) l → ¬ (1 ≡ l.first)
    not_one l c e = ⊎_elim
        (λ s. let lengths : l.first ≡ 2 = ap (λ (k : LaterClause). k.first) s in omega (arith, e, lengths))
        (λ o. ⊎_elim (λ s. let lengths : l.first ≡ 2 = ap (λ (k : LaterClause). k.first) s in omega (arith, e, lengths)) (λ z. none_in l z)
        (cases (record { name = name_on (codes "f") 3; here = 1; first = 2 }) [] l o))
        (cases (record { name = name_on (codes "f") 2; here = 1; first = 2 }) (record { name = name_on (codes "f") 3; here = 1; first = 2 } ∷ []) l c)
