-- The objects of declarations.
use Rattle.std.proofs.Common.{◌≡◌, ◌<◌, ◌==◌, ℕ, suc, get_or, List, [], ◌∷◌, length, map, ne_eqb, not, refl, sym, ap, arith}
use Rattle.hm_syntax.specs.Names.{Identifier}
use Rattle.hm_syntax.specs.Lists.{constructors, types}
use Rattle.hm_syntax.specs.Trees.{DataConstructor, TypeTree, data_constructor}
use Rattle.hm_names.proofs.Rows.{types_counted}
use Rattle.hm_names.proofs.Rows as rows
use Rattle.hm_syntax.specs.Sizes.{type_size, types_size}
use Rattle.hm_build_objects.specs.Objects.{arguments_data, constr_data, constrs_data}
use Rattle.hm_build_objects.specs.TypeTexts.{has_types}

pub arguments_counted : (n : Identifier) (ts : List TypeTree) → arguments_data n (length ts) ≡ constr_data (data_constructor n (types ts))
arguments_counted n ts = ap (arguments_data n) (sym (types_counted ts))

-- a type is smaller than its row
pub type_falls : (row : List TypeTree) (i : ℕ) (d : TypeTree) → i < length row → d ≡ get_or row i d → type_size d < types_size (types row)
type_falls = rows.type_falls

pub some_types : (ts : List TypeTree) → not (length ts == 0) ≡ has_types (types ts)
some_types [] = refl
some_types (t ∷ ts) = ap not (ne_eqb (length (t ∷ ts)) 0 (λ e. let none : suc (length ts) ≡ 0 = e in absurd (omega (arith, none))))

pub constrs_listed : (cs : List DataConstructor) → map constr_data cs ≡ constrs_data (constructors cs)
constrs_listed [] = refl
constrs_listed (c ∷ cs) = ap (λ ds. constr_data c ∷ ds) (constrs_listed cs)
